use Rattle.std.proofs.Common.{◌≡◌, ◌∙◌, ◌<◌, ◌+◌, length, get_or, set, max, subst, ap, arith}
use Rattle.std.proofs.lemmas.List.{length-set, get_or-set_same, get_or-set_other, get_or_read}
use Rattle.layer_plan.specs.Dependencies.{list_of, DependsOn}
use Rattle.layer_plan.specs.declared.search.Stage.TheVariants.{Untouched}
use Rattle.layer_plan.proofs.Lists.{depends_at}
use Rattle.layer_plan.proofs.KeptSteps.{Kept-pass}
use Rattle.layer_plan.proofs.search.Search.pass.Goals as goal

pub returns-clause-sound : goal.returns-clause-sound
returns-clause-sound c =
    let s = c.args.self.now in
    let ls = s.layers.items in
    let rs = s.rest.items in
    let x = c.args.item in
    let p = c.args.place in
    let w = c.args.next in
    let deps = c.args.deps.now in
    let sound = c.requires.sound in
    let x_ls : x < length ls = omega arith in
    let x_rs : x < length rs = omega arith in
    let p_in : p < length (list_of deps x) = (let h = sound.kept.within x c.requires.item in let e = c.requires.place in omega arith) in
    let dep : DependsOn deps x w = subst (λ y. DependsOn deps x y) c.requires.next (depends_at deps x p p_in) in
    let top : c.max.result ≡ max (get_or ls x 0) (get_or ls w 0 + 1) =
    (let w_ls : w < length ls = (let e = sound.layers in let h = c.requires.next_in in omega arith) in
    let e1 = get_or_read ls x _ x_ls c.index-2.ensures 0 in
    let e2 = get_or_read ls w _ w_ls c.index.ensures 0 in
    c.max.ensures ∙ ap (λ n. max n (c.index.result.now + 1)) e1 ∙ ap (λ n. max (get_or ls x 0) (n + 1)) e2) in
    record {
      stages = sound.stages;
      layers = length-set ls x c.max.result ∙ sound.layers;
      rest = length-set rs x p ∙ sound.rest;
      kept = Kept-pass deps (λ v. get_or s.stages.items v Untouched) (λ v. get_or ls v 0) (λ v. get_or (set ls x c.max.result) v 0) (λ v. get_or rs v 0) (λ v. get_or (set rs x p) v 0) _ x p w sound.kept c.requires.item c.requires.opened c.requires.place c.requires.next c.requires.next_in dep c.requires.placed (get_or-set_same ls x c.max.result 0 x_ls ∙ top) (get_or-set_same rs x p 0 x_rs) (λ v n. get_or-set_other ls x v c.max.result 0 n) (λ v n. get_or-set_other rs x v p 0 n);
      trail = sound.trail;
    }
