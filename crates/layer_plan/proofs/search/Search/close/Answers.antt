use Rattle.std.proofs.Common.{◌≡◌, ◌∙◌, ◌<◌, ◌-◌, take, vec_len, length, get_or, set, subst, sym, ap, arith}
use Rattle.std.proofs.lemmas.List.{length-set, get_or-set_same, get_or-set_other}
use Rattle.layer_plan.specs.Search.{IsTrail}
use Rattle.layer_plan.specs.declared.search.Stage.TheVariants.{Untouched, Open, Placed}
use Rattle.layer_plan.proofs.KeptSteps.{Kept-closed, touched_set}
use Rattle.layer_plan.proofs.TrailSteps.{Trail-pop}
use Rattle.layer_plan.proofs.search.Search.close.Goals as goal

pub returns-clause-sound : goal.returns-clause-sound
returns-clause-sound c =
    let s = c.args.self.now in
    let st = s.stages.items in
    let x = c.args.item in
    let deps = c.args.deps.now in
    let sound = c.requires.sound in
    let last = c.requires.last in
    let x_in : x < length st = omega arith in
    let last_in : last.0 < length s.stack.items = omega (arith, last.1) in
    let is_open : get_or st x Untouched ≡ Open = subst (λ y. get_or st y Untouched ≡ Open) last.2 (sound.trail.open_each last.0 last_in) in
    let place : vec_len s.stack - 1 ≡ last.0 = omega (arith, last.1, s.stack.ok.0) in
    let items : c.pop.new.self.items ≡ take last.0 s.stack.items = c.pop.ensures.rest ∙ ap (λ n. take n s.stack.items) place in
    record {
      stages = length-set st x Placed ∙ sound.stages;
      layers = sound.layers;
      rest = sound.rest;
      kept = Kept-closed deps st (λ v. get_or s.layers.items v 0) (λ v. get_or s.rest.items v 0) x sound.kept x_in is_open c.requires.done;
      trail = subst (λ ys. IsTrail deps (λ v. get_or (set st x Placed) v Untouched) ys) (sym items) (Trail-pop deps (λ v. get_or st v Untouched) (λ v. get_or (set st x Placed) v Untouched) s.stack.items last.0 x sound.trail last.1 last.2 (get_or-set_same st x Placed Untouched x_in) (λ v n. get_or-set_other st x v Placed Untouched n));
    }

pub returns-clause-touched : goal.returns-clause-touched
returns-clause-touched c = let x_in : c.args.item < length c.args.self.now.stages.items = (let h = c.requires.sound.stages in omega arith) in touched_set c.args.self.now.stages.items c.args.item Placed x_in (λ e. cc)
