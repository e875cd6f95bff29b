use Rattle.std.proofs.Common.{◌≡◌, ◌∙◌, ◌<◌, ◌++◌, ◌∷◌, [], length, get_or, set, subst, sym, arith}
use Rattle.std.proofs.lemmas.List.{length-set, get_or-set_same, get_or-set_other}
use Rattle.layer_plan.specs.Search.{IsTrail}
use Rattle.layer_plan.specs.declared.search.Stage.TheVariants.{Untouched, Open}
use Rattle.layer_plan.proofs.KeptSteps.{Kept-opened, touched_set}
use Rattle.layer_plan.proofs.TrailSteps.{Trail-push}
use Rattle.layer_plan.proofs.search.Search.open.Goals as goal

pub returns-clause-sound : goal.returns-clause-sound
returns-clause-sound c =
    let s = c.args.self.now in
    let st = s.stages.items in
    let x = c.args.item in
    let deps = c.args.deps.now in
    let sound = c.requires.sound in
    let x_in : x < length st = omega arith in
    let items : c.push.new.self.items ≡ s.stack.items ++ x ∷ [] = c.in_ok-push.ensures.items in
    record {
      stages = length-set st x Open ∙ sound.stages;
      layers = sound.layers;
      rest = sound.rest;
      kept = Kept-opened deps st (λ v. get_or s.layers.items v 0) (λ v. get_or s.rest.items v 0) x sound.kept x_in c.requires.untouched;
      trail = subst (λ ys. IsTrail deps (λ v. get_or (set st x Open) v Untouched) ys) (sym items) (Trail-push deps (λ v. get_or st v Untouched) (λ v. get_or (set st x Open) v Untouched) s.stack.items x sound.trail c.requires.item c.requires.untouched (get_or-set_same st x Open Untouched x_in) (λ v n. get_or-set_other st x v Open Untouched n) c.requires.leads);
    }

pub returns-clause-touched : goal.returns-clause-touched
returns-clause-touched c = let x_in : c.args.item < length c.args.self.now.stages.items = (let h = c.requires.sound.stages in omega arith) in touched_set c.args.self.now.stages.items c.args.item Open x_in (λ e. cc)
