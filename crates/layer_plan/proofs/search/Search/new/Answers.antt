use Rattle.std.proofs.Common.{◌≡◌, ◌∙◌, ◌<◌, ℕ, length, get_or, replicate, subst, sym, ap}
use Rattle.std.proofs.lemmas.List.{length-replicate, get_or-replicate}
use Rattle.layer_plan.specs.Search.{IsTrail}
use Rattle.layer_plan.specs.declared.search.Stage.TheVariants.{Untouched}
use Rattle.layer_plan.proofs.KeptSteps.{Kept-start}
use Rattle.layer_plan.proofs.TrailSteps.{Trail-start}
use Rattle.std.proofs.lemmas.Result.{err_from_is_err_and}
use Rattle.layer_plan.proofs.search.Search.new.Goals as goal

pub returns-in_err-vec-clause-sound : goal.returns-in_err-vec-clause-sound
returns-in_err-vec-clause-sound c = rw (err_from_is_err_and c.from_residual.result c.from_residual.ensures.1).1 tt

pub returns-in_err-vec-clause-empty : goal.returns-in_err-vec-clause-empty
returns-in_err-vec-clause-empty c = rw (err_from_is_err_and c.from_residual.result c.from_residual.ensures.1).1 tt

pub returns-in_err-vec-2-clause-sound : goal.returns-in_err-vec-2-clause-sound
returns-in_err-vec-2-clause-sound c = rw (err_from_is_err_and c.from_residual-in_err-vec-2.result c.from_residual-in_err-vec-2.ensures.1).1 tt

pub returns-in_err-vec-2-clause-empty : goal.returns-in_err-vec-2-clause-empty
returns-in_err-vec-2-clause-empty c = rw (err_from_is_err_and c.from_residual-in_err-vec-2.result c.from_residual-in_err-vec-2.ensures.1).1 tt

pub returns-in_err-lengths-clause-sound : goal.returns-in_err-lengths-clause-sound
returns-in_err-lengths-clause-sound c = rw (err_from_is_err_and c.from_residual-in_err-lengths.result c.from_residual-in_err-lengths.ensures.1).1 tt

pub returns-in_err-lengths-clause-empty : goal.returns-in_err-lengths-clause-empty
returns-in_err-lengths-clause-empty c = rw (err_from_is_err_and c.from_residual-in_err-lengths.result c.from_residual-in_err-lengths.ensures.1).1 tt

pub returns-clause-sound : goal.returns-clause-sound
returns-clause-sound c =
    let deps = c.args.deps.now in
    let n = length deps in
    let st = c.in_ok-vec.field-0.items in
    let ls = c.in_ok-vec-2.field-0.items in
    let rs = c.in_ok-lengths.field-0.items in
    let stages : st ≡ replicate n Untouched = c.in_ok-vec.ensures.items_if_clones_equal (λ y h. h) in
    let layers : ls ≡ replicate n 0 = c.in_ok-vec-2.ensures.items_if_clones_equal (λ y h. h) in
    let size : length st ≡ n = ap length stages ∙ length-replicate n Untouched in
    let fresh : (v : ℕ) → v < n → get_or st v Untouched ≡ Untouched = λ v lt. ap (λ ys. get_or ys v Untouched) stages ∙ get_or-replicate n v Untouched Untouched lt in
    let low : (v : ℕ) → v < n → get_or ls v 0 ≡ 0 = λ v lt. ap (λ ys. get_or ys v 0) layers ∙ get_or-replicate n v 0 0 lt in
    record {
      stages = size;
      layers = ap length layers ∙ length-replicate n 0;
      rest = c.in_ok-lengths.ensures.count;
      kept = Kept-start deps st (λ v. get_or ls v 0) (λ v. get_or rs v 0) size fresh low c.in_ok-lengths.ensures.each;
      trail = subst (λ ys. IsTrail deps (λ v. get_or st v Untouched) ys) (sym c.new.ensures.items) (Trail-start deps (λ v. get_or st v Untouched) fresh);
    }
