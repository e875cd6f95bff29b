-- One of several systems or objectives that got a member, and the model with it.
use Rattle.std.proofs.Common.{◌≡◌, ℕ, zero, suc, ◌<◌, Bool, false, List, [], ◌∷◌, ◌++◌, Some, Result, Ok, Err, is_err, length, refl, sym, ap, ◌∙◌, arith, true≢false, slice_get, slice_index_or, slice_set}
use Rattle.std.specs.Prelude.{OnOk, unwrap_or}
use Rattle.std.specs.Option.{option_map}
use Rattle.cbl_base.specs.declared.faults.NoMemory.{NoMemory}
use Rattle.solver_models.specs.Adding.{GetsMember, Grows, posted_at}
use Rattle.solver_models.specs.Totals.{other_side}
use Rattle.term_model.specs.Posting.{totals_by}
use Rattle.term_model.specs.declared.model.Member.{Member}
use Rattle.term_model.specs.declared.model.Model.{Model}
use Rattle.term_model.specs.declared.model.Total.{Total}
use Rattle.term_model.specs.declared.posting.Side.{Side}

there : (ts : List Total) (k : ℕ) (old : Total) → k < length ts → old ≡ slice_index_or ts k old → slice_get ts k ≡ Some old
there [] k old lt e = absurd (omega arith)
there (t ∷ ts) zero old lt e = ap (λ (u : Total). Some u) (sym e)
there (t ∷ ts) (suc k) old lt e = there ts k old (omega arith) e

pub grows_from : (result : Result (Unit {0}) NoMemory) (ts : List Total) (k : ℕ) (old new : Total) (member : Member) → k < length ts → old ≡ slice_index_or ts k old → OnOk result (new.place ≡ old.place) → OnOk result (new.members.items ≡ old.members.items ++ member ∷ []) →
    OnOk result (Grows ts (slice_set ts k new) k member)
grows_from (Ok done) ts k old new member lt e place members = record { old = old; new = new; stood = there ts k old lt e; same = place; members = members; all = refl }
grows_from (Err stop) ts k old new member lt e place members = tt

-- the number of the member that was posted is that of the members before
pub counted_before : (before : List Total) (k n : ℕ) (old : Total) → slice_get before k ≡ Some old → option_map (λ (total : Total). length total.members.items) (slice_get before k) ≡ Some n → n ≡ length old.members.items
counted_before before k n old stood is = some_same n (length old.members.items) (sym is ∙ ap (λ o. option_map (λ (total : Total). length total.members.items) o) stood)
  where
    some_same : (x y : ℕ) → Some x ≡ Some y → x ≡ y
    some_same x y e = ap (λ o. unwrap_or o x) e

pub gets_member : (result : Result (Unit {0}) NoMemory) (failed : Bool) (M N : Model) (side : Side) (k n : ℕ) (member : Member) (lent : List Total) → failed ≡ is_err result → failed ≡ false → OnOk result (Grows (totals_by M side) (totals_by N side) k member) →
    lent ≡ totals_by M side → option_map (λ (total : Total). length total.members.items) (slice_get lent k) ≡ Some n → N.vars.items ≡ M.vars.items → N.defs.items ≡ M.defs.items → totals_by N (other_side side) ≡ totals_by M (other_side side) →
    N.posted.items ≡ M.posted.items ++ posted_at side k n ∷ [] → GetsMember M N side k member
gets_member (Ok done) failed M N side k n member lent e ok grown same is vars defs others posted = record {
  vars = vars;
  defs = defs;
  totals = grown;
  others = others;
  posted = posted ∙ ap (λ m. M.posted.items ++ posted_at side k m ∷ []) (counted_before (totals_by M side) k n grown.old grown.stood (ap (λ ts. option_map (λ (total : Total). length total.members.items) (slice_get ts k)) (sym same) ∙ is));
}
gets_member (Err stop) failed M N side k n member lent e ok grown same is vars defs others posted = absurd (true≢false (sym e ∙ ok))
