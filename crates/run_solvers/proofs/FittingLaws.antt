-- A node over places, no more than a `Vec` may hold, is refused exactly where it is deeper than a term may be.
use Rattle.std.proofs.Common.{◌≡◌, ℕ, suc, ◌<◌, ◌≤◌, Bool, true, false, List, [], ◌∷◌, ◌++◌, length, map, sym, ap, ◌∙◌, arith}
use Rattle.std.specs.Prelude.{max, nat_le}
use Rattle.std.proofs.lemmas.List.{take_all}
use Rattle.cbl_base.specs.declared.faults.Limit.TheVariants.{TermNodes}
use Rattle.cbl_base.specs.declared.faults.RunFault.TheVariants.{TooMany}
use Rattle.cbl_base.specs.declared.limits.TheConstants.{MAX_TERM_DEPTH}
use Rattle.cbl_base.specs.declared.place.Place.{Place}
use Rattle.cbl_operations.specs.declared.op.Op.{Op}
use Rattle.model_view.specs.Building.{node}
use Rattle.model_view.specs.Vectors.{most_items, vec_of}
use Rattle.term_model.specs.Depth.{depth_of, depth_step, greatest}
use Rattle.term_model.specs.declared.term.Term.{Term}
use Rattle.term_model.specs.declared.term.Term.TheOpen.{Term-F}
use Rattle.term_model.specs.declared.term.Term.TheFolds.{fold-roll-Term}
use Rattle.comet_meaning.specs.Outcome.{Went, Halted, Faulted, then_do, give, unless}
use Rattle.comet_meaning.specs.State.{State, left}
use Rattle.comet_meaning.specs.TermForms.{node_form}
use Rattle.model_view.proofs.PlainSubterms.{map_append}
use Rattle.run_solvers.proofs.BuiltLaws.{greatest_more}

module _ (op : Op) (places : List Term) (at : Place) (s : State) (few : length places ≤ most_items) where
  depth_there : depth_of (node op places at) ≡ suc (greatest (map depth_of places))
  depth_there = fold-roll-Term ℕ depth_step (Term-F.Node op (vec_of places) at) ∙ ap (λ (ts : List Term). suc (greatest (map depth_of ts))) (take_all most_items places few)

  form_by : (b : Bool) → nat_le (suc (greatest (map depth_of places))) MAX_TERM_DEPTH ≡ b → node_form at op places s ≡ then_do (unless b at (TooMany TermNodes) s) (λ u. give (node op places at))
  unfolding node_form
  form_by b e = ap (λ n. then_do (unless (nat_le n MAX_TERM_DEPTH) at (TooMany TermNodes) s) (λ u. give (node op places at))) depth_there ∙ ap (λ c. then_do (unless c at (TooMany TermNodes) s) (λ u. give (node op places at))) e

  pub too_deep : MAX_TERM_DEPTH ≤ greatest (map depth_of places) → node_form at op places s ≡ Halted (Faulted at (TooMany TermNodes)) (left s)
  too_deep le = form_by false (let n = greatest (map depth_of places) in grind (arith, le))

  pub fitting : greatest (map depth_of places) < MAX_TERM_DEPTH → node_form at op places s ≡ Went (node op places at) s
  fitting lt = form_by true (let n = greatest (map depth_of places) in grind (arith, lt))

-- the greatest of numbers, and one more
pub greatest_at : (ts : List Term) (t : Term) → greatest (map depth_of (ts ++ t ∷ [])) ≡ max (greatest (map depth_of ts)) (depth_of t)
greatest_at ts t = ap greatest (map_append depth_of ts (t ∷ [])) ∙ greatest_more (map depth_of ts) (depth_of t)
