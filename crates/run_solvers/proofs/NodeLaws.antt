-- An operation of terms in a row, as the meaning of programs makes it.
use Rattle.std.proofs.Common.{◌≡◌, ℕ, suc, ◌<◌, ◌≤◌, Bool, true, false, Vec, Global, List, sym, ap, ◌∙◌, arith}
use Rattle.std.specs.Prelude.{nat_le}
use Rattle.cbl_base.specs.declared.faults.Limit.TheVariants.{TermNodes}
use Rattle.cbl_base.specs.declared.faults.RunFault.TheVariants.{TooMany}
use Rattle.cbl_base.specs.declared.limits.TheConstants.{MAX_TERM_DEPTH}
use Rattle.cbl_base.specs.declared.place.Place.{Place}
use Rattle.cbl_operations.specs.declared.op.Op.{Op}
use Rattle.model_view.specs.Building.{node}
use Rattle.model_view.specs.Plain.{plain_term}
use Rattle.model_view.proofs.PlainParts.{same_depth}
use Rattle.term_model.specs.Depth.{depth_of}
use Rattle.term_model.specs.declared.term.Term.{Term}
use Rattle.term_model.specs.declared.term.Term.TheVariants.{Node}
use Rattle.comet_meaning.specs.Outcome.{Went, Halted, Faulted, then_do, give, unless}
use Rattle.comet_meaning.specs.State.{State, left}
use Rattle.comet_meaning.specs.TermForms.{node_form}
use Rattle.run_solvers.specs.Building.{AreBuilt}
use Rattle.run_solvers.proofs.BuiltLaws.{node_depth, node_seen}

le_true : (a b : ℕ) → a ≤ b → nat_le a b ≡ true
le_true a b h = grind (arith, h)

le_false : (a b : ℕ) → b < a → nat_le a b ≡ false
le_false a b h = grind (arith, h)

module _ (op : Op) (args : Vec Term Global) (at : Place) (deepest : ℕ) (plain : List Term) (are : AreBuilt args.items deepest plain) (s : State) where
  depth_there : depth_of (node op plain at) ≡ suc deepest
  depth_there = ap depth_of (sym (node_seen op args at deepest plain are)) ∙ same_depth (Node op args at) ∙ node_depth op args at deepest plain are

  form_by : (b : Bool) → nat_le (suc deepest) MAX_TERM_DEPTH ≡ b → node_form at op plain s ≡ then_do (unless b at (TooMany TermNodes) s) (λ u. give (node op plain at))
  unfolding node_form
  form_by b e = ap (λ n. then_do (unless (nat_le n MAX_TERM_DEPTH) at (TooMany TermNodes) s) (λ u. give (node op plain at))) depth_there ∙ ap (λ c. then_do (unless c at (TooMany TermNodes) s) (λ u. give (node op plain at))) e

  pub node_deep : MAX_TERM_DEPTH ≤ deepest → node_form at op plain s ≡ Halted (Faulted at (TooMany TermNodes)) (left s)
  node_deep le = form_by false (le_false (suc deepest) MAX_TERM_DEPTH (omega (arith, le)))

  pub node_made : deepest < MAX_TERM_DEPTH → node_form at op plain s ≡ Went (plain_term (Node op args at)) s
  node_made lt = form_by true (le_true (suc deepest) MAX_TERM_DEPTH (omega (arith, lt))) ∙ ap (λ (t : Term). Went t s) (sym (node_seen op args at deepest plain are))
