-- What a solver keeps once a variable got a definition.
use Rattle.std.proofs.Common.{◌≡◌, ℕ, ℤ, Bool, true, false, ◌&&◌, List, [], Option, Some, None, length, refl, subst, set, true≢false}
use Rattle.std.specs.Prelude.{not, nat_le, if◌then◌else◌}
use Rattle.cbl_base.specs.declared.faults.RunFault.TheVariants.{AlreadyClosed, DefinedVariable, WrongSolver}
use Rattle.cbl_base.specs.declared.ids.VarId.{VarId}
use Rattle.cbl_base.specs.declared.limits.TheConstants.{MAX_TERM_DEPTH}
use Rattle.solver_models.specs.Defining.{GetsDefinition, distinct_with, early_refusal, is_own_definition, is_too_deep}
use Rattle.solver_models.specs.Ids.{has_definition, is_own, names_only}
use Rattle.solver_models.specs.Kept.{IsKept}
use Rattle.solver_models.specs.State.{IsSameModel, SolverState}
use Rattle.solver_models.proofs.KeptLaws.{kept_definition, kept_same}
use Rattle.solver_models.proofs.ReadLaws.{given_within}
use Rattle.solver_models.proofs.TermLaws.{le_from}
use Rattle.term_count.specs.Counting.{Counts}
use Rattle.term_count.specs.declared.subterms.Subterms.{Subterms}
use Rattle.term_model.specs.Depth.{depth_of}
use Rattle.term_model.specs.Kinds.{kind_of_term, kinds_in}
use Rattle.term_model.specs.Naming.{users_of}
use Rattle.term_model.specs.Subterms.{distinct_subterms}
use Rattle.term_model.specs.Wellformed.{IsDefinition}
use Rattle.term_model.specs.declared.model.Definition.{Definition}
use Rattle.term_model.specs.declared.model.Model.{Model}
use Rattle.term_model.specs.declared.term.Term.{Term}
use Rattle.posted_users.specs.KeptRule.{KeptRule}

pub early_parts : (s : SolverState) (x : VarId) (t : Term) → early_refusal s x t ≡ None → (s.closed ≡ false) × (is_own_definition s x t ≡ true) × (has_definition s.model x.index ≡ false)
early_parts s x t e = by s.closed (is_own_definition s x t) (has_definition s.model x.index) e
  where
    by : (closed own defined : Bool) → (if closed then Some AlreadyClosed else (if not own then Some WrongSolver else (if defined then Some DefinedVariable else None))) ≡ None → (closed ≡ false) × (own ≡ true) × (defined ≡ false)
    by true own defined h = let c : Some AlreadyClosed ≡ None = h in cc
    by false false defined h = let c : Some WrongSolver ≡ None = h in cc
    by false true true h = let c : Some DefinedVariable ≡ None = h in cc
    by false true false h = (refl, refl, refl)

first_true : (a b : Bool) → (a && b) ≡ true → a ≡ true
first_true true b h = refl
first_true false b h = h

shallow_enough : (b : Bool) → not b ≡ false → b ≡ true
shallow_enough true h = refl
shallow_enough false h = absurd (true≢false h)

module _ (number : ℕ) (M N : Model) (a : List ℤ) (marks marked : List Bool) (rules : List KeptRule) (counted : Option Subterms) (after : Subterms) (closed usable : Bool) (def : Definition) (kept : IsKept M a marks rules counted closed usable) where
  abbrev state : SolverState
  state = record { number = number; model = M; assignment = a; rules = rules; closed = closed; usable = usable }

  gets_kept : GetsDefinition M N def → marked ≡ set marks def.var.index true → early_refusal state def.var def.term ≡ None → is_too_deep def.term ≡ false →
      kind_of_term (kinds_in M.vars.items) def.term ≡ kinds_in M.vars.items def.var.index → users_of def.term ≡ [] → Counts after (distinct_with (distinct_subterms M) def.term) → IsKept N a marked rules (Some after) closed usable
  gets_kept gets next early shallow kind none counts =
      let parts = early_parts state def.var def.term early in
      let own = first_true (is_own state def.var) (names_only (is_own state) def.term) parts.1 in
      let is : IsDefinition M def = record {
        var = given_within number (length M.vars.items) def.var own;
        kind = kind;
        depth = le_from (depth_of def.term) MAX_TERM_DEPTH (shallow_enough (nat_le (depth_of def.term) MAX_TERM_DEPTH) shallow);
      } in
      kept_definition M N def a marks marked rules counted after closed usable gets next parts.0 parts.2 is none counts kept

  same_kept : IsSameModel M N → early_refusal state def.var def.term ≡ None → IsKept N a marks rules counted closed usable
  same_kept same early = kept_same M N a a marks marks rules counted closed usable same refl refl (early_parts state def.var def.term early).0 kept

  module _ (s : SolverState) (view : state ≡ s) where
    pub definition_there : GetsDefinition M N def → marked ≡ set marks def.var.index true → early_refusal s def.var def.term ≡ None → is_too_deep def.term ≡ false →
        kind_of_term (kinds_in s.model.vars.items) def.term ≡ kinds_in s.model.vars.items def.var.index → users_of def.term ≡ [] → Counts after (distinct_with (distinct_subterms s.model) def.term) → IsKept N a marked rules (Some after) closed usable
    definition_there gets next = subst (λ (t : SolverState). early_refusal t def.var def.term ≡ None → is_too_deep def.term ≡ false → kind_of_term (kinds_in t.model.vars.items) def.term ≡ kinds_in t.model.vars.items def.var.index → users_of def.term ≡ [] →
        Counts after (distinct_with (distinct_subterms t.model) def.term) → IsKept N a marked rules (Some after) closed usable) view (gets_kept gets next)

    pub unchanged_there : IsSameModel M N → early_refusal s def.var def.term ≡ None → IsKept N a marks rules counted closed usable
    unchanged_there same = subst (λ (t : SolverState). early_refusal t def.var def.term ≡ None → IsKept N a marks rules counted closed usable) view (same_kept same)
