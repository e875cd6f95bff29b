-- A term that defines a variable is of its kind, or stands for one that is.
use Rattle.std.proofs.Common.{◌≡◌, ℕ, ℤ, pos, Bool, true, false, ◌&&◌, List, [], Option, Some, None, length, refl, sym, ap, ◌∙◌, true≢false}
use Rattle.std.specs.Prelude.{if◌then◌else◌}
use Rattle.std.specs.Option.{option_map}
use Rattle.cbl_base.specs.Inputs.{InputKind, number_kind, set_kind}
use Rattle.cbl_base.specs.declared.faults.RunFault.{RunFault}
use Rattle.cbl_base.specs.declared.ids.VarId.{VarId}
use Rattle.cbl_base.specs.declared.place.Place.{Place}
use Rattle.ls_solver.specs.Asking.{own_kind}
use Rattle.ls_solver.specs.Defining.{early_refusal, is_own_definition}
use Rattle.ls_solver.specs.Ids.{has_definition, is_own, names_only}
use Rattle.ls_solver.specs.State as solvers
use Rattle.ls_solver.proofs.ListLaws.{slice_within}
use Rattle.ls_solver.proofs.ReadLaws.{given_within}
use Rattle.model_view.specs.Plain.{plain_term}
use Rattle.model_view.specs.Variables.{all_variables, pass_step}
use Rattle.model_view.proofs.PlainParts as plain
use Rattle.term_model.specs.Kinds.{kind_of_term, kind_of_var, kind_step, kinds_in}
use Rattle.term_model.specs.declared.model.VarDecl.{VarDecl}
use Rattle.term_model.specs.declared.term.Term.{Term}
use Rattle.term_model.specs.declared.term.Term.TheOpen.{Term-F}
use Rattle.term_model.specs.declared.term.Term.TheFolds.{fold-roll-Term}
use Rattle.comet_meaning.specs.Models.{nothing_of, same_kind, term_for}
use Rattle.comet_meaning.specs.Solvers.{SolverState, kind_in, kind_or_number}
use Rattle.run_solvers.specs.Changing.{defined_one}
use Rattle.run_solvers.specs.Refused.{sized_one}
use Rattle.run_solvers.specs.Views.{solver_seen}
use Rattle.run_solvers.proofs.DefineLaws.{defined_late, early_open}
use Rattle.run_solvers.proofs.SeenLaws.{kinds_seen, same_tests}

and_first : (a b : Bool) → (a && b) ≡ true → a ≡ true
and_first true b h = refl
and_first false b h = let c : false ≡ true = h in cc

-- what isn't refused early is of the solver's own
pub early_own : (S : solvers.SolverState) (x : VarId) (t : Term) → early_refusal S x t ≡ None → is_own S x ≡ true
early_own S x t e = and_first (is_own S x) (names_only (is_own S) t) (early_open S.closed (is_own_definition S x t) (has_definition S.model x.index) e).1

of_kind : (k : InputKind) (o : Option InputKind) → same_kind k o ≡ true → o ≡ Some k
of_kind number_kind (Some number_kind) h = refl
of_kind set_kind (Some set_kind) h = refl
of_kind number_kind (Some set_kind) h = absurd (true≢false (sym h))
of_kind set_kind (Some number_kind) h = absurd (true≢false (sym h))
of_kind number_kind None h = absurd (true≢false (sym h))
of_kind set_kind None h = absurd (true≢false (sym h))

-- what stands for a term of another kind
kind_of_nothing : (kinds : ℕ → Option InputKind) (k : InputKind) → kind_of_term kinds (nothing_of k) ≡ Some k
kind_of_nothing kinds number_kind = fold-roll-Term (Option InputKind) (kind_step kinds) (Term-F.Const (pos 0))
kind_of_nothing kinds set_kind = fold-roll-Term (Option InputKind) (kind_step kinds) (Term-F.ConstSet [])

passes_nothing : (p : VarId → Bool) (k : InputKind) → all_variables p (nothing_of k) ≡ true
passes_nothing p number_kind = fold-roll-Term Bool (pass_step p) (Term-F.Const (pos 0))
passes_nothing p set_kind = fold-roll-Term Bool (pass_step p) (Term-F.ConstSet [])

pub nothing_names : (S : solvers.SolverState) (t : Term) (k : InputKind) → plain_term t ≡ nothing_of k → names_only (is_own S) t ≡ true
nothing_names S t k e = sym (plain.same_passing (is_own S) t ∙ same_tests (is_own S) t) ∙ ap (λ (u : Term). all_variables (is_own S) u) e ∙ passes_nothing (is_own S) k

-- no refusal is told
pub none_told : (o : Option RunFault) → ((f : RunFault) → o ≡ Some f → ⊥) → o ≡ None
none_told None h = refl
none_told (Some f) h = absurd (h f refl)

module _ (S : solvers.SolverState) (names : List (List ℕ)) (waiting : Option (List (Option ℤ))) (x : VarId) where
  abbrev m : SolverState
  m = solver_seen S names waiting

  abbrev kinds : ℕ → Option InputKind
  kinds = kinds_in S.model.vars.items

  own_kinds : is_own S x ≡ true → own_kind S x ≡ kinds x.index
  own_kinds own = ap (λ b. if b then kinds x.index else None) own

  kind_there : kind_in m x.index ≡ kind_or_number (kinds x.index)
  kind_there = ap (λ (ks : ℕ → Option InputKind). kind_or_number (ks x.index)) (kinds_seen S names waiting)

  pub fitting_seen : (t : Term) → is_own S x ≡ true → same_kind (kind_or_number (own_kind S x)) (kind_of_term kinds t) ≡ same_kind (kind_in m x.index) (kind_of_term (kinds_in m.model.vars.items) t)
  fitting_seen t own =
      ap (λ o. same_kind (kind_or_number o) (kind_of_term kinds t)) (own_kinds own) ∙ ap (λ k. same_kind k (kind_of_term kinds t)) (sym kind_there)
      ∙ ap (λ (ks : ℕ → Option InputKind). same_kind (kind_in m x.index) (kind_of_term ks t)) (sym (kinds_seen S names waiting))

  known : is_own S x ≡ true → kinds x.index ≡ Some (kind_or_number (kinds x.index))
  known own =
      let found = slice_within S.model.vars.items x.index (given_within S.number (length S.model.vars.items) x own) in
      let kind : kinds x.index ≡ Some (kind_of_var found.0.kind) = ap (option_map (λ (d : VarDecl). kind_of_var d.kind)) found.1 in
      kind ∙ ap Some (sym (ap kind_or_number kind))

  -- a term that fits is of the variable's kind
  pub fits_kind : (t : Term) → is_own S x ≡ true → same_kind (kind_in m x.index) (kind_of_term (kinds_in m.model.vars.items) t) ≡ true → kind_of_term kinds t ≡ kinds x.index
  fits_kind t own fits = of_kind (kind_or_number (own_kind S x)) (kind_of_term kinds t) (fitting_seen t own ∙ fits) ∙ ap (λ o. Some (kind_or_number o)) (own_kinds own) ∙ sym (known own)

  for_by : (t : Term) (b : Bool) → same_kind (kind_in m x.index) (kind_of_term (kinds_in m.model.vars.items) t) ≡ b → term_for m x.index (plain_term t) ≡ (if b then plain_term t else nothing_of (kind_in m x.index))
  for_by t b e = ap (λ c. if c then plain_term t else nothing_of (kind_in m x.index)) (ap (same_kind (kind_in m x.index)) (plain.same_kind (kinds_in m.model.vars.items) t) ∙ e)

  pub defined_fitting : (at : Place) (t : Term) → x.solver ≡ S.number → early_refusal S x t ≡ None → same_kind (kind_in m x.index) (kind_of_term (kinds_in m.model.vars.items) t) ≡ true → defined_one at x (plain_term t) m ≡ sized_one at x (plain_term t) m
  defined_fitting at t own e fits = defined_late S names waiting at x t own e ∙ ap (λ (u : Term). sized_one at x u m) (for_by t true fits)

  pub defined_nothing : (at : Place) (t : Term) → x.solver ≡ S.number → early_refusal S x t ≡ None → same_kind (kind_in m x.index) (kind_of_term (kinds_in m.model.vars.items) t) ≡ false → defined_one at x (plain_term t) m ≡ sized_one at x (nothing_of (kind_in m x.index)) m
  defined_nothing at t own e fits = defined_late S names waiting at x t own e ∙ ap (λ (u : Term). sized_one at x u m) (for_by t false fits)

  -- what stands for a term of another kind, by the kind that the solver tells
  pub nothing_seen : is_own S x ≡ true → nothing_of (kind_or_number (own_kind S x)) ≡ nothing_of (kind_in m x.index)
  nothing_seen own = ap (λ o. nothing_of (kind_or_number o)) (own_kinds own) ∙ ap nothing_of (sym kind_there)

  -- and a term that stands for one is of the variable's kind
  pub nothing_kind : (t : Term) (o : Option InputKind) → is_own S x ≡ true → o ≡ own_kind S x → plain_term t ≡ nothing_of (kind_or_number o) → kind_of_term kinds t ≡ kinds x.index
  nothing_kind t o own e told =
      sym (plain.same_kind kinds t) ∙ ap (λ (u : Term). kind_of_term kinds u) told ∙ kind_of_nothing kinds (kind_or_number o)
      ∙ ap (λ p. Some (kind_or_number p)) (e ∙ own_kinds own) ∙ sym (known own)
