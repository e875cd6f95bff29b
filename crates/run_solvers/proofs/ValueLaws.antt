-- What is read of a solver's variable is what the meaning of programs reads.
use Rattle.std.proofs.Common.{◌≡◌, ℕ, ◌<◌, ℤ, Bool, true, false, ◌&&◌, ◌||◌, List, Option, Some, None, length, refl, sym, ap, ◌∙◌, true≢false, nat_eq, arith, slice_get}
use Rattle.std.specs.Prelude.{not, nat_lt, if◌then◌else◌}
use Rattle.std.specs.Option.{option_map}
use Rattle.cbl_base.specs.Inputs.{InputKind, is_number_kind, number_kind, set_kind}
use Rattle.cbl_base.specs.declared.faults.RunFault.{RunFault}
use Rattle.cbl_base.specs.declared.faults.RunFault.TheVariants.{NotClosed, WrongSolver}
use Rattle.cbl_base.specs.declared.ids.VarId.{VarId}
use Rattle.cbl_base.specs.declared.input.Input.{Input}
use Rattle.cbl_base.specs.declared.input.Input.TheVariants as inputs
use Rattle.cbl_base.specs.declared.place.Place.{Place}
use Rattle.ls_solver.specs.Asking.{own_kind}
use Rattle.ls_solver.specs.Ids.{has_definition, is_own}
use Rattle.ls_solver.specs.Reading.{domain_refusal, fresh_value, set_refusal, value_refusal}
use Rattle.ls_solver.specs.State as solvers
use Rattle.ls_solver.proofs.ListLaws.{slice_within}
use Rattle.ls_solver.proofs.ReadLaws.{readable, set_readable}
use Rattle.term_model.specs.Kinds.{kind_of_var, kinds_in}
use Rattle.term_model.specs.declared.model.VarDecl.{VarDecl}
use Rattle.model_view.proofs.PlainModels.{plain_vars}
use Rattle.comet_meaning.specs.Models.{domain_at, domain_in}
use Rattle.comet_meaning.specs.Values as values
use Rattle.comet_meaning.specs.Outcome.{Went, Halted, Faulted, fault, give, then_do, unless}
use Rattle.comet_meaning.specs.Parts.{needs_close, value_of, value_now, variable_value}
use Rattle.comet_meaning.specs.Solvers.{SolverState, has_variable, is_defined, kind_in, kind_or_number}
use Rattle.comet_meaning.specs.State.{State, left}
use Rattle.run_solvers.specs.Views.{solver_seen}
use Rattle.run_solvers.proofs.SeenLaws.{count_seen, defined_seen, kinds_seen, now_seen, owns_seen}

and_second : (a b : Bool) → (a && b) ≡ true → b ≡ true
and_second true b h = h
and_second false b h = let c : false ≡ true = h in cc

-- a variable with a kind is the solver's own
pub kind_own : (S : solvers.SolverState) (x : VarId) (k : InputKind) → own_kind S x ≡ Some k → (is_own S x ≡ true) × (kinds_in S.model.vars.items x.index ≡ Some k)
kind_own S x k e = by (is_own S x) e
  where
    by : (b : Bool) → (if b then kinds_in S.model.vars.items x.index else None) ≡ Some k → (b ≡ true) × (kinds_in S.model.vars.items x.index ≡ Some k)
    by true h = (refl, h)
    by false h = let c : None ≡ Some k = h in cc

module _ (S : solvers.SolverState) (names : List (List ℕ)) (waiting : Option (List (Option ℤ))) (at : Place) (x : VarId) (s : State) where
  abbrev m : SolverState
  m = solver_seen S names waiting

  value_by : (b c : Bool) → has_variable m x.index ≡ b → needs_close m x.index ≡ c → variable_value at x.index m s ≡ (if b then (if c then fault at NotClosed else give (value_now m x.index)) else fault at WrongSolver) s
  unfolding variable_value
  value_by b c e f =
      ap (λ t. (if t then (if needs_close m x.index then fault at NotClosed else give (value_now m x.index)) else fault at WrongSolver) s) e
      ∙ ap (λ t. (if b then (if t then fault at NotClosed else give (value_now m x.index)) else fault at WrongSolver) s) f

  there : is_own S x ≡ true → has_variable m x.index ≡ true
  there own = ap (nat_lt x.index) (count_seen S names waiting) ∙ and_second (nat_eq x.solver S.number) (nat_lt x.index (length S.model.vars.items)) own

  kind_seen : (k : InputKind) → kinds_in S.model.vars.items x.index ≡ Some k → kind_in m x.index ≡ k
  kind_seen k e = ap (λ (kinds : ℕ → Option InputKind). kind_or_number (kinds x.index)) (kinds_seen S names waiting) ∙ ap kind_or_number e

  needs_by : (closed defined : Bool) (k : InputKind) → S.closed ≡ closed → has_definition S.model x.index ≡ defined → kinds_in S.model.vars.items x.index ≡ Some k → needs_close m x.index ≡ (not closed && (defined || not (is_number_kind k)))
  needs_by closed defined k e f g =
      ap (λ b. not b && (is_defined m x.index || not (is_number_kind (kind_in m x.index)))) e
      ∙ ap (λ b. not closed && (b || not (is_number_kind (kind_in m x.index)))) (defined_seen S names waiting x.index ∙ f)
      ∙ ap (λ k. not closed && (defined || not (is_number_kind k))) (kind_seen k g)

  given : (v : values.Value) (o : Option Input) → fresh_value S x.index ≡ o → value_of o ≡ v → value_now m x.index ≡ v
  given v o e f = now_seen S names waiting x.index ∙ ap value_of e ∙ f

  -- no variable
  pub nothing_there : x.solver ≡ S.number → own_kind S x ≡ None → variable_value at x.index m s ≡ Halted (Faulted at WrongSolver) (left s)
  nothing_there own none = value_by false (needs_close m x.index) (ap (nat_lt x.index) (count_seen S names waiting) ∙ missing (nat_lt x.index (length S.model.vars.items)) refl) refl
    where
      eq_itself : nat_eq x.solver S.number ≡ true
      eq_itself = grind (arith, own)

      missing : (b : Bool) → nat_lt x.index (length S.model.vars.items) ≡ b → nat_lt x.index (length S.model.vars.items) ≡ false
      missing false e = e
      missing true e =
          let lt : x.index < length S.model.vars.items = grind (arith, e) in
          let found = slice_within S.model.vars.items x.index lt in
          let kind : kinds_in S.model.vars.items x.index ≡ Some (kind_of_var found.0.kind) = ap (option_map (λ (d : VarDecl). kind_of_var d.kind)) found.1 in
          let own_true : is_own S x ≡ true = ap (λ b. b && nat_lt x.index (length S.model.vars.items)) eq_itself ∙ e in
          let c : Some (kind_of_var found.0.kind) ≡ None = sym kind ∙ sym (ap (λ b. if b then kinds_in S.model.vars.items x.index else None) own_true) ∙ none in
          cc

  -- a number
  pub number_there : own_kind S x ≡ Some number_kind → value_refusal S x ≡ None → (z : ℤ) → fresh_value S x.index ≡ Some (inputs.Int z) → variable_value at x.index m s ≡ Went (values.Number z) s
  number_there kind none z fresh =
      let own = kind_own S x number_kind kind in
      let free = (readable S x none).1 in
      value_by true false (there own.0) (needs_by S.closed (has_definition S.model x.index) number_kind refl refl own.1 ∙ no_need S.closed (has_definition S.model x.index) free)
      ∙ ap (λ (v : values.Value). Went v s) (given (values.Number z) (Some (inputs.Int z)) fresh refl)
    where
      no_need : (closed defined : Bool) → (closed ≡ false → defined ≡ false) → (not closed && (defined || not true)) ≡ false
      no_need true defined h = refl
      no_need false true h = absurd (true≢false (h refl))
      no_need false false h = refl

  pub number_unread : own_kind S x ≡ Some number_kind → (f : RunFault) → value_refusal S x ≡ Some f → variable_value at x.index m s ≡ Halted (Faulted at f) (left s)
  number_unread kind f some =
      let own = kind_own S x number_kind kind in
      let parts = why S.closed (is_own S x) (has_definition S.model x.index) own.0 some in
      value_by true true (there own.0) (needs_by false true number_kind parts.0 parts.1 own.1) ∙ ap (λ (g : RunFault). Halted (Faulted at g) (left s)) parts.2
    where
      why : (closed own defined : Bool) → own ≡ true → (if not closed && (own && defined) then Some NotClosed else (if not own then Some WrongSolver else None)) ≡ Some f → (closed ≡ false) × (defined ≡ true) × (NotClosed ≡ f)
      why true true d e h = let c : None ≡ Some f = h in cc
      why true false d e h = absurd (true≢false (sym e))
      why false true true e h = (refl, refl, cc)
      why false true false e h = let c : None ≡ Some f = h in cc
      why false false d e h = absurd (true≢false (sym e))

  -- a set
  pub set_there : own_kind S x ≡ Some set_kind → set_refusal S x ≡ None → (xs : List ℤ) → fresh_value S x.index ≡ Some (inputs.Set xs) → variable_value at x.index m s ≡ Went (values.Set xs) s
  set_there kind none xs fresh =
      let own = kind_own S x set_kind kind in
      let shut = (set_readable S x none).1 in
      value_by true false (there own.0) (needs_by true (has_definition S.model x.index) set_kind shut refl own.1)
      ∙ ap (λ (v : values.Value). Went v s) (given (values.Set xs) (Some (inputs.Set xs)) fresh refl)

  pub set_unread : own_kind S x ≡ Some set_kind → (f : RunFault) → set_refusal S x ≡ Some f → variable_value at x.index m s ≡ Halted (Faulted at f) (left s)
  set_unread kind f some =
      let own = kind_own S x set_kind kind in
      let parts = why S.closed (is_own S x) own.0 some in
      value_by true true (there own.0) (needs_by false (has_definition S.model x.index) set_kind parts.0 refl own.1 ∙ always (has_definition S.model x.index)) ∙ ap (λ (g : RunFault). Halted (Faulted at g) (left s)) parts.1
    where
      why : (closed own : Bool) → own ≡ true → (if not closed then Some NotClosed else (if not own then Some WrongSolver else None)) ≡ Some f → (closed ≡ false) × (NotClosed ≡ f)
      why true true e h = let c : None ≡ Some f = h in cc
      why true false e h = absurd (true≢false (sym e))
      why false own e h = (refl, cc)

      always : (defined : Bool) → (not false && (defined || not false)) ≡ true
      always true = refl
      always false = refl

-- a domain

module _ (S : solvers.SolverState) (names : List (List ℕ)) (waiting : Option (List (Option ℤ))) (at : Place) (x : VarId) (s : State) where
  abbrev asked : SolverState
  asked = solver_seen S names waiting

  domain_by : (b : Bool) → x.solver ≡ S.number → is_own S x ≡ b → domain_at at x asked s ≡ then_do (unless b at WrongSolver s) (λ u. give (values.Range (domain_in (slice_get asked.model.vars.items x.index))))
  unfolding domain_at
  domain_by b own e = ap (λ t. then_do (unless t at WrongSolver s) (λ u. give (values.Range (domain_in (slice_get asked.model.vars.items x.index))))) (owns_seen S names waiting x.solver x own ∙ e)

  bounds_there : (o : Option VarDecl) (low up : ℤ) → option_map {U = ℤ × ℤ} (λ (d : VarDecl). (d.low, d.up)) o ≡ Some (low, up) → domain_in o ≡ record { low = low; up = up }
  bounds_there None low up e = let c : ◌≡◌ {A = Option (ℤ × ℤ)} None (Some (low, up)) = e in cc
  bounds_there (Some d) low up e =
      let both : (d.low, d.up) ≡ (low, up) = cc in
      ap (λ (p : ℤ × ℤ). record { low = p.0; up = p.1 }) both

  own_by : (b : Bool) → (if not b then Some WrongSolver else None) ≡ None → b ≡ true
  own_by true e = refl
  own_by false e = let c : Some WrongSolver ≡ None = e in cc

  foreign_by : (b : Bool) (f : RunFault) → (if not b then Some WrongSolver else None) ≡ Some f → (b ≡ false) × (WrongSolver ≡ f)
  foreign_by true f e = let c : None ≡ Some f = e in cc
  foreign_by false f e = (refl, cc)

  pub domain_there : (low up : ℤ) → x.solver ≡ S.number → domain_refusal S x ≡ None → option_map {U = ℤ × ℤ} (λ (d : VarDecl). (d.low, d.up)) (slice_get S.model.vars.items x.index) ≡ Some (low, up) →
      domain_at at x asked s ≡ Went (values.Range (record { low = low; up = up })) s
  domain_there low up own none e =
      domain_by true own (own_by (is_own S x) none)
      ∙ ap (λ (b : values.Bounds). Went (values.Range b) s) (ap (λ (ds : List VarDecl). domain_in (slice_get ds x.index)) (plain_vars S.model) ∙ bounds_there (slice_get S.model.vars.items x.index) low up e)

  pub domain_unread : (f : RunFault) → x.solver ≡ S.number → domain_refusal S x ≡ Some f → domain_at at x asked s ≡ Halted (Faulted at f) (left s)
  domain_unread f own some =
      let parts = foreign_by (is_own S x) f some in
      domain_by false own parts.0 ∙ ap (λ (g : RunFault). Halted (Faulted at g) (left s)) parts.1
