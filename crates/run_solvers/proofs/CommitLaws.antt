-- What commits of a solver leave, and how they stop, is what the meaning of programs says.
use Rattle.std.proofs.Common.{◌≡◌, ℕ, ℤ, Bool, true, false, Vec, Global, List, [], ◌∷◌, Option, Some, None, Ok, Err, is_some, length, set, refl, sym, ap, ◌∙◌, subst, true≢false}
use Rattle.std.specs.Prelude.{is_ok, ◌&&◌, ◌||◌, if◌then◌else◌}
use Rattle.cbl_base.specs.declared.faults.RunFault.{RunFault}
use Rattle.cbl_base.specs.declared.faults.RunFault.TheVariants.{DefinedVariable, WrongSolver}
use Rattle.cbl_base.specs.declared.ids.VarId.{VarId}
use Rattle.cbl_base.specs.declared.place.Place.{Place}
use Rattle.ls_events.specs.declared.change.VarChange.{VarChange}
use Rattle.ls_solver.specs.Committing as solvers_commits
use Rattle.ls_solver.specs.Committing.{Commits, Fails}
use Rattle.ls_solver.specs.Ids.{has_definition, is_own}
use Rattle.ls_solver.specs.State as solvers
use Rattle.ls_solver.specs.declared.fault.SolverFault.TheVariants as faults
use Rattle.model_values.specs.Fresh.{fresh_of}
use Rattle.term_model.specs.Definitions.{definition_of}
use Rattle.posted_users.specs.KeptRule.{users_of}
use Rattle.term_model.specs.Wellformed.{HasDefinedSets}
use Rattle.comet_meaning.specs.Models as meant
use Rattle.comet_meaning.specs.Models.{owns, exchanged}
use Rattle.comet_meaning.specs.Outcome.{Faulted}
use Rattle.comet_meaning.specs.Solvers.{SolverState, is_defined, fresh_values}
use Rattle.run_solvers.specs.Changing.{Made, refused, by_values, evaluated, moved_one, assigned_one, swapped_one}
use Rattle.run_solvers.specs.Kept.{AreWaiting, IsWhole}
use Rattle.run_solvers.specs.Views.{solver_seen}
use Rattle.run_solvers.specs.Waiting.{indexed}
use Rattle.run_solvers.proofs.CloseLaws.{valued}
use Rattle.run_solvers.proofs.SeenLaws.{fresh_seen, owns_seen, defined_seen}
use Rattle.run_solvers.proofs.WaitingLaws.{indexed_moves, overlaid_set}

-- a commit of moves
module _ (S T : solvers.SolverState) (names : List (List ℕ)) (moves : List (VarId × ℤ)) where
  abbrev before : SolverState
  before = solver_seen S names None

  abbrev after : solvers.SolverState
  after = record S { assignment = solvers_commits.after_moves S.assignment moves }

  abbrev next : SolverState
  next = solver_seen after names None

  abbrev asked : SolverState
  asked = record before { assignment = meant.after_moves (indexed moves) S.assignment }

  same_next : asked ≡ next
  same_next = ap (λ (a : List ℤ). record before { assignment = a }) (indexed_moves S.assignment moves)

  by_closed : (b : Bool) → S.closed ≡ b → evaluated next ≡ (if b then by_values next (fresh_values next) else Ok next)
  by_closed b e = ap (λ b. if b then by_values next (fresh_values next) else Ok next) e

  committed_ok : (changes : Vec VarChange Global) → Commits S moves T (Ok changes) → evaluated asked ≡ Ok (solver_seen T names None)
  committed_ok changes c = ap evaluated same_next ∙ by S.closed refl ∙ ap (λ (U : solvers.SolverState). Ok (solver_seen U names None)) (sym c.1)
    where
      by : (b : Bool) → S.closed ≡ b → evaluated next ≡ Ok next
      by true e = by_closed true e ∙ valued next (fresh_values next) (ap is_ok (fresh_seen after names None) ∙ subst (λ (U : solvers.SolverState). is_ok (fresh_of (users_of U.rules) U.model U.assignment) ≡ true) c.1 (c.2.valued e))
      by false e = by_closed false e

  committed_fault : (place : Place) (fault : RunFault) → Fails S moves T (faults.At place fault) → evaluated asked ≡ Err (Faulted place fault)
  committed_fault place fault c = ap evaluated same_next ∙ by_closed true c.1 ∙ ap (by_values next) (fresh_seen after names None ∙ c.3)

  -- the same, where it is told that nothing waits
  module _ (waiting : Option (List (Option ℤ))) (nothing : waiting ≡ None) where
    abbrev meant_by : Made
    meant_by = evaluated (record (solver_seen S names waiting) { assignment = meant.after_moves (indexed moves) S.assignment })

    asked_is : evaluated asked ≡ meant_by
    asked_is = ap (λ (w : Option (List (Option ℤ))). evaluated (record (solver_seen S names w) { assignment = meant.after_moves (indexed moves) S.assignment })) (sym nothing)

    pub commits_ok : (changes : Vec VarChange Global) → Commits S moves T (Ok changes) → meant_by ≡ Ok (solver_seen T names waiting)
    commits_ok changes c = sym asked_is ∙ committed_ok changes c ∙ ap (λ (w : Option (List (Option ℤ))). Ok (solver_seen T names w)) (sym nothing)

    pub commits_fault : (place : Place) (fault : RunFault) → Fails S moves T (faults.At place fault) → meant_by ≡ Err (Faulted place fault)
    commits_fault place fault c = sym asked_is ∙ committed_fault place fault c

    pub committed_kept : (changes : Vec VarChange Global) (number : ℕ) → IsWhole number S names waiting → HasDefinedSets S.model → Commits S moves T (Ok changes) → IsWhole number T names waiting × HasDefinedSets T.model
    committed_kept changes number whole sets c =
        subst (λ (U : solvers.SolverState). IsWhole number U names waiting × HasDefinedSets U.model) (sym c.1)
        (record { number_ = whole.number_; usable = whole.usable; named = whole.named; waits_ = subst (AreWaiting (solvers_commits.committed S moves)) (sym nothing) tt }, sets)

-- a free variable is a number
none_of : (o : Option ℕ) → is_some o ≡ false → o ≡ None
none_of None h = refl
none_of (Some d) h = absurd (true≢false h)

pub free_defined : (S : solvers.SolverState) (i : ℕ) → has_definition S.model i ≡ false → definition_of S.model i ≡ None
free_defined S i h = none_of (definition_of S.model i) h

pub both_parts : (a b : Bool) → (a && b) ≡ true → (a ≡ true) × (b ≡ true)
both_parts true b h = (refl, h)
both_parts false b h = let c : false ≡ true = h in cc

-- a variable of the solver that isn't a defined one of it is free
pub free_of : (own defined : Bool) → own ≡ true → (own && defined) ≡ false → defined ≡ false
free_of true defined e h = h
free_of false defined e h = absurd (true≢false (sym e))

pub neither_parts : (a b : Bool) → (a || b) ≡ false → (a ≡ false) × (b ≡ false)
neither_parts false b h = (refl, h)
neither_parts true b h = absurd (true≢false h)

and_parts : (a b : Bool) → (a && b) ≡ true → (a ≡ true) × (b ≡ true)
and_parts true b h = (refl, h)
and_parts false b h = let c : false ≡ true = h in cc

-- what is asked before a change

module _ (S : solvers.SolverState) (names : List (List ℕ)) (waiting : Option (List (Option ℤ))) (at : Place) where
  abbrev m : SolverState
  m = solver_seen S names waiting

  assigned_by : (x : VarId) (z : ℤ) (b c : Bool) → x.solver ≡ S.number → is_own S x ≡ b → has_definition S.model x.index ≡ c →
      assigned_one at x z m ≡ (if b then (if c then refused at DefinedVariable else moved_one ((x.index, z) ∷ []) m m.waiting) else refused at WrongSolver)
  assigned_by x z b c own e f =
      ap (λ t. if t then (if is_defined m x.index then refused at DefinedVariable else moved_one ((x.index, z) ∷ []) m m.waiting) else refused at WrongSolver) (owns_seen S names waiting x.solver x own ∙ e)
      ∙ ap (λ t. if b then (if t then refused at DefinedVariable else moved_one ((x.index, z) ∷ []) m m.waiting) else refused at WrongSolver) (defined_seen S names waiting x.index ∙ f)

  pub assigned_foreign : (x : VarId) (z : ℤ) → x.solver ≡ S.number → is_own S x ≡ false → assigned_one at x z m ≡ refused at WrongSolver
  assigned_foreign x z own e = assigned_by x z false (has_definition S.model x.index) own e refl

  pub assigned_defined : (x : VarId) (z : ℤ) → x.solver ≡ S.number → is_own S x ≡ true → (is_own S x && has_definition S.model x.index) ≡ true → assigned_one at x z m ≡ refused at DefinedVariable
  assigned_defined x z own e f = assigned_by x z true true own e (and_parts (is_own S x) (has_definition S.model x.index) f).1

  pub assigned_free : (x : VarId) (z : ℤ) → x.solver ≡ S.number → is_own S x ≡ true → has_definition S.model x.index ≡ false → assigned_one at x z m ≡ moved_one ((x.index, z) ∷ []) m m.waiting
  assigned_free x z own e f = assigned_by x z true false own e f

  -- both of two variables
  swapped_by : (x y : VarId) (b c d e : Bool) → x.solver ≡ S.number → is_own S x ≡ b → is_own S y ≡ c → has_definition S.model x.index ≡ d → has_definition S.model y.index ≡ e →
      swapped_one at x y m ≡ (if b && c then (if d || e then refused at DefinedVariable else moved_one (exchanged m x.index y.index) m m.waiting) else refused at WrongSolver)
  swapped_by x y b c d e own p q r s =
      ap (λ t. if t && owns x.solver m y then (if is_defined m x.index || is_defined m y.index then refused at DefinedVariable else moved_one (exchanged m x.index y.index) m m.waiting) else refused at WrongSolver) (owns_seen S names waiting x.solver x own ∙ p)
      ∙ ap (λ t. if b && t then (if is_defined m x.index || is_defined m y.index then refused at DefinedVariable else moved_one (exchanged m x.index y.index) m m.waiting) else refused at WrongSolver) (owns_seen S names waiting x.solver y own ∙ q)
      ∙ ap (λ t. if b && c then (if t || is_defined m y.index then refused at DefinedVariable else moved_one (exchanged m x.index y.index) m m.waiting) else refused at WrongSolver) (defined_seen S names waiting x.index ∙ r)
      ∙ ap (λ t. if b && c then (if d || t then refused at DefinedVariable else moved_one (exchanged m x.index y.index) m m.waiting) else refused at WrongSolver) (defined_seen S names waiting y.index ∙ s)

  pub swapped_foreign : (x y : VarId) → x.solver ≡ S.number → (is_own S x && is_own S y) ≡ false → swapped_one at x y m ≡ refused at WrongSolver
  swapped_foreign x y own none =
      swapped_by x y (is_own S x) (is_own S y) (has_definition S.model x.index) (has_definition S.model y.index) own refl refl refl refl
      ∙ ap (λ t. if t then (if has_definition S.model x.index || has_definition S.model y.index then refused at DefinedVariable else moved_one (exchanged m x.index y.index) m m.waiting) else refused at WrongSolver) none

  pub swapped_defined : (x y : VarId) → x.solver ≡ S.number → is_own S x ≡ true → is_own S y ≡ true → (has_definition S.model x.index || has_definition S.model y.index) ≡ true → swapped_one at x y m ≡ refused at DefinedVariable
  swapped_defined x y own p q some =
      swapped_by x y true true (has_definition S.model x.index) (has_definition S.model y.index) own p q refl refl
      ∙ ap (λ t. if t then refused at DefinedVariable else moved_one (exchanged m x.index y.index) m m.waiting) some

  pub swapped_free : (x y : VarId) → x.solver ≡ S.number → is_own S x ≡ true → is_own S y ≡ true → has_definition S.model x.index ≡ false → has_definition S.model y.index ≡ false → swapped_one at x y m ≡ moved_one (exchanged m x.index y.index) m m.waiting
  swapped_free x y own p q r s = swapped_by x y true true false false own p q r s

-- a number that waits
pub waits_for : (S : solvers.SolverState) (names : List (List ℕ)) (ws : List (Option ℤ)) (i : ℕ) (z : ℤ) → length ws ≡ length S.assignment →
    moved_one ((i, z) ∷ []) (solver_seen S names (Some ws)) (solver_seen S names (Some ws)).waiting ≡ Ok (solver_seen S names (Some (set ws i (Some z))))
waits_for S names ws i z long = ap (λ (a : List ℤ). Ok (record (solver_seen S names (Some ws)) { waiting = Some a })) (sym (overlaid_set S.assignment ws i z long))
