-- One level of the meaning.
use Rattle.std.proofs.Common.{◌≡◌, ◌∙◌, ap, ℕ, zero, suc, ◌-◌, Bool, true, false, refl, sub-one, if◌then◌else◌}
use Rattle.checked_tree.specs.declared.expressions.Typed.{Typed}
use Rattle.run_steps.specs.Parts.{constant_form}
use Rattle.run_steps.specs.Views.{part}
use Rattle.cbl_base.specs.declared.faults.RunFault.TheVariants.{Depth}
use Rattle.checked_tree.specs.Shape.{Shape, shape_of}
use Rattle.comet_meaning.specs.State.{State, left}
use Rattle.comet_meaning.specs.Outcome.{Halted, Faulted}
use Rattle.comet_meaning.specs.Levels.{Code, Level}
use Rattle.comet_meaning.specs.Parts.{place_of}
use Rattle.comet_meaning.specs.Expressions.{value_of_expression}
use Rattle.comet_meaning.specs.ConstraintForms.{constraint_form}
use Rattle.comet_meaning.specs.InTerms.{incremental_form, is_constraint, term_of_expression}
use Rattle.comet_meaning.specs.TermForms.{moving_term}
use Rattle.comet_meaning.specs.Writes.{target_of_expression}
use Rattle.comet_meaning.specs.Program.{level}

pub expr_at_zero : (c : Code) (room : ℕ) (e : Shape) (s : State) → room ≡ 0 → (level c room).expr e s ≡ Halted (Faulted (place_of e) Depth) (left s)
unfolding level
expr_at_zero c zero e s h = refl
expr_at_zero c (suc d) e s h = cc

pub expr_as : (c : Code) (room : ℕ) (e : Shape) (s : State) → (room ≡ 0 → ⊥) → (level c room).expr e s ≡ value_of_expression c (level c (room - 1)) e s
unfolding level
expr_as c zero e s h = absurd (h refl)
expr_as c (suc d) e s h = rw sub-one refl

pub term_at_zero : (c : Code) (room : ℕ) (e : Shape) (s : State) → room ≡ 0 → (level c room).term e s ≡ Halted (Faulted (place_of e) Depth) (left s)
unfolding level
term_at_zero c zero e s h = refl
term_at_zero c (suc d) e s h = cc

pub term_as : (c : Code) (room : ℕ) (e : Shape) (s : State) → (room ≡ 0 → ⊥) → (level c room).term e s ≡ term_of_expression c (level c (room - 1)) e s
unfolding level
term_as c zero e s h = absurd (h refl)
term_as c (suc d) e s h = rw sub-one refl

pub target_at_zero : (c : Code) (room : ℕ) (e : Shape) (s : State) → room ≡ 0 → (level c room).target e s ≡ Halted (Faulted (place_of e) Depth) (left s)
unfolding level
target_at_zero c zero e s h = refl
target_at_zero c (suc d) e s h = cc

pub target_as : (c : Code) (room : ℕ) (e : Shape) (s : State) → (room ≡ 0 → ⊥) → (level c room).target e s ≡ target_of_expression (level c (room - 1)) e s
unfolding level
target_as c zero e s h = absurd (h refl)
target_as c (suc d) e s h = rw sub-one refl

-- the term of an expression, by whether it holds incremental variables, and whether it is a constraint

by_moving : (c : Code) (room : ℕ) (e : Typed) (s : State) → (room ≡ 0 → ⊥) → (b : Bool) → e.moving ≡ b →
    (level c room).term (part e) s ≡ (if b then incremental_form (level c (room - 1)) e.place e.kind (shape_of e.form) else constant_form c (level c (room - 1)) e.place e.kind (shape_of e.form)) s
unfolding term_of_expression
by_moving c room e s h b m = term_as c room (part e) s h ∙ ap (λ b. (if b then incremental_form (level c (room - 1)) e.place e.kind (shape_of e.form) else constant_form c (level c (room - 1)) e.place e.kind (shape_of e.form)) s) m

by_kind : (l : Level) (e : Typed) (s : State) (b : Bool) → is_constraint e.kind ≡ b →
    incremental_form l e.place e.kind (shape_of e.form) s ≡ (if b then constraint_form l e.place (shape_of e.form) else moving_term l e.place (shape_of e.form)) s
unfolding incremental_form
by_kind l e s b k = ap (λ b. (if b then constraint_form l e.place (shape_of e.form) else moving_term l e.place (shape_of e.form)) s) k

pub term_moves : (c : Code) (room : ℕ) (e : Typed) (s : State) → (room ≡ 0 → ⊥) → e.moving ≡ true → is_constraint e.kind ≡ false → (level c room).term (part e) s ≡ moving_term (level c (room - 1)) e.place (shape_of e.form) s
term_moves c room e s h m k = by_moving c room e s h true m ∙ by_kind (level c (room - 1)) e s false k

pub term_constrains : (c : Code) (room : ℕ) (e : Typed) (s : State) → (room ≡ 0 → ⊥) → e.moving ≡ true → is_constraint e.kind ≡ true → (level c room).term (part e) s ≡ constraint_form (level c (room - 1)) e.place (shape_of e.form) s
term_constrains c room e s h m k = by_moving c room e s h true m ∙ by_kind (level c (room - 1)) e s true k

pub term_stays : (c : Code) (room : ℕ) (e : Typed) (s : State) → (room ≡ 0 → ⊥) → e.moving ≡ false → (level c room).term (part e) s ≡ constant_form c (level c (room - 1)) e.place e.kind (shape_of e.form) s
term_stays c room e s h m = by_moving c room e s h false m
