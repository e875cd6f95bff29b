-- Calls of the functions of the language in a term.
use Rattle.std.proofs.Common.{◌≡◌, refl, sym, List, [], ◌∷◌, length, get_or, arith}
use Rattle.cbl_base.specs.declared.place.Place.{Place}
use Rattle.checked_tree.specs.declared.expressions.Builtin.{Builtin}
use Rattle.checked_tree.specs.declared.expressions.Builtin.TheVariants as builtins
use Rattle.checked_tree.specs.declared.expressions.Typed.{Typed}
use Rattle.checked_tree.specs.Shape.{Shape}
use Rattle.comet_meaning.specs.State.{State}
use Rattle.comet_meaning.specs.Levels.{Level}
use Rattle.comet_meaning.specs.TermForms.{builtin_term, count_term}
use Rattle.run_steps.specs.Views.{part, row}
use Rattle.term_forms.specs.Steps.{plain_call}

pub builtin_plain : (l : Level) (at : Place) (f : Builtin) (es : List Shape) (s : State) → (f ≡ builtins.Count → ⊥) → builtin_term l at f es s ≡ plain_call l at f es s
unfolding builtin_term
builtin_plain l at builtins.Count es s h = absurd (h refl)
builtin_plain l at f es s h = refl

-- a call of `count` with two arguments
pub count_of_two : (l : Level) (at : Place) (es : List Typed) (a b : Typed) (s : State) → length es ≡ 2 → a ≡ get_or es 0 a → b ≡ get_or es 1 b → builtin_term l at builtins.Count (row es) s ≡ count_term l at (part a) (part b) s
unfolding builtin_term
count_of_two l at [] a b s h p q = absurd (omega (arith, h))
count_of_two l at (x ∷ []) a b s h p q = absurd (omega (arith, h))
count_of_two l at (x ∷ y ∷ []) a b s h p q = λ k. count_term l at (part (sym p k)) (part (sym q k)) s
count_of_two l at (x ∷ y ∷ z ∷ es) a b s h p q = absurd (omega (arith, h))

-- a call of `count` with another number of arguments
pub count_of_others : (l : Level) (at : Place) (es : List Typed) (s : State) → (length es ≡ 2 → ⊥) → builtin_term l at builtins.Count (row es) s ≡ plain_call l at builtins.Count (row es) s
unfolding builtin_term
count_of_others l at [] s h = refl
count_of_others l at (a ∷ []) s h = refl
count_of_others l at (a ∷ b ∷ []) s h = absurd (h refl)
count_of_others l at (a ∷ b ∷ c ∷ es) s h = refl
