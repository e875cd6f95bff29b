-- Calls of the constraint functions, by how many arguments they have.
use Rattle.std.proofs.Common.{◌≡◌, refl, sym, pos, List, [], ◌∷◌, length, get_or, arith}
use Rattle.cbl_base.specs.declared.place.Place.{Place}
use Rattle.term_model.specs.declared.term.Term.{Term}
use Rattle.checked_tree.specs.declared.expressions.Builtin.{Builtin}
use Rattle.checked_tree.specs.declared.expressions.Builtin.TheVariants as builtins
use Rattle.checked_tree.specs.declared.expressions.Typed.{Typed}
use Rattle.checked_tree.specs.Shape.{Shape}
use Rattle.comet_meaning.specs.OfModelView.Building.{constant}
use Rattle.comet_meaning.specs.ConstraintForms.{all_different_form, bounded_form, constraint_call, function_form, knapsack_form, multi_knapsack_form, sequence_form, user_places}
use Rattle.comet_meaning.specs.TermForms.{single}
use Rattle.comet_meaning.specs.State.{State}
use Rattle.comet_meaning.specs.Outcome.{Act, Went}
use Rattle.comet_meaning.specs.Levels.{Level}
use Rattle.run_steps.specs.Views.{part, row}
use Rattle.constraint_forms.specs.Steps.{of_four, of_one, of_three, of_two}

module _ (l : Level) (at : Place) (s : State) where
  pub all_different_as : (es : List Shape) → constraint_call l at builtins.AllDifferent es s ≡ of_one (all_different_form l at) es s
  unfolding constraint_call
  all_different_as [] = refl
  all_different_as (a ∷ []) = refl
  all_different_as (a ∷ b ∷ es) = refl

  pub at_most_as : (es : List Shape) → constraint_call l at builtins.AtMost es s ≡ of_two (bounded_form l at builtins.AtMost) es s
  unfolding constraint_call
  at_most_as [] = refl
  at_most_as (a ∷ []) = refl
  at_most_as (a ∷ b ∷ []) = refl
  at_most_as (a ∷ b ∷ c ∷ es) = refl

  pub at_least_as : (es : List Shape) → constraint_call l at builtins.AtLeast es s ≡ of_two (bounded_form l at builtins.AtLeast) es s
  unfolding constraint_call
  at_least_as [] = refl
  at_least_as (a ∷ []) = refl
  at_least_as (a ∷ b ∷ []) = refl
  at_least_as (a ∷ b ∷ c ∷ es) = refl

  pub exactly_as : (es : List Shape) → constraint_call l at builtins.Exactly es s ≡ of_two (bounded_form l at builtins.Exactly) es s
  unfolding constraint_call
  exactly_as [] = refl
  exactly_as (a ∷ []) = refl
  exactly_as (a ∷ b ∷ []) = refl
  exactly_as (a ∷ b ∷ c ∷ es) = refl

  pub knapsack_as : (es : List Shape) → constraint_call l at builtins.Knapsack es s ≡ of_three (knapsack_form l at) es s
  unfolding constraint_call
  knapsack_as [] = refl
  knapsack_as (a ∷ []) = refl
  knapsack_as (a ∷ b ∷ []) = refl
  knapsack_as (a ∷ b ∷ c ∷ []) = refl
  knapsack_as (a ∷ b ∷ c ∷ d ∷ es) = refl

  pub multi_knapsack_as : (es : List Shape) → constraint_call l at builtins.MultiKnapsack es s ≡ of_three (multi_knapsack_form l at) es s
  unfolding constraint_call
  multi_knapsack_as [] = refl
  multi_knapsack_as (a ∷ []) = refl
  multi_knapsack_as (a ∷ b ∷ []) = refl
  multi_knapsack_as (a ∷ b ∷ c ∷ []) = refl
  multi_knapsack_as (a ∷ b ∷ c ∷ d ∷ es) = refl

  pub sequence_as : (es : List Shape) → constraint_call l at builtins.Sequence es s ≡ of_four (sequence_form l at) es s
  unfolding constraint_call
  sequence_as [] = refl
  sequence_as (a ∷ []) = refl
  sequence_as (a ∷ b ∷ []) = refl
  sequence_as (a ∷ b ∷ c ∷ []) = refl
  sequence_as (a ∷ b ∷ c ∷ d ∷ []) = refl
  sequence_as (a ∷ b ∷ c ∷ d ∷ e ∷ es) = refl

  pub call_of_others : (f : Builtin) (es : List Shape) → (f ≡ builtins.AllDifferent → ⊥) → (f ≡ builtins.AtMost → ⊥) → (f ≡ builtins.AtLeast → ⊥) → (f ≡ builtins.Exactly → ⊥) → (f ≡ builtins.Knapsack → ⊥) → (f ≡ builtins.MultiKnapsack → ⊥) → (f ≡ builtins.Sequence → ⊥) → constraint_call l at f es s ≡ Went (constant (pos 0)) s
  unfolding constraint_call
  call_of_others builtins.AllDifferent es a b c d e f g = absurd (a refl)
  call_of_others builtins.AtMost es a b c d e f g = absurd (b refl)
  call_of_others builtins.AtLeast es a b c d e f g = absurd (c refl)
  call_of_others builtins.Exactly es a b c d e f g = absurd (d refl)
  call_of_others builtins.Knapsack es a b c d e f g = absurd (e refl)
  call_of_others builtins.MultiKnapsack es a b c d e f g = absurd (f refl)
  call_of_others builtins.Sequence es a b c d e f g = absurd (g refl)
  call_of_others h es a b c d e f g = refl

-- a function in a constraint, by whether it is a user's constraint

module _ (l : Level) (at : Place) where
  pub user_as : (es : List Typed) (x : Typed) (s : State) → length es ≡ 2 → x ≡ get_or es 1 x → function_form l at builtins.User (row es) s ≡ user_places l at (part x) s
  unfolding function_form
  user_as [] x s h p = absurd (omega (arith, h))
  user_as (a ∷ []) x s h p = absurd (omega (arith, h))
  user_as (a ∷ b ∷ []) x s h p = λ k. user_places l at (part (sym p k)) s
  user_as (a ∷ b ∷ c ∷ es) x s h p = absurd (omega (arith, h))

  pub user_of_others : (es : List Typed) (s : State) → (length es ≡ 2 → ⊥) → function_form l at builtins.User (row es) s ≡ single (constraint_call l at builtins.User (row es)) s
  unfolding function_form
  user_of_others [] s h = refl
  user_of_others (a ∷ []) s h = refl
  user_of_others (a ∷ b ∷ []) s h = absurd (h refl)
  user_of_others (a ∷ b ∷ c ∷ es) s h = refl

  pub function_of_others : (f : Builtin) (es : List Shape) (s : State) → (f ≡ builtins.User → ⊥) → function_form l at f es s ≡ single (constraint_call l at f es) s
  unfolding function_form
  function_of_others builtins.User es s a = absurd (a refl)
  function_of_others h es s a = refl

-- the arguments, where they are as many as are asked, and where they are more or fewer

pub one_is : (m : Shape → Act Term) (es : List Typed) (a : Typed) (s : State) → length es ≡ 1 → a ≡ get_or es 0 a → of_one m (row es) s ≡ m (part a) s
one_is m [] a s h p = absurd (omega (arith, h))
one_is m (x ∷ []) a s h p = λ k. m (part (sym p k)) s
one_is m (x ∷ y ∷ es) a s h p = absurd (omega (arith, h))

pub one_isnt : (m : Shape → Act Term) (es : List Typed) (s : State) → (length es ≡ 1 → ⊥) → of_one m (row es) s ≡ Went (constant (pos 0)) s
one_isnt m [] s h = refl
one_isnt m (x ∷ []) s h = absurd (h refl)
one_isnt m (x ∷ y ∷ es) s h = refl

pub two_are : (m : Shape → Shape → Act Term) (es : List Typed) (a b : Typed) (s : State) → length es ≡ 2 → a ≡ get_or es 0 a → b ≡ get_or es 1 b → of_two m (row es) s ≡ m (part a) (part b) s
two_are m [] a b s h p q = absurd (omega (arith, h))
two_are m (x ∷ []) a b s h p q = absurd (omega (arith, h))
two_are m (x ∷ y ∷ []) a b s h p q = λ k. m (part (sym p k)) (part (sym q k)) s
two_are m (x ∷ y ∷ z ∷ es) a b s h p q = absurd (omega (arith, h))

pub two_arent : (m : Shape → Shape → Act Term) (es : List Typed) (s : State) → (length es ≡ 2 → ⊥) → of_two m (row es) s ≡ Went (constant (pos 0)) s
two_arent m [] s h = refl
two_arent m (x ∷ []) s h = refl
two_arent m (x ∷ y ∷ []) s h = absurd (h refl)
two_arent m (x ∷ y ∷ z ∷ es) s h = refl

pub three_are : (m : Shape → Shape → Shape → Act Term) (es : List Typed) (a b c : Typed) (s : State) → length es ≡ 3 → a ≡ get_or es 0 a → b ≡ get_or es 1 b → c ≡ get_or es 2 c → of_three m (row es) s ≡ m (part a) (part b) (part c) s
three_are m [] a b c s h p q r = absurd (omega (arith, h))
three_are m (x ∷ []) a b c s h p q r = absurd (omega (arith, h))
three_are m (x ∷ y ∷ []) a b c s h p q r = absurd (omega (arith, h))
three_are m (x ∷ y ∷ z ∷ []) a b c s h p q r = λ k. m (part (sym p k)) (part (sym q k)) (part (sym r k)) s
three_are m (x ∷ y ∷ z ∷ w ∷ es) a b c s h p q r = absurd (omega (arith, h))

pub three_arent : (m : Shape → Shape → Shape → Act Term) (es : List Typed) (s : State) → (length es ≡ 3 → ⊥) → of_three m (row es) s ≡ Went (constant (pos 0)) s
three_arent m [] s h = refl
three_arent m (x ∷ []) s h = refl
three_arent m (x ∷ y ∷ []) s h = refl
three_arent m (x ∷ y ∷ z ∷ []) s h = absurd (h refl)
three_arent m (x ∷ y ∷ z ∷ w ∷ es) s h = refl

pub four_are : (m : Shape → Shape → Shape → Shape → Act Term) (es : List Typed) (a b c d : Typed) (s : State) → length es ≡ 4 → a ≡ get_or es 0 a → b ≡ get_or es 1 b → c ≡ get_or es 2 c → d ≡ get_or es 3 d → of_four m (row es) s ≡ m (part a) (part b) (part c) (part d) s
four_are m [] a b c d s h p q r t = absurd (omega (arith, h))
four_are m (x ∷ []) a b c d s h p q r t = absurd (omega (arith, h))
four_are m (x ∷ y ∷ []) a b c d s h p q r t = absurd (omega (arith, h))
four_are m (x ∷ y ∷ z ∷ []) a b c d s h p q r t = absurd (omega (arith, h))
four_are m (x ∷ y ∷ z ∷ w ∷ []) a b c d s h p q r t = λ k. m (part (sym p k)) (part (sym q k)) (part (sym r k)) (part (sym t k)) s
four_are m (x ∷ y ∷ z ∷ w ∷ v ∷ es) a b c d s h p q r t = absurd (omega (arith, h))

pub four_arent : (m : Shape → Shape → Shape → Shape → Act Term) (es : List Typed) (s : State) → (length es ≡ 4 → ⊥) → of_four m (row es) s ≡ Went (constant (pos 0)) s
four_arent m [] s h = refl
four_arent m (x ∷ []) s h = refl
four_arent m (x ∷ y ∷ []) s h = refl
four_arent m (x ∷ y ∷ z ∷ []) s h = refl
four_arent m (x ∷ y ∷ z ∷ w ∷ []) s h = absurd (h refl)
four_arent m (x ∷ y ∷ z ∷ w ∷ v ∷ es) s h = refl
