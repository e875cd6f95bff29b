-- What is posted: the first argument, and behind it a weight where there is one.
use Rattle.std.proofs.Common.{◌≡◌, ◌∙◌, ◌-◌, refl, sym, ap, ℕ, pos, Some, None, List, [], ◌∷◌, length, take, drop, get_or, arith}
use Rattle.std.proofs.lemmas.List.{take_rest}
use Rattle.cbl_base.specs.declared.place.Place.{Place}
use Rattle.checked_tree.specs.declared.expressions.Typed.{Typed}
use Rattle.checked_tree.specs.Shape.{Shape}
use Rattle.comet_meaning.specs.Values.{Nothing}
use Rattle.comet_meaning.specs.State.{State}
use Rattle.comet_meaning.specs.Outcome.{Went}
use Rattle.comet_meaning.specs.Levels.{Level}
use Rattle.comet_meaning.specs.Parts.{number}
use Rattle.comet_meaning.specs.Posting.{weight_form, user_name, post_one, post_named, post_either, post_constraint, post_part}
use Rattle.run_steps.specs.Views.{part, row}

-- the first of expressions in a row, and those behind it
pub row_split : (es : List Typed) (a : Typed) → (length es ≡ 0 → ⊥) → a ≡ get_or es 0 a → row es ≡ part a ∷ row (take (length es - 1) (drop 1 es))
row_split [] a h is = absurd (h refl)
row_split (x ∷ xs) a h is = ap (λ y. part y ∷ row xs) (sym is) ∙ ap (λ ys. part a ∷ row ys) (sym (take_rest (x ∷ xs) 1))

-- nothing is posted

pub no_constraint : (l : Level) (at : Place) (o : Shape) (es : List Typed) (s : State) → length es ≡ 0 → post_constraint l at o (row es) s ≡ Went Nothing s
unfolding post_constraint
no_constraint l at o [] s h = refl
no_constraint l at o (x ∷ xs) s h = absurd (omega (arith, h))

pub no_part : (l : Level) (at : Place) (o : Shape) (es : List Typed) (s : State) → length es ≡ 0 → post_part l at o (row es) s ≡ Went Nothing s
unfolding post_part
no_part l at o [] s h = refl
no_part l at o (x ∷ xs) s h = absurd (omega (arith, h))

-- what is posted, by its name

pub nameless_post : (l : Level) (at : Place) (o c : Shape) (ws : List Shape) (s : State) → user_name c ≡ None → post_constraint l at o (c ∷ ws) s ≡ post_one l at o c ws s
unfolding post_constraint
nameless_post l at o c ws s e = ap (λ n. post_either l at o c ws n s) e

pub named_post : (l : Level) (at : Place) (o c : Shape) (ws : List Shape) (name : List ℕ) (s : State) → user_name c ≡ Some name → post_constraint l at o (c ∷ ws) s ≡ post_named l at o c ws name s
unfolding post_constraint
named_post l at o c ws name s e = ap (λ n. post_either l at o c ws n s) e

-- the weight

pub no_weight : (l : Level) (es : List Typed) (s : State) → length es ≡ 0 → weight_form l (row es) s ≡ Went (pos 1) s
unfolding weight_form
no_weight l [] s h = refl
no_weight l (x ∷ xs) s h = absurd (omega (arith, h))

pub weight_there : (l : Level) (es : List Typed) (a : Typed) (s : State) → (length es ≡ 0 → ⊥) → a ≡ get_or es 0 a → weight_form l (row es) s ≡ number l (part a) s
unfolding weight_form
weight_there l [] a s h is = absurd (h refl)
weight_there l (x ∷ xs) a s h is = ap (λ y. number l (part y) s) (sym is)
