-- A chain, by its first operator.
use Rattle.std.proofs.Common.{◌≡◌, ◌∙◌, refl, sym, ap, List, [], ◌∷◌, map, Option, None, Some}
use Rattle.std.specs.Prelude.{slice_get}
use Rattle.cbl_base.specs.declared.place.Place.{Place}
use Rattle.comet_syntax.specs.declared.tree.expressions.ChainOperator.{ChainOperator}
use Rattle.comet_syntax.specs.declared.tree.expressions.ChainOperator.TheVariants as chains
use Rattle.term_model.specs.declared.term.Term.{Term}
use Rattle.checked_tree.specs.declared.expressions.Link.{Link}
use Rattle.checked_tree.specs.Shape as shapes
use Rattle.checked_tree.specs.Shape.{Shape, seen, whole, shape_of_link}
use Rattle.comet_meaning.specs.State.{State}
use Rattle.comet_meaning.specs.Levels.{Level}
use Rattle.comet_meaning.specs.TermForms.{joined_form, junction_form, links_term}
use Rattle.comet_meaning.proofs.Rows.{items_rows}
use Rattle.run_steps.specs.Views.{links_seen}
use Rattle.run_steps.proofs.Forms.{link_is}

-- what a chain does behind an operand, by the operator that stands first
by_or : (l : Level) (at : Place) (e : Shape) (rest : List Shape) (t : Term) (s : State) → links_term l (shapes.link chains.Or at e ∷ rest) t s ≡ junction_form l at chains.Or (shapes.link chains.Or at e ∷ rest) t s
by_or l at e rest t s = refl

by_and : (l : Level) (at : Place) (e : Shape) (rest : List Shape) (t : Term) (s : State) → links_term l (shapes.link chains.And at e ∷ rest) t s ≡ junction_form l at chains.And (shapes.link chains.And at e ∷ rest) t s
by_and l at e rest t s = refl

by_others : (l : Level) (o : ChainOperator) (at : Place) (e : Shape) (rest : List Shape) (t : Term) (s : State) → (o ≡ chains.Or → ⊥) → (o ≡ chains.And → ⊥) → links_term l (shapes.link o at e ∷ rest) t s ≡ joined_form l (shapes.link o at e ∷ rest) t s
by_others l chains.Or at e rest t s h k = absurd (h refl)
by_others l chains.And at e rest t s h k = absurd (k refl)
by_others l o at e rest t s h k = refl

module _ (l : Level) (t : Term) (s : State) where
  none_first : (xs : List Link) → None ≡ slice_get xs 0 → links_term l (map shape_of_link xs) t s ≡ joined_form l (map shape_of_link xs) t s
  none_first [] h = refl
  none_first (x ∷ xs) h = absurd cc

  or_first : (xs : List Link) (x : Link) → Some x ≡ slice_get xs 0 → x.operator ≡ chains.Or → links_term l (map shape_of_link xs) t s ≡ junction_form l x.place chains.Or (map shape_of_link xs) t s
  or_first [] x h k = absurd cc
  or_first (y ∷ ys) x h k =
      let same : y ≡ x = cc in
      let e = whole (seen x.operand) in
      let is : shape_of_link y ≡ shapes.link chains.Or x.place e = ap shape_of_link same ∙ link_is x ∙ ap (λ o. shapes.link o x.place e) k in
      ap (λ z. links_term l (z ∷ map shape_of_link ys) t s) is
      ∙ by_or l x.place e (map shape_of_link ys) t s
      ∙ ap (λ z. junction_form l x.place chains.Or (z ∷ map shape_of_link ys) t s) (sym is)

  and_first : (xs : List Link) (x : Link) → Some x ≡ slice_get xs 0 → x.operator ≡ chains.And → links_term l (map shape_of_link xs) t s ≡ junction_form l x.place chains.And (map shape_of_link xs) t s
  and_first [] x h k = absurd cc
  and_first (y ∷ ys) x h k =
      let same : y ≡ x = cc in
      let e = whole (seen x.operand) in
      let is : shape_of_link y ≡ shapes.link chains.And x.place e = ap shape_of_link same ∙ link_is x ∙ ap (λ o. shapes.link o x.place e) k in
      ap (λ z. links_term l (z ∷ map shape_of_link ys) t s) is
      ∙ by_and l x.place e (map shape_of_link ys) t s
      ∙ ap (λ z. junction_form l x.place chains.And (z ∷ map shape_of_link ys) t s) (sym is)

  other_first : (xs : List Link) (x : Link) → Some x ≡ slice_get xs 0 → (x.operator ≡ chains.Or → ⊥) → (x.operator ≡ chains.And → ⊥) → links_term l (map shape_of_link xs) t s ≡ joined_form l (map shape_of_link xs) t s
  other_first [] x h j k = absurd cc
  other_first (y ∷ ys) x h j k =
      let same : y ≡ x = cc in
      let e = whole (seen x.operand) in
      let is : shape_of_link y ≡ shapes.link x.operator x.place e = ap shape_of_link same ∙ link_is x in
      ap (λ z. links_term l (z ∷ map shape_of_link ys) t s) is
      ∙ by_others l x.operator x.place e (map shape_of_link ys) t s j k
      ∙ ap (λ z. joined_form l (z ∷ map shape_of_link ys) t s) (sym is)

-- the same of operands as the tree has them

pub links_none : (l : Level) (xs : List Link) (t : Term) (s : State) → None ≡ slice_get xs 0 → links_term l (links_seen xs) t s ≡ joined_form l (links_seen xs) t s
links_none l xs t s h =
    ap (λ es. links_term l es t s) (items_rows (map shape_of_link xs))
    ∙ none_first l t s xs h
    ∙ ap (λ es. joined_form l es t s) (sym (items_rows (map shape_of_link xs)))

pub links_or : (l : Level) (xs : List Link) (x : Link) (t : Term) (s : State) → Some x ≡ slice_get xs 0 → x.operator ≡ chains.Or → links_term l (links_seen xs) t s ≡ junction_form l x.place chains.Or (links_seen xs) t s
links_or l xs x t s h k =
    ap (λ es. links_term l es t s) (items_rows (map shape_of_link xs))
    ∙ or_first l t s xs x h k
    ∙ ap (λ es. junction_form l x.place chains.Or es t s) (sym (items_rows (map shape_of_link xs)))

pub links_and : (l : Level) (xs : List Link) (x : Link) (t : Term) (s : State) → Some x ≡ slice_get xs 0 → x.operator ≡ chains.And → links_term l (links_seen xs) t s ≡ junction_form l x.place chains.And (links_seen xs) t s
links_and l xs x t s h k =
    ap (λ es. links_term l es t s) (items_rows (map shape_of_link xs))
    ∙ and_first l t s xs x h k
    ∙ ap (λ es. junction_form l x.place chains.And es t s) (sym (items_rows (map shape_of_link xs)))

pub links_joined : (l : Level) (xs : List Link) (x : Link) (t : Term) (s : State) → Some x ≡ slice_get xs 0 → (x.operator ≡ chains.Or → ⊥) → (x.operator ≡ chains.And → ⊥) → links_term l (links_seen xs) t s ≡ joined_form l (links_seen xs) t s
links_joined l xs x t s h j k =
    ap (λ es. links_term l es t s) (items_rows (map shape_of_link xs))
    ∙ other_first l t s xs x h j k
    ∙ ap (λ es. joined_form l es t s) (sym (items_rows (map shape_of_link xs)))
