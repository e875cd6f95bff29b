-- The members of a chain of constraints, one after the other.
use Rattle.std.proofs.Common.{◌≡◌, refl, sym, subst, ap, ◌∙◌, ℕ, ◌+◌, ◌<◌, ◌≤◌, List, [], ◌∷◌, ◌++◌, map, length, drop, get_or, Option, Some, None}
use Rattle.std.specs.Prelude.{slice_get}
use Rattle.cbl_base.specs.declared.place.Place.{Place}
use Rattle.term_model.specs.declared.term.Term.{Term}
use Rattle.comet_syntax.specs.declared.tree.expressions.ChainOperator.{ChainOperator}
use Rattle.checked_tree.specs.declared.expressions.Link.{Link}
use Rattle.checked_tree.specs.Shape as shapes
use Rattle.checked_tree.specs.Shape.{Shape, seen, whole, shape_of_link}
use Rattle.comet_meaning.specs.ConstraintForms.{combined_form, members_form}
use Rattle.comet_meaning.specs.State.{State, left}
use Rattle.comet_meaning.specs.Outcome.{Outcome, Went, then_do}
use Rattle.comet_meaning.specs.Levels.{Level}
use Rattle.comet_meaning.specs.Parts.{constraint}
use Rattle.comet_meaning.specs.Onward.{IsOnward, left_by}
use Rattle.comet_meaning.proofs.GoingParts.{LevelGoesOn}
use Rattle.comet_meaning.proofs.GoingConstraints.{goes_members}
use Rattle.comet_meaning.proofs.Endings.{went_then, Passes, passes_to}
use Rattle.comet_meaning.proofs.Rows.{at_next, at_end, items_rows}
use Rattle.run_steps.specs.Views.{links_seen}
use Rattle.run_steps.proofs.Forms.{link_is}
use Rattle.constraint_forms.specs.Steps.{members_node}

-- the members that are left
pub record MembersLeft {X : Type 0} (l : Level) (f : X → Shape) (xs : List X) (i : ℕ) (ts : List Term) (s : State) (w : Outcome (List Term)) : Type 0 where
  pub left : members_form l (map f (drop i xs)) ts s ≡ w

pub members_start : {X : Type 0} (l : Level) (f : X → Shape) (xs : List X) (es : List Shape) (ts : List Term) (s : State) → es ≡ map f xs → MembersLeft l f xs 0 ts s (members_form l es ts s)
members_start l f xs es ts s e = record { left = ap (λ ys. members_form l ys ts s) (sym e) }

module _ {X : Type 0} {l : Level} {f : X → Shape} {xs : List X} {i : ℕ} {ts : List Term} {s : State} {w : Outcome (List Term)} (m : MembersLeft l f xs i ts s w) where
  pub members_end : length xs ≤ i → w ≡ Went ts s
  unfolding members_form
  members_end h = sym m.left ∙ at_end (λ ys. members_form l ys ts s) f xs i h

  pub members_onward : LevelGoesOn l → IsOnward (left s) (left_by w)
  members_onward k = subst (λ o. IsOnward (left s) (left_by o)) m.left ((goes_members l k (map f (drop i xs)) ts).from s)

  module _ {o : ChainOperator} {at : Place} {e : Shape} (x : X) (h : i < length xs) (is : x ≡ get_or xs i x) (link : f x ≡ shapes.link o at e) where
    pub members_at : then_do (constraint l e s) (λ t. members_form l (map f (drop (i + 1) xs)) (ts ++ t ∷ [])) ≡ w
    unfolding members_form
    members_at = sym (at_next (λ ys. members_form l ys ts s) f xs i x h is ∙ ap (λ y. members_form l (y ∷ map f (drop (i + 1) xs)) ts s) link) ∙ m.left

    pub members_step : {t : Term} {r : State} → constraint l e s ≡ Went t r → MembersLeft l f xs (i + 1) (ts ++ t ∷ []) r w
    members_step q = record { left = sym (went_then _ q) ∙ members_at }

    pub members_err : (P : (A : Type 0) → Outcome A → Type 0) → Passes P → LevelGoesOn l → P Term (constraint l e s) → P (List Term) w
    members_err P through k q = passes_to P through _ _ members_at (λ t. goes_members l k _ _) q

-- a chain, by whether it has an operator

module _ (l : Level) (t : Term) (s : State) where
  none_first : (xs : List Link) → None ≡ slice_get xs 0 → combined_form l (map shape_of_link xs) t s ≡ Went t s
  unfolding combined_form
  none_first [] h = refl
  none_first (x ∷ xs) h = absurd cc

  by_link : (o : ChainOperator) (at : Place) (e : Shape) (rest : List Shape) → combined_form l (shapes.link o at e ∷ rest) t s ≡ members_node l at o (shapes.link o at e ∷ rest) t s
  unfolding combined_form
  by_link o at e rest = refl

  link_first : (xs : List Link) (x : Link) → Some x ≡ slice_get xs 0 → combined_form l (map shape_of_link xs) t s ≡ members_node l x.place x.operator (map shape_of_link xs) t s
  link_first [] x h = absurd cc
  link_first (y ∷ ys) x h =
      let same : y ≡ x = cc in
      let e = whole (seen x.operand) in
      let is : shape_of_link y ≡ shapes.link x.operator x.place e = ap shape_of_link same ∙ link_is x in
      ap (λ z. combined_form l (z ∷ map shape_of_link ys) t s) is
      ∙ by_link x.operator x.place e (map shape_of_link ys)
      ∙ ap (λ z. members_node l x.place x.operator (z ∷ map shape_of_link ys) t s) (sym is)

-- the same of members as the tree has them

pub combined_none : (l : Level) (xs : List Link) (t : Term) (s : State) → None ≡ slice_get xs 0 → combined_form l (links_seen xs) t s ≡ Went t s
combined_none l xs t s h = ap (λ es. combined_form l es t s) (items_rows (map shape_of_link xs)) ∙ none_first l t s xs h

pub combined_some : (l : Level) (xs : List Link) (x : Link) (t : Term) (s : State) → Some x ≡ slice_get xs 0 → combined_form l (links_seen xs) t s ≡ members_node l x.place x.operator (links_seen xs) t s
combined_some l xs x t s h =
    ap (λ es. combined_form l es t s) (items_rows (map shape_of_link xs))
    ∙ link_first l t s xs x h
    ∙ ap (λ es. members_node l x.place x.operator es t s) (sym (items_rows (map shape_of_link xs)))
