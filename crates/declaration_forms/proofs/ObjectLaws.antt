-- Objects, by how many arguments they are made of, and by their kind.
use Rattle.std.proofs.Common.{◌≡◌, refl, sym, ap, ℕ, List, [], ◌∷◌, map, length, get_or, arith}
use Rattle.cbl_base.specs.declared.place.Place.{Place}
use Rattle.checked_tree.specs.declared.expressions.Slot.{Slot}
use Rattle.checked_tree.specs.declared.expressions.Typed.{Typed}
use Rattle.checked_tree.specs.declared.kind.Kind.{Kind}
use Rattle.checked_tree.specs.declared.kind.Kind.TheVariants as kinds
use Rattle.checked_tree.specs.Shape.{Seen, seen}
use Rattle.comet_meaning.specs.Declarations.{made_in, made_of_range, made_of_term, object_form}
use Rattle.comet_meaning.specs.Levels.{Level}
use Rattle.comet_meaning.specs.Outcome.{Act, Went, ◌>>=◌, give}
use Rattle.comet_meaning.specs.Parts.{term, value}
use Rattle.comet_meaning.specs.State.{State}
use Rattle.comet_meaning.specs.Systems.{make_objective}
use Rattle.comet_meaning.specs.Values.{Distribution, Nothing, Value, bounds_of, solver_of}
use Rattle.run_steps.specs.Views.{part}

module _ (l : Level) (make : ℕ → Act Value) (s : State) where
  pub made_in_one : (es : List Typed) (a : Typed) → length es ≡ 1 → a ≡ get_or es 0 a → made_in l make (map seen es) s ≡ (value l (part a) >>= λ v. make (solver_of v)) s
  unfolding made_in
  made_in_one [] a h is = absurd (omega (arith, h))
  made_in_one (x ∷ []) a h is = ap (λ (y : Typed). (value l (part y) >>= λ v. make (solver_of v)) s) (sym is)
  made_in_one (x ∷ y ∷ es) a h is = absurd (omega (arith, h))

  pub made_in_others : (es : List Typed) → (length es ≡ 1 → ⊥) → made_in l make (map seen es) s ≡ Went Nothing s
  unfolding made_in
  made_in_others [] h = refl
  made_in_others (x ∷ []) h = absurd (h refl)
  made_in_others (x ∷ y ∷ es) h = refl

module _ (l : Level) (s : State) where
  pub made_of_one_range : (es : List Typed) (a : Typed) → length es ≡ 1 → a ≡ get_or es 0 a → made_of_range l (map seen es) s ≡ (value l (part a) >>= λ v. give (Distribution (bounds_of v))) s
  unfolding made_of_range
  made_of_one_range [] a h is = absurd (omega (arith, h))
  made_of_one_range (x ∷ []) a h is = ap (λ (y : Typed). (value l (part y) >>= λ v. give (Distribution (bounds_of v))) s) (sym is)
  made_of_one_range (x ∷ y ∷ es) a h is = absurd (omega (arith, h))

  pub made_of_no_range : (es : List Typed) → (length es ≡ 1 → ⊥) → made_of_range l (map seen es) s ≡ Went Nothing s
  unfolding made_of_range
  made_of_no_range [] h = refl
  made_of_no_range (x ∷ []) h = absurd (h refl)
  made_of_no_range (x ∷ y ∷ es) h = refl

module _ (l : Level) (at : Place) (s : State) where
  pub made_of_one : (es : List Typed) (a : Typed) → length es ≡ 1 → a ≡ get_or es 0 a → made_of_term l at (map seen es) s ≡ (term l (part a) >>= make_objective at) s
  unfolding made_of_term
  made_of_one [] a h is = absurd (omega (arith, h))
  made_of_one (x ∷ []) a h is = ap (λ (y : Typed). (term l (part y) >>= make_objective at) s) (sym is)
  made_of_one (x ∷ y ∷ es) a h is = absurd (omega (arith, h))

  pub made_of_others : (es : List Typed) → (length es ≡ 1 → ⊥) → made_of_term l at (map seen es) s ≡ Went Nothing s
  unfolding made_of_term
  made_of_others [] h = refl
  made_of_others (x ∷ []) h = absurd (h refl)
  made_of_others (x ∷ y ∷ es) h = refl

  pub object_of_others : (slot : Slot) (k : Kind) (es : List Seen) → (k ≡ kinds.Solver → ⊥) → (k ≡ kinds.Input → ⊥) → (k ≡ kinds.System → ⊥) → (k ≡ kinds.Total → ⊥) → (k ≡ kinds.Objective → ⊥) →
      (k ≡ kinds.Distribution → ⊥) → (k ≡ kinds.Selector → ⊥) → (k ≡ kinds.Solution → ⊥) → object_form l at slot k es s ≡ Went tt s
  unfolding object_form
  object_of_others slot kinds.Solver es a b c d e f g h = absurd (a refl)
  object_of_others slot kinds.Input es a b c d e f g h = absurd (b refl)
  object_of_others slot kinds.System es a b c d e f g h = absurd (c refl)
  object_of_others slot kinds.Total es a b c d e f g h = absurd (d refl)
  object_of_others slot kinds.Objective es a b c d e f g h = absurd (e refl)
  object_of_others slot kinds.Distribution es a b c d e f g h = absurd (f refl)
  object_of_others slot kinds.Selector es a b c d e f g h = absurd (g refl)
  object_of_others slot kinds.Solution es a b c d e f g h = absurd (h refl)
  object_of_others slot k es a b c d e f g h = refl
