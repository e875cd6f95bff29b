-- Of what is no variable no violations and no delta are given.
use Rattle.std.proofs.Common.{◌≡◌, refl, [], ◌∷◌}
use Rattle.cbl_base.specs.declared.ids.VarId.{VarId}
use Rattle.cbl_base.specs.declared.place.Place.{Place}
use Rattle.comet_meaning.specs.Values as meant
use Rattle.comet_meaning.specs.State.{State}
use Rattle.comet_meaning.specs.Outcome.{Went}
use Rattle.comet_meaning.specs.Systems.{violations, assign_delta, swap_delta}
use Rattle.run_values.specs.declared.values.Value.{Value}
use Rattle.run_values.specs.declared.values.Value.TheVariants.{Variable}
use Rattle.run_values.specs.Views.{value_seen}

pub asked_nothing : (at : Place) (v : meant.Value) (w : Value) (s : State) → ((x : VarId) → w ≡ Variable x → ⊥) → violations at v (value_seen w ∷ []) s ≡ Went meant.Nothing s
asked_nothing at v (Variable x) s h = absurd (h x refl)
asked_nothing at v w s h = refl

pub assigned_nothing : (at : Place) (v : meant.Value) (w : Value) (z : meant.Value) (s : State) → ((x : VarId) → w ≡ Variable x → ⊥) → assign_delta at v (value_seen w ∷ z ∷ []) s ≡ Went meant.Nothing s
assigned_nothing at v (Variable x) z s h = absurd (h x refl)
assigned_nothing at v w z s h = refl

pub swapped_nothing : (at : Place) (v : meant.Value) (w : Value) (z : meant.Value) (s : State) → ((x : VarId) → w ≡ Variable x → ⊥) → swap_delta at v (value_seen w ∷ z ∷ []) s ≡ Went meant.Nothing s
swapped_nothing at v (Variable x) z s h = absurd (h x refl)
swapped_nothing at v w z s h = refl

pub swapped_with_nothing : (at : Place) (v : meant.Value) (x : VarId) (w : Value) (s : State) → ((y : VarId) → w ≡ Variable y → ⊥) → swap_delta at v (meant.Variable x ∷ value_seen w ∷ []) s ≡ Went meant.Nothing s
swapped_with_nothing at v x (Variable y) s h = absurd (h y refl)
swapped_with_nothing at v x w s h = refl
