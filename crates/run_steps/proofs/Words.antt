-- Acts whose numbers are held in words.
use Rattle.std.proofs.Common.{◌≡◌, subst, sym, ℤ, Result, to_z, of_z, w64, FitsSigned}
use Rattle.std.proofs.lemmas.Int.{to_z-of_z}
use Rattle.cbl_base.specs.declared.place.Place.{Place}
use Rattle.comet_meaning.specs.Values as values
use Rattle.comet_meaning.specs.State.{State}
use Rattle.comet_meaning.specs.Onward.{IsFront, left_by}
use Rattle.run_values.specs.declared.stop.Stop.{Stop}
use Rattle.run_values.specs.declared.values.Value.{Value}
use Rattle.run_values.specs.Did.{Did}
use Rattle.run_values.specs.Views.{value_seen}
use Rattle.run_objects.specs.OfRunState.declared.targets.Target.{Target}
use Rattle.run_objects.specs.OfRunState.Acts.{indexed, indexed_twice, index_written, cell_written, counted}
use Rattle.run_objects.specs.OfRunState.Targets.{target_seen}
use Rattle.run_steps.specs.Does.{Does}
use Rattle.run_steps.proofs.Exits.{act_does}
use Rattle.run_steps.proofs.Goes.{goes_indexed, goes_indexed_twice, goes_index_written, goes_cell_written, goes_counted}

module _ (s : State) (at : Place) (v : values.Value) where
  pub indexed_does : (r : Result Value Stop) (z : ℤ) → FitsSigned w64 z → Did value_seen r s (indexed at v (to_z w64 (of_z w64 z)) s) → Does value_seen r s (indexed at v z s)
  indexed_does r z f h = act_does value_seen r s (indexed at v z s) (subst (λ x. Did value_seen r s (indexed at v x s)) (to_z-of_z w64 z f) h) ((goes_indexed at v z).from s).printed

  pub indexed_twice_does : (r : Result Value Stop) (y z : ℤ) → FitsSigned w64 y → FitsSigned w64 z → Did value_seen r s (indexed_twice at v (to_z w64 (of_z w64 y)) (to_z w64 (of_z w64 z)) s) → Does value_seen r s (indexed_twice at v y z s)
  indexed_twice_does r y z f g h =
      act_does value_seen r s (indexed_twice at v y z s)
      (subst (λ x. Did value_seen r s (indexed_twice at v y x s)) (to_z-of_z w64 z g) (subst (λ x. Did value_seen r s (indexed_twice at v x (to_z w64 (of_z w64 z)) s)) (to_z-of_z w64 y f) h))
      ((goes_indexed_twice at v y z).from s).printed

  pub index_written_does : (r : Result Target Stop) (z : ℤ) → FitsSigned w64 z → Did target_seen r s (index_written at v (to_z w64 (of_z w64 z)) s) → Does target_seen r s (index_written at v z s)
  index_written_does r z f h = act_does target_seen r s (index_written at v z s) (subst (λ x. Did target_seen r s (index_written at v x s)) (to_z-of_z w64 z f) h) ((goes_index_written at v z).from s).printed

  pub cell_written_does : (r : Result Target Stop) (y z : ℤ) → FitsSigned w64 y → FitsSigned w64 z → Did target_seen r s (cell_written at v (to_z w64 (of_z w64 y)) (to_z w64 (of_z w64 z)) s) → Does target_seen r s (cell_written at v y z s)
  cell_written_does r y z f g h =
      act_does target_seen r s (cell_written at v y z s)
      (subst (λ x. Did target_seen r s (cell_written at v y x s)) (to_z-of_z w64 z g) (subst (λ x. Did target_seen r s (cell_written at v x (to_z w64 (of_z w64 z)) s)) (to_z-of_z w64 y f) h))
      ((goes_cell_written at v y z).from s).printed

  pub counted_does : (t : State) (place : Place) (r : Result Value Stop) (z : ℤ) → t.printed ≡ s.printed → FitsSigned w64 z → Did value_seen r t (counted at place v (to_z w64 (of_z w64 z)) s) → Does value_seen r t (counted at place v z s)
  counted_does t place r z e f h =
      act_does value_seen r t (counted at place v z s)
      (subst (λ x. Did value_seen r t (counted at place v x s)) (to_z-of_z w64 z f) h)
      (subst (λ p. IsFront p (left_by (counted at place v z s)).printed) (sym e) ((goes_counted at place v z).from s).printed)
