use Rattle.comet_meaning.specs.ConstraintForms.{user_places}
use Rattle.constraint_forms.proofs.functions.user_places.Goals as goal

pub returns : goal.returns
unfolding user_places
returns g c = record { did = c.places_with.ensures.did _ _ c.term_cells-cells.ensures.did }
