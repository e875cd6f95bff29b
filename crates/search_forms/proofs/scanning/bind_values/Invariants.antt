use Rattle.std.proofs.Common.{◌≡◌, ℕ, List, length, map}
use Rattle.std.specs.Prelude.{zip}
use Rattle.checked_tree.specs.Shape.{shape_of_generator}
use Rattle.comet_meaning.proofs.Rows.{NamesLeft}
use Rattle.comet_meaning.specs.Candidates.{named}
use Rattle.comet_meaning.specs.Generators.{bind}
use Rattle.run_steps.specs.OfRunState.Views.{state_seen}
use Rattle.search_forms.proofs.ChoiceLaws.{pair_bound}
use Rattle.search_forms.proofs.scanning.bind_values.Given as goal

-- the names from here on still get their values
abbrev pub invariant-loop-generator : goal.invariant-loop-generator
invariant-loop-generator l = record { left : (printed : _) → NamesLeft pair_bound (zip l.generators l.values) (length l.yielded) (state_seen l.s printed) (bind (named (map shape_of_generator l.generators) l.values) (state_seen l.fn.s printed)); fuel : l.s.fuel ≡ l.fn.s.fuel }
