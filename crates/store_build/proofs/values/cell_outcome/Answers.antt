use Rattle.std.proofs.Common.{◌≡◌, ℤ, sym, subst}
use Rattle.std.specs.Int.{w64}
use Rattle.std.proofs.lemmas.Int.{to_z-of_z}
use Rattle.cbl_base.specs.declared.input.Input.TheVariants.{Int}
use Rattle.store_turns.specs.declared.outcome.Outcome.TheVariants.{Value}
use Rattle.store_turns.specs.Meaning.{ids_of}
use Rattle.store_build.specs.Building.{cell_outcome, values_in}
use Rattle.store_build.proofs.ValueLemmas.{cell_free, cell_defined}
use Rattle.store_build.proofs.values.cell_outcome.Goals as goal

pub returns-in-None : goal.returns-in-None
returns-in-None c =
    subst (λ (n : ℤ). Value (Int n) ≡ cell_outcome c.args.number (ids_of c.args.ids.now) (values_in c.args.outcomes.now (ids_of c.args.ids.now))) (sym (to_z-of_z w64 c.args.number c.ranges.number)) (cell_free c.args.outcomes.now c.args.number c.args.ids.now c.in-None.ensures.value)

pub returns-in-Some : goal.returns-in-Some
returns-in-Some c = cell_defined c.args.outcomes.now c.args.number c.args.ids.now c.in-Some.id.now c.copied.result c.in-Some.ensures.value c.requires.one _ c.value_at.ensures c.copied.ensures
