use Rattle.std.proofs.Common.{◌≡◌, ◌∙◌, ap, rules, w64, to_z, of_z}
use Rattle.model_view.specs.Building.{constant}
use Rattle.run_solvers.proofs.BuiltLaws.{constant_built, constant_seen}
use Rattle.run_solvers.proofs.built.Built.constant.Goals as goal

pub leaf-requires : goal.leaf-requires
leaf-requires c = constant_built (to_z w64 (of_z w64 c.args.number))

pub returns : goal.returns
returns c =
    let same : to_z w64 (of_z w64 c.args.number) ≡ c.args.number = search rules in
    c.leaf.ensures ∙ constant_seen (to_z w64 (of_z w64 c.args.number)) ∙ ap constant same
