use Rattle.std.proofs.Common.{refl, w64, rules}
use Rattle.std.specs.Prelude.{FitsSigned}
use Rattle.std.proofs.lemmas.Int.{to_z-of_z}
use Rattle.node_num.proofs.junction.JunctionNumberNode.value.Goals as goal

pub returns : goal.returns
returns c =
    let fits : FitsSigned w64 c.value_with.result = search rules in
    rw (to_z-of_z w64 c.value_with.result fits) (c.value_with.ensures c.args.self.now.numbers.items refl c.requires)
