use Rattle.std.proofs.Common.{ap, ◌∙◌, rules, arith, ◌<◌, ◌-◌, length}
use Rattle.std.specs.Prelude.{take}
use Rattle.type_scopes.specs.Index.{bindings_of}
use Rattle.type_scopes.proofs.Indexes.{first_names}
use Rattle.type_scopes.proofs.names.Names.close.Goals as goal

pub loop-self-preserved : goal.loop-self-preserved
loop-self-preserved c =
    let low : c.args.count < length c.loop-self.self-inside.entries.items = search rules in (
      c.hide_last.ensures.indexed,
      ap (λ es. take c.args.count (bindings_of es)) c.hide_last.ensures.rest
          ∙ first_names c.loop-self.self-inside.entries.items c.args.count (length c.loop-self.self-inside.entries.items - 1) (omega (arith, low))
          ∙ c.loop-self.invariant.1,
    )
