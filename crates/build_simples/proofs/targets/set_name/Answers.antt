use Rattle.std.proofs.Common.{ap, ◌∙◌}
use Rattle.comet_syntax.specs.declared.tree.statements.WriteOperator.TheVariants as writes
use Rattle.comet_syntax.specs.Written.Declarations.{whole_text}
use Rattle.comet_syntax.specs.Written.Statements.{write_text}
use Rattle.parse_stacks.proofs.Trees.{written_name}
use Rattle.build_simples.proofs.targets.set_name.Goals as goal

pub returns-in_ok-made-in-Value : goal.returns-in_ok-made-in-Value
returns-in_ok-made-in-Value c = rw c.in-Value.is (c.in_ok-made-in-Value.ensures ∙ ap (λ w. write_text writes.Set w (whole_text c.in-Value.value)) (written_name c.args.name))
