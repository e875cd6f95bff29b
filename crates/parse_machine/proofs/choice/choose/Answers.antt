use Rattle.std.proofs.Common.{◌∷◌, [], sym, subst}
use Rattle.cbl_base.specs.declared.limits.TheConstants.{MAX_NESTING}
use Rattle.comet_syntax.specs.Grammar.Symbols.{same}
use Rattle.parse_base.specs.Promise.{Fails}
use Rattle.parse_machine.specs.Parts.{part_of}
use Rattle.parse_machine.specs.Rows.{row_of}
use Rattle.parse_machine.proofs.Choices.{chosen, too_deep, refused}
use Rattle.parse_machine.proofs.choice.choose.Goals as goal

pub returns-then-depth-clause-err : goal.returns-then-depth-clause-err
returns-then-depth-clause-err c =
    too_deep (part_of c.args.part) c.args.depth c.args.tokens.now _ (row_of c.in-Some.row.now) c.rows.ensures c.in-Some.ensures c.if-depth.true c.requires

pub returns-else-depth-clause-ok : goal.returns-else-depth-clause-ok
returns-else-depth-clause-ok c =
    chosen (part_of c.args.part) c.args.depth c.args.tokens.now _ (row_of c.in-Some.row.now) c.rows.ensures c.in-Some.ensures c.if-depth.false c.requires

pub returns-in-None-clause-err : goal.returns-in-None-clause-err
returns-in-None-clause-err c =
    subst (λ z. Fails MAX_NESTING (same (part_of c.args.part) ∷ []) c.args.depth c.args.tokens.now z) (sym c.refuse.ensures)
    (refused (part_of c.args.part) c.args.depth c.args.tokens.now _ c.rows.ensures c.in-None.ensures)
