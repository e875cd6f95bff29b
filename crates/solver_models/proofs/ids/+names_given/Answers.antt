use Rattle.std.proofs.Common.{sym, ◌∙◌}
use Rattle.solver_models.specs.Ids.{is_given}
use Rattle.solver_models.proofs.TermLaws.{names_all, names_fail}
use Rattle.solver_models.proofs.ids.+names_given.Goals as goal

pub returns-then-not-names_given : goal.returns-then-not-names_given
returns-then-not-names_given t c =
    sym (names_fail (is_given c.args.number c.args.count) c.args.term.now c.in-Node.op c.in-Node.args c.in-Node.place c.deref-arg-items.result.now c.loop-arg.arg-index c.arg-item.result
    c.in-Node.is c.deref-arg-items.ensures.value c.loop-arg-test.true c.arg-item.is (sym c.names_given.ensures ∙ c.if-not-names_given.true))

pub returns-after-loop-arg : goal.returns-after-loop-arg
returns-after-loop-arg t c =
    sym (names_all (is_given c.args.number c.args.count) c.args.term.now c.in-Node.op c.in-Node.args c.in-Node.place c.deref-arg-items.result.now c.loop-arg.arg-index
    c.in-Node.is c.deref-arg-items.ensures.value c.loop-arg-test.false c.loop-arg.invariant)
