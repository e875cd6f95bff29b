-- It is in the first argument that has one.
use Rattle.std.proofs.Common.{sym, ◌∙◌}
use Rattle.run_solvers.proofs.FirstLaws.{first_found_in, none_found_in, none_more, none_told}
use Rattle.run_solvers.proofs.firsts.+first_variable.Goals as goal

pub returns-in-Some : goal.returns-in-Some
returns-in-Some t c =
    sym (first_found_in c.args.term.now c.in-Node.op c.in-Node.args c.in-Node.place c.deref-arg-items.result.now c.loop-arg.arg-index c.arg-item.result c.in-Some.variable
    c.in-Node.is c.deref-arg-items.ensures.value c.loop-arg-test.true c.arg-item.is c.loop-arg.invariant (sym c.first_variable.ensures ∙ c.in-Some.is))

pub loop-arg-preserved : goal.loop-arg-preserved
loop-arg-preserved t c =
    none_more c.deref-arg-items.result.now c.loop-arg.arg-index c.arg-item.result c.loop-arg-test.true c.arg-item.is c.loop-arg.invariant
    (sym c.first_variable.ensures ∙ none_told _ c.in_default.not-Some)

pub returns-after-loop-arg : goal.returns-after-loop-arg
returns-after-loop-arg t c =
    sym (none_found_in c.args.term.now c.in-Node.op c.in-Node.args c.in-Node.place c.deref-arg-items.result.now c.loop-arg.arg-index
    c.in-Node.is c.deref-arg-items.ensures.value c.loop-arg-test.false c.loop-arg.invariant)
