-- The operation is no deeper than a term may be, or it is refused.
use Rattle.std.proofs.Common.{arith}
use Rattle.run_solvers.proofs.BuiltLaws.{node_built}
use Rattle.run_solvers.proofs.NodeLaws.{node_deep, node_made}
use Rattle.run_solvers.proofs.built.node_over.Goals as goal

pub returns-then-row-ge-MAX_TERM_DEPTH-clause-did : goal.returns-then-row-ge-MAX_TERM_DEPTH-clause-did
returns-then-row-ge-MAX_TERM_DEPTH-clause-did c = λ plain are s. node_deep c.args.op c.args.row.terms c.args.at c.args.row.deepest plain are s c.if-row-ge-MAX_TERM_DEPTH.true

pub invariant_of-result : goal.invariant_of-result
invariant_of-result c = node_built c.args.op c.args.row.terms c.args.at c.args.row.deepest c.requires.built.0 c.requires.built.1 c.requires.users (let lt = c.if-row-ge-MAX_TERM_DEPTH.false in omega (arith, lt))

pub returns-clause-did : goal.returns-clause-did
returns-clause-did c = λ plain are s. node_made c.args.op c.args.row.terms c.args.at c.args.row.deepest plain are s (let lt = c.if-row-ge-MAX_TERM_DEPTH.false in omega (arith, lt))
