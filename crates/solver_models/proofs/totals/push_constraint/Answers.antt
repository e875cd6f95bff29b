use Rattle.std.proofs.Common.{refl}
use Rattle.solver_models.proofs.GrowLaws.{gets_member}
use Rattle.term_model.specs.declared.posting.Side.TheVariants.{Systems}
use Rattle.solver_models.proofs.totals.push_constraint.Goals as goal

pub returns-clause-ok : goal.returns-clause-ok
returns-clause-ok c =
    gets_member c.grow_at.result c.is_err.result c.args.model.now (record c.args.model.now { systems = c.grow_at.new.totals; posted = c.push.new.self }) Systems c.args.k c.in_ok-number.number c.args.member c.deref.result.now
    c.is_err.ensures.value c.if-is_err.false c.grow_at.ensures.ok c.deref.ensures.value c.in_ok-number.ensures refl refl refl c.in_ok-push.ensures.items
