use Rattle.solver_models.proofs.GrowLaws.{grows_from}
use Rattle.solver_models.proofs.totals.grow_at.Goals as goal

pub returns-clause-ok : goal.returns-clause-ok
returns-clause-ok c = grows_from c.grow.result c.args.totals.now.items c.args.k c.index_mut.result.now c.grow.new.total c.args.member c.requires c.index_mut.ensures.value c.grow.ensures.place c.grow.ensures.members
