use Rattle.std.proofs.Common.{List, ap, ◌∙◌, map}
use Rattle.term_model.specs.Definitions.{named_by}
use Rattle.term_model.specs.declared.model.Definition.{Definition}
use Rattle.solver_models.proofs.PlanLaws.{are_dependencies}
use Rattle.solver_models.proofs.cycle.dependencies.Goals as goal

pub returns : goal.returns
returns c = are_dependencies c.args.model.now c.in_ok-table.table.items c.in_ok-deps.deps.items c.requires c.in_ok-table.ensures.count c.in_ok-table.ensures.each
    (c.in_ok-deps.ensures ∙ ap (λ (ds : List Definition). map (named_by ds) c.deref-2.result.now) c.deref.ensures.value ∙ ap (map (named_by c.args.model.now.defs.items)) c.deref-2.ensures.value)
