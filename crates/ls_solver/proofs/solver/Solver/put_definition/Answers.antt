use Rattle.std.proofs.Common.{ap, arith, rules, ◌∙◌, Some}
use Rattle.std.specs.Prelude.{is_some}
use Rattle.solver_models.proofs.DefineLaws.{early_parts, definition_there, unchanged_there}
use Rattle.solver_models.proofs.ModelLaws.{defs_few}
use Rattle.ls_solver.proofs.solver.Solver.put_definition.Goals as goal
use Rattle.ls_solver.specs.Solvers.{rules_seen}
use Rattle.ls_solver.proofs.HeldLaws.{held_from, open_stays}
use Rattle.solver_models.specs.State.{SolverState}

pub push_definition-requires : goal.push_definition-requires
push_definition-requires g c =
    let le = defs_few c.self.inside.model c.self.invariant.kept.formed in
    omega (arith, le, c.self.invariant.kept.few)

pub invariant_of-self : goal.invariant_of-self
invariant_of-self g c =
    let s = c.self.inside in
    let shut = ap (λ (t : SolverState). t.closed) c.self.view_is ∙ (early_parts c.args.self.now c.args.definition.var c.args.definition.term c.requires.early).0 in
    held_from g.N.NodeRule.rule g.N.NodeRule.held g.N.NodeRule.ready s.model c.push_definition.new.model s.assignment.items c.mark.new.marks.items s.waiting.items (Some c.args.counted) s.closed s.usable shut
    (definition_there s.number s.model c.push_definition.new.model s.assignment.items s.marks.items c.mark.new.marks.items (rules_seen g.N.NodeRule.rule s.model s.waiting.items s.closed) s.terms c.args.counted (is_some s.closed) s.usable c.args.definition c.self.invariant.kept
    c.args.self.now c.self.view_is c.in-Ok.ensures.ok c.mark.ensures c.requires.early c.requires.shallow c.requires.kind c.requires.users c.requires.counted) c.self.invariant.waits

pub invariant_of-self-in-Err-1 : goal.invariant_of-self-in-Err-1
invariant_of-self-in-Err-1 g c =
    let s = c.self.inside in
    let shut = ap (λ (t : SolverState). t.closed) c.self.view_is ∙ (early_parts c.args.self.now c.args.definition.var c.args.definition.term c.requires.early).0 in
    held_from g.N.NodeRule.rule g.N.NodeRule.held g.N.NodeRule.ready s.model c.push_definition.new.model s.assignment.items s.marks.items s.waiting.items s.terms s.closed s.usable shut
    (unchanged_there s.number s.model c.push_definition.new.model s.assignment.items s.marks.items s.marks.items (rules_seen g.N.NodeRule.rule s.model s.waiting.items s.closed) s.terms c.args.counted (is_some s.closed) s.usable c.args.definition c.self.invariant.kept
    c.args.self.now c.self.view_is c.in-Err.ensures.err c.requires.early) c.self.invariant.waits

pub returns-in-Ok-clause-defined : goal.returns-in-Ok-clause-defined
returns-in-Ok-clause-defined g c =
    let s = c.self.inside in
    let shut = ap (λ (t : SolverState). t.closed) c.self.view_is ∙ (early_parts c.args.self.now c.args.definition.var c.args.definition.term c.requires.early).0 in
    let same = open_stays c.self.invariant c.push_definition.new.model shut in
    search (rules, same)

pub returns-in-Err-clause-kept : goal.returns-in-Err-clause-kept
returns-in-Err-clause-kept g c =
    let s = c.self.inside in
    let shut = ap (λ (t : SolverState). t.closed) c.self.view_is ∙ (early_parts c.args.self.now c.args.definition.var c.args.definition.term c.requires.early).0 in
    let same = open_stays c.self.invariant c.push_definition.new.model shut in
    search (rules, same)
