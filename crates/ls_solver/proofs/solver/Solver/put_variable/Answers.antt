use Rattle.std.proofs.Common.{ap, ◌∙◌, rules, w64}
use Rattle.std.proofs.lemmas.Int.{to_z-of_z}
use Rattle.std.specs.Prelude.{is_some}
use Rattle.solver_models.specs.Declaring.{variable_refusal}
use Rattle.solver_models.proofs.KeptLaws.{kept_pushed, open_room}
use Rattle.ls_solver.proofs.solver.Solver.put_variable.Goals as goal
use Rattle.ls_solver.specs.Solvers.{rules_seen}
use Rattle.ls_solver.proofs.HeldLaws.{held_from, open_stays}

pub invariant_of-self : goal.invariant_of-self
invariant_of-self g c =
    let s = c.self.inside in
    let shut = (open_room (is_some s.closed) _ (ap variable_refusal c.self.view_is ∙ c.requires)).0 in
    held_from g.N.NodeRule.rule g.N.NodeRule.held g.N.NodeRule.ready s.model c.push_variable.new.model c.push_variable.new.assignment.items c.push_variable.new.marks.items s.waiting.items s.terms s.closed s.usable shut
    (let new = c.push_variable.new in
    let room = open_room (is_some s.closed) _ (ap variable_refusal c.self.view_is ∙ c.requires) in
    kept_pushed c.push_variable.result s.model new.model c.args.decl c.args.start s.assignment.items new.assignment.items s.marks.items new.marks.items (rules_seen g.N.NodeRule.rule s.model s.waiting.items s.closed) s.terms (is_some s.closed) s.usable
    c.push_variable.ensures.declared (simp (to_z-of_z w64 c.args.start c.ranges.start) at c.push_variable.ensures.assigned) c.push_variable.ensures.marked
    c.push_variable.ensures.same_model c.push_variable.ensures.same_assignment c.push_variable.ensures.same_marks room.0 room.1 c.self.invariant.kept) c.self.invariant.waits

pub returns-clause-declared : goal.returns-clause-declared
returns-clause-declared g c =
    let s = c.self.inside in
    let shut = (open_room (is_some s.closed) _ (ap variable_refusal c.self.view_is ∙ c.requires)).0 in
    let same = open_stays c.self.invariant c.push_variable.new.model shut in
    search (rules, same)

pub returns-clause-kept : goal.returns-clause-kept
returns-clause-kept g c =
    let s = c.self.inside in
    let shut = (open_room (is_some s.closed) _ (ap variable_refusal c.self.view_is ∙ c.requires)).0 in
    let same = open_stays c.self.invariant c.push_variable.new.model shut in
    search (rules, same)
