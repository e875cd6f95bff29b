use Rattle.std.proofs.Common.{◌<◌, ap, length, rules, subst, sym, ◌∙◌, Some}
use Rattle.std.specs.Prelude.{is_some}
use Rattle.solver_models.specs.State.{SolverState}
use Rattle.solver_models.proofs.AddLaws.{early_parts, member_there, member_within, no_member_there}
use Rattle.term_model.specs.Posting.{totals_by}
use Rattle.ls_solver.proofs.solver.Solver.put_member.Goals as goal
use Rattle.ls_solver.specs.Solvers.{rules_seen}
use Rattle.ls_solver.proofs.HeldLaws.{held_from, open_stays}

pub push_member-requires : goal.push_member-requires
push_member-requires g c =
    subst (λ (t : SolverState). c.args.k.index < length (totals_by t.model c.args.k.side)) (sym c.self.view_is)
    (member_within c.args.self.now c.args.k c.args.member.term c.args.member.weight c.requires.early)

pub invariant_of-self : goal.invariant_of-self
invariant_of-self g c =
    let s = c.self.inside in
    let shut = ap (λ (t : SolverState). t.closed) c.self.view_is ∙ (early_parts c.args.self.now c.args.k c.args.member.term c.args.member.weight c.requires.early).0 in
    held_from g.N.NodeRule.rule g.N.NodeRule.held g.N.NodeRule.ready s.model c.push_member.new.model s.assignment.items s.marks.items s.waiting.items (Some c.args.counted) s.closed s.usable shut
    (member_there s.number s.model c.push_member.new.model s.assignment.items s.marks.items (rules_seen g.N.NodeRule.rule s.model s.waiting.items s.closed) s.terms c.args.counted (is_some s.closed) s.usable c.args.k c.args.member c.self.invariant.kept
    c.args.self.now c.self.view_is c.in-Ok.ensures.ok c.requires.early c.requires.shallow c.requires.kind c.requires.users c.requires.counted) c.self.invariant.waits

pub invariant_of-self-in-Err-1 : goal.invariant_of-self-in-Err-1
invariant_of-self-in-Err-1 g c =
    let s = c.self.inside in
    let shut = ap (λ (t : SolverState). t.closed) c.self.view_is ∙ (early_parts c.args.self.now c.args.k c.args.member.term c.args.member.weight c.requires.early).0 in
    held_from g.N.NodeRule.rule g.N.NodeRule.held g.N.NodeRule.ready s.model c.push_member.new.model s.assignment.items s.marks.items s.waiting.items s.terms s.closed s.usable shut
    (no_member_there s.number s.model c.push_member.new.model s.assignment.items s.marks.items (rules_seen g.N.NodeRule.rule s.model s.waiting.items s.closed) s.terms c.args.counted (is_some s.closed) s.usable c.args.k c.args.member c.self.invariant.kept
    c.args.self.now c.self.view_is c.in-Err.ensures.err c.requires.early) c.self.invariant.waits

pub returns-in-Ok-clause-added : goal.returns-in-Ok-clause-added
returns-in-Ok-clause-added g c =
    let s = c.self.inside in
    let shut = ap (λ (t : SolverState). t.closed) c.self.view_is ∙ (early_parts c.args.self.now c.args.k c.args.member.term c.args.member.weight c.requires.early).0 in
    let same = open_stays c.self.invariant c.push_member.new.model shut in
    search (rules, same)

pub returns-in-Err-clause-kept : goal.returns-in-Err-clause-kept
returns-in-Err-clause-kept g c =
    let s = c.self.inside in
    let shut = ap (λ (t : SolverState). t.closed) c.self.view_is ∙ (early_parts c.args.self.now c.args.k c.args.member.term c.args.member.weight c.requires.early).0 in
    let same = open_stays c.self.invariant c.push_member.new.model shut in
    search (rules, same)
