use Rattle.std.proofs.Common.{◌<◌, ◌++◌, [], ◌∷◌, Some, length, ap, rules, subst, sym, ◌∙◌}
use Rattle.std.specs.Prelude.{is_some}
use Rattle.posted_users.specs.KeptOf.{kept_of}
use Rattle.solver_store.specs.KeptRules.{waiting_rules}
use Rattle.solver_models.proofs.ListLaws.{map_push}
use Rattle.solver_models.specs.State.{SolverState}
use Rattle.solver_models.proofs.AddLaws.{early_parts, member_within, no_member_there, user_there}
use Rattle.term_model.specs.Posting.{totals_by}
use Rattle.ls_solver.specs.Solvers.{IsHeld, rules_seen}
use Rattle.ls_solver.proofs.HeldLaws.{held_from, held_more, open_grows, open_stays}
use Rattle.ls_solver.proofs.solver.Solver.put_node.Goals as goal

pub put_place-put-requires : goal.put_place-put-requires
put_place-put-requires g c =
    subst (λ (t : SolverState). c.args.k.index < length (totals_by t.model c.args.k.side)) (sym c.self.view_is)
    (member_within c.args.self.now c.args.k c.args.member.term c.args.member.weight c.requires.early)

pub invariant_of-self : goal.invariant_of-self
invariant_of-self g c =
    let s = c.self.inside in
    let rule = kept_of (g.N.NodeRule.rule c.args.node) in
    let shut = ap (λ (t : SolverState). t.closed) c.self.view_is ∙ (early_parts c.args.self.now c.args.k c.args.member.term c.args.member.weight c.requires.early).0 in
    let can = ap (λ (t : SolverState). t.usable) c.self.view_is ∙ c.requires.usable in
    subst (λ ns. IsHeld g.N.NodeRule.rule g.N.NodeRule.held g.N.NodeRule.ready c.put_place-put.new.model s.assignment.items s.marks.items ns (Some c.args.counted) s.closed s.usable)
    (sym (c.push_reserved.ensures.items ∙ ap (λ ns. ns ++ c.args.node ∷ []) c.put_place-put.ensures.same))
    (held_more g.N.NodeRule.rule g.N.NodeRule.held g.N.NodeRule.ready s.model c.put_place-put.new.model s.assignment.items s.marks.items s.waiting.items c.args.node (Some c.args.counted) s.closed s.usable shut c.requires.rule
    (user_there s.number s.model c.put_place-put.new.model s.assignment.items s.marks.items (rules_seen g.N.NodeRule.rule s.model s.waiting.items s.closed) s.terms c.args.counted (is_some s.closed) s.usable c.args.k c.args.member c.self.invariant.kept
    c.args.self.now c.self.view_is rule can c.in-Ok.ensures.ok c.requires.early c.requires.shallow c.requires.kind c.requires.users c.requires.counted) c.self.invariant.waits)

pub invariant_of-self-in-Err-1 : goal.invariant_of-self-in-Err-1
invariant_of-self-in-Err-1 g c =
    let s = c.self.inside in
    let shut = ap (λ (t : SolverState). t.closed) c.self.view_is ∙ (early_parts c.args.self.now c.args.k c.args.member.term c.args.member.weight c.requires.early).0 in
    subst (λ ns. IsHeld g.N.NodeRule.rule g.N.NodeRule.held g.N.NodeRule.ready c.put_place-put.new.model s.assignment.items s.marks.items ns s.terms s.closed s.usable) (sym c.put_place-put.ensures.same)
    (held_from g.N.NodeRule.rule g.N.NodeRule.held g.N.NodeRule.ready s.model c.put_place-put.new.model s.assignment.items s.marks.items s.waiting.items s.terms s.closed s.usable shut
    (no_member_there s.number s.model c.put_place-put.new.model s.assignment.items s.marks.items (rules_seen g.N.NodeRule.rule s.model s.waiting.items s.closed) s.terms c.args.counted (is_some s.closed) s.usable c.args.k c.args.member c.self.invariant.kept
    c.args.self.now c.self.view_is c.in-Err.ensures.err c.requires.early) c.self.invariant.waits)

pub returns-in-Ok-clause-posted : goal.returns-in-Ok-clause-posted
returns-in-Ok-clause-posted g c =
    let s = c.self.inside in
    let shut = ap (λ (t : SolverState). t.closed) c.self.view_is ∙ (early_parts c.args.self.now c.args.k c.args.member.term c.args.member.weight c.requires.early).0 in
    let rule = kept_of (g.N.NodeRule.rule c.args.node) in
    let more = ap (waiting_rules g.N.NodeRule.rule) c.push_reserved.ensures.items ∙ map_push (λ n. kept_of (g.N.NodeRule.rule n)) c.put_place-put.new.waiting.items c.args.node in
    let same = open_grows c.self.invariant c.put_place-put.new.model c.put_place-put.new.waiting.items c.push_reserved.new.self.items rule shut c.put_place-put.ensures.same more in
    search (rules, same)

pub returns-in-Err-clause-kept : goal.returns-in-Err-clause-kept
returns-in-Err-clause-kept g c =
    let s = c.self.inside in
    let shut = ap (λ (t : SolverState). t.closed) c.self.view_is ∙ (early_parts c.args.self.now c.args.k c.args.member.term c.args.member.weight c.requires.early).0 in
    let same = open_stays c.self.invariant c.put_place-put.new.model shut in
    search (rules, same)
