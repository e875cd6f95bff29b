-- The constraint is there, or stops as it is meant to.
use Rattle.std.proofs.Common.{◌≡◌, ℤ, None, refl, sym, ap, ◌∙◌, subst, w64, to_z, of_z, rules, Result, length}
use Rattle.posted_users.specs.KeptOf.{kept_of}
use Rattle.ls_solver.specs.OfSolverModels.UserPosting.{user_term}
use Rattle.ls_solver.specs.OfSolverModels.declared.totals.TotalId.{TotalId}
use Rattle.ls_solver.specs.Adding.{member_refusal}
use Rattle.ls_solver.specs.Answers.{IsRefusal}
use Rattle.ls_solver.specs.Totals.{of_system, whole_of}
use Rattle.run_solvers.specs.Changing.{posted_user_one}
use Rattle.run_solvers.specs.Makes.{Ends, Tries}
use Rattle.run_solvers.specs.Views.{held_seen, waits}
use Rattle.run_solvers.proofs.UserLaws.{system_is, user_posted, user_sets, user_stops, user_whole}
use Rattle.run_solvers.proofs.held.Held.post_numbers.Goals as goal

pub post_node-requires-clause-usable : goal.post_node-requires-clause-usable
post_node-requires-clause-usable g c = c.requires.kept.0.usable

pub post_node-requires-clause-rule : goal.post_node-requires-clause-rule
post_node-requires-clause-rule g c = c.requires.rule

pub post_node-requires-clause-kinds : goal.post_node-requires-clause-kinds
post_node-requires-clause-kinds g c = λ own. c.requires.kinds

pub post_node-requires-clause-users : goal.post_node-requires-clause-users
post_node-requires-clause-users g c = c.requires.users

pub returns-in-Ok : goal.returns-in-Ok
returns-in-Ok g c = λ plain are.
    let old = c.args.self.now in
    let k : TotalId = of_system (record { solver = c.args.total.solver; index = c.args.total.index }) in
    let rule = kept_of (g.N.NodeRule.rule c.args.node) in
    let own = c.requires.own ∙ sym c.requires.kept.0.number_ in
    let weight = to_z w64 (of_z w64 c.args.weight) in
    let same : to_z w64 (of_z w64 c.args.weight) ≡ c.args.weight = search rules in
    let meant = user_posted old.solver old.names (waits old) c.args.at k c.args.row.terms weight rule own c.args.row.deepest plain are c.requires.deep c.requires.kinds _ c.in-Ok.ensures.answer c.in-Ok.ensures.posted in record {
      meant = ap (λ (z : ℤ). posted_user_one c.args.at c.args.total.solver (whole_of c.args.total) rule plain z (held_seen old)) (sym same)
          ∙ ap (λ (t : TotalId). posted_user_one c.args.at t.solver (whole_of t) rule plain weight (held_seen old)) (sym (system_is c.args.total c.requires.side)) ∙ meant;
      kept = (
        user_whole old.solver old.names (waits old) c.args.at k c.args.row.terms weight rule own _ old.number c.in-Ok.ensures.answer c.requires.kept.0 c.in-Ok.ensures.posted,
        user_sets old.solver old.names (waits old) c.args.at k c.args.row.terms weight rule own _ c.keeps_form.ensures.formed c.requires.kept.1 c.in-Ok.ensures.posted,
      );
      number = refl;
    }

pub returns-in-Err : goal.returns-in-Err
returns-in-Err g c = λ plain are.
    let old = c.args.self.now in
    let k : TotalId = of_system (record { solver = c.args.total.solver; index = c.args.total.index }) in
    let rule = kept_of (g.N.NodeRule.rule c.args.node) in
    let own = c.requires.own ∙ sym c.requires.kept.0.number_ in
    let weight = to_z w64 (of_z w64 c.args.weight) in
    let same : to_z w64 (of_z w64 c.args.weight) ≡ c.args.weight = search rules in record {
      meant = subst (λ (t : TotalId). Ends c.stop_of.result (posted_user_one c.args.at t.solver (whole_of t) rule plain c.args.weight (held_seen old))) (system_is c.args.total c.requires.side)
          (subst (λ (z : ℤ). Ends c.stop_of.result (posted_user_one c.args.at k.solver (whole_of k) rule plain z (held_seen old))) same
          (user_stops old.solver old.names (waits old) c.args.at k c.args.row.terms weight rule own c.args.row.deepest plain are c.requires.deep c.requires.kinds c.in-Err.fault c.stop_of.result c.in-Err.ensures.answer c.stop_of.ensures));
      kept = tt;
      number = refl;
    }
