use Rattle.std.proofs.Common.{◌≡◌, ◌<◌, ℕ, true, length, arith}
use Rattle.term_model.specs.Users.{user_rules}
use Rattle.model_values.specs.Settling.{is_known}
use Rattle.model_values.proofs.Settled.{env_right, round_more}
use Rattle.model_values.proofs.settling.outcomes_of.Goals as goal

pub loop-round-preserved : goal.loop-round-preserved
loop-round-preserved g c = (
  c.in_ok-settle_each.ensures.right,
  λ acyclic. round_more c.args.tables.now.model.now c.requires.well_formed acyclic c.loop-round._round c.loop-round.cells.items c.settle_each.new.cells.items (c.loop-round.invariant.1 acyclic) c.in_ok-settle_each.ensures.settled,
)

pub returns-clause-env : goal.returns-clause-env
returns-clause-env g c =
    let tables = c.args.tables.now in
    let M = tables.model.now in
    let all : (i : ℕ) → i < length M.vars.items → is_known c.loop-round.cells.items i ≡ true = λ i lt.
    let ranks = c.requires.acyclic.within i lt in
    let below : c.requires.acyclic.rank i < c.loop-round._round = omega (arith, ranks, c.loop-round-test.false, c.len-count.ensures) in
    c.loop-round.invariant.1 c.requires.acyclic i lt below in
    env_right (user_rules (g.U.UserValues.viol_of tables.users.now) (g.U.UserValues.viol_at tables.users.now)) M tables.assignment.now c.requires.well_formed c.requires.assigned c.loop-round.cells.items c.loop-round.invariant.0 all
