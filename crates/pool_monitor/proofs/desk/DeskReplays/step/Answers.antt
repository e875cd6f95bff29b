use Rattle.std.proofs.Common.{◌≡◌, ◌<◌, length, set, refl, ap, sym, subst, arith, Some, MatchResult}
use Rattle.std.proofs.lemmas.Option.{slice_get_read}
use Rattle.pool_monitor.specs.declared.request.DeskRequest.{DeskRequest}
use Rattle.pool_monitor.specs.declared.request.DeskRequest.TheVariants.{Pool}
use Rattle.pool_monitor.specs.Desk.{DeskState, desk_step, IsDeclared}
use Rattle.pool_monitor.proofs.Steps.{steps}
use Rattle.pool_monitor.proofs.desk.DeskReplays.step.Goals as goal

pub returns-in-Pool-clause-step : goal.returns-in-Pool-clause-step
returns-in-Pool-clause-step c =
    let items = c.self.inside.pools.items in
    let q = c.in-Pool.request in
    let named = c.pool.ensures in
    let declared : IsDeclared c.args.self.now (Pool q) = subst (λ (r : DeskRequest). IsDeclared c.args.self.now r) c.in-Pool.is c.requires in
    let long : length items ≡ length c.args.self.now.pools = ap (λ (d : DeskState). length d.pools) c.self.view_is in
    let within : c.pool.result < length items = omega (arith, declared, long, named) in
    subst (λ (r : DeskRequest). MatchResult c.step-in-Pool.result (λ x. desk_step c.args.self.now r ≡ Some (record { board = c.self.inside.board; pools = set items c.pool.result c.step-in-Pool.new.self }, x)) (λ _. record { board = c.self.inside.board; pools = set items c.pool.result c.step-in-Pool.new.self } ≡ c.args.self.now)) (sym c.in-Pool.is)
    (subst (λ (desk : DeskState). MatchResult c.step-in-Pool.result (λ x. desk_step desk (Pool q) ≡ Some (record { board = c.self.inside.board; pools = set items c.pool.result c.step-in-Pool.new.self }, x)) (λ _. record { board = c.self.inside.board; pools = set items c.pool.result c.step-in-Pool.new.self } ≡ desk)) c.self.view_is
    (steps (record { board = c.self.inside.board; pools = items }) q c.pool.result c.index_mut.result.now c.step-in-Pool.new.self c.step-in-Pool.result named (slice_get_read items (length items) c.pool.result c.index_mut.result.now refl within c.index_mut.ensures.value) c.step-in-Pool.ensures.step))
