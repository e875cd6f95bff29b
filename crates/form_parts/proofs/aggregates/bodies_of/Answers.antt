use Rattle.std.proofs.Common.{◌<◌, arith, rules, map, w64, FitsSigned}
use Rattle.std.specs.Prelude.{FitsSigned}
use Rattle.std.proofs.lemmas.Int.{to_z-of_z}
use Rattle.run_steps.proofs.AggregateLaws.{advances_none}
use Rattle.form_parts.proofs.BodyLaws.{gathers, no_bodies, bodies_open, bodies_end, body_added, body_ends, all as all_bodies}
use Rattle.comet_meaning.proofs.GoingTerms.{goes_keyed}
use Rattle.form_parts.specs.Bodies.{body_seen}
use Rattle.run_steps.specs.Views.{part_or_none, part}
use Rattle.run_steps.proofs.TupleLaws.{went_fuel}
use Rattle.comet_meaning.proofs.GoingStatements.{goes_level}
use Rattle.run_steps.proofs.Exits.{exit}
use Rattle.run_steps.specs.OfRunState.Views.{state_seen}
use Rattle.form_parts.proofs.aggregates.bodies_of.Goals as goal

pub returns-then-generators-eq0 : goal.returns-then-generators-eq0
returns-then-generators-eq0 g c = record { did = rw c.new-bodies.ensures.items (no_bodies (g.W.Within.code c.args.inside.now) (g.W.Within.depth c.args.inside.now) c.args.at c.args.aggregate (part_or_none c.args.condition.now) (part c.args.body.now) c.args.generators.now (state_seen c.args.s.now (g.O.Outside.told c.args.out.now)) c.if-generators-eq0.true) }

pub returns-in_err-domain : goal.returns-in_err-domain
returns-in_err-domain g c = record { did = exit _ _ _ _ _ c.from_residual.ensures.1 (bodies_end (g.W.Within.code c.args.inside.now) (g.W.Within.depth c.args.inside.now) c.args.at c.args.aggregate (part_or_none c.args.condition.now) (part c.args.body.now) c.args.generators.now c.index-generators-0.result (omega (arith, c.if-generators-eq0.false)) c.index-generators-0.is (state_seen c.args.s.now (g.O.Outside.told c.args.out.now)) _ _ c.in_err-domain.ensures.did) }

pub loop-tuples-init : goal.loop-tuples-init
loop-tuples-init g c = record { left = rw (c.new-bodies.ensures.items, c.new.ensures.items, c.pending_of.ensures) (bodies_open (g.W.Within.code c.args.inside.now) (g.W.Within.depth c.args.inside.now) c.args.at c.args.aggregate (part_or_none c.args.condition.now) (part c.args.body.now) c.args.generators.now c.index-generators-0.result (omega (arith, c.if-generators-eq0.false)) c.index-generators-0.is (state_seen c.args.s.now (g.O.Outside.told c.args.out.now)) c.in_ok-domain.ensures.did); inside = rw c.new.ensures.items (omega (arith, c.if-generators-eq0.false)) }

pub returns-in_err-key : goal.returns-in_err-key
returns-in_err-key g c = record { did = exit _ _ _ _ _ c.from_residual-in_err-key.ensures.1 (c.in_err-key.ensures.did (gathers (g.W.Within.code c.args.inside.now) (g.W.Within.depth c.args.inside.now) c.args.at c.args.aggregate (part_or_none c.args.condition.now) (part c.args.body.now) (map body_seen c.loop-tuples.bodies.items) (all_bodies (g.W.Within.code c.args.inside.now) (g.W.Within.depth c.args.inside.now) c.args.at c.args.aggregate (part_or_none c.args.condition.now) (part c.args.body.now) c.args.generators.now (state_seen c.args.s.now (g.O.Outside.told c.args.out.now)))) c.loop-tuples.invariant.left) }

pub loop-tuples-smaller : goal.loop-tuples-smaller
loop-tuples-smaller g c = let falls : c.next_tuple.new.s.fuel < c.loop-tuples.s.fuel = rw c.in-Some.is at c.in_ok-key.ensures.falls in omega (arith, falls, went_fuel _ (goes_keyed _ (goes_level _ _) _ _ _ _ _ _) c.in_ok-add_body.ensures.did)

pub loop-tuples-preserved : goal.loop-tuples-preserved
loop-tuples-preserved g c = let f : FitsSigned w64 c.in-Some.key = search rules in record { left = body_added (g.W.Within.code c.args.inside.now) (g.W.Within.depth c.args.inside.now) c.args.at c.args.aggregate (part_or_none c.args.condition.now) (part c.args.body.now) c.args.generators.now (map body_seen c.loop-tuples.bodies.items) (all_bodies (g.W.Within.code c.args.inside.now) (g.W.Within.depth c.args.inside.now) c.args.at c.args.aggregate (part_or_none c.args.condition.now) (part c.args.body.now) c.args.generators.now (state_seen c.args.s.now (g.O.Outside.told c.args.out.now))) _ _ c.in-Some.key _ (rw c.in-Some.is at (c.in_ok-key.ensures.did (gathers (g.W.Within.code c.args.inside.now) (g.W.Within.depth c.args.inside.now) c.args.at c.args.aggregate (part_or_none c.args.condition.now) (part c.args.body.now) (map body_seen c.loop-tuples.bodies.items) (all_bodies (g.W.Within.code c.args.inside.now) (g.W.Within.depth c.args.inside.now) c.args.at c.args.aggregate (part_or_none c.args.condition.now) (part c.args.body.now) c.args.generators.now (state_seen c.args.s.now (g.O.Outside.told c.args.out.now)))) c.loop-tuples.invariant.left)) (rw (to_z-of_z w64 c.in-Some.key f) at c.in_ok-add_body.ensures.did); inside = c.in_ok-key.ensures.inside }

pub returns-in_err-add_body : goal.returns-in_err-add_body
returns-in_err-add_body g c = let f : FitsSigned w64 c.in-Some.key = search rules in record { did = exit _ _ _ _ _ c.from_residual-in_err-add_body.ensures.1 (body_ends (g.W.Within.code c.args.inside.now) (g.W.Within.depth c.args.inside.now) c.args.at c.args.aggregate (part_or_none c.args.condition.now) (part c.args.body.now) c.args.generators.now (map body_seen c.loop-tuples.bodies.items) (all_bodies (g.W.Within.code c.args.inside.now) (g.W.Within.depth c.args.inside.now) c.args.at c.args.aggregate (part_or_none c.args.condition.now) (part c.args.body.now) c.args.generators.now (state_seen c.args.s.now (g.O.Outside.told c.args.out.now))) _ _ c.in-Some.key _ (rw c.in-Some.is at (c.in_ok-key.ensures.did (gathers (g.W.Within.code c.args.inside.now) (g.W.Within.depth c.args.inside.now) c.args.at c.args.aggregate (part_or_none c.args.condition.now) (part c.args.body.now) (map body_seen c.loop-tuples.bodies.items) (all_bodies (g.W.Within.code c.args.inside.now) (g.W.Within.depth c.args.inside.now) c.args.at c.args.aggregate (part_or_none c.args.condition.now) (part c.args.body.now) c.args.generators.now (state_seen c.args.s.now (g.O.Outside.told c.args.out.now)))) c.loop-tuples.invariant.left)) _ _ (rw (to_z-of_z w64 c.in-Some.key f) at c.in_err-add_body.ensures.did)) }

pub returns : goal.returns
returns g c = record { did = advances_none _ _ (gathers (g.W.Within.code c.args.inside.now) (g.W.Within.depth c.args.inside.now) c.args.at c.args.aggregate (part_or_none c.args.condition.now) (part c.args.body.now) (map body_seen c.loop-tuples.bodies.items) (all_bodies (g.W.Within.code c.args.inside.now) (g.W.Within.depth c.args.inside.now) c.args.at c.args.aggregate (part_or_none c.args.condition.now) (part c.args.body.now) c.args.generators.now (state_seen c.args.s.now (g.O.Outside.told c.args.out.now)))) _ c.in_ok-key.field-0 _ _ (c.in_ok-key.ensures.did (gathers (g.W.Within.code c.args.inside.now) (g.W.Within.depth c.args.inside.now) c.args.at c.args.aggregate (part_or_none c.args.condition.now) (part c.args.body.now) (map body_seen c.loop-tuples.bodies.items) (all_bodies (g.W.Within.code c.args.inside.now) (g.W.Within.depth c.args.inside.now) c.args.at c.args.aggregate (part_or_none c.args.condition.now) (part c.args.body.now) c.args.generators.now (state_seen c.args.s.now (g.O.Outside.told c.args.out.now)))) c.loop-tuples.invariant.left) c.in_default.not-Some }
