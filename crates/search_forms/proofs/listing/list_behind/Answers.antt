-- There is no tuple left, or the candidates behind the next one are added.
use Rattle.std.proofs.Common.{◌∙◌, ap, ◌<◌, arith, map}
use Rattle.checked_tree.specs.Shape.{shape_of_generator}
use Rattle.checked_tree.specs.declared.expressions.Generator.{Generator}
use Rattle.comet_meaning.specs.Program.{level}
use Rattle.comet_meaning.proofs.GoingSearch.{goes_last}
use Rattle.comet_meaning.proofs.GoingStatements.{goes_level}
use Rattle.run_steps.specs.OfRunState.Views.{state_seen}
use Rattle.run_steps.proofs.Exits.{exit}
use Rattle.run_steps.proofs.TupleLaws.{went_fuel}
use Rattle.search_forms.specs.Tables.{candidates_seen}
use Rattle.search_forms.proofs.ListingLaws.{list_added, list_ends, lists_end, lists_open, place_is}
use Rattle.search_forms.proofs.listing.list_behind.Goals as goal

pub returns-in_err-domain-clause-did : goal.returns-in_err-domain-clause-did
returns-in_err-domain-clause-did g c = exit _ _ _ _ _ c.from_residual.ensures.1 (lists_end (level (g.W.Within.code c.args.inside.now) (g.W.Within.depth c.args.inside.now)) (goes_level _ _) c.args.at c.args.front.now (shape_of_generator c.args.last.now) (candidates_seen c.args.found.now) (state_seen c.args.s.now (g.O.Outside.told c.args.out.now)) c.index-front-0.result c.requires.some c.index-front-0.is _ _ c.in_err-domain.ensures.did)

pub tuples-init : goal.tuples-init
tuples-init g c = record {
  left = rw (c.new.ensures.items, c.pending_of.ensures) (lists_open (level (g.W.Within.code c.args.inside.now) (g.W.Within.depth c.args.inside.now)) (goes_level _ _) c.args.at c.args.front.now (shape_of_generator c.args.last.now) (candidates_seen c.args.found.now) (state_seen c.args.s.now (g.O.Outside.told c.args.out.now)) c.index-front-0.result c.requires.some c.index-front-0.is _ (place_is c.args.front.now c.index-front-front.result c.requires.some c.index-front-front.is ∙ ap (λ (x : Generator). x.place) c.index-front-front.is) c.in_ok-domain.ensures.did);
  inside = rw c.new.ensures.items c.requires.some;
  rows = c.requires.rows;
}

pub returns-in_err-found_next-clause-did : goal.returns-in_err-found_next-clause-did
returns-in_err-found_next-clause-did g c = exit _ _ _ _ _ c.from_residual-in_err-found_next.ensures.1 (c.in_err-found_next.ensures.did _ c.tuples.invariant.left)

pub returns-in-None-clause-did : goal.returns-in-None-clause-did
returns-in-None-clause-did g c = rw c.in-None.is at (c.in_ok-found_next.ensures.did _ c.tuples.invariant.left)

pub returns-in_err-list_last-in-Some-clause-did : goal.returns-in_err-list_last-in-Some-clause-did
returns-in_err-list_last-in-Some-clause-did g c =
    let m = rw c.in-Some.is at (c.in_ok-found_next.ensures.did _ c.tuples.invariant.left) in
    exit _ _ _ _ _ c.from_residual-in_err-list_last-in-Some.ensures.1 (list_ends (level (g.W.Within.code c.args.inside.now) (g.W.Within.depth c.args.inside.now)) (goes_level _ _) c.args.at c.args.front.now (shape_of_generator c.args.last.now) m _ _ c.in_err-list_last-in-Some.ensures.did)

pub tuples-preserved : goal.tuples-preserved
tuples-preserved g c =
    let m = rw c.in-Some.is at (c.in_ok-found_next.ensures.did _ c.tuples.invariant.left) in
    record {
      left = list_added (level (g.W.Within.code c.args.inside.now) (g.W.Within.depth c.args.inside.now)) (goes_level _ _) c.args.at c.args.front.now (shape_of_generator c.args.last.now) m c.in_ok-list_last-in-Some.ensures.did;
      inside = c.in_ok-found_next.ensures.inside;
      rows = c.in_ok-list_last-in-Some.ensures.rows;
    }

pub tuples-smaller : goal.tuples-smaller
tuples-smaller g c =
    let falls : c.next_tuple.new.s.fuel < c.tuples.s.fuel = rw c.in-Some.is at c.in_ok-found_next.ensures.falls in
    omega (arith, falls, went_fuel _ (goes_last (level (g.W.Within.code c.args.inside.now) (g.W.Within.depth c.args.inside.now)) (goes_level _ _) c.args.at (map shape_of_generator c.args.front.now) (shape_of_generator c.args.last.now) (candidates_seen c.tuples.found)) c.in_ok-list_last-in-Some.ensures.did)
