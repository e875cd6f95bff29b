use Rattle.std.specs.Prelude.{◌-◌, length}
use Rattle.std.proofs.Common.{arith, ◌∙◌}
use Rattle.std.proofs.lemmas.List.{length-take}
use Rattle.comet_syntax.proofs.Cuts.{front_part, front_on, part_shorter, rest_within, place_on, line_fits, column_fits, cut_on, cut_to}
use Rattle.comet_syntax.proofs.lexer.cut.Goals as goal

pub returns-in-Err-NotRead-clause-cut : goal.returns-in-Err-NotRead-clause-cut
returns-in-Err-NotRead-clause-cut c = cut_to c.loop-alloc.invariant.forward

pub keep-requires-clause-rest : goal.keep-requires-clause-rest
keep-requires-clause-rest c = omega (arith, rest_within c.loop-alloc.invariant.front, part_shorter (front_part _ c.in-Ok.ensures.ok))

pub slice_bounds-place_behind-count : goal.slice_bounds-place_behind-count
slice_bounds-place_behind-count c = omega (arith, part_shorter (front_part _ c.in-Ok.ensures.ok))

pub place_behind-place-requires-clause-line : goal.place_behind-place-requires-clause-line
place_behind-place-requires-clause-line c =
    omega (arith, c.requires, line_fits c.loop-alloc.place c.loop-alloc.invariant.front c.loop-alloc.invariant.place, length-take (length c.loop-alloc.rest.now - length c.in-Ok.front.rest.now) c.loop-alloc.rest.now)

pub place_behind-place-requires-clause-column : goal.place_behind-place-requires-clause-column
place_behind-place-requires-clause-column c =
    omega (arith, c.requires, column_fits c.loop-alloc.place c.loop-alloc.invariant.front c.loop-alloc.invariant.place, length-take (length c.loop-alloc.rest.now - length c.in-Ok.front.rest.now) c.loop-alloc.rest.now)

pub loop-alloc-smaller : goal.loop-alloc-smaller
loop-alloc-smaller c = omega (arith, part_shorter (front_part _ c.in-Ok.ensures.ok))

pub loop-alloc-preserved : goal.loop-alloc-preserved
loop-alloc-preserved c = record {
  forward = cut_on _ _ _ c.in-Ok.ensures.ok c.in_ok-keep.ensures.ok c.loop-alloc.invariant.forward;
  front = front_on c.loop-alloc.invariant.front (front_part _ c.in-Ok.ensures.ok);
  place = c.place_behind-place.ensures ∙ place_on c.loop-alloc.place c.loop-alloc.invariant.front (front_part _ c.in-Ok.ensures.ok) c.loop-alloc.invariant.place;
}

pub returns-clause-cut : goal.returns-clause-cut
returns-clause-cut c = cut_to c.loop-alloc.invariant.forward
