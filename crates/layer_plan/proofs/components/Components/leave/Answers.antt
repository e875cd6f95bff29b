use Rattle.std.proofs.Common.{◌≡◌, ◌∙◌, ◌-◌, take, vec_len, ap, subst, sym, arith}
use Rattle.layer_plan.specs.Components.{IsTrailing, mark_of, rest_of, place_of}
use Rattle.layer_plan.proofs.ComponentSteps.{Trailing-pop}
use Rattle.layer_plan.proofs.components.Components.leave.Goals as goal

pub returns-clause-sound : goal.returns-clause-sound
returns-clause-sound c =
    let s = c.args.self.now in
    let deps = c.args.deps.now in
    let old = c.requires.sound in
    let last = c.requires.last in
    let place : vec_len s.trail - 1 ≡ last.0 = omega (arith, last.1, s.trail.ok.0) in
    let items : c.pop.new.self.items ≡ take last.0 s.trail.items = c.pop.ensures.rest ∙ ap (λ n. take n s.trail.items) place in
    record {
      marks = old.marks;
      rest = old.rest;
      places = old.places;
      placed = old.placed;
      trailing = subst (λ ys. IsTrailing deps (mark_of s) (rest_of s) (place_of s) ys) (sym items) (Trailing-pop deps (mark_of s) (rest_of s) (place_of s) s.trail.items last.0 c.args.item old.trailing last.1 last.2 c.requires.done);
      starts = old.starts;
      seen = old.seen;
      linked = old.linked;
      settled = old.settled;
    }
