use Rattle.std.proofs.Common.{◌≡◌, ◌∙◌, ◌-◌, take, vec_len, length, subst, sym, ap, arith}
use Rattle.layer_plan.specs.Components.{AreStarts, IsSeen, IsLinked, mark_of, rest_of, place_of}
use Rattle.layer_plan.proofs.ComponentSteps.{Starts-join, Seen-join, Linked-join}
use Rattle.layer_plan.proofs.components.Components.join.Goals as goal

pub returns-clause-sound : goal.returns-clause-sound
returns-clause-sound c =
    let s = c.args.self.now in
    let deps = c.args.deps.now in
    let old = c.requires.sound in
    let start = c.requires.start in
    let x = c.args.item in
    let y = c.args.next in
    let path = s.path.items in
    let starts = s.starts.items in
    let x_in = old.placed.place_in x c.requires.item c.requires.opened in
    let y_in = old.placed.place_in y c.requires.next c.requires.next_open in
    let place : vec_len s.starts - 1 ≡ start.0 = omega (arith, start.1, s.starts.ok.0) in
    let items : c.pop.new.self.items ≡ take start.0 starts = c.pop.ensures.rest ∙ ap (λ n. take n starts) place in
    record {
      marks = old.marks;
      rest = old.rest;
      places = old.places;
      placed = old.placed;
      trailing = old.trailing;
      starts = subst (λ ys. AreStarts (length path) ys) (sym items) (Starts-join (length path) starts start.0 c.args.start (place_of s y) old.starts start.1 start.2 c.requires.before y_in);
      seen = subst (λ ys. IsSeen deps (mark_of s) (rest_of s) (place_of s) ys) (sym items) (Seen-join deps (mark_of s) (rest_of s) (place_of s) starts start.0 old.seen start.1);
      linked = subst (λ ys. IsLinked deps path ys) (sym items) (Linked-join deps path starts start.0 c.args.start x y (place_of s x) (place_of s y) old.linked old.starts start.1 start.2 x_in (old.placed.at_place x c.requires.item c.requires.opened) c.requires.behind y_in (old.placed.at_place y c.requires.next c.requires.next_open) c.requires.before c.requires.depends);
      settled = old.settled;
    }
