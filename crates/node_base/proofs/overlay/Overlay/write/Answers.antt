use Rattle.std.proofs.Common.{◌≡◌, ◌<◌, take, length, w64, sym, rules}
use Rattle.std.specs.Prelude.{Some, None}
use Rattle.std.proofs.lemmas.Int.{to_z-of_z}
use Rattle.node_base.specs.Counting.{place_among}
use Rattle.node_base.proofs.OverlayLemmas.{put_first, put_next, put_later}
use Rattle.node_base.proofs.overlay.Overlay.write.Goals as goal

pub returns-in-Some : goal.returns-in-Some
returns-in-Some c =
    let s = c.self.inside in
    let at : Some c.in-Some.place ≡ place_among c.args.number (take s.len s.first) = simp (to_z-of_z w64 c.args.number c.ranges.number) at c.in-Some.ensures.place in
    rw (to_z-of_z w64 c.args.number c.ranges.number) (put_first s.first s.later.entries c.args.self.now s.len c.self.view_is c.args.number c.in-Some.place c.args.times (sym at))

pub returns-then-self-lt4 : goal.returns-then-self-lt4
returns-then-self-lt4 c =
    let s = c.self.inside in
    let off : None ≡ place_among c.args.number (take s.len s.first) = simp (to_z-of_z w64 c.args.number c.ranges.number) at c.in-None.ensures.place in
    let lt : s.len < length s.first = search rules in
    rw (to_z-of_z w64 c.args.number c.ranges.number) (put_next s.first s.later.entries c.args.self.now s.len c.self.view_is c.args.number c.args.times (sym off) lt)

pub returns-in_ok-insert-in-None : goal.returns-in_ok-insert-in-None
returns-in_ok-insert-in-None c =
    let s = c.self.inside in
    let off : None ≡ place_among c.args.number (take s.len s.first) = simp (to_z-of_z w64 c.args.number c.ranges.number) at c.in-None.ensures.place in
    put_later s.first s.later.entries c.args.self.now s.len c.self.view_is c.args.number c.args.times c.insert.new.self.entries (sym off) (simp (to_z-of_z w64 c.args.number c.ranges.number) at c.in_ok-insert-in-None.ensures.updates.0)
