use Rattle.std.proofs.Common.{◌≡◌, ◌∙◌, pos, take, w64, sym}
use Rattle.std.specs.Prelude.{Some, None}
use Rattle.std.proofs.lemmas.Int.{to_z-of_z}
use Rattle.node_base.specs.Counting.{place_among}
use Rattle.node_base.proofs.OverlayLemmas.{shown_first, shown_later, shown_under}
use Rattle.node_base.proofs.overlay.Overlay.times.Goals as goal

pub returns-in-Some : goal.returns-in-Some
returns-in-Some c =
    let s = c.self.inside in
    let at : Some c.in-Some.place ≡ place_among c.args.number (take s.len s.first) = simp (to_z-of_z w64 c.args.number c.ranges.number) at c.in-Some.ensures.place in
    shown_first s.first s.later.entries c.args.self.now s.len c.self.view_is c.args.number c.args.tally.now c.in-Some.place (pos 0, 0) (sym at)

pub returns-in-Some-get : goal.returns-in-Some-get
returns-in-Some-get c =
    let s = c.self.inside in
    let off : None ≡ place_among c.args.number (take s.len s.first) = simp (to_z-of_z w64 c.args.number c.ranges.number) at c.in-None.ensures.place in
    shown_later s.first s.later.entries c.args.self.now s.len c.self.view_is c.args.number c.args.tally.now c.in-Some-get.times.now (sym off) (simp (to_z-of_z w64 c.args.number c.ranges.number) at c.in-Some-get.ensures.value)

pub returns-in-None-get : goal.returns-in-None-get
returns-in-None-get c =
    let s = c.self.inside in
    let off : None ≡ place_among c.args.number (take s.len s.first) = simp (to_z-of_z w64 c.args.number c.ranges.number) at c.in-None.ensures.place in
    (simp (to_z-of_z w64 c.args.number c.ranges.number) at c.times.ensures)
    ∙ shown_under s.first s.later.entries c.args.self.now s.len c.self.view_is c.args.number c.args.tally.now (sym off) (simp (to_z-of_z w64 c.args.number c.ranges.number) at c.in-None-get.ensures.value)
