use Rattle.std.proofs.Common.{◌≡◌, ◌∙◌, ◌<◌, length, get_or, subst, arith}
use Rattle.layer_plan.specs.Components.{mark_of, place_of}
use Rattle.layer_plan.specs.Nearness.{HasWay}
use Rattle.layer_plan.specs.declared.components.Mark.TheVariants.{Open}
use Rattle.layer_plan.proofs.Ways.{way_join, way_step}
use Rattle.layer_plan.proofs.ComponentSteps.{last_no_earlier}
use Rattle.layer_plan.proofs.components.Components.look.Goals as goal

pub open-requires-clause-leads : goal.open-requires-clause-leads
open-requires-clause-leads c = λ i i_in.
    let s = c.args.self.now in
    let deps = c.args.deps.now in
    let old = c.requires.sound in
    let x = c.args.item in
    let last = c.requires.last in
    let last_in : last.0 < length s.trail.items = omega (arith, last.1) in
    let x_in : x < length deps = subst (λ y. y < length deps) last.2 (old.trailing.items last.0 last_in) in
    let opened : mark_of s x ≡ Open = subst (λ y. mark_of s y ≡ Open) last.2 (old.trailing.open_each last.0 last_in) in
    let at = old.placed.place_in x x_in opened in
    let way : HasWay deps (get_or s.path.items i 0) x = subst (λ y. HasWay deps (get_or s.path.items i 0) y) (old.placed.at_place x x_in opened) (old.linked i (place_of s x) i_in at (last_no_earlier (length s.path.items) s.starts.items c.args.start i (place_of s x) old.starts c.requires.start c.requires.behind)) in
    way_join deps (get_or s.path.items i 0) x c.entry-next.result way (way_step deps x c.entry-next.result c.entry-next.ensures.depends)

pub leave-requires-clause-sound : goal.leave-requires-clause-sound
leave-requires-clause-sound c = c.requires.sound

pub leave-requires-clause-last : goal.leave-requires-clause-last
leave-requires-clause-last c = c.requires.last

pub returns-then-left-eq0-clause-sound : goal.returns-then-left-eq0-clause-sound
returns-then-left-eq0-clause-sound c = c.leave.ensures.sound

pub returns-then-left-eq0-clause-work : goal.returns-then-left-eq0-clause-work
returns-then-left-eq0-clause-work c = c.leave.ensures.work

pub returns-then-left-eq0-clause-touched : goal.returns-then-left-eq0-clause-touched
returns-then-left-eq0-clause-touched c = c.leave.ensures.touched

pub entry-next-requires-clause-items : goal.entry-next-requires-clause-items
entry-next-requires-clause-items c = c.requires.items

pub mark-requires : goal.mark-requires
mark-requires c = omega (arith, c.requires.sound.marks, c.entry-next.ensures.within)

pub open-requires-clause-sound : goal.open-requires-clause-sound
open-requires-clause-sound c = c.requires.sound

pub open-requires-clause-item : goal.open-requires-clause-item
open-requires-clause-item c = c.entry-next.ensures.within

pub open-requires-clause-untouched : goal.open-requires-clause-untouched
open-requires-clause-untouched c = c.mark.ensures ∙ c.in-Untouched.is

pub index-requires : goal.index-requires
index-requires c = omega (arith, c.requires.sound.places, c.entry-next.ensures.within)

pub join-requires-clause-sound : goal.join-requires-clause-sound
join-requires-clause-sound c = c.requires.sound

pub join-requires-clause-start : goal.join-requires-clause-start
join-requires-clause-start c = c.requires.start

pub join-requires-clause-behind : goal.join-requires-clause-behind
join-requires-clause-behind c = c.requires.behind

pub join-requires-clause-depends : goal.join-requires-clause-depends
join-requires-clause-depends c = c.entry-next.ensures.depends

pub join-requires-clause-next : goal.join-requires-clause-next
join-requires-clause-next c = c.entry-next.ensures.within

pub join-requires-clause-next_open : goal.join-requires-clause-next_open
join-requires-clause-next_open c = c.mark.ensures ∙ c.in-Open.is

pub pass-requires-clause-sound : goal.pass-requires-clause-sound
pass-requires-clause-sound c = c.requires.sound

pub pass-requires-clause-start : goal.pass-requires-clause-start
pass-requires-clause-start c = c.requires.start

pub pass-requires-clause-last : goal.pass-requires-clause-last
pass-requires-clause-last c = c.requires.last

pub pass-requires-clause-next : goal.pass-requires-clause-next
pass-requires-clause-next c = c.entry-next.ensures.value

pub pass-requires-in-Closed-clause-sound : goal.pass-requires-in-Closed-clause-sound
pass-requires-in-Closed-clause-sound c = c.requires.sound

pub pass-requires-in-Closed-clause-start : goal.pass-requires-in-Closed-clause-start
pass-requires-in-Closed-clause-start c = c.requires.start

pub pass-requires-in-Closed-clause-last : goal.pass-requires-in-Closed-clause-last
pass-requires-in-Closed-clause-last c = c.requires.last

pub pass-requires-in-Closed-clause-next : goal.pass-requires-in-Closed-clause-next
pass-requires-in-Closed-clause-next c = c.entry-next.ensures.value

pub returns-in_ok-open-in-Untouched-clause-work : goal.returns-in_ok-open-in-Untouched-clause-work
returns-in_ok-open-in-Untouched-clause-work c = c.in_ok-open-in-Untouched.ensures.work

pub returns-then-index-start-clause-sound : goal.returns-then-index-start-clause-sound
returns-then-index-start-clause-sound c = c.join.ensures.sound

pub returns-then-index-start-clause-work : goal.returns-then-index-start-clause-work
returns-then-index-start-clause-work c = c.join.ensures.work

pub returns-then-index-start-clause-touched : goal.returns-then-index-start-clause-touched
returns-then-index-start-clause-touched c = c.join.ensures.touched

pub returns-else-index-start-clause-sound : goal.returns-else-index-start-clause-sound
returns-else-index-start-clause-sound c = c.pass.ensures.sound

pub returns-else-index-start-clause-work : goal.returns-else-index-start-clause-work
returns-else-index-start-clause-work c = c.pass.ensures.work

pub returns-else-index-start-clause-touched : goal.returns-else-index-start-clause-touched
returns-else-index-start-clause-touched c = c.pass.ensures.touched
