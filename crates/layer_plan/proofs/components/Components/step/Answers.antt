use Rattle.std.proofs.Common.{◌≡◌, ◌∙◌, ◌<◌, ◌≤◌, length, get_or, subst, arith}
use Rattle.std.proofs.lemmas.List.{get_or_read}
use Rattle.layer_plan.specs.Components.{mark_of, rest_of, place_of}
use Rattle.layer_plan.specs.Search.{IsLast}
use Rattle.layer_plan.proofs.Lists.{last_of, last_none}
use Rattle.layer_plan.proofs.ComponentSteps.{trail_low}
use Rattle.layer_plan.proofs.components.Components.step.Goals as goal
use Rattle.layer_plan.proofs.components.Components.step.Goals.{in-Some+else-index-start, in_default}

pub index-requires : goal.index-requires
index-requires c =
    let last = last_of c.args.self.now.trail.items c.deref.result.now c.copied.result c.in-Some.item (c.copied.ensures ∙ c.last.ensures.value) c.deref.ensures.value c.in-Some.is in
    let old = c.requires.sound in
    let x_in : c.in-Some.item < length c.args.deps.now = subst (λ y. y < length c.args.deps.now) last.2 (old.trailing.items last.0 (omega (arith, last.1))) in
    omega (arith, old.places)

pub look-requires-clause-items : goal.look-requires-clause-items
look-requires-clause-items c = c.requires.items

pub look-requires-clause-sound : goal.look-requires-clause-sound
look-requires-clause-sound c = c.requires.sound

pub look-requires-clause-start : goal.look-requires-clause-start
look-requires-clause-start c = c.requires.start

pub look-requires-clause-last : goal.look-requires-clause-last
look-requires-clause-last c = last_of c.args.self.now.trail.items c.deref.result.now c.copied.result c.in-Some.item (c.copied.ensures ∙ c.last.ensures.value) c.deref.ensures.value c.in-Some.is

pub returns-then-index-start-clause-sound : goal.returns-then-index-start-clause-sound
returns-then-index-start-clause-sound c = c.look.ensures.sound

pub returns-then-index-start-clause-work : goal.returns-then-index-start-clause-work
returns-then-index-start-clause-work c = c.look.ensures.work

pub returns-then-index-start-clause-touched : goal.returns-then-index-start-clause-touched
returns-then-index-start-clause-touched c = c.look.ensures.touched

pub close-requires-clause-sound : goal.close-requires-clause-sound
close-requires-clause-sound c = c.requires.sound

pub close-requires-clause-start : goal.close-requires-clause-start
close-requires-clause-start c = c.requires.start

pub close-requires-clause-done : goal.close-requires-clause-done
close-requires-clause-done c =
    let s = c.args.self.now in
    let deps = c.args.deps.now in
    let old = c.requires.sound in
    let places = s.places.items in
    elim c.match-copied.branch [
      | in-Some+else-index-start w ↦ (
          let x = w.in-Some.item in
          let last = last_of s.trail.items c.deref.result.now c.copied.result x (c.copied.ensures ∙ c.last.ensures.value) c.deref.ensures.value w.in-Some.is in
          let x_in : x < length deps = subst (λ y. y < length deps) last.2 (old.trailing.items last.0 (omega (arith, last.1))) in
          let read = get_or_read places x w.index.result.now (omega (arith, old.places)) w.index.ensures 0 in
          let low : place_of s x < c.args.start = omega (arith, read, w.if-index-start.false) in
          trail_low deps (mark_of s) (rest_of s) (place_of s) s.trail.items x c.args.start old.trailing last low)
      | in_default w ↦ (let none = last_none s.trail.items c.deref.result.now c.copied.result (c.copied.ensures ∙ c.last.ensures.value) c.deref.ensures.value w.in_default.is in λ i i_in. absurd (omega arith))
    ]

pub returns-clause-sound : goal.returns-clause-sound
returns-clause-sound c = c.close.ensures.sound

pub returns-clause-work : goal.returns-clause-work
returns-clause-work c = c.close.ensures.work

pub returns-clause-touched : goal.returns-clause-touched
returns-clause-touched c = c.close.ensures.touched
