use Rattle.std.proofs.Common.{◌≡◌, ◌∙◌, ◌<◌, ℕ, length, get_or, set, subst, arith}
use Rattle.std.proofs.lemmas.List.{length-set, get_or-set_same, get_or-set_other}
use Rattle.std.proofs.lemmas.List.Sums.{sum_by-set}
use Rattle.layer_plan.specs.Components.{mark_of, rest_of, place_of}
use Rattle.layer_plan.specs.declared.components.Mark.TheVariants.{Open}
use Rattle.layer_plan.proofs.ComponentSteps.{Passes, Trailing-pass, Seen-pass, last_no_earlier}
use Rattle.layer_plan.proofs.components.Components.pass.Goals as goal

pub index_mut-requires : goal.index_mut-requires
index_mut-requires c =
    let old = c.requires.sound in
    let last = c.requires.last in
    let x_in : c.args.item < length c.args.deps.now = subst (λ y. y < length c.args.deps.now) last.2 (old.trailing.items last.0 (omega (arith, last.1))) in
    omega (arith, old.rest)

pub returns-clause-sound : goal.returns-clause-sound
returns-clause-sound c =
    let s = c.args.self.now in
    let deps = c.args.deps.now in
    let old = c.requires.sound in
    let x = c.args.item in
    let p = c.args.place in
    let rs = s.rest.items in
    let last = c.requires.last in
    let last_in : last.0 < length s.trail.items = omega (arith, last.1) in
    let x_in : x < length deps = subst (λ y. y < length deps) last.2 (old.trailing.items last.0 last_in) in
    let opened : mark_of s x ≡ Open = subst (λ y. mark_of s y ≡ Open) last.2 (old.trailing.open_each last.0 last_in) in
    let rest' : ℕ → ℕ = λ v. get_or (set rs x p) v 0 in
    let passes : Passes (rest_of s) rest' x p = record {
      was = c.requires.place;
      is = get_or-set_same rs x p 0 (omega (arith, old.rest));
      same = λ v ne. get_or-set_other rs x v p 0 ne;
    } in
    record {
      marks = old.marks;
      rest = length-set rs x p ∙ old.rest;
      places = old.places;
      placed = old.placed;
      trailing = Trailing-pass deps (mark_of s) (rest_of s) rest' (place_of s) s.trail.items x p passes old.trailing;
      starts = old.starts;
      seen = Seen-pass deps (mark_of s) (rest_of s) rest' (place_of s) s.starts.items x p c.args.next passes opened c.requires.next c.requires.touched (λ o. last_no_earlier (length s.path.items) s.starts.items c.args.start (place_of s x) (place_of s c.args.next) old.starts c.requires.start (c.requires.behind o)) old.seen;
      linked = old.linked;
      settled = old.settled;
    }

pub returns-clause-touched : goal.returns-clause-touched
returns-clause-touched c = λ v touched. touched
