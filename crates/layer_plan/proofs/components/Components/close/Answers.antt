use Rattle.std.proofs.Common.{◌≡◌, ◌∙◌, ◌⊎◌, ◌<◌, ◌-◌, take, drop, vec_len, ℕ, length, get_or, subst, sym, ap, arith}
use Rattle.std.specs.List.{Contains}
use Rattle.std.proofs.lemmas.List.{take_rest, length-take-le}
use Rattle.layer_plan.specs.Components.{IsPlaced, AreStarts, IsSeen, IsLinked, mark_of, rest_of, place_of}
use Rattle.layer_plan.specs.declared.components.Mark.{Mark}
use Rattle.layer_plan.specs.declared.components.Mark.TheVariants.{Untouched, Closed}
use Rattle.layer_plan.proofs.ComponentClose.{Closes, closes_from, mark_inside, Placed-close, Trailing-close, Starts-close, Seen-close, Linked-close, Settled-close}
use Rattle.layer_plan.proofs.components.Components.close.Goals as goal

pub returns-clause-sound : goal.returns-clause-sound
returns-clause-sound c =
    let s = c.args.self.now in
    let deps = c.args.deps.now in
    let old = c.requires.sound in
    let last = c.requires.start in
    let start = c.args.start in
    let path = s.path.items in
    let trail = s.trail.items in
    let starts = s.starts.items in
    let start_in : start < length path = (let w = old.starts.within last.0 (omega (arith, last.1)) in let e = last.2 in omega arith) in
    let seg : take (length c.deref.result.now - start) (drop start c.deref.result.now) ≡ drop start path = take_rest c.deref.result.now start ∙ ap (drop start) c.deref.ensures.value in
    let mark' : ℕ → Mark = λ v. get_or c.close_all.new.marks.items v Untouched in
    let least' = c.least_with-self.result in
    let shut : (v : ℕ) → Contains (drop start path) v → mark' v ≡ Closed = λ v at. c.close_all.ensures.closed v (subst (λ ys. Contains ys v) (sym seg) at) in
    let others : (v : ℕ) → (Contains (drop start path) v → ⊥) → mark' v ≡ mark_of s v = λ v none. c.close_all.ensures.others v (λ at. none (subst (λ ys. Contains ys v) seg at)) in
    let closes : Closes deps (mark_of s) mark' (place_of s) start = closes_from deps (mark_of s) mark' (place_of s) path start old.placed (λ v e. mark_inside deps s.marks.items v old.marks e) shut others in
    let place : vec_len s.starts - 1 ≡ last.0 = omega (arith, last.1, s.starts.ok.0) in
    let new_starts : c.pop.new.self.items ≡ take last.0 starts = c.pop.ensures.rest ∙ ap (λ n. take n starts) place in
    let new_path : c.truncate.new.self.items ≡ take start path = c.truncate.ensures.items in
    let size : length c.truncate.new.self.items ≡ start = ap length new_path ∙ length-take-le start path (omega arith) in
    record {
      marks = c.close_all.ensures.count ∙ old.marks;
      rest = old.rest;
      places = old.places;
      placed = subst (λ ys. IsPlaced deps mark' (place_of s) ys) (sym new_path) (Placed-close deps (mark_of s) mark' (place_of s) path start closes (omega arith) old.placed);
      trailing = Trailing-close deps (mark_of s) mark' (rest_of s) (place_of s) trail start closes c.requires.done old.trailing;
      starts = subst (λ n. AreStarts n c.pop.new.self.items) (sym size) (subst (λ ys. AreStarts start ys) (sym new_starts) (Starts-close (length path) starts last.0 start old.starts last.1 last.2));
      seen = subst (λ ys. IsSeen deps mark' (rest_of s) (place_of s) ys) (sym new_starts) (Seen-close deps (mark_of s) mark' (rest_of s) (place_of s) starts last.0 start closes last.1 old.seen);
      linked = subst (λ ys. IsLinked deps ys c.pop.new.self.items) (sym new_path) (subst (λ ys. IsLinked deps (take start path) ys) (sym new_starts) (Linked-close deps path starts last.0 start (omega arith) last.1 last.2 old.linked));
      settled = Settled-close deps (mark_of s) mark' (rest_of s) (place_of s) path trail starts last.0 start s.least least' closes old.placed old.trailing old.starts old.seen old.linked old.settled c.requires.done last.1 last.2 c.least_with-self.ensures.below
          (λ many w at. c.least_with-self.ensures.all (subst (λ ys. 1 < length ys) (sym seg) many) w (subst (λ ys. Contains ys w) (sym seg) at))
          (subst (λ ys. (least' ≡ s.least) ⊎ ((1 < length ys) × Contains ys least')) seg c.least_with-self.ensures.one);
    }
