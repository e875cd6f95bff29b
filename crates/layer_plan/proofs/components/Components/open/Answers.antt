use Rattle.std.proofs.Common.{◌≡◌, ◌∙◌, ◌<◌, ◌++◌, ◌∷◌, [], ℕ, length, get_or, set, subst, sym, ap, arith}
use Rattle.std.proofs.lemmas.List.{length-set, get_or-set_same, get_or-set_other, length_push}
use Rattle.layer_plan.specs.Components.{IsPlaced, IsTrailing, AreStarts, IsSeen, IsLinked, mark_of, rest_of, place_of}
use Rattle.layer_plan.specs.declared.components.Mark.{Mark}
use Rattle.layer_plan.specs.declared.components.Mark.TheVariants.{Untouched, Open}
use Rattle.layer_plan.proofs.ComponentSteps.{Opens, Placed-open, Trailing-open, Starts-open, Seen-open, Linked-open, Settled-open}
use Rattle.layer_plan.proofs.components.Components.open.Goals as goal

pub returns-clause-sound : goal.returns-clause-sound
returns-clause-sound c =
    let s = c.args.self.now in
    let deps = c.args.deps.now in
    let old = c.requires.sound in
    let x = c.args.item in
    let path = s.path.items in
    let trail = s.trail.items in
    let starts = s.starts.items in
    let ms = s.marks.items in
    let ps = s.places.items in
    let n = length path in
    let m_in : x < length ms = omega arith in
    let p_in : x < length ps = (let e = old.places in let h = c.requires.item in omega arith) in
    let at : c.len-place.result ≡ n = omega arith in
    let mark' : ℕ → Mark = λ v. get_or (set ms x Open) v Untouched in
    let place' : ℕ → ℕ = λ v. get_or (set ps x c.len-place.result) v 0 in
    let o : Opens deps (mark_of s) mark' (place_of s) place' n x = record {
      x_in = c.requires.item;
      was = c.requires.untouched;
      is = get_or-set_same ms x Open Untouched m_in;
      same = λ v ne. get_or-set_other ms x v Open Untouched ne;
      place_is = get_or-set_same ps x c.len-place.result 0 p_in ∙ at;
      place_same = λ v ne. get_or-set_other ps x v c.len-place.result 0 ne;
    } in
    let new_path : c.push-2.new.self.items ≡ path ++ x ∷ [] = c.in_ok-push-2.ensures.items in
    let new_trail : c.push-3.new.self.items ≡ trail ++ x ∷ [] = c.in_ok-push-3.ensures.items in
    let new_starts : c.push.new.self.items ≡ starts ++ n ∷ [] = c.in_ok-push.ensures.items ∙ ap (λ k. starts ++ k ∷ []) at in
    record {
      marks = length-set ms x Open ∙ old.marks;
      rest = old.rest;
      places = length-set ps x c.len-place.result ∙ old.places;
      placed = subst (λ ys. IsPlaced deps mark' place' ys) (sym new_path) (Placed-open deps (mark_of s) mark' (place_of s) place' path x o old.placed);
      trailing = subst (λ ys. IsTrailing deps mark' (rest_of s) place' ys) (sym new_trail) (Trailing-open deps (mark_of s) mark' (rest_of s) (place_of s) place' path trail x o old.placed old.trailing);
      starts = subst (λ ys. AreStarts (length c.push-2.new.self.items) ys) (sym new_starts) (Starts-open n (length c.push-2.new.self.items) starts (ap length new_path ∙ length_push path x) old.starts);
      seen = subst (λ ys. IsSeen deps mark' (rest_of s) place' ys) (sym new_starts) (Seen-open deps (mark_of s) mark' (rest_of s) (place_of s) place' path starts x o old.placed old.seen);
      linked = subst (λ ys. IsLinked deps ys c.push.new.self.items) (sym new_path) (subst (λ ys. IsLinked deps (path ++ x ∷ []) ys) (sym new_starts) (Linked-open deps path starts x old.linked c.requires.leads));
      settled = Settled-open deps (mark_of s) mark' (place_of s) place' n x s.least o old.settled;
    }
