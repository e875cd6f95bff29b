use Rattle.std.proofs.Common.{◌≡◌, ◌<◌, ◌≤◌, ◌^◌, ◌++◌, ◌∷◌, [], ap, ◌∙◌, sym, w64, rules, arith, length, get_or, pos}
use Rattle.std.specs.Prelude.{FitsSigned}
use Rattle.std.proofs.lemmas.Int.{to_z-of_z}
use Rattle.std.proofs.lemmas.List.{length-take, take_more}
use Rattle.cbl_base.specs.Counts.{count_of}
use Rattle.diff_global.specs.Repeats.{repeats}
use Rattle.diff_global.proofs.RepeatLemmas.{repeats-push, repeats-le-length}
use Rattle.diff_global.proofs.all_different.AllDifferentNumberNode.reset.Goals as goal

pub overflow_add-self : goal.overflow_add-self
overflow_add-self c =
    let short : length c.args.numbers.now < 2 ^ 62 = search rules in
    let few : length c.loop-x.self.tally ≤ c.loop-x.x-index = omega (arith, ap length c.loop-x.invariant.tally, length-take c.loop-x.x-index c.args.numbers.now) in
    record { fits = omega (arith, repeats-le-length c.loop-x.self.tally, c.loop-x.invariant.repeats, c.one_if_any.ensures, short, few) }

pub loop-x-preserved : goal.loop-x-preserved
loop-x-preserved c =
    let x = get_or c.args.numbers.now c.loop-x.x-index (pos 0) in
    let fits : FitsSigned w64 x = search rules in
    let new : c.push.new.self ≡ c.loop-x.self.tally ++ x ∷ [] = simp (to_z-of_z w64 x fits) at c.in_ok-before.ensures.ok in
    let times : c.in_ok-before.before ≡ count_of x c.loop-x.self.tally = simp (to_z-of_z w64 x fits) at c.in_ok-before.ensures.before in
    record {
      tally = new ∙ ap (λ t. t ++ x ∷ []) c.loop-x.invariant.tally ∙ sym (take_more c.args.numbers.now c.loop-x.x-index (pos 0) c.loop-x-test.true);
      repeats = omega (arith, c.loop-x.invariant.repeats, c.one_if_any.ensures, times, repeats-push c.loop-x.self.tally x, ap repeats new);
    }
