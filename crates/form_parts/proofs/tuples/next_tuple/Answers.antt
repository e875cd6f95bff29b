use Rattle.std.proofs.Common.{◌≡◌, sym, ap, arith, [], ◌∷◌, ◌++◌, length}
use Rattle.std.proofs.lemmas.List.{length_push}
use Rattle.run_steps.specs.OpenTuples.{pending_seen}
use Rattle.run_steps.proofs.TupleLaws.{all_close, one_closes, empty}
use Rattle.form_parts.proofs.tuples.next_tuple.Goals as goal

pub loop-value-preserved-in-Some-pop : goal.loop-value-preserved-in-Some-pop
loop-value-preserved-in-Some-pop g c = let is : c.loop-value.tuples.below.items ≡ c.pop.new.self.items ++ c.in-Some-pop.entered ∷ [] = c.in-Some-pop.ensures.items in record { left = λ V m. one_closes c.loop-value.tuples.below.items c.pop.new.self.items c.in-Some-pop.entered (pending_seen c.loop-value.tuples.top) is (sym c.in-None.ensures.next) (c.loop-value.invariant.left V m); inside = omega (arith, ap length is, length_push c.pop.new.self.items c.in-Some-pop.entered, c.loop-value.invariant.inside); fuel = c.loop-value.invariant.fuel }

pub loop-value-preserved : goal.loop-value-preserved
loop-value-preserved g c = let is : c.loop-value.tuples.below.items ≡ c.pop.new.self.items ++ c.in-Some-pop.entered ∷ [] = c.in-Some-pop.ensures.items in record { left = λ V m. one_closes c.loop-value.tuples.below.items c.pop.new.self.items c.in-Some-pop.entered (pending_seen c.loop-value.tuples.top) is (sym c.in-None.ensures.next) (c.loop-value.invariant.left V m); inside = omega (arith, ap length is, length_push c.pop.new.self.items c.in-Some-pop.entered, c.loop-value.invariant.inside); fuel = c.loop-value.invariant.fuel }

pub returns-in-None-pop-clause-did : goal.returns-in-None-pop-clause-did
returns-in-None-pop-clause-did g c = let none : c.loop-value.tuples.below.items ≡ [] = empty c.loop-value.tuples.below.items (omega (arith, c.in-None-pop.ensures.cases.0, c.loop-value.tuples.below.ok.0)) in λ V m. all_close c.loop-value.tuples.below.items (pending_seen c.loop-value.tuples.top) none (sym c.in-None.ensures.next) (c.loop-value.invariant.left V m)
