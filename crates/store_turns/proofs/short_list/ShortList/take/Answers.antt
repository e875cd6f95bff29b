use Rattle.std.proofs.Common.{◌≡◌, ℕ, ◌+◌, ◌-◌, ◌<◌, List, length, take, arith}
use Rattle.store_turns.specs.declared.waiting.Turn.{Turn}
use Rattle.store_turns.specs.declared.waiting.Pending.{Pending}
use Rattle.store_turns.proofs.ShortLists.{in_front, distinct_left, left, left_found}
use Rattle.store_turns.proofs.short_list.ShortList.take.Goals as goal

one : (n : ℕ) (es : List (Turn × Pending)) (p : ℕ) → p < length (take n es) → n ≡ n - 1 + 1
one n es p lt = let k = in_front n es p lt in omega (arith, k)

pub invariant_of-self : goal.invariant_of-self
invariant_of-self c = record {
  within = let k = c.swap.ensures.len in let w = c.args.self.now.within in omega (arith, k, w);
  distinct = distinct_left c.args.self.now.live (c.args.self.now.live - 1) c.args.self.now.entries.items c.swap.new.self.items c.args.place c.index.result.now c.args.self.now.within (one c.args.self.now.live c.args.self.now.entries.items c.args.place c.requires) c.requires c.index.ensures c.swap.ensures.items c.args.self.now.distinct;
}

pub returns-clause-before : goal.returns-clause-before
returns-clause-before c = left_found c.args.self.now.live (c.args.self.now.live - 1) c.args.self.now.entries.items c.swap.new.self.items c.args.place c.index.result.now c.args.self.now.within (one c.args.self.now.live c.args.self.now.entries.items c.args.place c.requires) c.requires c.index.ensures c.swap.ensures.items c.args.self.now.distinct

pub returns-clause-after : goal.returns-clause-after
returns-clause-after c = left c.args.self.now.live (c.args.self.now.live - 1) c.args.self.now.entries.items c.swap.new.self.items c.args.place c.index.result.now c.args.self.now.within (one c.args.self.now.live c.args.self.now.entries.items c.args.place c.requires) c.requires c.index.ensures c.swap.ensures.items c.args.self.now.distinct
