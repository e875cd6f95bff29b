use Rattle.std.proofs.Common.{Option, Some, ap, ◌∙◌, arith}
use Rattle.std.proofs.lemmas.List.{length-set}
use Rattle.std.specs.Option.{option_map}
use Rattle.store_turns.specs.declared.waiting.Pending.{Pending}
use Rattle.store_turns.specs.Entries.{changes_of}
use Rattle.store_turns.proofs.ShortLists.{distinct_written_in, written_in}
use Rattle.store_turns.proofs.short_list.ShortList.block.Goals as goal

pub invariant_of-self : goal.invariant_of-self
invariant_of-self c = record {
  within = let k = length-set c.args.self.now.entries.items c.args.place (c.index_mut.result.now.0, c.replace.new.dest) in let w = c.args.self.now.within in omega (arith, k, w);
  distinct = distinct_written_in c.args.self.now.live c.args.self.now.entries.items c.args.place c.index_mut.result.now c.replace.new.dest c.requires c.index_mut.ensures.value c.args.self.now.distinct;
}

pub returns : goal.returns
returns c = record {
  here = ap (λ (o : Option Pending). option_map changes_of o) (written_in c.args.self.now.live c.args.self.now.entries.items c.args.place c.index_mut.result.now c.replace.new.dest c.requires c.index_mut.ensures.value c.args.self.now.distinct).0
      ∙ ap (λ (p : Pending). Some (changes_of p)) c.replace.ensures.after;
  elsewhere = (written_in c.args.self.now.live c.args.self.now.entries.items c.args.place c.index_mut.result.now c.replace.new.dest c.requires c.index_mut.ensures.value c.args.self.now.distinct).1;
}
