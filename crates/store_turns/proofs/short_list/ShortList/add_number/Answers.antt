use Rattle.std.proofs.Common.{Option, Some, take, ap, ◌∙◌, arith}
use Rattle.std.proofs.lemmas.List.{length-set}
use Rattle.std.specs.Option.{option_map}
use Rattle.cbl_base.specs.declared.input.Change.TheVariants.{Int as IntChange}
use Rattle.store_turns.specs.declared.waiting.Pending.{Pending}
use Rattle.store_turns.specs.declared.waiting.Pending.TheVariants.{Below}
use Rattle.store_turns.specs.Entries.{changes_of, and_change}
use Rattle.store_turns.proofs.ShortLists.{distinct_written_in, written_in, read_in, pending_read, found_at, when_ok}
use Rattle.store_turns.proofs.short_list.ShortList.add_number.Goals as goal

pub invariant_of-self : goal.invariant_of-self
invariant_of-self c = record {
  within = let k = length-set c.args.self.now.entries.items c.args.at (c.index_mut.result.now.0, c.add_number_to.new.pending) in let w = c.args.self.now.within in omega (arith, k, w);
  distinct = distinct_written_in c.args.self.now.live c.args.self.now.entries.items c.args.at c.index_mut.result.now c.add_number_to.new.pending c.requires c.index_mut.ensures.value c.args.self.now.distinct;
}

pub returns-clause-before : goal.returns-clause-before
returns-clause-before c = found_at (take c.args.self.now.live c.args.self.now.entries.items) c.args.at (record { layer = 0; id = 0 }, Below) c.args.self.now.distinct c.requires

pub returns-clause-after : goal.returns-clause-after
returns-clause-after c =
    when_ok c.add_number_to.result _ _ (λ e. record {
      here =
          ap (λ (o : Option Pending). option_map changes_of o) (written_in c.args.self.now.live c.args.self.now.entries.items c.args.at c.index_mut.result.now c.add_number_to.new.pending c.requires c.index_mut.ensures.value c.args.self.now.distinct).0
          ∙ ap (λ o. Some o) e
          ∙ ap (λ (p : Pending). Some (and_change (IntChange c.args.place c.args.old.now c.args.new.now) (Some (changes_of p)))) (pending_read (take c.args.self.now.live c.args.self.now.entries.items) c.args.at c.index_mut.result.now c.requires (read_in c.args.self.now.live c.args.self.now.entries.items c.args.at c.index_mut.result.now c.requires c.index_mut.ensures.value));
      elsewhere = (written_in c.args.self.now.live c.args.self.now.entries.items c.args.at c.index_mut.result.now c.add_number_to.new.pending c.requires c.index_mut.ensures.value c.args.self.now.distinct).1;
    }) c.add_number_to.ensures
