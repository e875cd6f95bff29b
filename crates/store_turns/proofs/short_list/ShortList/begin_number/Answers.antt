use Rattle.std.proofs.Common.{take, [], ◌∷◌, Some, arith}
use Rattle.std.proofs.lemmas.List.{length-set}
use Rattle.cbl_base.specs.declared.input.Change.TheVariants.{Int as IntChange}
use Rattle.store_turns.proofs.ShortLists.{one_more_here, one_more_other, distinct_one_more}
use Rattle.store_turns.proofs.short_list.ShortList.begin_number.Goals as goal

pub invariant_of-self-2 : goal.invariant_of-self-2
invariant_of-self-2 c = record {
  within = let k = length-set c.make_room.new.self.entries.items c.make_room.new.self.live (c.args.turn, c.begin_number_with.new.pending) in let r = c.in_ok-make_room.ensures.room in omega (arith, k, r);
  distinct = distinct_one_more c.make_room.new.self.live (take c.args.self.now.live c.args.self.now.entries.items) c.make_room.new.self.entries.items c.args.turn (c.begin_number_with.new.pending) c.in_ok-make_room.ensures.room c.make_room.ensures.same c.requires c.args.self.now.distinct;
}

pub returns : goal.returns
returns c = record {
  here = one_more_here c.make_room.new.self.live (take c.args.self.now.live c.args.self.now.entries.items) c.make_room.new.self.entries.items c.args.turn c.begin_number_with.new.pending (Some (IntChange c.args.place c.args.old.now c.args.new.now ∷ [])) c.in_ok-make_room.ensures.room c.make_room.ensures.same c.requires c.in_ok-begin_number_with.ensures;
  elsewhere = one_more_other c.make_room.new.self.live (take c.args.self.now.live c.args.self.now.entries.items) c.make_room.new.self.entries.items c.args.turn c.begin_number_with.new.pending c.in_ok-make_room.ensures.room c.make_room.ensures.same c.requires;
}
