use Rattle.std.proofs.Common.{◌∙◌, ◌<◌, length, sym, arith, rules}
use Rattle.std.proofs.lemmas.List.{append-nil}
use Rattle.store_build.specs.Lists.{list_in}
use Rattle.store_build.proofs.UseLemmas.{use_more, uses_whole}
use Rattle.store_build.proofs.uses.add_uses.Goals as goal

pub loop-place-init : goal.loop-place-init
loop-place-init c = record { count = search rules; more = λ i. sym (append-nil (list_in c.args.uses.now.items i)) }

pub loop-place-preserved : goal.loop-place-preserved
loop-place-preserved c =
    let lt : c.loop-place.place < length c.args.inputs.now = omega arith in
    record {
      count = c.in_ok-put.ensures.count ∙ c.loop-place.invariant.count;
      more = use_more c.args.uses.now.items c.loop-place.uses.items c.put.new.lists.items c.args.user c.args.inputs.now c.loop-place.place (record { 0 = 0 }) lt c.in_ok-put.ensures.here c.in_ok-put.ensures.elsewhere c.loop-place.invariant.more;
    }

pub returns-clause-more : goal.returns-clause-more
returns-clause-more c = uses_whole c.args.uses.now.items c.loop-place.uses.items c.args.user c.args.inputs.now c.loop-place.place (omega arith) c.loop-place.invariant.more
