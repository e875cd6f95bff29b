-- One more argument is owned.
use Rattle.std.proofs.Common.{◌∙◌, set, arith}
use Rattle.std.proofs.lemmas.List.{length-set}
use Rattle.run_state.specs.Views.{state_seen}
use Rattle.run_state.proofs.OwnArrays.{seen_own_more}
use Rattle.run_state.proofs.state.State.own_arrays.Goals as goal

pub loop-i-preserved : goal.loop-i-preserved
loop-i-preserved c = record {
  long = length-set (set c.loop-i.owned.items c.loop-i.i c.replace-value.new.dest) c.loop-i.i c.in_ok-owned.field-0 ∙ length-set c.loop-i.owned.items c.loop-i.i c.replace-value.new.dest ∙ c.loop-i.invariant.long;
  fuel = c.in_ok-owned.ensures.fuel ∙ c.loop-i.invariant.fuel;
  owned = λ printed.
      seen_own_more c.loop-i.owned.items c.loop-i.i c.replace-value.result c.replace-value.new.dest c.in_ok-owned.field-0 (state_seen c.loop-i.self printed) (state_seen c.own_array.new.self printed) (omega (arith, c.loop-i.owned.ok.0, c.args.values.ok.0)) (rw c.replace-value.ensures.value c.index_mut.ensures.value) (c.in_ok-owned.ensures.did printed)
      ∙ c.loop-i.invariant.owned printed;
}
