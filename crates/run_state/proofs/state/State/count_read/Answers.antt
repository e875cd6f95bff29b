-- The numbers of an array that isn't one of variables are counted as they are.
use Rattle.std.proofs.Common.{List, ℤ, pos, sym, ◌∙◌, ap, rules}
use Rattle.std.specs.Int.{w64}
use Rattle.std.proofs.lemmas.Int.{ints, to_z-of_z}
use Rattle.cbl_base.specs.Counts.{count_of}
use Rattle.run_state.specs.Views.{state_seen}
use Rattle.run_state.proofs.EitherArray.{other_count}
use Rattle.run_state.proofs.state.State.count_read.Goals as goal

pub returns-in_default : goal.returns-in_default
returns-in_default g c = record {
  did =
      let printed = g.O.Outside.told c.args.out.now in
      let law = other_count c.args.at (state_seen c.args.self.now printed) c.args.array.now c.args.number c.in_default.not-Variables in
      let same = simp (to_z-of_z w64 c.args.number c.ranges.number) at c.count_in-in_default.ensures in
      let given = ap (λ (xs : List ℤ). pos (count_of c.args.number xs)) (sym (c.numbers.ensures printed)) ∙ sym same in
      rw (law, given) (search (rules, ints, to_z-of_z));
  stop = tt;
}
