use Rattle.std.proofs.Common.{◌<◌, ◌^◌, ◌∙◌, pos, ap, sym, subst, get_or, length, to_z, of_z, rules, arith, w64}
use Rattle.std.specs.Prelude.{FitsSigned}
use Rattle.std.proofs.lemmas.Int.{to_z-of_z}
use Rattle.std.proofs.lemmas.List.{length-set}
use Rattle.diff_load_seq.specs.Bins.{AreLow, item_moved}
use Rattle.diff_load_seq.proofs.ProductLemmas.{change_within}
use Rattle.diff_load_seq.proofs.BinLoads.{bins_low, bins_moved}
use Rattle.diff_load_seq.proofs.multi_knapsack.MultiKnapsackNumberNode.set.Goals as goal

pub size_at-size-requires : goal.size_at-size-requires
size_at-size-requires c = omega (arith, change_within c.args.self.now.sizes c.args.self.now.numbers.items c.args.change c.requires.change, c.requires.settled.0)

pub move_item-requires-clause-room : goal.move_item-requires-clause-room
move_item-requires-clause-room c =
    let short : length c.args.self.now.numbers.items < 2 ^ 63 = search rules in
    subst AreLow (sym c.requires.settled.1)
    (bins_low c.args.self.now.sizes c.args.self.now.low c.args.self.now.capacities c.args.self.now.numbers.items (length c.args.self.now.numbers.items) c.requires.settled.3 short)

pub index_mut-requires : goal.index_mut-requires
index_mut-requires c =
    let within = change_within c.args.self.now.sizes c.args.self.now.numbers.items c.args.change c.requires.change in
    let ok = c.args.self.now.numbers.ok in
    omega (arith, within, ok.0)

pub returns-clause-settled : goal.returns-clause-settled
returns-clause-settled c =
    let low : FitsSigned w64 c.args.self.now.low = search rules in
    let size : FitsSigned w64 c.size_at-size.result = search rules in
    let fits : FitsSigned w64 c.args.change.new = search rules in
    let same = length-set c.args.self.now.numbers.items c.args.change.place c.args.change.new in
    rw (to_z-of_z w64 c.args.change.new fits) (
      same ∙ c.requires.settled.0,
      c.move_item.ensures.each
          ∙ ap (λ low. item_moved low (to_z w64 (of_z w64 c.size_at-size.result)) c.args.change c.args.self.now.bins.each.items) (to_z-of_z w64 c.args.self.now.low low)
          ∙ ap (λ size. item_moved c.args.self.now.low size c.args.change c.args.self.now.bins.each.items) (to_z-of_z w64 c.size_at-size.result size ∙ c.size_at-size.ensures)
          ∙ ap (item_moved c.args.self.now.low (get_or c.args.self.now.sizes c.args.change.place (pos 0)) c.args.change) c.requires.settled.1
          ∙ bins_moved c.args.self.now.sizes c.args.self.now.low c.args.self.now.capacities c.args.self.now.numbers.items c.args.change c.requires.change,
      c.move_item.ensures.kept,
      (λ k h. c.requires.settled.3 k (omega (arith, h, same))),
    )
