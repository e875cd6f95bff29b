use Rattle.std.proofs.Common.{◌∙◌, ◌∷◌, [], ◌++◌, ℤ, pos, ap, sym, map, get_or, take, rules, w64}
use Rattle.std.specs.Prelude.{FitsSigned}
use Rattle.std.proofs.lemmas.Int.{to_z-of_z}
use Rattle.std.proofs.lemmas.List.{take_more, map-append}
use Rattle.diff_load_seq.specs.declared.levels.Level.{Level}
use Rattle.diff_load_seq.proofs.bins.empty_bins.Goals as goal

pub push-requires : goal.push-requires
push-requires c = c.loop-capacity.invariant.kept

-- a bin in which nothing is yet
emptied : ℤ → Level
emptied capacity = record { height = pos 0; limit = capacity }

pub loop-capacity-preserved : goal.loop-capacity-preserved
unfolding emptied
loop-capacity-preserved c =
    let i = c.loop-capacity.capacity-index in
    let next = get_or c.args.capacities.now i (pos 0) in
    let fits : FitsSigned w64 (get_or c.args.capacities.now c.loop-capacity.capacity-index (pos 0)) = search rules in
    record {
      each = c.in_ok-push.ensures.each
          ∙ ap (λ limit. c.loop-capacity.bins.each.items ++ record { height = pos 0; limit = limit } ∷ []) (to_z-of_z w64 next fits)
          ∙ ap (λ bins. bins ++ emptied (get_or c.args.capacities.now c.loop-capacity.capacity-index (pos 0)) ∷ []) c.loop-capacity.invariant.each
          ∙ sym (map-append emptied (take i c.args.capacities.now) (next ∷ []))
          ∙ ap (map emptied) (sym (take_more c.args.capacities.now i (pos 0) c.loop-capacity-test.true));
      kept = c.in_ok-push.ensures.kept;
    }
