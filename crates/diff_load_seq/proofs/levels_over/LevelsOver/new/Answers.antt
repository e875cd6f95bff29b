use Rattle.std.proofs.Common.{ap, sym, subst}
use Rattle.std.specs.Map.{lookup}
use Rattle.std.specs.Ordering.{nat_cmp}
use Rattle.std.specs.BTreeMap.{is_at}
use Rattle.diff_load_seq.specs.Parts.{IsSumOf}
use Rattle.diff_load_seq.specs.Levels.{excesses}
use Rattle.diff_load_seq.proofs.OverLemmas.{nothing_kept}
use Rattle.diff_load_seq.proofs.levels_over.LevelsOver.new.Goals as goal

pub returns-clause-shown : goal.returns-clause-shown
returns-clause-shown c =
    nothing_kept c.args.levels.now.each.items (record { raised = c.new.result; excess = c.args.levels.now.excess })
    (λ k. ap (lookup (is_at (nat_cmp k))) c.new.ensures.empty)

pub returns-clause-kept : goal.returns-clause-kept
returns-clause-kept c =
    subst (λ levels. IsSumOf c.args.levels.now.excess (excesses levels))
    (sym (nothing_kept c.args.levels.now.each.items (record { raised = c.new.result; excess = c.args.levels.now.excess })
    (λ k. ap (lookup (is_at (nat_cmp k))) c.new.ensures.empty)))
    c.requires
