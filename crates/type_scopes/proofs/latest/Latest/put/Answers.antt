use Rattle.std.proofs.Common.{subst}
use Rattle.std.specs.Prelude.{List, ℕ, Some}
use Rattle.std.specs.Ordering.{nat_cmp}
use Rattle.std.specs.Cmp.Lexicographic.{slice_cmp}
use Rattle.std.specs.BTreeMap.{UpdatesBy}
use Rattle.type_scopes.proofs.Spellings.{renumbered}
use Rattle.type_scopes.proofs.latest.Latest.put.Goals as goal

pub returns-clause-ok : goal.returns-clause-ok
returns-clause-ok c =
    renumbered c.args.name.now c.args.self.now.by_name c.insert.new.self c.args.number
    (subst (λ (bs : List ℕ). UpdatesBy (λ x y. slice_cmp nat_cmp x.items y.items) (λ k. slice_cmp nat_cmp bs k.items) c.args.self.now.by_name c.insert.new.self (Some c.args.number))
    c.in_ok-key.ensures.items c.in_ok-insert.ensures.updates)
