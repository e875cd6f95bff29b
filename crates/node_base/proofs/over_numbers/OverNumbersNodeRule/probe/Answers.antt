use Rattle.std.proofs.Common.{◌≡◌, ◌∙◌, arith}
use Rattle.node_base.specs.NumberChanges.{number_changes_of}
use Rattle.node_base.proofs.ChangeLemmas.{read_of_number, all_of_numbers, are_number_changes, one_change, two_changes, probed}
use Rattle.node_base.proofs.over_numbers.OverNumbersNodeRule.probe.Goals as goal
use Rattle.node_base.proofs.over_numbers.OverNumbersNodeRule.probe.Goals.{After-as_slice, After-as_slice-in-2}

-- what is probed are the changes
only_one : (g : _) (c : After-as_slice g) → c.as_slice.result.now ≡ number_changes_of c.args.changes.now
only_one g c = c.as_slice.ensures ∙ one_change _ _ _ c.in-1.is c.index-changes-0.is c.number_change.ensures

both : (g : _) (c : After-as_slice-in-2 g) → c.as_slice-in-2.result.now ≡ number_changes_of c.args.changes.now
both g c =
    c.as_slice-in-2.ensures
    ∙ two_changes _ _ _ _ _ c.in-2.is c.index-changes-0-in-2.is c.number_change-in-2.ensures c.index-changes-1.is c.number_change-in-2-2.ensures

pub number_change-requires : goal.number_change-requires
number_change-requires g c = read_of_number _ _ 0 _ c.requires.changes (omega (arith, c.in-1.is)) c.index-changes-0.is

pub probe-requires-clause-changes : goal.probe-requires-clause-changes
probe-requires-clause-changes g c = rw (only_one g (goal.at.probe-requires-clause-changes g c).After-as_slice) (are_number_changes _ _ c.requires.changes)

pub returns-in-1 : goal.returns-in-1
returns-in-1 g c =
    probed (g.N.NumberNode.number_rule c.args.self.now.node) _ _ _ _ _ c.requires.changes (only_one g (goal.at.returns-in-1 g c).After-as_slice) c.probe.ensures c.probed_value.ensures

pub number_change-requires-in-2 : goal.number_change-requires-in-2
number_change-requires-in-2 g c = read_of_number _ _ 0 _ c.requires.changes (omega (arith, c.in-2.is)) c.index-changes-0-in-2.is

pub number_change-requires-in-2-2 : goal.number_change-requires-in-2-2
number_change-requires-in-2-2 g c = read_of_number _ _ 1 _ c.requires.changes (omega (arith, c.in-2.is)) c.index-changes-1.is

pub probe-requires-in-2-clause-changes : goal.probe-requires-in-2-clause-changes
probe-requires-in-2-clause-changes g c = rw (both g (goal.at.probe-requires-in-2-clause-changes g c).After-as_slice-in-2) (are_number_changes _ _ c.requires.changes)

pub returns-in-2 : goal.returns-in-2
returns-in-2 g c =
    probed (g.N.NumberNode.number_rule c.args.self.now.node) _ _ _ _ _ c.requires.changes (both g (goal.at.returns-in-2 g c).After-as_slice-in-2) c.probe-in-2.ensures c.probed_value-in-2.ensures

pub few_changes-few-requires-clause-numbers : goal.few_changes-few-requires-clause-numbers
few_changes-few-requires-clause-numbers g c = all_of_numbers _ _ c.requires.changes

pub probe-requires-in-3-to-8-clause-changes : goal.probe-requires-in-3-to-8-clause-changes
probe-requires-in-3-to-8-clause-changes g c = rw c.few_changes-few.ensures (are_number_changes _ _ c.requires.changes)

pub returns-in-3-to-8 : goal.returns-in-3-to-8
returns-in-3-to-8 g c =
    probed (g.N.NumberNode.number_rule c.args.self.now.node) _ _ _ _ _ c.requires.changes c.few_changes-few.ensures c.probe-in-3-to-8.ensures c.probed_value-in-3-to-8.ensures

pub probe-requires-in_default-clause-changes : goal.probe-requires-in_default-clause-changes
probe-requires-in_default-clause-changes g c =
    rw (c.as_slice-in_default.ensures.value, c.in_ok-all-in_default.ensures) (are_number_changes _ _ c.requires.changes)

pub returns-in_ok-all-in_default : goal.returns-in_ok-all-in_default
returns-in_ok-all-in_default g c =
    probed (g.N.NumberNode.number_rule c.args.self.now.node) _ _ _ _ _ c.requires.changes (c.as_slice-in_default.ensures.value ∙ c.in_ok-all-in_default.ensures) c.probe-in_default.ensures c.probed_value-in_default.ensures
