-- The node has the rule that is kept of the constraint's.
use Rattle.std.proofs.Common.{◌≡◌, true, rules}
use Rattle.posted_users.proofs.KeptLaws.{is_user_node, kept_of_node}
use Rattle.run_outside.proofs.handed.HandedIn+KindOf+U.new.Goals as goal

pub invariant_of-result : goal.invariant_of-result
invariant_of-result g c = is_user_node (g.U.LocalConstraint.user_rule c.args.user) _ c.user.ensures

pub returns : goal.returns
returns g c =
    let rule = kept_of_node (g.U.LocalConstraint.user_rule c.args.user) _ c.user.ensures in
    let name : c.in_ok-name.name.items ≡ g.U.LocalConstraint.user_name c.args.user = search rules in
    λ i. record { name = name i; rule = rule i; free = true }
