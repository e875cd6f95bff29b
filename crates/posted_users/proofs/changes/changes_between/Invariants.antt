use Rattle.posted_users.proofs.ChangeLaws.{LeadTo}
use Rattle.posted_users.proofs.changes.changes_between.Given as goal

abbrev pub invariant-loop-place : goal.invariant-loop-place
invariant-loop-place l = LeadTo l.held l.list l.place l.changes.items
