-- Two entries whose replies their requests can have can be replayed.
use Rattle.std.proofs.Common.{◌≡◌, ℕ, zero, suc, List, [], ◌∷◌, Option, None, Some, subst}
use Rattle.best_monitor.specs.Port.{HoldsAll}
use Rattle.best_monitor.specs.declared.request.Reply.{Reply}
use Rattle.pool_monitor.specs.declared.request.DeskRequest.{DeskRequest}
use Rattle.pool_monitor.specs.Replies.{CanHave}
use Rattle.replay_port.specs.declared.lines.EntryLine.{EntryLine}
use Rattle.replay_port.specs.Lines.{lines_of, pairs_of}

pub two_had : (e g : EntryLine) → CanHave e.entry.now.request e.entry.now.reply → CanHave g.entry.now.request g.entry.now.reply → HoldsAll CanHave (Some (pairs_of (lines_of (e ∷ g ∷ []))))
two_had e g one two zero x there = let is : Some (e.entry.now.request, e.entry.now.reply) ≡ Some x = there in let same : (e.entry.now.request, e.entry.now.reply) ≡ x = cc in subst (λ (y : DeskRequest × Reply). CanHave y.0 y.1) same one
two_had e g one two (suc zero) x there = let is : Some (g.entry.now.request, g.entry.now.reply) ≡ Some x = there in let same : (g.entry.now.request, g.entry.now.reply) ≡ x = cc in subst (λ (y : DeskRequest × Reply). CanHave y.0 y.1) same two
two_had e g one two (suc (suc i)) x there = absurd (let is : None ≡ Some x = there in cc)
