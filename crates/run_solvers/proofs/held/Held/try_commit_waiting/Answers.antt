-- What waits is committed, if anything does.
use Rattle.std.proofs.Common.{ℤ, List, Option, refl, sym, ap, ◌∙◌}
use Rattle.run_solvers.specs.Changing.{evaluated}
use Rattle.run_solvers.specs.Views.{held_seen, waits}
use Rattle.run_solvers.specs.Waiting.{overlaid}
use Rattle.run_solvers.proofs.BlockLaws.{items_none, items_some, nothing_committed, nothing_kept, waiting_committed}
use Rattle.run_solvers.proofs.TriedLaws.{moved_as}
use Rattle.run_solvers.proofs.ToldLaws.{nothing_told}
use Rattle.run_solvers.proofs.held.Held.try_commit_waiting.Goals as goal

pub returns-in-None : goal.returns-in-None
returns-in-None g c =
    let old = c.args.self.now in
    let whole = c.requires.0 in
    let none = items_none c.replace.new.dest c.replace.ensures.after in record {
      meant = nothing_committed old.solver old.names (waits old) _ (items_none old.waiting (sym c.replace.ensures.value ∙ c.in-None.is)) none;
      kept = (record { number_ = whole.number_; usable = whole.usable; named = whole.named; waits_ = nothing_kept old.solver _ none }, c.requires.1);
      number = refl;
      told = nothing_told old.number (held_seen old) (held_seen (record old { waiting = c.replace.new.dest })) c.new.result refl refl refl c.new.ensures.items;
    }

pub returns-in-Some : goal.returns-in-Some
returns-in-Some g c =
    let old = c.args.self.now in
    let mid = record old { waiting = c.replace.new.dest } in
    moved_as old mid _ c.commit_all.result _ _ refl refl
    (waiting_committed old.solver old.names (waits old) (waits mid) c.in-Some.waiting.items
    (items_some old.waiting c.in-Some.waiting (sym c.replace.ensures.value ∙ c.in-Some.is)) (items_none c.replace.new.dest c.replace.ensures.after)
    ∙ ap (λ (ws : List (Option ℤ)). evaluated (record (held_seen mid) { assignment = overlaid old.solver.assignment ws })) (sym c.deref.ensures.value)) c.commit_all.ensures
