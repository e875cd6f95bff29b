-- What an act on a solver changes is queued behind it.
use Rattle.std.proofs.Common.{◌≡◌, sym, ap, subst, ℕ, Result}
use Rattle.comet_meaning.specs.Changes.{changes_of, notice, noticed}
use Rattle.comet_meaning.specs.Outcome.{Act, Went, then_do}
use Rattle.comet_meaning.specs.Parts.{solver_at}
use Rattle.comet_meaning.specs.State.{State}
use Rattle.run_state.specs.SearchActs.{queued}
use Rattle.run_values.specs.Did.{Did, Stopped}
use Rattle.run_values.specs.declared.stop.Stop.{Stop}
use Rattle.run_values.specs.declared.stop.Stop.TheVariants as stops
use Rattle.run_values.specs.declared.stop.Stop.TheVariants.{Fault, Spent, NoMemory, Output}

pub noticed_so : {X : Type 0} (k : ℕ) (act : Act (Unit {0})) (s t : State) (r : Result X Stop) (u : State) → act s ≡ Went tt t → Did (λ _. tt) r u (queued k (changes_of (solver_at s k) (solver_at t k)) t) → Did (λ _. tt) r u (noticed k act s)
unfolding noticed notice
noticed_so k act s t r u e done = subst (λ o. Did (λ _. tt) r u (then_do o (λ _. notice k (solver_at s k)))) (sym e) done

pub noticed_stopped : (k : ℕ) (act : Act (Unit {0})) (s : State) (stop : Stop) (u : State) → Stopped stop u (act s) → Stopped stop u (noticed k act s)
unfolding noticed
noticed_stopped k act s (Fault place f) u e = ap (λ o. then_do o (λ _. notice k (solver_at s k))) e
noticed_stopped k act s (Spent place) u e = ap (λ o. then_do o (λ _. notice k (solver_at s k))) e
noticed_stopped k act s (stops.Cyclic place names) u e = ap (λ o. then_do o (λ _. notice k (solver_at s k))) e
noticed_stopped k act s NoMemory u e = tt
noticed_stopped k act s (Output stop) u e = tt
