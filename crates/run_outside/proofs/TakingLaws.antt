-- A user's constraint is taken by its name, or there is none to take.
use Rattle.std.proofs.Common.{◌≡◌, ◌∙◌, refl, ap, ℕ, Bool, true, false, Some, None, List}
use Rattle.cbl_base.specs.declared.place.Place.{Place}
use Rattle.run_solvers.specs.OfCometMeaning.Outcome.{Faulted, Halted, Went}
use Rattle.run_solvers.specs.OfCometMeaning.State.{State, left}
use Rattle.run_solvers.specs.OfCometMeaning.TakingUsers.{take_user, taking_user}
use Rattle.run_solvers.specs.OfCometMeaning.Users.{first_free, is_known, with_taken}
use Rattle.run_outside.specs.HandedIn.{refusal_of}

module _ (at : Place) (name : List ℕ) (s : State) where
  pub taken : (n : ℕ) → first_free name s.users ≡ Some n → take_user at name s ≡ Went n (record s { users = with_taken s.users n })
  unfolding take_user
  taken n e = ap (λ o. taking_user at (is_known name s.users) o s) e

  by_known : (b : Bool) → taking_user at b None s ≡ Halted (Faulted at (refusal_of b)) (left s)
  by_known true = refl
  by_known false = refl

  pub refused : first_free name s.users ≡ None → take_user at name s ≡ Halted (Faulted at (refusal_of (is_known name s.users))) (left s)
  unfolding take_user
  refused none = ap (λ o. taking_user at (is_known name s.users) o s) none ∙ by_known (is_known name s.users)
