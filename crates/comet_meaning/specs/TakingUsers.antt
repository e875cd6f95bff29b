-- A user's constraint is taken by its name: the first one that is free. From the language.
use Rattle.std.specs.Prelude.{ℕ, Bool, true, false, List, Option, Some, None}
use Rattle.cbl_base.specs.declared.place.Place.{Place}
use Rattle.cbl_base.specs.declared.faults.RunFault.TheVariants.{UnknownUser, UserSpent}
use Rattle.comet_meaning.specs.Users.{first_free, is_known, with_taken}
use Rattle.comet_meaning.specs.Outcome.{Went, Act, fault}

-- the one with this number, if there is one, and else a fault by whether the name is known
abbrev pub taking_user : Place → Bool → Option ℕ → Act ℕ
taking_user at known (Some n) = λ s. Went n (record s { users = with_taken s.users n })
taking_user at true None = fault at UserSpent
taking_user at false None = fault at UnknownUser

-- its number, from 0, among all that were handed in
unfoldable pub take_user : Place → List ℕ → Act ℕ
take_user at name = λ s. taking_user at (is_known name s.users) (first_free name s.users) s
