-- What a walk puts behind what it has: slots, and the variables that they name. A rule of this project.
use Rattle.std.specs.Prelude.{◌≡◌, ℕ, ◌+◌, List, ◌++◌, length}
use Rattle.term_model.specs.Definitions.{joined}
use Rattle.store_shares.specs.Naming.{IsNaming}
use Rattle.store_shares.specs.declared.walk.Walk.{Walk}

pub record IsWalked (old new : Walk) (slots : List (List ℕ)) : Type 0 where
  pub naming : (variables : ℕ) (lists : List (List ℕ)) → IsNaming variables old.slots lists → IsNaming variables new.slots (lists ++ slots)
  pub count : new.slots.count ≡ old.slots.count + length slots
  pub named : new.named.items ≡ old.named.items ++ joined slots
