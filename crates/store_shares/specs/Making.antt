-- What is made of the systems so far: the parts of their members' terms, with the slots and the members that name each
-- variable, and which of the parts are each system's. A rule of this project.
use Rattle.std.specs.Prelude.{◌≡◌, ℕ, ◌+◌, List, [], ◌∷◌, ◌++◌, length, map}
use Rattle.term_model.specs.Definitions.{joined}
use Rattle.term_model.specs.declared.model.Total.{Total}
use Rattle.term_model.specs.declared.term.Term.{Term}
use Rattle.store_shares.specs.Made.{terms_of}
use Rattle.store_shares.specs.Naming.{IsNaming}
use Rattle.store_shares.specs.Slots.{joined_slots, slots_of}
use Rattle.store_shares.specs.Telling.{AllTell}
use Rattle.store_shares.specs.declared.making.Making.{Making}
use Rattle.store_shares.specs.declared.parts.Span.{Span}

-- the slots of terms, and the variables that each term's slots name
abbrev pub slots_among : List Term → List (List ℕ)
slots_among terms = joined_slots (map slots_of terms)

abbrev pub named_among : List Term → List (List ℕ)
named_among terms = map (λ t. joined (slots_of t)) terms

pub record IsMaking (variables : ℕ) (ids : Term → ℕ) (making : Making) (terms : List Term) : Type 0 where
  pub slots : IsNaming variables making.walk.slots (slots_among terms)
  pub members : IsNaming variables making.members (named_among terms)
  pub tell : AllTell ids making.parts.items terms 0

-- the terms of all members, and where each system's are among them
abbrev pub terms_in : List Total → List Term
terms_in [] = []
terms_in (total ∷ totals) = terms_of total ++ terms_in totals

abbrev pub spans_of : ℕ → List Total → List Span
spans_of first [] = []
spans_of first (total ∷ totals) = record { first = first; end = first + length (terms_of total) } ∷ spans_of (first + length (terms_of total)) totals

pub record IsMakingOf (variables : ℕ) (ids : Term → ℕ) (making : Making) (totals : List Total) : Type 0 where
  pub made : IsMaking variables ids making (terms_in totals)
  pub spans : making.systems.items ≡ spans_of 0 totals
