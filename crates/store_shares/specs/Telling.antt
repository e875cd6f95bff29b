-- What a part of a constraint must tell: the number of its term, and the variable's violations in it, whatever is read, as
-- long as what is read are the values and violations of the terms. A rule of this project.
use Rattle.std.specs.Prelude.{◌≡◌, ℕ, pos, ◌+◌, ◌<◌, Bool, true, false, List, [], ◌∷◌, length, map, Some, Ok, Vec}
use Rattle.std.specs.List.{All}
use Rattle.std.specs.declared.alloc.Global.{Global}
use Rattle.cbl_base.specs.Inputs.{number_of}
use Rattle.cbl_base.specs.NumberRule.{NumberRule}
use Rattle.cbl_base.specs.declared.input.Input.{Input}
use Rattle.cbl_base.specs.declared.place.Place.{Place}
use Rattle.cbl_operations.specs.RuleOf.{rule_of}
use Rattle.cbl_operations.specs.declared.op.Op.{Op}
use Rattle.model_values.specs.Outcomes.{Outcome, gathered, outcome_of}
use Rattle.term_model.specs.declared.term.Term.{Term}
use Rattle.term_model.specs.declared.term.Term.TheViews.{Node}
use Rattle.violation_shares.specs.VariableViolations.{number_if, share_of}
use Rattle.store_shares.specs.Parts.{Reading, Told, one_in, told}
use Rattle.store_shares.specs.Slots.{AreMarked, slots_of}
use Rattle.store_shares.specs.declared.parts.Part.{Part}

-- what a term tells
abbrev pub told_of : (ℕ → NumberRule) → (ℕ → Outcome) → (ℕ → Bool) → Term → Told
told_of users env depends t = record { number = number_if (share_of users env depends t).outcome; violation = (share_of users env depends t).violation }

-- the arguments of what is known are known
abbrev pub IsClosed : (Term → Bool) → Type 0
IsClosed known = (t : Term) (op : Op) (args : Vec Term Global) (place : Place) → t ≡ Node op args place → known t ≡ true → All (λ u. known u ≡ true) args.items

-- the known terms all have values, and what is read under their ids are these, and the violations of their places
pub record AreReads (users : ℕ → NumberRule) (env : ℕ → Outcome) (ids : Term → ℕ) (known : Term → Bool) (reading : Reading) : Type 0 where
  pub value : (t : Term) → known t ≡ true → (x : Input) × (outcome_of users env t ≡ Some x) × (number_of x ≡ reading.number (ids t))
  pub violation : (t : Term) (op : Op) (args : Vec Term Global) (place : Place) (xs : List Input) (p : ℕ) → t ≡ Node op args place → known t ≡ true → gathered (map (outcome_of users env) args.items) ≡ Some xs → p < length xs →
      (rule_of users op).violation_at xs p ≡ reading.violation (ids t) p
  pub closed : IsClosed known

-- what is told is right, and it is 0 where no slot depends on the variable
pub record IsTold (users : ℕ → NumberRule) (env : ℕ → Outcome) (depends : ℕ → Bool) (reading : Reading) (test : ℕ → Bool) (part : Part) (t : Term) (first : ℕ) : Type 0 where
  pub right : told reading test part ≡ told_of users env depends t
  pub none : one_in test first (first + length (slots_of t)) ≡ false → (share_of users env depends t).violation ≡ Ok (pos 0)

-- a part whose slots begin at a first one tells a term, whatever is read
abbrev pub Tells : (Term → ℕ) → Part → Term → ℕ → Type 0
Tells ids part t first = (users : ℕ → NumberRule) (env : ℕ → Outcome) (depends : ℕ → Bool) (known : Term → Bool) (reading : Reading) (test : ℕ → Bool) →
    AreReads users env ids known reading → known t ≡ true → AreMarked test depends first (slots_of t) → IsTold users env depends reading test part t first

-- parts tell terms one by one, with their slots behind one another
abbrev pub AllTell : (Term → ℕ) → List Part → List Term → ℕ → Type 0
AllTell ids [] [] first = Unit {0}
AllTell ids [] (t ∷ ts) first = ⊥
AllTell ids (part ∷ parts) [] first = ⊥
AllTell ids (part ∷ parts) (t ∷ ts) first = Tells ids part t first × AllTell ids parts ts (first + length (slots_of t))
