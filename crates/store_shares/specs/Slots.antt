-- The slots of a term: the argument places of the constraints in it that aren't made of others, and of those that
-- aren't to hold, in the order of a walk; and of each slot the variables in its argument. A rule of this project.
use Rattle.std.specs.Prelude.{◌≡◌, ℕ, ◌+◌, ◌<◌, Bool, true, false, Vec, List, [], ◌∷◌, ◌++◌, length, map, slice_index_or}
use Rattle.std.specs.List.{list_any}
use Rattle.cbl_operations.specs.declared.op.Op.{Op}
use Rattle.cbl_operations.specs.declared.op.Op.TheVariants.{Constraint}
use Rattle.cbl_violations.specs.declared.constraint.Constraint.TheVariants.{AllOf, AnyOf, NotHeld}
use Rattle.term_model.specs.Definitions.{joined}
use Rattle.term_model.specs.declared.term.Term.{Term}
use Rattle.term_model.specs.declared.term.Term.TheOpen.{Term-F}
use Rattle.term_model.specs.declared.term.Term.TheFolds.{fold-Term}
use Rattle.std.specs.declared.alloc.Global.{Global}
use Rattle.store_shares.specs.declared.parts.Kind.{Kind}
use Rattle.store_shares.specs.declared.parts.Part.{Part}
use Rattle.store_shares.specs.declared.parts.Part.TheVariants.{Negation as NegationPart, Plain as PlainPart}
use Rattle.store_shares.specs.declared.parts.Part.TheViews.{Every as EveryPart, One as OnePart}
use Rattle.store_shares.specs.declared.parts.Kind.TheVariants.{Every, One, Negation, Plain}

-- how a constraint is made of others
abbrev pub kind_of : Op → Kind
kind_of (Constraint AllOf) = Every
kind_of (Constraint AnyOf) = One
kind_of (Constraint NotHeld) = Negation
kind_of op = Plain

-- whether it isn't made of others that tell of the variable
abbrev pub is_flat : Kind → Bool
is_flat Every = false
is_flat One = false
is_flat Negation = true
is_flat Plain = true

-- the part of a constraint that is made so
abbrev pub part_by : Kind → ℕ → ℕ → ℕ → Vec Part Global → Part
part_by Every id first end parts = EveryPart id first end parts
part_by One id first end parts = OnePart id first end parts
part_by Negation id first end parts = NegationPart id first end
part_by Plain id first end parts = PlainPart id first end

-- the variables in a term, and in the argument of each of its slots
pub record Slotted : Type 0 where
  pub vars : List ℕ
  pub slots : List (List ℕ)

abbrev pub joined_slots : List (List (List ℕ)) → List (List ℕ)
joined_slots [] = []
joined_slots (ss ∷ sss) = ss ++ joined_slots sss

abbrev pub slots_by : Kind → List Slotted → List (List ℕ)
slots_by Every args = joined_slots (map (λ s. s.slots) args)
slots_by One args = joined_slots (map (λ s. s.slots) args)
slots_by Negation args = map (λ s. s.vars) args
slots_by Plain args = map (λ s. s.vars) args

abbrev pub slots_step : Term-F Slotted → Slotted
slots_step (Term-F.Const x) = record { vars = []; slots = [] }
slots_step (Term-F.ConstSet s) = record { vars = []; slots = [] }
slots_step (Term-F.Var v) = record { vars = v.index ∷ []; slots = [] }
slots_step (Term-F.Node op args place) = record { vars = joined (map (λ s. s.vars) args.items); slots = slots_by (kind_of op) args.items }

abbrev pub slotted : Term → Slotted
slotted = fold-Term Slotted slots_step

abbrev pub slots_of : Term → List (List ℕ)
slots_of t = (slotted t).slots

-- the variables of the slot with a number, none past the end
abbrev pub slot_at : List (List ℕ) → ℕ → List ℕ
slot_at slots k = slice_index_or slots k []

-- from a first one on those slots pass that depend on the variable
abbrev pub AreMarked : (ℕ → Bool) → (ℕ → Bool) → ℕ → List (List ℕ) → Type 0
AreMarked test depends first slots = (k : ℕ) → k < length slots → test (first + k) ≡ list_any depends (slot_at slots k)
