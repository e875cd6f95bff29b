-- How much moves touch, and what is still to be paid for what waits. A rule of this project.
use Rattle.std.specs.Prelude.{ℕ, zero, suc, ◌+◌, ◌*◌, Bool, true, false, cond, not, ◌||◌, ◌&&◌, ℤ, List, [], ◌∷◌, length, Some, None}
use Rattle.std.specs.Ordering.{int_eq}
use Rattle.std.specs.List.{list_any}
use Rattle.cbl_base.specs.declared.input.Input.{Input}
use Rattle.cbl_base.specs.declared.input.Input.TheVariants.{Int, Set}
use Rattle.cbl_base.specs.declared.ids.NodeId.{NodeId}
use Rattle.store_turns.specs.Waits.{Wait}
use Rattle.store_turns.specs.declared.outcome.Outcome.{Outcome}
use Rattle.store_turns.specs.declared.outcome.Outcome.TheVariants.{Value, Fails, Missing}

-- whether two sets have the same members
abbrev pub same_members : List ℤ → List ℤ → Bool
same_members [] [] = true
same_members [] (y ∷ ys) = false
same_members (x ∷ xs) [] = false
same_members (x ∷ xs) (y ∷ ys) = int_eq x y && same_members xs ys

-- whether an outcome is not that value; a fault, or no value, differs from each
abbrev pub differs : Outcome → Input → Bool
differs (Value (Int a)) (Int b) = not (int_eq a b)
differs (Value (Set s)) (Set t) = not (same_members s t)
differs (Value (Int a)) (Set t) = true
differs (Value (Set s)) (Int b) = true
differs (Fails f) x = true
differs Missing x = true

-- over the numbers below n
abbrev pub sum_below : (ℕ → ℕ) → ℕ → ℕ
sum_below f zero = 0
sum_below f (suc n) = sum_below f n + f n

abbrev pub bit : Bool → ℕ
bit true = 1
bit false = 0

-- a moved id, and one with an input that differs
abbrev pub touched : (ℕ → Bool) → (ℕ → Bool) → (ℕ → List ℕ) → ℕ → Bool
touched moved differing inputs j = moved j || list_any differing (inputs j)

-- the edges that come from what differs, and twice what is touched
abbrev pub edges : (ℕ → Bool) → (ℕ → List (NodeId × ℕ)) → ℕ → ℕ
edges differing uses n = sum_below (λ id. cond (differing id) (length (uses id)) 0) n

abbrev pub touch : (ℕ → Bool) → (ℕ → Bool) → (ℕ → List ℕ) → (ℕ → List (NodeId × ℕ)) → ℕ → ℕ
touch moved differing inputs uses n = edges differing uses n + 2 * sum_below (λ j. bit (touched moved differing inputs j)) n

-- the steps of a turn that waits: its pop, its changes, its value, its cell read and written
abbrev pub cost : Wait → ℕ
cost None = 0
cost (Some None) = 4
cost (Some (Some cs)) = 4 + length cs
