-- Aggregates outside terms: the elements are evaluated in order of the tuples that pass the condition, all of them, and
-- then comes the value. From the language.
use Rattle.std.specs.Prelude.{ℤ, Bool, List, [], ◌∷◌, ◌++◌, length, map, nat_lt, Result, Ok, Err, if◌then◌else◌}
use Rattle.std.specs.List.{list_all, list_any}
use Rattle.cbl_base.specs.Arithmetic.{exact}
use Rattle.cbl_base.specs.Totals.{total}
use Rattle.cbl_base.specs.declared.place.Place.{Place}
use Rattle.cbl_base.specs.declared.faults.Limit.TheVariants.{Cells}
use Rattle.cbl_base.specs.declared.faults.RunFault.{RunFault}
use Rattle.cbl_base.specs.declared.faults.RunFault.TheVariants.{EmptyRange, TooMany}
use Rattle.cbl_operations.specs.Keyed.{keyed_value}
use Rattle.cbl_operations.specs.Operations.Least.{least_of}
use Rattle.cbl_operations.specs.Operations.Greatest.{greatest_of}
use Rattle.cbl_operations.specs.declared.keyed.KeyedOp.{KeyedOp}
use Rattle.cbl_operations.specs.declared.keyed.KeyedOp.TheVariants.{ArgMin, ArgMax, SetOf}
use Rattle.comet_syntax.specs.declared.tree.expressions.Aggregate.{Aggregate}
use Rattle.comet_syntax.specs.declared.tree.expressions.Aggregate.TheVariants as aggregates
use Rattle.checked_tree.specs.Shape.{Shape}
use Rattle.comet_meaning.specs.Values.{Value, Number, Truth, Set, Row, number_of, truth_of}
use Rattle.comet_meaning.specs.Outcome.{Act, ◌>>=◌, give, give_or, unless, always}
use Rattle.comet_meaning.specs.Cells.{in_scope}
use Rattle.comet_meaning.specs.Limits.{most_cells}
use Rattle.comet_meaning.specs.Levels.{Level}
use Rattle.comet_meaning.specs.Parts.{condition, value}
use Rattle.comet_meaning.specs.Generators.{each_tuple}

-- an element: the value of the generator, and that of the body
pub record Element : Type 0 where
  pub key : ℤ
  pub value : Value

abbrev pub keys_of : List Element → List ℤ
keys_of xs = map (λ x. x.key) xs

abbrev pub numbers_of : List Element → List ℤ
numbers_of xs = map (λ x. number_of x.value) xs

abbrev pub truths_of : List Element → List Bool
truths_of xs = map (λ x. truth_of x.value) xs

-- one more element; an `all` has at most as many as an array has cells
abbrev pub with_element : Place → Aggregate → ℤ → List Element → Value → Act (List Element)
with_element at aggregates.All key xs v = do
  _ ← unless (nat_lt (length xs) most_cells) at (TooMany Cells)
  give (xs ++ record { key = key; value = v } ∷ [])
with_element at a key xs v = give (xs ++ record { key = key; value = v } ∷ [])

-- the element of a tuple that passes the condition
unfoldable pub element_form : Level → Place → Aggregate → Shape → Shape → ℤ → List Element → Act (List Element)
element_form l at a c body key xs = do
  passes ← condition l c
  if passes then (value l body >>= with_element at a key xs) else give xs

-- the extreme of some numbers, and a fault of none
abbrev pub extreme_of : (List ℤ → ℤ) → List ℤ → Result ℤ RunFault
extreme_of f [] = Err EmptyRange
extreme_of f (x ∷ xs) = Ok (f (x ∷ xs))

-- the set of some of the keys, by the numbers
abbrev pub keys_by : KeyedOp → List Element → List ℤ
keys_by op xs = keyed_value op (keys_of xs) (numbers_of xs)

-- what the elements give: a `sum` is one operation, so only its total must fit
abbrev pub aggregate_value : Place → Aggregate → List Element → Act Value
aggregate_value at aggregates.Sum xs = give_or at (exact (total (numbers_of xs))) >>= λ z. give (Number z)
aggregate_value at aggregates.Min xs = give_or at (extreme_of least_of (numbers_of xs)) >>= λ z. give (Number z)
aggregate_value at aggregates.Max xs = give_or at (extreme_of greatest_of (numbers_of xs)) >>= λ z. give (Number z)
aggregate_value at aggregates.All xs = give (Row (numbers_of xs))
aggregate_value at aggregates.And xs = give (Truth (list_all (λ b. b) (truths_of xs)))
aggregate_value at aggregates.Or xs = give (Truth (list_any (λ b. b) (truths_of xs)))
aggregate_value at aggregates.SetOf xs = give (Set (keys_by SetOf xs))
aggregate_value at aggregates.ArgMin xs = give (Set (keys_by ArgMin xs))
aggregate_value at aggregates.ArgMax xs = give (Set (keys_by ArgMax xs))

unfoldable pub aggregate_form : Level → Place → Aggregate → List Shape → Shape → Shape → Act Value
aggregate_form l at a gs c body =
    in_scope (each_tuple l at always (element_form l at a c body) [] gs []) >>= aggregate_value at a
