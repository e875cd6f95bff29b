-- What a node computes is its rule: which inputs it takes, its value of a list of inputs, and the
-- violation at each of its places. A rule of this project.
use Rattle.std.specs.Prelude.{◌≡◌, ℕ, ℤ, Bool, List, IsTrue, Result, Ok, Err}
use Rattle.std.proofs.Common.{ap, sym, ◌∙◌}
use Rattle.cbl_base.specs.Inputs.{InputKind, number_kind, kind_of, kinds_of}
use Rattle.cbl_base.specs.declared.input.Input.{Input}
use Rattle.cbl_base.specs.declared.faults.RunFault.{RunFault}
use Rattle.cbl_base.specs.declared.faults.NodeFault.{NodeFault}
use Rattle.cbl_base.specs.declared.faults.NodeFault.TheVariants.{Run, NoMemory}

-- Whether it takes inputs depends on how many they are and on their kinds alone. Of a list that it
-- doesn't take, `value` and `violation_at` say nothing; `violation_at` is 0 for what isn't a constraint.
pub record Rule : Type 0 where
  pub takes : List InputKind → Bool
  pub value : List Input → Result Input RunFault
  pub violation_at : List Input → ℕ → ℤ

-- over inputs of the same kinds all values are of one kind
abbrev pub GivesOneKind : Rule → Type 0
GivesOneKind rule =
    (xs ys : List Input) (x y : Input) → IsTrue (rule.takes (kinds_of xs)) → kinds_of ys ≡ kinds_of xs
    → rule.value xs ≡ Ok x → rule.value ys ≡ Ok y → kind_of x ≡ kind_of y

-- the kind of a value, where there is one
abbrev pub kind_if_ok : Result Input RunFault → InputKind
kind_if_ok (Ok x) = kind_of x
kind_if_ok (Err fault) = number_kind

pub kind_of-value : (value : Result Input RunFault) (x : Input) → value ≡ Ok x → kind_of x ≡ kind_if_ok value
kind_of-value value x e = sym (ap kind_if_ok e)

-- so it is where every value is of that kind
pub one_kind_from : (rule : Rule) (kind : InputKind) → ((xs : List Input) (x : Input) → rule.value xs ≡ Ok x → kind_of x ≡ kind) → GivesOneKind rule
one_kind_from rule kind is xs ys x y takes same ex ey = is xs x ex ∙ sym (is ys y ey)

-- an answer where this is the value: the value, its fault, or no memory
abbrev pub IsAnswer : Result Input RunFault → Result Input NodeFault → Type 0
IsAnswer value (Ok v) = value ≡ Ok v
IsAnswer value (Err (Run fault)) = value ≡ Err fault
IsAnswer value (Err NoMemory) = Unit {0}
