-- The answer of a part that is evaluated without a change of the state: it is the part's value, and the state is as it
-- was. Where nothing is answered nothing is said. A rule of this project.
use Rattle.std.specs.Prelude.{◌≡◌, ℤ, Bool, Option, Some, None, Ok}
use Rattle.checked_tree.specs.declared.expressions.Slot.{Slot}
use Rattle.checked_tree.specs.declared.kind.Kind.{Kind}
use Rattle.checked_tree.specs.declared.kind.Kind.TheVariants as kinds
use Rattle.comet_syntax.specs.declared.tree.expressions.ChainOperator.{ChainOperator}
use Rattle.comet_syntax.specs.declared.tree.expressions.ChainOperator.TheVariants as chains
use Rattle.comet_meaning.specs.Arithmetic.{result_of}
use Rattle.comet_meaning.specs.Values.{Value, Number}
use Rattle.comet_meaning.specs.State.{State}
use Rattle.comet_meaning.specs.Outcome.{Outcome, Went}
use Rattle.comet_meaning.specs.Levels as levels
use Rattle.run_objects.specs.OfRunState.declared.targets.Target.{Target}
use Rattle.run_objects.specs.OfRunState.Targets.{target_seen}
use Rattle.run_values.specs.declared.values.Value.{Value as declared}
use Rattle.run_values.specs.Views.{value_seen}

abbrev pub GivesValue : Option declared → State → Outcome Value → Type 0
GivesValue None s o = Unit {0}
GivesValue (Some v) s o = o ≡ Went (value_seen v) s

-- a value that is a number
abbrev pub GivesNumber : Option ℤ → State → Outcome Value → Type 0
GivesNumber None s o = Unit {0}
GivesNumber (Some z) s o = o ≡ Went (Number z) s

abbrev pub GivesWhole : Option ℤ → State → Outcome ℤ → Type 0
GivesWhole None s o = Unit {0}
GivesWhole (Some z) s o = o ≡ Went z s

abbrev pub GivesTruth : Option Bool → State → Outcome Bool → Type 0
GivesTruth None s o = Unit {0}
GivesTruth (Some b) s o = o ≡ Went b s

-- what a part stands for where it is written
abbrev pub GivesTarget : Option Target → State → Outcome levels.Target → Type 0
GivesTarget None s o = Unit {0}
GivesTarget (Some t) s o = o ≡ Went (target_seen t) s

-- a name of a number, whose own cell is what is written
abbrev pub GivesName : Option Slot → Kind → State → Outcome levels.Target → Type 0
GivesName None k s o = Unit {0}
GivesName (Some slot) k s o = (k ≡ kinds.Int) × (o ≡ Went (levels.Name slot) s)

-- a result of an arithmetic operator that fits
abbrev pub IsArithmetic : ChainOperator → Type 0
IsArithmetic chains.Or = ⊥
IsArithmetic chains.And = ⊥
IsArithmetic o = Unit {0}

pub record Results (o : ChainOperator) (a b z : ℤ) : Type 0 where
  pub arithmetic : IsArithmetic o
  pub is : result_of o a b ≡ Ok z

abbrev pub ResultsIn : ChainOperator → ℤ → ℤ → Option ℤ → Type 0
ResultsIn o a b None = Unit {0}
ResultsIn o a b (Some z) = Results o a b z
