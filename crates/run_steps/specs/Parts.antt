-- Parts of forms that the code evaluates in functions of their own. From the language.
use Rattle.std.specs.Prelude.{Bool, true, false, List, []}
use Rattle.cbl_base.specs.declared.place.Place.{Place}
use Rattle.checked_tree.specs.declared.kind.Kind.{Kind}
use Rattle.checked_tree.specs.declared.kind.Kind.TheVariants as kinds
use Rattle.checked_tree.specs.declared.expressions.Builtin.{Builtin}
use Rattle.checked_tree.specs.Shape.{Shape}
use Rattle.comet_meaning.specs.Values.{Value, as_kind}
use Rattle.comet_meaning.specs.Terms.{InTerm, standing}
use Rattle.comet_meaning.specs.Outcome.{Act, ◌>>=◌, give, charge}
use Rattle.comet_meaning.specs.Levels.{Code, Level}
use Rattle.comet_meaning.specs.Parts.{number, value, values}
use Rattle.comet_meaning.specs.Builtins.{builtin_value}
use Rattle.comet_meaning.specs.Variables.{Beginning, beginning_with}
use Rattle.term_model.specs.declared.model.VarKind.{VarKind}
use Rattle.comet_meaning.specs.Expressions.{value_of_form}

-- the value of a part, as a name of this kind holds it
abbrev pub value_as : Level → Kind → Shape → Act Value
value_as l kind e = value l e >>= λ v. give (as_kind kind v)

-- whether a parameter of this kind is a variable itself
abbrev pub is_handed_itself : Kind → Bool
is_handed_itself kinds.Variable = true
is_handed_itself kinds.SetVariable = true
is_handed_itself k = false

-- a function of the language whose arguments are all evaluated
abbrev pub plain_builtin : Level → Place → Builtin → List Shape → Act Value
plain_builtin l at f es = do
  vs ← values l es []
  _ ← charge 1 at
  builtin_value at f vs

-- what an expression without incremental variables stands for in a term
abbrev pub constant_form : Code → Level → Place → Kind → Shape → Act InTerm
constant_form c l at kind form = value_of_form c l at kind form >>= standing

-- the number that a variable of this kind begins with
abbrev pub begun_number : Level → VarKind → Shape → Act Beginning
begun_number l k e = number l e >>= λ z. give (beginning_with k z)
