-- What `post` of a user's constraint does once its places are known, and once its weight is. From the language.
use Rattle.std.specs.Prelude.{ℕ, ℤ, List, [], ◌∷◌, Option, None, Some}
use Rattle.cbl_base.specs.declared.place.Place.{Place}
use Rattle.cbl_operations.specs.declared.op.Op.TheVariants as ops
use Rattle.term_model.specs.declared.term.Term.{Term}
use Rattle.checked_tree.specs.declared.expressions.Builtin.{Builtin}
use Rattle.checked_tree.specs.declared.expressions.Builtin.TheVariants as builtins
use Rattle.checked_tree.specs.Shape.{Shape}
use Rattle.comet_meaning.specs.Levels.{Level}
use Rattle.comet_meaning.specs.Outcome.{Act, ◌>>=◌, charge}
use Rattle.comet_meaning.specs.Posting.{post_taken, text_of, weight_form}
use Rattle.comet_meaning.specs.TakingUsers.{take_user}
use Rattle.comet_meaning.specs.TermForms.{node_form}
use Rattle.comet_meaning.specs.Values.{Value}

-- the name of a user's constraint, by the function that is called and its arguments
abbrev pub name_of_call : Builtin → List Shape → Option (List ℕ)
name_of_call builtins.User (n ∷ es) = Some (text_of n)
name_of_call f es = None

abbrev pub user_posted_with : Place → ℕ → List Term → Value → ℤ → Act Value
user_posted_with at n ts v weight = charge 1 at >>= λ _. post_taken at n ts weight v

abbrev pub user_behind : Level → Place → Place → List ℕ → List Shape → Value → List Term → Act Value
user_behind l at place name ws v ts = do
  n ← take_user place name
  _ ← node_form place (ops.User n) ts
  weight ← weight_form l ws
  user_posted_with at n ts v weight
