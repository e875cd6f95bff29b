-- `post`: the object, what is posted, and then its weight, which is 1 unless it is given; then a unit for the call at the
-- method's name. A user's constraint is taken by its name when its places are known, before its weight. From the language.
use Rattle.std.specs.Prelude.{ℕ, ℤ, pos, List, [], ◌∷◌, Option, Some, None}
use Rattle.cbl_base.specs.declared.place.Place.{Place}
use Rattle.cbl_operations.specs.declared.op.Op.TheVariants as ops
use Rattle.term_model.specs.declared.term.Term.{Term}
use Rattle.checked_tree.specs.declared.expressions.Builtin.TheVariants as builtins
use Rattle.checked_tree.specs.Shape as shapes
use Rattle.checked_tree.specs.Shape.{Shape}
use Rattle.comet_meaning.specs.Values.{Value, Nothing}
use Rattle.comet_meaning.specs.Users.{rule_in, with_given}
use Rattle.comet_meaning.specs.Outcome.{Act, ◌>>=◌, give, charge}
use Rattle.comet_meaning.specs.Levels.{Level}
use Rattle.comet_meaning.specs.Parts.{place_of, value, number, term, terms, constraint}
use Rattle.comet_meaning.specs.TermForms.{node_form}
use Rattle.comet_meaning.specs.Systems.{post, post_user}
use Rattle.comet_meaning.specs.TakingUsers.{take_user}

unfoldable pub weight_form : Level → List Shape → Act ℤ
weight_form l [] = give (pos 1)
weight_form l (w ∷ ws) = number l w

-- a constraint of the language
unfoldable pub post_one : Level → Place → Shape → Shape → List Shape → Act Value
post_one l at o c ws = do
  v ← value l o
  t ← constraint l c
  weight ← weight_form l ws
  _ ← charge 1 at
  post at t weight v

-- a user's constraint: it is taken, and then its node is as deep as it will be whatever its number

abbrev pub text_of : Shape → List ℕ
text_of (shapes.typed start at kind moving (shapes.text t)) = t
text_of e = []

-- the name of a user's constraint
abbrev pub user_name : Shape → Option (List ℕ)
user_name (shapes.typed start at kind moving (shapes.builtin builtins.User (shapes.more n es))) = Some (text_of n)
user_name e = None

-- the one with this number among those that were handed in
unfoldable pub post_taken : Place → ℕ → List Term → ℤ → Value → Act Value
post_taken at n ts weight v = λ s. post_user at (rule_in s.users n) ts weight v (record s { users = with_given s.users n })

unfoldable pub post_named : Level → Place → Shape → Shape → List Shape → List ℕ → Act Value
post_named l at o c ws name = do
  v ← value l o
  xs ← terms l c
  n ← take_user (place_of c) name
  _ ← node_form (place_of c) (ops.User n) xs.terms
  weight ← weight_form l ws
  _ ← charge 1 at
  post_taken at n xs.terms weight v

abbrev pub post_either : Level → Place → Shape → Shape → List Shape → Option (List ℕ) → Act Value
post_either l at o c ws None = post_one l at o c ws
post_either l at o c ws (Some name) = post_named l at o c ws name

-- a constraint of a system
unfoldable pub post_constraint : Level → Place → Shape → List Shape → Act Value
post_constraint l at o [] = give Nothing
post_constraint l at o (c ∷ ws) = post_either l at o c ws (user_name c)

-- a term of a sum
unfoldable pub post_part : Level → Place → Shape → List Shape → Act Value
post_part l at o [] = give Nothing
post_part l at o (e ∷ ws) = do
  v ← value l o
  t ← term l e
  weight ← weight_form l ws
  _ ← charge 1 at
  post at t weight v
