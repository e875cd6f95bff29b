-- The name of a user's constraint that is posted.
use Rattle.std.proofs.Common.{◌≡◌, ◌∙◌, refl, sym, ap, map, Some, None, Option, List, [], ◌∷◌, ℕ, length, get_or, Bool, arith}
use Rattle.std.specs.declared.alloc.Global.{Global}
use Rattle.std.specs.declared.vec.Vec.{Vec}
use Rattle.cbl_base.specs.declared.place.Place.{Place}
use Rattle.checked_tree.specs.declared.kind.Kind.{Kind}
use Rattle.checked_tree.specs.declared.expressions.Builtin.{Builtin}
use Rattle.checked_tree.specs.declared.expressions.Builtin.TheVariants as builtins
use Rattle.checked_tree.specs.declared.expressions.Typed.{Typed}
use Rattle.checked_tree.specs.Shape as shapes
use Rattle.checked_tree.specs.Shape.{seen, wholes}
use Rattle.comet_meaning.specs.Posting.{text_of, user_name}
use Rattle.run_steps.specs.Views.{part, row}
use Rattle.expression_forms.specs.UserSteps.{name_of_call}

-- of a call it is told by the function and the arguments
pub name_in_call : (start at : Place) (kind : Kind) (moving : Bool) (f : Builtin) (es : List Typed) → user_name (shapes.typed start at kind moving (shapes.builtin f (wholes (map seen es)))) ≡ name_of_call f (row es)
name_in_call start at kind moving builtins.User [] = refl
name_in_call start at kind moving builtins.User (e ∷ es) = refl
name_in_call start at kind moving f es = refl

pub no_name : (f : Builtin) (es : List Typed) → length es ≡ 0 → name_of_call f (row es) ≡ None
no_name builtins.User [] h = refl
no_name builtins.User (e ∷ es) h = absurd (omega (arith, h))
no_name f es h = refl

pub name_of_user : (es : List Typed) (a : Typed) → (length es ≡ 0 → ⊥) → a ≡ get_or es 0 a → name_of_call builtins.User (row es) ≡ Some (text_of (part a))
name_of_user [] a h is = absurd (h refl)
name_of_user (x ∷ xs) a h is = ap (λ y. Some (text_of (part y))) (sym is)

pub name_of_others : (f : Builtin) (es : List Typed) → (f ≡ builtins.User → ⊥) → name_of_call f (row es) ≡ None
name_of_others builtins.User es h = absurd (h refl)
name_of_others f es h = refl
