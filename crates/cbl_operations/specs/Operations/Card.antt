-- `card(s)` is how many members the set has. A rule of this project.
use Rattle.std.specs.Prelude.{pos, Bool, true, false, List, [], ◌∷◌, Ok, length}
use Rattle.cbl_base.specs.Inputs.{InputKind, number_kind, set_kind}
use Rattle.cbl_base.specs.NodeLaw.{Rule, GivesOneKind, one_kind_from, kind_of-value}
use Rattle.cbl_base.specs.declared.input.Input.TheVariants.{Int}
use Rattle.cbl_operations.specs.SetForms.{members_at}

-- whether this is the kind of one set
abbrev pub is_one_set : List InputKind → Bool
is_one_set (set_kind ∷ []) = true
is_one_set kinds = false

abbrev pub card : Rule
card = record {
  takes = is_one_set;
  value = λ inputs. Ok (Int (pos (length (members_at inputs 0))));
  violation_at = λ _ _. pos 0;
}

pub one_kind_of_card : GivesOneKind card
one_kind_of_card = one_kind_from card number_kind (λ inputs x e. kind_of-value (card.value inputs) x e)
