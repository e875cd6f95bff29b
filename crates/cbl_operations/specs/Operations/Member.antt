-- `member(e, s)` is 1 where the number is a member of the set, and 0 else. A rule of this project.
use Rattle.std.specs.Prelude.{pos, Bool, true, false, List, [], ◌∷◌, Ok, slice_index_or}
use Rattle.cbl_base.specs.Inputs.{InputKind, number_kind, set_kind, number_of}
use Rattle.cbl_base.specs.NodeLaw.{Rule, GivesOneKind, one_kind_from, kind_of-value}
use Rattle.cbl_base.specs.Sets.{is_member}
use Rattle.cbl_base.specs.declared.input.Input.TheVariants.{Int}
use Rattle.cbl_operations.specs.SetForms.{members_at}
use Rattle.cbl_operations.specs.Truth.{truth}

-- whether these are the kinds of a number and a set
abbrev pub are_number_and_set : List InputKind → Bool
are_number_and_set (number_kind ∷ set_kind ∷ []) = true
are_number_and_set kinds = false

abbrev pub member : Rule
member = record {
  takes = are_number_and_set;
  value = λ inputs. Ok (Int (truth (is_member (number_of (slice_index_or inputs 0 (Int (pos 0)))) (members_at inputs 1))));
  violation_at = λ _ _. pos 0;
}

pub one_kind_of_member : GivesOneKind member
one_kind_of_member = one_kind_from member number_kind (λ inputs x e. kind_of-value (member.value inputs) x e)
