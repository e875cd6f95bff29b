use Rattle.std.proofs.Common.{◌∙◌, ap, sym}
use Rattle.std.specs.Prelude.{Some}
use Rattle.expression_forms.proofs.UserPostLaws.{name_of_others, name_of_user, no_name}
use Rattle.expression_forms.proofs.user_posting.name_in.Goals as goal

pub returns-then-arguments-eq0 : goal.returns-then-arguments-eq0
returns-then-arguments-eq0 c = sym (no_name _ _ c.if-arguments-eq0.true)

pub returns-in-User : goal.returns-in-User
returns-in-User c = rw c.in-User.is (ap (λ t. Some t) c.text_of.ensures ∙ sym (name_of_user _ _ c.if-arguments-eq0.false c.index-arguments-0.is))

pub returns-in_default : goal.returns-in_default
returns-in_default c = sym (name_of_others _ _ c.in_default.not-User)
