use Rattle.std.proofs.Common.{◌∙◌, ap, sym, subst}
use Rattle.std.specs.Prelude.{option_map}
use Rattle.run_values.specs.Views.{value_seen}
use Rattle.run_steps.specs.Does.{Does}
use Rattle.expression_forms.proofs.PostLaws.{nameless_post, named_post}
use Rattle.expression_forms.proofs.posting.add_constraint.Goals as goal

pub returns-in-None : goal.returns-in-None
returns-in-None g c = record { did = subst (Does value_seen _ _) (sym (nameless_post _ _ _ _ _ _ (sym c.user_name.ensures ∙ ap (option_map (λ name. name.now)) c.in-None.is))) c.add_one.ensures.did }

pub returns-in-Some : goal.returns-in-Some
returns-in-Some g c = record { did = subst (Does value_seen _ _) (sym (named_post _ _ _ _ _ _ _ (sym c.user_name.ensures ∙ ap (option_map (λ name. name.now)) c.in-Some.is))) c.add_named.ensures.did }
