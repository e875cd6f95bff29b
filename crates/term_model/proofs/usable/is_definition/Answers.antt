use Rattle.std.proofs.Common.{◌∙◌, Some, ap, sym, subst}
use Rattle.std.specs.Option.{option_map}
use Rattle.cbl_base.specs.declared.limits.TheConstants.{MAX_TERM_DEPTH}
use Rattle.term_model.specs.Checks.{IsKindWithin}
use Rattle.term_model.specs.Kinds.{kinds_in, kind_of_var}
use Rattle.term_model.proofs.UsableLaws.{definition_from}
use Rattle.term_model.proofs.usable.is_definition.Goals as goal

pub returns-in-Some-2 : goal.returns-in-Some-2
returns-in-Some-2 c =
    let there = ap (option_map kind_of_var) (sym c.in-Some.is) ∙ c.kind_at.ensures ∙ ap (λ vs. kinds_in vs c.args.definition.now.var.index) c.deref.ensures.value in
    let within = subst (λ vs. IsKindWithin (kinds_in vs) MAX_TERM_DEPTH c.args.definition.now.term (Some c.in-Some-2.kind)) c.deref-2.ensures.value
    (subst (IsKindWithin (kinds_in c.deref-2.result.now) MAX_TERM_DEPTH c.args.definition.now.term) c.in-Some-2.is c.in_ok-kind.ensures) in
    definition_from c.args.model.now c.args.definition.now c.in-Some.wanted c.in-Some-2.kind c.are_same.result there within c.are_same.ensures
