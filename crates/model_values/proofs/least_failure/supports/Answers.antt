use Rattle.std.proofs.Common.{◌≡◌, ◌∙◌, Some, None, ap, sym, slice_get}
use Rattle.std.specs.Option.{option_map}
use Rattle.term_model.specs.declared.model.Definition.{Definition}
use Rattle.model_values.proofs.FailureLaws.{supports_define, supports_none}
use Rattle.model_values.proofs.least_failure.supports.Goals as goal

pub returns-in-Some : goal.returns-in-Some
returns-in-Some c =
    let M = c.args.model.now in
    let there : Some c.in-Some.var ≡ option_map (λ (d : Definition). d.var.index) (slice_get M.defs.items c.in-Define.number) =
    sym c.in-Some.is ∙ c.variable_defined.ensures ∙ ap (λ ds. option_map (λ (d : Definition). d.var.index) (slice_get ds c.in-Define.number)) c.deref.ensures.value in
    c.is_marked.ensures ∙ supports_define M c.requires.well_formed c.args.whole c.args.marks.now c.requires.marks c.in-Define.number c.args.posted c.in-Define.is c.in-Some.var there

pub returns-in-None : goal.returns-in-None
returns-in-None c =
    let M = c.args.model.now in
    let there : None ≡ option_map (λ (d : Definition). d.var.index) (slice_get M.defs.items c.in-Define.number) =
    sym c.in-None.is ∙ c.variable_defined.ensures ∙ ap (λ ds. option_map (λ (d : Definition). d.var.index) (slice_get ds c.in-Define.number)) c.deref.ensures.value in
    supports_none M c.requires.well_formed c.args.whole c.args.marks.now c.requires.marks c.in-Define.number c.args.posted c.in-Define.is there
