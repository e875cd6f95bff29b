-- It is refused before its size, or defined by its term or by what stands for that.
use Rattle.std.proofs.Common.{◌∙◌, ap, subst, sym}
use Rattle.term_model.specs.declared.term.Term.{Term}
use Rattle.run_solvers.specs.Changing.{Made, defined_one}
use Rattle.run_solvers.specs.Makes.{Makes}
use Rattle.run_solvers.specs.Views.{held_seen, waits}
use Rattle.run_solvers.proofs.DefineLaws.{defined_early, early_constant}
use Rattle.run_solvers.proofs.FitLaws.{defined_fitting, defined_nothing, early_own, fits_kind, none_told}
use Rattle.run_solvers.proofs.SeenLaws.{constant_names}
use Rattle.run_solvers.proofs.held.Held.try_define.Goals as goal

pub returns-in-Some-clause-meant : goal.returns-in-Some-clause-meant
returns-in-Some-clause-meant g c =
    let old = c.args.self.now in
    ap (λ (t : Term). defined_one c.args.at c.args.variable t (held_seen old)) (sym c.term-term.ensures.seen)
    ∙ defined_early old.solver old.names (waits old) c.args.at c.args.variable c.term-term.result (c.requires.own ∙ sym c.requires.whole.number_) c.in-Some.fault (sym c.early_refusal.ensures ∙ c.in-Some.is)

pub is_fitting-requires-clause-early : goal.is_fitting-requires-clause-early
is_fitting-requires-clause-early g c = sym c.early_refusal.ensures ∙ none_told _ c.in_default.not-Some

pub define_fitting-requires-clause-early : goal.define_fitting-requires-clause-early
define_fitting-requires-clause-early g c = sym c.early_refusal.ensures ∙ none_told _ c.in_default.not-Some

pub define_fitting-requires-clause-kind : goal.define_fitting-requires-clause-kind
define_fitting-requires-clause-kind g c =
    let old = c.args.self.now in
    fits_kind old.solver old.names (waits old) c.args.variable c.term-term.result (early_own old.solver c.args.variable c.term-term.result (sym c.early_refusal.ensures ∙ none_told _ c.in_default.not-Some)) (sym c.in-Ok-true.ensures ∙ c.in-Ok-true.field-0-test)

pub define_nothing-requires-clause-early : goal.define_nothing-requires-clause-early
define_nothing-requires-clause-early g c =
    let old = c.args.self.now in
    early_constant old.solver c.args.variable c.term-term.result _ (constant_names old.solver _) (sym c.early_refusal.ensures ∙ none_told _ c.in_default.not-Some)

pub returns-in-Ok-true-clause-meant : goal.returns-in-Ok-true-clause-meant
returns-in-Ok-true-clause-meant g c =
    let old = c.args.self.now in
    let same = ap (λ (t : Term). defined_one c.args.at c.args.variable t (held_seen old)) (sym c.term-term.ensures.seen)
    ∙ defined_fitting old.solver old.names (waits old) c.args.variable c.args.at c.term-term.result (c.requires.own ∙ sym c.requires.whole.number_) (sym c.early_refusal.ensures ∙ none_told _ c.in_default.not-Some) (sym c.in-Ok-true.ensures ∙ c.in-Ok-true.field-0-test) in
    subst (λ (made : Made). Makes (held_seen c.define_fitting.new.self) c.define_fitting.result made) (sym same) c.define_fitting.ensures.meant

pub returns-in-Ok-false-clause-meant : goal.returns-in-Ok-false-clause-meant
returns-in-Ok-false-clause-meant g c =
    let old = c.args.self.now in
    let same = ap (λ (t : Term). defined_one c.args.at c.args.variable t (held_seen old)) (sym c.term-term.ensures.seen)
    ∙ defined_nothing old.solver old.names (waits old) c.args.variable c.args.at c.term-term.result (c.requires.own ∙ sym c.requires.whole.number_) (sym c.early_refusal.ensures ∙ none_told _ c.in_default.not-Some) (sym c.in-Ok-false.ensures ∙ c.in-Ok-false.field-0-test) in
    subst (λ (made : Made). Makes (held_seen c.define_nothing.new.self) c.define_nothing.result made) (sym same) c.define_nothing.ensures.meant
