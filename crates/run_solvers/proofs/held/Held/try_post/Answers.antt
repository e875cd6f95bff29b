-- It is refused before its size, or posted as it is or as what stands for it.
use Rattle.std.proofs.Common.{◌≡◌, ℤ, pos, refl, ◌∙◌, ap, subst, sym, w64, to_z, of_z, rules}
use Rattle.term_model.specs.declared.term.Term.{Term}
use Rattle.model_view.specs.Building.{constant}
use Rattle.model_view.specs.Plain.{plain_member}
use Rattle.run_solvers.specs.Changing.{posted_one}
use Rattle.ls_solver.specs.Adding.{early_member_refusal}
use Rattle.ls_solver.specs.Totals.{whole_of}
use Rattle.run_solvers.specs.Refused.{sized_member}
use Rattle.run_solvers.specs.Views.{held_seen, waits}
use Rattle.run_solvers.proofs.FitLaws.{none_told}
use Rattle.run_solvers.proofs.PostLaws.{early_number, number_is, posted_early, posted_nothing, posted_number}
use Rattle.run_solvers.proofs.SeenLaws.{constant_names}
use Rattle.run_solvers.proofs.TriedLaws.{tried_as}
use Rattle.run_solvers.proofs.held.Held.try_post.Goals as goal

pub returns-in-Some : goal.returns-in-Some
returns-in-Some g c =
    let old = c.args.self.now in
    let same : to_z w64 (of_z w64 c.args.weight) ≡ c.args.weight = search rules in
    let refusal : early_member_refusal old.solver c.args.total c.term-term.result c.args.weight ≡ c.early_member_refusal.result = subst (λ (z : ℤ). early_member_refusal old.solver c.args.total c.term-term.result z ≡ c.early_member_refusal.result) same (sym c.early_member_refusal.ensures) in record {
      meant = ap (λ (t : Term). posted_one c.args.at c.args.total.solver (whole_of c.args.total) t c.args.weight (held_seen old)) (sym c.term-term.ensures.seen)
          ∙ posted_early old.solver old.names (waits old) c.args.at c.args.total c.term-term.result c.args.weight (c.requires.own ∙ sym c.requires.kept.0.number_) c.in-Some.fault (refusal ∙ c.in-Some.is);
      kept = tt;
      number = refl;
    }

pub post_number-requires-clause-early : goal.post_number-requires-clause-early
post_number-requires-clause-early g c = sym c.early_member_refusal.ensures ∙ none_told _ c.in_default.not-Some

pub post_number-requires-clause-kind : goal.post_number-requires-clause-kind
post_number-requires-clause-kind g c =
    let old = c.args.self.now in number_is old.solver old.names (waits old) c.term-term.result (sym c.in-Ok-true.ensures ∙ c.in-Ok-true.field-0-test)

pub returns-in-Ok-true : goal.returns-in-Ok-true
returns-in-Ok-true g c =
    let old = c.args.self.now in
    let same : to_z w64 (of_z w64 c.args.weight) ≡ c.args.weight = search rules in
    let refusal : early_member_refusal old.solver c.args.total c.term-term.result c.args.weight ≡ c.early_member_refusal.result = subst (λ (z : ℤ). early_member_refusal old.solver c.args.total c.term-term.result z ≡ c.early_member_refusal.result) same (sym c.early_member_refusal.ensures) in
    tried_as old old _ c.post_number.result _ _ refl
    (ap (λ (t : Term). posted_one c.args.at c.args.total.solver (whole_of c.args.total) t c.args.weight (held_seen old)) (sym c.term-term.ensures.seen)
    ∙ posted_number old.solver old.names (waits old) c.args.at c.args.total c.term-term.result c.args.weight (c.requires.own ∙ sym c.requires.kept.0.number_) (refusal ∙ none_told _ c.in_default.not-Some) (sym c.in-Ok-true.ensures ∙ c.in-Ok-true.field-0-test)
    ∙ ap (λ (z : ℤ). sized_member c.args.at (whole_of c.args.total) (plain_member (record { term = c.term-term.result; weight = z })) (held_seen old)) (sym same))
    c.post_number.ensures

pub post_nothing-requires-clause-early : goal.post_nothing-requires-clause-early
post_nothing-requires-clause-early g c =
    let old = c.args.self.now in
    early_number old.solver c.args.total c.term-term.result (constant (pos 0)) (to_z w64 (of_z w64 c.args.weight)) (constant_names old.solver (pos 0)) (sym c.early_member_refusal.ensures ∙ none_told _ c.in_default.not-Some)

pub returns-in-Ok-false : goal.returns-in-Ok-false
returns-in-Ok-false g c =
    let old = c.args.self.now in
    let same : to_z w64 (of_z w64 c.args.weight) ≡ c.args.weight = search rules in
    let refusal : early_member_refusal old.solver c.args.total c.term-term.result c.args.weight ≡ c.early_member_refusal.result = subst (λ (z : ℤ). early_member_refusal old.solver c.args.total c.term-term.result z ≡ c.early_member_refusal.result) same (sym c.early_member_refusal.ensures) in
    tried_as old old _ c.post_nothing.result _ _ refl
    (ap (λ (t : Term). posted_one c.args.at c.args.total.solver (whole_of c.args.total) t c.args.weight (held_seen old)) (sym c.term-term.ensures.seen)
    ∙ posted_nothing old.solver old.names (waits old) c.args.at c.args.total c.term-term.result c.args.weight (c.requires.own ∙ sym c.requires.kept.0.number_) (refusal ∙ none_told _ c.in_default.not-Some) (sym c.in-Ok-false.ensures ∙ c.in-Ok-false.field-0-test)
    ∙ ap (λ (z : ℤ). sized_member c.args.at (whole_of c.args.total) (record { term = constant (pos 0); weight = z }) (held_seen old)) (sym same))
    c.post_nothing.ensures
