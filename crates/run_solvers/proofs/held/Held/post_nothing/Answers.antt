-- What stands for a term of another kind is a number.
use Rattle.std.proofs.Common.{◌≡◌, ℤ, pos, None, refl, ◌∙◌, ap, subst, sym, w64, to_z, of_z, rules}
use Rattle.cbl_base.specs.Inputs.{number_kind}
use Rattle.term_model.specs.declared.term.Term.{Term}
use Rattle.ls_solver.specs.Adding.{early_member_refusal}
use Rattle.ls_solver.specs.Totals.{whole_of}
use Rattle.model_view.specs.Building.{constant}
use Rattle.model_view.specs.Plain.{plain_term}
use Rattle.run_solvers.specs.Refused.{sized_member}
use Rattle.run_solvers.specs.Views.{held_seen}
use Rattle.run_solvers.proofs.FitLaws.{nothing_names}
use Rattle.run_solvers.proofs.PostLaws.{early_number, zero_kind}
use Rattle.run_solvers.proofs.TriedLaws.{tried_as}
use Rattle.run_solvers.proofs.held.Held.post_nothing.Goals as goal

pub post_number-requires-clause-early : goal.post_number-requires-clause-early
post_number-requires-clause-early g c =
    let S = c.args.self.now.solver in
    let same : to_z w64 (of_z w64 c.args.weight) ≡ c.args.weight = search rules in
    subst (λ (z : ℤ). early_member_refusal S c.args.total c.nothing_of-term.result z ≡ None) (sym same)
    (early_number S c.args.total (constant (pos 0)) c.nothing_of-term.result c.args.weight (nothing_names S c.nothing_of-term.result number_kind c.nothing_of-term.ensures.seen) c.requires.early)

pub post_number-requires-clause-kind : goal.post_number-requires-clause-kind
post_number-requires-clause-kind g c = zero_kind _ c.nothing_of-term.result c.nothing_of-term.ensures.seen

pub returns : goal.returns
returns g c =
    let old = c.args.self.now in
    let same : to_z w64 (of_z w64 c.args.weight) ≡ c.args.weight = search rules in
    tried_as old old _ c.post_number.result _ _ refl
    (ap (λ (t : Term). sized_member c.args.at (whole_of c.args.total) (record { term = t; weight = c.args.weight }) (held_seen old)) (sym c.nothing_of-term.ensures.seen)
    ∙ ap (λ (z : ℤ). sized_member c.args.at (whole_of c.args.total) (record { term = plain_term c.nothing_of-term.result; weight = z }) (held_seen old)) (sym same))
    c.post_number.ensures
