-- The term is there, or stops as it is meant to.
use Rattle.std.proofs.Common.{◌≡◌, ℤ, None, refl, sym, ap, ◌∙◌, subst, w64, to_z, of_z, rules}
use Rattle.term_model.specs.declared.model.Member.{Member}
use Rattle.ls_solver.specs.Adding.{early_member_refusal}
use Rattle.ls_solver.specs.Totals.{whole_of}
use Rattle.model_view.specs.Plain.{plain_member}
use Rattle.run_solvers.specs.Makes.{Ends}
use Rattle.run_solvers.specs.Refused.{sized_member}
use Rattle.run_solvers.specs.Views.{held_seen, waits}
use Rattle.run_solvers.proofs.PostLaws.{added_sets, added_whole, adds_ok, adds_stops}
use Rattle.run_solvers.proofs.held.Held.post_number.Goals as goal

pub add_member-requires-clause-usable : goal.add_member-requires-clause-usable
add_member-requires-clause-usable g c = c.requires.kept.0.usable

pub add_member-requires-clause-kind : goal.add_member-requires-clause-kind
add_member-requires-clause-kind g c = λ own. c.requires.kind

pub add_member-requires-clause-users : goal.add_member-requires-clause-users
add_member-requires-clause-users g c = c.requires.shallow.1

pub returns-in-Ok : goal.returns-in-Ok
returns-in-Ok g c =
    let old = c.args.self.now in
    let same : to_z w64 (of_z w64 c.args.weight) ≡ c.args.weight = search rules in
    let member : Member = record { term = c.args.term; weight = to_z w64 (of_z w64 c.args.weight) } in
    let early = subst (λ (z : ℤ). early_member_refusal old.solver c.args.total c.args.term z ≡ None) (sym same) c.requires.early in record {
      meant = ap (λ (z : ℤ). sized_member c.args.at (whole_of c.args.total) (plain_member (record { term = c.args.term; weight = z })) (held_seen old)) (sym same)
          ∙ adds_ok old.solver _ old.names (waits old) c.args.at c.args.total member early c.requires.shallow.0 c.in-Ok.ensures.answer c.in-Ok.ensures.added;
      kept = (
        added_whole old.solver _ old.names (waits old) c.args.at c.args.total member early c.requires.shallow.0 old.number c.requires.kept.0 c.in-Ok.ensures.added,
        added_sets old.solver _ old.names (waits old) c.args.at c.args.total member early c.requires.shallow.0 c.keeps_form.ensures.formed c.requires.kept.1 c.in-Ok.ensures.added,
      );
      number = refl;
    }

pub returns-in-Err : goal.returns-in-Err
returns-in-Err g c =
    let old = c.args.self.now in
    let same : to_z w64 (of_z w64 c.args.weight) ≡ c.args.weight = search rules in
    let member : Member = record { term = c.args.term; weight = to_z w64 (of_z w64 c.args.weight) } in
    let early = subst (λ (z : ℤ). early_member_refusal old.solver c.args.total c.args.term z ≡ None) (sym same) c.requires.early in record {
      meant = subst (λ (z : ℤ). Ends c.stop_of.result (sized_member c.args.at (whole_of c.args.total) (plain_member (record { term = c.args.term; weight = z })) (held_seen old))) same
          (adds_stops old.solver old.solver old.names (waits old) c.args.at c.args.total member early c.requires.shallow.0 c.in-Err.fault c.stop_of.result c.in-Err.ensures.answer c.stop_of.ensures);
      kept = tt;
      number = refl;
    }
