-- It is there with its number; no set begins so.
use Rattle.std.proofs.Common.{◌≡◌, ℤ, ◌∙◌, ap, subst, sym, w64, to_z, of_z, rules}
use Rattle.run_solvers.specs.Changing.{Made, declared_one}
use Rattle.run_solvers.specs.Makes.{Makes}
use Rattle.run_solvers.specs.Views.{held_seen}
use Rattle.run_solvers.proofs.AddedLaws.{added_free}
use Rattle.run_solvers.proofs.FoundSolvers.{numbers_kept}
use Rattle.run_solvers.proofs.held.Held.add_free.Goals as goal

pub returns-in-Number-clause-tries : goal.returns-in-Number-clause-tries
returns-in-Number-clause-tries g c =
    let old = c.args.self.now in
    let m = held_seen old in
    let same : to_z w64 (of_z w64 c.args.number) ≡ c.args.number = search rules in record {
      meant = subst (λ (made : Made). Makes (held_seen c.declare.new.self) c.declare.result made)
          (ap (λ (z : ℤ). declared_one c.args.at c.args.decl c.args.name z m) same ∙ sym (added_free c.args.at old.number c.args.decl c.args.name c.args.number m)) c.declare.ensures.meant;
      kept = numbers_kept c.declare.result c.declare.new.self _ c.declare.ensures.whole c.declare.ensures.numbers c.in-Number.is;
      number = c.declare.ensures.number;
    }
