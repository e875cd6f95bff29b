-- It is there without a term, and then gets it.
use Rattle.std.proofs.Common.{◌∙◌, subst, sym}
use Rattle.run_solvers.specs.Makes.{Ends}
use Rattle.run_solvers.specs.Changing.{Made}
use Rattle.run_solvers.specs.Views.{held_seen}
use Rattle.run_solvers.proofs.TotalStops.{first_posted, objective_posted, objective_stops}
use Rattle.run_solvers.proofs.held.Held.try_objective.Goals as goal

pub post_first-requires : goal.post_first-requires
post_first-requires g c = c.in-Ok.ensures.tries.kept

pub returns-in-Err-clause-tries : goal.returns-in-Err-clause-tries
returns-in-Err-clause-tries g c =
    let old = c.args.self.now in record {
      meant = objective_stops c.args.at old.number c.args.built (held_seen old) c.in-Err.stop c.in-Err.ensures.tries.meant;
      kept = tt;
      number = c.in-Err.ensures.tries.number;
    }

pub returns-in-Ok-post_first-clause-tries : goal.returns-in-Ok-post_first-clause-tries
returns-in-Ok-post_first-clause-tries g c =
    let old = c.args.self.now in
    let mid = c.try_total.new.self in record {
      meant = objective_posted c.args.at old.number c.args.built (held_seen old) (held_seen mid) c.in-Ok.ensures.tries.meant
          ∙ first_posted c.args.at _ _ c.args.built (held_seen old) (held_seen mid) c.in-Ok.index c.in-Ok.ensures.index c.in-Ok.ensures.tries.number ∙ c.in-Ok-post_first.ensures.meant;
      kept = c.in-Ok-post_first.ensures.kept;
      number = c.in-Ok-post_first.ensures.number ∙ c.in-Ok.ensures.tries.number;
    }

pub returns-in-Err-post_first-clause-tries : goal.returns-in-Err-post_first-clause-tries
returns-in-Err-post_first-clause-tries g c =
    let old = c.args.self.now in
    let mid = c.try_total.new.self in record {
      meant = subst (λ (made : Made). Ends c.in-Err-post_first.stop made)
          (sym (objective_posted c.args.at old.number c.args.built (held_seen old) (held_seen mid) c.in-Ok.ensures.tries.meant
          ∙ first_posted c.args.at _ _ c.args.built (held_seen old) (held_seen mid) c.in-Ok.index c.in-Ok.ensures.index c.in-Ok.ensures.tries.number)) c.in-Err-post_first.ensures.meant;
      kept = tt;
      number = c.in-Err-post_first.ensures.number ∙ c.in-Ok.ensures.tries.number;
    }
