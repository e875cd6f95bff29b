-- It is there without a definition, and then gets it.
use Rattle.std.proofs.Common.{ℕ, ◌∙◌, ap, subst, sym}
use Rattle.cbl_base.specs.declared.ids.VarId.{VarId}
use Rattle.run_solvers.specs.Changing.{defined_one}
use Rattle.run_solvers.specs.Kept.{HasDefinedOthers}
use Rattle.run_solvers.specs.Views.{held_seen, waits}
use Rattle.run_solvers.proofs.AddedLaws.{added_defined, added_stops, defined_stops}
use Rattle.run_solvers.proofs.SeenLaws.{count_seen}
use Rattle.run_solvers.proofs.held.Held.add_defined.Goals as goal

pub try_define-requires-clause-whole : goal.try_define-requires-clause-whole
try_define-requires-clause-whole g c = c.in-Ok.ensures.whole

pub try_define-requires-clause-own : goal.try_define-requires-clause-own
try_define-requires-clause-own g c = ap (λ (x : VarId). x.solver) c.in-Ok.ensures.id ∙ sym c.in-Ok.ensures.number

pub returns-in-Err-clause-tries : goal.returns-in-Err-clause-tries
returns-in-Err-clause-tries g c =
    let old = c.args.self.now in record {
      meant = added_stops c.args.at old.number c.args.decl c.args.name c.args.built (held_seen old) c.in-Err.stop c.in-Err.ensures.meant;
      kept = tt;
      number = c.in-Err.ensures.number;
    }

pub returns-in-Ok-try_define-clause-tries : goal.returns-in-Ok-try_define-clause-tries
returns-in-Ok-try_define-clause-tries g c =
    let old = c.args.self.now in
    let m = held_seen old in
    let mid = c.declare.new.self in
    let index = ap (λ (x : VarId). x.index) c.in-Ok.ensures.id ∙ count_seen old.solver old.names (waits old) in record {
      meant = added_defined c.args.at old.number c.args.decl c.args.name c.args.built m (held_seen mid) c.in-Ok.ensures.meant
          ∙ ap (λ (x : VarId). defined_one c.args.at x c.args.built (held_seen mid)) (sym c.in-Ok.ensures.id) ∙ c.in-Ok-try_define.ensures.meant;
      kept = (c.in-Ok-try_define.ensures.whole, c.in-Ok-try_define.ensures.sets (subst (λ (n : ℕ). HasDefinedOthers mid.solver.model n) (sym index) c.in-Ok.ensures.sets));
      number = c.in-Ok-try_define.ensures.number ∙ c.in-Ok.ensures.number;
    }

pub returns-in-Err-try_define-clause-tries : goal.returns-in-Err-try_define-clause-tries
returns-in-Err-try_define-clause-tries g c =
    let old = c.args.self.now in record {
      meant = defined_stops c.args.at old.number c.args.decl c.args.name c.args.built (held_seen old) (held_seen c.declare.new.self) c.in-Ok.variable c.in-Err-try_define.stop c.in-Ok.ensures.meant c.in-Ok.ensures.id c.in-Err-try_define.ensures.meant;
      kept = tt;
      number = c.in-Err-try_define.ensures.number ∙ c.in-Ok.ensures.number;
    }
