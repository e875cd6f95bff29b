use Rattle.std.proofs.Common.{Global, Vec, ap, refl, subst, sym, ◌∙◌}
use Rattle.solver_models.specs.State.{SolverState}
use Rattle.term_model.specs.Wellformed.{HasDefinedSets}
use Rattle.ls_solver.proofs.CloseLaws.{close_given, close_held, close_lost, close_posted, close_rules, close_seen, close_valued, fresh_there}
use Rattle.ls_solver.proofs.solver.Solver.close_acyclic.Goals as goal

pub close-requires-clause-given : goal.close-requires-clause-given
close-requires-clause-given g c =
    let s = c.self.inside in
    close_given s.number c.self.invariant c.args.self.now c.self.view_is c.requires.closed c.replace-waiting.result.items (ap (λ (v : Vec _ Global). v.items) c.replace-waiting.ensures.value) c.deref.result.now c.deref.ensures.value c.requires.acyclic

pub close-requires-clause-few : goal.close-requires-clause-few
close-requires-clause-few g c = c.self.invariant.kept.few

pub close-requires-clause-sets : goal.close-requires-clause-sets
close-requires-clause-sets g c = subst (λ (t : SolverState). HasDefinedSets t.model) (sym c.self.view_is) c.requires.sets

pub close-requires-clause-rules : goal.close-requires-clause-rules
close-requires-clause-rules g c =
    let s = c.self.inside in
    close_rules s.number c.self.invariant c.args.self.now c.self.view_is c.requires.closed c.replace-waiting.result.items (ap (λ (v : Vec _ Global). v.items) c.replace-waiting.ensures.value) c.deref.result.now c.deref.ensures.value

pub close-requires-clause-posted : goal.close-requires-clause-posted
close-requires-clause-posted g c =
    let s = c.self.inside in
    close_posted s.number c.self.invariant c.args.self.now c.self.view_is c.requires.closed c.replace-waiting.result.items (ap (λ (v : Vec _ Global). v.items) c.replace-waiting.ensures.value) c.deref.result.now c.deref.ensures.value c.requires.usable

pub invariant_of-self : goal.invariant_of-self
invariant_of-self g c =
    let s = c.self.inside in
    close_held s.number c.self.invariant c.args.self.now c.self.view_is c.requires.closed c.replace-waiting.result.items (ap (λ (v : Vec _ Global). v.items) c.replace-waiting.ensures.value) c.deref.result.now c.deref.ensures.value c.in-Ok.closed c.in-Ok.ensures.closed c.in-Ok.ensures.rules c.replace-waiting.new.dest.items c.requires.sets c.requires.acyclic

pub invariant_of-self-in-Err-Fault : goal.invariant_of-self-in-Err-Fault
invariant_of-self-in-Err-Fault g c =
    let s = c.self.inside in
    close_lost s.number c.self.invariant c.args.self.now c.self.view_is c.requires.closed c.replace-waiting.result.items (ap (λ (v : Vec _ Global). v.items) c.replace-waiting.ensures.value) c.deref.result.now c.deref.ensures.value c.replace-waiting.new.dest.items c.new.result.items (ap (λ (v : Vec _ Global). v.items) c.replace-waiting.ensures.after) c.new.ensures.items

pub invariant_of-self-in-Err-NoMemory : goal.invariant_of-self-in-Err-NoMemory
invariant_of-self-in-Err-NoMemory g c =
    let s = c.self.inside in
    close_lost s.number c.self.invariant c.args.self.now c.self.view_is c.requires.closed c.replace-waiting.result.items (ap (λ (v : Vec _ Global). v.items) c.replace-waiting.ensures.value) c.deref.result.now c.deref.ensures.value c.replace-waiting.new.dest.items c.new.result.items (ap (λ (v : Vec _ Global). v.items) c.replace-waiting.ensures.after) c.new.ensures.items

pub returns-in-Ok : goal.returns-in-Ok
returns-in-Ok g c =
    let s = c.self.inside in (
      c.requires.closed,
      c.requires.acyclic,
      close_valued s.number c.self.invariant c.args.self.now c.self.view_is c.requires.closed c.replace-waiting.result.items (ap (λ (v : Vec _ Global). v.items) c.replace-waiting.ensures.value) c.deref.result.now c.deref.ensures.value c.in-Ok.closed c.in-Ok.ensures.closed c.in-Ok.ensures.rules,
      close_seen s.number c.self.invariant c.args.self.now c.self.view_is c.requires.closed c.replace-waiting.result.items (ap (λ (v : Vec _ Global). v.items) c.replace-waiting.ensures.value) c.deref.result.now c.deref.ensures.value c.in-Ok.closed c.in-Ok.ensures.closed c.in-Ok.ensures.rules,
    )

pub returns-in-Err-Fault : goal.returns-in-Err-Fault
returns-in-Err-Fault g c =
    let s = c.self.inside in
    let stop = rw c.in-Err-Fault.field-0-is at c.in-Err-Fault.ensures.fault in (
      c.requires.closed,
      c.requires.acyclic,
      refl,
      sym (fresh_there s.number c.self.invariant c.args.self.now c.self.view_is c.requires.closed c.replace-waiting.result.items (ap (λ (v : Vec _ Global). v.items) c.replace-waiting.ensures.value) c.deref.result.now c.deref.ensures.value) ∙ stop,
    )
