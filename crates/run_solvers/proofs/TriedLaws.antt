-- What was tried of a solver under one meaning is what was tried under an equal one.
use Rattle.std.proofs.Common.{◌≡◌, List, Result, Vec, Global, sym, ◌∙◌, subst}
use Rattle.std.specs.Prelude.{IfOk}
use Rattle.ls_events.specs.declared.change.VarChange.{VarChange}
use Rattle.run_values.specs.declared.stop.Stop.{Stop}
use Rattle.run_solvers.specs.Changing.{Made}
use Rattle.run_solvers.specs.Makes.{Makes, Tries, TriesToMove}
use Rattle.run_solvers.specs.Told.{all_told}
use Rattle.run_solvers.specs.Views.{held_seen}
use Rattle.run_solvers.specs.declared.held.Held.{Held}

pub tried_as : {N X : Type 0} (old mid new : Held N) (result : Result X Stop) (asked made : Made) → mid.number ≡ old.number → made ≡ asked → Tries mid new result asked → Tries old new result made
tried_as old mid new result asked made same e tried = record {
  meant = subst (λ (m : Made). Makes (held_seen new) result m) (sym e) tried.meant;
  kept = tried.kept;
  number = tried.number ∙ same;
}

-- the same of a change of numbers, where the one between has the model and the assignment of the old one
pub moved_as : {N : Type 0} (old mid new : Held N) (result : Result (Vec VarChange Global) Stop) (asked made : Made) → mid.number ≡ old.number → all_told mid.number (held_seen mid) (held_seen new) ≡ all_told old.number (held_seen old) (held_seen new) → made ≡ asked → TriesToMove mid new result asked → TriesToMove old new result made
moved_as old mid new result asked made same told e tried = record {
  meant = subst (λ (m : Made). Makes (held_seen new) result m) (sym e) tried.meant;
  kept = tried.kept;
  number = tried.number ∙ same;
  told = subst (λ (cs : List VarChange). IfOk result (λ changes. changes.items ≡ cs)) told tried.told;
}
