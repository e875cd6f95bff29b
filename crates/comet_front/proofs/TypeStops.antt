-- What an accepted tree of a text gives, and why it gives no program.
use Rattle.std.specs.Prelude.{◌≡◌, ℕ, List, Result, Ok, Err, IfOk, IfErr}
use Rattle.std.proofs.Common.{sym, subst}
use Rattle.std.specs.Result.{IsErrAnd}
use Rattle.std.proofs.lemmas.Result.{err_from_is_err_and}
use Rattle.checked_tree.specs.declared.statements.Checked.{Checked}
use Rattle.checked_tree.specs.Tasks.{Whole, program_of}
use Rattle.comet_syntax.specs.declared.tree.program.Program.{Program}
use Rattle.comet_front.specs.declared.stop.TextStop.{TextStop}
use Rattle.comet_front.specs.declared.stop.TextStop.TheVariants as stops
use Rattle.comet_front.specs.Reading.{HasTree, HasProgram, IsAccepted, IsTypeStop, IsBuilt, IsBuiltStop, IsTextStop, not_built}

type_stop : (text : List ℕ) (tree : Program) (stop : TextStop) → HasTree text tree → IsTypeStop tree stop → IsTextStop text stop
type_stop text tree (stops.Fault place cause) has s = absurd s
type_stop text tree (stops.IllTyped place code) has s = record { tree = tree; has = has; not_typed = s }
type_stop text tree stops.NoMemory has s = tt

built_stop : (text : List ℕ) (tree : Program) (program : Whole) (stop : TextStop) → HasTree text tree → IsAccepted tree program → IsBuiltStop program stop → IsTextStop text stop
built_stop text tree program (stops.Fault place cause) has typed s = not_built (record {
  tree = tree;
  program = program;
  has = has;
  typed = typed;
  not_built = s.0;
  place_is = s.1;
  cause_is = s.2;
})
built_stop text tree program (stops.IllTyped place code) has typed s = absurd s
built_stop text tree program stops.NoMemory has typed s = absurd s

pub built_found : (text : List ℕ) (tree : Program) (program : Whole) (r : Result Checked TextStop) → HasTree text tree → IsAccepted tree program →
    IfOk r (IsBuilt program) → IfOk r (λ given. HasProgram text (program_of given))
built_found text tree program (Ok given) has typed s = subst (HasProgram text) (sym s.same) (record { tree = tree; has = has; typed = typed; built = s.built })
built_found text tree program (Err stop) has typed s = tt

pub built_refused : (text : List ℕ) (tree : Program) (program : Whole) (r : Result Checked TextStop) → HasTree text tree → IsAccepted tree program →
    IfErr r (IsBuiltStop program) → IfErr r (IsTextStop text)
built_refused text tree program (Ok given) has typed s = tt
built_refused text tree program (Err stop) has typed s = built_stop text tree program stop has typed s

-- the exit of a `?` passes a stop on
pub passes : {T : Type 0} (text : List ℕ) (tree : Program) (r : Result T TextStop) (stop : TextStop) → IsErrAnd r (λ e. e ≡ stop) →
    HasTree text tree → IsTypeStop tree stop → IfErr r (IsTextStop text)
passes text tree r stop h has s = let p = err_from_is_err_and r h in rw p.1 (subst (IsTextStop text) (sym p.2) (type_stop text tree stop has s))
