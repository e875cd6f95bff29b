-- What functions do that execute the parts inside a part: each call does what the meaning of the level says, with the
-- functions of a program, and with room for so many parts inside each other. A rule of this project.
use Rattle.std.specs.Prelude.{ℕ, Result}
use Rattle.std.specs.Borrow.{Bor, MutBor}
use Rattle.checked_tree.specs.declared.expressions.Typed.{Typed}
use Rattle.checked_tree.specs.declared.statements.Task.{Task}
use Rattle.checked_tree.specs.Tasks.{work_of}
use Rattle.comet_meaning.specs.Levels.{Code}
use Rattle.comet_meaning.specs.Program.{level}
use Rattle.run_values.specs.declared.stop.Stop.{Stop}
use Rattle.run_values.specs.declared.values.Value.{Value}
use Rattle.run_values.specs.Views.{value_seen}
use Rattle.run_objects.specs.OfRunOutside.Told.{Told}
use Rattle.run_objects.specs.OfRunState.declared.state.State.{State}
use Rattle.run_objects.specs.OfRunState.declared.targets.Target.{Target}
use Rattle.run_objects.specs.OfRunState.declared.standing.InTerm.{InTerm}
use Rattle.run_objects.specs.OfRunState.InTerms.{in_term_seen}
use Rattle.run_objects.specs.OfRunState.Targets.{target_seen}
use Rattle.run_objects.specs.OfRunState.Views.{state_seen}
use Rattle.run_steps.specs.declared.code.Flow.{Flow}
use Rattle.run_steps.specs.Does.{Does}
use Rattle.run_steps.specs.Views.{flow_seen, part}

-- the answers that calls give to a part in a state and an output, with what is left of these
abbrev pub Answers : Type 0 → Type 0 → Type 0 → Type 1
Answers O P X = MutBor State → MutBor O → Bor P → Result X Stop → MutBor State → MutBor O → Type 0

-- the values of expressions
abbrev pub Evaluates : {O : Type 0} → (O → Told) → Answers O Typed Value → Code → ℕ → Type 0
Evaluates {O = O} told post c room = (s : MutBor State) (out : MutBor O) (e : Bor Typed) (r : Result Value Stop) (t : MutBor State) (after : MutBor O) → post s out e r t after → Does value_seen r (state_seen t.now (told after.now)) ((level c room).expr (part e.now) (state_seen s.now (told out.now)))

-- what expressions stand for where they are written
abbrev pub Locates : {O : Type 0} → (O → Told) → Answers O Typed Target → Code → ℕ → Type 0
Locates {O = O} told post c room = (s : MutBor State) (out : MutBor O) (e : Bor Typed) (r : Result Target Stop) (t : MutBor State) (after : MutBor O) → post s out e r t after → Does target_seen r (state_seen t.now (told after.now)) ((level c room).target (part e.now) (state_seen s.now (told out.now)))

-- what expressions stand for in a term
abbrev pub Defines : {O : Type 0} → (O → Told) → Answers O Typed InTerm → Code → ℕ → Type 0
Defines {O = O} told post c room = (s : MutBor State) (out : MutBor O) (e : Bor Typed) (r : Result InTerm Stop) (t : MutBor State) (after : MutBor O) → post s out e r t after → Does in_term_seen r (state_seen t.now (told after.now)) ((level c room).term (part e.now) (state_seen s.now (told out.now)))

-- what statements do
abbrev pub Executes : {O : Type 0} → (O → Told) → Answers O Task Flow → Code → ℕ → Type 0
Executes {O = O} told post c room = (s : MutBor State) (out : MutBor O) (e : Bor Task) (r : Result Flow Stop) (t : MutBor State) (after : MutBor O) → post s out e r t after → Does flow_seen r (state_seen t.now (told after.now)) ((level c room).stmt (work_of e.now) (state_seen s.now (told out.now)))
