-- The meaning of a program. The meaning of a part is built level by level, one level for each statement or expression
-- that is being executed inside another, so the running depth is the number of levels that are left: where none is, the
-- part has the fault of the depth, at its place. A program and a state have one end, since this is a function of them.
-- From the language.
use Rattle.std.specs.Prelude.{ℕ, zero, suc, List}
use Rattle.cbl_base.specs.declared.faults.RunFault.TheVariants.{Depth}
use Rattle.checked_tree.specs.Tasks.{Coded, Whole}
use Rattle.comet_meaning.specs.Limits.{most_depth}
use Rattle.comet_meaning.specs.Users.{User}
use Rattle.comet_meaning.specs.State.{State, first_state}
use Rattle.comet_meaning.specs.Outcome.{Halt, Outcome, Went, Halted, Act, fault}
use Rattle.comet_meaning.specs.Levels.{Code, Level, Flow}
use Rattle.comet_meaning.specs.Parts.{place_of}
use Rattle.comet_meaning.specs.Purity.{pure_functions}
use Rattle.comet_meaning.specs.Expressions.{value_of_expression}
use Rattle.comet_meaning.specs.InTerms.{term_of_expression}
use Rattle.comet_meaning.specs.Writes.{target_of_expression}
use Rattle.comet_meaning.specs.Loops.{tasks_form}
use Rattle.comet_meaning.specs.Statements.{work_place, meaning_of_statement}

-- with room for so many parts inside each other
unfoldable pub level : Code → ℕ → Level
level c zero = record {
  expr = λ e. fault (place_of e) Depth;
  target = λ e. fault (place_of e) Depth;
  term = λ e. fault (place_of e) Depth;
  stmt = λ w. fault (work_place w) Depth;
}
level c (suc d) = record {
  expr = λ e. value_of_expression c (level c d) e;
  target = λ e. target_of_expression (level c d) e;
  term = λ e. term_of_expression c (level c d) e;
  stmt = λ w. meaning_of_statement (level c d) w;
}

-- how a program ends
pub data End : Type 0 where
  Done : End
  Stopped : Halt → End

-- what a program does: its end, the fuel that is left, and what it printed
pub record Meant : Type 0 where
  pub end : End
  pub fuel : ℕ
  pub printed : List ℕ

abbrev pub meant : {A : Type 0} → Outcome A → Meant
meant (Went x s) = record { end = Done; fuel = s.fuel; printed = s.printed }
meant (Halted h t) = record { end = Stopped h; fuel = t.fuel; printed = t.printed }

abbrev pub code_of : List Coded → Code
code_of fs = record { functions = fs; pure = pure_functions fs }

-- the top statements in order
unfoldable pub meaning_of_program : Whole → Act Flow
meaning_of_program p = tasks_form (level (code_of p.functions) most_depth) p.tasks

-- what a program does from this state on
unfoldable pub run : Whole → State → Meant
run p s = meant (meaning_of_program p s)

-- what a program does with this seed, this fuel, this data and these users' constraints
abbrev pub meaning : Whole → ℕ → ℕ → List ℕ → List User → Meant
meaning p seed fuel text users = run p (first_state seed fuel text users)
