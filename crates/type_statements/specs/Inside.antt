-- What a function does that judges the statements inside a statement: each call judges as the definition says. A rule of
-- this project.
use Rattle.std.specs.Prelude.{◌≡◌, Result}
use Rattle.std.specs.Borrow.{Bor, MutBor}
use Rattle.comet_syntax.specs.declared.tree.statements.Statement.{Statement}
use Rattle.checked_tree.specs.declared.statements.Task.{Task}
use Rattle.checked_tree.specs.declared.stop.Stop.{Stop}
use Rattle.checked_tree.specs.Tasks.{work_of}
use Rattle.type_scopes.specs.declared.checker.Checker.{Checker}
use Rattle.type_scopes.specs.declared.scope.Scope.{Scope}
use Rattle.type_scopes.specs.Did.{Did}
use Rattle.type_statements.specs.Statements.{statement_of}

-- it may be called at a statement, whatever is known there
abbrev pub IsCallable : (MutBor Checker → Scope → Bor Statement → Type 0) → Statement → Type 0
IsCallable pre statement = (c : MutBor Checker) (scope : Scope) (part : Bor Statement) → part.now ≡ statement → pre c scope part

-- each call judges the statement
abbrev pub Judges : (MutBor Checker → Scope → Bor Statement → Result Task Stop → MutBor Checker → Type 0) → Type 0
Judges post = (c : MutBor Checker) (scope : Scope) (part : Bor Statement) (r : Result Task Stop) (after : MutBor Checker) → post c scope part r after → Did work_of r after.now (statement_of part.now scope c.now)
