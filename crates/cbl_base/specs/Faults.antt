-- The codes and texts of run faults, as a user sees them. A rule of this project.
use Rattle.std.specs.Prelude.{ℕ, List, codes, ◌++◌}
use Rattle.cbl_base.specs.declared.faults.Limit.{Limit}
use Rattle.cbl_base.specs.declared.faults.Limit.TheVariants.{Variables, TermNodes, Candidates, Cells, Iterations}
use Rattle.cbl_base.specs.declared.faults.RunFault.{RunFault}
use Rattle.cbl_base.specs.declared.faults.RunFault.TheVariants.{Overflow, DivideByZero, OutOfRange, NotClosed, AlreadyClosed, DefinedVariable, NoMove, NoBest, EmptyRange, NoData, BadData, Depth, TooMany, WrongSolver, JournalFull, OutputFull, UnknownUser, UserSpent}

-- the word for what there is too many of
abbrev pub limit_text_of : Limit → List ℕ
limit_text_of Variables = codes "variables"
limit_text_of TermNodes = codes "terms"
limit_text_of Candidates = codes "candidates"
limit_text_of Cells = codes "cells"
limit_text_of Iterations = codes "iterations"

-- the number behind the F of a fault's code
abbrev pub code_of : RunFault → ℕ
code_of Overflow = 1
code_of DivideByZero = 2
code_of OutOfRange = 3
code_of NotClosed = 4
code_of AlreadyClosed = 5
code_of DefinedVariable = 6
code_of NoMove = 7
code_of NoBest = 8
code_of EmptyRange = 9
code_of NoData = 10
code_of BadData = 11
code_of Depth = 12
code_of (TooMany limit) = 13
code_of WrongSolver = 14
code_of JournalFull = 15
code_of OutputFull = 16
code_of UnknownUser = 17
code_of UserSpent = 18

-- the text behind the code
abbrev pub text_of : RunFault → List ℕ
text_of Overflow = codes "overflow"
text_of DivideByZero = codes "division by zero"
text_of OutOfRange = codes "out of range"
text_of NotClosed = codes "solver not closed"
text_of AlreadyClosed = codes "solver already closed"
text_of DefinedVariable = codes "variable has a definition"
text_of NoMove = codes "no move"
text_of NoBest = codes "no best"
text_of EmptyRange = codes "empty range"
text_of NoData = codes "no more data"
text_of BadData = codes "bad data"
text_of Depth = codes "depth exceeded"
text_of (TooMany limit) = codes "too many " ++ limit_text_of limit
text_of WrongSolver = codes "wrong solver"
text_of JournalFull = codes "journal full"
text_of OutputFull = codes "output full"
text_of UnknownUser = codes "unknown user constraint"
text_of UserSpent = codes "user constraint already posted"
