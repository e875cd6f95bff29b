-- What a statement in a box and lists of statements stand for.
use Rattle.std.specs.Prelude.{List, map}
use Rattle.std.specs.declared.alloc.Global.{Global}
use Rattle.std.specs.declared.boxed.Box.{Box}
use Rattle.std.specs.declared.vec.Vec.{Vec}
use Rattle.checked_tree.specs.declared.statements.Task.{Task}
use Rattle.checked_tree.specs.Tasks.{Work, work_of}

-- statements in a row
abbrev pub tasks_of : Vec Task Global → List Work
tasks_of v = map work_of v.items

-- a statement in a box
abbrev pub boxed_of : Box Task Global → Work
boxed_of b = work_of b.value
