-- What the kinds of parameters stand for.
use Rattle.std.specs.Prelude.{List}
use Rattle.std.specs.declared.alloc.Global.{Global}
use Rattle.std.specs.declared.vec.Vec.{Vec}
use Rattle.checked_tree.specs.declared.kind.Kind.{Kind}

abbrev pub kinds_in : Vec Kind Global → List Kind
kinds_in v = v.items
