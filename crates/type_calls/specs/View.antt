-- What a call stands for.
use Rattle.type_calls.specs.declared.functions.Calling.{Calling}
use Rattle.type_calls.specs.Functions as calls

-- a call, as the checker has it
abbrev pub calling_of : Calling → calls.Calling
calling_of c = record { result = c.result; doing = c.doing; roots = c.roots.items }
