-- Each part is executed with room for one part fewer, and what is handed on for a room stands just above the functions with
-- that room.
use Rattle.std.proofs.Common.{◌+◌, ◌*◌}
use Rattle.interpreter.proofs.levels.+run.Given as goal

abbrev pub decreases-evaluate : goal.decreases-evaluate
decreases-evaluate g l = 2 * l.room

abbrev pub decreases-evaluate-value : goal.decreases-evaluate-value
decreases-evaluate-value g l = 2 * l.room + 1

abbrev pub decreases-evaluate-statement : goal.decreases-evaluate-statement
decreases-evaluate-statement g l = 2 * l.room + 1

abbrev pub decreases-evaluate-term : goal.decreases-evaluate-term
decreases-evaluate-term g l = 2 * l.room + 1

abbrev pub decreases-locate : goal.decreases-locate
decreases-locate g l = 2 * l.room

abbrev pub decreases-locate-value : goal.decreases-locate-value
decreases-locate-value g l = 2 * l.room + 1

abbrev pub decreases-locate-statement : goal.decreases-locate-statement
decreases-locate-statement g l = 2 * l.room + 1

abbrev pub decreases-locate-target : goal.decreases-locate-target
decreases-locate-target g l = 2 * l.room + 1

abbrev pub decreases-define : goal.decreases-define
decreases-define g l = 2 * l.room

abbrev pub decreases-define-value : goal.decreases-define-value
decreases-define-value g l = 2 * l.room + 1

abbrev pub decreases-define-statement : goal.decreases-define-statement
decreases-define-statement g l = 2 * l.room + 1

abbrev pub decreases-define-term : goal.decreases-define-term
decreases-define-term g l = 2 * l.room + 1

abbrev pub decreases-execute : goal.decreases-execute
decreases-execute g l = 2 * l.room

abbrev pub decreases-execute-value : goal.decreases-execute-value
decreases-execute-value g l = 2 * l.room + 1

abbrev pub decreases-execute-statement : goal.decreases-execute-statement
decreases-execute-statement g l = 2 * l.room + 1

abbrev pub decreases-execute-term : goal.decreases-execute-term
decreases-execute-term g l = 2 * l.room + 1

abbrev pub decreases-execute-target : goal.decreases-execute-target
decreases-execute-target g l = 2 * l.room + 1
