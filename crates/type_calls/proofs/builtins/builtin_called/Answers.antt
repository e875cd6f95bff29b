use Rattle.type_calls.proofs.builtins.builtin_called.Goals as goal

pub returns-in-Some : goal.returns-in-Some
returns-in-Some c = rw (c.in-Some.is, ← c.make_builtin_call.ensures, ← c.builtin_ruling-ruling.ensures) (c.made.ensures c.args.checker.now)
