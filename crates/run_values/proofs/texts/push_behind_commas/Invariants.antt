use Rattle.std.proofs.Common.{◌≡◌, ◌++◌, drop, map}
use Rattle.run_values.specs.Texts.{behind_commas}
use Rattle.run_values.proofs.texts.push_behind_commas.Given as goal

-- what is written, and what is left, is the whole
abbrev pub invariant-loop-part : goal.invariant-loop-part
invariant-loop-part g l =
    l.text.items ++ behind_commas (map g.T.Shown.shown (drop l.part-index l.parts)) ≡ l.initial.text.items ++ behind_commas (map g.T.Shown.shown l.parts)
