use Rattle.std.specs.Prelude.{◌≡◌, ◌≤◌, ◌++◌, ℕ, List, length, codes}
use Rattle.comet_syntax.proofs.lex_comment.behind_close.Given as goal

-- no close begins in front of the index
abbrev pub invariant-loop-at : goal.invariant-loop-at
invariant-loop-at l = (other behind : List ℕ) → l.text ≡ other ++ (codes "*/" ++ behind) → l.at ≤ length other
