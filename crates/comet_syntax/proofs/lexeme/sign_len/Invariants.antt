use Rattle.std.specs.Prelude.{◌≡◌, true, ◌≤◌, ◌+◌, ◌++◌, ℕ, List, length}
use Rattle.comet_syntax.specs.Lexeme.{is_sign}
use Rattle.comet_syntax.proofs.lexeme.sign_len.Given as goal

abbrev pub invariant-loop-shorter : goal.invariant-loop-shorter
invariant-loop-shorter l = (sign rest : List ℕ) → l.text ≡ sign ++ rest → is_sign sign ≡ true → length sign + l.shorter ≤ 3
