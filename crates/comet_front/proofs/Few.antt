-- A text has no more tokens than bytes.
use Rattle.std.specs.Prelude.{◌≤◌, ◌<◌, ◌+◌, ◌^◌, ℕ, List, Some, None, length}
use Rattle.std.proofs.Common.{arith}
use Rattle.comet_syntax.specs.declared.token.Token.{Token}
use Rattle.comet_syntax.specs.Tokens.TokenList.{AreCut, nothing, skipped, taken, HasTokens}
use Rattle.comet_syntax.proofs.Cuts.{part_shorter, front_part}

cut_few : {text from rest : List ℕ} {tokens : List Token} → AreCut text from tokens rest → length tokens + length rest ≤ length from
cut_few nothing = omega arith
cut_few (skipped s c) = omega (arith, part_shorter (front_part None s), cut_few c)
cut_few (taken {kind = kind} t c) = omega (arith, part_shorter (front_part (Some kind) t), cut_few c)

pub few_tokens : {text : List ℕ} {tokens : List Token} → HasTokens text tokens → length tokens < 2 ^ 32
few_tokens h = omega (arith, cut_few h.cut, h.short)
