use Rattle.std.specs.Prelude.{◌≡◌, ℕ, List, ◌++◌, length}
use Rattle.comet_syntax.specs.declared.token.Token.{Token}
use Rattle.comet_syntax.specs.Place.{place_of}
use Rattle.comet_syntax.specs.Tokens.TokenList.{AreCut}
use Rattle.comet_syntax.proofs.lexer.cut.Given as goal

-- what is left goes on as the whole text does
abbrev pub invariant-loop-alloc : goal.invariant-loop-alloc
invariant-loop-alloc l = record {
  forward : (tokens : List Token) (end : List ℕ) → AreCut l.text l.rest tokens end → AreCut l.text l.text (l.tokens.items ++ tokens) end;
  front : (front : List ℕ) × (l.text ≡ front ++ l.rest);
  place : l.place ≡ place_of l.text l.rest;
}

abbrev pub decreases-loop-alloc : goal.decreases-loop-alloc
decreases-loop-alloc l = length l.rest
