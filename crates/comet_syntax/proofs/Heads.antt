-- What is true of this grammar, by computation: a part begins with what its forms begin with.
use Rattle.std.specs.Prelude.{true, ◌≡◌, refl}
use Rattle.comet_syntax.specs.Grammar.Symbols.{Part, program}
use Rattle.comet_syntax.specs.Grammar.Alternatives.{alternatives}
use Rattle.comet_syntax.specs.Grammar.First.{first}
use Rattle.comet_syntax.specs.Grammar.Heads.{flat_heads, within}

pub covers : (n : Part) → within (flat_heads (alternatives n)) (first n) ≡ true
covers program = refl
covers _ = refl

pub covered : (n : Part) → within (first n) (flat_heads (alternatives n)) ≡ true
covered program = refl
covered _ = refl
