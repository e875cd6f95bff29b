use Rattle.std.proofs.Common.{◌≡◌, ◌++◌, ◌∷◌, drop}
use Rattle.std.specs.List.{flat_map}
use Rattle.std.specs.Fmt.{signed_decimal}
use Rattle.journal_text.proofs.printing.push_rest.Given as goal

abbrev pub invariant-loop-number : goal.invariant-loop-number
invariant-loop-number l = l.out.items ++ flat_map (λ z. 44 ∷ signed_decimal z) (drop l.number-index l.numbers) ≡ l.fn.out.items ++ flat_map (λ z. 44 ∷ signed_decimal z) l.numbers
