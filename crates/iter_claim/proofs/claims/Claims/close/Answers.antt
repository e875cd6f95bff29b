use Rattle.std.proofs.Common.{arith, ◌∙◌}
use Rattle.iter_claim.proofs.Keeps.{closes}
use Rattle.iter_claim.proofs.claims.Claims.close.Goals as goal

pub free-requires : goal.free-requires
free-requires c k below = let none = c.close_with.ensures.counts.1 ∙ c.args.self.one_word.1 in absurd (omega arith)

pub returns : goal.returns
returns c = let told = closes _ _ _ _ _ c.requires.last c.close_with.ensures.values.2 in record { once = told.0; within = told.1; all = told.2 }
