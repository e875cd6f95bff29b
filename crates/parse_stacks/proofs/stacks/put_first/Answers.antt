use Rattle.std.specs.Prelude.{◌∷◌, ◌≡◌, IfOk, reverse}
use Rattle.std.proofs.Common.{subst}
use Rattle.std.proofs.lemmas.Result.{IfOk-weaker}
use Rattle.parse_stacks.proofs.stacks.put_first.Goals as goal

pub returns : goal.returns
returns g c = IfOk-weaker c.put_made.result _ _ (λ _ e. (c.take-more.result, _, c.take-more.ensures, e.0, subst (λ r. IfOk r (λ all. reverse all.items ≡ c.args.first ∷ reverse c.take-more.result.items)) e.1 c.put_before.ensures, e.2)) c.put_made.ensures
