-- A set that was made of a list is the set of any list that is the same.
use Rattle.std.proofs.Common.{◌≡◌, ℤ, List, Result, Ok, Err, ap, ◌∙◌}
use Rattle.std.specs.Prelude.{IfOk}
use Rattle.cbl_base.specs.Sets.{set_of}

pub given_set : {E : Type 0} (r : Result (List ℤ) E) (made meant : List ℤ) → IfOk r (λ s. s ≡ set_of made) → made ≡ meant → IfOk r (λ s. s ≡ set_of meant)
given_set (Ok s) made meant is same = is ∙ ap set_of same
given_set (Err e) made meant is same = tt
