-- Who uses an id.
use Rattle.std.specs.Prelude.{ℕ, List, map}
use Rattle.cbl_base.specs.declared.ids.NodeId.{NodeId}

-- so a user is told of, once for each place
abbrev pub uses_by : NodeId → List ℕ → List (NodeId × ℕ)
uses_by user places = map (λ p. (user, p)) places
