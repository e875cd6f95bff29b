use Rattle.std.specs.Prelude.{◌≡◌, ◌++◌}
use Rattle.std.specs.Vec.Iter.{into_iter_items}
use Rattle.form_parts.specs.Bodies.{body_terms}
use Rattle.form_parts.proofs.bodies.terms_in.Given as goal

-- the terms of the bodies so far
abbrev pub invariant-loop-body : goal.invariant-loop-body
invariant-loop-body l = (l.terms.items ≡ body_terms l.yielded) × (l.fn.bodies.items ≡ l.yielded ++ into_iter_items l.body-iterator)
