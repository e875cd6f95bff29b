use Rattle.std.proofs.Common.{◌≡◌, map, take}
use Rattle.comet_meaning.specs.TermForms.{keys_of}
use Rattle.form_parts.specs.Bodies.{body_seen}
use Rattle.term_forms.proofs.bodies.keys_in.Given as goal

-- the keys of the bodies so far
abbrev pub invariant-loop-body : goal.invariant-loop-body
invariant-loop-body l = l.keys.items ≡ keys_of (map body_seen (take l.body-index l.bodies))
