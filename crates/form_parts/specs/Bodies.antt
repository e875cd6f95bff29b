-- The bodies of an aggregate's tuples, as the meaning of programs has them. A rule of this project.
use Rattle.std.specs.Prelude.{List, map}
use Rattle.term_model.specs.declared.term.Term.{Term}
use Rattle.comet_meaning.specs.TermForms as terms
use Rattle.form_parts.specs.declared.bodies.Body.{Body}

abbrev pub body_seen : Body → terms.Keyed
body_seen x = record { key = x.key; term = x.term }

-- the terms alone
abbrev pub body_terms : List Body → List Term
body_terms xs = map (λ x. x.term) xs
