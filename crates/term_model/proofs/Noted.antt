-- The definition of a variable, as far as what was posted has been gone through.
use Rattle.std.proofs.Common.{◌≡◌, ℕ, ◌+◌, ◌<◌, ◌≤◌, List, None, length, get_or, take, sym, ap, ◌∙◌}
use Rattle.std.proofs.lemmas.List.{take_all}
use Rattle.std.proofs.lemmas.List.Sums.{fold_more}
use Rattle.term_model.specs.Definitions.{note, definition_in}
use Rattle.term_model.specs.declared.model.Definition.{Definition}
use Rattle.term_model.specs.declared.model.Posted.{Posted}

pub definition_more : (defs : List Definition) (posted : List Posted) (k i : ℕ) (p : Posted) → k < length posted → p ≡ get_or posted k p →
    definition_in defs (take (k + 1) posted) i ≡ note defs i (definition_in defs (take k posted) i) p
definition_more defs posted k i p lt is =
    fold_more (note defs i) None posted k p lt ∙ ap (note defs i (definition_in defs (take k posted) i)) (sym is)

pub definition_all : (defs : List Definition) (posted : List Posted) (k i : ℕ) → length posted ≤ k → definition_in defs (take k posted) i ≡ definition_in defs posted i
definition_all defs posted k i le = ap (λ ps. definition_in defs ps i) (take_all k posted le)
