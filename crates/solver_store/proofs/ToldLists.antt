-- Changes that are told one after another.
use Rattle.std.proofs.Common.{◌≡◌, ℕ, ◌+◌, List, [], ◌∷◌, ◌++◌, Option, Some, None, take, refl, sym, ap, ◌∙◌}
use Rattle.std.specs.List.{cons_option}
use Rattle.std.proofs.lemmas.List.{append-nil}
use Rattle.std.proofs.lemmas.List.Elements.{filter_map-append}
use Rattle.inc_store.specs.declared.changed.NodeChange.{NodeChange}
use Rattle.ls_events.specs.declared.change.VarChange.{VarChange}
use Rattle.solver_models.specs.KeptChanges.{with_change}
use Rattle.solver_store.specs.ToldChanges.{variable_change, variable_changes}

pushed : (changes : List VarChange) (o : Option VarChange) → with_change changes o ≡ changes ++ cons_option o []
pushed changes (Some change) = refl
pushed changes None = sym (append-nil changes)

-- one more of the changes
pub told_more : (solver count : ℕ) (changes : List NodeChange) (i : ℕ) (c : NodeChange) (told after : List VarChange) (change : Option VarChange) → take (i + 1) changes ≡ take i changes ++ c ∷ [] → told ≡ variable_changes solver count (take i changes) →
    change ≡ variable_change solver count c → after ≡ with_change told change → after ≡ variable_changes solver count (take (i + 1) changes)
told_more solver count changes i c told after change more is one next =
    next ∙ pushed told change ∙ ap (λ cs. cs ++ cons_option change []) is ∙ ap (λ o. variable_changes solver count (take i changes) ++ cons_option o []) one
    ∙ sym (filter_map-append (variable_change solver count) (take i changes) (c ∷ [])) ∙ ap (variable_changes solver count) (sym more)
