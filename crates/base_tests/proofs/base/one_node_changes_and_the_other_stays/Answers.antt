use Rattle.std.proofs.Common.{◌≡◌, ℤ, pos, List, [], ◌∷◌, refl, sym, ◌∙◌, arith}
use Rattle.cbl_base.specs.declared.input.Input.{Input}
use Rattle.cbl_base.specs.declared.input.Input.TheVariants.{Set}
use Rattle.cbl_base.specs.declared.input.Change.{Change}
use Rattle.cbl_base.specs.declared.input.Change.TheVariants.{Set as SetChange}
use Rattle.cbl_base.specs.Sets.{set_of}
use Rattle.cbl_base.specs.Changes.{AreChanges}
use Rattle.base_tests.proofs.base.one_node_changes_and_the_other_stays.Goals as goal

-- 2 and 5 may come into the set of 1 and 3, and 1 may go
literally : AreChanges (Set (set_of (pos 3 ∷ pos 1 ∷ [])) ∷ []) (SetChange 0 (set_of (pos 5 ∷ pos 2 ∷ [])) (set_of (pos 1 ∷ [])) ∷ [])
literally = (((refl, (refl, tt)), (refl, tt)), tt, tt)

fits : (s a r : List ℤ) (held : List Input) (changes : List Change) → s ≡ set_of (pos 3 ∷ pos 1 ∷ []) → a ≡ set_of (pos 5 ∷ pos 2 ∷ []) → r ≡ set_of (pos 1 ∷ []) → held ≡ Set s ∷ [] → changes ≡ SetChange 0 a r ∷ [] → AreChanges held changes
fits s a r held changes is_s is_a is_r is_held are = rw (is_held, are, is_s, is_a, is_r) literally

pub probe_at-requires-clause-changes : goal.probe_at-requires-clause-changes
probe_at-requires-clause-changes g c x is =
    fits _ _ _ _ _ c.in_ok-from_slice.ensures c.in_ok-from_slice-2.ensures c.in_ok-from_slice-3.ensures
    ((c.in_ok-reset_at.ensures.here x (sym (c.in_ok-reset_at-2.ensures.others 0 (λ e. omega (arith, e))) ∙ is)).1 ∙ c.as_slice.ensures.value ∙ c.in_ok-inputs.ensures.items)
    (c.as_slice-3.ensures.value ∙ c.in_ok-changes.ensures.items)

pub apply_at-requires-clause-changes : goal.apply_at-requires-clause-changes
apply_at-requires-clause-changes g c x is =
    fits _ _ _ _ _ c.in_ok-from_slice.ensures c.in_ok-from_slice-2.ensures c.in_ok-from_slice-3.ensures
    ((c.in_ok-reset_at.ensures.here x (sym (c.in_ok-reset_at-2.ensures.others 0 (λ e. omega (arith, e))) ∙ is)).1 ∙ c.as_slice.ensures.value ∙ c.in_ok-inputs.ensures.items)
    (c.as_slice-4.ensures.value ∙ c.in_ok-changes.ensures.items)
