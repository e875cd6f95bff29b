-- The number at a place after changes.
use Rattle.std.proofs.Common.{◌≡◌, ◌≢◌, ℕ, zero, suc, ◌<◌, ◌==◌, ℤ, pos, inl, inr, List, [], ◌∷◌, length, get_or, set, refl, ap, sym, ◌∙◌, arith}
use Rattle.std.proofs.lemmas.Bool.{both_ways, cases_Bool, cond-true, cond-false, eqb-true}
use Rattle.std.proofs.lemmas.Bool.Decides.{nat_tests}
use Rattle.std.proofs.lemmas.List.{get_or-set_same, get_or-set_other, length-set}
use Rattle.node_base.specs.NumberChanges.{after_number_changes}
use Rattle.node_base.specs.declared.number_change.NumberChange.{NumberChange}
use Rattle.node_count.specs.After.{number_after_one, number_after}

set_read : (xs : List ℤ) (p : ℕ) (d : ℤ) (c : NumberChange) → p < length xs → get_or (set xs c.place c.new) p d ≡ number_after_one p (get_or xs p d) c
set_read xs p d c lt =
    elim (cases_Bool (c.place == p)) [
      | inl e ↦
          let same : c.place ≡ p = eqb-true c.place p e in
          ap (λ q. get_or (set xs q c.new) p d) same ∙ get_or-set_same xs p c.new d lt ∙ sym (cond-true (c.place == p) c.new (get_or xs p d) e)
      | inr e ↦
          let other : p ≢ c.place = λ same. both_ways (c.place == p) e (grind (arith, nat_tests, same)) in
          get_or-set_other xs c.place p c.new d other ∙ sym (cond-false (c.place == p) c.new (get_or xs p d) e)
    ]

pub number_read_after : (xs : List ℤ) (cs : List NumberChange) (p : ℕ) (d : ℤ) → p < length xs → get_or (after_number_changes xs cs) p d ≡ number_after p (get_or xs p d) cs
number_read_after xs [] p d lt = refl
number_read_after xs (c ∷ cs) p d lt =
    number_read_after (set xs c.place c.new) cs p d (omega (arith, lt, length-set xs c.place c.new)) ∙ ap (λ x. number_after p x cs) (set_read xs p d c lt)

-- what is read does not depend on what stands past the end
same_read : (xs : List ℤ) (p : ℕ) (d e : ℤ) → p < length xs → get_or xs p d ≡ get_or xs p e
same_read [] p d e lt = absurd (omega arith)
same_read (x ∷ xs) zero d e lt = refl
same_read (x ∷ xs) (suc p) d e lt = same_read xs p d e (omega arith)

pub read_any : (xs : List ℤ) (p : ℕ) (x : ℤ) → p < length xs → x ≡ get_or xs p x → x ≡ get_or xs p (pos 0)
read_any xs p x lt at = at ∙ same_read xs p x (pos 0) lt
