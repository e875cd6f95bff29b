-- The groups of ids, as they grow.
use Rattle.std.proofs.Common.{◌≡◌, ◌≢◌, ℕ, zero, suc, ◌+◌, ◌<◌, ◌≤◌, List, [], ◌∷◌, ◌++◌, length, get_or, refl, sym, ap, ◌∙◌, subst, inl, inr, arith, Vec, All}
use Rattle.std.specs.List.{Contains}
use Rattle.std.specs.declared.alloc.Global.{Global}
use Rattle.std.proofs.lemmas.Bool.{cases_eq}
use Rattle.std.proofs.lemmas.List.{map-append}
use Rattle.std.proofs.lemmas.List.Elements.{All-push, Contains-push, Contains-append_left}
use Rattle.cbl_base.specs.NodeLaw.{Rule}
use Rattle.store_build.specs.declared.groups.Item.{Item}
use Rattle.store_build.specs.Lists.{list_in}
use Rattle.store_build.specs.Groups.{IsItem, IsGrouped, ids_in}

-- no list is past the last
pub in_past : {A Z : Type 0} (xs : List (Vec A Z)) (i : ℕ) → length xs ≤ i → list_in xs i ≡ []
in_past [] zero le = refl
in_past [] (suc i) le = refl
in_past (x ∷ xs) zero le = absurd (omega arith)
in_past (x ∷ xs) (suc i) le = in_past xs i (omega arith)

module _ {N : Type 0} (rule : N → Rule) (rules : List Rule) (first : ℕ) (layers : List ℕ) where
  none_there : (groups : List (Vec (Item N) Global)) (l : ℕ) → groups ≡ [] → All (λ i. IsItem rule rules first i × (i.id < 0) × (get_or layers i.id 0 ≡ l)) (list_in groups l)
  none_there [] l e = λ k d lt. absurd (omega (arith, lt))
  none_there (x ∷ xs) l e = absurd (cc)

  pub none_grouped : (groups : List (Vec (Item N) Global)) → groups ≡ [] → IsGrouped rule rules first layers 0 groups
  none_grouped groups e = record {
    all = λ id lt. absurd (omega (arith, lt));
    each = λ l. none_there groups l e;
  }

  module _ (n : ℕ) (old new : List (Vec (Item N) Global)) (item : Item N) (is : item.id ≡ n) (ok : IsItem rule rules first item)
      (here : list_in new (get_or layers item.id 0) ≡ list_in old (get_or layers item.id 0) ++ item ∷ [])
      (elsewhere : (i : ℕ) → i ≢ get_or layers item.id 0 → list_in new i ≡ list_in old i) (grouped : IsGrouped rule rules first layers n old) where
    ids : ids_in (list_in new (get_or layers item.id 0)) ≡ ids_in (list_in old (get_or layers item.id 0)) ++ item.id ∷ []
    ids = ap ids_in here ∙ map-append (λ (i : Item N). i.id) (list_in old (get_or layers item.id 0)) (item ∷ [])

    own : Contains (ids_in (list_in new (get_or layers item.id 0))) item.id
    own = subst (λ (xs : List ℕ). Contains xs item.id) (sym ids) (Contains-push (ids_in (list_in old (get_or layers item.id 0))) item.id)

    earlier : (id : ℕ) → Contains (ids_in (list_in old (get_or layers id 0))) id → Contains (ids_in (list_in new (get_or layers id 0))) id
    earlier id h = elim (cases_eq (get_or layers id 0) (get_or layers item.id 0)) [
      | inl e ↦ subst (λ (l : ℕ). Contains (ids_in (list_in new l)) id) (sym e) (subst (λ (xs : List ℕ). Contains xs id) (sym ids) (Contains-append_left (ids_in (list_in old (get_or layers item.id 0))) (item.id ∷ []) id (subst (λ (l : ℕ). Contains (ids_in (list_in old l)) id) e h)))
      | inr ne ↦ subst (λ (xs : List (Item N)). Contains (ids_in xs) id) (sym (elsewhere (get_or layers id 0) ne)) h
    ]

    wider : (l : ℕ) (xs : List (Item N)) → All (λ i. IsItem rule rules first i × (i.id < n) × (get_or layers i.id 0 ≡ l)) xs → All (λ i. IsItem rule rules first i × (i.id < n + 1) × (get_or layers i.id 0 ≡ l)) xs
    wider l xs all = λ k d lt. let p = all k d lt in (p.0, omega (arith, p.1), p.2)

    all_new : (id : ℕ) → id < n + 1 → Contains (ids_in (list_in new (get_or layers id 0))) id
    all_new id lt = elim (cases_eq id item.id) [
      | inl e ↦ subst (λ (k : ℕ). Contains (ids_in (list_in new (get_or layers k 0))) k) (sym e) own
      | inr ne ↦ earlier id (grouped.all id (omega (arith, lt, ne, is)))
    ]

    each_new : (l : ℕ) → All (λ i. IsItem rule rules first i × (i.id < n + 1) × (get_or layers i.id 0 ≡ l)) (list_in new l)
    each_new l = elim (cases_eq l (get_or layers item.id 0)) [
      | inl e ↦ subst (λ (xs : List (Item N)). All (λ i. IsItem rule rules first i × (i.id < n + 1) × (get_or layers i.id 0 ≡ l)) xs) (sym (ap (list_in new) e ∙ here))
          (All-push (λ (i : Item N). IsItem rule rules first i × (i.id < n + 1) × (get_or layers i.id 0 ≡ l)) (list_in old (get_or layers item.id 0)) item
          (subst (λ (m : ℕ). All (λ i. IsItem rule rules first i × (i.id < n + 1) × (get_or layers i.id 0 ≡ l)) (list_in old m)) e (wider l (list_in old l) (grouped.each l)))
          (ok, omega (arith, is), sym e))
      | inr ne ↦ subst (λ (xs : List (Item N)). All (λ i. IsItem rule rules first i × (i.id < n + 1) × (get_or layers i.id 0 ≡ l)) xs) (sym (elsewhere l ne)) (wider l (list_in old l) (grouped.each l))
    ]

    pub item_more : IsGrouped rule rules first layers (n + 1) new
    item_more = record { all = all_new; each = each_new }
