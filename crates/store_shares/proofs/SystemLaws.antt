-- The violations of a variable in a system are the tally of what the parts of its members tell, each times its weight.
use Rattle.std.proofs.Common.{◌≡◌, ℕ, ℤ, pos, zero, suc, ◌+◌, ◌+ℤ◌, ◌*ℤ◌, ◌<◌, Bool, true, false, ◌&&◌, List, [], ◌∷◌, ◌++◌, Option, Some, None, Result, Ok, Err, length, length-append, fold, map, refl, sym, ap, ◌∙◌, subst, arith, true≢false}
use Rattle.std.specs.Prelude.{filter_map, slice_index_or, if◌then◌else◌}
use Rattle.std.specs.List.{list_all, range_with_len, cons_option}
use Rattle.std.proofs.lemmas.Int.{ints}
use Rattle.std.proofs.lemmas.List.{append_assoc, append-nil}
use Rattle.std.proofs.lemmas.List.Folds.{list_all-append}
use Rattle.cbl_base.specs.Arithmetic.{exact, fits_64}
use Rattle.cbl_base.specs.NumberRule.{NumberRule}
use Rattle.cbl_base.specs.Totals.{total}
use Rattle.cbl_base.specs.declared.faults.RunFault.{RunFault}
use Rattle.cbl_base.specs.declared.faults.RunFault.TheVariants.{Overflow}
use Rattle.cbl_violations.specs.Fitting.{where_all_fit}
use Rattle.cbl_violations.specs.Violations.WeightedTotal.{weighted_member, weighted_total_value}
use Rattle.model_values.specs.Outcomes.{Outcome}
use Rattle.model_values.specs.Support.{member_in}
use Rattle.model_values.specs.declared.wholes.Whole.TheVariants.{System}
use Rattle.term_model.specs.declared.model.Member.{Member}
use Rattle.term_model.specs.declared.model.Model.{Model}
use Rattle.term_model.specs.declared.model.Posted.{Posted}
use Rattle.violation_shares.specs.VariableViolations.{Weighed, gather_violation, none_weighed, violation_in_system, weigh_posted, weighted_violation, with_member}
use Rattle.store_shares.specs.Calls.{no_tally, tallied, tally_all, with_product}
use Rattle.store_shares.specs.declared.calls.Tally.{Tally}
use Rattle.store_shares.proofs.TermLaws.{share}

-- ---- the members of a system one after another
module _ (users : ℕ → NumberRule) (env : ℕ → Outcome) (depends : ℕ → Bool) (M : Model) (s : ℕ) where
  with_one : Weighed → Member → Weighed
  with_one weighed member = with_member users env depends weighed (Some member)

  posted_members : (weighed : Weighed) (posted : List Posted) →
      fold (weigh_posted users env depends M s) weighed posted ≡ fold (λ w (m : Member). with_member users env depends w (Some m)) weighed (filter_map (member_in M (System s)) posted)
  posted_members weighed [] = refl
  posted_members weighed (p ∷ posted) = one (λ w. posted_members w posted) (member_in M (System s) p)
    where
      one : ((w : Weighed) → fold (weigh_posted users env depends M s) w posted ≡ fold (λ v (m : Member). with_member users env depends v (Some m)) w (filter_map (member_in M (System s)) posted)) → (o : Option Member) →
          fold (weigh_posted users env depends M s) (with_member users env depends weighed o) posted ≡ fold (λ w (m : Member). with_member users env depends w (Some m)) weighed (cons_option o (filter_map (member_in M (System s)) posted))
      one rest (Some m) = rest (with_member users env depends weighed (Some m))
      one rest None = rest weighed

  listed_members : (weighed : Weighed) (members : List Member) → fold (λ w (m : Member). with_member users env depends w (Some m)) weighed members ≡
      record { violations = fold gather_violation weighed.violations (map (λ m. share users env depends m.term) members); weights = weighed.weights ++ map (λ m. m.weight) members }
  listed_members weighed [] = λ i. record { violations = weighed.violations; weights = sym (append-nil weighed.weights) i }
  listed_members weighed (m ∷ members) =
      listed_members (with_member users env depends weighed (Some m)) members
      ∙ ap (λ ws. record { violations = fold gather_violation weighed.violations (map (λ m. share users env depends m.term) (m ∷ members)); weights = ws }) (append_assoc weighed.weights (m.weight ∷ []) (map (λ m. m.weight) members))

  pub system_is : (members : List Member) → filter_map (member_in M (System s)) M.posted.items ≡ members →
      violation_in_system users M env depends s ≡ weighted_violation (fold gather_violation (Ok []) (map (λ m. share users env depends m.term) members)) (map (λ m. m.weight) members)
  system_is members e =
      ap (λ (w : Weighed). weighted_violation w.violations w.weights)
      (posted_members none_weighed M.posted.items ∙ ap (fold (λ w (m : Member). with_member users env depends w (Some m)) none_weighed) e ∙ listed_members none_weighed members)

-- ---- products
abbrev products : List ℤ → List ℤ → List ℤ
products [] us = []
products (x ∷ xs) [] = []
products (x ∷ xs) (u ∷ us) = (x *ℤ u) ∷ products xs us

products_more : (xs us : List ℤ) (x u : ℤ) → length xs ≡ length us → products (xs ++ x ∷ []) (us ++ u ∷ []) ≡ products xs us ++ (x *ℤ u) ∷ []
products_more [] [] x u e = refl
products_more [] (v ∷ us) x u e = absurd (omega (arith, e))
products_more (y ∷ xs) [] x u e = absurd (omega (arith, e))
products_more (y ∷ xs) (v ∷ us) x u e = ap (λ l. (y *ℤ v) ∷ l) (products_more xs us x u (omega (arith, e)))

index_left : (xs us : List ℤ) (k : ℕ) → k < length xs → slice_index_or (xs ++ us) k (pos 0) ≡ slice_index_or xs k (pos 0)
index_left [] us k lt = absurd (omega (arith, lt))
index_left (x ∷ xs) us zero lt = refl
index_left (x ∷ xs) us (suc k) lt = index_left xs us k (omega (arith, lt))

index_right : (xs us : List ℤ) (k : ℕ) → slice_index_or (xs ++ us) (length xs + k) (pos 0) ≡ slice_index_or us k (pos 0)
index_right [] us k = let e : 0 + k ≡ k = omega arith in ap (λ j. slice_index_or us j (pos 0)) e
index_right (x ∷ xs) us k =
    let e : length (x ∷ xs) + k ≡ suc (length xs + k) = omega arith in
    ap (λ j. slice_index_or (x ∷ (xs ++ us)) j (pos 0)) e ∙ index_right xs us k

-- what a function gives of the places from a first one on
mapped_products : (f : ℕ → ℤ) (xs us : List ℤ) (a : ℕ) → length xs ≡ length us → ((k : ℕ) → k < length xs → f (a + k) ≡ (slice_index_or xs k (pos 0) *ℤ slice_index_or us k (pos 0))) → map f (range_with_len a (length us)) ≡ products xs us
mapped_products f [] [] a e h = refl
mapped_products f [] (u ∷ us) a e h = absurd (omega (arith, e))
mapped_products f (x ∷ xs) [] a e h = absurd (omega (arith, e))
mapped_products f (x ∷ xs) (u ∷ us) a e h =
    let here : a ≡ a + 0 = omega arith in
    let one : f a ≡ (x *ℤ u) = ap f here ∙ h 0 (omega arith) in
    let rest = mapped_products f xs us (a + 1) (omega (arith, e)) (λ k lt. let at : a + 1 + k ≡ a + suc k = omega arith in ap f at ∙ h (suc k) (omega (arith, lt))) in
    λ i. one i ∷ rest i

weighted_products : (xs us : List ℤ) → length xs ≡ length us → map (weighted_member (length us) (xs ++ us)) (range_with_len 0 (length us)) ≡ products xs us
weighted_products xs us e = mapped_products (weighted_member (length us) (xs ++ us)) xs us 0 e (λ k lt. each k lt)
  where
    each : (k : ℕ) → k < length xs → weighted_member (length us) (xs ++ us) (0 + k) ≡ (slice_index_or xs k (pos 0) *ℤ slice_index_or us k (pos 0))
    each k lt =
        let at : 0 + k ≡ k = omega arith in
        let right : slice_index_or (xs ++ us) (length us + k) (pos 0) ≡ slice_index_or us k (pos 0) = ap (λ n. slice_index_or (xs ++ us) (n + k) (pos 0)) (sym e) ∙ index_right xs us k in
        ap (weighted_member (length us) (xs ++ us)) at ∙ (λ i. index_left xs us k lt i *ℤ right i)

-- ---- a tally of products
record IsTally (tally : Tally) (ps : List ℤ) : Type 0 where
  fit : tally.fits ≡ list_all fits_64 ps
  whole : tally.fits ≡ true → tally.sum ≡ total ps

total_more : (xs : List ℤ) (x : ℤ) → total (xs ++ x ∷ []) ≡ (total xs +ℤ x)
total_more [] x = omega (arith, ints)
total_more (y ∷ xs) x = omega (arith, ints, total_more xs x)

and_true : (b : Bool) → (b && true) ≡ b
and_true true = refl
and_true false = refl

all_more : (ps : List ℤ) (p : ℤ) → list_all fits_64 (ps ++ p ∷ []) ≡ (list_all fits_64 ps && fits_64 p)
all_more ps p = list_all-append fits_64 ps (p ∷ []) ∙ ap (λ b. list_all fits_64 ps && b) (and_true (fits_64 p))

both_true : (a b : Bool) → (a && b) ≡ true → (a ≡ true) × (b ≡ true)
both_true true b h = (refl, h)
both_true false b h = absurd (true≢false (sym h))

tally_more : (tally : Tally) (ps : List ℤ) (p : ℤ) → IsTally tally ps → IsTally (with_product tally p) (ps ++ p ∷ [])
tally_more tally ps p is = cases (tally.fits && fits_64 p) refl
  where
    cases : (b : Bool) → (tally.fits && fits_64 p) ≡ b → IsTally (if tally.fits && fits_64 p then record { sum = tally.sum +ℤ p; fits = true } else record { sum = tally.sum; fits = false }) (ps ++ p ∷ [])
    cases true e =
        let fit : true ≡ list_all fits_64 (ps ++ p ∷ []) = sym e ∙ ap (λ b. b && fits_64 p) is.fit ∙ sym (all_more ps p) in
        let whole : (tally.sum +ℤ p) ≡ total (ps ++ p ∷ []) = ap (λ n. n +ℤ p) (is.whole (both_true tally.fits (fits_64 p) e).0) ∙ sym (total_more ps p) in
        subst (λ b. IsTally (if b then record { sum = tally.sum +ℤ p; fits = true } else record { sum = tally.sum; fits = false }) (ps ++ p ∷ [])) (sym e) (record { fit = fit; whole = λ _. whole })
    cases false e =
        let fit : false ≡ list_all fits_64 (ps ++ p ∷ []) = sym e ∙ ap (λ b. b && fits_64 p) is.fit ∙ sym (all_more ps p) in
        subst (λ b. IsTally (if b then record { sum = tally.sum +ℤ p; fits = true } else record { sum = tally.sum; fits = false }) (ps ++ p ∷ [])) (sym e) (record { fit = fit; whole = λ h. absurd (true≢false (sym h)) })

fault_stays : (fault : RunFault) (vs : List (Result ℤ RunFault)) → fold gather_violation (Err fault) vs ≡ Err fault
fault_stays fault [] = refl
fault_stays fault (v ∷ vs) = fault_stays fault vs

tally_total : (tally : Tally) (ps : List ℤ) → IsTally tally ps → where_all_fit (ps ++ total ps ∷ []) (total ps) ≡ tallied (Ok tally)
tally_total tally ps is = cases tally.fits refl
  where
    cases : (b : Bool) → tally.fits ≡ b → where_all_fit (ps ++ total ps ∷ []) (total ps) ≡ (if tally.fits then exact tally.sum else Err Overflow)
    cases true e =
        ap (λ b. if b then Ok (total ps) else Err Overflow) (all_more ps (total ps) ∙ ap (λ b. b && fits_64 (total ps)) (sym is.fit ∙ e))
        ∙ ap exact (sym (is.whole e)) ∙ ap (λ b. if b then exact tally.sum else Err Overflow) (sym e)
    cases false e =
        ap (λ b. if b then Ok (total ps) else Err Overflow) (all_more ps (total ps) ∙ ap (λ b. b && fits_64 (total ps)) (sym is.fit ∙ e))
        ∙ ap (λ b. if b then exact tally.sum else Err Overflow) (sym e)

tally_from : (tally : Tally) (xs us : List ℤ) (vs : List (Result ℤ RunFault)) (ws : List ℤ) → length xs ≡ length us → length vs ≡ length ws → IsTally tally (products xs us) →
    weighted_violation (fold gather_violation (Ok xs) vs) (us ++ ws) ≡ tallied (tally_all tally vs ws)
unfolding weighted_total_value
tally_from tally xs us [] [] e f is =
    ap (λ ls. weighted_violation (Ok xs) ls) (append-nil us)
    ∙ ap (λ ps. where_all_fit (ps ++ total ps ∷ []) (total ps)) (weighted_products xs us e) ∙ tally_total tally (products xs us) is
tally_from tally xs us [] (w ∷ ws) e f is = absurd (omega (arith, f))
tally_from tally xs us (v ∷ vs) [] e f is = absurd (omega (arith, f))
tally_from tally xs us (Ok v ∷ vs) (w ∷ ws) e f is =
    let long : length (xs ++ v ∷ []) ≡ length (us ++ w ∷ []) = omega (arith, e, length-append xs (v ∷ []), length-append us (w ∷ [])) in
    ap (weighted_violation (fold gather_violation (Ok (xs ++ v ∷ [])) vs)) (sym (append_assoc us (w ∷ []) ws))
    ∙ tally_from (with_product tally (v *ℤ w)) (xs ++ v ∷ []) (us ++ w ∷ []) vs ws long (omega (arith, f)) (subst (IsTally (with_product tally (v *ℤ w))) (sym (products_more xs us v w e)) (tally_more tally (products xs us) (v *ℤ w) is))
tally_from tally xs us (Err fault ∷ vs) (w ∷ ws) e f is = ap (λ r. weighted_violation r (us ++ w ∷ ws)) (fault_stays fault vs)

pub tally_is : (vs : List (Result ℤ RunFault)) (ws : List ℤ) → length vs ≡ length ws → weighted_violation (fold gather_violation (Ok []) vs) ws ≡ tallied (tally_all no_tally vs ws)
tally_is vs ws e = tally_from no_tally [] [] vs ws refl e (record { fit = refl; whole = λ _. refl })
