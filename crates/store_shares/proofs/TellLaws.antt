-- Each form of a part tells its term, where its own parts tell the arguments.
use Rattle.std.proofs.Common.{◌≡◌, ℕ, ℤ, pos, zero, suc, ◌+◌, ◌-◌, ◌<◌, ◌≤◌, ◌+ℤ◌, Bool, true, false, cond, ◌||◌, List, [], ◌∷◌, ◌++◌, Option, Some, None, Vec, Global, Result, Ok, length, length-append, fold, map, refl, sym, ap, ◌∙◌, subst, arith, All}
use Rattle.std.specs.Prelude.{filter, int_lt, unwrap_or, if◌then◌else◌}
use Rattle.std.specs.List.{list_any, range_with_len}
use Rattle.std.proofs.lemmas.Bool.{or_parts}
use Rattle.std.proofs.lemmas.Int.{ints}
use Rattle.std.proofs.lemmas.List.Elements.{All-head, All-tail}
use Rattle.cbl_base.specs.Inputs.{number_of}
use Rattle.cbl_base.specs.NumberRule.{NumberRule}
use Rattle.cbl_base.specs.declared.faults.RunFault.{RunFault}
use Rattle.cbl_base.specs.declared.input.Input.{Input}
use Rattle.cbl_base.specs.declared.place.Place.{Place}
use Rattle.cbl_operations.specs.Operations.Greatest.{greatest_of}
use Rattle.cbl_operations.specs.RuleOf.{rule_of}
use Rattle.cbl_operations.specs.declared.op.Op.{Op}
use Rattle.model_values.specs.Dependence.{marked}
use Rattle.model_values.specs.Outcomes.{Outcome, gather, outcome_of}
use Rattle.term_model.specs.declared.term.Term.{Term}
use Rattle.term_model.specs.declared.term.Term.TheViews.{Node}
use Rattle.violation_shares.specs.VariableViolations.{arguments_of, number_if, one_depends, share_of, total_violation, violations_where}
use Rattle.store_shares.specs.Parts.{Reading, Told, add_told, fewer_told, fewest_told, fitted, one_in, sum_told, told, told_step, violation_if, violation_of, violations_in}
use Rattle.store_shares.specs.Slots.{AreMarked, Slotted, joined_slots, kind_of, slot_at, slots_by, slots_of, slotted}
use Rattle.store_shares.specs.Telling.{AllTell, AreReads, IsTold, Tells, told_of}
use Rattle.store_shares.specs.declared.parts.Kind.TheVariants.{Every, One, Negation, Plain}
use Rattle.store_shares.specs.declared.parts.Part.{Part}
use Rattle.store_shares.specs.declared.parts.Part.TheOpen.{Part-F}
use Rattle.store_shares.specs.declared.parts.Part.TheFolds.{fold-roll-Part}
use Rattle.store_shares.specs.declared.parts.Part.TheViews.{Every as EveryPart, One as OnePart}
use Rattle.store_shares.specs.declared.parts.Part.TheVariants.{Leaf as LeafPart, Negation as NegationPart, Plain as PlainPart, rolls-Leaf, rolls-Negation, rolls-Plain, rolls-Every, rolls-One}
use Rattle.store_shares.proofs.TermLaws.{dep, depends_of, facts, node_values, node_violation, one_of, fewest_is, share, slot_depends, slots_node, sum_is, violation_by_kind, violations_of}

-- ---- slots that pass
pub slot_left : (ss rest : List (List ℕ)) (k : ℕ) → k < length ss → slot_at (ss ++ rest) k ≡ slot_at ss k
slot_left [] rest k lt = absurd (omega (arith, lt))
slot_left (s ∷ ss) rest zero lt = refl
slot_left (s ∷ ss) rest (suc k) lt = slot_left ss rest k (omega (arith, lt))

pub slot_right : (ss rest : List (List ℕ)) (k : ℕ) → slot_at (ss ++ rest) (length ss + k) ≡ slot_at rest k
slot_right [] rest k = let e : 0 + k ≡ k = omega arith in ap (slot_at rest) e
slot_right (s ∷ ss) rest k =
    let e : length (s ∷ ss) + k ≡ suc (length ss + k) = omega arith in
    ap (slot_at (s ∷ (ss ++ rest))) e ∙ slot_right ss rest k

module _ (test depends : ℕ → Bool) where
  pub marks_left : (first : ℕ) (ss rest : List (List ℕ)) → AreMarked test depends first (ss ++ rest) → AreMarked test depends first ss
  marks_left first ss rest marks k lt =
      let long = length-append ss rest in
      marks k (omega (arith, lt, long)) ∙ ap (list_any depends) (slot_left ss rest k lt)

  pub marks_right : (first : ℕ) (ss rest : List (List ℕ)) → AreMarked test depends first (ss ++ rest) → AreMarked test depends (first + length ss) rest
  marks_right first ss rest marks k lt =
      let long = length-append ss rest in
      let at : first + length ss + k ≡ first + (length ss + k) = omega arith in
      ap test at ∙ marks (length ss + k) (omega (arith, lt, long)) ∙ ap (list_any depends) (slot_right ss rest k)

  marks_any : (first : ℕ) (ss : List (List ℕ)) → AreMarked test depends first ss → list_any test (range_with_len first (length ss)) ≡ list_any (list_any depends) ss
  marks_any first [] marks = refl
  marks_any first (s ∷ ss) marks =
      let here : first + 0 ≡ first = omega arith in
      let one : test first ≡ list_any depends s = ap test (sym here) ∙ marks 0 (omega arith) in
      let rest : AreMarked test depends (first + 1) ss = λ k lt. let at : first + 1 + k ≡ first + suc k = omega arith in ap test at ∙ marks (suc k) (omega (arith, lt)) in
      ap (λ b. b || list_any test (range_with_len (first + 1) (length ss))) one ∙ ap (λ b. list_any depends s || b) (marks_any (first + 1) ss rest)

  one_in_range : (first n : ℕ) → one_in test first (first + n) ≡ list_any test (range_with_len first n)
  one_in_range first n = let e : first + n - first ≡ n = omega arith in ap (λ m. list_any test (range_with_len first m)) e

  pub one_in_any : (first : ℕ) (ss : List (List ℕ)) → AreMarked test depends first ss → one_in test first (first + length ss) ≡ list_any (list_any depends) ss
  one_in_any first ss marks = one_in_range first (length ss) ∙ marks_any first ss marks

any_append : (depends : ℕ → Bool) (ss rest : List (List ℕ)) → list_any (list_any depends) (ss ++ rest) ≡ (list_any (list_any depends) ss || list_any (list_any depends) rest)
any_append depends [] rest = refl
any_append depends (s ∷ ss) rest = ap (λ b. list_any depends s || b) (any_append depends ss rest) ∙ or_assoc (list_any depends s) (list_any (list_any depends) ss) (list_any (list_any depends) rest)
  where
    or_assoc : (x y z : Bool) → (x || (y || z)) ≡ ((x || y) || z)
    or_assoc true y z = refl
    or_assoc false y z = refl

-- ---- the values of arguments
none_gathered : (os : List Outcome) (xs : List Input) → fold gather None os ≡ Some xs → ⊥
none_gathered [] xs h = let c : None ≡ Some xs = h in cc
none_gathered (o ∷ os) xs h = none_gathered os xs h

gather_length : (os : List Outcome) (ys xs : List Input) → fold gather (Some ys) os ≡ Some xs → length xs ≡ length ys + length os
gather_length [] ys xs h = let e : ys ≡ xs = some_same ys xs h in ap length (sym e) ∙ zero_more (length ys)
  where
    some_same : (us vs : List Input) → Some us ≡ Some vs → us ≡ vs
    some_same us vs e = ap (λ o. unwrap_or o []) e

    zero_more : (n : ℕ) → n ≡ n + 0
    zero_more n = omega arith
gather_length (Some o ∷ os) ys xs h =
    let rest = gather_length os (ys ++ o ∷ []) xs h in
    let long = length-append ys (o ∷ []) in
    omega (arith, rest, long)
gather_length (None ∷ os) ys xs h = absurd (none_gathered os xs h)

length_mapped : {X Y : Type 0} (f : X → Y) (xs : List X) → length (map f xs) ≡ length xs
length_mapped f [] = refl
length_mapped f (x ∷ xs) = let e = length_mapped f xs in omega (arith, e)

-- ---- places that pass
cond_same : (b : Bool) (f g : ℕ → ℤ) (x y : ℕ) (xs ys : List ℕ) → f x ≡ g y → map f xs ≡ map g ys → map f (cond b (x ∷ xs) xs) ≡ map g (cond b (y ∷ ys) ys)
cond_same true f g x y xs ys e h = λ i. e i ∷ h i
cond_same false f g x y xs ys e h = h

same_places : (test marks : ℕ → Bool) (rv va : ℕ → ℤ) (first c m : ℕ) → ((j : ℕ) → c ≤ j → j < c + m → (test (first + j) ≡ marks j) × (va j ≡ rv j)) →
    map (λ k. rv (k - first)) (filter test (range_with_len (first + c) m)) ≡ map va (filter marks (range_with_len c m))
same_places test marks rv va first c zero same = refl
same_places test marks rv va first c (suc m) same =
    let here = same c (omega arith) (omega arith) in
    let at : first + c + 1 ≡ first + (c + 1) = omega arith in
    let back : first + c - first ≡ c = omega arith in
    let rest = same_places test marks rv va first (c + 1) m (λ j le lt. same j (omega (arith, le)) (omega (arith, lt))) in
    let rest' : map (λ k. rv (k - first)) (filter test (range_with_len (first + c + 1) m)) ≡ map va (filter marks (range_with_len (c + 1) m)) = ap (λ n. map (λ k. rv (k - first)) (filter test (range_with_len n m))) at ∙ rest in
    ap (λ b. map (λ k. rv (k - first)) (cond b ((first + c) ∷ filter test (range_with_len (first + c + 1) m)) (filter test (range_with_len (first + c + 1) m)))) here.0
    ∙ cond_same (marks c) (λ k. rv (k - first)) va (first + c) c (filter test (range_with_len (first + c + 1) m)) (filter marks (range_with_len (c + 1) m)) (ap rv back ∙ sym here.1) rest'

none_kept : (test : ℕ → Bool) (ks : List ℕ) → list_any test ks ≡ false → filter test ks ≡ []
none_kept test [] h = refl
none_kept test (k ∷ ks) h = let both = or_parts (test k) (list_any test ks) h in ap (λ b. cond b (k ∷ filter test ks) (filter test ks)) both.0 ∙ none_kept test ks both.1

module _ (users : ℕ → NumberRule) (env : ℕ → Outcome) (depends : ℕ → Bool) where
  slots_any : (items : List Term) → list_any (list_any depends) (map (λ (s : Slotted). s.vars) (map slotted items)) ≡ list_any (dep users env depends) items
  slots_any [] = refl
  slots_any (t ∷ items) =
      ap (λ b. b || list_any (list_any depends) (map (λ (s : Slotted). s.vars) (map slotted items))) (slot_depends users env depends t)
      ∙ ap (λ b. dep users env depends t || b) (slots_any items)

  marked_slots : (items : List Term) (j : ℕ) → j < length items → list_any depends (slot_at (map (λ (s : Slotted). s.vars) (map slotted items)) j) ≡ marked (map (dep users env depends) items) j
  marked_slots [] j lt = absurd (omega (arith, lt))
  marked_slots (t ∷ items) zero lt = slot_depends users env depends t
  marked_slots (t ∷ items) (suc j) lt = marked_slots items j (omega (arith, lt))

-- ---- two things told are the same
told_same : (a b : Told) → a.number ≡ b.number → a.violation ≡ b.violation → a ≡ b
told_same a b n v = λ i. record { number = n i; violation = v i }

-- what is told of a term that has a value
number_is : (outcome : Outcome) (x : Input) → outcome ≡ Some x → number_if outcome ≡ number_of x
number_is outcome x e = ap number_if e

module _ (ids : Term → ℕ) (part : Part) (t : Term) (first id : ℕ) (at : id ≡ ids t) where
  module _ (users : ℕ → NumberRule) (env : ℕ → Outcome) (depends : ℕ → Bool) (known : Term → Bool) (reading : Reading) (test : ℕ → Bool) (reads : AreReads users env ids known reading) (is_known : known t ≡ true) where
    -- the number is right
    number_right : reading.number id ≡ (told_of users env depends t).number
    number_right =
        let v = reads.value t is_known in
        ap reading.number at ∙ sym v.2 ∙ sym (number_is (share_of users env depends t).outcome v.0 ((facts users env depends t).value ∙ v.1))

    made : (violation : Result ℤ RunFault) → told reading test part ≡ record { number = reading.number id; violation = violation } → violation ≡ share users env depends t →
        (one_in test first (first + length (slots_of t)) ≡ false → share users env depends t ≡ Ok (pos 0)) → IsTold users env depends reading test part t first
    made violation tells right none = record {
      right = tells ∙ told_same (record { number = reading.number id; violation = violation }) (told_of users env depends t) number_right right;
      none = none;
    }

  -- ---- what tells no violations
  pub leaf_tells : part ≡ LeafPart id → ((users : ℕ → NumberRule) (env : ℕ → Outcome) (depends : ℕ → Bool) → share users env depends t ≡ Ok (pos 0)) → Tells ids part t first
  leaf_tells form nothing users env depends known reading test reads is_known marks =
      made users env depends known reading test reads is_known (Ok (pos 0))
      (ap (told reading test) (form ∙ sym (rolls-Leaf id)) ∙ fold-roll-Part Told (told_step reading test) (Part-F.Leaf id))
      (sym (nothing users env depends)) (λ _. nothing users env depends)

  module _ (op : Op) (args : Vec Term Global) (place : Place) (node : t ≡ Node op args place) where
    -- ---- negations
    pub negation_tells : (end : ℕ) → part ≡ NegationPart id first end → kind_of op ≡ Negation → end ≡ first + length args.items → Tells ids part t first
    negation_tells end form kind width users env depends known reading test reads is_known marks =
        let v = reads.value t is_known in
        let values = node_values users env depends t op args place node v.0 v.1 in
        let slots : slots_of t ≡ map (λ (s : Slotted). s.vars) (map slotted args.items) = slots_node users env depends t op args place node ∙ ap (λ k. slots_by k (map slotted args.items)) kind in
        let long : length (slots_of t) ≡ length args.items = ap length slots ∙ length_mapped (λ (s : Slotted). s.vars) (map slotted args.items) ∙ length_mapped slotted args.items in
        let whole : first + length (slots_of t) ≡ end = ap (λ n. first + n) long ∙ sym width in
        let any : one_in test first end ≡ one_depends (arguments_of (map (share_of users env depends) args.items)).depends =
        ap (one_in test first) (sym whole) ∙ one_in_any test depends first (slots_of t) marks ∙ ap (list_any (list_any depends)) slots ∙ slots_any users env depends args.items ∙ sym (one_of users env depends args.items) in
        let violation : share users env depends t ≡ Ok (if one_depends (arguments_of (map (share_of users env depends) args.items)).depends then number_of v.0 else pos 0) =
        node_violation users env depends t op args place node v.0 values.0 v.1 values.1 ∙ ap (λ k. violation_by_kind users env depends op k (arguments_of (map (share_of users env depends) args.items)) values.0 v.0) kind in
        let right : Ok (if one_in test first end then reading.number id else pos 0) ≡ share users env depends t =
        ap (λ b. Ok (if b then reading.number id else pos 0)) any ∙ ap (λ n. Ok (if one_depends (arguments_of (map (share_of users env depends) args.items)).depends then n else pos 0)) (ap reading.number at ∙ sym v.2) ∙ sym violation in
        made users env depends known reading test reads is_known (Ok (if one_in test first end then reading.number id else pos 0))
        (ap (told reading test) (form ∙ sym (rolls-Negation id first end)) ∙ fold-roll-Part Told (told_step reading test) (Part-F.Negation id first end))
        right
        (λ none. sym right ∙ ap (λ b. Ok (if b then reading.number id else pos 0)) (ap (one_in test first) (sym whole) ∙ none))

    -- ---- plain constraints
    pub plain_tells : (end : ℕ) → part ≡ PlainPart id first end → kind_of op ≡ Plain → end ≡ first + length args.items → Tells ids part t first
    plain_tells end form kind width users env depends known reading test reads is_known marks =
        let v = reads.value t is_known in
        let values = node_values users env depends t op args place node v.0 v.1 in
        let slots : slots_of t ≡ map (λ (s : Slotted). s.vars) (map slotted args.items) = slots_node users env depends t op args place node ∙ ap (λ k. slots_by k (map slotted args.items)) kind in
        let long : length (slots_of t) ≡ length args.items = ap length slots ∙ length_mapped (λ (s : Slotted). s.vars) (map slotted args.items) ∙ length_mapped slotted args.items in
        let whole : first + length (slots_of t) ≡ end = ap (λ n. first + n) long ∙ sym width in
        let gathers = gather_length (map (outcome_of users env) args.items) [] values.0 values.1 in
        let outcomes = length_mapped (outcome_of users env) args.items in
        let count : length values.0 ≡ length args.items = omega (arith, gathers, outcomes) in
        let span : end - first ≡ length values.0 = omega (arith, width, count) in
        let here : first ≡ first + 0 = omega arith in
        let each : (j : ℕ) → 0 ≤ j → j < 0 + length values.0 → (test (first + j) ≡ marked (map (dep users env depends) args.items) j) × ((rule_of users op).violation_at values.0 j ≡ reading.violation id j) =
        λ j le lt. (
          marks j (omega (arith, lt, count, long)) ∙ ap (λ ss. list_any depends (slot_at ss j)) slots ∙ marked_slots users env depends args.items j (omega (arith, lt, count)),
          reads.violation t op args place values.0 j node is_known values.1 (omega (arith, lt)) ∙ ap (λ n. reading.violation n j) (sym at),
        ) in
        let lists : violations_in reading test id first end ≡ violations_where (map (dep users env depends) args.items) ((rule_of users op).violation_at values.0) (length values.0) =
        ap (λ n. map (λ k. reading.violation id (k - first)) (filter test (range_with_len first n))) span
        ∙ ap (λ n. map (λ k. reading.violation id (k - first)) (filter test (range_with_len n (length values.0)))) here
        ∙ same_places test (marked (map (dep users env depends) args.items)) (reading.violation id) ((rule_of users op).violation_at values.0) first 0 (length values.0) each in
        let violation : share users env depends t ≡ Ok (greatest_of (violations_where (arguments_of (map (share_of users env depends) args.items)).depends ((rule_of users op).violation_at values.0) (length values.0))) =
        node_violation users env depends t op args place node v.0 values.0 v.1 values.1 ∙ ap (λ k. violation_by_kind users env depends op k (arguments_of (map (share_of users env depends) args.items)) values.0 v.0) kind in
        let right : Ok (greatest_of (violations_in reading test id first end)) ≡ share users env depends t =
        ap (λ vs. Ok (greatest_of vs)) (lists ∙ ap (λ ds. violations_where ds ((rule_of users op).violation_at values.0) (length values.0)) (sym (depends_of users env depends args.items))) ∙ sym violation in
        made users env depends known reading test reads is_known (Ok (greatest_of (violations_in reading test id first end)))
        (ap (told reading test) (form ∙ sym (rolls-Plain id first end)) ∙ fold-roll-Part Told (told_step reading test) (Part-F.Plain id first end))
        right
        (λ none. sym right ∙ ap (λ ks. Ok (greatest_of (map (λ k. reading.violation id (k - first)) ks))) (none_kept test (range_with_len first (end - first)) (ap (one_in test first) (sym whole) ∙ none)))

-- ---- parts one by one
slots_mapped : (items : List Term) → map (λ (s : Slotted). s.slots) (map slotted items) ≡ map slots_of items
slots_mapped [] = refl
slots_mapped (t ∷ items) = ap (λ l. slots_of t ∷ l) (slots_mapped items)

module _ (ids : Term → ℕ) (users : ℕ → NumberRule) (env : ℕ → Outcome) (depends : ℕ → Bool) (known : Term → Bool) (reading : Reading) (test : ℕ → Bool) (reads : AreReads users env ids known reading) where
  pub all_right : (parts : List Part) (items : List Term) (first : ℕ) → AllTell ids parts items first → All (λ u. known u ≡ true) items → AreMarked test depends first (joined_slots (map slots_of items)) →
      map (told reading test) parts ≡ map (told_of users env depends) items
  all_right [] [] first tell knows marks = refl
  all_right [] (t ∷ items) first tell knows marks = absurd tell
  all_right (part ∷ parts) [] first tell knows marks = absurd tell
  all_right (part ∷ parts) (t ∷ items) first tell knows marks =
      let rest = joined_slots (map slots_of items) in
      let one = tell.0 users env depends known reading test reads (All-head (λ u. known u ≡ true) t items knows) (marks_left test depends first (slots_of t) rest marks) in
      let others = all_right parts items (first + length (slots_of t)) tell.1 (All-tail (λ u. known u ≡ true) t items knows) (marks_right test depends first (slots_of t) rest marks) in
      λ i. one.right i ∷ others i

  -- where no slot depends on the variable, its violations in each are 0
  all_none : (parts : List Part) (items : List Term) (first : ℕ) → AllTell ids parts items first → All (λ u. known u ≡ true) items → AreMarked test depends first (joined_slots (map slots_of items)) →
      list_any (list_any depends) (joined_slots (map slots_of items)) ≡ false → map (share users env depends) items ≡ map (λ _. Ok (pos 0)) items
  all_none [] [] first tell knows marks none = refl
  all_none [] (t ∷ items) first tell knows marks none = absurd tell
  all_none (part ∷ parts) [] first tell knows marks none = absurd tell
  all_none (part ∷ parts) (t ∷ items) first tell knows marks none =
      let rest = joined_slots (map slots_of items) in
      let both = or_parts (list_any (list_any depends) (slots_of t)) (list_any (list_any depends) (joined_slots (map slots_of items))) (sym (any_append depends (slots_of t) rest) ∙ none) in
      let mine = marks_left test depends first (slots_of t) rest marks in
      let one = tell.0 users env depends known reading test reads (All-head (λ u. known u ≡ true) t items knows) mine in
      let zero' : share users env depends t ≡ Ok (pos 0) = one.none (one_in_any test depends first (slots_of t) mine ∙ both.0) in
      let others = all_none parts items (first + length (slots_of t)) tell.1 (All-tail (λ u. known u ≡ true) t items knows) (marks_right test depends first (slots_of t) rest marks) both.1 in
      λ i. zero' i ∷ others i

-- ---- sums and the fewest, where all are 0
zeros : (items : List Term) (sum : ℤ) → fold add_told (Ok sum) (map (λ _. Ok (pos 0)) items) ≡ Ok sum
zeros [] sum = refl
zeros (t ∷ items) sum = let e : (sum +ℤ pos 0) ≡ sum = omega (arith, ints) in ap (λ n. fold add_told (Ok n) (map (λ _. Ok (pos 0)) items)) e ∙ zeros items sum

pub violations_told : (users : ℕ → NumberRule) (env : ℕ → Outcome) (depends : ℕ → Bool) (items : List Term) → map violation_of (map (told_of users env depends) items) ≡ map (share users env depends) items
violations_told users env depends [] = refl
violations_told users env depends (t ∷ items) = ap (λ vs. share users env depends t ∷ vs) (violations_told users env depends items)

if_same : {X : Type 0} (b : Bool) (x y z : X) → (b ≡ true → x ≡ z) → (b ≡ false → y ≡ z) → (if b then x else y) ≡ z
if_same true x y z yes' no' = yes' refl
if_same false x y z yes' no' = no' refl

-- ---- of two with the fewest violations
choice : (c : Bool) (one other : Told) → one.violation ≡ Ok (pos 0) → other.violation ≡ Ok (pos 0) → (if c then one else other).violation ≡ Ok (pos 0)
choice true one other e h = e
choice false one other e h = h

fewest_zero : (users : ℕ → NumberRule) (env : ℕ → Outcome) (depends : ℕ → Bool) (items : List Term) (best : Option Told) → violation_if best ≡ Ok (pos 0) → map (share users env depends) items ≡ map (λ _. Ok (pos 0)) items →
    violation_if (fold fewer_told best (map (told_of users env depends) items)) ≡ Ok (pos 0)
fewest_zero users env depends [] best e all = e
fewest_zero users env depends (t ∷ items) best e all = fewest_zero users env depends items (fewer_told best (told_of users env depends t)) (step best e) rest
  where
    head_or : List (Result ℤ RunFault) → Result ℤ RunFault
    head_or [] = Ok (pos 0)
    head_or (v ∷ vs) = v

    tail_of : List (Result ℤ RunFault) → List (Result ℤ RunFault)
    tail_of [] = []
    tail_of (v ∷ vs) = vs

    here : share users env depends t ≡ Ok (pos 0)
    here = ap head_or all

    rest : map (share users env depends) items ≡ map (λ _. Ok (pos 0)) items
    rest = ap tail_of all

    step : (b : Option Told) → violation_if b ≡ Ok (pos 0) → violation_if (fewer_told b (told_of users env depends t)) ≡ Ok (pos 0)
    step (Some first) h = choice (int_lt (told_of users env depends t).number first.number) (told_of users env depends t) first here h
    step None h = here

module _ (ids : Term → ℕ) (part : Part) (t : Term) (first id : ℕ) (at : id ≡ ids t) (op : Op) (args : Vec Term Global) (place : Place) (node : t ≡ Node op args place) (parts : Vec Part Global) (end : ℕ) (tell : AllTell ids parts.items args.items first) (width : end ≡ first + length (slots_of t)) where
  -- ---- all are to hold
  pub every_tells : part ≡ EveryPart id first end parts → kind_of op ≡ Every → Tells ids part t first
  every_tells form kind users env depends known reading test reads is_known marks =
      let v = reads.value t is_known in
      let values = node_values users env depends t op args place node v.0 v.1 in
      let knows = reads.closed t op args place node is_known in
      let slots : slots_of t ≡ joined_slots (map slots_of args.items) = slots_node users env depends t op args place node ∙ ap (λ k. slots_by k (map slotted args.items)) kind ∙ ap joined_slots (slots_mapped args.items) in
      let marks' : AreMarked test depends first (joined_slots (map slots_of args.items)) = subst (AreMarked test depends first) slots marks in
      let same = all_right ids users env depends known reading test reads parts.items args.items first tell knows marks' in
      let violation : share users env depends t ≡ fitted (sum_told (map (share users env depends) args.items)) =
      node_violation users env depends t op args place node v.0 values.0 v.1 values.1 ∙ ap (λ k. violation_by_kind users env depends op k (arguments_of (map (share_of users env depends) args.items)) values.0 v.0) kind
      ∙ ap total_violation (violations_of users env depends args.items) ∙ sum_is (map (share users env depends) args.items) in
      let none : one_in test first end ≡ false → share users env depends t ≡ Ok (pos 0) = λ h.
      violation ∙ ap (λ vs. fitted (sum_told vs)) (all_none ids users env depends known reading test reads parts.items args.items first tell knows marks'
      (sym (ap (list_any (list_any depends)) slots) ∙ sym (one_in_any test depends first (slots_of t) marks) ∙ ap (one_in test first) (sym width) ∙ h)) ∙ ap fitted (zeros args.items (pos 0)) in
      let sums : fitted (sum_told (map violation_of (map (told reading test) parts.items))) ≡ share users env depends t =
      ap (λ ts. fitted (sum_told (map violation_of ts))) same ∙ ap (λ vs. fitted (sum_told vs)) (violations_told users env depends args.items) ∙ sym violation in
      made ids part t first id at users env depends known reading test reads is_known
      (if one_in test first end then fitted (sum_told (map violation_of (map (told reading test) parts.items))) else Ok (pos 0))
      (ap (told reading test) (form ∙ sym (rolls-Every id first end parts)) ∙ fold-roll-Part Told (told_step reading test) (Part-F.Every id first end parts))
      (if_same (one_in test first end) (fitted (sum_told (map violation_of (map (told reading test) parts.items)))) (Ok (pos 0)) (share users env depends t) (λ _. sums) (λ h. sym (none h)))
      (λ h. none (ap (one_in test first) width ∙ h))

  -- ---- one is to hold
  pub one_tells : part ≡ OnePart id first end parts → kind_of op ≡ One → Tells ids part t first
  one_tells form kind users env depends known reading test reads is_known marks =
      let v = reads.value t is_known in
      let values = node_values users env depends t op args place node v.0 v.1 in
      let knows = reads.closed t op args place node is_known in
      let slots : slots_of t ≡ joined_slots (map slots_of args.items) = slots_node users env depends t op args place node ∙ ap (λ k. slots_by k (map slotted args.items)) kind ∙ ap joined_slots (slots_mapped args.items) in
      let marks' : AreMarked test depends first (joined_slots (map slots_of args.items)) = subst (AreMarked test depends first) slots marks in
      let same = all_right ids users env depends known reading test reads parts.items args.items first tell knows marks' in
      let violation : share users env depends t ≡ violation_if (fewest_told (map (told_of users env depends) args.items)) =
      node_violation users env depends t op args place node v.0 values.0 v.1 values.1 ∙ ap (λ k. violation_by_kind users env depends op k (arguments_of (map (share_of users env depends) args.items)) values.0 v.0) kind
      ∙ fewest_is users env depends args.items in
      let none : one_in test first end ≡ false → share users env depends t ≡ Ok (pos 0) = λ h.
      violation ∙ fewest_zero users env depends args.items None refl (all_none ids users env depends known reading test reads parts.items args.items first tell knows marks'
      (sym (ap (list_any (list_any depends)) slots) ∙ sym (one_in_any test depends first (slots_of t) marks) ∙ ap (one_in test first) (sym width) ∙ h)) in
      let least : violation_if (fewest_told (map (told reading test) parts.items)) ≡ share users env depends t = ap (λ ts. violation_if (fewest_told ts)) same ∙ sym violation in
      made ids part t first id at users env depends known reading test reads is_known
      (if one_in test first end then violation_if (fewest_told (map (told reading test) parts.items)) else Ok (pos 0))
      (ap (told reading test) (form ∙ sym (rolls-One id first end parts)) ∙ fold-roll-Part Told (told_step reading test) (Part-F.One id first end parts))
      (if_same (one_in test first end) (violation_if (fewest_told (map (told reading test) parts.items))) (Ok (pos 0)) (share users env depends t) (λ _. least) (λ h. sym (none h)))
      (λ h. none (ap (one_in test first) width ∙ h))
