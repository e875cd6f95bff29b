-- The search back from a root, through each of its steps.
use Rattle.std.proofs.Common.{Vec, zero, suc, ℕ, ◌+◌, ◌<◌, ◌≤◌, ◌≡◌, ◌⊎◌, ◌∙◌, List, [], ◌∷◌, ◌++◌, length, get_or, set, sum_by, subst, sym, ap, inl, inr, refl, arith}
use Rattle.std.specs.declared.alloc.Global.{Global}
use Rattle.std.proofs.lemmas.Bool.{cases_eq, cases_lt}
use Rattle.std.proofs.lemmas.Bool.Decides.{nat_tests}
use Rattle.std.proofs.lemmas.List.Sums.{sum_by-set, sum_by-le}
use Rattle.std.proofs.lemmas.List.{length_push, get_or_push, get_or_append_left}
use Rattle.layer_plan.specs.Dependencies.{DependsOn}
use Rattle.layer_plan.specs.Nearness.{IsNear}
use Rattle.layer_plan.specs.Uses.{AreUses}
use Rattle.layer_plan.proofs.Lists.{depends_in}
use Rattle.layer_plan.specs.Rounds.{IsSpread, IsReachedFrom, KeepsReached, is_far, near_of}
use Rattle.layer_plan.specs.declared.rounds.Rounds.{Rounds}

abbrev IsOld : List ℕ → List ℕ → ℕ → Type 0
IsOld q q' i = (i < length q) × (get_or q' i 0 ≡ get_or q i 0)

at_push : (q : List ℕ) (x i : ℕ) → i < length (q ++ x ∷ []) → IsOld q (q ++ x ∷ []) i ⊎ ((i ≡ length q) × (get_or (q ++ x ∷ []) i 0 ≡ x))
at_push q x i lt = elim (cases_lt i (length q)) [ inl h ↦ inl (h, get_or_append_left q (x ∷ []) 0 i h) | inr h ↦ (let e : i ≡ length q = omega (arith, length_push q x) in inr (e, get_or_push q x 0 i (sym e))) ]

-- an item of the queue isn't one that is far
pub in_queue : (uses : List (Vec ℕ Global)) (near : ℕ → ℕ) (q : List ℕ) (head x i : ℕ) → IsSpread uses near q head → length uses ≤ near x → i < length q → get_or q i 0 ≡ x → ⊥
in_queue uses near q head x i s far lt e = let b = s.bound i lt in let c = s.size in let f = ap near e in omega arith

known_other : (near : ℕ → ℕ) (count x v : ℕ) → count ≤ near x → near v < count → v ≡ x → ⊥
known_other near count x v far known e = let f = ap near e in omega arith

-- an item that was far is reached
pub Spread-reach : (uses : List (Vec ℕ Global)) (near near' : ℕ → ℕ) (q : List ℕ) (head x : ℕ) → IsSpread uses near q head → head < length q → length q < length uses → x < length uses → length uses ≤ near x → DependsOn uses (get_or q head 0) x → near' x ≡ near (get_or q head 0) + 1 → ((v : ℕ) → (v ≡ x → ⊥) → near' v ≡ near v) → IsSpread uses near' (q ++ x ∷ []) head
Spread-reach uses near near' q head x s head_in room x_in far dep here same =
    let begun = s.begun in
    let old : (i : ℕ) → i < length q → near' (get_or q i 0) ≡ near (get_or q i 0) = λ i lt. same _ (in_queue uses near q head x i s far lt) in
    let keep : (v : ℕ) → near v < length uses → near' v ≡ near v = λ v known. same v (known_other near (length uses) x v far known) in
    let first : get_or (q ++ x ∷ []) 0 0 ≡ get_or q 0 0 = get_or_append_left q (x ∷ []) 0 0 begun in
    let size : length (q ++ x ∷ []) ≡ length q + 1 = length_push q x in
    let front : (i : ℕ) → i < length q → get_or (q ++ x ∷ []) i 0 ≡ get_or q i 0 = λ i lt. get_or_append_left q (x ∷ []) 0 i lt in
    let near_old : (i : ℕ) → i < length q → near' (get_or (q ++ x ∷ []) i 0) ≡ near (get_or q i 0) = λ i lt. ap near' (front i lt) ∙ old i lt in
    let near_new : (i : ℕ) → get_or (q ++ x ∷ []) i 0 ≡ x → near' (get_or (q ++ x ∷ []) i 0) ≡ near (get_or q head 0) + 1 = λ i e. ap near' e ∙ here in
    let head_bound = s.bound head head_in in
    let head_near = near_old head head_in in
    record {
      begun = omega arith;
      size = omega arith;
      items = λ i lt. elim (at_push q x i lt) [ inl o ↦ subst (λ y. y < length uses) (sym o.1) (s.items i o.0) | inr o ↦ subst (λ y. y < length uses) (sym o.1) x_in ];
      at_root = near_old 0 begun ∙ s.at_root;
      only_root = λ v lt e. elim (cases_eq v x) [ inl h ↦ (let f = ap near' h in absurd (omega arith)) | inr n ↦ s.only_root v lt (sym (same v n) ∙ e) ∙ sym first ];
      bound = λ i lt. elim (at_push q x i lt) [ inl o ↦ (let a = near_old i o.0 in let b = s.bound i o.0 in omega arith) | inr o ↦ (let a = near_new i o.1 in let e = o.0 in omega arith) ];
      all = λ v lt known. elim (cases_eq v x) [ inl h ↦ (length q, omega arith, get_or_push q x 0 (length q) refl ∙ sym h) | inr n ↦ (let w = s.all v lt (let e = same v n in omega arith) in let w_in = w.1 in (w.0, omega arith, front w.0 w.1 ∙ w.2)) ];
      scanned = λ i v lt in_new d. (let i_in : i < length q = omega arith in
          let r = s.scanned i v lt i_in (subst (λ y. DependsOn uses y v) (front i i_in) d) in
          let known = r.0 in let step = r.1 in let e = keep v r.0 in let f = near_old i i_in in (omega arith, omega arith));
      rising = λ i j le lt. elim (at_push q x j lt) [
        | inl o ↦ (let j_in = o.0 in let i_in : i < length q = omega arith in let a = near_old i i_in in let b = near_old j o.0 in let r = s.rising i j le o.0 in omega arith)
        | inr o ↦ (let e = o.0 in let b = near_new j o.1 in elim (cases_lt i (length q)) [ inl i_in ↦ (let a = near_old i i_in in let f = s.flat i i_in head_in in omega arith) | inr h ↦ (let q' : i ≡ j = omega arith in let g = ap (λ k. near' (get_or (q ++ x ∷ []) k 0)) q' in omega arith) ])
      ];
      flat = λ j lt h. elim (at_push q x j lt) [ inl o ↦ (let a = near_old j o.0 in let f = s.flat j o.0 head_in in omega arith) | inr o ↦ (let b = near_new j o.1 in omega arith) ];
      reached = λ v lt some known. elim (cases_eq v x) [
        | inl h ↦ (let f = ap near' h in let g = old head head_in in (get_or q head 0, subst (λ y. DependsOn uses (get_or q head 0) y) (sym h) dep, omega arith))
        | inr n ↦ (let e = same v n in let w = s.reached v lt (omega arith) (omega arith) in let step = w.2 in let g = keep w.0 (omega arith) in (w.0, w.1, omega arith))
      ];
    }

-- the item at the head is left behind
pub Spread-next : (uses : List (Vec ℕ Global)) (near : ℕ → ℕ) (q : List ℕ) (head : ℕ) → IsSpread uses near q head → head < length q → ((v : ℕ) → DependsOn uses (get_or q head 0) v → IsReachedFrom near (length uses) (get_or q head 0) v) → IsSpread uses near q (head + 1)
Spread-next uses near q head s head_in here = record {
  begun = s.begun;
  size = s.size;
  items = s.items;
  at_root = s.at_root;
  only_root = s.only_root;
  bound = s.bound;
  all = s.all;
  scanned = λ i v lt in_q. elim (cases_eq i head) [ inl e ↦ subst (λ k. DependsOn uses (get_or q k 0) v → IsReachedFrom near (length uses) (get_or q k 0) v) (sym e) (here v) | inr n ↦ s.scanned i v (omega arith) in_q ];
  rising = s.rising;
  flat = λ j lt h. (let a = s.flat j lt head_in in let b = s.rising head (head + 1) (omega arith) h in omega arith);
  reached = s.reached;
}

-- where all are left behind, the numbers of steps are exact
pub Spread-end : (deps uses : List (Vec ℕ Global)) (near : ℕ → ℕ) (q : List ℕ) (head root : ℕ) → IsSpread uses near q head → length q ≤ head → get_or q 0 0 ≡ root → AreUses deps uses → IsNear deps near root
Spread-end deps uses near q head root s end first u =
    let count = u.count in
    let w_lt : (v w : ℕ) → DependsOn deps v w → w < length uses = λ v w d. depends_in uses w v (u.each v w d) in
    let w_in : (w : ℕ) → near w < length deps → near w < length uses = λ w h. omega arith in
    let scan : (v w : ℕ) → DependsOn deps v w → w < length uses → near w < length uses → IsReachedFrom near (length uses) w v =
    λ v w d lt h. (let at = s.all w lt h in let at_in = at.1 in subst (λ y. IsReachedFrom near (length uses) y v) at.2 (s.scanned at.0 v (omega arith) at.1 (subst (λ y. DependsOn uses y v) (sym at.2) (u.each v w d)))) in
    record {
      root_in = (let a = s.items 0 s.begun in omega arith);
      at_root = subst (λ y. near y ≡ 0) first s.at_root;
      only_root = λ v lt e. s.only_root v (omega arith) e ∙ first;
      known = λ v w d h. (let lt = w_lt v w d in let r = scan v w d lt (w_in w h) in let k = r.0 in omega arith);
      step = λ v w d h. (scan v w d (w_lt v w d) (w_in w h)).1;
      reached = λ v lt some known. (let w = s.reached v (omega arith) some (omega arith) in (w.0, u.only v w.0 w.1, w.2));
    }

far_yes : (count near : ℕ) → count ≤ near → is_far count near ≡ 1
far_yes count near h = grind (arith, nat_tests)

far_no : (count near : ℕ) → near < count → is_far count near ≡ 0
far_no count near h = grind (arith, nat_tests)

-- where an item is far, the queue isn't full
pub has_room : (count : ℕ) (ns : List ℕ) (x q : ℕ) → x < length ns → 0 < count → count ≤ get_or ns x 0 → q + sum_by (is_far count) ns ≤ count → q < count
has_room count ns x q x_in some far room =
    let e = sum_by-set (is_far count) ns x 0 0 x_in in
    let a = far_yes count (get_or ns x 0) far in
    let b = far_no count 0 some in
    omega arith

-- and the room that is left is enough for the others
pub room_after : (count : ℕ) (ns : List ℕ) (x q steps : ℕ) → x < length ns → count ≤ get_or ns x 0 → steps < count → q + sum_by (is_far count) ns ≤ count → q + 1 + sum_by (is_far count) (set ns x steps) ≤ count
room_after count ns x q steps x_in far near room =
    let e = sum_by-set (is_far count) ns x steps 0 x_in in
    let a = far_yes count (get_or ns x 0) far in
    let b = far_no count steps near in
    omega arith

pub keeps_then : (uses : List (Vec ℕ Global)) (a b c : Rounds) → KeepsReached uses a b → KeepsReached uses b c → KeepsReached uses a c
keeps_then uses a b c k l = record {
  longer = (let x = k.longer in let y = l.longer in omega arith);
  places = λ i lt. (let x = k.longer in l.places i (omega arith) ∙ k.places i lt);
  near = λ v lt. (let e = k.near v lt in l.near v (omega arith) ∙ e);
}

-- what was reached from an item still is
pub reached_still : (uses : List (Vec ℕ Global)) (a b : Rounds) (item user : ℕ) → KeepsReached uses a b → near_of a item < length uses → IsReachedFrom (near_of a) (length uses) item user → IsReachedFrom (near_of b) (length uses) item user
reached_still uses a b item user k known r =
    let lt = r.0 in
    let le = r.1 in
    let e = k.near item known in
    let f = k.near user lt in
    (omega arith, omega arith)

-- the item at the head is near
pub head_known : (uses : List (Vec ℕ Global)) (near : ℕ → ℕ) (q : List ℕ) (head item : ℕ) → IsSpread uses near q head → head < length q → get_or q head 0 ≡ item → near item < length uses
head_known uses near q head item s lt e =
    let b = s.bound head lt in
    let size = s.size in
    let f = ap near e in
    omega arith

-- the search begins: only the root is reached
only_one : (root i : ℕ) → i < 1 → get_or (root ∷ []) i 0 ≡ root
only_one root zero lt = refl
only_one root (suc i) lt = absurd (omega arith)

pub Spread-start : (uses : List (Vec ℕ Global)) (near : ℕ → ℕ) (root : ℕ) → root < length uses → near root ≡ 0 → ((v : ℕ) → v < length uses → (v ≡ root → ⊥) → near v ≡ length uses) → IsSpread uses near (root ∷ []) 0
Spread-start uses near root root_in at far =
    let is_root : (v : ℕ) → v < length uses → near v < length uses → v ≡ root = λ v v_in lt. elim (cases_eq v root) [ inl e ↦ e | inr n ↦ (let f = far v v_in n in absurd (omega arith)) ] in
    let first : (i : ℕ) → i < 1 → near (get_or (root ∷ []) i 0) ≡ 0 = λ i lt. ap near (only_one root i lt) ∙ at in
    record {
      begun = omega arith;
      size = omega arith;
      items = λ i lt. subst (λ y. y < length uses) (sym (only_one root i lt)) root_in;
      at_root = at;
      only_root = λ v v_in z. is_root v v_in (omega arith);
      bound = λ i lt. (let e = first i lt in omega arith);
      all = λ v v_in lt. (0, omega arith, sym (is_root v v_in lt));
      scanned = λ i v lt. absurd (omega arith);
      rising = λ i j le lt. (let e = first i (omega arith) in omega arith);
      flat = λ j lt some. (let e = first j lt in omega arith);
      reached = λ v v_in some lt. (let e = ap near (is_root v v_in lt) in absurd (omega arith));
    }

-- at the begin all are far at most
far_low : (count near : ℕ) → is_far count near ≤ 1
far_low count near = elim (cases_lt near count) [ inl h ↦ (let e = far_no count near h in omega arith) | inr h ↦ (let e = far_yes count near h in omega arith) ]

pub room_begun : (count : ℕ) (ns : List ℕ) (x : ℕ) → x < length ns → length ns ≡ count → count ≤ get_or ns x 0 → 1 + sum_by (is_far count) (set ns x 0) ≤ count
room_begun count ns x x_in size far = let a = sum_by-le (is_far count) 1 ns (λ k d lt. far_low count (get_or ns k d)) in room_after count ns x 0 0 x_in far (omega arith) (omega arith)
