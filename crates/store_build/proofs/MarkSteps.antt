-- The marking of the ids on which a target stands, through each of its steps.
use Rattle.std.proofs.Common.{◌≡◌, ◌≢◌, ◌⊎◌, ℕ, zero, suc, ◌+◌, ◌<◌, ◌≤◌, Bool, true, false, List, [], ◌∷◌, ◌++◌, length, take, get_or, set, replicate, refl, sym, ap, ◌∙◌, subst, inl, inr, arith, Vec}
use Rattle.std.specs.declared.alloc.Global.{Global}
use Rattle.std.proofs.lemmas.Bool.{cases_eq, cases_lt}
use Rattle.std.proofs.lemmas.List.{length-set, length-replicate, length_push, get_or-set_same, get_or-set_other, get_or-replicate, take_more, map-append}
use Rattle.std.proofs.lemmas.List.Sums.{sum_by-set}
use Rattle.cbl_base.specs.declared.ids.NodeId.{NodeId}
use Rattle.store_turns.specs.declared.frame.Cone.{Cone}
use Rattle.store_turns.specs.Cones.{Among, StandsOn, itself, below, IsCone, has}
use Rattle.store_turns.specs.Meaning.{ids_of}
use Rattle.store_build.specs.Lists.{list_in}
use Rattle.store_build.specs.Marking.{Marks, IsMarking, unmarked, without_mark}
use Rattle.store_build.proofs.GroupLemmas.{in_past}

-- ---- lists of ids
among_left : (k : ℕ) (xs ys : List ℕ) → Among k xs → Among k (xs ++ ys)
among_left k [] ys h = absurd h
among_left k (x ∷ xs) ys (inl e) = inl e
among_left k (x ∷ xs) ys (inr h) = inr (among_left k xs ys h)

among_right : (k : ℕ) (xs ys : List ℕ) → Among k ys → Among k (xs ++ ys)
among_right k [] ys h = h
among_right k (x ∷ xs) ys h = inr (among_right k xs ys h)

among_cases : (k : ℕ) (xs ys : List ℕ) → Among k (xs ++ ys) → Among k xs ⊎ Among k ys
among_cases k [] ys h = inr h
among_cases k (x ∷ xs) ys (inl e) = inl (inl e)
among_cases k (x ∷ xs) ys (inr h) = elim (among_cases k xs ys h) [ inl a ↦ inl (inr a) | inr b ↦ inr b ]

among_one : (k x : ℕ) → Among k (x ∷ []) → x ≡ k
among_one k x (inl e) = e
among_one k x (inr h) = absurd h

among_last : (k : ℕ) (xs : List ℕ) → Among k (xs ++ k ∷ [])
among_last k xs = among_right k xs (k ∷ []) (inl refl)

-- ---- marks
pub unmarked_within : (marks : List Bool) (i : ℕ) → has marks i ≡ false → i < length marks
unmarked_within [] i e = absurd (cc)
unmarked_within (m ∷ ms) zero e = omega arith
unmarked_within (m ∷ ms) (suc i) e = let h = unmarked_within ms i e in omega (arith, h)

unmarked_at_first : (count i : ℕ) → i < count → has (replicate count false) i ≡ true → ⊥
unmarked_at_first count i lt h = let e : false ≡ true = sym (get_or-replicate count i false true lt) ∙ h in cc

-- one id that is marked already
pub left_alone : (id : ℕ) (marks : List Bool) (stack : List ℕ) → has marks id ≡ true → Marks (id ∷ []) marks stack marks stack
left_alone id marks stack there = record {
  count = refl;
  grows = λ i h. h;
  here = λ i a. subst (λ (j : ℕ). has marks j ≡ true) (among_one i id a) there;
  only = λ i h. inl h;
  kept = λ i h. h;
  stacked = λ i h. inl h;
  left = refl;
}

-- and one that isn't yet
module _ (id : ℕ) (marks : List Bool) (stack : List ℕ) (new : has marks id ≡ false) where
  marked_now : has (set marks id true) id ≡ true
  marked_now = get_or-set_same marks id true true (unmarked_within marks id new)

  grown : (i : ℕ) → (i ≡ id) ⊎ (i ≢ id) → has marks i ≡ true → has (set marks id true) i ≡ true
  grown i (inl e) h = subst (λ (j : ℕ). has (set marks id true) j ≡ true) (sym e) marked_now
  grown i (inr ne) h = get_or-set_other marks id i true true ne ∙ h

  one : (i : ℕ) → (i ≡ id) ⊎ (i ≢ id) → has (set marks id true) i ≡ true → (has marks i ≡ true) ⊎ (Among i (id ∷ []) × Among i (stack ++ id ∷ []))
  one i (inl e) h = inr (inl (sym e), among_right i stack (id ∷ []) (inl (sym e)))
  one i (inr ne) h = inl (sym (get_or-set_other marks id i true true ne) ∙ h)

  from : (i : ℕ) → Among i stack ⊎ Among i (id ∷ []) → Among i stack ⊎ (Among i (id ∷ []) × (i < length marks))
  from i (inl h) = inl h
  from i (inr h) = inr (h, subst (λ (j : ℕ). j < length marks) (among_one i id h) (unmarked_within marks id new))

  counted : unmarked (set marks id true) + length (stack ++ id ∷ []) ≡ unmarked marks + length stack
  counted =
      let sums = sum_by-set without_mark marks id true true (unmarked_within marks id new) in
      let was : without_mark (get_or marks id true) ≡ 1 = ap without_mark new in
      omega (arith, sums, was, length_push stack id)

  pub entered : Marks (id ∷ []) marks stack (set marks id true) (stack ++ id ∷ [])
  entered = record {
    count = length-set marks id true;
    grows = λ i h. grown i (cases_eq i id) h;
    here = λ i a. subst (λ (j : ℕ). has (set marks id true) j ≡ true) (among_one i id a) marked_now;
    only = λ i h. one i (cases_eq i id) h;
    kept = λ i h. among_left i stack (id ∷ []) h;
    stacked = λ i h. from i (among_cases i stack (id ∷ []) h);
    left = counted;
  }

-- ---- several ids
pub marks_none : (marks : List Bool) (stack : List ℕ) → Marks [] marks stack marks stack
marks_none marks stack = record {
  count = refl;
  grows = λ i h. h;
  here = λ i a. absurd a;
  only = λ i h. inl h;
  kept = λ i h. h;
  stacked = λ i h. inl h;
  left = refl;
}

module _ (ids others : List ℕ) (marks marks1 marks2 : List Bool) (stack stack1 stack2 : List ℕ) (first : Marks ids marks stack marks1 stack1) (second : Marks others marks1 stack1 marks2 stack2) where
  here_at : (i : ℕ) → Among i ids ⊎ Among i others → has marks2 i ≡ true
  here_at i (inl h) = second.grows i (first.here i h)
  here_at i (inr h) = second.here i h

  before : (i : ℕ) → (has marks i ≡ true) ⊎ (Among i ids × Among i stack1) → (has marks i ≡ true) ⊎ (Among i (ids ++ others) × Among i stack2)
  before i (inl h) = inl h
  before i (inr h) = inr (among_left i ids others h.0, second.kept i h.1)

  only_at : (i : ℕ) → (has marks1 i ≡ true) ⊎ (Among i others × Among i stack2) → (has marks i ≡ true) ⊎ (Among i (ids ++ others) × Among i stack2)
  only_at i (inl h) = before i (first.only i h)
  only_at i (inr h) = inr (among_right i ids others h.0, h.1)

  earlier : (i : ℕ) → Among i stack ⊎ (Among i ids × (i < length marks)) → Among i stack ⊎ (Among i (ids ++ others) × (i < length marks))
  earlier i (inl h) = inl h
  earlier i (inr h) = inr (among_left i ids others h.0, h.1)

  stacked_at : (i : ℕ) → Among i stack1 ⊎ (Among i others × (i < length marks1)) → Among i stack ⊎ (Among i (ids ++ others) × (i < length marks))
  stacked_at i (inl h) = earlier i (first.stacked i h)
  stacked_at i (inr h) = inr (among_right i ids others h.0, subst (λ (n : ℕ). i < n) first.count h.1)

  marks_more : Marks (ids ++ others) marks stack marks2 stack2
  marks_more = record {
    count = second.count ∙ first.count;
    grows = λ i h. second.grows i (first.grows i h);
    here = λ i a. here_at i (among_cases i ids others a);
    only = λ i h. only_at i (second.only i h);
    kept = λ i h. second.kept i (first.kept i h);
    stacked = λ i h. stacked_at i (second.stacked i h);
    left = second.left ∙ first.left;
  }

pub marks_one : (ids : List NodeId) (n : ℕ) (d : NodeId) (marks marks1 marks2 : List Bool) (stack stack1 stack2 : List ℕ) → n < length ids
    → Marks (ids_of (take n ids)) marks stack marks1 stack1 → Marks ((get_or ids n d).0 ∷ []) marks1 stack1 marks2 stack2 → Marks (ids_of (take (n + 1) ids)) marks stack marks2 stack2
marks_one ids n d marks marks1 marks2 stack stack1 stack2 lt first second =
    let more : ids_of (take (n + 1) ids) ≡ ids_of (take n ids) ++ (get_or ids n d).0 ∷ [] = ap ids_of (take_more ids n d lt) ∙ map-append (λ (y : NodeId). y.0) (take n ids) (get_or ids n d ∷ []) in
    subst (λ (is : List ℕ). Marks is marks stack marks2 stack2) (sym more) (marks_more (ids_of (take n ids)) ((get_or ids n d).0 ∷ []) marks marks1 marks2 stack stack1 stack2 first second)

-- ---- a cone
stands_more : (inputs : ℕ → List ℕ) (j k i : ℕ) → StandsOn inputs j k → Among i (inputs k) → StandsOn inputs j i
stands_more inputs j k i itself a = below a itself
stands_more inputs j k i (below b s) a = below b (stands_more inputs _ k i s a)

module _ (inputs : ℕ → List ℕ) (count target : ℕ) where
  -- only the target is marked
  module _ (within : target < count) (marks marks' : List Bool) (stack stack' : List ℕ) (none : marks ≡ replicate count false) (empty : stack ≡ []) (step : Marks (target ∷ []) marks stack marks' stack') where
    no_mark : (i : ℕ) → i < count → has marks i ≡ true → ⊥
    no_mark i lt h = unmarked_at_first count i lt (sym (ap (λ (ms : List Bool). has ms i) none) ∙ h)

    start_stands : (i : ℕ) → i < count → (has marks i ≡ true) ⊎ (Among i (target ∷ []) × Among i stack') → StandsOn inputs target i
    start_stands i lt (inl h) = absurd (no_mark i lt h)
    start_stands i lt (inr h) = subst (λ (j : ℕ). StandsOn inputs target j) (among_one i target h.0) itself

    start_open : (i : ℕ) → i < count → (has marks i ≡ true) ⊎ (Among i (target ∷ []) × Among i stack') → Among i stack'
    start_open i lt (inl h) = absurd (no_mark i lt h)
    start_open i lt (inr h) = h.1

    is_target : (i : ℕ) → Among i stack ⊎ (Among i (target ∷ []) × (i < length marks)) → target ≡ i
    is_target i (inl h) = absurd (subst (λ (s : List ℕ). Among i s) empty h)
    is_target i (inr h) = among_one i target h.0

    pub marking_start : IsMarking inputs count target marks' stack'
    marking_start = record {
      many = step.count ∙ ap length none ∙ length-replicate count false;
      rooted = step.here target (inl refl);
      stands = λ i lt h. start_stands i lt (step.only i h);
      closed = λ i lt h. inl (start_open i lt (step.only i h));
      within = λ i h. subst (λ (j : ℕ). j < count) (is_target i (step.stacked i h)) within;
      marked = λ i h. subst (λ (j : ℕ). has marks' j ≡ true) (is_target i (step.stacked i h)) (step.here target (inl refl));
    }

  -- the inputs of the last of the stack are marked
  module _ (id : ℕ) (marks marks' : List Bool) (old stack stack' : List ℕ) (popped : old ≡ stack ++ id ∷ []) (so_far : IsMarking inputs count target marks old) where
    pub on_old : Among id old
    on_old = subst (λ (s : List ℕ). Among id s) (sym popped) (among_last id stack)

    module _ (step : Marks (inputs id) marks stack marks' stack') where
      in_old : (i : ℕ) → Among i stack → Among i old
      in_old i h = subst (λ (s : List ℕ). Among i s) (sym popped) (among_left i stack (id ∷ []) h)

      id_stands : StandsOn inputs target id
      id_stands = so_far.stands id (so_far.within id on_old) (so_far.marked id on_old)

      more_stands : (i : ℕ) → i < count → (has marks i ≡ true) ⊎ (Among i (inputs id) × Among i stack') → StandsOn inputs target i
      more_stands i lt (inl h) = so_far.stands i lt h
      more_stands i lt (inr h) = stands_more inputs target id i id_stands h.0

      last_or_not : (i : ℕ) → Among i stack ⊎ Among i (id ∷ []) → Among i stack' ⊎ ((d : ℕ) → Among d (inputs i) → has marks' d ≡ true)
      last_or_not i (inl h) = inl (step.kept i h)
      last_or_not i (inr h) = inr (subst (λ (j : ℕ). (d : ℕ) → Among d (inputs j) → has marks' d ≡ true) (among_one i id h) step.here)

      was_closed : (i : ℕ) → Among i old ⊎ ((d : ℕ) → Among d (inputs i) → has marks d ≡ true) → Among i stack' ⊎ ((d : ℕ) → Among d (inputs i) → has marks' d ≡ true)
      was_closed i (inl h) = last_or_not i (among_cases i stack (id ∷ []) (subst (λ (s : List ℕ). Among i s) popped h))
      was_closed i (inr h) = inr (λ d a. step.grows d (h d a))

      more_closed : (i : ℕ) → i < count → (has marks i ≡ true) ⊎ (Among i (inputs id) × Among i stack') → Among i stack' ⊎ ((d : ℕ) → Among d (inputs i) → has marks' d ≡ true)
      more_closed i lt (inl h) = was_closed i (so_far.closed i lt h)
      more_closed i lt (inr h) = inl h.1

      more_within : (i : ℕ) → Among i stack ⊎ (Among i (inputs id) × (i < length marks)) → i < count
      more_within i (inl h) = so_far.within i (in_old i h)
      more_within i (inr h) = subst (λ (n : ℕ). i < n) so_far.many h.1

      more_marked : (i : ℕ) → Among i stack ⊎ (Among i (inputs id) × (i < length marks)) → has marks' i ≡ true
      more_marked i (inl h) = step.grows i (so_far.marked i (in_old i h))
      more_marked i (inr h) = step.here i h.0

      pub marking_more : IsMarking inputs count target marks' stack'
      marking_more = record {
        many = step.count ∙ so_far.many;
        rooted = step.grows target so_far.rooted;
        stands = λ i lt h. more_stands i lt (step.only i h);
        closed = λ i lt h. more_closed i lt (step.only i h);
        within = λ i h. more_within i (step.stacked i h);
        marked = λ i h. more_marked i (step.stacked i h);
      }

      -- and there is less left to do
      pub less_left : unmarked marks' + length stack' < unmarked marks + length old
      less_left = omega (arith, step.left, ap length popped, length_push stack id)

  -- nothing is left to do
  module _ (past : (i : ℕ) (d : ℕ) → Among d (inputs i) → i < count) (cone : Cone) (is : cone.target ≡ target) (done : IsMarking inputs count target cone.members.items []) where
    all_closed : (i : ℕ) → Among i [] ⊎ ((d : ℕ) → Among d (inputs i) → has cone.members.items d ≡ true) → (d : ℕ) → Among d (inputs i) → has cone.members.items d ≡ true
    all_closed i (inl h) d a = absurd h
    all_closed i (inr h) d a = h d a

    all_marked : (j k : ℕ) → StandsOn inputs j k → has cone.members.items j ≡ true → has cone.members.items k ≡ true
    all_marked j k itself h = h
    all_marked j k (below {i = i} a s) h = all_marked i k s (all_closed j (done.closed j (past j i a) h) i a)

    pub marking_end : IsCone inputs count cone
    marking_end = record {
      stands = λ i lt h. subst (λ (t : ℕ). StandsOn inputs t i) (sym is) (done.stands i lt h);
      all = λ i s. all_marked target i (subst (λ (t : ℕ). StandsOn inputs t i) is s) done.rooted;
    }

-- an id has inputs only where it is there
pub has_inputs : (inputs : List (Vec NodeId Global)) (i d : ℕ) → Among d (ids_of (list_in inputs i)) → i < length inputs
has_inputs inputs i d a = elim (cases_lt i (length inputs)) [ inl lt ↦ lt | inr ge ↦ absurd (subst (λ (is : List NodeId). Among d (ids_of is)) (in_past inputs i (omega (arith, ge))) a) ]

-- ---- what says yes at the end may go
pub has_take : (xs : List Bool) (n j : ℕ) → ((k : ℕ) → n ≤ k → has xs k ≡ true) → has (take n xs) j ≡ has xs j
has_take xs zero j h = sym (h j (omega arith))
has_take [] (suc n) j h = refl
has_take (x ∷ xs) (suc n) zero h = refl
has_take (x ∷ xs) (suc n) (suc j) h = has_take xs n j (λ k le. h (suc k) (omega (arith, le)))

pub one_less : (xs : List Bool) (n : ℕ) → n < length xs → get_or xs n true ≡ true → ((k : ℕ) → suc n ≤ k → has xs k ≡ true) → (k : ℕ) → n ≤ k → has xs k ≡ true
one_less xs n lt here h k le = elim (cases_lt n k) [
  | inl later ↦ h k (omega (arith, later))
  | inr same ↦ let e : n ≡ k = omega (arith, same, le) in subst (λ i. has xs i ≡ true) e here
]

pub all_past : (xs : List Bool) (k : ℕ) → length xs ≤ k → has xs k ≡ true
all_past [] k le = refl
all_past (x ∷ xs) zero le = absurd (omega (arith, le))
all_past (x ∷ xs) (suc k) le = all_past xs k (omega (arith, le))

pub same_cone : (inputs : ℕ → List ℕ) (count : ℕ) (c d : Cone) → d.target ≡ c.target → ((j : ℕ) → has d.members.items j ≡ has c.members.items j) → IsCone inputs count c → IsCone inputs count d
same_cone inputs count c d te same is = record {
  stands = λ j lt h. subst (λ t. StandsOn inputs t j) (sym te) (is.stands j lt (sym (same j) ∙ h));
  all = λ j st. same j ∙ is.all j (subst (λ t. StandsOn inputs t j) te st);
}
