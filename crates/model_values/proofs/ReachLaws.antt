-- The search for the variables on which others depend: what it marks, and that it ends with all of them.
use Rattle.std.proofs.Common.{◌≡◌, ◌⊎◌, inl, inr, ℕ, zero, suc, ◌+◌, ◌<◌, Bool, true, false, ◌||◌, List, [], ◌∷◌, ◌++◌, Option, Some, None, IsSome, map, length, length-set, length-append, get_or, take, replicate, refl, sym, ap, ◌∙◌, subst, arith, slice_get, set, Contains, All}
use Rattle.std.specs.Prelude.{nat_eq, unwrap_or, sum_by, if◌then◌else◌}
use native.Mathlib.Decide.{ℕ_discrete}
use Rattle.std.specs.List.{list_any}
use Rattle.std.proofs.lemmas.List.{length-replicate, take_more}
use Rattle.std.proofs.lemmas.List.Elements.{All-append, All-cons, All-head, All-nil, All-tail, All-weaker, All-contains, Contains-append_left, Contains-append_right, Contains-append_cases, Contains-push}
use Rattle.std.proofs.lemmas.List.Sums.{sum_by-set}
use Rattle.cbl_base.proofs.PlaceLemmas.{others_stay}
use Rattle.model_values.specs.Dependence.{depends_through, marked, var_depends}
use Rattle.model_values.specs.Reach.{IsReaching, Spreads, unmarked}
use Rattle.model_values.specs.Support.{AreReached, member_in, one_depends, roots_in, vars_in}
use Rattle.model_values.specs.declared.wholes.Whole.{Whole}
use Rattle.term_model.specs.Definitions.{definition_of, joined, named_by, vars_of, DependsOn, IsAcyclic}
use Rattle.term_model.specs.Kinds.{kinds_in}
use Rattle.term_model.specs.Wellformed.{IsWellFormed}
use Rattle.term_model.specs.declared.model.Member.{Member}
use Rattle.term_model.specs.declared.model.Model.{Model}
use Rattle.term_model.specs.declared.model.Posted.{Posted}
use Rattle.term_model.proofs.NamingLaws.{contains_one}
use Rattle.term_model.proofs.Rounds.{names_kinded, names_within, some_within}
use Rattle.term_model.proofs.UsableLaws.{no_member}
use Rattle.term_model.proofs.VarLaws.{set_same}
use Rattle.model_values.proofs.PartLaws.{member_kinded}
use Rattle.model_values.proofs.MarkLaws.{depends_more, depends_step}

marked_set : (marks : List Bool) (i : ℕ) → i < length marks → marked (set marks i true) i ≡ true
marked_set marks i lt = ap (λ o. unwrap_or o false) (set_same marks i true lt)

marked_other : (marks : List Bool) (i j : ℕ) → (j ≡ i → ⊥) → marked (set marks i true) j ≡ marked marks j
marked_other marks i j ne = ap (λ o. unwrap_or o false) (others_stay marks i j true ne)

-- ---- one variable more is entered, or is there already
pub left_alone : (var : ℕ) (marks : List Bool) (stack : List ℕ) → (var < length marks → marked marks var ≡ true) → Spreads (var ∷ []) marks stack marks stack
left_alone var marks stack there = record {
  count = refl;
  grows = λ i h. h;
  here = λ i in' lt. let same = contains_one var i in' in subst (λ j. marked marks j ≡ true) (sym same) (there (subst (λ j. j < length marks) same lt));
  only = λ i h. inl h;
  kept = λ i h. h;
  stacked = λ i h. inl h;
  left = refl;
}

pub entered : (var : ℕ) (mark : Bool) (marks marks' : List Bool) (stack stack' : List ℕ) → var < length marks → mark ≡ get_or marks var mark → mark ≡ false → marks' ≡ set marks var true → stack' ≡ stack ++ var ∷ [] → Spreads (var ∷ []) marks stack marks' stack'
entered var mark marks marks' stack stack' lt read not next pushed = record {
  count = ap length next ∙ length-set marks var true;
  grows = λ i h. ap (λ ms. marked ms i) next ∙ grown i (ℕ_discrete i var) h;
  here = λ i in' within. ap (λ ms. marked ms i) next ∙ subst (λ j. marked (set marks var true) j ≡ true) (sym (contains_one var i in')) (marked_set marks var lt);
  only = λ i h. one i (ℕ_discrete i var) (sym (ap (λ ms. marked ms i) next) ∙ h);
  kept = λ i h. subst (λ s. Contains s i) (sym pushed) (Contains-append_left stack (var ∷ []) i h);
  stacked = λ i h. from i (Contains-append_cases stack (var ∷ []) i (subst (λ s. Contains s i) pushed h));
  left = counted;
}
  where
    grown : (i : ℕ) → Dec (i ≡ var) → marked marks i ≡ true → marked (set marks var true) i ≡ true
    grown i (yes same) h = subst (λ j. marked (set marks var true) j ≡ true) (sym same) (marked_set marks var lt)
    grown i (no ne) h = marked_other marks var i ne ∙ h

    one : (i : ℕ) → Dec (i ≡ var) → marked (set marks var true) i ≡ true → (marked marks i ≡ true) ⊎ (Contains (var ∷ []) i × Contains stack' i)
    one i (yes same) h = inr (subst (Contains (var ∷ [])) (sym same) (Contains-push [] var), subst (λ s. Contains s i) (sym pushed) (subst (Contains (stack ++ var ∷ [])) (sym same) (Contains-push stack var)))
    one i (no ne) h = inl (sym (marked_other marks var i ne) ∙ h)

    from : (i : ℕ) → Contains stack i ⊎ Contains (var ∷ []) i → Contains stack i ⊎ (Contains (var ∷ []) i × (i < length marks))
    from i (inl h) = inl h
    from i (inr h) = inr (h, subst (λ j. j < length marks) (sym (contains_one var i h)) lt)

    counted : unmarked marks' + length stack' ≡ unmarked marks + length stack
    counted =
        let f : Bool → ℕ = λ m. if m then 0 else 1 in
        let sums = sum_by-set f marks var true mark lt in
        let was : f (get_or marks var mark) ≡ 1 = ap f (sym read ∙ not) in
        let now : unmarked marks' ≡ sum_by f (set marks var true) = ap unmarked next in
        let long : length stack' ≡ length stack + 1 = ap length pushed ∙ length-append stack (var ∷ []) in
        omega (arith, sums, was, now, long)

pub spreads_more : (vars others : List ℕ) (marks marks1 marks2 : List Bool) (stack stack1 stack2 : List ℕ) → Spreads vars marks stack marks1 stack1 → Spreads others marks1 stack1 marks2 stack2 → Spreads (vars ++ others) marks stack marks2 stack2
spreads_more vars others marks marks1 marks2 stack stack1 stack2 first second = record {
  count = second.count ∙ first.count;
  grows = λ i h. second.grows i (first.grows i h);
  here = λ i in' lt. here_at i lt (Contains-append_cases vars others i in');
  only = λ i h. only_at i (second.only i h);
  kept = λ i h. second.kept i (first.kept i h);
  stacked = λ i h. stacked_at i (second.stacked i h);
  left = second.left ∙ first.left;
}
  where
    here_at : (i : ℕ) → i < length marks → Contains vars i ⊎ Contains others i → marked marks2 i ≡ true
    here_at i lt (inl h) = second.grows i (first.here i h lt)
    here_at i lt (inr h) = second.here i h (subst (λ n. i < n) (sym first.count) lt)

    before : (i : ℕ) → (marked marks i ≡ true) ⊎ (Contains vars i × Contains stack1 i) → (marked marks i ≡ true) ⊎ (Contains (vars ++ others) i × Contains stack2 i)
    before i (inl h) = inl h
    before i (inr h) = inr (Contains-append_left vars others i h.0, second.kept i h.1)

    only_at : (i : ℕ) → (marked marks1 i ≡ true) ⊎ (Contains others i × Contains stack2 i) → (marked marks i ≡ true) ⊎ (Contains (vars ++ others) i × Contains stack2 i)
    only_at i (inl h) = before i (first.only i h)
    only_at i (inr h) = inr (Contains-append_right vars others i h.0, h.1)

    earlier : (i : ℕ) → Contains stack i ⊎ (Contains vars i × (i < length marks)) → Contains stack i ⊎ (Contains (vars ++ others) i × (i < length marks))
    earlier i (inl h) = inl h
    earlier i (inr h) = inr (Contains-append_left vars others i h.0, h.1)

    stacked_at : (i : ℕ) → Contains stack1 i ⊎ (Contains others i × (i < length marks1)) → Contains stack i ⊎ (Contains (vars ++ others) i × (i < length marks))
    stacked_at i (inl h) = earlier i (first.stacked i h)
    stacked_at i (inr h) = inr (Contains-append_right vars others i h.0, subst (λ n. i < n) first.count h.1)

pub spread_one : (vars : List ℕ) (k var : ℕ) (marks marks1 marks2 : List Bool) (stack stack1 stack2 : List ℕ) → k < length vars → var ≡ get_or vars k 0 → Spreads (take k vars) marks stack marks1 stack1 → Spreads (var ∷ []) marks1 stack1 marks2 stack2 →
    Spreads (take (k + 1) vars) marks stack marks2 stack2
spread_one vars k var marks marks1 marks2 stack stack1 stack2 lt is first second =
    subst (λ vs. Spreads vs marks stack marks2 stack2) (sym (take_more vars k 0 lt ∙ ap (λ v. take k vars ++ v ∷ []) (sym is))) (spreads_more (take k vars) (var ∷ []) marks marks1 marks2 stack stack1 stack2 first second)

-- ---- dependence goes on
eq_self : (k : ℕ) → nat_eq k k ≡ true
eq_self k = grind arith

eq_of : (a b : ℕ) → nat_eq a b ≡ true → a ≡ b
eq_of a b h = grind (arith, h)

one_or : (a b : Bool) → a ≡ true → (a || b) ≡ true
one_or true b h = refl
one_or false b h = let c : false ≡ true = h in cc

other_or : (a b : Bool) → b ≡ true → (a || b) ≡ true
other_or true b h = refl
other_or false b h = h

either : (a b : Bool) → (a || b) ≡ true → (a ≡ true) ⊎ (b ≡ true)
either true b h = inl refl
either false b h = inr h

any_in : (p : ℕ → Bool) (xs : List ℕ) (d : ℕ) → Contains xs d → p d ≡ true → list_any p xs ≡ true
any_in p [] d in' h = absurd (no_member d in')
any_in p (x ∷ xs) d in' h = cases (Contains-append_cases (x ∷ []) xs d in') (any_in p xs d)
  where
    cases : Contains (x ∷ []) d ⊎ Contains xs d → (Contains xs d → p d ≡ true → list_any p xs ≡ true) → list_any p (x ∷ xs) ≡ true
    cases (inl here) later = one_or (p x) (list_any p xs) (ap p (sym (contains_one x d here)) ∙ h)
    cases (inr there) later = other_or (p x) (list_any p xs) (later there h)

any_out : (p : ℕ → Bool) (xs : List ℕ) → list_any p xs ≡ true → (d : ℕ) × Contains xs d × (p d ≡ true)
any_out p [] h = let c : false ≡ true = h in cc
any_out p (x ∷ xs) h = cases (either (p x) (list_any p xs) h) (any_out p xs)
  where
    cases : (p x ≡ true) ⊎ (list_any p xs ≡ true) → (list_any p xs ≡ true → (d : ℕ) × Contains xs d × (p d ≡ true)) → (d : ℕ) × Contains (x ∷ xs) d × (p d ≡ true)
    cases (inl here) later = (x, Contains-append_left (x ∷ []) xs x (Contains-push [] x), here)
    cases (inr there) later = let found = later there in (found.0, Contains-append_right (x ∷ []) xs found.0 found.1, found.2)

module _ (M : Model) (formed : IsWellFormed M) (acyclic : IsAcyclic M) where
  abbrev names : ℕ → List ℕ
  names u = named_by M.defs.items (definition_of M u)

  at_zero : (x u : ℕ) → depends_through M x zero u ≡ nat_eq u x
  unfolding depends_through
  at_zero x u = refl

  itself : (x n : ℕ) → depends_through M x n x ≡ true
  itself x zero = at_zero x x ∙ eq_self x
  itself x (suc n) = depends_step M formed acyclic x n x ∙ one_or (nat_eq x x) (list_any (depends_through M x n) (names x)) (eq_self x)

  by_name : (d n u e : ℕ) → DependsOn M u e → depends_through M d n e ≡ true → depends_through M d (suc n) u ≡ true
  by_name d n u e in' h = depends_step M formed acyclic d n u ∙ other_or (nat_eq u d) (list_any (depends_through M d n) (names u)) (any_in (depends_through M d n) (names u) e in' h)

  further : (i d n u : ℕ) → DependsOn M i d → depends_through M i n u ≡ true → depends_through M d (suc n) u ≡ true
  further i d zero u in' h = by_name d zero u d (subst (λ k. DependsOn M k d) (sym (eq_of u i (sym (at_zero i u) ∙ h))) in') (itself d zero)
  further i d (suc n) u in' h = cases (either (nat_eq u i) (list_any (depends_through M i n) (names u)) (sym (depends_step M formed acyclic i n u) ∙ h)) (λ e. further i d n e in')
    where
      cases : (nat_eq u i ≡ true) ⊎ (list_any (depends_through M i n) (names u) ≡ true) → ((e : ℕ) → depends_through M i n e ≡ true → depends_through M d (suc n) e ≡ true) → depends_through M d (suc (suc n)) u ≡ true
      cases (inl same) later = by_name d (suc n) u d (subst (λ k. DependsOn M k d) (sym (eq_of u i same)) in') (itself d (suc n))
      cases (inr some) later = let found = any_out (depends_through M i n) (names u) some in by_name d (suc n) u found.0 found.1 (later found.0 found.2)

  -- what one of the variables depends on, it depends on through another one
  depends_on : (i d u : ℕ) → u < length M.vars.items → DependsOn M i d → var_depends M i u ≡ true → var_depends M d u ≡ true
  depends_on i d u lt in' h = depends_more M formed acyclic d (length M.vars.items) u (acyclic.within u lt) ∙ further i d (length M.vars.items) u in' h

  module _ (roots : List ℕ) (within : All (λ u. u < length M.vars.items) roots) where
    reach_on : (i d : ℕ) → DependsOn M i d → one_depends M roots i ≡ true → one_depends M roots d ≡ true
    reach_on i d in' h =
        let found = any_out (var_depends M i) roots h in
        any_in (var_depends M d) roots found.0 found.1 (depends_on i d found.0 (All-contains (λ u. u < length M.vars.items) roots found.0 within found.1) in' found.2)

    root_reached : (i : ℕ) → Contains roots i → one_depends M roots i ≡ true
    root_reached i in' = any_in (var_depends M i) roots i in' (itself i (length M.vars.items))

    none_marked : (n i : ℕ) → marked (replicate n false) i ≡ true → ⊥
    none_marked zero i h = let c : false ≡ true = h in cc
    none_marked (suc n) zero h = let c : false ≡ true = h in cc
    none_marked (suc n) (suc i) h = none_marked n i h

    -- ---- the roots are entered, and then what each variable names
    pub reach_start : (marks marks' : List Bool) (stack stack' : List ℕ) → marks ≡ replicate (length M.vars.items) false → stack ≡ [] → Spreads roots marks stack marks' stack' → IsReaching M roots marks' stack'
    reach_start marks marks' stack stack' none empty spread =
        let long : length marks ≡ length M.vars.items = ap length none ∙ length-replicate (length M.vars.items) false in
        record {
          count = spread.count ∙ long;
          sound = λ i h. new i (spread.only i h);
          rooted = λ i in'. spread.here i in' (subst (λ n. i < n) (sym long) (All-contains (λ u. u < length M.vars.items) roots i within in'));
          closed = λ i h. inl (on_stack i (spread.only i h));
          within = λ i h. subst (λ n. i < n) long (inside i (spread.stacked i h));
          stacked = λ i h. let lt = inside i (spread.stacked i h) in spread.here i (from_roots i (spread.stacked i h)) lt;
        }
      where
        no_mark : (i : ℕ) → marked marks i ≡ true → ⊥
        no_mark i h = none_marked (length M.vars.items) i (sym (ap (λ ms. marked ms i) none) ∙ h)

        new : (i : ℕ) → (marked marks i ≡ true) ⊎ (Contains roots i × Contains stack' i) → one_depends M roots i ≡ true
        new i (inl h) = absurd (no_mark i h)
        new i (inr h) = root_reached i h.0

        on_stack : (i : ℕ) → (marked marks i ≡ true) ⊎ (Contains roots i × Contains stack' i) → Contains stack' i
        on_stack i (inl h) = absurd (no_mark i h)
        on_stack i (inr h) = h.1

        from_roots : (i : ℕ) → Contains stack i ⊎ (Contains roots i × (i < length marks)) → Contains roots i
        from_roots i (inl h) = absurd (no_member i (subst (λ s. Contains s i) empty h))
        from_roots i (inr h) = h.0

        inside : (i : ℕ) → Contains stack i ⊎ (Contains roots i × (i < length marks)) → i < length marks
        inside i (inl h) = absurd (no_member i (subst (λ s. Contains s i) empty h))
        inside i (inr h) = h.1

    pub reach_more : (var : ℕ) (marks marks' : List Bool) (old stack stack' : List ℕ) → old ≡ stack ++ var ∷ [] → IsReaching M roots marks old → Spreads (names var) marks stack marks' stack' → IsReaching M roots marks' stack'
    reach_more var marks marks' old stack stack' popped reach spread = record {
      count = spread.count ∙ reach.count;
      sound = λ i h. new i (spread.only i h);
      rooted = λ i in'. spread.grows i (reach.rooted i in');
      closed = λ i h. closed_at i (spread.only i h);
      within = λ i h. subst (λ n. i < n) reach.count (inside i (spread.stacked i h));
      stacked = λ i h. stacked_at i (spread.stacked i h);
    }
      where
        there : Contains old var
        there = subst (λ s. Contains s var) (sym popped) (Contains-push stack var)

        in_old : (i : ℕ) → Contains stack i → Contains old i
        in_old i h = subst (λ s. Contains s i) (sym popped) (Contains-append_left stack (var ∷ []) i h)

        var_reached : one_depends M roots var ≡ true
        var_reached = reach.sound var (reach.stacked var there)

        new : (i : ℕ) → (marked marks i ≡ true) ⊎ (Contains (names var) i × Contains stack' i) → one_depends M roots i ≡ true
        new i (inl h) = reach.sound i h
        new i (inr h) = reach_on var i h.0 var_reached

        named_marked : (d : ℕ) → DependsOn M var d → marked marks' d ≡ true
        named_marked d in' = spread.here d in' (subst (λ n. d < n) (sym reach.count) (names_within M formed var d (reach.within var there) in'))

        was_closed : (i : ℕ) → Contains old i ⊎ ((d : ℕ) → DependsOn M i d → marked marks d ≡ true) → Contains stack' i ⊎ ((d : ℕ) → DependsOn M i d → marked marks' d ≡ true)
        was_closed i (inl h) = on_old i (Contains-append_cases stack (var ∷ []) i (subst (λ s. Contains s i) popped h))
          where
            on_old : (i : ℕ) → Contains stack i ⊎ Contains (var ∷ []) i → Contains stack' i ⊎ ((d : ℕ) → DependsOn M i d → marked marks' d ≡ true)
            on_old i (inl h) = inl (spread.kept i h)
            on_old i (inr h) = inr (λ d in'. named_marked d (subst (λ k. DependsOn M k d) (contains_one var i h) in'))
        was_closed i (inr h) = inr (λ d in'. spread.grows d (h d in'))

        closed_at : (i : ℕ) → (marked marks i ≡ true) ⊎ (Contains (names var) i × Contains stack' i) → Contains stack' i ⊎ ((d : ℕ) → DependsOn M i d → marked marks' d ≡ true)
        closed_at i (inl h) = was_closed i (reach.closed i h)
        closed_at i (inr h) = inl h.1

        inside : (i : ℕ) → Contains stack i ⊎ (Contains (names var) i × (i < length marks)) → i < length marks
        inside i (inl h) = subst (λ n. i < n) (sym reach.count) (reach.within i (in_old i h))
        inside i (inr h) = h.1

        stacked_at : (i : ℕ) → Contains stack i ⊎ (Contains (names var) i × (i < length marks)) → marked marks' i ≡ true
        stacked_at i (inl h) = spread.grows i (reach.stacked i (in_old i h))
        stacked_at i (inr h) = spread.here i h.0 h.1

    -- ---- nothing is left to look at
    closed_through : (marks : List Bool) → IsReaching M roots marks [] → (x n u : ℕ) → marked marks u ≡ true → depends_through M x n u ≡ true → marked marks x ≡ true
    closed_through marks reach x zero u here h = subst (λ k. marked marks k ≡ true) (eq_of u x (sym (at_zero x u) ∙ h)) here
    closed_through marks reach x (suc n) u here h = cases (either (nat_eq u x) (list_any (depends_through M x n) (names u)) (sym (depends_step M formed acyclic x n u) ∙ h)) (closed_through marks reach x n)
      where
        named : (d : ℕ) → Contains [] u ⊎ ((d : ℕ) → DependsOn M u d → marked marks d ≡ true) → DependsOn M u d → marked marks d ≡ true
        named d (inl c) in' = absurd (no_member u c)
        named d (inr all) in' = all d in'

        cases : (nat_eq u x ≡ true) ⊎ (list_any (depends_through M x n) (names u) ≡ true) → ((e : ℕ) → marked marks e ≡ true → depends_through M x n e ≡ true → marked marks x ≡ true) → marked marks x ≡ true
        cases (inl same) later = subst (λ k. marked marks k ≡ true) (eq_of u x same) here
        cases (inr some) later = let found = any_out (depends_through M x n) (names u) some in later found.0 (named found.0 (reach.closed u here) found.1) found.2

    both_ways : (a b : Bool) → (a ≡ true → b ≡ true) → (b ≡ true → a ≡ true) → a ≡ b
    both_ways true b go back = sym (go refl)
    both_ways false true go back = back refl
    both_ways false false go back = refl

    there_marked : (marks : List Bool) (i : ℕ) → i < length marks → slice_get marks i ≡ Some (marked marks i)
    there_marked [] i lt = absurd (omega arith)
    there_marked (m ∷ marks) zero lt = refl
    there_marked (m ∷ marks) (suc i) lt = there_marked marks i (omega arith)

    pub reach_end : (marks : List Bool) (stack : List ℕ) → stack ≡ [] → IsReaching M roots marks stack → AreReached M roots marks
    reach_end marks stack empty reach i lt =
        let reach' : IsReaching M roots marks [] = subst (IsReaching M roots marks) empty reach in
        there_marked marks i (subst (λ n. i < n) (sym reach.count) lt)
        ∙ ap Some (both_ways (marked marks i) (one_depends M roots i) (reach.sound i)
        (λ h. let found = any_out (var_depends M i) roots h in closed_through marks reach' i (length M.vars.items) found.0 (reach.rooted found.0 found.1) found.2))

-- ---- the variables in members are the model's own
joined_within : (n : ℕ) (xss : List (List ℕ)) → All (All (λ u. u < n)) xss → All (λ u. u < n) (joined xss)
joined_within n [] all = All-nil (λ u. u < n)
joined_within n (xs ∷ xss) all = All-append (λ u. u < n) xs (joined xss) (All-head (All (λ u. u < n)) xs xss all) (joined_within n xss (All-tail (All (λ u. u < n)) xs xss all))

module _ (M : Model) (formed : IsWellFormed M) (whole : Whole) where
  member_within : (p : Posted) (member : Option Member) → member ≡ member_in M whole p → All (λ u. u < length M.vars.items) (vars_in member)
  member_within p None e = All-nil (λ u. u < length M.vars.items)
  member_within p (Some member) e =
      All-weaker (λ d. IsSome (kinds_in M.vars.items d)) (λ u. u < length M.vars.items) (some_within M.vars.items) (vars_of member.term)
      (names_kinded (kinds_in M.vars.items) member.term (member_kinded M formed whole p member e))

  all_within : (posted : List Posted) → All (All (λ u. u < length M.vars.items)) (map (λ p. vars_in (member_in M whole p)) posted)
  all_within [] = All-nil (All (λ u. u < length M.vars.items))
  all_within (p ∷ posted) = All-cons (All (λ u. u < length M.vars.items)) (vars_in (member_in M whole p)) (map (λ q. vars_in (member_in M whole q)) posted) (member_within p (member_in M whole p) refl) (all_within posted)

  pub roots_within : (posted : List Posted) → All (λ u. u < length M.vars.items) (roots_in M whole posted)
  roots_within posted = joined_within (length M.vars.items) (map (λ p. vars_in (member_in M whole p)) posted) (all_within posted)
