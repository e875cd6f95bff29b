-- A variable depends on another where it is that one, or depends on one whose definition names that one.
use Rattle.std.proofs.Common.{◌≡◌, ◌⊎◌, inl, inr, ℕ, zero, suc, ◌+◌, ◌-◌, ◌<◌, ◌≤◌, Bool, true, false, ◌||◌, List, [], ◌∷◌, length, refl, sym, ap, ◌∙◌, subst, arith, Contains, true≢false, eqb-true, eq-eqb}
use Rattle.std.specs.Prelude.{nat_eq, map, Option, Some, None, Vec, slice_get, unwrap_or}
use Rattle.std.specs.List.{list_any}
use Rattle.std.specs.Option.{option_map}
use Rattle.std.specs.declared.alloc.Global.{Global}
use Rattle.std.proofs.lemmas.Bool.{or_left, or_right, cases_lt}
use Rattle.std.proofs.lemmas.List.{length-map}
use Rattle.std.proofs.lemmas.Option.{slice_get-map}
use Rattle.std.proofs.lemmas.List.Elements.{Contains-append_cases, Contains-append_left, Contains-append_right, Contains-push}
use Rattle.model_values.specs.Dependence.{depends_through, var_depends}
use Rattle.model_values.proofs.MarkLaws.{depends_more, depends_step}
use Rattle.term_model.specs.Definitions.{definition_of, named_by, DependsOn, IsAcyclic, IsTableOf}
use Rattle.term_model.specs.Wellformed.{IsWellFormed}
use Rattle.term_model.specs.declared.model.Model.{Model}
use Rattle.term_model.proofs.NamingLaws.{contains_one}
use Rattle.term_model.proofs.Rounds.{names_within}
use Rattle.term_model.proofs.VarLaws.{definition_found}
use Rattle.layer_plan.specs.Dependencies.{DependsOn as ListDependsOn, AreItems, list_of}
use Rattle.layer_plan.specs.Uses.{AreUses}
use Rattle.layer_plan.proofs.Lists.{depends_in as depends_in_lists}
use Rattle.store_shares.specs.Closing.{AreUsers, Closes, depends_in, names_in}
use Rattle.store_shares.specs.Naming.{IsNaming, words_of}
use Rattle.store_shares.specs.Settled.{AreRanked, AreSets}
use Rattle.store_shares.specs.Slots.{slot_at}
use Rattle.store_shares.specs.Words.{has}
use Rattle.store_shares.specs.declared.naming.Naming.{Naming}
use Rattle.store_shares.specs.declared.words.Word.{Word}

-- ---- one of a list passes
pub any_from : (f : ℕ → Bool) (xs : List ℕ) (d : ℕ) → Contains xs d → f d ≡ true → list_any f xs ≡ true
any_from f [] d (k, lt, at) h = absurd (omega (arith, lt))
any_from f (x ∷ xs) d in' h = choose (λ rest. any_from f xs d rest h) (Contains-append_cases (x ∷ []) xs d in')
  where
    choose : (Contains xs d → list_any f xs ≡ true) → Contains (x ∷ []) d ⊎ Contains xs d → (f x || list_any f xs) ≡ true
    choose others (inl one) = or_left (f x) (list_any f xs) (ap f (sym (contains_one x d one)) ∙ h)
    choose others (inr rest) = or_right (f x) (list_any f xs) (others rest)

pub any_to : (f : ℕ → Bool) (xs : List ℕ) → list_any f xs ≡ true → (d : ℕ) × Contains xs d × (f d ≡ true)
any_to f [] h = absurd (true≢false (sym h))
any_to f (x ∷ xs) h = choose (any_to f xs) (f x) refl
  where
    choose : (list_any f xs ≡ true → (d : ℕ) × Contains xs d × (f d ≡ true)) → (b : Bool) → f x ≡ b → (d : ℕ) × Contains (x ∷ xs) d × (f d ≡ true)
    choose others true e = (x, Contains-append_left (x ∷ []) xs x (Contains-push [] x), e)
    choose others false e = let rest = others (ap (λ b. b || list_any f xs) (sym e) ∙ h) in (rest.0, Contains-append_right (x ∷ []) xs rest.0 rest.1, rest.2)

or_split : (a b : Bool) → (a || b) ≡ true → (a ≡ true) ⊎ (b ≡ true)
or_split true b h = inl refl
or_split false b h = inr h

same_tests : (a b : Bool) → (a ≡ true → b ≡ true) → (b ≡ true → a ≡ true) → a ≡ b
same_tests true b there back = sym (there refl)
same_tests false true there back = back refl
same_tests false false there back = refl

module _ (M : Model) (formed : IsWellFormed M) (acyclic : IsAcyclic M) where
  depends_law : (x d : ℕ) → d < length M.vars.items → var_depends M x d ≡ (nat_eq d x || list_any (var_depends M x) (named_by M.defs.items (definition_of M d)))
  depends_law x d lt = depends_more M formed acyclic x (length M.vars.items) d (acyclic.within d lt) ∙ depends_step M formed acyclic x (length M.vars.items) d

  depends_cases : (x d : ℕ) → d < length M.vars.items → var_depends M x d ≡ true → (d ≡ x) ⊎ ((e : ℕ) × DependsOn M d e × (var_depends M x e ≡ true))
  depends_cases x d lt h = choose (or_split (nat_eq d x) (list_any (var_depends M x) (named_by M.defs.items (definition_of M d))) (sym (depends_law x d lt) ∙ h))
    where
      choose : (nat_eq d x ≡ true) ⊎ (list_any (var_depends M x) (named_by M.defs.items (definition_of M d)) ≡ true) → (d ≡ x) ⊎ ((e : ℕ) × DependsOn M d e × (var_depends M x e ≡ true))
      choose (inl e) = inl (eqb-true d x e)
      choose (inr h') = inr (any_to (var_depends M x) (named_by M.defs.items (definition_of M d)) h')

  depends_itself : (x : ℕ) → x < length M.vars.items → var_depends M x x ≡ true
  depends_itself x lt = depends_law x x lt ∙ or_left (nat_eq x x) (list_any (var_depends M x) (named_by M.defs.items (definition_of M x))) (eq-eqb x x refl)

  depends_by : (x d e : ℕ) → d < length M.vars.items → DependsOn M d e → var_depends M x e ≡ true → var_depends M x d ≡ true
  depends_by x d e lt in' h = depends_law x d lt ∙ or_right (nat_eq d x) (list_any (var_depends M x) (named_by M.defs.items (definition_of M d))) (any_from (var_depends M x) (named_by M.defs.items (definition_of M d)) e in' h)

  -- what isn't a variable of the model depends on none
  named_none : (d : ℕ) → length M.vars.items ≤ d → (entry : Option ℕ) → definition_of M d ≡ entry → named_by M.defs.items entry ≡ []
  named_none d past None e = refl
  named_none d past (Some n) e =
      let found = definition_found M d n e in
      let within = (formed.defs n found.0 found.1).var in
      absurd (omega (arith, within, found.2, past))

  depends_none : (x d : ℕ) → depends_through M x zero d ≡ true → nat_eq d x ≡ true
  unfolding depends_through
  depends_none x d h = h

  itself_alone : (x n d : ℕ) → length M.vars.items ≤ d → depends_through M x n d ≡ true → d ≡ x
  itself_alone x zero d past h = eqb-true d x (depends_none x d h)
  itself_alone x (suc n) d past h =
      let none = named_none d past (definition_of M d) refl in
      choose (or_split (nat_eq d x) (list_any (depends_through M x n) (named_by M.defs.items (definition_of M d))) (sym (depends_step M formed acyclic x n d) ∙ h)) none
    where
      choose : (nat_eq d x ≡ true) ⊎ (list_any (depends_through M x n) (named_by M.defs.items (definition_of M d)) ≡ true) → named_by M.defs.items (definition_of M d) ≡ [] → d ≡ x
      choose (inl e) none = eqb-true d x e
      choose (inr other) none = absurd (true≢false (sym other ∙ ap (list_any (depends_through M x n)) none))

  pub depends_within : (x d : ℕ) → x < length M.vars.items → var_depends M x d ≡ true → d < length M.vars.items
  depends_within x d lt h = choose (cases_lt d (length M.vars.items))
    where
      choose : (d < length M.vars.items) ⊎ (length M.vars.items ≤ d) → d < length M.vars.items
      choose (inl l) = l
      choose (inr past) = let e = itself_alone x (length M.vars.items) d past h in omega (arith, e, lt)

  module _ (users : ℕ → List ℕ) (uses : AreUsers M users) (x : ℕ) (is_var : x < length M.vars.items) where
    -- what depends on one whose definition names it depends on it
    depends_through_user : (k d u : ℕ) → acyclic.rank d < k → d < length M.vars.items → Contains (users x) u → var_depends M u d ≡ true → var_depends M x d ≡ true
    depends_through_user zero d u low lt in' h = absurd (omega (arith, low))
    depends_through_user (suc k) d u low lt in' h =
        choose (λ e lower within depends. depends_through_user k e u lower within in' depends) (depends_cases u d lt h)
      where
        choose : ((e : ℕ) → acyclic.rank e < k → e < length M.vars.items → var_depends M u e ≡ true → var_depends M x e ≡ true) → (d ≡ u) ⊎ ((e : ℕ) × DependsOn M d e × (var_depends M u e ≡ true)) → var_depends M x d ≡ true
        choose others (inl e) = depends_by x d x lt (subst (λ v. DependsOn M v x) (sym e) (uses.only x u in').1) (depends_itself x is_var)
        choose others (inr more) =
            let falls = acyclic.falls d more.0 more.1 in
            depends_by x d more.0 lt more.1 (others more.0 (omega (arith, falls, low)) (names_within M formed d more.0 lt more.1) more.2)

    depends_on_user : (k d : ℕ) → acyclic.rank d < k → d < length M.vars.items → var_depends M x d ≡ true → (d ≡ x) ⊎ ((u : ℕ) × Contains (users x) u × (var_depends M u d ≡ true))
    depends_on_user zero d low lt h = absurd (omega (arith, low))
    depends_on_user (suc k) d low lt h = choose (depends_on_user k) (depends_cases x d lt h)
      where
        later : (e : ℕ) → DependsOn M d e → (e ≡ x) ⊎ ((u : ℕ) × Contains (users x) u × (var_depends M u e ≡ true)) → (u : ℕ) × Contains (users x) u × (var_depends M u d ≡ true)
        later e in' (inl is) = (d, uses.each d x lt (subst (DependsOn M d) is in'), depends_itself d lt)
        later e in' (inr more) = (more.0, more.1, depends_by more.0 d e lt in' more.2)

        choose : ((e : ℕ) → acyclic.rank e < k → e < length M.vars.items → var_depends M x e ≡ true → (e ≡ x) ⊎ ((u : ℕ) × Contains (users x) u × (var_depends M u e ≡ true))) →
            (d ≡ x) ⊎ ((e : ℕ) × DependsOn M d e × (var_depends M x e ≡ true)) → (d ≡ x) ⊎ ((u : ℕ) × Contains (users x) u × (var_depends M u d ≡ true))
        choose others (inl e) = inl e
        choose others (inr more) =
            let falls = acyclic.falls d more.0 more.1 in
            inr (later more.0 more.1 (others more.0 (omega (arith, falls, low)) (names_within M formed d more.0 lt more.1) more.2))

    module _ (slots : List (List ℕ)) (k : ℕ) where
      there : depends_in M slots x k ≡ true → (names_in slots x k || list_any (λ u. depends_in M slots u k) (users x)) ≡ true
      there h = choose (any_to (var_depends M x) (slot_at slots k) h)
        where
          decide : (d : ℕ) → Contains (slot_at slots k) d → (d ≡ x) ⊎ ((u : ℕ) × Contains (users x) u × (var_depends M u d ≡ true)) → (names_in slots x k || list_any (λ u. depends_in M slots u k) (users x)) ≡ true
          decide d in' (inl e) = or_left (names_in slots x k) (list_any (λ u. depends_in M slots u k) (users x)) (any_from (λ e. nat_eq e x) (slot_at slots k) d in' (eq-eqb d x e))
          decide d in' (inr more) =
              or_right (names_in slots x k) (list_any (λ u. depends_in M slots u k) (users x))
              (any_from (λ u. depends_in M slots u k) (users x) more.0 more.1 (any_from (var_depends M more.0) (slot_at slots k) d in' more.2))

          choose : (d : ℕ) × Contains (slot_at slots k) d × (var_depends M x d ≡ true) → (names_in slots x k || list_any (λ u. depends_in M slots u k) (users x)) ≡ true
          choose one = decide one.0 one.1 (depends_on_user (acyclic.rank one.0 + 1) one.0 (omega arith) (depends_within x one.0 is_var one.2) one.2)

      back : (names_in slots x k || list_any (λ u. depends_in M slots u k) (users x)) ≡ true → depends_in M slots x k ≡ true
      back h = choose (or_split (names_in slots x k) (list_any (λ u. depends_in M slots u k) (users x)) h)
        where
          choose : (names_in slots x k ≡ true) ⊎ (list_any (λ u. depends_in M slots u k) (users x) ≡ true) → depends_in M slots x k ≡ true
          choose (inl own) =
              let one = any_to (λ e. nat_eq e x) (slot_at slots k) own in
              any_from (var_depends M x) (slot_at slots k) one.0 one.1 (ap (var_depends M x) (eqb-true one.0 x one.2) ∙ depends_itself x is_var)
          choose (inr used) =
              let user = any_to (λ u. depends_in M slots u k) (users x) used in
              let one = any_to (var_depends M user.0) (slot_at slots k) user.2 in
              any_from (var_depends M x) (slot_at slots k) one.0 one.1 (depends_through_user (acyclic.rank one.0 + 1) one.0 user.0 (omega arith) (depends_within user.0 one.0 (uses.only x user.0 user.1).0 one.2) user.1 one.2)

      pub closes_at : depends_in M slots x k ≡ (names_in slots x k || list_any (λ u. depends_in M slots u k) (users x))
      closes_at = same_tests (depends_in M slots x k) (names_in slots x k || list_any (λ u. depends_in M slots u k) (users x)) there back

  -- the slots that depend on a variable are its own and those of the variables whose definitions name it
  pub closes : (users : ℕ → List ℕ) → AreUsers M users → (slots : List (List ℕ)) → Closes (depends_in M slots) (names_in slots) users (length M.vars.items)
  closes users uses slots x k lt = closes_at users uses x lt slots k

  -- the same of the sets that name each list's variables
  pub closes_named : (users : ℕ → List ℕ) → AreUsers M users → (naming : Naming) (lists : List (List ℕ)) → IsNaming (length M.vars.items) naming lists →
      Closes (depends_in M lists) (λ x. has (words_of naming.sets.items x)) users (length naming.sets.items)
  closes_named users uses naming lists names x k lt =
      let is_var : x < length M.vars.items = subst (λ n. x < n) names.width lt in
      closes users uses lists x k is_var ∙ ap (λ b. b || list_any (λ u. depends_in M lists u k) (users x)) (sym (names.named x k is_var))

  -- each variable ranks below its users
  pub ranked : (users : ℕ → List ℕ) → AreUsers M users → AreRanked users (length M.vars.items)
  ranked users uses = record {
    rank = λ x. length M.vars.items - 1 - acyclic.rank x;
    within = λ x lt. omega (arith, lt);
    falls = λ x u in'.
        let used = uses.only x u in' in
        let falls = acyclic.falls u x used.1 in
        let high = acyclic.within u used.0 in
        omega (arith, falls, high);
    low = λ x u in'. (uses.only x u in').0;
  }

  pub ranked_by : (own : List (Vec Word Global)) (users : List (Vec ℕ Global)) → length own ≡ length M.vars.items → AreUsers M (list_of users) → AreRanked (list_of users) (length own)
  ranked_by own users e uses = subst (AreRanked (list_of users)) (sym e) (ranked (list_of users) uses)

  -- the sets that are found are those of the lists
  pub sets_are : (own : List (Vec Word Global)) (users : List (Vec ℕ Global)) (naming : Naming) (lists : List (List ℕ)) (sets : List (Option (Vec Word Global))) → own ≡ naming.sets.items → AreUsers M (list_of users) →
      IsNaming (length M.vars.items) naming lists → ((all : ℕ → ℕ → Bool) → Closes all (λ x. has (words_of own x)) (list_of users) (length own) → AreSets all (length own) sets) →
      AreSets (depends_in M lists) (length M.vars.items) sets
  sets_are own users naming lists sets e uses names found =
      subst (λ n. AreSets (depends_in M lists) n sets) (ap length e ∙ names.width)
      (found (depends_in M lists)
      (subst (λ o. Closes (depends_in M lists) (λ x. has (words_of o x)) (list_of users) (length o)) (sym e) (closes_named (list_of users) uses naming lists names)))

-- ---- the users of each variable
list_is : (named : List (Vec ℕ Global)) (u : ℕ) (l : List ℕ) → slice_get (map (λ names. names.items) named) u ≡ Some l → list_of named u ≡ l
unfolding list_of
list_is [] u l at = let c : None ≡ Some l = at in cc
list_is (v ∷ named) zero l at = ap (λ o. unwrap_or o []) at
list_is (v ∷ named) (suc u) l at = list_is named u l at

module _ (M : Model) (formed : IsWellFormed M) (table : List (Option ℕ)) (named : List (Vec ℕ Global)) (count : length table ≡ length M.vars.items) (entries : IsTableOf M table)
    (lists : map (λ names. names.items) named ≡ map (named_by M.defs.items) table) where
  pub named_count : length named ≡ length M.vars.items
  named_count = sym (length-map named (λ names. names.items)) ∙ ap length lists ∙ length-map table (named_by M.defs.items) ∙ count

  named_list : (u : ℕ) → u < length M.vars.items → list_of named u ≡ named_by M.defs.items (definition_of M u)
  named_list u lt =
      list_is named u (named_by M.defs.items (definition_of M u))
      (ap (λ ls. slice_get ls u) lists ∙ slice_get-map (named_by M.defs.items) table u ∙ ap (option_map (named_by M.defs.items)) (entries u lt))

  item_there : (u d : ℕ) → ListDependsOn named u d → (u < length M.vars.items) × DependsOn M u d
  unfolding ListDependsOn
  item_there u d in' =
      let lt : u < length M.vars.items = subst (λ n. u < n) named_count (depends_in_lists named u d in') in
      (lt, subst (λ l. Contains l d) (named_list u lt) in')

  pub items_are : AreItems named
  items_are u d in' = let there = item_there u d in' in subst (λ n. d < n) (sym named_count) (names_within M formed u d there.0 there.1)

  user_there : (users : List (Vec ℕ Global)) → AreUses named users → (u x : ℕ) → u < length M.vars.items → DependsOn M u x → Contains (list_of users x) u
  unfolding ListDependsOn
  user_there users uses u x lt in' = uses.each u x (subst (λ l. Contains l x) (sym (named_list u lt)) in')

  listed : (users : List (Vec ℕ Global)) (x u : ℕ) → Contains (list_of users x) u → ListDependsOn users x u
  unfolding ListDependsOn
  listed users x u in' = in'

  pub users_are : (users : List (Vec ℕ Global)) → AreUses named users → AreUsers M (list_of users)
  users_are users uses = record {
    each = user_there users uses;
    only = λ x u in'. item_there u x (uses.only u x (listed users x u in'));
  }
