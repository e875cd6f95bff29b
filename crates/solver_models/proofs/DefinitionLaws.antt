-- A model that got a definition, of a variable without one, is well formed as before; the variable has the definition,
-- and the distinct subterms are those with the definition's term.
use Rattle.std.proofs.Common.{◌≡◌, ◌⊎◌, inl, inr, ℕ, zero, suc, ◌+◌, ◌<◌, Bool, true, false, ◌||◌, List, [], ◌∷◌, ◌++◌, Option, Some, None, is_some, All, Contains, fold, map, length, refl, sym, ap, ◌∙◌, subst, arith, slice_get, true≢false}
use Rattle.std.specs.Prelude.{filter_map, nat_eq, unwrap_or, if◌then◌else◌}
use Rattle.std.specs.Option.{option_map}
use Rattle.std.proofs.lemmas.List.{append-nil, append_assoc}
use Rattle.std.proofs.lemmas.List.Elements.{All-push, Contains-append_left, Contains-push, filter_map-append}
use Rattle.std.proofs.lemmas.List.Sums.{fold-append}
use native.Mathlib.Decide.{ℕ_discrete}
use Rattle.term_model.specs.Definitions.{definition_in, definition_of, is_of, joined, note}
use Rattle.term_model.specs.Naming.{NamesEachOnce, users_of, users_posted, users_where}
use Rattle.term_model.specs.Posting.{constrain_number, define_number, member_at, part_number, term_posted}
use Rattle.term_model.specs.Subterms.{distinct_subterms, joined_terms, once, subterms, subterms_posted, subterms_where, with_subterm}
use Rattle.term_model.specs.Wellformed.{IsDefinition, IsThere, IsWellFormed}
use Rattle.term_model.specs.declared.model.Definition.{Definition}
use Rattle.term_model.specs.declared.model.Member.{Member}
use Rattle.term_model.specs.declared.model.Model.{Model}
use Rattle.term_model.specs.declared.model.Posted.{Posted}
use Rattle.term_model.specs.declared.model.Posted.TheVariants.{Define, Constrain, Part}
use Rattle.term_model.specs.declared.posting.Side.TheVariants.{Systems, Objectives}
use Rattle.term_model.specs.declared.term.Term.{Term}
use Rattle.term_model.proofs.NamingLaws.{last_or}
use Rattle.term_model.proofs.UsableLaws.{less_there, no_member}
use Rattle.solver_models.specs.Defining.{GetsDefinition, distinct_with}
use Rattle.solver_models.specs.Ids.{has_definition}
use Rattle.solver_models.proofs.KindLaws.{definition_grows, member_grows}
use Rattle.solver_models.proofs.ListLaws.{map_push, slice_front, slice_last}

-- ---- what was posted names definitions that are there
abbrev IsBelow : ℕ → Posted → Type 0
IsBelow n (Define d) = d < n
IsBelow n (Constrain system member) = Unit {0}
IsBelow n (Part objective member) = Unit {0}

abbrev AreBelow : ℕ → List Posted → Type 0
AreBelow n [] = Unit {0}
AreBelow n (p ∷ ps) = IsBelow n p × AreBelow n ps

below_from : (n : ℕ) (ps : List Posted) → ((k d : ℕ) → slice_get (filter_map define_number ps) k ≡ Some d → d < n) → AreBelow n ps
below_from n [] within = tt
below_from n (Define d ∷ ps) within = (within zero d refl, below_from n ps (λ k e at. within (suc k) e at))
below_from n (Constrain system member ∷ ps) within = (tt, below_from n ps within)
below_from n (Part objective member ∷ ps) within = (tt, below_from n ps within)

map_below : {X : Type 0} (f g : Posted → X) (n : ℕ) → ((p : Posted) → IsBelow n p → f p ≡ g p) → (ps : List Posted) → AreBelow n ps → map f ps ≡ map g ps
map_below f g n e [] below = refl
map_below f g n e (p ∷ ps) below = ap (λ x. x ∷ map f ps) (e p below.0) ∙ ap (λ xs. g p ∷ xs) (map_below f g n e ps below.1)

pub joined-push : (xss : List (List ℕ)) (ys : List ℕ) → joined (xss ++ ys ∷ []) ≡ joined xss ++ ys
joined-push [] ys = append-nil ys
joined-push (xs ∷ xss) ys = ap (λ t. xs ++ t) (joined-push xss ys) ∙ sym (append_assoc xs (joined xss) ys)

pub joined_terms-push : (tss : List (List Term)) (ts : List Term) → joined_terms (tss ++ ts ∷ []) ≡ joined_terms tss ++ ts
joined_terms-push [] ts = append-nil ts
joined_terms-push (us ∷ tss) ts = ap (λ vs. us ++ vs) (joined_terms-push tss ts) ∙ sym (append_assoc us (joined_terms tss) ts)

-- ---- a variable whose definition was posted has one
some_stays : (defs : List Definition) (i : ℕ) (so_far : Option ℕ) (ps : List Posted) → is_some so_far ≡ true → is_some (fold (note defs i) so_far ps) ≡ true
some_stays defs i so_far [] h = h
some_stays defs i so_far (Define d ∷ ps) h = some_stays defs i (note defs i so_far (Define d)) ps (one (is_of defs i d))
  where
    one : (b : Bool) → is_some (if b then Some d else so_far) ≡ true
    one true = refl
    one false = h
some_stays defs i so_far (Constrain system member ∷ ps) h = some_stays defs i so_far ps h
some_stays defs i so_far (Part objective member ∷ ps) h = some_stays defs i so_far ps h

some_noted : (defs : List Definition) (i d : ℕ) (so_far : Option ℕ) (ps : List Posted) → is_of defs i d ≡ true → Contains (filter_map define_number ps) d → is_some (fold (note defs i) so_far ps) ≡ true
some_noted defs i d so_far [] is in' = absurd (no_member d in')
some_noted defs i d so_far (Define e ∷ ps) is (zero, lt, at) =
    some_stays defs i (note defs i so_far (Define e)) ps (ap (λ b. is_some (if b then Some e else so_far)) (ap (is_of defs i) at ∙ is))
some_noted defs i d so_far (Define e ∷ ps) is (suc k, lt, at) = some_noted defs i d (note defs i so_far (Define e)) ps is (k, let l : k < length (filter_map define_number ps) = omega (arith, lt) in l, at)
some_noted defs i d so_far (Constrain system member ∷ ps) is in' = some_noted defs i d so_far ps is in'
some_noted defs i d so_far (Part objective member ∷ ps) is in' = some_noted defs i d so_far ps is in'

eq_itself : (i : ℕ) → nat_eq i i ≡ true
eq_itself i = grind arith

pub has_posted : (M : Model) → IsWellFormed M → (d : ℕ) (def : Definition) → slice_get M.defs.items d ≡ Some def → has_definition M def.var.index ≡ true
has_posted M formed d def at =
    some_noted M.defs.items def.var.index d None M.posted.items
    (ap (λ o. unwrap_or (option_map (λ (other : Definition). nat_eq other.var.index def.var.index) o) false) at ∙ eq_itself def.var.index)
    (formed.posted_defs.all d (less_there M.defs.items d def at))

-- ---- the numbers of definitions, and one more
pub named_push : (ns : List ℕ) (n : ℕ) → NamesEachOnce ns n → NamesEachOnce (ns ++ n ∷ []) (n + 1)
named_push ns n named = record {
  within = λ k d at. within k d (last_or ns n k d at);
  once = λ j k d at of. once j k d (last_or ns n j d at) (last_or ns n k d of);
  all = λ d lt. all d lt (ℕ_discrete d n);
}
  where
    within : (k d : ℕ) → (slice_get ns k ≡ Some d) ⊎ ((k ≡ length ns) × (d ≡ n)) → d < n + 1
    within k d (inl h) = let lt = named.within k d h in omega (arith, lt)
    within k d (inr h) = omega (arith, h.1)

    once : (j k d : ℕ) → (slice_get ns j ≡ Some d) ⊎ ((j ≡ length ns) × (d ≡ n)) → (slice_get ns k ≡ Some d) ⊎ ((k ≡ length ns) × (d ≡ n)) → j ≡ k
    once j k d (inl h) (inl g) = named.once j k d h g
    once j k d (inl h) (inr g) = let lt = named.within j d h in absurd (omega (arith, lt, g.1))
    once j k d (inr h) (inl g) = let lt = named.within k d g in absurd (omega (arith, lt, h.1))
    once j k d (inr h) (inr g) = h.0 ∙ sym g.0

    all : (d : ℕ) → d < n + 1 → Dec (d ≡ n) → Contains (ns ++ n ∷ []) d
    all d lt (yes e) = subst (Contains (ns ++ n ∷ [])) (sym e) (Contains-push ns n)
    all d lt (no ne) = Contains-append_left ns (n ∷ []) d (named.all d (omega (arith, lt, ne)))

module _ (M N : Model) (def : Definition) (formed : IsWellFormed M) (gets : GetsDefinition M N def) where
  abbrev count : ℕ
  count = length M.defs.items

  below : AreBelow count M.posted.items
  below = below_from count M.posted.items formed.posted_defs.within

  term_front : (p : Posted) → IsBelow count p → term_posted N p ≡ term_posted M p
  term_front (Define d) lt =
      ap (λ ds. option_map (λ (other : Definition). other.term) (slice_get ds d)) gets.defs ∙ ap (λ o. option_map (λ (other : Definition). other.term) o) (slice_front M.defs.items (def ∷ []) d lt)
  term_front (Constrain system member) lt = ap (λ ts. option_map (λ (m : Member). m.term) (member_at ts system member)) gets.systems
  term_front (Part objective member) lt = ap (λ ts. option_map (λ (m : Member). m.term) (member_at ts objective member)) gets.objectives

  term_last : term_posted N (Define count) ≡ Some def.term
  term_last = ap (λ ds. option_map (λ (other : Definition). other.term) (slice_get ds count)) gets.defs ∙ ap (λ o. option_map (λ (other : Definition). other.term) o) (slice_last M.defs.items def)

  pub users_same : users_of def.term ≡ [] → users_posted N N.posted.items ≡ users_posted M M.posted.items
  users_same none =
      ap (λ ps. users_posted N ps) gets.posted ∙ ap joined (map_push (λ p. users_where (term_posted N p)) M.posted.items (Define count))
      ∙ joined-push (map (λ p. users_where (term_posted N p)) M.posted.items) (users_where (term_posted N (Define count)))
      ∙ ap (λ ns. joined (map (λ p. users_where (term_posted N p)) M.posted.items) ++ ns) (ap users_where term_last ∙ none)
      ∙ append-nil (joined (map (λ p. users_where (term_posted N p)) M.posted.items))
      ∙ ap joined (map_below (λ p. users_where (term_posted N p)) (λ p. users_where (term_posted M p)) count (λ p lt. ap users_where (term_front p lt)) M.posted.items below)

  pub subterms_more : distinct_subterms N ≡ distinct_with (distinct_subterms M) def.term
  subterms_more =
      let listed = λ (ps : List Posted). map (λ p. subterms_where (term_posted N p)) ps in
      let front : joined_terms (map (λ p. subterms_where (term_posted N p)) M.posted.items) ≡ subterms_posted M M.posted.items =
      ap joined_terms (map_below (λ p. subterms_where (term_posted N p)) (λ p. subterms_where (term_posted M p)) count (λ p lt. ap subterms_where (term_front p lt)) M.posted.items below) in
      ap (λ ps. once (subterms_posted N ps)) gets.posted ∙ ap (λ tss. once (joined_terms tss)) (map_push (λ p. subterms_where (term_posted N p)) M.posted.items (Define count))
      ∙ ap once (joined_terms-push (map (λ p. subterms_where (term_posted N p)) M.posted.items) (subterms_where (term_posted N (Define count))))
      ∙ ap (λ o. once (joined_terms (map (λ p. subterms_where (term_posted N p)) M.posted.items) ++ subterms_where o)) term_last
      ∙ ap (λ ts. once (ts ++ subterms def.term)) front
      ∙ fold-append with_subterm [] (subterms_posted M M.posted.items) (subterms def.term)

  -- ---- which definition a variable has
  of_front : (i d : ℕ) → d < count → is_of N.defs.items i d ≡ is_of M.defs.items i d
  of_front i d lt =
      ap (λ ds. is_of ds i d) gets.defs ∙ ap (λ o. unwrap_or (option_map (λ (other : Definition). nat_eq other.var.index i) o) false) (slice_front M.defs.items (def ∷ []) d lt)

  of_last : (i : ℕ) → is_of N.defs.items i count ≡ nat_eq def.var.index i
  of_last i = ap (λ ds. is_of ds i count) gets.defs ∙ ap (λ o. unwrap_or (option_map (λ (other : Definition). nat_eq other.var.index i) o) false) (slice_last M.defs.items def)

  noted_front : (i : ℕ) (so_far : Option ℕ) (ps : List Posted) → AreBelow count ps → fold (note N.defs.items i) so_far ps ≡ fold (note M.defs.items i) so_far ps
  noted_front i so_far [] lt = refl
  noted_front i so_far (Define d ∷ ps) lt =
      ap (λ b. fold (note N.defs.items i) (if b then Some d else so_far) ps) (of_front i d lt.0) ∙ noted_front i (note M.defs.items i so_far (Define d)) ps lt.1
  noted_front i so_far (Constrain system member ∷ ps) lt = noted_front i so_far ps lt.1
  noted_front i so_far (Part objective member ∷ ps) lt = noted_front i so_far ps lt.1

  definition_more : (i : ℕ) → definition_of N i ≡ (if nat_eq def.var.index i then Some count else definition_of M i)
  definition_more i =
      ap (λ ps. definition_in N.defs.items ps i) gets.posted ∙ fold-append (note N.defs.items i) None M.posted.items (Define count ∷ [])
      ∙ ap (λ o. note N.defs.items i o (Define count)) (noted_front i None M.posted.items below) ∙ ap (λ b. if b then Some count else definition_of M i) (of_last i)

  pub has_more : (i : ℕ) → has_definition N i ≡ (nat_eq def.var.index i || has_definition M i)
  has_more i = ap is_some (definition_more i) ∙ one (nat_eq def.var.index i)
    where
      one : (b : Bool) → is_some (if b then Some count else definition_of M i) ≡ (b || has_definition M i)
      one true = refl
      one false = refl

  -- ---- the model is well formed
  module _ (free : has_definition M def.var.index ≡ false) (is : IsDefinition M def) (none : users_of def.term ≡ []) where
    vars : N.vars.items ≡ M.vars.items ++ []
    vars = gets.vars ∙ sym (append-nil M.vars.items)

    numbers : filter_map define_number N.posted.items ≡ filter_map define_number M.posted.items ++ count ∷ []
    numbers = ap (filter_map define_number) gets.posted ∙ filter_map-append define_number M.posted.items (Define count ∷ [])

    others : (f : Posted → Option ℕ) → f (Define count) ≡ None → filter_map f N.posted.items ≡ filter_map f M.posted.items
    others f e =
        ap (filter_map f) gets.posted ∙ filter_map-append f M.posted.items (Define count ∷ []) ∙ ap (λ ns. filter_map f M.posted.items ++ ns) (last f (Define count) e) ∙ append-nil (filter_map f M.posted.items)
      where
        last : (g : Posted → Option ℕ) (p : Posted) → g p ≡ None → filter_map g (p ∷ []) ≡ []
        last g p k = rw k

    definition_at : (d : ℕ) (other : Definition) → (slice_get M.defs.items d ≡ Some other) ⊎ ((d ≡ count) × (other ≡ def)) → IsDefinition N other
    definition_at d other (inl h) = definition_grows M N [] vars other (formed.defs d other h)
    definition_at d other (inr h) = subst (IsDefinition N) (sym h.1) (definition_grows M N [] vars def is)

    at : (d : ℕ) (other : Definition) → slice_get N.defs.items d ≡ Some other → (slice_get M.defs.items d ≡ Some other) ⊎ ((d ≡ count) × (other ≡ def))
    at d other h = last_or M.defs.items def d other (ap (λ ds. slice_get ds d) (sym gets.defs) ∙ h)

    no_other : (d : ℕ) (other : Definition) → slice_get M.defs.items d ≡ Some other → other.var.index ≡ def.var.index → ⊥
    no_other d other h same = true≢false (sym (has_posted M formed d other h) ∙ ap (has_definition M) same ∙ free)

    distinct_at : (d e : ℕ) (one other : Definition) → (slice_get M.defs.items d ≡ Some one) ⊎ ((d ≡ count) × (one ≡ def)) → (slice_get M.defs.items e ≡ Some other) ⊎ ((e ≡ count) × (other ≡ def)) → one.var.index ≡ other.var.index → d ≡ e
    distinct_at d e one other (inl h) (inl g) same = formed.distinct d e one other h g same
    distinct_at d e one other (inl h) (inr g) same = absurd (no_other d one h (same ∙ ap (λ (x : Definition). x.var.index) g.1))
    distinct_at d e one other (inr h) (inl g) same = absurd (no_other e other g (sym same ∙ ap (λ (x : Definition). x.var.index) h.1))
    distinct_at d e one other (inr h) (inr g) same = h.0 ∙ sym g.0

    length_more : length N.defs.items ≡ count + 1
    length_more = ap length gets.defs ∙ pushed M.defs.items
      where
        pushed : (ds : List Definition) → length (ds ++ def ∷ []) ≡ length ds + 1
        pushed [] = refl
        pushed (d ∷ ds) = let rest = pushed ds in omega (arith, rest)

    pub formed_defined : IsWellFormed N
    formed_defined = record {
      defs = λ d other h. definition_at d other (at d other h);
      distinct = λ d e one other h g same. distinct_at d e one other (at d one h) (at e other g) same;
      systems = λ s total k member h there. member_grows M N [] vars member (formed.systems s total k member (ap (λ ts. slice_get ts s) (sym gets.systems) ∙ h) there);
      objectives = λ o total k member h there. member_grows M N [] vars member (formed.objectives o total k member (ap (λ ts. slice_get ts o) (sym gets.objectives) ∙ h) there);
      posted_defs = subst (NamesEachOnce (filter_map define_number N.posted.items)) (sym length_more)
          (subst (λ ns. NamesEachOnce ns (count + 1)) (sym numbers) (named_push (filter_map define_number M.posted.items) count formed.posted_defs));
      posted_constraints = λ s total h. others (constrain_number s) refl ∙ formed.posted_constraints s total (ap (λ ts. slice_get ts s) (sym gets.systems) ∙ h);
      posted_parts = λ o total h. others (part_number o) refl ∙ formed.posted_parts o total (ap (λ ts. slice_get ts o) (sym gets.objectives) ∙ h);
      posted_systems = subst (λ ts. All (IsThere Systems (length ts)) N.posted.items) (sym gets.systems)
          (subst (All (IsThere Systems (length M.systems.items))) (sym gets.posted) (All-push (IsThere Systems (length M.systems.items)) M.posted.items (Define count) formed.posted_systems tt));
      posted_objectives = subst (λ ts. All (IsThere Objectives (length ts)) N.posted.items) (sym gets.objectives)
          (subst (All (IsThere Objectives (length M.objectives.items))) (sym gets.posted) (All-push (IsThere Objectives (length M.objectives.items)) M.posted.items (Define count) formed.posted_objectives tt));
      users = subst (λ ns. NamesEachOnce ns (length ns)) (sym (users_same none)) formed.users;
    }
