-- A model that got a member is well formed as before, with the same definitions, and its distinct subterms are those with
-- the member's term.
use Rattle.std.proofs.Common.{◌≡◌, ◌⊎◌, inl, inr, ℕ, zero, suc, ◌+◌, ◌<◌, true, List, [], ◌∷◌, ◌++◌, Option, Some, None, All, map, length, length-set, refl, sym, ap, ◌∙◌, subst, arith, slice_get, set}
use native.Mathlib.Decide.{ℕ_discrete}
use Rattle.std.specs.Prelude.{filter_map, nat_eq, unwrap_or, if◌then◌else◌}
use Rattle.std.specs.List.{cons_option, range_with_len}
use Rattle.std.specs.Option.{option_and_then, option_map}
use Rattle.std.proofs.lemmas.List.{append-nil}
use Rattle.std.proofs.lemmas.List.Elements.{All-push, filter_map-append}
use Rattle.std.proofs.lemmas.List.Sums.{fold-append}
use Rattle.cbl_base.proofs.PlaceLemmas.{others_stay}
use Rattle.solver_models.specs.Adding.{GetsMember, posted_at}
use Rattle.solver_models.specs.Defining.{distinct_with}
use Rattle.solver_models.specs.Totals.{other_side}
use Rattle.solver_models.proofs.DefinitionLaws.{joined-push, joined_terms-push}
use Rattle.solver_models.proofs.KindLaws.{definition_grows, member_grows}
use Rattle.solver_models.proofs.ListLaws.{map_push, range_push, slice_front, slice_last}
use Rattle.solver_models.proofs.TotalLaws.{formed_by, formed_members, formed_posted, formed_there, one_of_sides}
use Rattle.term_model.specs.Definitions.{definition_in, definition_of, joined, note}
use Rattle.term_model.specs.Naming.{NamesEachOnce, users_of, users_posted, users_where}
use Rattle.term_model.specs.Posting.{define_number, member_at, number_by, term_posted, totals_by}
use Rattle.term_model.specs.Subterms.{distinct_subterms, joined_terms, once, subterms, subterms_posted, subterms_where, with_subterm}
use Rattle.term_model.specs.Wellformed.{IsMember, IsThere, IsWellFormed}
use Rattle.term_model.specs.declared.model.Definition.{Definition}
use Rattle.term_model.specs.declared.model.Member.{Member}
use Rattle.term_model.specs.declared.model.Model.{Model}
use Rattle.term_model.specs.declared.model.Posted.{Posted}
use Rattle.term_model.specs.declared.model.Posted.TheVariants.{Define, Constrain, Part}
use Rattle.term_model.specs.declared.model.Total.{Total}
use Rattle.term_model.specs.declared.posting.Side.{Side}
use Rattle.term_model.specs.declared.posting.Side.TheVariants.{Systems, Objectives}
use Rattle.term_model.proofs.NamingLaws.{last_or}
use Rattle.term_model.proofs.UsableLaws.{less_there, not_eq}
use Rattle.term_model.proofs.VarLaws.{set_same}

some_same : {X : Type 0} (x y : X) → Some x ≡ Some y → x ≡ y
some_same x y e = ap (λ o. unwrap_or o x) e

eq_itself : (i : ℕ) → nat_eq i i ≡ true
eq_itself i = grind arith

-- ---- the members of one of them, and one more
pub member_set : (ts : List Total) (k : ℕ) (old new : Total) (member : Member) → slice_get ts k ≡ Some old → new.members.items ≡ old.members.items ++ member ∷ [] → (s m : ℕ) → (s ≡ k → m < length old.members.items) → member_at (set ts k new) s m ≡ member_at ts s m
member_set [] k old new member at grown s m less = let c : None ≡ Some old = at in cc
member_set (t ∷ ts) zero old new member at grown zero m less =
    ap (λ ms. slice_get ms m) grown ∙ slice_front old.members.items (member ∷ []) m (less refl) ∙ ap (λ (u : Total). slice_get u.members.items m) (sym (some_same t old at))
member_set (t ∷ ts) zero old new member at grown (suc s) m less = refl
member_set (t ∷ ts) (suc k) old new member at grown zero m less = refl
member_set (t ∷ ts) (suc k) old new member at grown (suc s) m less = member_set ts k old new member at grown s m (λ e. less (ap suc e))

pub member_last : (ts : List Total) (k : ℕ) (old new : Total) (member : Member) → slice_get ts k ≡ Some old → new.members.items ≡ old.members.items ++ member ∷ [] → member_at (set ts k new) k (length old.members.items) ≡ Some member
member_last ts k old new member at grown =
    ap (λ o. option_and_then (λ (total : Total). slice_get total.members.items (length old.members.items)) o) (set_same ts k new (less_there ts k old at))
    ∙ ap (λ ms. slice_get ms (length old.members.items)) grown ∙ slice_last old.members.items member

-- ---- what was posted names members that are there
abbrev IsOld : (Posted → Option ℕ) → ℕ → Posted → Type 0
IsOld f n p = (d : ℕ) → f p ≡ Some d → d < n

abbrev AreOld : (Posted → Option ℕ) → ℕ → List Posted → Type 0
AreOld f n [] = Unit {0}
AreOld f n (p ∷ ps) = IsOld f n p × AreOld f n ps

old_from : (f : Posted → Option ℕ) (n : ℕ) (ps : List Posted) → ((j d : ℕ) → slice_get (filter_map f ps) j ≡ Some d → d < n) → AreOld f n ps
old_from f n [] within = tt
old_from f n (p ∷ ps) within = cases (f p) refl within (old_from f n ps)
  where
    cases : (o : Option ℕ) → f p ≡ o → ((j d : ℕ) → slice_get (cons_option o (filter_map f ps)) j ≡ Some d → d < n) → (((j d : ℕ) → slice_get (filter_map f ps) j ≡ Some d → d < n) → AreOld f n ps) → IsOld f n p × AreOld f n ps
    cases (Some e) is all rest = (λ d h. all zero d (sym is ∙ h), rest (λ j d at. all (suc j) d at))
    cases None is all rest = (λ d h. absurd (nothing d (sym is ∙ h)), rest all)
      where
        nothing : (d : ℕ) → None ≡ Some d → ⊥
        nothing d h = cc

range_within : (a n j d : ℕ) → slice_get (range_with_len a n) j ≡ Some d → d < a + n
range_within a zero j d at = let c : None ≡ Some d = at in cc
range_within a (suc n) zero d at = let e : a ≡ d = some_same a d at in omega (arith, e)
range_within a (suc n) (suc j) d at = let lt = range_within (a + 1) n j d at in omega (arith, lt)

map_old : {X : Type 0} (f g : Posted → X) (number : Posted → Option ℕ) (n : ℕ) → ((p : Posted) → IsOld number n p → f p ≡ g p) → (ps : List Posted) → AreOld number n ps → map f ps ≡ map g ps
map_old f g number n e [] old = refl
map_old f g number n e (p ∷ ps) old = ap (λ x. x ∷ map f ps) (e p old.0) ∙ ap (λ xs. g p ∷ xs) (map_old f g number n e ps old.1)

-- the number of a member that was posted to the one at a place
constrained : (k s m : ℕ) → s ≡ k → number_by Systems k (Constrain s m) ≡ Some m
constrained k s m e = ap (λ b. if b then Some m else None) (ap (λ t. nat_eq t k) e ∙ eq_itself k)

parted : (k s m : ℕ) → s ≡ k → number_by Objectives k (Part s m) ≡ Some m
parted k s m e = ap (λ b. if b then Some m else None) (ap (λ t. nat_eq t k) e ∙ eq_itself k)

number_last : (side : Side) (k n : ℕ) → number_by side k (posted_at side k n) ≡ Some n
number_last Systems k n = constrained k k n refl
number_last Objectives k n = parted k k n refl

number_elsewhere : (side : Side) (k j n : ℕ) → (j ≡ k → ⊥) → number_by side j (posted_at side k n) ≡ None
number_elsewhere Systems k j n ne = ap (λ b. if b then Some n else None) (not_eq k j ne)
number_elsewhere Objectives k j n ne = ap (λ b. if b then Some n else None) (not_eq k j ne)

number_beside : (side : Side) (k j n : ℕ) → number_by (other_side side) j (posted_at side k n) ≡ None
number_beside Systems k j n = refl
number_beside Objectives k j n = refl

no_define : (side : Side) (k n : ℕ) → define_number (posted_at side k n) ≡ None
no_define Systems k n = refl
no_define Objectives k n = refl

no_note : (defs : List Definition) (i : ℕ) (so_far : Option ℕ) (side : Side) (k n : ℕ) → note defs i so_far (posted_at side k n) ≡ so_far
no_note defs i so_far Systems k n = refl
no_note defs i so_far Objectives k n = refl

there_last : (side : Side) (k n count : ℕ) → k < count → IsThere side count (posted_at side k n)
there_last Systems k n count lt = lt
there_last Objectives k n count lt = lt

there_beside : (side : Side) (k n count : ℕ) → IsThere (other_side side) count (posted_at side k n)
there_beside Systems k n count = tt
there_beside Objectives k n count = tt

one_filtered : (f : Posted → Option ℕ) (p : Posted) (o : Option ℕ) → f p ≡ o → filter_map f (p ∷ []) ≡ cons_option o []
one_filtered f p o e = ap (λ q. cons_option q []) e

module _ (M N : Model) (side : Side) (k : ℕ) (member : Member) (formed : IsWellFormed M) (gets : GetsMember M N side k member) where
  abbrev was : Total
  was = gets.totals.old

  abbrev is_now : Total
  is_now = gets.totals.new

  abbrev count : ℕ
  count = length was.members.items

  abbrev posted_last : Posted
  posted_last = posted_at side k count

  numbers_old : AreOld (number_by side k) count M.posted.items
  numbers_old = old_from (number_by side k) count M.posted.items
      (λ j d at. let lt = range_within 0 count j d (ap (λ ns. slice_get ns j) (sym (formed_posted M formed side k was gets.totals.stood)) ∙ at) in omega (arith, lt))

  member_same : (other : Side) (s m : ℕ) → (other ≡ side) ⊎ (other ≡ other_side side) → (other ≡ side → s ≡ k → m < count) → member_at (totals_by N other) s m ≡ member_at (totals_by M other) s m
  member_same other s m (inl e) less =
      subst (λ t. member_at (totals_by N t) s m ≡ member_at (totals_by M t) s m) (sym e)
      (ap (λ ts. member_at ts s m) gets.totals.all ∙ member_set (totals_by M side) k was is_now member gets.totals.stood gets.totals.members s m (λ h. less e h))
  member_same other s m (inr e) less = subst (λ t. member_at (totals_by N t) s m ≡ member_at (totals_by M t) s m) (sym e) (ap (λ ts. member_at ts s m) gets.others)

  term_front : (p : Posted) → IsOld (number_by side k) count p → term_posted N p ≡ term_posted M p
  term_front (Define d) old = ap (λ ds. option_map (λ (def : Definition). def.term) (slice_get ds d)) gets.defs
  term_front (Constrain s m) old =
      ap (λ (o : Option Member). option_map (λ (u : Member). u.term) o)
      (member_same Systems s m (one_of_sides side Systems) (λ e h. old m (ap (λ t. number_by t k (Constrain s m)) (sym e) ∙ constrained k s m h)))
  term_front (Part o m) old =
      ap (λ (o : Option Member). option_map (λ (u : Member). u.term) o)
      (member_same Objectives o m (one_of_sides side Objectives) (λ e h. old m (ap (λ t. number_by t k (Part o m)) (sym e) ∙ parted k o m h)))

  term_by : (other : Side) → other ≡ side → term_posted N (posted_at other k count) ≡ option_map (λ (u : Member). u.term) (member_at (totals_by N other) k count)
  term_by Systems e = refl
  term_by Objectives e = refl

  term_last : term_posted N posted_last ≡ Some member.term
  term_last =
      term_by side refl ∙ ap (λ ts. option_map (λ (u : Member). u.term) (member_at ts k count)) gets.totals.all
      ∙ ap (λ (o : Option Member). option_map (λ (u : Member). u.term) o) (member_last (totals_by M side) k was is_now member gets.totals.stood gets.totals.members)

  pub users_more : users_posted N N.posted.items ≡ users_posted M M.posted.items ++ users_of member.term
  users_more =
      ap (λ ps. users_posted N ps) gets.posted ∙ ap joined (map_push (λ p. users_where (term_posted N p)) M.posted.items posted_last)
      ∙ joined-push (map (λ p. users_where (term_posted N p)) M.posted.items) (users_where (term_posted N posted_last))
      ∙ ap (λ ns. joined (map (λ p. users_where (term_posted N p)) M.posted.items) ++ ns) (ap users_where term_last)
      ∙ ap (λ ns. joined ns ++ users_of member.term) (map_old (λ p. users_where (term_posted N p)) (λ p. users_where (term_posted M p)) (number_by side k) count (λ p old. ap users_where (term_front p old)) M.posted.items numbers_old)

  pub users_with_member : users_of member.term ≡ [] → users_posted N N.posted.items ≡ users_posted M M.posted.items
  users_with_member none = users_more ∙ ap (λ ns. users_posted M M.posted.items ++ ns) none ∙ append-nil (users_posted M M.posted.items)

  pub subterms_with_member : distinct_subterms N ≡ distinct_with (distinct_subterms M) member.term
  subterms_with_member =
      let front : joined_terms (map (λ p. subterms_where (term_posted N p)) M.posted.items) ≡ subterms_posted M M.posted.items =
      ap joined_terms (map_old (λ p. subterms_where (term_posted N p)) (λ p. subterms_where (term_posted M p)) (number_by side k) count (λ p old. ap subterms_where (term_front p old)) M.posted.items numbers_old) in
      ap (λ ps. once (subterms_posted N ps)) gets.posted ∙ ap (λ tss. once (joined_terms tss)) (map_push (λ p. subterms_where (term_posted N p)) M.posted.items posted_last)
      ∙ ap once (joined_terms-push (map (λ p. subterms_where (term_posted N p)) M.posted.items) (subterms_where (term_posted N posted_last)))
      ∙ ap (λ o. once (joined_terms (map (λ p. subterms_where (term_posted N p)) M.posted.items) ++ subterms_where o)) term_last
      ∙ ap (λ ts. once (ts ++ subterms member.term)) front
      ∙ fold-append with_subterm [] (subterms_posted M M.posted.items) (subterms member.term)

  pub definitions_with_member : (i : ℕ) → definition_of N i ≡ definition_of M i
  definitions_with_member i =
      ap (λ ps. definition_in N.defs.items ps i) gets.posted ∙ ap (λ ds. definition_in ds (M.posted.items ++ posted_last ∷ []) i) gets.defs
      ∙ fold-append (note M.defs.items i) None M.posted.items (posted_last ∷ []) ∙ no_note M.defs.items i (definition_of M i) side k count

  -- ---- the model is well formed
  module _ (is : IsMember M member) (named : NamesEachOnce (users_posted N N.posted.items) (length (users_posted N N.posted.items))) where
    vars : N.vars.items ≡ M.vars.items ++ []
    vars = gets.vars ∙ sym (append-nil M.vars.items)

    -- one of the totals is one of those before, or the one that grew
    abbrev IsOldOrGrown : Side → ℕ → Total → Type 0
    IsOldOrGrown other j total = ((other ≡ side → j ≡ k → ⊥) × (slice_get (totals_by M other) j ≡ Some total)) ⊎ ((other ≡ side) × (j ≡ k) × (total ≡ is_now))

    sides_differ : (side : Side) → other_side side ≡ side → ⊥
    sides_differ Systems e = cc
    sides_differ Objectives e = cc

    old_or_grown : (other : Side) (j : ℕ) (total : Total) → (other ≡ side) ⊎ (other ≡ other_side side) → slice_get (totals_by N other) j ≡ Some total → IsOldOrGrown other j total
    old_or_grown other j total (inr e) at =
        inl (λ same h. sides_differ side (sym e ∙ same), subst (λ s. slice_get (totals_by N s) j ≡ Some total → slice_get (totals_by M s) j ≡ Some total) (sym e) (λ h. ap (λ ts. slice_get ts j) (sym gets.others) ∙ h) at)
    old_or_grown other j total (inl e) at = by (ℕ_discrete j k) (ap (λ ts. slice_get ts j) (sym gets.totals.all) ∙ subst (λ s. slice_get (totals_by N s) j ≡ Some total) e at)
      where
        by : Dec (j ≡ k) → slice_get (set (totals_by M side) k is_now) j ≡ Some total → IsOldOrGrown other j total
        by (yes same) h =
            inr (e, same, sym (some_same is_now total (sym (set_same (totals_by M side) k is_now (less_there (totals_by M side) k was gets.totals.stood)) ∙ ap (slice_get (set (totals_by M side) k is_now)) (sym same) ∙ h)))
        by (no ne) h = inl (λ s i. ne i, subst (λ s. slice_get (totals_by M s) j ≡ Some total) (sym e) (sym (others_stay (totals_by M side) k j is_now ne) ∙ h))

    member_of_grown : (i : ℕ) (one : Member) → (slice_get was.members.items i ≡ Some one) ⊎ ((i ≡ count) × (one ≡ member)) → IsMember N one
    member_of_grown i one (inl h) = member_grows M N [] vars one (formed_members M formed side k was i one gets.totals.stood h)
    member_of_grown i one (inr h) = subst (IsMember N) (sym h.1) (member_grows M N [] vars member is)

    members_by : (other : Side) (j : ℕ) (total : Total) (i : ℕ) (one : Member) → IsOldOrGrown other j total → slice_get total.members.items i ≡ Some one → IsMember N one
    members_by other j total i one (inl h) there = member_grows M N [] vars one (formed_members M formed other j total i one h.1 there)
    members_by other j total i one (inr h) there =
        member_of_grown i one (last_or was.members.items member i one (ap (λ ms. slice_get ms i) (sym gets.totals.members) ∙ ap (λ (t : Total). slice_get t.members.items i) (sym h.2) ∙ there))

    posted_more : (f : Posted → Option ℕ) (o : Option ℕ) → f posted_last ≡ o → filter_map f N.posted.items ≡ filter_map f M.posted.items ++ cons_option o []
    posted_more f o e = ap (filter_map f) gets.posted ∙ filter_map-append f M.posted.items (posted_last ∷ []) ∙ ap (λ ns. filter_map f M.posted.items ++ ns) (one_filtered f posted_last o e)

    posted_same : (f : Posted → Option ℕ) → f posted_last ≡ None → filter_map f N.posted.items ≡ filter_map f M.posted.items
    posted_same f e = posted_more f None e ∙ append-nil (filter_map f M.posted.items)

    not_numbered : (other : Side) (j : ℕ) → (other ≡ side) ⊎ (other ≡ other_side side) → (other ≡ side → j ≡ k → ⊥) → number_by other j posted_last ≡ None
    not_numbered other j (inl e) ne = ap (λ s. number_by s j posted_last) e ∙ number_elsewhere side k j count (ne e)
    not_numbered other j (inr e) ne = ap (λ s. number_by s j posted_last) e ∙ number_beside side k j count

    length_push : (ms : List Member) → length (ms ++ member ∷ []) ≡ length ms + 1
    length_push [] = refl
    length_push (m ∷ ms) = let rest = length_push ms in omega (arith, rest)

    posted_by : (other : Side) (j : ℕ) (total : Total) → IsOldOrGrown other j total → filter_map (number_by other j) N.posted.items ≡ range_with_len 0 (length total.members.items)
    posted_by other j total (inl h) = posted_same (number_by other j) (not_numbered other j (one_of_sides side other) h.0) ∙ formed_posted M formed other j total h.1
    posted_by other j total (inr h) =
        ap (λ s. filter_map (number_by s j) N.posted.items) h.0 ∙ ap (λ i. filter_map (number_by side i) N.posted.items) h.1
        ∙ posted_more (number_by side k) (Some count) (number_last side k count)
        ∙ ap (λ ns. ns ++ count ∷ []) (formed_posted M formed side k was gets.totals.stood)
        ∙ ap (λ n. range_with_len 0 count ++ n ∷ []) (let z : count ≡ 0 + count = omega arith in z) ∙ sym (range_push 0 count)
        ∙ ap (range_with_len 0) (sym (ap (λ (t : Total). length t.members.items) h.2 ∙ ap length gets.totals.members ∙ length_push was.members.items))

    there_by : (other : Side) → (other ≡ side) ⊎ (other ≡ other_side side) → All (IsThere other (length (totals_by N other))) (M.posted.items ++ posted_last ∷ [])
    there_by other (inl e) =
        let lt : k < length (totals_by M side) = less_there (totals_by M side) k was gets.totals.stood in
        let long : length (totals_by M side) ≡ length (totals_by N side) = sym (length-set (totals_by M side) k is_now) ∙ ap length (sym gets.totals.all) in
        subst (λ s. All (IsThere s (length (totals_by N s))) (M.posted.items ++ posted_last ∷ [])) (sym e)
        (subst (λ n. All (IsThere side n) (M.posted.items ++ posted_last ∷ [])) long
        (All-push (IsThere side (length (totals_by M side))) M.posted.items posted_last (formed_there M formed side) (there_last side k count (length (totals_by M side)) lt)))
    there_by other (inr e) =
        subst (λ s. All (IsThere s (length (totals_by N s))) (M.posted.items ++ posted_last ∷ [])) (sym e)
        (subst (λ ts. All (IsThere (other_side side) (length ts)) (M.posted.items ++ posted_last ∷ [])) (sym gets.others)
        (All-push (IsThere (other_side side) (length (totals_by M (other_side side)))) M.posted.items posted_last (formed_there M formed (other_side side)) (there_beside side k count (length (totals_by M (other_side side))))))

    pub formed_with_member : IsWellFormed N
    formed_with_member = formed_by N (record {
      defs = λ d def at. definition_grows M N [] vars def (formed.defs d def (ap (λ ds. slice_get ds d) (sym gets.defs) ∙ at));
      distinct = λ d e def other at of same. formed.distinct d e def other (ap (λ ds. slice_get ds d) (sym gets.defs) ∙ at) (ap (λ ds. slice_get ds e) (sym gets.defs) ∙ of) same;
      members = λ other j total i one at there. members_by other j total i one (old_or_grown other j total (one_of_sides side other) at) there;
      posted_defs = subst (λ ds. NamesEachOnce (filter_map define_number N.posted.items) (length ds)) (sym gets.defs)
          (subst (λ ns. NamesEachOnce ns (length M.defs.items)) (sym (posted_same define_number (no_define side k count))) formed.posted_defs);
      posted = λ other j total at. posted_by other j total (old_or_grown other j total (one_of_sides side other) at);
      there = λ other. subst (All (IsThere other (length (totals_by N other)))) (sym gets.posted) (there_by other (one_of_sides side other));
      users = named;
    })
