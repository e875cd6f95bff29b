-- A model that got a system or an objective is well formed as before, with the same definitions and distinct subterms.
use Rattle.std.proofs.Common.{◌≡◌, ◌⊎◌, inl, inr, ℕ, zero, suc, ◌<◌, ◌≤◌, false, List, [], ◌∷◌, ◌++◌, Option, Some, None, All, map, length, refl, sym, ap, ◌∙◌, subst, arith, slice_get}
use Rattle.std.specs.Prelude.{filter_map, nat_eq, if◌then◌else◌}
use Rattle.std.specs.List.{cons_option, range_with_len}
use Rattle.std.specs.Option.{option_map}
use Rattle.std.proofs.lemmas.List.{append-nil}
use Rattle.std.proofs.lemmas.List.Elements.{All-head, All-tail, All-weaker}
use Rattle.cbl_base.specs.declared.place.Place.{Place}
use Rattle.solver_models.specs.Totals.{GetsTotal, other_side}
use Rattle.solver_models.proofs.KindLaws.{definition_grows, member_grows}
use Rattle.solver_models.proofs.ListLaws.{map_same}
use Rattle.term_model.specs.Definitions.{definition_in, definition_of, joined}
use Rattle.term_model.specs.Naming.{NamesEachOnce, users_posted, users_where}
use Rattle.term_model.specs.Posting.{define_number, member_at, number_by, term_posted, totals_by}
use Rattle.term_model.specs.Subterms.{distinct_subterms, joined_terms, once, subterms_where}
use Rattle.term_model.specs.Wellformed.{AreDistinct, IsDefinition, IsMember, IsThere, IsWellFormed}
use Rattle.term_model.specs.declared.model.Definition.{Definition}
use Rattle.term_model.specs.declared.model.Member.{Member}
use Rattle.term_model.specs.declared.model.Model.{Model}
use Rattle.term_model.specs.declared.model.Posted.{Posted}
use Rattle.term_model.specs.declared.model.Posted.TheVariants.{Define, Constrain, Part}
use Rattle.term_model.specs.declared.model.Total.{Total}
use Rattle.term_model.specs.declared.posting.Side.{Side}
use Rattle.term_model.specs.declared.posting.Side.TheVariants.{Systems, Objectives}
use Rattle.term_model.proofs.NamingLaws.{last_or}
use Rattle.term_model.proofs.UsableLaws.{not_eq}

-- ---- well formed, side by side
pub formed_members : (M : Model) → IsWellFormed M → (side : Side) (k : ℕ) (total : Total) (j : ℕ) (member : Member) → slice_get (totals_by M side) k ≡ Some total → slice_get total.members.items j ≡ Some member → IsMember M member
formed_members M formed Systems k total j member at there = formed.systems k total j member at there
formed_members M formed Objectives k total j member at there = formed.objectives k total j member at there

pub formed_posted : (M : Model) → IsWellFormed M → (side : Side) (k : ℕ) (total : Total) → slice_get (totals_by M side) k ≡ Some total → filter_map (number_by side k) M.posted.items ≡ range_with_len 0 (length total.members.items)
formed_posted M formed Systems k total at = formed.posted_constraints k total at
formed_posted M formed Objectives k total at = formed.posted_parts k total at

pub formed_there : (M : Model) → IsWellFormed M → (side : Side) → All (IsThere side (length (totals_by M side))) M.posted.items
formed_there M formed Systems = formed.posted_systems
formed_there M formed Objectives = formed.posted_objectives

pub record IsFormedBy (N : Model) : Type 0 where
  pub defs : (d : ℕ) (def : Definition) → slice_get N.defs.items d ≡ Some def → IsDefinition N def
  pub distinct : AreDistinct N.defs.items
  pub members : (side : Side) (k : ℕ) (total : Total) (j : ℕ) (member : Member) → slice_get (totals_by N side) k ≡ Some total → slice_get total.members.items j ≡ Some member → IsMember N member
  pub posted_defs : NamesEachOnce (filter_map define_number N.posted.items) (length N.defs.items)
  pub posted : (side : Side) (k : ℕ) (total : Total) → slice_get (totals_by N side) k ≡ Some total → filter_map (number_by side k) N.posted.items ≡ range_with_len 0 (length total.members.items)
  pub there : (side : Side) → All (IsThere side (length (totals_by N side))) N.posted.items
  pub users : NamesEachOnce (users_posted N N.posted.items) (length (users_posted N N.posted.items))

pub formed_by : (N : Model) → IsFormedBy N → IsWellFormed N
formed_by N is = record {
  defs = is.defs;
  distinct = is.distinct;
  systems = λ s total k member at there. is.members Systems s total k member at there;
  objectives = λ o total k member at there. is.members Objectives o total k member at there;
  posted_defs = is.posted_defs;
  posted_constraints = λ s total at. is.posted Systems s total at;
  posted_parts = λ o total at. is.posted Objectives o total at;
  posted_systems = is.there Systems;
  posted_objectives = is.there Objectives;
  users = is.users;
}

pub one_of_sides : (side other : Side) → (other ≡ side) ⊎ (other ≡ other_side side)
one_of_sides Systems Systems = inl refl
one_of_sides Systems Objectives = inr refl
one_of_sides Objectives Systems = inr refl
one_of_sides Objectives Objectives = inl refl

-- ---- a total without members
none_in : (t : Total) → t.members.items ≡ [] → (m : ℕ) → slice_get t.members.items m ≡ None
none_in t blank m = ap (λ ms. slice_get ms m) blank

pub member_blank : (ts : List Total) (t : Total) → t.members.items ≡ [] → (k m : ℕ) → member_at (ts ++ t ∷ []) k m ≡ member_at ts k m
member_blank [] t blank zero m = none_in t blank m
member_blank [] t blank (suc k) m = refl
member_blank (u ∷ ts) t blank zero m = refl
member_blank (u ∷ ts) t blank (suc k) m = member_blank ts t blank k m

ne_below : (s n : ℕ) → s < n → nat_eq s n ≡ false
ne_below s n lt = not_eq s n (λ e. omega (arith, e, lt))

no_number : (side : Side) (n : ℕ) (p : Posted) → IsThere side n p → number_by side n p ≡ None
no_number Systems n (Define d) there = refl
no_number Systems n (Constrain s m) there = ap (λ b. if b then Some m else None) (ne_below s n there)
no_number Systems n (Part o m) there = refl
no_number Objectives n (Define d) there = refl
no_number Objectives n (Constrain s m) there = refl
no_number Objectives n (Part o m) there = ap (λ b. if b then Some m else None) (ne_below o n there)

pub none_posted : (side : Side) (n : ℕ) (ps : List Posted) → All (IsThere side n) ps → filter_map (number_by side n) ps ≡ []
none_posted side n [] all = refl
none_posted side n (p ∷ ps) all =
    ap (λ o. cons_option o (filter_map (number_by side n) ps)) (no_number side n p (All-head (IsThere side n) p ps all))
    ∙ none_posted side n ps (All-tail (IsThere side n) p ps all)

there_more : (side : Side) (n m : ℕ) → n ≤ m → (p : Posted) → IsThere side n p → IsThere side m p
there_more Systems n m le (Define d) there = tt
there_more Systems n m le (Constrain s k) there = omega (arith, le, there)
there_more Systems n m le (Part o k) there = tt
there_more Objectives n m le (Define d) there = tt
there_more Objectives n m le (Constrain s k) there = tt
there_more Objectives n m le (Part o k) there = omega (arith, le, there)

pub all_there_more : (side : Side) (n m : ℕ) → n ≤ m → (ps : List Posted) → All (IsThere side n) ps → All (IsThere side m) ps
all_there_more side n m le ps all = All-weaker (IsThere side n) (IsThere side m) (there_more side n m le) ps all

-- ---- the model with one more
module _ (M N : Model) (side : Side) (place : Place) (gets : GetsTotal M N side place) where
  abbrev last : Total
  last = gets.totals.last

  member_by : (other : Side) (k m : ℕ) → (other ≡ side) ⊎ (other ≡ other_side side) → member_at (totals_by N other) k m ≡ member_at (totals_by M other) k m
  member_by other k m (inl e) =
      subst (λ s. member_at (totals_by N s) k m ≡ member_at (totals_by M s) k m) (sym e)
      (ap (λ ts. member_at ts k m) gets.totals.all ∙ member_blank (totals_by M side) last gets.totals.blank k m)
  member_by other k m (inr e) = subst (λ s. member_at (totals_by N s) k m ≡ member_at (totals_by M s) k m) (sym e) (ap (λ ts. member_at ts k m) gets.others)

  term_same : (p : Posted) → term_posted N p ≡ term_posted M p
  term_same (Define d) = ap (λ ds. option_map (λ (def : Definition). def.term) (slice_get ds d)) gets.defs
  term_same (Constrain system member) = ap (λ (o : Option Member). option_map (λ (m : Member). m.term) o) (member_by Systems system member (one_of_sides side Systems))
  term_same (Part objective member) = ap (λ (o : Option Member). option_map (λ (m : Member). m.term) o) (member_by Objectives objective member (one_of_sides side Objectives))

  pub users_with_total : users_posted N N.posted.items ≡ users_posted M M.posted.items
  users_with_total =
      ap (λ ps. users_posted N ps) gets.posted
      ∙ ap joined (map_same (λ p. users_where (term_posted N p)) (λ p. users_where (term_posted M p)) (λ p. ap users_where (term_same p)) M.posted.items)

  pub subterms_with_total : distinct_subterms N ≡ distinct_subterms M
  subterms_with_total =
      ap (λ ps. once (joined_terms (map (λ p. subterms_where (term_posted N p)) ps))) gets.posted
      ∙ ap (λ tss. once (joined_terms tss)) (map_same (λ p. subterms_where (term_posted N p)) (λ p. subterms_where (term_posted M p)) (λ p. ap subterms_where (term_same p)) M.posted.items)

  pub definitions_with_total : (i : ℕ) → definition_of N i ≡ definition_of M i
  definitions_with_total i = ap (λ ds. definition_in ds N.posted.items i) gets.defs ∙ ap (λ ps. definition_in M.defs.items ps i) gets.posted

  vars : N.vars.items ≡ M.vars.items ++ []
  vars = gets.vars ∙ sym (append-nil M.vars.items)

  module _ (formed : IsWellFormed M) where
    -- one of the totals is one of those before, or the last
    abbrev IsOldOrLast : Side → ℕ → Total → Type 0
    IsOldOrLast other k total = (slice_get (totals_by M other) k ≡ Some total) ⊎ ((other ≡ side) × (k ≡ length (totals_by M side)) × (total ≡ last))

    old_or_last : (other : Side) (k : ℕ) (total : Total) → (other ≡ side) ⊎ (other ≡ other_side side) → slice_get (totals_by N other) k ≡ Some total → IsOldOrLast other k total
    old_or_last other k total (inr e) at =
        inl (subst (λ s. slice_get (totals_by N s) k ≡ Some total → slice_get (totals_by M s) k ≡ Some total) (sym e) (λ h. ap (λ ts. slice_get ts k) (sym gets.others) ∙ h) at)
    old_or_last other k total (inl e) at =
        by (last_or (totals_by M side) last k total (ap (λ ts. slice_get ts k) (sym gets.totals.all) ∙ subst (λ s. slice_get (totals_by N s) k ≡ Some total) e at))
      where
        by : (slice_get (totals_by M side) k ≡ Some total) ⊎ ((k ≡ length (totals_by M side)) × (total ≡ last)) → IsOldOrLast other k total
        by (inl h) = inl (subst (λ s. slice_get (totals_by M s) k ≡ Some total) (sym e) h)
        by (inr h) = inr (e, h.0, h.1)

    members_by : (other : Side) (k : ℕ) (total : Total) (j : ℕ) (member : Member) → IsOldOrLast other k total → slice_get total.members.items j ≡ Some member → IsMember N member
    members_by other k total j member (inl h) there = member_grows M N [] vars member (formed_members M formed other k total j member h there)
    members_by other k total j member (inr h) there =
        let c : None ≡ Some member = sym (none_in last gets.totals.blank j) ∙ ap (λ (t : Total). slice_get t.members.items j) (sym h.2) ∙ there in cc

    posted_by : (other : Side) (k : ℕ) (total : Total) → IsOldOrLast other k total → filter_map (number_by other k) N.posted.items ≡ range_with_len 0 (length total.members.items)
    posted_by other k total (inl h) = ap (filter_map (number_by other k)) gets.posted ∙ formed_posted M formed other k total h
    posted_by other k total (inr h) =
        ap (filter_map (number_by other k)) gets.posted
        ∙ subst (λ s. filter_map (number_by s k) M.posted.items ≡ []) (sym h.0) (subst (λ n. filter_map (number_by side n) M.posted.items ≡ []) (sym h.1) (none_posted side (length (totals_by M side)) M.posted.items (formed_there M formed side)))
        ∙ ap (λ n. range_with_len 0 n) (sym (ap (λ (t : Total). length t.members.items) h.2 ∙ ap length gets.totals.blank))

    no_fewer : (other : Side) → (other ≡ side) ⊎ (other ≡ other_side side) → length (totals_by M other) ≤ length (totals_by N other)
    no_fewer other (inl e) = subst (λ s. length (totals_by M s) ≤ length (totals_by N s)) (sym e) (subst (λ ts. length (totals_by M side) ≤ length ts) (sym gets.totals.all) (longer (totals_by M side)))
      where
        longer : (ts : List Total) → length ts ≤ length (ts ++ last ∷ [])
        longer [] = omega arith
        longer (t ∷ ts) = let rest = longer ts in omega (arith, rest)
    no_fewer other (inr e) = subst (λ s. length (totals_by M s) ≤ length (totals_by N s)) (sym e) (let same : length (totals_by N (other_side side)) ≡ length (totals_by M (other_side side)) = ap length gets.others in omega (arith, same))

    pub formed_with_total : IsWellFormed N
    formed_with_total = formed_by N (record {
      defs = λ d def at. definition_grows M N [] vars def (formed.defs d def (ap (λ ds. slice_get ds d) (sym gets.defs) ∙ at));
      distinct = λ d e def other at of same. formed.distinct d e def other (ap (λ ds. slice_get ds d) (sym gets.defs) ∙ at) (ap (λ ds. slice_get ds e) (sym gets.defs) ∙ of) same;
      members = λ other k total j member at there. members_by other k total j member (old_or_last other k total (one_of_sides side other) at) there;
      posted_defs = subst (λ ds. NamesEachOnce (filter_map define_number N.posted.items) (length ds)) (sym gets.defs)
          (subst (λ ps. NamesEachOnce (filter_map define_number ps) (length M.defs.items)) (sym gets.posted) formed.posted_defs);
      posted = λ other k total at. posted_by other k total (old_or_last other k total (one_of_sides side other) at);
      there = λ other. all_there_more other (length (totals_by M other)) (length (totals_by N other)) (no_fewer other (one_of_sides side other)) N.posted.items
          (subst (All (IsThere other (length (totals_by M other)))) (sym gets.posted) (formed_there M formed other));
      users = subst (λ ns. NamesEachOnce ns (length ns)) (sym users_with_total) formed.users;
    })
