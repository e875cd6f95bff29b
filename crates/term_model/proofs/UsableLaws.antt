-- What the check of a model finds out, step by step, and that this makes the model well formed and acyclic.
use Rattle.std.proofs.Common.{◌≡◌, ℕ, zero, suc, ◌+◌, ◌<◌, ◌≤◌, Bool, true, false, List, [], ◌∷◌, ◌++◌, Option, Some, None, length, get_or, take, map, refl, sym, ap, ◌∙◌, subst, arith, slice_get, set, replicate, Vec, Global, All, Contains}
use native.Mathlib.Decide.{ℕ_discrete}
use Rattle.std.specs.Prelude.{nat_eq, if◌then◌else◌, filter_map, unwrap_or}
use Rattle.std.specs.Bool.{OnTrue}
use Rattle.std.specs.List.{range_with_len}
use Rattle.std.proofs.lemmas.Option.{get_or_from_slice_get}
use Rattle.std.specs.Option.{ForSome, option_map}
use Rattle.std.proofs.lemmas.List.{append-nil, take_more}
use Rattle.std.proofs.lemmas.List.Elements.{All-contains, filter_map-append}
use Rattle.std.proofs.lemmas.List.Sums.{AllPass-from_list_all}
use Rattle.cbl_base.proofs.PlaceLemmas.{others_stay}
use Rattle.term_model.specs.Checks.{IsKindWithin, IsTotal, AreCounts, IsCounted, IsAllCounted, IsOwned, IsNumberOrDefined, IsRanked, owner_at, rank_at, is_below}
use Rattle.term_model.specs.Definitions.{definition_of, named_by, IsAcyclic}
use Rattle.cbl_base.specs.declared.limits.TheConstants.{MAX_TERM_DEPTH}
use Rattle.term_model.specs.Kinds.{kinds_in, kind_of_var}
use Rattle.term_model.specs.Naming.{NamesEachOnce, users_posted}
use Rattle.term_model.specs.Posting.{number_by, number_in, constrain_number, define_number, part_number}
use Rattle.term_model.specs.Wellformed.{IsDefinition, IsMember, IsThere, IsWellFormed, HasDefinedSets}
use Rattle.term_model.specs.declared.model.Definition.{Definition}
use Rattle.term_model.specs.declared.model.Member.{Member}
use Rattle.term_model.specs.declared.model.Model.{Model}
use Rattle.term_model.specs.declared.model.Posted.{Posted}
use Rattle.term_model.specs.declared.model.Total.{Total}
use Rattle.term_model.specs.declared.model.VarDecl.{VarDecl}
use Rattle.term_model.specs.declared.model.VarKind.{VarKind}
use Rattle.term_model.specs.declared.model.VarKind.TheVariants.{Number}
use Rattle.term_model.specs.declared.posting.Posting.{Posting}
use Rattle.term_model.specs.declared.posting.Side.{Side}
use Rattle.term_model.specs.declared.posting.Side.TheVariants.{Systems, Objectives}
use Rattle.term_model.proofs.VarLaws.{set_same, named_at, definition_found}

on_true : {P Q : Type 0} (b : Bool) → (P → Q) → OnTrue b P → OnTrue b Q
on_true true f p = f p
on_true false f p = tt

pub always : {P : Type 0} (b : Bool) → P → OnTrue b P
always true p = p
always false p = tt

-- ---- definitions and members
has_within : (vars : List VarDecl) (i : ℕ) (kind : VarKind) → option_map kind_of_var (Some kind) ≡ kinds_in vars i → i < length vars
has_within [] i kind e = let c : Some (kind_of_var kind) ≡ None = e in cc
has_within (v ∷ vars) zero kind e = omega arith
has_within (v ∷ vars) (suc i) kind e = omega (arith, has_within vars i kind e)

definition_here : (M : Model) (def : Definition) (wanted kind : VarKind) → option_map kind_of_var (Some wanted) ≡ kinds_in M.vars.items def.var.index →
    IsKindWithin (kinds_in M.vars.items) MAX_TERM_DEPTH def.term (Some kind) → kind ≡ wanted → IsDefinition M def
definition_here M def wanted kind there within same = record {
  var = has_within M.vars.items def.var.index wanted there;
  kind = within.0 ∙ ap (λ k. Some (kind_of_var k)) same ∙ there;
  depth = within.1;
}

pub definition_from : (M : Model) (def : Definition) (wanted kind : VarKind) (b : Bool) → option_map kind_of_var (Some wanted) ≡ kinds_in M.vars.items def.var.index →
    IsKindWithin (kinds_in M.vars.items) MAX_TERM_DEPTH def.term (Some kind) → OnTrue b (kind ≡ wanted) → OnTrue b (IsDefinition M def)
definition_from M def wanted kind b there within same = on_true b (definition_here M def wanted kind there within) same

pub member_from : (M : Model) (member : Member) → IsKindWithin (kinds_in M.vars.items) MAX_TERM_DEPTH member.term (Some Number) → IsMember M member
member_from M member within = record { kind = within.0; depth = within.1 }

-- ---- what was posted
range_more : (a n : ℕ) → range_with_len a (n + 1) ≡ range_with_len a n ++ (a + n) ∷ []
range_more a zero = ap (λ k. k ∷ []) (let e : a ≡ a + 0 = omega arith in e)
range_more a (suc n) = ap (range_with_len a) (let e : suc n + 1 ≡ suc (n + 1) = omega arith in e) ∙ ap (λ ks. a ∷ ks) (range_more (a + 1) n ∙ ap (λ k. range_with_len (a + 1) n ++ k ∷ []) (let e : a + 1 + n ≡ a + suc n = omega arith in e))

one_number : (f : Posted → Option ℕ) (p : Posted) (n : ℕ) → f p ≡ Some n → filter_map f (p ∷ []) ≡ n ∷ []
one_number f p n e = rw e

no_number : (f : Posted → Option ℕ) (p : Posted) → f p ≡ None → filter_map f (p ∷ []) ≡ []
no_number f p e = rw e

number_more : (f : Posted → Option ℕ) (so_far : List Posted) (p : Posted) (n : ℕ) → f p ≡ Some n → filter_map f so_far ≡ range_with_len 0 n → filter_map f (so_far ++ p ∷ []) ≡ range_with_len 0 (n + 1)
number_more f so_far p n e h =
    filter_map-append f so_far (p ∷ []) ∙ ap (λ ns. ns ++ filter_map f (p ∷ [])) h ∙ ap (λ ns. range_with_len 0 n ++ ns) (one_number f p n e)
    ∙ sym (range_more 0 n ∙ ap (λ k. range_with_len 0 n ++ k ∷ []) (let z : 0 + n ≡ n = omega arith in z))

number_same : (f : Posted → Option ℕ) (so_far : List Posted) (p : Posted) → f p ≡ None → filter_map f (so_far ++ p ∷ []) ≡ filter_map f so_far
number_same f so_far p e = filter_map-append f so_far (p ∷ []) ∙ ap (λ ns. filter_map f so_far ++ ns) (no_number f p e) ∙ append-nil (filter_map f so_far)

pub no_member : (d : ℕ) → Contains [] d → ⊥
no_member d in' = grind (arith, in')

-- ---- counts
same_or_not : (a k : ℕ) (x : ℕ) → nat_eq a k ≡ true → (if nat_eq a k then Some x else None) ≡ Some x
same_or_not a k x e = rw e

eq_self : (k : ℕ) → nat_eq k k ≡ true
eq_self k = grind (arith)

pub not_eq : (a k : ℕ) → (k ≡ a → ⊥) → nat_eq a k ≡ false
not_eq a k ne = cases (nat_eq a k) refl
  where
    cases : (b : Bool) → nat_eq a k ≡ b → nat_eq a k ≡ false
    cases true e = absurd (ne (let same : a ≡ k = grind (arith, e) in sym same))
    cases false e = e

pub some_same : (m n : ℕ) → Some m ≡ Some n → m ≡ n
some_same m n e = let c : Some m ≡ Some n = e in cc

pub less_there : {X : Type 0} (xs : List X) (i : ℕ) (x : X) → slice_get xs i ≡ Some x → i < length xs
less_there [] i x e = let c : None ≡ Some x = e in cc
less_there (y ∷ xs) zero x e = omega arith
less_there (y ∷ xs) (suc i) x e = omega (arith, less_there xs i x e)

module _ (side : Side) (p : Posted) (posting : Posting) (is : (k : ℕ) → number_by side k p ≡ number_in k (Some posting)) (old new : List ℕ) (counted : IsCounted old new posting) (so_far : List Posted) (counts : AreCounts side so_far old) where
  counts_at : (k n : ℕ) → Dec (k ≡ posting.total) → slice_get (set old posting.total (posting.member + 1)) k ≡ Some n → filter_map (number_by side k) (so_far ++ p ∷ []) ≡ range_with_len 0 n
  counts_at k n (yes same) e =
      let there : slice_get (set old posting.total (posting.member + 1)) k ≡ Some (posting.member + 1) = ap (slice_get (set old posting.total (posting.member + 1))) same ∙ set_same old posting.total (posting.member + 1) (less_there old posting.total posting.member counted.0) in
      let number : number_by side k p ≡ Some posting.member = is k ∙ same_or_not posting.total k posting.member (ap (λ j. nat_eq posting.total j) same ∙ eq_self posting.total) in
      number_more (number_by side k) so_far p posting.member number (counts k posting.member (ap (slice_get old) same ∙ counted.0))
      ∙ ap (range_with_len 0) (some_same (posting.member + 1) n (sym there ∙ e))
  counts_at k n (no ne) e =
      let none : number_by side k p ≡ None = is k ∙ ap (λ b. if b then Some posting.member else None) (not_eq posting.total k ne) in
      number_same (number_by side k) so_far p none ∙ counts k n (sym (others_stay old posting.total k (posting.member + 1) ne) ∙ e)

  counts_here : AreCounts side (so_far ++ p ∷ []) new
  counts_here k n e = counts_at k n (ℕ_discrete k posting.total) (ap (λ cs. slice_get cs k) (sym counted.1) ∙ e)

pub counts_more : (side : Side) (p : Posted) (found : Option Posting) (posting : Posting) (old new : List ℕ) (b : Bool) → ((k : ℕ) → number_by side k p ≡ number_in k found) → found ≡ Some posting → OnTrue b (IsCounted old new posting) →
    OnTrue b ((so_far : List Posted) → AreCounts side so_far old → AreCounts side (so_far ++ p ∷ []) new)
counts_more side p found posting old new b is e counted =
    on_true b (λ counted so_far counts. counts_here side p posting (λ k. is k ∙ ap (number_in k) e) old new counted so_far counts) counted

pub counts_same : (side : Side) (p : Posted) (found : Option Posting) (counts : List ℕ) (so_far : List Posted) → ((k : ℕ) → number_by side k p ≡ number_in k found) → found ≡ None → AreCounts side so_far counts → AreCounts side (so_far ++ p ∷ []) counts
counts_same side p found cs so_far is e counts k n there = number_same (number_by side k) so_far p (is k ∙ ap (number_in k) e) ∙ counts k n there

zero_there : (count k n : ℕ) → slice_get (replicate count 0) k ≡ Some n → n ≡ 0
zero_there zero k n e = let c : None ≡ Some n = e in cc
zero_there (suc count) zero n e = sym (some_same 0 n e)
zero_there (suc count) (suc k) n e = zero_there count k n e

pub counts_none : (side : Side) (count : ℕ) → AreCounts side [] (replicate count 0)
counts_none side count k n e = ap (range_with_len 0) (sym (zero_there count k n e))

pub counted_all : (side : Side) (posted : List Posted) (counts : List ℕ) (totals : List Total) (b : Bool) → AreCounts side posted counts → OnTrue b ((k : ℕ) → IsAllCounted counts totals k) →
    OnTrue b ((k : ℕ) (total : Total) → slice_get totals k ≡ Some total → filter_map (number_by side k) posted ≡ range_with_len 0 (length total.members.items))
counted_all side posted counts totals b are all = on_true b (λ all k total there. are k (length total.members.items) (all k total there)) all

-- ---- one number after another
pub below_more : (P : ℕ → Type 0) (k : ℕ) → ((j : ℕ) → j < k → P j) → P k → (j : ℕ) → j < k + 1 → P j
below_more P k below here j lt = cases (ℕ_discrete j k)
  where
    cases : Dec (j ≡ k) → P j
    cases (yes same) = subst P (sym same) here
    cases (no ne) = below j (omega (arith, lt, ne))

pub all_counted : (counts : List ℕ) (totals : List Total) (k : ℕ) → length totals ≤ k → ((j : ℕ) → j < k → IsAllCounted counts totals j) → (j : ℕ) → IsAllCounted counts totals j
all_counted counts totals k le all j total there = all j (omega (arith, le, less_there totals j total there)) total there

pub all_owned : (table : List (Option ℕ)) (defs : List Definition) (k : ℕ) → length defs ≤ k → ((j : ℕ) → j < k → IsOwned table defs j) → (j : ℕ) → IsOwned table defs j
all_owned table defs k le all j def there = all j (omega (arith, le, less_there defs j def there)) def there

pub all_defined : (table : List (Option ℕ)) (vars : List VarDecl) (k : ℕ) → length table ≤ k → ((j : ℕ) → j < k → IsNumberOrDefined table vars j) → (j : ℕ) → IsNumberOrDefined table vars j
all_defined table vars k le all j there = all j (omega (arith, le, less_there table j None there)) there

pub all_ranked : (named : List (Vec ℕ Global)) (ranks : List ℕ) (count k : ℕ) → length named ≤ k → ((j : ℕ) → j < k → IsRanked named ranks count j) → (j : ℕ) → IsRanked named ranks count j
all_ranked named ranks count k le all j names there = all j (omega (arith, le, less_there named j names there)) names there

-- ---- a well formed model
at_of : {X : Type 0} (P : X → Type 0) (xs : List X) → All P xs → (i : ℕ) (x : X) → slice_get xs i ≡ Some x → P x
at_of P xs all i x there = subst P (get_or_from_slice_get xs i x x there) (all i x (less_there xs i x there))

pub well_formed_from : (M : Model) (table : List (Option ℕ)) → All (IsDefinition M) M.defs.items → ((d : ℕ) → IsOwned table M.defs.items d) → All (IsTotal M) M.systems.items → All (IsTotal M) M.objectives.items →
    NamesEachOnce (filter_map define_number M.posted.items) (length M.defs.items) →
    ((k : ℕ) (total : Total) → slice_get M.systems.items k ≡ Some total → filter_map (constrain_number k) M.posted.items ≡ range_with_len 0 (length total.members.items)) →
    ((k : ℕ) (total : Total) → slice_get M.objectives.items k ≡ Some total → filter_map (part_number k) M.posted.items ≡ range_with_len 0 (length total.members.items)) →
    All (IsThere Systems (length M.systems.items)) M.posted.items → All (IsThere Objectives (length M.objectives.items)) M.posted.items →
    NamesEachOnce (users_posted M M.posted.items) (length (users_posted M M.posted.items)) → IsWellFormed M
well_formed_from M table defs owned systems objectives defined constraints parts systems_there objectives_there users = record {
  defs = at_of (IsDefinition M) M.defs.items defs;
  distinct = λ d e def other there there' same. some_same d e (sym (owned d def there) ∙ ap (owner_at table) same ∙ owned e other there');
  systems = λ s total k member there at. at_of (IsMember M) total.members.items (at_of (IsTotal M) M.systems.items systems s total there) k member at;
  objectives = λ s total k member there at. at_of (IsMember M) total.members.items (at_of (IsTotal M) M.objectives.items objectives s total there) k member at;
  posted_defs = defined;
  posted_constraints = constraints;
  posted_parts = parts;
  posted_systems = systems_there;
  posted_objectives = objectives_there;
  users = users;
}

pub sets_from : (M : Model) (table : List (Option ℕ)) (b : Bool) → ((i : ℕ) → i < length M.vars.items → slice_get table i ≡ Some (definition_of M i)) → OnTrue b ((i : ℕ) → IsNumberOrDefined table M.vars.items i) → OnTrue b (HasDefinedSets M)
sets_from M table b each all = on_true b (λ all i lt free. all i (each i lt ∙ ap Some free)) all

-- ---- ranks
vec_at : (lists : List (Vec ℕ Global)) (i : ℕ) (names : List ℕ) → slice_get (map (λ v. v.items) lists) i ≡ Some names → (v : Vec ℕ Global) × (slice_get lists i ≡ Some v) × (v.items ≡ names)
vec_at [] i names e = let c : None ≡ Some names = e in cc
vec_at (v ∷ lists) zero names e = (v, refl, ap (λ (o : Option (List ℕ)). unwrap_or o names) e)
vec_at (v ∷ lists) (suc i) names e = vec_at lists i names e

module _ (M : Model) (formed : IsWellFormed M) (table : List (Option ℕ)) (named : List (Vec ℕ Global)) (ranks : List ℕ)
    (each : (i : ℕ) → i < length M.vars.items → slice_get table i ≡ Some (definition_of M i)) (names : map (λ v. v.items) named ≡ map (named_by M.defs.items) table) where
  list_of : (i : ℕ) → i < length M.vars.items → (v : Vec ℕ Global) × (slice_get named i ≡ Some v) × (v.items ≡ named_by M.defs.items (definition_of M i))
  list_of i lt = vec_at named i (named_by M.defs.items (definition_of M i)) (ap (λ ls. slice_get ls i) names ∙ named_at (named_by M.defs.items) table i (definition_of M i) (each i lt))

  has_names : (i d : ℕ) (entry : Option ℕ) → definition_of M i ≡ entry → Contains (named_by M.defs.items entry) d → i < length M.vars.items
  has_names i d None e in' = absurd (no_member d in')
  has_names i d (Some e') e in' = let found = definition_found M i e' e in subst (λ n. n < length M.vars.items) found.2 (formed.defs e' found.0 found.1).var

  acyclic_here : ((i : ℕ) → IsRanked named ranks (length M.vars.items) i) → IsAcyclic M
  acyclic_here all = record {
    rank = rank_at ranks;
    within = λ i lt. let list = list_of i lt in (all i list.0 list.1).0;
    falls = λ i d in'.
        let lt = has_names i d (definition_of M i) refl in' in
        let list = list_of i lt in
        let below : is_below ranks i d ≡ true = All-contains (λ n. is_below ranks i n ≡ true) list.0.items d (AllPass-from_list_all (is_below ranks i) list.0.items (all i list.0 list.1).1) (subst (λ ns. Contains ns d) (sym list.2) in') in
        grind (arith, below);
  }

  pub acyclic_from : (b : Bool) → OnTrue b ((i : ℕ) → IsRanked named ranks (length M.vars.items) i) → OnTrue b (IsAcyclic M)
  acyclic_from b all = on_true b acyclic_here all

  pub acyclic_again : (b : Bool) (named' : List (Vec ℕ Global)) (ranks' : List ℕ) (count : ℕ) → named' ≡ named → ranks' ≡ ranks → count ≡ length M.vars.items → OnTrue b ((i : ℕ) → IsRanked named' ranks' count i) → OnTrue b (IsAcyclic M)
  acyclic_again b named' ranks' count same same' whole all =
      acyclic_from b (subst (λ n. OnTrue b ((i : ℕ) → IsRanked named ranks n i)) whole
      (subst (λ rs. OnTrue b ((i : ℕ) → IsRanked named rs count i)) same'
      (subst (λ ns. OnTrue b ((i : ℕ) → IsRanked ns ranks' count i)) same all)))

pub posted_more : (posted : List Posted) (i : ℕ) (p : Posted) → i < length posted → p ≡ get_or posted i p → take (i + 1) posted ≡ take i posted ++ p ∷ []
posted_more posted i p lt is = take_more posted i p lt ∙ ap (λ q. take i posted ++ q ∷ []) (sym is)

-- ---- what was posted to a system or an objective that is there
pub counted_there : (side : Side) (count : ℕ) (p : Posted) (found : Option Posting) (posting : Posting) (old new : List ℕ) (b : Bool) → ((n : ℕ) → ForSome found (λ q. q.total < n) → IsThere side n p) → found ≡ Some posting →
    length old ≡ count → OnTrue b (IsCounted old new posting) → OnTrue b (IsThere side count p)
counted_there side count p found posting old new b there e long counted =
    on_true b (λ is. there count (λ q h. subst (λ (r : Posting). r.total < count) (ap (λ o. unwrap_or o posting) (sym e ∙ h)) (subst (λ n. posting.total < n) long (less_there old posting.total posting.member is.0)))) counted

pub none_there : (side : Side) (count : ℕ) (p : Posted) (found : Option Posting) → ((n : ℕ) → ForSome found (λ q. q.total < n) → IsThere side n p) → found ≡ None → IsThere side count p
none_there side count p found there e = there count (λ q h. let no : None ≡ Some q = sym e ∙ h in cc)

pub numbers_more : (posted : List Posted) (k : ℕ) (p : Posted) (so_far after : List ℕ) (f : Posted → Option ℕ) → k < length posted → p ≡ get_or posted k p → so_far ≡ filter_map f (take k posted) → after ≡ so_far ++ filter_map f (p ∷ []) →
    after ≡ filter_map f (take (k + 1) posted)
numbers_more posted k p so_far after f lt is e next =
    next ∙ ap (λ ns. ns ++ filter_map f (p ∷ [])) e ∙ sym (ap (filter_map f) (posted_more posted k p lt is) ∙ filter_map-append f (take k posted) (p ∷ []))
