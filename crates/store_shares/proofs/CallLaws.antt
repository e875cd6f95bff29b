-- What a call tells is the violations of the variable in the system.
use Rattle.std.proofs.Common.{◌≡◌, ℕ, ℤ, pos, zero, suc, ◌+◌, ◌<◌, Bool, true, false, ◌||◌, List, [], ◌∷◌, Option, Some, None, Result, Ok, length, map, refl, sym, ap, ◌∙◌, subst, arith, All, slice_get}
use Rattle.std.specs.Prelude.{filter_map, nat_eq, unwrap_or, if◌then◌else◌}
use Rattle.std.specs.List.{cons_option, list_any, range_with_len}
use Rattle.std.specs.Option.{option_and_then}
use Rattle.std.proofs.lemmas.List.Elements.{All-head, All-tail}
use Rattle.std.proofs.lemmas.List.Folds.{list_any-append}
use Rattle.cbl_base.specs.NumberRule.{NumberRule}
use Rattle.cbl_base.specs.declared.faults.RunFault.{RunFault}
use Rattle.model_values.specs.Dependence.{var_depends}
use Rattle.model_values.specs.Outcomes.{Outcome}
use Rattle.model_values.specs.Support.{member_in}
use Rattle.model_values.specs.declared.wholes.Whole.TheVariants.{System}
use Rattle.term_model.specs.Definitions.{joined}
use Rattle.term_model.specs.Posting.{constrain_number, member_at}
use Rattle.term_model.specs.Wellformed.{IsWellFormed}
use Rattle.term_model.specs.declared.model.Member.{Member}
use Rattle.term_model.specs.declared.model.Model.{Model}
use Rattle.term_model.specs.declared.model.Posted.{Posted}
use Rattle.term_model.specs.declared.model.Posted.TheVariants.{Define, Constrain, Part as PartPosted}
use Rattle.term_model.specs.declared.model.Total.{Total}
use Rattle.term_model.specs.declared.term.Term.{Term}
use Rattle.violation_shares.specs.VariableViolations.{violation_in_system}
use Rattle.store_shares.specs.Calls.{AreZero, no_tally, tallied, tally_all}
use Rattle.store_shares.specs.Made.{AreKnown, AreWeights, IsSharesOf, parts_in, slots_in, terms_of}
use Rattle.store_shares.specs.Parts.{Reading, told, violation_of}
use Rattle.store_shares.specs.Slots.{AreMarked, joined_slots, slots_of}
use Rattle.store_shares.specs.Telling.{AllTell, AreReads}
use Rattle.store_shares.specs.Settled.{known_words}
use Rattle.store_shares.specs.Words.{has}
use Rattle.store_shares.specs.declared.parts.Part.{Part}
use Rattle.store_shares.specs.declared.parts.Span.{Span}
use Rattle.store_shares.specs.declared.shares.Shares.{Shares}
use Rattle.store_shares.specs.declared.words.Word.{Word}
use Rattle.std.proofs.lemmas.Option.{slice_get_within}
use Rattle.store_shares.proofs.MakingLaws.{tell_length}
use Rattle.store_shares.proofs.ReadingLaws.{there_is}
use Rattle.store_shares.proofs.SystemLaws.{system_is, tally_is}
use Rattle.store_shares.proofs.TellLaws.{all_right, marks_left, marks_right, one_in_any, violations_told}
use Rattle.store_shares.proofs.TermLaws.{share}

-- ---- the members of a system, in order of posting, are those of its list
member_by : (M : Model) (s : ℕ) (total : Total) → slice_get M.systems.items s ≡ Some total → (p : Posted) → member_in M (System s) p ≡ option_and_then (slice_get total.members.items) (constrain_number s p)
member_by M s total e (Define d) = refl
member_by M s total e (PartPosted objective member) = refl
member_by M s total e (Constrain system member) = by_test (nat_eq system s) refl
  where
    by_test : (b : Bool) → nat_eq system s ≡ b → (if nat_eq system s then member_at M.systems.items s member else None) ≡ option_and_then (slice_get total.members.items) (if nat_eq system s then Some member else None)
    by_test true h =
        ap (λ b. if b then member_at M.systems.items s member else None) h ∙ ap (option_and_then (λ (t : Total). slice_get t.members.items member)) e
        ∙ ap (λ b. option_and_then (slice_get total.members.items) (if b then Some member else None)) (sym h)
    by_test false h =
        ap (λ b. if b then member_at M.systems.items s member else None) h
        ∙ ap (λ b. option_and_then (slice_get total.members.items) (if b then Some member else None)) (sym h)

filter_two : {X : Type 0} (f : Posted → Option X) (g : Posted → Option ℕ) (h : ℕ → Option X) → ((p : Posted) → f p ≡ option_and_then h (g p)) → (posted : List Posted) → filter_map f posted ≡ filter_map h (filter_map g posted)
filter_two f g h same [] = refl
filter_two f g h same (p ∷ posted) = ap (λ o. cons_option o (filter_map f posted)) (same p) ∙ one (filter_two f g h same posted) (g p)
  where
    one : filter_map f posted ≡ filter_map h (filter_map g posted) → (o : Option ℕ) → cons_option (option_and_then h o) (filter_map f posted) ≡ filter_map h (cons_option o (filter_map g posted))
    one rest (Some k) = ap (cons_option (h k)) rest
    one rest None = rest

all_listed : {X : Type 0} (f : ℕ → Option X) (xs : List X) (a : ℕ) → ((k : ℕ) → f (a + k) ≡ slice_get xs k) → filter_map f (range_with_len a (length xs)) ≡ xs
all_listed f [] a h = refl
all_listed f (x ∷ xs) a h =
    let here : a ≡ a + 0 = omega arith in
    ap (λ o. cons_option o (filter_map f (range_with_len (a + 1) (length xs)))) (ap f here ∙ h 0)
    ∙ ap (λ l. x ∷ l) (all_listed f xs (a + 1) (λ k. let at : a + 1 + k ≡ a + suc k = omega arith in ap f at ∙ h (suc k)))

pub members_are : (M : Model) → IsWellFormed M → (s : ℕ) (total : Total) → slice_get M.systems.items s ≡ Some total → filter_map (member_in M (System s)) M.posted.items ≡ total.members.items
members_are M formed s total e =
    filter_two (member_in M (System s)) (constrain_number s) (slice_get total.members.items) (member_by M s total e) M.posted.items
    ∙ ap (filter_map (slice_get total.members.items)) (formed.posted_constraints s total e)
    ∙ all_listed (slice_get total.members.items) total.members.items 0 (λ k. let at : 0 + k ≡ k = omega arith in ap (slice_get total.members.items) at)

-- ---- lists of members
terms_mapped : {X : Type 0} (f : Term → X) (members : List Member) → map f (map (λ (m : Member). m.term) members) ≡ map (λ (m : Member). f m.term) members
terms_mapped f [] = refl
terms_mapped f (m ∷ members) = ap (λ l. f m.term ∷ l) (terms_mapped f members)

length_of : {X Y : Type 0} (f : X → Y) (xs : List X) → length (map f xs) ≡ length xs
length_of f [] = refl
length_of f (x ∷ xs) = let e = length_of f xs in omega (arith, e)

weights_are : (weight : ℕ → ℤ) (members : List Member) (a : ℕ) → ((k : ℕ) (m : Member) → slice_get members k ≡ Some m → weight (a + k) ≡ m.weight) → map weight (range_with_len a (length members)) ≡ map (λ (m : Member). m.weight) members
weights_are weight [] a h = refl
weights_are weight (m ∷ members) a h =
    let here : a ≡ a + 0 = omega arith in
    let one : weight a ≡ m.weight = ap weight here ∙ h 0 m refl in
    let rest = weights_are weight members (a + 1) (λ k n at. let to : a + 1 + k ≡ a + suc k = omega arith in ap weight to ∙ h (suc k) n at) in
    λ i. one i ∷ rest i

any_joined_slots : (depends : ℕ → Bool) (ss : List (List ℕ)) → list_any depends (joined ss) ≡ list_any (list_any depends) ss
any_joined_slots depends [] = refl
any_joined_slots depends (s ∷ ss) = list_any-append depends s (joined ss) ∙ ap (λ b. list_any depends s || b) (any_joined_slots depends ss)

some_is : (a b : Result ℤ RunFault) → Some a ≡ Some b → b ≡ a
some_is a b e = sym (ap (λ o. unwrap_or o a) e)

-- a member that isn't touched has violations 0
module _ (ids : Term → ℕ) (users : ℕ → NumberRule) (env : ℕ → Outcome) (depends : ℕ → Bool) (known : Term → Bool) (reading : Reading) (test : ℕ → Bool) (reads : AreReads users env ids known reading) where
  untouched : (parts : List Part) (terms : List Term) (first : ℕ) → AllTell ids parts terms first → All (λ t. known t ≡ true) terms → AreMarked test depends first (joined_slots (map slots_of terms)) →
      (k : ℕ) (v : Result ℤ RunFault) → slice_get (map (share users env depends) terms) k ≡ Some v → ((t : Term) → slice_get terms k ≡ Some t → list_any depends (joined (slots_of t)) ≡ false) → v ≡ Ok (pos 0)
  untouched [] [] first tell knows marks k v at none = let c : None ≡ Some v = at in cc
  untouched [] (t ∷ terms) first tell knows marks k v at none = absurd tell
  untouched (part ∷ parts) [] first tell knows marks k v at none = absurd tell
  untouched (part ∷ parts) (t ∷ terms) first tell knows marks zero v at none =
      let mine = marks_left test depends first (slots_of t) (joined_slots (map slots_of terms)) marks in
      let one = tell.0 users env depends known reading test reads (All-head (λ u. known u ≡ true) t terms knows) mine in
      some_is (share users env depends t) v at ∙ one.none (one_in_any test depends first (slots_of t) mine ∙ sym (any_joined_slots depends (slots_of t)) ∙ none t refl)
  untouched (part ∷ parts) (t ∷ terms) first tell knows marks (suc k) v at none =
      untouched parts terms (first + length (slots_of t)) tell.1 (All-tail (λ u. known u ≡ true) t terms knows) (marks_right test depends first (slots_of t) (joined_slots (map slots_of terms)) marks) k v at none

  -- the tally of what the parts tell is the violations in the system
  pub call_is : (M : Model) → IsWellFormed M → (s : ℕ) (total : Total) → slice_get M.systems.items s ≡ Some total → (parts : List Part) (first : ℕ) (weight : ℕ → ℤ) → AllTell ids parts (terms_of total) first → All (λ t. known t ≡ true) (terms_of total) →
      AreMarked test depends first (slots_in total) → ((k : ℕ) (m : Member) → slice_get total.members.items k ≡ Some m → weight k ≡ m.weight) →
      tallied (tally_all no_tally (map violation_of (map (told reading test) parts)) (map weight (range_with_len 0 (length total.members.items)))) ≡ violation_in_system users M env depends s
  call_is M formed s total e parts first weight tell knows marks weighs =
      let members = total.members.items in
      let same : map violation_of (map (told reading test) parts) ≡ map (λ (m : Member). share users env depends m.term) total.members.items =
      ap (map violation_of) (all_right ids users env depends known reading test reads parts (terms_of total) first tell knows marks) ∙ violations_told users env depends (terms_of total) ∙ terms_mapped (share users env depends) total.members.items in
      let weights : map weight (range_with_len 0 (length total.members.items)) ≡ map (λ (m : Member). m.weight) total.members.items =
      weights_are weight total.members.items 0 (λ k m at. let to : 0 + k ≡ k = omega arith in ap weight to ∙ weighs k m at) in
      let long : length (map (λ (m : Member). share users env depends m.term) total.members.items) ≡ length (map (λ (m : Member). m.weight) total.members.items) =
      length_of (λ (m : Member). share users env depends m.term) total.members.items ∙ sym (length_of (λ (m : Member). m.weight) total.members.items) in
      ap (λ vs. tallied (tally_all no_tally vs (map weight (range_with_len 0 (length total.members.items))))) same
      ∙ ap (λ ws. tallied (tally_all no_tally (map (λ (m : Member). share users env depends m.term) total.members.items) ws)) weights
      ∙ sym (tally_is (map (λ (m : Member). share users env depends m.term) total.members.items) (map (λ (m : Member). m.weight) total.members.items) long)
      ∙ sym (system_is users env depends M s total.members.items (members_are M formed s total e))

-- ---- what a call answers
term_there : (terms : List Term) (f : Term → Result ℤ RunFault) (k : ℕ) (v : Result ℤ RunFault) → slice_get (map f terms) k ≡ Some v → (t : Term) × (slice_get terms k ≡ Some t)
term_there [] f k v at = let c : None ≡ Some v = at in cc
term_there (t ∷ terms) f zero v at = (t, refl)
term_there (t ∷ terms) f (suc k) v at = term_there terms f k v at

same_term_there : (terms : List Term) (k : ℕ) (t u : Term) → slice_get terms k ≡ Some t → slice_get terms k ≡ Some u → t ≡ u
same_term_there terms k t u one other = ap (λ o. unwrap_or o t) (sym one ∙ other)

module _ (users : ℕ → NumberRule) (M : Model) (env : ℕ → Outcome) (ids : Term → ℕ) (known : Term → Bool) (reading : Reading) (formed : IsWellFormed M) (shares : Shares) (kept : IsSharesOf M ids shares) (reads : AreReads users env ids known reading)
    (s : ℕ) (weight : ℕ → ℕ → ℤ) (weights : AreWeights M s weight) (knows : AreKnown M s known) (x : ℕ) (is_var : x < length M.vars.items) where
  module _ (total : Total) (at : slice_get M.systems.items s ≡ Some total) (span : Span) (is : span ≡ (kept.systems s total at).span) where
    tells : AllTell ids (parts_in shares (Some span)) (terms_of total) (kept.systems s total at).first_slot
    tells = subst (λ r. AllTell ids (parts_in shares (Some r)) (terms_of total) (kept.systems s total at).first_slot) (sym is) (kept.systems s total at).tell

    marks : AreMarked (has (known_words shares.slots.items x)) (var_depends M x) (kept.systems s total at).first_slot (slots_in total)
    marks k lt =
        kept.slot_sets.each x ((kept.systems s total at).first_slot + k) is_var
        ∙ ap (list_any (var_depends M x)) ((kept.systems s total at).slots_there k lt)

    told_is : map violation_of (map (told reading (has (known_words shares.slots.items x))) (parts_in shares (Some span))) ≡ map (share users env (var_depends M x)) (terms_of total)
    told_is =
        ap (map violation_of) (all_right ids users env (var_depends M x) known reading (has (known_words shares.slots.items x)) reads (parts_in shares (Some span)) (terms_of total) (kept.systems s total at).first_slot tells (knows total at) marks)
        ∙ violations_told users env (var_depends M x) (terms_of total)

    zeros : AreZero (has (known_words shares.members.items x)) span.first (map violation_of (map (told reading (has (known_words shares.slots.items x))) (parts_in shares (Some span))))
    zeros k v there none =
        let here : slice_get (map (share users env (var_depends M x)) (terms_of total)) k ≡ Some v = ap (λ l. slice_get l k) (sym told_is) ∙ there in
        untouched ids users env (var_depends M x) known reading (has (known_words shares.slots.items x)) reads (parts_in shares (Some span)) (terms_of total) (kept.systems s total at).first_slot tells (knows total at) marks k v here
        (λ t term.
        let first : (kept.systems s total at).span.first + k ≡ span.first + k = ap (λ (r : Span). r.first + k) (sym is) in
        ap (list_any (var_depends M x)) (sym ((kept.systems s total at).members_there k t term))
        ∙ sym (kept.member_sets.each x ((kept.systems s total at).span.first + k) is_var) ∙ ap (has (known_words shares.members.items x)) first ∙ none)

    count : length (parts_in shares (Some span)) ≡ length total.members.items
    count = tell_length ids (parts_in shares (Some span)) (terms_of total) (kept.systems s total at).first_slot tells ∙ length_of (λ (m : Member). m.term) total.members.items

    pub total_is : tallied (tally_all no_tally (map violation_of (map (told reading (has (known_words shares.slots.items x))) (parts_in shares (Some span)))) (map (weight s) (range_with_len 0 (length (parts_in shares (Some span)))))) ≡ violation_in_system users M env (var_depends M x) s
    total_is =
        ap (λ n. tallied (tally_all no_tally (map violation_of (map (told reading (has (known_words shares.slots.items x))) (parts_in shares (Some span)))) (map (weight s) (range_with_len 0 n)))) count
        ∙ call_is ids users env (var_depends M x) known reading (has (known_words shares.slots.items x)) reads M formed s total at (parts_in shares (Some span)) (kept.systems s total at).first_slot (weight s) tells (knows total at) marks
        (λ k m there. weights total k m at there)

  pub answer_is : (span : Span) → slice_get shares.systems.items s ≡ Some span → (result : Result ℤ RunFault) →
      (AreZero (has (known_words shares.members.items x)) span.first (map violation_of (map (told reading (has (known_words shares.slots.items x))) (parts_in shares (Some span)))) →
      result ≡ tallied (tally_all no_tally (map violation_of (map (told reading (has (known_words shares.slots.items x))) (parts_in shares (Some span)))) (map (weight s) (range_with_len 0 (length (parts_in shares (Some span))))))) →
      result ≡ violation_in_system users M env (var_depends M x) s
  answer_is span there result answers =
      let within : s < length shares.systems.items = slice_get_within shares.systems.items s span there in
      let lt : s < length M.systems.items = subst (λ n. s < n) kept.count within in
      let total = there_is M.systems.items s lt in
      let is : span ≡ (kept.systems s total.0 total.1).span = ap (λ (o : Option Span). unwrap_or o span) (sym there ∙ (kept.systems s total.0 total.1).kept) in
      answers (zeros total.0 total.1 span is) ∙ total_is total.0 total.1 span is

  -- the same where the sets and the parts are taken out first
  abbrev Answers : ℕ → Result ℤ RunFault → List Word → List Word → List Part → Type 0
  Answers first result slots members parts =
      AreZero (has members) first (map violation_of (map (told reading (has slots)) parts)) →
      result ≡ tallied (tally_all no_tally (map violation_of (map (told reading (has slots)) parts)) (map (weight s) (range_with_len 0 (length parts))))

  pub answer_by : (span : Span) → slice_get shares.systems.items s ≡ Some span → (result : Result ℤ RunFault) (slots members : List Word) (parts : List Part) →
      slots ≡ known_words shares.slots.items x → members ≡ known_words shares.members.items x → parts ≡ parts_in shares (Some span) → Answers span.first result slots members parts →
      result ≡ violation_in_system users M env (var_depends M x) s
  answer_by span there result slots members parts e f h answers =
      answer_is span there result (subst (Answers span.first result (known_words shares.slots.items x) (known_words shares.members.items x)) h
      (subst (λ m. Answers span.first result (known_words shares.slots.items x) m parts) f (subst (λ l. Answers span.first result l members parts) e answers)))
