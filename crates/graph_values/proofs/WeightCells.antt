-- Where the weights of a total's members stand among those of all, and that a cell of a weight has no definition.
use Rattle.std.proofs.Common.{◌≡◌, ℕ, ℤ, zero, suc, pos, ◌+◌, ◌<◌, ◌≤◌, Bool, true, false, List, [], ◌∷◌, ◌++◌, map, Option, Some, None, length, refl, sym, ap, ◌∙◌, slice_get, inl, inr, arith}
use Rattle.std.specs.Prelude.{if◌then◌else◌, nat_eq, slice_index_or}
use Rattle.std.specs.List.{cons_option, filter_map, range_with_len}
use Rattle.std.specs.Option.{option_and_then}
use Rattle.std.proofs.Math.Seq.{get_or-append_seam}
use Rattle.std.proofs.lemmas.Bool.{cases_lt}
use Rattle.std.proofs.lemmas.List.{append-nil, append_assoc, length-append, length-map, map-append}
use Rattle.std.proofs.lemmas.Option.{slice_get_past}
use Rattle.cbl_base.specs.declared.input.Input.TheVariants.{Int}
use Rattle.model_values.specs.Fresh.{whole_by}
use Rattle.model_values.specs.Support.{member_in}
use Rattle.model_values.specs.declared.wholes.Whole.TheVariants.{System}
use Rattle.store_build.specs.Aims.{start_of}
use Rattle.term_model.specs.Definitions.{definition_of}
use Rattle.term_model.specs.Posting.{member_at}
use Rattle.term_model.specs.Wellformed.{IsWellFormed}
use Rattle.term_model.specs.declared.model.Member.{Member}
use Rattle.term_model.specs.declared.model.Model.{Model}
use Rattle.term_model.specs.declared.model.Posted.{Posted}
use Rattle.term_model.specs.declared.model.Posted.TheVariants.{Define, Constrain, Part}
use Rattle.term_model.specs.declared.model.Total.{Total}
use Rattle.term_model.specs.declared.posting.Side.{Side}
use Rattle.term_model.specs.declared.posting.Side.TheVariants.{Systems}
use Rattle.term_model.proofs.VarLaws.{definition_found}
use Rattle.graph_values.specs.Members.{cells_of, members_before, members_by, members_of, numbers_of, variables_of, weights_of}
use Rattle.graph_values.specs.Totals.{weight_ids}

-- ---- ranges
pub range_same : {X : Type 0} (f g : ℕ → X) (n len : ℕ) → ((i : ℕ) → n ≤ i → i < n + len → f i ≡ g i) → map f (range_with_len n len) ≡ map g (range_with_len n len)
range_same f g n zero same = refl
range_same f g n (suc len) same =
    ap (λ x. x ∷ map f (range_with_len (n + 1) len)) (same n (omega arith) (omega arith))
    ∙ ap (λ xs. g n ∷ xs) (range_same f g (n + 1) len (λ i low high. same i (omega (arith, low)) (omega (arith, high))))

-- what stands in a list behind another, read at its places
pub range_read : {X : Type 0} (d : X) (xs ys zs : List X) → map (λ i. slice_index_or (xs ++ (ys ++ zs)) i d) (range_with_len (length xs) (length ys)) ≡ ys
range_read d xs [] zs = refl
range_read d xs (y ∷ ys) zs =
    ap (λ x. x ∷ map (λ i. slice_index_or (xs ++ (y ∷ (ys ++ zs))) i d) (range_with_len (length xs + 1) (length ys))) (get_or-append_seam xs y (ys ++ zs) d)
    ∙ ap (λ rest. y ∷ rest)
    (ap (λ n. map (λ i. slice_index_or (xs ++ (y ∷ (ys ++ zs))) i d) (range_with_len n (length ys))) (sym (length-append xs (y ∷ [])))
    ∙ ap (λ whole. map (λ i. slice_index_or whole i d) (range_with_len (length (xs ++ y ∷ [])) (length ys))) (sym (append_assoc xs (y ∷ []) (ys ++ zs)))
    ∙ range_read d (xs ++ y ∷ []) ys zs)

-- ---- the members of one total among those of all
module _ (M : Model) (side : Side) where
  pub split : (k n : ℕ) → k < n → (rest : List Member) × (members_before M side n ≡ members_before M side k ++ (members_of M (whole_by side k) ++ rest))
  split k zero lt = absurd (omega (arith, lt))
  split k (suc n) lt = elim (cases_lt k n) [
    | inl low ↦ (let own = split k n low in (
      own.0 ++ members_of M (whole_by side n),
      ap (λ ms. ms ++ members_of M (whole_by side n)) own.1
          ∙ append_assoc (members_before M side k) (members_of M (whole_by side k) ++ own.0) (members_of M (whole_by side n))
          ∙ ap (λ ms. members_before M side k ++ ms) (append_assoc (members_of M (whole_by side k)) own.0 (members_of M (whole_by side n))),
    ))
    | inr high ↦ (let same : n ≡ k = omega (arith, lt, high) in (
      [],
      ap (λ j. members_before M side j ++ members_of M (whole_by side j)) same ∙ ap (λ ms. members_before M side k ++ ms) (sym (append-nil (members_of M (whole_by side k)))),
    ))
  ]

  pub within : (k n : ℕ) → k < n → length (members_before M side k) + length (members_of M (whole_by side k)) ≤ length (members_before M side n)
  within k n lt =
      let own = split k n lt in
      let whole : length (members_before M side n) ≡ length (members_before M side k) + (length (members_of M (whole_by side k)) + length own.0) =
      ap length own.1 ∙ length-append (members_before M side k) (members_of M (whole_by side k) ++ own.0) ∙ ap (λ n. length (members_before M side k) + n) (length-append (members_of M (whole_by side k)) own.0) in
      omega (arith, whole)

-- ---- a system that isn't there has no members
none_filtered : {X Y : Type 0} (h : X → Option Y) → ((x : X) → h x ≡ None) → (xs : List X) → filter_map h xs ≡ []
none_filtered h none [] = refl
none_filtered h none (x ∷ xs) = ap (λ o. cons_option o (filter_map h xs)) (none x) ∙ none_filtered h none xs

either_none : (b : Bool) (o : Option Member) → o ≡ None → (if b then o else None) ≡ None
either_none true o e = e
either_none false o e = refl

pub no_members : (M : Model) (s : ℕ) → length M.systems.items ≤ s → members_of M (System s) ≡ []
no_members M s past = none_filtered (member_in M (System s)) none M.posted.items
  where
    none : (p : Posted) → member_in M (System s) p ≡ None
    none (Define d) = refl
    none (Constrain system k) = either_none (nat_eq system s) (member_at M.systems.items s k) (ap (λ (o : Option Total). option_and_then (λ (total : Total). slice_get total.members.items k) o) (slice_get_past M.systems.items s past))
    none (Part objective k) = refl

-- ---- the numbers in the cells of weights
module _ (M : Model) (a : List ℤ) (long : length a ≡ variables_of M) where
  there : (s : ℕ) → s < length M.systems.items → map (start_of (numbers_of M a)) (weight_ids M (System s)) ≡ map Int (map (λ m. m.weight) (members_of M (System s)))
  there s lt =
      let own = split M Systems s (length M.systems.items) lt in
      let before = map (λ (m : Member). m.weight) (members_before M Systems s) in
      let mine = map (λ (m : Member). m.weight) (members_of M (System s)) in
      let rest = map (λ (m : Member). m.weight) own.0 in
      let parts : weights_of M ≡ before ++ (mine ++ rest) =
      ap (map (λ (m : Member). m.weight)) own.1 ∙ map-append (λ (m : Member). m.weight) (members_before M Systems s) (members_of M (System s) ++ own.0)
      ∙ ap (λ ws. before ++ ws) (map-append (λ (m : Member). m.weight) (members_of M (System s)) own.0) in
      let whole : numbers_of M a ≡ (a ++ before) ++ (mine ++ rest) = ap (λ ws. a ++ ws) parts ∙ sym (append_assoc a before (mine ++ rest)) in
      let first : variables_of M + length (members_before M Systems s) ≡ length (a ++ before) =
      ap (λ n. n + length (members_before M Systems s)) (sym long) ∙ ap (λ n. length a + n) (sym (length-map (members_before M Systems s) (λ (m : Member). m.weight))) ∙ sym (length-append a before) in
      let count : length (members_of M (System s)) ≡ length mine = sym (length-map (members_of M (System s)) (λ (m : Member). m.weight)) in
      ap (λ ns. map (start_of ns) (weight_ids M (System s))) whole
      ∙ ap (λ n. map (start_of ((a ++ before) ++ (mine ++ rest))) (range_with_len n (length (members_of M (System s))))) first
      ∙ ap (λ n. map (start_of ((a ++ before) ++ (mine ++ rest))) (range_with_len (length (a ++ before)) n)) count
      ∙ numbers (a ++ before) mine rest
    where
      each : (ns : List ℤ) (is : List ℕ) → map (start_of ns) is ≡ map Int (map (λ i. slice_index_or ns i (pos 0)) is)
      each ns [] = refl
      each ns (i ∷ is) = ap (λ xs. start_of ns i ∷ xs) (each ns is)

      numbers : (xs ys zs : List ℤ) → map (start_of (xs ++ (ys ++ zs))) (range_with_len (length xs) (length ys)) ≡ map Int ys
      numbers xs ys zs = each (xs ++ (ys ++ zs)) (range_with_len (length xs) (length ys)) ∙ ap (map Int) (range_read (pos 0) xs ys zs)

  pub weights_read : (s : ℕ) → map (start_of (numbers_of M a)) (weight_ids M (System s)) ≡ map Int (map (λ m. m.weight) (members_of M (System s)))
  weights_read s = elim (cases_lt s (length M.systems.items)) [
    | inl low ↦ there s low
    | inr high ↦ (let none = no_members M s (omega (arith, high)) in
        ap (λ n. map (start_of (numbers_of M a)) (range_with_len (variables_of M + length (members_before M Systems s)) n)) (ap length none) ∙ sym (ap (λ ms. map Int (map (λ (m : Member). m.weight) ms)) none))
  ]

  pub length_numbers : length (numbers_of M a) ≡ cells_of M
  length_numbers = length-append a (weights_of M) ∙ ap (λ n. n + length (weights_of M)) long ∙ ap (λ n. variables_of M + n) (length-map (members_by M Systems) (λ (m : Member). m.weight))

-- the ids of a system's weights are cells behind the variables'
pub weight_within : (M : Model) (s i : ℕ) → variables_of M + length (members_before M Systems s) ≤ i → i < variables_of M + length (members_before M Systems s) + length (members_of M (System s)) → (variables_of M ≤ i) × (i < cells_of M)
weight_within M s i low high = (
  omega (arith, low),
  elim (cases_lt s (length M.systems.items)) [
    | inl lt ↦ (let all : length (members_before M Systems s) + length (members_of M (System s)) ≤ length (members_by M Systems) = within M Systems s (length M.systems.items) lt in omega (arith, high, all))
    | inr past ↦ (let none : length (members_of M (System s)) ≡ 0 = ap length (no_members M s (omega (arith, past))) in absurd (omega (arith, low, high, none)))
  ],
)

-- ---- and they have no definition
pub no_definition : (M : Model) → IsWellFormed M → (i : ℕ) → variables_of M ≤ i → definition_of M i ≡ None
no_definition M formed i past = by (definition_of M i) refl
  where
    by : (entry : Option ℕ) → definition_of M i ≡ entry → definition_of M i ≡ None
    by None e = e
    by (Some d) e =
        let found = definition_found M i d e in
        let low = (formed.defs d found.0 found.1).var in
        let same = found.2 in
        absurd (omega (arith, low, same, past))
