-- Changes from place to place make one list into another.
use Rattle.std.proofs.Common.{◌≡◌, ◌≢◌, ℕ, zero, suc, ◌+◌, ◌<◌, ◌≤◌, List, [], ◌∷◌, ◌++◌, length, get_or, set, take, drop, refl, ap, sym, ◌∙◌, subst, arith, append-nil}
use Rattle.std.specs.Prelude.{Some, slice_get}
use Rattle.std.proofs.lemmas.List.{take_all, drop_all}
use Rattle.std.proofs.lemmas.List.Sums.{fold-append}
use Rattle.std.proofs.lemmas.Option.{slice_get-get_or}
use Rattle.cbl_base.specs.declared.input.Change.{Change}
use Rattle.cbl_base.specs.declared.input.Input.{Input}
use Rattle.cbl_base.specs.Changes.{IsChange, NoneAt, AreChanges, after_change, after_changes, place_of}
use Rattle.node_states.specs.Step.{IsStep}

-- all are at places below this one
abbrev pub AllBelow : ℕ → List Change → Type 0
AllBelow i [] = Unit {0}
AllBelow i (c ∷ cs) = (place_of c < i) × AllBelow i cs

-- the changes so far, up to a place, which make the list there as the other
pub record Comes (from to : List Input) (i : ℕ) (cs : List Change) : Type 0 where
  pub below : AllBelow i cs
  pub are : AreChanges from cs
  pub after : after_changes from cs ≡ take i to ++ drop i from

pub none_push : (p : ℕ) (cs : List Change) (c : Change) → NoneAt p cs → place_of c ≢ p → NoneAt p (cs ++ c ∷ [])
none_push p [] c n ne = (ne, tt)
none_push p (d ∷ cs) c n ne = (n.0, none_push p cs c n.1 ne)

changes_push : (xs : List Input) (cs : List Change) (c : Change) → AreChanges xs cs → IsChange xs c → AllBelow (place_of c) cs → AreChanges xs (cs ++ c ∷ [])
changes_push xs [] c are is below = (is, tt, tt)
changes_push xs (d ∷ cs) c are is below =
    (are.0, none_push (place_of d) cs c are.1 (λ e. let lt = below.0 in omega (arith, e, lt)), changes_push xs cs c are.2 is below.1)

below_push : (i : ℕ) (cs : List Change) (c : Change) → AllBelow i cs → place_of c ≡ i → AllBelow (i + 1) (cs ++ c ∷ [])
below_push i [] c below at = (omega (arith, at), tt)
below_push i (d ∷ cs) c below at = ((let lt = below.0 in omega (arith, lt)), below_push i cs c below.1 at)

below_more : (i : ℕ) (cs : List Change) → AllBelow i cs → AllBelow (i + 1) cs
below_more i [] below = tt
below_more i (d ∷ cs) below = ((let lt = below.0 in omega (arith, lt)), below_more i cs below.1)

-- the list up to the place is the other
write_blend : (i : ℕ) (from to : List Input) (d : Input) → i < length from → i < length to → set (take i to ++ drop i from) i (get_or to i d) ≡ take (suc i) to ++ drop (suc i) from
write_blend i [] to d lt lt' = absurd (omega (arith, lt))
write_blend i (x ∷ from) [] d lt lt' = absurd (omega (arith, lt'))
write_blend zero (x ∷ from) (y ∷ to) d lt lt' = refl
write_blend (suc i) (x ∷ from) (y ∷ to) d lt lt' = ap (λ t. y ∷ t) (write_blend i from to d (omega (arith, lt)) (omega (arith, lt')))

stay_blend : (i : ℕ) (from to : List Input) (d : Input) → i < length from → i < length to → get_or from i d ≡ get_or to i d → take i to ++ drop i from ≡ take (suc i) to ++ drop (suc i) from
stay_blend i [] to d lt lt' e = absurd (omega (arith, lt))
stay_blend i (x ∷ from) [] d lt lt' e = absurd (omega (arith, lt'))
stay_blend zero (x ∷ from) (y ∷ to) d lt lt' e = ap (λ t. t ∷ from) e
stay_blend (suc i) (x ∷ from) (y ∷ to) d lt lt' e = ap (λ t. y ∷ t) (stay_blend i from to d (omega (arith, lt)) (omega (arith, lt')) e)

read_blend : (i : ℕ) (from to : List Input) (d : Input) → i < length from → i < length to → slice_get (take i to ++ drop i from) i ≡ Some (get_or from i d)
read_blend i [] to d lt lt' = absurd (omega (arith, lt))
read_blend i (x ∷ from) [] d lt lt' = absurd (omega (arith, lt'))
read_blend zero (x ∷ from) (y ∷ to) d lt lt' = refl
read_blend (suc i) (x ∷ from) (y ∷ to) d lt lt' = read_blend i from to d (omega (arith, lt)) (omega (arith, lt'))

one_on : (i : ℕ) → suc i ≡ i + 1
one_on i = omega arith

-- ---- the beginning, a place with a change, one without, and the end
pub comes_first : (from to : List Input) → Comes from to 0 []
comes_first from to = record { below = tt; are = tt; after = refl }

pub comes_more : (from to : List Input) (i : ℕ) (cs cs' : List Change) (c : Change) (x y : Input) → i < length from → length to ≡ length from
    → x ≡ get_or from i x → y ≡ get_or to i y → IsStep i x y c → cs' ≡ cs ++ c ∷ [] → Comes from to i cs → Comes from to (i + 1) cs'
comes_more from to i cs cs' c x y lt long old new step pushed so =
    let lt' : i < length to = omega (arith, lt, long) in
    let is : IsChange from c = step.fits from (slice_get-get_or from i x lt ∙ ap Some (sym old)) in
    let here : AllBelow (place_of c) cs = subst (λ p. AllBelow p cs) (sym step.at) so.below in
    let blend = take i to ++ drop i from in
    let written : after_change (after_changes from cs) c ≡ take (suc i) to ++ drop (suc i) from =
    ap (λ xs. after_change xs c) so.after ∙ step.after blend (read_blend i from to x lt lt' ∙ ap Some (sym old)) ∙ ap (λ z. set blend i z) new ∙ write_blend i from to y lt lt' in
    subst (λ t. Comes from to (i + 1) t) (sym pushed) (record {
      below = below_push i cs c so.below step.at;
      are = changes_push from cs c so.are is here;
      after = fold-append after_change from cs (c ∷ []) ∙ written ∙ ap (λ n. take n to ++ drop n from) (one_on i);
    })

pub comes_on : (from to : List Input) (i : ℕ) (cs : List Change) (x y : Input) → i < length from → length to ≡ length from
    → x ≡ get_or from i x → y ≡ get_or to i y → x ≡ y → Comes from to i cs → Comes from to (i + 1) cs
comes_on from to i cs x y lt long old new same so =
    let lt' : i < length to = omega (arith, lt, long) in
    let stays : get_or from i x ≡ get_or to i x = sym old ∙ same ∙ new ∙ ap (λ d. get_or to i d) (sym same) in
    record {
      below = below_more i cs so.below;
      are = so.are;
      after = so.after ∙ stay_blend i from to x lt lt' stays ∙ ap (λ n. take n to ++ drop n from) (one_on i);
    }

pub come : (from to : List Input) (i : ℕ) (cs : List Change) → length from ≤ i → length to ≡ length from → Comes from to i cs → after_changes from cs ≡ to
come from to i cs le long so =
    so.after ∙ ap (λ t. t ++ drop i from) (take_all i to (omega (arith, le, long))) ∙ ap (λ t. to ++ t) (drop_all i from le) ∙ append-nil to
