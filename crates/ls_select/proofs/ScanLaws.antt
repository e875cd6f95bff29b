-- The scan of two adjoining lists of candidates.
use Rattle.std.proofs.Common.{◌≡◌, ℕ, ◌+◌, ◌-◌, ◌≤◌, Bool, true, false, List, [], ◌∷◌, ◌++◌, Option, Some, None, length, refl, sym, ap, ◌∙◌, subst, arith, if◌then◌else◌, nat_le, nat_lt, ◌&&◌, true≢false}
use Rattle.std.proofs.lemmas.Bool.Decides.{nat_tests}
use Rattle.std.proofs.lemmas.List.Sums.{sum_by-cons}
use Rattle.std.specs.List.{sum_by}
use Rattle.std.specs.Option.{is_none, is_some, option_map, option_or}
use Rattle.ls_select.specs.Candidates.{Candidate, end_of, scan, score, stop_in}
use Rattle.ls_select.specs.Joining.{joined}
use Rattle.ls_select.specs.Merging.{Merges}
use Rattle.ls_select.specs.Parts.{part_of, part_under, stop_from}
use Rattle.ls_select.specs.declared.merging.Merged.TheVariants.{Whole}
use Rattle.ls_select.specs.declared.part.Part.{Part}
use Rattle.ls_select.specs.declared.scored.End.TheVariants.{Stopped}
use Rattle.ls_select.specs.declared.scored.Scored.{Scored}
use Rattle.ls_select.specs.declared.scored.Stop.{Stop}
use Rattle.ls_select.specs.declared.scored.Stop.TheVariants.{Spent}
use Rattle.ls_select.specs.declared.want.Want.{Want}
use Rattle.ls_select.proofs.JoinLaws.{added, join_part, one_more}

-- what some scored candidates cost
abbrev pub costs_of : List Scored → ℕ
costs_of scores = sum_by (λ s. s.cost) scores

-- where the first of some scored candidates didn't stop, and the others neither
no_stop : (number : ℕ) (o : Option Stop) (later : Option (ℕ × Stop)) → option_or (option_map (λ (stop : Stop). (number, stop)) o) later ≡ None → (o ≡ None) × (later ≡ None)
no_stop number None later h = (refl, h)
no_stop number (Some stop) later h = absurd (not h)
  where
    not : ◌≡◌ {A = Option (ℕ × Stop)} (Some (number, stop)) None → ⊥
    not e = cc

-- a candidate that didn't stop had enough, and costs what it costs
scored_so : Bool → Candidate → ℕ → Scored
scored_so b c left = if b then record { cost = c.cost; end = end_of c.ending } else record { cost = left + 1; end = Stopped (Spent (c.spent_at left)) }

enough : (b : Bool) (c : Candidate) (left : ℕ) → nat_le c.cost left ≡ b → stop_in (scored_so b c left).end ≡ None → (c.cost ≤ left) × ((scored_so b c left).cost ≡ c.cost)
unfolding scored_so
enough true c left e h = (grind (arith, nat_tests), refl)
enough false c left e h = absurd (not h)
  where
    not : Some (Spent (c.spent_at left)) ≡ None → ⊥
    not e = cc

had_enough : (c : Candidate) (left : ℕ) → stop_in (score c left).end ≡ None → (c.cost ≤ left) × ((score c left).cost ≡ c.cost)
unfolding scored_so
had_enough c left h = enough (nat_le c.cost left) c left refl h

-- what is scanned behind a candidate that didn't stop, or that did
tails : (o : Option Stop) (xs ys : List Scored) → (o ≡ None → xs ≡ ys) → (if is_none o then xs else []) ≡ (if is_none o then ys else [])
tails None xs ys h = h refl
tails (Some stop) xs ys h = refl

tail_on : (o : Option Stop) (xs : List Scored) → o ≡ None → (if is_none o then xs else []) ≡ xs
tail_on o xs e = ap (λ p. if is_none p then xs else []) e

-- the scan of both lists, where that of the first didn't stop
pub scan_on : (front back : List Candidate) (left number : ℕ) → stop_from number (scan front left) ≡ None →
    (costs_of (scan front left) ≤ left) × (scan (front ++ back) left ≡ scan front left ++ scan back (left - costs_of (scan front left)))
scan_on [] back left number h = (omega arith, ap (scan back) (omega arith))
scan_on (c ∷ rest) back left number h =
    let s = score c left in
    let more = left - c.cost in
    let parts = no_stop number (stop_in s.end) (stop_from (number + 1) (if is_none (stop_in s.end) then scan rest more else [])) h in
    let own = had_enough c left parts.0 in
    let tail : (if is_none (stop_in s.end) then scan rest more else []) ≡ scan rest more = tail_on (stop_in s.end) (scan rest more) parts.0 in
    let tail_both : (if is_none (stop_in s.end) then scan (rest ++ back) more else []) ≡ scan (rest ++ back) more = tail_on (stop_in s.end) (scan (rest ++ back) more) parts.0 in
    let later = scan_on rest back more (number + 1) (ap (stop_from (number + 1)) (sym tail) ∙ parts.1) in
    let cost : costs_of (scan (c ∷ rest) left) ≡ c.cost + costs_of (scan rest more) =
    ap (λ xs. costs_of (s ∷ xs)) tail ∙ sum_by-cons (λ (t : Scored). t.cost) s (scan rest more) ∙ ap (λ k. k + costs_of (scan rest more)) own.1 in
    let least = own.0 in
    let fits = later.0 in
    let behind : more - costs_of (scan rest more) ≡ left - costs_of (scan (c ∷ rest) left) = omega (arith, cost) in (
      omega (arith, cost),
      ap (λ xs. s ∷ xs) (tail_both ∙ later.1 ∙ ap (λ k. scan rest more ++ scan back k) behind)
          ∙ ap (λ xs. s ∷ (xs ++ scan back (left - costs_of (scan (c ∷ rest) left)))) (sym tail),
    )

-- and where it did
pub scan_stops : (front back : List Candidate) (left number : ℕ) → is_none (stop_from number (scan front left)) ≡ false → scan (front ++ back) left ≡ scan front left
scan_stops [] back left number h = absurd (true≢false h)
scan_stops (c ∷ rest) back left number h =
    let s = score c left in
    let more = left - c.cost in
    ap (λ xs. s ∷ xs) (tails (stop_in s.end) (scan (rest ++ back) more) (scan rest more)
    (λ e. scan_stops rest back more (number + 1)
    (ap (λ o. is_none (option_or (option_map (λ (stop : Stop). (number, stop)) o) (stop_from (number + 1) (if is_none o then scan rest more else [])))) (sym e) ∙ h)))

-- a candidate that costs no more is scored alike with less
less_so : (b : Bool) (c : Candidate) (left less : ℕ) → nat_le c.cost left ≡ b → (scored_so b c left).cost ≤ less → less ≤ left → (scored_so b c left ≡ score c less) × (c.cost ≤ less)
unfolding scored_so
less_so true c left less e fits h =
    let whole : nat_le c.cost less ≡ true = grind (arith, nat_tests) in
    (ap (λ b. if b then record { cost = c.cost; end = end_of c.ending } else record { cost = less + 1; end = Stopped (Spent (c.spent_at less)) }) (sym whole), fits)
less_so false c left less e fits h = absurd (omega arith)

score_less : (c : Candidate) (left less : ℕ) → (score c left).cost ≤ less → less ≤ left → (score c left ≡ score c less) × (c.cost ≤ less)
unfolding scored_so
score_less c left less fits h = less_so (nat_le c.cost left) c left less refl fits h

pub scan_less : (candidates : List Candidate) (left less : ℕ) → costs_of (scan candidates left) ≤ less → less ≤ left → scan candidates left ≡ scan candidates less
scan_less [] left less fits h = refl
scan_less (c ∷ rest) left less fits h =
    let s = score c left in
    let first : s.cost ≤ less = omega (arith, fits, sum_by-cons (λ (t : Scored). t.cost) s (if is_none (stop_in s.end) then scan rest (left - c.cost) else [])) in
    let own = score_less c left less first h in
    ap (λ xs. s ∷ xs) (tails (stop_in s.end) (scan rest (left - c.cost)) (scan rest (less - c.cost))
    (λ e.
    let tail = tail_on (stop_in s.end) (scan rest (left - c.cost)) e in
    let whole = had_enough c left e in
    let whole_costs : costs_of (s ∷ scan rest (left - c.cost)) ≤ less = subst (λ xs. costs_of (s ∷ xs) ≤ less) tail fits in
    let costs = sum_by-cons (λ (t : Scored). t.cost) s (scan rest (left - c.cost)) in
    let cost = whole.1 in
    scan_less rest (left - c.cost) (less - c.cost) (omega (arith, whole_costs, costs, cost)) (omega arith)))
    ∙ ap (λ t. t ∷ (if is_none (stop_in t.end) then scan rest (less - c.cost) else [])) own.0

-- one more candidate
alone : (c : Candidate) (left : ℕ) → scan (c ∷ []) left ≡ score c left ∷ []
alone c left = ap (λ xs. score c left ∷ xs) (both (is_none (stop_in (score c left).end)) [])
  where
    both : (b : Bool) (xs : List Scored) → (if b then xs else xs) ≡ xs
    both true xs = refl
    both false xs = refl

pub one_scanned : (want : Want) (p : Part) (s : Scored) (fuel : ℕ) (candidates : List Candidate) (next : Candidate) → p.stop ≡ None →
    p ≡ part_under want p.first fuel candidates → s ≡ score next (fuel - p.cost) → added want p s ≡ part_under want p.first fuel (candidates ++ next ∷ [])
one_scanned want p s fuel candidates next none is scored =
    let scores = scan candidates fuel in
    let stop : stop_from p.first scores ≡ None = sym (ap (λ (q : Part). q.stop) is) ∙ none in
    let cost : p.cost ≡ costs_of scores = ap (λ (q : Part). q.cost) is in
    one_more want p s scores none is
    ∙ ap (λ xs. part_of want p.first (scores ++ xs)) (ap (λ t. t ∷ []) (scored ∙ ap (λ k. score next (fuel - k)) cost) ∙ sym (alone next (fuel - costs_of scores)))
    ∙ ap (part_of want p.first) (sym (scan_on candidates (next ∷ []) fuel p.first stop).1)

-- the part of both lists, where they cost no more than the fuel
pub both_scanned : (want : Want) (fuel : ℕ) (p q : Part) (front back : List Candidate) → p ≡ part_under want p.first fuel front → q ≡ part_under want q.first fuel back →
    p.stop ≡ None → q.first ≡ p.first + p.count → p.cost + q.cost ≤ fuel → joined want p q ≡ part_under want p.first fuel (front ++ back)
both_scanned want fuel p q front back one two none adjoin fits =
    let xs = scan front fuel in
    let ys = scan back fuel in
    let stop : stop_from p.first xs ≡ None = sym (ap (λ (r : Part). r.stop) one) ∙ none in
    let cost : p.cost ≡ costs_of xs = ap (λ (r : Part). r.cost) one in
    let more : q.cost ≡ costs_of ys = ap (λ (r : Part). r.cost) two in
    let count : p.count ≡ length xs = ap (λ (r : Part). r.count) one in
    let less = scan_less back fuel (fuel - costs_of xs) (omega (arith, cost, more)) (omega arith) in
    sym (ap (part_of want p.first) ((scan_on front back fuel p.first stop).1 ∙ ap (λ zs. xs ++ zs) (sym less))
    ∙ join_part want p.first xs ys stop
    ∙ ap (λ r. joined want r (part_of want (p.first + length xs) ys)) (sym one)
    ∙ ap (λ n. joined want p (part_of want n ys)) (ap (λ k. p.first + k) (sym count) ∙ sym adjoin)
    ∙ ap (joined want p) (sym two))

-- the part of both lists, where the first stopped
pub first_stopped : (want : Want) (fuel : ℕ) (p : Part) (front back : List Candidate) → p ≡ part_under want p.first fuel front → is_none p.stop ≡ false → p ≡ part_under want p.first fuel (front ++ back)
first_stopped want fuel p front back one stopped =
    one ∙ ap (part_of want p.first) (sym (scan_stops front back fuel p.first (ap (λ (r : Part). is_none r.stop) (sym one) ∙ stopped)))

stopped : (o : Option (ℕ × Stop)) → is_some o ≡ true → is_none o ≡ false
stopped None h = sym h
stopped (Some stop) h = refl

pub going : (o : Option (ℕ × Stop)) → is_some o ≡ false → o ≡ None
going None h = refl
going (Some stop) h = absurd (true≢false h)

-- what merging gives of a part that stopped
pub stopped_merges : (want : Want) (fuel : ℕ) (p q : Part) → is_some p.stop ≡ true → Merges want fuel p q (Whole p)
stopped_merges want fuel p q h =
    let none = stopped p.stop h in
    (ap (λ b. b && nat_lt fuel (p.cost + q.cost)) none, λ e. refl, λ front back one two. first_stopped want fuel p front back one none)

-- and of parts that are joined
pub joined_merges : (want : Want) (fuel : ℕ) (p q : Part) → p.stop ≡ None → (p.stop ≡ None → q.first ≡ p.first + p.count) → p.cost + q.cost ≤ fuel → Merges want fuel p q (Whole (joined want p q))
joined_merges want fuel p q none adjoin fits =
    let test : nat_lt fuel (p.cost + q.cost) ≡ false = grind (arith, nat_tests) in (
      ap (λ o. is_none o && nat_lt fuel (p.cost + q.cost)) none ∙ test,
      λ e. absurd (true≢false (sym e ∙ ap is_some none)),
      λ front back one two. both_scanned want fuel p q front back one two none (adjoin none) fits,
    )
