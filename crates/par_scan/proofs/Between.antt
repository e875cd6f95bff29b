-- Candidates with the numbers from one on and below another, and how many a scan of them has.
use Rattle.std.proofs.Common.{◌≡◌, ℕ, ℤ, zero, suc, ◌+◌, ◌-◌, ◌≤◌, Bool, true, false, List, [], ◌∷◌, ◌++◌, Option, Some, None, length, map, refl, sym, ap, ◌∙◌, arith, if◌then◌else◌, nat_le}
use Rattle.std.proofs.lemmas.Bool.Decides.{nat_tests}
use Rattle.std.proofs.lemmas.List.{map-append}
use Rattle.std.proofs.lemmas.List.FromFn.{length-map-range_with_len}
use Rattle.std.specs.List.{range_with_len}
use Rattle.std.specs.Option.{is_none, option_map, option_or}
use Rattle.ls_select.specs.Candidates.{Candidate, end_of, scan, score, stop_in}
use Rattle.ls_select.specs.Parts.{is_tied, stop_from, tied_from}
use Rattle.ls_select.specs.declared.scored.End.TheVariants.{Stopped}
use Rattle.ls_select.specs.declared.scored.Scored.{Scored}
use Rattle.ls_select.specs.declared.scored.Stop.{Stop}
use Rattle.ls_select.specs.declared.scored.Stop.TheVariants.{Spent}
use Rattle.ls_select.specs.declared.want.Want.{Want}
use Rattle.par_scan.specs.Stretches.{candidates_between}

-- numbers in a row, cut in two
numbers_cut : (from m n : ℕ) → range_with_len from (m + n) ≡ range_with_len from m ++ range_with_len (from + m) n
numbers_cut from zero n =
    let none : 0 + n ≡ n = omega arith in
    let here : from ≡ from + 0 = omega arith in
    ap (range_with_len from) none ∙ ap (λ k. range_with_len k n) here
numbers_cut from (suc m) n =
    let more : suc m + n ≡ suc (m + n) = omega arith in
    let here : from + 1 + m ≡ from + suc m = omega arith in
    ap (range_with_len from) more
    ∙ ap (λ ns. from ∷ ns) (numbers_cut (from + 1) m n ∙ ap (λ k. range_with_len (from + 1) m ++ range_with_len k n) here)

-- all candidates are those below a number, and the rest
pub between_cut : (c : ℕ → Candidate) (from cut end : ℕ) → from ≤ cut → cut ≤ end → candidates_between c from cut ++ candidates_between c cut end ≡ candidates_between c from end
between_cut c from cut end low high =
    let here : cut ≡ from + (cut - from) = omega arith in
    let all : cut - from + (end - cut) ≡ end - from = omega arith in
    sym (map-append c (range_with_len from (cut - from)) (range_with_len cut (end - cut)))
    ∙ ap (λ k. map c (range_with_len from (cut - from) ++ range_with_len k (end - cut))) here
    ∙ ap (map c) (sym (numbers_cut from (cut - from) (end - cut)))
    ∙ ap (λ k. map c (range_with_len from k)) all

pub between_count : (c : ℕ → Candidate) (from end : ℕ) → length (candidates_between c from end) ≡ end - from
between_count c from end = length-map-range_with_len c from (end - from)

-- scoring a candidate costs one unit more than there is at most
scored_so : Bool → Candidate → ℕ → Scored
scored_so b c left = if b then record { cost = c.cost; end = end_of c.ending } else record { cost = left + 1; end = Stopped (Spent (c.spent_at left)) }

most_so : (b : Bool) (c : Candidate) (left : ℕ) → nat_le c.cost left ≡ b → (scored_so b c left).cost ≤ left + 1
unfolding scored_so
most_so true c left e = grind (arith, nat_tests)
most_so false c left e = omega arith

pub score_most : (c : Candidate) (left : ℕ) → (score c left).cost ≤ left + 1
unfolding scored_so
score_most c left = most_so (nat_le c.cost left) c left refl

-- a scan has no more candidates than there are
most_if : (b : Bool) (scores : List Scored) (n : ℕ) → length scores ≤ n → length (if b then scores else []) ≤ n
most_if true scores n most = most
most_if false scores n most = omega arith

pub scan_most : (cs : List Candidate) (left : ℕ) → length (scan cs left) ≤ length cs
scan_most [] left = omega arith
scan_most (c ∷ rest) left =
    let behind = most_if (is_none (stop_in (score c left).end)) (scan rest (left - c.cost)) (length rest) (scan_most rest (left - c.cost)) in
    omega (arith, behind)

-- and all of them where none stopped
whole_behind : (o : Option Stop) (number : ℕ) (scores : List Scored) (n : ℕ) →
    option_or (option_map (λ (stop : Stop). (number, stop)) o) (stop_from (number + 1) (if is_none o then scores else [])) ≡ None →
    (stop_from (number + 1) scores ≡ None → length scores ≡ n) → length (if is_none o then scores else []) ≡ n
whole_behind None number scores n none whole = whole none
whole_behind (Some stop) number scores n none whole = absurd (not none)
  where
    not : ◌≡◌ {A = Option (ℕ × Stop)} (Some (number, stop)) None → ⊥
    not e = cc

pub scan_whole : (cs : List Candidate) (left number : ℕ) → stop_from number (scan cs left) ≡ None → length (scan cs left) ≡ length cs
scan_whole [] left number none = refl
scan_whole (c ∷ rest) left number none =
    ap suc (whole_behind (stop_in (score c left).end) number (scan rest (left - c.cost)) (length rest) none (scan_whole rest (left - c.cost) (number + 1)))

-- there are no more ties than candidates
ties_if : (b : Bool) (number : ℕ) (ns : List ℕ) (n : ℕ) → length ns ≤ n → length (if b then number ∷ ns else ns) ≤ suc n
ties_if true number ns n most = omega (arith, most)
ties_if false number ns n most = omega (arith, most)

pub ties_most : (want : Want) (best : Option ℤ) (number : ℕ) (scores : List Scored) → length (tied_from want best number scores) ≤ length scores
ties_most want best number [] = omega arith
ties_most want best number (s ∷ scores) = ties_if (is_tied want best s.end) number (tied_from want best (number + 1) scores) (length scores) (ties_most want best (number + 1) scores)
