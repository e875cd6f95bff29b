-- The parts of scans of candidates with the numbers from one on and below another.
use Rattle.std.proofs.Common.{◌≡◌, ℕ, suc, ◌+◌, ◌-◌, ◌≤◌, ◌<◌, true, false, List, [], ◌∷◌, ◌++◌, Option, Some, None, length, map, refl, sym, ap, ◌∙◌, subst, arith, Result, IfOk, slice_index_or}
use Rattle.std.specs.List.{range_with_len}
use Rattle.std.specs.Option.{is_none, is_some}
use Rattle.cbl_base.specs.declared.faults.NoMemory.{NoMemory}
use Rattle.ls_select.specs.Candidates.{Candidate, scan, score}
use Rattle.ls_select.specs.Merging.{Merges}
use Rattle.ls_select.specs.Parts.{IsOneMore, part_under, stop_from}
use Rattle.ls_select.specs.declared.merging.Merged.TheVariants.{Whole}
use Rattle.ls_select.specs.declared.part.Part.{Part}
use Rattle.ls_select.specs.declared.scored.Scored.{Scored}
use Rattle.ls_select.specs.declared.scored.Stop.{Stop}
use Rattle.ls_select.specs.declared.want.Want.{Want}
use Rattle.ls_select.proofs.ScanLaws.{costs_of, first_stopped, scan_on}
use Rattle.par_scan.specs.Stretches.{candidates_between, first_of_worker, AreScans, IsScanOf}
use Rattle.par_scan.proofs.Between.{between_count, between_cut, scan_most, scan_whole, ties_most}

module _ (c : ℕ → Candidate) (want : Want) (fuel : ℕ) where
  pub begins : (from end : ℕ) (p : Part) → IsScanOf c want fuel from end p → p.first ≡ from
  begins from end p is = ap (λ (q : Part). q.first) is

  -- a part that is the scan of these candidates, told with its own first number
  own : (from end : ℕ) (p : Part) → IsScanOf c want fuel from end p → p ≡ part_under want p.first fuel (candidates_between c from end)
  own from end p is = is ∙ ap (λ k. part_under want k fuel (candidates_between c from end)) (sym (begins from end p is))

  -- a part with the first number of another that is the scan of these candidates in two lists
  of_both : (from cut end : ℕ) (p q : Part) → IsScanOf c want fuel from cut p → from ≤ cut → cut ≤ end →
      q ≡ part_under want p.first fuel (candidates_between c from cut ++ candidates_between c cut end) → IsScanOf c want fuel from end q
  of_both from cut end p q is low high both =
      both
      ∙ ap (λ k. part_under want k fuel (candidates_between c from cut ++ candidates_between c cut end)) (begins from cut p is)
      ∙ ap (part_under want from fuel) (between_cut c from cut end low high)

  -- a part has no more candidates and ties than there are candidates
  pub few : (from end : ℕ) (p : Part) → IsScanOf c want fuel from end p → (p.count ≤ end - from) × (length p.ties ≤ end - from)
  few from end p is =
      let cs = candidates_between c from end in
      let count : p.count ≡ length (scan cs fuel) = ap (λ (q : Part). q.count) is in
      let ties : length p.ties ≡ length (part_under want from fuel cs).ties = ap (λ (q : Part). length q.ties) is in
      let most = scan_most cs fuel in
      let tied = ties_most want (part_under want from fuel cs).best from (scan cs fuel) in
      let all = between_count c from end in
      (omega (arith, count, most, all), omega (arith, ties, tied, most, all))

  -- where none stopped all were scanned, within the fuel
  pub room : (from end : ℕ) (p : Part) → IsScanOf c want fuel from end p → p.stop ≡ None → (p.cost ≤ fuel) × (p.count ≡ end - from)
  room from end p is none =
      let cs = candidates_between c from end in
      let stop : stop_from from (scan cs fuel) ≡ None = sym (ap (λ (q : Part). q.stop) is) ∙ none in
      let cost : p.cost ≡ costs_of (scan cs fuel) = ap (λ (q : Part). q.cost) is in
      let count : p.count ≡ length (scan cs fuel) = ap (λ (q : Part). q.count) is in
      let most = (scan_on cs [] fuel from stop).0 in
      (omega (arith, cost, most), count ∙ scan_whole cs fuel from stop ∙ between_count c from end)

  -- one more candidate
  pub one_more : (from number : ℕ) (p q : Part) (s : Scored) → IsScanOf c want fuel from number p → from ≤ number →
      s ≡ score (c number) (fuel - p.cost) → IsOneMore want p s q → IsScanOf c want fuel from (number + 1) q
  one_more from number p q s is begun scored more =
      let one : 1 ≡ number + 1 - number = omega arith in
      let next : c number ∷ [] ≡ candidates_between c number (number + 1) = ap (λ n. map c (range_with_len number n)) one in
      of_both from number (number + 1) p q is begun (omega arith)
      (more fuel (candidates_between c from number) (c number) (own from number p is) scored
      ∙ ap (λ cs. part_under want p.first fuel (candidates_between c from number ++ cs)) next)

  -- what stopped is the scan of all
  stops : (o : Option (ℕ × Stop)) → is_some o ≡ true → is_none o ≡ false
  stops None h = sym h
  stops (Some stop) h = refl

  pub stopped : (from number end : ℕ) (p : Part) → IsScanOf c want fuel from number p → is_some p.stop ≡ true → from ≤ number → number ≤ end → IsScanOf c want fuel from end p
  stopped from number end p is stop low high =
      of_both from number end p p is low high
      (first_stopped want fuel p (candidates_between c from number) (candidates_between c number end) (own from number p is) (stops p.stop stop))

  -- what two adjoining scans are merged into
  pub merged : (from end : ℕ) (p q r : Part) → IsScanOf c want fuel 0 from p → IsScanOf c want fuel from end q → from ≤ end → Merges want fuel p q (Whole r) → IsScanOf c want fuel 0 end r
  merged from end p q r one two order merges =
      of_both 0 from end p r one (omega arith) order
      (merges.2 (candidates_between c 0 from) (candidates_between c from end) (own 0 from p one) (own from end q two))

  -- the parts of all workers are scans where each of them is
  pub are_scans : (candidates workers worker : ℕ) (parts : List (Result Part NoMemory)) →
      ((i : ℕ) (d : Result Part NoMemory) → i < length parts → IfOk (slice_index_or parts i d) (λ q. IsScanOf c want fuel (first_of_worker candidates workers (worker + i)) (first_of_worker candidates workers (worker + i + 1)) q)) →
      AreScans c want fuel candidates workers worker parts
  are_scans candidates workers worker [] each = tt
  are_scans candidates workers worker (one ∷ rest) each =
      let here : worker + 0 ≡ worker = omega arith in (
        subst (λ k. IfOk one (λ q. IsScanOf c want fuel (first_of_worker candidates workers k) (first_of_worker candidates workers (k + 1)) q)) here (each 0 one (omega arith)),
        are_scans candidates workers (worker + 1) rest (λ i d lt.
            let on : worker + suc i ≡ worker + 1 + i = omega arith in
            subst (λ k. IfOk (slice_index_or rest i d) (λ q. IsScanOf c want fuel (first_of_worker candidates workers k) (first_of_worker candidates workers (k + 1)) q)) on (each (suc i) d (omega (arith, lt)))),
      )
