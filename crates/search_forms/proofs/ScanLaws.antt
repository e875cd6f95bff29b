-- The scan of candidates, one after another.
use Rattle.std.proofs.Common.{◌≡◌, refl, sym, ap, ◌∙◌, subst, ℕ, zero, suc, ◌+◌, ◌<◌, ◌≤◌, ℤ, Bool, true, false, List, [], ◌∷◌, ◌++◌, Option, Some, None, Result, Ok, Err, length, length-append, drop, get_or, arith, sum_by}
use Rattle.std.proofs.lemmas.List.{at_drop_all, at_drop_more}
use Rattle.std.proofs.lemmas.List.Sums.{sum_by-append, sum_by-cons}
use Rattle.std.specs.Prelude.{slice_index_or}
use Rattle.std.specs.Option.{option_map, option_or}
use Rattle.cbl_base.specs.declared.place.Place.{Place}
use Rattle.checked_tree.specs.Shape.{Shape}
use Rattle.comet_syntax.specs.declared.tree.expressions.Extreme.{Extreme}
use Rattle.comet_meaning.specs.Candidates.{Candidate, named}
use Rattle.comet_meaning.specs.Generators.{generated}
use Rattle.comet_meaning.specs.Levels.{Level}
use Rattle.comet_meaning.specs.Onward.{IsOnward, left_by}
use Rattle.comet_meaning.specs.Outcome.{Outcome, Went, Halted, Act, then_do, ◌>>=◌}
use Rattle.comet_meaning.specs.Selection.{Rated, rated_form, scanned}
use Rattle.comet_meaning.specs.State.{State, left}
use Rattle.comet_meaning.proofs.GoingParts.{LevelGoesOn}
use Rattle.comet_meaning.proofs.GoingSearch.{goes_scanned}
use Rattle.comet_meaning.proofs.Endings.{went_then}
use Rattle.ls_select.specs.Candidates.{stop_in}
use Rattle.ls_select.specs.Parts.{part_of, stop_from}
use Rattle.ls_select.specs.declared.part.Part.{Part}
use Rattle.ls_select.specs.declared.scored.Scored.{Scored}
use Rattle.ls_select.specs.declared.scored.Stop.{Stop as ScanStop}
use Rattle.run_steps.specs.Does.{Ends}
use Rattle.run_steps.proofs.Stops.{ended_then}
use Rattle.run_steps.proofs.TupleLaws.{get_or_again}
use Rattle.run_values.specs.declared.stop.Stop.{Stop}
use Rattle.search_forms.specs.Asking.{want_of}
use Rattle.search_forms.specs.Scans.{ScansTo, kept_of, rated_by}
use Rattle.search_forms.proofs.TieLaws.{kept_more, ties_are}

-- a scan that went on so far is so
stop_on : (n : ℕ) (ss : List Scored) (s : Scored) → stop_from n ss ≡ None → stop_in s.end ≡ None → stop_from n (ss ++ s ∷ []) ≡ None
stop_on n [] s h k = ap (λ o. option_or (option_map (λ (stop : ScanStop). (n, stop)) o) None) k
stop_on n (t ∷ ss) s h k = by (stop_in t.end) refl (λ (z : stop_from (n + 1) ss ≡ None). stop_on (n + 1) ss s z k)
  where
    by : (o : Option ScanStop) → stop_in t.end ≡ o → (stop_from (n + 1) ss ≡ None → stop_from (n + 1) (ss ++ s ∷ []) ≡ None) →
        option_or (option_map (λ (stop : ScanStop). (n, stop)) (stop_in t.end)) (stop_from (n + 1) (ss ++ s ∷ [])) ≡ None
    by None e rest =
        ap (λ (o : Option ScanStop). option_or (option_map (λ (stop : ScanStop). (n, stop)) o) (stop_from (n + 1) (ss ++ s ∷ []))) e
        ∙ rest (sym (ap (λ (o : Option ScanStop). option_or (option_map (λ (stop : ScanStop). (n, stop)) o) (stop_from (n + 1) ss)) e) ∙ h)
    by (Some stop) e rest =
        let d : ◌≡◌ {A = Option (ℕ × ScanStop)} (Some (n, stop)) None = sym (ap (λ (o : Option ScanStop). option_or (option_map (λ (stop : ScanStop). (n, stop)) o) (stop_from (n + 1) ss)) e) ∙ h in cc

costs_more : (ss : List Scored) (s : Scored) → sum_by (λ x. x.cost) (ss ++ s ∷ []) ≡ sum_by (λ x. x.cost) ss + s.cost
costs_more ss s = let z = sum_by-append (λ (x : Scored). x.cost) ss (s ∷ []) in let one = sum_by-cons (λ (x : Scored). x.cost) s [] in omega (arith, z, one)

-- a candidate is what stands at its number
pub stands : (ts : List Candidate) (i : ℕ) (t : Candidate) → i < length ts → t ≡ slice_index_or ts i [] → t ≡ get_or ts i t
stands ts i t h is = is ∙ get_or_again ts i [] h ∙ ap (get_or ts i) (sym is)

-- the candidates from this one on are still to be scanned
pub record Scanning (l : Level) (at : Place) (gs : List Shape) (c key : Shape) (x : Option Extreme) (ts : List Candidate) (i : ℕ) (part : Part) (start fuel : ℕ) (s : State) (whole : Outcome (List Rated)) : Type 0 where
  pub scores : List Scored
  pub rest : scanned l at gs c key i (drop i ts) (kept_of 0 scores) s ≡ whole
  pub made : part ≡ part_of (want_of x) 0 scores
  pub many : length scores ≡ i
  pub going : stop_from 0 scores ≡ None
  pub spent : part.cost + fuel ≤ start

pub scan_starts : (l : Level) (at : Place) (gs : List Shape) (c key : Shape) (x : Option Extreme) (ts : List Candidate) (part : Part) (fuel : ℕ) (s : State) → part ≡ part_of (want_of x) 0 [] →
    Scanning l at gs c key x ts 0 part fuel fuel s (scanned l at gs c key 0 ts [] s)
scan_starts l at gs c key x ts part fuel s e = record {
  scores = [];
  rest = refl;
  made = e;
  many = refl;
  going = refl;
  spent = let z : part.cost ≡ 0 = ap (λ p. p.cost) e in omega (arith, z);
}

module _ {l : Level} {at : Place} {gs : List Shape} {c key : Shape} {x : Option Extreme} {ts : List Candidate} {i start fuel : ℕ} {part : Part} {s : State} {whole : Outcome (List Rated)} (m : Scanning l at gs c key x ts i part start fuel s whole) where
  pub scan_count : part.count ≡ i
  scan_count = ap (λ p. p.count) m.made ∙ m.many

  pub scan_first : part.first ≡ 0
  scan_first = ap (λ p. p.first) m.made

  pub scan_going : part.stop ≡ None
  scan_going = ap (λ p. p.stop) m.made ∙ m.going

  module _ (t : Candidate) (h : i < length ts) (is : t ≡ get_or ts i t) where
    abbrev one : Outcome (List Rated)
    one = generated at (named gs t) (rated_form l c key i (kept_of 0 m.scores)) s

    scan_at : then_do one (scanned l at gs c key (i + 1) (drop (i + 1) ts)) ≡ whole
    unfolding scanned
    scan_at =
        ap (λ n. then_do one (scanned l at gs c key n (drop (i + 1) ts))) (let z : i + 1 ≡ suc i = omega arith in z)
        ∙ sym (at_drop_more (λ us. scanned l at gs c key i us (kept_of 0 m.scores) s) ts i t h
        ∙ ap (λ y. scanned l at gs c key i (y ∷ drop (i + 1) ts) (kept_of 0 m.scores) s) (sym is))
        ∙ m.rest

    pub scan_stops : LevelGoesOn l → (stop : Stop) (u : State) → Ends stop u one → Ends stop u whole
    scan_stops k stop u e = subst (Ends stop u) scan_at (ended_then stop u one (scanned l at gs c key (i + 1) (drop (i + 1) ts)) (λ xs. goes_scanned l k at gs c key (i + 1) (drop (i + 1) ts) xs) e)

    pub scan_onward : LevelGoesOn l → (u : State) (xs : List Rated) → one ≡ Went xs u → IsOnward (left u) (left_by whole)
    scan_onward k u xs e = subst (λ w. IsOnward (left u) (left_by w)) (sym (went_then (scanned l at gs c key (i + 1) (drop (i + 1) ts)) e) ∙ scan_at) ((goes_scanned l k at gs c key (i + 1) (drop (i + 1) ts) xs).from u)

    pub scan_goes_on : (scored : Scored) (next : Part) (rest : ℕ) (u : State) → one ≡ Went (rated_by i scored.end (kept_of 0 m.scores)) u → scored.cost + rest ≡ fuel → stop_in scored.end ≡ None →
        ((scores : List Scored) → part ≡ part_of (want_of x) part.first scores → next ≡ part_of (want_of x) part.first (scores ++ scored ∷ [])) →
        Scanning l at gs c key x ts (i + 1) next start rest u whole
    scan_goes_on scored next rest u e cost goes added =
        let made : next ≡ part_of (want_of x) 0 (m.scores ++ scored ∷ []) =
        added m.scores (m.made ∙ ap (λ n. part_of (want_of x) n m.scores) (sym scan_first)) ∙ ap (λ n. part_of (want_of x) n (m.scores ++ scored ∷ [])) scan_first in
        let paid : next.cost ≡ part.cost + scored.cost = ap (λ p. p.cost) made ∙ costs_more m.scores scored ∙ ap (λ n. n + scored.cost) (sym (ap (λ p. p.cost) m.made)) in record {
          scores = m.scores ++ scored ∷ [];
          rest =
              ap (λ xs. scanned l at gs c key (i + 1) (drop (i + 1) ts) xs u) (kept_more 0 m.scores scored ∙ ap (λ n. rated_by n scored.end (kept_of 0 m.scores)) (let many = m.many in let z : 0 + length m.scores ≡ i = omega (arith, many) in z))
              ∙ sym (went_then (scanned l at gs c key (i + 1) (drop (i + 1) ts)) e) ∙ scan_at;
          made = made;
          many = length-append m.scores (scored ∷ []) ∙ ap (λ n. n + 1) m.many;
          going = stop_on 0 m.scores scored m.going goes;
          spent = let z = m.spent in omega (arith, z, paid, cost);
        }

  pub scan_ends : length ts ≤ i → ScansTo x (Ok part) s whole
  unfolding scanned
  scan_ends h = (kept_of 0 m.scores, ap (λ p. p.ties) m.made ∙ ties_are x m.scores, sym m.rest ∙ at_drop_all (λ us. scanned l at gs c key i us (kept_of 0 m.scores) s) ts i h)
