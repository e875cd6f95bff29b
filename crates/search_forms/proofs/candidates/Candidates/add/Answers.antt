-- One more row.
use Rattle.std.proofs.Common.{◌≡◌, ◌∙◌, sym, subst, ap, ◌++◌, ◌∷◌, [], ◌+◌, ◌<◌, ◌≤◌, ℤ, List, append_assoc, w64}
use Rattle.std.proofs.lemmas.Bool.{leb-false, leb-true}
use Rattle.std.proofs.lemmas.Int.{to_z-of_z}
use Rattle.std.proofs.lemmas.List.{length_push}
use Rattle.comet_meaning.specs.Limits.{most_candidates}
use Rattle.comet_meaning.specs.Candidates.{Candidate}
use Rattle.comet_meaning.specs.Outcome.{Went}
use Rattle.search_forms.proofs.CandidateLaws.{candidate_fits, too_many, rows_length, rows_more}
use Rattle.search_forms.specs.Tables.{candidates_seen, rows_of}
use Rattle.search_forms.proofs.candidates.Candidates.add.Goals as goal

pub returns-then-is_full-clause-did : goal.returns-then-is_full-clause-did
returns-then-is_full-clause-did c s =
    let many = rows_length c.args.self.now.width c.args.self.now.count c.args.self.now.numbers.items in
    too_many c.args.at (c.args.known.now ++ c.args.value ∷ []) (candidates_seen c.args.self.now) s (subst (λ n. most_candidates ≤ n) (sym many) (leb-true most_candidates c.args.self.now.count (sym c.is_full.ensures ∙ c.if-is_full.true)))

pub returns-clause-did : goal.returns-clause-did
returns-clause-did c s =
    let row : List ℤ = c.args.known.now ++ c.args.value ∷ [] in
    let many = rows_length c.args.self.now.width c.args.self.now.count c.args.self.now.numbers.items in
    let front : c.extend_from_slice.new.self.items ≡ c.args.self.now.numbers.items ++ c.args.known.now = c.in_ok-extend_from_slice.ensures.items in
    let all : c.push.new.self.items ≡ c.args.self.now.numbers.items ++ row = rw (to_z-of_z w64 c.args.value c.ranges.value) at c.in_ok-push.ensures.items ∙ ap (λ (xs : List ℤ). xs ++ c.args.value ∷ []) front ∙ append_assoc c.args.self.now.numbers.items c.args.known.now (c.args.value ∷ []) in
    candidate_fits c.args.at row (candidates_seen c.args.self.now) s (subst (λ n. n < most_candidates) (sym many) (leb-false most_candidates c.args.self.now.count (sym c.is_full.ensures ∙ c.if-is_full.false)))
    ∙ ap (λ (cs : List Candidate). Went cs s) (sym (ap (rows_of c.args.self.now.width (c.args.self.now.count + 1)) all ∙ rows_more c.args.self.now.width c.args.self.now.count c.args.self.now.numbers.items row c.requires.rows.whole (length_push c.args.known.now c.args.value ∙ sym c.requires.rows.wide)))
