-- The last header that is found is the last.
use Rattle.std.proofs.Common.{◌≡◌, ℕ, ◌+◌, List, [], ◌∷◌, ◌++◌, length, Option, Some, None, refl, ap, sym, subst, ◌∙◌, arith, append_assoc, length-append}
use Rattle.std.specs.Prelude.{IfSome, IfNone}
use Rattle.std.proofs.lemmas.List.{append-nil}
use Rattle.journal_text.specs.declared.version.Version.{Version}
use Rattle.journal_text.specs.Versions.{version_of}
use Rattle.journal_text.specs.Grammar.{ended}
use Rattle.journal_text.specs.Refusal.{split}
use Rattle.journal_text.specs.Reading.{next}
use Rattle.journal_text.specs.Headers.{IsHeader, NoneIsHeader, IsLastHeader, header_or, last_in}
use Rattle.journal_text.proofs.Cuts.{next_is, one_word, next_text}
use Rattle.journal_text.proofs.VersionLaws.{version_takes, version_again}

-- a line that was cut off, its line feed and what stands behind it are as long as the text
pub lengths : (bs line behind : List ℕ) → next (split 10 bs) ≡ Some (line, split 10 behind) → length line + 1 + length behind ≡ length bs
lengths bs line behind e = let t = ap (λ (l : List ℕ). length l) (next_text 10 bs line behind e) in omega (arith, length-append line (10 ∷ behind))

pub in_last : (bs : List ℕ) (at : ℕ) (found : Option ℕ) → next (split 10 bs) ≡ None → header_or (version_of bs) at found ≡ last_in at found (split 10 bs)
in_last bs at found e = sym (ap (last_in at found) (one_word 10 bs e))

pub in_more : (bs front behind : List ℕ) (at : ℕ) (found : Option ℕ) → next (split 10 bs) ≡ Some (front, split 10 behind) → last_in (at + (length front + 1)) (header_or (version_of front) at found) (split 10 behind) ≡ last_in at found (split 10 bs)
in_more bs front behind at found e = sym (ap (last_in at found) (next_is (split 10 bs) (front, split 10 behind) e).0)

ended_push : (ls : List (List ℕ)) (l : List ℕ) → length (ended (ls ++ l ∷ [])) ≡ length (ended ls) + (length l + 1)
ended_push [] l = omega (arith, length-append l (10 ∷ []))
ended_push (x ∷ xs) l = let h = ended_push xs l in omega (arith, length-append x (10 ∷ ended xs), length-append x (10 ∷ ended (xs ++ l ∷ [])))

none_push : (ls : List (List ℕ)) (l : List ℕ) → NoneIsHeader ls → (IsHeader l → ⊥) → NoneIsHeader (ls ++ l ∷ [])
none_push [] l h other = (other, tt)
none_push (x ∷ xs) l h other = (h.0, none_push xs l h.1 other)

-- what is known of the lines so far
abbrev Knows : List (List ℕ) → Option ℕ → Type 0
Knows before None = NoneIsHeader before
Knows before (Some at) = (front : List (List ℕ)) × (here : List ℕ) × (behind : List (List ℕ)) × (before ≡ front ++ here ∷ behind) × IsHeader here × (at ≡ length (ended front)) × NoneIsHeader behind

is_header : (l : List ℕ) (v : Version) → version_of l ≡ Some v → IsHeader l
is_header l v e = let t = version_takes l v e in record { version = v; known = t.0; header = t.1 }

no_header : (l : List ℕ) → version_of l ≡ None → IsHeader l → ⊥
no_header l e h = let c : None ≡ Some h.version = sym e ∙ version_again l h.version h.known h.header in cc

knows_more : (before : List (List ℕ)) (l : List ℕ) (found : Option ℕ) → Knows before found → Knows (before ++ l ∷ []) (header_or (version_of l) (length (ended before)) found)
knows_more before l found k = cases (version_of l) refl found k
  where
    cases : (o : Option Version) → version_of l ≡ o → (found : Option ℕ) → Knows before found → Knows (before ++ l ∷ []) (header_or o (length (ended before)) found)
    cases (Some v) is found k = (before, l, [], refl, is_header l v is, refl, tt)
    cases None is None k = none_push before l k (no_header l is)
    cases None is (Some at) k = (k.0, k.1, k.2 ++ l ∷ [], ap (λ x. x ++ l ∷ []) k.3 ∙ append_assoc k.0 (k.1 ∷ k.2) (l ∷ []), k.4, k.5, none_push k.2 l k.6 (no_header l is))

knows_all : (before parts : List (List ℕ)) (at : ℕ) (found : Option ℕ) → at ≡ length (ended before) → Knows before found → Knows (before ++ parts) (last_in at found parts)
knows_all before [] at found is k = subst (λ l. Knows l found) (sym (append-nil before)) k
knows_all before (p ∷ ps) at found is k =
    let next_found : Option ℕ = header_or (version_of p) at found in
    let place : at + (length p + 1) ≡ length (ended (before ++ p ∷ [])) = omega (arith, ended_push before p, is) in
    let knows : Knows (before ++ p ∷ []) next_found = subst (λ a. Knows (before ++ p ∷ []) (header_or (version_of p) a found)) (sym is) (knows_more before p found k) in
    subst (λ l. Knows l (last_in (at + (length p + 1)) next_found ps)) (append_assoc before (p ∷ []) ps) (knows_all (before ++ p ∷ []) ps (at + (length p + 1)) next_found place knows)

pub some_clause : (text : List ℕ) (result : Option ℕ) → result ≡ last_in 0 None (split 10 text) → IfSome result (λ at. IsLastHeader text at)
some_clause text None is = tt
some_clause text (Some at) is = let k = subst (Knows (split 10 text)) (sym is) (knows_all [] (split 10 text) 0 None refl tt) in record { before = k.0; here = k.1; behind = k.2; lines = k.3; header = k.4; place = k.5; last = k.6 }

pub none_clause : (text : List ℕ) (result : Option ℕ) → result ≡ last_in 0 None (split 10 text) → IfNone result (NoneIsHeader (split 10 text))
none_clause text None is = subst (Knows (split 10 text)) (sym is) (knows_all [] (split 10 text) 0 None refl tt)
none_clause text (Some at) is = tt
