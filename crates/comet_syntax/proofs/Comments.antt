-- Comments, from their opening to their end.
use Rattle.std.specs.Prelude.{◌≡◌, ◌<◌, ◌≤◌, ◌+◌, ◌-◌, ◌==◌, ◌&&◌, ◌||◌, nat_eq, ℕ, Bool, true, false, not, List, Option, Some, None, IfSome, IfNone, [], ◌∷◌, ◌++◌, length, take, drop, codes, slice_index, refl, if◌then◌else◌}
use Rattle.std.specs.List.{prefix_len, take_while, starts_with}
use Rattle.std.proofs.Common.{arith, rules, Bor, ap, sym, ◌∙◌, subst}
use Rattle.std.proofs.lemmas.List.{take-append-drop, take_rest, length-take-le, drop-drop}
use Rattle.std.proofs.lemmas.Slice.Eq.{bytes_eq-Decides}
use Rattle.comet_syntax.specs.Tokens.Comment.{is_line_feed, begins_comment, ends_line, IsUpToClose, IsUpToLineEnd, IsComment, of_a_line, closed}
use Rattle.comet_syntax.proofs.Lexing.{all_prefix, found_length}

-- the first `*/` begins at this index
pub close_at : (text : List ℕ) (at : ℕ) (found : Bool) → at < length text → found ≡ starts_with nat_eq (take (length text - at) (drop at text)) (codes "*/") → found ≡ true
    → ((other behind : List ℕ) → text ≡ other ++ (codes "*/" ++ behind) → at ≤ length other) → IsUpToClose text (take at text) (take (length text - (at + 2)) (drop (at + 2) text))
close_at text at found low value is first =
    let rest : List ℕ = drop at text in
    let whole : take (length text - at) rest ≡ rest = take_rest text at in
    let begins : starts_with nat_eq rest (codes "*/") ≡ true = sym (ap (λ xs. starts_with nat_eq xs (codes "*/")) whole) ∙ sym value ∙ is in
    let front : codes "*/" ≡ take 2 rest = (bytes_eq-Decides (codes "*/") (take 2 rest)).0 begins in
    let behind : drop 2 rest ≡ take (length text - (at + 2)) (drop (at + 2) text) = drop-drop 2 at text ∙ sym (take_rest text (at + 2)) in
    let size : length (take at text) ≡ at = length-take-le at text (omega arith) in
    record {
      spelled = sym (take-append-drop at text) ∙ ap (λ xs. take at text ++ xs) (sym (take-append-drop 2 rest) ∙ ap (λ xs. xs ++ drop 2 rest) (sym front) ∙ ap (λ xs. codes "*/" ++ xs) behind);
      first = λ other after e. subst (λ n. n ≤ length other) (sym size) (first other after e);
    }

-- what `//` and `/*` begin
opening_bytes : (a b : ℕ) → (a == 47 && (b == 47 || b == 42)) ≡ true → (a ≡ 47) × ((b ≡ 42 → ⊥) → b ≡ 47)
opening_bytes a b h = grind arith

pub opens_block : (text opening inside : List ℕ) → begins_comment text ≡ true → opening ≡ take 2 text → inside ≡ drop 2 text → slice_index opening 1 ≡ 42 → text ≡ codes "/*" ++ inside
opens_block [] opening inside h e f is = cc
opens_block (a ∷ []) opening inside h e f is = cc
opens_block (a ∷ b ∷ rest) opening inside h e f is =
    let first : a ≡ 47 = (opening_bytes a b h).0 in
    let second : b ≡ 42 = sym (ap (λ xs. slice_index xs 1) e) ∙ is in
    ap (λ x. x ∷ b ∷ rest) first ∙ ap (λ x. 47 ∷ x ∷ rest) second ∙ ap (λ xs. 47 ∷ 42 ∷ xs) (sym f)

pub opens_line : (text opening inside : List ℕ) → begins_comment text ≡ true → opening ≡ take 2 text → inside ≡ drop 2 text → (slice_index opening 1 ≡ 42 → ⊥) → text ≡ codes "//" ++ inside
opens_line [] opening inside h e f not = cc
opens_line (a ∷ []) opening inside h e f not = cc
opens_line (a ∷ b ∷ rest) opening inside h e f not =
    let first : a ≡ 47 = (opening_bytes a b h).0 in
    let second : b ≡ 47 = (opening_bytes a b h).1 (λ is. not (ap (λ xs. slice_index xs 1) e ∙ is)) in
    ap (λ x. x ∷ b ∷ rest) first ∙ ap (λ x. 47 ∷ x ∷ rest) second ∙ ap (λ xs. 47 ∷ 47 ∷ xs) (sym f)

-- a line goes up to its line feed
line_ends : (text : List ℕ) → ends_line (drop (prefix_len (λ byte. not (is_line_feed byte)) text) text) ≡ true
line_ends [] = refl
line_ends (x ∷ xs) = elim (is_line_feed x) as (λ b. is_line_feed x ≡ b → ends_line (drop (if not b then 1 + prefix_len (λ byte. not (is_line_feed byte)) xs else 0) (x ∷ xs)) ≡ true)
    [ true ↦ (λ e. e) | false ↦ (λ e. rw drop_one_more (line_ends xs)) ] refl
  where
    drop_one_more : (n x : ℕ) (xs : List ℕ) → drop (1 + n) (x ∷ xs) ≡ drop n xs
    drop_one_more n x xs = search rules

pub up_to_line_end : (text rest : List ℕ) → rest ≡ drop (length (take_while (λ byte. not (is_line_feed byte)) text)) text → (body : List ℕ) × IsUpToLineEnd text body rest
up_to_line_end text rest e =
    let p : ℕ → Bool = λ byte. not (is_line_feed byte) in
    let n : ℕ = prefix_len p text in
    let here : rest ≡ drop n text = e ∙ ap (λ m. drop m text) (found_length p text) in (
      take n text,
      record {
        spelled = sym (take-append-drop n text) ∙ ap (λ xs. take n text ++ xs) (sym here);
        one_line = all_prefix p text;
        ended = subst (λ xs. ends_line xs ≡ true) (sym here) (line_ends text);
      },
    )

-- an opened block without a close is no comment
not_closed : {text inside : List ℕ} → text ≡ codes "/*" ++ inside → ((body rest : List ℕ) → inside ≡ body ++ (codes "*/" ++ rest) → ⊥) → (rest : List ℕ) → IsComment text rest → ⊥
not_closed e none rest (of_a_line {inside = line} f up) = other_opening (sym e ∙ f)
  where
    other_opening : {xs ys : List ℕ} → 47 ∷ 42 ∷ xs ≡ 47 ∷ 47 ∷ ys → ⊥
    other_opening e = cc
not_closed {inside = inside} e none rest (closed {inside = block} {body} f up) = none body rest (same_inside (sym e ∙ f) ∙ up.spelled)
  where
    same_inside : {xs ys : List ℕ} → 47 ∷ 42 ∷ xs ≡ 47 ∷ 42 ∷ ys → xs ≡ ys
    same_inside e = cc

-- the same, of what is found
pub block_ends : {text inside : List ℕ} (found : Option (Bor (List ℕ))) → text ≡ codes "/*" ++ inside → IfSome found (λ rest. (body : List ℕ) × IsUpToClose inside body rest.now) → IfSome found (λ rest. IsComment text rest.now)
block_ends None e h = tt
block_ends (Some rest) e h = closed e h.1

pub block_stays_open : {text inside : List ℕ} (found : Option (Bor (List ℕ))) → text ≡ codes "/*" ++ inside → IfNone found ((body rest : List ℕ) → inside ≡ body ++ (codes "*/" ++ rest) → ⊥) → IfNone found ((rest : List ℕ) → IsComment text rest → ⊥)
block_stays_open None e h = not_closed e h
block_stays_open (Some rest) e h = tt
