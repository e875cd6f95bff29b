-- Fronts of what is taken piece by piece.
use Rattle.std.proofs.Common.{◌≡◌, ◌++◌, ◌-◌, ℕ, List, [], length, take, drop, ap, sym, ◌∙◌, append-nil, append_assoc}
use Rattle.std.proofs.lemmas.List.{take-append-drop, take_rest}
use Rattle.comet_meaning.specs.Onward.{IsFront}

-- a piece of what is put was taken, and the rest is behind it
pub piece_front : (before after bytes : List ℕ) (n : ℕ) → after ≡ before ++ take n bytes → IsFront after (before ++ bytes)
piece_front before after bytes n is =
    let parts : take n bytes ++ drop n bytes ≡ bytes = take-append-drop n bytes in
    (drop n bytes, ap (λ xs. before ++ xs) (sym parts) ∙ sym (append_assoc before (take n bytes) (drop n bytes)) ∙ ap (λ xs. xs ++ drop n bytes) (sym is))

-- what was taken further begins with what was there first
pub begun_further : (first before after front : List ℕ) → before ≡ first ++ front → IsFront before after → IsFront first after
begun_further first before after front is (rest, after_is) = (front ++ rest, after_is ∙ ap (λ xs. xs ++ rest) is ∙ append_assoc first front rest)

pub front_further : (first before after front bytes left : List ℕ) → before ≡ first ++ front → bytes ≡ front ++ left → IsFront after (before ++ left) → IsFront after (first ++ bytes)
front_further first before after front bytes left is bytes_are (rest, whole) =
    (rest, ap (λ xs. first ++ xs) bytes_are ∙ sym (append_assoc first front left) ∙ ap (λ xs. xs ++ left) (sym is) ∙ whole)

-- a further front of what is left goes over to what was taken
pub taken_further : (first before after front piece : List ℕ) → after ≡ before ++ piece → before ≡ first ++ front → after ≡ first ++ (front ++ piece)
taken_further first before after front piece after_is before_is = after_is ∙ ap (λ xs. xs ++ piece) before_is ∙ append_assoc first front piece

pub left_further : (whole front left : List ℕ) (taken : ℕ) → whole ≡ front ++ left → whole ≡ (front ++ take taken left) ++ take (length left - taken) (drop taken left)
left_further whole front left taken whole_is =
    let parts : take taken left ++ drop taken left ≡ left = take-append-drop taken left in
    let all : take (length left - taken) (drop taken left) ≡ drop taken left = take_rest left taken in
    rw (all, append_assoc, parts) whole_is

-- nothing was taken
pub nothing_begun : (before after : List ℕ) → after ≡ before → IsFront before after
nothing_begun before after is = ([], is ∙ sym (append-nil before))

pub nothing_front : (before after bytes : List ℕ) → after ≡ before → IsFront after (before ++ bytes)
nothing_front before after bytes is = (bytes, ap (λ xs. xs ++ bytes) (sym is))
