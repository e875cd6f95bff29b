-- Pieces that are written one behind the other.
use Rattle.std.proofs.Common.{◌≡◌, ◌<◌, ◌+◌, ◌++◌, ℕ, List, [], ◌∷◌, Option, Some, None, length, drop, slice_index_or, refl, ◌∙◌, ap, sym, subst, add-one, append_assoc, append-nil, map, Bor}
use Rattle.std.specs.Prelude.{Result, Ok, Err, OnErr}
use Rattle.std.proofs.Math.Seq.{drop-cons}
use Rattle.cbl_io.specs.Appended.{Appends, AppendsFront}
use Rattle.comet.specs.Line.{joined}

abbrev pub texts_of : List (Bor (List ℕ)) → List (List ℕ)
texts_of pieces = map (λ piece. piece.now) pieces

-- two pieces in turn are one piece
appends_both : (old middle new : Option (List ℕ)) (first second : List ℕ) → Appends old middle first → Appends middle new second → Appends old new (first ++ second)
appends_both None None new first second a b = b
appends_both None (Some middle) new first second a b = absurd (cc)
appends_both (Some old) None new first second a b = absurd (cc)
appends_both (Some old) (Some middle) new first second a b =
    subst (λ bytes. new ≡ Some bytes) (append_assoc old first second) (subst (λ z. new ≡ Some (z ++ second)) (same_some a) b)
  where
    same_some : {A : Type 0} {x y : A} → Some x ≡ Some y → x ≡ y
    same_some e = cc

pub appends_nothing : (bytes : Option (List ℕ)) → Appends bytes bytes []
appends_nothing None = refl
appends_nothing (Some old) = ap Some (sym (append-nil old))

-- of all pieces a front is written, and these are left
abbrev pub SoFar : Option (List ℕ) → Option (List ℕ) → List ℕ → List ℕ → Type 0
SoFar old new whole left = (front : List ℕ) × (whole ≡ front ++ left) × Appends old new front

left_step : {A : Type 0} (xs : List A) (i : ℕ) (d : A) → i < length xs → drop i xs ≡ slice_index_or xs i d ∷ drop (i + 1) xs
left_step xs i d low = rw (add-one, drop-cons xs i d) refl

left_joined : {A : Type 0} (f : A → List ℕ) (xs : List A) (i : ℕ) (d : A) → i < length xs → joined (map f (drop i xs)) ≡ f (slice_index_or xs i d) ++ joined (map f (drop (i + 1) xs))
left_joined f xs i d low = ap (λ ps. joined (map f ps)) (left_step xs i d low)

-- of things with a text each, one more is written
pub each_more : {A : Type 0} (f : A → List ℕ) (old middle new : Option (List ℕ)) (xs : List A) (i : ℕ) (d : A) → i < length xs
    → SoFar old middle (joined (map f xs)) (joined (map f (drop i xs))) → Appends middle new (f (slice_index_or xs i d))
    → SoFar old new (joined (map f xs)) (joined (map f (drop (i + 1) xs)))
each_more f old middle new xs i d low (front, whole, taken) more = (
  front ++ f (slice_index_or xs i d),
  whole ∙ ap (λ z. front ++ z) (left_joined f xs i d low) ∙ sym (append_assoc front (f (slice_index_or xs i d)) (joined (map f (drop (i + 1) xs)))),
  appends_both old middle new front (f (slice_index_or xs i d)) taken more,
)

-- or a front of it
pub each_cut : {A : Type 0} (f : A → List ℕ) (old middle new : Option (List ℕ)) (xs : List A) (i : ℕ) (d : A) → i < length xs
    → SoFar old middle (joined (map f xs)) (joined (map f (drop i xs))) → AppendsFront middle new (f (slice_index_or xs i d))
    → AppendsFront old new (joined (map f xs))
each_cut f old middle new xs i d low (front, whole, taken) (part, rest, piece, more) =
    let left : List ℕ = joined (map f (drop (i + 1) xs)) in (
      front ++ part,
      rest ++ left,
      whole ∙ ap (λ z. front ++ z) (left_joined f xs i d low ∙ ap (λ z. z ++ left) piece ∙ append_assoc part rest left) ∙ sym (append_assoc front part (rest ++ left)),
      appends_both old middle new front part taken more,
    )

pub piece_more : (old middle new : Option (List ℕ)) (pieces : List (Bor (List ℕ))) (i : ℕ) (d : Bor (List ℕ)) → i < length pieces
    → SoFar old middle (joined (texts_of pieces)) (joined (texts_of (drop i pieces))) → Appends middle new (slice_index_or pieces i d).now
    → SoFar old new (joined (texts_of pieces)) (joined (texts_of (drop (i + 1) pieces)))
piece_more old middle new pieces i d low taken more = each_more (λ (piece : Bor (List ℕ)). piece.now) old middle new pieces i d low taken more

pub piece_cut : (old middle new : Option (List ℕ)) (pieces : List (Bor (List ℕ))) (i : ℕ) (d : Bor (List ℕ)) → i < length pieces
    → SoFar old middle (joined (texts_of pieces)) (joined (texts_of (drop i pieces))) → AppendsFront middle new (slice_index_or pieces i d).now
    → AppendsFront old new (joined (texts_of pieces))
piece_cut old middle new pieces i d low taken cut = each_cut (λ (piece : Bor (List ℕ)). piece.now) old middle new pieces i d low taken cut

-- all of it is a front of it
pub whole_front : (old new : Option (List ℕ)) (piece : List ℕ) → Appends old new piece → AppendsFront old new piece
whole_front old new piece h = (piece, [], sym (append-nil piece), h)

pub holds_on_err : {T E : Type 0} (P : Type 0) (r : Result T E) → P → OnErr r P
holds_on_err P (Ok x) h = tt
holds_on_err P (Err e) h = h

-- pieces, one text behind them, and more pieces

joined_both : (xs ys : List (List ℕ)) → joined (xs ++ ys) ≡ joined xs ++ joined ys
joined_both [] ys = refl
joined_both (x ∷ xs) ys = ap (λ z. x ++ z) (joined_both xs ys) ∙ sym (append_assoc x (joined xs) (joined ys))

parted : (xs : List (List ℕ)) (y : List ℕ) (zs : List (List ℕ)) → joined (xs ++ y ∷ zs) ≡ joined xs ++ (y ++ joined zs)
parted xs y zs = joined_both xs (y ∷ zs)

front_of_first : (old new : Option (List ℕ)) (first second : List ℕ) → AppendsFront old new first → AppendsFront old new (first ++ second)
front_of_first old new first second (front, rest, piece, taken) = (front, rest ++ second, ap (λ z. z ++ second) piece ∙ append_assoc front rest second, taken)

front_behind : (old middle new : Option (List ℕ)) (first second : List ℕ) → Appends old middle first → AppendsFront middle new second → AppendsFront old new (first ++ second)
front_behind old middle new first second taken (front, rest, piece, more) =
    (first ++ front, rest, ap (λ z. first ++ z) piece ∙ sym (append_assoc first front rest), appends_both old middle new first front taken more)

pub cut_in_first : (old new : Option (List ℕ)) (xs : List (List ℕ)) (y : List ℕ) (zs : List (List ℕ)) → AppendsFront old new (joined xs) → AppendsFront old new (joined (xs ++ y ∷ zs))
cut_in_first old new xs y zs cut = subst (λ line. AppendsFront old new line) (sym (parted xs y zs)) (front_of_first old new (joined xs) (y ++ joined zs) cut)

pub cut_in_middle : (old middle new : Option (List ℕ)) (xs : List (List ℕ)) (y : List ℕ) (zs : List (List ℕ)) → Appends old middle (joined xs) → AppendsFront middle new y → AppendsFront old new (joined (xs ++ y ∷ zs))
cut_in_middle old middle new xs y zs taken cut =
    subst (λ line. AppendsFront old new line) (sym (parted xs y zs)) (front_behind old middle new (joined xs) (y ++ joined zs) taken (front_of_first middle new y (joined zs) cut))

pub cut_in_last : (old middle last new : Option (List ℕ)) (xs : List (List ℕ)) (y : List ℕ) (zs : List (List ℕ)) → Appends old middle (joined xs) → Appends middle last y → AppendsFront last new (joined zs)
    → AppendsFront old new (joined (xs ++ y ∷ zs))
cut_in_last old middle last new xs y zs taken more cut =
    subst (λ line. AppendsFront old new line) (sym (parted xs y zs)) (front_behind old middle new (joined xs) (y ++ joined zs) taken (front_behind middle last new y (joined zs) more cut))

pub all_parts : (old middle last new : Option (List ℕ)) (xs : List (List ℕ)) (y : List ℕ) (zs : List (List ℕ)) → Appends old middle (joined xs) → Appends middle last y → Appends last new (joined zs)
    → Appends old new (joined (xs ++ y ∷ zs))
all_parts old middle last new xs y zs taken more end =
    subst (λ line. Appends old new line) (sym (parted xs y zs)) (appends_both old middle new (joined xs) (y ++ joined zs) taken (appends_both middle last new y (joined zs) more end))
