-- The requests that are read are those that are spelled.
use Rattle.std.proofs.Common.{◌≡◌, ℕ, suc, ◌<◌, ◌≤◌, Bool, true, false, cond, eqb, List, [], ◌∷◌, ◌++◌, length, Option, Some, refl, ap, sym, subst, ◌∙◌, arith, append_assoc}
use Rattle.std.specs.Prelude.{ℤ, pos, negsuc, nat_abs, codes}
use Rattle.std.specs.Int.{w64}
use Rattle.std.specs.Int.RustNames.{FitsSigned}
use Rattle.std.specs.Fmt.{decimal, signed_decimal}
use Rattle.std.proofs.lemmas.Bool.{eqb-true}
use Rattle.best_monitor.specs.declared.request.Request.TheVariants.{Report, Value, Second, Has, Copy, Stop, Stopped}
use Rattle.pool_monitor.specs.declared.request.PoolRequest.TheVariants.{Add, Size, Rank, Take}
use Rattle.pool_monitor.specs.declared.request.DeskRequest.{DeskRequest}
use Rattle.pool_monitor.specs.declared.request.DeskRequest.TheVariants.{Best, Pool}
use Rattle.journal_text.specs.declared.version.Version.{Version}
use Rattle.journal_text.specs.Texts.{list_text, second_words, request_words}
use Rattle.journal_text.specs.Grammar.{has_request, FitsList, FitsRequest}
use Rattle.journal_text.specs.Reading.{◌>>=◌, next, number_of, signed_of, list_of, field, index_of, second_of, report_of, copy_of, add_of, rank_of, take_of, plain_of, pool_of, named_of, request_of}
use Rattle.journal_text.proofs.Cuts.{next_is, next_cons}
use Rattle.journal_text.proofs.Choices.{some_is, bind_some, chosen}
use Rattle.journal_text.proofs.NumberLaws.{number_takes, number_again, up_to_takes, up_to_again, signed_takes, signed_again, list_takes, list_again}

-- words, of which the first is this one, whose text is this, and others are behind it
abbrev First : {A : Type 0} → List (List ℕ) → (A → List ℕ) → (A → Type 0) → A × List (List ℕ) → Type 0
First ws text Fits x = (ws ≡ text x.0 ∷ x.1) × Fits x.0 × (0 < length x.1)

field_takes : {A : Type 0} (part : List ℕ → Option A) (text : A → List ℕ) (Fits : A → Type 0) → ((word : List ℕ) (a : A) → part word ≡ Some a → (word ≡ text a) × Fits a)
    → (ws : List (List ℕ)) (x : A × List (List ℕ)) → field part ws ≡ Some x → First ws text Fits x
unfolding field
field_takes {A} part text Fits takes ws x e =
    let a = bind_some (next ws) (λ word. part word.0 >>= λ y. Some (y, word.1)) x e in
    let b = bind_some (part a.0.0) (λ y. Some (y, a.0.1)) x a.2 in
    let n = next_is ws a.0 a.1 in
    let t = takes a.0.0 b.0 b.1 in
    subst (λ (y : A × List (List ℕ)). First ws text Fits y) (some_is (b.0, a.0.1) x b.2) (n.0 ∙ ap (λ w. w ∷ a.0.1) t.0, t.1, n.1)

field_again : {A : Type 0} (part : List ℕ → Option A) (word : List ℕ) (a : A) (rest : List (List ℕ)) → part word ≡ Some a → 0 < length rest → field part (word ∷ rest) ≡ Some (a, rest)
unfolding field
field_again part word a rest read some_word =
    ap (λ o. o >>= λ w. part w.0 >>= λ y. Some (y, w.1)) (next_cons word rest some_word) ∙ ap (λ o. o >>= λ y. Some (y, rest)) read

-- ---- the parts of a request

pub up_to_32 : (m : ℕ) → m < 4294967296 → index_of (decimal m) ≡ Some m
up_to_32 m h = up_to_again 4294967295 m (omega arith) (omega arith)

index_word : (word : List ℕ) (m : ℕ) → index_of word ≡ Some m → (word ≡ decimal m) × (m < 4294967296)
index_word word m e = let t = up_to_takes 4294967295 word m e in (t.0, small m t.1)
  where
    small : (n : ℕ) → n ≤ 4294967295 → n < 4294967296
    small n h = omega arith

pub index_takes : (ws : List (List ℕ)) (x : ℕ × List (List ℕ)) → field index_of ws ≡ Some x → First ws decimal (λ m. m < 4294967296) x
index_takes ws x e = field_takes index_of decimal (λ m. m < 4294967296) index_word ws x e

value_takes : (ws : List (List ℕ)) (x : ℤ × List (List ℕ)) → field signed_of ws ≡ Some x → First ws signed_decimal (FitsSigned w64) x
value_takes ws x e = field_takes signed_of signed_decimal (FitsSigned w64) signed_takes ws x e

room_takes : (ws : List (List ℕ)) (x : ℕ × List (List ℕ)) → field number_of ws ≡ Some x → First ws decimal (λ n. n < 18446744073709551616) x
room_takes ws x e = field_takes number_of decimal (λ n. n < 18446744073709551616) number_takes ws x e

listed_takes : (ws : List (List ℕ)) (x : List ℤ × List (List ℕ)) → field list_of ws ≡ Some x → First ws list_text FitsList x
listed_takes ws x e = field_takes list_of list_text FitsList list_takes ws x e

pub index_again : (m : ℕ) (rest : List (List ℕ)) → m < 4294967296 → 0 < length rest → field index_of (decimal m ∷ rest) ≡ Some (m, rest)
index_again m rest fits some_word = field_again index_of (decimal m) m rest (up_to_32 m fits) some_word

value_again : (z : ℤ) (rest : List (List ℕ)) → FitsSigned w64 z → 0 < length rest → field signed_of (signed_decimal z ∷ rest) ≡ Some (z, rest)
value_again z rest fits some_word = field_again signed_of (signed_decimal z) z rest (signed_again z fits) some_word

room_again : (n : ℕ) (rest : List (List ℕ)) → n < 18446744073709551616 → 0 < length rest → field number_of (decimal n ∷ rest) ≡ Some (n, rest)
room_again n rest fits some_word = field_again number_of (decimal n) n rest (number_again n fits) some_word

listed_again : (zs : List ℤ) (rest : List (List ℕ)) → FitsList zs → 0 < length rest → field list_of (list_text zs ∷ rest) ≡ Some (zs, rest)
listed_again zs rest fits some_word = field_again list_of (list_text zs) zs rest (list_again zs fits) some_word

-- a second value, which may have no word
abbrev Seconds : Version → List (List ℕ) → ℤ × List (List ℕ) → Type 0
Seconds v ws x = (ws ≡ second_words v x.0 ++ x.1) × FitsSigned w64 x.0 × (0 < length x.1) × (cond v.has_seconds true (eqb (nat_abs x.0) 0) ≡ true)

second_takes : (v : Version) (ws : List (List ℕ)) (x : ℤ × List (List ℕ)) → 0 < length ws → second_of v ws ≡ Some x → Seconds v ws x
unfolding second_of
second_takes v ws x some_word e = cases v.has_seconds e
  where
    cases : (b : Bool) → cond b (field signed_of ws) (Some (pos 0, ws)) ≡ Some x
        → (ws ≡ cond b (signed_decimal x.0 ∷ []) [] ++ x.1) × FitsSigned w64 x.0 × (0 < length x.1) × (cond b true (eqb (nat_abs x.0) 0) ≡ true)
    cases true e = let t = value_takes ws x e in (t.0, t.1, t.2, refl)
    cases false e =
        subst (λ (y : ℤ × List (List ℕ)). (ws ≡ y.1) × FitsSigned w64 y.0 × (0 < length y.1) × (eqb (nat_abs y.0) 0 ≡ true)) (some_is (pos 0, ws) x e)
        (refl, record { sfits = (let s : 0 < 9223372036854775808 = omega arith in s) }, some_word, refl)

second_again : (v : Version) (z : ℤ) (rest : List (List ℕ)) → FitsSigned w64 z → cond v.has_seconds true (eqb (nat_abs z) 0) ≡ true → 0 < length rest → second_of v (second_words v z ++ rest) ≡ Some (z, rest)
unfolding second_of
second_again v z rest fits none some_word = cases v.has_seconds none
  where
    zero_is : (z : ℤ) → eqb (nat_abs z) 0 ≡ true → pos 0 ≡ z
    zero_is (pos n) e = ap (λ k. pos k) (sym (eqb-true n 0 e))
    zero_is (negsuc n) e = let z : suc n ≡ 0 = eqb-true (suc n) 0 e in absurd (omega arith)

    cases : (b : Bool) → cond b true (eqb (nat_abs z) 0) ≡ true → cond b (field signed_of (cond b (signed_decimal z ∷ []) [] ++ rest)) (Some (pos 0, cond b (signed_decimal z ∷ []) [] ++ rest)) ≡ Some (z, rest)
    cases true none = value_again z rest fits some_word
    cases false none = ap (λ y. Some (y, rest)) (zero_is z none)

-- ---- requests

abbrev Asked : Type 0
Asked = DeskRequest × List (List ℕ)

module _ (v : Version) where
  -- the words begin with those of the request, and these are behind
  abbrev Takes : List (List ℕ) → Asked → Type 0
  Takes ws x = (ws ≡ request_words v x.0 ++ x.1) × FitsRequest x.0 × (0 < length x.1)

  report_takes : (ws : List (List ℕ)) (x : Asked) → report_of v ws ≡ Some x → Takes (codes "report" ∷ ws) x
  unfolding report_of
  report_takes ws x e =
      let a = bind_some (field index_of ws) (λ m. field signed_of m.1 >>= λ value. second_of v value.1 >>= λ second. field list_of second.1 >>= λ list. Some (Best (Report m.0 value.0 second.0 list.0), list.1)) x e in
      let b = bind_some (field signed_of a.0.1) (λ value. second_of v value.1 >>= λ second. field list_of second.1 >>= λ list. Some (Best (Report a.0.0 value.0 second.0 list.0), list.1)) x a.2 in
      let c = bind_some (second_of v b.0.1) (λ second. field list_of second.1 >>= λ list. Some (Best (Report a.0.0 b.0.0 second.0 list.0), list.1)) x b.2 in
      let d = bind_some (field list_of c.0.1) (λ list. Some (Best (Report a.0.0 b.0.0 c.0.0 list.0), list.1)) x c.2 in
      let m = index_takes ws a.0 a.1 in
      let value = value_takes a.0.1 b.0 b.1 in
      let second = second_takes v b.0.1 c.0 value.2 c.1 in
      let list = listed_takes c.0.1 d.0 d.1 in
      let behind : b.0.1 ≡ (second_words v c.0.0 ++ list_text d.0.0 ∷ []) ++ d.0.1 = second.0 ∙ (ap (λ l. second_words v c.0.0 ++ l) list.0 ∙ sym (append_assoc (second_words v c.0.0) (list_text d.0.0 ∷ []) d.0.1)) in
      subst (Takes (codes "report" ∷ ws)) (some_is (Best (Report a.0.0 b.0.0 c.0.0 d.0.0), d.0.1) x d.2)
      (ap (λ l. codes "report" ∷ l) (m.0 ∙ ap (λ l. decimal a.0.0 ∷ l) (value.0 ∙ ap (λ l. signed_decimal b.0.0 ∷ l) behind)), (m.1, value.1, second.1, list.1), list.2)

  copy_takes : (ws : List (List ℕ)) (x : Asked) → copy_of ws ≡ Some x → Takes (codes "copy" ∷ ws) x
  unfolding copy_of
  copy_takes ws x e =
      let a = bind_some (field index_of ws) (λ m. field number_of m.1 >>= λ room. Some (Best (Copy m.0 room.0), room.1)) x e in
      let b = bind_some (field number_of a.0.1) (λ room. Some (Best (Copy a.0.0 room.0), room.1)) x a.2 in
      let m = index_takes ws a.0 a.1 in
      let room = room_takes a.0.1 b.0 b.1 in
      subst (Takes (codes "copy" ∷ ws)) (some_is (Best (Copy a.0.0 b.0.0), b.0.1) x b.2) (ap (λ l. codes "copy" ∷ l) (m.0 ∙ ap (λ l. decimal a.0.0 ∷ l) room.0), (m.1, room.1), room.2)

  add_takes : (ws : List (List ℕ)) (x : Asked) → add_of ws ≡ Some x → Takes (codes "add" ∷ ws) x
  unfolding add_of
  add_takes ws x e =
      let a = bind_some (field index_of ws) (λ p. field signed_of p.1 >>= λ value. field list_of value.1 >>= λ list. Some (Pool (Add p.0 value.0 list.0), list.1)) x e in
      let b = bind_some (field signed_of a.0.1) (λ value. field list_of value.1 >>= λ list. Some (Pool (Add a.0.0 value.0 list.0), list.1)) x a.2 in
      let c = bind_some (field list_of b.0.1) (λ list. Some (Pool (Add a.0.0 b.0.0 list.0), list.1)) x b.2 in
      let p = index_takes ws a.0 a.1 in
      let value = value_takes a.0.1 b.0 b.1 in
      let list = listed_takes b.0.1 c.0 c.1 in
      subst (Takes (codes "add" ∷ ws)) (some_is (Pool (Add a.0.0 b.0.0 c.0.0), c.0.1) x c.2)
      (ap (λ l. codes "add" ∷ l) (p.0 ∙ ap (λ l. decimal a.0.0 ∷ l) (value.0 ∙ ap (λ l. signed_decimal b.0.0 ∷ l) list.0)), (p.1, value.1, list.1), list.2)

  rank_takes : (ws : List (List ℕ)) (x : Asked) → rank_of ws ≡ Some x → Takes (codes "rank" ∷ ws) x
  unfolding rank_of
  rank_takes ws x e =
      let a = bind_some (field index_of ws) (λ p. field signed_of p.1 >>= λ rank. Some (Pool (Rank p.0 rank.0), rank.1)) x e in
      let b = bind_some (field signed_of a.0.1) (λ rank. Some (Pool (Rank a.0.0 rank.0), rank.1)) x a.2 in
      let p = index_takes ws a.0 a.1 in
      let rank = value_takes a.0.1 b.0 b.1 in
      subst (Takes (codes "rank" ∷ ws)) (some_is (Pool (Rank a.0.0 b.0.0), b.0.1) x b.2) (ap (λ l. codes "rank" ∷ l) (p.0 ∙ ap (λ l. decimal a.0.0 ∷ l) rank.0), (p.1, rank.1), rank.2)

  take_takes : (ws : List (List ℕ)) (x : Asked) → take_of ws ≡ Some x → Takes (codes "take" ∷ ws) x
  unfolding take_of
  take_takes ws x e =
      let a = bind_some (field index_of ws) (λ p. field signed_of p.1 >>= λ rank. field number_of rank.1 >>= λ room. Some (Pool (Take p.0 rank.0 room.0), room.1)) x e in
      let b = bind_some (field signed_of a.0.1) (λ rank. field number_of rank.1 >>= λ room. Some (Pool (Take a.0.0 rank.0 room.0), room.1)) x a.2 in
      let c = bind_some (field number_of b.0.1) (λ room. Some (Pool (Take a.0.0 b.0.0 room.0), room.1)) x b.2 in
      let p = index_takes ws a.0 a.1 in
      let rank = value_takes a.0.1 b.0 b.1 in
      let room = room_takes b.0.1 c.0 c.1 in
      subst (Takes (codes "take" ∷ ws)) (some_is (Pool (Take a.0.0 b.0.0 c.0.0), c.0.1) x c.2)
      (ap (λ l. codes "take" ∷ l) (p.0 ∙ ap (λ l. decimal a.0.0 ∷ l) (rank.0 ∙ ap (λ l. signed_decimal b.0.0 ∷ l) room.0)), (p.1, rank.1, room.1), room.2)

  plain_takes : (request : ℕ → DeskRequest) (name : List ℕ) → ((m : ℕ) → request_words v (request m) ≡ name ∷ decimal m ∷ []) → ((m : ℕ) → m < 4294967296 → FitsRequest (request m))
      → (ws : List (List ℕ)) (x : Asked) → plain_of request ws ≡ Some x → Takes (name ∷ ws) x
  unfolding plain_of
  plain_takes request name spelled fits ws x e =
      let a = bind_some (field index_of ws) (λ m. Some (request m.0, m.1)) x e in
      let m = index_takes ws a.0 a.1 in
      subst (Takes (name ∷ ws)) (some_is (request a.0.0, a.0.1) x a.2) (ap (λ l. name ∷ l) m.0 ∙ ap (λ l. l ++ a.0.1) (sym (spelled a.0.0)), fits a.0.0 m.1, m.2)

  pool_takes : (name : List ℕ) (ws : List (List ℕ)) (x : Asked) → pool_of name ws ≡ Some x → Takes (name ∷ ws) x
  pool_takes name ws x e =
      chosen name (codes "add") (add_of ws) _ x (λ n. Takes (n ∷ ws) x) (add_takes ws x)
      (chosen name (codes "size") (plain_of (λ p. Pool (Size p)) ws) _ x (λ n. Takes (n ∷ ws) x) (plain_takes (λ p. Pool (Size p)) (codes "size") (λ m. refl) (λ m h. h) ws x)
      (chosen name (codes "rank") (rank_of ws) _ x (λ n. Takes (n ∷ ws) x) (rank_takes ws x)
      (chosen name (codes "take") (take_of ws) _ x (λ n. Takes (n ∷ ws) x) (take_takes ws x) (λ none. absurd cc))))
      e

  named_takes : (name : List ℕ) (ws : List (List ℕ)) (x : Asked) → named_of v name ws ≡ Some x → Takes (name ∷ ws) x
  named_takes name ws x e =
      chosen name (codes "report") (report_of v ws) _ x (λ n. Takes (n ∷ ws) x) (report_takes ws x)
      (chosen name (codes "value") (plain_of (λ m. Best (Value m)) ws) _ x (λ n. Takes (n ∷ ws) x) (plain_takes (λ m. Best (Value m)) (codes "value") (λ m. refl) (λ m h. h) ws x)
      (chosen name (codes "second") (plain_of (λ m. Best (Second m)) ws) _ x (λ n. Takes (n ∷ ws) x) (plain_takes (λ m. Best (Second m)) (codes "second") (λ m. refl) (λ m h. h) ws x)
      (chosen name (codes "has") (plain_of (λ m. Best (Has m)) ws) _ x (λ n. Takes (n ∷ ws) x) (plain_takes (λ m. Best (Has m)) (codes "has") (λ m. refl) (λ m h. h) ws x)
      (chosen name (codes "copy") (copy_of ws) _ x (λ n. Takes (n ∷ ws) x) (copy_takes ws x)
      (chosen name (codes "stop") (plain_of (λ m. Best (Stop m)) ws) _ x (λ n. Takes (n ∷ ws) x) (plain_takes (λ m. Best (Stop m)) (codes "stop") (λ m. refl) (λ m h. h) ws x)
      (chosen name (codes "stopped") (plain_of (λ m. Best (Stopped m)) ws) _ x (λ n. Takes (n ∷ ws) x) (plain_takes (λ m. Best (Stopped m)) (codes "stopped") (λ m. refl) (λ m h. h) ws x) (pool_takes name ws x)))))))
      e

  pub request_takes : (ws : List (List ℕ)) (x : Asked) → request_of v ws ≡ Some x → Takes ws x
  unfolding request_of
  request_takes ws x e =
      let a = bind_some (next ws) (λ name. named_of v name.0 name.1) x e in
      let t = named_takes a.0.0 a.0.1 x a.2 in
      ((next_is ws a.0 a.1).0 ∙ t.0, t.1, t.2)

  plain_again : (request : ℕ → DeskRequest) (m : ℕ) (y : List ℕ) (ys : List (List ℕ)) → m < 4294967296 → plain_of request (decimal m ∷ y ∷ ys) ≡ Some (request m, y ∷ ys)
  unfolding plain_of
  plain_again request m y ys fits = ap (λ o. o >>= λ x. Some (request x.0, x.1)) (index_again m (y ∷ ys) fits (omega arith))

  report_again : (m : ℕ) (value second : ℤ) (list : List ℤ) (y : List ℕ) (ys : List (List ℕ)) → FitsRequest (Best (Report m value second list)) → has_request v (Best (Report m value second list)) ≡ true
      → report_of v (decimal m ∷ signed_decimal value ∷ ((second_words v second ++ list_text list ∷ []) ++ y ∷ ys)) ≡ Some (Best (Report m value second list), y ∷ ys)
  unfolding report_of
  report_again m value second list y ys fits has =
      let last : List (List ℕ) = list_text list ∷ y ∷ ys in
      let seconds : List (List ℕ) = second_words v second ++ last in
      let regrouped : (second_words v second ++ list_text list ∷ []) ++ y ∷ ys ≡ seconds = append_assoc (second_words v second) (list_text list ∷ []) (y ∷ ys) in
      ap (λ l. report_of v (decimal m ∷ signed_decimal value ∷ l)) regrouped
      ∙ (ap (λ o. o >>= λ m. field signed_of m.1 >>= λ value. second_of v value.1 >>= λ second. field list_of second.1 >>= λ list. Some (Best (Report m.0 value.0 second.0 list.0), list.1)) (index_again m (signed_decimal value ∷ seconds) fits.0 (omega arith))
      ∙ (ap (λ o. o >>= λ value. second_of v value.1 >>= λ second. field list_of second.1 >>= λ list. Some (Best (Report m value.0 second.0 list.0), list.1)) (value_again value seconds fits.1 (longer (second_words v second)))
      ∙ (ap (λ o. o >>= λ second. field list_of second.1 >>= λ list. Some (Best (Report m value second.0 list.0), list.1)) (second_again v second last fits.2 has (omega arith))
      ∙ ap (λ o. o >>= λ list. Some (Best (Report m value second list.0), list.1)) (listed_again list (y ∷ ys) fits.3 (omega arith)))))
    where
      longer : (xs : List (List ℕ)) → 0 < length (xs ++ list_text list ∷ y ∷ ys)
      longer [] = omega arith
      longer (x ∷ xs) = omega arith

  copy_again : (m room : ℕ) (y : List ℕ) (ys : List (List ℕ)) → FitsRequest (Best (Copy m room)) → copy_of (decimal m ∷ decimal room ∷ y ∷ ys) ≡ Some (Best (Copy m room), y ∷ ys)
  unfolding copy_of
  copy_again m room y ys fits =
      ap (λ o. o >>= λ m. field number_of m.1 >>= λ room. Some (Best (Copy m.0 room.0), room.1)) (index_again m (decimal room ∷ y ∷ ys) fits.0 (omega arith))
      ∙ ap (λ o. o >>= λ room. Some (Best (Copy m room.0), room.1)) (room_again room (y ∷ ys) fits.1 (omega arith))

  add_again : (p : ℕ) (value : ℤ) (list : List ℤ) (y : List ℕ) (ys : List (List ℕ)) → FitsRequest (Pool (Add p value list)) → add_of (decimal p ∷ signed_decimal value ∷ list_text list ∷ y ∷ ys) ≡ Some (Pool (Add p value list), y ∷ ys)
  unfolding add_of
  add_again p value list y ys fits =
      ap (λ o. o >>= λ p. field signed_of p.1 >>= λ value. field list_of value.1 >>= λ list. Some (Pool (Add p.0 value.0 list.0), list.1)) (index_again p (signed_decimal value ∷ list_text list ∷ y ∷ ys) fits.0 (omega arith))
      ∙ (ap (λ o. o >>= λ value. field list_of value.1 >>= λ list. Some (Pool (Add p value.0 list.0), list.1)) (value_again value (list_text list ∷ y ∷ ys) fits.1 (omega arith))
      ∙ ap (λ o. o >>= λ list. Some (Pool (Add p value list.0), list.1)) (listed_again list (y ∷ ys) fits.2 (omega arith)))

  rank_again : (p : ℕ) (rank : ℤ) (y : List ℕ) (ys : List (List ℕ)) → FitsRequest (Pool (Rank p rank)) → rank_of (decimal p ∷ signed_decimal rank ∷ y ∷ ys) ≡ Some (Pool (Rank p rank), y ∷ ys)
  unfolding rank_of
  rank_again p rank y ys fits =
      ap (λ o. o >>= λ p. field signed_of p.1 >>= λ rank. Some (Pool (Rank p.0 rank.0), rank.1)) (index_again p (signed_decimal rank ∷ y ∷ ys) fits.0 (omega arith))
      ∙ ap (λ o. o >>= λ rank. Some (Pool (Rank p rank.0), rank.1)) (value_again rank (y ∷ ys) fits.1 (omega arith))

  take_again : (p : ℕ) (rank : ℤ) (room : ℕ) (y : List ℕ) (ys : List (List ℕ)) → FitsRequest (Pool (Take p rank room)) → take_of (decimal p ∷ signed_decimal rank ∷ decimal room ∷ y ∷ ys) ≡ Some (Pool (Take p rank room), y ∷ ys)
  unfolding take_of
  take_again p rank room y ys fits =
      ap (λ o. o >>= λ p. field signed_of p.1 >>= λ rank. field number_of rank.1 >>= λ room. Some (Pool (Take p.0 rank.0 room.0), room.1)) (index_again p (signed_decimal rank ∷ decimal room ∷ y ∷ ys) fits.0 (omega arith))
      ∙ (ap (λ o. o >>= λ rank. field number_of rank.1 >>= λ room. Some (Pool (Take p rank.0 room.0), room.1)) (value_again rank (decimal room ∷ y ∷ ys) fits.1 (omega arith))
      ∙ ap (λ o. o >>= λ room. Some (Pool (Take p rank room.0), room.1)) (room_again room (y ∷ ys) fits.2 (omega arith)))

  pub request_again : (q : DeskRequest) (y : List ℕ) (ys : List (List ℕ)) → FitsRequest q → has_request v q ≡ true → request_of v (request_words v q ++ y ∷ ys) ≡ Some (q, y ∷ ys)
  unfolding request_of
  request_again (Best (Report m value second list)) y ys fits has = report_again m value second list y ys fits has
  request_again (Best (Value m)) y ys fits has = plain_again (λ m. Best (Value m)) m y ys fits
  request_again (Best (Second m)) y ys fits has = plain_again (λ m. Best (Second m)) m y ys fits
  request_again (Best (Has m)) y ys fits has = plain_again (λ m. Best (Has m)) m y ys fits
  request_again (Best (Copy m room)) y ys fits has = copy_again m room y ys fits
  request_again (Best (Stop m)) y ys fits has = plain_again (λ m. Best (Stop m)) m y ys fits
  request_again (Best (Stopped m)) y ys fits has = plain_again (λ m. Best (Stopped m)) m y ys fits
  request_again (Pool (Add p value list)) y ys fits has = add_again p value list y ys fits
  request_again (Pool (Size p)) y ys fits has = plain_again (λ p. Pool (Size p)) p y ys fits
  request_again (Pool (Rank p rank)) y ys fits has = rank_again p rank y ys fits
  request_again (Pool (Take p rank room)) y ys fits has = take_again p rank room y ys fits
