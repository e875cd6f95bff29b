-- The entries and loops that are read are those that are spelled.
use Rattle.std.proofs.Common.{◌≡◌, inl, ℕ, ◌<◌, ◌≤◌, Bool, true, false, ◌&&◌, cond, leb, List, [], ◌∷◌, ◌++◌, length, Some, None, refl, ap, ap₂, subst, ◌∙◌, arith}
use Rattle.std.specs.Prelude.{ℤ, nat_lt, codes}
use Rattle.std.specs.Int.{w64}
use Rattle.std.specs.Int.RustNames.{FitsSigned}
use Rattle.std.specs.Str.{bytes_eq}
use Rattle.std.specs.Fmt.{decimal, signed_decimal}
use Rattle.std.proofs.lemmas.Bool.{leb-true, ltb-true, lt-ltb}
use Rattle.std.proofs.lemmas.Option.{cond_some}
use Rattle.std.proofs.lemmas.Slice.Eq.{bytes_eq-Decides}
use Rattle.best_turn.specs.declared.replays.Entry.{Entry}
use Rattle.best_monitor.specs.declared.request.Request.TheVariants.{Report, Value, Second, Has, Copy, Stop, Stopped}
use Rattle.best_monitor.specs.declared.request.Reply.{Reply}
use Rattle.best_monitor.specs.declared.request.Reply.TheVariants.{Truth, Number, Missing, Long, Done}
use Rattle.best_monitor.specs.declared.request.Reply.TheVariants.{List as Listed}
use Rattle.pool_monitor.specs.declared.request.PoolRequest.TheVariants.{Add, Size, Rank, Take}
use Rattle.pool_monitor.specs.declared.request.DeskRequest.{DeskRequest}
use Rattle.pool_monitor.specs.declared.request.DeskRequest.TheVariants.{Best, Pool}
use Rattle.journal_text.specs.declared.version.Version.{Version}
use Rattle.journal_text.specs.Texts.{joined, list_text, second_words, request_words, reply_words, loop_text}
use Rattle.journal_text.specs.Grammar.{most_iterations, has_request, may_have, FitsList, FitsRequest, FitsReply, FitsEntry, entry_words, entry_line}
use Rattle.journal_text.specs.Refusal.{split}
use Rattle.journal_text.specs.Reading.{◌>>=◌, next, only, number_up_to, field, index_of, request_of, reply_of, is_entry, entry_of, loop_of}
use Rattle.journal_text.proofs.Cuts.{is_free, AllFree, AllFree-append, free_byte, both, and_true, free_joined, split_joined, text_of_parts, next_is, only_is, next_cons}
use Rattle.journal_text.proofs.Choices.{bind_some}
use Rattle.journal_text.proofs.NumberLaws.{up_to_takes, up_to_again, free_decimal, free_signed, free_list, first_digit}
use Rattle.journal_text.proofs.Joins.{joined_cons}
use Rattle.journal_text.proofs.RequestLaws.{index_takes, index_again, request_takes, request_again}
use Rattle.journal_text.proofs.ReplyLaws.{reply_takes, reply_again}

abbrev Asked : Type 0
Asked = DeskRequest × List (List ℕ)

abbrev made : ℕ → Asked → Reply → Entry DeskRequest Reply
made i q r = record { iteration = i; request = q.0; reply = r }

-- ---- which bytes don't stand in words

-- bytes from 45 on
abbrev all_high : List ℕ → Bool
all_high [] = true
all_high (c ∷ cs) = leb 45 c && all_high cs

free_word : (at : ℕ) (w : List ℕ) → at < 44 → all_high w ≡ true → is_free at w ≡ true
free_word at [] low high = refl
free_word at (c ∷ cs) low high = let t = both (leb 45 c) (all_high cs) high in let l = leb-true 45 c t.0 in free_byte at c cs (λ e. absurd (omega arith)) (free_word at cs low t.1)

free_number : (at n : ℕ) → at < 44 → n < 18446744073709551616 → is_free at (decimal n) ≡ true
free_number at n low fits = free_decimal at n (inl (omega arith)) fits

free_value : (at : ℕ) (z : ℤ) → at < 44 → FitsSigned w64 z → is_free at (signed_decimal z) ≡ true
free_value at z low fits = free_signed at z (inl (omega arith)) (λ e. absurd (omega arith)) fits

wide : (m : ℕ) → m < 4294967296 → m < 18446744073709551616
wide m h = omega arith

free_seconds : (at : ℕ) (v : Version) (z : ℤ) (zs : List ℤ) → at < 44 → FitsSigned w64 z → FitsList zs → AllFree at (second_words v z ++ list_text zs ∷ [])
free_seconds at v z zs low fits all = cases v.has_seconds
  where
    cases : (b : Bool) → AllFree at (cond b (signed_decimal z ∷ []) [] ++ list_text zs ∷ [])
    cases true = (free_value at z low fits, (free_list at zs low all, tt))
    cases false = (free_list at zs low all, tt)

free_request : (at : ℕ) (v : Version) (q : DeskRequest) → at < 44 → FitsRequest q → AllFree at (request_words v q)
free_request at v (Best (Report m value second list)) low fits = (free_word at (codes "report") low refl, (free_number at m low (wide m fits.0), (free_value at value low fits.1, free_seconds at v second list low fits.2 fits.3)))
free_request at v (Best (Value m)) low fits = (free_word at (codes "value") low refl, (free_number at m low (wide m fits), tt))
free_request at v (Best (Second m)) low fits = (free_word at (codes "second") low refl, (free_number at m low (wide m fits), tt))
free_request at v (Best (Has m)) low fits = (free_word at (codes "has") low refl, (free_number at m low (wide m fits), tt))
free_request at v (Best (Copy m room)) low fits = (free_word at (codes "copy") low refl, (free_number at m low (wide m fits.0), (free_number at room low fits.1, tt)))
free_request at v (Best (Stop m)) low fits = (free_word at (codes "stop") low refl, (free_number at m low (wide m fits), tt))
free_request at v (Best (Stopped m)) low fits = (free_word at (codes "stopped") low refl, (free_number at m low (wide m fits), tt))
free_request at v (Pool (Add p value list)) low fits = (free_word at (codes "add") low refl, (free_number at p low (wide p fits.0), (free_value at value low fits.1, (free_list at list low fits.2, tt))))
free_request at v (Pool (Size p)) low fits = (free_word at (codes "size") low refl, (free_number at p low (wide p fits), tt))
free_request at v (Pool (Rank p rank)) low fits = (free_word at (codes "rank") low refl, (free_number at p low (wide p fits.0), (free_value at rank low fits.1, tt)))
free_request at v (Pool (Take p rank room)) low fits = (free_word at (codes "take") low refl, (free_number at p low (wide p fits.0), (free_value at rank low fits.1, (free_number at room low fits.2, tt))))

free_reply : (at : ℕ) (r : Reply) → at < 44 → FitsReply r → AllFree at (reply_words r)
free_reply at (Truth true) low fits = (free_word at (codes "true") low refl, tt)
free_reply at (Truth false) low fits = (free_word at (codes "false") low refl, tt)
free_reply at (Number z) low fits = (free_value at z low fits, tt)
free_reply at (Listed zs) low fits = (free_list at zs low fits, tt)
free_reply at Missing low fits = (free_word at (codes "none") low refl, tt)
free_reply at (Long n) low fits = (free_word at (codes "long") low refl, (free_number at n low fits, tt))
free_reply at Done low fits = (free_word at (codes "ok") low refl, tt)

pub iteration_small : (n i : ℕ) → n ≤ most_iterations → i < n → i < 4294967296
iteration_small n i most h = omega arith

some_reply : (r : Reply) → 0 < length (reply_words r)
some_reply (Truth true) = omega arith
some_reply (Truth false) = omega arith
some_reply (Number z) = omega arith
some_reply (Listed zs) = omega arith
some_reply Missing = omega arith
some_reply (Long n) = omega arith
some_reply Done = omega arith

longer : (xs : List (List ℕ)) (y : List ℕ) (ys : List (List ℕ)) → 0 < length (xs ++ y ∷ ys)
longer [] y ys = omega arith
longer (x ∷ xs) y ys = omega arith

-- ---- entries

module _ (v : Version) where
  pub entry_takes : (n : ℕ) (line : List ℕ) (e : Entry DeskRequest Reply) → entry_of v n (split 32 line) ≡ Some e → (line ≡ entry_line v e) × FitsEntry v n e
  unfolding entry_of
  entry_takes n line x e =
      let ws : List (List ℕ) = split 32 line in
      let a = bind_some (field index_of ws) (λ i. request_of v i.1 >>= λ q. next q.1 >>= λ arrow. reply_of arrow.1 >>= λ r. cond (is_entry v n arrow.0 i.0 q.0 r) (Some (made i.0 q r)) None) x e in
      let b = bind_some (request_of v a.0.1) (λ q. next q.1 >>= λ arrow. reply_of arrow.1 >>= λ r. cond (is_entry v n arrow.0 a.0.0 q.0 r) (Some (made a.0.0 q r)) None) x a.2 in
      let c = bind_some (next b.0.1) (λ arrow. reply_of arrow.1 >>= λ r. cond (is_entry v n arrow.0 a.0.0 b.0.0 r) (Some (made a.0.0 b.0 r)) None) x b.2 in
      let d = bind_some (reply_of c.0.1) (λ r. cond (is_entry v n c.0.0 a.0.0 b.0.0 r) (Some (made a.0.0 b.0 r)) None) x c.2 in
      let g = cond_some (is_entry v n c.0.0 a.0.0 b.0.0 d.0) (made a.0.0 b.0 d.0) x d.2 in
      let s = both (bytes_eq c.0.0 (codes "->") && nat_lt a.0.0 n && has_request v b.0.0) (may_have b.0.0 d.0) g.0 in
      let t = both (bytes_eq c.0.0 (codes "->") && nat_lt a.0.0 n) (has_request v b.0.0) s.0 in
      let u = both (bytes_eq c.0.0 (codes "->")) (nat_lt a.0.0 n) t.0 in
      let i = index_takes ws a.0 a.1 in
      let q = request_takes v a.0.1 b.0 b.1 in
      let r = reply_takes c.0.1 d.0 d.1 in
      let arrow : b.0.1 ≡ codes "->" ∷ reply_words d.0 = (next_is b.0.1 c.0 c.1).0 ∙ ap₂ (λ h l. h ∷ l) ((bytes_eq-Decides c.0.0 (codes "->")).0 u.0) r.0 in
      let words : ws ≡ decimal a.0.0 ∷ (request_words v b.0.0 ++ codes "->" ∷ reply_words d.0) = i.0 ∙ ap (λ l. decimal a.0.0 ∷ l) (q.0 ∙ ap (λ l. request_words v b.0.0 ++ l) arrow) in
      subst (λ (y : Entry DeskRequest Reply). (line ≡ entry_line v y) × FitsEntry v n y) g.1
      (text_of_parts 32 line (decimal a.0.0 ∷ (request_words v b.0.0 ++ codes "->" ∷ reply_words d.0)) words, record { iteration = ltb-true a.0.0 n u.1; request = q.1; reply = r.1; pair = s.1; version = t.1 })

  free_entry : (at n : ℕ) (e : Entry DeskRequest Reply) → at < 44 → n ≤ most_iterations → FitsEntry v n e → AllFree at (entry_words v e)
  free_entry at n e low most fits =
      (free_number at e.iteration low (wide e.iteration (iteration_small n e.iteration most fits.iteration)), AllFree-append at (request_words v e.request) (codes "->" ∷ reply_words e.reply) (free_request at v e.request low fits.request) (free_word at (codes "->") low refl, free_reply at e.reply low fits.reply))

  pub entry_again : (n : ℕ) (e : Entry DeskRequest Reply) → n ≤ most_iterations → FitsEntry v n e → entry_of v n (split 32 (entry_line v e)) ≡ Some e
  unfolding entry_of
  entry_again n e most fits =
      let i : ℕ = e.iteration in
      let q : DeskRequest = e.request in
      let r : Reply = e.reply in
      let rest : List (List ℕ) = codes "->" ∷ reply_words r in
      ap (entry_of v n) (split_joined 32 (decimal i) (request_words v q ++ rest) (free_entry 32 n e (omega arith) most fits))
      ∙ (ap (λ o. o >>= λ i. request_of v i.1 >>= λ q. next q.1 >>= λ arrow. reply_of arrow.1 >>= λ r. cond (is_entry v n arrow.0 i.0 q.0 r) (Some (made i.0 q r)) None) (index_again i (request_words v q ++ rest) (iteration_small n i most fits.iteration) (longer (request_words v q) (codes "->") (reply_words r)))
      ∙ (ap (λ o. o >>= λ q. next q.1 >>= λ arrow. reply_of arrow.1 >>= λ r. cond (is_entry v n arrow.0 i q.0 r) (Some (made i q r)) None) (request_again v q (codes "->") (reply_words r) fits.request fits.version)
      ∙ (ap (λ o. o >>= λ arrow. reply_of arrow.1 >>= λ r. cond (is_entry v n arrow.0 i q r) (Some (made i (q, rest) r)) None) (next_cons (codes "->") (reply_words r) (some_reply r))
      ∙ (ap (λ o. o >>= λ r. cond (is_entry v n (codes "->") i q r) (Some (made i (q, rest) r)) None) (reply_again r fits.reply)
      ∙ ap (λ b. cond b (Some e) None) (and_true (nat_lt i n && has_request v q) (may_have q r) (and_true (nat_lt i n) (has_request v q) (lt-ltb i n fits.iteration) fits.version) fits.pair)))))

  pub free_entry_line : (n : ℕ) (e : Entry DeskRequest Reply) → n ≤ most_iterations → FitsEntry v n e → is_free 10 (entry_line v e) ≡ true
  free_entry_line n e most fits = free_joined 10 32 (entry_words v e) (λ e. absurd (omega arith)) (free_entry 10 n e (omega arith) most fits)

  -- an entry's line begins with a digit
  pub first_of_entry : (n : ℕ) (e : Entry DeskRequest Reply) → n ≤ most_iterations → FitsEntry v n e → (c : ℕ) × (cs : List ℕ) × (entry_line v e ≡ c ∷ cs) × (48 ≤ c) × (c ≤ 57)
  first_of_entry n e most fits =
      let rest : List (List ℕ) = request_words v e.request ++ codes "->" ∷ reply_words e.reply in
      let f = first_digit e.iteration (wide e.iteration (iteration_small n e.iteration most fits.iteration)) in
      let t = both (leb 48 f.0) (leb f.0 57) f.3 in
      (f.0, f.1 ++ 32 ∷ joined 32 rest, joined_cons 32 (decimal e.iteration) rest (longer (request_words v e.request) (codes "->") (reply_words e.reply)) ∙ ap (λ l. l ++ 32 ∷ joined 32 rest) f.2, leb-true 48 f.0 t.0, leb-true f.0 57 t.1)

-- ---- loops

free_loop : (at n : ℕ) → at < 44 → n ≤ most_iterations → AllFree at (codes "loop" ∷ decimal n ∷ [])
free_loop at n low most = (free_word at (codes "loop") low refl, (free_number at n low (omega arith), tt))

pub free_loop_text : (n : ℕ) → n ≤ most_iterations → is_free 10 (loop_text n) ≡ true
free_loop_text n most = free_joined 10 32 (codes "loop" ∷ decimal n ∷ []) (λ e. absurd (omega arith)) (free_loop 10 n (omega arith) most)

pub loop_takes : (line : List ℕ) (n : ℕ) → loop_of (split 32 line) ≡ Some n → (line ≡ loop_text n) × (n ≤ most_iterations)
unfolding loop_of
loop_takes line n e =
    let ws : List (List ℕ) = split 32 line in
    let a = bind_some (next ws) (λ name. only name.1 >>= λ word. number_up_to most_iterations word >>= λ k. cond (bytes_eq name.0 (codes "loop")) (Some k) None) n e in
    let b = bind_some (only a.0.1) (λ word. number_up_to most_iterations word >>= λ k. cond (bytes_eq a.0.0 (codes "loop")) (Some k) None) n a.2 in
    let c = bind_some (number_up_to most_iterations b.0) (λ k. cond (bytes_eq a.0.0 (codes "loop")) (Some k) None) n b.2 in
    let d = cond_some (bytes_eq a.0.0 (codes "loop")) c.0 n c.2 in
    let t = up_to_takes most_iterations b.0 c.0 c.1 in
    let words : ws ≡ codes "loop" ∷ decimal c.0 ∷ [] = (next_is ws a.0 a.1).0 ∙ ap₂ (λ h l. h ∷ l) ((bytes_eq-Decides a.0.0 (codes "loop")).0 d.0) (only_is a.0.1 b.0 b.1 ∙ ap (λ w. w ∷ []) t.0) in
    subst (λ (k : ℕ). (line ≡ loop_text k) × (k ≤ most_iterations)) d.1 (text_of_parts 32 line (codes "loop" ∷ decimal c.0 ∷ []) words, t.1)

pub loop_again : (n : ℕ) → n ≤ most_iterations → loop_of (split 32 (loop_text n)) ≡ Some n
unfolding loop_of
loop_again n most =
    ap loop_of (split_joined 32 (codes "loop") (decimal n ∷ []) (free_loop 32 n (omega arith) most))
    ∙ ap (λ o. o >>= λ k. cond (bytes_eq (codes "loop") (codes "loop")) (Some k) None) (up_to_again most_iterations n most (omega arith))
