-- What is printed piece by piece is what is spelled.
use Rattle.std.proofs.Common.{◌≡◌, ℕ, ◌+◌, ◌-◌, ◌<◌, ◌≤◌, Bool, true, false, cond, Result, Ok, Err, arith, take, List, [], ◌∷◌, ◌++◌, length, map, drop, get_or, refl, ap, sym, ◌∙◌, append_assoc}
use Rattle.std.specs.Prelude.{ℤ, pos, codes, OnOk}
use Rattle.std.specs.List.{flat_map}
use Rattle.std.specs.Fmt.{decimal, signed_decimal}
use Rattle.std.proofs.lemmas.List.{append-nil, at_drop_more, take_rest}
use Rattle.std.proofs.lemmas.List.Concat.{flat_map-cons}
use Rattle.best_turn.specs.declared.replays.Entry.{Entry}
use Rattle.best_monitor.specs.declared.request.Request.TheVariants.{Report, Value, Second, Has, Copy, Stop, Stopped}
use Rattle.best_monitor.specs.declared.request.Reply.{Reply}
use Rattle.best_monitor.specs.declared.request.Reply.TheVariants.{Truth, Number, Missing, Long, Done}
use Rattle.best_monitor.specs.declared.request.Reply.TheVariants.{List as Listed}
use Rattle.pool_monitor.specs.declared.journal.LoopHistory.{LoopHistory}
use Rattle.pool_monitor.specs.declared.request.PoolRequest.TheVariants.{Add, Size, Rank, Take}
use Rattle.pool_monitor.specs.declared.request.DeskRequest.{DeskRequest}
use Rattle.pool_monitor.specs.declared.request.DeskRequest.TheVariants.{Best, Pool}
use Rattle.journal_text.specs.declared.version.Version.{Version}
use Rattle.journal_text.specs.Texts.{joined, second_words, request_words, reply_words, reply_text, loop_text}
use Rattle.journal_text.specs.Grammar.{entry_line, loop_lines, ended, journal_text}
use Rattle.journal_text.proofs.Joins.{joined_cons, joined_append}

-- numbers with commas between them are the first, and the others each behind a comma
pub items_text : (z : ℤ) (zs : List ℤ) → joined 44 (map signed_decimal (z ∷ zs)) ≡ signed_decimal z ++ flat_map (λ y. 44 ∷ signed_decimal y) zs
items_text z [] = sym (append-nil (signed_decimal z))
items_text z (y ∷ ys) = ap (λ l. signed_decimal z ++ 44 ∷ l) (items_text y ys) ∙ ap (λ l. signed_decimal z ++ l) (sym (flat_map-cons (λ (y : ℤ). 44 ∷ signed_decimal y) y ys))

pub ended_append : (xs ys : List (List ℕ)) → ended (xs ++ ys) ≡ ended xs ++ ended ys
ended_append [] ys = refl
ended_append (x ∷ xs) ys = ap (λ l. x ++ 10 ∷ l) (ended_append xs ys) ∙ sym (append_assoc x (10 ∷ ended xs) (ended ys))

reply_behind : (r : Reply) → joined 32 (codes "->" ∷ reply_words r) ≡ codes "-> " ++ reply_text r
reply_behind (Truth true) = refl
reply_behind (Truth false) = refl
reply_behind (Number z) = refl
reply_behind (Listed zs) = refl
reply_behind Missing = refl
reply_behind (Long n) = refl
reply_behind Done = refl

-- a report, in its pieces
pub report_text : (v : Version) (old name m value list : List ℕ) (second : ℤ) → old ++ joined 32 (name ∷ m ∷ value ∷ []) ++ cond v.has_seconds (32 ∷ signed_decimal second) [] ++ 32 ∷ list ≡ old ++ joined 32 (name ∷ m ∷ value ∷ (second_words v second ++ list ∷ []))
report_text v old name m value list second = cases v.has_seconds
  where
    start : List ℕ
    start = joined 32 (name ∷ m ∷ value ∷ [])

    cases : (b : Bool) → old ++ start ++ cond b (32 ∷ signed_decimal second) [] ++ 32 ∷ list ≡ old ++ joined 32 (name ∷ m ∷ value ∷ (cond b (signed_decimal second ∷ []) [] ++ list ∷ []))
    cases true = ap (λ l. l ++ 32 ∷ list) (append_assoc old start (32 ∷ signed_decimal second)) ∙ (append_assoc old (start ++ 32 ∷ signed_decimal second) (32 ∷ list) ∙ ap (λ l. old ++ l) (ap (λ l. l ++ 32 ∷ list) (sym (joined_append name (m ∷ value ∷ []) (signed_decimal second) [])) ∙ sym (joined_append name (m ∷ value ∷ signed_decimal second ∷ []) list [])))
    cases false = ap (λ l. l ++ 32 ∷ list) (append-nil (old ++ start)) ∙ (append_assoc old start (32 ∷ list) ∙ ap (λ l. old ++ l) (sym (joined_append name (m ∷ value ∷ []) list [])))

module _ (v : Version) where
  -- a request has words
  pub some_request : (q : DeskRequest) → 0 < length (request_words v q)
  some_request (Best (Report m value second list)) = omega arith
  some_request (Best (Value m)) = omega arith
  some_request (Best (Second m)) = omega arith
  some_request (Best (Has m)) = omega arith
  some_request (Best (Copy m room)) = omega arith
  some_request (Best (Stop m)) = omega arith
  some_request (Best (Stopped m)) = omega arith
  some_request (Pool (Add p value list)) = omega arith
  some_request (Pool (Size p)) = omega arith
  some_request (Pool (Rank p rank)) = omega arith
  some_request (Pool (Take p rank room)) = omega arith

  abbrev asked : DeskRequest → List ℕ
  asked q = joined 32 (request_words v q)

  request_behind : (d : List ℕ) (q : DeskRequest) (vs : List (List ℕ)) → joined 32 (d ∷ (request_words v q ++ codes "->" ∷ vs)) ≡ d ++ 32 ∷ (asked q ++ 32 ∷ joined 32 (codes "->" ∷ vs))
  request_behind d q vs =
      joined_append d (request_words v q) (codes "->") vs
      ∙ (ap (λ l. l ++ 32 ∷ joined 32 (codes "->" ∷ vs)) (joined_cons 32 d (request_words v q) (some_request q)) ∙ append_assoc d (32 ∷ asked q) (32 ∷ joined 32 (codes "->" ∷ vs)))

  -- an entry's line, in its pieces
  pub entry_text : (e : Entry DeskRequest Reply) → entry_line v e ≡ decimal e.iteration ++ codes " " ++ asked e.request ++ codes " -> " ++ reply_text e.reply
  entry_text e =
      let d : List ℕ = decimal e.iteration in
      let q : List ℕ = asked e.request in
      let r : List ℕ = reply_text e.reply in
      request_behind d e.request (reply_words e.reply)
      ∙ (ap (λ l. d ++ 32 ∷ (q ++ 32 ∷ l)) (reply_behind e.reply)
      ∙ (sym (append_assoc d (codes " ") (q ++ (codes " -> " ++ r)))
      ∙ (sym (append_assoc (d ++ codes " ") q (codes " -> " ++ r)) ∙ sym (append_assoc ((d ++ codes " ") ++ q) (codes " -> ") r))))

  -- what one call after another pushes
  pub pushed_entry : (old : List ℕ) (e : Entry DeskRequest Reply) → old ++ decimal e.iteration ++ codes " " ++ joined 32 (request_words v e.request) ++ codes " -> " ++ reply_text e.reply ++ codes "\n" ≡ old ++ (entry_line v e ++ codes "\n")
  pushed_entry old e = regroup old (decimal e.iteration) (codes " ") (asked e.request) (codes " -> ") (reply_text e.reply) (codes "\n") ∙ ap (λ l. old ++ (l ++ codes "\n")) (sym (entry_text e))
    where
      regroup : (o a b c d f g : List ℕ) → o ++ a ++ b ++ c ++ d ++ f ++ g ≡ o ++ (a ++ b ++ c ++ d ++ f ++ g)
      regroup o a b c d f g =
          ap (λ l. l ++ g) (ap (λ l. l ++ f) (ap (λ l. l ++ d) (ap (λ l. l ++ c) (append_assoc o a b) ∙ append_assoc o (a ++ b) c) ∙ append_assoc o (a ++ b ++ c) d) ∙ append_assoc o (a ++ b ++ c ++ d) f)
          ∙ append_assoc o (a ++ b ++ c ++ d ++ f) g

  pub entries_more : (es : List (Entry DeskRequest Reply)) (i : ℕ) (d : Entry DeskRequest Reply) (old new now : List ℕ) → i < length es → new ≡ old ++ (entry_line v (get_or es i d) ++ codes "\n")
      → old ++ ended (map (entry_line v) (drop i es)) ≡ now → new ++ ended (map (entry_line v) (drop (i + 1) es)) ≡ now
  entries_more es i d old new now lt is e =
      let rest : List ℕ = ended (map (entry_line v) (drop (i + 1) es)) in
      ap (λ l. l ++ rest) is
      ∙ (append_assoc old (entry_line v (get_or es i d) ++ codes "\n") rest
      ∙ (ap (λ l. old ++ l) (append_assoc (entry_line v (get_or es i d)) (codes "\n") rest)
      ∙ (sym (at_drop_more (λ l. old ++ ended (map (entry_line v) l)) es i d lt) ∙ e)))

  pub pushed_loop : (old : List ℕ) (h : LoopHistory) → old ++ loop_text h.iterations ++ codes "\n" ++ ended (map (entry_line v) h.entries) ≡ old ++ ended (loop_lines v h)
  pushed_loop old h =
      ap (λ l. l ++ ended (map (entry_line v) h.entries)) (append_assoc old (loop_text h.iterations) (codes "\n"))
      ∙ (append_assoc old (loop_text h.iterations ++ codes "\n") (ended (map (entry_line v) h.entries)) ∙ ap (λ l. old ++ l) (append_assoc (loop_text h.iterations) (codes "\n") (ended (map (entry_line v) h.entries))))

  pub loops_more : (hs : List LoopHistory) (i : ℕ) (d : LoopHistory) (old new now : List ℕ) → i < length hs → new ≡ old ++ ended (loop_lines v (get_or hs i d))
      → old ++ ended (flat_map (loop_lines v) (drop i hs)) ≡ now → new ++ ended (flat_map (loop_lines v) (drop (i + 1) hs)) ≡ now
  loops_more hs i d old new now lt is e =
      let h : LoopHistory = get_or hs i d in
      let rest : List LoopHistory = drop (i + 1) hs in
      ap (λ l. l ++ ended (flat_map (loop_lines v) rest)) is
      ∙ (append_assoc old (ended (loop_lines v h)) (ended (flat_map (loop_lines v) rest))
      ∙ (ap (λ l. old ++ l) (sym (ended_append (loop_lines v h) (flat_map (loop_lines v) rest)) ∙ ap ended (sym (flat_map-cons (loop_lines v) h rest)))
      ∙ (sym (at_drop_more (λ l. old ++ ended (flat_map (loop_lines v) l)) hs i d lt) ∙ e)))

abbrev comma_text : ℤ → List ℕ
comma_text z = 44 ∷ signed_decimal z

pub rest_more : (zs : List ℤ) (i : ℕ) (old new now : List ℕ) → i < length zs → new ≡ old ++ codes "," ++ signed_decimal (get_or zs i (pos 0)) → old ++ flat_map (λ z. 44 ∷ signed_decimal z) (drop i zs) ≡ now → new ++ flat_map (λ z. 44 ∷ signed_decimal z) (drop (i + 1) zs) ≡ now
rest_more zs i old new now lt is e =
    let z : ℤ = get_or zs i (pos 0) in
    let rest : List ℤ = drop (i + 1) zs in
    ap (λ l. l ++ flat_map comma_text rest) is
    ∙ (ap (λ l. l ++ flat_map comma_text rest) (append_assoc old (codes ",") (signed_decimal z))
    ∙ (append_assoc old (comma_text z) (flat_map comma_text rest)
    ∙ (ap (λ l. old ++ l) (sym (flat_map-cons comma_text z rest)) ∙ (sym (at_drop_more (λ l. old ++ flat_map comma_text l) zs i (pos 0) lt) ∙ e))))

pub pushed_journal : (v : Version) (old : List ℕ) (loops : List LoopHistory) → old ++ v.header ++ codes "\n" ++ ended (flat_map (loop_lines v) loops) ++ codes "end\n" ≡ old ++ journal_text v loops
pushed_journal v old loops =
    let rest : List ℕ = ended (flat_map (loop_lines v) loops) in
    ap (λ l. l ++ rest ++ codes "end\n") (append_assoc old v.header (codes "\n"))
    ∙ (ap (λ l. l ++ codes "end\n") (append_assoc old (v.header ++ codes "\n") rest)
    ∙ (append_assoc old (v.header ++ codes "\n" ++ rest) (codes "end\n") ∙ ap (λ l. old ++ l) (ap (λ l. l ++ codes "end\n") (append_assoc v.header (codes "\n") rest) ∙ sym (ended_append (v.header ∷ flat_map (loop_lines v) loops) (codes "end" ∷ [])))))

-- what the calls for a list and for a journal push together
pub items_pushed : {T E : Type 0} (r : Result T E) (old mid new : List ℕ) (zs : List ℤ) → 1 ≤ length zs → mid ≡ old ++ signed_decimal (get_or zs 0 (pos 0)) → OnOk r (new ≡ mid ++ flat_map comma_text (take (length zs - 1) (drop 1 zs))) → OnOk r (new ≡ old ++ joined 44 (map signed_decimal zs))
items_pushed (Err e) old mid new zs some_number first is = tt
items_pushed (Ok x) old mid new [] some_number first is = absurd (omega arith)
items_pushed (Ok x) old mid new (z ∷ zs) some_number first is =
    is ∙ (ap (λ l. mid ++ flat_map comma_text l) (take_rest (z ∷ zs) 1) ∙ (ap (λ l. l ++ flat_map comma_text zs) first ∙ (append_assoc old (signed_decimal z) (flat_map comma_text zs) ∙ ap (λ l. old ++ l) (sym (items_text z zs)))))

pub journal_pushed : {T E : Type 0} (r : Result T E) (old a b l new : List ℕ) (v : Version) (loops : List LoopHistory) → a ≡ old ++ v.header → b ≡ a ++ codes "\n" → l ≡ b ++ ended (flat_map (loop_lines v) loops) → OnOk r (new ≡ l ++ codes "end\n") → OnOk r (new ≡ old ++ journal_text v loops)
journal_pushed (Err e) old a b l new v loops x y z is = tt
journal_pushed (Ok t) old a b l new v loops x y z is =
    is ∙ (ap (λ k. k ++ codes "end\n") (z ∙ ap (λ k. k ++ ended (flat_map (loop_lines v) loops)) (y ∙ ap (λ k. k ++ codes "\n") x)) ∙ pushed_journal v old loops)
