-- What is read line by line behind a version's header is what the grammar spells in that version.
use Rattle.std.proofs.Common.{◌≡◌, ℕ, ◌+◌, ◌<◌, ◌≤◌, Bool, true, false, ◌&&◌, cond, ne_eqb, List, [], ◌∷◌, ◌++◌, length, map, Option, Some, None, Err, refl, ap, sym, subst, ◌∙◌, arith, append_assoc}
use Rattle.std.specs.Prelude.{codes}
use Rattle.std.specs.List.{flat_map, AllByRecursion}
use Rattle.std.specs.Str.{bytes_eq}
use Rattle.std.proofs.lemmas.List.{append-nil}
use Rattle.std.proofs.lemmas.List.Concat.{flat_map-cons}
use Rattle.std.proofs.lemmas.Slice.Eq.{bytes_eq-Decides}
use Rattle.best_turn.specs.declared.replays.Entry.{Entry}
use Rattle.best_monitor.specs.declared.request.Reply.{Reply}
use Rattle.pool_monitor.specs.declared.journal.LoopHistory.{LoopHistory}
use Rattle.pool_monitor.specs.declared.request.DeskRequest.{DeskRequest}
use Rattle.journal_text.specs.declared.reader.Reader.{Reader}
use Rattle.journal_text.specs.declared.reader.Reader.TheVariants.{Between, Open, Ended}
use Rattle.journal_text.specs.declared.version.Version.{Version}
use Rattle.journal_text.specs.Versions.{IsVersion}
use Rattle.journal_text.specs.Texts.{loop_text}
use Rattle.journal_text.specs.Grammar.{most_iterations, FitsEntry, FitsLoop, IsJournal, entry_line, loop_lines, journal_lines, journal_text}
use Rattle.journal_text.specs.Refusal.{split}
use Rattle.journal_text.specs.Reading.{◌>>=◌, next, loop_of, entry_of}
use Rattle.journal_text.specs.Steps.{fresh_loop, opens, adds, begins_loop, in_loop, step, finished, pieces_of, then_or}
use Rattle.journal_text.proofs.Cuts.{AllFree, AllFree-append, split_ended, split_some, next_is, one_word}
use Rattle.journal_text.proofs.Choices.{some_is, bind_some}
use Rattle.journal_text.proofs.VersionLaws.{free_header}
use Rattle.journal_text.proofs.EntryLaws.{entry_takes, entry_again, free_entry_line, loop_takes, loop_again, free_loop_text, first_of_entry}

abbrev pub Loops : Type 0
Loops = List LoopHistory

abbrev pub Lines : Type 0
Lines = List (List ℕ)

-- the loops that were read
abbrev pub loops_of : Reader → Loops
loops_of (Between j) = j
loops_of (Open j h) = j ++ h ∷ []
loops_of (Ended j) = j

-- ---- loops at the end

all_append : {A : Type 0} (P : A → Type 0) (xs ys : List A) → AllByRecursion P xs → AllByRecursion P ys → AllByRecursion P (xs ++ ys)
all_append P [] ys f g = g
all_append P (x ∷ xs) ys f g = (f.0, all_append P xs ys f.1 g)

all_front : {A : Type 0} (P : A → Type 0) (xs ys : List A) → AllByRecursion P (xs ++ ys) → AllByRecursion P xs × AllByRecursion P ys
all_front P [] ys f = (tt, f)
all_front P (x ∷ xs) ys f = let h = all_front P xs ys f.1 in ((f.0, h.0), h.1)

map_push : {A B : Type 0} (f : A → B) (xs : List A) (x : A) → map f (xs ++ x ∷ []) ≡ map f xs ++ f x ∷ []
map_push f [] x = refl
map_push f (y ∷ ys) x = ap (λ l. f y ∷ l) (map_push f ys x)

abbrev with_entry : LoopHistory → Entry DeskRequest Reply → LoopHistory
with_entry h e = record { iterations = h.iterations; entries = h.entries ++ e ∷ [] }

-- a loop may begin or the journal end behind these loops
data IsWithin : Reader → Loops → Type 0 where
  between : (j : Loops) → IsWithin (Between j) j
  opened : (j : Loops) (h : LoopHistory) → IsWithin (Open j h) (j ++ h ∷ [])

opens_again : (j : Loops) (n : ℕ) → n ≤ most_iterations → opens j (loop_text n) ≡ Some (Open j (fresh_loop n))
unfolding opens
opens_again j n most = ap (λ o. o >>= λ k. Some (Open j (fresh_loop k))) (loop_again n most)

no_loop : (c : ℕ) (cs : List ℕ) → 48 ≤ c → c ≤ 57 → (bytes_eq (c ∷ cs) (codes "end") ≡ false) × (begins_loop (c ∷ cs) ≡ false)
no_loop c cs low high = (ap (λ b. b && bytes_eq cs (codes "nd")) (ne_eqb c 101 (λ e. absurd (omega arith))), ne_eqb c 108 (λ e. absurd (omega arith)))

abbrev with_entries : LoopHistory → List (Entry DeskRequest Reply) → LoopHistory
with_entries h es = record { iterations = h.iterations; entries = h.entries ++ es }

module _ (v : Version) where
  -- the lines of loops, and the header before them
  abbrev pub all_loops : Loops → Lines
  all_loops j = flat_map (loop_lines v) j

  abbrev pub headed : Loops → Lines
  headed j = v.header ∷ all_loops j

  -- the lines that were read
  abbrev pub read_so_far : Reader → Lines
  read_so_far (Between j) = headed j
  read_so_far (Open j h) = headed (j ++ h ∷ [])
  read_so_far (Ended j) = headed j ++ codes "end" ∷ []

  abbrev pub Good : Reader → Type 0
  Good r = IsJournal v (loops_of r)

  loops_push : (j : Loops) (h : LoopHistory) → all_loops (j ++ h ∷ []) ≡ all_loops j ++ loop_lines v h
  loops_push [] h = flat_map-cons (loop_lines v) h [] ∙ append-nil (loop_lines v h)
  loops_push (x ∷ xs) h =
      flat_map-cons (loop_lines v) x (xs ++ h ∷ [])
      ∙ (ap (λ l. loop_lines v x ++ l) (loops_push xs h)
      ∙ (sym (append_assoc (loop_lines v x) (all_loops xs) (loop_lines v h)) ∙ ap (λ l. l ++ loop_lines v h) (sym (flat_map-cons (loop_lines v) x xs))))

  headed_push : (j : Loops) (h : LoopHistory) → headed (j ++ h ∷ []) ≡ headed j ++ loop_lines v h
  headed_push j h = ap (λ l. v.header ∷ l) (loops_push j h)

  -- ---- a line that is taken

  opens_takes : (j : Loops) (line : List ℕ) (s : Reader) → IsJournal v j → opens j line ≡ Some s → (read_so_far s ≡ headed j ++ line ∷ []) × Good s
  unfolding opens
  opens_takes j line s good e =
      let a = bind_some (loop_of (split 32 line)) (λ n. Some (Open j (fresh_loop n))) s e in
      let t = loop_takes line a.0 a.1 in
      subst (λ (y : Reader). (read_so_far y ≡ headed j ++ line ∷ []) × Good y) (some_is (Open j (fresh_loop a.0)) s a.2)
      (headed_push j (fresh_loop a.0) ∙ ap (λ l. headed j ++ l ∷ []) (sym t.0), all_append (FitsLoop v) j (fresh_loop a.0 ∷ []) good (record { iterations = t.1; entries = tt }, tt))

  adds_takes : (j : Loops) (h : LoopHistory) (line : List ℕ) (s : Reader) → IsJournal v (j ++ h ∷ []) → adds v j h line ≡ Some s → (read_so_far s ≡ headed (j ++ h ∷ []) ++ line ∷ []) × Good s
  unfolding adds
  adds_takes j h line s good e =
      let a = bind_some (entry_of v h.iterations (split 32 line)) (λ x. Some (Open j (with_entry h x))) s e in
      let t = entry_takes v h.iterations line a.0 a.1 in
      let front = all_front (FitsLoop v) j (h ∷ []) good in
      subst (λ (y : Reader). (read_so_far y ≡ headed (j ++ h ∷ []) ++ line ∷ []) × Good y) (some_is (Open j (with_entry h a.0)) s a.2) (
        headed_push j (with_entry h a.0)
            ∙ (ap (λ l. headed j ++ loop_text h.iterations ∷ l) (map_push (entry_line v) h.entries a.0 ∙ ap (λ l. map (entry_line v) h.entries ++ l ∷ []) (sym t.0))
            ∙ (sym (append_assoc (headed j) (loop_lines v h) (line ∷ [])) ∙ ap (λ l. l ++ line ∷ []) (sym (headed_push j h)))),
        all_append (FitsLoop v) j (with_entry h a.0 ∷ []) front.0
            (record { iterations = front.1.0.iterations; entries = all_append (FitsEntry v h.iterations) h.entries (a.0 ∷ []) front.1.0.entries (t.1, tt) }, tt),
      )

  ends_takes : (j : Loops) (line : List ℕ) (s : Reader) → IsJournal v j → bytes_eq line (codes "end") ≡ true → Some (Ended j) ≡ Some s → (read_so_far s ≡ headed j ++ line ∷ []) × Good s
  ends_takes j line s good is e =
      subst (λ (y : Reader). (read_so_far y ≡ headed j ++ line ∷ []) × Good y) (some_is (Ended j) s e) (ap (λ l. headed j ++ l ∷ []) (sym ((bytes_eq-Decides line (codes "end")).0 is)), good)

  pub step_takes : (r : Reader) (line : List ℕ) (s : Reader) → Good r → step v r line ≡ Some s → (read_so_far s ≡ read_so_far r ++ line ∷ []) × Good s
  step_takes (Between j) line s good e = cases (bytes_eq line (codes "end")) refl e
    where
      cases : (b : Bool) → bytes_eq line (codes "end") ≡ b → cond b (Some (Ended j)) (opens j line) ≡ Some s → (read_so_far s ≡ headed j ++ line ∷ []) × Good s
      cases true is e = ends_takes j line s good is e
      cases false is e = opens_takes j line s good e
  step_takes (Open j h) line s good e = cases (bytes_eq line (codes "end")) (begins_loop line) refl e
    where
      cases : (b d : Bool) → bytes_eq line (codes "end") ≡ b → cond b (Some (Ended (j ++ h ∷ []))) (cond d (opens (j ++ h ∷ []) line) (adds v j h line)) ≡ Some s → (read_so_far s ≡ headed (j ++ h ∷ []) ++ line ∷ []) × Good s
      cases true d is e = ends_takes (j ++ h ∷ []) line s good is e
      cases false true is e = opens_takes (j ++ h ∷ []) line s good e
      cases false false is e = adds_takes j h line s good e
  step_takes (Ended j) line s good e = absurd cc

  -- ---- many lines

  abbrev pub run : Reader → Lines → Option Reader
  run r [] = Some r
  run r (l ∷ ls) = step v r l >>= λ s. run s ls

  pub run_append : (r : Reader) (xs ys : Lines) → run r (xs ++ ys) ≡ (run r xs >>= λ s. run s ys)
  run_append r [] ys = refl
  run_append r (x ∷ xs) ys = cases (step v r x) (λ s. run_append s xs ys)
    where
      cases : (o : Option Reader) → ((s : Reader) → run s (xs ++ ys) ≡ (run s xs >>= λ q. run q ys)) → (o >>= λ s. run s (xs ++ ys)) ≡ ((o >>= λ s. run s xs) >>= λ s. run s ys)
      cases None others = refl
      cases (Some s) others = others s

  within_ends : (r : Reader) (j : Loops) → IsWithin r j → step v r (codes "end") ≡ Some (Ended j)
  within_ends r j (between k) = refl
  within_ends r j (opened k h) = refl

  within_opens : (r : Reader) (j : Loops) (n : ℕ) → IsWithin r j → n ≤ most_iterations → step v r (loop_text n) ≡ Some (Open j (fresh_loop n))
  within_opens r j n (between k) most = opens_again j n most
  within_opens r j n (opened k h) most = opens_again j n most

  -- an entry's line is no other line
  entry_apart : (n : ℕ) (e : Entry DeskRequest Reply) → n ≤ most_iterations → FitsEntry v n e → (bytes_eq (entry_line v e) (codes "end") ≡ false) × (begins_loop (entry_line v e) ≡ false)
  entry_apart n e most fits =
      let f = first_of_entry v n e most fits in
      subst (λ (l : List ℕ). (bytes_eq l (codes "end") ≡ false) × (begins_loop l ≡ false)) (sym f.2) (no_loop f.0 f.1 f.3 f.4)

  adds_again : (j : Loops) (h : LoopHistory) (e : Entry DeskRequest Reply) → h.iterations ≤ most_iterations → FitsEntry v h.iterations e → adds v j h (entry_line v e) ≡ Some (Open j (with_entry h e))
  unfolding adds
  adds_again j h e most fits = ap (λ o. o >>= λ x. Some (Open j (with_entry h x))) (entry_again v h.iterations e most fits)

  step_entry : (j : Loops) (h : LoopHistory) (e : Entry DeskRequest Reply) → h.iterations ≤ most_iterations → FitsEntry v h.iterations e → step v (Open j h) (entry_line v e) ≡ Some (Open j (with_entry h e))
  step_entry j h e most fits =
      let apart = entry_apart h.iterations e most fits in
      let line : List ℕ = entry_line v e in
      ap (λ b. cond b (Some (Ended (j ++ h ∷ []))) (in_loop v j h line)) apart.0 ∙ (ap (λ b. cond b (opens (j ++ h ∷ []) line) (adds v j h line)) apart.1 ∙ adds_again j h e most fits)

  run_entries : (j : Loops) (h : LoopHistory) (es : List (Entry DeskRequest Reply)) → h.iterations ≤ most_iterations → AllByRecursion (FitsEntry v h.iterations) es → run (Open j h) (map (entry_line v) es) ≡ Some (Open j (with_entries h es))
  run_entries j h [] most fits = ap (λ l. Some (Open j (record { iterations = h.iterations; entries = l }))) (sym (append-nil h.entries))
  run_entries j h (e ∷ es) most fits =
      ap (λ o. o >>= λ s. run s (map (entry_line v) es)) (step_entry j h e most fits.0)
      ∙ (run_entries j (with_entry h e) es most fits.1 ∙ ap (λ l. Some (Open j (record { iterations = h.iterations; entries = l }))) (append_assoc h.entries (e ∷ []) es))

  run_loop : (r : Reader) (j : Loops) (h : LoopHistory) → IsWithin r j → FitsLoop v h → run r (loop_lines v h) ≡ Some (Open j h)
  run_loop r j h within fits =
      ap (λ o. o >>= λ s. run s (map (entry_line v) h.entries)) (within_opens r j h.iterations within fits.iterations)
      ∙ run_entries j (fresh_loop h.iterations) h.entries fits.iterations fits.entries

  -- the loops of a journal, behind others
  run_loops : (r : Reader) (j k : Loops) → IsWithin r j → IsJournal v k → run r (all_loops k ++ codes "end" ∷ []) ≡ Some (Ended (j ++ k))
  run_loops r j [] within good = ap (λ o. o >>= λ s. Some s) (within_ends r j within) ∙ ap (λ l. Some (Ended l)) (sym (append-nil j))
  run_loops r j (h ∷ hs) within good =
      let stop : Lines = codes "end" ∷ [] in
      ap (λ l. run r (l ++ stop)) (flat_map-cons (loop_lines v) h hs)
      ∙ (ap (run r) (append_assoc (loop_lines v h) (all_loops hs) stop)
      ∙ (run_append r (loop_lines v h) (all_loops hs ++ stop)
      ∙ (ap (λ o. o >>= λ s. run s (all_loops hs ++ stop)) (run_loop r j h within good.0)
      ∙ (run_loops (Open j h) (j ++ h ∷ []) hs (opened j h) good.1 ∙ ap (λ l. Some (Ended l)) (append_assoc j (h ∷ []) hs)))))

  -- all lines of a journal behind its header are read
  pub run_journal : (j : Loops) → IsJournal v j → run (Between []) (all_loops j ++ codes "end" ∷ []) ≡ Some (Ended j)
  run_journal j good = run_loops (Between []) [] j (between []) good

  -- ---- whole texts

  free_entries : (n : ℕ) (es : List (Entry DeskRequest Reply)) → n ≤ most_iterations → AllByRecursion (FitsEntry v n) es → AllFree 10 (map (entry_line v) es)
  free_entries n [] most fits = tt
  free_entries n (e ∷ es) most fits = (free_entry_line v n e most fits.0, free_entries n es most fits.1)

  free_loops : (j : Loops) → IsJournal v j → AllFree 10 (all_loops j)
  free_loops [] good = tt
  free_loops (h ∷ hs) good =
      subst (AllFree 10) (sym (flat_map-cons (loop_lines v) h hs))
      (AllFree-append 10 (loop_lines v h) (all_loops hs) (free_loop_text h.iterations good.0.iterations, free_entries h.iterations h.entries good.0.iterations good.0.entries) (free_loops hs good.1))

  pub split_journal : IsVersion v → (j : Loops) → IsJournal v j → split 10 (journal_text v j) ≡ journal_lines v j ++ [] ∷ []
  split_journal known j good = split_ended (journal_lines v j) (AllFree-append 10 (headed j) (codes "end" ∷ []) (free_header v known, free_loops j good) (refl, tt))

  -- ---- the loop over lines

  pieces_cons : (n : ℕ) (r : Reader) (front : List ℕ) (ps : Lines) → 0 < length ps → pieces_of v n r (front ∷ ps) ≡ then_or n (step v r front) (λ q. pieces_of v (n + 1) q ps)
  pieces_cons n r front [] h = absurd (omega arith)
  pieces_cons n r front (p ∷ ps) h = refl

  pub line_more : (n : ℕ) (r s : Reader) (rest front behind : List ℕ) → next (split 10 rest) ≡ Some (front, split 10 behind) → step v r front ≡ Some s → pieces_of v (n + 1) s (split 10 behind) ≡ pieces_of v n r (split 10 rest)
  line_more n r s rest front behind cut is =
      sym (ap (pieces_of v n r) (next_is (split 10 rest) (front, split 10 behind) cut).0 ∙ (pieces_cons n r front (split 10 behind) (split_some 10 behind) ∙ ap (λ o. then_or n o (λ q. pieces_of v (n + 1) q (split 10 behind))) is))

  pub line_fault : (n : ℕ) (r : Reader) (rest front behind : List ℕ) → next (split 10 rest) ≡ Some (front, split 10 behind) → step v r front ≡ None → pieces_of v n r (split 10 rest) ≡ Err n
  line_fault n r rest front behind cut is =
      ap (pieces_of v n r) (next_is (split 10 rest) (front, split 10 behind) cut).0 ∙ (pieces_cons n r front (split 10 behind) (split_some 10 behind) ∙ ap (λ o. then_or n o (λ q. pieces_of v (n + 1) q (split 10 behind))) is)

  pub line_last : (n : ℕ) (r : Reader) (rest : List ℕ) → next (split 10 rest) ≡ None → pieces_of v n r (split 10 rest) ≡ finished n r rest
  line_last n r rest cut = ap (pieces_of v n r) (one_word 10 rest cut)
