-- What is printed is read as the journal that it was printed of.
use Rattle.std.proofs.Common.{◌≡◌, inr, inl, ℕ, Bool, true, false, true≢false, cond, List, [], ◌∷◌, ◌++◌, Result, Ok, Err, refl, sym, subst, ◌∙◌}
use Rattle.std.specs.Prelude.{◌↔◌}
use Rattle.std.specs.List.{AllByRecursion}
use Rattle.best_turn.specs.declared.replays.Entry.{Entry}
use Rattle.best_monitor.specs.declared.request.Request.TheVariants.{Report, Value, Second, Has, Copy, Stop, Stopped}
use Rattle.best_monitor.specs.declared.request.Reply.{Reply}
use Rattle.pool_monitor.specs.declared.request.DeskRequest.{DeskRequest}
use Rattle.pool_monitor.specs.declared.request.DeskRequest.TheVariants.{Best, Pool}
use Rattle.journal_text.specs.Versions.{version_2, version_3, IsVersion}
use Rattle.journal_text.specs.Grammar.{has_request, FitsEntry, IsJournal, journal_lines, Spells}
use Rattle.journal_text.specs.Printed.{asks_pool, entries_ask_pool, loops_ask_pool, version_for, printed}
use Rattle.journal_text.specs.Refusal.{IsFirstFault, IsReading}
use Rattle.journal_text.proofs.LineLaws.{Loops, Lines}
use Rattle.journal_text.proofs.TextLaws.{front_of, spelled_parts, spelled}

-- a choice that isn't, of which the first would be
neither : (b c : Bool) → cond b true c ≡ false → (b ≡ false) × (c ≡ false)
neither true c e = absurd (true≢false e)
neither false c e = (refl, e)

-- ---- a journal in which no pool is asked is one of the second version

second_has : (q : DeskRequest) → asks_pool q ≡ false → has_request version_2 q ≡ true
second_has (Best (Report m value second list)) e = refl
second_has (Best (Value m)) e = refl
second_has (Best (Second m)) e = refl
second_has (Best (Has m)) e = refl
second_has (Best (Copy m room)) e = refl
second_has (Best (Stop m)) e = refl
second_has (Best (Stopped m)) e = refl
second_has (Pool q) e = absurd (true≢false e)

second_entries : (n : ℕ) (es : List (Entry DeskRequest Reply)) → entries_ask_pool es ≡ false → AllByRecursion (FitsEntry version_3 n) es → AllByRecursion (FitsEntry version_2 n) es
second_entries n [] none fits = tt
second_entries n (e ∷ es) none fits =
    let f = neither (asks_pool e.request) (entries_ask_pool es) none in
    let h = fits.0 in
    (record { iteration = h.iteration; request = h.request; reply = h.reply; pair = h.pair; version = second_has e.request f.0 }, second_entries n es f.1 fits.1)

second_loops : (j : Loops) → loops_ask_pool j ≡ false → IsJournal version_3 j → IsJournal version_2 j
second_loops [] none good = tt
second_loops (h ∷ hs) none good =
    let f = neither (entries_ask_pool h.entries) (loops_ask_pool hs) none in
    (record { iterations = good.0.iterations; entries = second_entries h.iterations h.entries f.0 good.0.entries }, second_loops hs f.1 good.1)

version_for_is : (j : Loops) → IsJournal version_3 j → IsVersion (version_for j) × IsJournal (version_for j) j
version_for_is j good = cases (loops_ask_pool j) refl
  where
    cases : (b : Bool) → loops_ask_pool j ≡ b → IsVersion (cond b version_3 version_2) × IsJournal (cond b version_3 version_2) j
    cases true is = (inr (inr refl), good)
    cases false is = (inr (inl refl), second_loops j is good)

pub printed_spells : (j : Loops) → IsJournal version_3 j → Spells (printed j) j
printed_spells j good = let v = version_for_is j good in record { version = version_for j; known = v.0; within = v.1; spelled = refl }

-- ---- a text that is spelled has no line at fault

no_fault : (text : List ℕ) (line : ℕ) (j : Loops) → Spells text j → IsFirstFault text line → ⊥
no_fault text line j s f = cases f.behind refl
  where
    cases : (behind : Lines) → f.behind ≡ behind → ⊥
    cases [] is = f.last is j s
    cases (other ∷ parts) is =
        let cut : f.before ++ f.here ∷ other ∷ parts ≡ journal_lines s.version j ++ [] ∷ [] = subst (λ (l : Lines). f.before ++ f.here ∷ l ≡ journal_lines s.version j ++ [] ∷ []) is (sym f.lines ∙ spelled_parts text j s) in
        let more = front_of f.before f.here other parts (journal_lines s.version j) cut in
        f.whole (λ none. absurd cc) (record { version = s.version; known = s.known; journal = j; within = s.within; more = more.0; begun = more.1 })

abbrev told_as : Loops → Result Loops ℕ
told_as j = Ok j

one_journal : (text : List ℕ) (j k : Loops) → Spells text j → Spells text k → told_as k ≡ told_as j
one_journal text j k s t = sym (spelled text k t) ∙ spelled text j s

pub round_trip : (j : Loops) (told : Result Loops ℕ) → IsJournal version_3 j → (IsReading (printed j) told ↔ told ≡ Ok j)
round_trip j told good = (there told, λ e. subst (IsReading (printed j)) (sym e) (printed_spells j good))
  where
    there : (told : Result Loops ℕ) → IsReading (printed j) told → told ≡ Ok j
    there (Ok k) reads = one_journal (printed j) j k (printed_spells j good) reads
    there (Err line) reads = absurd (no_fault (printed j) line j (printed_spells j good) reads)
