-- What is read of a whole text is what the grammar spells, in whatever version.
use Rattle.std.proofs.Common.{◌≡◌, inl, ℕ, ◌+◌, ◌<◌, List, [], ◌∷◌, ◌++◌, length, Option, Some, None, Result, Ok, Err, refl, ap, sym, subst, ◌∙◌, arith, append_assoc}
use Rattle.std.specs.Prelude.{codes}
use Rattle.std.proofs.lemmas.List.{append-nil}
use Rattle.journal_text.specs.declared.reader.Reader.{Reader}
use Rattle.journal_text.specs.declared.reader.Reader.TheVariants.{Between, Open, Ended}
use Rattle.journal_text.specs.declared.stop.JournalStop as stop
use Rattle.journal_text.specs.declared.stop.JournalStop.TheVariants as stops
use Rattle.journal_text.specs.declared.version.Version.{Version}
use Rattle.journal_text.specs.Versions.{version_1, IsVersion, version_of}
use Rattle.journal_text.specs.Grammar.{IsJournal, journal_lines, Spells}
use Rattle.journal_text.specs.Refusal.{split, Begins, IsFirstFault, IsReading, Told}
use Rattle.journal_text.specs.Reading.{◌>>=◌, next}
use Rattle.journal_text.specs.Steps.{step, finished, then_or, pieces_of, journal_of, Reads}
use Rattle.journal_text.proofs.Cuts.{split_some, text_of_parts, ended_joined, next_is, one_word}
use Rattle.journal_text.proofs.Choices.{some_is}
use Rattle.journal_text.proofs.VersionLaws.{version_takes, version_again, one_version}
use Rattle.journal_text.proofs.LineLaws.{Loops, Lines, all_loops, headed, read_so_far, Good, step_takes, run, run_append, run_journal, split_journal}

-- ---- lists of lines

cons_is : (x y : List ℕ) (xs ys : Lines) → x ∷ xs ≡ y ∷ ys → (x ≡ y) × (xs ≡ ys)
cons_is x y xs ys e = let heads : x ≡ y = cc in let tails : xs ≡ ys = cc in (heads, tails)

not_nothing : (xs : Lines) (x : List ℕ) → xs ++ x ∷ [] ≡ [] → ⊥
not_nothing [] x e = absurd cc
not_nothing (y ∷ ys) x e = absurd cc

append_right : (xs ys : Lines) (x y : List ℕ) → xs ++ x ∷ [] ≡ ys ++ y ∷ [] → (xs ≡ ys) × (x ≡ y)
append_right [] [] x y e = (refl, (cons_is x y [] [] e).0)
append_right [] (b ∷ []) x y e = absurd cc
append_right [] (b ∷ c ∷ cs) x y e = absurd cc
append_right (a ∷ []) [] x y e = absurd cc
append_right (a ∷ c ∷ cs) [] x y e = absurd cc
append_right (a ∷ ps) (b ∷ qs) x y e =
    let c = cons_is a b (ps ++ x ∷ []) (qs ++ y ∷ []) e in
    let h = append_right ps qs x y c.1 in ((λ i. c.0 i ∷ h.0 i), h.1)

too_long : (ps : Lines) (a x y : List ℕ) (ys : Lines) → a ∷ (ps ++ x ∷ y ∷ ys) ≡ [] ∷ [] → ⊥
too_long [] a x y ys e = absurd cc
too_long (b ∷ bs) a x y ys e = absurd cc

-- a line before the last part is one of those that the parts but the last are
pub front_of : (xs : Lines) (x y : List ℕ) (ys zs : Lines) → xs ++ x ∷ y ∷ ys ≡ zs ++ [] ∷ [] → (more : Lines) × (zs ≡ (xs ++ x ∷ []) ++ more)
front_of [] x y ys [] e = absurd cc
front_of [] x y ys (z ∷ zs) e = (zs, ap (λ l. l ∷ zs) (sym (cons_is x z (y ∷ ys) (zs ++ [] ∷ []) e).0))
front_of (a ∷ ps) x y ys [] e = absurd (too_long ps a x y ys e)
front_of (a ∷ ps) x y ys (z ∷ zs) e =
    let c = cons_is a z (ps ++ x ∷ y ∷ ys) (zs ++ [] ∷ []) e in
    let h = front_of ps x y ys zs c.1 in (h.0, λ i. sym c.0 i ∷ h.1 i)

length_push : (before : Lines) (line : List ℕ) (n : ℕ) → n ≡ length before + 2 → n + 1 ≡ length (before ++ line ∷ []) + 2
length_push [] line n e = omega arith
length_push (x ∷ xs) line n e = let h = length_push xs line (length xs + 2) refl in omega arith

-- ---- the parts of a spelled text

-- the parts of a text are the lines of the journal that it spells, and nothing behind
pub spelled_parts : (text : List ℕ) (j : Loops) (s : Spells text j) → split 10 text ≡ journal_lines s.version j ++ [] ∷ []
spelled_parts text j s = ap (split 10) s.spelled ∙ split_journal s.version s.known j s.within

-- ---- behind a header

module _ (v : Version) (known : IsVersion v) where
  -- reading from these parts on, with these lines behind the header read
  record Reading (text : List ℕ) (before : Lines) (r : Reader) (parts : Lines) : Type 0 where
    cut : split 10 text ≡ v.header ∷ (before ++ parts)
    ran : run v (Between []) before ≡ Some r
    good : Good v r
    lines : read_so_far v r ≡ v.header ∷ before

  starts : (text : List ℕ) (parts : Lines) → split 10 text ≡ v.header ∷ parts → Reading text [] (Between []) parts
  starts text parts e = record { cut = e; ran = refl; good = tt; lines = refl }

  ran_one : (before : Lines) (r : Reader) (line : List ℕ) (o : Option Reader) → run v (Between []) before ≡ Some r → step v r line ≡ o → run v (Between []) (before ++ line ∷ []) ≡ (o >>= λ s. Some s)
  ran_one before r line o ran e = run_append v (Between []) before (line ∷ []) ∙ (ap (λ o. o >>= λ q. run v q (line ∷ [])) ran ∙ ap (λ (o : Option Reader). o >>= λ (q : Reader). Some q) e)

  goes_on : (text : List ℕ) (before : Lines) (r : Reader) (line other : List ℕ) (parts : Lines) (s : Reader) → Reading text before r (line ∷ other ∷ parts) → step v r line ≡ Some s → Reading text (before ++ line ∷ []) s (other ∷ parts)
  goes_on text before r line other parts s w e =
      let t = step_takes v r line s w.good e in
      record {
        cut = w.cut ∙ ap (λ l. v.header ∷ l) (sym (append_assoc before (line ∷ []) (other ∷ parts)));
        ran = ran_one before r line (Some s) w.ran e;
        good = t.1;
        lines = t.0 ∙ ap (λ l. l ++ line ∷ []) w.lines;
      }

  -- what was read begins a journal
  begins_good : (r : Reader) → Good v r → Begins (read_so_far v r)
  begins_good (Between j) good = record { version = v; known = known; journal = j; within = good; more = codes "end" ∷ []; begun = refl }
  begins_good (Open j h) good = record { version = v; known = known; journal = j ++ h ∷ []; within = good; more = codes "end" ∷ []; begun = refl }
  begins_good (Ended j) good = record { version = v; known = known; journal = j; within = good; more = []; begun = sym (append-nil (headed v j ++ codes "end" ∷ [])) }

  -- where the lines are of a journal's beginning, they are read
  run_begins : (lines : Lines) → Begins (v.header ∷ lines) → run v (Between []) lines ≡ None → ⊥
  run_begins lines b none =
      let c = cons_is b.version.header v.header (all_loops b.version b.journal ++ codes "end" ∷ []) (lines ++ b.more) b.begun in
      let same : b.version ≡ v = one_version v b.version known b.known c.0 in
      let within : IsJournal v b.journal = subst (λ (w : Version). IsJournal w b.journal) same b.within in
      let begun : all_loops v b.journal ++ codes "end" ∷ [] ≡ lines ++ b.more = subst (λ (w : Version). all_loops w b.journal ++ codes "end" ∷ [] ≡ lines ++ b.more) same c.1 in
      let whole : run v (Between []) (lines ++ b.more) ≡ Some (Ended b.journal) = ap (run v (Between [])) (sym begun) ∙ run_journal v b.journal within in
      let split_run : run v (Between []) (lines ++ b.more) ≡ None = run_append v (Between []) lines b.more ∙ ap (λ o. o >>= λ s. run v s b.more) none in
      let c : Some (Ended b.journal) ≡ None = sym whole ∙ split_run in cc

  -- a journal that is read is spelled
  reads_found : (text : List ℕ) (before : Lines) (r : Reader) (parts : Lines) (n : ℕ) (j : Loops) → Reading text before r parts → pieces_of v n r parts ≡ Ok j → Spells text j
  reads_found text before r [] n j w e = absurd cc
  reads_found text before (Ended k) ([] ∷ []) n j w e =
      let same : k ≡ j = cc in
      subst (Spells text) same (record {
        version = v;
        known = known;
        within = w.good;
        spelled = text_of_parts 10 text (journal_lines v k ++ [] ∷ []) (w.cut ∙ ap (λ l. l ++ [] ∷ []) (sym w.lines)) ∙ sym (ended_joined (journal_lines v k));
      })
  reads_found text before (Ended k) ((c ∷ cs) ∷ []) n j w e = absurd cc
  reads_found text before (Between k) (rest ∷ []) n j w e = absurd cc
  reads_found text before (Open k h) (rest ∷ []) n j w e = absurd cc
  reads_found text before r (line ∷ other ∷ parts) n j w e = cases (step v r line) refl e (λ s is. reads_found text (before ++ line ∷ []) s (other ∷ parts) (n + 1) j (goes_on text before r line other parts s w is))
    where
      cases : (o : Option Reader) → step v r line ≡ o → then_or n o (λ q. pieces_of v (n + 1) q (other ∷ parts)) ≡ Ok j
          → ((s : Reader) → step v r line ≡ Some s → pieces_of v (n + 1) s (other ∷ parts) ≡ Ok j → Spells text j) → Spells text j
      cases None is e others = absurd cc
      cases (Some s) is e others = others s is e

  -- what a text whose lines are all read spells, if it spells one
  last_reader : (text : List ℕ) (before : Lines) (r : Reader) (rest : List ℕ) (j : Loops) → Reading text before r (rest ∷ []) → Spells text j → (r ≡ Ended j) × (rest ≡ [])
  last_reader text before r rest j w s =
      let parts : v.header ∷ (before ++ rest ∷ []) ≡ s.version.header ∷ ((all_loops s.version j ++ codes "end" ∷ []) ++ [] ∷ []) = sym w.cut ∙ spelled_parts text j s in
      let c = cons_is v.header s.version.header (before ++ rest ∷ []) ((all_loops s.version j ++ codes "end" ∷ []) ++ [] ∷ []) parts in
      let same : s.version ≡ v = one_version v s.version known s.known (sym c.0) in
      let within : IsJournal v j = subst (λ (w : Version). IsJournal w j) same s.within in
      let h = append_right before (all_loops s.version j ++ codes "end" ∷ []) rest [] c.1 in
      let lines : before ≡ all_loops v j ++ codes "end" ∷ [] = subst (λ (w : Version). before ≡ all_loops w j ++ codes "end" ∷ []) same h.0 in
      (some_is r (Ended j) (sym w.ran ∙ (ap (run v (Between [])) lines ∙ run_journal v j within)), h.1)

  -- a line at fault is the first through which no journal begins so
  reads_fault : (text : List ℕ) (before : Lines) (r : Reader) (parts : Lines) (n line : ℕ) → Reading text before r parts → n ≡ length before + 2 → 0 < length parts → pieces_of v n r parts ≡ Err line → IsFirstFault text line
  reads_fault text before r [] n line w count some_part e = absurd (omega arith)
  reads_fault text before r (rest ∷ []) n line w count some_part e =
      record {
        before = v.header ∷ before;
        here = rest;
        behind = [];
        lines = w.cut;
        number = sym (line_is r rest e) ∙ count ∙ one_more before;
        begins = subst Begins w.lines (begins_good r w.good);
        whole = λ ne. absurd (ne refl);
        last = λ _ j spells. (let l = last_reader text before r rest j w spells in let c : Ok j ≡ Err line = sym (λ i. finished n (l.0 i) (l.1 i)) ∙ e in cc);
      }
    where
      line_is : (r : Reader) (rest : List ℕ) → finished n r rest ≡ Err line → n ≡ line
      line_is (Between k) rest e = cc
      line_is (Open k h) rest e = cc
      line_is (Ended k) [] e = absurd cc
      line_is (Ended k) (c ∷ cs) e = cc

      one_more : (before : Lines) → length before + 2 ≡ length (v.header ∷ before) + 1
      one_more before = omega arith
  reads_fault text before r (here ∷ other ∷ parts) n line w count some_part e =
      cases (step v r here) refl e (λ s is. reads_fault text (before ++ here ∷ []) s (other ∷ parts) (n + 1) line (goes_on text before r here other parts s w is) (length_push before here n count) (omega arith))
    where
      one_more : (before : Lines) → length before + 2 ≡ length (v.header ∷ before) + 1
      one_more before = omega arith

      cases : (o : Option Reader) → step v r here ≡ o → then_or n o (λ q. pieces_of v (n + 1) q (other ∷ parts)) ≡ Err line
          → ((s : Reader) → step v r here ≡ Some s → pieces_of v (n + 1) s (other ∷ parts) ≡ Err line → IsFirstFault text line) → IsFirstFault text line
      cases None is e others = let same : n ≡ line = cc in record {
        before = v.header ∷ before;
        here = here;
        behind = other ∷ parts;
        lines = w.cut;
        number = sym same ∙ count ∙ one_more before;
        begins = subst Begins w.lines (begins_good r w.good);
        whole = λ _ b. run_begins (before ++ here ∷ []) b (ran_one before r here None w.ran is);
        last = λ none. absurd cc;
      }
      cases (Some s) is e others = others s is e

  -- a text that is spelled is read
  reads_spelled : (text : List ℕ) (before : Lines) (r : Reader) (parts : Lines) (n : ℕ) (j : Loops) → Reading text before r parts → 0 < length parts → Spells text j → pieces_of v n r parts ≡ Ok j
  reads_spelled text before r [] n j w some_part spells = absurd (omega arith)
  reads_spelled text before r (rest ∷ []) n j w some_part spells = let l = last_reader text before r rest j w spells in λ i. finished n (l.0 i) (l.1 i)
  reads_spelled text before r (here ∷ other ∷ parts) n j w some_part spells =
      cases (step v r here) refl (λ s is. reads_spelled text (before ++ here ∷ []) s (other ∷ parts) (n + 1) j (goes_on text before r here other parts s w is) (omega arith) spells)
    where
      cases : (o : Option Reader) → step v r here ≡ o → ((s : Reader) → step v r here ≡ Some s → pieces_of v (n + 1) s (other ∷ parts) ≡ Ok j) → then_or n o (λ q. pieces_of v (n + 1) q (other ∷ parts)) ≡ Ok j
      cases None is others =
          let f = front_of (v.header ∷ before) here other parts (journal_lines spells.version j) (sym w.cut ∙ spelled_parts text j spells) in
          let b : Begins (v.header ∷ (before ++ here ∷ [])) = record { version = spells.version; known = spells.known; journal = j; within = spells.within; more = f.0; begun = f.1 } in
          absurd (run_begins (before ++ here ∷ []) b (ran_one before r here None w.ran is))
      cases (Some s) is others = others s is

-- ---- whole texts

-- nothing begins each journal
begins_nothing : Begins []
begins_nothing = record { version = version_1; known = inl refl; journal = []; within = tt; more = journal_lines version_1 []; begun = refl }

-- a first line that is no header
no_version : (text front other : List ℕ) (parts : Lines) → split 10 text ≡ front ∷ other ∷ parts → version_of front ≡ None → IsFirstFault text 1
no_version text front other parts cut none = record {
  before = [];
  here = front;
  behind = other ∷ parts;
  lines = cut;
  number = refl;
  begins = begins_nothing;
  whole = λ _ b. (let c = cons_is b.version.header front (all_loops b.version b.journal ++ codes "end" ∷ []) b.more b.begun in let found : None ≡ Some b.version = sym none ∙ version_again front b.version b.known (sym c.0) in cc);
  last = λ none. absurd cc;
}

-- a text without line feeds
no_journal : (text rest : List ℕ) → split 10 text ≡ rest ∷ [] → (j : Loops) → Spells text j → ⊥
no_journal text rest cut j s =
    let c = cons_is rest s.version.header [] ((all_loops s.version j ++ codes "end" ∷ []) ++ [] ∷ []) (sym cut ∙ spelled_parts text j s) in
    not_nothing (all_loops s.version j ++ codes "end" ∷ []) [] (sym c.1)

-- what is read of parts is a reading of the text
reading_of : (text : List ℕ) (parts : Lines) (told : Result Loops ℕ) → split 10 text ≡ parts → 0 < length parts → journal_of parts ≡ told → IsReading text told
reading_of text [] told cut some_part e = absurd (omega arith)
reading_of text (rest ∷ []) told cut some_part e = subst (IsReading text) e (record {
  before = [];
  here = rest;
  behind = [];
  lines = cut;
  number = refl;
  begins = begins_nothing;
  whole = λ ne. absurd (ne refl);
  last = λ _ j s. no_journal text rest cut j s;
})
reading_of text (front ∷ other ∷ parts) told cut some_part e = subst (IsReading text) e (cases (version_of front) refl)
  where
    found : (v : Version) → version_of front ≡ Some v → (told : Result Loops ℕ) → pieces_of v 2 (Between []) (other ∷ parts) ≡ told → IsReading text told
    found v is told e = tell told e
      where
        says : IsVersion v × (front ≡ v.header)
        says = version_takes front v is

        start : Reading v says.0 text [] (Between []) (other ∷ parts)
        start = starts v says.0 text (other ∷ parts) (cut ∙ ap (λ l. l ∷ other ∷ parts) says.1)

        tell : (told : Result Loops ℕ) → pieces_of v 2 (Between []) (other ∷ parts) ≡ told → IsReading text told
        tell (Ok j) e = reads_found v says.0 text [] (Between []) (other ∷ parts) 2 j start e
        tell (Err line) e = reads_fault v says.0 text [] (Between []) (other ∷ parts) 2 line start refl (omega arith) e

    cases : (o : Option Version) → version_of front ≡ o → IsReading text (then_or 1 o (λ v. pieces_of v 2 (Between []) (other ∷ parts)))
    cases None is = no_version text front other parts cut is
    cases (Some v) is = found v is (pieces_of v 2 (Between []) (other ∷ parts)) refl

pub reading : (text : List ℕ) → IsReading text (journal_of (split 10 text))
reading text = reading_of text (split 10 text) (journal_of (split 10 text)) refl (split_some 10 text) refl

-- a text that is spelled is read as that journal
spelled_of : (text : List ℕ) (parts : Lines) (j : Loops) → split 10 text ≡ parts → 0 < length parts → Spells text j → journal_of parts ≡ Ok j
spelled_of text [] j cut some_part s = absurd (omega arith)
spelled_of text (rest ∷ []) j cut some_part s = absurd (no_journal text rest cut j s)
spelled_of text (front ∷ other ∷ parts) j cut some_part s =
    let c = cons_is front s.version.header (other ∷ parts) ((all_loops s.version j ++ codes "end" ∷ []) ++ [] ∷ []) (sym cut ∙ spelled_parts text j s) in
    let start = starts s.version s.known text (other ∷ parts) (cut ∙ ap (λ l. l ∷ other ∷ parts) c.0) in
    ap (λ o. then_or 1 o (λ v. pieces_of v 2 (Between []) (other ∷ parts))) (version_again front s.version s.known c.0)
    ∙ reads_spelled s.version s.known text [] (Between []) (other ∷ parts) 2 j start (omega arith) s

pub spelled : (text : List ℕ) (j : Loops) → Spells text j → journal_of (split 10 text) ≡ Ok j
spelled text j s = spelled_of text (split 10 text) j refl (split_some 10 text) s

-- ---- what the reading function returns

pub reading_clause : (text : List ℕ) (result : Result Loops stop.JournalStop) → Reads result (journal_of (split 10 text)) → Told result (IsReading text)
reading_clause text (Ok j) reads = subst (IsReading text) reads (reading text)
reading_clause text (Err stops.NoMemory) reads = tt
reading_clause text (Err (stops.Fault line)) reads = subst (IsReading text) reads (reading text)

pub only_clause : (text : List ℕ) (result : Result Loops stop.JournalStop) → Reads result (journal_of (split 10 text)) → (j : Loops) → Spells text j → Told result (λ told. told ≡ Ok j)
only_clause text (Ok k) reads j s = sym reads ∙ spelled text j s
only_clause text (Err stops.NoMemory) reads j s = tt
only_clause text (Err (stops.Fault line)) reads j s = sym reads ∙ spelled text j s

-- ---- the first line

pub no_line : (text : List ℕ) → next (split 10 text) ≡ None → journal_of (split 10 text) ≡ Err 1
no_line text cut = ap journal_of (one_word 10 text cut)

first_line : (text front behind : List ℕ) → next (split 10 text) ≡ Some (front, split 10 behind) → journal_of (split 10 text) ≡ then_or 1 (version_of front) (λ v. pieces_of v 2 (Between []) (split 10 behind))
first_line text front behind cut = ap journal_of (next_is (split 10 text) (front, split 10 behind) cut).0 ∙ more (split 10 behind) (split_some 10 behind)
  where
    more : (ps : Lines) → 0 < length ps → journal_of (front ∷ ps) ≡ then_or 1 (version_of front) (λ v. pieces_of v 2 (Between []) ps)
    more [] h = absurd (omega arith)
    more (p ∷ ps) h = refl

pub no_header : (text front behind : List ℕ) → next (split 10 text) ≡ Some (front, split 10 behind) → version_of front ≡ None → journal_of (split 10 text) ≡ Err 1
no_header text front behind cut is = first_line text front behind cut ∙ ap (λ o. then_or 1 o (λ v. pieces_of v 2 (Between []) (split 10 behind))) is

pub headed_text : (text front behind : List ℕ) (v : Version) → next (split 10 text) ≡ Some (front, split 10 behind) → version_of front ≡ Some v → journal_of (split 10 text) ≡ pieces_of v 2 (Between []) (split 10 behind)
headed_text text front behind v cut is = first_line text front behind cut ∙ ap (λ o. then_or 1 o (λ v. pieces_of v 2 (Between []) (split 10 behind))) is
