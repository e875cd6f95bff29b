-- The machine's steps: what is surely read from here, put behind the listing so far, is surely read from the start.
use Rattle.std.specs.Prelude.{ℕ, Bool, true, false, List, [], ◌∷◌, ◌++◌, ◌+◌, ◌≡◌, ◌==◌, length, refl}
use Rattle.std.proofs.Common.{sym, ◌∙◌, ap, subst, arith, append_assoc, append-nil}
use Rattle.std.proofs.lemmas.Bool.{eqb-true}
use Rattle.std.proofs.lemmas.List.{length-append}
use Rattle.cbl_base.specs.declared.limits.TheConstants.{MAX_NESTING}
use Rattle.comet_syntax.specs.declared.token.Token.{Token}
use Rattle.comet_syntax.specs.declared.stop.FormCause.{FormCause}
use Rattle.comet_syntax.specs.Grammar.Kinds.{Kind}
use Rattle.comet_syntax.specs.Grammar.Symbols.{Part, Symbol}
use Rattle.comet_syntax.specs.Derivation.{Item, want, part, push}
use Rattle.comet_syntax.specs.Refusal.{start}
use Rattle.comet_syntax.specs.Written.Shown.{Shown, form, shown}
use Rattle.parse_base.specs.Reading.{over, cause_at}
use Rattle.parse_base.specs.Promise.{Carries, waits, gains, settles, Halts, Fails, halts, no_memory}
use Rattle.parse_base.specs.declared.stop.Stop.{Stop}
use Rattle.parse_base.specs.declared.stop.Stop.TheVariants as stops
use Rattle.parse_base.proofs.Machine.{theorem}
use Rattle.parse_base.proofs.Steps.{derivation_of}
use Rattle.parse_machine.specs.declared.event.Event.{Event}
use Rattle.parse_machine.specs.declared.event.Event.TheVariants as events
use Rattle.parse_machine.specs.declared.form.Form.{Form}
use Rattle.parse_machine.specs.Choosing.{Chosen, IsNext}
use Rattle.parse_machine.specs.Forms.{part_in, body_in}
use Rattle.parse_machine.specs.Listing.{reads, shown_all, Lists, IsStop}
use Rattle.parse_machine.specs.Rows.{Production}
use Rattle.parse_machine.proofs.Depths.{Safe, fits, at_end, safe_form, behind_token, behind_part}
use Rattle.parse_machine.proofs.Undoing.{reads_chose, reads_read, shown_chose, shown_read}

-- These events were surely read of a front of the tokens, and lead here.
pub record Going (all : List Token) (log : List Event) (K : List Item) (ts : List Token) : Type 0 where
  pub front : List Token
  pub cut : all ≡ front ++ ts
  pub count : reads log ≡ length front
  pub so_far : (K' : List Item) (r : List Token) (tree : List Shown) → Carries MAX_NESTING K ts tree K' r → Carries MAX_NESTING start all (shown_all log front ++ tree) K' r
  pub safe : Safe K

-- nothing is read
pub begun : (all : List Token) → Going all [] start all
begun all = record { front = []; cut = refl; count = refl; so_far = λ K' r tree l. l; safe = fits (omega arith) at_end }

-- a token is read
pub got : {all : List Token} {log log' : List Event} {m : Bool} {k : Kind} {K : List Item} {ts rest : List Token}
    → log' ≡ log ++ (events.Read m ∷ []) → IsNext ts k rest → Going all log (want m k ∷ K) ts → Going all log' K rest
got {all} {log} {log'} {m} {k} {K} {ts} {rest} is n g = subst (λ z. Going all z K rest) (sym is) (record {
  front = g.front ++ (n.next ∷ []);
  cut = g.cut ∙ (ap (λ z. g.front ++ z) n.is ∙ sym (append_assoc g.front (n.next ∷ []) rest));
  count = reads_read log m ∙ (ap (λ z. z + 1) g.count ∙ sym (length-append g.front (n.next ∷ [])));
  so_far = λ K' r tree l.
      let gained : Carries MAX_NESTING (want m k ∷ K) ts (shown m n.next ∷ tree) K' r = subst (λ z. Carries MAX_NESTING (want m k ∷ K) z (shown m n.next ∷ tree) K' r) (sym n.is) (gains n.kind_is l) in
      let grown : shown_all log g.front ++ (shown m n.next ∷ tree) ≡ shown_all (log ++ (events.Read m ∷ [])) (g.front ++ (n.next ∷ [])) ++ tree =
      sym (append_assoc (shown_all log g.front) (shown m n.next ∷ []) tree) ∙ ap (λ z. z ++ tree) (sym (shown_read log m g.front n.next g.count)) in
      subst (λ z. Carries MAX_NESTING start all z K' r) grown (g.so_far K' r (shown m n.next ∷ tree) gained);
  safe = behind_token g.safe;
})

-- a part has its form
pub took : {all : List Token} {log log' : List Event} {n : Part} {d : ℕ} {K K' : List Item} {ts : List Token} (f : Form) (p : Production)
    → p.of ≡ part_in f → p.stated ≡ body_in f → log' ≡ log ++ (events.Chose f ∷ []) → Chosen n d ts p → K' ≡ push p.body d K → Going all log (part n d ∷ K) ts → Going all log' K' ts
took {all} {log} {log'} {n} {d} {K} {K'} {ts} f p of_is stated_is is c pushed g = subst (λ z. Going all z K' ts) (sym is) (subst (λ z. Going all (log ++ (events.Chose f ∷ [])) z ts) (sym pushed) (record {
  front = g.front;
  cut = g.cut;
  count = reads_chose log f ∙ g.count;
  so_far = λ L r tree l.
      let same_form : form (part_in f) (body_in f) ≡ form n p.body = ap (λ z. form z (body_in f)) (sym of_is ∙ c.of_is) ∙ ap (form n) (sym stated_is ∙ c.body_is) in
      let grown : shown_all log g.front ++ (form n p.body ∷ tree) ≡ shown_all (log ++ (events.Chose f ∷ [])) g.front ++ tree =
      ap (λ z. shown_all log g.front ++ (z ∷ tree)) (sym same_form)
      ∙ (sym (append_assoc (shown_all log g.front) (form (part_in f) (body_in f) ∷ []) tree) ∙ ap (λ z. z ++ tree) (sym (shown_chose log f g.front g.count))) in
      subst (λ z. Carries MAX_NESTING start all z L r) grown (g.so_far L r (form n p.body ∷ tree) (settles p.body c.low c.among c.may c.must l));
  safe = safe_form n p.body d K c.lower c.among (behind_part c.low g.safe);
}))

-- the same state, as a branch names it
pub going_as : {all : List Token} {log log' : List Event} {K K' : List Item} {ts ts' : List Token} → log ≡ log' → K ≡ K' → ts ≡ ts' → Going all log' K' ts' → Going all log K ts
going_as {all} {log} {log'} {K} {K'} {ts} {ts'} a b c g =
    subst (λ z. Going all z K ts) (sym a) (subst (λ z. Going all log' z ts) (sym b) (subst (λ z. Going all log' K' z) (sym c) g))

none_left : (ts : List Token) → true ≡ (length ts == 0) → ts ≡ []
none_left [] h = refl
none_left (t ∷ ts) h = let z = eqb-true (length (t ∷ ts)) 0 (sym h) in absurd (omega arith)

-- nothing is to come, and no token is left
pub ended : {all : List Token} {log : List Event} {K : List Item} {ts : List Token} → K ≡ [] → true ≡ (length ts == 0) → Going all log K ts → Lists MAX_NESTING all log
ended {all} {log} {K} {ts} e h g =
    let d : ts ≡ [] = none_left ts h in
    let whole : all ≡ g.front = g.cut ∙ (ap (λ z. g.front ++ z) d ∙ append-nil g.front) in
    let here : Carries MAX_NESTING K ts [] [] [] = subst (λ z. Carries MAX_NESTING z ts [] [] []) (sym e) (subst (λ z. Carries MAX_NESTING [] z [] [] []) (sym d) waits) in
    let run : Carries MAX_NESTING start all (shown_all log all) [] [] =
    subst (λ z. Carries MAX_NESTING start all z [] []) (append-nil (shown_all log g.front) ∙ ap (shown_all log) (sym whole)) (g.so_far [] [] [] here) in
    let k = derivation_of run in
    record { steps = k.events; derives = (theorem.0 MAX_NESTING all k.events k.leads).0; is = k.is; all_read = g.count ∙ ap length (sym whole); run = run }

halted : (all : List Token) (left : ℕ) (c : FormCause) → Halts MAX_NESTING start all left c → IsStop MAX_NESTING all (stops.Fault left c)
halted all left c h =
    let k = derivation_of h.leads in
    let r = theorem.1 MAX_NESTING all k.events h.items h.rest c k.leads h.stops in
    (r.0, h.rest, h.left_is, r.1)

-- reading stops
pub stopped : {all : List Token} {log : List Event} {K : List Item} {ts : List Token} (K' : List Item) (s : Stop) (body : List Symbol) (d : ℕ) → K ≡ push body d K' → Fails MAX_NESTING body d ts s
    → Going all log K ts → IsStop MAX_NESTING all s
stopped K' s body d e no_memory g = tt
stopped {all} {log} {ts = ts} K' s body d e (halts {left = left} {c = c} h) g =
    let i = h K' in
    halted all left c (record {
      tree = shown_all log g.front ++ i.tree;
      items = i.items;
      rest = i.rest;
      leads = g.so_far i.items i.rest i.tree (subst (λ z. Carries MAX_NESTING z ts i.tree i.items i.rest) (sym e) i.leads);
      stops = i.stops;
      left_is = i.left_is;
    })

-- nothing is to come, and tokens are left
pub left_over : {all : List Token} {log : List Event} {K : List Item} {ts : List Token} (s : Stop) → K ≡ [] → false ≡ (length ts == 0) → s ≡ stops.Fault (length ts) (cause_at ts) → Going all log K ts → IsStop MAX_NESTING all s
left_over {ts = []} s e h is g = absurd cc
left_over {all} {log} {K} {ts = t ∷ ts} s e h is g = subst (IsStop MAX_NESTING all) (sym is) (halted all (length (t ∷ ts)) (cause_at (t ∷ ts)) (record {
  tree = shown_all log g.front ++ [];
  items = [];
  rest = t ∷ ts;
  leads = g.so_far [] (t ∷ ts) [] (subst (λ z. Carries MAX_NESTING z (t ∷ ts) [] [] (t ∷ ts)) (sym e) waits);
  stops = over;
  left_is = refl;
}))
