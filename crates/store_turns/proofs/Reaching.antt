-- The three ways in which a new outcome reaches those that use the id.
use Rattle.std.proofs.Common.{◌≡◌, ◌≢◌, ℕ, suc, List, [], ◌∷◌, ◌++◌, map, Option, Some, None, IsSome, refl, sym, ap, ◌∙◌, subst, arith, ◌⊎◌, inl, inr}
use Rattle.std.proofs.lemmas.Bool.Decides.{eqb_tells}
use Rattle.cbl_base.specs.Changes.{NoneAt}
use Rattle.cbl_base.specs.declared.input.Input.{Input}
use Rattle.cbl_base.specs.declared.input.Change.{Change}
use Rattle.store_turns.specs.declared.outcome.Outcome.{Outcome}
use Rattle.store_turns.specs.declared.outcome.Outcome.TheVariants.{Value}
use Rattle.store_turns.specs.Meaning.{Graph, computed, come_to, values_of}
use Rattle.store_turns.specs.Waits.{and_change, Wait}
use Rattle.store_turns.specs.Telling.{change_to, LeadsTo, positions, pushed, blocked, to_come, NoneAtAny}
use Rattle.store_turns.specs.Turns.{Reached}
use Rattle.store_turns.proofs.ChangeLists.{changes_at, and_all, to_come-pushed, none_at-append}
use Rattle.store_turns.proofs.Fitting.{unseen, fit_value, fit_lost}

cons_not : {A : Type 0} {x : A} {xs : List A} → (x ∷ xs) ≡ [] → ⊥
cons_not e = cc

pushed_some : (cs : List Change) (x : Option (List Change)) → pushed cs (Some x) ≡ None → ⊥
pushed_some [] x e = cc
pushed_some (c ∷ cs) x e = pushed_some cs (and_change c (Some x)) e

pub none_quiet : (cs : List Change) (w : Wait) → pushed cs w ≡ None → (w ≡ None) × (cs ≡ [])
none_quiet [] w e = (e, refl)
none_quiet (c ∷ cs) w e = absurd (pushed_some cs (and_change c w) e)

never_all : (cs ds : List Change) → and_all cs None ≡ Some ds → ⊥
unfolding and_all
never_all cs ds e = cc

all_is : (es cs ds : List Change) → and_all cs (Some es) ≡ Some ds → es ++ cs ≡ ds
unfolding and_all
all_is es cs ds e = cc

none_before : (old new : Input) (leads : LeadsTo old new) (q : ℕ) (ps : List ℕ) → ((p : ℕ) → suc p ≢ q) → NoneAt q (changes_at old new leads (map suc ps))
unfolding changes_at
none_before old new leads q [] h = tt
none_before old new leads q (p ∷ ps) h = (λ e. h p (sym (leads.place (suc p)) ∙ e), none_before old new leads q ps h)

module _ (old new : Input) (leads : LeadsTo old new) where
  cs : List ℕ → List Change
  cs ps = changes_at old new leads ps

  later_one : (q : ℕ) (ps : List ℕ) → NoneAt q (cs ps) → NoneAt (suc q) (cs (map suc ps))
  unfolding cs changes_at
  later_one q [] n = tt
  later_one q (p ∷ ps) n = (λ e. n.0 (leads.place p ∙ omega (arith, sym (leads.place (suc p)) ∙ e)), later_one q ps n.1)

  later_all : (qs ps : List ℕ) → NoneAtAny (cs ps) qs → NoneAtAny (cs (map suc ps)) (map suc qs)
  later_all [] ps n = tt
  later_all (q ∷ qs) ps n = (later_one q ps n.0, later_all qs ps n.1)

  zero_first : (ps : List ℕ) → NoneAt 0 (cs (map suc ps))
  unfolding cs
  zero_first ps = none_before old new leads 0 ps (λ p e. omega arith)

  first_apart : (qs : List ℕ) (ds : List Change) → NoneAtAny ds (map suc qs) → NoneAtAny (change_to 0 old new ∷ ds) (map suc qs)
  first_apart [] ds n = tt
  first_apart (q ∷ qs) ds n = ((λ e. omega (arith, sym (leads.place 0) ∙ e), n.0), first_apart qs ds n.1)

  -- the positions of two ids are apart
  apart : (id i : ℕ) (is : List ℕ) → i ≢ id → NoneAtAny (cs (positions id is)) (positions i is)
  unfolding cs changes_at
  apart id i [] ne = tt
  apart id i (k ∷ is) ne =
      let rest = later_all (positions i is) (positions id is) (apart id i is ne) in
      elim (eqb_tells k id) [
        | inl t ↦ elim (eqb_tells k i) [
          | inl s ↦ absurd (ne (sym s.1 ∙ t.1))
          | inr f ↦ rw (t.0, f.0) (first_apart (positions i is) (cs (map suc (positions id is))) rest)
        ]
        | inr f ↦ elim (eqb_tells k i) [
          | inl s ↦ rw (f.0, s.0) (zero_first (positions id is), rest)
          | inr d ↦ rw (f.0, d.0) rest
        ]
      ]

any-append : (ds es : List Change) (ps : List ℕ) → NoneAtAny ds ps → NoneAtAny es ps → NoneAtAny (ds ++ es) ps
any-append ds es [] a b = tt
any-append ds es (p ∷ ps) a b = (none_at-append p ds es a.0 b.0, any-append ds es ps a.1 b.1)

module _ (g : Graph) (layer : ℕ → ℕ) (id : ℕ) (o p : ℕ → Outcome) (held : ℕ → List Input) (u v : ℕ → ℕ → Wait)
    (elsewhere : (l j : ℕ) → l ≢ layer j → v l j ≡ u l j) where
  unseen_computed : (old : Input) → o id ≡ Value old → ((i : ℕ) → i ≢ id → p i ≡ o i) → (j : ℕ) → positions id (g.inputs j) ≡ [] → computed g p j ≡ computed g o j
  unseen_computed old was others j e = ap (λ os. come_to (g.op j) (values_of os)) (sym (unseen o p id old was others (g.inputs j) e))

  pub by_value : (old new : Input) (leads : LeadsTo old new) → o id ≡ Value old → p id ≡ Value new → ((i : ℕ) → i ≢ id → p i ≡ o i)
      → ((j : ℕ) → v (layer j) j ≡ pushed (map (λ q. change_to q old new) (positions id (g.inputs j))) (u (layer j) j)) → Reached g layer id o p held u v
  unfolding changes_at cs
  by_value old new leads was now others at = record {
    elsewhere = elsewhere;
    grows = λ j h. grows (positions id (g.inputs j)) (u (layer j) j) (subst (λ (x : Wait). IsSome x) (at j) h);
    quiet = λ j e. let q = none_quiet _ (u (layer j) j) (sym (at j) ∙ e) in (q.0, unseen_computed old was others j (none_map (positions id (g.inputs j)) q.1));
    fit = λ j f early. rw (at j) (fit_value o p id old was others new now leads (held j) (g.inputs j) (u (layer j) j) f early);
    early = λ i j ne old_early ds e. early i j ne (to_come (u (layer j) j)) old_early ds (sym (to_come-pushed (changes_at old new leads (positions id (g.inputs j))) (u (layer j) j)) ∙ sym (ap to_come (at j)) ∙ e);
  }
    where
      grows : (ps : List ℕ) (x : Wait) → IsSome (pushed (map (λ q. change_to q old new) ps) x) → IsSome x ⊎ (ps ≢ [])
      grows [] x h = inl h
      grows (q ∷ ps) x h = inr (λ e. cons_not e)

      none_map : (ps : List ℕ) → map (λ q. change_to q old new) ps ≡ [] → ps ≡ []
      none_map [] e = refl
      none_map (q ∷ ps) e = absurd (cons_not e)

      early : (i j : ℕ) → i ≢ id → (d : Option (List Change)) → ((ds : List Change) → d ≡ Some ds → NoneAtAny ds (positions i (g.inputs j))) → (ds : List Change) → and_all (changes_at old new leads (positions id (g.inputs j))) d ≡ Some ds → NoneAtAny ds (positions i (g.inputs j))
      early i j ne None h ds e = absurd (never_all _ ds e)
      early i j ne (Some es) h ds e =
          subst (λ (x : List Change). NoneAtAny x (positions i (g.inputs j))) (all_is es _ ds e)
          (any-append es (changes_at old new leads (positions id (g.inputs j))) (positions i (g.inputs j)) (h es refl) (apart old new leads id i (g.inputs j) ne))

  pub by_loss : (old : Input) → o id ≡ Value old → ((x : Input) → p id ≢ Value x) → ((i : ℕ) → i ≢ id → p i ≡ o i)
      → ((j : ℕ) → v (layer j) j ≡ blocked (positions id (g.inputs j)) (u (layer j) j)) → Reached g layer id o p held u v
  by_loss old was lost others at = record {
    elsewhere = elsewhere;
    grows = λ j h. grows (positions id (g.inputs j)) (u (layer j) j) (subst (λ (x : Wait). IsSome x) (at j) h);
    quiet = λ j e. let q = quiet (positions id (g.inputs j)) (u (layer j) j) (sym (at j) ∙ e) in (q.0, unseen_computed old was others j q.1);
    fit = λ j f early. rw (at j) (fit_lost o p id old was others lost (held j) (g.inputs j) (u (layer j) j) f);
    early = λ i j ne old_early ds e. early (positions id (g.inputs j)) (positions i (g.inputs j)) (u (layer j) j) old_early ds (sym (ap to_come (at j)) ∙ e);
  }
    where
      grows : (ps : List ℕ) (x : Wait) → IsSome (blocked ps x) → IsSome x ⊎ (ps ≢ [])
      grows [] x h = inl h
      grows (q ∷ ps) x h = inr (λ e. cons_not e)

      quiet : (ps : List ℕ) (x : Wait) → blocked ps x ≡ None → (x ≡ None) × (ps ≡ [])
      quiet [] x e = (e, refl)
      quiet (q ∷ ps) x e = absurd (cc)

      early : (ps qs : List ℕ) (x : Wait) → ((ds : List Change) → to_come x ≡ Some ds → NoneAtAny ds qs) → (ds : List Change) → to_come (blocked ps x) ≡ Some ds → NoneAtAny ds qs
      early [] qs x h ds e = h ds e
      early (q ∷ ps) qs x h ds e = absurd (cc)

  pub by_none : ((i : ℕ) → p i ≡ o i) → ((j : ℕ) → v (layer j) j ≡ u (layer j) j) → Reached g layer id o p held u v
  by_none same at = record {
    elsewhere = elsewhere;
    grows = λ j h. inl (subst (λ (x : Wait). IsSome x) (at j) h);
    quiet = λ j e. (sym (at j) ∙ e, ap (λ os. come_to (g.op j) (values_of os)) (all_same (g.inputs j)));
    fit = λ j f early. rw (at j, all_same (g.inputs j)) f;
    early = λ i j ne old_early ds e. old_early ds (sym (ap to_come (at j)) ∙ e);
  }
    where
      all_same : (is : List ℕ) → map p is ≡ map o is
      all_same [] = refl
      all_same (i ∷ is) = rw (same i) (ap (λ l. o i ∷ l) (all_same is))
