-- Changes of one id at all its places.
use Rattle.std.proofs.Common.{◌≡◌, ◌≢◌, ℕ, zero, suc, List, [], ◌∷◌, ◌++◌, map, slice_get, slice_set, Option, Some, None, refl, sym, ap, ◌∙◌, subst, append_assoc, append-nil, arith, inl, inr}
use Rattle.std.proofs.lemmas.Bool.Decides.{eqb_tells}
use Rattle.cbl_base.specs.Changes.{place_of, NoneAt, AreChanges, after_change, after_changes}
use Rattle.cbl_base.specs.declared.input.Input.{Input}
use Rattle.cbl_base.specs.declared.input.Change.{Change}
use Rattle.cbl_base.specs.declared.input.Change.TheVariants.{Int as IntChange, Set as SetChange}
use Rattle.store_turns.specs.Waits.{and_change}
use Rattle.store_turns.specs.Telling.{NoneAtAny, change_to, LeadsTo, positions, pushed, to_come}

-- ---- where changes wait
unfoldable pub and_all : List Change → Option (List Change) → Option (List Change)
and_all cs None = None
and_all cs (Some ds) = Some (ds ++ cs)

pub and_one : (c : Change) (w : Option (Option (List Change))) → and_change c w ≡ and_all (c ∷ []) (to_come w)
unfolding and_all
and_one c None = refl
and_one c (Some None) = refl
and_one c (Some (Some ds)) = refl

pub and_more : (c : Change) (cs : List Change) (p : Option (List Change)) → and_all cs (and_all (c ∷ []) p) ≡ and_all (c ∷ cs) p
unfolding and_all
and_more c cs None = refl
and_more c cs (Some ds) = ap (λ l. Some l) (append_assoc ds (c ∷ []) cs)

pub and_none : (p : Option (List Change)) → and_all [] p ≡ p
unfolding and_all
and_none None = refl
and_none (Some ds) = ap (λ l. Some l) (append-nil ds)

pub to_come-pushed : (cs : List Change) (w : Option (Option (List Change))) → to_come (pushed cs w) ≡ and_all cs (to_come w)
to_come-pushed [] w = sym (and_none (to_come w))
to_come-pushed (c ∷ cs) w = to_come-pushed cs (Some (and_change c w)) ∙ ap (and_all cs) (and_one c w) ∙ and_more c cs (to_come w)

-- ---- one change after others
pub none_at-append : (p : ℕ) (ds cs : List Change) → NoneAt p ds → NoneAt p cs → NoneAt p (ds ++ cs)
none_at-append p [] cs a b = b
none_at-append p (d ∷ ds) cs a b = (a.0, none_at-append p ds cs a.1 b)

-- no change of one list is at a place of the other
unfoldable pub Apart : List Change → List Change → Type 0
Apart [] cs = Unit {0}
Apart (d ∷ ds) cs = NoneAt (place_of d) cs × Apart ds cs

pub changes-append : (h : List Input) (ds cs : List Change) → AreChanges h ds → AreChanges h cs → Apart ds cs → AreChanges h (ds ++ cs)
unfolding Apart
changes-append h [] cs a b x = b
changes-append h (d ∷ ds) cs a b x = (a.0, none_at-append (place_of d) ds cs a.1 x.0, changes-append h ds cs a.2 b x.1)

pub apart_none : (ds : List Change) → Apart ds []
unfolding Apart
apart_none [] = tt
apart_none (d ∷ ds) = (tt, apart_none ds)

pub apart_more : (ds : List Change) (c : Change) (cs : List Change) → NoneAt (place_of c) ds → Apart ds cs → Apart ds (c ∷ cs)
unfolding Apart
apart_more [] c cs a b = tt
apart_more (d ∷ ds) c cs a b = ((λ e. a.0 (sym e), b.0), apart_more ds c cs a.1 b.1)

pub after-append : (h : List Input) (ds cs : List Change) → after_changes h (ds ++ cs) ≡ after_changes (after_changes h ds) cs
after-append h [] cs = refl
after-append h (d ∷ ds) cs = after-append (after_change h d) ds cs

pub set_elsewhere : (xs : List Input) (p q : ℕ) (v : Input) → q ≢ p → slice_get (slice_set xs q v) p ≡ slice_get xs p
set_elsewhere [] p q v ne = refl
set_elsewhere (x ∷ xs) zero zero v ne = absurd (ne refl)
set_elsewhere (x ∷ xs) (suc p) zero v ne = refl
set_elsewhere (x ∷ xs) zero (suc q) v ne = refl
set_elsewhere (x ∷ xs) (suc p) (suc q) v ne = set_elsewhere xs p q v (λ e. ne (ap suc e))

-- where no change is, the input stays
pub change_elsewhere : (xs : List Input) (p : ℕ) (c : Change) → place_of c ≢ p → slice_get (after_change xs c) p ≡ slice_get xs p
change_elsewhere xs p (IntChange q o n) ne = set_elsewhere xs p q _ ne
change_elsewhere xs p (SetChange q a r) ne = set_elsewhere xs p q _ ne

pub still_there : (xs : List Input) (p : ℕ) (cs : List Change) → NoneAt p cs → slice_get (after_changes xs cs) p ≡ slice_get xs p
still_there xs p [] h = refl
still_there xs p (c ∷ cs) h = still_there (after_change xs c) p cs h.1 ∙ change_elsewhere xs p c h.0

-- ---- the same change at several places
module _ (old new : Input) (leads : LeadsTo old new) where
  -- each of the places has the old value, and none has a change
  unfoldable pub AllOld : List Input → List ℕ → Type 0
  AllOld xs [] = Unit {0}
  AllOld xs (p ∷ ps) = (slice_get xs p ≡ Some old) × AllOld xs ps

  unfoldable pub changes_at : List ℕ → List Change
  changes_at ps = map (λ p. change_to p old new) ps

  -- the places are distinct
  unfoldable pub Distinct : List ℕ → Type 0
  unfolding changes_at
  Distinct [] = Unit {0}
  Distinct (p ∷ ps) = NoneAt p (changes_at ps) × Distinct ps

  pub are_changes : (h : List Input) (ps : List ℕ) → AllOld h ps → Distinct ps → AreChanges h (changes_at ps)
  unfolding AllOld changes_at Distinct
  are_changes h [] a d = tt
  are_changes h (p ∷ ps) a d = (leads.is h p a.0, subst (λ q. NoneAt q (changes_at ps)) (sym (leads.place p)) d.0, are_changes h ps a.1 d.1)

  pub apart_at : (ds : List Change) (ps : List ℕ) → NoneAtAny ds ps → Apart ds (changes_at ps)
  unfolding changes_at
  apart_at ds [] a = apart_none ds
  apart_at ds (p ∷ ps) a = apart_more ds (change_to p old new) (changes_at ps) (subst (λ q. NoneAt q ds) (sym (leads.place p)) a.0) (apart_at ds ps a.1)

  unfoldable pub set_each : List Input → List ℕ → List Input
  set_each xs [] = xs
  set_each xs (p ∷ ps) = set_each (slice_set xs p new) ps

  pub old_after : (xs : List Input) (p : ℕ) (ps : List ℕ) → NoneAt p (changes_at ps) → AllOld xs ps → AllOld (slice_set xs p new) ps
  unfolding changes_at AllOld
  old_after xs p [] d a = tt
  old_after xs p (q ∷ ps) d a = (set_elsewhere xs q p new (λ e. d.0 (leads.place q ∙ sym e)) ∙ a.0, old_after xs p ps d.1 a.1)

  pub sets_each : (xs : List Input) (ps : List ℕ) → AllOld xs ps → Distinct ps → after_changes xs (changes_at ps) ≡ set_each xs ps
  unfolding changes_at AllOld Distinct set_each
  sets_each xs [] a d = refl
  sets_each xs (p ∷ ps) a d = ap (λ t. after_changes t (changes_at ps)) (leads.sets xs p a.0) ∙ sets_each (slice_set xs p new) ps (old_after xs p ps d.0 a.1) d.1

  pub old_before : (xs : List Input) (ds : List Change) (ps : List ℕ) → NoneAtAny ds ps → AllOld (after_changes xs ds) ps → AllOld xs ps
  unfolding AllOld
  old_before xs ds [] n a = tt
  old_before xs ds (p ∷ ps) n a = (sym (still_there xs p ds n.0) ∙ a.0, old_before xs ds ps n.1 a.1)

  -- ---- one further on
  pub old_later : (x : Input) (xs : List Input) (ps : List ℕ) → AllOld xs ps → AllOld (x ∷ xs) (map suc ps)
  unfolding AllOld
  old_later x xs [] a = tt
  old_later x xs (p ∷ ps) a = (a.0, old_later x xs ps a.1)

  pub none_at_later : (p : ℕ) (ps : List ℕ) → NoneAt p (changes_at ps) → NoneAt (suc p) (changes_at (map suc ps))
  unfolding changes_at
  none_at_later p [] n = tt
  none_at_later p (q ∷ ps) n = (λ e. n.0 (leads.place q ∙ omega (arith, sym (leads.place (suc q)) ∙ e)), none_at_later p ps n.1)

  pub none_at_zero : (ps : List ℕ) → NoneAt 0 (changes_at (map suc ps))
  unfolding changes_at
  none_at_zero [] = tt
  none_at_zero (q ∷ ps) = (λ e. absurd (omega (arith, sym (leads.place (suc q)) ∙ e)), none_at_zero ps)

  pub distinct_later : (ps : List ℕ) → Distinct ps → Distinct (map suc ps)
  unfolding Distinct
  distinct_later [] d = tt
  distinct_later (p ∷ ps) d = (none_at_later p ps d.0, distinct_later ps d.1)

  pub set_later : (x : Input) (xs : List Input) (ps : List ℕ) → set_each (x ∷ xs) (map suc ps) ≡ x ∷ set_each xs ps
  unfolding set_each
  set_later x xs [] = refl
  set_later x xs (p ∷ ps) = set_later x (slice_set xs p new) ps

  -- ---- at the positions of an id
  pub distinct_positions : (id : ℕ) (is : List ℕ) → Distinct (positions id is)
  unfolding Distinct
  distinct_positions id [] = tt
  distinct_positions id (i ∷ is) =
      elim (eqb_tells i id) [
        | inl e ↦ rw e.0 (none_at_zero (positions id is), distinct_later (positions id is) (distinct_positions id is))
        | inr e ↦ rw e.0 (distinct_later (positions id is) (distinct_positions id is))
      ]
