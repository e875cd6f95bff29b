-- What is told at the end of a trial: the difference, or the least failing id on which the target stands.
use Rattle.std.proofs.Common.{◌≡◌, ◌≢◌, inl, inr, ℕ, ℤ, pos, zero, suc, ◌-ℤ◌, ◌<◌, ◌≤◌, Bool, true, false, List, [], ◌∷◌, map, length, Option, Some, None, Result, Ok, Err, refl, sym, ap, ◌∙◌, subst, arith}
use Rattle.std.specs.BTreeMap.{BTreeMap, get}
use Rattle.std.proofs.lemmas.Int.{ints}
use Rattle.std.specs.Ordering.{nat_cmp}
use Rattle.cbl_base.specs.Arithmetic.{exact}
use Rattle.cbl_base.specs.Inputs.{number_kind, kind_of, number_of}
use Rattle.cbl_base.specs.NodeLaw.{Rule}
use Rattle.cbl_base.specs.declared.input.Input.{Input}
use Rattle.cbl_base.specs.declared.input.Input.TheVariants.{Int, Set}
use Rattle.cbl_base.specs.declared.faults.RunFault.{RunFault}
use Rattle.store_turns.specs.declared.frame.Frame.{Frame}
use Rattle.store_turns.specs.declared.outcome.Outcome.{Outcome}
use Rattle.store_turns.specs.declared.outcome.Outcome.TheVariants.{Value, Fails, Missing}
use Rattle.store_turns.specs.Meaning.{Each, IsMeaning, come_to, outcome_of, graph_of, inputs_in, layer_of, values_of, with_value, outcome_at}
use Rattle.store_turns.specs.Turns.{rank}
use Rattle.store_build.specs.Frames.{cell_of}
use Rattle.store_build.specs.Kept.{IsKept}
use Rattle.store_build.proofs.Existence.{exists}
use Rattle.inc_store.specs.declared.changed.NodeChange.{NodeChange}
use Rattle.inc_store.specs.Course.{lost_or}
use Rattle.inc_store.specs.Moves.{moved_to}
use Rattle.store_turns.specs.Cones.{Among, StandsOn, itself, below}
use Rattle.trial.specs.Differences.{AreNumbers, FailsAfter}
use Rattle.trial.specs.Overlays.{new_or, root_by, root_in}
use Rattle.trial.specs.Course.{Asked, IsKnown}

-- ---- lists of outcomes
pub each_at : (P : ℕ → Type 0) (i : ℕ) (is : List ℕ) → Each P is → Among i is → P i
each_at P i [] each m = absurd m
each_at P i (k ∷ is) each m = elim m [ inl e ↦ subst P e each.0 | inr r ↦ each_at P i is each.1 r ]

behind_none : (o : Outcome) → with_value o None ≡ None
behind_none (Value x) = refl
behind_none (Fails f) = refl
behind_none Missing = refl

-- where an input has no value, not all have values
lost_input : (o : ℕ → Outcome) (i : ℕ) (is : List ℕ) → Among i is → ((x : Input) → o i ≢ Value x) → values_of (map o is) ≡ None
lost_input o i [] m lost = absurd m
lost_input o i (k ∷ is) m lost = elim m [
  | inl e ↦ not_value (o k) (values_of (map o is)) (λ x s. lost x (sym (ap o e) ∙ s))
  | inr r ↦ ap (with_value (o k)) (lost_input o i is r lost) ∙ behind_none (o k)
]
  where
    not_value : (q : Outcome) (r : Option (List Input)) → ((x : Input) → q ≢ Value x) → with_value q r ≡ None
    not_value (Value x) r h = absurd (h x refl)
    not_value (Fails f) r h = refl
    not_value Missing r h = refl

-- where all inputs have values, all have values
all_values : (o : ℕ → Outcome) (is : List ℕ) → ((i : ℕ) → Among i is → (x : Input) × (o i ≡ Value x)) → (xs : List Input) × (values_of (map o is) ≡ Some xs)
all_values o [] h = ([], refl)
all_values o (k ∷ is) h =
    let here = h k (inl refl) in
    let rest = all_values o is (λ i m. h i (inr m)) in
    (here.0 ∷ rest.0, rw (here.1, rest.1) refl)

never_missing : (r : Result Input RunFault) → outcome_of r ≡ Missing → ⊥
never_missing (Ok x) e = cc
never_missing (Err f) e = cc

pub as_number : (x : Input) → kind_of x ≡ number_kind → x ≡ Int (number_of x)
as_number (Int n) e = refl
as_number (Set s) e = absurd (cc)

none_some : {A P : Type 0} (o : Option A) (x : A) → o ≡ None → o ≡ Some x → P
none_some o x n s = absurd (never (sym n ∙ s))
  where
    never : {A : Type 0} {x : A} → None ≡ Some x → ⊥
    never e = cc

module _ (rules : List Rule) (nodes : List (List Input)) (frame : Frame) (cells : List Input) (kept : IsKept rules nodes frame cells) (ask : Asked)
    (lost : BTreeMap ℕ (Option RunFault)) (changes : BTreeMap ℕ NodeChange) (roots : BTreeMap ℕ (ℕ × RunFault)) (target : ℕ) (within : target < length frame.inputs.items)
    (known : IsKnown rules frame cells ask lost changes roots target) where
  after : ℕ → Input
  after = moved_to ask.moves (cell_of cells)

  o : ℕ → Outcome
  o = λ id. outcome_at (graph_of rules frame) (moved_to ask.moves (cell_of cells)) (suc (layer_of frame id)) id

  meaning : IsMeaning (graph_of rules frame) (moved_to ask.moves (cell_of cells)) o
  unfolding o
  meaning = exists (graph_of rules frame) (layer_of frame) kept.framed.shape.layers (moved_to ask.moves (cell_of cells))

  new : ℕ → Input
  new j = new_or (get nat_cmp changes j) (cell_of cells j)

  came : (j : ℕ) → j < length frame.inputs.items → rank (layer_of frame) j ≤ rank (layer_of frame) target → lost_or (get nat_cmp lost j) (new j) ≡ o j
  unfolding new
  came j lt low = known.known o meaning j lt low

  -- an input is there, and in a lower layer
  input : (i j : ℕ) → j < length frame.inputs.items → rank (layer_of frame) j ≤ rank (layer_of frame) target → Among i (inputs_in frame j)
      → (i < length frame.inputs.items) × (layer_of frame i < layer_of frame j) × (rank (layer_of frame) i ≤ rank (layer_of frame) target)
  input i j lt low m =
      let a = each_at (λ k. (k < length frame.inputs.items) × (layer_of frame k < layer_of frame j)) i (inputs_in frame j) (kept.framed.shape.layers j lt) m in
      let few = kept.framed.shape.few in
      (a.0, a.1, omega (arith, a.0, a.1, low, few))

  bound_by : (i j : ℕ) → Among i (inputs_in frame j) → (graph_of rules frame).is_free j ≡ false
  bound_by i j m = by ((graph_of rules frame).is_free j) refl
    where
      by : (b : Bool) → (graph_of rules frame).is_free j ≡ b → b ≡ false
      by true e = absurd (subst (λ is. Among i is) (kept.framed.shape.bound j e) m)
      by false e = refl

  -- what is lost has no value, and what isn't has one
  lost_is : (l : Option (Option RunFault)) (x y : Input) (r : ℕ × RunFault) (j : ℕ) (b : Option (ℕ × RunFault)) → root_by j l b ≡ Some r → lost_or l x ≡ Value y → ⊥
  lost_is None x y r j b e v = none_some None r refl e
  lost_is (Some (Some f)) x y r j b e v = cc
  lost_is (Some None) x y r j b e v = cc

  own_is : (l : Option (Option RunFault)) (x : Input) (f : RunFault) → lost_or l x ≡ Fails f → l ≡ Some (Some f)
  own_is None x f e = absurd (cc)
  own_is (Some (Some g)) x f e = cc
  own_is (Some None) x f e = absurd (cc)

  missing_is : (l : Option (Option RunFault)) (x : Input) → lost_or l x ≡ Missing → l ≡ Some None
  missing_is None x e = absurd (cc)
  missing_is (Some (Some g)) x e = absurd (cc)
  missing_is (Some None) x e = refl

  not_own : (x y : Outcome) → x ≡ y → x ≡ Missing → y ≡ Missing
  not_own x y e m = sym e ∙ m

  -- ---- what is noted below an id is a failing id on which it stands
  pair_is : {a b : ℕ × RunFault} → Some a ≡ Some b → a ≡ b
  pair_is e = cc

  abbrev StandsBy : ℕ → ℕ × RunFault → Type 0
  StandsBy j r = StandsOn (inputs_in frame) j r.0 × (o r.0 ≡ Fails r.1)

  stands_by : (j : ℕ) (r : ℕ × RunFault) → j < length frame.inputs.items → rank (layer_of frame) j ≤ rank (layer_of frame) target
      → ((i : ℕ) → i < length frame.inputs.items → rank (layer_of frame) i ≤ rank (layer_of frame) target → layer_of frame i < layer_of frame j → root_in lost roots i ≡ Some r → StandsBy i r)
      → (l : Option (Option RunFault)) → get nat_cmp lost j ≡ l → root_by j l (get nat_cmp roots j) ≡ Some r → StandsBy j r
  stands_by j r lt low lower None is e = none_some None r refl e
  stands_by j r lt low lower (Some (Some f)) is e =
      subst (λ (q : ℕ × RunFault). StandsOn (inputs_in frame) j q.0 × (o q.0 ≡ Fails q.1)) (pair_is e)
      (itself, sym (came j lt low) ∙ ap (λ l. lost_or l (new j)) is)
  stands_by j r lt low lower (Some None) is e =
      let a = known.are_roots.among j r e in
      let in_j = input a.0 j lt low a.1 in
      let s = lower a.0 in_j.0 in_j.2 in_j.1 a.2 in
      (below a.1 s.0, s.1)

  stands : (d j : ℕ) (r : ℕ × RunFault) → j < length frame.inputs.items → rank (layer_of frame) j ≤ rank (layer_of frame) target → layer_of frame j < d → root_in lost roots j ≡ Some r → StandsBy j r
  stands zero j r lt low deep e = absurd (omega (arith, deep))
  stands (suc d) j r lt low deep e =
      stands_by j r lt low (λ i li lo lower is. stands d i r li lo (omega (arith, lower, deep)) is) (get nat_cmp lost j) refl e

  -- ---- each failing id on which an id stands is noted, or one below it
  noted_least : {j k : ℕ} → StandsOn (inputs_in frame) j k → (f : RunFault) → o k ≡ Fails f → j < length frame.inputs.items → rank (layer_of frame) j ≤ rank (layer_of frame) target
      → (s : ℕ × RunFault) × (root_in lost roots j ≡ Some s) × (s.0 ≤ k)
  noted_least (itself {j}) f e lt low = ((j, f), ap (λ l. root_by j l (get nat_cmp roots j)) (own_is (get nat_cmp lost j) (new j) f (came j lt low ∙ e)), omega arith)
  noted_least (below {j} {i} {k} m st) f e lt low =
      let in_j = input i j lt low m in
      let s = noted_least st f e in_j.0 in_j.2 in
      let no_value : (x : Input) → o i ≢ Value x = λ x v. lost_is (get nat_cmp lost i) (new i) x s.0 i (get nat_cmp roots i) s.1 (came i in_j.0 in_j.2 ∙ v) in
      let missing : o j ≡ Missing = meaning.nodes j lt (bound_by i j m) ∙ ap (come_to ((graph_of rules frame).op j)) (lost_input o i (inputs_in frame j) m no_value) in
      let t = known.are_roots.least j i s.0 m s.1 in
      let a = s.2 in
      let b = t.2 in
      (t.0, ap (λ l. root_by j l (get nat_cmp roots j)) (missing_is (get nat_cmp lost j) (new j) (came j lt low ∙ missing)) ∙ t.1, omega (arith, a, b))

  -- ---- where nothing is noted, there is a value
  unnoted : (i j : ℕ) → Among i (inputs_in frame j) → get nat_cmp roots j ≡ None → (q : Option (ℕ × RunFault)) → root_in lost roots i ≡ q → q ≡ None
  unnoted i j m none None is = refl
  unnoted i j m none (Some r) is = let t = known.are_roots.least j i r m is in none_some (get nat_cmp roots j) t.0 none t.1

  value_missing : (x : Input) → Value x ≡ Missing → ⊥
  value_missing x e = cc

  not_missing : (j : ℕ) → j < length frame.inputs.items → ((i : ℕ) → Among i (inputs_in frame j) → (x : Input) × (o i ≡ Value x)) → (b : Bool) → (graph_of rules frame).is_free j ≡ b → o j ≡ Missing → ⊥
  not_missing j lt values true free e = value_missing _ (sym (meaning.cells j lt free) ∙ e)
  not_missing j lt values false bound e =
      let all = all_values o (inputs_in frame j) values in
      never_missing ((graph_of rules frame).op j all.0) (sym (ap (come_to ((graph_of rules frame).op j)) all.1) ∙ sym (meaning.nodes j lt bound) ∙ e)

  value_by : (j : ℕ) → j < length frame.inputs.items → rank (layer_of frame) j ≤ rank (layer_of frame) target → (get nat_cmp roots j ≡ None → (i : ℕ) → Among i (inputs_in frame j) → (x : Input) × (o i ≡ Value x))
      → (l : Option (Option RunFault)) → get nat_cmp lost j ≡ l → root_by j l (get nat_cmp roots j) ≡ None → l ≡ None
  value_by j lt low values None is e = refl
  value_by j lt low values (Some (Some f)) is e = none_some (Some (j, f)) (j, f) e refl
  value_by j lt low values (Some None) is e = absurd (not_missing j lt (values e) ((graph_of rules frame).is_free j) refl (sym (came j lt low) ∙ ap (λ l. lost_or l (new j)) is))

  has_value : (d j : ℕ) → j < length frame.inputs.items → rank (layer_of frame) j ≤ rank (layer_of frame) target → layer_of frame j < d → root_in lost roots j ≡ None → get nat_cmp lost j ≡ None
  has_value zero j lt low deep e = absurd (omega (arith, deep))
  has_value (suc d) j lt low deep e =
      value_by j lt low (λ none i m.
      let in_j = input i j lt low m in
      let found = has_value d i in_j.0 in_j.2 (let h = in_j.1 in omega (arith, h, deep)) (unnoted i j m none (root_in lost roots i) refl) in
      (new i, sym (came i in_j.0 in_j.2) ∙ ap (λ l. lost_or l (new i)) found)) (get nat_cmp lost j) refl e

  -- ---- the two ends
  pub fails_after : (r : ℕ × RunFault) → root_in lost roots target ≡ Some r → FailsAfter (graph_of rules frame) (moved_to ask.moves (cell_of cells)) target r.0 r.1
  fails_after r e =
      let s = stands (suc (layer_of frame target)) target r within (omega arith) (omega arith) e in (
        o,
        meaning,
        record {
          stands = s.0;
          here = s.1;
          least = λ j f st fails.
              let n = noted_least st f fails within (omega arith) in
              let same : n.0 ≡ r = pair_is (sym n.1 ∙ e) in
              subst (λ (q : ℕ × RunFault). q.0 ≤ j) same n.2;
        },
      )

  pub has_none : root_in lost roots target ≡ None → get nat_cmp lost target ≡ None
  has_none none = has_value (suc (layer_of frame target)) target within (omega arith) (omega arith) none

  pub numbers : root_in lost roots target ≡ None → kind_of (cell_of cells target) ≡ number_kind
      → AreNumbers (graph_of rules frame) (cell_of cells) (moved_to ask.moves (cell_of cells)) target (number_of (cell_of cells target)) (number_of (new_or (get nat_cmp changes target) (cell_of cells target)))
  unfolding new
  numbers none number = record {
    outcome = λ j. Value (cell_of cells j);
    outcome_after = o;
    meaning = kept.fresh;
    meaning_after = meaning;
    had = ap (λ y. Value y) (as_number (cell_of cells target) number);
    has = sym (came target within (omega arith)) ∙ ap (λ l. lost_or l (new target)) (has_none none)
        ∙ ap (λ y. Value y) (as_number (new target) (known.kinded target within ∙ number));
  }

-- ---- nothing is another
pub exact_self : (x : ℤ) → exact (x -ℤ x) ≡ Ok (pos 0)
exact_self x = let z : x -ℤ x ≡ pos 0 = grind (arith, ints) in ap exact z
