-- A turn of a part is asked of the store.
use Rattle.std.proofs.Common.{◌≡◌, ◌≢◌, ◌⊎◌, inl, inr, ℕ, ◌-◌, ◌<◌, Bool, true, false, cond, nat_lt, List, [], ◌∷◌, map, length, slice_get, slice_index_or, Option, Some, None, refl, sym, ap, ◌∙◌, subst, arith}
use Rattle.std.specs.BTreeMap.{get}
use Rattle.std.specs.Ordering.{nat_cmp}
use Rattle.std.proofs.lemmas.Bool.Decides.{eqb_tells, leb_tells}
use Rattle.cbl_base.specs.NodeLaw.{Rule}
use Rattle.cbl_base.specs.Changes.{AreChanges, after_changes}
use Rattle.cbl_base.specs.declared.ids.NodeId.{NodeId}
use Rattle.cbl_base.specs.declared.input.Input.{Input}
use Rattle.cbl_base.specs.declared.input.Change.{Change}
use Rattle.cbl_base.specs.declared.faults.RunFault.{RunFault}
use Rattle.store_turns.specs.declared.frame.Frame.{Frame}
use Rattle.store_turns.specs.declared.outcome.Outcome.{Outcome}
use Rattle.store_turns.specs.declared.outcome.Outcome.TheVariants.{Value}
use Rattle.store_turns.specs.Cones.{chosen}
use Rattle.store_turns.specs.Meaning.{outcome_of, rule_value, inputs_in, layer_of, uses_in}
use Rattle.store_turns.specs.Waits.{Wait}
use Rattle.store_turns.specs.Telling.{change_to, positions, places_in, pushed, blocked, IsTold}
use Rattle.store_turns.specs.Touch.{differs}
use Rattle.store_build.specs.Frames.{cell_of}
use Rattle.trial.proofs.Imagined.{not_below}
use Rattle.trial.specs.declared.overlay.Overlay.{Overlay}
use Rattle.trial.specs.Overlays.{asked, new_or, noted}
use Rattle.trial.specs.Parts.{Part, IsPart, value_in}
use Rattle.trial.proofs.PartLists.{places_chosen}

-- the same is told where layers are others of ids that aren't among the users alone
told_quiet : (old now : ℕ → Wait) (l m : ℕ) → now m ≡ old m → (l ≢ m → now l ≡ old l) → now l ≡ old l
told_quiet old now l m here other = elim (eqb_tells l m) [
  | inl t ↦ subst (λ k. now k ≡ old k) (sym t.1) here
  | inr f ↦ other f.1
]

module _ (layer layer' : ℕ → ℕ) (uses : List (NodeId × ℕ)) (old : Input) (outcome : Outcome) (u v : ℕ → ℕ → Wait)
    (same : (j : ℕ) → (places_in j uses ≡ []) ⊎ (layer' j ≡ layer j)) where
  elsewhere : (f : List ℕ → Wait → Wait) → ((w : Wait) → f [] w ≡ w) → ((j : ℕ) → v (layer j) j ≡ f (places_in j uses) (u (layer j) j)) → ((l j : ℕ) → l ≢ layer j → v l j ≡ u l j)
      → (l j : ℕ) → l ≢ layer' j → v l j ≡ u l j
  elsewhere f none here other l j ne = elim (same j) [
    | inl quiet ↦ told_quiet (λ k. u k j) (λ k. v k j) l (layer j) (here j ∙ ap (λ ps. f ps (u (layer j) j)) quiet ∙ none (u (layer j) j)) (λ n. other l j n)
    | inr e ↦ other l j (λ z. ne (z ∙ sym e))
  ]

  at_layer : (f : List ℕ → Wait → Wait) → ((w : Wait) → f [] w ≡ w) → ((j : ℕ) → v (layer j) j ≡ f (places_in j uses) (u (layer j) j)) → ((l j : ℕ) → l ≢ layer j → v l j ≡ u l j)
      → (j : ℕ) → v (layer' j) j ≡ f (places_in j uses) (u (layer' j) j)
  at_layer f none here other j = elim (same j) [
    | inl quiet ↦
        told_quiet (λ k. u k j) (λ k. v k j) (layer' j) (layer j) (here j ∙ ap (λ ps. f ps (u (layer j) j)) quiet ∙ none (u (layer j) j)) (λ n. other (layer' j) j n)
        ∙ sym (ap (λ ps. f ps (u (layer' j) j)) quiet ∙ none (u (layer' j) j))
    | inr e ↦ subst (λ l. v l j ≡ f (places_in j uses) (u l j)) (sym e) (here j)
  ]

  pub told_over : IsTold layer uses old outcome u v → IsTold layer' uses old outcome u v
  told_over (inl h) = inl h
  told_over (inr (inl h)) = inr (inl (
    h.0,
    h.1,
    h.2,
    h.3,
    at_layer (λ ps w. pushed (map (λ p. change_to p old h.0) ps) w) (λ w. refl) h.4 h.5,
    elsewhere (λ ps w. pushed (map (λ p. change_to p old h.0) ps) w) (λ w. refl) h.4 h.5,
  ))
  told_over (inr (inr h)) = inr (inr (h.0, at_layer (λ ps w. blocked ps w) (λ w. refl) h.1 h.2, elsewhere (λ ps w. blocked ps w) (λ w. refl) h.1 h.2))

module _ (rules : List Rule) (frame : Frame) (cells : List Input) (test : ℕ → Bool) (part : Part) (is : IsPart rules frame cells test part) where
  pub small : (id : ℕ) → id < length part.frame.inputs.items → id < length frame.inputs.items
  small id lt = let count = is.count in omega (arith, lt, count)

  pub large : (id : ℕ) → id < length frame.inputs.items → id < length part.frame.inputs.items
  large id lt = let count = is.count in omega (arith, lt, count)

  -- what has inputs in the part passes
  pub passing : (id : ℕ) → inputs_in part.frame id ≢ [] → test id ≡ true
  passing id some = by (test id) refl
    where
      by : (b : Bool) → test id ≡ b → b ≡ true
      by true e = refl
      by false e = absurd (some (is.outside id e).0)

  layer_or_none : (id : ℕ) → id < length frame.inputs.items → (j : ℕ) → (places_in j (chosen test (uses_in frame id)) ≡ []) ⊎ (layer_of part.frame j ≡ layer_of frame j)
  layer_or_none id lt j = elim (leb_tells (length frame.inputs.items) j) [
    | inl past ↦
        inl (ap (places_in j) (sym (is.uses id)) ∙ is.kept.framed.shape.uses_are id j (large id lt)
        ∙ ap (positions id) (is.kept.framed.shape.outside j (let count = is.count in let a = past.1 in omega (arith, a, count))))
    | inr inside ↦ by (test j) refl inside.1
  ]
    where
      by : (b : Bool) → test j ≡ b → j < length frame.inputs.items → (places_in j (chosen test (uses_in frame id)) ≡ []) ⊎ (layer_of part.frame j ≡ layer_of frame j)
      by true t low = inr (is.inside j low t).layer
      by false t low = inl (places_chosen test j (uses_in frame id) ∙ ap (λ b. cond b (places_in j (uses_in frame id)) []) t)

  pub told_part : (id : ℕ) (old : Input) (outcome : Outcome) (u v : ℕ → ℕ → Wait) → id < length frame.inputs.items
      → IsTold (layer_of frame) (chosen test (uses_in frame id)) old outcome u v → IsTold (layer_of part.frame) (uses_in part.frame id) old outcome u v
  told_part id old outcome u v lt told =
      subst (λ (us : List (NodeId × ℕ)). IsTold (layer_of part.frame) us old outcome u v) (sym (is.uses id))
      (told_over (layer_of frame) (layer_of part.frame) (chosen test (uses_in frame id)) old outcome u v (layer_or_none id lt) told)

  pub noted_part : (id j : ℕ) (root r : Option (ℕ × RunFault)) → noted (places_in j (chosen test (uses_in frame id))) root r ≡ noted (places_in j (uses_in part.frame id)) root r
  noted_part id j root r = ap (λ us. noted (places_in j us) root r) (sym (is.uses id))

  pub steps_part : (id : ℕ) (outcome : Outcome) → id < length frame.inputs.items → test id ≡ true
      → cond (differs outcome (cell_of cells id)) (length (chosen test (uses_in frame id))) 0 ≡ cond (differs outcome (value_in part id)) (length (uses_in part.frame id)) 0
  steps_part id outcome lt t =
      ap (λ us. cond (differs outcome (cell_of cells id)) (length us) 0) (sym (is.uses id)) ∙ ap (λ x. cond (differs outcome x) (length (uses_in part.frame id)) 0) (sym (is.inside id lt t).value)

  module _ (id : ℕ) (lt : id < length frame.inputs.items) (t : test id ≡ true) where
    pub one_part : (nat_lt id part.frame.first ≡ true → (i : ℕ) × (inputs_in part.frame id ≡ i ∷ [])) → nat_lt id frame.first ≡ true → (i : ℕ) × (inputs_in frame id ≡ i ∷ [])
    one_part one cell =
        let i = one (ap (nat_lt id) is.first ∙ cell) in
        (i.0, sym (is.inside id lt t).inputs ∙ i.1)

    pub changes_part : (x : Option (List Change)) → (nat_lt id part.frame.first ≡ false → (cs : List Change) → x ≡ Some cs → AreChanges (map (value_in part) (inputs_in part.frame id)) cs)
        → nat_lt id frame.first ≡ false → (cs : List Change) → x ≡ Some cs → AreChanges (map (cell_of cells) (inputs_in frame id)) cs
    changes_part x are past cs e =
        subst (λ (xs : List Input). AreChanges xs cs) (ap (map (value_in part)) (is.inside id lt t).inputs ∙ (is.inside id lt t).values) (are (ap (nat_lt id) is.first ∙ past) cs e)

    asked_one : (v : Overlay) (cs : List Change) (b : Bool) → nat_lt id frame.first ≡ b
        → cond b (Value (new_or (get nat_cmp v.changes (slice_index_or (inputs_in frame id) 0 0)) (cell_of cells id))) (outcome_of (rule_value (slice_get rules (id - frame.first)) (after_changes (map (cell_of cells) (inputs_in frame id)) cs)))
        ≡ cond b (Value (new_or (get nat_cmp v.changes (slice_index_or (inputs_in part.frame id) 0 0)) (value_in part id))) (outcome_of (rule_value (slice_get part.rules (id - frame.first)) (after_changes (map (value_in part) (inputs_in part.frame id)) cs)))
    asked_one v cs true e =
        ap (λ is. Value (new_or (get nat_cmp v.changes (slice_index_or is 0 0)) (cell_of cells id))) (sym (is.inside id lt t).inputs)
        ∙ ap (λ x. Value (new_or (get nat_cmp v.changes (slice_index_or (inputs_in part.frame id) 0 0)) x)) (sym (is.inside id lt t).value)
    asked_one v cs false e =
        ap (λ r. outcome_of (rule_value r (after_changes (map (cell_of cells) (inputs_in frame id)) cs))) (sym ((is.inside id lt t).rule (not_below id frame.first e)))
        ∙ ap (λ xs. outcome_of (rule_value (slice_get part.rules (id - frame.first)) (after_changes xs cs))) (sym (ap (map (value_in part)) (is.inside id lt t).inputs ∙ (is.inside id lt t).values))

    pub asked_part : (v : Overlay) (x : Option (List Change)) → asked rules frame cells v id x ≡ asked part.rules part.frame part.cells v id x
    asked_part v None = refl
    asked_part v (Some cs) =
        asked_one v cs (nat_lt id frame.first) refl
        ∙ ap (λ f. cond (nat_lt id f) (Value (new_or (get nat_cmp v.changes (slice_index_or (inputs_in part.frame id) 0 0)) (value_in part id))) (outcome_of (rule_value (slice_get part.rules (id - f)) (after_changes (map (value_in part) (inputs_in part.frame id)) cs)))) (sym is.first)
