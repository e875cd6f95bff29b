-- What is found out about a part holds of the store.
use Rattle.std.proofs.Common.{◌≡◌, ℕ, ℤ, pos, suc, ◌+◌, ◌-◌, ◌*◌, ◌<◌, ◌≤◌, Bool, true, false, cond, nat_lt, ◌&&◌, List, [], map, length, slice_get, Option, Some, None, All, refl, sym, ap, ◌∙◌, subst, arith}
use Rattle.std.specs.List.{list_any}
use Rattle.cbl_base.specs.Inputs.{number_kind, kind_of, number_of}
use Rattle.cbl_base.specs.NodeLaw.{Rule}
use Rattle.cbl_base.specs.declared.ids.VarId.{VarId}
use Rattle.cbl_base.specs.declared.input.Input.{Input}
use Rattle.cbl_base.specs.declared.input.Input.TheVariants.{Int}
use Rattle.cbl_base.specs.declared.faults.RunFault.{RunFault}
use Rattle.store_turns.specs.declared.frame.Frame.{Frame}
use Rattle.store_turns.specs.declared.outcome.Outcome.{Outcome}
use Rattle.store_turns.specs.declared.outcome.Outcome.TheVariants.{Value}
use Rattle.store_turns.specs.Cones.{Among, StandsOn, itself, below, chosen}
use Rattle.store_turns.specs.Meaning.{Each, IsMeaning, computed, come_to, outcome_of, rule_value, the_one, graph_of, inputs_in, layer_of, uses_in, values_of, outcome_at}
use Rattle.store_turns.specs.Touch.{differs, touch, bit}
use Rattle.store_turns.proofs.Unique.{unique, same_map_each, each_from}
use Rattle.store_build.specs.Frames.{cell_of}
use Rattle.store_build.specs.Kept.{IsKept}
use Rattle.store_build.proofs.Existence.{exists}
use Rattle.inc_store.specs.Moves.{moved_to, is_moved}
use Rattle.inc_store.specs.Stores.{IsWithin}
use Rattle.trial.proofs.Imagined.{not_below}
use Rattle.trial.proofs.PartFrames.{each_both}
use Rattle.trial.specs.declared.fault.DifferenceFault.{DifferenceFault}
use Rattle.trial.specs.declared.fault.DifferenceFault.TheVariants.{Node, Difference, NoMemory}
use Rattle.trial.specs.Differences.{FailsBelow, AreNumbers, IsDifference, IsStopped}
use Rattle.trial.specs.Parts.{Part, IsPart, part_graph, value_in, moves_of, touch_among, IsWithinBelow}
use Rattle.trial.proofs.Finish.{each_at, as_number, exact_self}
use Rattle.trial.proofs.PartMoves.{free_part, to_part, stays_part, moved_part}
use Rattle.trial.proofs.PartTouch.{touch_le, any_each, weaker, among_less}

never : true ≡ false → ⊥
never e = cc

module _ (rules : List Rule) (helds : List (List Input)) (frame : Frame) (cells : List Input) (kept : IsKept rules helds frame cells) (test : ℕ → Bool)
    (closed : (id : ℕ) → id < length frame.inputs.items → test id ≡ true → Each (λ i. test i ≡ true) (inputs_in frame id))
    (part : Part) (is : IsPart rules frame cells test part) (ms : List (VarId × ℤ)) where
  small : (id : ℕ) → id < length part.frame.inputs.items → id < length frame.inputs.items
  small id lt = let count = is.count in omega (arith, lt, count)

  large : (id : ℕ) → id < length frame.inputs.items → id < length part.frame.inputs.items
  large id lt = let count = is.count in omega (arith, lt, count)

  -- what all come to in the part, where these are what they come to in the store
  restrict : (ℕ → Outcome) → ℕ → Outcome
  restrict o id = cond (test id) (o id) (Value (Int (pos 0)))

  inside_is : (o : ℕ → Outcome) (id : ℕ) → test id ≡ true → restrict o id ≡ o id
  unfolding restrict
  inside_is o id t = ap (λ b. cond b (o id) (Value (Int (pos 0)))) t

  outside_is : (o : ℕ → Outcome) (id : ℕ) → test id ≡ false → restrict o id ≡ Value (Int (pos 0))
  unfolding restrict
  outside_is o id t = ap (λ b. cond b (o id) (Value (Int (pos 0)))) t

  op_is : (id : ℕ) (xs : List Input) → id < length frame.inputs.items → test id ≡ true → (part_graph part).op id xs ≡ (graph_of rules frame).op id xs
  op_is id xs lt t =
      ap (λ f. cond (nat_lt id f) (the_one xs) (rule_value (slice_get part.rules (id - f)) xs)) is.first
      ∙ by (nat_lt id frame.first) (λ e. (is.inside id lt t).rule (not_below id frame.first e))
    where
      by : (b : Bool) → (b ≡ false → slice_get part.rules (id - frame.first) ≡ slice_get rules (id - frame.first))
          → cond b (the_one xs) (rule_value (slice_get part.rules (id - frame.first)) xs) ≡ cond b (the_one xs) (rule_value (slice_get rules (id - frame.first)) xs)
      by true same = refl
      by false same = ap (λ r. rule_value r xs) (same refl)

  same_op : (id : ℕ) (xs : Option (List Input)) → id < length frame.inputs.items → test id ≡ true → come_to ((graph_of rules frame).op id) xs ≡ come_to ((part_graph part).op id) xs
  same_op id None lt t = refl
  same_op id (Some xs) lt t = ap outcome_of (sym (op_is id xs lt t))

  module _ (o : ℕ → Outcome) (free free' : ℕ → Input) (meaning : IsMeaning (graph_of rules frame) free o) (inner : (id : ℕ) → id < length frame.inputs.items → test id ≡ true → free' id ≡ free id) (outer : (id : ℕ) → test id ≡ false → free' id ≡ Int (pos 0)) where
    cell_meaning : (id : ℕ) → id < length frame.inputs.items → (b : Bool) → test id ≡ b → (part_graph part).is_free id ≡ true → restrict o id ≡ Value (free' id)
    cell_meaning id lt true t f = inside_is o id t ∙ meaning.cells id lt (sym (free_part test rules frame cells part is id lt t) ∙ f) ∙ ap (λ x. Value x) (sym (inner id lt t))
    cell_meaning id lt false t f = outside_is o id t ∙ ap (λ x. Value x) (sym (outer id t))

    node_meaning : (id : ℕ) → id < length frame.inputs.items → (b : Bool) → test id ≡ b → (part_graph part).is_free id ≡ false → restrict o id ≡ computed (part_graph part) (restrict o) id
    node_meaning id lt true t f =
        inside_is o id t ∙ meaning.nodes id lt (sym (free_part test rules frame cells part is id lt t) ∙ f)
        ∙ ap (λ os. come_to ((graph_of rules frame).op id) (values_of os)) (sym (same_map_each (restrict o) o (inputs_in frame id) (each_both (inputs_in frame id) (λ i p q. inside_is o i p) (closed id lt t) (closed id lt t))))
        ∙ ap (λ ns. come_to ((graph_of rules frame).op id) (values_of (map (restrict o) ns))) (sym (is.inside id lt t).inputs)
        ∙ same_op id (values_of (map (restrict o) (inputs_in part.frame id))) lt t
    node_meaning id lt false t f =
        outside_is o id t ∙ ap (λ x. Value x) (sym (is.outside id t).1) ∙ is.kept.fresh.nodes id (large id lt) f
        ∙ ap (λ ns. come_to ((part_graph part).op id) (values_of (map (λ j. Value (value_in part j)) ns))) (is.outside id t).0
        ∙ sym (ap (λ ns. come_to ((part_graph part).op id) (values_of (map (restrict o) ns))) (is.outside id t).0)

    restricted : IsMeaning (part_graph part) free' (restrict o)
    restricted = record {
      cells = λ id lt f. cell_meaning id (small id lt) (test id) refl f;
      nodes = λ id lt f. node_meaning id (small id lt) (test id) refl f;
    }

  o_after : ℕ → Outcome
  o_after = λ id. outcome_at (graph_of rules frame) (moved_to ms (cell_of cells)) (suc (layer_of frame id)) id

  means_after : IsMeaning (graph_of rules frame) (moved_to ms (cell_of cells)) o_after
  unfolding o_after
  means_after = exists (graph_of rules frame) (layer_of frame) kept.framed.shape.layers (moved_to ms (cell_of cells))

  inner_after : (id : ℕ) → id < length frame.inputs.items → test id ≡ true → moved_to (moves_of test ms) (value_in part) id ≡ moved_to ms (cell_of cells) id
  inner_after id lt t = to_part test ms (value_in part) (cell_of cells) id t (is.inside id lt t).value

  outer_after : (id : ℕ) → test id ≡ false → moved_to (moves_of test ms) (value_in part) id ≡ Int (pos 0)
  outer_after id t = stays_part test ms (value_in part) id t ∙ (is.outside id t).1

  part_meaning : (o : ℕ → Outcome) → IsMeaning (graph_of rules frame) (moved_to ms (cell_of cells)) o → IsMeaning (part_graph part) (moved_to (moves_of test ms) (value_in part)) (restrict o)
  part_meaning o meaning = restricted o (moved_to ms (cell_of cells)) (moved_to (moves_of test ms) (value_in part)) meaning inner_after outer_after

  same_after : (o' : ℕ → Outcome) → IsMeaning (part_graph part) (moved_to (moves_of test ms) (value_in part)) o' → (j : ℕ) → j < length frame.inputs.items → o' j ≡ restrict o_after j
  same_after o' meaning j lt =
      unique (part_graph part) (layer_of part.frame) is.kept.framed.shape.layers (moved_to (moves_of test ms) (value_in part)) o' (restrict o_after) meaning (part_meaning o_after means_after) j (large j lt)

  -- ---- on what an id stands
  passes : (j i : ℕ) → Among i (inputs_in part.frame j) → (b : Bool) → test j ≡ b → b ≡ true
  passes j i m true t = refl
  passes j i m false t = absurd (subst (λ ns. Among i ns) (is.outside j t).0 m)

  input_is : (j i : ℕ) → j < length frame.inputs.items → Among i (inputs_in frame j) → i < length frame.inputs.items
  input_is j i lt m = (each_at (λ k. (k < length frame.inputs.items) × (layer_of frame k < layer_of frame j)) i (inputs_in frame j) (kept.framed.shape.layers j lt) m).0

  stands_out : {j k : ℕ} → StandsOn (inputs_in part.frame) j k → j < length frame.inputs.items → StandsOn (inputs_in frame) j k
  stands_out (itself {j}) lt = itself
  stands_out (below {j} {i} {k} m st) lt =
      let n = subst (λ ns. Among i ns) (is.inside j lt (passes j i m (test j) refl)).inputs m in
      below n (stands_out st (input_is j i lt n))

  stands_in : {j k : ℕ} → StandsOn (inputs_in frame) j k → j < length frame.inputs.items → test j ≡ true → (k < length frame.inputs.items) × (test k ≡ true) × StandsOn (inputs_in part.frame) j k
  stands_in (itself {j}) lt t = (lt, t, itself)
  stands_in (below {j} {i} {k} m st) lt t =
      let rest = stands_in st (input_is j i lt m) (each_at (λ q. test q ≡ true) i (inputs_in frame j) (closed j lt t) m) in
      (rest.0, rest.1, below (subst (λ ns. Among i ns) (sym (is.inside j lt t).inputs) m) rest.2)

  -- ---- the two ends
  module _ (target : ℕ) (lt : target < length frame.inputs.items) (t : test target ≡ true) where
    below_of : (o o' : ℕ → Outcome) (id : ℕ) (fault : RunFault) → ((j : ℕ) → j < length frame.inputs.items → o' j ≡ restrict o j) → FailsBelow (part_graph part) o' target id fault → FailsBelow (graph_of rules frame) o target id fault
    below_of o o' id fault same f =
        let st = stands_out f.stands lt in
        let into = stands_in st lt t in
        record {
          stands = st;
          here = sym (inside_is o id into.1) ∙ sym (same id into.0) ∙ f.here;
          least = λ j other sj fails. let r = stands_in sj lt t in f.least j other r.2 (same j r.0 ∙ inside_is o j r.1 ∙ fails);
        }

    numbers_of : (x y : ℤ) → AreNumbers (part_graph part) (value_in part) (moved_to (moves_of test ms) (value_in part)) target x y → AreNumbers (graph_of rules frame) (cell_of cells) (moved_to ms (cell_of cells)) target x y
    numbers_of x y nums = record {
      outcome = λ j. Value (cell_of cells j);
      outcome_after = o_after;
      meaning = kept.fresh;
      meaning_after = means_after;
      had =
          ap (λ v. Value v) (sym (is.inside target lt t).value)
          ∙ unique (part_graph part) (layer_of part.frame) is.kept.framed.shape.layers (value_in part) (λ j. Value (value_in part j)) nums.outcome is.kept.fresh nums.meaning target (large target lt) ∙ nums.had;
      has = sym (inside_is o_after target t) ∙ sym (same_after nums.outcome_after nums.meaning_after target lt) ∙ nums.has;
    }

    pub difference_of : (d : ℤ) → IsDifference (part_graph part) (value_in part) (moved_to (moves_of test ms) (value_in part)) target d → IsDifference (graph_of rules frame) (cell_of cells) (moved_to ms (cell_of cells)) target d
    difference_of d h = (h.0, h.1, numbers_of h.0 h.1 h.2, h.3)

    pub stopped_of : (stop : DifferenceFault) → IsStopped (part_graph part) (value_in part) (moved_to (moves_of test ms) (value_in part)) target stop → IsStopped (graph_of rules frame) (cell_of cells) (moved_to ms (cell_of cells)) target stop
    stopped_of (Node node fault) h = (o_after, means_after, below_of o_after h.0 node.0 fault (same_after h.0 h.1) h.2)
    stopped_of (Difference fault) h = (h.0, h.1, numbers_of h.0 h.1 h.2, h.3)
    stopped_of NoMemory h = tt

    as_before : IsMeaning (part_graph part) (moved_to [] (value_in part)) (λ j. Value (value_in part j))
    as_before = record { cells = is.kept.fresh.cells; nodes = is.kept.fresh.nodes }

    -- where no member is moved, nothing is another
    pub unmoved : moves_of test ms ≡ [] → kind_of (cell_of cells target) ≡ number_kind → IsDifference (graph_of rules frame) (cell_of cells) (moved_to ms (cell_of cells)) target (pos 0)
    unmoved none number = (
      number_of (cell_of cells target),
      number_of (cell_of cells target),
      record {
        outcome = λ j. Value (cell_of cells j);
        outcome_after = o_after;
        meaning = kept.fresh;
        meaning_after = means_after;
        had = ap (λ v. Value v) (as_number (cell_of cells target) number);
        has =
            sym (inside_is o_after target t)
            ∙ sym (same_after (λ j. Value (value_in part j)) (subst (λ (k : List (VarId × ℤ)). IsMeaning (part_graph part) (moved_to k (value_in part)) (λ j. Value (value_in part j))) (sym none) as_before) target lt)
            ∙ ap (λ v. Value v) ((is.inside target lt t).value ∙ as_number (cell_of cells target) number);
      },
      exact_self (number_of (cell_of cells target)),
    )

  -- ---- the steps
  module _ (o : ℕ → Outcome) where
    differs_one : (j : ℕ) → j < length frame.inputs.items → (b : Bool) → test j ≡ b → bit (differs (restrict o j) (value_in part j)) ≤ bit (differs (o j) (cell_of cells j) && b)
    differs_one j lt true t =
        let same : differs (restrict o j) (value_in part j) ≡ differs (o j) (cell_of cells j) = ap (λ q. differs q (value_in part j)) (inside_is o j t) ∙ ap (differs (o j)) (is.inside j lt t).value in
        subst (λ c. bit c ≤ bit (differs (o j) (cell_of cells j) && true)) (sym same) (no_more (differs (o j) (cell_of cells j)))
      where
        no_more : (b : Bool) → bit b ≤ bit (b && true)
        no_more true = omega arith
        no_more false = omega arith
    differs_one j lt false t =
        let same : differs (restrict o j) (value_in part j) ≡ false = ap (λ q. differs q (value_in part j)) (outside_is o j t) ∙ ap (differs (Value (Int (pos 0)))) (is.outside j t).1 in
        subst (λ c. bit c ≤ bit (differs (o j) (cell_of cells j) && false)) (sym same) (omega arith)

    any_one : (j : ℕ) → j < length frame.inputs.items → (b : Bool) → test j ≡ b
        → bit (list_any (λ i. differs (restrict o i) (value_in part i)) (inputs_in part.frame j)) ≤ bit (list_any (λ i. differs (o i) (cell_of cells i) && test i) (cond b (inputs_in frame j) []))
    any_one j lt true t =
        subst (λ ns. bit (list_any (λ i. differs (restrict o i) (value_in part i)) ns) ≤ bit (list_any (λ i. differs (o i) (cell_of cells i) && test i) (inputs_in frame j))) (sym (is.inside j lt t).inputs)
        (any_each (λ i. differs (restrict o i) (value_in part i)) (λ i. differs (o i) (cell_of cells i) && test i) (inputs_in frame j)
        (each_from (λ k. (k < length frame.inputs.items) × (layer_of frame k < layer_of frame j)) (λ i. bit (differs (restrict o i) (value_in part i)) ≤ bit (differs (o i) (cell_of cells i) && test i)) (inputs_in frame j) (λ i h. differs_one i h.0 (test i) refl) (kept.framed.shape.layers j lt)))
    any_one j lt false t =
        subst (λ ns. bit (list_any (λ i. differs (restrict o i) (value_in part i)) ns) ≤ 0) (sym (is.outside j t).0) (omega arith)

    part_touch : touch (is_moved (moves_of test ms)) (λ j. differs (restrict o j) (value_in part j)) (inputs_in part.frame) (uses_in part.frame) (length frame.inputs.items)
        ≤ touch_among test (is_moved ms) (λ j. differs (o j) (cell_of cells j)) (inputs_in frame) (uses_in frame) (length frame.inputs.items)
    part_touch =
        touch_le (is_moved (moves_of test ms)) (λ j. is_moved ms j && test j) (λ j. differs (restrict o j) (value_in part j)) (λ j. differs (o j) (cell_of cells j) && test j)
        (inputs_in part.frame) (λ j. cond (test j) (inputs_in frame j) []) (uses_in part.frame) (λ j. chosen test (uses_in frame j)) (length frame.inputs.items)
        (λ j lt. at_most (ap bit (moved_part test ms j))) (λ j lt. differs_one j lt (test j) refl) (λ j lt. any_one j lt (test j) refl) (λ j lt _. at_most (ap length (is.uses j)))
      where
        at_most : {m n : ℕ} → m ≡ n → m ≤ n
        at_most e = omega (arith, e)

  module _ (base steps : ℕ) (paid : IsWithin (part_graph part) (value_in part) (moved_to (moves_of test ms) (value_in part)) (is_moved (moves_of test ms)) (uses_in part.frame) base steps) where
    among : (o : ℕ → Outcome) → IsMeaning (graph_of rules frame) (moved_to ms (cell_of cells)) o
        → steps ≤ base + 4 * touch_among test (is_moved ms) (λ j. differs (o j) (cell_of cells j)) (inputs_in frame) (uses_in frame) (length frame.inputs.items)
    among o meaning =
        let a = subst (λ n. steps ≤ base + 4 * touch (is_moved (moves_of test ms)) (λ j. differs (restrict o j) (value_in part j)) (inputs_in part.frame) (uses_in part.frame) n) is.count (paid (restrict o) (part_meaning o meaning)) in
        let b = part_touch o in
        omega (arith, a, b)

    pub within_of : IsWithin (graph_of rules frame) (cell_of cells) (moved_to ms (cell_of cells)) (is_moved ms) (uses_in frame) base steps
    within_of = λ o meaning.
        let a = among o meaning in
        let b = among_less test (is_moved ms) (λ j. differs (o j) (cell_of cells j)) (inputs_in frame) (uses_in frame) (length frame.inputs.items) in
        omega (arith, a, b)

    pub below_within : (target : ℕ) → ((j : ℕ) → j < length frame.inputs.items → test j ≡ true → StandsOn (inputs_in frame) target j)
        → IsWithinBelow (graph_of rules frame) target (cell_of cells) (moved_to ms (cell_of cells)) (is_moved ms) (uses_in frame) base steps
    below_within target stands = λ o meaning weak all.
        let a = among o meaning in
        let b = weaker test weak (is_moved ms) (λ j. differs (o j) (cell_of cells j)) (inputs_in frame) (uses_in frame) (length frame.inputs.items) (λ j lt t. all j (stands j lt t))
        (λ j lt. each_from (λ k. (k < length frame.inputs.items) × (layer_of frame k < layer_of frame j)) (λ i. i < length frame.inputs.items) (inputs_in frame j) (λ i h. h.0) (kept.framed.shape.layers j lt))
        (λ j. subst (λ n. All (λ u. u.0.0 < n) (uses_in frame j)) kept.framed.layers (kept.framed.users j)) in
        omega (arith, a, b)
