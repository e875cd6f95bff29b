-- The part of a store that passes a test is itself what a store keeps.
use Rattle.std.proofs.Common.{◌≡◌, ℕ, pos, ◌-◌, ◌<◌, ◌≤◌, Bool, true, false, cond, nat_lt, ◌&&◌, List, [], ◌∷◌, map, length, get_or, slice_get, slice_index_or, Vec, Option, Some, None, Result, Ok, All, refl, sym, ap, ◌∙◌, subst, arith}
use Rattle.std.specs.declared.alloc.Global.{Global}
use Rattle.std.proofs.lemmas.Bool.Decides.{nat_tests}
use Rattle.std.proofs.lemmas.List.Elements.{All-same}
use Rattle.cbl_base.specs.Inputs.{number_kind, kind_of, kinds_of}
use Rattle.cbl_base.specs.NodeLaw.{Rule}
use Rattle.cbl_base.specs.declared.input.Input.{Input}
use Rattle.cbl_base.specs.declared.input.Input.TheVariants.{Int}
use Rattle.cbl_base.specs.declared.faults.RunFault.{RunFault}
use Rattle.store_turns.specs.declared.frame.Frame.{Frame}
use Rattle.store_turns.specs.declared.outcome.Outcome.TheVariants.{Value}
use Rattle.store_turns.specs.Cones.{chosen, AreCones}
use Rattle.store_turns.specs.Meaning.{Each, computed, come_to, outcome_of, rule_value, the_one, is_empty, ids_of, lists_of, graph_of, inputs_in, layer_of, uses_in, values_of}
use Rattle.store_turns.specs.Telling.{positions, places_in}
use Rattle.store_turns.specs.Turns.{IsShape}
use Rattle.store_build.specs.Frames.{cell_of, held_of, IsFrame}
use Rattle.store_build.specs.Kept.{IsKept}
use Rattle.inc_store.proofs.NodeLists.{values_all}
use Rattle.store_build.proofs.LaidLemmas.{nothing_in}
use Rattle.trial.proofs.Imagined.{not_below}
use Rattle.trial.specs.Parts.{Part, IsPart, part_graph, value_in}
use Rattle.trial.proofs.PartLists.{shorter, keep_from, length_keep, at_keep, found_keep, other_keep, lists_keep, chosen_vec, chosen_lists, length_map, all_chosen, places_chosen}
use denote.RawPtr.{null_ptr}

-- what is outside is always 0
abbrev pub nought : Rule
nought = record { takes = λ kinds. true; value = λ xs. Ok (Int (pos 0)); violation_at = λ xs place. pos 0 }

abbrev pub nothing : {A : Type 0} → Global → Vec A Global
nothing alloc = record { ptr = null_ptr; len = 0; cap = 0; alloc = alloc; items = []; ok = (refl, omega arith); small = omega arith }

at_most : {m n : ℕ} → m ≡ n → m ≤ n
at_most e = omega (arith, e)

pub part_frame : (ℕ → Bool) → Frame → Frame
part_frame test frame = record {
  first = frame.first;
  inputs = shorter frame.inputs (keep_from test 0 (nothing frame.inputs.alloc) frame.inputs.items) (at_most (length_keep test 0 (nothing frame.inputs.alloc) frame.inputs.items));
  layers = shorter frame.layers (keep_from test 0 0 frame.layers.items) (at_most (length_keep test 0 0 frame.layers.items));
  uses = shorter frame.uses (map (chosen_vec test) frame.uses.items) (at_most (length_map (chosen_vec test) frame.uses.items));
  cones = shorter frame.cones [] (omega arith);
}

pub part_of : (ℕ → Bool) → List Rule → List (List Input) → Frame → List Input → Part
part_of test rules helds frame cells = record {
  rules = keep_from test frame.first nought rules;
  helds = keep_from test frame.first [] helds;
  frame = part_frame test frame;
  cells = keep_from test 0 (Int (pos 0)) cells;
}

pub each_both : {P Q R : ℕ → Type 0} (is : List ℕ) → ((i : ℕ) → P i → Q i → R i) → Each P is → Each Q is → Each R is
each_both [] f p q = tt
each_both (i ∷ is) f p q = (f i p.0 q.0, each_both is f p.1 q.1)

same_values : (f g : ℕ → Input) (is : List ℕ) → Each (λ i. f i ≡ g i) is → map f is ≡ map g is
same_values f g [] h = refl
same_values f g (i ∷ is) h = ap (λ x. x ∷ map f is) h.0 ∙ ap (λ xs. g i ∷ xs) (same_values f g is h.1)

never_both : {P : Type 0} → true ≡ false → P
never_both e = absurd (never e)
  where
    never : true ≡ false → ⊥
    never e = cc

past_first : (b : Bool) → b && true ≡ false → b ≡ false
past_first true e = e
past_first false e = refl

module _ (rules : List Rule) (helds : List (List Input)) (frame : Frame) (cells : List Input) (kept : IsKept rules helds frame cells) (test : ℕ → Bool)
    (closed : (id : ℕ) → id < length frame.inputs.items → test id ≡ true → Each (λ i. test i ≡ true) (inputs_in frame id)) where
  part : Part
  part = part_of test rules helds frame cells

  n : ℕ
  n = length frame.inputs.items

  -- ---- the lists of the part
  count_is : length part.frame.inputs.items ≡ length frame.inputs.items
  unfolding part part_of part_frame
  count_is = length_keep test 0 (nothing frame.inputs.alloc) frame.inputs.items

  layers_count : length part.frame.layers.items ≡ length frame.layers.items
  unfolding part part_of part_frame
  layers_count = length_keep test 0 0 frame.layers.items

  uses_count : length part.frame.uses.items ≡ length frame.uses.items
  unfolding part part_of part_frame
  uses_count = length_map (chosen_vec test) frame.uses.items

  first_is : part.frame.first ≡ frame.first
  unfolding part part_of part_frame
  first_is = refl

  rules_count : length part.rules ≡ length rules
  unfolding part part_of
  rules_count = length_keep test frame.first nought rules

  helds_count : length part.helds ≡ length helds
  unfolding part part_of
  helds_count = length_keep test frame.first [] helds

  cells_count : length part.cells ≡ length cells
  unfolding part part_of
  cells_count = length_keep test 0 (Int (pos 0)) cells

  inputs_at : (id : ℕ) → inputs_in part.frame id ≡ ids_of (cond (test id) (slice_index_or (lists_of frame.inputs.items) id []) [])
  unfolding part part_of part_frame
  inputs_at id = ap (λ ls. ids_of (get_or ls id [])) (lists_keep test 0 (nothing frame.inputs.alloc) frame.inputs.items) ∙ ap ids_of (at_keep test 0 [] (lists_of frame.inputs.items) id id (omega arith))

  layer_at : (id : ℕ) → layer_of part.frame id ≡ cond (test id) (layer_of frame id) 0
  unfolding part part_of part_frame
  layer_at id = at_keep test 0 0 frame.layers.items id id (omega arith)

  value_at : (id : ℕ) → value_in part id ≡ cond (test id) (cell_of cells id) (Int (pos 0))
  unfolding part part_of
  value_at id = at_keep test 0 (Int (pos 0)) cells id id (omega arith)

  uses_at : (id : ℕ) → uses_in part.frame id ≡ chosen test (uses_in frame id)
  unfolding part part_of part_frame
  uses_at id = chosen_lists test frame.uses.items id

  rule_at : (id : ℕ) → frame.first ≤ id → test id ≡ true → slice_get part.rules (id - frame.first) ≡ slice_get rules (id - frame.first)
  unfolding part part_of
  rule_at id past t = found_keep test frame.first nought rules (id - frame.first) id (omega (arith, past)) t

  other_rule : (id : ℕ) → frame.first ≤ id → id < length frame.inputs.items → test id ≡ false → slice_get part.rules (id - frame.first) ≡ Some nought
  unfolding part part_of
  other_rule id past lt t = let all = kept.framed.first in other_keep test frame.first nought rules (id - frame.first) id (omega (arith, past)) (omega (arith, past, lt, all)) t

  held_at : (id : ℕ) → frame.first ≤ id → slice_index_or part.helds (id - frame.first) [] ≡ cond (test id) (slice_index_or helds (id - frame.first) []) []
  unfolding part part_of
  held_at id past = at_keep test frame.first [] helds (id - frame.first) id (omega (arith, past))

  -- ---- what passes is what it was, and what doesn't has no inputs and is 0
  inputs_of : (id : ℕ) → test id ≡ true → inputs_in part.frame id ≡ inputs_in frame id
  inputs_of id t = inputs_at id ∙ ap (λ b. ids_of (cond b (slice_index_or (lists_of frame.inputs.items) id []) [])) t

  no_inputs : (id : ℕ) → test id ≡ false → inputs_in part.frame id ≡ []
  no_inputs id t = inputs_at id ∙ ap (λ b. ids_of (cond b (slice_index_or (lists_of frame.inputs.items) id []) [])) t

  layer_is : (id : ℕ) → test id ≡ true → layer_of part.frame id ≡ layer_of frame id
  layer_is id t = layer_at id ∙ ap (λ b. cond b (layer_of frame id) 0) t

  no_layer : (id : ℕ) → test id ≡ false → layer_of part.frame id ≡ 0
  no_layer id t = layer_at id ∙ ap (λ b. cond b (layer_of frame id) 0) t

  value_is : (id : ℕ) → test id ≡ true → value_in part id ≡ cell_of cells id
  value_is id t = value_at id ∙ ap (λ b. cond b (cell_of cells id) (Int (pos 0))) t

  no_value : (id : ℕ) → test id ≡ false → value_in part id ≡ Int (pos 0)
  no_value id t = value_at id ∙ ap (λ b. cond b (cell_of cells id) (Int (pos 0))) t

  held_is : (id : ℕ) → frame.first ≤ id → test id ≡ true → slice_index_or part.helds (id - frame.first) [] ≡ slice_index_or helds (id - frame.first) []
  held_is id past t = held_at id past ∙ ap (λ b. cond b (slice_index_or helds (id - frame.first) []) []) t

  no_held : (id : ℕ) → frame.first ≤ id → test id ≡ false → slice_index_or part.helds (id - frame.first) [] ≡ []
  no_held id past t = held_at id past ∙ ap (λ b. cond b (slice_index_or helds (id - frame.first) []) []) t

  values_are : (id : ℕ) → id < length frame.inputs.items → test id ≡ true → map (value_in part) (inputs_in frame id) ≡ map (cell_of cells) (inputs_in frame id)
  values_are id lt t = same_values (value_in part) (cell_of cells) (inputs_in frame id) (each_both (inputs_in frame id) (λ i p q. value_is i p) (closed id lt t) (closed id lt t))

  -- whether it is free
  free_is : (id : ℕ) → test id ≡ true → (part_graph part).is_free id ≡ (graph_of rules frame).is_free id
  free_is id t = ap (λ f. nat_lt id f && is_empty (inputs_in part.frame id)) first_is ∙ ap (λ is. nat_lt id frame.first && is_empty is) (inputs_of id t)

  bound_past : (id : ℕ) → test id ≡ false → (part_graph part).is_free id ≡ false → frame.first ≤ id
  bound_past id t b = not_below id frame.first (past_first (nat_lt id frame.first) (sym (ap (λ f. nat_lt id f && is_empty (inputs_in part.frame id)) first_is ∙ ap (λ is. nat_lt id frame.first && is_empty is) (no_inputs id t)) ∙ b))

  -- what it computes
  op_is : (id : ℕ) (xs : List Input) → test id ≡ true → (part_graph part).op id xs ≡ (graph_of rules frame).op id xs
  op_is id xs t =
      ap (λ f. cond (nat_lt id f) (the_one xs) (rule_value (slice_get part.rules (id - f)) xs)) first_is
      ∙ by (nat_lt id frame.first) (λ e. rule_at id (not_below id frame.first e) t)
    where
      by : (b : Bool) → (b ≡ false → slice_get part.rules (id - frame.first) ≡ slice_get rules (id - frame.first))
          → cond b (the_one xs) (rule_value (slice_get part.rules (id - frame.first)) xs) ≡ cond b (the_one xs) (rule_value (slice_get rules (id - frame.first)) xs)
      by true same = refl
      by false same = ap (λ r. rule_value r xs) (same refl)

  op_other : (id : ℕ) (xs : List Input) → frame.first ≤ id → id < length frame.inputs.items → test id ≡ false → (part_graph part).op id xs ≡ Ok (Int (pos 0))
  op_other id xs past lt t =
      ap (λ f. cond (nat_lt id f) (the_one xs) (rule_value (slice_get part.rules (id - f)) xs)) first_is
      ∙ ap (λ b. cond b (the_one xs) (rule_value (slice_get part.rules (id - frame.first)) xs)) (past_is id frame.first past)
      ∙ ap (λ r. rule_value r xs) (other_rule id past lt t)
    where
      past_is : (a b : ℕ) → b ≤ a → nat_lt a b ≡ false
      past_is a b le = grind (arith, nat_tests, le)

  -- ---- the part hangs together
  layers_of : (id : ℕ) → id < length frame.inputs.items → (b : Bool) → test id ≡ b → Each (λ i. (i < length frame.inputs.items) × (layer_of part.frame i < layer_of part.frame id)) (inputs_in part.frame id)
  layers_of id lt true t =
      subst (λ is. Each (λ i. (i < length frame.inputs.items) × (layer_of part.frame i < layer_of part.frame id)) is) (sym (inputs_of id t))
      (each_both (inputs_in frame id) (λ i p h. (h.0, let a = layer_is i p in let b = layer_is id t in let up = h.1 in omega (arith, a, b, up))) (closed id lt t) (kept.framed.shape.layers id lt))
  layers_of id lt false t = subst (λ is. Each (λ i. (i < length frame.inputs.items) × (layer_of part.frame i < layer_of part.frame id)) is) (sym (no_inputs id t)) tt

  lowest_is : (id : ℕ) → (b : Bool) → test id ≡ b → (part_graph part).is_free id ≡ true → layer_of part.frame id ≡ 0
  lowest_is id true t free = layer_is id t ∙ kept.framed.shape.lowest id (sym (free_is id t) ∙ free)
  lowest_is id false t free = no_layer id t

  outside_is : (id : ℕ) → length frame.inputs.items ≤ id → (b : Bool) → test id ≡ b → inputs_in part.frame id ≡ []
  outside_is id past true t = inputs_of id t ∙ kept.framed.shape.outside id past
  outside_is id past false t = no_inputs id t

  uses_match : (id j : ℕ) → id < length frame.inputs.items → (b : Bool) → test j ≡ b → places_in j (uses_in part.frame id) ≡ positions id (inputs_in part.frame j)
  uses_match id j lt true t =
      ap (places_in j) (uses_at id) ∙ places_chosen test j (uses_in frame id) ∙ ap (λ c. cond c (places_in j (uses_in frame id)) []) t
      ∙ kept.framed.shape.uses_are id j lt ∙ ap (positions id) (sym (inputs_of j t))
  uses_match id j lt false t =
      ap (places_in j) (uses_at id) ∙ places_chosen test j (uses_in frame id) ∙ ap (λ c. cond c (places_in j (uses_in frame id)) []) t
      ∙ ap (positions id) (sym (no_inputs j t))

  shaped : IsShape (part_graph part) (layer_of part.frame) (uses_in part.frame)
  shaped = record {
    few = let a = kept.framed.shape.few in let b = count_is in omega (arith, a, b);
    layers = λ id lt.
        subst (λ k. Each (λ i. (i < k) × (layer_of part.frame i < layer_of part.frame id)) (inputs_in part.frame id)) (sym count_is)
        (layers_of id (let b = count_is in omega (arith, lt, b)) (test id) refl);
    lowest = λ id free. lowest_is id (test id) refl free;
    outside = λ id past. outside_is id (let b = count_is in omega (arith, past, b)) (test id) refl;
    bound = λ id free. nothing_in (inputs_in part.frame id) (nat_lt id part.frame.first) free;
    uses_are = λ id j lt. uses_match id j (let b = count_is in omega (arith, lt, b)) (test j) refl;
  }

  defined_is : (id : ℕ) → nat_lt id frame.first ≡ true → (b : Bool) → test id ≡ b → is_empty (inputs_in part.frame id) ≡ false → (i : ℕ) × (inputs_in part.frame id ≡ i ∷ [])
  defined_is id cell true t some =
      let one = kept.framed.defined id cell (sym (ap is_empty (inputs_of id t)) ∙ some) in
      (one.0, inputs_of id t ∙ one.1)
  defined_is id cell false t some = never_both (sym (ap is_empty (no_inputs id t)) ∙ some)

  free_kind : (id : ℕ) → id < length frame.inputs.items → (b : Bool) → test id ≡ b → (part_graph part).is_free id ≡ true → kind_of (value_in part id) ≡ number_kind
  free_kind id lt true t free = ap kind_of (value_is id t) ∙ kept.framed.kinded.free id lt (sym (free_is id t) ∙ free)
  free_kind id lt false t free = ap kind_of (no_value id t)

  kinds_same : (id : ℕ) → id < length frame.inputs.items → test id ≡ true → map (λ j. kind_of (value_in part j)) (inputs_in part.frame id) ≡ map (λ j. kind_of (cell_of cells j)) (inputs_in frame id)
  kinds_same id lt t =
      ap (map (λ j. kind_of (value_in part j))) (inputs_of id t)
      ∙ each_kind (inputs_in frame id) (each_both (inputs_in frame id) (λ i p q. ap kind_of (value_is i p)) (closed id lt t) (closed id lt t))
    where
      each_kind : (is : List ℕ) → Each (λ i. kind_of (value_in part i) ≡ kind_of (cell_of cells i)) is → map (λ j. kind_of (value_in part j)) is ≡ map (λ j. kind_of (cell_of cells j)) is
      each_kind [] h = refl
      each_kind (i ∷ is) h = ap (λ k. k ∷ map (λ j. kind_of (value_in part j)) is) h.0 ∙ ap (λ ks. kind_of (cell_of cells i) ∷ ks) (each_kind is h.1)

  ok_is : {x y : Input} → ◌≡◌ {A = Result Input RunFault} (Ok x) (Ok y) → x ≡ y
  ok_is e = cc

  node_kind : (id : ℕ) (xs : List Input) (x : Input) → id < length frame.inputs.items → (b : Bool) → test id ≡ b → (part_graph part).is_free id ≡ false
      → kinds_of xs ≡ map (λ j. kind_of (value_in part j)) (inputs_in part.frame id) → (part_graph part).op id xs ≡ Ok x → kind_of x ≡ kind_of (value_in part id)
  node_kind id xs x lt true t bound ks is =
      kept.framed.kinded.values id xs x lt (sym (free_is id t) ∙ bound) (ks ∙ kinds_same id lt t) (sym (op_is id xs t) ∙ is) ∙ ap kind_of (sym (value_is id t))
  node_kind id xs x lt false t bound ks is =
      ap kind_of (sym (ok_is (sym (op_other id xs (bound_past id t bound) lt t) ∙ is))) ∙ ap kind_of (sym (no_value id t))

  users_are : (id : ℕ) → All (λ u. u.0.0 < length part.frame.layers.items) (uses_in part.frame id)
  users_are id =
      subst (λ k. All (λ u. u.0.0 < k) (uses_in part.frame id)) (sym layers_count)
      (All-same (λ u. u.0.0 < length frame.layers.items) (uses_in part.frame id) (chosen test (uses_in frame id)) (uses_at id) (all_chosen (λ u. u.0.0 < length frame.layers.items) test (uses_in frame id) (kept.framed.users id)))

  no_cones : AreCones part.frame
  unfolding part part_of part_frame
  no_cones = λ k d lt. absurd (omega (arith, lt))

  framed : IsFrame part.rules part.frame (λ j. kind_of (value_in part j))
  framed = record {
    shape = shaped;
    small = let a = kept.framed.small in let b = count_is in omega (arith, a, b);
    layers = layers_count ∙ kept.framed.layers ∙ sym count_is;
    uses = uses_count ∙ kept.framed.uses ∙ sym count_is;
    first = let a = kept.framed.first in let b = count_is in let c = rules_count in let d = first_is in omega (arith, a, b, c, d);
    users = users_are;
    defined = λ id cell some. defined_is id (sym (ap (nat_lt id) first_is) ∙ cell) (test id) refl some;
    kinded = record {
      free = λ id lt free. free_kind id (let b = count_is in omega (arith, lt, b)) (test id) refl free;
      values = λ id xs x lt bound ks is. node_kind id xs x (let b = count_is in omega (arith, lt, b)) (test id) refl bound ks is;
    };
    cones = no_cones;
  }

  -- ---- and each has its value
  all_values : (id : ℕ) → id < length frame.inputs.items → test id ≡ true → values_of (map (λ j. Value (value_in part j)) (inputs_in part.frame id)) ≡ values_of (map (λ j. Value (cell_of cells j)) (inputs_in frame id))
  all_values id lt t =
      ap (λ is. values_of (map (λ j. Value (value_in part j)) is)) (inputs_of id t)
      ∙ values_all (value_in part) (inputs_in frame id) ∙ ap (λ xs. Some xs) (values_are id lt t) ∙ sym (values_all (cell_of cells) (inputs_in frame id))

  fresh_is : (id : ℕ) → id < length frame.inputs.items → (b : Bool) → test id ≡ b → (part_graph part).is_free id ≡ false → Value (value_in part id) ≡ computed (part_graph part) (λ j. Value (value_in part j)) id
  fresh_is id lt true t bound =
      ap (λ x. Value x) (value_is id t) ∙ kept.fresh.nodes id lt (sym (free_is id t) ∙ bound)
      ∙ ap (come_to ((graph_of rules frame).op id)) (sym (all_values id lt t))
      ∙ same_op (values_of (map (λ j. Value (value_in part j)) (inputs_in part.frame id)))
    where
      same_op : (xs : Option (List Input)) → come_to ((graph_of rules frame).op id) xs ≡ come_to ((part_graph part).op id) xs
      same_op None = refl
      same_op (Some xs) = ap outcome_of (sym (op_is id xs t))
  fresh_is id lt false t bound =
      ap (λ x. Value x) (no_value id t)
      ∙ sym (ap (λ is. come_to ((part_graph part).op id) (values_of (map (λ j. Value (value_in part j)) is))) (no_inputs id t) ∙ ap outcome_of (op_other id [] (bound_past id t bound) lt t))

  holds_is : (id : ℕ) → id < length frame.inputs.items → (b : Bool) → test id ≡ b → (part_graph part).is_free id ≡ false
      → values_of (map (λ i. Value (value_in part i)) (inputs_in part.frame id)) ≡ Some (held_of part.helds part.cells part.frame id)
  holds_is id lt true t bound =
      all_values id lt t ∙ kept.holds id lt (sym (free_is id t) ∙ bound)
      ∙ ap (λ xs. Some xs) (by (nat_lt id frame.first) (λ e. held_is id (not_below id frame.first e) t) ∙ ap (λ f. cond (nat_lt id f) (value_in part id ∷ []) (slice_index_or part.helds (id - f) [])) (sym first_is))
    where
      by : (b : Bool) → (b ≡ false → slice_index_or part.helds (id - frame.first) [] ≡ slice_index_or helds (id - frame.first) [])
          → cond b (cell_of cells id ∷ []) (slice_index_or helds (id - frame.first) []) ≡ cond b (value_in part id ∷ []) (slice_index_or part.helds (id - frame.first) [])
      by true same = ap (λ x. x ∷ []) (sym (value_is id t))
      by false same = sym (same refl)
  holds_is id lt false t bound =
      let past = bound_past id t bound in
      ap (λ is. values_of (map (λ i. Value (value_in part i)) is)) (no_inputs id t)
      ∙ ap (λ xs. Some xs) (sym (ap (λ f. cond (nat_lt id f) (value_in part id ∷ []) (slice_index_or part.helds (id - f) [])) first_is
      ∙ ap (λ b. cond b (value_in part id ∷ []) (slice_index_or part.helds (id - frame.first) [])) (past_is id frame.first past) ∙ no_held id past t))
    where
      past_is : (a b : ℕ) → b ≤ a → nat_lt a b ≡ false
      past_is a b le = grind (arith, nat_tests, le)

  part_kept : IsKept part.rules part.helds part.frame part.cells
  part_kept = record {
    framed = framed;
    many_cells = cells_count ∙ kept.many_cells ∙ sym count_is;
    many_helds = helds_count ∙ kept.many_helds ∙ sym rules_count;
    fresh = record {
      cells = λ id lt free. refl;
      nodes = λ id lt bound. fresh_is id (let b = count_is in omega (arith, lt, b)) (test id) refl bound;
    };
    holds = λ id lt bound. holds_is id (let b = count_is in omega (arith, lt, b)) (test id) refl bound;
  }

  pub is_part : IsPart rules frame cells test (part_of test rules helds frame cells)
  unfolding part
  is_part = record {
    kept = part_kept;
    first = first_is;
    count = count_is;
    inside = λ id lt t. record { inputs = inputs_of id t; layer = layer_is id t; rule = λ past. rule_at id past t; value = value_is id t; values = values_are id lt t };
    outside = λ id t. (no_inputs id t, no_value id t);
    uses = uses_at;
  }
