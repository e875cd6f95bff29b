-- What was built is kept, or there is a first fault.
use Rattle.std.proofs.Common.{◌≡◌, ℕ, ℤ, zero, suc, ◌+◌, ◌-◌, ◌<◌, ◌≤◌, Bool, true, false, cond, ◌&&◌, List, [], ◌∷◌, length, map, get_or, slice_get, Option, Some, Result, Ok, Err, refl, sym, ap, ◌∙◌, subst, inl, inr, arith, All, IsTrue}
use Rattle.std.specs.Option.{option_map}
use Rattle.std.proofs.lemmas.Bool.{cases_lt}
use Rattle.std.proofs.lemmas.Option.{slice_get-map, get_or_from_slice_get}
use Rattle.std.proofs.lemmas.List.{length-map}
use Rattle.cbl_base.specs.Inputs.{InputKind, kind_of, kinds_of}
use Rattle.cbl_base.specs.NodeLaw.{Rule, GivesOneKind}
use Rattle.cbl_base.specs.declared.input.Input.{Input}
use Rattle.cbl_base.specs.declared.faults.RunFault.{RunFault}
use Rattle.store_turns.specs.declared.frame.Frame.{Frame}
use Rattle.store_turns.specs.declared.outcome.Outcome.{Outcome}
use Rattle.store_turns.specs.declared.outcome.Outcome.TheVariants.{Value, Fails, Missing}
use Rattle.store_turns.specs.Meaning.{Each, graph_of, inputs_in, layer_of, values_of, come_to, the_one, outcome_of, rule_value, is_empty}
use Rattle.store_turns.proofs.Unique.{same_map_each, each_from}
use Rattle.store_build.specs.declared.building.Building.{Building}
use Rattle.store_build.specs.Frames.{cell_of, held_of, AreKinds}
use Rattle.store_build.specs.Kept.{IsKept}
use Rattle.store_build.specs.Stops.{FailsFirst}
use Rattle.store_build.specs.Aims.{Aim, IsAim, IsLaid, start_of}
use Rattle.store_build.specs.Building.{IsFinished, HasPlaces, IsFirst, NoneFails, values_there, all_there}
use Rattle.store_build.proofs.GatherLemmas.{past_first, before_first, node_comes}
use Rattle.store_build.proofs.WholeLemmas.{some_is, AllValues, AllThere, many_values, value_there, there_rules, there_get, there_ready}

value_is : {x y : Input} → Value x ≡ Value y → x ≡ y
value_is e = cc

missing_never : (r : Result Input RunFault) → outcome_of r ≡ Missing → ⊥
missing_never (Ok x) e = cc
missing_never (Err f) e = cc

outcome_ok : (r : Result Input RunFault) (x : Input) → outcome_of r ≡ Value x → r ≡ Ok x
outcome_ok (Ok y) x e = ap (λ (z : Input). Ok z) (value_is e)
outcome_ok (Err f) x e = absurd (cc)

-- kinds
kinds_map : (f : ℕ → Input) (is : List ℕ) → kinds_of (map f is) ≡ map (λ (j : ℕ). kind_of (f j)) is
kinds_map f [] = refl
kinds_map f (i ∷ is) = ap (λ (ks : List InputKind). kind_of (f i) ∷ ks) (kinds_map f is)

same_ok : (x y : Input) (r : Result Input RunFault) → r ≡ Ok y → r ≡ Ok x → x ≡ y
same_ok x y r f g = cc

front_kind : {a b : InputKind} {ks ls : List InputKind} → a ∷ ks ≡ b ∷ ls → a ≡ b
front_kind g = cc

kind_of_one : (xs : List Input) (x : Input) (k : InputKind) → kinds_of xs ≡ k ∷ [] → the_one xs ≡ Ok x → kind_of x ≡ k
kind_of_one [] x k e f = absurd (cc)
kind_of_one (y ∷ ys) x k e f = ap kind_of (same_ok x y (the_one (y ∷ ys)) refl f) ∙ front_kind e

values_all : (f : ℕ → Input) (is : List ℕ) → values_of (map (λ (i : ℕ). Value (f i)) is) ≡ Some (map f is)
values_all f [] = refl
values_all f (i ∷ is) = rw (values_all f is) refl

module _ {N : Type 0} (rule : N → Rule) (held : N → List Input) (ready : N → Type 0) (one_kind : (n : N) → GivesOneKind (rule n)) (aim : Aim) (frame : Frame) (start : List ℤ)
    (laid : IsLaid aim.rules frame) (ok : IsAim aim frame start) (b : Building N) (places : HasPlaces aim frame b)
    (all : (k : ℕ) → k < length frame.inputs.items → IsFinished rule held ready aim frame b k) where
  -- ---- the first fault
  pub fails : (id : ℕ) (fault : RunFault) → IsFirst b.outcomes.items id fault → FailsFirst (graph_of aim.rules frame) (start_of start) id fault
  fails id fault f =
      let lt : id < length frame.inputs.items = omega (arith, f.within, places.outcomes) in
      record {
        outcome = aim.outcome;
        meaning = record { cells = ok.free; nodes = ok.computed };
        here = (lt, some_is (sym (all id lt).0 ∙ f.here));
        least = λ j other l e. f.least j other ((all j l).0 ∙ ap (λ (q : Outcome). Some q) e);
      }

  -- ---- where none fails, all have values
  module _ (none : NoneFails b.outcomes.items) where
    values_exist : (is : List ℕ) → Each (λ i. (x : Input) × (aim.outcome i ≡ Value x)) is → (xs : List Input) × (values_of (map aim.outcome is) ≡ Some xs)
    values_exist [] h = ([], refl)
    values_exist (i ∷ is) h =
        let rest = values_exist is h.1 in
        (h.0.0 ∷ rest.0, rw (h.0.1, rest.1) refl)

    one_value : (k : ℕ) → k < length frame.inputs.items → ((i : ℕ) → i < length frame.inputs.items → layer_of frame i < layer_of frame k → (x : Input) × (aim.outcome i ≡ Value x)) → (x : Input) × (aim.outcome k ≡ Value x)
    one_value k lt lower = by_outcome (aim.outcome k) refl
      where
        value_missing : {x : Input} → Value x ≡ Missing → ⊥
        value_missing e = cc

        by_free : (f : Bool) → (graph_of aim.rules frame).is_free k ≡ f → aim.outcome k ≡ Missing → ⊥
        by_free true e is = value_missing (sym (ok.free k lt e) ∙ is)
        by_free false e is =
            let there = values_exist (inputs_in frame k) (each_from (λ i. (i < length frame.inputs.items) × (layer_of frame i < layer_of frame k)) (λ i. (x : Input) × (aim.outcome i ≡ Value x)) (inputs_in frame k) (λ i h. lower i h.0 h.1) (laid.shape.layers k lt)) in
            missing_never ((graph_of aim.rules frame).op k there.0) (sym (ap (come_to ((graph_of aim.rules frame).op k)) there.1) ∙ sym (ok.computed k lt e) ∙ is)

        by_outcome : (q : Outcome) → aim.outcome k ≡ q → (x : Input) × (aim.outcome k ≡ Value x)
        by_outcome (Value x) e = (x, e)
        by_outcome (Fails f) e = absurd (none k f ((all k lt).0 ∙ ap (λ (q : Outcome). Some q) e))
        by_outcome Missing e = absurd (by_free ((graph_of aim.rules frame).is_free k) refl e)

    value_below : (d k : ℕ) → k < length frame.inputs.items → layer_of frame k < d → (x : Input) × (aim.outcome k ≡ Value x)
    value_below zero k lt low = absurd (omega (arith, low))
    value_below (suc d) k lt low = one_value k lt (λ i li lower. value_below d i li (omega (arith, lower, low)))

    valued : (k : ℕ) → k < length frame.inputs.items → (x : Input) × (aim.outcome k ≡ Value x)
    valued k lt = value_below (suc (layer_of frame k)) k lt (omega arith)

    inputs_low : (j : ℕ) → j < length frame.inputs.items → Each (λ i. i < length frame.inputs.items) (inputs_in frame j)
    inputs_low j lt = each_from (λ i. (i < length frame.inputs.items) × (layer_of frame i < layer_of frame j)) (λ i. i < length frame.inputs.items) (inputs_in frame j) (λ i h. h.0) (laid.shape.layers j lt)

    all_values : AllValues b.outcomes.items
    all_values k lt =
        let l : k < length frame.inputs.items = omega (arith, lt, places.outcomes) in
        let x = valued k l in
        (x.0, (all k l).0 ∙ ap (λ (q : Outcome). Some q) x.1)

    cell_is : (j : ℕ) → j < length frame.inputs.items → aim.outcome j ≡ Value (cell_of (values_there b.outcomes.items) j)
    cell_is j lt = some_is (sym (all j lt).0 ∙ value_there b.outcomes.items all_values j (omega (arith, lt, places.outcomes)))

    same_values : (j : ℕ) → j < length frame.inputs.items → map aim.outcome (inputs_in frame j) ≡ map (λ (i : ℕ). Value (cell_of (values_there b.outcomes.items) i)) (inputs_in frame j)
    same_values j lt = same_map_each aim.outcome (λ (i : ℕ). Value (cell_of (values_there b.outcomes.items) i)) (inputs_in frame j) (each_from (λ i. i < length frame.inputs.items) (λ i. aim.outcome i ≡ Value (cell_of (values_there b.outcomes.items) i)) (inputs_in frame j) cell_is (inputs_low j lt))

    input_values : (j : ℕ) → j < length frame.inputs.items → values_of (map aim.outcome (inputs_in frame j)) ≡ Some (map (cell_of (values_there b.outcomes.items)) (inputs_in frame j))
    input_values j lt = ap values_of (same_values j lt) ∙ values_all (cell_of (values_there b.outcomes.items)) (inputs_in frame j)

    pub free_is : (j : ℕ) → j < length frame.inputs.items → (graph_of aim.rules frame).is_free j ≡ true → cell_of (values_there b.outcomes.items) j ≡ start_of start j
    free_is j lt e = value_is (sym (cell_is j lt) ∙ ok.free j lt e)

    -- ---- the nodes
    -- the node of an id behind the cells
    node_of : (id : ℕ) → id < length frame.inputs.items → frame.first ≤ id → (n : N) × (slice_get b.nodes.items (id - frame.first) ≡ Some (Some n)) × (slice_get aim.rules (id - frame.first) ≡ Some (rule n)) × ready n × (held n ≡ map (cell_of (values_there b.outcomes.items)) (inputs_in frame id))
    node_of id lt le = (all id lt).1 le (map (cell_of (values_there b.outcomes.items)) (inputs_in frame id)) (input_values id lt)

    all_nodes : AllThere rule ready b.nodes.items aim.rules
    all_nodes k lt =
        let e : frame.first + k - frame.first ≡ k = omega arith in
        let n = node_of (frame.first + k) (omega (arith, lt, laid.first)) (omega arith) in
        (n.0, subst (λ (i : ℕ). slice_get b.nodes.items i ≡ Some (Some n.0)) e n.1, subst (λ (i : ℕ). slice_get aim.rules i ≡ Some (rule n.0)) e n.2, n.3)

    pub built_rules : map rule (all_there b.nodes.items) ≡ aim.rules
    built_rules = there_rules rule ready b.nodes.items aim.rules places.nodes all_nodes

    pub built_ready : All ready (all_there b.nodes.items)
    built_ready = there_ready rule ready b.nodes.items aim.rules places.nodes all_nodes

    held_is : (id : ℕ) → id < length frame.inputs.items → frame.first ≤ id → get_or (map held (all_there b.nodes.items)) (id - frame.first) [] ≡ map (cell_of (values_there b.outcomes.items)) (inputs_in frame id)
    held_is id lt le =
        let n = node_of id lt le in
        get_or_from_slice_get (map held (all_there b.nodes.items)) (id - frame.first) (held n.0) []
        (slice_get-map held (all_there b.nodes.items) (id - frame.first) ∙ ap (option_map held) (there_get rule ready b.nodes.items aim.rules places.nodes all_nodes (id - frame.first) n.0 n.1)) ∙ n.4

    -- ---- a defined variable
    one_of : (id : ℕ) → id < frame.first → (graph_of aim.rules frame).is_free id ≡ false → (i : ℕ) × (inputs_in frame id ≡ i ∷ [])
    one_of id low f =
        let below = before_first id frame.first low in
        ok.defined id below (sym (ap (λ t. t && is_empty (inputs_in frame id)) below) ∙ f)

    same_cell : (id : ℕ) → id < length frame.inputs.items → (low : id < frame.first) → (f : (graph_of aim.rules frame).is_free id ≡ false) → cell_of (values_there b.outcomes.items) id ≡ cell_of (values_there b.outcomes.items) (one_of id low f).0
    same_cell id lt low f =
        let below = before_first id frame.first low in
        let one = one_of id low f in
        value_is (sym (cell_is id lt) ∙ ok.computed id lt f ∙ ap (come_to ((graph_of aim.rules frame).op id)) (input_values id lt ∙ ap (λ (is : List ℕ). Some (map (cell_of (values_there b.outcomes.items)) is)) one.1)
        ∙ ap (λ t. outcome_of (cond t (the_one (cell_of (values_there b.outcomes.items) one.0 ∷ [])) (rule_value (slice_get aim.rules (id - frame.first)) (cell_of (values_there b.outcomes.items) one.0 ∷ [])))) below)

    holds_at : (j : ℕ) → j < length frame.inputs.items → (graph_of aim.rules frame).is_free j ≡ false → map (cell_of (values_there b.outcomes.items)) (inputs_in frame j) ≡ held_of (map held (all_there b.nodes.items)) (values_there b.outcomes.items) frame j
    holds_at j lt f = elim (cases_lt j frame.first) [
      | inl low ↦ (let one = one_of j low f in
          ap (map (cell_of (values_there b.outcomes.items))) one.1 ∙ ap (λ (x : Input). x ∷ []) (sym (same_cell j lt low f))
          ∙ sym (ap (λ t. cond t (cell_of (values_there b.outcomes.items) j ∷ []) (get_or (map held (all_there b.nodes.items)) (j - frame.first) [])) (before_first j frame.first low)))
      | inr high ↦ sym (held_is j lt (omega (arith, high))) ∙ sym (ap (λ t. cond t (cell_of (values_there b.outcomes.items) j ∷ []) (get_or (map held (all_there b.nodes.items)) (j - frame.first) [])) (past_first j frame.first (omega (arith, high))))
    ]

    -- ---- kinds
    node_kind : (id : ℕ) (xs : List Input) (x : Input) → id < length frame.inputs.items → frame.first ≤ id → kinds_of xs ≡ map (λ (j : ℕ). kind_of (cell_of (values_there b.outcomes.items) j)) (inputs_in frame id) → (graph_of aim.rules frame).op id xs ≡ Ok x
        → kind_of x ≡ kind_of (cell_of (values_there b.outcomes.items) id)
    node_kind id xs x lt le kinds e =
        let n = node_of id lt le in
        let takes : IsTrue ((rule n.0).takes (kinds_of (map (cell_of (values_there b.outcomes.items)) (inputs_in frame id)))) = ok.takes id (rule n.0) (map (cell_of (values_there b.outcomes.items)) (inputs_in frame id)) le n.2 (input_values id lt) in
        let gives : (rule n.0).value xs ≡ Ok x = sym (ap (λ t. cond t (the_one xs) (rule_value (slice_get aim.rules (id - frame.first)) xs)) (past_first id frame.first le) ∙ ap (λ (r : Option Rule). rule_value r xs) n.2) ∙ e in
        let gave : (rule n.0).value (map (cell_of (values_there b.outcomes.items)) (inputs_in frame id)) ≡ Ok (cell_of (values_there b.outcomes.items) id) =
        outcome_ok ((rule n.0).value (map (cell_of (values_there b.outcomes.items)) (inputs_in frame id))) (cell_of (values_there b.outcomes.items) id)
        (sym (ap (λ (r : Option Rule). outcome_of (rule_value r (map (cell_of (values_there b.outcomes.items)) (inputs_in frame id)))) n.2) ∙ sym (node_comes aim frame ok.computed id le lt (Some (map (cell_of (values_there b.outcomes.items)) (inputs_in frame id))) (input_values id lt)) ∙ cell_is id lt) in
        sym (one_kind n.0 (map (cell_of (values_there b.outcomes.items)) (inputs_in frame id)) xs (cell_of (values_there b.outcomes.items) id) x takes (kinds ∙ sym (kinds_map (cell_of (values_there b.outcomes.items)) (inputs_in frame id))) gave gives)

    cell_kind : (id : ℕ) (xs : List Input) (x : Input) → id < length frame.inputs.items → id < frame.first → (graph_of aim.rules frame).is_free id ≡ false → kinds_of xs ≡ map (λ (j : ℕ). kind_of (cell_of (values_there b.outcomes.items) j)) (inputs_in frame id) → (graph_of aim.rules frame).op id xs ≡ Ok x
        → kind_of x ≡ kind_of (cell_of (values_there b.outcomes.items) id)
    cell_kind id xs x lt low f kinds e =
        let one = one_of id low f in
        kind_of_one xs x (kind_of (cell_of (values_there b.outcomes.items) one.0)) (kinds ∙ ap (map (λ (j : ℕ). kind_of (cell_of (values_there b.outcomes.items) j))) one.1)
        (sym (ap (λ t. cond t (the_one xs) (rule_value (slice_get aim.rules (id - frame.first)) xs)) (before_first id frame.first low)) ∙ e) ∙ ap kind_of (sym (same_cell id lt low f))

    kinded : AreKinds (graph_of aim.rules frame) (λ (j : ℕ). kind_of (cell_of (values_there b.outcomes.items) j))
    kinded = record {
      free = λ id lt e. ap kind_of (free_is id lt e);
      values = λ id xs x lt f kinds e. elim (cases_lt id frame.first) [ inl low ↦ cell_kind id xs x lt low f kinds e | inr high ↦ node_kind id xs x lt (omega (arith, high)) kinds e ];
    }

    pub built : IsKept aim.rules (map held (all_there b.nodes.items)) frame (values_there b.outcomes.items)
    built = record {
      framed = record {
        shape = laid.shape;
        small = laid.small;
        layers = laid.layers;
        uses = laid.uses;
        first = laid.first;
        users = laid.users;
        defined = laid.defined;
        kinded = kinded;
        cones = laid.cones;
      };
      many_cells = many_values b.outcomes.items all_values ∙ places.outcomes;
      many_helds = length-map (all_there b.nodes.items) held ∙ sym (length-map (all_there b.nodes.items) rule) ∙ ap length built_rules;
      fresh = record {
        cells = λ j lt e. refl;
        nodes = λ j lt f. sym (cell_is j lt) ∙ ok.computed j lt f ∙ ap (λ (qs : List Outcome). come_to ((graph_of aim.rules frame).op j) (values_of qs)) (same_values j lt);
      };
      holds = λ j lt f. values_all (cell_of (values_there b.outcomes.items)) (inputs_in frame j) ∙ ap (λ (xs : List Input). Some xs) (holds_at j lt f);
    }
