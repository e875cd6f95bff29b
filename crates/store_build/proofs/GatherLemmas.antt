-- What is taken of a layer, item by item.
use Rattle.std.proofs.Common.{◌≡◌, ◌⊎◌, ℕ, ℤ, pos, ◌-◌, ◌<◌, ◌≤◌, true, false, cond, nat_lt, ◌&&◌, List, [], ◌∷◌, ◌++◌, length, map, set, get_or, slice_get, Option, Some, None, IsSome, refl, sym, ap, ◌∙◌, subst, inl, inr, arith}
use Rattle.std.specs.List.{Contains}
use Rattle.std.proofs.lemmas.Bool.{cases_eq}
use Rattle.std.proofs.lemmas.Bool.Decides.{nat_tests}
use Rattle.std.proofs.lemmas.List.{get_or-set_same, get_or-set_other, length-set, map-append}
use Rattle.std.proofs.lemmas.List.Elements.{Contains-push, Contains-push_cases, Contains-append_left}
use Rattle.cbl_base.specs.NodeLaw.{Rule}
use Rattle.cbl_base.specs.declared.input.Input.{Input}
use Rattle.store_turns.specs.declared.frame.Frame.{Frame}
use Rattle.store_turns.specs.declared.outcome.Outcome.{Outcome}
use Rattle.store_turns.specs.declared.outcome.Outcome.TheVariants.{Missing}
use Rattle.store_turns.specs.Meaning.{Each, graph_of, inputs_in, values_of, come_to, the_one, is_empty, rule_value}
use Rattle.store_turns.proofs.Unique.{same_map_each, each_from}
use Rattle.store_build.specs.declared.groups.Item.{Item}
use Rattle.store_build.specs.declared.jobs.Jobs.{Jobs}
use Rattle.store_build.specs.Groups.{IsNode, ids_in}
use Rattle.store_build.specs.Aims.{Aim, IsAim, IsComputed}
use Rattle.store_build.specs.Building.{or_missing, outcome_in, values_in, cell_outcome, HasCome, IsTask, AreTasks, IsSettled, job_rules, job_values, NodeTaken, ItemTaken}

pub past_first : (id first : ℕ) → first ≤ id → nat_lt id first ≡ false
past_first id first le = grind (arith, nat_tests)

pub before_first : (id first : ℕ) → id < first → nat_lt id first ≡ true
before_first id first lt = grind (arith, nat_tests)

-- ---- an outcome is written
pub come_here : (o : ℕ → Outcome) (os : List (Option Outcome)) (id : ℕ) (p : Outcome) → id < length os → p ≡ o id → HasCome o (set os id (Some p)) id
come_here o os id p lt e = get_or-set_same os id (Some p) None lt ∙ ap (λ (q : Outcome). Some q) e

pub come_kept : (o : ℕ → Outcome) (os : List (Option Outcome)) (id : ℕ) (p : Outcome) → id < length os → p ≡ o id → (k : ℕ) → HasCome o os k → HasCome o (set os id (Some p)) k
come_kept o os id p lt e k h = elim (cases_eq k id) [
  | inl is ↦ subst (λ (j : ℕ). HasCome o (set os id (Some p)) j) (sym is) (come_here o os id p lt e)
  | inr ne ↦ get_or-set_other os id k (Some p) None ne ∙ h
]

-- ---- tasks
pub no_tasks : (aim : Aim) (frame : Frame) (ids : List ℕ) (rs : List Rule) (vs : List (List Input)) → ids ≡ [] → rs ≡ [] → vs ≡ [] → AreTasks aim frame ids rs vs
no_tasks aim frame ids rs vs a b d = subst (λ (is : List ℕ). AreTasks aim frame is rs vs) (sym a) (b, d)

pub tasks-push : (aim : Aim) (frame : Frame) (ids : List ℕ) (rs : List Rule) (vs : List (List Input)) (id : ℕ) (r : Rule) (v : List Input) → AreTasks aim frame ids rs vs → IsTask aim frame id r v → AreTasks aim frame (ids ++ id ∷ []) (rs ++ r ∷ []) (vs ++ v ∷ [])
tasks-push aim frame [] rs vs id r v h t =
    subst (λ (ys : List (List Input)). AreTasks aim frame (id ∷ []) (rs ++ r ∷ []) (ys ++ v ∷ [])) (sym h.1)
    (subst (λ (ys : List Rule). AreTasks aim frame (id ∷ []) (ys ++ r ∷ []) (v ∷ [])) (sym h.0) (t, (refl, refl)))
tasks-push aim frame (i ∷ ids) [] vs id r v h t = absurd h
tasks-push aim frame (i ∷ ids) (s ∷ rs) [] id r v h t = absurd h
tasks-push aim frame (i ∷ ids) (s ∷ rs) (w ∷ vs) id r v h t = (h.0, tasks-push aim frame ids rs vs id r v h.1 t)

-- what isn't a node is a cell
pub node_or_cell : {N : Type 0} (rule : N → Rule) (rules : List Rule) (first n id : ℕ) (node : Option N) → IsNode rule rules first id node → first ≡ n → IsSome node ⊎ (id < n)
node_or_cell rule rules first n id None h e = inr (omega (arith, h, e))
node_or_cell rule rules first n id (Some node) h e = inl refl

-- ---- what an id is to come to
module _ (aim : Aim) (frame : Frame) where
  -- an id behind the cells
  pub node_comes : IsComputed aim frame → (id : ℕ) → frame.first ≤ id → id < length frame.inputs.items → (v : Option (List Input)) → values_of (map aim.outcome (inputs_in frame id)) ≡ v → aim.outcome id ≡ come_to (rule_value (slice_get aim.rules (id - frame.first))) v
  node_comes comes id le lt v is =
      let past = past_first id frame.first le in
      comes id lt (ap (λ b. b && is_empty (inputs_in frame id)) past) ∙ ap (λ (w : Option (List Input)). come_to ((graph_of aim.rules frame).op id) w) is
      ∙ ap (λ b. come_to (λ (xs : List Input). cond b (the_one xs) (rule_value (slice_get aim.rules (id - frame.first)) xs)) v) past

  module _ (start : List ℤ) (ok : IsAim aim frame start) where
    pub come_values : (os : List (Option Outcome)) (is : List ℕ) → Each (HasCome aim.outcome os) is → values_in os is ≡ values_of (map aim.outcome is)
    come_values os is each = ap values_of (same_map_each (outcome_in os) aim.outcome is (each_from (HasCome aim.outcome os) (λ i. outcome_in os i ≡ aim.outcome i) is (λ i h. ap or_missing h) each))

    -- a cell
    by_list : (id : ℕ) → id < frame.first → id < length frame.inputs.items → (is : List ℕ) → inputs_in frame id ≡ is → cell_outcome (get_or start id (pos 0)) is (values_of (map aim.outcome (inputs_in frame id))) ≡ aim.outcome id
    by_list id low lt [] e =
        let below = before_first id frame.first low in
        sym (ok.free id lt (ap (λ b. b && is_empty (inputs_in frame id)) below ∙ ap is_empty e))
    by_list id low lt (i ∷ is) e =
        let below = before_first id frame.first low in
        sym (ok.computed id lt (ap (λ b. b && is_empty (inputs_in frame id)) below ∙ ap is_empty e)
        ∙ ap (λ b. come_to (λ (xs : List Input). cond b (the_one xs) (rule_value (slice_get aim.rules (id - frame.first)) xs)) (values_of (map aim.outcome (inputs_in frame id)))) below)

    pub cell_comes : (os : List (Option Outcome)) (id : ℕ) → id < frame.first → id < length frame.inputs.items → Each (HasCome aim.outcome os) (inputs_in frame id)
        → cell_outcome (get_or start id (pos 0)) (inputs_in frame id) (values_in os (inputs_in frame id)) ≡ aim.outcome id
    cell_comes os id low lt each = ap (cell_outcome (get_or start id (pos 0)) (inputs_in frame id)) (come_values os (inputs_in frame id) each) ∙ by_list id low lt (inputs_in frame id) refl

    -- ---- an item is taken
    module _ {N : Type 0} (rule : N → Rule) where
      pub record Stepped (os new : List (Option Outcome)) (jobs after : Jobs N) (id : ℕ) : Type 0 where
        pub places : length new ≡ length os
        pub kept : (k : ℕ) → HasCome aim.outcome os k → HasCome aim.outcome new k
        pub tasks : AreTasks aim frame after.ids.items (job_rules rule after) (job_values after)
        pub here : IsSettled aim frame new id ⊎ Contains after.ids.items id
        pub more : (k : ℕ) → Contains jobs.ids.items k → Contains after.ids.items k

      module _ (os new : List (Option Outcome)) (jobs after : Jobs N) (id : ℕ) (many : length os ≡ length frame.inputs.items) (lt : id < length frame.inputs.items) (each : Each (HasCome aim.outcome os) (inputs_in frame id))
          (tasks : AreTasks aim frame jobs.ids.items (job_rules rule jobs) (job_values jobs)) where
        -- it has come to its outcome
        came : (p : Outcome) → new ≡ set os id (Some p) → after ≡ jobs → p ≡ aim.outcome id → (frame.first ≤ id → values_of (map aim.outcome (inputs_in frame id)) ≡ None) → Stepped os new jobs after id
        came p written same is none =
            let within : id < length os = omega (arith, lt, many) in
            record {
              places = ap length written ∙ length-set os id (Some p);
              kept = λ k h. subst (λ (qs : List (Option Outcome)). HasCome aim.outcome qs k) (sym written) (come_kept aim.outcome os id p within is k h);
              tasks = subst (λ (js : Jobs N). AreTasks aim frame js.ids.items (job_rules rule js) (job_values js)) (sym same) tasks;
              here = inl (subst (λ (qs : List (Option Outcome)). HasCome aim.outcome qs id) (sym written) (come_here aim.outcome os id p within is), none);
              more = λ k h. subst (λ (js : Jobs N). Contains js.ids.items k) (sym same) h;
            }

        -- it is to be reset
        node_taken : (node : N) → frame.first ≤ id → slice_get aim.rules (id - frame.first) ≡ Some (rule node) → IsComputed aim frame → (v : Option (List Input)) → values_in os (inputs_in frame id) ≡ v → NodeTaken rule v id node os new jobs after → Stepped os new jobs after id
        node_taken node le ruled comes None is t =
            let none : values_of (map aim.outcome (inputs_in frame id)) ≡ None = sym (come_values os (inputs_in frame id) each) ∙ is in
            came Missing t.0 t.1 (sym (node_comes comes id le lt None none)) (λ _. none)
        node_taken node le ruled comes (Some xs) is t =
            record {
              places = ap length t.0;
              kept = λ k h. subst (λ (qs : List (Option Outcome)). HasCome aim.outcome qs k) (sym t.0) h;
              tasks = subst (λ (is : List ℕ). AreTasks aim frame is (job_rules rule after) (job_values after)) (sym t.1)
                  (subst (λ (rs : List Rule). AreTasks aim frame (jobs.ids.items ++ id ∷ []) rs (job_values after)) (sym t.2)
                  (subst (λ (vs : List (List Input)). AreTasks aim frame (jobs.ids.items ++ id ∷ []) (job_rules rule jobs ++ rule node ∷ []) vs) (sym t.3)
                  (tasks-push aim frame jobs.ids.items (job_rules rule jobs) (job_values jobs) id (rule node) xs tasks
                  (record { behind = le; within = lt; ruled = ruled; valued = sym (come_values os (inputs_in frame id) each) ∙ is }))));
              here = inr (subst (λ (is : List ℕ). Contains is id) (sym t.1) (Contains-push jobs.ids.items id));
              more = λ k h. subst (λ (is : List ℕ). Contains is k) (sym t.1) (Contains-append_left jobs.ids.items (id ∷ []) k h);
            }

        pub item_taken : (node : Option N) → IsNode rule aim.rules frame.first id node → ItemTaken rule (inputs_in frame id) (get_or start id (pos 0)) id node os new jobs after → Stepped os new jobs after id
        item_taken None low t = came (cell_outcome (get_or start id (pos 0)) (inputs_in frame id) (values_in os (inputs_in frame id))) t.0 t.1 (cell_comes os id low lt each) (λ le. absurd (omega (arith, low, le)))
        item_taken (Some node) h t = node_taken node h.0 h.1 ok.computed (values_in os (inputs_in frame id)) refl t

      -- ---- and so is each of a list
      pub settled_kept : (os new : List (Option Outcome)) → ((k : ℕ) → HasCome aim.outcome os k → HasCome aim.outcome new k) → (k : ℕ) → IsSettled aim frame os k → IsSettled aim frame new k
      settled_kept os new kept k h = (kept k h.0, h.1)

      pub all_more : (os new : List (Option Outcome)) (jobs after : Jobs N) (items : List (Item N)) (item : Item N) → Stepped os new jobs after item.id
          → ((k : ℕ) → Contains (ids_in items) k → IsSettled aim frame os k ⊎ Contains jobs.ids.items k)
          → (k : ℕ) → Contains (ids_in (items ++ item ∷ [])) k → IsSettled aim frame new k ⊎ Contains after.ids.items k
      all_more os new jobs after items item s h k c = elim (Contains-push_cases (ids_in items) item.id k (subst (λ (is : List ℕ). Contains is k) (map-append (λ (i : Item N). i.id) items (item ∷ [])) c)) [
        | inl earlier ↦ elim (h k earlier) [ inl a ↦ inl (settled_kept os new s.kept k a) | inr b ↦ inr (s.more k b) ]
        | inr e ↦ subst (λ (j : ℕ). IsSettled aim frame new j ⊎ Contains after.ids.items j) e s.here
      ]

-- said of all that was given
pub all_given : (aim : Aim) (frame : Frame) {N : Type 0} (rule : N → Rule) (os : List (Option Outcome)) (jobs : Jobs N) (yielded items : List (Item N)) → map (λ (i : Item N). i) yielded ≡ items
    → ((k : ℕ) → Contains (ids_in yielded) k → IsSettled aim frame os k ⊎ Contains jobs.ids.items k) → (k : ℕ) → Contains (ids_in items) k → IsSettled aim frame os k ⊎ Contains jobs.ids.items k
all_given aim frame {N} rule os jobs yielded items e h k c = h k (subst (λ (is : List (Item N)). Contains (ids_in is) k) (sym (sym (map_itself yielded) ∙ e)) c)
  where
    map_itself : {A : Type 0} (xs : List A) → map (λ (x : A). x) xs ≡ xs
    map_itself [] = refl
    map_itself (x ∷ xs) = ap (λ ys. x ∷ ys) (map_itself xs)
