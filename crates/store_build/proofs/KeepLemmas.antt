-- Nodes that were reset come to their outcomes, and take their places.
use Rattle.std.proofs.Common.{◌≡◌, ◌≢◌, ℕ, zero, suc, ◌+◌, ◌-◌, ◌<◌, ◌≤◌, List, [], ◌∷◌, length, map, set, take, get_or, slice_get, Option, Some, None, refl, sym, ap, ◌∙◌, subst, inl, inr, arith, Vec, IsTrue, Result, Ok, Err, OnOk}
use Rattle.std.specs.List.{Contains}
use Rattle.std.specs.declared.alloc.Global.{Global}
use Rattle.std.proofs.lemmas.Bool.{cases_eq}
use Rattle.std.proofs.lemmas.List.{length-set, take_more}
use Rattle.std.proofs.lemmas.List.Elements.{Contains-push_cases}
use Rattle.cbl_base.specs.Inputs.{kinds_of}
use Rattle.cbl_base.specs.NodeLaw.{Rule}
use Rattle.cbl_base.specs.declared.input.Input.{Input}
use Rattle.cbl_base.proofs.PlaceLemmas.{others_stay}
use Rattle.store_turns.specs.declared.frame.Frame.{Frame}
use Rattle.store_turns.specs.declared.outcome.Outcome.{Outcome}
use Rattle.store_turns.specs.Meaning.{outcome_of, rule_value}
use Rattle.store_build.specs.declared.building.Building.{Building}
use Rattle.store_build.specs.Aims.{Aim, IsComputed, Takes}
use Rattle.store_build.specs.Building.{HasCome, IsTask, AreTasks, IsSettled, HasNode, IsFinished, HasPlaces}
use Rattle.store_build.proofs.GatherLemmas.{come_here, come_kept, node_comes}

-- ---- results
pub on_ok : {A E : Type 0} {P Q : Type 0} (r : Result A E) → OnOk r P → (P → Q) → OnOk r Q
on_ok (Ok x) h f = f h
on_ok (Err e) h f = tt

pub on_ok_both : {A E : Type 0} {P R Q : Type 0} (r : Result A E) → OnOk r P → OnOk r R → (P → R → Q) → OnOk r Q
on_ok_both (Ok x) h k f = f h k
on_ok_both (Err e) h k f = tt

pub set_there : {A : Type 0} (xs : List A) (i : ℕ) (x : A) → i < length xs → slice_get (set xs i x) i ≡ Some x
set_there [] i x lt = absurd (omega arith)
set_there (y ∷ ys) zero x lt = refl
set_there (y ∷ ys) (suc i) x lt = set_there ys i x (omega arith)

pub tasks_count : (aim : Aim) (frame : Frame) (ids : List ℕ) (rs : List Rule) (vs : List (List Input)) → AreTasks aim frame ids rs vs → length ids ≡ length rs
tasks_count aim frame [] rs vs h = sym (ap length h.0)
tasks_count aim frame (i ∷ ids) [] vs h = absurd h
tasks_count aim frame (i ∷ ids) (r ∷ rs) [] h = absurd h
tasks_count aim frame (i ∷ ids) (r ∷ rs) (v ∷ vs) h = ap suc (tasks_count aim frame ids rs vs h.1)

module _ {N : Type 0} (rule : N → Rule) (held : N → List Input) (ready : N → Type 0) (aim : Aim) (frame : Frame) where
  -- the task of the node at a place
  pub task_of : (ids : List ℕ) (nodes : List N) (k : ℕ) (node : N) → AreTasks aim frame ids (map rule nodes) (map held nodes) → k < length nodes → get_or nodes k node ≡ node → IsTask aim frame (get_or ids k 0) (rule node) (held node)
  task_of [] [] k node h lt at = absurd (omega arith)
  task_of [] (n ∷ nodes) k node h lt at = absurd (none (map rule nodes) (rule n) h.0)
    where
      none : (rs : List Rule) (r : Rule) → r ∷ rs ≡ [] → ⊥
      none rs r e = cc
  task_of (i ∷ ids) [] k node h lt at = absurd (omega arith)
  task_of (i ∷ ids) (n ∷ nodes) zero node h lt at = subst (λ (m : N). IsTask aim frame i (rule m) (held m)) at h.0
  task_of (i ∷ ids) (n ∷ nodes) (suc k) node h lt at = task_of ids nodes k node h.1 (omega arith) at

  module _ (comes : IsComputed aim frame) (count : frame.first + length aim.rules ≡ length frame.inputs.items) (old new : Building N) (id : ℕ) (node : N) (p : Outcome)
      (places : HasPlaces aim frame old) (task : IsTask aim frame id (rule node) (held node)) (is_ready : ready node) (gives : p ≡ outcome_of ((rule node).value (held node)))
      (outcomes : new.outcomes.items ≡ set old.outcomes.items id (Some p)) (nodes : new.nodes.items ≡ set old.nodes.items (id - frame.first) (Some node)) where
    value : p ≡ aim.outcome id
    value = gives ∙ ap (λ (r : Option Rule). outcome_of (rule_value r (held node))) (sym task.ruled) ∙ sym (node_comes aim frame comes id task.behind task.within (Some (held node)) task.valued)

    within : id < length old.outcomes.items
    within = omega (arith, task.within, places.outcomes)

    place : id - frame.first < length old.nodes.items
    place = omega (arith, task.within, task.behind, places.nodes, count)

    pub kept_places : HasPlaces aim frame new
    kept_places = record {
      outcomes = ap length outcomes ∙ length-set old.outcomes.items id (Some p) ∙ places.outcomes;
      nodes = ap length nodes ∙ length-set old.nodes.items (id - frame.first) (Some node) ∙ places.nodes;
    }

    some_is : {xs ys : List Input} → Some xs ≡ Some ys → xs ≡ ys
    some_is e = cc

    node_here : HasNode rule held ready aim frame new.nodes.items id
    node_here = λ xs e. (node, subst (λ (ns : List (Option N)). slice_get ns (id - frame.first) ≡ Some (Some node)) (sym nodes) (set_there old.nodes.items (id - frame.first) (Some node) place), task.ruled, is_ready, some_is (sym task.valued ∙ e))

    pub kept_here : IsFinished rule held ready aim frame new id
    kept_here = (subst (λ (qs : List (Option Outcome)). HasCome aim.outcome qs id) (sym outcomes) (come_here aim.outcome old.outcomes.items id p within value), λ _. node_here)

    pub kept_others : (k : ℕ) → IsFinished rule held ready aim frame old k → IsFinished rule held ready aim frame new k
    kept_others k h = elim (cases_eq k id) [
      | inl e ↦ subst (λ (j : ℕ). IsFinished rule held ready aim frame new j) (sym e) kept_here
      | inr ne ↦ (
        subst (λ (qs : List (Option Outcome)). HasCome aim.outcome qs k) (sym outcomes) (come_kept aim.outcome old.outcomes.items id p within value k h.0),
        λ le xs e. let n = h.1 le xs e in
            (n.0, subst (λ (ns : List (Option N)). slice_get ns (k - frame.first) ≡ Some (Some n.0)) (sym nodes) (others_stay old.nodes.items (id - frame.first) (k - frame.first) (Some node) (apart k ne le) ∙ n.1), n.2, n.3, n.4),
      )
    ]
      where
        apart : (k : ℕ) → k ≢ id → frame.first ≤ k → k - frame.first ≢ id - frame.first
        apart k ne le e = ne (omega (arith, le, e, task.behind))

  -- those of a list, one more
  pub kept_more : (old new : Building N) (ids : List ℕ) (k : ℕ) → k < length ids → ((j : ℕ) → IsFinished rule held ready aim frame old j → IsFinished rule held ready aim frame new j) → IsFinished rule held ready aim frame new (get_or ids k 0)
      → ((j : ℕ) → Contains (take k ids) j → IsFinished rule held ready aim frame old j) → (j : ℕ) → Contains (take (k + 1) ids) j → IsFinished rule held ready aim frame new j
  kept_more old new ids k lt kept here h j c = elim (Contains-push_cases (take k ids) (get_or ids k 0) j (subst (λ (is : List ℕ). Contains is j) (take_more ids k 0 lt) c)) [
    | inl a ↦ kept j (h j a)
    | inr e ↦ subst (λ (i : ℕ). IsFinished rule held ready aim frame new i) e here
  ]

  -- what comes to no value needs no node
  pub settled_finished : (b : Building N) (k : ℕ) → IsSettled aim frame b.outcomes.items k → IsFinished rule held ready aim frame b k
  settled_finished b k h = (h.0, λ le xs e. absurd (none_some xs (sym (h.1 le) ∙ e)))
    where
      none_some : (xs : List Input) → None ≡ Some xs → ⊥
      none_some xs e = cc

  -- each node takes what it is to be reset to
  pub takes_all : Takes aim.rules frame.first frame.inputs.items aim.outcome → (ids : List ℕ) (jobs : List (N × Vec Input Global)) → AreTasks aim frame ids (map (λ (j : N × Vec Input Global). rule j.0) jobs) (map (λ (j : N × Vec Input Global). j.1.items) jobs) → (k : ℕ) (d : N × Vec Input Global) → k < length jobs → IsTrue ((rule (get_or jobs k d).0).takes (kinds_of (get_or jobs k d).1.items))
  takes_all takes [] [] h k d lt = absurd (omega arith)
  takes_all takes [] (j ∷ jobs) h k d lt = absurd (none (map (λ (j : N × Vec Input Global). rule j.0) jobs) (rule j.0) h.0)
    where
      none : (rs : List Rule) (r : Rule) → r ∷ rs ≡ [] → ⊥
      none rs r e = cc
  takes_all takes (i ∷ ids) [] h k d lt = absurd (omega arith)
  takes_all takes (i ∷ ids) (j ∷ jobs) h zero d lt = takes i (rule j.0) j.1.items h.0.behind h.0.ruled h.0.valued
  takes_all takes (i ∷ ids) (j ∷ jobs) h (suc k) d lt = takes_all takes ids jobs h.1 k d (omega arith)
