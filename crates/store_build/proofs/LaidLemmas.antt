-- A frame is laid out, and what is aimed at.
use Rattle.std.proofs.Common.{◌≡◌, ℕ, ℤ, zero, suc, ◌<◌, Bool, true, false, nat_lt, ◌&&◌, List, [], ◌∷◌, length, get_or, refl, sym, ap, ◌∙◌, subst, inl, inr, arith, All, Vec, Result, Ok, Err, IfOk}
use Rattle.std.specs.declared.alloc.Global.{Global}
use Rattle.std.proofs.lemmas.Bool.{cases_lt}
use Rattle.cbl_base.specs.NodeLaw.{Rule}
use Rattle.cbl_base.specs.declared.ids.NodeId.{NodeId}
use Rattle.store_turns.specs.declared.frame.Frame.{Frame}
use Rattle.store_turns.specs.declared.outcome.Outcome.{Outcome}
use Rattle.store_turns.specs.Cones.{AreCones}
use Rattle.store_turns.specs.Meaning.{AreLayers, IsMeaning, Each, ids_of, is_empty, graph_of, layer_of, inputs_in, uses_in, outcome_at}
use Rattle.store_turns.specs.Telling.{positions, places_in}
use Rattle.store_turns.specs.Turns.{IsShape}
use Rattle.store_turns.proofs.Unique.{each_from}
use Rattle.store_build.specs.Lists.{list_in}
use Rattle.store_build.specs.Aims.{IsAim, IsLaid, AreLinked, Takes, start_of, layer_at}
use Rattle.store_build.proofs.GroupLemmas.{in_past}
use Rattle.store_build.proofs.Existence.{exists}

-- ---- results
pub if_ok : {A E : Type 0} {P Q : A → Type 0} (r : Result A E) → IfOk r P → ((x : A) → P x → Q x) → IfOk r Q
if_ok (Ok x) h f = f x h
if_ok (Err e) h f = tt

pub if_ok_all : {A E : Type 0} {P R S Q : A → Type 0} (r : Result A E) → IfOk r P → IfOk r R → IfOk r S → ((x : A) → P x → R x → S x → Q x) → IfOk r Q
if_ok_all (Ok x) h k l f = f x h k l
if_ok_all (Err e) h k l f = tt

all_of_each : (P : ℕ → Type 0) (xs : List NodeId) → Each P (ids_of xs) → (k : ℕ) (d : NodeId) → k < length xs → P (get_or xs k d).0
all_of_each P [] h k d lt = absurd (omega arith)
all_of_each P (x ∷ xs) h zero d lt = h.0
all_of_each P (x ∷ xs) h (suc k) d lt = all_of_each P xs h.1 k d (omega arith)

-- each id that is in a list is there
pub linked_within : (rules : List Rule) (first : ℕ) (inputs : List (Vec NodeId Global)) (layers : List ℕ) → AreLinked rules first inputs layers → (id : ℕ) → All (λ i. i.0 < length inputs) (list_in inputs id)
linked_within rules first inputs layers ok id = elim (cases_lt id (length inputs)) [
  | inl lt ↦ all_of_each (λ i. i < length inputs) (list_in inputs id) (each_from (λ i. (i < length inputs) × (layer_at layers i < layer_at layers id)) (λ i. i < length inputs) (ids_of (list_in inputs id)) (λ i h. h.0) (ok.rising id lt))
  | inr ge ↦ subst (λ (is : List NodeId). All (λ i. i.0 < length inputs) is) (sym (in_past inputs id (omega (arith, ge)))) (λ k d lt. absurd (omega (arith, lt)))
]

pub nothing_in : (is : List ℕ) (b : Bool) → b && is_empty is ≡ true → is ≡ []
nothing_in [] b e = refl
nothing_in (i ∷ is) true e = absurd (cc)
nothing_in (i ∷ is) false e = absurd (cc)

module _ (rules : List Rule) (frame : Frame) (layers : List ℕ) (linked : AreLinked rules frame.first frame.inputs.items layers) (same : frame.layers.items ≡ layers)
    (many : length frame.uses.items ≡ length frame.inputs.items) (users : (i : ℕ) → All (λ u. u.0.0 < length frame.inputs.items) (uses_in frame i))
    (uses : (i j : ℕ) → places_in j (uses_in frame i) ≡ positions i (inputs_in frame j)) (cones : AreCones frame) where
  shaped : IsShape (graph_of rules frame) (layer_of frame) (uses_in frame)
  shaped = record {
    few = omega (arith, linked.few);
    layers = subst (λ (ls : List ℕ). AreLayers (graph_of rules frame) (λ id. get_or ls id 0)) (sym same) linked.rising;
    lowest = subst (λ (ls : List ℕ). (id : ℕ) → (graph_of rules frame).is_free id ≡ true → get_or ls id 0 ≡ 0) (sym same) linked.lowest;
    outside = λ id le. ap ids_of (in_past frame.inputs.items id le);
    bound = λ id e. nothing_in (inputs_in frame id) (nat_lt id frame.first) e;
    uses_are = λ id j lt. uses id j;
  }

  pub laid : IsLaid rules frame
  laid =
      let planned : length frame.layers.items ≡ length frame.inputs.items = ap length same ∙ linked.planned in
      record {
        shape = shaped;
        small = linked.few;
        layers = planned;
        uses = many;
        first = linked.count;
        users = λ id. subst (λ (n : ℕ). All (λ u. u.0.0 < n) (uses_in frame id)) (sym planned) (users id);
        within = linked_within rules frame.first frame.inputs.items layers linked;
        defined = linked.defined;
        cones = cones;
      }

-- ---- what is aimed at
module _ (rules : List Rule) (frame : Frame) (start : List ℤ) (laid : IsLaid rules frame) (cells : frame.first ≡ length start) where
  pub meaning : IsMeaning (graph_of rules frame) (start_of start) (λ id. outcome_at (graph_of rules frame) (start_of start) (suc (layer_of frame id)) id)
  meaning = exists (graph_of rules frame) (layer_of frame) laid.shape.layers (start_of start)

  pub aimed : ((o : ℕ → Outcome) → IsMeaning (graph_of rules frame) (start_of start) o → Takes rules frame.first frame.inputs.items o)
      → IsAim (record { rules = rules; outcome = λ id. outcome_at (graph_of rules frame) (start_of start) (suc (layer_of frame id)) id }) frame start
  aimed takes = record {
    cells = cells;
    count = laid.first;
    within = laid.within;
    defined = laid.defined;
    free = meaning.cells;
    computed = meaning.nodes;
    takes = takes (λ id. outcome_at (graph_of rules frame) (start_of start) (suc (layer_of frame id)) id) meaning;
  }
