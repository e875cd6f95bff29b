-- One term more in a graph: it is there, or its node is put behind the others, or there is no room.
use Rattle.std.proofs.Common.{◌≡◌, ◌⊎◌, inl, inr, ℕ, ℤ, pos, ◌+◌, ◌<◌, ◌≤◌, true, false, List, [], ◌∷◌, ◌++◌, Some, length, length-append, refl, sym, ap, ◌∙◌, subst, arith, slice_get, All, ltb-false}
use Rattle.std.specs.Prelude.{if◌then◌else◌, nat_lt, Result, Ok, Err, IfOk, IfErr, is_ok}
use Rattle.std.specs.List.{list_all, list_any, position_or_len}
use Rattle.std.specs.Ordering.{int_eq}
use Rattle.std.proofs.lemmas.Option.{slice_get_within}
use lib.Pointwise.{pointwise}
use Rattle.cbl_base.specs.declared.ids.NodeId.{NodeId}
use Rattle.cbl_base.specs.declared.limits.TheConstants.{MAX_TERM_NODES}
use Rattle.term_count.specs.Codes.{IsNode, is_known}
use Rattle.term_count.specs.Numbering.{IsNumbered, with_code}
use Rattle.term_count.proofs.Numbered.{Keeps, code_at, kept}
use Rattle.term_graph.specs.Adding.{Fits, Stands}
use Rattle.term_graph.specs.Graphs.{AreNodesOf, IsNodeOf, StopsAt}
use Rattle.term_graph.specs.Heads.{head_by, IsHeadOf, IsPlaceOf}
use Rattle.term_graph.specs.Ids.{id_among, ids_of}
use Rattle.term_graph.specs.declared.head.Head.{Head}
use Rattle.term_graph.specs.declared.head.Head.TheVariants.{Const, ConstSet, Op as Operation}
use Rattle.term_graph.specs.declared.node.Node.{Node}
use Rattle.term_graph.specs.declared.stop.GraphStop.{GraphStop}
use Rattle.term_graph.specs.declared.stop.GraphStop.TheVariants.{TooMany, NoMemory}
use Rattle.term_graph.proofs.IdLaws.{id_placed, ids_front, pos_same}
use Rattle.term_graph.proofs.Lists.{any_within, none_past}
use Rattle.term_model.proofs.NamingLaws.{last_or}
use Rattle.term_model.specs.SameTerms.{same_term}
use Rattle.term_model.specs.Subterms.{arguments_of, with_subterm}
use Rattle.term_model.specs.declared.term.Term.{Term}
use Rattle.term_model.specs.declared.term.Term.TheOpen.{Term-F}
use Rattle.term_model.specs.declared.term.Term.TheViews.{out-Term}

-- ---- a node
node_front : (cells : ℕ) (ts more : List Term) (t : Term) (node : Node) → list_all (is_known ts) (arguments_of (out-Term t)) ≡ true → IsNodeOf cells ts t node → IsNodeOf cells (ts ++ more) t node
node_front cells ts more t node known is = record {
  head = is.head;
  place = is.place;
  inputs = is.inputs ∙ sym (ids_front cells ts more (arguments_of (out-Term t)) known);
}

head_some : (y : Term-F Term) (head : Head) → IsNode y → ((h : Head) → head_by y ≡ Some h → head ≡ h) → head_by y ≡ Some head
head_some (Term-F.Const x) head own is = sym (ap Some (is (Const x) refl))
head_some (Term-F.ConstSet s) head own is = sym (ap Some (is (ConstSet s) refl))
head_some (Term-F.Var v) head own is = absurd own
head_some (Term-F.Node op args place) head own is = sym (ap Some (is (Operation op) refl))

-- ---- one term more
module _ (cells : ℕ) (codes after : List (List ℤ)) (nodes : List Node) (ts : List Term) (t : Term) (code : List ℤ) (inputs : List NodeId) (place : ℕ) (fits : Fits cells codes nodes ts t code inputs)
    (next : after ≡ with_code codes code) (at : place ≡ position_or_len (pointwise int_eq code) codes) where
  keeps : Keeps after ts t (pos place)
  keeps = kept codes after ts t code (pos place) fits.graph.numbered fits.own fits.args fits.coded next (ap pos at)

  position : place ≡ position_or_len (same_term t) ts
  position = pos_same place (position_or_len (same_term t) ts) (code_at codes after ts t code (pos place) fits.graph.numbered fits.own fits.args fits.coded next (ap pos at))

  id_is : cells + place ≡ id_among cells (with_subterm ts t) t
  id_is = sym (id_placed cells (with_subterm ts t) t place (sym keeps.named))

  pub kept_old : (id : ℕ) → place < length nodes → id ≡ cells + place → Stands cells after nodes (with_subterm ts t) t id
  kept_old id lt is =
      let there : list_any (same_term t) ts ≡ true = any_within (same_term t) ts (omega (arith, lt, fits.graph.count, position)) in
      let terms : with_subterm ts t ≡ ts = ap (λ b. if b then ts else ts ++ t ∷ []) there in
      let whole : AreNodesOf cells after nodes ts = record {
        numbered = subst (IsNumbered after) terms keeps.numbered;
        count = fits.graph.count;
        few = fits.graph.few;
        each = fits.graph.each;
        earlier = fits.graph.earlier;
      } in
      record { graph = subst (AreNodesOf cells after nodes) (sym terms) whole; at = is ∙ id_is; known = keeps.known }

  module _ (past : length nodes ≤ place) where
    none : (list_any (same_term t) ts ≡ false) × (position_or_len (same_term t) ts ≡ length ts)
    none = none_past (same_term t) ts (omega (arith, past, fits.graph.count, position))

    terms : with_subterm ts t ≡ ts ++ t ∷ []
    terms = ap (λ b. if b then ts else ts ++ t ∷ []) none.0

    pub kept_full : nat_lt (length nodes) MAX_TERM_NODES ≡ false → MAX_TERM_NODES < length (with_subterm ts t)
    kept_full full = more MAX_TERM_NODES (ltb-false (length nodes) MAX_TERM_NODES full)
      where
        more : (most : ℕ) → most ≤ length nodes → most < length (with_subterm ts t)
        more most le = omega (arith, le, fits.graph.count, ap length terms ∙ length-append ts (t ∷ []))

    module _ (node : Node) (head : IsHeadOf t node.head) (stands : IsPlaceOf t node.place) (same : node.inputs.items ≡ inputs) where
      new_node : IsNodeOf cells (ts ++ t ∷ []) t node
      new_node = record {
        head = head_some (out-Term t) node.head fits.own head;
        place = stands;
        inputs = ap ids_of same ∙ fits.named ∙ sym (ids_front cells ts (t ∷ []) (arguments_of (out-Term t)) fits.args);
      }

      new_at : (i : ℕ) (u : Term) (n : Node) → (slice_get ts i ≡ Some u) ⊎ ((i ≡ length ts) × (u ≡ t)) → (slice_get nodes i ≡ Some n) ⊎ ((i ≡ length nodes) × (n ≡ node)) → IsNodeOf cells (ts ++ t ∷ []) u n
      new_at i u n (inl h) (inl k) = node_front cells ts (t ∷ []) u n (fits.graph.numbered.closed i u h) (fits.graph.each i u n h k)
      new_at i u n (inl h) (inr k) = absurd (omega (arith, slice_get_within ts i u h, k.0, fits.graph.count))
      new_at i u n (inr h) (inl k) = absurd (omega (arith, slice_get_within nodes i n k, h.0, fits.graph.count))
      new_at i u n (inr h) (inr k) = subst (λ v. IsNodeOf cells (ts ++ t ∷ []) v n) (sym h.1) (subst (IsNodeOf cells (ts ++ t ∷ []) t) (sym k.1) new_node)

      new_earlier : (i : ℕ) (n : Node) → (slice_get nodes i ≡ Some n) ⊎ ((i ≡ length nodes) × (n ≡ node)) → All (λ input. input.0 < cells + i) n.inputs.items
      new_earlier i n (inl k) = fits.graph.earlier i n k
      new_earlier i n (inr k) =
          subst (λ (j : ℕ). All (λ input. input.0 < cells + j) n.inputs.items) (sym k.0)
          (subst (All (λ input. input.0 < cells + length nodes)) (sym (ap (λ (m : Node). m.inputs.items) k.1 ∙ same)) fits.earlier)

      pub kept_new : (nodes' : List Node) (id : ℕ) → nodes' ≡ nodes ++ node ∷ [] → length nodes' ≤ MAX_TERM_NODES → id ≡ cells + length nodes → Stands cells after nodes' (with_subterm ts t) t id
      kept_new nodes' id next' few is =
          let many : length nodes' ≡ length (ts ++ t ∷ []) =
          ap length next' ∙ length-append nodes (node ∷ []) ∙ ap (λ n. n + 1) fits.graph.count ∙ sym (length-append ts (t ∷ [])) in
          let whole : AreNodesOf cells after nodes' (ts ++ t ∷ []) = record {
            numbered = subst (IsNumbered after) terms keeps.numbered;
            count = many;
            few = subst (λ n. n ≤ MAX_TERM_NODES) many few;
            each = λ i u n h k. new_at i u n (last_or ts t i u h) (last_or nodes node i n (sym (ap (λ ns. slice_get ns i) next') ∙ k));
            earlier = λ i n k. new_earlier i n (last_or nodes node i n (sym (ap (λ ns. slice_get ns i) next') ∙ k));
          } in
          record {
            graph = subst (AreNodesOf cells after nodes') (sym terms) whole;
            at = is ∙ ap (λ n. cells + n) (fits.graph.count ∙ sym none.1 ∙ sym position) ∙ id_is;
            known = keeps.known;
          }

-- why a term was refused
pub no_memory : (ts : List Term) (stop : GraphStop) → stop ≡ NoMemory → StopsAt ts stop
no_memory ts stop e = subst (StopsAt ts) (sym e) tt

pub stops : (ts : List Term) (stop : GraphStop) → (stop ≡ TooMany → MAX_TERM_NODES < length ts) → StopsAt ts stop
stops ts TooMany full = full refl
stops ts NoMemory full = tt

-- ---- a node was put behind the others, or it was not
module _ (cells : ℕ) (codes after : List (List ℤ)) (nodes nodes' : List Node) (t : Term) (code : List ℤ) (inputs : List NodeId) (place : ℕ) (node : Node) (next : after ≡ with_code codes code)
    (at : place ≡ position_or_len (pointwise int_eq code) codes) (past : length nodes ≤ place) where
  pub kept_put : (result : Result NodeId GraphStop) → IsHeadOf t node.head → IsPlaceOf t node.place → node.inputs.items ≡ inputs → nodes' ≡ (if is_ok result then nodes ++ node ∷ [] else nodes) → length nodes' ≤ MAX_TERM_NODES →
      IfOk result (λ id. id.0 ≡ cells + length nodes) → IfOk result (λ id. (ts : List Term) → Fits cells codes nodes ts t code inputs → Stands cells after nodes' (with_subterm ts t) t id.0)
  kept_put (Ok id) head stands same put few is = λ ts fits. kept_new cells codes after nodes ts t code inputs place fits next at past node head stands same nodes' id.0 put few is
  kept_put (Err stop) head stands same put few is = tt

  pub stopped_put : (result : Result NodeId GraphStop) → IfErr result (λ stop. stop ≡ TooMany → nat_lt (length nodes) MAX_TERM_NODES ≡ false) →
      IfErr result (λ stop. (ts : List Term) → Fits cells codes nodes ts t code inputs → StopsAt (with_subterm ts t) stop)
  stopped_put (Ok id) full = tt
  stopped_put (Err stop) full = λ ts fits. stops (with_subterm ts t) stop (λ e. kept_full cells codes after nodes ts t code inputs place fits next at past (full e))
