-- The inputs of cells, one posting after another.
use Rattle.std.proofs.Common.{◌≡◌, ◌≢◌, ℕ, ◌<◌, ◌≤◌, Bool, true, false, cond, List, [], ◌∷◌, ◌++◌, take, Option, Some, None, length, refl, sym, ap, ◌∙◌, slice_get, Vec, arith}
use Rattle.std.specs.Prelude.{if◌then◌else◌, nat_eq, unwrap_or}
use Rattle.std.specs.Option.{option_and_then, option_map}
use Rattle.std.proofs.lemmas.Bool.{eqb-true, eqb-false}
use Rattle.std.proofs.lemmas.List.{take_all}
use Rattle.std.proofs.lemmas.List.Sums.{fold-append}
use Rattle.cbl_base.specs.declared.ids.NodeId.{NodeId}
use Rattle.store_build.specs.Lists.{list_in}
use Rattle.store_build.proofs.GatherLemmas.{before_first}
use Rattle.store_turns.specs.Meaning.{ids_of}
use Rattle.term_model.specs.Definitions.{definition_in, is_of, note, term_of}
use Rattle.term_model.specs.Posting.{term_posted}
use Rattle.term_model.specs.declared.model.Definition.{Definition}
use Rattle.term_model.specs.declared.model.Model.{Model}
use Rattle.term_model.specs.declared.model.Posted.{Posted}
use Rattle.term_model.specs.declared.model.Posted.TheVariants.{Define, Constrain, Part}
use Rattle.term_model.specs.declared.term.Term.{Term}
use Rattle.graph_values.specs.Graphs.{id_of, inputs_of_cell, inputs_of_node, term_at, term_defined}
use Rattle.graph_values.specs.Members.{cells_of}
use Rattle.model_nodes.specs.CellLists.{AreCellLists, IsDefinedBy, defines}

-- ---- what a posting defines
is_at : (defs : List Definition) (d : ℕ) (def : Definition) → slice_get defs d ≡ Some def → (i : ℕ) → is_of defs i d ≡ nat_eq def.var.index i
is_at defs d def at i = ap (λ o. unwrap_or (option_map (λ (def : Definition). nat_eq def.var.index i) o) false) at

module _ {Z : Type 0} (defs : List Definition) (id : NodeId) (lists : List (Vec NodeId Z)) where
  nothing_by : (p : Posted) → ((i : ℕ) → defines defs i p ≡ false) → IsDefinedBy defs p id lists lists
  nothing_by p none i lt = sym (ap (λ b. if b then id ∷ [] else list_in lists i) (none i))

  pub defined_none : (d : ℕ) → slice_get defs d ≡ None → IsDefinedBy defs (Define d) id lists lists
  defined_none d none = nothing_by (Define d) (λ i. ap (λ o. unwrap_or (option_map (λ (def : Definition). nat_eq def.var.index i) o) false) none)

  -- what isn't a definition
  pub defined_other : (p : Posted) → ((d : ℕ) → p ≡ Define d → ⊥) → IsDefinedBy defs p id lists lists
  defined_other (Define d) other = absurd (other d refl)
  defined_other (Constrain system member) other = nothing_by (Constrain system member) (λ i. refl)
  defined_other (Part objective member) other = nothing_by (Part objective member) (λ i. refl)

  pub defined_past : (d : ℕ) (def : Definition) → slice_get defs d ≡ Some def → length lists ≤ def.var.index → IsDefinedBy defs (Define d) id lists lists
  defined_past d def at past i lt = by (nat_eq def.var.index i) refl
    where
      by : (b : Bool) → nat_eq def.var.index i ≡ b → list_in lists i ≡ (if is_of defs i d then id ∷ [] else list_in lists i)
      by true e = (let is = eqb-true def.var.index i e in absurd (omega (arith, is, past, lt)))
      by false e = sym (ap (λ b. if b then id ∷ [] else list_in lists i) (is_at defs d def at i ∙ e))

pub defined_one : {Z : Type 0} (defs : List Definition) (id : NodeId) (old new : List (Vec NodeId Z)) (d : ℕ) (def : Definition) → slice_get defs d ≡ Some def → list_in new def.var.index ≡ id ∷ [] →
    ((i : ℕ) → i ≢ def.var.index → list_in new i ≡ list_in old i) → IsDefinedBy defs (Define d) id old new
defined_one defs id old new d def at here others i lt = by (nat_eq def.var.index i) refl
  where
    by : (b : Bool) → nat_eq def.var.index i ≡ b → list_in new i ≡ (if is_of defs i d then id ∷ [] else list_in old i)
    by true e = ap (list_in new) (sym (eqb-true def.var.index i e)) ∙ here ∙ sym (ap (λ b. if b then id ∷ [] else list_in old i) (is_at defs d def at i ∙ e))
    by false e = others i (λ is. eqb-false def.var.index i e (sym is)) ∙ sym (ap (λ b. if b then id ∷ [] else list_in old i) (is_at defs d def at i ∙ e))

-- ---- all postings so far
-- the term of a variable's definition, by what was posted so far
abbrev pub term_to : Model → List Posted → ℕ → Option Term
term_to M ps i = option_and_then (term_of M.defs.items) (definition_in M.defs.items ps i)

pub record AreDefinedTo {Z : Type 0} (M : Model) (ps : List Posted) (lists : List (Vec NodeId Z)) : Type 0 where
  pub count : length lists ≡ cells_of M
  pub each : (i : ℕ) → i < length lists → ids_of (list_in lists i) ≡ inputs_of_cell M (term_to M ps i)

module _ (M : Model) where
  -- one definition
  found : (i d : ℕ) (def : Option Definition) → slice_get M.defs.items d ≡ def → is_of M.defs.items i d ≡ true → (t : Term) × (term_posted M (Define d) ≡ Some t) × (term_of M.defs.items d ≡ Some t)
  found i d (Some def) at is = (def.term, ap (option_map (λ (d : Definition). d.term)) at, ap (option_map (λ (d : Definition). d.term)) at)
  found i d None at is = let c : false ≡ true = sym (ap (λ o. unwrap_or (option_map (λ (def : Definition). nat_eq def.var.index i) o) false) at) ∙ is in cc

  inputs_with : (i : ℕ) (ps : List Posted) (p : Posted) (id : NodeId) → ((t : Term) → term_posted M p ≡ Some t → id.0 ≡ id_of M t) → (old : List NodeId) → ids_of old ≡ inputs_of_cell M (term_to M ps i) →
      ids_of (if defines M.defs.items i p then id ∷ [] else old) ≡ inputs_of_cell M (option_and_then (term_of M.defs.items) (note M.defs.items i (definition_in M.defs.items ps i) p))
  inputs_with i ps (Constrain system member) id own old is = is
  inputs_with i ps (Part objective member) id own old is = is
  inputs_with i ps (Define d) id own old is = by (is_of M.defs.items i d) refl
    where
      by : (b : Bool) → is_of M.defs.items i d ≡ b → ids_of (if b then id ∷ [] else old) ≡ inputs_of_cell M (option_and_then (term_of M.defs.items) (if b then Some d else definition_in M.defs.items ps i))
      by true e = (let own_term = found i d (slice_get M.defs.items d) refl e in
          ap (λ k. k ∷ []) (own own_term.0 own_term.1) ∙ sym (ap (inputs_of_cell M) own_term.2))
      by false e = is

module _ {Z : Type 0} (M : Model) where
  pub defined_to_none : (lists : List (Vec NodeId Z)) → length lists ≡ cells_of M → ((i : ℕ) → list_in lists i ≡ []) → AreDefinedTo M [] lists
  defined_to_none lists count none = record { count = count; each = λ i lt. ap ids_of (none i) }

  pub defined_to_more : (ps : List Posted) (p : Posted) (id : NodeId) (old new : List (Vec NodeId Z)) → ((t : Term) → term_posted M p ≡ Some t → id.0 ≡ id_of M t) →
      length new ≡ length old → IsDefinedBy M.defs.items p id old new → AreDefinedTo M ps old → AreDefinedTo M (ps ++ p ∷ []) new
  defined_to_more ps p id old new own count by are = record {
    count = count ∙ are.count;
    each = λ i lt. (let within : i < length old = omega (arith, lt, count) in
        ap ids_of (by i within) ∙ inputs_with M i ps p id own (list_in old i) (are.each i within)
        ∙ ap (λ o. inputs_of_cell M (option_and_then (term_of M.defs.items) o)) (sym (fold-append (note M.defs.items i) None ps (p ∷ []))));
  }

  pub defined_to_all : (lists : List (Vec NodeId Z)) (n : ℕ) → length M.posted.items ≤ n → AreDefinedTo M (take n M.posted.items) lists → AreCellLists M lists
  defined_to_all lists n le are = record {
    count = are.count;
    each = λ i lt. (let count = are.count in
        are.each i lt ∙ ap (λ ps. inputs_of_cell M (term_to M ps i)) (take_all n M.posted.items le)
        ∙ sym (ap (λ b. cond b (inputs_of_cell M (term_defined M i)) (inputs_of_node M (term_at M i))) (before_first i (cells_of M) (omega (arith, lt, count)))));
  }
