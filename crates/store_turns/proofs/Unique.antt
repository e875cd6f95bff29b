-- What nodes come to is determined, and is what the recursion on the depth gives.
use Rattle.std.proofs.Common.{◌≡◌, ℕ, zero, suc, ◌<◌, Bool, true, false, cond, List, [], ◌∷◌, map, refl, sym, ap, ◌∙◌, arith}
use Rattle.cbl_base.specs.declared.input.Input.{Input}
use Rattle.store_turns.specs.declared.outcome.Outcome.{Outcome}
use Rattle.store_turns.specs.declared.outcome.Outcome.TheVariants.{Value}
use Rattle.store_turns.specs.Meaning.{Graph, IsMeaning, AreLayers, Each, computed, come_to, values_of, outcome_at}

pub same_map_each : {A : Type 0} (f g : ℕ → A) (xs : List ℕ) → Each (λ x. f x ≡ g x) xs → map f xs ≡ map g xs
same_map_each f g [] h = refl
same_map_each f g (x ∷ xs) h = ap (λ a. a ∷ map f xs) h.0 ∙ ap (λ bs. g x ∷ bs) (same_map_each f g xs h.1)

pub each_from : (P Q : ℕ → Type 0) (xs : List ℕ) → ((x : ℕ) → P x → Q x) → Each P xs → Each Q xs
each_from P Q [] f h = tt
each_from P Q (x ∷ xs) f h = (f x h.0, each_from P Q xs f h.1)

pub same_computed : (g : Graph) (o p : ℕ → Outcome) (id : ℕ) → Each (λ i. o i ≡ p i) (g.inputs id) → computed g o id ≡ computed g p id
same_computed g o p id h = ap (λ os. come_to (g.op id) (values_of os)) (same_map_each o p (g.inputs id) h)

module _ (g : Graph) (layer : ℕ → ℕ) (layers : AreLayers g layer) (free : ℕ → Input) where
  same_kind : (o p : ℕ → Outcome) → IsMeaning g free o → IsMeaning g free p → (id : ℕ) → id < g.size → Each (λ i. o i ≡ p i) (g.inputs id) → (k : Bool) → g.is_free id ≡ k → o id ≡ p id
  same_kind o p a b id lt each true is = a.cells id lt is ∙ sym (b.cells id lt is)
  same_kind o p a b id lt each false is = a.nodes id lt is ∙ same_computed g o p id each ∙ sym (b.nodes id lt is)

  same_below : (o p : ℕ → Outcome) → IsMeaning g free o → IsMeaning g free p → (d id : ℕ) → id < g.size → layer id < d → o id ≡ p id
  same_below o p a b zero id lt low = absurd (omega arith)
  same_below o p a b (suc d) id lt low =
      same_kind o p a b id lt (each_from (λ i. (i < g.size) × (layer i < layer id)) (λ i. o i ≡ p i) (g.inputs id) (λ i h. same_below o p a b d i h.0 (omega (arith, h.1))) (layers id lt)) (g.is_free id) refl

  -- there is one meaning at most
  pub unique : (o p : ℕ → Outcome) → IsMeaning g free o → IsMeaning g free p → (id : ℕ) → id < g.size → o id ≡ p id
  unique o p a b id lt = same_below o p a b (suc (layer id)) id lt (omega arith)

  by_depth : (o : ℕ → Outcome) (d : ℕ) → IsMeaning g free o → (id : ℕ) → id < g.size → Each (λ i. o i ≡ outcome_at g free d i) (g.inputs id) → (k : Bool) → g.is_free id ≡ k → o id ≡ outcome_at g free (suc d) id
  by_depth o d a id lt each true is = a.cells id lt is ∙ sym (ap (λ b. cond b (Value (free id)) (computed g (outcome_at g free d) id)) is)
  by_depth o d a id lt each false is =
      a.nodes id lt is ∙ same_computed g o (outcome_at g free d) id each ∙ sym (ap (λ b. cond b (Value (free id)) (computed g (outcome_at g free d) id)) is)

  -- and it is the recursion's, at each depth past the layer
  pub is_outcome_at : (o : ℕ → Outcome) → IsMeaning g free o → (d id : ℕ) → id < g.size → layer id < d → o id ≡ outcome_at g free d id
  is_outcome_at o a zero id lt low = absurd (omega arith)
  is_outcome_at o a (suc d) id lt low =
      by_depth o d a id lt (each_from (λ i. (i < g.size) × (layer i < layer id)) (λ i. o i ≡ outcome_at g free d i) (g.inputs id) (λ i h. is_outcome_at o a d i h.0 (omega (arith, h.1))) (layers id lt)) (g.is_free id) refl
