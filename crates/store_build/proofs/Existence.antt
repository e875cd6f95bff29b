-- There is a meaning: what the recursion gives at each id's layer.
use Rattle.std.proofs.Common.{◌≡◌, ℕ, zero, suc, ◌<◌, cond, List, ap, ◌∙◌, arith}
use Rattle.cbl_base.specs.declared.input.Input.{Input}
use Rattle.store_turns.specs.declared.outcome.Outcome.{Outcome}
use Rattle.store_turns.specs.declared.outcome.Outcome.TheVariants.{Value}
use Rattle.store_turns.specs.Meaning.{Graph, AreLayers, IsMeaning, computed, come_to, values_of, outcome_at}
use Rattle.store_turns.proofs.Unique.{same_map_each, each_from}

module _ (g : Graph) (layer : ℕ → ℕ) (layers : AreLayers g layer) (free : ℕ → Input) where
  -- past its layer, more depth changes nothing
  stable : (d e id : ℕ) → id < g.size → layer id < d → layer id < e → outcome_at g free d id ≡ outcome_at g free e id
  stable zero e id lt a b = absurd (omega (arith, a))
  stable (suc d) zero id lt a b = absurd (omega (arith, b))
  stable (suc d) (suc e) id lt a b =
      ap (λ (os : List Outcome). cond (g.is_free id) (Value (free id)) (come_to (g.op id) (values_of os)))
      (same_map_each (outcome_at g free d) (outcome_at g free e) (g.inputs id)
      (each_from (λ i. (i < g.size) × (layer i < layer id)) (λ i. outcome_at g free d i ≡ outcome_at g free e i) (g.inputs id) (λ i h. stable d e i h.0 (omega (arith, h.1, a)) (omega (arith, h.1, b))) (layers id lt)))

  pub exists : IsMeaning g free (λ id. outcome_at g free (suc (layer id)) id)
  exists = record {
    cells = λ id lt e. ap (λ b. cond b (Value (free id)) (computed g (outcome_at g free (layer id)) id)) e;
    nodes = λ id lt e. ap (λ b. cond b (Value (free id)) (computed g (outcome_at g free (layer id)) id)) e
        ∙ ap (λ (os : List Outcome). come_to (g.op id) (values_of os))
        (same_map_each (outcome_at g free (layer id)) (λ i. outcome_at g free (suc (layer i)) i) (g.inputs id)
        (each_from (λ i. (i < g.size) × (layer i < layer id)) (λ i. outcome_at g free (layer id) i ≡ outcome_at g free (suc (layer i)) i) (g.inputs id) (λ i h. stable (layer id) (suc (layer i)) i h.0 h.1 (omega arith)) (layers id lt)));
  }
