-- Where no id of a graph fails each has a value; and where a term has a value, so have all its subterms.
use Rattle.std.proofs.Common.{◌≡◌, ℕ, zero, suc, ◌<◌, Bool, true, false, List, [], ◌∷◌, ◌++◌, map, fold, Option, Some, None, IsSome, is_some, refl, sym, ap, ◌∙◌, subst, All, Result, Ok, Err, arith}
use Rattle.std.proofs.lemmas.List.Elements.{All-nil, All-cons, All-head, All-tail, All-append}
use Rattle.cbl_base.specs.NumberRule.{NumberRule}
use Rattle.cbl_base.specs.declared.faults.RunFault.{RunFault}
use Rattle.cbl_base.specs.declared.input.Input.{Input}
use Rattle.cbl_operations.specs.declared.op.Op.{Op}
use Rattle.model_values.specs.Outcomes.{gather, gathered, operated, outcome_of, outcome_step}
use Rattle.store_turns.specs.Meaning.{AreLayers, Each, Graph, IsMeaning, come_to, outcome_of as ran, values_of, with_value}
use Rattle.store_turns.specs.declared.outcome.Outcome.{Outcome}
use Rattle.store_turns.specs.declared.outcome.Outcome.TheVariants.{Value, Fails}
use Rattle.store_turns.proofs.Unique.{each_from}
use Rattle.term_model.specs.Subterms.{joined_terms, subterms}
use Rattle.term_model.specs.declared.term.Term.{Term}
use Rattle.term_model.specs.declared.term.Term.TheOpen.{Term-F}
use Rattle.term_model.specs.declared.term.Term.TheViews.{roll-Term}
use Rattle.term_model.specs.declared.term.Term.TheFolds.{fold-roll-Term, ind-Term, map-Term}
use Rattle.term_model.proofs.SubtermLaws.{subterms_roll}

-- ---- ids
abbrev pub HasValue : (ℕ → Outcome) → ℕ → Type 0
HasValue o id = (x : Input) × (o id ≡ Value x)

pub values_there : (o : ℕ → Outcome) (ids : List ℕ) → Each (HasValue o) ids → (xs : List Input) × (values_of (map o ids) ≡ Some xs)
values_there o [] each = ([], refl)
values_there o (id ∷ ids) each =
    let rest = values_there o ids each.1 in (each.0.0 ∷ rest.0, ap (λ q. with_value q (values_of (map o ids))) each.0.1 ∙ ap (with_value (Value each.0.0)) rest.1)

module _ (g : Graph) (layer : ℕ → ℕ) (layers : AreLayers g layer) (free : ℕ → Input) (o : ℕ → Outcome) (meaning : IsMeaning g free o)
    (none : (id : ℕ) (fault : RunFault) → id < g.size → o id ≡ Fails fault → ⊥) where
  by_result : (id : ℕ) → id < g.size → (r : Result Input RunFault) → o id ≡ ran r → HasValue o id
  by_result id lt (Ok x) e = (x, e)
  by_result id lt (Err f) e = absurd (none id f lt e)

  one_value : (id : ℕ) → id < g.size → Each (HasValue o) (g.inputs id) → (k : Bool) → g.is_free id ≡ k → HasValue o id
  one_value id lt each true is = (free id, meaning.cells id lt is)
  one_value id lt each false is = let xs = values_there o (g.inputs id) each in by_result id lt (g.op id xs.0) (meaning.nodes id lt is ∙ ap (come_to (g.op id)) xs.1)

  below_value : (d id : ℕ) → id < g.size → layer id < d → HasValue o id
  below_value zero id lt low = absurd (omega (arith, low))
  below_value (suc d) id lt low =
      one_value id lt (each_from (λ i. (i < g.size) × (layer i < layer id)) (HasValue o) (g.inputs id) (λ i h. below_value d i h.0 (omega (arith, h.1, low))) (layers id lt)) (g.is_free id) refl

  pub all_values : (id : ℕ) → id < g.size → HasValue o id
  all_values id lt = below_value (suc (layer id)) id lt (omega arith)

-- ---- terms
module _ (users : ℕ → NumberRule) (env : ℕ → Option Input) where
  abbrev pub IsValued : Term → Type 0
  IsValued t = IsSome (outcome_of users env t)

  none_stays : (os : List (Option Input)) → fold gather None os ≡ None
  none_stays [] = refl
  none_stays (o ∷ os) = none_stays os

  no_value : (v : Option (List Input)) → gather v None ≡ None
  no_value (Some xs) = refl
  no_value None = refl

  each_valued : (v : Option (List Input)) (ts : List Term) → IsSome (fold gather v (map (outcome_of users env) ts)) → All IsValued ts
  each_valued v [] h = All-nil IsValued
  each_valued v (t ∷ ts) h = All-cons IsValued t ts (first (outcome_of users env t) refl) (each_valued (gather v (outcome_of users env t)) ts h)
    where
      first : (q : Option Input) → outcome_of users env t ≡ q → IsValued t
      first (Some x) e = ap is_some e
      first None e =
          let c : false ≡ true = sym (ap is_some (none_stays (map (outcome_of users env) ts))) ∙ ap (λ w. is_some (fold gather w (map (outcome_of users env) ts))) (sym (no_value v) ∙ ap (gather v) (sym e)) ∙ h in cc

  operated_some : (op : Op) (v : Option (List Input)) → IsSome (operated users op v) → IsSome v
  operated_some op (Some xs) h = refl
  operated_some op None h = h

  abbrev IsDeep : Term → Type 0
  IsDeep t = IsValued t → All IsValued (subterms t)

  abbrev Deep : Type 0
  Deep = (t : Term) × IsDeep t

  below_valued : (es : List Deep) → All IsValued (map (λ e. e.0) es) → All IsValued (joined_terms (map subterms (map (λ e. e.0) es)))
  below_valued [] all = All-nil IsValued
  below_valued (e ∷ es) all =
      All-append IsValued (subterms e.0) (joined_terms (map subterms (map (λ e. e.0) es))) (e.1 (All-head IsValued e.0 (map (λ e. e.0) es) all)) (below_valued es (All-tail IsValued e.0 (map (λ e. e.0) es) all))

  one_valued : (t : Term) (ts below : List Term) → ts ≡ below ++ t ∷ [] → IsValued t → All IsValued below → All IsValued ts
  one_valued t ts below e own all = subst (All IsValued) (sym e) (All-append IsValued below (t ∷ []) all (All-cons IsValued t [] own (All-nil IsValued)))

  layer_valued : (y : Term-F Deep) → IsDeep (roll-Term (map-Term Deep Term (λ e. e.0) y))
  layer_valued (Term-F.Const x) h = let z = Term-F.Const x in one_valued (roll-Term z) (subterms (roll-Term z)) [] (subterms_roll z) h (All-nil IsValued)
  layer_valued (Term-F.ConstSet s) h = let z = Term-F.ConstSet s in one_valued (roll-Term z) (subterms (roll-Term z)) [] (subterms_roll z) h (All-nil IsValued)
  layer_valued (Term-F.Var v) h = subst (All IsValued) (sym (subterms_roll (Term-F.Var v))) (All-nil IsValued)
  layer_valued (Term-F.Node op args place) h =
      let z = map-Term Deep Term (λ e. e.0) (Term-F.Node op args place) in
      let ts = map (λ (e : Deep). e.0) args.items in
      let own = each_valued (Some []) ts (operated_some op (gathered (map (outcome_of users env) ts)) (subst IsSome (fold-roll-Term (Option Input) (outcome_step users env) z) h)) in
      one_valued (roll-Term z) (subterms (roll-Term z)) (joined_terms (map subterms ts)) (subterms_roll z) h (below_valued args.items own)

  pub deep_valued : (t : Term) → IsDeep t
  deep_valued = ind-Term IsDeep (λ x y is. subst (λ z. IsDeep (roll-Term z)) is (layer_valued y))
