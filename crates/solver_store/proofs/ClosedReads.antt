-- What is read of a store of a model: the fresh values of its variables, systems and objectives.
use Rattle.std.proofs.Common.{◌≡◌, ℕ, ◌<◌, List, Some, Ok, inl, refl, sym, ap, ◌∙◌, arith}
use Rattle.std.specs.Prelude.{unwrap_or}
use Rattle.cbl_base.specs.Inputs.{InputKind, kind_of, number_kind, number_of, set_kind}
use Rattle.cbl_base.specs.NodeLaw.{Rule}
use Rattle.cbl_base.specs.declared.input.Input.{Input}
use Rattle.cbl_base.specs.declared.input.Input.TheVariants.{Int, Set}
use Rattle.graph_values.specs.Members.{variables_of}
use Rattle.graph_values.proofs.ModelTotals.{vars_held}
use Rattle.graph_values.proofs.Stores.{meaning_assigned}
use Rattle.graph_values.proofs.ValueKinds.{variables_kinded}
use Rattle.inc_store.specs.Views.{count_of, graph_in, value_at}
use Rattle.inc_store.specs.declared.store.Store.{Store}
use Rattle.model_store.specs.ModelStores.{IsStoreOf}
use Rattle.model_store.specs.Settings.{Setting, numbers_in, users_in}
use Rattle.model_values.specs.Delta.{value_of}
use Rattle.model_values.specs.VarOutcomes.{outcome_of_var}
use Rattle.model_values.specs.Wholes.{IsOf}
use Rattle.model_values.specs.declared.wholes.Whole.{Whole}
use Rattle.store_build.specs.Aims.{start_of}
use Rattle.store_laws.proofs.Tells.{has_value}
use Rattle.store_laws.proofs.Trials.{target_number, target_within}
use Rattle.store_turns.specs.Meaning.{IsMeaning}
use Rattle.store_turns.specs.declared.outcome.Outcome.TheVariants.{Value}
use Rattle.term_model.specs.Kinds.{kinds_in}
use Rattle.term_model.specs.Wellformed.{HasDefinedSets}

some_same : {X : Type 0} (x y : X) → Some x ≡ Some y → x ≡ y
some_same x y e = ap (λ o. unwrap_or o x) e

pub as_number : (x : Input) → kind_of x ≡ number_kind → x ≡ Int (number_of x)
as_number (Int z) e = refl
as_number (Set s) e = let c : set_kind ≡ number_kind = e in cc

module _ {N : Type 0} (rule : N → Rule) (held : N → List Input) (ready : N → Type 0) (setting : Setting) (s : Store N) (is : IsStoreOf rule held ready setting s) where
  -- the values are what the model's graph means
  pub meaning : IsMeaning (graph_in rule s) (start_of (numbers_in setting)) (λ id. Value (value_at s id))
  meaning = meaning_assigned (graph_in rule s) (numbers_in setting) (λ id. value_at s id) (λ id. Value (value_at s id)) is.assigned is.usable.2.fresh

  pub var_within : (i : ℕ) → i < variables_of setting.model → i < count_of s
  var_within i lt = let size = is.holds.terms.size in omega (arith, lt, size)

  pub var_value : (i : ℕ) → i < variables_of setting.model → outcome_of_var (users_in setting) setting.model setting.assignment i ≡ Some (value_at s i)
  var_value i lt =
      sym (vars_held (users_in setting) setting.model setting.assignment is.given.formed is.given.acyclic is.given.long (graph_in rule s) is.holds.terms (λ id. Value (value_at s id)) meaning i lt)

  pub var_kind : HasDefinedSets setting.model → (i : ℕ) (kind : InputKind) → i < variables_of setting.model → kinds_in setting.model.vars.items i ≡ Some kind → kind_of (value_at s i) ≡ kind
  var_kind sets i kind lt e =
      sym (some_same kind (kind_of (value_at s i))
      (sym e ∙ variables_kinded (users_in setting) setting.model setting.assignment is.given.formed sets is.given.long i (value_at s i) (var_value i lt)))

  -- ---- totals
  module _ (whole : Whole) (own : IsOf setting.model whole) where
    pub total_within : setting.total whole < count_of s
    total_within = target_within rule held ready setting s is whole own (setting.total whole) (inl refl)

    pub total_number : kind_of (value_at s (setting.total whole)) ≡ number_kind
    total_number = target_number rule held ready setting s is whole own (setting.total whole) (inl refl)

    pub total_value : value_of (users_in setting) setting.model setting.assignment whole ≡ Ok (number_of (value_at s (setting.total whole)))
    total_value =
        has_value (users_in setting) setting.model (graph_in rule s) setting.total is.holds whole own (setting.total whole) (inl refl) setting.assignment is.given (λ id. value_at s id) is.assigned (λ id. Value (value_at s id)) is.usable.2.fresh
        (number_of (value_at s (setting.total whole))) (ap (λ x. Value x) (as_number (value_at s (setting.total whole)) total_number))
