-- What a term tells, by its outermost layer: whether it depends on a variable is whether a variable in it does, and its
-- value is what it comes to.
use Rattle.std.proofs.Common.{◌≡◌, ℕ, ℤ, pos, ◌+ℤ◌, Bool, true, false, ◌||◌, List, [], ◌∷◌, ◌++◌, Option, Some, None, Vec, Global, Result, Ok, Err, fold, map, refl, sym, ap, ◌∙◌, subst, arith}
use Rattle.std.specs.Prelude.{length, int_lt, if◌then◌else◌}
use Rattle.std.specs.List.{list_any}
use Rattle.std.proofs.lemmas.Int.{ints}
use Rattle.std.proofs.lemmas.List.{append_assoc, append-nil}
use Rattle.std.proofs.lemmas.List.Folds.{list_any-append}
use Rattle.cbl_base.specs.Inputs.{number_of}
use Rattle.cbl_base.specs.NumberRule.{NumberRule}
use Rattle.cbl_base.specs.Totals.{total}
use Rattle.cbl_base.specs.declared.faults.RunFault.{RunFault}
use Rattle.cbl_base.specs.declared.input.Input.{Input}
use Rattle.cbl_base.specs.declared.place.Place.{Place}
use Rattle.cbl_operations.specs.Operations.Greatest.{greatest_of}
use Rattle.cbl_operations.specs.RuleOf.{rule_of}
use Rattle.cbl_operations.specs.declared.op.Op.{Op}
use Rattle.cbl_operations.specs.declared.op.Op.TheVariants.{Constraint}
use Rattle.cbl_violations.specs.Violations.AllOf.{all_of_violations}
use Rattle.cbl_violations.specs.declared.constraint.Constraint.TheVariants.{AllOf, AnyOf, NotHeld}
use Rattle.model_values.specs.Outcomes.{Outcome, gathered, operated, outcome_of, outcome_step}
use Rattle.term_model.specs.Definitions.{joined, vars_of, vars_step}
use Rattle.term_model.specs.declared.term.Term.{Term}
use Rattle.term_model.specs.declared.term.Term.TheOpen.{Term-F}
use Rattle.term_model.specs.declared.term.Term.TheViews.{roll-Term, Node}
use Rattle.term_model.specs.declared.term.Term.TheVariants.{rolls-Node}
use Rattle.term_model.specs.declared.term.Term.TheFolds.{fold-roll-Term, map-Term, ind-Term}
use Rattle.violation_shares.specs.VariableViolations.{Arguments, arguments_of, fewer, leaf_share, gather_violation, no_arguments, number_if, one_depends, share_of, share_step, total_violation, violation_in, violation_of_fewest, violations_where, with_argument}
use Rattle.store_shares.specs.Parts.{Told, add_told, fewer_told, fewest_told, fitted, violation_if}
use Rattle.store_shares.specs.Telling.{told_of}
use Rattle.store_shares.specs.Slots.{Slotted, kind_of, slots_by, slots_of, slots_step, slotted}
use Rattle.store_shares.specs.declared.parts.Kind.{Kind}
use Rattle.store_shares.specs.declared.parts.Kind.TheVariants.{Every, One, Negation, Plain}

-- ---- the types of the definition's parts, which have no name here
abbrev result_of : (A B : Type 0) → (A → B) → Type 0
result_of A B f = B

abbrev pub Share : Type 0
Share = result_of Bool _ (leaf_share None)

abbrev Fewest : Type 0
Fewest = result_of _ _ (fewer None)

-- ---- the arguments of a node one after another
any_map : (f : Term → Bool) (items : List Term) → list_any (λ b. b) (map f items) ≡ list_any f items
any_map f [] = refl
any_map f (t ∷ items) = ap (λ b. f t || b) (any_map f items)

any_joined : (depends : ℕ → Bool) (items : List Term) → list_any depends (joined (map vars_of items)) ≡ list_any (λ t. list_any depends (vars_of t)) items
any_joined depends [] = refl
any_joined depends (t ∷ items) = list_any-append depends (vars_of t) (joined (map vars_of items)) ∙ ap (λ b. list_any depends (vars_of t) || b) (any_joined depends items)

-- what it comes to, whether it depends on the variable, and the variables in it
pub record Facts (users : ℕ → NumberRule) (env : ℕ → Outcome) (depends : ℕ → Bool) (t : Term) : Type 0 where
  pub value : (share_of users env depends t).outcome ≡ outcome_of users env t
  pub dependence : (share_of users env depends t).depends ≡ list_any depends (vars_of t)
  pub named : (slotted t).vars ≡ vars_of t

module _ (users : ℕ → NumberRule) (env : ℕ → Outcome) (depends : ℕ → Bool) where
  abbrev pub dep : Term → Bool
  dep t = (share_of users env depends t).depends

  abbrev pub share : Term → Result ℤ RunFault
  share t = (share_of users env depends t).violation

  args_depends : (a : Arguments) (items : List Term) → (fold with_argument a (map (share_of users env depends) items)).depends ≡ a.depends ++ map dep items
  args_depends a [] = sym (append-nil a.depends)
  args_depends a (t ∷ items) = args_depends (with_argument a (share_of users env depends t)) items ∙ append_assoc a.depends (dep t ∷ []) (map dep items)

  pub depends_of : (items : List Term) → (arguments_of (map (share_of users env depends) items)).depends ≡ map dep items
  depends_of items = args_depends no_arguments items

  args_violations : (a : Arguments) (items : List Term) → (fold with_argument a (map (share_of users env depends) items)).violations ≡ fold gather_violation a.violations (map share items)
  args_violations a [] = refl
  args_violations a (t ∷ items) = args_violations (with_argument a (share_of users env depends t)) items

  pub violations_of : (items : List Term) → (arguments_of (map (share_of users env depends) items)).violations ≡ fold gather_violation (Ok []) (map share items)
  violations_of items = args_violations no_arguments items

  pub one_of : (items : List Term) → one_depends (arguments_of (map (share_of users env depends) items)).depends ≡ list_any dep items
  one_of items = ap one_depends (depends_of items) ∙ any_map dep items

  -- ---- what it comes to, and whether it depends on the variable
  abbrev Known : Type 0
  Known = (t : Term) × Facts users env depends t

  outcomes_same : (es : List Known) → map (λ (s : Share). s.outcome) (map (share_of users env depends) (map (λ e. e.0) es)) ≡ map (outcome_of users env) (map (λ e. e.0) es)
  outcomes_same [] = refl
  outcomes_same (e ∷ es) = λ i. e.1.value i ∷ outcomes_same es i

  depends_same : (es : List Known) → list_any dep (map (λ e. e.0) es) ≡ list_any (λ t. list_any depends (vars_of t)) (map (λ e. e.0) es)
  depends_same [] = refl
  depends_same (e ∷ es) = ap (λ b. b || list_any dep (map (λ e. e.0) es)) e.1.dependence ∙ ap (λ b. list_any depends (vars_of e.0) || b) (depends_same es)

  vars_same : (es : List Known) → map (λ (s : Slotted). s.vars) (map slotted (map (λ e. e.0) es)) ≡ map vars_of (map (λ e. e.0) es)
  vars_same [] = refl
  vars_same (e ∷ es) = λ i. e.1.named i ∷ vars_same es i

  layer : (y : Term-F Known) → Facts users env depends (roll-Term (map-Term Known Term (λ e. e.0) y))
  layer (Term-F.Const x) =
      let z : Term-F Term = Term-F.Const x in
      record {
        value = ap (λ (s : Share). s.outcome) (fold-roll-Term Share (share_step users env depends) z) ∙ sym (fold-roll-Term Outcome (outcome_step users env) z);
        dependence =
            ap (λ (s : Share). s.depends) (fold-roll-Term Share (share_step users env depends) z) ∙ sym (ap (list_any depends) (fold-roll-Term (List ℕ) vars_step z));
        named =
            ap (λ (s : Slotted). s.vars) (fold-roll-Term Slotted slots_step z) ∙ sym (fold-roll-Term (List ℕ) vars_step z);
      }
  layer (Term-F.ConstSet x) =
      let z : Term-F Term = Term-F.ConstSet x in
      record {
        value = ap (λ (s : Share). s.outcome) (fold-roll-Term Share (share_step users env depends) z) ∙ sym (fold-roll-Term Outcome (outcome_step users env) z);
        dependence =
            ap (λ (s : Share). s.depends) (fold-roll-Term Share (share_step users env depends) z) ∙ sym (ap (list_any depends) (fold-roll-Term (List ℕ) vars_step z));
        named =
            ap (λ (s : Slotted). s.vars) (fold-roll-Term Slotted slots_step z) ∙ sym (fold-roll-Term (List ℕ) vars_step z);
      }
  layer (Term-F.Var v) =
      let z : Term-F Term = Term-F.Var v in
      record {
        value = ap (λ (s : Share). s.outcome) (fold-roll-Term Share (share_step users env depends) z) ∙ sym (fold-roll-Term Outcome (outcome_step users env) z);
        dependence =
            ap (λ (s : Share). s.depends) (fold-roll-Term Share (share_step users env depends) z) ∙ sym (or_false (depends v.index)) ∙ sym (ap (list_any depends) (fold-roll-Term (List ℕ) vars_step z));
        named =
            ap (λ (s : Slotted). s.vars) (fold-roll-Term Slotted slots_step z) ∙ sym (fold-roll-Term (List ℕ) vars_step z);
      }
    where
      or_false : (b : Bool) → (b || false) ≡ b
      or_false true = refl
      or_false false = refl
  layer (Term-F.Node op args place) =
      let z = map-Term Known Term (λ e. e.0) (Term-F.Node op args place) in
      let items : List Term = map (λ (e : Known). e.0) args.items in
      record {
        value = ap (λ (s : Share). s.outcome) (fold-roll-Term Share (share_step users env depends) z) ∙ ap (λ os. operated users op (gathered os)) (outcomes_same args.items) ∙ sym (fold-roll-Term Outcome (outcome_step users env) z);
        dependence =
            ap (λ (s : Share). s.depends) (fold-roll-Term Share (share_step users env depends) z) ∙ one_of items ∙ depends_same args.items ∙ sym (any_joined depends items) ∙ sym (ap (list_any depends) (fold-roll-Term (List ℕ) vars_step z));
        named =
            ap (λ (s : Slotted). s.vars) (fold-roll-Term Slotted slots_step z) ∙ ap joined (vars_same args.items) ∙ sym (fold-roll-Term (List ℕ) vars_step z);
      }

  pub facts : (t : Term) → Facts users env depends t
  facts = ind-Term (Facts users env depends) (λ x y is. subst (λ z. Facts users env depends (roll-Term z)) is (layer y))

  pub outcomes : (items : List Term) → map (λ (s : Share). s.outcome) (map (share_of users env depends) items) ≡ map (outcome_of users env) items
  outcomes [] = refl
  outcomes (t ∷ items) = λ i. (facts t).value i ∷ outcomes items i

  -- whether a slot depends on the variable is whether its argument does
  pub slot_depends : (t : Term) → list_any depends (slotted t).vars ≡ dep t
  slot_depends t = ap (list_any depends) (facts t).named ∙ sym (facts t).dependence

  -- ---- a node that has a value
  abbrev pub violation_by_kind : Op → Kind → Arguments → List Input → Input → Result ℤ RunFault
  violation_by_kind op Every a xs x = total_violation a.violations
  violation_by_kind op One a xs x = violation_of_fewest a.fewest
  violation_by_kind op Negation a xs x = Ok (if one_depends a.depends then number_of x else pos 0)
  violation_by_kind op Plain a xs x = Ok (greatest_of (violations_where a.depends ((rule_of users op).violation_at xs) (length xs)))

  by_kind : (op : Op) (a : Arguments) (xs : List Input) (x : Input) → violation_in users op a (Some xs) (Some x) ≡ violation_by_kind op (kind_of op) a xs x
  by_kind (Constraint AllOf) a xs x = refl
  by_kind (Constraint AnyOf) a xs x = refl
  by_kind (Constraint NotHeld) a xs x = refl
  by_kind op a xs x = refl

  module _ (t : Term) (op : Op) (args : Vec Term Global) (place : Place) (e : t ≡ Node op args place) where
    pub slots_node : slots_of t ≡ slots_by (kind_of op) (map slotted args.items)
    slots_node = ap (λ (s : Slotted). s.slots) (ap slotted (e ∙ sym (rolls-Node op args place)) ∙ fold-roll-Term Slotted slots_step (Term-F.Node op args place))

    node_outcome : outcome_of users env t ≡ operated users op (gathered (map (outcome_of users env) args.items))
    node_outcome = ap (outcome_of users env) (e ∙ sym (rolls-Node op args place)) ∙ fold-roll-Term Outcome (outcome_step users env) (Term-F.Node op args place)

    some_values : (o : Option (List Input)) (x : Input) → operated users op o ≡ Some x → (xs : List Input) × (o ≡ Some xs)
    some_values (Some xs) x h = (xs, refl)
    some_values None x h = let c : None ≡ Some x = h in cc

    pub node_values : (x : Input) → outcome_of users env t ≡ Some x → (xs : List Input) × (gathered (map (outcome_of users env) args.items) ≡ Some xs)
    node_values x h = some_values (gathered (map (outcome_of users env) args.items)) x (sym node_outcome ∙ h)

    pub node_violation : (x : Input) (xs : List Input) → outcome_of users env t ≡ Some x → gathered (map (outcome_of users env) args.items) ≡ Some xs →
        share t ≡ violation_by_kind op (kind_of op) (arguments_of (map (share_of users env depends) args.items)) xs x
    node_violation x xs h g =
        let values : gathered (map (λ (s : Share). s.outcome) (map (share_of users env depends) args.items)) ≡ Some xs = ap gathered (outcomes args.items) ∙ g in
        let has : operated users op (Some xs) ≡ Some x = ap (operated users op) (sym g) ∙ sym node_outcome ∙ h in
        ap (λ (s : Share). s.violation) (ap (share_of users env depends) (e ∙ sym (rolls-Node op args place)) ∙ fold-roll-Term Share (share_step users env depends) (Term-F.Node op args place))
        ∙ ap (λ v. violation_in users op (arguments_of (map (share_of users env depends) args.items)) v (operated users op v)) values
        ∙ ap (violation_in users op (arguments_of (map (share_of users env depends) args.items)) (Some xs)) has
        ∙ by_kind op (arguments_of (map (share_of users env depends) args.items)) xs x

-- ---- the fewest violations
abbrev as_told : Option Fewest → Option Told
as_told (Some m) = Some (record { number = m.number; violation = m.violation })
as_told None = None

told_fewer : (b : Option Fewest) (m : Fewest) → as_told (Some (fewer b m)) ≡ fewer_told (as_told b) (record { number = m.number; violation = m.violation })
told_fewer (Some first) m = by_test (int_lt m.number first.number)
  where
    by_test : (c : Bool) → as_told (Some (if c then m else first)) ≡ Some (if c then record { number = m.number; violation = m.violation } else record { number = first.number; violation = first.violation })
    by_test true = refl
    by_test false = refl
told_fewer None m = refl

if_told : (b : Option Fewest) → violation_of_fewest b ≡ violation_if (as_told b)
if_told (Some m) = refl
if_told None = refl

module _ (users : ℕ → NumberRule) (env : ℕ → Outcome) (depends : ℕ → Bool) where
  args_fewest : (a : Arguments) (items : List Term) → as_told (fold with_argument a (map (share_of users env depends) items)).fewest ≡ fold fewer_told (as_told a.fewest) (map (told_of users env depends) items)
  args_fewest a [] = refl
  args_fewest a (t ∷ items) =
      args_fewest (with_argument a (share_of users env depends t)) items
      ∙ ap (λ b. fold fewer_told b (map (told_of users env depends) items)) (told_fewer a.fewest (record { number = number_if (share_of users env depends t).outcome; violation = (share_of users env depends t).violation }))

  pub fewest_is : (items : List Term) → violation_of_fewest (arguments_of (map (share_of users env depends) items)).fewest ≡ violation_if (fewest_told (map (told_of users env depends) items))
  fewest_is items = if_told (arguments_of (map (share_of users env depends) items)).fewest ∙ ap violation_if (args_fewest no_arguments items)

-- ---- sums of violations
total_more : (xs : List ℤ) (x : ℤ) → total (xs ++ x ∷ []) ≡ (total xs +ℤ x)
total_more [] x = omega (arith, ints)
total_more (y ∷ xs) x = omega (arith, ints, total_more xs x)

gather_fault : (fault : RunFault) (vs : List (Result ℤ RunFault)) → fold gather_violation (Err fault) vs ≡ Err fault
gather_fault fault [] = refl
gather_fault fault (v ∷ vs) = gather_fault fault vs

add_fault : (fault : RunFault) (vs : List (Result ℤ RunFault)) → fold add_told (Err fault) vs ≡ Err fault
add_fault fault [] = refl
add_fault fault (v ∷ vs) = add_fault fault vs

sum_from : (xs : List ℤ) (vs : List (Result ℤ RunFault)) → total_violation (fold gather_violation (Ok xs) vs) ≡ fitted (fold add_told (Ok (total xs)) vs)
unfolding all_of_violations
sum_from xs [] = refl
sum_from xs (Ok x ∷ vs) = sum_from (xs ++ x ∷ []) vs ∙ ap (λ n. fitted (fold add_told (Ok n) vs)) (total_more xs x)
sum_from xs (Err fault ∷ vs) = ap total_violation (gather_fault fault vs) ∙ sym (ap fitted (add_fault fault vs))

pub sum_is : (vs : List (Result ℤ RunFault)) → total_violation (fold gather_violation (Ok []) vs) ≡ fitted (fold add_told (Ok (pos 0)) vs)
sum_is vs = sum_from [] vs
