-- A defined variable equals its definition's term, and what is known of the variables that a term names is
-- enough for what it comes to.
use Rattle.std.proofs.Common.{◌≡◌, ℕ, ℤ, zero, suc, ◌<◌, true, List, [], ◌∷◌, Option, Some, None, length, refl, sym, ap, ◌∙◌, subst, arith, Contains, true≢false, slice_get, set, get_or, map, Vec, Global, ◌&&◌, length-set}
use Rattle.std.specs.Prelude.{unwrap_or, IfSome}
use native.Mathlib.Decide.{ℕ_discrete}
use Rattle.std.specs.List.{list_all}
use Rattle.std.proofs.lemmas.List.{length-map}
use Rattle.std.proofs.lemmas.List.Elements.{All-contains, Contains-append_left, Contains-append_right, Contains-push}
use Rattle.std.proofs.lemmas.List.Sums.{AllPass-from_list_all}
use Rattle.cbl_base.proofs.PlaceLemmas.{others_stay}
use Rattle.cbl_base.specs.Inputs.{kind_of}
use Rattle.cbl_base.specs.declared.input.Input.{Input}
use Rattle.cbl_base.specs.declared.input.Input.TheVariants.{Int}
use Rattle.std.specs.Option.{option_map}
use Rattle.cbl_base.specs.NumberRule.{NumberRule}
use Rattle.term_model.specs.Definitions.{definition_of, term_of, named_by, vars_named, vars_of, DependsOn, IsAcyclic}
use Rattle.model_values.specs.Outcomes.{Outcome, outcome_of, env_of, known}
use Rattle.model_values.specs.Settling.{is_there, is_known, IsRight, KeepsKnown, AreTables}
use Rattle.term_model.specs.Kinds.{kinds_in}
use Rattle.model_values.specs.VarOutcomes.{outcome_by, outcome_of_term, outcomes_through, outcome_of_var}
use Rattle.term_model.specs.declared.model.Definition.{Definition}
use Rattle.term_model.specs.declared.model.Model.{Model}
use Rattle.term_model.specs.declared.term.Term.{Term}
use Rattle.term_model.proofs.VarLaws.{named_at, set_same}
use Rattle.model_values.proofs.Congruence.{same_outcome}

-- ---- a defined variable equals its term
module _ (users : ℕ → NumberRule) (M : Model) (a : List ℤ) (acyclic : IsAcyclic M) where
  same_by_term : (env other : ℕ → Outcome) (term : Option Term) → ((d : ℕ) → Contains (vars_named term) d → env d ≡ other d) → outcome_of_term users env term ≡ outcome_of_term users other term
  same_by_term env other (Some term) agree = same_outcome users env other term agree
  same_by_term env other None agree = refl

  pub same_by : (env other : ℕ → Outcome) (i : ℕ) (entry : Option ℕ) → ((d : ℕ) → Contains (named_by M.defs.items entry) d → env d ≡ other d) → outcome_by users M a env i entry ≡ outcome_by users M a other i entry
  same_by env other i (Some d) agree = same_by_term env other (term_of M.defs.items d) agree
  same_by env other i None agree = refl

  through_step : (n i : ℕ) → outcomes_through users M a (suc n) i ≡ outcome_by users M a (outcomes_through users M a n) i (definition_of M i)
  unfolding outcomes_through
  through_step n i = refl

  -- more definitions than the variable's rank change nothing
  through_more : (n i : ℕ) → acyclic.rank i < n → outcomes_through users M a n i ≡ outcomes_through users M a (suc n) i
  through_more zero i lt = absurd (omega arith)
  through_more (suc n) i lt =
      through_step n i
      ∙ same_by (outcomes_through users M a n) (outcomes_through users M a (suc n)) i (definition_of M i) (λ d in'. let falls = acyclic.falls i d in' in through_more n d (omega arith))
      ∙ sym (through_step (suc n) i)

  pub equals_definition : (i : ℕ) → i < length M.vars.items → outcome_of_var users M a i ≡ outcome_by users M a (outcome_of_var users M a) i (definition_of M i)
  equals_definition i lt = through_more (length M.vars.items) i (acyclic.within i lt) ∙ through_step (length M.vars.items) i

  -- ---- what is known is enough
  known_is : (cell : Option (Option Outcome)) (v : Outcome) → is_there cell ≡ true → ((o : Outcome) → cell ≡ Some (Some o) → o ≡ v) → known cell ≡ v
  known_is (Some (Some o)) v there right = right o refl
  known_is (Some None) v there right = absurd (true≢false (sym there))
  known_is None v there right = absurd (true≢false (sym there))

  pub known_term : (cells : List (Option Outcome)) → IsRight users M a cells → (i : ℕ) → i < length M.vars.items → (n : ℕ) (def : Definition) → definition_of M i ≡ Some n → slice_get M.defs.items n ≡ Some def →
      ((d : ℕ) → DependsOn M i d → is_known cells d ≡ true) → outcome_of users (env_of cells) def.term ≡ outcome_of_var users M a i
  known_term cells right i lt n def is there ready =
      let term : term_of M.defs.items n ≡ Some def.term = ap (option_map (λ (d : Definition). d.term)) there in
      let names : named_by M.defs.items (definition_of M i) ≡ vars_of def.term = ap (named_by M.defs.items) is ∙ ap vars_named term in
      let agree : (d : ℕ) → Contains (vars_of def.term) d → env_of cells d ≡ outcome_of_var users M a d =
      λ d in'. known_is (slice_get cells d) (outcome_of_var users M a d) (ready d (subst (λ vs. Contains vs d) (sym names) in')) (right.right d) in
      same_outcome users (env_of cells) (outcome_of_var users M a) def.term agree
      ∙ sym (equals_definition i lt ∙ ap (outcome_by users M a (outcome_of_var users M a) i) is ∙ ap (outcome_of_term users (outcome_of_var users M a)) term)

  -- ---- what a free variable comes to
  pub free_outcome : (i : ℕ) → i < length M.vars.items → definition_of M i ≡ None → option_map (λ z. Int z) (slice_get a i) ≡ outcome_of_var users M a i
  free_outcome i lt free = sym (equals_definition i lt ∙ ap (outcome_by users M a (outcome_of_var users M a) i) free)

-- ---- one outcome more
pub known_set : (cells after : List (Option Outcome)) (i : ℕ) (o : Outcome) → i < length cells → after ≡ set cells i (Some o) → is_known after i ≡ true
known_set cells after i o lt e = ap (λ cs. is_known cs i) e ∙ ap is_there (set_same cells i (Some o) lt)

pub kept_set : (cells after : List (Option Outcome)) (i : ℕ) (o : Outcome) → i < length cells → after ≡ set cells i (Some o) → KeepsKnown cells after
kept_set cells after i o lt e k known = cases (ℕ_discrete k i)
  where
    cases : Dec (k ≡ i) → is_known after k ≡ true
    cases (yes is) = subst (λ j. is_known after j ≡ true) (sym is) (known_set cells after i o lt e)
    cases (no ne) = ap (λ cs. is_known cs k) e ∙ ap is_there (others_stay cells i k (Some o) ne) ∙ known

module _ (users : ℕ → NumberRule) (M : Model) (a : List ℤ) (cells : List (Option Outcome)) (i : ℕ) (o : Outcome) (right : IsRight users M a cells) (lt : i < length cells)
    (is : o ≡ outcome_of_var users M a i) (kind : IfSome o (λ x. kinds_in M.vars.items i ≡ Some (kind_of x))) where
  right_there : (k : ℕ) (p : Outcome) → Dec (k ≡ i) → slice_get (set cells i (Some o)) k ≡ Some (Some p) → p ≡ outcome_of_var users M a k
  right_there k p (yes same) e =
      let there : Some (Some o) ≡ Some (Some p) = sym (set_same cells i (Some o) lt) ∙ ap (slice_get (set cells i (Some o))) (sym same) ∙ e in
      let one : o ≡ p = ap known there in
      sym one ∙ is ∙ ap (outcome_of_var users M a) (sym same)
  right_there k p (no ne) e = right.right k p (sym (others_stay cells i k (Some o) ne) ∙ e)

  of_kind : (k : ℕ) (x : Input) → k ≡ i → o ≡ Some x → kinds_in M.vars.items k ≡ Some (kind_of x)
  of_kind k x same e = ap (kinds_in M.vars.items) same ∙ subst (λ p. IfSome p (λ y. kinds_in M.vars.items i ≡ Some (kind_of y))) e kind

  kind_there : (k : ℕ) (x : Input) → Dec (k ≡ i) → env_of (set cells i (Some o)) k ≡ Some x → kinds_in M.vars.items k ≡ Some (kind_of x)
  kind_there k x (yes same) e = of_kind k x same (ap known (sym (set_same cells i (Some o) lt) ∙ ap (slice_get (set cells i (Some o))) (sym same)) ∙ e)
  kind_there k x (no ne) e = right.kinds k x (ap known (sym (others_stay cells i k (Some o) ne)) ∙ e)

  right_here : IsRight users M a (set cells i (Some o))
  right_here = record {
    count = length-set cells i (Some o) ∙ right.count;
    right = λ k p e. right_there k p (ℕ_discrete k i) e;
    kinds = λ k x e. kind_there k x (ℕ_discrete k i) e;
  }

pub right_set : (users : ℕ → NumberRule) (M : Model) (a : List ℤ) (cells after : List (Option Outcome)) (i : ℕ) (o : Outcome) → IsRight users M a cells → i < length M.vars.items →
    o ≡ outcome_of_var users M a i → IfSome o (λ x. kinds_in M.vars.items i ≡ Some (kind_of x)) → after ≡ set cells i (Some o) → IsRight users M a after
right_set users M a cells after i o right lt is kind e =
    subst (IsRight users M a) (sym e) (right_here users M a cells i o right (subst (λ n. i < n) (sym right.count) lt) is kind)

-- ---- which variables a variable waits for
lists_at : (lists : List (Vec ℕ Global)) (i : ℕ) (list : Vec ℕ Global) (names : List ℕ) → list ≡ get_or lists i list → i < length lists → slice_get (map (λ v. v.items) lists) i ≡ Some names → list.items ≡ names
lists_at [] i list names is lt e = absurd (omega arith)
lists_at (v ∷ lists) zero list names is lt e = ap (λ w. w.items) is ∙ ap (λ o. unwrap_or o []) e
lists_at (v ∷ lists) (suc i) list names is lt e = lists_at lists i list names is (omega arith) e

-- the list at a variable's place is that of the variables that its definition names
pub names_of_var : (M : Model) (entries : List (Option ℕ)) (lists : List (Vec ℕ Global)) → AreTables M entries (map (λ v. v.items) lists) → (i : ℕ) (list : Vec ℕ Global) → i < length M.vars.items → list ≡ get_or lists i list →
    list.items ≡ named_by M.defs.items (definition_of M i)
names_of_var M entries lists tables i list lt is =
    let named : slice_get (map (named_by M.defs.items) entries) i ≡ Some (named_by M.defs.items (definition_of M i)) = named_at (named_by M.defs.items) entries i (definition_of M i) (tables.each i lt) in
    let counts : length lists ≡ length M.vars.items = sym (length-map lists (λ v. v.items)) ∙ ap length tables.names ∙ length-map entries (named_by M.defs.items) ∙ tables.count in
    lists_at lists i list (named_by M.defs.items (definition_of M i)) is (subst (λ n. i < n) (sym counts) lt) (ap (λ ls. slice_get ls i) tables.names ∙ named)

pub lists_within : (M : Model) (entries : List (Option ℕ)) (lists : List (Vec ℕ Global)) → AreTables M entries (map (λ v. v.items) lists) → (i : ℕ) → i < length M.vars.items → i < length lists
lists_within M entries lists tables i lt =
    let counts : length lists ≡ length M.vars.items = sym (length-map lists (λ v. v.items)) ∙ ap length tables.names ∙ length-map entries (named_by M.defs.items) ∙ tables.count in
    subst (λ n. i < n) (sym counts) lt

pub all_known : (cells : List (Option Outcome)) (names : List ℕ) → list_all (is_known cells) names ≡ true → (d : ℕ) → Contains names d → is_known cells d ≡ true
all_known cells names h d in' = All-contains (λ n. is_known cells n ≡ true) names d (AllPass-from_list_all (is_known cells) names h) in'

pub known_all : (cells : List (Option Outcome)) (names : List ℕ) → ((d : ℕ) → Contains names d → is_known cells d ≡ true) → list_all (is_known cells) names ≡ true
known_all cells [] h = refl
known_all cells (n ∷ names) h =
    let first : is_known cells n ≡ true = h n (Contains-append_left (n ∷ []) names n (Contains-push [] n)) in
    let others = known_all cells names (λ d in'. h d (Contains-append_right (n ∷ []) names d in')) in
    ap (λ b. b && list_all (is_known cells) names) first ∙ others
