-- What a solver keeps fits its state after each change of it.
use Rattle.std.proofs.Common.{◌≡◌, ℕ, ℤ, zero, suc, ◌+◌, ◌<◌, ◌^◌, Bool, true, false, ◌||◌, List, [], ◌∷◌, ◌++◌, Option, Some, None, Result, Ok, Err, is_some, length, lit<, refl, sym, ap, ◌∙◌, subst, arith, set, length-set, true≢false}
use Rattle.std.specs.Prelude.{OnErr, OnOk, nat_eq, nat_lt, unwrap_or, if◌then◌else◌}
use Rattle.cbl_base.specs.declared.faults.NoMemory.{NoMemory}
use Rattle.cbl_base.specs.declared.faults.Limit.TheVariants.{Variables}
use Rattle.cbl_base.specs.declared.faults.RunFault.TheVariants.{AlreadyClosed, TooMany}
use Rattle.cbl_base.specs.declared.limits.TheConstants.{MAX_VARIABLES}
use native.Mathlib.Decide.{ℕ_discrete}
use Rattle.cbl_base.proofs.PlaceLemmas.{others_stay}
use Rattle.cbl_base.specs.declared.place.Place.{Place}
use Rattle.solver_models.specs.Adding.{GetsMember}
use Rattle.solver_models.specs.Declaring.{GetsVariable}
use Rattle.solver_models.specs.Defining.{GetsDefinition, distinct_with}
use Rattle.solver_models.specs.Ids.{has_definition}
use Rattle.solver_models.specs.Kept.{AreMarks, IsClosable, IsCounted, IsKept, mark_at}
use Rattle.solver_models.specs.State.{IsSameModel}
use Rattle.solver_models.specs.Totals.{GetsTotal}
use Rattle.solver_models.proofs.DefinitionLaws.{formed_defined, has_more, named_push, subterms_more, users_same}
use Rattle.solver_models.proofs.MemberLaws.{definitions_with_member, formed_with_member, subterms_with_member, users_more, users_with_member}
use Rattle.solver_models.proofs.ModelLaws.{IsEmpty, IsGrown, definitions_same, formed_empty, formed_grown, grown_same, grown_variable, nothing_defined, subterms_same, users_grown}
use Rattle.solver_models.proofs.TotalLaws.{definitions_with_total, formed_with_total, subterms_with_total, users_with_total}
use Rattle.term_count.specs.Counting.{Counts}
use Rattle.term_count.specs.declared.subterms.Subterms.{Subterms}
use Rattle.term_model.specs.Naming.{NamesEachOnce, users_of, users_posted}
use Rattle.term_model.specs.Subterms.{distinct_subterms}
use Rattle.term_model.specs.Wellformed.{IsDefinition, IsMember}
use Rattle.term_model.specs.declared.model.Definition.{Definition}
use Rattle.term_model.specs.declared.model.Member.{Member}
use Rattle.term_model.specs.declared.model.Model.{Model}
use Rattle.term_model.specs.declared.model.VarDecl.{VarDecl}
use Rattle.term_model.specs.declared.posting.Side.{Side}
use Rattle.term_model.proofs.VarLaws.{set_same}
use Rattle.posted_users.specs.KeptRule.{KeptRule}

open_ : {X : Type 0} (closed : Bool) → closed ≡ false → closed ≡ true → X
open_ closed e h = absurd (true≢false (sym h ∙ e))

-- ---- marks
mark_push : (marks : List Bool) (i : ℕ) → mark_at (marks ++ false ∷ []) i ≡ mark_at marks i
mark_push [] zero = refl
mark_push [] (suc i) = refl
mark_push (m ∷ marks) zero = refl
mark_push (m ∷ marks) (suc i) = mark_push marks i

mark_set : (marks : List Bool) (x i : ℕ) → x < length marks → mark_at (set marks x true) i ≡ (nat_eq x i || mark_at marks i)
mark_set marks x i lt = cases (ℕ_discrete i x)
  where
    eq_from : (a b : ℕ) → a ≡ b → nat_eq a b ≡ true
    eq_from a b e = grind (arith, e)

    ne_from : (a b : ℕ) → (b ≡ a → ⊥) → nat_eq a b ≡ false
    ne_from a b ne = by (nat_eq a b) refl
      where
        by : (t : Bool) → nat_eq a b ≡ t → nat_eq a b ≡ false
        by true e = absurd (ne (let same : a ≡ b = grind (arith, e) in sym same))
        by false e = e

    cases : Dec (i ≡ x) → mark_at (set marks x true) i ≡ (nat_eq x i || mark_at marks i)
    cases (yes e) = ap (mark_at (set marks x true)) e ∙ ap (λ o. unwrap_or o false) (set_same marks x true lt) ∙ sym (ap (λ b. b || mark_at marks i) (eq_from x i (sym e)))
    cases (no ne) = ap (λ o. unwrap_or o false) (others_stay marks x i true ne) ∙ sym (ap (λ b. b || mark_at marks i) (ne_from x i ne))

-- ---- a new solver
pub empty_kept : (M : Model) (a : List ℤ) (marks : List Bool) → M.vars.items ≡ [] → M.defs.items ≡ [] → M.systems.items ≡ [] → M.objectives.items ≡ [] → M.posted.items ≡ [] →
    a ≡ [] → marks ≡ [] → IsKept M a marks [] None false true
empty_kept M a marks vars defs systems objectives posted assigned marked =
    let empty : IsEmpty M = record { vars = vars; defs = defs; systems = systems; objectives = objectives; posted = posted } in
    record {
      formed = formed_empty M empty;
      few = let none : length M.vars.items ≡ 0 = ap length vars in omega (arith, none);
      assigned = ap length assigned ∙ sym (ap length vars);
      marked = record {
        count = ap length marked ∙ sym (ap length vars);
        each = λ i. ap (λ ms. mark_at ms i) marked ∙ sym (ap is_some (nothing_defined M empty i));
      };
      terms = tt;
      posted = λ _. ap (λ ps. length (users_posted M ps)) posted;
      closable = λ h. open_ false refl h;
    }

-- ---- more variables
counted_same : (M N : Model) (counted : Option Subterms) → distinct_subterms N ≡ distinct_subterms M → IsCounted counted M → IsCounted counted N
counted_same M N None e counted = tt
counted_same M N (Some terms) e counted = subst (Counts terms) (sym e) counted

module _ (M N : Model) (more : List VarDecl) (a after : List ℤ) (marks marked : List Bool) (rules : List KeptRule) (counted : Option Subterms) (closed usable : Bool) (grown : IsGrown M N more) (kept : IsKept M a marks rules counted closed usable) (open' : closed ≡ false)
    (few : length N.vars.items < 2 ^ 32) (long : length after ≡ length N.vars.items) (are : AreMarks N marked) where
  kept_grown : IsKept N after marked rules counted closed usable
  kept_grown = record {
    formed = formed_grown M N more grown kept.formed;
    few = few;
    assigned = long;
    marked = are;
    terms = counted_same M N counted (subterms_same M N more grown) kept.terms;
    posted = λ can. ap length (users_grown M N more grown) ∙ kept.posted can;
    closable = λ h. open_ closed open' h;
  }

pub kept_same : (M N : Model) (a after : List ℤ) (marks marked : List Bool) (rules : List KeptRule) (counted : Option Subterms) (closed usable : Bool) → IsSameModel M N → after ≡ a → marked ≡ marks → closed ≡ false →
    IsKept M a marks rules counted closed usable → IsKept N after marked rules counted closed usable
kept_same M N a after marks marked rules counted closed usable same e f open' kept =
    let count : length N.vars.items ≡ length M.vars.items = ap length same.vars in
    kept_grown M N [] a after marks marked rules counted closed usable (grown_same M N same) kept open' (subst (λ n. n < 2 ^ 32) (sym count) kept.few) (ap length e ∙ kept.assigned ∙ sym count) (record {
      count = ap length f ∙ kept.marked.count ∙ sym count;
      each = λ i. ap (λ ms. mark_at ms i) f ∙ kept.marked.each i ∙ sym (ap is_some (definitions_same M N [] (grown_same M N same) i));
    })

length_push : {X : Type 0} (xs : List X) (x : X) → length (xs ++ x ∷ []) ≡ length xs + 1
length_push [] x = refl
length_push (y ∷ xs) x = let rest = length_push xs x in omega (arith, rest)

pub kept_variable : (M N : Model) (decl : VarDecl) (start : ℤ) (a after : List ℤ) (marks marked : List Bool) (rules : List KeptRule) (counted : Option Subterms) (closed usable : Bool) → GetsVariable M N decl → after ≡ a ++ start ∷ [] → marked ≡ marks ++ false ∷ [] →
    closed ≡ false → length M.vars.items + 1 < 2 ^ 32 → IsKept M a marks rules counted closed usable → IsKept N after marked rules counted closed usable
kept_variable M N decl start a after marks marked rules counted closed usable gets e f open' few kept =
    let count : length N.vars.items ≡ length M.vars.items + 1 = ap length gets.vars ∙ length_push M.vars.items decl in
    kept_grown M N (decl ∷ []) a after marks marked rules counted closed usable (grown_variable M N decl gets) kept open' (subst (λ n. n < 2 ^ 32) (sym count) few)
    (ap length e ∙ length_push a start ∙ ap (λ n. n + 1) kept.assigned ∙ sym count) (record {
      count = ap length f ∙ length_push marks false ∙ ap (λ n. n + 1) kept.marked.count ∙ sym count;
      each = λ i. ap (λ ms. mark_at ms i) f ∙ mark_push marks i ∙ kept.marked.each i ∙ sym (ap is_some (definitions_same M N (decl ∷ []) (grown_variable M N decl gets) i));
    })

-- ---- one more definition
pub kept_definition : (M N : Model) (def : Definition) (a : List ℤ) (marks marked : List Bool) (rules : List KeptRule) (counted : Option Subterms) (after : Subterms) (closed usable : Bool) → GetsDefinition M N def → marked ≡ set marks def.var.index true → closed ≡ false →
    has_definition M def.var.index ≡ false → IsDefinition M def → users_of def.term ≡ [] → Counts after (distinct_with (distinct_subterms M) def.term) → IsKept M a marks rules counted closed usable → IsKept N a marked rules (Some after) closed usable
kept_definition M N def a marks marked rules counted after closed usable gets e open' free is none counts kept =
    let count : length N.vars.items ≡ length M.vars.items = ap length gets.vars in
    record {
      formed = formed_defined M N def kept.formed gets free is none;
      few = subst (λ n. n < 2 ^ 32) (sym count) kept.few;
      assigned = kept.assigned ∙ sym count;
      marked = record {
        count = ap length e ∙ length-set marks def.var.index true ∙ kept.marked.count ∙ sym count;
        each = λ i. ap (λ ms. mark_at ms i) e ∙ mark_set marks def.var.index i (subst (λ n. def.var.index < n) (sym kept.marked.count) is.var)
            ∙ ap (λ b. nat_eq def.var.index i || b) (kept.marked.each i) ∙ sym (has_more M N def kept.formed gets i);
      };
      terms = subst (Counts after) (sym (subterms_more M N def kept.formed gets)) counts;
      posted = λ can. ap length (users_same M N def kept.formed gets none) ∙ kept.posted can;
      closable = λ h. open_ closed open' h;
    }

-- ---- one more system or objective, and one more member
pub kept_total : (M N : Model) (side : Side) (place : Place) (a : List ℤ) (marks : List Bool) (rules : List KeptRule) (counted : Option Subterms) (closed usable : Bool) → GetsTotal M N side place → closed ≡ false →
    IsKept M a marks rules counted closed usable → IsKept N a marks rules counted closed usable
kept_total M N side place a marks rules counted closed usable gets open' kept =
    let count : length N.vars.items ≡ length M.vars.items = ap length gets.vars in
    record {
      formed = formed_with_total M N side place gets kept.formed;
      few = subst (λ n. n < 2 ^ 32) (sym count) kept.few;
      assigned = kept.assigned ∙ sym count;
      marked = record {
        count = kept.marked.count ∙ sym count;
        each = λ i. kept.marked.each i ∙ sym (ap is_some (definitions_with_total M N side place gets i));
      };
      terms = counted_same M N counted (subterms_with_total M N side place gets) kept.terms;
      posted = λ can. ap length (users_with_total M N side place gets) ∙ kept.posted can;
      closable = λ h. open_ closed open' h;
    }

pub kept_member : (M N : Model) (side : Side) (k : ℕ) (member : Member) (a : List ℤ) (marks : List Bool) (rules : List KeptRule) (counted : Option Subterms) (after : Subterms) (closed usable : Bool) → GetsMember M N side k member → closed ≡ false →
    IsMember M member → users_of member.term ≡ [] → Counts after (distinct_with (distinct_subterms M) member.term) → IsKept M a marks rules counted closed usable → IsKept N a marks rules (Some after) closed usable
kept_member M N side k member a marks rules counted after closed usable gets open' is none counts kept =
    let count : length N.vars.items ≡ length M.vars.items = ap length gets.vars in
    record {
      formed = formed_with_member M N side k member kept.formed gets is (subst (λ ns. NamesEachOnce ns (length ns)) (sym (users_with_member M N side k member kept.formed gets none)) kept.formed.users);
      few = subst (λ n. n < 2 ^ 32) (sym count) kept.few;
      assigned = kept.assigned ∙ sym count;
      marked = record {
        count = kept.marked.count ∙ sym count;
        each = λ i. kept.marked.each i ∙ sym (ap is_some (definitions_with_member M N side k member kept.formed gets i));
      };
      terms = subst (Counts after) (sym (subterms_with_member M N side k member kept.formed gets)) counts;
      posted = λ can. ap length (users_with_member M N side k member kept.formed gets none) ∙ kept.posted can;
      closable = λ h. open_ closed open' h;
    }

-- one more user's constraint, and its rule
pub kept_user : (M N : Model) (side : Side) (k : ℕ) (member : Member) (rule : KeptRule) (a : List ℤ) (marks : List Bool) (rules : List KeptRule) (counted : Option Subterms) (after : Subterms) (closed usable : Bool) → usable ≡ true → GetsMember M N side k member → closed ≡ false →
    IsMember M member → users_of member.term ≡ length rules ∷ [] → Counts after (distinct_with (distinct_subterms M) member.term) → IsKept M a marks rules counted closed usable → IsKept N a marks (rules ++ rule ∷ []) (Some after) closed usable
kept_user M N side k member rule a marks rules counted after closed usable can gets open' is numbered counts kept =
    let count : length N.vars.items ≡ length M.vars.items = ap length gets.vars in
    let us = users_posted M M.posted.items in
    let more : users_posted N N.posted.items ≡ us ++ length us ∷ [] = users_more M N side k member kept.formed gets ∙ ap (λ ns. us ++ ns) numbered ∙ ap (λ n. us ++ n ∷ []) (sym (kept.posted can)) in
    let named : NamesEachOnce (users_posted N N.posted.items) (length (users_posted N N.posted.items)) =
    subst (λ ns. NamesEachOnce ns (length ns)) (sym more) (subst (NamesEachOnce (us ++ length us ∷ [])) (sym (length_push us (length us))) (named_push us (length us) kept.formed.users)) in
    record {
      formed = formed_with_member M N side k member kept.formed gets is named;
      few = subst (λ n. n < 2 ^ 32) (sym count) kept.few;
      assigned = kept.assigned ∙ sym count;
      marked = record {
        count = kept.marked.count ∙ sym count;
        each = λ i. kept.marked.each i ∙ sym (ap is_some (definitions_with_member M N side k member kept.formed gets i));
      };
      terms = subst (Counts after) (sym (subterms_with_member M N side k member kept.formed gets)) counts;
      posted = λ can. ap length more ∙ length_push us (length us) ∙ ap (λ n. n + 1) (kept.posted can) ∙ sym (length_push rules rule);
      closable = λ h. open_ closed open' h;
    }

-- ---- a solver that can't be used any more, one that was closed, and other numbers
pub kept_unusable : (M : Model) (a after : List ℤ) (marks : List Bool) (rules : List KeptRule) (counted : Option Subterms) (closed usable : Bool) → length after ≡ length a → IsKept M a marks rules counted closed usable → IsKept M after marks rules counted closed false
kept_unusable M a after marks rules counted closed usable long kept = record {
  formed = kept.formed;
  few = kept.few;
  assigned = long ∙ kept.assigned;
  marked = kept.marked;
  terms = kept.terms;
  posted = λ can. open_ false refl can;
  closable = kept.closable;
}

pub kept_open : (M : Model) (a after : List ℤ) (marks : List Bool) (rules : List KeptRule) (counted : Option Subterms) (closed usable : Bool) → length after ≡ length a → closed ≡ false → IsKept M a marks rules counted closed usable → IsKept M after marks rules counted closed usable
kept_open M a after marks rules counted closed usable long open' kept = record {
  formed = kept.formed;
  few = kept.few;
  assigned = long ∙ kept.assigned;
  marked = kept.marked;
  terms = kept.terms;
  posted = kept.posted;
  closable = kept.closable;
}

pub kept_closed : (M : Model) (a after : List ℤ) (marks : List Bool) (rules : List KeptRule) (counted : Option Subterms) (closed usable : Bool) → length after ≡ length a → IsClosable M → IsKept M a marks rules counted closed usable → IsKept M after marks rules counted true usable
kept_closed M a after marks rules counted closed usable long closable kept = record {
  formed = kept.formed;
  few = kept.few;
  assigned = long ∙ kept.assigned;
  marked = kept.marked;
  terms = kept.terms;
  posted = kept.posted;
  closable = λ _. closable;
}

-- the same with other rules, where it can't be used any more
pub kept_lost : (M : Model) (a after : List ℤ) (marks : List Bool) (rules others : List KeptRule) (counted : Option Subterms) (closed usable : Bool) → length after ≡ length a → IsKept M a marks rules counted closed usable → IsKept M after marks others counted closed false
kept_lost M a after marks rules others counted closed usable long kept = record {
  formed = kept.formed;
  few = kept.few;
  assigned = long ∙ kept.assigned;
  marked = kept.marked;
  terms = kept.terms;
  posted = λ can. open_ false refl can;
  closable = kept.closable;
}

-- ---- the same whatever was answered
pub kept_pushed : (result : Result (Unit {0}) NoMemory) (M N : Model) (decl : VarDecl) (start : ℤ) (a after : List ℤ) (marks marked : List Bool) (rules : List KeptRule) (counted : Option Subterms) (closed usable : Bool) → OnOk result (GetsVariable M N decl) → OnOk result (after ≡ a ++ start ∷ []) → OnOk result (marked ≡ marks ++ false ∷ []) →
    OnErr result (IsSameModel M N) → OnErr result (after ≡ a) → OnErr result (marked ≡ marks) → closed ≡ false → length M.vars.items + 1 < 2 ^ 32 → IsKept M a marks rules counted closed usable → IsKept N after marked rules counted closed usable
kept_pushed (Ok done) M N decl start a after marks marked rules counted closed usable gets e f same e' f' open' few kept = kept_variable M N decl start a after marks marked rules counted closed usable gets e f open' few kept
kept_pushed (Err stop) M N decl start a after marks marked rules counted closed usable gets e f same e' f' open' few kept = kept_same M N a after marks marked rules counted closed usable same e' f' open' kept

-- an open solver with room for a variable
pub open_room : (closed : Bool) (n : ℕ) → (if closed then Some AlreadyClosed else (if nat_lt n MAX_VARIABLES then None else Some (TooMany Variables))) ≡ None → (closed ≡ false) × (n + 1 < 2 ^ 32)
open_room true n e = let c : Some AlreadyClosed ≡ None = e in cc
open_room false n e = by (nat_lt n MAX_VARIABLES) refl e
  where
    by : (b : Bool) → nat_lt n MAX_VARIABLES ≡ b → (if b then None else Some (TooMany Variables)) ≡ None → (false ≡ false) × (n + 1 < 2 ^ 32)
    by true h k = (refl, near n MAX_VARIABLES (2 ^ 32) (lt_from n MAX_VARIABLES h) (lit< tt))
      where
        lt_from : (m p : ℕ) → nat_lt m p ≡ true → m < p
        lt_from m p g = grind (arith, g)

        near : (m p q : ℕ) → m < p → p < q → m + 1 < q
        near m p q g l = omega (arith, g, l)
    by false h k = let c : Some (TooMany Variables) ≡ None = k in cc
