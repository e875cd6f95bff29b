-- What a solver keeps once it got a system, an objective or a member.
use Rattle.std.proofs.Common.{◌≡◌, ℕ, ℤ, pos, ◌<◌, Bool, true, false, ◌&&◌, List, [], ◌∷◌, ◌++◌, Option, Some, None, Result, Ok, Err, length, refl, subst, arith, true≢false}
use Rattle.std.specs.Prelude.{OnErr, OnOk, int_lt, not, nat_eq, nat_le, nat_lt, if◌then◌else◌}
use Rattle.cbl_base.specs.Inputs.{number_kind}
use Rattle.cbl_base.specs.declared.faults.NoMemory.{NoMemory}
use Rattle.cbl_base.specs.declared.faults.RunFault.TheVariants.{AlreadyClosed, OutOfRange, WrongSolver}
use Rattle.cbl_base.specs.declared.limits.TheConstants.{MAX_TERM_DEPTH}
use Rattle.cbl_base.specs.declared.place.Place.{Place}
use Rattle.solver_models.specs.Adding.{GetsMember, early_member_refusal, is_own_member}
use Rattle.solver_models.specs.Defining.{distinct_with, is_too_deep}
use Rattle.solver_models.specs.Ids.{is_own, names_only}
use Rattle.solver_models.specs.Kept.{IsKept}
use Rattle.solver_models.specs.State.{IsSameModel, SolverState}
use Rattle.solver_models.specs.Totals.{GetsTotal, is_own_total}
use Rattle.solver_models.specs.declared.totals.TotalId.{TotalId}
use Rattle.solver_models.proofs.KeptLaws.{kept_member, kept_same, kept_total, kept_user}
use Rattle.solver_models.proofs.TermLaws.{le_from}
use Rattle.term_count.specs.Counting.{Counts}
use Rattle.term_count.specs.declared.subterms.Subterms.{Subterms}
use Rattle.term_model.specs.Depth.{depth_of}
use Rattle.term_model.specs.Kinds.{kind_of_term, kinds_in}
use Rattle.term_model.specs.Naming.{users_of}
use Rattle.term_model.specs.Posting.{totals_by}
use Rattle.term_model.specs.Subterms.{distinct_subterms}
use Rattle.term_model.specs.Wellformed.{IsMember}
use Rattle.term_model.specs.declared.model.Member.{Member}
use Rattle.term_model.specs.declared.model.Model.{Model}
use Rattle.term_model.specs.declared.posting.Side.{Side}
use Rattle.term_model.specs.declared.term.Term.{Term}
use Rattle.posted_users.specs.KeptRule.{KeptRule}

pub early_parts : (s : SolverState) (k : TotalId) (t : Term) (weight : ℤ) → early_member_refusal s k t weight ≡ None → (s.closed ≡ false) × (is_own_member s k t ≡ true)
early_parts s k t weight e = by s.closed (is_own_member s k t) (int_lt weight (pos 0)) e
  where
    by : (closed own negative : Bool) → (if closed then Some AlreadyClosed else (if not own then Some WrongSolver else (if negative then Some OutOfRange else None))) ≡ None → (closed ≡ false) × (own ≡ true)
    by true own negative h = let c : Some AlreadyClosed ≡ None = h in cc
    by false false negative h = let c : Some WrongSolver ≡ None = h in cc
    by false true negative h = (refl, refl)

first_true : (a b : Bool) → (a && b) ≡ true → a ≡ true
first_true true b h = refl
first_true false b h = h

second_true : (a b : Bool) → (a && b) ≡ true → b ≡ true
second_true true b h = h
second_true false b h = let c : false ≡ true = h in cc

lt_of : (m n : ℕ) → nat_lt m n ≡ true → m < n
lt_of m n h = grind (arith, h)

pub total_within : (s : SolverState) (k : TotalId) → is_own_total s k ≡ true → k.index < length (totals_by s.model k.side)
total_within s k own = lt_of k.index (length (totals_by s.model k.side)) (second_true (nat_eq k.solver s.number) (nat_lt k.index (length (totals_by s.model k.side))) own)

pub member_within : (s : SolverState) (k : TotalId) (t : Term) (weight : ℤ) → early_member_refusal s k t weight ≡ None → k.index < length (totals_by s.model k.side)
member_within s k t weight e = total_within s k (first_true (is_own_total s k) (names_only (is_own s) t) (early_parts s k t weight e).1)

shallow_enough : (b : Bool) → not b ≡ false → b ≡ true
shallow_enough true h = refl
shallow_enough false h = absurd (true≢false h)

module _ (number : ℕ) (M N : Model) (a : List ℤ) (marks : List Bool) (rules : List KeptRule) (counted : Option Subterms) (after : Subterms) (closed usable : Bool) (k : TotalId) (member : Member) (kept : IsKept M a marks rules counted closed usable) where
  abbrev state : SolverState
  state = record { number = number; model = M; assignment = a; rules = rules; closed = closed; usable = usable }

  adds_kept : GetsMember M N k.side k.index member → early_member_refusal state k member.term member.weight ≡ None → is_too_deep member.term ≡ false →
      kind_of_term (kinds_in M.vars.items) member.term ≡ Some number_kind → users_of member.term ≡ [] → Counts after (distinct_with (distinct_subterms M) member.term) → IsKept N a marks rules (Some after) closed usable
  adds_kept gets early shallow kind none counts =
      let is : IsMember M member = record {
        kind = kind;
        depth = le_from (depth_of member.term) MAX_TERM_DEPTH (shallow_enough (nat_le (depth_of member.term) MAX_TERM_DEPTH) shallow);
      } in
      kept_member M N k.side k.index member a marks rules counted after closed usable gets (early_parts state k member.term member.weight early).0 is none counts kept

  user_kept : (rule : KeptRule) → usable ≡ true → GetsMember M N k.side k.index member → early_member_refusal state k member.term member.weight ≡ None → is_too_deep member.term ≡ false →
      kind_of_term (kinds_in M.vars.items) member.term ≡ Some number_kind → users_of member.term ≡ length rules ∷ [] → Counts after (distinct_with (distinct_subterms M) member.term) → IsKept N a marks (rules ++ rule ∷ []) (Some after) closed usable
  user_kept rule can gets early shallow kind numbered counts =
      let is : IsMember M member = record {
        kind = kind;
        depth = le_from (depth_of member.term) MAX_TERM_DEPTH (shallow_enough (nat_le (depth_of member.term) MAX_TERM_DEPTH) shallow);
      } in
      kept_user M N k.side k.index member rule a marks rules counted after closed usable can gets (early_parts state k member.term member.weight early).0 is numbered counts kept

  same_kept : IsSameModel M N → early_member_refusal state k member.term member.weight ≡ None → IsKept N a marks rules counted closed usable
  same_kept same early = kept_same M N a a marks marks rules counted closed usable same refl refl (early_parts state k member.term member.weight early).0 kept

  module _ (s : SolverState) (view : state ≡ s) where
    pub member_there : GetsMember M N k.side k.index member → early_member_refusal s k member.term member.weight ≡ None → is_too_deep member.term ≡ false →
        kind_of_term (kinds_in s.model.vars.items) member.term ≡ Some number_kind → users_of member.term ≡ [] → Counts after (distinct_with (distinct_subterms s.model) member.term) → IsKept N a marks rules (Some after) closed usable
    member_there gets = subst (λ (t : SolverState). early_member_refusal t k member.term member.weight ≡ None → is_too_deep member.term ≡ false → kind_of_term (kinds_in t.model.vars.items) member.term ≡ Some number_kind → users_of member.term ≡ [] →
        Counts after (distinct_with (distinct_subterms t.model) member.term) → IsKept N a marks rules (Some after) closed usable) view (adds_kept gets)

    pub user_there : (rule : KeptRule) → usable ≡ true → GetsMember M N k.side k.index member → early_member_refusal s k member.term member.weight ≡ None → is_too_deep member.term ≡ false →
        kind_of_term (kinds_in s.model.vars.items) member.term ≡ Some number_kind → users_of member.term ≡ length s.rules ∷ [] → Counts after (distinct_with (distinct_subterms s.model) member.term) → IsKept N a marks (rules ++ rule ∷ []) (Some after) closed usable
    user_there rule can gets = subst (λ (t : SolverState). early_member_refusal t k member.term member.weight ≡ None → is_too_deep member.term ≡ false → kind_of_term (kinds_in t.model.vars.items) member.term ≡ Some number_kind → users_of member.term ≡ length t.rules ∷ [] →
        Counts after (distinct_with (distinct_subterms t.model) member.term) → IsKept N a marks (rules ++ rule ∷ []) (Some after) closed usable) view (user_kept rule can gets)

    pub no_member_there : IsSameModel M N → early_member_refusal s k member.term member.weight ≡ None → IsKept N a marks rules counted closed usable
    no_member_there same = subst (λ (t : SolverState). early_member_refusal t k member.term member.weight ≡ None → IsKept N a marks rules counted closed usable) view (same_kept same)

pub kept_made : (result : Result ℕ NoMemory) (M N : Model) (side : Side) (place : Place) (a : List ℤ) (marks : List Bool) (rules : List KeptRule) (counted : Option Subterms) (closed usable : Bool) → OnOk result (GetsTotal M N side place) → OnErr result (IsSameModel M N) → closed ≡ false →
    IsKept M a marks rules counted closed usable → IsKept N a marks rules counted closed usable
kept_made (Ok index) M N side place a marks rules counted closed usable gets same open' kept = kept_total M N side place a marks rules counted closed usable gets open' kept
kept_made (Err stop) M N side place a marks rules counted closed usable gets same open' kept = kept_same M N a a marks marks rules counted closed usable same refl refl open' kept
