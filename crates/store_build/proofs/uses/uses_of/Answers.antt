use Rattle.std.proofs.Common.{◌≡◌, ◌∙◌, ◌<◌, ◌++◌, ℕ, List, [], length, refl, sym, ap, subst, arith, All, inl, inr}
use Rattle.std.proofs.lemmas.Bool.{cases_lt}
use Rattle.cbl_base.specs.declared.ids.NodeId.{NodeId}
use Rattle.store_turns.specs.Meaning.{ids_of}
use Rattle.store_turns.specs.Telling.{positions, places_in}
use Rattle.store_build.specs.Lists.{list_in}
use Rattle.store_build.specs.Uses.{uses_by}
use Rattle.store_build.proofs.GroupLemmas.{in_past}
use Rattle.store_build.proofs.ListLemmas.{in-read}
use Rattle.store_build.proofs.UseLemmas.{user_before, user_after, user_within}
use Rattle.store_build.proofs.uses.uses_of.Goals as goal

pub loop-user-init : goal.loop-user-init
loop-user-init c =
    let none : (i : ℕ) → list_in c.grow.new.lists.items i ≡ [] = λ i. c.in_ok-grow.ensures.same i ∙ ap (λ xs. list_in xs i) c.new-uses.ensures.items in
    record {
      count = omega (arith, c.in_ok-grow.ensures.count, ap length c.new-uses.ensures.items);
      before = λ i j lt. absurd (omega (arith, lt));
      after = λ i j le. ap (places_in j) (none i);
      users = λ i. subst (λ (us : List (NodeId × ℕ)). All (λ u. u.0.0 < length c.args.inputs.now) us) (sym (none i)) (λ k d lt. absurd (omega (arith, lt)));
    }

pub add_uses-requires-clause-within : goal.add_uses-requires-clause-within
add_uses-requires-clause-within c =
    let lt : c.loop-user.user < length c.args.inputs.now = omega arith in
    let same : c.as_slice.result.now ≡ list_in c.args.inputs.now c.loop-user.user = c.as_slice.ensures.value ∙ in-read c.args.inputs.now c.loop-user.user c.index-inputs-user.result lt c.index-inputs-user.is in
    let all = subst (λ (is : List NodeId). All (λ i. i.0 < length c.args.inputs.now) is) (sym same) (c.requires.within c.loop-user.user) in
    λ k d l. omega (arith, all k d l, c.loop-user.invariant.count)

pub add_uses-requires-clause-few : goal.add_uses-requires-clause-few
add_uses-requires-clause-few c =
    let lt : c.loop-user.user < length c.args.inputs.now = omega arith in
    let same : c.as_slice.result.now ≡ list_in c.args.inputs.now c.loop-user.user = c.as_slice.ensures.value ∙ in-read c.args.inputs.now c.loop-user.user c.index-inputs-user.result lt c.index-inputs-user.is in
    omega (arith, ap length same, c.requires.short c.loop-user.user)

pub loop-user-preserved : goal.loop-user-preserved
loop-user-preserved c =
    let lt : c.loop-user.user < length c.args.inputs.now = omega arith in
    let same : c.as_slice.result.now ≡ list_in c.args.inputs.now c.loop-user.user = c.as_slice.ensures.value ∙ in-read c.args.inputs.now c.loop-user.user c.index-inputs-user.result lt c.index-inputs-user.is in
    let more : (i : ℕ) → list_in c.add_uses.new.uses.items i ≡ list_in c.loop-user.uses.items i ++ uses_by (record { 0 = c.loop-user.user }) (positions i (ids_of (list_in c.args.inputs.now c.loop-user.user))) =
    λ i. c.in_ok-add_uses.ensures.more i ∙ ap (λ (is : List NodeId). list_in c.loop-user.uses.items i ++ uses_by (record { 0 = c.loop-user.user }) (positions i (ids_of is))) same in
    record {
      count = c.in_ok-add_uses.ensures.count ∙ c.loop-user.invariant.count;
      before = user_before c.loop-user.uses.items c.add_uses.new.uses.items (length c.args.inputs.now) c.loop-user.user (record { 0 = c.loop-user.user }) (λ j. ids_of (list_in c.args.inputs.now j)) refl more c.loop-user.invariant.before c.loop-user.invariant.after;
      after = user_after c.loop-user.uses.items c.add_uses.new.uses.items (length c.args.inputs.now) c.loop-user.user (record { 0 = c.loop-user.user }) (λ j. ids_of (list_in c.args.inputs.now j)) refl more c.loop-user.invariant.after;
      users = user_within c.loop-user.uses.items c.add_uses.new.uses.items (length c.args.inputs.now) c.loop-user.user (record { 0 = c.loop-user.user }) (λ j. ids_of (list_in c.args.inputs.now j)) refl more lt c.loop-user.invariant.users;
    }

pub returns-clause-users : goal.returns-clause-users
returns-clause-users c = c.loop-user.invariant.users

pub returns-clause-uses : goal.returns-clause-uses
returns-clause-uses c = λ i j. elim (cases_lt j (length c.args.inputs.now)) [
  | inl lt ↦ c.loop-user.invariant.before i j (omega (arith, lt))
  | inr ge ↦ c.loop-user.invariant.after i j (omega (arith, ge)) ∙ sym (ap (λ (is : List NodeId). positions i (ids_of is)) (in_past c.args.inputs.now j ge))
]
