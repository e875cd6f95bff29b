use Rattle.std.proofs.Common.{◌∙◌, sym, subst, ap}
use Rattle.comet_meaning.specs.Outcome.{Went}
use Rattle.run_steps.specs.OfRunState.Views.{state_seen}
use Rattle.run_steps.specs.Does.{Does}
use Rattle.constraint_forms.proofs.CallLaws.{all_different_as, at_most_as, at_least_as, exactly_as, knapsack_as, multi_knapsack_as, sequence_as, call_of_others}
use Rattle.constraint_forms.proofs.calls.constraint_call.Goals as goal

pub returns-in-AllDifferent : goal.returns-in-AllDifferent
returns-in-AllDifferent g c = record { did = rw c.in-AllDifferent.is (subst (Does _ _ _) (sym (all_different_as _ _ _ _)) c.all_different_call.ensures.did) }

pub returns-in-AtMost : goal.returns-in-AtMost
returns-in-AtMost g c = record { did = rw c.in-AtMost.is (subst (Does _ _ _) (sym (at_most_as _ _ _ _)) c.bounded_call.ensures.did) }

pub returns-in-AtLeast : goal.returns-in-AtLeast
returns-in-AtLeast g c = record { did = rw c.in-AtLeast.is (subst (Does _ _ _) (sym (at_least_as _ _ _ _)) c.bounded_call-in-AtLeast.ensures.did) }

pub returns-in-Exactly : goal.returns-in-Exactly
returns-in-Exactly g c = record { did = rw c.in-Exactly.is (subst (Does _ _ _) (sym (exactly_as _ _ _ _)) c.bounded_call-in-Exactly.ensures.did) }

pub returns-in-Knapsack : goal.returns-in-Knapsack
returns-in-Knapsack g c = record { did = rw c.in-Knapsack.is (subst (Does _ _ _) (sym (knapsack_as _ _ _ _)) c.knapsack_call.ensures.did) }

pub returns-in-MultiKnapsack : goal.returns-in-MultiKnapsack
returns-in-MultiKnapsack g c = record { did = rw c.in-MultiKnapsack.is (subst (Does _ _ _) (sym (multi_knapsack_as _ _ _ _)) c.multi_knapsack_call.ensures.did) }

pub returns-in-Sequence : goal.returns-in-Sequence
returns-in-Sequence g c = record { did = rw c.in-Sequence.is (subst (Does _ _ _) (sym (sequence_as _ _ _ _)) c.sequence_call.ensures.did) }

pub returns-in_default : goal.returns-in_default
returns-in_default g c = record { did = call_of_others _ _ _ _ _ c.in_default.not-AllDifferent c.in_default.not-AtMost c.in_default.not-AtLeast c.in_default.not-Exactly c.in_default.not-Knapsack c.in_default.not-MultiKnapsack c.in_default.not-Sequence ∙ (ap (λ t. Went t (state_seen c.args.s.now (g.O.Outside.told c.args.out.now))) (sym c.constant.ensures)) }
