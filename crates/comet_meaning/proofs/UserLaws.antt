-- The violations of a system that holds a user's constraint over three variables.
use Rattle.std.proofs.Common.{◌≡◌, refl, ap, ◌∙◌, ℕ, ℤ, pos, List, [], ◌∷◌, Some, Result, Ok, Vec}
use Rattle.std.specs.declared.alloc.Global.{Global}
use Rattle.cbl_base.specs.declared.ids.VarId.{VarId}
use Rattle.cbl_base.specs.declared.place.Place.{Place}
use Rattle.cbl_base.specs.NumberRule.{NumberRule}
use Rattle.cbl_operations.specs.declared.op.Op.{Op}
use Rattle.cbl_operations.specs.declared.op.Op.TheVariants.{User}
use Rattle.term_model.specs.declared.term.Term.{Term}
use Rattle.term_model.specs.declared.term.Term.TheOpen.{Term-F}
use Rattle.term_model.specs.declared.term.Term.TheFolds.{fold-Term, fold-roll-Term}
use Rattle.posted_users.specs.KeptRule.{KeptRule, half, most, users_of}
use Rattle.model_values.specs.Outcomes.{Outcome, gathered, operated, outcome_of, outcome_step}
use Rattle.model_values.specs.VarOutcomes.{outcome_of_var}
use Rattle.model_values.specs.Wholes.{gather_number, sum_of, sum_or}
use Rattle.model_values.specs.Support.{failure_below}
use Rattle.model_values.specs.declared.failure.Failure.{Failure}
use Rattle.model_values.specs.declared.wholes.Whole.TheVariants.{System}
use Rattle.model_view.specs.Building.{node, variable}
use Rattle.comet_meaning.specs.Examples.{column}
use Rattle.comet_meaning.specs.UserExamples.{all_equal, increasing, posted_over, violations_over}
use Rattle.comet_meaning.proofs.Computing.{everything}

-- a fold of an operation over three variables, which looks at no more of these than what they come to
node_fold : {A : Type 0} (step : Term-F A → A) (g : List A → A) (op : Op) (at : Place) (x y z : VarId) → ((args : Vec A Global) → step (Term-F.Node op args at) ≡ g args.items) →
    fold-Term A step (node op (variable x ∷ variable y ∷ variable z ∷ []) at) ≡ g (step (Term-F.Var x) ∷ step (Term-F.Var y) ∷ step (Term-F.Var z) ∷ [])
node_fold {A = A} step g op at x y z blind =
    fold-roll-Term A step _ ∙ blind _
    ∙ ap g (λ i. fold-roll-Term A step (Term-F.Var x) i ∷ fold-roll-Term A step (Term-F.Var y) i ∷ fold-roll-Term A step (Term-F.Var z) i ∷ [])

abbrev cell : ℕ → VarId
cell i = record { solver = 0; index = i }

module _ (rule : KeptRule) (zs : List ℤ) where
  abbrev users : ℕ → NumberRule
  users = users_of (posted_over rule zs).rules

  abbrev env : ℕ → Outcome
  env = outcome_of_var users (posted_over rule zs).model zs

  abbrev term : Term
  term = node (User 0) (variable (cell 0) ∷ variable (cell 1) ∷ variable (cell 2) ∷ []) (record { line = 0; col = 0 })

  abbrev summed : Outcome → Result ℤ Failure
  summed o = sum_or (sum_of (column 1) (gather_number (Some []) o) (pos 1 ∷ [])) (failure_below users (posted_over rule zs).model env (System 0))

  abbrev told : Outcome
  told = operated users (User 0) (gathered (env 0 ∷ env 1 ∷ env 2 ∷ []))

  by_term : violations_over rule zs ≡ summed (outcome_of users env term)
  unfolding everything
  by_term = refl

  pub over_three : violations_over rule zs ≡ summed told
  over_three =
      by_term
      ∙ ap summed (node_fold (outcome_step users env) (λ os. operated users (User 0) (gathered os)) (User 0) _ (cell 0) (cell 1) (cell 2) (λ args. refl))

pub equal_over : violations_over all_equal (pos 2 ∷ pos 2 ∷ pos 5 ∷ []) ≡ Ok (pos 1)
unfolding everything half most
equal_over = over_three all_equal (pos 2 ∷ pos 2 ∷ pos 5 ∷ [])

pub increasing_over : violations_over increasing (pos 3 ∷ pos 1 ∷ pos 2 ∷ []) ≡ Ok (pos 2)
unfolding everything half most
increasing_over = over_three increasing (pos 3 ∷ pos 1 ∷ pos 2 ∷ [])
