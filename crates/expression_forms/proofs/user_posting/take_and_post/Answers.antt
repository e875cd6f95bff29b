use Rattle.std.proofs.Common.{◌≡◌, List, subst}
use Rattle.cbl_operations.specs.declared.op.Op.TheVariants.{User}
use Rattle.term_model.specs.declared.term.Term.{Term}
use Rattle.comet_meaning.specs.OfModelView.Building.{node}
use Rattle.comet_meaning.specs.Outcome.{Went}
use Rattle.comet_meaning.specs.TermForms.{node_form}
use Rattle.comet_meaning.proofs.GoingExpressions.{goes_post_taken, goes_weight}
use Rattle.comet_meaning.proofs.GoingOn.{goes_then, goes_charge}
use Rattle.comet_meaning.proofs.GoingStatements.{goes_level}
use Rattle.comet_meaning.proofs.GoingTerms.{goes_node}
use Rattle.run_steps.specs.OfRunState.Views.{state_seen}
use Rattle.run_steps.proofs.Exits.{act_exit, after, call_exit}
use Rattle.run_values.specs.Views.{value_seen}
use Rattle.expression_forms.proofs.user_posting.take_and_post.Goals as goal

pub returns-in_err-taken : goal.returns-in_err-taken
returns-in_err-taken g c = record { did = call_exit _ _ _ _ _ _ c.from_residual.ensures.1 c.in_err-taken.ensures.did (λ n. goes_then (goes_node _ _ _) (λ _. goes_then (goes_weight _ (goes_level _ _) _) (λ z. goes_then (goes_charge 1 _) (λ _. goes_post_taken _ n _ z _)))) }

pub returns-in_err-user_fits : goal.returns-in_err-user_fits
returns-in_err-user_fits g c =
    let s = state_seen c.args.s.now (g.O.Outside.told c.take_named.new.out) in
    record {
      did = after _ _ _ _ c.in_ok-taken.ensures.did (act_exit _ _ _ _ _ _ c.from_residual-in_err-user_fits.ensures.1 (rw c.deref.ensures.value at (c.in_err-user_fits.ensures.did c.in_ok-taken.taken s)) ((goes_node _ _ _).from s).printed
          (λ _. goes_then (goes_weight _ (goes_level _ _) _) (λ z. goes_then (goes_charge 1 _) (λ _. goes_post_taken _ c.in_ok-taken.taken _ z _))));
    }

pub returns : goal.returns
returns g c =
    let s = state_seen c.args.s.now (g.O.Outside.told c.take_named.new.out) in
    record { did = after _ _ _ _ c.in_ok-taken.ensures.did (after _ _ _ _ (subst (λ (ts : List Term). node_form c.args.place (User c.in_ok-taken.taken) ts s ≡ Went (node (User c.in_ok-taken.taken) ts c.args.place) s) c.deref.ensures.value (c.in_ok-user_fits.ensures.did c.in_ok-taken.taken s)) (c.post_user_with.ensures.did _ c.weight_of-weight.ensures.did)) }
