use Rattle.comet_meaning.proofs.GoingOn.{goes_charge}
use Rattle.comet_meaning.proofs.GoingTerms.{goes_builtin_node}
use Rattle.run_steps.proofs.Exits.{act_exit, after}
use Rattle.term_nodes.proofs.nodes.charged_function.Goals as goal

pub returns-in_err-charge : goal.returns-in_err-charge
returns-in_err-charge c = record { did = λ printed. act_exit _ _ _ _ _ _ c.from_residual.ensures.1 (c.in_err-charge.ensures.did printed) ((goes_charge _ _).from _).printed (λ _. goes_builtin_node _ _ _) }

pub returns : goal.returns
returns c = record { did = λ printed. after _ _ _ _ (c.in_ok-charge.ensures.did printed) (c.function_of.ensures.did _) }
