use Rattle.std.proofs.Common.{◌≡◌, arith, length}
use Rattle.comet_meaning.proofs.GoingOn.{goes_charge, goes_then}
use Rattle.comet_meaning.proofs.GoingTerms.{goes_node}
use Rattle.run_steps.specs.OfRunState.Views.{state_seen}
use Rattle.run_steps.proofs.Exits.{act_exit, after}
use Rattle.constraint_forms.proofs.function_nodes.all_different_of.Goals as goal

pub returns-in_err-charge : goal.returns-in_err-charge
returns-in_err-charge c = record { did = λ printed. act_exit _ _ _ _ _ _ c.from_residual.ensures.1 (c.in_err-charge.ensures.did printed) ((goes_charge _ _).from _).printed (λ _. goes_then (goes_charge _ _) (λ _. goes_node _ _ _)) }

pub returns-in_err-charge-2 : goal.returns-in_err-charge-2
returns-in_err-charge-2 c = let n : c.len-count.result ≡ length c.args.cells.terms.items = omega (arith, c.len-count.ensures, c.args.cells.terms.ok.0) in record { did = λ printed. after _ _ _ _ (c.in_ok-charge.ensures.did printed) (act_exit _ _ _ _ _ _ c.from_residual-in_err-charge-2.ensures.1 (rw n at (c.in_err-charge-2.ensures.did printed)) ((goes_charge _ _).from _).printed (λ _. goes_node _ _ _)) }

pub returns : goal.returns
returns c = let n : c.len-count.result ≡ length c.args.cells.terms.items = omega (arith, c.len-count.ensures, c.args.cells.terms.ok.0) in record { did = λ printed. after _ _ _ _ (c.in_ok-charge.ensures.did printed) (after _ _ _ _ (rw n at (c.in_ok-charge-2.ensures.did printed)) (c.node_of.ensures.did (state_seen c.charge-2.new.self printed))) }
