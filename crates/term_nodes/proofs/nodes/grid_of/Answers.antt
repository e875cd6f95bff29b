use Rattle.std.proofs.Common.{◌≡◌, arith, length}
use Rattle.comet_meaning.proofs.GoingOn.{goes_charge}
use Rattle.comet_meaning.proofs.GoingTerms.{goes_node}
use Rattle.run_steps.specs.OfRunState.Views.{state_seen}
use Rattle.run_steps.proofs.AggregateLaws.{memory_ends}
use Rattle.run_steps.proofs.Exits.{act_exit, after, exit}
use Rattle.term_nodes.proofs.nodes.grid_of.Goals as goal

pub returns-in_err-charge : goal.returns-in_err-charge
returns-in_err-charge c =
    let n : c.len-count.result ≡ length c.args.cells.terms.items = omega (arith, c.len-count.ensures, c.args.cells.terms.ok.0) in
    record { did = λ printed. act_exit _ _ _ _ _ _ c.from_residual.ensures.1 (rw n at (c.in_err-charge.ensures.did printed)) ((goes_charge _ _).from _).printed (λ _. goes_node _ _ _) }

pub returns-in_err-op : goal.returns-in_err-op
returns-in_err-op c =
    let n : c.len-count.result ≡ length c.args.cells.terms.items = omega (arith, c.len-count.ensures, c.args.cells.terms.ok.0) in
    record { did = λ printed. after _ _ _ _ (rw n at (c.in_ok-charge.ensures.did printed)) (exit _ _ _ _ _ c.from_residual-in_err-op.ensures.1 (memory_ends _ _ _ c.in_err-op.ensures.memory ((goes_node _ _ _).from _).printed)) }

pub returns-in_err-terms : goal.returns-in_err-terms
returns-in_err-terms c =
    let n : c.len-count.result ≡ length c.args.cells.terms.items = omega (arith, c.len-count.ensures, c.args.cells.terms.ok.0) in
    record { did = λ printed. after _ _ _ _ (rw n at (c.in_ok-charge.ensures.did printed)) (exit _ _ _ _ _ c.from_residual-in_err-terms.ensures.1 (memory_ends _ _ _ c.in_err-terms.ensures.memory ((goes_node _ _ _).from _).printed)) }

pub returns-in_err-all : goal.returns-in_err-all
returns-in_err-all c =
    let n : c.len-count.result ≡ length c.args.cells.terms.items = omega (arith, c.len-count.ensures, c.args.cells.terms.ok.0) in
    record { did = λ printed. after _ _ _ _ (rw n at (c.in_ok-charge.ensures.did printed)) (exit _ _ _ _ _ c.from_residual-in_err-all.ensures.1 (memory_ends _ _ _ c.in_err-all.ensures.memory ((goes_node _ _ _).from _).printed)) }

pub returns : goal.returns
returns c =
    let n : c.len-count.result ≡ length c.args.cells.terms.items = omega (arith, c.len-count.ensures, c.args.cells.terms.ok.0) in
    record { did = λ printed. after _ _ _ _ (rw n at (c.in_ok-charge.ensures.did printed)) (rw (c.in_ok-op.ensures.operation, c.in_ok-all.ensures.terms, c.in_ok-terms.ensures.terms) at (c.node_of.ensures.did (state_seen c.charge.new.self printed))) }
