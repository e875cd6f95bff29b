-- Without generators there is no candidate, with one its values are all, and with several the front is gone through.
use Rattle.std.proofs.Common.{◌∙◌, sym, subst, ap, arith, List}
use Rattle.comet_meaning.specs.Candidates.{Candidate}
use Rattle.comet_meaning.specs.Outcome.{Went}
use Rattle.comet_meaning.specs.Program.{level}
use Rattle.run_steps.specs.OfRunState.Views.{state_seen}
use Rattle.run_steps.specs.Does.{Ends}
use Rattle.run_steps.proofs.Exits.{exit}
use Rattle.search_forms.proofs.ListingLaws.{no_generator, one_generator, several_generators}
use Rattle.search_forms.proofs.listing.candidates_of.Goals as goal

pub returns-then-count-eq0-clause-did : goal.returns-then-count-eq0-clause-did
returns-then-count-eq0-clause-did g c =
    no_generator (level (g.W.Within.code c.args.inside.now) (g.W.Within.depth c.args.inside.now)) c.args.at c.args.generators.now (state_seen c.args.s.now (g.O.Outside.told c.args.out.now)) c.if-count-eq0.true
    ∙ ap (λ (cs : List Candidate). Went cs (state_seen c.args.s.now (g.O.Outside.told c.args.out.now))) (sym c.new-found.ensures.none)

pub returns-in_err-list_last-clause-did : goal.returns-in_err-list_last-clause-did
returns-in_err-list_last-clause-did g c = exit _ _ _ _ _ c.from_residual.ensures.1 (subst (Ends _ _) (sym (one_generator (level (g.W.Within.code c.args.inside.now) (g.W.Within.depth c.args.inside.now)) c.args.at c.args.generators.now c.index-generators-count.result (state_seen c.args.s.now (g.O.Outside.told c.args.out.now)) c.if-count-eq1.true c.index-generators-count.is)) (rw c.new-found.ensures.none at c.in_err-list_last.ensures.did))

pub returns-then-count-eq1-clause-did : goal.returns-then-count-eq1-clause-did
returns-then-count-eq1-clause-did g c = one_generator (level (g.W.Within.code c.args.inside.now) (g.W.Within.depth c.args.inside.now)) c.args.at c.args.generators.now c.index-generators-count.result (state_seen c.args.s.now (g.O.Outside.told c.args.out.now)) c.if-count-eq1.true c.index-generators-count.is ∙ rw c.new-found.ensures.none at c.in_ok-list_last.ensures.did

pub returns-in_err-list_behind-clause-did : goal.returns-in_err-list_behind-clause-did
returns-in_err-list_behind-clause-did g c = exit _ _ _ _ _ c.from_residual-in_err-list_behind.ensures.1 (subst (Ends _ _) (sym (several_generators (level (g.W.Within.code c.args.inside.now) (g.W.Within.depth c.args.inside.now)) c.args.at c.args.generators.now c.index-generators-count.result (state_seen c.args.s.now (g.O.Outside.told c.args.out.now)) (omega (arith, c.if-count-eq0.false, c.if-count-eq1.false)) c.index-generators-count.is)) (rw c.new-found.ensures.none at c.in_err-list_behind.ensures.did))

pub returns-clause-did : goal.returns-clause-did
returns-clause-did g c = several_generators (level (g.W.Within.code c.args.inside.now) (g.W.Within.depth c.args.inside.now)) c.args.at c.args.generators.now c.index-generators-count.result (state_seen c.args.s.now (g.O.Outside.told c.args.out.now)) (omega (arith, c.if-count-eq0.false, c.if-count-eq1.false)) c.index-generators-count.is ∙ rw c.new-found.ensures.none at c.in_ok-list_behind.ensures.did
