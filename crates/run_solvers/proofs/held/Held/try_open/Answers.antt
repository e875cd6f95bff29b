-- The solver is open, or something waits, or nothing does.
use Rattle.std.proofs.Common.{◌≡◌, length, refl, sym, ◌∙◌}
use Rattle.run_solvers.specs.Views.{waits}
use Rattle.run_solvers.proofs.BlockLaws.{opened_again, opened_first, opened_kept, opened_open, waits_is}
use Rattle.run_solvers.proofs.held.Held.try_open.Goals as goal

pub returns-then-not-is_closed-clause-tries : goal.returns-then-not-is_closed-clause-tries
returns-then-not-is_closed-clause-tries g c =
    let old = c.args.self.now in record {
      meant = opened_open old.solver old.names (waits old) c.args.at (sym c.is_closed.ensures ∙ c.if-not-is_closed.true);
      kept = tt;
      number = refl;
    }

pub returns-then-is_some-clause-tries : goal.returns-then-is_some-clause-tries
returns-then-is_some-clause-tries g c =
    let old = c.args.self.now in record {
      meant = opened_again old.solver old.names c.args.at (sym c.is_closed.ensures ∙ c.if-not-is_closed.false) (waits old) (waits_is (λ w. w.items) old.waiting ∙ sym c.is_some.ensures ∙ c.if-is_some.true);
      kept = c.requires;
      number = refl;
    }

pub returns-in-Ok-clause-tries : goal.returns-in-Ok-clause-tries
returns-in-Ok-clause-tries g c =
    let old = c.args.self.now in
    let whole = c.requires.0 in
    let shut = sym c.is_closed.ensures ∙ c.if-not-is_closed.false in
    let count : c.len.result ≡ length old.solver.assignment = c.len.ensures ∙ whole.named ∙ sym c.keeps_form.ensures.assigned in
    let nothing = rw count at c.in-Ok.ensures in record {
      meant = opened_first old.solver old.names c.args.at shut (waits old) _ (waits_is (λ w. w.items) old.waiting ∙ sym c.is_some.ensures ∙ c.if-is_some.false) nothing;
      kept = (record { number_ = whole.number_; usable = whole.usable; named = whole.named; waits_ = rw nothing (opened_kept old.solver old.names c.args.at shut c.keeps_form.ensures.assigned) }, c.requires.1);
      number = refl;
    }
