-- What is asked first, and then the exchange.
use Rattle.std.proofs.Common.{refl, sym, ◌∙◌}
use Rattle.run_solvers.specs.Views.{waits}
use Rattle.run_solvers.proofs.CommitLaws.{both_parts, neither_parts, swapped_defined, swapped_foreign, swapped_free}
use Rattle.run_solvers.proofs.held.Held.try_swap.Goals as goal

pub returns-then-not-owns_both : goal.returns-then-not-owns_both
returns-then-not-owns_both g c =
    let old = c.args.self.now in record {
      meant = swapped_foreign old.solver old.names (waits old) c.args.at c.args.x c.args.y (c.requires.own ∙ sym c.requires.kept.0.number_) (sym c.owns_both.ensures ∙ c.if-not-owns_both.true);
      kept = tt;
      number = refl;
      told = tt;
    }

pub returns-then-defines_either : goal.returns-then-defines_either
returns-then-defines_either g c =
    let old = c.args.self.now in
    let own = both_parts _ _ (sym c.owns_both.ensures ∙ c.if-not-owns_both.false) in record {
      meant = swapped_defined old.solver old.names (waits old) c.args.at c.args.x c.args.y (c.requires.own ∙ sym c.requires.kept.0.number_) own.0 own.1 (sym c.defines_either.ensures ∙ c.if-defines_either.true);
      kept = tt;
      number = refl;
      told = tt;
    }

pub exchange-requires-clause-own : goal.exchange-requires-clause-own
exchange-requires-clause-own g c = both_parts _ _ (sym c.owns_both.ensures ∙ c.if-not-owns_both.false)

pub exchange-requires-clause-free : goal.exchange-requires-clause-free
exchange-requires-clause-free g c = neither_parts _ _ (sym c.defines_either.ensures ∙ c.if-defines_either.false)

pub returns : goal.returns
returns g c =
    let old = c.args.self.now in
    let own = both_parts _ _ (sym c.owns_both.ensures ∙ c.if-not-owns_both.false) in
    let free = neither_parts _ _ (sym c.defines_either.ensures ∙ c.if-defines_either.false) in
    rw (swapped_free old.solver old.names (waits old) c.args.at c.args.x c.args.y (c.requires.own ∙ sym c.requires.kept.0.number_) own.0 own.1 free.0 free.1) c.exchange.ensures
