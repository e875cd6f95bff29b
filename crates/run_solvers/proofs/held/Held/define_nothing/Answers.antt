-- What stands for a term of another kind is of the variable's kind.
use Rattle.std.proofs.Common.{◌∙◌, ap, subst}
use Rattle.comet_meaning.specs.Models.{nothing_of}
use Rattle.comet_meaning.specs.Solvers.{kind_or_number}
use Rattle.term_model.specs.declared.term.Term.{Term}
use Rattle.run_solvers.specs.Makes.{Makes}
use Rattle.run_solvers.specs.Refused.{sized_one}
use Rattle.run_solvers.specs.Views.{held_seen, waits}
use Rattle.run_solvers.proofs.DefineLaws.{early_constant}
use Rattle.run_solvers.proofs.FitLaws.{early_own, nothing_kind, nothing_names, nothing_seen}
use Rattle.run_solvers.proofs.held.Held.define_nothing.Goals as goal

pub define_fitting-requires-clause-early : goal.define_fitting-requires-clause-early
define_fitting-requires-clause-early g c =
    let S = c.args.self.now.solver in
    let term = c.nothing_of-term.result in
    early_constant S c.args.variable _ term (nothing_names S term _ c.nothing_of-term.ensures.seen) c.requires.early

pub define_fitting-requires-clause-kind : goal.define_fitting-requires-clause-kind
define_fitting-requires-clause-kind g c =
    let old = c.args.self.now in
    nothing_kind old.solver old.names (waits old) c.args.variable c.nothing_of-term.result _ (early_own old.solver c.args.variable _ c.requires.early) c.kind.ensures c.nothing_of-term.ensures.seen

pub returns-clause-meant : goal.returns-clause-meant
returns-clause-meant g c =
    let old = c.args.self.now in
    let own = early_own old.solver c.args.variable _ c.requires.early in
    let same = c.nothing_of-term.ensures.seen ∙ ap (λ o. nothing_of (kind_or_number o)) c.kind.ensures ∙ nothing_seen old.solver old.names (waits old) c.args.variable own in
    subst (λ (t : Term). Makes (held_seen c.define_fitting.new.self) c.define_fitting.result (sized_one c.args.at c.args.variable t (held_seen old))) same c.define_fitting.ensures.meant
