use Rattle.std.proofs.Common.{◌∙◌, sym, ap, map}
use Rattle.comet_meaning.specs.Outcome.{Went}
use Rattle.comet_meaning.specs.Terms.{Several, term_row}
use Rattle.comet_syntax.specs.declared.tree.expressions.Aggregate.TheVariants as aggregates
use Rattle.comet_meaning.proofs.GoingTerms.{goes_aggregated}
use Rattle.run_steps.proofs.AggregateLaws.{memory_ends}
use Rattle.run_steps.proofs.Exits.{exit}
use Rattle.form_parts.proofs.BodyLaws.{terms_seen}
use Rattle.form_parts.specs.Bodies.{body_seen}
use Rattle.term_forms.proofs.bodies.all_of.Goals as goal

pub returns-in_err-terms : goal.returns-in_err-terms
returns-in_err-terms c = record { did = λ s. exit _ _ s _ _ c.from_residual.ensures.1 (memory_ends _ _ _ c.in_err-terms.ensures.memory ((goes_aggregated c.args.at aggregates.All (map body_seen c.args.bodies.items)).from s).printed) }

pub returns : goal.returns
returns c = record { did = λ s. sym (ap (λ t. Went (Several t) s) (c.row.ensures ∙ ap term_row (c.in_ok-terms.ensures.terms ∙ terms_seen c.args.bodies.items))) }
