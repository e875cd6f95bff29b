-- The domain is told, or the variable isn't there.
use Rattle.std.proofs.Common.{◌≡◌, ℤ, sym, ap, subst, ◌∙◌, rules, w64, to_z, of_z}
use Rattle.cbl_base.specs.declared.ids.VarId.{VarId}
use Rattle.comet_meaning.specs.Models.{domain_at}
use Rattle.comet_meaning.specs.Outcome.{Went}
use Rattle.comet_meaning.specs.Values as values
use Rattle.run_values.specs.Did.{Stopped}
use Rattle.run_solvers.specs.Views.{held_seen, waits}
use Rattle.run_solvers.proofs.ReadStops.{domain_stops}
use Rattle.run_solvers.proofs.ValueLaws.{domain_there}
use Rattle.run_solvers.proofs.held.Held.domain.Goals as goal

pub domain-requires : goal.domain-requires
domain-requires g c = record { usable = c.requires.0.usable }

pub returns-in-Ok-clause-did : goal.returns-in-Ok-clause-did
returns-in-Ok-clause-did g c = λ s.
    let held = c.args.self.now in
    let own = c.own.ensures in
    let low : to_z w64 (of_z w64 c.in-Ok.low) ≡ c.in-Ok.low = search rules in
    let up : to_z w64 (of_z w64 c.in-Ok.up) ≡ c.in-Ok.up = search rules in
    subst (λ (x : VarId). domain_at c.args.at x (held_seen held) s ≡ Went (values.Range (record { low = c.in-Ok.low; up = c.in-Ok.up })) s) own
    (domain_there held.solver held.names (waits held) c.args.at c.own.result s c.in-Ok.low c.in-Ok.up (ap (λ (x : VarId). x.solver) own ∙ sym c.requires.0.number_) c.in-Ok.ensures.answer c.in-Ok.ensures.domain)
    ∙ ap (λ (z : ℤ). Went (values.Range (record { low = z; up = c.in-Ok.up })) s) (sym low)
    ∙ ap (λ (z : ℤ). Went (values.Range (record { low = to_z w64 (of_z w64 c.in-Ok.low); up = z })) s) (sym up)

pub returns-in-Err-clause-did : goal.returns-in-Err-clause-did
returns-in-Err-clause-did g c = λ s.
    let held = c.args.self.now in
    let own = c.own.ensures in
    subst (λ (x : VarId). Stopped c.stop_of.result s (domain_at c.args.at x (held_seen held) s)) own
    (domain_stops held.solver held.names (waits held) c.args.at c.own.result s (ap (λ (x : VarId). x.solver) own ∙ sym c.requires.0.number_) c.in-Err.fault c.stop_of.result c.in-Err.ensures.answer c.stop_of.ensures)
