use Rattle.std.proofs.Common.{◌≡◌, rules, sym, subst, MatchResult, FitsSigned, to_z, of_z, w64}
use Rattle.std.proofs.lemmas.Int.{to_z-of_z}
use Rattle.best_monitor.specs.Board.{report_step, monitor_step}
use Rattle.best_monitor.proofs.monitor.Monitor.step.Goals as goal

pub returns-in-Report-clause-step : goal.returns-in-Report-clause-step
returns-in-Report-clause-step c =
    let value_fits : FitsSigned w64 c.in-Report.value = search rules in
    let second_fits : FitsSigned w64 c.in-Report.second = search rules in
    subst (λ q. MatchResult c.report.result (λ r. monitor_step c.args.self.now q ≡ (c.report.new.self, r)) (λ _. c.report.new.self ≡ c.args.self.now)) (sym c.in-Report.is)
    (subst (λ v. MatchResult c.report.result (λ r. report_step c.args.self.now v c.in-Report.second c.in-Report.list ≡ (c.report.new.self, r)) (λ _. c.report.new.self ≡ c.args.self.now)) (to_z-of_z w64 c.in-Report.value value_fits)
    (subst (λ s. MatchResult c.report.result (λ r. report_step c.args.self.now (to_z w64 (of_z w64 c.in-Report.value)) s c.in-Report.list ≡ (c.report.new.self, r)) (λ _. c.report.new.self ≡ c.args.self.now)) (to_z-of_z w64 c.in-Report.second second_fits) c.report.ensures))
