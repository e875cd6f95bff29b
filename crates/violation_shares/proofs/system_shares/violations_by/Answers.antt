use Rattle.std.proofs.Common.{◌≡◌, ◌∙◌, ap, subst, sym}
use Rattle.model_values.specs.Dependence.{AreMarks}
use Rattle.model_values.specs.Outcomes.{env_of}
use Rattle.term_model.specs.Users.{user_rules}
use Rattle.violation_shares.proofs.ShareLaws.{variable_from}
use Rattle.violation_shares.proofs.system_shares.violations_by.Goals as goal

pub returns : goal.returns
returns g c =
    let t = c.args.tables.now in
    let M = t.model.now in
    let users = user_rules (g.U.UserValues.viol_of t.users.now) (g.U.UserValues.viol_at t.users.now) in
    let marks = c.deref-2.result.now in
    let are : AreMarks M c.args.var marks = subst (AreMarks M c.args.var) (sym c.deref-2.ensures.value) c.in_ok-marks.ensures in
    variable_from users M t.assignment.now c.args.system c.args.var c.place_of.result (env_of c.deref.result.now) marks c.in_ok-outcome.outcome c.in_ok-violation.violation c.answered.result
    c.requires.well_formed (ap env_of c.deref.ensures.value ∙ c.in_ok-cells.ensures.env) are c.place_of.ensures c.in_ok-outcome.ensures c.in_ok-violation.ensures c.answered.ensures
