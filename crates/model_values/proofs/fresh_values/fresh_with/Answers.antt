use Rattle.std.proofs.Common.{◌≡◌, ◌∙◌, ap, subst}
use Rattle.model_values.specs.Outcomes.{env_of}
use Rattle.model_values.specs.VarOutcomes.{outcome_of_var}
use Rattle.term_model.specs.Users.{user_rules}
use Rattle.model_values.specs.Fresh.{IsFresh, fresh_in}
use Rattle.model_values.proofs.fresh_values.fresh_with.Goals as goal

pub returns : goal.returns
returns g c =
    let t = c.in_ok-tables.tables in
    let M = c.args.model.now in
    let a = c.args.assignment.now in
    let users = user_rules (g.U.UserValues.viol_of c.args.users.now) (g.U.UserValues.viol_at c.args.users.now) in
    let same = c.in_ok-tables.ensures.same in
    let env : env_of c.in_ok-cells.cells.items ≡ outcome_of_var users M a =
    c.in_ok-cells.ensures.env ∙ ap (λ u. outcome_of_var (user_rules (g.U.UserValues.viol_of u) (g.U.UserValues.viol_at u)) t.model.now t.assignment.now) same.0
    ∙ ap (λ N. outcome_of_var users N t.assignment.now) same.1 ∙ ap (outcome_of_var users M) same.2 in
    subst (λ e. IsFresh (fresh_in users M e) c.fresh_in.result) (ap env_of c.deref.ensures.value ∙ env) c.fresh_in.ensures
