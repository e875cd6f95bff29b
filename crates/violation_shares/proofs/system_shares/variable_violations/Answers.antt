use Rattle.std.proofs.Common.{◌∙◌, ◌<◌, ap, length, map, subst, sym}
use Rattle.model_values.specs.Asked.{IsAnswer}
use Rattle.model_values.specs.Settling.{AreTables}
use Rattle.term_model.specs.Definitions.{IsAcyclic}
use Rattle.term_model.specs.Users.{user_rules}
use Rattle.term_model.specs.Wellformed.{IsWellFormed, HasDefinedSets}
use Rattle.term_model.specs.declared.model.Model.{Model}
use Rattle.violation_shares.specs.VariableViolations.{variable_violations_of}
use Rattle.violation_shares.proofs.system_shares.variable_violations.Goals as goal

pub returns : goal.returns
returns g c =
    let t = c.in_ok-tables.tables in
    let same = c.in_ok-tables.ensures.same in
    subst (λ answer. IsAnswer answer c.violations_by.result)
    (ap (λ u. variable_violations_of (user_rules (g.U.UserValues.viol_of u) (g.U.UserValues.viol_at u)) t.model.now t.assignment.now c.args.system c.args.var) same.0
    ∙ ap (λ M. variable_violations_of (user_rules (g.U.UserValues.viol_of c.args.users.now) (g.U.UserValues.viol_at c.args.users.now)) M t.assignment.now c.args.system c.args.var) same.1
    ∙ ap (λ a. variable_violations_of (user_rules (g.U.UserValues.viol_of c.args.users.now) (g.U.UserValues.viol_at c.args.users.now)) c.args.model.now a c.args.system c.args.var) same.2)
    c.violations_by.ensures

pub violations_by-requires-clause-well_formed : goal.violations_by-requires-clause-well_formed
violations_by-requires-clause-well_formed g c = subst IsWellFormed (sym c.in_ok-tables.ensures.same.1) c.requires.well_formed

pub violations_by-requires-clause-sets : goal.violations_by-requires-clause-sets
violations_by-requires-clause-sets g c = subst HasDefinedSets (sym c.in_ok-tables.ensures.same.1) c.requires.sets

pub violations_by-requires-clause-acyclic : goal.violations_by-requires-clause-acyclic
violations_by-requires-clause-acyclic g c = subst IsAcyclic (sym c.in_ok-tables.ensures.same.1) c.requires.acyclic

pub violations_by-requires-clause-assigned : goal.violations_by-requires-clause-assigned
violations_by-requires-clause-assigned g c =
    let same = c.in_ok-tables.ensures.same in
    ap length same.2 ∙ c.requires.assigned ∙ ap (λ (M : Model). length M.vars.items) (sym same.1)

pub violations_by-requires-clause-tables : goal.violations_by-requires-clause-tables
violations_by-requires-clause-tables g c =
    let t = c.in_ok-tables.tables in
    subst (λ M. AreTables M t.definitions.items (map (λ names. names.items) t.named.items)) (sym c.in_ok-tables.ensures.same.1) c.in_ok-tables.ensures.tables

pub violations_by-requires-clause-system : goal.violations_by-requires-clause-system
violations_by-requires-clause-system g c = subst (λ (M : Model). c.args.system < length M.systems.items) (sym c.in_ok-tables.ensures.same.1) c.requires.system
