use Rattle.std.proofs.Common.{rules, ◌≡◌, ◌<◌, ℤ, Ok, List, length, ap, subst, sym, ◌∙◌, w64, FitsSigned}
use Rattle.std.proofs.lemmas.Int.{to_z-of_z}
use Rattle.cbl_base.specs.Inputs.{number_of}
use Rattle.graph_values.specs.Graphs.{id_of}
use Rattle.inc_store.specs.Views.{value_at}
use Rattle.model_store.specs.Settings.{users_in}
use Rattle.model_values.specs.Asked.{answer_of}
use Rattle.model_values.specs.VarOutcomes.{outcome_of_var}
use Rattle.model_values.specs.declared.wholes.Whole.TheVariants.{System}
use Rattle.store_shares.specs.Made.{AreWeights}
use Rattle.term_model.specs.declared.model.Model.{Model}
use Rattle.term_model.specs.declared.model.Total.{Total}
use Rattle.solver_store.specs.Reads.{is_held, weight_in}
use Rattle.solver_store.proofs.ClosedReads.{total_value}
use Rattle.solver_store.proofs.KnownMembers.{are_known, are_weights}
use Rattle.solver_store.proofs.ShareLaws.{shared}
use Rattle.solver_store.proofs.SharesRead.{are_reads}
use Rattle.solver_store.proofs.closed.Closed.share.Goals as goal

pub returns-in-Ok : goal.returns-in-Ok
returns-in-Ok g c =
    let closed = c.requires.1.0 in
    let M = g.setting.model in
    let same : M ≡ c.args.model.now = c.requires.1.1.0 in
    let system : c.args.system < length M.systems.items = subst (λ (m : Model). c.args.system < length m.systems.items) (sym same) c.requires.1.1.1.0 in
    let variable : c.args.variable < length M.vars.items = subst (λ (m : Model). c.args.variable < length m.vars.items) (sym same) c.requires.1.1.1.1 in
    let totals = c.deref.ensures.value ∙ ap (λ (m : Model). m.systems.items) (sym same) in
    let read = c.variable_violations.ensures (users_in g.setting) M (outcome_of_var (users_in g.setting) M g.setting.assignment) (id_of M) (is_held M) closed.store.given.formed closed.shares
    (are_reads g.N.NodeRule.rule g.N.NodeRule.held g.N.NodeRule.ready g.setting c.args.self.now.store closed.store closed.rules)
    (subst (λ (ts : List Total). AreWeights M c.args.system (weight_in ts)) (sym totals) (are_weights M c.args.system)) (are_known M closed.store.given.formed c.args.system) variable in
    let fits : FitsSigned w64 c.in-Ok.number = search rules in
    shared (users_in g.setting) M g.setting.assignment c.args.system c.args.variable (number_of (value_at c.args.self.now.store (g.setting.total (System c.args.system)))) c.variable_violations.result
    (total_value g.N.NodeRule.rule g.N.NodeRule.held g.N.NodeRule.ready g.setting c.args.self.now.store closed.store (System c.args.system) system) read
    ∙ ap answer_of c.in-Ok.is ∙ ap (λ (z : ℤ). Ok z) (sym (to_z-of_z w64 c.in-Ok.number fits))

pub returns-in-Err : goal.returns-in-Err
returns-in-Err g c =
    let closed = c.requires.1.0 in
    let M = g.setting.model in
    let same : M ≡ c.args.model.now = c.requires.1.1.0 in
    let system : c.args.system < length M.systems.items = subst (λ (m : Model). c.args.system < length m.systems.items) (sym same) c.requires.1.1.1.0 in
    let variable : c.args.variable < length M.vars.items = subst (λ (m : Model). c.args.variable < length m.vars.items) (sym same) c.requires.1.1.1.1 in
    let totals = c.deref.ensures.value ∙ ap (λ (m : Model). m.systems.items) (sym same) in
    let read = c.variable_violations.ensures (users_in g.setting) M (outcome_of_var (users_in g.setting) M g.setting.assignment) (id_of M) (is_held M) closed.store.given.formed closed.shares
    (are_reads g.N.NodeRule.rule g.N.NodeRule.held g.N.NodeRule.ready g.setting c.args.self.now.store closed.store closed.rules)
    (subst (λ (ts : List Total). AreWeights M c.args.system (weight_in ts)) (sym totals) (are_weights M c.args.system)) (are_known M closed.store.given.formed c.args.system) variable in
    shared (users_in g.setting) M g.setting.assignment c.args.system c.args.variable (number_of (value_at c.args.self.now.store (g.setting.total (System c.args.system)))) c.variable_violations.result
    (total_value g.N.NodeRule.rule g.N.NodeRule.held g.N.NodeRule.ready g.setting c.args.self.now.store closed.store (System c.args.system) system) read
    ∙ ap answer_of c.in-Err.is
