use Rattle.std.proofs.Common.{rules, ◌≡◌, ◌≤◌, length, ap, subst, sym, ◌∙◌, arith}
use Rattle.graph_values.specs.Members.{variables_of}
use Rattle.inc_store.specs.Views.{graph_in}
use Rattle.model_nodes.specs.Making.{ArePlaces}
use Rattle.model_store.specs.Settings.{numbers_after, users_in}
use Rattle.store_turns.specs.declared.frame.Frame.{Frame}
use Rattle.solver_store.specs.ToldChanges.{variable_changes}
use Rattle.solver_store.proofs.CommitLaws.{fault_there, stops_behind, told_changes}
use Rattle.solver_store.proofs.OwnMoves.{are_moves, of_variables}
use Rattle.solver_store.proofs.closed.Closed.commit.Goals as goal

pub commit-requires : goal.commit-requires
commit-requires g c κs within =
    let closed = c.requires.1.1.0 in
    let free = c.requires.1.1.1.1 in (
      search (rules, within),
      (
        search (rules, within),
        (
          closed.store,
          (
            are_moves (users_in g.setting) g.setting.model (graph_in g.N.NodeRule.rule c.args.self.now.store) closed.store.holds.terms c.args.moves.now free,
            (of_variables g.setting.model c.args.moves.now free, closed.whole),
          ),
        ),
      ),
    )

pub returns-in-Ok-variable_changes-clause-changes : goal.returns-in-Ok-variable_changes-clause-changes
returns-in-Ok-variable_changes-clause-changes g c =
    let closed = c.requires.1.1.0 in
    let old = c.args.self.now.store in
    let new = c.commit.new.store in
    let few : variables_of g.setting.model ≤ length old.cells = (let size = closed.store.holds.terms.size in let many = closed.store.usable.2.many_cells in omega (arith, size, many)) in
    let same : length new.cells ≡ length old.cells = c.in-Ok.ensures.store.usable.2.many_cells ∙ ap (λ (f : Frame). length f.inputs.items) c.in-Ok.ensures.nodes.1 ∙ sym closed.store.usable.2.many_cells in
    c.in-Ok-variable_changes.ensures
    ∙ ap (λ n. variable_changes c.args.solver n c.deref.result.now) c.requires.1.1.1.0
    ∙ ap (variable_changes c.args.solver (variables_of g.setting.model)) (c.deref.ensures.value ∙ c.in-Ok.ensures.changed)
    ∙ told_changes c.args.solver g.setting.model c.args.self.now (record { store = new; places = c.args.self.now.places; shares = c.args.self.now.shares }) old.cells new.cells (λ i. old.cells) (λ i. new.cells) few same

pub returns-clause-fault : goal.returns-clause-fault
returns-clause-fault g c =
    let closed = c.requires.1.1.0 in
    let free = c.requires.1.1.1.1 in
    c.stop_of.ensures (users_in g.setting) g.setting.model (numbers_after c.args.moves.now g.setting.assignment)
    (ap length c.deref-in-Err.ensures.value ∙ closed.placed) (subst (ArePlaces g.setting.model) (sym c.deref-in-Err.ensures.value) closed.places)
    (stops_behind g.N.NodeRule.rule g.N.NodeRule.held g.N.NodeRule.ready g.setting c.args.moves.now free c.args.self.now.store closed.store closed.whole c.in-Err.stop c.in-Err.ensures.least)
    (fault_there g.N.NodeRule.rule g.N.NodeRule.held g.N.NodeRule.ready g.setting c.args.moves.now free c.in-Err.stop closed.total c.in-Err.ensures.fault)
