use Rattle.std.proofs.Common.{ap, subst, sym, ◌∙◌}
use Rattle.term_graph.specs.Graphs.{IsGraphOf}
use Rattle.term_graph.specs.Ids.{HasCells, id_among}
use Rattle.term_model.specs.Subterms.{distinct_subterms}
use Rattle.solver_store.proofs.ModelIds.{held_again, held_cells}
use Rattle.solver_store.proofs.ids.ModelIdsIds.id.Goals as goal

pub add-requires : goal.add-requires
add-requires c =
    let M = c.args.self.now.model.now in
    subst (λ n. HasCells n c.args.term.now) (sym c.requires.ready.2) (held_cells M c.requires.ready.0 c.args.term.now c.requires.known)

pub returns-in-Ok-clause-ready : goal.returns-in-Ok-clause-ready
returns-in-Ok-clause-ready c =
    let M = c.args.self.now.model.now in (
      c.requires.ready.0,
      subst (λ ts. IsGraphOf c.add.new.self ts) (held_again M c.requires.ready.0 c.args.term.now c.requires.known) (c.in-Ok.ensures.graph (distinct_subterms M) c.requires.ready.1),
      c.add.ensures.cells ∙ c.requires.ready.2,
    )

pub returns-in-Ok-clause-id : goal.returns-in-Ok-clause-id
returns-in-Ok-clause-id c =
    let M = c.args.self.now.model.now in
    c.in-Ok.ensures.id (distinct_subterms M) c.requires.ready.1
    ∙ ap (λ ts. id_among c.args.self.now.graph.cells ts c.args.term.now) (held_again M c.requires.ready.0 c.args.term.now c.requires.known)
    ∙ ap (λ n. id_among n (distinct_subterms M) c.args.term.now) c.requires.ready.2
