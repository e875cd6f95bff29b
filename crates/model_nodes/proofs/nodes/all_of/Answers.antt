use Rattle.std.proofs.Common.{◌∙◌, ap, length, map, subst, sym, ℕ, arith}
use Rattle.graph_values.specs.Graphs.{count_of}
use Rattle.graph_values.specs.Members.{cells_of, members_by}
use Rattle.graph_values.specs.WholeGraphs.{first_system}
use Rattle.term_graph.specs.Graphs.{IsGraphOf}
use Rattle.term_model.specs.Naming.{users_posted}
use Rattle.term_model.specs.Subterms.{distinct_subterms}
use Rattle.term_model.specs.Wellformed.{IsWellFormed}
use Rattle.term_model.specs.declared.model.Member.{Member}
use Rattle.term_model.specs.declared.model.Model.{Model}
use Rattle.term_model.specs.declared.posting.Side.TheVariants.{Objectives}
use Rattle.model_nodes.specs.CellLists.{AreCellLists}
use Rattle.model_nodes.specs.PostedIds.{ArePostedIds}
use Rattle.model_nodes.specs.Waiting.{AreLeft, AreWaiting}
use Rattle.model_nodes.proofs.HeadLemmas.{all_wait, left_all}
use Rattle.model_nodes.proofs.PostedCells.{posted_cells}
use Rattle.model_nodes.proofs.nodes.all_of.Goals as goal

pub terms_of-requires-clause-cells : goal.terms_of-requires-clause-cells
terms_of-requires-clause-cells g c = posted_cells c.args.model.now c.requires.1.1.0 c.args.cells (omega (arith, c.requires.1.1.1.0))

pub cell_lists-requires-clause-ids : goal.cell_lists-requires-clause-ids
cell_lists-requires-clause-ids g c =
    let M = c.args.model.now in
    subst (λ is. ArePostedIds M (cells_of M) M.posted.items is) (sym c.deref.ensures.value) (subst (λ (n : ℕ). ArePostedIds M n M.posted.items c.in_ok-terms.terms.ids.items) c.requires.1.1.1.0 c.in_ok-terms.ensures.ids)

pub put_terms-requires : goal.put_terms-requires
put_terms-requires g c κs within =
    let M = g.about.model in
    let same = sym c.requires.1.0 in
    let formed = subst IsWellFormed same c.requires.1.1.0 in
    let count = c.requires.1.1.1.1.1.1 ∙ ap (λ (N : Model). length (users_posted N N.posted.items)) same in (
      within,
      (
        subst (λ (N : Model). IsGraphOf c.in_ok-terms.terms.graph (distinct_subterms N)) same c.in_ok-terms.ensures.graph,
        (
          c.in_ok-terms.ensures.cells ∙ c.requires.1.1.1.0 ∙ ap cells_of same,
          (
            formed,
            (
              subst (λ ws. AreWaiting g.N.NodeRule.rule g.about.users ws) (sym c.in_ok-waiting.ensures) (all_wait g.N.NodeRule.rule g.about.users c.args.users.items c.requires.1.1.1.1.1.0),
              (
                subst (λ ws. AreLeft M 0 ws) (sym c.in_ok-waiting.ensures) (left_all M formed c.args.users.items count),
                (c.in_ok-making.ensures.made g.about (subst (λ (N : Model). AreCellLists N c.in_ok-lists.lists.items) same c.in_ok-lists.ensures), c.in_ok-making.ensures.count ∙ c.in_ok-lists.ensures.count ∙ ap cells_of same),
              ),
            ),
          ),
        ),
      ),
    )

pub overflow_cast-counted : goal.overflow_cast-counted
overflow_cast-counted g c =
    let few = c.in_ok-put_terms.ensures.made.few in
    omega (arith, few, c.put_terms.new.making.lists.ok.0)

pub put_weights-requires : goal.put_weights-requires
put_weights-requires g c κs within =
    let same = sym c.requires.1.0 in
    (within, (c.deref-2.ensures.value ∙ c.in_ok-weights.ensures ∙ ap (λ (N : Model). map (λ (m : Member). m.weight) (members_by N Objectives)) same, (c.in_ok-put_terms.ensures.made, c.in_ok-put_terms.ensures.count)))

pub put_wholes-requires : goal.put_wholes-requires
put_wholes-requires g c κs within =
    let M = c.args.model.now in
    let count = c.in_ok-put_terms.ensures.count ∙ ap count_of c.requires.1.0 in (
      within,
      (
        c.requires.1.0,
        (
          c.requires.1.1.0,
          (
            subst (λ is. ArePostedIds M (cells_of M) M.posted.items is) (sym c.deref-3.ensures.value) (subst (λ (n : ℕ). ArePostedIds M n M.posted.items c.in_ok-terms.terms.ids.items) c.requires.1.1.1.0 c.in_ok-terms.ensures.ids),
            (omega (arith, count, c.put_terms.new.making.lists.ok.0), (c.in_ok-put_weights.ensures.made, c.in_ok-put_weights.ensures.count ∙ ap first_system c.requires.1.0)),
          ),
        ),
      ),
    )
