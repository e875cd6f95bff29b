use Rattle.std.proofs.Common.{◌≡◌, ◌∙◌, ap, length, subst, sym, arith}
use Rattle.std.proofs.lemmas.Result.{on_ok_weaker}
use Rattle.graph_values.specs.WholeGraphs.{first_repeat}
use Rattle.term_model.specs.declared.posting.Side.TheVariants.{Objectives, Systems}
use Rattle.model_nodes.specs.Gathered.{AreGathered}
use Rattle.model_nodes.proofs.Linked.{repeats_counted}
use Rattle.model_nodes.proofs.nodes.put_wholes.Goals as goal

pub overflow_cast-variables : goal.overflow_cast-variables
overflow_cast-variables g c =
    let few = c.requires.1.1.1.1.1.0.few in
    let next = c.requires.1.1.1.1.1.1 in
    omega (arith, few, next, c.args.model.now.vars.ok.0)

pub put_totals-requires : goal.put_totals-requires
put_totals-requires g c κs within =
    let few = c.requires.1.1.1.1.1.0.few in
    let next = c.requires.1.1.1.1.1.1 in
    let vars = c.args.model.now.vars.ok.0 in
    (within, (c.requires.1.0, (subst (λ ms. AreGathered c.args.model.now Systems ms) (sym c.deref.ensures.value) c.in_ok-systems.ensures, (omega (arith, vars), (omega (arith, few, next, vars), (c.requires.1.1.1.1.1.0, next))))))

pub overflow_cast-first : goal.overflow_cast-first
overflow_cast-first g c =
    let few = c.in_ok-put_totals.ensures.made.few in
    omega (arith, few, c.put_totals.new.making.lists.ok.0)

pub put_totals-requires-2 : goal.put_totals-requires-2
put_totals-requires-2 g c κs within =
    let few = c.requires.1.1.1.1.1.0.few in
    let next = c.requires.1.1.1.1.1.1 in
    let counted = c.requires.1.1.1.1.0 in
    (within, (c.requires.1.0, (subst (λ ms. AreGathered c.args.model.now Objectives ms) (sym c.deref-2.ensures.value) c.in_ok-objectives.ensures, (counted, (omega (arith, few, next, counted), (c.in_ok-put_totals.ensures.made, c.in_ok-put_totals.ensures.count))))))

pub put_repeats-requires : goal.put_repeats-requires
put_repeats-requires g c κs within =
    let same = c.requires.1.0 in
    let all = c.in_ok-put_totals.ensures.count in
    (within, (rw same (omega (arith, all, c.put_totals.new.making.lists.ok.0)), (rw same (omega (arith, c.args.model.now.objectives.ok.0)), (c.in_ok-put_totals-2.ensures.made, c.in_ok-put_totals-2.ensures.count ∙ ap first_repeat (sym same)))))

pub returns-clause-made : goal.returns-clause-made
returns-clause-made g c = c.put_repeats.ensures.made

pub returns-clause-count : goal.returns-clause-count
returns-clause-count g c =
    let is : c.len.result ≡ length c.args.model.now.objectives.items = omega (arith, c.len.ensures, c.args.model.now.objectives.ok.0) in
    on_ok_weaker c.put_repeats.result (repeats_counted g.about.model c.args.model.now c.requires.1.0 (length c.put_repeats.new.making.lists.items) c.len.result is) c.put_repeats.ensures.count
