use Rattle.std.proofs.Common.{◌+◌, ◌∙◌, ap, sym, arith}
use Rattle.term_model.specs.Subterms.{distinct_subterms}
use Rattle.model_nodes.proofs.HeadLemmas.{left_here, left_next}
use Rattle.model_nodes.proofs.parts.put_terms.Goals as goal

pub loop-place-init : goal.loop-place-init
loop-place-init g c = record {
  waiting = c.requires.1.1.1.1.0;
  left = c.requires.1.1.1.1.1.0;
  made = c.requires.1.1.1.1.1.1.0;
  count = omega (arith, c.requires.1.1.1.1.1.1.1, c.requires.1.1.0);
}

pub put_term-requires : goal.put_term-requires
put_term-requires g c κs within =
    let M = g.about.model in
    let k = c.loop-place.place in
    let is = ap (λ n. n + k) c.cells.ensures in (
      within,
      (
        (omega (arith, c.cells.ensures), omega (arith, c.cells.ensures, c.loop-place-test.true, c.len-place-end.ensures.count)),
        (
          c.requires.1.0,
          (
            c.requires.1.1.0,
            (
              c.requires.1.1.1.0,
              (
                c.loop-place.invariant.waiting,
                (
                  left_here M (c.cells.result + k) c.args.graph.now.cells k c.requires.1.1.0 is c.loop-place.waiting.items c.loop-place.invariant.left,
                  (c.loop-place.invariant.made, c.loop-place.invariant.count ∙ sym is),
                ),
              ),
            ),
          ),
        ),
      ),
    )

pub loop-place-preserved : goal.loop-place-preserved
loop-place-preserved g c =
    let M = g.about.model in
    let k = c.loop-place.place in
    let is = ap (λ n. n + k) c.cells.ensures in
    record {
      waiting = c.in_ok-put_term.ensures.waiting;
      left = left_next M (c.cells.result + k) c.args.graph.now.cells k c.requires.1.1.0 is c.put_term.new.waiting.items c.in_ok-put_term.ensures.left;
      made = c.in_ok-put_term.ensures.made;
      count = omega (arith, c.in_ok-put_term.ensures.count, is);
    }

pub returns-clause-count : goal.returns-clause-count
returns-clause-count g c =
    let count = c.loop-place.invariant.count in
    let all = c.len-place-end.ensures.terms (distinct_subterms g.about.model) c.requires.1.0 in
    omega (arith, count, all, c.loop-place-test.false, c.loop-place.auto.place-end, c.requires.1.1.0)
