use Rattle.std.proofs.Common.{rules, ◌∙◌, ap, get_or}
use Rattle.std.specs.List.{list_all}
use Rattle.std.proofs.lemmas.Bool.{OnTrue_at}
use Rattle.term_model.proofs.NamingLaws.{marked_more, named_once}
use Rattle.term_model.proofs.naming.names_each_once.Goals as goal

pub loop-number-preserved : goal.loop-number-preserved
loop-number-preserved c =
    let numbers = c.args.numbers.now in
    let k = c.loop-number.number-index in (
      marked_more numbers k (get_or numbers k 0) c.loop-number.marks.items c.mark.new.marks.items c.loop-number-test.true (search rules) c.loop-number.invariant.0 (OnTrue_at c.if-not-mark.false c.mark.ensures.marked),
      c.mark.ensures.length ∙ c.loop-number.invariant.1,
    )

pub returns : goal.returns
returns c =
    named_once c.args.numbers.now c.loop-number.number-index c.args.count c.loop-number.marks.items c.are_all_marked.result c.loop-number-test.false c.loop-number.invariant.0 c.loop-number.invariant.1
    (c.are_all_marked.ensures ∙ ap (list_all (λ m. m)) c.deref.ensures.value)
