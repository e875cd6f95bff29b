use Rattle.std.proofs.Common.{rules, ◌∙◌, ap, map}
use Rattle.term_model.specs.Definitions.{named_by}
use Rattle.term_model.proofs.UsableLaws.{acyclic_again}
use Rattle.term_model.proofs.usable.is_acyclic.Goals as goal

pub returns : goal.returns
returns c =
    let names = c.in_ok-named.ensures ∙ ap (λ ds. map (named_by ds) c.args.table.now) c.deref.ensures.value in
    acyclic_again c.args.model.now c.requires.formed c.args.table.now c.in_ok-named.named.items c.in_ok-ranks.ranks.items c.requires.table names
    c.are_ranked.result c.deref-4.result.now c.deref-5.result.now c.len-2.result c.deref-4.ensures.value c.deref-5.ensures.value (search rules) c.are_ranked.ensures
