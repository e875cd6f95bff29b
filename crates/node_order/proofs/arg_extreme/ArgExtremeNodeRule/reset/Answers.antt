use Rattle.std.proofs.Common.{◌∙◌, ap, map}
use Rattle.std.proofs.lemmas.Bool.{and_parts}
use Rattle.cbl_base.specs.Inputs.{as_inputs, numbers_of}
use Rattle.cbl_base.proofs.InputLemmas.{as_inputs-numbers_of}
use Rattle.node_order.specs.Extremes.{turned}
use Rattle.node_order.proofs.ExtremeLemmas.{turned_twice}
use Rattle.node_order.proofs.arg_extreme.ArgExtremeNodeRule.reset.Goals as goal

pub returns-clause-held : goal.returns-clause-held
returns-clause-held c =
    let e = c.args.self.now.extreme in
    ap (λ t. as_inputs (map (turned e) t)) (c.in_ok-reset.ensures.numbers ∙ c.deref.ensures.value ∙ c.in_ok-numbers.ensures)
    ∙ ap as_inputs (turned_twice e (numbers_of c.args.inputs.now)) ∙ as_inputs-numbers_of c.args.inputs.now (and_parts _ _ c.requires).0
