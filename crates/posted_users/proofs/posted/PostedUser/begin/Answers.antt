use Rattle.std.proofs.Common.{◌≡◌, subst, sym, ◌∙◌, ap}
use Rattle.std.specs.Prelude.{IsTrue}
use Rattle.cbl_base.specs.Inputs.{as_inputs, kinds_of}
use Rattle.posted_users.proofs.KeptLaws.{takes_numbers}
use Rattle.posted_users.proofs.posted.PostedUser.begin.Goals as goal

pub reset-requires : goal.reset-requires
reset-requires g c =
    let s = c.self.inside in
    let same : c.deref-2.result.now ≡ as_inputs s.numbers.items = c.deref-2.ensures.value ∙ c.in_ok-inputs.ensures ∙ ap as_inputs c.deref.ensures.value in
    subst (λ xs. IsTrue ((g.N.NodeRule.rule s.node).takes (kinds_of xs))) (sym same) (takes_numbers (g.N.NodeRule.rule s.node) s.numbers.items c.self.invariant.0)
