use Rattle.std.proofs.Common.{◌∙◌, ap, [], ◌∷◌}
use Rattle.cbl_base.specs.declared.input.Input.TheVariants.{Set}
use Rattle.cbl_base.specs.Sets.{set_of}
use Rattle.cbl_base.proofs.SetLemmas.{set_of-rising}
use Rattle.base_tests.proofs.base.SizeNodeRule.probe.Goals as goal

pub loop-change-init : goal.loop-change-init
loop-change-init c =
    ap (λ t. Set t ∷ []) (c.in_ok-set.ensures ∙ ap set_of c.as_slice.ensures.members ∙ set_of-rising c.args.self.now.set c.as_slice.ensures.rising)
