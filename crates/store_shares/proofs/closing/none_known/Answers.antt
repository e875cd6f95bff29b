use Rattle.std.proofs.Common.{◌≡◌, ◌∙◌, ◌+◌, ◌++◌, ◌∷◌, [], length, ap, refl, subst, sym}
use Rattle.std.specs.Prelude.{None}
use Rattle.std.proofs.lemmas.List.{length_push}
use Rattle.store_shares.proofs.SettledLaws.{AreUnknown, none_more}
use Rattle.store_shares.proofs.closing.none_known.Goals as goal

pub loop-variable-init : goal.loop-variable-init
loop-variable-init c =
    let items : c.in_ok-sets.sets.items ≡ [] = c.in_ok-sets.ensures.items in
    (ap length items, subst AreUnknown (sym items) (λ x. refl))

pub loop-variable-preserved : goal.loop-variable-preserved
loop-variable-preserved c =
    let old = c.loop-variable.sets.items in
    let items : c.push.new.self.items ≡ old ++ None ∷ [] = c.in_ok-push.ensures.items in
    (ap length items ∙ length_push old None ∙ ap (λ n. n + 1) c.loop-variable.invariant.0, subst AreUnknown (sym items) (none_more old c.loop-variable.invariant.1))
