use Rattle.std.proofs.Common.{◌≡◌, ◌∙◌, ◌+◌, [], ◌++◌, ◌∷◌, length, ap, arith, refl, subst, sym}
use Rattle.std.proofs.lemmas.List.{length_push}
use Rattle.store_shares.proofs.NamingLaws.{AreEmpty, empty_more, naming_none}
use Rattle.store_shares.proofs.naming.Naming.new.Goals as goal

pub loop-variable-init : goal.loop-variable-init
loop-variable-init c =
    let items : c.in_ok-sets.sets.items ≡ [] = c.in_ok-sets.ensures.items in
    (ap length items, subst AreEmpty (sym items) (λ x. refl))

pub loop-variable-preserved : goal.loop-variable-preserved
loop-variable-preserved c =
    let old = c.loop-variable.sets.items in
    let items : c.push.new.self.items ≡ old ++ c.new.result ∷ [] = c.in_ok-push.ensures.items in
    (ap length items ∙ length_push old c.new.result ∙ ap (λ n. n + 1) c.loop-variable.invariant.0, subst AreEmpty (sym items) (empty_more old c.new.result c.loop-variable.invariant.1 c.new.ensures.items))

pub returns : goal.returns
returns c =
    let size = c.loop-variable.invariant.0 in
    let width : length c.loop-variable.sets.items ≡ c.args.variables = omega (arith, size) in
    naming_none c.args.variables (record { sets = c.loop-variable.sets; count = 0 }) width refl c.loop-variable.invariant.1
