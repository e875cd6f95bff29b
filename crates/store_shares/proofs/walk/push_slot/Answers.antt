use Rattle.std.proofs.Common.{◌≡◌, ◌∙◌, ◌++◌, ◌∷◌, ◌-◌, [], length, take, drop, rules, ap, subst}
use Rattle.term_model.specs.Definitions.{vars_of}
use Rattle.store_shares.specs.Naming.{IsNaming}
use Rattle.store_shares.proofs.WalkLaws.{behind_of, walked_one}
use Rattle.store_shares.proofs.walk.push_slot.Goals as goal

pub returns : goal.returns
returns c =
    let named = c.in_ok-push_variables.ensures in
    let new = c.push_variables.new.into.items in
    let first : c.len-first.result ≡ length c.args.walk.now.named.items = search rules in
    let is : take (length c.deref.result.now - c.len-first.result) (drop c.len-first.result c.deref.result.now) ≡ vars_of c.args.argument.now =
    ap (λ l. take (length l - c.len-first.result) (drop c.len-first.result l)) c.deref.ensures.value ∙ ap (λ n. take (length c.push_variables.new.into.items - n) (drop n c.push_variables.new.into.items)) first
    ∙ behind_of c.args.walk.now.named.items (vars_of c.args.argument.now) c.push_variables.new.into.items named in
    walked_one c.args.walk.now (record { alloc = c.args.walk.now.alloc; slots = c.push.new.self; named = c.push_variables.new.into }) (vars_of c.args.argument.now)
    (λ variables lists naming. subst (λ l. IsNaming variables c.push.new.self (lists ++ l ∷ [])) is (c.in_ok-push.ensures.more variables lists naming)) c.in_ok-push.ensures.count named
