use Rattle.std.proofs.Common.{rules, ◌≡◌, ◌++◌, [], ◌∷◌, suc, ◌-◌, ◌<◌, ◌≤◌, Some, None, arith, subst}
use Rattle.term_model.specs.Checks.{IsKindWithin}
use Rattle.term_model.specs.Kinds.{kinds_in}
use Rattle.term_model.proofs.KindSteps.{one_so_far, arg_without}
use Rattle.term_model.proofs.kinds.+kind_within.Goals as goal

pub loop-arg-preserved : goal.loop-arg-preserved
loop-arg-preserved t c =
    let within : IsKindWithin (kinds_in c.args.vars.now) (c.args.limit - 1) c.arg-item.result (Some c.in-Some.kind) =
    subst (IsKindWithin (kinds_in c.args.vars.now) (c.args.limit - 1) c.arg-item.result) c.in-Some.is c.in_ok-kind-in-Node.ensures in
    let less : c.args.limit - 1 < c.args.limit = omega (arith, c.if-limit-eq0.false) in
    let pushed : c.push.new.self.items ≡ c.loop-arg.kinds.items ++ c.in-Some.kind ∷ [] = search rules in
    one_so_far (kinds_in c.args.vars.now) c.args.limit c.deref-arg-items.result.now c.loop-arg.arg-index c.arg-item.result c.loop-arg.kinds.items c.push.new.self.items c.in-Some.kind (c.args.limit - 1)
    c.loop-arg-test.true c.arg-item.is c.loop-arg.invariant within less pushed

pub returns-in_default : goal.returns-in_default
returns-in_default t c =
    let none : c.in_ok-kind-in-Node.field-0 ≡ None = search rules in
    let within : IsKindWithin (kinds_in c.args.vars.now) (c.args.limit - 1) c.arg-item.result None =
    subst (IsKindWithin (kinds_in c.args.vars.now) (c.args.limit - 1) c.arg-item.result) none c.in_ok-kind-in-Node.ensures in
    let less : c.args.limit ≤ suc (c.args.limit - 1) = omega (arith, c.if-limit-eq0.false) in
    arg_without (kinds_in c.args.vars.now) c.args.limit (c.args.limit - 1) c.args.term.now c.in-Node.op c.in-Node.args c.in-Node.place c.deref-arg-items.result.now c.loop-arg.arg-index c.arg-item.result
    c.in-Node.is c.deref-arg-items.ensures.value c.loop-arg-test.true c.arg-item.is less within
