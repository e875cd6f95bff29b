use Rattle.std.proofs.Common.{[], ◌∷◌, ◌∙◌, ap, sym, subst, refl}
use Rattle.cbl_base.specs.declared.limits.TheConstants.{MAX_NESTING}
use Rattle.comet_syntax.specs.Derivation.{part}
use Rattle.comet_syntax.specs.Grammar.Symbols.{program, token, same}
use Rattle.parse_base.proofs.Steps.{passes_any}
use Rattle.parse_machine.specs.Listing.{IsStop}
use Rattle.parse_machine.specs.Parts.{kind_in, part_of}
use Rattle.parse_machine.specs.Rows.{row_of}
use Rattle.parse_machine.proofs.Depths.{Safe, can_come}
use Rattle.parse_machine.proofs.Running.{begun, got, took, going_as, ended, stopped, left_over}
use Rattle.parse_machine.proofs.Turns.{fewer_read, fewer_chosen}
use Rattle.parse_machine.proofs.machine.list.Goals as goal

pub loop-stack-init : goal.loop-stack-init
loop-stack-init c = going_as c.new-log.ensures.items (c.in_ok-push.ensures.ok ∙ ap (λ z. part program 0 ∷ z) c.new-stack.ensures) refl (begun c.args.tokens.now)

pub returns-in_err-rest-in-Token-clause-err : goal.returns-in_err-rest-in-Token-clause-err
returns-in_err-rest-in-Token-clause-err c =
    let t = rw (c.in-Some.is, c.in-Token.is) at c.in_ok-item.ensures.ok in
    passes_any (IsStop MAX_NESTING c.args.tokens.now) _ _ c.from_residual-in_err-rest-in-Token.ensures.1
    (stopped c.take.new.self c.in_err-rest-in-Token.field-0.0 (token c.in-Token.keeps_place (kind_in c.in-Token.kind) ∷ []) 0 t (c.in_err-rest-in-Token.ensures.err c.in-Token.keeps_place 0) c.loop-stack.invariant)

pub loop-stack-smaller-in-Continue-branch-5 : goal.loop-stack-smaller-in-Continue-branch-5
loop-stack-smaller-in-Continue-branch-5 c =
    let t = rw (c.in-Some.is, c.in-Token.is) at c.in_ok-item.ensures.ok in
    fewer_read t c.in_ok-rest-in-Token.ensures.ok

pub loop-stack-preserved-in-Continue-branch-5 : goal.loop-stack-preserved-in-Continue-branch-5
loop-stack-preserved-in-Continue-branch-5 c =
    let t = rw (c.in-Some.is, c.in-Token.is) at c.in_ok-item.ensures.ok in
    got c.in_ok-push-in-Token.ensures.items c.in_ok-rest-in-Token.ensures.ok (going_as refl (sym t) refl c.loop-stack.invariant)

pub choose-requires : goal.choose-requires
choose-requires c =
    let t = rw (c.in-Some.is, c.in-Part.is) at c.in_ok-item.ensures.ok in
    can_come (subst Safe t c.loop-stack.invariant.safe)

pub returns-in_err-row-in-Part-clause-err : goal.returns-in_err-row-in-Part-clause-err
returns-in_err-row-in-Part-clause-err c =
    let t = rw (c.in-Some.is, c.in-Part.is) at c.in_ok-item.ensures.ok in
    passes_any (IsStop MAX_NESTING c.args.tokens.now) _ _ c.from_residual-in_err-row-in-Part.ensures.1
    (stopped c.take.new.self c.in_err-row-in-Part.field-0.0 (same (part_of c.in-Part.part) ∷ []) c.in-Part.depth t c.in_err-row-in-Part.ensures.err c.loop-stack.invariant)

pub loop-stack-smaller : goal.loop-stack-smaller
loop-stack-smaller c =
    let t = rw (c.in-Some.is, c.in-Part.is) at c.in_ok-item.ensures.ok in
    fewer_chosen t c.in_ok-push-in-Part.ensures.ok c.in_ok-row-in-Part.ensures.ok

pub loop-stack-preserved : goal.loop-stack-preserved
loop-stack-preserved c =
    let t = rw (c.in-Some.is, c.in-Part.is) at c.in_ok-item.ensures.ok in
    took c.in_ok-row-in-Part.row.now.form (row_of c.in_ok-row-in-Part.row.now) refl refl c.in_ok-push-in-Part-2.ensures.items c.in_ok-row-in-Part.ensures.ok
    c.in_ok-push-in-Part.ensures.ok (going_as refl (sym t) refl c.loop-stack.invariant)

pub returns-then-is_empty-clause-ok : goal.returns-then-is_empty-clause-ok
returns-then-is_empty-clause-ok c =
    let t = rw c.in_default.is at c.in_ok-item.ensures.ok in
    ended t c.if-is_empty.ensures c.loop-stack.invariant

pub returns-else-is_empty-clause-err : goal.returns-else-is_empty-clause-err
returns-else-is_empty-clause-err c =
    let t = rw c.in_default.is at c.in_ok-item.ensures.ok in
    left_over _ t c.if-is_empty.ensures c.refuse.ensures c.loop-stack.invariant
