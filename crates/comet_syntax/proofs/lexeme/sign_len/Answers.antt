use Rattle.std.proofs.Common.{arith, ◌∙◌, sym}
use Rattle.comet_syntax.proofs.Lexing.{sign_at_most, sign_step}
use Rattle.comet_syntax.proofs.lexeme.sign_len.Goals as goal
use Rattle.comet_syntax.proofs.lexeme.sign_len.Goals.{else-len-text-via-then-len-text+else-is_sign, else-len-text-via-else-len-text}

pub loop-shorter-init : goal.loop-shorter-init
loop-shorter-init c = λ sign rest e h. sign_at_most sign h

pub loop-shorter-preserved : goal.loop-shorter-preserved
loop-shorter-preserved c = sign_step c.args.text.now c.loop-shorter.shorter (omega arith) c.loop-shorter.invariant
    (elim c.else-len-text.branch [ else-len-text-via-then-len-text+else-is_sign w ↦ (λ fits. sym w.is_sign.ensures ∙ w.if-is_sign.false) | else-len-text-via-else-len-text w ↦ (λ fits. absurd (omega arith)) ])
