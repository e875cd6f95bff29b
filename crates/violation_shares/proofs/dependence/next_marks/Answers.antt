use Rattle.std.proofs.Common.{◌∙◌, ◌+◌, ℕ, ap, length}
use Rattle.std.proofs.lemmas.List.{length_push}
use Rattle.model_values.specs.Dependence.{mark_step}
use Rattle.model_values.proofs.MarkLaws.{marks_push}
use Rattle.violation_shares.proofs.dependence.next_marks.Goals as goal

pub loop-index-preserved : goal.loop-index-preserved
loop-index-preserved g c =
    let before = c.loop-index.next.items in
    let pushed = c.in_ok-push.ensures.items in (
      ap length pushed ∙ length_push before c.next_mark.result ∙ ap (λ (n : ℕ). n + 1) c.loop-index.invariant.0,
      marks_push (mark_step c.args.tables.now.model.now c.args.marks.now c.args.var) before _ _ _ c.loop-index.invariant.0 c.loop-index.invariant.1 c.next_mark.ensures pushed,
    )
