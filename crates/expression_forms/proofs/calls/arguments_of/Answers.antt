use Rattle.std.proofs.Common.{◌≡◌, ◌∙◌, ◌+◌, ◌≤◌, refl, sym, subst, ap, arith, length}
use Rattle.std.proofs.lemmas.List.{length_push}
use Rattle.std.specs.Prelude.{slice_get}
use Rattle.checked_tree.specs.Shape.{seen}
use Rattle.comet_meaning.proofs.GoingStatements.{goes_level}
use Rattle.comet_meaning.proofs.Rows.{items_wholes_of, arguments_start, arguments_end, parameters_end, arguments_step, arguments_err, arguments_onward}
use Rattle.run_steps.proofs.Exits.{ends_passes, exit, memory_exit}
use Rattle.run_steps.proofs.Forms.{arguments_pushed, past_end}
use Rattle.expression_forms.proofs.calls.arguments_of.Goals as goal

pub loop-argument-init : goal.loop-argument-init
loop-argument-init g c = record { left = rw c.new-values.ensures.items (arguments_start _ _ _ _ _ _ (items_wholes_of seen _)); known = rw c.new-values.ensures.items refl }

pub returns-in_default : goal.returns-in_default
returns-in_default g c = let n : c.len.result ≡ c.loop-argument.argument-index = omega (arith, c.len.ensures, c.loop-argument.invariant.known, c.loop-argument.values.ok.0) in record { did = parameters_end c.loop-argument.invariant.left (subst (λ n. length c.args.parameters.now ≤ n) n (past_end _ _ _ c.parameter_at.ensures c.in_default.not-Some)) }

pub returns-in_err-value : goal.returns-in_err-value
returns-in_err-value g c = let n : c.len.result ≡ c.loop-argument.argument-index = omega (arith, c.len.ensures, c.loop-argument.invariant.known, c.loop-argument.values.ok.0) in record { did = exit _ _ _ _ _ c.from_residual.ensures.1 (arguments_err c.loop-argument.invariant.left _ _ (ap (slice_get c.args.parameters.now) (sym n) ∙ sym c.parameter_at.ensures ∙ c.in-Some.is) c.loop-argument-test.true c.argument-item.is _ (ends_passes _ _) (goes_level _ _) c.in_err-value.ensures.did) }

pub returns-in_err-push : goal.returns-in_err-push
returns-in_err-push g c = let n : c.len.result ≡ c.loop-argument.argument-index = omega (arith, c.len.ensures, c.loop-argument.invariant.known, c.loop-argument.values.ok.0) in record { did = memory_exit _ _ _ _ c.from_residual-in_err-push.ensures.1 (arguments_onward (arguments_step c.loop-argument.invariant.left _ _ (ap (slice_get c.args.parameters.now) (sym n) ∙ sym c.parameter_at.ensures ∙ c.in-Some.is) c.loop-argument-test.true c.argument-item.is c.in_ok-value.ensures.did) (goes_level _ _)).printed }

pub loop-argument-preserved : goal.loop-argument-preserved
loop-argument-preserved g c = let n : c.len.result ≡ c.loop-argument.argument-index = omega (arith, c.len.ensures, c.loop-argument.invariant.known, c.loop-argument.values.ok.0) in record { left = arguments_pushed _ _ _ _ _ _ _ _ _ c.in_ok-push.ensures.items (arguments_step c.loop-argument.invariant.left _ _ (ap (slice_get c.args.parameters.now) (sym n) ∙ sym c.parameter_at.ensures ∙ c.in-Some.is) c.loop-argument-test.true c.argument-item.is c.in_ok-value.ensures.did); known = ap length c.in_ok-push.ensures.items ∙ length_push _ _ ∙ ap (λ n. n + 1) c.loop-argument.invariant.known }

pub returns : goal.returns
returns g c = record { did = arguments_end c.loop-argument.invariant.left c.loop-argument-test.false }
