use Rattle.std.proofs.Common.{◌≡◌, ◌∙◌, ◌+◌, ◌≤◌, [], refl, sym, subst, ap, arith, length, rules, FitsSigned, w64}
use Rattle.std.proofs.lemmas.Int.{to_z-of_z}
use Rattle.std.proofs.lemmas.List.{length_push}
use Rattle.std.specs.Prelude.{slice_get}
use Rattle.checked_tree.specs.Shape.{seen}
use Rattle.comet_meaning.specs.Values.{Number}
use Rattle.comet_meaning.proofs.Rows.{items_wholes_of, arguments_start, arguments_end, parameters_end}
use Rattle.run_steps.proofs.Forms.{past_end}
use Rattle.run_steps.proofs.ShortLaws.{numbers_push, numbers_step}
use Rattle.run_steps.proofs.short_calls.numbers_for.Goals as goal

pub loop-argument-init : goal.loop-argument-init
loop-argument-init c = record { left = λ code printed. rw c.in-Ok.ensures.items (arguments_start _ _ _ _ _ _ (items_wholes_of seen _)); known = rw c.in-Ok.ensures.items refl; plain = rw c.in-Ok.ensures.items (record { numbers = []; are = refl }) }

pub returns-in_default-parameter_at : goal.returns-in_default-parameter_at
returns-in_default-parameter_at c = let n : c.len.result ≡ c.loop-argument.argument-index = omega (arith, c.len.ensures, c.loop-argument.invariant.known, c.loop-argument.values.ok.0) in record { given = λ code printed. record { plain = c.loop-argument.invariant.plain; gives = parameters_end (c.loop-argument.invariant.left code printed) (subst (λ n. length c.args.parameters.now ≤ n) n (past_end _ _ _ c.parameter_at.ensures c.in_default-parameter_at.not-Some)) } }

pub loop-argument-preserved : goal.loop-argument-preserved
loop-argument-preserved c = let n : c.len.result ≡ c.loop-argument.argument-index = omega (arith, c.len.ensures, c.loop-argument.invariant.known, c.loop-argument.values.ok.0) in let f : FitsSigned w64 c.in_ok-number.number = search rules in record { left = λ code printed. numbers_step _ _ _ _ _ _ _ c.in_ok-number.number _ _ _ _ (c.loop-argument.invariant.left code printed) (ap (slice_get c.args.parameters.now) (sym n) ∙ sym c.parameter_at.ensures ∙ c.in-Some.is) c.loop-argument-test.true c.argument-item.is (sym c.is_handed_itself.ensures ∙ c.if-is_handed_itself.false) (c.in_ok-number.ensures.given code printed) (ap Number (to_z-of_z w64 c.in_ok-number.number f)) c.in-Ok-push.ensures.items; known = ap length c.in-Ok-push.ensures.items ∙ length_push _ _ ∙ ap (λ n. n + 1) c.loop-argument.invariant.known; plain = numbers_push _ _ _ c.in_ok-number.number c.in-Ok-push.ensures.items (ap Number (to_z-of_z w64 c.in_ok-number.number f)) c.loop-argument.invariant.plain }

pub returns : goal.returns
returns c = record { given = λ code printed. record { plain = c.loop-argument.invariant.plain; gives = arguments_end (c.loop-argument.invariant.left code printed) c.loop-argument-test.false } }
