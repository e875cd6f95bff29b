use Rattle.std.proofs.Common.{◌∙◌, sym, subst, w64}
use Rattle.std.proofs.lemmas.Int.{to_z-of_z}
use Rattle.run_steps.specs.Does.{Does}
use Rattle.constraint_forms.proofs.TestLaws.{window_so, window_not}
use Rattle.constraint_forms.proofs.function_nodes.window_of.Goals as goal

pub returns-then-not-is_proper : goal.returns-then-not-is_proper
returns-then-not-is_proper c = record { did = λ s. window_not c.args.at c.args.members c.args.most c.args.window c.args.terms.items s (rw (to_z-of_z w64 c.args.most c.ranges.most, to_z-of_z w64 c.args.window c.ranges.window) at (sym c.is_proper.ensures ∙ c.if-not-is_proper.true)) }

pub returns : goal.returns
returns c = record { did = λ s. subst (Does _ _ s) (sym (window_so c.args.at c.args.members c.args.most c.args.window c.args.terms.items s (rw (to_z-of_z w64 c.args.most c.ranges.most, to_z-of_z w64 c.args.window c.ranges.window) at (sym c.is_proper.ensures ∙ c.if-not-is_proper.false)))) (rw (to_z-of_z w64 c.args.most c.ranges.most, to_z-of_z w64 c.args.window c.ranges.window) at (c.node_of.ensures.did s)) }
