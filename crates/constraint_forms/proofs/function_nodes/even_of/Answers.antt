use Rattle.std.proofs.Common.{◌≡◌, sym, subst, arith, length}
use Rattle.run_steps.specs.Does.{Does}
use Rattle.constraint_forms.proofs.TestLaws.{even_so, even_not}
use Rattle.constraint_forms.proofs.function_nodes.even_of.Goals as goal

pub returns-then-count-others : goal.returns-then-count-others
returns-then-count-others c = let n : c.len-others.result ≡ length c.args.terms.items = omega (arith, c.len-others.ensures, c.args.terms.ok.0) in record { did = λ s. even_not _ _ _ _ s (λ same. c.if-count-others.true (omega (arith, n, same))) }

pub returns : goal.returns
returns c = let n : c.len-others.result ≡ length c.args.terms.items = omega (arith, c.len-others.ensures, c.args.terms.ok.0) in record { did = λ s. subst (Does _ _ s) (sym (even_so _ _ _ _ s (omega (arith, n, c.if-count-others.false)))) (c.node_of.ensures.did s) }
