-- One more term.
use Rattle.std.proofs.Common.{◌<◌, ◌++◌, ◌∷◌, [], ℕ, List, length, map, max, take, sym, ap, ◌∙◌, arith}
use Rattle.std.proofs.lemmas.List.{take_more}
use Rattle.term_model.specs.Depth.{depth_of, greatest}
use Rattle.term_model.specs.declared.term.Term.{Term}
use Rattle.run_solvers.proofs.FittingLaws.{greatest_at}
use Rattle.run_solvers.proofs.built.deepest_of.Goals as goal

pub loop-term-preserved : goal.loop-term-preserved
loop-term-preserved c =
    let ts = c.args.terms.now in
    let i = c.loop-term.term-index in
    let t = c.term-item.result in
    let lt : i < length ts = omega (arith, c.loop-term-test.true) in
    c.deeper-deepest.ensures
    ∙ ap (λ (n : ℕ). max n c.depth.result) c.loop-term.invariant
    ∙ ap (λ (n : ℕ). max (greatest (map depth_of (take i ts))) n) c.depth.ensures
    ∙ sym (greatest_at (take i ts) t)
    ∙ ap (λ (us : List Term). greatest (map depth_of us)) (ap (λ (u : Term). take i ts ++ u ∷ []) c.term-item.is ∙ sym (take_more ts i t lt))
