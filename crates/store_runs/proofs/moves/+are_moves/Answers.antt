use Rattle.std.proofs.Common.{ℤ, List, refl, sym, subst}
use Rattle.cbl_base.specs.declared.ids.VarId.{VarId}
use Rattle.store_turns.specs.Meaning.{graph_of}
use Rattle.inc_store.specs.Moves.{AreMoves}
use Rattle.store_runs.proofs.moves.+are_moves.Goals as goal

pub returns-else-is_moved : goal.returns-else-is_moved
returns-else-is_moved t c = λ holds rules.
    subst (λ (moves : List (VarId × ℤ)). AreMoves (graph_of rules c.args.frame.now) moves) (sym c.in-Some.ensures.cases.0)
    (c.if-not-is_free.ensures.within refl, c.if-not-is_free.ensures.free refl, sym c.if-is_moved.ensures, c.are_moves.ensures holds rules)
