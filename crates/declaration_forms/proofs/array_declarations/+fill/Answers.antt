use Rattle.std.proofs.Common.{refl, rules, [], ◌∷◌, ◌++◌, map, w64, FitsSigned, to_z, option_map}
use Rattle.std.specs.Prelude.{FitsSigned}
use Rattle.std.proofs.lemmas.Int.{to_z-of_z}
use Rattle.checked_tree.specs.Shape.{seen}
use Rattle.comet_meaning.proofs.GoingStatements.{goes_level}
use Rattle.comet_meaning.proofs.GoingDeclarations.{goes_each_cell, goes_next_cell, goes_put_named}
use Rattle.comet_meaning.specs.Program.{level}
use Rattle.std.proofs.lemmas.Result.{err_from_is_err_and}
use Rattle.comet_meaning.specs.Declarations.{next_cell}
use Rattle.run_steps.proofs.Stops.{stopped_then}
use Rattle.std.specs.Option.{option_copied}
use Rattle.run_effects.specs.Extents.{extent_seen}
use Rattle.run_effects.proofs.Filling.{along_end, along_none, below, fits_next, reached, along_step, along_stop, cells_of_none, cells_of_some, far_falls}
use Rattle.declaration_forms.proofs.array_declarations.+fill.Goals as goal

pub fill_at-returns-in_err-put_named : goal.fill_at-returns-in_err-put_named
fill_at-returns-in_err-put_named g t c = let p = err_from_is_err_and c.from_residual.result c.from_residual.ensures.1 in record { did = λ is. rw (p.1, p.2) (stopped_then _ _ _ _ (goes_put_named _ _) refl (λ _. goes_each_cell _ _ _ _ (λ js xs. goes_next_cell _ (goes_level _ _) _ _ js xs)) (simp (to_z-of_z w64 c.args.index c.ranges.index) at (c.in_err-put_named.ensures (g.O.Outside.told c.args.out.now)))) }

pub fill_at-returns : goal.fill_at-returns
fill_at-returns g t c = record { did = λ is. rw (simp (to_z-of_z w64 c.args.index c.ranges.index) at (c.in_ok-put_named.ensures (g.O.Outside.told c.args.out.now))) (c.fill.ensures.did (is ++ c.args.index ∷ [])) }

pub fill-returns-in-None : goal.fill-returns-in-None
fill-returns-in-None g t c = record { did = λ is. rw (cells_of_none _ is _ _ (rw c.in-None.is at c.first.ensures.value)) (c.push_cell.ensures.did is) }

pub fill-returns-in-Some : goal.fill-returns-in-Some
fill-returns-in-Some g t c = record { did = λ is. rw (cells_of_some _ is _ _ _ (rw c.in-Some.is at c.first.ensures.value)) (c.fill_along.ensures.did is) }

pub fill_along-returns-then-is_empty : goal.fill_along-returns-then-is_empty
fill_along-returns-then-is_empty g t c = let up_fits : FitsSigned w64 c.args.extent.bounds.up = search rules in let low_fits : FitsSigned w64 c.args.extent.bounds.low = search rules in record { did = λ is. along_none (next_cell (level (g.W.Within.code c.args.inside.now) (g.W.Within.depth c.args.inside.now)) c.args.at (option_map seen (option_copied c.args.value))) c.args.extent.slot (map extent_seen c.args.later.now) is c.args.extent.bounds.low c.args.extent.bounds.up c.args.numbers.items _ (simp (to_z-of_z w64 c.args.extent.bounds.up up_fits, to_z-of_z w64 c.args.extent.bounds.low low_fits) at c.if-is_empty.true) }

pub fill_along-returns-in_err-filled : goal.fill_along-returns-in_err-filled
fill_along-returns-in_err-filled g t c = let p = err_from_is_err_and c.from_residual.result c.from_residual.ensures.1 in record { did = λ is. rw (p.1, p.2) (along_stop (c.indices.invariant is) (λ js xs. goes_next_cell _ (goes_level _ _) _ _ js xs) _ _ (c.in_err-filled.ensures.did is)) }

pub fill_along-returns-else-goes_on : goal.fill_along-returns-else-goes_on
fill_along-returns-else-goes_on g t c = let up_fits : FitsSigned w64 c.args.extent.bounds.up = search rules in record { did = λ is. along_end (c.indices.invariant is) (reached (to_z w64 c.indices.index-bits) c.args.extent.bounds.up (simp (to_z-of_z w64 c.args.extent.bounds.up up_fits) at c.if-goes_on.false) (c.indices.invariant is).within) (c.in_ok-filled.ensures.did is) }

pub fill_along-indices-preserved : goal.fill_along-indices-preserved
fill_along-indices-preserved g t c = let up_fits : FitsSigned w64 c.args.extent.bounds.up = search rules in let index_fits : FitsSigned w64 (to_z w64 c.indices.index-bits) = search rules in let less = below (to_z w64 c.indices.index-bits) c.args.extent.bounds.up (simp (to_z-of_z w64 c.args.extent.bounds.up up_fits) at c.if-goes_on.true) in let next_fits = fits_next (to_z w64 c.indices.index-bits) c.args.extent.bounds.up less index_fits up_fits in λ is. rw (to_z-of_z w64 _ next_fits) (along_step (c.indices.invariant is) less (c.in_ok-filled.ensures.did is))

pub fill_along-indices-smaller : goal.fill_along-indices-smaller
fill_along-indices-smaller g t c = let up_fits : FitsSigned w64 c.args.extent.bounds.up = search rules in let index_fits : FitsSigned w64 (to_z w64 c.indices.index-bits) = search rules in let less = below (to_z w64 c.indices.index-bits) c.args.extent.bounds.up (simp (to_z-of_z w64 c.args.extent.bounds.up up_fits) at c.if-goes_on.true) in let next_fits = fits_next (to_z w64 c.indices.index-bits) c.args.extent.bounds.up less index_fits up_fits in rw (to_z-of_z w64 _ next_fits) (far_falls _ _ less)
