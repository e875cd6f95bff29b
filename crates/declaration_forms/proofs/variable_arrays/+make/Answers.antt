use Rattle.std.proofs.Common.{refl, rules, ℕ, ℤ, List, [], ◌∷◌, ◌++◌, Option, map, w64, FitsSigned, to_z, option_map}
use Rattle.std.specs.Prelude.{FitsSigned}
use Rattle.std.proofs.lemmas.Int.{to_z-of_z}
use Rattle.cbl_base.specs.declared.ids.VarId.{VarId}
use Rattle.cbl_base.specs.declared.place.Place.{Place}
use Rattle.term_model.specs.declared.model.VarDecl.{VarDecl}
use Rattle.checked_tree.specs.Actions.{Varying, variable_of}
use Rattle.comet_meaning.specs.Declarations.{Dimension, each_cell}
use Rattle.comet_meaning.specs.Levels.{Code}
use Rattle.comet_meaning.specs.Onward.{GoesOn}
use Rattle.comet_meaning.proofs.GoingDeclarations.{goes_each_cell, goes_put_named}
use Rattle.comet_meaning.proofs.GoingStatements.{goes_level}
use Rattle.comet_meaning.specs.Program.{level}
use Rattle.std.proofs.lemmas.Result.{err_from_is_err_and}
use Rattle.run_steps.specs.OfRunState.Views.{state_seen}
use Rattle.run_effects.specs.Extents.{extent_seen}
use Rattle.run_steps.specs.Operands.{variable_cell}
use Rattle.run_steps.proofs.AggregateLaws.{memory_ends}
use Rattle.run_steps.proofs.Exits.{after, exit}
use Rattle.run_effects.proofs.Filling.{along_end, along_none, below, fits_next, reached, along_step, along_stop, cells_of_none, cells_of_some, far_falls}
use Rattle.run_steps.proofs.Goes.{goes_variable_cell}
use Rattle.run_steps.proofs.Stops.{stopped_then}
use Rattle.declaration_forms.proofs.variable_arrays.+make.Goals as goal

-- the cells that some dimensions have, behind some indices
goes_cells : (code : Code) (depth : ℕ) (at : Place) (v : Varying) (d : VarDecl) (numbers : Option (List ℤ)) (ds : List Dimension) (is : List ℤ) (xs : List VarId) → GoesOn (each_cell (variable_cell (level code depth) at v d numbers) ds is xs)
goes_cells code depth at v d numbers ds is xs = goes_each_cell _ ds is xs (λ js ys. goes_variable_cell _ (goes_level code depth) at v d numbers js ys)

pub make_at-returns-in_err-put_named : goal.make_at-returns-in_err-put_named
make_at-returns-in_err-put_named g t c = let p = err_from_is_err_and c.from_residual.result c.from_residual.ensures.1 in record { did = rw (p.1, p.2) (stopped_then _ _ _ _ (goes_put_named _ _) refl (λ _. goes_cells (g.W.Within.code c.args.inside.now) (g.W.Within.depth c.args.inside.now) c.args.making.now.at (variable_of c.args.variable.now) c.args.making.now.decl (option_map (λ numbers. numbers.items) c.args.making.now.list) (map extent_seen c.args.later.now) (c.args.indices.now ++ c.args.index ∷ []) c.args.cells.items) (simp (to_z-of_z w64 c.args.index c.ranges.index) at (c.in_err-put_named.ensures (g.O.Outside.told c.args.out.now)))) }

pub make_at-returns-in_err-inner : goal.make_at-returns-in_err-inner
make_at-returns-in_err-inner g t c = record { did = after _ _ _ _ (simp (to_z-of_z w64 c.args.index c.ranges.index) at (c.in_ok-put_named.ensures (g.O.Outside.told c.args.out.now))) (exit _ _ _ _ _ c.from_residual-in_err-inner.ensures.1 (memory_ends _ _ _ c.in_err-inner.ensures.memory ((goes_cells (g.W.Within.code c.args.inside.now) (g.W.Within.depth c.args.inside.now) c.args.making.now.at (variable_of c.args.variable.now) c.args.making.now.decl (option_map (λ numbers. numbers.items) c.args.making.now.list) (map extent_seen c.args.later.now) (c.args.indices.now ++ c.args.index ∷ []) c.args.cells.items).from (state_seen c.put_named.new.s (g.O.Outside.told c.args.out.now))).printed)) }

pub make_at-returns : goal.make_at-returns
make_at-returns g t c = record { did = rw (simp (to_z-of_z w64 c.args.index c.ranges.index) at (c.in_ok-put_named.ensures (g.O.Outside.told c.args.out.now))) (rw (c.deref.ensures.value, c.in_ok-inner.ensures.more, to_z-of_z w64 c.args.index c.ranges.index) at c.make.ensures.did) }

pub make-returns-in-None : goal.make-returns-in-None
make-returns-in-None g t c = record { did = rw (cells_of_none _ _ _ _ (rw c.in-None.is at c.first.ensures.value)) c.push_cell.ensures.did }

pub make-returns-in-Some : goal.make-returns-in-Some
make-returns-in-Some g t c = record { did = rw (cells_of_some _ _ _ _ _ (rw c.in-Some.is at c.first.ensures.value)) c.make_along.ensures.did }

pub make_along-returns-then-is_empty : goal.make_along-returns-then-is_empty
make_along-returns-then-is_empty g t c = let up_fits : FitsSigned w64 c.args.extent.bounds.up = search rules in let low_fits : FitsSigned w64 c.args.extent.bounds.low = search rules in record { did = along_none (variable_cell (level (g.W.Within.code c.args.inside.now) (g.W.Within.depth c.args.inside.now)) c.args.making.now.at (variable_of c.args.variable.now) c.args.making.now.decl (option_map (λ numbers. numbers.items) c.args.making.now.list)) c.args.extent.slot (map extent_seen c.args.later.now) c.args.indices.now c.args.extent.bounds.low c.args.extent.bounds.up c.args.cells.items _ (simp (to_z-of_z w64 c.args.extent.bounds.up up_fits, to_z-of_z w64 c.args.extent.bounds.low low_fits) at c.if-is_empty.true) }

pub make_along-returns-in_err-made : goal.make_along-returns-in_err-made
make_along-returns-in_err-made g t c = let p = err_from_is_err_and c.from_residual.result c.from_residual.ensures.1 in record { did = rw (p.1, p.2) (along_stop c.sides.invariant (λ js xs. goes_variable_cell _ (goes_level _ _) _ _ _ _ js xs) _ _ c.in_err-made.ensures.did) }

pub make_along-returns-else-goes_on : goal.make_along-returns-else-goes_on
make_along-returns-else-goes_on g t c = let up_fits : FitsSigned w64 c.args.extent.bounds.up = search rules in record { did = along_end c.sides.invariant (reached (to_z w64 c.sides.index-bits) c.args.extent.bounds.up (simp (to_z-of_z w64 c.args.extent.bounds.up up_fits) at c.if-goes_on.false) c.sides.invariant.within) c.in_ok-made.ensures.did }

pub make_along-sides-preserved : goal.make_along-sides-preserved
make_along-sides-preserved g t c = let up_fits : FitsSigned w64 c.args.extent.bounds.up = search rules in let index_fits : FitsSigned w64 (to_z w64 c.sides.index-bits) = search rules in let less = below (to_z w64 c.sides.index-bits) c.args.extent.bounds.up (simp (to_z-of_z w64 c.args.extent.bounds.up up_fits) at c.if-goes_on.true) in let next_fits = fits_next (to_z w64 c.sides.index-bits) c.args.extent.bounds.up less index_fits up_fits in rw (to_z-of_z w64 _ next_fits) (along_step c.sides.invariant less c.in_ok-made.ensures.did)

pub make_along-sides-smaller : goal.make_along-sides-smaller
make_along-sides-smaller g t c = let up_fits : FitsSigned w64 c.args.extent.bounds.up = search rules in let index_fits : FitsSigned w64 (to_z w64 c.sides.index-bits) = search rules in let less = below (to_z w64 c.sides.index-bits) c.args.extent.bounds.up (simp (to_z-of_z w64 c.args.extent.bounds.up up_fits) at c.if-goes_on.true) in let next_fits = fits_next (to_z w64 c.sides.index-bits) c.args.extent.bounds.up less index_fits up_fits in rw (to_z-of_z w64 _ next_fits) (far_falls _ _ less)
