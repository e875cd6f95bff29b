use Rattle.std.proofs.Common.{◌≡◌, sym, ap, subst, Option, List, map, option_map}
use Rattle.cbl_base.specs.declared.place.Place.{Place}
use Rattle.term_model.specs.declared.model.VarDecl.{VarDecl}
use Rattle.checked_tree.specs.declared.statements.Start.{Start}
use Rattle.checked_tree.specs.Actions.{Varying, start_of, variable_of}
use Rattle.comet_meaning.specs.Declarations.{Dimension}
use Rattle.comet_meaning.specs.Levels.{Level}
use Rattle.comet_meaning.specs.Program.{level}
use Rattle.comet_meaning.specs.State.{State}
use Rattle.comet_meaning.specs.Variables.{cells_form}
use Rattle.run_steps.specs.OfRunState.Views.{state_seen}
use Rattle.run_steps.specs.Does.{Does}
use Rattle.run_effects.specs.Extents.{extent_seen}
use Rattle.declaration_forms.proofs.variable_arrays.cells_of.Goals as goal

-- cells by their start
begun : (l : Level) (at : Place) (v : Varying) (d : VarDecl) (ds : List Dimension) (s : State) {x y : Option Start} → x ≡ y → cells_form l at v d ds (option_map start_of x) s ≡ cells_form l at v d ds (option_map start_of y) s
begun l at v d ds s e = ap (λ x. cells_form l at v d ds (option_map start_of x) s) e

pub returns-in-None : goal.returns-in-None
returns-in-None g c = record { did = subst (Does _ _ _) (sym (begun (level (g.W.Within.code c.args.inside.now) (g.W.Within.depth c.args.inside.now)) c.args.at (variable_of c.args.variable.now) c.args.decl (map extent_seen c.args.extents.now) (state_seen c.args.s.now (g.O.Outside.told c.args.out.now)) c.in-None.is)) c.started_cells.ensures.did }

pub returns-in-List : goal.returns-in-List
returns-in-List g c = record { did = subst (Does _ _ _) (sym (begun (level (g.W.Within.code c.args.inside.now) (g.W.Within.depth c.args.inside.now)) c.args.at (variable_of c.args.variable.now) c.args.decl (map extent_seen c.args.extents.now) (state_seen c.args.s.now (g.O.Outside.told c.args.out.now)) c.in-Some.is)) (rw c.in-List.is c.listed_cells.ensures.did) }

pub returns-in-Each : goal.returns-in-Each
returns-in-Each g c = record { did = subst (Does _ _ _) (sym (begun (level (g.W.Within.code c.args.inside.now) (g.W.Within.depth c.args.inside.now)) c.args.at (variable_of c.args.variable.now) c.args.decl (map extent_seen c.args.extents.now) (state_seen c.args.s.now (g.O.Outside.told c.args.out.now)) c.in-Some.is)) (rw c.in-Each.is c.started_cells-in-Each.ensures.did) }

pub returns-in-Define : goal.returns-in-Define
returns-in-Define g c = record { did = subst (Does _ _ _) (sym (begun (level (g.W.Within.code c.args.inside.now) (g.W.Within.depth c.args.inside.now)) c.args.at (variable_of c.args.variable.now) c.args.decl (map extent_seen c.args.extents.now) (state_seen c.args.s.now (g.O.Outside.told c.args.out.now)) c.in-Some.is)) (rw c.in-Define.is c.started_cells-in-Define.ensures.did) }
