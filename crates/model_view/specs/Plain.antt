-- A term or a model, where each list in it lies in no particular place: what all have that differ only in where their
-- lists lie. A rule of this project.
use Rattle.std.specs.Prelude.{map}
use Rattle.term_model.specs.declared.model.Definition.{Definition}
use Rattle.term_model.specs.declared.model.Member.{Member}
use Rattle.term_model.specs.declared.model.Model.{Model}
use Rattle.term_model.specs.declared.model.Total.{Total}
use Rattle.term_model.specs.declared.term.Term.{Term}
use Rattle.term_model.specs.declared.term.Term.TheOpen.{Term-F}
use Rattle.term_model.specs.declared.term.Term.TheFolds.{fold-Term}
use Rattle.model_view.specs.Building.{constant, constant_set, variable, node}
use Rattle.model_view.specs.Vectors.{vec_of}

abbrev pub plain_step : Term-F Term → Term
plain_step (Term-F.Const x) = constant x
plain_step (Term-F.ConstSet s) = constant_set s
plain_step (Term-F.Var v) = variable v
plain_step (Term-F.Node op args place) = node op args.items place

abbrev pub plain_term : Term → Term
plain_term = fold-Term Term plain_step

abbrev pub plain_definition : Definition → Definition
plain_definition d = record d { term = plain_term d.term }

abbrev pub plain_member : Member → Member
plain_member m = record m { term = plain_term m.term }

abbrev pub plain_total : Total → Total
plain_total t = record t { members = vec_of (map plain_member t.members.items) }

abbrev pub plain_model : Model → Model
plain_model M = record {
  vars = vec_of M.vars.items;
  defs = vec_of (map plain_definition M.defs.items);
  systems = vec_of (map plain_total M.systems.items);
  objectives = vec_of (map plain_total M.objectives.items);
  posted = vec_of M.posted.items;
}
