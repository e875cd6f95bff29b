-- Terms and models that are built of lists: each list in them lies in no particular place. A rule of this project.
use Rattle.std.specs.Prelude.{ℤ, List, [], ◌∷◌, ◌++◌, length}
use Rattle.cbl_base.specs.declared.ids.VarId.{VarId}
use Rattle.cbl_base.specs.declared.place.Place.{Place}
use Rattle.model_values.specs.OfCblOperations.declared.op.Op.{Op}
use Rattle.term_model.specs.declared.model.Model.{Model}
use Rattle.term_model.specs.declared.model.Posted.TheVariants.{Define}
use Rattle.term_model.specs.declared.model.VarDecl.{VarDecl}
use Rattle.term_model.specs.declared.term.Term.{Term}
use Rattle.term_model.specs.declared.term.Term.TheOpen.{Term-F}
use Rattle.term_model.specs.declared.term.Term.TheViews.{roll-Term}
use Rattle.model_view.specs.Vectors.{vec_of}

-- terms

abbrev pub constant : ℤ → Term
constant z = roll-Term (Term-F.Const z)

abbrev pub constant_set : List ℤ → Term
constant_set s = roll-Term (Term-F.ConstSet s)

abbrev pub variable : VarId → Term
variable x = roll-Term (Term-F.Var x)

abbrev pub node : Op → List Term → Place → Term
node op args place = roll-Term (Term-F.Node op (vec_of args) place)

-- models

unfoldable pub empty_model : Model
empty_model = record { vars = vec_of []; defs = vec_of []; systems = vec_of []; objectives = vec_of []; posted = vec_of [] }

-- the model with one more variable
abbrev pub with_variable : Model → VarDecl → Model
with_variable M d = record M { vars = vec_of (M.vars.items ++ d ∷ []) }

-- the model in which a variable has this definition, which is posted behind all else
abbrev pub with_definition : Model → VarId → Term → Model
with_definition M x t = record M {
  defs = vec_of (M.defs.items ++ record { var = x; term = t } ∷ []);
  posted = vec_of (M.posted.items ++ Define (length M.defs.items) ∷ []);
}
