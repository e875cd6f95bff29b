-- Whether all variables that stand in a term pass a test. A rule of this project.
use Rattle.std.specs.Prelude.{Bool, true}
use Rattle.std.specs.List.{list_all}
use Rattle.cbl_base.specs.declared.ids.VarId.{VarId}
use Rattle.term_model.specs.declared.term.Term.{Term}
use Rattle.term_model.specs.declared.term.Term.TheOpen.{Term-F}
use Rattle.term_model.specs.declared.term.Term.TheFolds.{fold-Term}

abbrev pub pass_step : (VarId → Bool) → Term-F Bool → Bool
pass_step p (Term-F.Const x) = true
pass_step p (Term-F.ConstSet s) = true
pass_step p (Term-F.Var v) = p v
pass_step p (Term-F.Node op args place) = list_all (λ b. b) args.items

abbrev pub all_variables : (VarId → Bool) → Term → Bool
all_variables p = fold-Term Bool (pass_step p)
