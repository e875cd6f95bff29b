-- A model that has one more variable or one more definition has a plain twin that has it, too; and models with the same
-- lists have one plain twin.
use Rattle.std.proofs.Common.{◌≡◌, sym, ap, ◌∙◌, List, [], ◌∷◌, ◌++◌, map, length}
use Rattle.term_model.specs.declared.model.Definition.{Definition}
use Rattle.term_model.specs.declared.model.Model.{Model}
use Rattle.term_model.specs.declared.model.Posted.{Posted}
use Rattle.term_model.specs.declared.model.Posted.TheVariants.{Define}
use Rattle.term_model.specs.declared.model.Total.{Total}
use Rattle.term_model.specs.declared.model.VarDecl.{VarDecl}
use Rattle.model_view.specs.Vectors.{vec_of}
use Rattle.model_view.specs.Building.{with_variable, with_definition}
use Rattle.model_view.specs.Plain.{plain_term, plain_definition, plain_total, plain_model}
use Rattle.model_view.proofs.PlainTerms.{length_map}
use Rattle.model_view.proofs.PlainSubterms.{map_append}
use Rattle.model_view.proofs.PlainModels.{plain_vars, plain_defs, plain_posted}

abbrev of_lists : List VarDecl → List Definition → List Total → List Total → List Posted → Model
of_lists vars defs systems objectives posted = record {
  vars = vec_of vars;
  defs = vec_of defs;
  systems = vec_of (map plain_total systems);
  objectives = vec_of (map plain_total objectives);
  posted = vec_of posted;
}

alike : (vars vars' : List VarDecl) (defs defs' : List Definition) (ss ss' os os' : List Total) (ps ps' : List Posted) → vars ≡ vars' → defs ≡ defs' → ss ≡ ss' → os ≡ os' → ps ≡ ps' → of_lists vars defs ss os ps ≡ of_lists vars' defs' ss' os' ps'
alike vars vars' defs defs' ss ss' os os' ps ps' a b c d e =
    ap (λ x. of_lists x defs ss os ps) a ∙ ap (λ x. of_lists vars' x ss os ps) b ∙ ap (λ x. of_lists vars' defs' x os ps) c ∙ ap (λ x. of_lists vars' defs' ss' x ps) d ∙ ap (λ x. of_lists vars' defs' ss' os' x) e

pub same_plain : (M N : Model) → N.vars.items ≡ M.vars.items → N.defs.items ≡ M.defs.items → N.systems.items ≡ M.systems.items → N.objectives.items ≡ M.objectives.items → N.posted.items ≡ M.posted.items → plain_model N ≡ plain_model M
same_plain M N a b c d e = alike _ _ _ _ _ _ _ _ _ _ a (ap (map plain_definition) b) c d e

pub gets_variable : (M N : Model) (v : VarDecl) → N.vars.items ≡ M.vars.items ++ v ∷ [] → N.defs.items ≡ M.defs.items → N.systems.items ≡ M.systems.items → N.objectives.items ≡ M.objectives.items → N.posted.items ≡ M.posted.items → plain_model N ≡ with_variable (plain_model M) v
gets_variable M N v a b c d e =
    alike _ _ _ _ _ _ _ _ _ _ a (ap (map plain_definition) b) c d e
    ∙ ap (λ vars. of_lists (vars ++ v ∷ []) (map plain_definition M.defs.items) M.systems.items M.objectives.items M.posted.items) (sym (plain_vars M))

pub gets_definition : (M N : Model) (def : Definition) → N.vars.items ≡ M.vars.items → N.defs.items ≡ M.defs.items ++ def ∷ [] → N.systems.items ≡ M.systems.items → N.objectives.items ≡ M.objectives.items → N.posted.items ≡ M.posted.items ++ Define (length M.defs.items) ∷ [] → plain_model N ≡ with_definition (plain_model M) def.var (plain_term def.term)
gets_definition M N def a b c d e =
    let defs : map plain_definition N.defs.items ≡ (plain_model M).defs.items ++ plain_definition def ∷ [] = ap (map plain_definition) b ∙ map_append plain_definition M.defs.items (def ∷ []) ∙ ap (λ ds. ds ++ plain_definition def ∷ []) (sym (plain_defs M)) in
    let count : length M.defs.items ≡ length (plain_model M).defs.items = sym (length_map plain_definition M.defs.items) ∙ ap length (sym (plain_defs M)) in
    let posted : N.posted.items ≡ (plain_model M).posted.items ++ Define (length (plain_model M).defs.items) ∷ [] = e ∙ ap (λ ps. ps ++ Define (length M.defs.items) ∷ []) (sym (plain_posted M)) ∙ ap (λ n. (plain_model M).posted.items ++ Define n ∷ []) count in
    alike _ _ _ _ _ _ _ _ _ _ a defs c d posted
