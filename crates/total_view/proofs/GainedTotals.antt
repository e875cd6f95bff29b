-- A model that has one more system, objective or member has a plain twin that has it, too.
use Rattle.std.proofs.Common.{◌≡◌, sym, ap, ◌∙◌, ℕ, zero, suc, List, [], ◌∷◌, ◌++◌, map, length, Some, None, slice_get}
use Rattle.std.specs.Prelude.{slice_set}
use Rattle.std.proofs.lemmas.List.{map-set}
use Rattle.cbl_base.specs.declared.place.Place.{Place}
use Rattle.term_model.specs.declared.model.Definition.{Definition}
use Rattle.term_model.specs.declared.model.Member.{Member}
use Rattle.term_model.specs.declared.model.Model.{Model}
use Rattle.term_model.specs.declared.model.Posted.{Posted}
use Rattle.term_model.specs.declared.model.Posted.TheVariants.{Constrain, Part}
use Rattle.term_model.specs.declared.model.Total.{Total}
use Rattle.term_model.specs.declared.model.VarDecl.{VarDecl}
use Rattle.term_model.specs.declared.posting.Side.TheVariants.{Systems, Objectives}
use Rattle.model_values.specs.declared.wholes.Whole.TheVariants.{System, Objective}
use Rattle.comet_meaning.specs.OfModelView.Plain.{plain_definition, plain_member, plain_model, plain_total}
use Rattle.comet_meaning.specs.OfModelView.Vectors.{vec_of}
use Rattle.comet_meaning.proofs.OfModelView.PlainModels.{mapped_items, plain_posted, plain_totals}
use Rattle.comet_meaning.proofs.OfModelView.PlainSubterms.{map_append}
use Rattle.comet_meaning.proofs.OfModelView.PlainTerms.{length_map}
use Rattle.comet_meaning.specs.Members.{empty_total, grown, next_member, total_in, with_grown, with_member, with_objective, with_system}

abbrev of_lists : List VarDecl → List Definition → List Total → List Total → List Posted → Model
of_lists vars defs systems objectives posted = record { vars = vec_of vars; defs = vec_of defs; systems = vec_of systems; objectives = vec_of objectives; posted = vec_of posted }

alike : (vars vars' : List VarDecl) (defs defs' : List Definition) (ss ss' os os' : List Total) (ps ps' : List Posted) → vars ≡ vars' → defs ≡ defs' → ss ≡ ss' → os ≡ os' → ps ≡ ps' → of_lists vars defs ss os ps ≡ of_lists vars' defs' ss' os' ps'
alike vars vars' defs defs' ss ss' os os' ps ps' a b c d e =
    ap (λ x. of_lists x defs ss os ps) a ∙ ap (λ x. of_lists vars' x ss os ps) b ∙ ap (λ x. of_lists vars' defs' x os ps) c ∙ ap (λ x. of_lists vars' defs' ss' x ps) d ∙ ap (λ x. of_lists vars' defs' ss' os' x) e

-- ---- one more without members

blank_plain : (last : Total) (at : Place) → last.place ≡ at → last.members.items ≡ [] → plain_total last ≡ empty_total at
blank_plain last at e f = ap (λ (ms : List Member). record { place = last.place; members = vec_of (map plain_member ms) }) f ∙ ap empty_total e

pushed_plain : (before after : List Total) (last : Total) (at : Place) → after ≡ before ++ last ∷ [] → last.place ≡ at → last.members.items ≡ [] → map plain_total after ≡ map plain_total before ++ empty_total at ∷ []
pushed_plain before after last at all e f =
    ap (map plain_total) all ∙ map_append plain_total before (last ∷ []) ∙ ap (λ (t : Total). map plain_total before ++ t ∷ []) (blank_plain last at e f)

module _ (M N : Model) (last : Total) (at : Place) (vars : N.vars.items ≡ M.vars.items) (defs : N.defs.items ≡ M.defs.items) (posted : N.posted.items ≡ M.posted.items) (placed : last.place ≡ at) (blank : last.members.items ≡ []) where
  pub gets_system : N.systems.items ≡ M.systems.items ++ last ∷ [] → N.objectives.items ≡ M.objectives.items → plain_model N ≡ with_system (plain_model M) at
  unfolding with_system
  gets_system systems objectives =
      alike _ _ _ _ _ _ _ _ _ _ vars (ap (map plain_definition) defs)
      (pushed_plain M.systems.items N.systems.items last at systems placed blank ∙ ap (λ ts. ts ++ empty_total at ∷ []) (sym (plain_totals M Systems)))
      (ap (map plain_total) objectives) posted

  pub gets_objective : N.objectives.items ≡ M.objectives.items ++ last ∷ [] → N.systems.items ≡ M.systems.items → plain_model N ≡ with_objective (plain_model M) at
  unfolding with_objective
  gets_objective objectives systems =
      alike _ _ _ _ _ _ _ _ _ _ vars (ap (map plain_definition) defs) (ap (map plain_total) systems)
      (pushed_plain M.objectives.items N.objectives.items last at objectives placed blank ∙ ap (λ ts. ts ++ empty_total at ∷ []) (sym (plain_totals M Objectives)))
      posted

-- ---- one more member

-- the one at a place, in a plain model
total_there : (totals : List Total) (k : ℕ) (old : Total) → slice_get totals k ≡ Some old → total_in (map plain_total totals) k ≡ plain_total old
total_there [] k old e = let c : None ≡ Some old = e in cc
total_there (t ∷ ts) zero old e = let same : t ≡ old = cc in ap plain_total same
total_there (t ∷ ts) (suc k) old e = total_there ts k old e

members_plain : (t : Total) → (plain_total t).members.items ≡ map plain_member t.members.items
members_plain t = mapped_items plain_member t.members

grown_plain : (old new : Total) (x : Member) → new.place ≡ old.place → new.members.items ≡ old.members.items ++ x ∷ [] → plain_total new ≡ grown (plain_total old) (plain_member x)
grown_plain old new x e f =
    ap (λ (ms : List Member). record { place = new.place; members = vec_of ms }) (ap (map plain_member) f ∙ map_append plain_member old.members.items (x ∷ []) ∙ ap (λ (ms : List Member). ms ++ plain_member x ∷ []) (sym (members_plain old)))
    ∙ ap (λ (at : Place). record { place = at; members = vec_of ((plain_total old).members.items ++ plain_member x ∷ []) }) e

module _ (before after : List Total) (k : ℕ) (old new : Total) (x : Member) (stood : slice_get before k ≡ Some old) (same : new.place ≡ old.place) (members : new.members.items ≡ old.members.items ++ x ∷ []) (all : after ≡ slice_set before k new) where
  grows_plain : map plain_total after ≡ with_grown (map plain_total before) k (plain_member x)
  grows_plain =
      ap (map plain_total) all ∙ map-set plain_total before k new
      ∙ ap (slice_set (map plain_total before) k) (grown_plain old new x same members ∙ ap (λ (t : Total). grown t (plain_member x)) (sym (total_there before k old stood)))

  next_plain : length old.members.items ≡ next_member (map plain_total before) k
  next_plain =
      sym (length_map plain_member old.members.items) ∙ ap length (sym (members_plain old)) ∙ ap (λ (t : Total). length t.members.items) (sym (total_there before k old stood))

module _ (M N : Model) (k : ℕ) (old new : Total) (x : Member) (vars : N.vars.items ≡ M.vars.items) (defs : N.defs.items ≡ M.defs.items) (same : new.place ≡ old.place) (members : new.members.items ≡ old.members.items ++ x ∷ []) where
  pub gets_constraint : slice_get M.systems.items k ≡ Some old → N.systems.items ≡ slice_set M.systems.items k new → N.objectives.items ≡ M.objectives.items →
      N.posted.items ≡ M.posted.items ++ Constrain k (length old.members.items) ∷ [] → plain_model N ≡ with_member (plain_model M) (System k) (plain_member x)
  unfolding with_member
  gets_constraint stood systems objectives posted =
      alike _ _ _ _ _ _ _ _ _ _ vars (ap (map plain_definition) defs)
      (grows_plain M.systems.items N.systems.items k old new x stood same members systems ∙ ap (λ ts. with_grown ts k (plain_member x)) (sym (plain_totals M Systems)))
      (ap (map plain_total) objectives)
      (posted ∙ ap (λ n. M.posted.items ++ Constrain k n ∷ []) (next_plain M.systems.items N.systems.items k old new x stood same members systems)
      ∙ ap (λ ts. M.posted.items ++ Constrain k (next_member ts k) ∷ []) (sym (plain_totals M Systems))
      ∙ ap (λ ps. ps ++ Constrain k (next_member (plain_model M).systems.items k) ∷ []) (sym (plain_posted M)))

  pub gets_part : slice_get M.objectives.items k ≡ Some old → N.objectives.items ≡ slice_set M.objectives.items k new → N.systems.items ≡ M.systems.items →
      N.posted.items ≡ M.posted.items ++ Part k (length old.members.items) ∷ [] → plain_model N ≡ with_member (plain_model M) (Objective k) (plain_member x)
  unfolding with_member
  gets_part stood objectives systems posted =
      alike _ _ _ _ _ _ _ _ _ _ vars (ap (map plain_definition) defs) (ap (map plain_total) systems)
      (grows_plain M.objectives.items N.objectives.items k old new x stood same members objectives ∙ ap (λ ts. with_grown ts k (plain_member x)) (sym (plain_totals M Objectives)))
      (posted ∙ ap (λ n. M.posted.items ++ Part k n ∷ []) (next_plain M.objectives.items N.objectives.items k old new x stood same members objectives)
      ∙ ap (λ ts. M.posted.items ++ Part k (next_member ts k) ∷ []) (sym (plain_totals M Objectives))
      ∙ ap (λ ps. ps ++ Part k (next_member (plain_model M).objectives.items k) ∷ []) (sym (plain_posted M)))
