-- A model that got variables, or nothing, is well formed as before, with the same definitions and distinct subterms.
use Rattle.std.proofs.Common.{◌≡◌, ℕ, suc, ◌<◌, ◌≤◌, List, [], ◌∷◌, ◌++◌, Some, None, All, false, get_or, map, length, refl, sym, ap, ◌∙◌, subst, arith, slice_get}
use Rattle.std.specs.Prelude.{filter_map, nat_eq}
use Rattle.std.specs.Option.{option_map}
use Rattle.std.proofs.lemmas.List.{append-nil}
use Rattle.std.proofs.lemmas.List.Elements.{All-nil}
use Rattle.std.proofs.lemmas.Map.Keys.{IsDistinct-from_apart}
use Rattle.std.proofs.lemmas.Map.Steps.{length-le_from_distinct_below}
use Rattle.term_model.specs.Definitions.{definition_in, definition_of, joined}
use Rattle.term_model.specs.Naming.{NamesEachOnce, users_posted, users_where}
use Rattle.term_model.specs.Posting.{constrain_number, define_number, member_at, part_number, term_posted}
use Rattle.term_model.specs.Subterms.{distinct_subterms, joined_terms, once, subterms_posted, subterms_where}
use Rattle.term_model.specs.Wellformed.{IsThere, IsWellFormed}
use Rattle.term_model.specs.declared.model.Definition.{Definition}
use Rattle.term_model.specs.declared.model.Member.{Member}
use Rattle.term_model.specs.declared.model.Model.{Model}
use Rattle.term_model.specs.declared.model.Posted.{Posted}
use Rattle.term_model.specs.declared.model.Posted.TheVariants.{Define, Constrain, Part}
use Rattle.term_model.specs.declared.model.VarDecl.{VarDecl}
use Rattle.term_model.specs.declared.posting.Side.TheVariants.{Systems, Objectives}
use Rattle.term_model.proofs.UsableLaws.{not_eq}
use Rattle.solver_models.specs.Declaring.{GetsVariable}
use Rattle.solver_models.specs.State.{IsSameModel}
use Rattle.solver_models.proofs.KindLaws.{definition_grows, member_grows}
use Rattle.solver_models.proofs.ListLaws.{any_below, map_same, mapped_at}

-- the model with more variables
pub record IsGrown (M N : Model) (more : List VarDecl) : Type 0 where
  pub vars : N.vars.items ≡ M.vars.items ++ more
  pub defs : N.defs.items ≡ M.defs.items
  pub systems : N.systems.items ≡ M.systems.items
  pub objectives : N.objectives.items ≡ M.objectives.items
  pub posted : N.posted.items ≡ M.posted.items

pub grown_same : (M N : Model) → IsSameModel M N → IsGrown M N []
grown_same M N same = record {
  vars = same.vars ∙ sym (append-nil M.vars.items);
  defs = same.defs;
  systems = same.systems;
  objectives = same.objectives;
  posted = same.posted;
}

pub grown_variable : (M N : Model) (decl : VarDecl) → GetsVariable M N decl → IsGrown M N (decl ∷ [])
grown_variable M N decl gets = record { vars = gets.vars; defs = gets.defs; systems = gets.systems; objectives = gets.objectives; posted = gets.posted }

module _ (M N : Model) (more : List VarDecl) (grown : IsGrown M N more) where
  term_same : (p : Posted) → term_posted N p ≡ term_posted M p
  term_same (Define d) = ap (λ ds. option_map (λ (def : Definition). def.term) (slice_get ds d)) grown.defs
  term_same (Constrain system member) = ap (λ ts. option_map (λ (m : Member). m.term) (member_at ts system member)) grown.systems
  term_same (Part objective member) = ap (λ ts. option_map (λ (m : Member). m.term) (member_at ts objective member)) grown.objectives

  pub users_grown : users_posted N N.posted.items ≡ users_posted M M.posted.items
  users_grown =
      ap (λ ps. users_posted N ps) grown.posted
      ∙ ap joined (map_same (λ p. users_where (term_posted N p)) (λ p. users_where (term_posted M p)) (λ p. ap users_where (term_same p)) M.posted.items)

  pub subterms_same : distinct_subterms N ≡ distinct_subterms M
  subterms_same =
      ap (λ ps. once (subterms_posted N ps)) grown.posted
      ∙ ap (λ tss. once (joined_terms tss)) (map_same (λ p. subterms_where (term_posted N p)) (λ p. subterms_where (term_posted M p)) (λ p. ap subterms_where (term_same p)) M.posted.items)

  pub definitions_same : (i : ℕ) → definition_of N i ≡ definition_of M i
  definitions_same i = ap (λ ds. definition_in ds N.posted.items i) grown.defs ∙ ap (λ ps. definition_in M.defs.items ps i) grown.posted

  pub formed_grown : IsWellFormed M → IsWellFormed N
  formed_grown formed = record {
    defs = λ d def at. definition_grows M N more grown.vars def (formed.defs d def (ap (λ ds. slice_get ds d) (sym grown.defs) ∙ at));
    distinct = λ d e def other at of same. formed.distinct d e def other (ap (λ ds. slice_get ds d) (sym grown.defs) ∙ at) (ap (λ ds. slice_get ds e) (sym grown.defs) ∙ of) same;
    systems = λ s total k member at there. member_grows M N more grown.vars member (formed.systems s total k member (ap (λ ts. slice_get ts s) (sym grown.systems) ∙ at) there);
    objectives = λ o total k member at there. member_grows M N more grown.vars member (formed.objectives o total k member (ap (λ ts. slice_get ts o) (sym grown.objectives) ∙ at) there);
    posted_defs = subst (λ ds. NamesEachOnce (filter_map define_number N.posted.items) (length ds)) (sym grown.defs)
        (subst (λ ps. NamesEachOnce (filter_map define_number ps) (length M.defs.items)) (sym grown.posted) formed.posted_defs);
    posted_constraints = λ s total at. ap (filter_map (constrain_number s)) grown.posted ∙ formed.posted_constraints s total (ap (λ ts. slice_get ts s) (sym grown.systems) ∙ at);
    posted_parts = λ o total at. ap (filter_map (part_number o)) grown.posted ∙ formed.posted_parts o total (ap (λ ts. slice_get ts o) (sym grown.objectives) ∙ at);
    posted_systems = subst (λ ts. All (IsThere Systems (length ts)) N.posted.items) (sym grown.systems)
        (subst (All (IsThere Systems (length M.systems.items))) (sym grown.posted) formed.posted_systems);
    posted_objectives = subst (λ ts. All (IsThere Objectives (length ts)) N.posted.items) (sym grown.objectives)
        (subst (All (IsThere Objectives (length M.objectives.items))) (sym grown.posted) formed.posted_objectives);
    users = subst (λ ns. NamesEachOnce ns (length ns)) (sym users_grown) formed.users;
  }

-- ---- the model of nothing
pub record IsEmpty (M : Model) : Type 0 where
  pub vars : M.vars.items ≡ []
  pub defs : M.defs.items ≡ []
  pub systems : M.systems.items ≡ []
  pub objectives : M.objectives.items ≡ []
  pub posted : M.posted.items ≡ []

none_at : {X : Type 0} (xs : List X) (i : ℕ) (x : X) → xs ≡ [] → slice_get xs i ≡ Some x → ⊥
none_at xs i x e at = let c : None ≡ Some x = ap (λ ys. slice_get ys i) (sym e) ∙ at in cc

none_named : NamesEachOnce [] 0
none_named = record {
  within = λ k d at. absurd (none_at [] k d refl at);
  once = λ j k d at of. absurd (none_at [] j d refl at);
  all = λ d lt. absurd (omega (arith, lt));
}

module _ (M : Model) (empty : IsEmpty M) where
  no_users : users_posted M M.posted.items ≡ []
  no_users = ap (users_posted M) empty.posted

  pub formed_empty : IsWellFormed M
  formed_empty = record {
    defs = λ d def at. absurd (none_at M.defs.items d def empty.defs at);
    distinct = λ d e def other at of same. absurd (none_at M.defs.items d def empty.defs at);
    systems = λ s total k member at there. absurd (none_at M.systems.items s total empty.systems at);
    objectives = λ o total k member at there. absurd (none_at M.objectives.items o total empty.objectives at);
    posted_defs = subst (λ ds. NamesEachOnce (filter_map define_number M.posted.items) (length ds)) (sym empty.defs)
        (subst (λ ps. NamesEachOnce (filter_map define_number ps) 0) (sym empty.posted) none_named);
    posted_constraints = λ s total at. absurd (none_at M.systems.items s total empty.systems at);
    posted_parts = λ o total at. absurd (none_at M.objectives.items o total empty.objectives at);
    posted_systems = subst (All (IsThere Systems (length M.systems.items))) (sym empty.posted) (All-nil (IsThere Systems (length M.systems.items)));
    posted_objectives = subst (All (IsThere Objectives (length M.objectives.items))) (sym empty.posted) (All-nil (IsThere Objectives (length M.objectives.items)));
    users = subst (λ ns. NamesEachOnce ns (length ns)) (sym no_users) none_named;
  }

  pub nothing_defined : (i : ℕ) → definition_of M i ≡ None
  nothing_defined i = ap (λ ps. definition_in M.defs.items ps i) empty.posted

-- ---- definitions are of different variables, so there are no more of them than of these
abbrev indices : List Definition → List ℕ
indices defs = map (λ def. def.var.index) defs

indices_length : (defs : List Definition) → length (indices defs) ≡ length defs
indices_length [] = refl
indices_length (def ∷ defs) = ap suc (indices_length defs)

module _ (M : Model) (formed : IsWellFormed M) where
  apart : (i j e : ℕ) → i < j → j < length (indices M.defs.items) → nat_eq (get_or (indices M.defs.items) i e) (get_or (indices M.defs.items) j e) ≡ false
  apart i j e lt within =
      let count = indices_length M.defs.items in
      let one = mapped_at (λ (def : Definition). def.var.index) M.defs.items i e (omega (arith, lt, within, count)) in
      let other = mapped_at (λ (def : Definition). def.var.index) M.defs.items j e (omega (arith, within, count)) in
      ap (λ n. nat_eq n (get_or (indices M.defs.items) j e)) one.2 ∙ ap (nat_eq one.0.var.index) other.2
      ∙ not_eq one.0.var.index other.0.var.index (λ same. let e : i ≡ j = formed.distinct i j one.0 other.0 one.1 other.1 (sym same) in omega (arith, e, lt))

  pub defs_few : length M.defs.items ≤ length M.vars.items
  defs_few =
      let le = length-le_from_distinct_below (indices M.defs.items) (length M.vars.items) (IsDistinct-from_apart nat_eq (indices M.defs.items) apart)
      (λ q h. any_below (λ (def : Definition). def.var.index) M.defs.items (length M.vars.items) q (λ i def at. (formed.defs i def at).var) h) in
      omega (arith, le, indices_length M.defs.items)
