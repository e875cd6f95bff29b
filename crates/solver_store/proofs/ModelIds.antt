-- The graph of a model's terms is the same after a held term is added again, and tells its id.
use Rattle.std.proofs.Common.{◌≡◌, ◌<◌, All, true, IsSome, List, [], ◌∷◌, ◌++◌, fold, map, refl, sym, ap, ◌∙◌, subst, arith}
use Rattle.std.specs.Prelude.{if◌then◌else◌}
use Rattle.std.proofs.lemmas.List.Elements.{All-nil, All-cons, All-head, All-tail, All-append, All-weaker}
use Rattle.graph_values.specs.Members.{cells_of}
use Rattle.store_laws.proofs.Terms.{StandsIn, stands_of}
use Rattle.term_count.specs.Codes.{IsNode}
use Rattle.term_count.specs.Numbering.{terms_after}
use Rattle.term_graph.specs.Ids.{HasCells}
use Rattle.term_model.specs.Definitions.{vars_of}
use Rattle.term_model.specs.Kinds.{kinds_in}
use Rattle.term_model.specs.Subterms.{distinct_subterms, joined_terms, subterms, with_subterm}
use Rattle.term_model.specs.Wellformed.{IsWellFormed}
use Rattle.term_model.specs.declared.model.Model.{Model}
use Rattle.term_model.specs.declared.term.Term.{Term}
use Rattle.term_model.specs.declared.term.Term.TheOpen.{Term-F}
use Rattle.term_model.specs.declared.term.Term.TheFolds.{ind-Term, map-Term}
use Rattle.term_model.specs.declared.term.Term.TheVariants.{rolls-Node}
use Rattle.term_model.specs.declared.term.Term.TheViews.{out-Term, out-roll-Term, roll-Term}
use Rattle.term_model.proofs.Rounds.{names_kinded, some_within}
use Rattle.term_model.proofs.SubtermLaws.{subterms_roll}
use Rattle.solver_store.specs.Reads.{is_held}
use Rattle.solver_store.proofs.HeldTerms.{arguments_held, held_kind, held_known}

-- those that stand there add nothing
none_added : (ds ts : List Term) → All (StandsIn ds) ts → fold with_subterm ds ts ≡ ds
none_added ds [] all = refl
none_added ds (t ∷ ts) all =
    let here : with_subterm ds t ≡ ds = ap (λ b. if b then ds else ds ++ t ∷ []) (All-head (StandsIn ds) t ts all) in
    ap (λ es. fold with_subterm es ts) here ∙ none_added ds ts (All-tail (StandsIn ds) t ts all)

module _ (M : Model) (formed : IsWellFormed M) where
  abbrev ds : List Term
  ds = distinct_subterms M

  abbrev AllStand : Term → Type 0
  AllStand t = is_held M t ≡ true → All (StandsIn ds) (subterms t)

  abbrev Known : Type 0
  Known = (t : Term) × AllStand t

  below_stand : (es : List Known) → All (λ u. is_held M u ≡ true) (map (λ e. e.0) es) → All (StandsIn ds) (joined_terms (map subterms (map (λ e. e.0) es)))
  below_stand [] all = All-nil (StandsIn ds)
  below_stand (e ∷ es) all =
      All-append (StandsIn ds) (subterms e.0) (joined_terms (map subterms (map (λ e. e.0) es))) (e.1 (All-head (λ u. is_held M u ≡ true) e.0 (map (λ e. e.0) es) all)) (below_stand es (All-tail (λ u. is_held M u ≡ true) e.0 (map (λ e. e.0) es) all))

  one_stands : (t : Term) (ts below : List Term) → ts ≡ below ++ t ∷ [] → IsNode (out-Term t) → is_held M t ≡ true → All (StandsIn ds) below → All (StandsIn ds) ts
  one_stands t ts below e own h all =
      subst (All (StandsIn ds)) (sym e) (All-append (StandsIn ds) below (t ∷ []) all (All-cons (StandsIn ds) t [] (stands_of ds t own (held_known M formed t h)) (All-nil (StandsIn ds))))

  layer_stands : (y : Term-F Known) → AllStand (roll-Term (map-Term Known Term (λ e. e.0) y))
  layer_stands (Term-F.Const x) h = let z = Term-F.Const x in one_stands (roll-Term z) (subterms (roll-Term z)) [] (subterms_roll z) (subst IsNode (sym (out-roll-Term z)) tt) h (All-nil (StandsIn ds))
  layer_stands (Term-F.ConstSet s) h = let z = Term-F.ConstSet s in one_stands (roll-Term z) (subterms (roll-Term z)) [] (subterms_roll z) (subst IsNode (sym (out-roll-Term z)) tt) h (All-nil (StandsIn ds))
  layer_stands (Term-F.Var v) h = subst (All (StandsIn ds)) (sym (subterms_roll (Term-F.Var v))) (All-nil (StandsIn ds))
  layer_stands (Term-F.Node op args place) h =
      let z = map-Term Known Term (λ e. e.0) (Term-F.Node op args place) in
      let ts = map (λ (e : Known). e.0) args.items in
      one_stands (roll-Term z) (subterms (roll-Term z)) (joined_terms (map subterms ts)) (subterms_roll z) (subst IsNode (sym (out-roll-Term z)) tt) h
      (below_stand args.items (arguments_held M formed (roll-Term z) op _ place (rolls-Node op _ place) h))

  all_stand : (t : Term) → AllStand t
  all_stand = ind-Term AllStand (λ x y is. subst (λ z. AllStand (roll-Term z)) is (layer_stands y))

  pub held_again : (t : Term) → is_held M t ≡ true → terms_after ds t ≡ ds
  held_again t h = none_added ds (subterms t) (all_stand t h)

  pub held_cells : (t : Term) → is_held M t ≡ true → HasCells (cells_of M) t
  held_cells t h =
      All-weaker (λ i. IsSome (kinds_in M.vars.items i)) (λ i. i < cells_of M) (λ i some. (let lt = some_within M.vars.items i some in omega (arith, lt))) (vars_of t)
      (names_kinded (kinds_in M.vars.items) t (held_kind M formed t h))
