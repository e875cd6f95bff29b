-- A term and its plain twin have the same depth, variables, kind and value, since nothing looks at where a list lies.
use Rattle.std.proofs.Common.{◌≡◌, refl, sym, subst, ap, ◌∙◌, Vec, Global, suc, ◌≤◌, List, [], ◌∷◌, map, length, arith}
use Rattle.std.proofs.lemmas.List.{take_all}
use Rattle.cbl_base.specs.declared.place.Place.{Place}
use Rattle.model_values.specs.OfCblOperations.declared.op.Op.{Op}
use Rattle.term_model.specs.declared.term.Term.{Term}
use Rattle.term_model.specs.declared.term.Term.TheOpen.{Term-F}
use Rattle.term_model.specs.declared.term.Term.TheViews.{roll-Term}
use Rattle.term_model.specs.declared.term.Term.TheFolds.{fold-Term, fold-roll-Term, ind-Term, map-Term}
use Rattle.model_view.specs.Vectors.{vec_of, most_items}
use Rattle.model_view.specs.Plain.{plain_term, plain_step}

-- a list that comes from a `Vec` isn't cut
pub items_of_vec : {X Y : Type 0} (v : Vec X Global) (ys : List Y) → length ys ≡ length v.items → (vec_of ys).items ≡ ys
items_of_vec v ys e = let short : length ys ≤ most_items = (let small = v.small in let ok0 = v.ok.0 in let ok1 = v.ok.1 in omega arith) in take_all most_items ys short

pub length_map : {X Y : Type 0} (f : X → Y) (xs : List X) → length (map f xs) ≡ length xs
length_map f [] = refl
length_map f (x ∷ xs) = ap suc (length_map f xs)

-- what a step of a fold sees of a node's arguments
pub record IsBlind {A : Type 0} (step : Term-F A → A) : Type 0 where
  pub node : (op : Op) (args others : Vec A Global) (place : Place) → args.items ≡ others.items → step (Term-F.Node op args place) ≡ step (Term-F.Node op others place)

module _ {A : Type 0} (step : Term-F A → A) (blind : IsBlind step) where
  abbrev IsTwin : Term → Type 0
  IsTwin t = fold-Term A step (plain_term t) ≡ fold-Term A step t

  abbrev Known : Type 0
  Known = (t : Term) × IsTwin t

  args_same : (es : List Known) → map (fold-Term A step) (map plain_term (map (λ e. e.0) es)) ≡ map (fold-Term A step) (map (λ e. e.0) es)
  args_same [] = refl
  args_same (e ∷ es) = ap (λ a. a ∷ map (fold-Term A step) (map plain_term (map (λ x. x.0) es))) e.1 ∙ ap (λ rest. fold-Term A step e.0 ∷ rest) (args_same es)

  layer : (y : Term-F Known) → IsTwin (roll-Term (map-Term Known Term (λ e. e.0) y))
  layer (Term-F.Const x) = ap (fold-Term A step) (fold-roll-Term Term plain_step (Term-F.Const x))
  layer (Term-F.ConstSet s) = ap (fold-Term A step) (fold-roll-Term Term plain_step (Term-F.ConstSet s))
  layer (Term-F.Var v) = ap (fold-Term A step) (fold-roll-Term Term plain_step (Term-F.Var v))
  layer (Term-F.Node op args place) =
      let z : Term-F Term = map-Term Known Term (λ e. e.0) (Term-F.Node op args place) in
      let plain = fold-roll-Term Term plain_step z in
      let built : List Term = map plain_term (map (λ e. e.0) args.items) in
      let count : length built ≡ length args.items = length_map plain_term _ ∙ length_map (λ e. e.0) args.items in
      let kept : (vec_of built).items ≡ built = items_of_vec args built count in
      ap (fold-Term A step) plain
      ∙ fold-roll-Term A step (Term-F.Node op (vec_of built) place)
      ∙ blind.node op _ _ place (ap (map (fold-Term A step)) kept ∙ args_same args.items)
      ∙ sym (fold-roll-Term A step z)

  pub same_fold : (t : Term) → fold-Term A step (plain_term t) ≡ fold-Term A step t
  same_fold = ind-Term IsTwin (λ x y is. subst (λ z. IsTwin (roll-Term z)) is (layer y))
