-- Equality of terms, with places left aside, is an equivalence.
use Rattle.std.proofs.Common.{◌≡◌, ℕ, Bool, true, false, ◌&&◌, List, [], ◌∷◌, map, refl, sym, ap, ◌∙◌, subst, arith}
use Rattle.std.specs.Prelude.{nat_eq}
use Rattle.std.specs.Cmp.{IsEquivalence}
use Rattle.std.specs.Cmp.Rules.{signed_items}
use Rattle.std.proofs.lemmas.Bool.{and_parts}
use Rattle.std.proofs.lemmas.Bool.Decides.{Decides-int_eq}
use Rattle.cbl_operations.specs.declared.op.Op.{Op}
use Rattle.term_model.specs.SameOperations.{same_operation}
use Rattle.term_model.specs.SameTerms.{all_pass, is_node, is_number, is_set, is_variable, same_layer, same_term}
use Rattle.term_model.specs.declared.term.Term.{Term}
use Rattle.term_model.specs.declared.term.Term.TheOpen.{Term-F}
use Rattle.term_model.specs.declared.term.Term.TheViews.{out-Term, out-roll-Term, roll-Term}
use Rattle.term_model.specs.declared.term.Term.TheFolds.{ind-Term, map-Term}
use Rattle.term_model.proofs.OperationLaws.{equal_is_same, same_is_equal}
use Rattle.term_model.proofs.SameLaws.{one_and, same_roll}

abbrev Test : Type 0
Test = Term → Bool

pub roll_out : (t : Term) → roll-Term (out-Term t) ≡ t
roll_out = ind-Term (λ t. roll-Term (out-Term t) ≡ t) (λ x y is. ap roll-Term (out-roll-Term x))

pub same_out : (t u : Term) → same_term t u ≡ same_layer (map-Term Term Test same_term (out-Term t)) (out-Term u)
same_out t u = ap (λ s. same_term s u) (sym (roll_out t)) ∙ same_roll (out-Term t) u

pub eq_of : (a b : ℕ) → nat_eq a b ≡ true → a ≡ b
eq_of a b h = grind (arith, h)

eq_itself : (a : ℕ) → nat_eq a a ≡ true
eq_itself a = grind arith

-- ---- each term is equal to itself
abbrev IsItself : Term → Type 0
IsItself t = same_term t t ≡ true

abbrev Itself : Type 0
Itself = (t : Term) × IsItself t

args_themselves : (es : List Itself) → all_pass (map same_term (map (λ e. e.0) es)) (map (λ e. e.0) es) ≡ true
args_themselves [] = refl
args_themselves (e ∷ es) = one_and (same_term e.0 e.0) (all_pass (map same_term (map (λ e. e.0) es)) (map (λ e. e.0) es)) e.1 (args_themselves es)

layer_itself : (y : Term-F Itself) → same_layer (map-Term Term Test same_term (map-Term Itself Term (λ e. e.0) y)) (map-Term Itself Term (λ e. e.0) y) ≡ true
layer_itself (Term-F.Const x) = (Decides-int_eq x x).1 refl
layer_itself (Term-F.ConstSet s) = (signed_items s s).1 refl
layer_itself (Term-F.Var v) = eq_itself v.index
layer_itself (Term-F.Node op args place) =
    let terms = map (λ (e : Itself). e.0) args.items in
    one_and (same_operation op op) (all_pass (map same_term terms) terms) (equal_is_same op op refl) (args_themselves args.items)

same_itself : (t : Term) → IsItself t
same_itself = ind-Term IsItself (λ x y is. subst (λ z. IsItself (roll-Term z)) is (rolled (map-Term Itself Term (λ e. e.0) y) (layer_itself y)))
  where
    rolled : (z : Term-F Term) → same_layer (map-Term Term Test same_term z) z ≡ true → IsItself (roll-Term z)
    rolled z h = same_roll z (roll-Term z) ∙ ap (same_layer (map-Term Term Test same_term z)) (out-roll-Term z) ∙ h

-- ---- equal terms are equal to the same terms
abbrev IsCongruent : Term → Type 0
IsCongruent t = (u v : Term) → same_term t u ≡ true → same_term t v ≡ same_term u v

abbrev Known : Type 0
Known = (t : Term) × IsCongruent t

abbrev terms_of : List Known → List Term
terms_of es = map (λ e. e.0) es

args_congruent : (es : List Known) (us vs : List Term) → all_pass (map same_term (terms_of es)) us ≡ true → all_pass (map same_term (terms_of es)) vs ≡ all_pass (map same_term us) vs
args_congruent [] [] vs h = refl
args_congruent [] (u ∷ us) vs h = let c : false ≡ true = h in cc
args_congruent (e ∷ es) [] vs h = let c : false ≡ true = h in cc
args_congruent (e ∷ es) (u ∷ us) [] h = refl
args_congruent (e ∷ es) (u ∷ us) (v ∷ vs) h =
    let parts = and_parts (same_term e.0 u) (all_pass (map same_term (terms_of es)) us) h in
    ap (λ b. b && all_pass (map same_term (terms_of es)) vs) (e.1 u v parts.0) ∙ ap (λ b. same_term u v && b) (args_congruent es us vs parts.1)

node_congruent : (z : Term-F Term) (op op' : Op) (tests others : List Test) → same_operation op' op ≡ true → ((vs : List Term) → all_pass tests vs ≡ all_pass others vs) → is_node z op tests ≡ is_node z op' others
node_congruent (Term-F.Const x) op op' tests others same all = refl
node_congruent (Term-F.ConstSet s) op op' tests others same all = refl
node_congruent (Term-F.Var v) op op' tests others same all = refl
node_congruent (Term-F.Node p args place) op op' tests others same all =
    ap (λ o. same_operation p o && all_pass tests args.items) (sym (same_is_equal op' op same)) ∙ ap (λ b. same_operation p op' && b) (all args.items)

layer_congruent : (y : Term-F Known) (u z : Term-F Term) → same_layer (map-Term Term Test same_term (map-Term Known Term (λ e. e.0) y)) u ≡ true →
    same_layer (map-Term Term Test same_term (map-Term Known Term (λ e. e.0) y)) z ≡ same_layer (map-Term Term Test same_term u) z
layer_congruent (Term-F.Const x) (Term-F.Const x') z h = ap (is_number z) (sym ((Decides-int_eq x' x).0 h))
layer_congruent (Term-F.Const x) (Term-F.ConstSet s) z h = let c : false ≡ true = h in cc
layer_congruent (Term-F.Const x) (Term-F.Var v) z h = let c : false ≡ true = h in cc
layer_congruent (Term-F.Const x) (Term-F.Node op args place) z h = let c : false ≡ true = h in cc
layer_congruent (Term-F.ConstSet s) (Term-F.Const x) z h = let c : false ≡ true = h in cc
layer_congruent (Term-F.ConstSet s) (Term-F.ConstSet s') z h = ap (is_set z) (sym ((signed_items s' s).0 h))
layer_congruent (Term-F.ConstSet s) (Term-F.Var v) z h = let c : false ≡ true = h in cc
layer_congruent (Term-F.ConstSet s) (Term-F.Node op args place) z h = let c : false ≡ true = h in cc
layer_congruent (Term-F.Var v) (Term-F.Const x) z h = let c : false ≡ true = h in cc
layer_congruent (Term-F.Var v) (Term-F.ConstSet s) z h = let c : false ≡ true = h in cc
layer_congruent (Term-F.Var v) (Term-F.Var v') z h = ap (is_variable z) (sym (eq_of v'.index v.index h))
layer_congruent (Term-F.Var v) (Term-F.Node op args place) z h = let c : false ≡ true = h in cc
layer_congruent (Term-F.Node op args place) (Term-F.Const x) z h = let c : false ≡ true = h in cc
layer_congruent (Term-F.Node op args place) (Term-F.ConstSet s) z h = let c : false ≡ true = h in cc
layer_congruent (Term-F.Node op args place) (Term-F.Var v) z h = let c : false ≡ true = h in cc
layer_congruent (Term-F.Node op args place) (Term-F.Node op' args' place') z h =
    let parts = and_parts (same_operation op' op) (all_pass (map same_term (terms_of args.items)) args'.items) h in
    node_congruent z op op' (map same_term (terms_of args.items)) (map same_term args'.items) parts.0 (λ vs. args_congruent args.items args'.items vs parts.1)

pub same_congruent : (t : Term) → IsCongruent t
same_congruent = ind-Term IsCongruent (λ x y is. subst (λ z. IsCongruent (roll-Term z)) is (rolled (map-Term Known Term (λ e. e.0) y) (layer_congruent y)))
  where
    rolled : (z : Term-F Term) → ((u v : Term-F Term) → same_layer (map-Term Term Test same_term z) u ≡ true → same_layer (map-Term Term Test same_term z) v ≡ same_layer (map-Term Term Test same_term u) v) → IsCongruent (roll-Term z)
    rolled z h u v same = same_roll z v ∙ h (out-Term u) (out-Term v) (sym (same_roll z u) ∙ same) ∙ sym (same_out u v)

same_back : (t u : Term) → same_term t u ≡ true → same_term u t ≡ true
same_back t u h = sym (same_congruent t u t h) ∙ same_itself t

both_ways : (a b : Bool) → (a ≡ true → b ≡ true) → (b ≡ true → a ≡ true) → a ≡ b
both_ways true b there back = sym (there refl)
both_ways false true there back = back refl
both_ways false false there back = refl

pub same_term_equiv : IsEquivalence same_term
same_term_equiv = record {
  refl = same_itself;
  symm = λ t u. both_ways (same_term t u) (same_term u t) (same_back t u) (same_back u t);
  congr = λ t u v h. same_congruent t u v h;
}
