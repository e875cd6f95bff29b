-- The first variable in an operation is the first one in its arguments, from the first.
use Rattle.std.proofs.Common.{◌≡◌, ℕ, zero, suc, ◌+◌, ◌<◌, ◌≤◌, List, [], ◌∷◌, Option, Some, None, Vec, Global, take, length, get_or, map, refl, sym, ap, ◌∙◌, arith}
use Rattle.std.proofs.lemmas.List.{take_all}
use Rattle.cbl_base.specs.declared.ids.VarId.{VarId}
use Rattle.cbl_base.specs.declared.place.Place.{Place}
use Rattle.cbl_operations.specs.declared.op.Op.{Op}
use Rattle.term_model.specs.declared.term.Term.{Term}
use Rattle.term_model.specs.declared.term.Term.TheOpen.{Term-F}
use Rattle.term_model.specs.declared.term.Term.TheViews.{Node}
use Rattle.term_model.specs.declared.term.Term.TheVariants.{rolls-Node}
use Rattle.term_model.specs.declared.term.Term.TheFolds.{fold-roll-Term}
use Rattle.model_view.specs.Plain.{plain_term}
use Rattle.model_view.proofs.PlainTerms.{same_fold}
use Rattle.comet_meaning.specs.Systems.{first_of, first_step, first_variable}

-- what is found in terms from the first
abbrev pub first_in : List Term → Option VarId
first_in ts = first_of (map first_variable ts)

first_found : (o : Option VarId) (x : VarId) (os : List (Option VarId)) → o ≡ Some x → first_of (o ∷ os) ≡ Some x
first_found o x os e = ap (λ p. first_of (p ∷ os)) e

first_skipped : (o : Option VarId) (os : List (Option VarId)) → o ≡ None → first_of (o ∷ os) ≡ first_of os
first_skipped o os e = ap (λ p. first_of (p ∷ os)) e

first_none : (o : Option VarId) (os : List (Option VarId)) → first_of (o ∷ os) ≡ None → (o ≡ None) × (first_of os ≡ None)
first_none None os e = (refl, e)
first_none (Some x) os e = let c : Some x ≡ None = e in cc

pub none_more : (ts : List Term) (i : ℕ) (t : Term) → i < length ts → t ≡ get_or ts i t → first_in (take i ts) ≡ None → first_variable t ≡ None → first_in (take (i + 1) ts) ≡ None
none_more [] i t lt is none one = absurd (omega arith)
none_more (u ∷ ts) zero t lt is none one = first_skipped (first_variable u) [] (ap first_variable (sym is) ∙ one)
none_more (u ∷ ts) (suc i) t lt is none one =
    let parts = first_none (first_variable u) (map first_variable (take i ts)) none in
    let step : suc i + 1 ≡ suc (i + 1) = omega arith in
    rw step (first_skipped (first_variable u) (map first_variable (take (i + 1) ts)) parts.0 ∙ none_more ts i t (omega arith) is parts.1 one)

found_there : (ts : List Term) (i : ℕ) (t : Term) (x : VarId) → i < length ts → t ≡ get_or ts i t → first_in (take i ts) ≡ None → first_variable t ≡ Some x → first_in ts ≡ Some x
found_there [] i t x lt is none one = absurd (omega arith)
found_there (u ∷ ts) zero t x lt is none one = first_found (first_variable u) x (map first_variable ts) (ap first_variable (sym is) ∙ one)
found_there (u ∷ ts) (suc i) t x lt is none one =
    let parts = first_none (first_variable u) (map first_variable (take i ts)) none in
    first_skipped (first_variable u) (map first_variable ts) parts.0 ∙ found_there ts i t x (omega arith) is parts.1 one

first_node : (t : Term) (op : Op) (args : Vec Term Global) (place : Place) → t ≡ Node op args place → first_variable t ≡ first_in args.items
first_node t op args place e = ap first_variable (e ∙ sym (rolls-Node op args place)) ∙ fold-roll-Term (Option VarId) first_step (Term-F.Node op args place)

pub first_found_in : (t : Term) (op : Op) (args : Vec Term Global) (place : Place) (items : List Term) (i : ℕ) (item : Term) (x : VarId) → t ≡ Node op args place → items ≡ args.items → i < length items → item ≡ get_or items i item →
    first_in (take i items) ≡ None → first_variable item ≡ Some x → first_variable t ≡ Some x
first_found_in t op args place items i item x e same lt is none one = first_node t op args place e ∙ ap first_in (sym same) ∙ found_there items i item x lt is none one

pub none_found_in : (t : Term) (op : Op) (args : Vec Term Global) (place : Place) (items : List Term) (i : ℕ) → t ≡ Node op args place → items ≡ args.items → length items ≤ i → first_in (take i items) ≡ None → first_variable t ≡ None
none_found_in t op args place items i e same le none = first_node t op args place e ∙ ap first_in (sym same) ∙ ap first_in (sym (take_all i items le)) ∙ none

pub none_told : (o : Option VarId) → ((x : VarId) → o ≡ Some x → ⊥) → o ≡ None
none_told None h = refl
none_told (Some x) h = absurd (h x refl)

-- it doesn't matter where lists lie
pub same_first : (t : Term) → first_variable (plain_term t) ≡ first_variable t
same_first = same_fold first_step (record { node = λ op args others place e. ap first_of e })
