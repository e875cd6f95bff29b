-- Terms that are equal, argument by argument; and that this is an equivalence.
use Rattle.std.proofs.Common.{◌≡◌, ℕ, zero, suc, ◌+◌, ◌<◌, ◌≤◌, Bool, true, false, ◌&&◌, List, [], ◌∷◌, Vec, Global, length, get_or, take, map, refl, sym, ap, ◌∙◌, arith}
use Rattle.cbl_base.specs.declared.place.Place.{Place}
use Rattle.cbl_operations.specs.declared.op.Op.{Op}
use Rattle.term_model.specs.SameTerms.{all_pass, is_node, same_layer, same_term}
use Rattle.term_model.specs.declared.term.Term.{Term}
use Rattle.term_model.specs.declared.term.Term.TheOpen.{Term-F}
use Rattle.term_model.specs.declared.term.Term.TheViews.{Node, out-Term, roll-Term}
use Rattle.term_model.specs.declared.term.Term.TheVariants.{rolls-Node}
use Rattle.term_model.specs.declared.term.Term.TheFolds.{fold-roll-Term, map-Term}

abbrev Test : Type 0
Test = Term → Bool

pub same_roll : (y : Term-F Term) (u : Term) → same_term (roll-Term y) u ≡ same_layer (map-Term Term Test same_term y) (out-Term u)
same_roll y u = ap (λ (f : Test). f u) (fold-roll-Term Test (λ z v. same_layer z (out-Term v)) y)

pub same_node : (t u : Term) (op : Op) (args : Vec Term Global) (place : Place) → t ≡ Node op args place → same_term t u ≡ is_node (out-Term u) op (map same_term args.items)
same_node t u op args place e = ap (λ s. same_term s u) (e ∙ sym (rolls-Node op args place)) ∙ same_roll (Term-F.Node op args place) u

-- ---- arguments one after another
pub one_and : (a b : Bool) → a ≡ true → b ≡ true → (a && b) ≡ true
one_and true b p q = q
one_and false b p q = p

pub pass_more : (test : Term → Test) (ts us : List Term) (i : ℕ) (t u : Term) → i < length ts → i < length us → t ≡ get_or ts i t → u ≡ get_or us i u → all_pass (map test (take i ts)) (take i us) ≡ true →
    test t u ≡ true → all_pass (map test (take (i + 1) ts)) (take (i + 1) us) ≡ true
pass_more test [] us i t u lt lt' is is' all one = absurd (omega arith)
pass_more test (x ∷ ts) [] i t u lt lt' is is' all one = absurd (omega arith)
pass_more test (x ∷ ts) (y ∷ us) zero t u lt lt' is is' all one = one_and (test x y) true (ap (λ a. test a y) (sym is) ∙ ap (test t) (sym is') ∙ one) refl
pass_more test (x ∷ ts) (y ∷ us) (suc i) t u lt lt' is is' all one =
    let step : suc i + 1 ≡ suc (i + 1) = omega arith in
    let parts = both (test x y) (all_pass (map test (take i ts)) (take i us)) all in
    rw step (one_and (test x y) (all_pass (map test (take (i + 1) ts)) (take (i + 1) us)) parts.0 (pass_more test ts us i t u (omega arith) (omega arith) is is' parts.1 one))
  where
    both : (a b : Bool) → (a && b) ≡ true → (a ≡ true) × (b ≡ true)
    both true b h = (refl, h)
    both false b h = let c : false ≡ true = h in cc

pub pass_all : (test : Term → Test) (ts us : List Term) (i : ℕ) → length ts ≤ i → length ts ≡ length us → all_pass (map test (take i ts)) (take i us) ≡ true → all_pass (map test ts) us ≡ true
pass_all test [] [] i le same all = refl
pass_all test [] (u ∷ us) i le same all = absurd (omega arith)
pass_all test (t ∷ ts) us zero le same all = absurd (omega arith)
pass_all test (t ∷ ts) [] (suc i) le same all = absurd (omega arith)
pass_all test (t ∷ ts) (u ∷ us) (suc i) le same all =
    let parts = both (test t u) (all_pass (map test (take i ts)) (take i us)) all in
    one_and (test t u) (all_pass (map test ts) us) parts.0 (pass_all test ts us i (omega arith) (omega arith) parts.1)
  where
    both : (a b : Bool) → (a && b) ≡ true → (a ≡ true) × (b ≡ true)
    both true b h = (refl, h)
    both false b h = let c : false ≡ true = h in cc

pub none_and : (a b : Bool) → b ≡ false → (a && b) ≡ false
none_and true b q = q
none_and false b q = refl

pub pass_fails : (test : Term → Test) (ts us : List Term) (i : ℕ) (t u : Term) → i < length ts → i < length us → t ≡ get_or ts i t → u ≡ get_or us i u → test t u ≡ false → all_pass (map test ts) us ≡ false
pass_fails test [] us i t u lt lt' is is' one = absurd (omega arith)
pass_fails test (x ∷ ts) [] i t u lt lt' is is' one = refl
pass_fails test (x ∷ ts) (y ∷ us) zero t u lt lt' is is' one = ap (λ b. b && all_pass (map test ts) us) (ap (λ a. test a y) (sym is) ∙ ap (test t) (sym is') ∙ one)
pass_fails test (x ∷ ts) (y ∷ us) (suc i) t u lt lt' is is' one = none_and (test x y) (all_pass (map test ts) us) (pass_fails test ts us i t u (omega arith) (omega arith) is is' one)

pub pass_length : (tests : List Test) (us : List Term) → (length tests ≡ length us → ⊥) → all_pass tests us ≡ false
pass_length [] [] ne = absurd (ne refl)
pass_length [] (u ∷ us) ne = refl
pass_length (test ∷ tests) [] ne = refl
pass_length (test ∷ tests) (u ∷ us) ne = none_and (test u) (all_pass tests us) (pass_length tests us (λ e. ne (omega arith)))
