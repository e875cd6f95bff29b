-- Lists that grow, and the first place at which a test passes.
use Rattle.std.proofs.Common.{◌≡◌, ◌+◌, ◌<◌, ◌≤◌, Bool, true, false, cond, ◌||◌, List, [], ◌∷◌, ◌++◌, length, take, refl, sym, ap, ◌∙◌, arith}
use Rattle.std.specs.Prelude.{not}
use Rattle.std.specs.List.{list_any, position_or_len}
use Rattle.std.proofs.lemmas.List.{append-nil, append_assoc}
use Rattle.term_graph.specs.Adding.{Grows, IsGrown}
use Rattle.term_graph.specs.declared.graph.Graph.{Graph}

-- ---- lists that grow
pub grown_none : {X : Type 0} (xs ys : List X) → ys ≡ xs → Grows xs ys
grown_none xs ys e = ([], e ∙ sym (append-nil xs))

pub grown_twice : {X : Type 0} (xs ys zs : List X) → Grows xs ys → Grows ys zs → Grows xs zs
grown_twice xs ys zs g h = (g.0 ++ h.0, h.1 ∙ ap (λ us. us ++ h.0) g.1 ∙ append_assoc xs g.0 h.0)

pub grown_front : {X : Type 0} (xs ys : List X) → Grows xs ys → take (length xs) ys ≡ xs
grown_front xs ys g = ap (take (length xs)) g.1 ∙ front xs g.0
  where
    front : {X : Type 0} (xs more : List X) → take (length xs) (xs ++ more) ≡ xs
    front [] more = refl
    front (x ∷ xs) more = ap (λ ys. x ∷ ys) (front xs more)

pub is_grown_none : (old new : Graph) → new.cells ≡ old.cells → new.codes.keys ≡ old.codes.keys → new.nodes.items ≡ old.nodes.items → IsGrown old new
is_grown_none old new cells codes nodes = record { cells = cells; codes = grown_none old.codes.keys new.codes.keys codes; nodes = grown_none old.nodes.items new.nodes.items nodes }

pub is_grown_twice : (a b c : Graph) → IsGrown a b → IsGrown b c → IsGrown a c
is_grown_twice a b c g h = record {
  cells = h.cells ∙ g.cells;
  codes = grown_twice a.codes.keys b.codes.keys c.codes.keys g.codes h.codes;
  nodes = grown_twice a.nodes.items b.nodes.items c.nodes.items g.nodes h.nodes;
}

-- ---- the first place
pub any_within : {X : Type 0} (p : X → Bool) (xs : List X) → position_or_len p xs < length xs → list_any p xs ≡ true
any_within p [] lt = absurd (omega (arith, lt))
any_within p (x ∷ xs) lt = cases (p x) refl (any_within p xs)
  where
    cases : (b : Bool) → p x ≡ b → (position_or_len p xs < length xs → list_any p xs ≡ true) → list_any p (x ∷ xs) ≡ true
    cases true e more = ap (λ b. b || list_any p xs) e
    cases false e more =
        let at : position_or_len p (x ∷ xs) ≡ 1 + position_or_len p xs = ap (λ b. cond (not b) (1 + position_or_len p xs) 0) e in
        ap (λ b. b || list_any p xs) e ∙ more (omega (arith, lt, at))

pub none_past : {X : Type 0} (p : X → Bool) (xs : List X) → length xs ≤ position_or_len p xs → (list_any p xs ≡ false) × (position_or_len p xs ≡ length xs)
none_past p [] le = (refl, refl)
none_past p (x ∷ xs) le = cases (p x) refl (none_past p xs)
  where
    cases : (b : Bool) → p x ≡ b → (length xs ≤ position_or_len p xs → (list_any p xs ≡ false) × (position_or_len p xs ≡ length xs)) → (list_any p (x ∷ xs) ≡ false) × (position_or_len p (x ∷ xs) ≡ length (x ∷ xs))
    cases true e more =
        let at : position_or_len p (x ∷ xs) ≡ 0 = ap (λ b. cond (not b) (1 + position_or_len p xs) 0) e in absurd (omega (arith, le, at))
    cases false e more =
        let at : position_or_len p (x ∷ xs) ≡ 1 + position_or_len p xs = ap (λ b. cond (not b) (1 + position_or_len p xs) 0) e in
        let rest = more (omega (arith, le, at)) in
        (ap (λ b. b || list_any p xs) e ∙ rest.0, omega (arith, at, rest.1))
