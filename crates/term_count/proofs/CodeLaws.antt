-- Among terms that hold the arguments of both, two terms are equal exactly where their codes are the same.
use Rattle.std.proofs.Common.{◌≡◌, ℕ, ℤ, pos, negsuc, suc, Bool, true, false, ◌&&◌, List, [], ◌∷◌, ◌++◌, map, length, refl, sym, ap, ◌∙◌, arith}
use Rattle.std.specs.Prelude.{nat_eq}
use Rattle.std.specs.List.{list_all, position_or_len}
use Rattle.std.specs.Ordering.{int_eq}
use Rattle.std.specs.Cmp.Rules.{signed_items}
use Rattle.std.proofs.lemmas.Bool.Decides.{Decides-int_eq}
use Rattle.std.proofs.lemmas.List.{append_assoc}
use lib.Pointwise.{pointwise}
use Rattle.cbl_operations.specs.declared.op.Op.{Op}
use Rattle.cbl_operations.specs.declared.op.Op.TheVariants as ops
use Rattle.cbl_violations.specs.Constraints.{constraint_numbers}
use Rattle.cbl_violations.specs.declared.constraint.Constraint.{Constraint}
use Rattle.cbl_violations.specs.declared.constraint.Constraint.TheVariants.{AtMost}
use Rattle.term_model.specs.SameOperations.{first_of, name_of, numbers_of, second_of, same_operation}
use Rattle.term_model.specs.SameTerms.{all_pass, same_layer, same_term}
use Rattle.term_model.specs.Subterms.{arguments_of}
use Rattle.term_model.specs.declared.term.Term.{Term}
use Rattle.term_model.specs.declared.term.Term.TheOpen.{Term-F}
use Rattle.term_model.specs.declared.term.Term.TheViews.{out-Term}
use Rattle.term_model.specs.declared.term.Term.TheFolds.{map-Term}
use Rattle.term_model.proofs.EqualTerms.{same_out, same_term_equiv, eq_of}
use Rattle.term_model.proofs.OperationLaws.{same_is_equal}
use Rattle.term_count.specs.Codes.{IsNode, code_among, code_by, counted, is_known, is_known_by, name_among, name_by, operation_code}
use Rattle.term_count.proofs.PlaceLaws.{and_parts, both, same_place, same_position}

abbrev Test : Type 0
Test = Term → Bool

eq_from : (a b : ℕ) → a ≡ b → nat_eq a b ≡ true
eq_from a b h = grind (arith, h)

-- ---- lists that begin alike
tail_of : {X : Type 0} → List X → List X
tail_of [] = []
tail_of (x ∷ xs) = xs

pub head_same : (x y : ℤ) (xs ys : List ℤ) → x ∷ xs ≡ y ∷ ys → x ≡ y
head_same x y xs ys e = cc

pub tail_same : (x y : ℤ) (xs ys : List ℤ) → x ∷ xs ≡ y ∷ ys → xs ≡ ys
tail_same x y xs ys e = cc

pos_same : (m n : ℕ) → pos m ≡ pos n → m ≡ n
pos_same m n e = cc

negsuc_same : (m n : ℕ) → negsuc m ≡ negsuc n → m ≡ n
negsuc_same m n e = cc

pub parts_same : (xs ys us vs : List ℤ) → length xs ≡ length us → xs ++ ys ≡ us ++ vs → (xs ≡ us) × (ys ≡ vs)
parts_same [] ys [] vs l e = (refl, e)
parts_same [] ys (u ∷ us) vs l e = absurd (omega arith)
parts_same (x ∷ xs) ys [] vs l e = absurd (omega arith)
parts_same (x ∷ xs) ys (u ∷ us) vs l e =
    let rest = parts_same xs ys us vs (omega arith) (tail_same x u (xs ++ ys) (us ++ vs) e) in
    (ap (λ z. z ∷ xs) (head_same x u (xs ++ ys) (us ++ vs) e) ∙ ap (λ zs. u ∷ zs) rest.0, rest.1)

counted_same : (xs us ys vs : List ℤ) → counted xs ++ ys ≡ counted us ++ vs → (xs ≡ us) × (ys ≡ vs)
counted_same xs us ys vs e =
    parts_same xs ys us vs (pos_same (length xs) (length us) (head_same (pos (length xs)) (pos (length us)) (xs ++ ys) (us ++ vs) e)) (tail_same (pos (length xs)) (pos (length us)) (xs ++ ys) (us ++ vs) e)

-- an operation keeps four numbers
constraint_length : (constraint : Constraint) → length (constraint_numbers constraint) ≡ 4
constraint_length (AtMost low bounds) = refl
constraint_length constraint = refl

numbers_length : (op : Op) → length (numbers_of op) ≡ 4
numbers_length (ops.Constraint constraint) = constraint_length constraint
numbers_length op = refl

-- an operation is known by its code
operation_same : (op op' : Op) (xs ys : List ℤ) → operation_code op ++ xs ≡ operation_code op' ++ ys → (same_operation op op' ≡ true) × (xs ≡ ys)
unfolding same_operation
operation_same op op' xs ys e =
    let whole = λ (o : Op) (zs : List ℤ). append_assoc (pos (name_of o) ∷ numbers_of o) (counted (first_of o) ++ counted (second_of o)) zs
    ∙ ap (λ us. (pos (name_of o) ∷ numbers_of o) ++ us) (append_assoc (counted (first_of o)) (counted (second_of o)) zs) in
    let front = parts_same (pos (name_of op) ∷ numbers_of op) (counted (first_of op) ++ (counted (second_of op) ++ xs)) (pos (name_of op') ∷ numbers_of op') (counted (first_of op') ++ (counted (second_of op') ++ ys))
    (ap suc (numbers_length op ∙ sym (numbers_length op'))) (sym (whole op xs) ∙ e ∙ whole op' ys) in
    let firsts = counted_same (first_of op) (first_of op') (counted (second_of op) ++ xs) (counted (second_of op') ++ ys) front.1 in
    let seconds = counted_same (second_of op) (second_of op') xs ys firsts.1 in
    let names = pos_same (name_of op) (name_of op') (head_same (pos (name_of op)) (pos (name_of op')) (numbers_of op) (numbers_of op') front.0) in
    let numbers = tail_same (pos (name_of op)) (pos (name_of op')) (numbers_of op) (numbers_of op') front.0 in (
      both (nat_eq (name_of op) (name_of op') && pointwise int_eq (numbers_of op) (numbers_of op') && pointwise int_eq (first_of op) (first_of op')) (pointwise int_eq (second_of op) (second_of op'))
          (both (nat_eq (name_of op) (name_of op') && pointwise int_eq (numbers_of op) (numbers_of op')) (pointwise int_eq (first_of op) (first_of op'))
          (both (nat_eq (name_of op) (name_of op')) (pointwise int_eq (numbers_of op) (numbers_of op')) (eq_from (name_of op) (name_of op') names) ((signed_items (numbers_of op) (numbers_of op')).1 numbers))
          ((signed_items (first_of op) (first_of op')).1 firsts.0)) ((signed_items (second_of op) (second_of op')).1 seconds.0),
      seconds.1,
    )

-- ---- names
by_layers : (t u : Term) (y z : Term-F Term) → out-Term t ≡ y → out-Term u ≡ z → same_term t u ≡ same_layer (map-Term Term Test same_term y) z
by_layers t u y z p q =
    same_out t u ∙ ap (λ a. same_layer (map-Term Term Test same_term a) (out-Term u)) p ∙ ap (same_layer (map-Term Term Test same_term y)) q

placed : (ts : List Term) (u : Term) (z : Term-F Term) (n : ℕ) → pos n ≡ name_by ts u z → n ≡ position_or_len (same_term u) ts
placed ts u (Term-F.Const x) n e = pos_same n (position_or_len (same_term u) ts) e
placed ts u (Term-F.ConstSet s) n e = pos_same n (position_or_len (same_term u) ts) e
placed ts u (Term-F.Var v) n e = let c : pos n ≡ negsuc v.index = e in cc
placed ts u (Term-F.Node op args place) n e = pos_same n (position_or_len (same_term u) ts) e

name_same_by : (ts : List Term) (t u : Term) (y z : Term-F Term) → out-Term t ≡ y → out-Term u ≡ z → is_known_by ts t y ≡ true → name_by ts t y ≡ name_by ts u z → same_term t u ≡ true
name_same_by ts t u (Term-F.Const x) z p q known e = same_place t u ts known (placed ts u z (position_or_len (same_term t) ts) e)
name_same_by ts t u (Term-F.ConstSet s) z p q known e = same_place t u ts known (placed ts u z (position_or_len (same_term t) ts) e)
name_same_by ts t u (Term-F.Node op args place) z p q known e = same_place t u ts known (placed ts u z (position_or_len (same_term t) ts) e)
name_same_by ts t u (Term-F.Var v) (Term-F.Const x) p q known e = let c : negsuc v.index ≡ pos (position_or_len (same_term u) ts) = e in cc
name_same_by ts t u (Term-F.Var v) (Term-F.ConstSet s) p q known e = let c : negsuc v.index ≡ pos (position_or_len (same_term u) ts) = e in cc
name_same_by ts t u (Term-F.Var v) (Term-F.Node op args place) p q known e = let c : negsuc v.index ≡ pos (position_or_len (same_term u) ts) = e in cc
name_same_by ts t u (Term-F.Var v) (Term-F.Var w) p q known e =
    by_layers t u (Term-F.Var v) (Term-F.Var w) p q ∙ eq_from w.index v.index (sym (negsuc_same v.index w.index e))

pub name_same : (ts : List Term) (t u : Term) → is_known ts t ≡ true → name_among ts t ≡ name_among ts u → same_term t u ≡ true
name_same ts t u known e = name_same_by ts t u (out-Term t) (out-Term u) refl refl known e

module _ (ts : List Term) (t u : Term) (same : same_term t u ≡ true) where
  places : pos (position_or_len (same_term t) ts) ≡ pos (position_or_len (same_term u) ts)
  places = ap pos (same_position (same_term t) (same_term u) (λ x. same_term_equiv.congr t u x same) ts)

  name_alike_by : (y z : Term-F Term) → same_layer (map-Term Term Test same_term y) z ≡ true → name_by ts t y ≡ name_by ts u z
  name_alike_by (Term-F.Const x) (Term-F.Const x') h = places
  name_alike_by (Term-F.Const x) (Term-F.ConstSet s) h = places
  name_alike_by (Term-F.Const x) (Term-F.Var v) h = let c : false ≡ true = h in cc
  name_alike_by (Term-F.Const x) (Term-F.Node op args place) h = places
  name_alike_by (Term-F.ConstSet s) (Term-F.Const x) h = places
  name_alike_by (Term-F.ConstSet s) (Term-F.ConstSet s') h = places
  name_alike_by (Term-F.ConstSet s) (Term-F.Var v) h = let c : false ≡ true = h in cc
  name_alike_by (Term-F.ConstSet s) (Term-F.Node op args place) h = places
  name_alike_by (Term-F.Var v) (Term-F.Const x) h = let c : false ≡ true = h in cc
  name_alike_by (Term-F.Var v) (Term-F.ConstSet s) h = let c : false ≡ true = h in cc
  name_alike_by (Term-F.Var v) (Term-F.Var w) h = ap negsuc (sym (eq_of w.index v.index h))
  name_alike_by (Term-F.Var v) (Term-F.Node op args place) h = let c : false ≡ true = h in cc
  name_alike_by (Term-F.Node op args place) (Term-F.Const x) h = places
  name_alike_by (Term-F.Node op args place) (Term-F.ConstSet s) h = places
  name_alike_by (Term-F.Node op args place) (Term-F.Var v) h = let c : false ≡ true = h in cc
  name_alike_by (Term-F.Node op args place) (Term-F.Node op' args' place') h = places

  pub name_alike : name_among ts t ≡ name_among ts u
  name_alike = name_alike_by (out-Term t) (out-Term u) (sym (same_out t u) ∙ same)

-- ---- arguments
args_same : (ts xs bs : List Term) → list_all (is_known ts) xs ≡ true → map (name_among ts) xs ≡ map (name_among ts) bs → all_pass (map same_term xs) bs ≡ true
args_same ts [] [] known e = refl
args_same ts [] (b ∷ bs) known e = let c : [] ≡ name_among ts b ∷ map (name_among ts) bs = e in cc
args_same ts (a ∷ xs) [] known e = let c : name_among ts a ∷ map (name_among ts) xs ≡ [] = e in cc
args_same ts (a ∷ xs) (b ∷ bs) known e =
    let parts = and_parts (is_known ts a) (list_all (is_known ts) xs) known in
    both (same_term a b) (all_pass (map same_term xs) bs)
    (name_same ts a b parts.0 (head_same (name_among ts a) (name_among ts b) (map (name_among ts) xs) (map (name_among ts) bs) e))
    (args_same ts xs bs parts.1 (tail_same (name_among ts a) (name_among ts b) (map (name_among ts) xs) (map (name_among ts) bs) e))

args_alike : (ts xs bs : List Term) → all_pass (map same_term xs) bs ≡ true → map (name_among ts) xs ≡ map (name_among ts) bs
args_alike ts [] [] h = refl
args_alike ts [] (b ∷ bs) h = let c : false ≡ true = h in cc
args_alike ts (a ∷ xs) [] h = let c : false ≡ true = h in cc
args_alike ts (a ∷ xs) (b ∷ bs) h =
    let parts = and_parts (same_term a b) (all_pass (map same_term xs) bs) h in
    ap (λ n. n ∷ map (name_among ts) xs) (name_alike ts a b parts.0) ∙ ap (λ ns. name_among ts b ∷ ns) (args_alike ts xs bs parts.1)

-- ---- codes
code_same_by : (ts : List Term) (y z : Term-F Term) → IsNode y → list_all (is_known ts) (arguments_of y) ≡ true → code_by ts y ≡ code_by ts z → same_layer (map-Term Term Test same_term y) z ≡ true
code_same_by ts (Term-F.Const x) (Term-F.Const x') own known e = (Decides-int_eq x' x).1 (sym (head_same x x' [] [] (tail_same (negsuc 0) (negsuc 0) (x ∷ []) (x' ∷ []) e)))
code_same_by ts (Term-F.Const x) (Term-F.ConstSet s) own known e = let c : ◌≡◌ {A = ℕ} 0 1 = negsuc_same 0 1 (head_same (negsuc 0) (negsuc 1) (x ∷ []) s e) in absurd (omega arith)
code_same_by ts (Term-F.Const x) (Term-F.Var v) own known e = let c : negsuc 0 ∷ x ∷ [] ≡ [] = e in cc
code_same_by ts (Term-F.Const x) (Term-F.Node op args place) own known e =
    let c : negsuc 0 ≡ pos (name_of op) = head_same (negsuc 0) (pos (name_of op)) (x ∷ []) ((numbers_of op ++ (counted (first_of op) ++ counted (second_of op))) ++ map (name_among ts) args.items) e in cc
code_same_by ts (Term-F.ConstSet s) (Term-F.Const x) own known e = let c : ◌≡◌ {A = ℕ} 1 0 = negsuc_same 1 0 (head_same (negsuc 1) (negsuc 0) s (x ∷ []) e) in absurd (omega arith)
code_same_by ts (Term-F.ConstSet s) (Term-F.ConstSet s') own known e = (signed_items s' s).1 (sym (tail_same (negsuc 1) (negsuc 1) s s' e))
code_same_by ts (Term-F.ConstSet s) (Term-F.Var v) own known e = let c : negsuc 1 ∷ s ≡ [] = e in cc
code_same_by ts (Term-F.ConstSet s) (Term-F.Node op args place) own known e =
    let c : negsuc 1 ≡ pos (name_of op) = head_same (negsuc 1) (pos (name_of op)) s ((numbers_of op ++ (counted (first_of op) ++ counted (second_of op))) ++ map (name_among ts) args.items) e in cc
code_same_by ts (Term-F.Var v) z own known e = absurd own
code_same_by ts (Term-F.Node op args place) (Term-F.Const x) own known e =
    let c : pos (name_of op) ≡ negsuc 0 = head_same (pos (name_of op)) (negsuc 0) ((numbers_of op ++ (counted (first_of op) ++ counted (second_of op))) ++ map (name_among ts) args.items) (x ∷ []) e in cc
code_same_by ts (Term-F.Node op args place) (Term-F.ConstSet s) own known e =
    let c : pos (name_of op) ≡ negsuc 1 = head_same (pos (name_of op)) (negsuc 1) ((numbers_of op ++ (counted (first_of op) ++ counted (second_of op))) ++ map (name_among ts) args.items) s e in cc
code_same_by ts (Term-F.Node op args place) (Term-F.Var v) own known e =
    let c : pos (name_of op) ∷ ((numbers_of op ++ (counted (first_of op) ++ counted (second_of op))) ++ map (name_among ts) args.items) ≡ [] = e in cc
code_same_by ts (Term-F.Node op args place) (Term-F.Node op' args' place') own known e =
    let parts = operation_same op' op (map (name_among ts) args'.items) (map (name_among ts) args.items) (sym e) in
    both (same_operation op' op) (all_pass (map same_term args.items) args'.items) parts.0 (args_same ts args.items args'.items known (sym parts.1))

code_alike_by : (ts : List Term) (y z : Term-F Term) → same_layer (map-Term Term Test same_term y) z ≡ true → code_by ts y ≡ code_by ts z
code_alike_by ts (Term-F.Const x) (Term-F.Const x') h = ap (λ n. negsuc 0 ∷ n ∷ []) (sym ((Decides-int_eq x' x).0 h))
code_alike_by ts (Term-F.Const x) (Term-F.ConstSet s) h = let c : false ≡ true = h in cc
code_alike_by ts (Term-F.Const x) (Term-F.Var v) h = let c : false ≡ true = h in cc
code_alike_by ts (Term-F.Const x) (Term-F.Node op args place) h = let c : false ≡ true = h in cc
code_alike_by ts (Term-F.ConstSet s) (Term-F.Const x) h = let c : false ≡ true = h in cc
code_alike_by ts (Term-F.ConstSet s) (Term-F.ConstSet s') h = ap (λ ns. negsuc 1 ∷ ns) (sym ((signed_items s' s).0 h))
code_alike_by ts (Term-F.ConstSet s) (Term-F.Var v) h = let c : false ≡ true = h in cc
code_alike_by ts (Term-F.ConstSet s) (Term-F.Node op args place) h = let c : false ≡ true = h in cc
code_alike_by ts (Term-F.Var v) (Term-F.Const x) h = let c : false ≡ true = h in cc
code_alike_by ts (Term-F.Var v) (Term-F.ConstSet s) h = let c : false ≡ true = h in cc
code_alike_by ts (Term-F.Var v) (Term-F.Var w) h = refl
code_alike_by ts (Term-F.Var v) (Term-F.Node op args place) h = let c : false ≡ true = h in cc
code_alike_by ts (Term-F.Node op args place) (Term-F.Const x) h = let c : false ≡ true = h in cc
code_alike_by ts (Term-F.Node op args place) (Term-F.ConstSet s) h = let c : false ≡ true = h in cc
code_alike_by ts (Term-F.Node op args place) (Term-F.Var v) h = let c : false ≡ true = h in cc
code_alike_by ts (Term-F.Node op args place) (Term-F.Node op' args' place') h =
    let parts = and_parts (same_operation op' op) (all_pass (map same_term args.items) args'.items) h in
    ap (λ o. operation_code o ++ map (name_among ts) args.items) (sym (same_is_equal op' op parts.0)) ∙ ap (λ ns. operation_code op' ++ ns) (args_alike ts args.items args'.items parts.1)

both_ways : (a b : Bool) → (a ≡ true → b ≡ true) → (b ≡ true → a ≡ true) → a ≡ b
both_ways true b there back = sym (there refl)
both_ways false true there back = back refl
both_ways false false there back = refl

pub code_test : (ts : List Term) (t u : Term) → IsNode (out-Term t) → list_all (is_known ts) (arguments_of (out-Term t)) ≡ true → pointwise int_eq (code_among ts t) (code_among ts u) ≡ same_term t u
code_test ts t u own known =
    both_ways (pointwise int_eq (code_among ts t) (code_among ts u)) (same_term t u)
    (λ h. same_out t u ∙ code_same_by ts (out-Term t) (out-Term u) own known ((signed_items (code_among ts t) (code_among ts u)).0 h))
    (λ h. (signed_items (code_among ts t) (code_among ts u)).1 (code_alike_by ts (out-Term t) (out-Term u) (sym (same_out t u) ∙ h)))
