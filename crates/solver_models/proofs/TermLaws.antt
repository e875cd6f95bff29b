-- A node's ids and its depth, from those of its arguments.
use Rattle.std.proofs.Common.{◌≡◌, ◌≢◌, ℕ, ℤ, zero, suc, ◌+◌, ◌-◌, ◌<◌, ◌≤◌, Bool, true, false, ◌&&◌, List, [], ◌∷◌, ◌++◌, Vec, Global, max, take, length, get_or, map, refl, sym, ap, ◌∙◌, subst, arith}
use Rattle.std.specs.Prelude.{nat_le}
use Rattle.std.specs.List.{list_all}
use Rattle.std.proofs.lemmas.List.{map_more, take_all}
use Rattle.cbl_base.specs.declared.ids.VarId.{VarId}
use Rattle.cbl_base.specs.declared.place.Place.{Place}
use Rattle.cbl_operations.specs.declared.op.Op.{Op}
use Rattle.solver_models.specs.Ids.{names_only, names_step}
use Rattle.term_model.specs.Depth.{depth_of, depth_step, greatest}
use Rattle.term_model.specs.declared.term.Term.{Term}
use Rattle.term_model.specs.declared.term.Term.TheOpen.{Term-F}
use Rattle.term_model.specs.declared.term.Term.TheViews.{Node}
use Rattle.term_model.specs.declared.term.Term.TheVariants.{Const, ConstSet, Var, rolls-Const, rolls-ConstSet, rolls-Node, rolls-Var}
use Rattle.term_model.specs.declared.term.Term.TheFolds.{fold-roll-Term}

-- ---- lists
both : (a b : Bool) → a ≡ true → b ≡ true → (a && b) ≡ true
both true b p q = q
both false b p q = p

and_parts : (a b : Bool) → (a && b) ≡ true → (a ≡ true) × (b ≡ true)
and_parts true b h = (refl, h)
and_parts false b h = let c : false ≡ true = h in cc

pub all_more : {X : Type 0} (p : X → Bool) (xs : List X) (i : ℕ) (x : X) → i < length xs → x ≡ get_or xs i x → list_all p (take i xs) ≡ true → p x ≡ true → list_all p (take (i + 1) xs) ≡ true
all_more p [] i x lt is all one = absurd (omega arith)
all_more p (y ∷ xs) zero x lt is all one = both (p y) true (ap p (sym is) ∙ one) refl
all_more p (y ∷ xs) (suc i) x lt is all one =
    let parts = and_parts (p y) (list_all p (take i xs)) all in
    let step : suc i + 1 ≡ suc (i + 1) = omega arith in
    rw step (both (p y) (list_all p (take (i + 1) xs)) parts.0 (all_more p xs i x (omega arith) is parts.1 one))

pub all_fails : {X : Type 0} (p : X → Bool) (xs : List X) (i : ℕ) (x : X) → i < length xs → x ≡ get_or xs i x → p x ≡ false → list_all p xs ≡ false
all_fails p [] i x lt is one = absurd (omega arith)
all_fails p (y ∷ xs) zero x lt is one = ap (λ b. b && list_all p xs) (ap p (sym is) ∙ one)
all_fails p (y ∷ xs) (suc i) x lt is one = none (p y) (list_all p xs) (all_fails p xs i x (omega arith) is one)
  where
    none : (a b : Bool) → b ≡ false → (a && b) ≡ false
    none true b h = h
    none false b h = refl

all_map : {X : Type 0} (p : X → Bool) (xs : List X) → list_all (λ b. b) (map p xs) ≡ list_all p xs
all_map p [] = refl
all_map p (x ∷ xs) = ap (λ b. p x && b) (all_map p xs)

-- ---- ids
module _ (test : VarId → Bool) where
  names_node : (t : Term) (op : Op) (args : Vec Term Global) (place : Place) → t ≡ Node op args place → names_only test t ≡ list_all (names_only test) args.items
  names_node t op args place e =
      ap (names_only test) (e ∙ sym (rolls-Node op args place)) ∙ fold-roll-Term Bool (names_step test) (Term-F.Node op args place) ∙ all_map (names_only test) args.items

  pub names_all : (t : Term) (op : Op) (args : Vec Term Global) (place : Place) (items : List Term) (i : ℕ) → t ≡ Node op args place → items ≡ args.items → length items ≤ i → list_all (names_only test) (take i items) ≡ true → names_only test t ≡ true
  names_all t op args place items i e same le all =
      names_node t op args place e ∙ ap (list_all (names_only test)) (sym same) ∙ ap (list_all (names_only test)) (sym (take_all i items le)) ∙ all

  pub names_fail : (t : Term) (op : Op) (args : Vec Term Global) (place : Place) (items : List Term) (i : ℕ) (item : Term) → t ≡ Node op args place → items ≡ args.items → i < length items → item ≡ get_or items i item → names_only test item ≡ false → names_only test t ≡ false
  names_fail t op args place items i item e same lt is one =
      names_node t op args place e ∙ ap (list_all (names_only test)) (sym same) ∙ all_fails (names_only test) items i item lt is one

  pub names_const : (t : Term) (x : ℤ) → t ≡ Const x → names_only test t ≡ true
  names_const t x e = ap (names_only test) (e ∙ sym (rolls-Const x)) ∙ fold-roll-Term Bool (names_step test) (Term-F.Const x)

  pub names_set : (t : Term) (s : List ℤ) → t ≡ ConstSet s → names_only test t ≡ true
  names_set t s e = ap (names_only test) (e ∙ sym (rolls-ConstSet s)) ∙ fold-roll-Term Bool (names_step test) (Term-F.ConstSet s)

  pub names_var : (t : Term) (v : VarId) → t ≡ Var v → names_only test t ≡ test v
  names_var t v e = ap (names_only test) (e ∙ sym (rolls-Var v)) ∙ fold-roll-Term Bool (names_step test) (Term-F.Var v)

-- ---- depths
depth_node : (t : Term) (op : Op) (args : Vec Term Global) (place : Place) → t ≡ Node op args place → depth_of t ≡ suc (greatest (map depth_of args.items))
depth_node t op args place e = ap depth_of (e ∙ sym (rolls-Node op args place)) ∙ fold-roll-Term ℕ depth_step (Term-F.Node op args place)

greatest_push : (ns : List ℕ) (n : ℕ) → greatest (ns ++ n ∷ []) ≡ max (greatest ns) n
greatest_push [] n = omega arith
greatest_push (m ∷ ns) n = let rest = greatest_push ns n in omega (arith, rest)

pub depth_more : (items : List Term) (i : ℕ) (item : Term) (most : ℕ) → i < length items → item ≡ get_or items i item → greatest (map depth_of (take i items)) ≤ most → depth_of item ≤ most → greatest (map depth_of (take (i + 1) items)) ≤ most
depth_more items i item most lt is so_far one =
    let list : map depth_of (take (i + 1) items) ≡ map depth_of (take i items) ++ depth_of item ∷ [] =
    map_more depth_of items i item lt ∙ ap (λ u. map depth_of (take i items) ++ depth_of u ∷ []) (sym is) in
    subst (λ ns. greatest ns ≤ most) (sym list) (let e = greatest_push (map depth_of (take i items)) (depth_of item) in omega (arith, e, so_far, one))

below_greatest : (items : List Term) (i : ℕ) (item : Term) → i < length items → depth_of (get_or items i item) ≤ greatest (map depth_of items)
below_greatest [] i item lt = absurd (omega arith)
below_greatest (t ∷ items) zero item lt = omega arith
below_greatest (t ∷ items) (suc i) item lt = omega (arith, below_greatest items i item (omega arith))

le_true : (m n : ℕ) → m ≤ n → nat_le m n ≡ true
le_true m n h = grind (arith, h)

le_false : (m n : ℕ) → n < m → nat_le m n ≡ false
le_false m n h = grind (arith, h)

pub le_from : (m n : ℕ) → nat_le m n ≡ true → m ≤ n
le_from m n h = grind (arith, h)

pub lt_from : (m n : ℕ) → nat_le m n ≡ false → n < m
lt_from m n h = grind (arith, h)

pub depth_within : (t : Term) (op : Op) (args : Vec Term Global) (place : Place) (items : List Term) (i limit : ℕ) → t ≡ Node op args place → items ≡ args.items → length items ≤ i → limit ≢ 0 → greatest (map depth_of (take i items)) ≤ limit - 1 → nat_le (depth_of t) limit ≡ true
depth_within t op args place items i limit e same le some all =
    let whole = depth_node t op args place e in
    let all' : greatest (map depth_of args.items) ≤ limit - 1 = subst (λ us. greatest (map depth_of us) ≤ limit - 1) (take_all i items le ∙ same) all in
    le_true (depth_of t) limit (omega (arith, whole, all', some))

pub depth_none : (t : Term) (op : Op) (args : Vec Term Global) (place : Place) (limit : ℕ) → t ≡ Node op args place → limit ≡ 0 → nat_le (depth_of t) limit ≡ false
depth_none t op args place limit e none = let whole = depth_node t op args place e in le_false (depth_of t) limit (omega (arith, whole, none))

pub depth_beyond : (t : Term) (op : Op) (args : Vec Term Global) (place : Place) (items : List Term) (i : ℕ) (item : Term) (limit : ℕ) → t ≡ Node op args place → items ≡ args.items → i < length items → item ≡ get_or items i item → limit ≢ 0 → nat_le (depth_of item) (limit - 1) ≡ false → nat_le (depth_of t) limit ≡ false
depth_beyond t op args place items i item limit e same lt is some one =
    let whole = depth_node t op args place e in
    let here : depth_of item ≤ greatest (map depth_of items) = subst (λ u. depth_of u ≤ greatest (map depth_of items)) (sym is) (below_greatest items i item lt) in
    let here' : depth_of item ≤ greatest (map depth_of args.items) = subst (λ us. depth_of item ≤ greatest (map depth_of us)) same here in
    let over = lt_from (depth_of item) (limit - 1) one in
    le_false (depth_of t) limit (omega (arith, whole, here', over, some))

pub depth_const : (t : Term) (x : ℤ) (limit : ℕ) → t ≡ Const x → nat_le (depth_of t) limit ≡ true
depth_const t x limit e = let none : depth_of t ≡ 0 = ap depth_of (e ∙ sym (rolls-Const x)) ∙ fold-roll-Term ℕ depth_step (Term-F.Const x) in le_true (depth_of t) limit (omega (arith, none))

pub depth_set : (t : Term) (s : List ℤ) (limit : ℕ) → t ≡ ConstSet s → nat_le (depth_of t) limit ≡ true
depth_set t s limit e = let none : depth_of t ≡ 0 = ap depth_of (e ∙ sym (rolls-ConstSet s)) ∙ fold-roll-Term ℕ depth_step (Term-F.ConstSet s) in le_true (depth_of t) limit (omega (arith, none))

pub depth_var : (t : Term) (v : VarId) (limit : ℕ) → t ≡ Var v → nat_le (depth_of t) limit ≡ true
depth_var t v limit e = let none : depth_of t ≡ 0 = ap depth_of (e ∙ sym (rolls-Var v)) ∙ fold-roll-Term ℕ depth_step (Term-F.Var v) in le_true (depth_of t) limit (omega (arith, none))
