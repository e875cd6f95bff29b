-- One layer of a term: its kind, its depth and its variables from those of its arguments.
use Rattle.std.proofs.Common.{◌≡◌, ℕ, zero, suc, arith, List, Option, Vec, Global, All, IsSome, [], ◌∷◌, ◌++◌, ◌+◌, ◌<◌, ◌≤◌, fold, take, length, get_or, map, sym, ap, ◌∙◌, subst}
use Rattle.cbl_base.specs.Inputs.{InputKind}
use Rattle.cbl_base.specs.declared.place.Place.{Place}
use Rattle.cbl_operations.specs.declared.op.Op.{Op}
use Rattle.term_model.specs.Definitions.{joined, vars_step, vars_of}
use Rattle.term_model.specs.Depth.{depth_of, depth_step, greatest}
use Rattle.term_model.specs.Kinds.{kind_step, kind_of_term, node_kind, all_kinds}
use Rattle.term_model.specs.Naming.{users_of, users_step, user_number}
use Rattle.std.proofs.lemmas.List.{map_more, take_all, append_assoc, append-nil}
use Rattle.std.proofs.lemmas.List.Sums.{fold-append}
use Rattle.term_model.specs.declared.term.Term.{Term}
use Rattle.term_model.specs.declared.term.Term.TheOpen.{Term-F}
use Rattle.term_model.specs.declared.term.Term.TheViews.{Node}
use Rattle.term_model.specs.declared.term.Term.TheVariants.{rolls-Node}
use Rattle.term_model.specs.declared.term.Term.TheFolds.{fold-roll-Term}
use Rattle.term_model.proofs.Kinded.{args_kinded}

pub kind_of_layer : (kinds : ℕ → Option InputKind) (t : Term) (op : Op) (args : Vec Term Global) (place : Place) → t ≡ Node op args place → kind_of_term kinds t ≡ node_kind op (all_kinds (map (kind_of_term kinds) args.items))
kind_of_layer kinds t op args place e =
    ap (kind_of_term kinds) (e ∙ sym (rolls-Node op args place)) ∙ fold-roll-Term (Option InputKind) (kind_step kinds) (Term-F.Node op args place)

-- the arguments of a term that is well kinded are so, too
pub args_of_term : (kinds : ℕ → Option InputKind) (t : Term) (op : Op) (args : Vec Term Global) (place : Place) (items : List Term) →
    t ≡ Node op args place → items ≡ args.items → IsSome (kind_of_term kinds t) → All (λ u. IsSome (kind_of_term kinds u)) items
args_of_term kinds t op args place items e same h =
    subst (All (λ u. IsSome (kind_of_term kinds u))) (sym same) (args_kinded op (kind_of_term kinds) args.items (subst IsSome (kind_of_layer kinds t op args place e) h))

-- ---- the arguments one after another
module _ {Y Z : Type 0} (step : Z → Y → Z) (start : Z) (f : Term → Y) where
  pub one_more : (items : List Term) (i : ℕ) (item : Term) → i < length items → item ≡ get_or items i item → fold step start (map f (take (i + 1) items)) ≡ step (fold step start (map f (take i items))) (f item)
  one_more items i item lt is =
      ap (fold step start) (map_more f items i item lt) ∙ fold-append step start (map f (take i items)) (f (get_or items i item) ∷ [])
      ∙ ap (λ u. step (fold step start (map f (take i items))) (f u)) (sym is)

-- ---- depths
below_greatest : (f : Term → ℕ) (items : List Term) (i : ℕ) (item : Term) → i < length items → f (get_or items i item) ≤ greatest (map f items)
below_greatest f [] i item lt = absurd (omega arith)
below_greatest f (t ∷ items) zero item lt = omega arith
below_greatest f (t ∷ items) (suc i) item lt = omega (arith, below_greatest f items i item (omega arith))

pub depth_below : (t : Term) (op : Op) (args : Vec Term Global) (place : Place) (items : List Term) (i : ℕ) (item : Term) →
    t ≡ Node op args place → items ≡ args.items → i < length items → item ≡ get_or items i item → depth_of item < depth_of t
depth_below t op args place items i item e same lt is =
    let whole : depth_of t ≡ suc (greatest (map depth_of args.items)) = ap depth_of (e ∙ sym (rolls-Node op args place)) ∙ fold-roll-Term ℕ depth_step (Term-F.Node op args place) in
    let one : depth_of (get_or items i item) ≤ greatest (map depth_of items) = below_greatest depth_of items i item lt in
    let one' : depth_of item ≤ greatest (map depth_of items) = subst (λ u. depth_of u ≤ greatest (map depth_of items)) (sym is) one in
    let one'' : depth_of item ≤ greatest (map depth_of args.items) = subst (λ ts. depth_of item ≤ greatest (map depth_of ts)) same one' in
    omega (arith, whole, one'')

-- ---- lists of numbers, one for each argument
joined-append : (xss : List (List ℕ)) (ys : List ℕ) → joined (xss ++ ys ∷ []) ≡ joined xss ++ ys
joined-append [] ys = append-nil ys
joined-append (xs ∷ xss) ys = ap (λ t. xs ++ t) (joined-append xss ys) ∙ sym (append_assoc xs (joined xss) ys)

pub joined_more : {X : Type 0} (f : X → List ℕ) (items : List X) (i : ℕ) (item : X) (start so_far after : List ℕ) → i < length items → item ≡ get_or items i item →
    so_far ≡ start ++ joined (map f (take i items)) → after ≡ so_far ++ f item → after ≡ start ++ joined (map f (take (i + 1) items))
joined_more f items i item start so_far after lt is e next =
    let more : joined (map f (take (i + 1) items)) ≡ joined (map f (take i items)) ++ f item =
    ap joined (map_more f items i item lt) ∙ joined-append (map f (take i items)) (f (get_or items i item)) ∙ ap (λ u. joined (map f (take i items)) ++ f u) (sym is) in
    next ∙ ap (λ t. t ++ f item) e ∙ append_assoc start (joined (map f (take i items))) (f item) ∙ ap (λ t. start ++ t) (sym more)

pub vars_more : (items : List Term) (i : ℕ) (item : Term) (start so_far after : List ℕ) → i < length items → item ≡ get_or items i item →
    so_far ≡ start ++ joined (map vars_of (take i items)) → after ≡ so_far ++ vars_of item → after ≡ start ++ joined (map vars_of (take (i + 1) items))
vars_more = joined_more vars_of

pub vars_of_layer : (t : Term) (op : Op) (args : Vec Term Global) (place : Place) (items : List Term) (i : ℕ) (start after : List ℕ) → t ≡ Node op args place → items ≡ args.items → length items ≤ i →
    after ≡ start ++ joined (map vars_of (take i items)) → after ≡ start ++ vars_of t
vars_of_layer t op args place items i start after e same le is =
    is ∙ ap (λ ts. start ++ joined (map vars_of ts)) (take_all i items le ∙ same)
    ∙ ap (λ u. start ++ u) (sym (ap vars_of (e ∙ sym (rolls-Node op args place)) ∙ fold-roll-Term (List ℕ) vars_step (Term-F.Node op args place)))

-- the numbers of the users' constraints
pub users_of_layer : (t : Term) (op : Op) (args : Vec Term Global) (place : Place) (items : List Term) (i : ℕ) (start before after : List ℕ) → t ≡ Node op args place → items ≡ args.items → length items ≤ i →
    before ≡ start ++ joined (map users_of (take i items)) → after ≡ before ++ user_number op → after ≡ start ++ users_of t
users_of_layer t op args place items i start before after e same le is next =
    next ∙ ap (λ ns. ns ++ user_number op) (is ∙ ap (λ ts. start ++ joined (map users_of ts)) (take_all i items le ∙ same))
    ∙ append_assoc start (joined (map users_of args.items)) (user_number op)
    ∙ ap (λ u. start ++ u) (sym (ap users_of (e ∙ sym (rolls-Node op args place)) ∙ fold-roll-Term (List ℕ) users_step (Term-F.Node op args place)))
