-- Lists of nodes, and what holds of one of them.
use Rattle.std.proofs.Common.{◌≡◌, ℕ, zero, suc, ◌<◌, List, [], ◌∷◌, length, map, get_or, set, slice_get, Some, refl, sym, ap, ◌∙◌, arith, subst, Vec, Bool, false, cond, nat_lt, ◌&&◌, ◌-◌, ◌≤◌, slice_index_or, pos}
use Rattle.cbl_base.specs.declared.ids.NodeId.{NodeId}
use Rattle.cbl_base.specs.declared.input.Input.{Input}
use Rattle.cbl_base.specs.declared.input.Input.TheVariants.{Int}
use Rattle.store_turns.specs.declared.frame.Frame.{Frame}
use Rattle.store_turns.specs.declared.waiting.Waiting.{Waiting}
use Rattle.store_turns.specs.declared.outcome.Outcome.{Outcome}
use Rattle.store_turns.specs.declared.outcome.Outcome.TheVariants.{Value}
use Rattle.cbl_base.specs.NodeLaw.{Rule}
use Rattle.std.proofs.lemmas.Bool.Decides.{nat_tests}
use Rattle.store_build.specs.Kept.{IsKept}
use Rattle.store_turns.specs.Cones.{chosen, has}
use Rattle.store_turns.specs.Meaning.{lists_of, layer_of, uses_in, inputs_in, values_of, is_empty}
use Rattle.store_turns.specs.Waits.{Wait, waits}
use Rattle.store_turns.specs.Telling.{IsTold, layer_in}
use Rattle.store_turns.specs.Touch.{differs}
use Rattle.store_turns.proofs.ConeLists.{all_chosen}
use Rattle.store_turns.proofs.Differs.{same_value}
use Rattle.store_build.specs.Frames.{cell_of}

pub here : {A : Type 0} (xs : List A) (i : ℕ) (n : A) → i < length xs → n ≡ get_or xs i n → slice_get xs i ≡ Some n
here [] i n lt e = absurd (omega arith)
here (x ∷ xs) zero n lt e = ap (λ y. Some y) (sym e)
here (x ∷ xs) (suc i) n lt e = here xs i n (omega arith) e

pub mapped_get : {A B : Type 0} (f : A → B) (xs : List A) (i : ℕ) (n : A) → slice_get xs i ≡ Some n → slice_get (map f xs) i ≡ Some (f n)
mapped_get f [] i n e = absurd (cc)
mapped_get f (x ∷ xs) zero n e = ap (λ y. Some y) (ap f (the_same x n e))
  where
    the_same : {A : Type 0} (x n : A) → Some x ≡ Some n → x ≡ n
    the_same x n e = cc
mapped_get f (x ∷ xs) (suc i) n e = mapped_get f xs i n e

pub get_at : {A : Type 0} (xs : List A) (i : ℕ) (n d : A) → slice_get xs i ≡ Some n → get_or xs i d ≡ n
get_at [] i n d e = absurd (cc)
get_at (x ∷ xs) zero n d e = cc
get_at (x ∷ xs) (suc i) n d e = get_at xs i n d e

pub set_back : {A : Type 0} (xs : List A) (i : ℕ) (n : A) → slice_get xs i ≡ Some n → set xs i n ≡ xs
set_back [] i n e = refl
set_back (x ∷ xs) zero n e = ap (λ y. y ∷ xs) (the_same x n e)
  where
    the_same : {A : Type 0} (x n : A) → Some x ≡ Some n → n ≡ x
    the_same x n e = cc
set_back (x ∷ xs) (suc i) n e = ap (λ ys. x ∷ ys) (set_back xs i n e)

pub list_at : {A Z : Type 0} (vs : List (Vec A Z)) (i : ℕ) (v : Vec A Z) → i < length vs → v ≡ get_or vs i v → v.items ≡ get_or (lists_of vs) i []
list_at vs i v lt e = sym (get_at (lists_of vs) i v.items [] (mapped_get (λ w. w.items) vs i v (here vs i v lt e)))

pub set_same : {A : Type 0} (xs : List A) (i : ℕ) (d : A) → i < length xs → set xs i (get_or xs i d) ≡ xs
set_same [] i d lt = absurd (omega arith)
set_same (x ∷ xs) zero d lt = refl
set_same (x ∷ xs) (suc i) d lt = ap (λ ys. x ∷ ys) (set_same xs i d (omega arith))

-- a value that is no other, written again
pub nothing_other : (cells : List Input) (id : ℕ) (value : Input) (other : Bool) → id < length cells → other ≡ differs (Value value) (cell_of cells id) → other ≡ false → cells ≡ set cells id value
nothing_other cells id value other lt told off =
    sym (ap (λ v. set cells id v) (same_value value (cell_of cells id) (sym told ∙ off)) ∙ set_same cells id (Int (pos 0)) lt)

-- what was told, said of the frame
pub told_over : (frame : Frame) (ls : List ℕ) (us : List (NodeId × ℕ)) (id : ℕ) (old read : Input) (outcome : Outcome) (u : ℕ → ℕ → Wait) (v w : Waiting)
    → ls ≡ frame.layers.items → us ≡ uses_in frame id → read ≡ old → w ≡ v → IsTold (layer_in ls) us read outcome u (waits v) → IsTold (layer_of frame) (uses_in frame id) old outcome u (waits w)
told_over frame ls us id old read outcome u v w el eu er ew told =
    subst (λ (x : Waiting). IsTold (layer_of frame) (uses_in frame id) old outcome u (waits x)) (sym ew)
    (subst (λ (r : Input). IsTold (layer_of frame) (uses_in frame id) r outcome u (waits v)) er
    (subst (λ (k : List (NodeId × ℕ)). IsTold (layer_of frame) k read outcome u (waits v)) eu
    (subst (λ (k : List ℕ). IsTold (layer_in k) us read outcome u (waits v)) el told)))

-- where all are told, each use has its share of the steps
pub all_share : (us all : List (NodeId × ℕ)) (old read : Input) (outcome : Outcome) → us ≡ all → read ≡ old → cond (differs outcome read) (length (chosen (has []) us)) 0 ≡ cond (differs outcome old) (length all) 0
all_share us all old read outcome eu er =
    ap (λ (k : List (NodeId × ℕ)). cond (differs outcome read) (length k) 0) (all_chosen us ∙ eu) ∙ ap (λ (r : Input). cond (differs outcome r) (length all) 0) er

-- all have values, and these are what a node holds
pub values_all : (f : ℕ → Input) (is : List ℕ) → values_of (map (λ i. Value (f i)) is) ≡ Some (map f is)
values_all f [] = refl
values_all f (i ∷ is) = rw (values_all f is) refl

pub past_first : (id first : ℕ) → first ≤ id → nat_lt id first ≡ false
past_first id first le = grind (arith, nat_tests)

pub holds_values : (rules : List Rule) (helds : List (List Input)) (frame : Frame) (cells : List Input) → IsKept rules helds frame cells → (id : ℕ) → id < length frame.inputs.items → frame.first ≤ id
    → slice_index_or helds (id - frame.first) [] ≡ map (cell_of cells) (inputs_in frame id)
holds_values rules helds frame cells kept id lt le =
    let past = past_first id frame.first le in
    let all = kept.holds id lt (ap (λ b. b && is_empty (inputs_in frame id)) past) in
    some_is (sym (ap (λ b. Some (cond b (cell_of cells id ∷ []) (slice_index_or helds (id - frame.first) []))) past) ∙ sym all ∙ values_all (cell_of cells) (inputs_in frame id))
  where
    some_is : {xs ys : List Input} → Some xs ≡ Some ys → xs ≡ ys
    some_is e = cc
