-- Ids among terms as these grow, and the names of ids in codes.
use Rattle.std.proofs.Common.{◌≡◌, ℕ, ℤ, pos, negsuc, ◌+◌, ◌-◌, ◌<◌, true, cond, List, [], ◌∷◌, ◌++◌, Vec, Global, map, length, take, get_or, All, refl, sym, ap, ◌∙◌, subst, arith, lt-ltb, le-ltb}
use Rattle.std.proofs.lemmas.List.{map_more}
use Rattle.cbl_base.specs.declared.ids.NodeId.{NodeId}
use Rattle.std.specs.List.{list_all, position_or_len}
use Rattle.std.proofs.lemmas.List.Elements.{All-nil, All-cons, All-head, All-tail}
use Rattle.cbl_base.specs.declared.place.Place.{Place}
use Rattle.cbl_operations.specs.declared.op.Op.{Op}
use Rattle.term_count.specs.Codes.{is_known, is_known_by, name_among, name_by}
use Rattle.term_count.proofs.PlaceLaws.{and_parts, position_front}
use Rattle.term_graph.specs.Adding.{name_of_id}
use Rattle.term_graph.specs.Ids.{id_among, id_by}
use Rattle.term_model.specs.Definitions.{joined, vars_of, vars_step}
use Rattle.term_model.specs.SameTerms.{same_term}
use Rattle.term_model.specs.declared.term.Term.{Term}
use Rattle.term_model.specs.declared.term.Term.TheOpen.{Term-F}
use Rattle.term_model.specs.declared.term.Term.TheViews.{Node, out-Term, roll-Term}
use Rattle.term_model.specs.declared.term.Term.TheVariants.{rolls-Node}
use Rattle.term_model.specs.declared.term.Term.TheFolds.{fold-roll-Term}
use Rattle.term_model.proofs.EqualTerms.{roll_out}

-- ---- more terms behind
pub id_front_by : (cells : ℕ) (ts more : List Term) (t : Term) (y : Term-F Term) → is_known_by ts t y ≡ true → id_by cells (ts ++ more) t y ≡ id_by cells ts t y
id_front_by cells ts more t (Term-F.Const x) h = ap (λ n. cells + n) (position_front (same_term t) ts more h)
id_front_by cells ts more t (Term-F.ConstSet s) h = ap (λ n. cells + n) (position_front (same_term t) ts more h)
id_front_by cells ts more t (Term-F.Var v) h = refl
id_front_by cells ts more t (Term-F.Node op args place) h = ap (λ n. cells + n) (position_front (same_term t) ts more h)

pub ids_front : (cells : ℕ) (ts more us : List Term) → list_all (is_known ts) us ≡ true → map (id_among cells (ts ++ more)) us ≡ map (id_among cells ts) us
ids_front cells ts more [] h = refl
ids_front cells ts more (u ∷ us) h =
    let parts = and_parts (is_known ts u) (list_all (is_known ts) us) h in
    ap (λ n. n ∷ map (id_among cells (ts ++ more)) us) (id_front_by cells ts more u (out-Term u) parts.0) ∙ ap (λ ns. id_among cells ts u ∷ ns) (ids_front cells ts more us parts.1)

-- ---- ids and names
pub pos_same : (m n : ℕ) → pos m ≡ pos n → m ≡ n
pos_same m n e = cc

id_placed_by : (cells : ℕ) (ts : List Term) (t : Term) (y : Term-F Term) (n : ℕ) → name_by ts t y ≡ pos n → id_by cells ts t y ≡ cells + n
id_placed_by cells ts t (Term-F.Const x) n e = ap (λ k. cells + k) (pos_same (position_or_len (same_term t) ts) n e)
id_placed_by cells ts t (Term-F.ConstSet s) n e = ap (λ k. cells + k) (pos_same (position_or_len (same_term t) ts) n e)
id_placed_by cells ts t (Term-F.Var v) n e = let c : negsuc v.index ≡ pos n = e in cc
id_placed_by cells ts t (Term-F.Node op args place) n e = ap (λ k. cells + k) (pos_same (position_or_len (same_term t) ts) n e)

pub id_placed : (cells : ℕ) (ts : List Term) (t : Term) (n : ℕ) → name_among ts t ≡ pos n → id_among cells ts t ≡ cells + n
id_placed cells ts t n e = id_placed_by cells ts t (out-Term t) n e

name_at : (cells n : ℕ) → name_of_id cells (cells + n) ≡ pos n
name_at cells n =
    ap (λ b. cond b (negsuc (cells + n)) (pos (cells + n - cells))) (le-ltb (cells + n) cells (omega arith)) ∙ ap pos (omega arith)

-- ---- the variables of a term are below the cells
pub name_back_by : (cells : ℕ) (ts : List Term) (t : Term) (y : Term-F Term) → out-Term t ≡ y → All (λ i. i < cells) (vars_of t) → name_of_id cells (id_by cells ts t y) ≡ name_by ts t y
name_back_by cells ts t (Term-F.Const x) e below = name_at cells (position_or_len (same_term t) ts)
name_back_by cells ts t (Term-F.ConstSet s) e below = name_at cells (position_or_len (same_term t) ts)
name_back_by cells ts t (Term-F.Var v) e below =
    let vars : vars_of t ≡ v.index ∷ [] = ap vars_of (sym (roll_out t)) ∙ ap (λ y. vars_of (roll-Term y)) e ∙ fold-roll-Term (List ℕ) vars_step (Term-F.Var v) in
    let lt : v.index < cells = All-head (λ i. i < cells) v.index [] (subst (All (λ i. i < cells)) vars below) in
    ap (λ b. cond b (negsuc v.index) (pos (v.index - cells))) (lt-ltb v.index cells lt)
name_back_by cells ts t (Term-F.Node op args place) e below = name_at cells (position_or_len (same_term t) ts)

pub names_back : (cells : ℕ) (ts us : List Term) → All (λ u. All (λ i. i < cells) (vars_of u)) us → map (name_of_id cells) (map (id_among cells ts) us) ≡ map (name_among ts) us
names_back cells ts [] below = refl
names_back cells ts (u ∷ us) below =
    ap (λ n. n ∷ map (name_of_id cells) (map (id_among cells ts) us)) (name_back_by cells ts u (out-Term u) refl (All-head (λ u. All (λ i. i < cells) (vars_of u)) u us below))
    ∙ ap (λ ns. name_among ts u ∷ ns) (names_back cells ts us (All-tail (λ u. All (λ i. i < cells) (vars_of u)) u us below))

-- ---- the variables of the arguments
append_left : (P : ℕ → Type 0) (xs ys : List ℕ) → All P (xs ++ ys) → All P xs
append_left P [] ys all = All-nil P
append_left P (x ∷ xs) ys all = All-cons P x xs (All-head P x (xs ++ ys) all) (append_left P xs ys (All-tail P x (xs ++ ys) all))

append_right : (P : ℕ → Type 0) (xs ys : List ℕ) → All P (xs ++ ys) → All P ys
append_right P [] ys all = all
append_right P (x ∷ xs) ys all = append_right P xs ys (All-tail P x (xs ++ ys) all)

each_below : (P : ℕ → Type 0) (us : List Term) → All P (joined (map vars_of us)) → All (λ u. All P (vars_of u)) us
each_below P [] all = All-nil (λ u. All P (vars_of u))
each_below P (u ∷ us) all =
    All-cons (λ u. All P (vars_of u)) u us (append_left P (vars_of u) (joined (map vars_of us)) all) (each_below P us (append_right P (vars_of u) (joined (map vars_of us)) all))

pub args_below : (P : ℕ → Type 0) (t : Term) (op : Op) (args : Vec Term Global) (place : Place) → t ≡ Node op args place → All P (vars_of t) → All (λ u. All P (vars_of u)) args.items
args_below P t op args place e all =
    let vars : vars_of t ≡ joined (map vars_of args.items) = ap vars_of (e ∙ sym (rolls-Node op args place)) ∙ fold-roll-Term (List ℕ) vars_step (Term-F.Node op args place) in
    each_below P args.items (subst (All P) vars all)

-- ---- one name more
pub names_more : (f : ℕ → ℤ) (ids : List NodeId) (i : ℕ) (d : NodeId) (names next : List ℤ) (name : ℤ) → i < length ids → names ≡ map (λ id. f id.0) (take i ids) → name ≡ f (get_or ids i d).0 → next ≡ names ++ name ∷ [] →
    next ≡ map (λ id. f id.0) (take (i + 1) ids)
names_more f ids i d names next name lt e is more =
    more ∙ ap (λ n. names ++ n ∷ []) is ∙ ap (λ ns. ns ++ f (get_or ids i d).0 ∷ []) e ∙ sym (map_more (λ id. f id.0) ids i d lt)
