-- One code more, or one that is there, for a term whose arguments stand among the others; and so for all that is
-- below a term.
use Rattle.std.proofs.Common.{◌≡◌, ◌⊎◌, inl, inr, ℕ, ℤ, pos, negsuc, zero, suc, ◌+◌, ◌<◌, ◌≤◌, Bool, true, false, cond, ◌||◌, List, [], ◌∷◌, ◌++◌, Some, Vec, Global, fold, map, length, take, get_or, refl, sym, ap, ◌∙◌, subst, slice_get}
use Rattle.std.specs.Prelude.{if◌then◌else◌, not}
use Rattle.std.specs.List.{list_all, list_any, position_or_len}
use Rattle.std.specs.Ordering.{int_eq}
use Rattle.std.proofs.lemmas.List.{append-nil, append_assoc, take_all, take_more}
use Rattle.std.proofs.lemmas.List.Sums.{fold-append}
use lib.Pointwise.{pointwise}
use Rattle.cbl_base.specs.declared.ids.VarId.{VarId}
use Rattle.cbl_base.specs.declared.place.Place.{Place}
use Rattle.cbl_operations.specs.declared.op.Op.{Op}
use Rattle.term_model.specs.SameTerms.{same_term}
use Rattle.term_model.specs.Subterms.{arguments_of, joined_terms, subterms, with_subterm}
use Rattle.term_model.specs.declared.term.Term.{Term}
use Rattle.term_model.specs.declared.term.Term.TheOpen.{Term-F}
use Rattle.term_model.specs.declared.term.Term.TheViews.{Node, out-Term, out-roll-Term, roll-Term}
use Rattle.term_model.specs.declared.term.Term.TheVariants.{Const, ConstSet, Var, rolls-Const, rolls-ConstSet, rolls-Node, rolls-Var}
use Rattle.term_model.proofs.EqualTerms.{same_term_equiv}
use Rattle.term_model.proofs.NamingLaws.{last_or}
use Rattle.term_model.proofs.SubtermLaws.{subterms_node, subterms_roll}
use Rattle.term_count.specs.Codes.{IsNode, code_among, code_by, is_known, is_known_by, name_among, name_by, operation_code}
use Rattle.term_count.specs.Numbering.{Adds, AddsAll, IsNumbered, listed, terms_after, terms_after_all, with_code}
use Rattle.term_count.proofs.CodeLaws.{code_test}
use Rattle.term_count.proofs.PlaceLaws.{all_known_front, and_parts, any_last, both, names_front, position_last, same_any, same_position}

-- ---- lists
any_map : {X Y : Type 0} (p : Y → Bool) (f : X → Y) (xs : List X) → list_any p (map f xs) ≡ list_any (λ x. p (f x)) xs
any_map p f [] = refl
any_map p f (x ∷ xs) = ap (λ b. p (f x) || b) (any_map p f xs)

position_map : {X Y : Type 0} (p : Y → Bool) (f : X → Y) (xs : List X) → position_or_len p (map f xs) ≡ position_or_len (λ x. p (f x)) xs
position_map p f [] = refl
position_map p f (x ∷ xs) = ap (λ n. cond (not (p (f x))) (1 + n) 0) (position_map p f xs)

pub map_push : {X Y : Type 0} (f : X → Y) (xs : List X) (x : X) → map f (xs ++ x ∷ []) ≡ map f xs ++ f x ∷ []
map_push f [] x = refl
map_push f (y ∷ xs) x = ap (λ ys. f y ∷ ys) (map_push f xs x)

pub joined_push : (tss : List (List Term)) (ts : List Term) → joined_terms (tss ++ ts ∷ []) ≡ joined_terms tss ++ ts
joined_push [] ts = append-nil ts
joined_push (us ∷ tss) ts = ap (λ vs. us ++ vs) (joined_push tss ts) ∙ sym (append_assoc us (joined_terms tss) ts)

-- ---- terms that are added go behind the others
pub with_grows : (ts : List Term) (t : Term) → (more : List Term) × (with_subterm ts t ≡ ts ++ more)
with_grows ts t = cases (list_any (same_term t) ts) refl
  where
    cases : (b : Bool) → list_any (same_term t) ts ≡ b → (more : List Term) × (with_subterm ts t ≡ ts ++ more)
    cases true e = ([], ap (λ b. if b then ts else ts ++ t ∷ []) e ∙ sym (append-nil ts))
    cases false e = (t ∷ [], ap (λ b. if b then ts else ts ++ t ∷ []) e)

pub fold_grows : (ts us : List Term) → (more : List Term) × (fold with_subterm ts us ≡ ts ++ more)
fold_grows ts [] = ([], sym (append-nil ts))
fold_grows ts (u ∷ us) =
    let one = with_grows ts u in
    let rest = fold_grows (with_subterm ts u) us in
    (one.0 ++ rest.0, rest.1 ∙ ap (λ vs. vs ++ rest.0) one.1 ∙ append_assoc ts one.0 rest.0)

-- ---- one code
code_front_by : (ts more : List Term) (y : Term-F Term) → list_all (is_known ts) (arguments_of y) ≡ true → code_by (ts ++ more) y ≡ code_by ts y
code_front_by ts more (Term-F.Const x) h = refl
code_front_by ts more (Term-F.ConstSet s) h = refl
code_front_by ts more (Term-F.Var v) h = refl
code_front_by ts more (Term-F.Node op args place) h = ap (λ ns. operation_code op ++ ns) (names_front ts more args.items h)

pub code_front : (ts more : List Term) (t : Term) → list_all (is_known ts) (arguments_of (out-Term t)) ≡ true → code_among (ts ++ more) t ≡ code_among ts t
code_front ts more t h = code_front_by ts more (out-Term t) h

codes_front : (ts more us : List Term) → ((i : ℕ) (u : Term) → slice_get us i ≡ Some u → list_all (is_known ts) (arguments_of (out-Term u)) ≡ true) → map (code_among (ts ++ more)) us ≡ map (code_among ts) us
codes_front ts more [] closed = refl
codes_front ts more (u ∷ us) closed =
    ap (λ c. c ∷ map (code_among (ts ++ more)) us) (code_front ts more u (closed zero u refl))
    ∙ ap (λ cs. code_among ts u ∷ cs) (codes_front ts more us (λ i v at. closed (suc i) v at))

pub name_of_node : (ts : List Term) (t : Term) (y : Term-F Term) → IsNode y → name_by ts t y ≡ pos (position_or_len (same_term t) ts)
name_of_node ts t (Term-F.Const x) own = refl
name_of_node ts t (Term-F.ConstSet s) own = refl
name_of_node ts t (Term-F.Var v) own = absurd own
name_of_node ts t (Term-F.Node op args place) own = refl

pub known_of_node : (ts : List Term) (t : Term) (y : Term-F Term) → IsNode y → is_known_by ts t y ≡ list_any (same_term t) ts
known_of_node ts t (Term-F.Const x) own = refl
known_of_node ts t (Term-F.ConstSet s) own = refl
known_of_node ts t (Term-F.Var v) own = absurd own
known_of_node ts t (Term-F.Node op args place) own = refl

-- what a term is kept as
pub record Keeps (after : List (List ℤ)) (ts : List Term) (t : Term) (name : ℤ) : Type 0 where
  pub numbered : IsNumbered after (with_subterm ts t)
  pub named : name ≡ name_among (with_subterm ts t) t
  pub known : is_known (with_subterm ts t) t ≡ true

module _ (codes after : List (List ℤ)) (ts : List Term) (t : Term) (code : List ℤ) (name : ℤ) (numbered : IsNumbered codes ts) (own : IsNode (out-Term t)) (args : list_all (is_known ts) (arguments_of (out-Term t)) ≡ true)
    (is : code ≡ code_among ts t) (next : after ≡ with_code codes code) (place : name ≡ pos (position_or_len (pointwise int_eq code) codes)) where
  pub code_there : list_any (pointwise int_eq code) codes ≡ list_any (same_term t) ts
  code_there =
      ap (λ c. list_any (pointwise int_eq c) codes) is ∙ ap (list_any (pointwise int_eq (code_among ts t))) numbered.same
      ∙ any_map (pointwise int_eq (code_among ts t)) (code_among ts) ts ∙ same_any (λ u. pointwise int_eq (code_among ts t) (code_among ts u)) (same_term t) (λ u. code_test ts t u own args) ts

  pub code_at : name ≡ pos (position_or_len (same_term t) ts)
  code_at =
      place ∙ ap (λ c. pos (position_or_len (pointwise int_eq c) codes)) is ∙ ap (λ cs. pos (position_or_len (pointwise int_eq (code_among ts t)) cs)) numbered.same
      ∙ ap pos (position_map (pointwise int_eq (code_among ts t)) (code_among ts) ts ∙ same_position (λ u. pointwise int_eq (code_among ts t) (code_among ts u)) (same_term t) (λ u. code_test ts t u own args) ts)

  kept_there : list_any (same_term t) ts ≡ true → Keeps after ts t name
  kept_there e =
      let terms : with_subterm ts t ≡ ts = ap (λ b. if b then ts else ts ++ t ∷ []) e in
      let codes' : after ≡ codes = next ∙ ap (λ b. if b then codes else codes ++ code ∷ []) (code_there ∙ e) in
      record {
        numbered = subst (λ us. IsNumbered after us) (sym terms) (subst (λ cs. IsNumbered cs ts) (sym codes') numbered);
        named = code_at ∙ sym (name_of_node ts t (out-Term t) own) ∙ ap (λ us. name_among us t) (sym terms);
        known = ap (λ us. is_known us t) terms ∙ known_of_node ts t (out-Term t) own ∙ e;
      }

  closed_more : (i : ℕ) (u : Term) → (slice_get ts i ≡ Some u) ⊎ ((i ≡ length ts) × (u ≡ t)) → list_all (is_known (ts ++ t ∷ [])) (arguments_of (out-Term u)) ≡ true
  closed_more i u (inl h) = all_known_front ts (t ∷ []) (arguments_of (out-Term u)) (numbered.closed i u h)
  closed_more i u (inr h) = ap (λ v. list_all (is_known (ts ++ t ∷ [])) (arguments_of (out-Term v))) h.1 ∙ all_known_front ts (t ∷ []) (arguments_of (out-Term t)) args

  kept_new : list_any (same_term t) ts ≡ false → Keeps after ts t name
  kept_new e =
      let terms : with_subterm ts t ≡ ts ++ t ∷ [] = ap (λ b. if b then ts else ts ++ t ∷ []) e in
      let codes' : after ≡ codes ++ code ∷ [] = next ∙ ap (λ b. if b then codes else codes ++ code ∷ []) (code_there ∙ e) in
      let itself : same_term t t ≡ true = same_term_equiv.refl t in
      let whole : IsNumbered after (ts ++ t ∷ []) = record {
        same = codes' ∙ ap (λ cs. cs ++ code ∷ []) (numbered.same ∙ sym (codes_front ts (t ∷ []) ts numbered.closed))
            ∙ ap (λ c. map (code_among (ts ++ t ∷ [])) ts ++ c ∷ []) (is ∙ sym (code_front ts (t ∷ []) t args)) ∙ sym (map_push (code_among (ts ++ t ∷ [])) ts t);
        closed = λ i u h. closed_more i u (last_or ts t i u h);
      } in
      record {
        numbered = subst (λ us. IsNumbered after us) (sym terms) whole;
        named = code_at ∙ ap pos (sym (position_last (same_term t) ts t e itself)) ∙ sym (name_of_node (ts ++ t ∷ []) t (out-Term t) own) ∙ ap (λ us. name_among us t) (sym terms);
        known = ap (λ us. is_known us t) terms ∙ known_of_node (ts ++ t ∷ []) t (out-Term t) own ∙ any_last (same_term t) ts t itself;
      }

  pub kept : Keeps after ts t name
  kept = cases (list_any (same_term t) ts) refl
    where
      cases : (b : Bool) → list_any (same_term t) ts ≡ b → Keeps after ts t name
      cases true e = kept_there e
      cases false e = kept_new e

-- ---- a term with all below it
added : (after : List (List ℤ)) (ts mid : List Term) (t : Term) (name : ℤ) → terms_after ts t ≡ with_subterm mid t → Keeps after mid t name → Adds after ts t name
added after ts mid t name e keeps = record {
  numbered = subst (IsNumbered after) (sym e) keeps.numbered;
  named = keeps.named ∙ ap (λ us. name_among us t) (sym e);
  known = ap (λ us. is_known us t) e ∙ keeps.known;
}

pub out_is : (t : Term) (y : Term-F Term) → t ≡ roll-Term y → out-Term t ≡ y
out_is t y e = ap out-Term e ∙ out-roll-Term y

-- which terms there are after one layer
pub number_below : (ts : List Term) (t : Term) (x : ℤ) → t ≡ Const x → terms_after ts t ≡ with_subterm ts t
number_below ts t x is =
    let whole : t ≡ roll-Term (Term-F.Const x) = is ∙ sym (rolls-Const x) in
    ap (fold with_subterm ts) (ap subterms whole ∙ subterms_roll (Term-F.Const x) ∙ ap (λ u. u ∷ []) (sym whole))

pub set_below : (ts : List Term) (t : Term) (s : List ℤ) → t ≡ ConstSet s → terms_after ts t ≡ with_subterm ts t
set_below ts t s is =
    let whole : t ≡ roll-Term (Term-F.ConstSet s) = is ∙ sym (rolls-ConstSet s) in
    ap (fold with_subterm ts) (ap subterms whole ∙ subterms_roll (Term-F.ConstSet s) ∙ ap (λ u. u ∷ []) (sym whole))

pub var_below : (ts : List Term) (t : Term) (v : VarId) → t ≡ Var v → terms_after ts t ≡ ts
var_below ts t v is = ap (fold with_subterm ts) (ap subterms (is ∙ sym (rolls-Var v)) ∙ subterms_roll (Term-F.Var v))

pub node_below : (ts : List Term) (t : Term) (op : Op) (args : Vec Term Global) (place : Place) → t ≡ Node op args place → terms_after ts t ≡ with_subterm (terms_after_all ts args.items) t
node_below ts t op args place is =
    ap (fold with_subterm ts) (subterms_node t op args place is) ∙ fold-append with_subterm ts (joined_terms (map subterms args.items)) (t ∷ [])

pub number_added : (codes after : List (List ℤ)) (ts : List Term) (t : Term) (x name : ℤ) (code : List ℤ) → t ≡ Const x → code ≡ negsuc 0 ∷ x ∷ [] → after ≡ with_code codes code → name ≡ pos (position_or_len (pointwise int_eq code) codes) →
    IsNumbered codes ts → Adds after ts t name
number_added codes after ts t x name code is made next place numbered =
    let out : out-Term t ≡ Term-F.Const x = out_is t (Term-F.Const x) (is ∙ sym (rolls-Const x)) in
    added after ts ts t name (number_below ts t x is)
    (kept codes after ts t code name numbered (subst IsNode (sym out) tt) (ap (λ y. list_all (is_known ts) (arguments_of y)) out) (made ∙ sym (ap (code_by ts) out)) next place)

pub set_added : (codes after : List (List ℤ)) (ts : List Term) (t : Term) (s : List ℤ) (name : ℤ) (code : List ℤ) → t ≡ ConstSet s → code ≡ negsuc 1 ∷ s → after ≡ with_code codes code → name ≡ pos (position_or_len (pointwise int_eq code) codes) →
    IsNumbered codes ts → Adds after ts t name
set_added codes after ts t s name code is made next place numbered =
    let out : out-Term t ≡ Term-F.ConstSet s = out_is t (Term-F.ConstSet s) (is ∙ sym (rolls-ConstSet s)) in
    added after ts ts t name (set_below ts t s is)
    (kept codes after ts t code name numbered (subst IsNode (sym out) tt) (ap (λ y. list_all (is_known ts) (arguments_of y)) out) (made ∙ sym (ap (code_by ts) out)) next place)

pub var_added : (codes : List (List ℤ)) (ts : List Term) (t : Term) (v : VarId) (name : ℤ) → t ≡ Var v → name ≡ negsuc v.index → IsNumbered codes ts → Adds codes ts t name
var_added codes ts t v name is named numbered =
    let out : out-Term t ≡ Term-F.Var v = out_is t (Term-F.Var v) (is ∙ sym (rolls-Var v)) in
    let terms : terms_after ts t ≡ ts = var_below ts t v is in
    record {
      numbered = subst (IsNumbered codes) (sym terms) numbered;
      named = named ∙ sym (ap (name_by (terms_after ts t) t) out);
      known = ap (is_known_by (terms_after ts t) t) out;
    }

pub node_added : (codes after : List (List ℤ)) (ts : List Term) (t : Term) (op : Op) (args : Vec Term Global) (place : Place) (items : List Term) (names code : List ℤ) (i : ℕ) (name : ℤ) → t ≡ Node op args place → items ≡ args.items → length items ≤ i →
    AddsAll codes ts (take i items) names → code ≡ operation_code op ++ names → after ≡ with_code codes code → name ≡ pos (position_or_len (pointwise int_eq code) codes) → Adds after ts t name
node_added codes after ts t op args place items names code i name is same le all made next at =
    let out : out-Term t ≡ Term-F.Node op args place = out_is t (Term-F.Node op args place) (is ∙ sym (rolls-Node op args place)) in
    let arguments : take i items ≡ args.items = take_all i items le ∙ same in
    let all' : AddsAll codes ts args.items names = subst (λ us. AddsAll codes ts us names) arguments all in
    let mid = terms_after_all ts args.items in
    added after ts mid t name (node_below ts t op args place is)
    (kept codes after mid t code name all'.numbered (subst IsNode (sym out) tt) (ap (λ y. list_all (is_known mid) (arguments_of y)) out ∙ all'.known)
    (made ∙ ap (λ ns. operation_code op ++ ns) all'.named ∙ sym (ap (code_by mid) out)) next at)

-- ---- the arguments one after another
pub none_added : (codes : List (List ℤ)) (ts : List Term) (items : List Term) → IsNumbered codes ts → AddsAll codes ts (take 0 items) []
none_added codes ts items numbered = record { numbered = numbered; named = refl; known = refl }

pub after_push : (ts us : List Term) (u : Term) → terms_after_all ts (us ++ u ∷ []) ≡ terms_after (terms_after_all ts us) u
after_push ts us u =
    ap (λ vs. fold with_subterm ts (joined_terms vs)) (map_push subterms us u) ∙ ap (fold with_subterm ts) (joined_push (map subterms us) (subterms u))
    ∙ fold-append with_subterm ts (joined_terms (map subterms us)) (subterms u)

pub all_push : (p : Term → Bool) (us : List Term) (u : Term) → list_all p us ≡ true → p u ≡ true → list_all p (us ++ u ∷ []) ≡ true
all_push p [] u all one = both (p u) true one refl
all_push p (v ∷ us) u all one =
    let parts = and_parts (p v) (list_all p us) all in
    both (p v) (list_all p (us ++ u ∷ [])) parts.0 (all_push p us u parts.1 one)

pushed : (codes after : List (List ℤ)) (ts us : List Term) (u : Term) (names next : List ℤ) (name : ℤ) → AddsAll codes ts us names → Adds after (terms_after_all ts us) u name → next ≡ names ++ name ∷ [] → AddsAll after ts (us ++ u ∷ []) next
pushed codes after ts us u names next name all one e =
    let mid = terms_after_all ts us in
    let grows = fold_grows mid (subterms u) in
    let whole : terms_after_all ts (us ++ u ∷ []) ≡ terms_after mid u = after_push ts us u in
    let front : terms_after mid u ≡ mid ++ grows.0 = grows.1 in
    let known : list_all (is_known (terms_after mid u)) us ≡ true = ap (λ vs. list_all (is_known vs) us) front ∙ all_known_front mid grows.0 us all.known in
    let names' : map (name_among (terms_after mid u)) us ≡ names = ap (λ vs. map (name_among vs) us) front ∙ names_front mid grows.0 us all.known ∙ sym all.named in
    record {
      numbered = subst (IsNumbered after) (sym whole) one.numbered;
      named = e ∙ ap (λ ns. ns ++ name ∷ []) (sym names') ∙ ap (λ n. map (name_among (terms_after mid u)) us ++ n ∷ []) one.named
          ∙ sym (map_push (name_among (terms_after mid u)) us u) ∙ ap (λ vs. map (name_among vs) (us ++ u ∷ [])) (sym whole);
      known = ap (λ vs. list_all (is_known vs) (us ++ u ∷ [])) whole ∙ all_push (is_known (terms_after mid u)) us u known one.known;
    }

pub take_push : {X : Type 0} (xs : List X) (i : ℕ) (x : X) → i < length xs → x ≡ get_or xs i x → take (i + 1) xs ≡ take i xs ++ x ∷ []
take_push xs i x lt is = take_more xs i x lt ∙ ap (λ y. take i xs ++ y ∷ []) (sym is)

pub one_added : (codes after : List (List ℤ)) (ts items : List Term) (i : ℕ) (u : Term) (names next : List ℤ) (name : ℤ) → i < length items → u ≡ get_or items i u → AddsAll codes ts (take i items) names →
    ((us : List Term) → IsNumbered codes us → Adds after us u name) → next ≡ names ++ name ∷ [] → AddsAll after ts (take (i + 1) items) next
one_added codes after ts items i u names next name lt is all one e =
    subst (λ us. AddsAll after ts us next) (sym (take_push items i u lt is))
    (pushed codes after ts (take i items) u names next name all (one (terms_after_all ts (take i items)) all.numbered) e)

-- ---- codes in `Vec`s
listed_any : (p : List ℤ → Bool) (keys : List (Vec ℤ Global)) → list_any (λ v. p v.items) keys ≡ list_any p (listed keys)
listed_any p keys = sym (any_map p (λ v. v.items) keys)

pub listed_with : (code : Vec ℤ Global) (keys after : List (Vec ℤ Global)) → after ≡ (if list_any (λ v. pointwise int_eq code.items v.items) keys then keys else keys ++ code ∷ []) → listed after ≡ with_code (listed keys) code.items
listed_with code keys after e = cases (list_any (λ v. pointwise int_eq code.items v.items) keys) refl
  where
    cases : (b : Bool) → list_any (λ v. pointwise int_eq code.items v.items) keys ≡ b → listed after ≡ with_code (listed keys) code.items
    cases true h =
        ap listed (e ∙ ap (λ b. if b then keys else keys ++ code ∷ []) h)
        ∙ sym (ap (λ b. if b then listed keys else listed keys ++ code.items ∷ []) (sym (listed_any (pointwise int_eq code.items) keys) ∙ h))
    cases false h =
        ap listed (e ∙ ap (λ b. if b then keys else keys ++ code ∷ []) h) ∙ map_push (λ (v : Vec ℤ Global). v.items) keys code
        ∙ sym (ap (λ b. if b then listed keys else listed keys ++ code.items ∷ []) (sym (listed_any (pointwise int_eq code.items) keys) ∙ h))

pub listed_place : (code : Vec ℤ Global) (keys : List (Vec ℤ Global)) (place : ℕ) → place ≡ position_or_len (λ v. pointwise int_eq code.items v.items) keys → place ≡ position_or_len (pointwise int_eq code.items) (listed keys)
listed_place code keys place e = e ∙ sym (position_map (pointwise int_eq code.items) (λ v. v.items) keys)
