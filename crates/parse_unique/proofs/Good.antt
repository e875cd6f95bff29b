-- What it takes for an expression to be read back: its head and each of its rests put on the stack what it is without its pointers.
use Rattle.std.specs.Prelude.{ℕ, Bool, true, false, List, [], ◌∷◌, ◌++◌, Option, None, Some, ◌≡◌, ◌≤◌, refl}
use Rattle.std.proofs.Common.{◌∙◌, ap, arith, suc}
use Rattle.comet_syntax.specs.declared.tree.expressions.Name.{Name}
use Rattle.comet_syntax.specs.Grammar.Symbols.{Part, Symbol, branches, or_tail, and_tail, comparison_tail, range_tail, total_tail, product_tail, suffixes}
use Rattle.comet_syntax.specs.Written.Shown.{Shown, form, Grows}
use Rattle.comet_syntax.specs.Written.Expressions.{Head, by_name, misplaced, operand_head, Writing, from_whole, from_disjunction, from_conjunction, from_comparison, from_range, from_total, from_product, from_operand, from_primary, closed, whole, at_operand, at_product, at_total, at_range, at_comparison, at_conjunction, at_postfix}
use Rattle.parse_unique.specs.Bare.{Bare}
use Rattle.parse_unique.proofs.Values.{Value, nothing, tree, Stack, under, suffixed, behind, operand_of, part_step, valued, ends, ends_of}
use Rattle.parse_unique.proofs.Listings.{Fine, fine_map, fine_then, fine_as, Pushes, left_out}
use Rattle.parse_unique.proofs.Levels.{cong2, On, Starts, At, Steady, at_behind, astray, head_at, postfix_starts, on_is}

abbrev pub Level : ℕ → Grows → Head → Bare → Type 0
Level j r h b = (X : List Shown) → At j h (ends X) (r X) b (valued X)

-- a primary, behind which suffixes may stand
abbrev pub Primary : Option Grows → Head → Bare → Type 0
Primary None h b = Unit {0}
Primary (Some r) h b = ((X : List Shown) → ends X ≤ ends (r X)) × ((u : Grows) (t : Value) → Pushes u (t ∷ []) → (X : List Shown) → Starts (ends X) h (r (u X)) (suffixed b t) (valued X))

abbrev pub NameAlone : Bool → Head → Bare → Type 0
NameAlone false h b = Unit {0}
NameAlone true h b = (n : Name) × (h ≡ by_name n) × (b ≡ Bare.name n)

pub record Good (w : Writing) (b : Bare) : Type 0 where
  pub steady : Steady w.head
  pub alone : NameAlone w.is_name w.head b
  pub primary : Primary w.primary_rest w.head b
  pub rest_steady : (X : List Shown) → ends X ≤ ends (w.operand_rest X)
  pub operand : Level 0 w.operand_rest w.head b
  pub product : Level 1 w.product_rest w.head b
  pub total : Level 2 w.total_rest w.head b
  pub range : Level 3 w.range_rest w.head b
  pub comparison : Level 4 w.comparison_rest w.head b
  pub conjunction : Level 5 w.conjunction_rest w.head b
  pub disjunction : Level 6 w.disjunction_rest w.head b
  pub whole : Level 7 w.whole_rest w.head b

lost : (X : List Shown) → ends X ≤ ends (misplaced X)
lost X = omega arith

pub good_whole : (h : Head) (r : Grows) (b : Bare) → Steady h → Level 7 r h b → Good (from_whole h r) b
good_whole h r b st l =
    record {
      steady = st;
      alone = tt;
      primary = tt;
      rest_steady = lost;
      operand = λ X. astray 0 h b st X (valued X);
      product = λ X. astray 1 h b st X (valued X);
      total = λ X. astray 2 h b st X (valued X);
      range = λ X. astray 3 h b st X (valued X);
      comparison = λ X. astray 4 h b st X (valued X);
      conjunction = λ X. astray 5 h b st X (valued X);
      disjunction = λ X. astray 6 h b st X (valued X);
      whole = l;
    }

pub good_disjunction : (h : Head) (r : Grows) (b : Bare) → Steady h → Level 6 r h b → Good (from_disjunction h r) b
good_disjunction h r b st l =
    let g = good_whole h (closed branches r) b st (λ X. (b, nothing, l (form branches [] ∷ X), refl)) in
    record {
      steady = st;
      alone = tt;
      primary = tt;
      rest_steady = lost;
      operand = λ X. astray 0 h b st X (valued X);
      product = λ X. astray 1 h b st X (valued X);
      total = λ X. astray 2 h b st X (valued X);
      range = λ X. astray 3 h b st X (valued X);
      comparison = λ X. astray 4 h b st X (valued X);
      conjunction = λ X. astray 5 h b st X (valued X);
      disjunction = l;
      whole = g.whole;
    }

pub good_conjunction : (h : Head) (r : Grows) (b : Bare) → Steady h → Level 5 r h b → Good (from_conjunction h r) b
good_conjunction h r b st l =
    let g = good_disjunction h (closed or_tail r) b st (λ X. (b, nothing, l (form or_tail [] ∷ X), refl)) in
    record {
      steady = st;
      alone = tt;
      primary = tt;
      rest_steady = lost;
      operand = λ X. astray 0 h b st X (valued X);
      product = λ X. astray 1 h b st X (valued X);
      total = λ X. astray 2 h b st X (valued X);
      range = λ X. astray 3 h b st X (valued X);
      comparison = λ X. astray 4 h b st X (valued X);
      conjunction = l;
      disjunction = g.disjunction;
      whole = g.whole;
    }

pub good_comparison : (h : Head) (r : Grows) (b : Bare) → Steady h → Level 4 r h b → Good (from_comparison h r) b
good_comparison h r b st l =
    let g = good_conjunction h (closed and_tail r) b st (λ X. (b, nothing, l (form and_tail [] ∷ X), refl)) in
    record {
      steady = st;
      alone = tt;
      primary = tt;
      rest_steady = lost;
      operand = λ X. astray 0 h b st X (valued X);
      product = λ X. astray 1 h b st X (valued X);
      total = λ X. astray 2 h b st X (valued X);
      range = λ X. astray 3 h b st X (valued X);
      comparison = l;
      conjunction = g.conjunction;
      disjunction = g.disjunction;
      whole = g.whole;
    }

pub good_range : (h : Head) (r : Grows) (b : Bare) → Steady h → Level 3 r h b → Good (from_range h r) b
good_range h r b st l =
    let g = good_comparison h (closed comparison_tail r) b st (λ X. (b, nothing, l (form comparison_tail [] ∷ X), refl)) in
    record {
      steady = st;
      alone = tt;
      primary = tt;
      rest_steady = lost;
      operand = λ X. astray 0 h b st X (valued X);
      product = λ X. astray 1 h b st X (valued X);
      total = λ X. astray 2 h b st X (valued X);
      range = l;
      comparison = g.comparison;
      conjunction = g.conjunction;
      disjunction = g.disjunction;
      whole = g.whole;
    }

pub good_total : (h : Head) (r : Grows) (b : Bare) → Steady h → Level 2 r h b → Good (from_total h r) b
good_total h r b st l =
    let g = good_range h (closed range_tail r) b st (λ X. (b, nothing, l (form range_tail [] ∷ X), refl)) in
    record {
      steady = st;
      alone = tt;
      primary = tt;
      rest_steady = lost;
      operand = λ X. astray 0 h b st X (valued X);
      product = λ X. astray 1 h b st X (valued X);
      total = l;
      range = g.range;
      comparison = g.comparison;
      conjunction = g.conjunction;
      disjunction = g.disjunction;
      whole = g.whole;
    }

pub good_product : (h : Head) (r : Grows) (b : Bare) → Steady h → Level 1 r h b → Good (from_product h r) b
good_product h r b st l =
    let g = good_total h (closed total_tail r) b st (λ X. (b, nothing, l (form total_tail [] ∷ X), refl)) in
    record {
      steady = st;
      alone = tt;
      primary = tt;
      rest_steady = lost;
      operand = λ X. astray 0 h b st X (valued X);
      product = l;
      total = g.total;
      range = g.range;
      comparison = g.comparison;
      conjunction = g.conjunction;
      disjunction = g.disjunction;
      whole = g.whole;
    }

pub good_operand : (h : Head) (r : Grows) (b : Bare) → Steady h → ((X : List Shown) → ends X ≤ ends (r X)) → Level 0 r h b → Good (from_operand h r) b
good_operand h r b st rs l =
    let g = good_product h (closed product_tail r) b st (λ X. (b, nothing, l (form product_tail [] ∷ X), refl)) in
    record {
      steady = st;
      alone = tt;
      primary = tt;
      rest_steady = rs;
      operand = l;
      product = g.product;
      total = g.total;
      range = g.range;
      comparison = g.comparison;
      conjunction = g.conjunction;
      disjunction = g.disjunction;
      whole = g.whole;
    }

pub good_primary : (h : Head) (r : Grows) (b : Bare) → Steady h → Primary (Some r) h b → Good (from_primary h r) b
good_primary h r b st p =
    let g = good_operand h (closed suffixes r) b st (λ X. p.0 (form suffixes [] ∷ X)) (λ X. p.1 (λ Y. form suffixes [] ∷ Y) nothing (left_out suffixes nothing (λ k. refl) (λ s. refl)) X) in
    record {
      steady = st;
      alone = tt;
      primary = p;
      rest_steady = g.rest_steady;
      operand = g.operand;
      product = g.product;
      total = g.total;
      range = g.range;
      comparison = g.comparison;
      conjunction = g.conjunction;
      disjunction = g.disjunction;
      whole = g.whole;
    }

-- what is put behind goes on with a level
pub level_then : (j : ℕ) (r : Grows) (h : Head) (b : Bare) (u : Grows) (t : Value) → Level j r h b → Pushes u (t ∷ []) → Level (suc j) (λ X. r (u X)) h (behind t b)
level_then j r h b u t l p = λ X. (b, t, at_behind j h (r (u X)) b (t ∷ valued X) (valued (u X)) (p.push X) (l (u X)), refl)

-- what puts an operand there, and what stands behind it at so many levels
pub record Puts (j : ℕ) (w : Grows) (b : Bare) : Type 0 where
  pub put : (X : List Shown) → Fine (ends X) (ends (w X)) (On j (valued (w X)) b (valued X))

put_level : (j : ℕ) (r : Grows) (h : Head) (b : Bare) → Level j r h b → Puts j (λ X. operand_head h (r X)) b
put_level j r h b l = record { put = λ X. head_at j (ends X) h (r X) b (valued X) (l X) }

pub put_operand : {w : Writing} {b : Bare} → Good w b → Pushes (at_operand w) (tree b ∷ [])
put_operand {w = w} {b = b} g = record { push = λ X. head_at 0 (ends X) w.head (w.operand_rest X) b (valued X) (g.operand X) }

pub put_operand_0 : {w : Writing} {b : Bare} → Good w b → Puts 0 (at_operand w) b
put_operand_0 {w = w} {b = b} g = put_level 0 w.operand_rest w.head b g.operand

pub put_product : {w : Writing} {b : Bare} → Good w b → Puts 1 (at_product w) b
put_product {w = w} {b = b} g = put_level 1 w.product_rest w.head b g.product

pub put_total : {w : Writing} {b : Bare} → Good w b → Puts 2 (at_total w) b
put_total {w = w} {b = b} g = put_level 2 w.total_rest w.head b g.total

pub put_range : {w : Writing} {b : Bare} → Good w b → Puts 3 (at_range w) b
put_range {w = w} {b = b} g = put_level 3 w.range_rest w.head b g.range

pub put_comparison : {w : Writing} {b : Bare} → Good w b → Puts 4 (at_comparison w) b
put_comparison {w = w} {b = b} g = put_level 4 w.comparison_rest w.head b g.comparison

pub put_conjunction : {w : Writing} {b : Bare} → Good w b → Puts 5 (at_conjunction w) b
put_conjunction {w = w} {b = b} g = put_level 5 w.conjunction_rest w.head b g.conjunction

pub put_whole : {w : Writing} {b : Bare} → Good w b → Pushes (whole w) (tree b ∷ [])
put_whole {w = w} {b = b} g = record {
  push = λ X. fine_map (λ o. let i = on_is 7 (valued (operand_head w.head (w.whole_rest X))) b (valued X) o in cong2 (λ c z. tree c ∷ z) i.0 i.1)
      (head_at 7 (ends X) w.head (w.whole_rest X) b (valued X) (g.whole X));
}

pub put_postfix : {w : Writing} {b : Bare} → Good w b → Pushes (at_postfix w) (tree b ∷ [])
put_postfix {w = w} {b = b} g = record {
  push = λ X. postfix_starts (ends X) w.head (w.operand_rest X) b (valued X) g.steady (g.rest_steady X) (g.operand X);
}

-- a form that ends so
pub formed_on : (n : Part) (f : List Symbol) (v : Value) (j : ℕ) (b : Bare) → ((k : ℕ) → ends_of n f k ≡ k) → {w : Grows} {vs : Stack} → Pushes w vs → {u : Grows} → Puts j u b
    → ((s z : Stack) → operand_of j s ≡ b → under (suc j) s ≡ z → part_step n f (vs ++ s) ≡ v ∷ z) → Pushes (λ X. form n f ∷ w (u X)) (v ∷ [])
formed_on n f v j b e {w} {vs} p {u} q d = record {
  push = λ X. fine_as (e (ends (w (u X)))) (λ x. x) (fine_then (q.put X) (p.push (u X)) (λ o c. let i = on_is j (valued (u X)) b (valued X) o in
      ap (part_step n f) c ∙ d (valued (u X)) (valued X) i.0 i.1));
}
