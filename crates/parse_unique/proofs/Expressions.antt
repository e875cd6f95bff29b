-- Each kind of expression is read back, where its parts are.
use Rattle.std.specs.Prelude.{ℕ, ℤ, Bool, true, false, List, [], ◌∷◌, Option, None, Some, ◌≡◌, ◌≤◌, refl}
use Rattle.std.proofs.Common.{◌∙◌, ap, subst, arith, zero, suc}
use Rattle.cbl_base.specs.declared.place.Place.{Place}
use Rattle.comet_syntax.specs.declared.token.TokenKind.TheVariants as kinds
use Rattle.comet_syntax.specs.declared.token.Word.{Word}
use Rattle.comet_syntax.specs.declared.token.Word.TheVariants as words
use Rattle.comet_syntax.specs.declared.tree.expressions.Name.{Name}
use Rattle.comet_syntax.specs.declared.tree.expressions.ChainOperator.{ChainOperator}
use Rattle.comet_syntax.specs.declared.tree.expressions.ChainOperator.TheVariants as chains
use Rattle.comet_syntax.specs.declared.tree.expressions.Comparison.{Comparison}
use Rattle.comet_syntax.specs.declared.tree.expressions.Comparison.TheVariants as comparisons
use Rattle.comet_syntax.specs.declared.tree.expressions.UnaryOperator.{UnaryOperator}
use Rattle.comet_syntax.specs.declared.tree.expressions.UnaryOperator.TheVariants as unaries
use Rattle.comet_syntax.specs.declared.tree.expressions.Extreme.{Extreme}
use Rattle.comet_syntax.specs.declared.tree.expressions.Extreme.TheVariants as extremes
use Rattle.comet_syntax.specs.declared.tree.expressions.Aggregate.{Aggregate}
use Rattle.comet_syntax.specs.declared.tree.expressions.Aggregate.TheVariants as aggregates
use Rattle.comet_syntax.specs.Grammar.Symbols.{Part, Symbol, branches, or_tail, and_tail, comparison_tail, range_tail, total_tail, product_tail, unnamed, pair, pair_named, literal, called, suffixes, second, arguments, listed, arguments_tail, argument, generators, generators_tail, condition, generator, first_name}
use Rattle.comet_syntax.specs.Grammar.Expressions.{branches_question, or_tail_or_or, and_tail_and_and, range_tail_dot_dot, total_tail_plus, total_tail_minus, product_tail_star, product_tail_slash, product_tail_percent, unnamed_minus, unnamed_exclamation, unnamed_sum, unnamed_all, unnamed_and, unnamed_or, unnamed_set_of, unnamed_arg_min, unnamed_arg_max, pair_first_name, pair_named_in, literal_number, literal_true, literal_false, literal_left_parenthesis, literal_left_bracket, called_left_parenthesis, suffixes_left_bracket, suffixes_dot, second_comma, arguments_listed, listed_argument, arguments_tail_comma, argument_expression, argument_string}
use Rattle.comet_syntax.specs.Grammar.Statements.{generators_generator, generators_tail_comma, condition_colon, generator_name, first_name_name}
use Rattle.comet_syntax.specs.Written.Shown.{Shown, form, plain, placed, Grows, each, word, mark, name}
use Rattle.comet_syntax.specs.Written.Expressions.{by_literal, by_brace, by_extreme, by_other, Head, by_name, by_opening, misplaced, operand_head, pair_head, Writing, from_operand, whole, unwritten, at_product, link, LinkText, chain, chain_by, compared, comparison_form, comparison, up_to, range_of, chosen, conditional, GeneratorText, GeneratorsText, more_argument, listed_text, arguments_text, generator_text, more_generator, condition_text, generators_behind, all_generators, generators_text, plain_aggregate, extreme_aggregate, aggregate, unary, by_form, number, truth, name_alone, parenthesized, call_of, two_apart, two_in_pair, extreme_of, parentheses, list_of, set_of, postfix_by, word_of_extreme, unnamed_extreme, word_of_comparison}
use Rattle.parse_unique.specs.Bare as bares
use Rattle.parse_unique.specs.Bare.{Bare}
use Rattle.parse_unique.proofs.Values.{Value, sign, marked, nothing, tree, tail, of_extreme, of_first, by_its_extreme, Stack, top_of, below, under, at, bare_in, list_in, option_in, named, suffixed, after, operand_of, is_sign, is_tree, by_first, name_in, choice, pair_in, pair_called, unnamed_pair, least_or_greatest, part_step, valued, ends, ends_of}
use Rattle.parse_unique.proofs.Listings.{Fine, more_ends, fine_le, fine_map, fine_then, fine_as, Pushes, steady, ◌⊳◌, signs, marks, names, shows, formed, left_out, Conses, formed_cons, EachOf, none, and_one, rest_of, list_rest, rests}
use Rattle.parse_unique.proofs.Levels.{cong2, On, OnName, Starts, At, Steady, at_behind, astray, head_at, on_is, on_top, on_name_is}
use Rattle.parse_unique.proofs.Good.{Primary, Good, good_whole, good_disjunction, good_conjunction, good_comparison, good_range, good_total, good_product, good_operand, good_primary, level_then, Puts, put_operand, put_operand_0, put_product, put_total, put_range, put_comparison, put_conjunction, put_whole, formed_on}

pub misplaced_pushes : (vs : Stack) → Pushes misplaced vs
misplaced_pushes vs = record { push = λ X. more_ends (omega arith) }

pub each_map : {A : Type 0} {P Q : A → Bare → Type 0} → ((x : A) (b : Bare) → P x b → Q x b) → {xs : List A} {bs : List Bare} → EachOf P xs bs → EachOf Q xs bs
each_map f none = none
each_map f (and_one {x} {b} p ps) = and_one (f x b p) (each_map f ps)

-- arguments
abbrev pub IsTree : Grows → Bare → Type 0
IsTree w b = Pushes w (tree b ∷ [])

pub argument_expression_puts : {w : Writing} {b : Bare} → Good w b → Pushes (λ X. form argument argument_expression ∷ whole w X) (tree (Bare.value b) ∷ [])
argument_expression_puts {b = b} g = formed argument argument_expression (tree (Bare.value b)) (λ k. refl) (put_whole g) (λ s. refl)

pub argument_string_puts : (t : List ℕ) → Pushes (λ X. form argument argument_string ∷ plain (kinds.Str t) ∷ X) (tree (Bare.text t) ∷ [])
argument_string_puts t = formed argument argument_string (tree (Bare.text t)) (λ k. refl) (shows (plain (kinds.Str t)) (sign (kinds.Str t)) (λ X. refl) (λ X. refl)) (λ s. refl)

pub listed_puts : {a : List Grows} {bs : List Bare} → EachOf IsTree a bs → Pushes (listed_text a) (tree (bares.listed bs) ∷ [])
listed_puts none = misplaced_pushes (tree Bare.no_more ∷ [])
listed_puts (and_one {b = b} {bs = bs} p ps) =
    formed listed listed_argument (tree (Bare.more b (bares.listed bs))) (λ k. refl)
    (p ⊳ rests more_argument (each_map (λ x c q. formed_cons arguments_tail arguments_tail_comma c (λ k. refl) (signs words.Comma ⊳ q) (λ l s. refl)) ps) (λ X. form arguments_tail [] ∷ X)
    (left_out arguments_tail nothing (λ k. refl) (λ s. refl)))
    (λ s. ap (λ z. tree (Bare.more b z) ∷ s) (list_rest bs))

pub arguments_puts : {a : List Grows} {bs : List Bare} → EachOf IsTree a bs → Pushes (arguments_text a) (tree (bares.listed bs) ∷ [])
arguments_puts none = left_out arguments (tree Bare.no_more) (λ k. refl) (λ s. refl)
arguments_puts (and_one {b = b} {bs = bs} p ps) = formed arguments arguments_listed (tree (Bare.more b (bares.listed bs))) (λ k. refl) (listed_puts (and_one p ps)) (λ s. refl)

pub parenthesized_puts : {a : List Grows} {bs : List Bare} → EachOf IsTree a bs
    → Pushes (parenthesized a) (sign (kinds.Word words.LeftParenthesis) ∷ tree (bares.listed bs) ∷ sign (kinds.Word words.RightParenthesis) ∷ [])
parenthesized_puts ps = signs words.LeftParenthesis ⊳ (arguments_puts ps ⊳ signs words.RightParenthesis)

-- primaries
by_text : {text : Grows} (b : Bare) → Pushes text (tree b ∷ []) → Good (by_form text) b
by_text {text} b p = good_primary (by_opening (by_literal text)) (λ X. X) b (steady p)
    ((λ X. omega arith), λ u t q X. fine_then (q.push X) (p.push (u X)) (λ e d. (b, t, d ∙ ap (λ z. tree b ∷ z) e, refl)))

pub good_number : (n : ℤ) (p : Place) → Good (number n p) (Bare.number n p)
good_number n p = by_text (Bare.number n p) (formed literal literal_number (tree (Bare.number n p)) (λ k. refl)
    (shows (placed (kinds.Number n) p) (marked (kinds.Number n) p) (λ X. refl) (λ X. refl)) (λ s. refl))

pub good_truth : (b : Bool) (p : Place) → Good (truth b p) (Bare.truth b p)
good_truth true p = by_text (Bare.truth true p) (formed literal literal_true (tree (Bare.truth true p)) (λ k. refl) (marks words.True p) (λ s. refl))
good_truth false p = by_text (Bare.truth false p) (formed literal literal_false (tree (Bare.truth false p)) (λ k. refl) (marks words.False p) (λ s. refl))

pub good_parentheses : {w : Writing} {b : Bare} (p : Place) → Good w b → Good (parentheses p w) (Bare.parentheses p b)
good_parentheses {b = b} p g = by_text (Bare.parentheses p b) (formed literal literal_left_parenthesis (tree (Bare.parentheses p b)) (λ k. refl)
    (marks words.LeftParenthesis p ⊳ (put_whole g ⊳ signs words.RightParenthesis)) (λ s. refl))

pub good_list : {a : List Grows} {bs : List Bare} (p : Place) → EachOf IsTree a bs → Good (list_of p a) (Bare.list p (bares.listed bs))
good_list {bs = bs} p ps = by_text (Bare.list p (bares.listed bs)) (formed literal literal_left_bracket (tree (Bare.list p (bares.listed bs))) (λ k. refl)
    (marks words.LeftBracket p ⊳ (listed_puts ps ⊳ signs words.RightBracket)) (λ s. refl))

pub good_set : {a : List Grows} {bs : List Bare} (p : Place) → EachOf IsTree a bs → Good (set_of p a) (Bare.set p (bares.listed bs))
good_set {a} {bs} p ps =
    let q = listed_puts ps ⊳ signs words.RightBrace in
    good_primary (by_opening (by_brace p (λ X. listed_text a (word words.RightBrace X)))) (λ X. X) (Bare.set p (bares.listed bs)) (steady q)
    ((λ X. omega arith), λ u t r X. fine_map (λ e. (bares.listed bs, sign (kinds.Word words.RightBrace), t, e, refl)) ((q ⊳ r).push X))

by_its_name : (n : Name) (r : Grows) (c : Value) (b : Bare) → Pushes r (c ∷ []) → (named n c ≡ b) → (is_sign c ≡ false) → Primary (Some r) (by_name n) b
by_its_name n r c b p e d = (steady p, λ u t q X. fine_map (λ i. (c, t, i, ap (λ x. suffixed x t) e, d)) ((p ⊳ q).push X))

pub good_name : (n : Name) → Good (name_alone n) (Bare.name n)
good_name n =
    let g = good_primary (by_name n) (λ X. form called [] ∷ X) (Bare.name n) tt (by_its_name n (λ X. form called [] ∷ X) nothing (Bare.name n) (left_out called nothing (λ k. refl) (λ s. refl)) refl refl) in
    record {
      steady = g.steady;
      alone = (n, refl, refl);
      primary = g.primary;
      rest_steady = g.rest_steady;
      operand = g.operand;
      product = g.product;
      total = g.total;
      range = g.range;
      comparison = g.comparison;
      conjunction = g.conjunction;
      disjunction = g.disjunction;
      whole = g.whole;
    }

pub good_call : {a : List Grows} {bs : List Bare} (n : Name) → EachOf IsTree a bs → Good (call_of n a) (Bare.call n (bares.listed bs))
good_call {a} {bs} n ps = good_primary (by_name n) (λ X. form called called_left_parenthesis ∷ parenthesized a X) (Bare.call n (bares.listed bs)) tt
    (by_its_name n (λ X. form called called_left_parenthesis ∷ parenthesized a X) (tree (bares.listed bs)) (Bare.call n (bares.listed bs))
    (formed called called_left_parenthesis (tree (bares.listed bs)) (λ k. refl) (parenthesized_puts ps) (λ s. refl)) refl refl)

-- `min` and `max` of two
pub name_at : (j : ℕ) (k : ℕ) (n : Name) (Y : List Shown) (b : Bare) (z : Stack) → At j (by_name n) k Y b z → Fine k (ends Y) (OnName j n (valued Y) b z)
name_at zero k n Y b z a = a
name_at (suc j) k n Y b z a = fine_map (λ o. (a.0, a.1, o, a.3)) (name_at j k n Y a.0 (a.1 ∷ z) a.2)

pair_steady : (k : ℕ) (h : Head) (Y : List Shown) → k ≤ ends (operand_head h Y) → k ≤ ends (pair_head h Y)
pair_steady k (by_name n) Y l = l
pair_steady k (by_opening o) Y l = l

pair_starts : (e : Extreme) (p : Place) (k : ℕ) (h : Head) (Y : List Shown) (b r : Bare) (c d t : Value) (z : Stack) → At 7 h k Y b (c ∷ tree r ∷ d ∷ t ∷ z)
    → Fine k (ends (pair_head h Y)) ((f : Value) × (valued (pair_head h Y) ≡ f ∷ z) × (by_its_extreme f e p ≡ suffixed (Bare.extreme e p b r) t))
pair_starts e p k (by_name n) Y b r c d t z a = fine_map (λ o. by_called (on_name_is 7 n (valued Y) b (c ∷ tree r ∷ d ∷ t ∷ z) o)) (name_at 7 k n Y b (c ∷ tree r ∷ d ∷ t ∷ z) a)
  where
    s : Stack
    s = valued Y

    by_called : (after 7 (suffixed (named n (top_of (valued Y))) (top_of (below (valued Y)))) (below (valued Y)) ≡ b) × (under 8 (below (valued Y)) ≡ c ∷ tree r ∷ d ∷ t ∷ z) × (is_sign (top_of (valued Y)) ≡ false)
        → (f : Value) × (valued (pair_head (by_name n) Y) ≡ f ∷ z) × (by_its_extreme f e p ≡ suffixed (Bare.extreme e p b r) t)
    by_called i = (
      of_extreme (λ e p. suffixed (Bare.extreme e p (after 7 (suffixed (named n (top_of (valued Y))) (at 1 (valued Y))) (below (valued Y))) (bare_in (at 1 (under 8 (below (valued Y)))))) (at 3 (under 8 (below (valued Y))))),
      ap (λ x. part_step pair pair_first_name (marked (kinds.Name n.text) n.place ∷ choice x (pair_in (valued Y)) (pair_called (valued Y)))) i.2
          ∙ ap (λ u. of_extreme (λ e p. suffixed (Bare.extreme e p (after 7 (suffixed (named n (top_of (valued Y))) (at 1 (valued Y))) (below (valued Y))) (bare_in (at 1 (under 8 (below (valued Y)))))) (at 3 (under 8 (below (valued Y))))) ∷ under 4 u) i.1,
      cong2 (λ x u. suffixed (Bare.extreme e p x (bare_in (at 1 u))) (at 3 u)) i.0 i.1,
    )
pair_starts e p k (by_opening o) Y b r c d t z a = fine_map by_unnamed (head_at 7 k (by_opening o) Y b (c ∷ tree r ∷ d ∷ t ∷ z) a)
  where
    by_unnamed : On 7 (valued (operand_head (by_opening o) Y)) b (c ∷ tree r ∷ d ∷ t ∷ z)
        → (f : Value) × (valued (pair_head (by_opening o) Y) ≡ f ∷ z) × (by_its_extreme f e p ≡ suffixed (Bare.extreme e p b r) t)
    by_unnamed on =
        let s : Stack = valued (operand_head (by_opening o) Y) in
        let i = on_is 7 s b (c ∷ tree r ∷ d ∷ t ∷ z) on in
        let y = on_top 7 s b (c ∷ tree r ∷ d ∷ t ∷ z) on in
        let g : Value = of_extreme (λ e p. suffixed (Bare.extreme e p (operand_of 7 s) (bare_in (at 1 (under 8 s)))) (at 3 (under 8 s))) in (
          g,
          ap (λ x. choice (is_tree x) (unnamed_pair s) (of_extreme (by_first (at 1 s) (name_in (top_of s))) ∷ under 2 s)) y.1 ∙ ap (λ u. g ∷ under 4 u) i.1,
          cong2 (λ x u. suffixed (Bare.extreme e p x (bare_in (at 1 u))) (at 3 u)) i.0 i.1,
        )

pub good_extreme : {l r : Writing} {b c : Bare} (e : Extreme) (p : Place) → Good l b → Good r c → Good (extreme_of e p l r) (Bare.extreme e p b c)
good_extreme {l} {r} {b} {c} e p g h = good_primary (by_opening (by_extreme e p (two_in_pair l r) (two_apart l r))) (λ X. X) (Bare.extreme e p b c) (pair_is_steady, steady apart_puts) ((λ X. omega arith), starts)
  where
    comma_puts : Pushes (λ X. word words.Comma (whole r (word words.RightParenthesis X))) (sign (kinds.Word words.Comma) ∷ tree c ∷ sign (kinds.Word words.RightParenthesis) ∷ [])
    comma_puts = signs words.Comma ⊳ (put_whole h ⊳ signs words.RightParenthesis)

    apart_puts : Pushes (two_apart l r) (tree b ∷ sign (kinds.Word words.Comma) ∷ tree c ∷ sign (kinds.Word words.RightParenthesis) ∷ [])
    apart_puts = put_whole g ⊳ comma_puts

    pair_is_steady : (X : List Shown) → ends X ≤ ends (two_in_pair l r X)
    pair_is_steady X =
        let W : List Shown = word words.Comma (whole r (word words.RightParenthesis X)) in
        let z : Stack = sign (kinds.Word words.Comma) ∷ tree c ∷ sign (kinds.Word words.RightParenthesis) ∷ valued X in
        pair_steady (ends X) l.head (l.whole_rest W) (fine_le (head_at 7 (ends X) l.head (l.whole_rest W) b z (at_behind 7 l.head (l.whole_rest W) b z (valued W) (comma_puts.push X) (g.whole W))))

    starts : (u : Grows) (t : Value) → Pushes u (t ∷ []) → (X : List Shown)
        → Starts (ends X) (by_opening (by_extreme e p (two_in_pair l r) (two_apart l r))) (u X) (suffixed (Bare.extreme e p b c) t) (valued X)
    starts u t q X =
        let W : List Shown = word words.Comma (whole r (word words.RightParenthesis (u X))) in
        let z : Stack = sign (kinds.Word words.Comma) ∷ tree c ∷ sign (kinds.Word words.RightParenthesis) ∷ t ∷ valued X in (
          pair_starts e p (ends X) l.head (l.whole_rest W) b c (sign (kinds.Word words.Comma)) (sign (kinds.Word words.RightParenthesis)) t (valued X)
              (at_behind 7 l.head (l.whole_rest W) b z (valued W) ((comma_puts ⊳ q).push X) (g.whole W)),
          fine_map (λ i. (b, sign (kinds.Word words.Comma), c, sign (kinds.Word words.RightParenthesis), t, i, refl)) ((apart_puts ⊳ q).push X),
        )

-- a sign, or an aggregate
by_sign : {text : Grows} (b : Bare) → Pushes text (tree b ∷ []) → Good (from_operand (by_opening (by_other text)) (λ X. X)) b
by_sign {text} b p = good_operand (by_opening (by_other text)) (λ X. X) b (steady p) (λ X. omega arith) (λ X. p.push X)

pub good_unary : {w : Writing} {b : Bare} (o : UnaryOperator) (p : Place) → Good w b → Good (unary o p w) (Bare.unary o p b)
good_unary {b = b} unaries.Negative p g = by_sign (Bare.unary unaries.Negative p b) (formed unnamed unnamed_minus (tree (Bare.unary unaries.Negative p b)) (λ k. refl) (marks words.Minus p ⊳ put_operand g) (λ s. refl))
good_unary {b = b} unaries.Not p g = by_sign (Bare.unary unaries.Not p b) (formed unnamed unnamed_exclamation (tree (Bare.unary unaries.Not p b)) (λ k. refl) (marks words.Exclamation p ⊳ put_operand g) (λ s. refl))

-- generators
pub record GoodGenerator (g : GeneratorText) (b : Bare) : Type 0 where
  pub domain : Bare
  pub good : Good g.domain domain
  pub is : Bare.generator g.bound domain ≡ b

pub data GoodOption : Option Writing → Bare → Type 0 where
  nothing_given : GoodOption None Bare.left_out
  is_given : {w : Writing} {b : Bare} → Good w b → GoodOption (Some w) (Bare.given b)

pub record GoodGenerators (g : GeneratorsText) (b : Bare) : Type 0 where
  pub parts : List Bare
  pub only : Bare
  pub good : EachOf GoodGenerator g.all parts
  pub good_only : GoodOption g.only only
  pub is : Bare.generators (bares.listed parts) only ≡ b

generator_puts : {g : GeneratorText} {b : Bare} → GoodGenerator g b → Pushes (generator_text g) (tree b ∷ [])
generator_puts {g} {b} h = formed generator generator_name (tree b) (λ k. refl) (names g.bound ⊳ (signs words.In ⊳ put_whole h.good)) (λ s. ap (λ x. tree x ∷ s) h.is)

condition_puts : {o : Option Writing} {c : Bare} → GoodOption o c → (v : Value) × Pushes (condition_text o) (v ∷ []) × (option_in v ≡ c)
condition_puts nothing_given = (nothing, left_out condition nothing (λ k. refl) (λ s. refl), refl)
condition_puts (is_given {b = b} g) = (tree b, formed condition condition_colon (tree b) (λ k. refl) (signs words.Colon ⊳ put_whole g) (λ s. refl), refl)

behind_puts : {gs : List GeneratorText} {bs : List Bare} (o : Option Writing) {v : Value} → EachOf GoodGenerator gs bs → Pushes (condition_text o) (v ∷ [])
    → Pushes (generators_behind gs o) (rest_of bs ∷ v ∷ [])
behind_puts o ps q =
    rests more_generator (each_map (λ g b h. formed_cons generators_tail generators_tail_comma b (λ k. refl) (signs words.Comma ⊳ generator_puts h) (λ l s. refl)) ps) (λ X. form generators_tail [] ∷ X)
    (left_out generators_tail nothing (λ k. refl) (λ s. refl))
    ⊳ q

all_puts : {gs : List GeneratorText} {bs : List Bare} (o : Option Writing) (c : Bare) → EachOf GoodGenerator gs bs → GoodOption o c
    → Pushes (all_generators gs o) (tree (Bare.generators (bares.listed bs) c) ∷ [])
all_puts o c none q = misplaced_pushes (tree (Bare.generators Bare.no_more c) ∷ [])
all_puts o c (and_one {b = b} {bs = bs} p ps) q =
    let v = condition_puts q in
    formed generators generators_generator (tree (Bare.generators (Bare.more b (bares.listed bs)) c)) (λ k. refl) (generator_puts p ⊳ behind_puts o ps v.1)
    (λ s. cong2 (λ l x. tree (Bare.generators (Bare.more b l) x) ∷ s) (list_rest bs) v.2)

pub generators_puts : {g : GeneratorsText} {b : Bare} → GoodGenerators g b → Pushes (generators_text g) (tree b ∷ [])
generators_puts {g} {b} h = subst (λ x. Pushes (generators_text g) (tree x ∷ [])) h.is (all_puts g.only h.only h.good h.good_only)

-- aggregates
plain_puts : {g : GeneratorsText} {w : Writing} {b c : Bare} (f : List Symbol) (a : Aggregate) (w' : Word) (p : Place) → GoodGenerators g b → Good w c
    → ((s : Stack) → part_step unnamed f (marked (kinds.Word w') p ∷ sign (kinds.Word words.LeftParenthesis) ∷ tree b ∷ sign (kinds.Word words.RightParenthesis) ∷ s) ≡ tree (Bare.aggregate a p b (operand_of 1 s)) ∷ under 2 s)
    → Good (from_operand (by_opening (by_other (plain_aggregate f w' p g w))) (λ X. X)) (Bare.aggregate a p b c)
plain_puts {b = b} {c = c} f a w' p h i d = by_sign (Bare.aggregate a p b c)
    (formed_on unnamed f (tree (Bare.aggregate a p b c)) 1 c (λ k. refl) (marks w' p ⊳ (signs words.LeftParenthesis ⊳ (generators_puts h ⊳ signs words.RightParenthesis))) (put_product i)
    (λ s z x y. d s ∙ cong2 (λ o u. tree (Bare.aggregate a p b o) ∷ u) x y))

named_puts : {gs : List GeneratorText} {bs : List Bare} (o : Option Writing) {v : Value} {w : Writing} {c d : Bare} {m : Writing} → Good m d → EachOf GoodGenerator gs bs → Pushes (condition_text o) (v ∷ []) → Good w c
    → Pushes (λ X. form pair_named pair_named_in ∷ word words.In (whole m (generators_behind gs o (word words.RightParenthesis (at_product w X)))))
    (of_first (λ n e p. Bare.aggregate (least_or_greatest e) p (Bare.generators (Bare.more (Bare.generator n d) (list_in (rest_of bs))) (option_in v)) c) ∷ [])
named_puts {bs = bs} o {v = v} {c = c} {d = d} g ps q h =
    formed_on pair_named pair_named_in (of_first (λ n e p. Bare.aggregate (least_or_greatest e) p (Bare.generators (Bare.more (Bare.generator n d) (list_in (rest_of bs))) (option_in v)) c)) 1 c (λ k. refl)
    (signs words.In ⊳ (put_whole g ⊳ (behind_puts o ps q ⊳ signs words.RightParenthesis))) (put_product h)
    (λ s z x y. cong2 (λ o u. of_first (λ n e p. Bare.aggregate (least_or_greatest e) p (Bare.generators (Bare.more (Bare.generator n d) (list_in (rest_of bs))) (option_in v)) o) ∷ u) x y)

extreme_step : (e : Extreme) (p : Place) (f : Extreme → Place → Bare) (s : Stack)
    → part_step unnamed (unnamed_extreme e) (marked (kinds.Word (word_of_extreme e)) p ∷ sign (kinds.Word words.LeftParenthesis) ∷ of_extreme f ∷ s) ≡ tree (f e p) ∷ s
extreme_step extremes.Min p f s = refl
extreme_step extremes.Max p f s = refl

extreme_puts : {gs : List GeneratorText} {bs : List Bare} (o : Option Writing) (b : Bare) {w : Writing} {c : Bare} (e : Extreme) (p : Place) → EachOf GoodGenerator gs bs → GoodOption o b → Good w c
    → Pushes (extreme_aggregate e p (record { all = gs; only = o }) w) (tree (Bare.aggregate (least_or_greatest e) p (Bare.generators (bares.listed bs) b) c) ∷ [])
extreme_puts o b e p none q h = record { push = λ X. let le = fine_le ((put_product h).put X) in more_ends (omega arith) }
extreme_puts o b {w} {c} e p (and_one {x = g} {b = x} {xs = gs} {bs = bs} i is) q h =
    let v = condition_puts q in
    let made : Extreme → Place → Bare = λ e p. Bare.aggregate (least_or_greatest e) p (Bare.generators (Bare.more (Bare.generator g.bound i.domain) (list_in (rest_of bs))) (option_in v.0)) c in
    let of_pair = formed pair pair_first_name (of_extreme made) (λ k. refl)
    (formed first_name first_name_name (marked (kinds.Name g.bound.text) g.bound.place) (λ k. refl) (names g.bound) (λ s. refl) ⊳ named_puts o i.good is v.1 h) (λ s. refl) in
    let same : made e p ≡ Bare.aggregate (least_or_greatest e) p (Bare.generators (Bare.more x (bares.listed bs)) b) c =
    cong2 (λ y l. Bare.aggregate (least_or_greatest e) p (Bare.generators (Bare.more y l) (option_in v.0)) c) i.is (list_rest bs) ∙ ap (λ y. Bare.aggregate (least_or_greatest e) p (Bare.generators (Bare.more x (bares.listed bs)) y) c) v.2 in
    subst (λ y. Pushes (extreme_aggregate e p (record { all = g ∷ gs; only = o }) w) (tree y ∷ [])) same
    (formed unnamed (unnamed_extreme e) (tree (made e p)) (λ k. refl) (marks (word_of_extreme e) p ⊳ (signs words.LeftParenthesis ⊳ of_pair)) (λ s. extreme_step e p made s))

pub good_aggregate : {g : GeneratorsText} {w : Writing} {b c : Bare} (a : Aggregate) (p : Place) → GoodGenerators g b → Good w c → Good (aggregate a p g w) (Bare.aggregate a p b c)
good_aggregate aggregates.Sum p h i = plain_puts unnamed_sum aggregates.Sum words.Sum p h i (λ s. refl)
good_aggregate {g} {w} {b} {c} aggregates.Min p h i = by_sign (Bare.aggregate aggregates.Min p b c)
    (subst (λ y. Pushes (extreme_aggregate extremes.Min p g w) (tree (Bare.aggregate aggregates.Min p y c) ∷ [])) h.is (extreme_puts g.only h.only extremes.Min p h.good h.good_only i))
good_aggregate {g} {w} {b} {c} aggregates.Max p h i = by_sign (Bare.aggregate aggregates.Max p b c)
    (subst (λ y. Pushes (extreme_aggregate extremes.Max p g w) (tree (Bare.aggregate aggregates.Max p y c) ∷ [])) h.is (extreme_puts g.only h.only extremes.Max p h.good h.good_only i))
good_aggregate aggregates.All p h i = plain_puts unnamed_all aggregates.All words.All p h i (λ s. refl)
good_aggregate aggregates.And p h i = plain_puts unnamed_and aggregates.And words.And p h i (λ s. refl)
good_aggregate aggregates.Or p h i = plain_puts unnamed_or aggregates.Or words.Or p h i (λ s. refl)
good_aggregate aggregates.SetOf p h i = plain_puts unnamed_set_of aggregates.SetOf words.SetOf p h i (λ s. refl)
good_aggregate aggregates.ArgMin p h i = plain_puts unnamed_arg_min aggregates.ArgMin words.ArgMin p h i (λ s. refl)
good_aggregate aggregates.ArgMax p h i = plain_puts unnamed_arg_max aggregates.ArgMax words.ArgMax p h i (λ s. refl)

-- comparisons, ranges and conditionals
pub good_conditional : {t l r : Writing} {a b c : Bare} → Good t a → Good l b → Good r c → Good (conditional t l r) (Bare.conditional a b c)
good_conditional {t} {l} {r} {a} {b} {c} g h i =
    good_whole t.head (λ X. t.disjunction_rest (chosen l r X)) (Bare.conditional a b c) g.steady
    (level_then 6 t.disjunction_rest t.head a (chosen l r) (tail (λ x. Bare.conditional x b c)) g.disjunction
    (formed branches branches_question (tail (λ x. Bare.conditional x b c)) (λ k. refl) (signs words.Question ⊳ (put_whole h ⊳ (signs words.Colon ⊳ put_whole i))) (λ s. refl)))

comparison_step : (c : Comparison) (p : Place) (s : Stack) → part_step comparison_tail (comparison_form c) (marked (kinds.Word (word_of_comparison c)) p ∷ s)
    ≡ tail (λ x. Bare.comparison x c p (operand_of 3 s)) ∷ under 4 s
comparison_step comparisons.Equal p s = refl
comparison_step comparisons.NotEqual p s = refl
comparison_step comparisons.Less p s = refl
comparison_step comparisons.LessEqual p s = refl
comparison_step comparisons.Greater p s = refl
comparison_step comparisons.GreaterEqual p s = refl

pub good_comparison_of : {l r : Writing} {a b : Bare} (c : Comparison) (p : Place) → Good l a → Good r b → Good (comparison l c p r) (Bare.comparison a c p b)
good_comparison_of {l} {r} {a} {b} c p g h =
    good_comparison l.head (λ X. l.range_rest (compared c p r X)) (Bare.comparison a c p b) g.steady
    (level_then 3 l.range_rest l.head a (compared c p r) (tail (λ x. Bare.comparison x c p b)) g.range
    (formed_on comparison_tail (comparison_form c) (tail (λ x. Bare.comparison x c p b)) 3 b (λ k. refl) (marks (word_of_comparison c) p) (put_range h)
    (λ s z x y. comparison_step c p s ∙ cong2 (λ o u. tail (λ x. Bare.comparison x c p o) ∷ u) x y)))

pub good_range_of : {l r : Writing} {a b : Bare} (p : Place) → Good l a → Good r b → Good (range_of l p r) (Bare.range a p b)
good_range_of {l} {r} {a} {b} p g h =
    good_range l.head (λ X. l.total_rest (up_to p r X)) (Bare.range a p b) g.steady
    (level_then 2 l.total_rest l.head a (up_to p r) (tail (λ x. Bare.range x p b)) g.total
    (formed_on range_tail range_tail_dot_dot (tail (λ x. Bare.range x p b)) 2 b (λ k. refl) (marks words.DotDot p) (put_total h)
    (λ s z x y. cong2 (λ o u. tail (λ x. Bare.range x p o) ∷ u) x y)))

-- chains
link_conses : {b : Bare} (n : Part) (f : List Symbol) (j : ℕ) (o : ChainOperator) (w' : Word) (p : Place) → ((k : ℕ) → ends_of n f k ≡ k) → {u : Grows} → Puts j u b
    → ((s : Stack) → part_step n f (marked (kinds.Word w') p ∷ s) ≡ tree (Bare.more (Bare.link o p (operand_of j s)) (list_in (top_of (under (suc j) s)))) ∷ below (under (suc j) s))
    → Conses (λ X. form n f ∷ mark w' p (u X)) (Bare.link o p b)
link_conses {b} n f j o w' p e {u} q d = record {
  cons = λ v l r. record {
    push = λ X. fine_as (e (ends (u (v X)))) (λ x. x) (fine_then (r.push X) (q.put (v X)) (λ a on. let i = on_is j (valued (u (v X))) b (valued (v X)) on in
        d (valued (u (v X))) ∙ cong2 (λ y z. tree (Bare.more (Bare.link o p y) (list_in (top_of z))) ∷ below z) i.0 (i.1 ∙ a)));
  };
}

pub good_link : {w : Writing} {b : Bare} (o : ChainOperator) (p : Place) → Good w b → Conses (link o p w) (Bare.link o p b)
good_link chains.Or p g = link_conses or_tail or_tail_or_or 5 chains.Or words.OrOr p (λ k. refl) (put_conjunction g) (λ s. refl)
good_link chains.And p g = link_conses and_tail and_tail_and_and 4 chains.And words.AndAnd p (λ k. refl) (put_comparison g) (λ s. refl)
good_link chains.Add p g = link_conses total_tail total_tail_plus 1 chains.Add words.Plus p (λ k. refl) (put_product g) (λ s. refl)
good_link chains.Subtract p g = link_conses total_tail total_tail_minus 1 chains.Subtract words.Minus p (λ k. refl) (put_product g) (λ s. refl)
good_link chains.Multiply p g = link_conses product_tail product_tail_star 0 chains.Multiply words.Star p (λ k. refl) (put_operand_0 g) (λ s. refl)
good_link chains.Divide p g = link_conses product_tail product_tail_slash 0 chains.Divide words.Slash p (λ k. refl) (put_operand_0 g) (λ s. refl)
good_link chains.Remainder p g = link_conses product_tail product_tail_percent 0 chains.Remainder words.Percent p (λ k. refl) (put_operand_0 g) (λ s. refl)

pub good_unwritten : (b : Bare) → Good unwritten b
good_unwritten b =
    let st : (X : List Shown) → ends X ≤ ends (misplaced X) = λ X. omega arith in
    good_whole (by_opening (by_other misplaced)) misplaced b st (λ X. astray 7 (by_opening (by_other misplaced)) b st X (valued X))

abbrev pub GoodLink : LinkText → Bare → Type 0
GoodLink t b = Conses t.text b

chain_at : {first : Writing} {a : Bare} (o : ChainOperator) (links : List LinkText) (c : Bare) → Good first a → ((n : Part) → Pushes (λ X. form n [] ∷ X) (nothing ∷ []) → Pushes (λ X. each (λ x. x.text) links (form n [] ∷ X)) (tree c ∷ []))
    → Good (chain_by o first (each (λ x. x.text) links)) (Bare.chain a c)
chain_at {first} {a} chains.Or links c g p = good_disjunction first.head _ (Bare.chain a c) g.steady
    (level_then 5 first.conjunction_rest first.head a (λ X. each (λ x. x.text) links (form or_tail [] ∷ X)) (tree c) g.conjunction (p or_tail (left_out or_tail nothing (λ k. refl) (λ s. refl))))
chain_at {first} {a} chains.And links c g p = good_conjunction first.head _ (Bare.chain a c) g.steady
    (level_then 4 first.comparison_rest first.head a (λ X. each (λ x. x.text) links (form and_tail [] ∷ X)) (tree c) g.comparison (p and_tail (left_out and_tail nothing (λ k. refl) (λ s. refl))))
chain_at {first} {a} chains.Add links c g p = good_total first.head _ (Bare.chain a c) g.steady
    (level_then 1 first.product_rest first.head a (λ X. each (λ x. x.text) links (form total_tail [] ∷ X)) (tree c) g.product (p total_tail (left_out total_tail nothing (λ k. refl) (λ s. refl))))
chain_at {first} {a} chains.Subtract links c g p = good_total first.head _ (Bare.chain a c) g.steady
    (level_then 1 first.product_rest first.head a (λ X. each (λ x. x.text) links (form total_tail [] ∷ X)) (tree c) g.product (p total_tail (left_out total_tail nothing (λ k. refl) (λ s. refl))))
chain_at {first} {a} chains.Multiply links c g p = good_product first.head _ (Bare.chain a c) g.steady
    (level_then 0 first.operand_rest first.head a (λ X. each (λ x. x.text) links (form product_tail [] ∷ X)) (tree c) g.operand (p product_tail (left_out product_tail nothing (λ k. refl) (λ s. refl))))
chain_at {first} {a} chains.Divide links c g p = good_product first.head _ (Bare.chain a c) g.steady
    (level_then 0 first.operand_rest first.head a (λ X. each (λ x. x.text) links (form product_tail [] ∷ X)) (tree c) g.operand (p product_tail (left_out product_tail nothing (λ k. refl) (λ s. refl))))
chain_at {first} {a} chains.Remainder links c g p = good_product first.head _ (Bare.chain a c) g.steady
    (level_then 0 first.operand_rest first.head a (λ X. each (λ x. x.text) links (form product_tail [] ∷ X)) (tree c) g.operand (p product_tail (left_out product_tail nothing (λ k. refl) (λ s. refl))))

pub good_chain : {first : Writing} {a : Bare} {links : List LinkText} {bs : List Bare} → Good first a → EachOf GoodLink links bs → Good (chain first links) (Bare.chain a (bares.listed bs))
good_chain {a = a} g none = good_unwritten (Bare.chain a Bare.no_more)
good_chain {first} {a} g (and_one {x = l} {b = b} {xs = links} {bs = bs} c cs) =
    chain_at l.operator (l ∷ links) (Bare.more b (bares.listed bs)) g (λ n q. rests (λ x. x.text) (and_one {x = l} c cs) (λ X. form n [] ∷ X) q)

-- suffixes
pub good_index : {w : Writing} {b : Bare} (p : Place) → Good w b
    → Conses (λ X. form suffixes suffixes_left_bracket ∷ mark words.LeftBracket p (whole w (form second [] ∷ word words.RightBracket X))) (Bare.index p b)
good_index {b = b} p g = formed_cons suffixes suffixes_left_bracket (Bare.index p b) (λ k. refl)
    (marks words.LeftBracket p ⊳ (put_whole g ⊳ (left_out second nothing (λ k. refl) (λ s. refl) ⊳ signs words.RightBracket))) (λ l s. refl)

pub good_cell : {w v : Writing} {b c : Bare} (p : Place) → Good w b → Good v c
    → Conses (λ X. form suffixes suffixes_left_bracket ∷ mark words.LeftBracket p (whole w (form second second_comma ∷ word words.Comma (whole v (word words.RightBracket X))))) (Bare.cell p b c)
good_cell {b = b} {c = c} p g h = formed_cons suffixes suffixes_left_bracket (Bare.cell p b c) (λ k. refl)
    (marks words.LeftBracket p ⊳ (put_whole g ⊳ (formed second second_comma (tree c) (λ k. refl) (signs words.Comma ⊳ put_whole h) (λ s. refl) ⊳ signs words.RightBracket))) (λ l s. refl)

pub good_method : {a : List Grows} {bs : List Bare} (n : Name) → EachOf IsTree a bs
    → Conses (λ X. form suffixes suffixes_dot ∷ word words.Dot (name n (parenthesized a X))) (Bare.method n (bares.listed bs))
good_method {a} {bs} n ps = formed_cons suffixes suffixes_dot (Bare.method n (bares.listed bs)) (λ k. refl)
    (signs words.Dot ⊳ (names n ⊳ parenthesized_puts ps)) (λ l s. refl)

pub good_postfix : {b : Bare} (o : Option Grows) (h : Head) {all : List Grows} {bs : List Bare} → Steady h → Primary o h b → EachOf Conses all bs → Good (postfix_by o h all) (Bare.postfix b (bares.listed bs))
good_postfix {b} None h {bs = bs} st p ps = good_unwritten (Bare.postfix b (bares.listed bs))
good_postfix {b} (Some r) h st p none = good_unwritten (Bare.postfix b Bare.no_more)
good_postfix {b} (Some r) h st p (and_one {x = x} {b = c} {xs = xs} {bs = bs} i is) =
    let q = rests (λ x. x) (and_one i is) (λ X. form suffixes [] ∷ X) (left_out suffixes nothing (λ k. refl) (λ s. refl)) in
    good_operand h (λ X. r (each (λ x. x) (x ∷ xs) (form suffixes [] ∷ X))) (Bare.postfix b (Bare.more c (bares.listed bs))) st
    (λ X. let i = steady q X in let j = p.0 (each (λ x. x) (x ∷ xs) (form suffixes [] ∷ X)) in omega arith)
    (λ X. p.1 (λ X. each (λ x. x) (x ∷ xs) (form suffixes [] ∷ X)) (tree (Bare.more c (bares.listed bs))) q X)
