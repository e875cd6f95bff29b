-- What is made of the values of a form is written as the form and its values: by shapes of forms.
use Rattle.std.specs.Prelude.{ℤ, List, [], ◌∷◌, Option, ◌≡◌, map, reverse, refl}
use Rattle.std.proofs.Common.{sym, ◌∙◌, ap, subst}
use Rattle.std.specs.declared.alloc.Global.{Global}
use Rattle.std.specs.declared.vec.Vec.{Vec}
use Rattle.cbl_base.specs.declared.place.Place.{Place}
use Rattle.comet_syntax.specs.declared.token.Word.{Word}
use Rattle.comet_syntax.specs.declared.token.Word.TheVariants as words
use Rattle.comet_syntax.specs.declared.tree.expressions.Argument.{Argument}
use Rattle.comet_syntax.specs.declared.tree.expressions.ChainOperator.{ChainOperator}
use Rattle.comet_syntax.specs.declared.tree.expressions.Comparison.{Comparison}
use Rattle.comet_syntax.specs.declared.tree.expressions.Expression.{Expression}
use Rattle.comet_syntax.specs.declared.tree.expressions.Extreme.{Extreme}
use Rattle.comet_syntax.specs.declared.tree.expressions.Extreme.TheVariants as extremes
use Rattle.comet_syntax.specs.declared.tree.expressions.Generators.{Generators}
use Rattle.comet_syntax.specs.declared.tree.expressions.Link.{Link}
use Rattle.comet_syntax.specs.declared.tree.expressions.Name.{Name}
use Rattle.comet_syntax.specs.declared.tree.expressions.Suffix.{Suffix}
use Rattle.comet_syntax.specs.Grammar.Symbols as grammar
use Rattle.comet_syntax.specs.Grammar.Symbols.{Part, Symbol}
use Rattle.comet_syntax.specs.Grammar.Expressions.{arguments_listed, literal_number, operand_unnamed, pair_first_name, pair_named_called, pair_unnamed, range_tail_dot_dot}
use Rattle.comet_syntax.specs.Grammar.Statements.{first_name_name}
use Rattle.comet_syntax.specs.Written.Shown.{Shown, form, Grows, each, mark, name, word}
use Rattle.comet_syntax.specs.Written.Expressions.{Head, LinkText, Opening, Writing, arguments_text, at_operand, at_postfix, at_product, by_extreme, by_name, by_opening, by_other, compared, comparison_form, extreme_aggregate, extreme_of, from_operand, from_primary, generators_text, listed_text, number, opening, operand_head, pair_generators, pair_head, plain_aggregate, postfix_head, two_apart, two_in_pair, unnamed_extreme, up_to, whole, word_of_comparison, word_of_extreme, written, written_argument, written_generators, written_link}
use Rattle.parse_stacks.specs.declared.tails.Behind.{Behind}
use Rattle.parse_stacks.specs.declared.tails.Pair.{Pair}
use Rattle.parse_stacks.specs.declared.tails.Pair.TheVariants as pairs
use Rattle.parse_stacks.specs.declared.tails.PairRest.{PairRest}
use Rattle.parse_stacks.specs.declared.tails.PairRest.TheVariants as pair_rests
use Rattle.parse_stacks.specs.declared.tails.UpTo.{UpTo}
use Rattle.parse_stacks.specs.Levels.{IsAdding, IsMultiplying, IsOperand, Starts, closed_suffixes, closed_texts}
use Rattle.parse_stacks.specs.Raised.{linked, named_operand, raised, range_level, total_of, with_suffixes}
use Rattle.parse_stacks.specs.Texts.{IsUnnamed, LinksStart, PairRestLevel, StartsRight, behind_text, links_text, literal_text, number_text, pair_rest_text, pair_text, unnamed_text, up_to_text}
use Rattle.parse_stacks.proofs.GoingOn.{Goes, is_operand, named_goes, product_goes, raised_goes, range_level_goes, suffixed_goes, total_goes}
use Rattle.build_expressions.specs.MadeOperands.{Begun, of_pair}

-- an operand with what stands behind it is written as the whole
pub goes_text : {a b : Writing} {ra rb s : Grows} {P : Writing → Type 0} → Goes a b ra rb s P → (Y : List Shown) → operand_head a.head (ra (s Y)) ≡ operand_head b.head (rb Y)
goes_text {a = a} {rb = rb} g Y = ap (operand_head a.head) (g.rest Y) ∙ ap (λ h. operand_head h (rb Y)) (sym g.head)

-- a link before the others
pub joined_text : (n : Part) (t : LinkText) (more x : Vec Link Global) → map written_link (reverse x.items) ≡ t ∷ map written_link (reverse more.items) → (Y : List Shown)
    → t.text (links_text n more Y) ≡ links_text n x Y
joined_text n t more x m Y = ap (λ (z : List LinkText). each (λ y. y.text) z (form n [] ∷ Y)) (sym m)

pub joined_starts : (P : ChainOperator → Type 0) (t : LinkText) (more x : Vec Link Global) → map written_link (reverse x.items) ≡ t ∷ map written_link (reverse more.items) → P t.operator → LinksStart P x
joined_starts P t more x m s = subst (Starts P) (sym m) s

pub no_links : (n : Part) (P : ChainOperator → Type 0) (x : Vec Link Global) → x.items ≡ [] → LinksStart P x × ((Y : List Shown) → form n [] ∷ Y ≡ links_text n x Y)
no_links n P x m = (subst (λ z. Starts P (map written_link (reverse z))) (sym m) tt, λ Y. ap (λ z. closed_texts n (reverse z) Y) (sym m))

-- the other side of a comparison, and the end of a range
pub compared_fits : (c : Comparison) (place : Place) (o : Expression) (p t : Vec Link Global) (u : Option UpTo) (right : Expression) → written right ≡ range_level (written o) p t u
    → IsOperand (written o) → LinksStart IsMultiplying p → LinksStart IsAdding t → (Y : List Shown)
    → form grammar.comparison_tail (comparison_form c) ∷ mark (word_of_comparison c) place (at_operand (written o) (links_text grammar.product_tail p (links_text grammar.total_tail t (up_to_text u Y))))
    ≡ compared c place (written right) Y
compared_fits c place o p t u right e lo lp lt Y =
    ap (λ z. form grammar.comparison_tail (comparison_form c) ∷ mark (word_of_comparison c) place z) (goes_text (range_level_goes (written o) p t u lo lp lt) Y) ∙ ap (λ z. compared c place z Y) (sym e)

pub up_to_fits : (place : Place) (o : Expression) (p t : Vec Link Global) (high : Expression) → written high ≡ total_of (written o) p t
    → IsOperand (written o) → LinksStart IsMultiplying p → LinksStart IsAdding t → (Y : List Shown)
    → form grammar.range_tail range_tail_dot_dot ∷ mark words.DotDot place (at_operand (written o) (links_text grammar.product_tail p (links_text grammar.total_tail t Y))) ≡ up_to place (written high) Y
up_to_fits place o p t high e lo lp lt Y =
    ap (λ z. form grammar.range_tail range_tail_dot_dot ∷ mark words.DotDot place z) (goes_text (total_goes (written o) p t lo lp lt) Y) ∙ ap (λ z. up_to place z Y) (sym e)

-- an operand with a product's links, as a product
pub product_text : (o : Expression) (p : Vec Link Global) → IsOperand (written o) → LinksStart IsMultiplying p → (Y : List Shown)
    → at_operand (written o) (links_text grammar.product_tail p Y) ≡ at_product (linked (written o) p) Y
product_text o p lo lp Y = goes_text (product_goes (written o) p lo lp) Y

-- an operand that begins with a name
pub operand_named : (n : Name) (c : Option (Vec Argument Global)) (s : Vec Suffix Global) (x : Expression) → written x ≡ named_operand n c s
    → IsOperand (written x) × ((Y : List Shown) → operand_head (by_name n) ((named_operand n c s).operand_rest Y) ≡ at_operand (written x) Y)
operand_named n c s x m =
    let g = named_goes n c s in
    (subst IsOperand (sym m) g.level, λ Y. ap (λ h. operand_head h ((named_operand n c s).operand_rest Y)) (sym g.head) ∙ ap (λ z. at_operand z Y) (sym m))

pub postfix_named : (n : Name) (c : Option (Vec Argument Global)) (s : Vec Suffix Global) (x : Expression) → written x ≡ named_operand n c s
    → (Y : List Shown) → postfix_head (by_name n) ((named_operand n c s).operand_rest Y) ≡ at_postfix (written x) Y
postfix_named n c s x m Y = ap (λ h. postfix_head h ((named_operand n c s).operand_rest Y)) (sym (named_goes n c s).head) ∙ ap (λ z. at_postfix z Y) (sym m)

-- an operand that doesn't begin with a name
pub unnamed_operand : (h : Head) (o : Opening) → h ≡ by_opening o → (Y : List Shown) → form grammar.operand operand_unnamed ∷ unnamed_text h Y ≡ operand_head h Y
unnamed_operand h o e Y = subst (λ z. form grammar.operand operand_unnamed ∷ unnamed_text z Y ≡ operand_head z Y) (sym e) refl

unnamed_pair : (h : Head) (o : Opening) → h ≡ by_opening o → (Y : List Shown) → form grammar.pair pair_unnamed ∷ unnamed_text h Y ≡ pair_head h Y
unnamed_pair h o e Y = subst (λ z. form grammar.pair pair_unnamed ∷ unnamed_text z Y ≡ pair_head z Y) (sym e) refl

pub unnamed_suffixed : (w : Writing) (o : Opening) (t : Grows) (s : Vec Suffix Global) (x : Writing) → w ≡ from_primary (by_opening o) t → x ≡ with_suffixes w s
    → IsUnnamed x × ((Y : List Shown) → opening o (t (closed_suffixes (reverse s.items) Y)) ≡ unnamed_text x.head (x.operand_rest Y))
unnamed_suffixed w o t s x e m =
    let g = suffixed_goes w t (by_opening o) s e in
    let h : x.head ≡ by_opening o = ap (λ z. z.head) m ∙ (g.head ∙ ap (λ z. z.head) e) in (
      record { by = o; head_is = h; level = subst IsOperand (sym m) g.level },
      λ Y. ap (opening o) (g.rest Y) ∙ (ap (λ z. opening o (z.operand_rest Y)) (sym m) ∙ ap (λ z. unnamed_text z (x.operand_rest Y)) (sym h)),
    )

pub postfix_suffixed : (w : Writing) (o : Opening) (t : Grows) (s : Vec Suffix Global) (x : Writing) → w ≡ from_primary (by_opening o) t → x ≡ with_suffixes w s
    → (Y : List Shown) → postfix_head (by_opening o) (t (closed_suffixes (reverse s.items) Y)) ≡ at_postfix x Y
postfix_suffixed w o t s x e m Y =
    let g = suffixed_goes w t (by_opening o) s e in
    let h : x.head ≡ by_opening o = ap (λ z. z.head) m ∙ (g.head ∙ ap (λ z. z.head) e) in
    ap (postfix_head (by_opening o)) (g.rest Y) ∙ (ap (λ z. postfix_head (by_opening o) (z.operand_rest Y)) (sym m) ∙ ap (λ z. postfix_head z (x.operand_rest Y)) (sym h))

-- a sign before an operand, or an aggregate
pub unnamed_other : (t : Grows) (x : Writing) → x ≡ from_operand (by_opening (by_other t)) (λ behind. behind) → IsUnnamed x × ((Y : List Shown) → t Y ≡ unnamed_text x.head (x.operand_rest Y))
unnamed_other t x m = (
  record { by = by_other t; head_is = ap (λ z. z.head) m; level = is_operand (by_opening (by_other t)) (λ behind. behind) m },
  λ Y. ap (λ z. unnamed_text z.head (z.operand_rest Y)) (sym m),
)

pub aggregate_fits : (f : List Symbol) (w : Word) (place : Place) (g : Generators) (o : Expression) (p : Vec Link Global) (x : Writing) → IsOperand (written o) → LinksStart IsMultiplying p
    → x ≡ from_operand (by_opening (by_other (plain_aggregate f w place (written_generators g) (linked (written o) p)))) (λ behind. behind)
    → IsUnnamed x × ((Y : List Shown) → form grammar.unnamed f ∷ mark w place (word words.LeftParenthesis (generators_text (written_generators g) (word words.RightParenthesis (at_operand (written o)
    (links_text grammar.product_tail p Y))))) ≡ unnamed_text x.head (x.operand_rest Y))
aggregate_fits f w place g o p x lo lp m =
    let u = unnamed_other (plain_aggregate f w place (written_generators g) (linked (written o) p)) x m in
    (u.0, λ Y. ap (λ z. form grammar.unnamed f ∷ mark w place (word words.LeftParenthesis (generators_text (written_generators g) (word words.RightParenthesis z)))) (product_text o p lo lp Y) ∙ u.1 Y)

-- `min` or `max` with what stands behind its parenthesis
pub pair_fits : (e : Extreme) (place : Place) (q : Pair) (x : Writing) → x ≡ of_pair e place q
    → IsUnnamed x × ((Y : List Shown) → form grammar.unnamed (unnamed_extreme e) ∷ mark (word_of_extreme e) place (word words.LeftParenthesis (pair_text q Y)) ≡ unnamed_text x.head (x.operand_rest Y))
pair_fits e place (pairs.Two left right s) x m =
    unnamed_suffixed (extreme_of e place (written left) (written right)) (by_extreme e place (two_in_pair (written left) (written right)) (two_apart (written left) (written right))) (λ behind. behind) s x refl m
pair_fits extremes.Min place (pairs.Over g body) x m = unnamed_other (extreme_aggregate extremes.Min place (written_generators g) (written body)) x m
pair_fits extremes.Max place (pairs.Over g body) x m = unnamed_other (extreme_aggregate extremes.Max place (written_generators g) (written body)) x m

-- what begins with a name behind `min(` or `max(`
pub begun_fits : (n : Name) (r : PairRest) (x : Pair) → PairRestLevel r → Begun n r x → (Y : List Shown)
    → form grammar.pair pair_first_name ∷ form grammar.first_name first_name_name ∷ name n (pair_rest_text r Y) ≡ pair_text x Y
begun_fits n (pair_rests.Over domain more condition body) x l m Y =
    ap (λ z. pair_generators z.all z.only (word words.RightParenthesis (at_product (written body) Y))) (sym m.2) ∙ ap (λ z. pair_text z Y) (sym m.1)
begun_fits n (pair_rests.Two called inner b right s) x l m Y =
    let Z : List Shown = word words.Comma (whole (written right) (word words.RightParenthesis (closed_suffixes (reverse s.items) Y))) in
    let k = named_goes n called inner in
    let g = raised_goes (named_operand n called inner) b k.level l in
    ap (λ z. form grammar.pair pair_first_name ∷ form grammar.first_name first_name_name ∷ name n (form grammar.pair_named pair_named_called ∷ z)) (k.rest (behind_text b Z) ∙ g.rest Z)
    ∙ (ap (λ h. pair_head h ((raised (named_operand n called inner) b).whole_rest Z)) (sym (g.head ∙ k.head))
    ∙ (ap (λ z. pair_head z.head (z.whole_rest Z)) (sym m.2) ∙ ap (λ z. pair_text z Y) (sym m.1)))

-- two expressions of which the first one doesn't begin with a name
pub two_fits : (o : Expression) (b : Behind) (left right : Expression) (s : Vec Suffix Global) → IsUnnamed (written o) → StartsRight b → written left ≡ raised (written o) b → (Y : List Shown)
    → form grammar.pair pair_unnamed ∷ unnamed_text (written o).head ((written o).operand_rest (behind_text b (word words.Comma (whole (written right) (word words.RightParenthesis (closed_suffixes (reverse s.items) Y))))))
    ≡ two_in_pair (written left) (written right) (closed_suffixes (reverse s.items) Y)
two_fits o b left right s l starts m Y =
    let Z : List Shown = word words.Comma (whole (written right) (word words.RightParenthesis (closed_suffixes (reverse s.items) Y))) in
    let g = raised_goes (written o) b l.level starts in
    ap (λ z. form grammar.pair pair_unnamed ∷ unnamed_text (written o).head z) (g.rest Z)
    ∙ (unnamed_pair (written o).head l.by l.head_is ((raised (written o) b).whole_rest Z)
    ∙ (ap (λ h. pair_head h ((raised (written o) b).whole_rest Z)) (sym g.head) ∙ ap (λ z. pair_head z.head (z.whole_rest Z)) (sym m)))

-- a number, as the token that it is
pub number_fits : (w : Writing) (v : ℤ) (place : Place) → w ≡ number v place → (Y : List Shown) → form grammar.literal literal_number ∷ number_text w Y ≡ literal_text w.head Y
number_fits w v place e Y = subst (λ z. form grammar.literal literal_number ∷ number_text z Y ≡ literal_text z.head Y) (sym e) refl

-- arguments, at least one
pub listed_fits : (all : List Argument) (a : Argument) (more : List Argument) → all ≡ a ∷ more → (Y : List Shown)
    → form grammar.arguments arguments_listed ∷ listed_text (map written_argument all) Y ≡ arguments_text (map written_argument all) Y
listed_fits all a more e Y = subst (λ z. form grammar.arguments arguments_listed ∷ listed_text (map written_argument z) Y ≡ arguments_text (map written_argument z) Y) (sym e) refl
