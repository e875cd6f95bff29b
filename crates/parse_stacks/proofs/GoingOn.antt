-- What stands behind an operand, level by level, is written as what the whole goes on with behind its head.
use Rattle.std.specs.Prelude.{List, [], ◌∷◌, Option, None, Some, ◌≡◌, map, reverse, refl}
use Rattle.std.proofs.Common.{sym, ◌∙◌, ap, inl, inr}
use Rattle.std.specs.declared.alloc.Global.{Global}
use Rattle.std.specs.declared.vec.Vec.{Vec}
use Rattle.comet_syntax.specs.declared.tree.expressions.Argument.{Argument}
use Rattle.comet_syntax.specs.declared.tree.expressions.ChainOperator.{ChainOperator}
use Rattle.comet_syntax.specs.declared.tree.expressions.Link.{Link}
use Rattle.comet_syntax.specs.declared.tree.expressions.Name.{Name}
use Rattle.comet_syntax.specs.declared.tree.expressions.Suffix.{Suffix}
use Rattle.comet_syntax.specs.Grammar.Symbols.{product_tail, total_tail, and_tail, or_tail, suffixes}
use Rattle.comet_syntax.specs.Written.Shown.{Shown, form, Grows, each}
use Rattle.comet_syntax.specs.Written.Expressions.{Head, Writing, from_operand, from_product, from_total, from_conjunction, from_disjunction, from_primary, by_name, chain_by, written_link, written_suffix, postfix_by}
use Rattle.parse_stacks.specs.declared.tails.Behind.{Behind}
use Rattle.parse_stacks.specs.declared.tails.Branches.{Branches}
use Rattle.parse_stacks.specs.declared.tails.Compared.{Compared}
use Rattle.parse_stacks.specs.declared.tails.UpTo.{UpTo}
use Rattle.parse_stacks.specs.Levels.{IsDisjunction, IsConjunction, IsComparison, IsRange, IsTotal, IsProduct, IsOperand, IsMultiplying, IsAdding, IsConjoining, IsDisjoining, Starts, chained, suffixed, closed_texts, closed_suffixes}
use Rattle.parse_stacks.specs.Raised.{linked, compared_with, ranged, branched, total_of, range_level, comparison_level, conjunction_level, raised, called_by, with_suffixes, named_operand}
use Rattle.parse_stacks.specs.Texts.{called_text, compared_text, up_to_text, branches_text, links_text, behind_text, LinksStart, StartsRight}

-- what binds at a level has this level
pub is_operand : {e : Writing} (h : Head) (r : Grows) → e ≡ from_operand h r → IsOperand e
is_operand h r e = rw e (record { product = record { total = record { range = record { comparison = record { conjunction = record { disjunction = record { alone = refl }; alone = refl }; alone = refl }; alone = refl }; alone = refl }; alone = refl }; alone = refl })

is_primary : {e : Writing} (h : Head) (r : Grows) → e ≡ from_primary h r → IsOperand e
is_primary h r e = rw e (record { product = record { total = record { range = record { comparison = record { conjunction = record { disjunction = record { alone = refl }; alone = refl }; alone = refl }; alone = refl }; alone = refl }; alone = refl }; alone = refl })

is_product : {e : Writing} (h : Head) (r : Grows) → e ≡ from_product h r → IsProduct e
is_product h r e = rw e (record { total = record { range = record { comparison = record { conjunction = record { disjunction = record { alone = refl }; alone = refl }; alone = refl }; alone = refl }; alone = refl }; alone = refl })

is_total : {e : Writing} (h : Head) (r : Grows) → e ≡ from_total h r → IsTotal e
is_total h r e = rw e (record { range = record { comparison = record { conjunction = record { disjunction = record { alone = refl }; alone = refl }; alone = refl }; alone = refl }; alone = refl })

is_conjunction : {e : Writing} (h : Head) (r : Grows) → e ≡ from_conjunction h r → IsConjunction e
is_conjunction h r e = rw e (record { disjunction = record { alone = refl }; alone = refl })

is_disjunction : {e : Writing} (h : Head) (r : Grows) → e ≡ from_disjunction h r → IsDisjunction e
is_disjunction h r e = rw e (record { alone = refl })

-- what stands behind the head goes on as a text and then the whole does, and the whole has this level
pub record Goes (from to : Writing) (from_rest to_rest : Grows) (text : Grows) (Level : Writing → Type 0) : Type 0 where
  pub head : to.head ≡ from.head
  pub rest : (behind : List Shown) → from_rest (text behind) ≡ to_rest behind
  pub level : Level to

product_by : (w : Writing) (o : ChainOperator) (t : Grows) → IsMultiplying o → chain_by o w t ≡ from_product w.head (λ behind. w.operand_rest (t (form product_tail [] ∷ behind)))
product_by w o t (inl p) = ap (λ z. chain_by z w t) p
product_by w o t (inr (inl p)) = ap (λ z. chain_by z w t) p
product_by w o t (inr (inr p)) = ap (λ z. chain_by z w t) p

total_by : (w : Writing) (o : ChainOperator) (t : Grows) → IsAdding o → chain_by o w t ≡ from_total w.head (λ behind. w.product_rest (t (form total_tail [] ∷ behind)))
total_by w o t (inl p) = ap (λ z. chain_by z w t) p
total_by w o t (inr p) = ap (λ z. chain_by z w t) p

conjunction_by : (w : Writing) (o : ChainOperator) (t : Grows) → IsConjoining o → chain_by o w t ≡ from_conjunction w.head (λ behind. w.comparison_rest (t (form and_tail [] ∷ behind)))
conjunction_by w o t p = ap (λ z. chain_by z w t) p

disjunction_by : (w : Writing) (o : ChainOperator) (t : Grows) → IsDisjoining o → chain_by o w t ≡ from_disjunction w.head (λ behind. w.conjunction_rest (t (form or_tail [] ∷ behind)))
disjunction_by w o t p = ap (λ z. chain_by z w t) p

product_links : (w : Writing) (ls : List Link) → IsOperand w → Starts IsMultiplying (map written_link ls)
    → Goes w (chained w (map written_link ls)) w.operand_rest (chained w (map written_link ls)).product_rest (closed_texts product_tail ls) IsProduct
product_links w [] l s = record { head = refl; rest = λ Y. ap (λ z. z Y) (sym l.alone); level = l.product }
product_links w (k ∷ ls) l s =
    let e = product_by w (written_link k).operator (each (λ x. x.text) (map written_link (k ∷ ls))) s in
    record { head = ap (λ z. z.head) e; rest = λ Y. ap (λ z. z.product_rest Y) (sym e); level = is_product w.head (λ Y. w.operand_rest (each (λ x. x.text) (map written_link (k ∷ ls)) (form product_tail [] ∷ Y))) e }

total_links : (w : Writing) (ls : List Link) → IsProduct w → Starts IsAdding (map written_link ls)
    → Goes w (chained w (map written_link ls)) w.product_rest (chained w (map written_link ls)).total_rest (closed_texts total_tail ls) IsTotal
total_links w [] l s = record { head = refl; rest = λ Y. ap (λ z. z Y) (sym l.alone); level = l.total }
total_links w (k ∷ ls) l s =
    let e = total_by w (written_link k).operator (each (λ x. x.text) (map written_link (k ∷ ls))) s in
    record { head = ap (λ z. z.head) e; rest = λ Y. ap (λ z. z.total_rest Y) (sym e); level = is_total w.head (λ Y. w.product_rest (each (λ x. x.text) (map written_link (k ∷ ls)) (form total_tail [] ∷ Y))) e }

conjunction_links : (w : Writing) (ls : List Link) → IsComparison w → Starts IsConjoining (map written_link ls)
    → Goes w (chained w (map written_link ls)) w.comparison_rest (chained w (map written_link ls)).conjunction_rest (closed_texts and_tail ls) IsConjunction
conjunction_links w [] l s = record { head = refl; rest = λ Y. ap (λ z. z Y) (sym l.alone); level = l.conjunction }
conjunction_links w (k ∷ ls) l s =
    let e = conjunction_by w (written_link k).operator (each (λ x. x.text) (map written_link (k ∷ ls))) s in
    record { head = ap (λ z. z.head) e; rest = λ Y. ap (λ z. z.conjunction_rest Y) (sym e); level = is_conjunction w.head (λ Y. w.comparison_rest (each (λ x. x.text) (map written_link (k ∷ ls)) (form and_tail [] ∷ Y))) e }

disjunction_links : (w : Writing) (ls : List Link) → IsConjunction w → Starts IsDisjoining (map written_link ls)
    → Goes w (chained w (map written_link ls)) w.conjunction_rest (chained w (map written_link ls)).disjunction_rest (closed_texts or_tail ls) IsDisjunction
disjunction_links w [] l s = record { head = refl; rest = λ Y. ap (λ z. z Y) (sym l.alone); level = l.disjunction }
disjunction_links w (k ∷ ls) l s =
    let e = disjunction_by w (written_link k).operator (each (λ x. x.text) (map written_link (k ∷ ls))) s in
    record { head = ap (λ z. z.head) e; rest = λ Y. ap (λ z. z.disjunction_rest Y) (sym e); level = is_disjunction w.head (λ Y. w.conjunction_rest (each (λ x. x.text) (map written_link (k ∷ ls)) (form or_tail [] ∷ Y))) e }

range_goes : (w : Writing) (u : Option UpTo) → IsTotal w → Goes w (ranged w u) w.total_rest (ranged w u).range_rest (up_to_text u) IsRange
range_goes w None l = record { head = refl; rest = λ Y. ap (λ z. z Y) (sym l.alone); level = l.range }
range_goes w (Some u) l = record {
  head = refl;
  rest = λ Y. refl;
  level = record { comparison = record { conjunction = record { disjunction = record { alone = refl }; alone = refl }; alone = refl }; alone = refl };
}

comparison_goes : (w : Writing) (c : Option Compared) → IsRange w → Goes w (compared_with w c) w.range_rest (compared_with w c).comparison_rest (compared_text c) IsComparison
comparison_goes w None l = record { head = refl; rest = λ Y. ap (λ z. z Y) (sym l.alone); level = l.comparison }
comparison_goes w (Some c) l = record {
  head = refl;
  rest = λ Y. refl;
  level = record { conjunction = record { disjunction = record { alone = refl }; alone = refl }; alone = refl };
}

abbrev AnyWriting : Writing → Type 0
AnyWriting w = Unit {0}

branches_go : (w : Writing) (b : Option Branches) → IsDisjunction w → Goes w (branched w b) w.disjunction_rest (branched w b).whole_rest (branches_text b) AnyWriting
branches_go w None l = record { head = refl; rest = λ Y. ap (λ z. z Y) (sym l.alone); level = tt }
branches_go w (Some b) l = record { head = refl; rest = λ Y. refl; level = tt }

-- one level behind another
goes_on : {a b c : Writing} {ra rb rc : Grows} {s t : Grows} {P Q : Writing → Type 0} → Goes a b ra rb s P → Goes b c rb rc t Q → Goes a c ra rc (λ behind. s (t behind)) Q
goes_on {t = t} g h = record { head = h.head ∙ g.head; rest = λ Y. g.rest (t Y) ∙ h.rest Y; level = h.level }

pub product_goes : (w : Writing) (p : Vec Link Global) → IsOperand w → LinksStart IsMultiplying p → Goes w (linked w p) w.operand_rest (linked w p).product_rest (links_text product_tail p) IsProduct
product_goes w p l s = product_links w (reverse p.items) l s

pub total_goes : (w : Writing) (p t : Vec Link Global) → IsOperand w → LinksStart IsMultiplying p → LinksStart IsAdding t
    → Goes w (total_of w p t) w.operand_rest (total_of w p t).total_rest (λ Y. links_text product_tail p (links_text total_tail t Y)) IsTotal
total_goes w p t l s q = let g = product_goes w p l s in goes_on g (total_links (linked w p) (reverse t.items) g.level q)

pub range_level_goes : (w : Writing) (p t : Vec Link Global) (u : Option UpTo) → IsOperand w → LinksStart IsMultiplying p → LinksStart IsAdding t
    → Goes w (range_level w p t u) w.operand_rest (range_level w p t u).range_rest (λ Y. links_text product_tail p (links_text total_tail t (up_to_text u Y))) IsRange
range_level_goes w p t u l s q = let g = total_goes w p t l s q in goes_on g (range_goes (total_of w p t) u g.level)

pub comparison_level_goes : (w : Writing) (p t : Vec Link Global) (u : Option UpTo) (c : Option Compared) → IsOperand w → LinksStart IsMultiplying p → LinksStart IsAdding t
    → Goes w (comparison_level w p t u c) w.operand_rest (comparison_level w p t u c).comparison_rest (λ Y. links_text product_tail p (links_text total_tail t (up_to_text u (compared_text c Y)))) IsComparison
comparison_level_goes w p t u c l s q = let g = range_level_goes w p t u l s q in goes_on g (comparison_goes (range_level w p t u) c g.level)

pub conjunction_level_goes : (w : Writing) (p t : Vec Link Global) (u : Option UpTo) (c : Option Compared) (k : Vec Link Global) → IsOperand w → LinksStart IsMultiplying p → LinksStart IsAdding t → LinksStart IsConjoining k
    → Goes w (conjunction_level w p t u c k) w.operand_rest (conjunction_level w p t u c k).conjunction_rest
    (λ Y. links_text product_tail p (links_text total_tail t (up_to_text u (compared_text c (links_text and_tail k Y))))) IsConjunction
conjunction_level_goes w p t u c k l s q r = let g = comparison_level_goes w p t u c l s q in goes_on g (conjunction_links (comparison_level w p t u c) (reverse k.items) g.level r)

pub raised_goes : (w : Writing) (b : Behind) → IsOperand w → StartsRight b → Goes w (raised w b) w.operand_rest (raised w b).whole_rest (behind_text b) AnyWriting
raised_goes w b l s =
    let g = conjunction_level_goes w b.product b.total b.up_to b.compared b.conjunction l s.product s.total s.conjunction in
    let h = goes_on g (disjunction_links (conjunction_level w b.product b.total b.up_to b.compared b.conjunction) (reverse b.disjunction.items) g.level s.disjunction) in
    goes_on h (branches_go (linked (conjunction_level w b.product b.total b.up_to b.compared b.conjunction) b.disjunction) b.branches h.level)

-- a primary with its suffixes
pub record Suffixed (from to : Writing) (text : Grows) (all : Vec Suffix Global) : Type 0 where
  pub head : to.head ≡ from.head
  pub rest : (behind : List Shown) → text (closed_suffixes (reverse all.items) behind) ≡ to.operand_rest behind
  pub level : IsOperand to

suffixes_go : (w : Writing) (t : Grows) (h : Head) (ls : List Suffix) → w ≡ from_primary h t → (suffixed w (map written_suffix ls)).head ≡ w.head
    × ((behind : List Shown) → t (closed_suffixes ls behind) ≡ (suffixed w (map written_suffix ls)).operand_rest behind) × IsOperand (suffixed w (map written_suffix ls))
suffixes_go w t h [] e = (refl, λ Y. ap (λ z. z.operand_rest Y) (sym e), is_primary h t e)
suffixes_go w t h (k ∷ ls) e =
    let all = map written_suffix (k ∷ ls) in
    let d : postfix_by w.primary_rest w.head all ≡ from_operand h (λ behind. t (each (λ x. x) all (form suffixes [] ∷ behind))) = ap (λ z. postfix_by z.primary_rest z.head all) e in
    (ap (λ z. z.head) d ∙ ap (λ z. z.head) (sym e), λ Y. ap (λ z. z.operand_rest Y) (sym d), is_operand h (λ behind. t (each (λ x. x) all (form suffixes [] ∷ behind))) d)

pub suffixed_goes : (w : Writing) (t : Grows) (h : Head) (all : Vec Suffix Global) → w ≡ from_primary h t → Suffixed w (with_suffixes w all) t all
suffixed_goes w t h all e = let g = suffixes_go w t h (reverse all.items) e in record { head = g.0; rest = g.1; level = g.2 }

-- an operand that begins with a name
pub record Named (n : Name) (c : Option (Vec Argument Global)) (all : Vec Suffix Global) : Type 0 where
  pub head : (named_operand n c all).head ≡ by_name n
  pub rest : (behind : List Shown) → called_text c (closed_suffixes (reverse all.items) behind) ≡ (named_operand n c all).operand_rest behind
  pub level : IsOperand (named_operand n c all)

named_text : (n : Name) (c : Option (Vec Argument Global)) (ls : List Suffix) → (suffixed (called_by n c) (map written_suffix ls)).head ≡ by_name n
    × ((behind : List Shown) → called_text c (closed_suffixes ls behind) ≡ (suffixed (called_by n c) (map written_suffix ls)).operand_rest behind) × IsOperand (suffixed (called_by n c) (map written_suffix ls))
named_text n None [] = (refl, λ Y. refl, record { product = record { total = record { range = record { comparison = record { conjunction = record { disjunction = record { alone = refl }; alone = refl }; alone = refl }; alone = refl }; alone = refl }; alone = refl }; alone = refl })
named_text n None (k ∷ ls) = (refl, λ Y. refl, record { product = record { total = record { range = record { comparison = record { conjunction = record { disjunction = record { alone = refl }; alone = refl }; alone = refl }; alone = refl }; alone = refl }; alone = refl }; alone = refl })
named_text n (Some a) [] = (refl, λ Y. refl, record { product = record { total = record { range = record { comparison = record { conjunction = record { disjunction = record { alone = refl }; alone = refl }; alone = refl }; alone = refl }; alone = refl }; alone = refl }; alone = refl })
named_text n (Some a) (k ∷ ls) = (refl, λ Y. refl, record { product = record { total = record { range = record { comparison = record { conjunction = record { disjunction = record { alone = refl }; alone = refl }; alone = refl }; alone = refl }; alone = refl }; alone = refl }; alone = refl })

pub named_goes : (n : Name) (c : Option (Vec Argument Global)) (all : Vec Suffix Global) → Named n c all
named_goes n c all = let g = named_text n c (reverse all.items) in record { head = g.0; rest = g.1; level = g.2 }
