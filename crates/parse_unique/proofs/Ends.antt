-- A derivation ends a program once.
use Rattle.std.specs.Prelude.{ℕ, Bool, true, false, List, [], ◌∷◌, ◌&&◌, ◌||◌, not, ◌≡◌, refl}
use Rattle.std.proofs.Common.{sym, ◌∙◌, ap, suc}
use Rattle.comet_syntax.specs.declared.token.Token.{Token}
use Rattle.comet_syntax.specs.Grammar.Symbols.{Part, Symbol, token, same, deeper, default, program, top, result_kind, parameters, parameters_tail, parameter, parameter_kind, brackets, template, class_name, block, statements, statement, otherwise, optional_value, for_start, for_step, events, with_mode, generators, generators_tail, condition, generator, declaration, int_rest, start_value, variable_rest, domain, variable_start, maker, dimensions, dimensions_tail, dimension, dimension_rest, simple, named_simple, new_value, write, first_name, item, items_tail, expression, branches, or_tail, and_tail, comparison_tail, range_tail, total_tail, product_tail, operand, unnamed, pair, pair_named, literal, extreme, postfix, called, suffixes, second, arguments, listed, arguments_tail, argument}
use Rattle.comet_syntax.specs.Grammar.Programs.{program_top}
use Rattle.comet_syntax.specs.Grammar.Alternatives.{alternatives}
use Rattle.comet_syntax.specs.Derivation.{Item, want, part, push, Event, OneOf, here, there, Derives, ends, reads, takes}
use Rattle.comet_syntax.specs.Refusal.{Whole}
use Rattle.comet_syntax.specs.Written.Shown.{kept}
use Rattle.parse_unique.proofs.Values as values

abbrev is_program : Part → Bool
is_program program = true
is_program n = false

abbrev and_program : Part → ℕ → ℕ
and_program program k = suc k
and_program n k = k

abbrev part_of : Symbol → Bool
part_of (token m k) = false
part_of (same n) = is_program n
part_of (deeper n) = is_program n
part_of (default b n) = is_program n

abbrev has_program : List Symbol → Bool
has_program [] = false
has_program (x ∷ f) = part_of x || has_program f

abbrev none_has : List (List Symbol) → Bool
none_has [] = true
none_has (f ∷ fs) = not (has_program f) && none_has fs

-- no part but a program has programs in it
inner : (n : Part) → (is_program n || none_has (alternatives n)) ≡ true
inner program = refl
inner top = refl
inner result_kind = refl
inner parameters = refl
inner parameters_tail = refl
inner parameter = refl
inner parameter_kind = refl
inner brackets = refl
inner template = refl
inner class_name = refl
inner block = refl
inner statements = refl
inner statement = refl
inner otherwise = refl
inner optional_value = refl
inner for_start = refl
inner for_step = refl
inner events = refl
inner with_mode = refl
inner generators = refl
inner generators_tail = refl
inner condition = refl
inner generator = refl
inner declaration = refl
inner int_rest = refl
inner start_value = refl
inner variable_rest = refl
inner domain = refl
inner variable_start = refl
inner maker = refl
inner dimensions = refl
inner dimensions_tail = refl
inner dimension = refl
inner dimension_rest = refl
inner simple = refl
inner named_simple = refl
inner new_value = refl
inner write = refl
inner first_name = refl
inner item = refl
inner items_tail = refl
inner expression = refl
inner branches = refl
inner or_tail = refl
inner and_tail = refl
inner comparison_tail = refl
inner range_tail = refl
inner total_tail = refl
inner product_tail = refl
inner operand = refl
inner unnamed = refl
inner pair = refl
inner pair_named = refl
inner literal = refl
inner extreme = refl
inner postfix = refl
inner called = refl
inner suffixes = refl
inner second = refl
inner arguments = refl
inner listed = refl
inner arguments_tail = refl
inner argument = refl

-- how many programs are still to come
abbrev programs : List Item → ℕ
programs [] = 0
programs (want m k ∷ items) = programs items
programs (part n d ∷ items) = and_program n (programs items)

and_none : (n : Part) (k : ℕ) → is_program n ≡ false → and_program n k ≡ k
and_none program k h = absurd cc
and_none n k h = refl

ends_none : (n : Part) (f : List Symbol) (k : ℕ) → is_program n ≡ false → values.ends_of n f k ≡ k
ends_none program f k h = absurd cc
ends_none n f k h = refl

false_left : (a b : Bool) → (a || b) ≡ false → a ≡ false
false_left true b h = absurd cc
false_left false b h = refl

false_right : (a b : Bool) → (a || b) ≡ false → b ≡ false
false_right true b h = absurd cc
false_right false b h = h

pushed : (f : List Symbol) (d : ℕ) (items : List Item) → has_program f ≡ false → programs (push f d items) ≡ programs items
pushed [] d items h = refl
pushed (token m k ∷ f) d items h = pushed f d items h
pushed (same n ∷ f) d items h = and_none n (programs (push f d items)) (false_left (is_program n) (has_program f) h) ∙ pushed f d items (false_right (is_program n) (has_program f) h)
pushed (deeper n ∷ f) d items h = and_none n (programs (push f d items)) (false_left (is_program n) (has_program f) h) ∙ pushed f d items (false_right (is_program n) (has_program f) h)
pushed (default b n ∷ f) d items h = and_none n (programs (push f d items)) (false_left (is_program n) (has_program f) h) ∙ pushed f d items (false_right (is_program n) (has_program f) h)

not_has : (fs : List (List Symbol)) (f : List Symbol) → none_has fs ≡ true → OneOf fs f → has_program f ≡ false
not_has [] f h o = elim o [ ]
not_has (g ∷ fs) f h here = by_first (has_program g) (none_has fs) h
  where
    by_first : (a b : Bool) → (not a && b) ≡ true → a ≡ false
    by_first true b h = absurd cc
    by_first false b h = refl
not_has (g ∷ fs) f h (there o) = not_has fs f (by_rest (has_program g) (none_has fs) h) o
  where
    by_rest : (a b : Bool) → (not a && b) ≡ true → b ≡ true
    by_rest true b h = absurd cc
    by_rest false b h = h

of_program : (f : List Symbol) (d : ℕ) (items : List Item) → OneOf ([] ∷ program_top ∷ []) f → values.ends_of program f (programs (push f d items)) ≡ suc (programs items)
of_program f d items here = refl
of_program f d items (there here) = refl
of_program f d items (there (there o)) = elim o [ ]

of_other : (n : Part) (f : List Symbol) (d : ℕ) (items : List Item) → is_program n ≡ false → none_has (alternatives n) ≡ true → OneOf (alternatives n) f
    → values.ends_of n f (programs (push f d items)) ≡ and_program n (programs items)
of_other n f d items h table o = ends_none n f (programs (push f d items)) h ∙ (pushed f d items (not_has (alternatives n) f table o) ∙ sym (and_none n (programs items) h))

taken : (n : Part) (f : List Symbol) (d : ℕ) (items : List Item) → OneOf (alternatives n) f → values.ends_of n f (programs (push f d items)) ≡ and_program n (programs items)
taken program f d items o = of_program f d items o
taken n f d items o = of_other n f d items refl (inner n) o

pub ends_once : {A : ℕ → Type 0} {items : List Item} {events : List Event} {ts : List Token} → Derives A Whole items events ts → values.ends (kept events) ≡ programs items
ends_once (ends e) = sym (ap programs e.0)
ends_once (reads {m = true} e r) = ends_once r
ends_once (reads {m = false} e r) = ends_once r
ends_once (takes {n = n} {d = d} {items = items} f a o may r) = ap (values.ends_of n f) (ends_once r) ∙ taken n f d items o
