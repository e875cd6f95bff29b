-- What is true of this grammar, by computation: no two forms of a part begin alike.
use Rattle.std.specs.Prelude.{ℕ, Bool, true, false, List, [], ◌∷◌, ◌||◌, ◌≡◌, refl, ◌&&◌, not, nat_lt}
use Rattle.comet_syntax.specs.Grammar.Kinds.{Kind, one_of}
use Rattle.comet_syntax.specs.Grammar.Symbols.{Part, Symbol, token, same, deeper, default, program, top, result_kind, parameters, parameters_tail, parameter, parameter_kind, brackets, template, class_name, block, statements, statement, otherwise, optional_value, for_start, for_step, events, with_mode, generators, generators_tail, condition, generator, declaration, int_rest, start_value, variable_rest, domain, variable_start, maker, dimensions, dimensions_tail, dimension, dimension_rest, simple, named_simple, new_value, write, first_name, item, items_tail, expression, branches, or_tail, and_tail, comparison_tail, range_tail, total_tail, product_tail, operand, unnamed, pair, pair_named, literal, extreme, postfix, called, suffixes, second, arguments, listed, arguments_tail, argument}
use Rattle.comet_syntax.specs.Grammar.Alternatives.{alternatives}
use Rattle.comet_syntax.specs.Grammar.Heads.{heads}
use Rattle.parse_base.specs.Reading.{is_default}

abbrev pub some_empty : List (List Symbol) → Bool
some_empty [] = false
some_empty (b ∷ bs) = is_default b || some_empty bs

-- the form is empty, or begins with what is never empty
abbrev pub solid_head : List Symbol → Bool
solid_head [] = true
solid_head (token m k ∷ body) = true
solid_head (same m ∷ body) = not (some_empty (alternatives m))
solid_head (default c m ∷ body) = true
solid_head (deeper m ∷ body) = not (some_empty (alternatives m))

abbrev pub all_solid : List (List Symbol) → Bool
all_solid [] = true
all_solid (b ∷ bs) = solid_head b && all_solid bs

abbrev pub disjoint : List Kind → List Kind → Bool
disjoint [] js = true
disjoint (k ∷ ks) js = not (one_of js k) && disjoint ks js

abbrev pub empty : List Symbol → Bool
empty b = is_default b

-- no two forms begin alike, and one at most is empty
abbrev pub apart_from : List Symbol → List (List Symbol) → Bool
apart_from b [] = true
apart_from b (c ∷ cs) = disjoint (heads b) (heads c) && (not (empty b && empty c) && apart_from b cs)

abbrev pub apart : List (List Symbol) → Bool
apart [] = true
apart (b ∷ bs) = apart_from b bs && apart bs

-- a part's rank is above that of each part that begins a form of it
abbrev pub rank : Part → ℕ
rank program = 4
rank top = 3
rank result_kind = 0
rank parameters = 2
rank parameters_tail = 0
rank parameter = 1
rank parameter_kind = 0
rank brackets = 0
rank template = 0
rank class_name = 0
rank block = 0
rank statements = 3
rank statement = 2
rank otherwise = 0
rank optional_value = 4
rank for_start = 0
rank for_step = 2
rank events = 0
rank with_mode = 0
rank generators = 1
rank generators_tail = 0
rank condition = 0
rank generator = 0
rank declaration = 1
rank int_rest = 0
rank start_value = 0
rank variable_rest = 0
rank domain = 0
rank variable_start = 0
rank maker = 0
rank dimensions = 0
rank dimensions_tail = 0
rank dimension = 2
rank dimension_rest = 0
rank simple = 1
rank named_simple = 0
rank new_value = 4
rank write = 0
rank first_name = 0
rank item = 4
rank items_tail = 0
rank expression = 3
rank branches = 0
rank or_tail = 0
rank and_tail = 0
rank comparison_tail = 0
rank range_tail = 0
rank total_tail = 0
rank product_tail = 0
rank operand = 2
rank unnamed = 1
rank pair = 2
rank pair_named = 0
rank literal = 0
rank extreme = 0
rank postfix = 1
rank called = 0
rank suffixes = 0
rank second = 0
rank arguments = 6
rank listed = 5
rank arguments_tail = 0
rank argument = 4

abbrev pub below : ℕ → List Symbol → Bool
below n [] = true
below n (token m k ∷ body) = true
below n (same m ∷ body) = nat_lt (rank m) n
below n (default c m ∷ body) = true
below n (deeper m ∷ body) = nat_lt (rank m) n

abbrev pub all_below : ℕ → List (List Symbol) → Bool
all_below n [] = true
all_below n (b ∷ bs) = below n b && all_below n bs

pub are_solid : (n : Part) → all_solid (alternatives n) ≡ true
are_solid program = refl
are_solid _ = refl

pub are_apart : (n : Part) → apart (alternatives n) ≡ true
are_apart program = refl
are_apart _ = refl

pub are_below : (n : Part) → all_below (rank n) (alternatives n) ≡ true
are_below program = refl
are_below _ = refl
