-- The cycle that is named, found by looking: for each item from the least, and for each length from the least, at the
-- lists of distinct items that begin there, each of which depends on the next, in the order of lists. That what is found
-- is the named cycle is a law. A rule of this project.
use Rattle.std.specs.Prelude.{Vec, ℕ, zero, suc, Bool, true, not, ◌&&◌, List, [], ◌∷◌, ◌++◌, length, map, filter, nat_eq, Option, Some, None}
use Rattle.std.specs.List.{find, list_any, range_with_len}
use Rattle.std.specs.declared.alloc.Global.{Global}
use Rattle.layer_plan.specs.Dependencies.{list_of}
use Rattle.term_model.specs.Definitions.{definition_of, named_by}
use Rattle.term_model.specs.declared.model.Model.{Model}
use Rattle.model_view.specs.Vectors.{vec_of}

-- whether an item depends on another
abbrev pub depends : List (Vec ℕ Global) → ℕ → ℕ → Bool
depends deps v w = list_any (λ x. nat_eq w x) (list_of deps v)

-- the items on which it depends, from the least
abbrev pub nexts : List (Vec ℕ Global) → ℕ → List ℕ
nexts deps v = filter (depends deps v) (range_with_len 0 (length deps))

abbrev pub are_distinct : List ℕ → Bool
are_distinct [] = true
are_distinct (x ∷ xs) = not (list_any (λ y. nat_eq y x) xs) && are_distinct xs

-- the last item of a list that begins with this one
abbrev pub last_behind : ℕ → List ℕ → ℕ
last_behind v [] = v
last_behind v (w ∷ ws) = last_behind w ws

abbrev pub is_cycle : List (Vec ℕ Global) → List ℕ → Bool
is_cycle deps [] = not true
is_cycle deps (v ∷ vs) = are_distinct (v ∷ vs) && depends deps (last_behind v vs) v

-- an item in front of each list
abbrev pub behind : ℕ → List (List ℕ) → List (List ℕ)
behind v ways = map (λ way. v ∷ way) ways

abbrev pub all_ways : List (List (List ℕ)) → List (List ℕ)
all_ways [] = []
all_ways (ways ∷ rest) = ways ++ all_ways rest

-- the lists of so many items and one that begin at an item, each of which depends on the next, in the order of lists
abbrev pub ways_from : List (Vec ℕ Global) → ℕ → ℕ → List (List ℕ)
ways_from deps zero v = (v ∷ []) ∷ []
ways_from deps (suc n) v = behind v (all_ways (map (ways_from deps n) (nexts deps v)))

-- what was found, and else what another search finds
abbrev pub or_else : Option (List ℕ) → (Unit {0} → Option (List ℕ)) → Option (List ℕ)
or_else (Some way) search_on = Some way
or_else None search_on = search_on tt

-- the first shortest cycle that begins at an item, of more than so many items
abbrev pub cycle_from : List (Vec ℕ Global) → ℕ → ℕ → ℕ → Option (List ℕ)
cycle_from deps v zero n = None
cycle_from deps v (suc more) n = or_else (find (is_cycle deps) (ways_from deps n v)) (λ _. cycle_from deps v more (suc n))

abbrev pub cycle_of_one : List (Vec ℕ Global) → List ℕ → Option (List ℕ)
cycle_of_one deps [] = None
cycle_of_one deps (v ∷ vs) = or_else (cycle_from deps v (length deps) 0) (λ _. cycle_of_one deps vs)

unfoldable pub named_cycle : List (Vec ℕ Global) → Option (List ℕ)
named_cycle deps = cycle_of_one deps (range_with_len 0 (length deps))

-- the items of a model are its variables; each depends on those that its definition names, from the least

abbrev pub names : Model → ℕ → ℕ → Bool
names M i d = list_any (λ x. nat_eq d x) (named_by M.defs.items (definition_of M i))

abbrev pub dependencies_of : Model → ℕ → List ℕ
dependencies_of M i = filter (names M i) (range_with_len 0 (length M.vars.items))

abbrev pub dependencies : Model → List (Vec ℕ Global)
dependencies M = map (λ i. vec_of (dependencies_of M i)) (range_with_len 0 (length M.vars.items))
