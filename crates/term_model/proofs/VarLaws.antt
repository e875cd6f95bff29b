-- The definition of a variable that is found is there, and of the variable's kind.
use Rattle.std.proofs.Common.{◌≡◌, ℕ, zero, suc, ◌<◌, Bool, true, false, List, [], ◌∷◌, Option, Some, None, length, refl, sym, ap, ◌∙◌, subst, arith, true≢false, fold, slice_get, IsSome, is_some, set, map}
use Rattle.std.specs.Prelude.{nat_eq, unwrap_or, if◌then◌else◌}
use Rattle.std.specs.Option.{option_map}
use Rattle.term_model.specs.Definitions.{definition_of, note, is_of}
use Rattle.term_model.specs.Kinds.{kinds_in, kind_of_term}
use Rattle.term_model.specs.Wellformed.{IsWellFormed}
use Rattle.term_model.specs.declared.model.VarDecl.{VarDecl}
use Rattle.term_model.specs.declared.model.Definition.{Definition}
use Rattle.term_model.specs.declared.model.Model.{Model}
use Rattle.term_model.specs.declared.model.Posted.{Posted}
use Rattle.term_model.specs.declared.model.Posted.TheVariants.{Define, Constrain, Part}

-- ---- a definition that is found is there, and of the variable
abbrev IsFound : List Definition → ℕ → Option ℕ → Type 0
IsFound defs i None = Unit {0}
IsFound defs i (Some d) = (def : Definition) × (slice_get defs d ≡ Some def) × (def.var.index ≡ i)

eq_of : (a b : ℕ) → nat_eq a b ≡ true → a ≡ b
eq_of a b h = grind (arith, h)

of_is : (defs : List Definition) (i d : ℕ) (found : Option Definition) → slice_get defs d ≡ found → unwrap_or (option_map (λ (def : Definition). nat_eq def.var.index i) found) false ≡ true → IsFound defs i (Some d)
of_is defs i d (Some def) e h = (def, e, eq_of def.var.index i h)
of_is defs i d None e h = absurd (true≢false (sym h))

found_or : (defs : List Definition) (i d : ℕ) (so_far : Option ℕ) (is : Bool) → is_of defs i d ≡ is → IsFound defs i so_far → IsFound defs i (if is then Some d else so_far)
found_or defs i d so_far true e found = of_is defs i d (slice_get defs d) refl e
found_or defs i d so_far false e found = found

found_step : (defs : List Definition) (i : ℕ) (so_far : Option ℕ) (p : Posted) → IsFound defs i so_far → IsFound defs i (note defs i so_far p)
found_step defs i so_far (Define d) found = found_or defs i d so_far (is_of defs i d) refl found
found_step defs i so_far (Constrain system member) found = found
found_step defs i so_far (Part objective member) found = found

found_all : (defs : List Definition) (i : ℕ) (so_far : Option ℕ) (posted : List Posted) → IsFound defs i so_far → IsFound defs i (fold (note defs i) so_far posted)
found_all defs i so_far [] found = found
found_all defs i so_far (p ∷ posted) found = found_all defs i (note defs i so_far p) posted (found_step defs i so_far p found)

pub definition_found : (M : Model) (i d : ℕ) → definition_of M i ≡ Some d → (def : Definition) × (slice_get M.defs.items d ≡ Some def) × (def.var.index ≡ i)
definition_found M i d e = subst (IsFound M.defs.items i) e (found_all M.defs.items i None M.posted.items tt)

-- ---- kinds
is_some_of : {X : Type 0} (o : Option X) (x : X) → o ≡ Some x → IsSome o
is_some_of o x e = ap is_some e

pub entry_there : (M : Model) (i d : ℕ) → definition_of M i ≡ Some d → IsSome (slice_get M.defs.items d)
entry_there M i d e = let found = definition_found M i d e in is_some_of (slice_get M.defs.items d) found.0 found.1

pub kind_of_definition : (M : Model) → IsWellFormed M → (i d : ℕ) (def : Definition) → definition_of M i ≡ Some d → slice_get M.defs.items d ≡ Some def →
    kind_of_term (kinds_in M.vars.items) def.term ≡ kinds_in M.vars.items i
kind_of_definition M formed i d def e there =
    let found = definition_found M i d e in
    let same : Some def ≡ Some found.0 = sym there ∙ found.1 in
    let index : def.var.index ≡ i = ap (λ (o : Option Definition). unwrap_or (option_map (λ (d : Definition). d.var.index) o) i) same ∙ found.2 in
    (formed.defs d def there).kind ∙ ap (kinds_in M.vars.items) index

pub kind_within : (vars : List VarDecl) (i : ℕ) → i < length vars → IsSome (kinds_in vars i)
kind_within [] i lt = absurd (omega arith)
kind_within (v ∷ vars) zero lt = refl
kind_within (v ∷ vars) (suc i) lt = kind_within vars i (omega arith)

pub definition_kinded : (M : Model) → IsWellFormed M → (i : ℕ) → i < length M.vars.items → (d : ℕ) (def : Definition) → definition_of M i ≡ Some d → slice_get M.defs.items d ≡ Some def →
    IsSome (kind_of_term (kinds_in M.vars.items) def.term)
definition_kinded M formed i lt d def e there = subst IsSome (sym (kind_of_definition M formed i d def e there)) (kind_within M.vars.items i lt)

-- ---- places in lists
pub set_same : {X : Type 0} (xs : List X) (i : ℕ) (v : X) → i < length xs → slice_get (set xs i v) i ≡ Some v
set_same [] i v lt = absurd (omega arith)
set_same (x ∷ xs) zero v lt = refl
set_same (x ∷ xs) (suc i) v lt = set_same xs i v (omega arith)

pub named_at : (f : Option ℕ → List ℕ) (entries : List (Option ℕ)) (i : ℕ) (entry : Option ℕ) → slice_get entries i ≡ Some entry → slice_get (map f entries) i ≡ Some (f entry)
named_at f [] i entry e = let c : None ≡ Some entry = e in cc
named_at f (x ∷ entries) zero entry e = ap (λ o. option_map f o) e
named_at f (x ∷ entries) (suc i) entry e = named_at f entries i entry e
