-- A loop over parts in a row keeps what is left of the row: from here it is the whole. A part that gives something keeps
-- it, a part that halts the run halts the whole, and behind the last part the whole is what was made.
use Rattle.std.proofs.Common.{◌≡◌, refl, sym, subst, ap, ◌∙◌, ℕ, zero, suc, ◌+◌, ◌<◌, ◌≤◌, List, [], ◌∷◌, ◌++◌, map, length, drop, get_or, Option, Some, arith}
use Rattle.std.specs.Prelude.{slice_get}
use Rattle.std.proofs.lemmas.List.{at_drop_more, at_drop_all}
use Rattle.std.proofs.lemmas.Option.{none-some, same_Some}
use Rattle.cbl_base.specs.declared.place.Place.{Place}
use Rattle.comet_syntax.specs.declared.tree.expressions.ChainOperator.{ChainOperator}
use Rattle.checked_tree.specs.declared.kind.Kind.{Kind}
use Rattle.checked_tree.specs.Shape as shapes
use Rattle.checked_tree.specs.Shape.{Shape, Seen, whole, rows, wholes}
use Rattle.checked_tree.specs.Actions.{Shown, Sized}
use Rattle.checked_tree.specs.Tasks.{Work, row_of}
use Rattle.comet_meaning.specs.Values.{Value, Number, Bounds}
use Rattle.comet_meaning.specs.State.{State, Left, left}
use Rattle.comet_meaning.specs.Outcome.{Outcome, Went, Halted, Halt, then_do}
use Rattle.comet_meaning.specs.Levels.{Level, Flow, Next, Returned}
use Rattle.comet_meaning.specs.Parts.{items, value, values, bounds}
use Rattle.comet_meaning.specs.Operators.{link_form, links_form}
use Rattle.comet_meaning.specs.Cells.{put}
use Rattle.comet_meaning.specs.Generators.{Bound, bind}
use Rattle.comet_meaning.specs.Declarations.{Dimension, dimensions_form}
use Rattle.comet_meaning.specs.Calls.{argument_form, arguments_form, own_array, own_arrays}
use Rattle.comet_meaning.specs.Printing.{shown_form, print_form}
use Rattle.comet_meaning.specs.Loops.{tasks, then_next, tasks_form}
use Rattle.comet_meaning.specs.Onward.{IsOnward, left_by}
use Rattle.comet_meaning.proofs.GoingParts.{LevelGoesOn, goes_values, goes_links, goes_bind}
use Rattle.comet_meaning.proofs.GoingExpressions.{goes_arguments, goes_own_arrays}
use Rattle.comet_meaning.proofs.GoingDeclarations.{goes_dimensions}
use Rattle.comet_meaning.proofs.GoingStatements.{goes_printing, goes_then_next, goes_tasks}
use Rattle.comet_meaning.proofs.Endings.{went_then, halted_then, Passes, passes_to}

-- rows as lists

pub items_rows : (xs : List Shape) → items (rows xs) ≡ xs
items_rows [] = refl
items_rows (x ∷ xs) = ap (λ ys. x ∷ ys) (items_rows xs)

-- the same of expressions as something else gives them
pub items_wholes_of : {X : Type 0} (f : X → Seen) (xs : List X) → items (wholes (map f xs)) ≡ map (λ x. whole (f x)) xs
items_wholes_of f [] = refl
items_wholes_of f (x ∷ xs) = ap (λ ys. whole (f x) ∷ ys) (items_wholes_of f xs)

pub tasks_row : (ws : List Work) → tasks (row_of ws) ≡ ws
tasks_row [] = refl
tasks_row (w ∷ ws) = ap (λ ys. w ∷ ys) (tasks_row ws)

-- what is left of a row that is mapped

pub at_next : {X Y Z : Type 0} (F : List Y → Z) (f : X → Y) (xs : List X) (i : ℕ) (x : X) → i < length xs → x ≡ get_or xs i x → F (map f (drop i xs)) ≡ F (f x ∷ map f (drop (i + 1) xs))
at_next F f xs i x h is = at_drop_more (λ ys. F (map f ys)) xs i x h ∙ ap (λ y. F (f y ∷ map f (drop (i + 1) xs))) (sym is)

pub at_end : {X Y Z : Type 0} (F : List Y → Z) (f : X → Y) (xs : List X) (i : ℕ) → length xs ≤ i → F (map f (drop i xs)) ≡ F []
at_end F f xs i h = at_drop_all (λ ys. F (map f ys)) xs i h

-- an element that is found stands there
pub found_stands : {X : Type 0} (xs : List X) (i : ℕ) (x : X) → slice_get xs i ≡ Some x → (i < length xs) × (x ≡ get_or xs i x)
found_stands [] i x e = absurd (none-some x e)
found_stands (y ∷ ys) zero x e = (omega arith, sym (same_Some y x e))
found_stands (y ∷ ys) (suc i) x e = let p = found_stands ys i x e in (omega (arith, p.0), p.1)

-- values

pub record ValuesLeft {X : Type 0} (l : Level) (f : X → Shape) (xs : List X) (i : ℕ) (vs : List Value) (s : State) (w : Outcome (List Value)) : Type 0 where
  pub left : values l (map f (drop i xs)) vs s ≡ w

pub values_start : {X : Type 0} (l : Level) (f : X → Shape) (xs : List X) (es : List Shape) (s : State) → es ≡ map f xs → ValuesLeft l f xs 0 [] s (values l es [] s)
values_start l f xs es s e = record { left = ap (λ ys. values l ys [] s) (sym e) }

module _ {X : Type 0} {l : Level} {f : X → Shape} {xs : List X} {i : ℕ} {vs : List Value} {s : State} {w : Outcome (List Value)} (m : ValuesLeft l f xs i vs s w) where
  pub values_end : length xs ≤ i → w ≡ Went vs s
  unfolding values
  values_end h = sym m.left ∙ at_end (λ ys. values l ys vs s) f xs i h

  pub values_onward : LevelGoesOn l → IsOnward (left s) (left_by w)
  values_onward k = subst (λ o. IsOnward (left s) (left_by o)) m.left ((goes_values l k (map f (drop i xs)) vs).from s)

  module _ (x : X) (h : i < length xs) (is : x ≡ get_or xs i x) where
    pub values_at : then_do (value l (f x) s) (λ v. values l (map f (drop (i + 1) xs)) (vs ++ v ∷ [])) ≡ w
    unfolding values
    values_at = sym (at_next (λ ys. values l ys vs s) f xs i x h is) ∙ m.left

    pub values_step : {v : Value} {t : State} → value l (f x) s ≡ Went v t → ValuesLeft l f xs (i + 1) (vs ++ v ∷ []) t w
    values_step e = record { left = sym (went_then _ e) ∙ values_at }

    pub values_halt : {h : Halt} {t : Left} → value l (f x) s ≡ Halted h t → w ≡ Halted h t
    values_halt e = sym values_at ∙ halted_then _ e

    pub values_err : (P : (A : Type 0) → Outcome A → Type 0) → Passes P → LevelGoesOn l → P Value (value l (f x) s) → P (List Value) w
    values_err P through k e = passes_to P through _ _ values_at (λ v. goes_values l k _ _) e

-- statements

pub record TasksLeft {X : Type 0} (l : Level) (f : X → Work) (xs : List X) (i : ℕ) (s : State) (w : Outcome Flow) : Type 0 where
  pub left : tasks_form l (map f (drop i xs)) s ≡ w

pub tasks_start : {X : Type 0} (l : Level) (f : X → Work) (xs : List X) (ws : List Work) (s : State) → ws ≡ map f xs → TasksLeft l f xs 0 s (tasks_form l ws s)
tasks_start l f xs ws s e = record { left = ap (λ ys. tasks_form l ys s) (sym e) }

module _ {X : Type 0} {l : Level} {f : X → Work} {xs : List X} {i : ℕ} {s : State} {w : Outcome Flow} (m : TasksLeft l f xs i s w) where
  pub tasks_end : length xs ≤ i → w ≡ Went Next s
  unfolding tasks_form
  tasks_end h = sym m.left ∙ at_end (λ ys. tasks_form l ys s) f xs i h

  pub tasks_onward : LevelGoesOn l → IsOnward (left s) (left_by w)
  tasks_onward k = subst (λ o. IsOnward (left s) (left_by o)) m.left ((goes_tasks l k (map f (drop i xs))).from s)

  module _ (x : X) (h : i < length xs) (is : x ≡ get_or xs i x) where
    pub tasks_at : then_do (l.stmt (f x) s) (λ flow. then_next (tasks_form l (map f (drop (i + 1) xs))) flow) ≡ w
    unfolding tasks_form
    tasks_at = sym (at_next (λ ys. tasks_form l ys s) f xs i x h is) ∙ m.left

    pub tasks_step : {t : State} → l.stmt (f x) s ≡ Went Next t → TasksLeft l f xs (i + 1) t w
    tasks_step e = record { left = sym (went_then _ e) ∙ tasks_at }

    pub tasks_return : {v : Option Value} {t : State} → l.stmt (f x) s ≡ Went (Returned v) t → w ≡ Went (Returned v) t
    tasks_return e = sym tasks_at ∙ went_then _ e

    pub tasks_halt : {h : Halt} {t : Left} → l.stmt (f x) s ≡ Halted h t → w ≡ Halted h t
    tasks_halt e = sym tasks_at ∙ halted_then _ e

    pub tasks_err : (P : (A : Type 0) → Outcome A → Type 0) → Passes P → LevelGoesOn l → P Flow (l.stmt (f x) s) → P Flow w
    tasks_err P through k e = passes_to P through _ _ tasks_at (λ flow. goes_then_next (goes_tasks l k _) flow) e

-- operands of a chain

pub record LinksLeft {X : Type 0} (l : Level) (f : X → Shape) (xs : List X) (i : ℕ) (v : Value) (s : State) (w : Outcome Value) : Type 0 where
  pub left : links_form l (map f (drop i xs)) v s ≡ w

pub links_start : {X : Type 0} (l : Level) (f : X → Shape) (xs : List X) (es : List Shape) (v : Value) (s : State) → es ≡ map f xs → LinksLeft l f xs 0 v s (links_form l es v s)
links_start l f xs es v s e = record { left = ap (λ ys. links_form l ys v s) (sym e) }

module _ {X : Type 0} {l : Level} {f : X → Shape} {xs : List X} {i : ℕ} {v : Value} {s : State} {w : Outcome Value} (m : LinksLeft l f xs i v s w) where
  pub links_end : length xs ≤ i → w ≡ Went v s
  unfolding links_form
  links_end h = sym m.left ∙ at_end (λ ys. links_form l ys v s) f xs i h

  pub links_onward : LevelGoesOn l → IsOnward (left s) (left_by w)
  links_onward k = subst (λ o. IsOnward (left s) (left_by o)) m.left ((goes_links l k (map f (drop i xs)) v).from s)

  module _ {o : ChainOperator} {at : Place} {e : Shape} (x : X) (h : i < length xs) (is : x ≡ get_or xs i x) (link : f x ≡ shapes.link o at e) where
    pub links_at : then_do (link_form l at o e v s) (λ u. links_form l (map f (drop (i + 1) xs)) u) ≡ w
    unfolding links_form
    links_at = sym (at_next (λ ys. links_form l ys v s) f xs i x h is ∙ ap (λ y. links_form l (y ∷ map f (drop (i + 1) xs)) v s) link) ∙ m.left

    pub links_step : {u : Value} {t : State} → link_form l at o e v s ≡ Went u t → LinksLeft l f xs (i + 1) u t w
    links_step e = record { left = sym (went_then _ e) ∙ links_at }

    pub links_halt : {h : Halt} {t : Left} → link_form l at o e v s ≡ Halted h t → w ≡ Halted h t
    links_halt e = sym links_at ∙ halted_then _ e

    pub links_err : (P : (A : Type 0) → Outcome A → Type 0) → Passes P → LevelGoesOn l → P Value (link_form l at o e v s) → P Value w
    links_err P through k e = passes_to P through _ _ links_at (λ u. goes_links l k _ u) e

-- what is printed

pub record PrintsLeft {X : Type 0} (l : Level) (f : X → Shown) (xs : List X) (i : ℕ) (s : State) (w : Outcome (Unit {0})) : Type 0 where
  pub left : print_form l (map f (drop i xs)) s ≡ w

pub prints_start : {X : Type 0} (l : Level) (f : X → Shown) (xs : List X) (shown : List Shown) (s : State) → shown ≡ map f xs → PrintsLeft l f xs 0 s (print_form l shown s)
prints_start l f xs shown s e = record { left = ap (λ ys. print_form l ys s) (sym e) }

module _ {X : Type 0} {l : Level} {f : X → Shown} {xs : List X} {i : ℕ} {s : State} {w : Outcome (Unit {0})} (m : PrintsLeft l f xs i s w) where
  pub prints_end : length xs ≤ i → w ≡ Went tt s
  unfolding print_form
  prints_end h = sym m.left ∙ at_end (λ ys. print_form l ys s) f xs i h

  pub prints_onward : LevelGoesOn l → IsOnward (left s) (left_by w)
  prints_onward k = subst (λ o. IsOnward (left s) (left_by o)) m.left ((goes_printing l k (map f (drop i xs))).from s)

  module _ (x : X) (h : i < length xs) (is : x ≡ get_or xs i x) where
    pub prints_at : then_do (shown_form l (f x) s) (λ _. print_form l (map f (drop (i + 1) xs))) ≡ w
    unfolding print_form
    prints_at = sym (at_next (λ ys. print_form l ys s) f xs i x h is) ∙ m.left

    pub prints_step : {t : State} → shown_form l (f x) s ≡ Went tt t → PrintsLeft l f xs (i + 1) t w
    prints_step e = record { left = sym (went_then _ e) ∙ prints_at }

    pub prints_halt : {h : Halt} {t : Left} → shown_form l (f x) s ≡ Halted h t → w ≡ Halted h t
    prints_halt e = sym prints_at ∙ halted_then _ e

    pub prints_err : (P : (A : Type 0) → Outcome A → Type 0) → Passes P → LevelGoesOn l → P (Unit {0}) (shown_form l (f x) s) → P (Unit {0}) w
    prints_err P through k e = passes_to P through _ _ prints_at (λ _. goes_printing l k _) e

-- arguments, each with the kind of its parameter

pub record ArgumentsLeft {X : Type 0} (l : Level) (f : X → Shape) (ks : List Kind) (xs : List X) (i : ℕ) (vs : List Value) (s : State) (w : Outcome (List Value)) : Type 0 where
  pub left : arguments_form l (drop i ks) (map f (drop i xs)) vs s ≡ w

pub arguments_start : {X : Type 0} (l : Level) (f : X → Shape) (ks : List Kind) (xs : List X) (es : List Shape) (s : State) → es ≡ map f xs → ArgumentsLeft l f ks xs 0 [] s (arguments_form l ks es [] s)
arguments_start l f ks xs es s e = record { left = ap (λ ys. arguments_form l ks ys [] s) (sym e) }

arguments_of_none : (l : Level) (ks : List Kind) (vs : List Value) (s : State) → arguments_form l ks [] vs s ≡ Went vs s
unfolding arguments_form
arguments_of_none l [] vs s = refl
arguments_of_none l (k ∷ ks) vs s = refl

module _ {X : Type 0} {l : Level} {f : X → Shape} {ks : List Kind} {xs : List X} {i : ℕ} {vs : List Value} {s : State} {w : Outcome (List Value)} (m : ArgumentsLeft l f ks xs i vs s w) where
  pub arguments_end : length xs ≤ i → w ≡ Went vs s
  arguments_end h = sym m.left ∙ at_end (λ ys. arguments_form l (drop i ks) ys vs s) f xs i h ∙ arguments_of_none l (drop i ks) vs s

  -- no parameter is left
  pub parameters_end : length ks ≤ i → w ≡ Went vs s
  unfolding arguments_form
  parameters_end h = sym m.left ∙ at_drop_all (λ js. arguments_form l js (map f (drop i xs)) vs s) ks i h

  pub arguments_onward : LevelGoesOn l → IsOnward (left s) (left_by w)
  arguments_onward k = subst (λ o. IsOnward (left s) (left_by o)) m.left ((goes_arguments l k (drop i ks) (map f (drop i xs)) vs).from s)

  module _ (k : Kind) (x : X) (parameter : slice_get ks i ≡ Some k) (h : i < length xs) (is : x ≡ get_or xs i x) where
    pub arguments_at : then_do (argument_form l k (f x) s) (λ v. arguments_form l (drop (i + 1) ks) (map f (drop (i + 1) xs)) (vs ++ v ∷ [])) ≡ w
    unfolding arguments_form
    arguments_at =
        let p = found_stands ks i k parameter in
        sym (at_drop_more (λ js. arguments_form l js (map f (drop i xs)) vs s) ks i k p.0
        ∙ ap (λ j. arguments_form l (j ∷ drop (i + 1) ks) (map f (drop i xs)) vs s) (sym p.1)
        ∙ at_next (λ ys. arguments_form l (k ∷ drop (i + 1) ks) ys vs s) f xs i x h is)
        ∙ m.left

    pub arguments_step : {v : Value} {t : State} → argument_form l k (f x) s ≡ Went v t → ArgumentsLeft l f ks xs (i + 1) (vs ++ v ∷ []) t w
    arguments_step e = record { left = sym (went_then _ e) ∙ arguments_at }

    pub arguments_halt : {h : Halt} {t : Left} → argument_form l k (f x) s ≡ Halted h t → w ≡ Halted h t
    arguments_halt e = sym arguments_at ∙ halted_then _ e

    pub arguments_err : (P : (A : Type 0) → Outcome A → Type 0) → Passes P → LevelGoesOn l → P Value (argument_form l k (f x) s) → P (List Value) w
    arguments_err P through g e = passes_to P through _ _ arguments_at (λ v. goes_arguments l g _ _ _) e

-- arrays that a function may write

pub record OwnLeft (vs : List Value) (i : ℕ) (ws : List Value) (s : State) (w : Outcome (List Value)) : Type 0 where
  pub left : own_arrays (drop i vs) ws s ≡ w

module _ {vs : List Value} {i : ℕ} {ws : List Value} {s : State} {w : Outcome (List Value)} (m : OwnLeft vs i ws s w) where
  pub own_end : length vs ≤ i → w ≡ Went ws s
  own_end h = sym m.left ∙ at_drop_all (λ ys. own_arrays ys ws s) vs i h

  pub own_onward : IsOnward (left s) (left_by w)
  own_onward = subst (λ o. IsOnward (left s) (left_by o)) m.left ((goes_own_arrays (drop i vs) ws).from s)

  module _ (v : Value) (h : i < length vs) (is : v ≡ get_or vs i v) where
    pub own_at : then_do (own_array v s) (λ u. own_arrays (drop (i + 1) vs) (ws ++ u ∷ [])) ≡ w
    own_at = sym (at_drop_more (λ ys. own_arrays ys ws s) vs i v h ∙ ap (λ y. own_arrays (y ∷ drop (i + 1) vs) ws s) (sym is)) ∙ m.left

    pub own_step : {u : Value} {t : State} → own_array v s ≡ Went u t → OwnLeft vs (i + 1) (ws ++ u ∷ []) t w
    own_step e = record { left = sym (went_then _ e) ∙ own_at }

    pub own_err : (P : (A : Type 0) → Outcome A → Type 0) → Passes P → P Value (own_array v s) → P (List Value) w
    own_err P through e = passes_to P through (own_array v s) (λ u. own_arrays (drop (i + 1) vs) (ws ++ u ∷ [])) own_at (λ u. goes_own_arrays (drop (i + 1) vs) (ws ++ u ∷ [])) e

-- names that get their values

pub record NamesLeft {X : Type 0} (f : X → Bound) (xs : List X) (i : ℕ) (s : State) (w : Outcome (Unit {0})) : Type 0 where
  pub left : bind (map f (drop i xs)) s ≡ w

pub names_start : {X : Type 0} (f : X → Bound) (xs : List X) (known : List Bound) (s : State) → known ≡ map f xs → NamesLeft f xs 0 s (bind known s)
names_start f xs known s e = record { left = ap (λ ys. bind ys s) (sym e) }

module _ {X : Type 0} {f : X → Bound} {xs : List X} {i : ℕ} {s : State} {w : Outcome (Unit {0})} (m : NamesLeft f xs i s w) where
  pub names_end : length xs ≤ i → w ≡ Went tt s
  unfolding bind
  names_end h = sym m.left ∙ at_end (λ ys. bind ys s) f xs i h

  pub names_onward : IsOnward (left s) (left_by w)
  names_onward = subst (λ o. IsOnward (left s) (left_by o)) m.left ((goes_bind (map f (drop i xs))).from s)

  module _ (x : X) (h : i < length xs) (is : x ≡ get_or xs i x) where
    pub names_at : then_do (put (f x).slot (Number (f x).value) s) (λ _. bind (map f (drop (i + 1) xs))) ≡ w
    unfolding bind
    names_at = sym (at_next (λ ys. bind ys s) f xs i x h is) ∙ m.left

    pub names_step : {t : State} → put (f x).slot (Number (f x).value) s ≡ Went tt t → NamesLeft f xs (i + 1) t w
    names_step e = record { left = sym (went_then _ e) ∙ names_at }

    pub names_err : (P : (A : Type 0) → Outcome A → Type 0) → Passes P → P (Unit {0}) (put (f x).slot (Number (f x).value) s) → P (Unit {0}) w
    names_err P through e = passes_to P through _ _ names_at (λ _. goes_bind _) e

-- dimensions of an array

pub record DimensionsLeft {X : Type 0} (l : Level) (f : X → Sized) (xs : List X) (i : ℕ) (ds : List Dimension) (s : State) (w : Outcome (List Dimension)) : Type 0 where
  pub left : dimensions_form l (map f (drop i xs)) ds s ≡ w

pub dimensions_start : {X : Type 0} (l : Level) (f : X → Sized) (xs : List X) (sizes : List Sized) (s : State) → sizes ≡ map f xs → DimensionsLeft l f xs 0 [] s (dimensions_form l sizes [] s)
dimensions_start l f xs sizes s e = record { left = ap (λ ys. dimensions_form l ys [] s) (sym e) }

module _ {X : Type 0} {l : Level} {f : X → Sized} {xs : List X} {i : ℕ} {ds : List Dimension} {s : State} {w : Outcome (List Dimension)} (m : DimensionsLeft l f xs i ds s w) where
  pub dimensions_end : length xs ≤ i → w ≡ Went ds s
  unfolding dimensions_form
  dimensions_end h = sym m.left ∙ at_end (λ ys. dimensions_form l ys ds s) f xs i h

  pub dimensions_onward : LevelGoesOn l → IsOnward (left s) (left_by w)
  dimensions_onward k = subst (λ o. IsOnward (left s) (left_by o)) m.left ((goes_dimensions l k (map f (drop i xs)) ds).from s)

  module _ (x : X) (h : i < length xs) (is : x ≡ get_or xs i x) where
    pub dimensions_at : then_do (bounds l (whole (f x).range) s) (λ b. dimensions_form l (map f (drop (i + 1) xs)) (ds ++ record { slot = (f x).slot; bounds = b } ∷ [])) ≡ w
    unfolding dimensions_form
    dimensions_at = sym (at_next (λ ys. dimensions_form l ys ds s) f xs i x h is) ∙ m.left

    pub dimensions_step : {b : Bounds} {t : State} → bounds l (whole (f x).range) s ≡ Went b t → DimensionsLeft l f xs (i + 1) (ds ++ record { slot = (f x).slot; bounds = b } ∷ []) t w
    dimensions_step e = record { left = sym (went_then _ e) ∙ dimensions_at }

    pub dimensions_halt : {h : Halt} {t : Left} → bounds l (whole (f x).range) s ≡ Halted h t → w ≡ Halted h t
    dimensions_halt e = sym dimensions_at ∙ halted_then _ e

    pub dimensions_err : (P : (A : Type 0) → Outcome A → Type 0) → Passes P → LevelGoesOn l → P Bounds (bounds l (whole (f x).range) s) → P (List Dimension) w
    dimensions_err P through k e = passes_to P through _ _ dimensions_at (λ b. goes_dimensions l k _ _) e
