-- Pure expressions only spend fuel where the pure parts in them do.
use Rattle.std.proofs.Common.{◌≡◌, refl, sym, ℕ, ◌-◌, nat_lt, ℤ, pos, Bool, true, false, not, ◌&&◌, List, [], ◌∷◌, ◌++◌, Option, Some, None, is_some, slice_get, slice_index_or, subst}
use Rattle.cbl_base.specs.declared.place.Place.{Place}
use Rattle.comet_syntax.specs.declared.tree.expressions.ChainOperator.{ChainOperator}
use Rattle.comet_syntax.specs.declared.tree.expressions.ChainOperator.TheVariants as chains
use Rattle.comet_syntax.specs.declared.tree.expressions.Comparison.{Comparison}
use Rattle.comet_syntax.specs.declared.tree.expressions.UnaryOperator.{UnaryOperator}
use Rattle.comet_syntax.specs.declared.tree.expressions.UnaryOperator.TheVariants as unaries
use Rattle.comet_syntax.specs.declared.tree.expressions.Aggregate.{Aggregate}
use Rattle.comet_syntax.specs.declared.tree.expressions.Aggregate.TheVariants as aggregates
use Rattle.checked_tree.specs.declared.kind.Kind.{Kind}
use Rattle.checked_tree.specs.declared.kind.Kind.TheVariants as kinds
use Rattle.checked_tree.specs.declared.expressions.Builtin.{Builtin}
use Rattle.checked_tree.specs.declared.expressions.Builtin.TheVariants as builtins
use Rattle.checked_tree.specs.declared.expressions.Method.{Method}
use Rattle.checked_tree.specs.declared.expressions.Method.TheVariants as methods
use Rattle.checked_tree.specs.declared.expressions.Slot.{Slot}
use Rattle.checked_tree.specs.declared.expressions.Slot.TheVariants.{Global, Local}
use Rattle.checked_tree.specs.Shape as shapes
use Rattle.checked_tree.specs.Shape.{Shape, Seen, whole}
use Rattle.checked_tree.specs.Actions as deeds
use Rattle.checked_tree.specs.Tasks as works
use Rattle.checked_tree.specs.Tasks.{Work, Coded}
use Rattle.type_rules.specs.Rows.{method_row}
use Rattle.comet_meaning.specs.Values.{Value, Range, Variable, Variables, Selector, Move, bounds_of, size_of}
use Rattle.cbl_base.specs.declared.ids.VarId.{VarId}
use Rattle.cbl_base.specs.declared.faults.RunFault.TheVariants.{WrongSolver}
use Rattle.comet_meaning.specs.Solvers.{SolverState, has_variable}
use Rattle.comet_meaning.specs.Moves.{kept_in, has_move, get_move}
use Rattle.cbl_base.specs.declared.faults.RunFault.TheVariants as faults
use Rattle.comet_meaning.specs.Outcome.{Act, ◌>>=◌, give, unless, always}
use Rattle.comet_meaning.specs.Cells.{put}
use Rattle.comet_meaning.specs.Levels.{Code, Level}
use Rattle.comet_meaning.specs.Parts.{items, solver_at, needs_close, variable_value, read, value, number, truth, condition, values}
use Rattle.comet_meaning.specs.Operators.{unary_result, unary_form, compare_form, decides, linked, link_form, links_form, chain_form, range_form, conditional_form}
use Rattle.comet_meaning.specs.Arrays.{list_form, index_form, cell_form, count_form}
use Rattle.comet_meaning.specs.Taking.{read_each, read_array, taken_whole}
use Rattle.comet_meaning.specs.Models.{owns, domain_in, domain_at, domain_of}
use Rattle.comet_meaning.specs.Generators.{Bound, with_bound, bind, generated, each_tuple}
use Rattle.comet_meaning.specs.Builtins.{builtin_value, builtin_form}
use Rattle.comet_meaning.specs.Aggregates.{Element, with_element, element_form, aggregate_value, aggregate_form}
use Rattle.comet_meaning.specs.Methods.{fitting_number, method_value, object_value, asked_value, asked_values, called_form, method_form}
use Rattle.comet_meaning.specs.Purity.{is_pure, is_local, returned_by}
use Rattle.comet_meaning.specs.Calls.{argument_form, arguments_form, body_form, called, call_form}
use Rattle.comet_meaning.specs.Expressions.{set_form, value_of_form, value_of_expression}
use Rattle.comet_meaning.specs.Spending.{OnlySpends, OnlyBinds}
use Rattle.comet_meaning.proofs.SpendingSystems.{spends_value_of, spends_violations, spends_assign_delta, spends_swap_delta}
use Rattle.comet_meaning.proofs.Spending.{binds, spends_then, binds_then, spends_give, spends_fault, spends_if, spends_give_or, spends_unless, spends_charge, spends_at, binds_each_in, spends_look, binds_put, spends_in_scope, binds_in_frame, spends_cells, spends_variables, spends_extent, spends_count_cells, spends_cell_of, spends_found_at}

pub and_left : (a b : Bool) → (a && b) ≡ true → a ≡ true
and_left true b e = refl
and_left false b e = e

pub and_right : (a b : Bool) → (a && b) ≡ true → b ≡ true
and_right true b e = e
and_right false b e = (let no : false ≡ true = e in absurd cc)

-- the pure parts that are one level further in only spend fuel, and so do bodies that return a pure expression
pub record LevelSpends (known : List Bool) (l : Level) : Type 0 where
  pub expr : (e : Shape) → is_pure known e ≡ true → OnlySpends (l.expr e)
  pub term : (e : Shape) → is_pure known e ≡ true → OnlySpends (l.term e)
  pub returns : (at : Place) (e : Seen) → is_pure known (whole e) ≡ true → OnlySpends (l.stmt (works.task at (works.action (deeds.returning (Some e)))))
  pub body : (w : Work) (e : Seen) → returned_by w ≡ Some e → is_pure known (whole e) ≡ true → OnlySpends (l.stmt w)

-- all of these are pure
abbrev pub AllPure : List Bool → List Shape → Type 0
AllPure known [] = Unit {0}
AllPure known (e ∷ es) = (is_pure known e ≡ true) × AllPure known es

pub items_pure : (known : List Bool) (es : Shape) → is_pure known es ≡ true → AllPure known (items es)
items_pure known (shapes.more x xs) p = (and_left (is_pure known x) (is_pure known xs) p, items_pure known xs (and_right (is_pure known x) (is_pure known xs) p))
items_pure known e p = tt

-- reading

spends_variable_value : (at : Place) (x : ℕ) (m : SolverState) → OnlySpends (variable_value at x m)
unfolding variable_value
spends_variable_value at x m = spends_if (has_variable m x) (spends_if (needs_close m x) spends_fault spends_give) spends_fault

spends_read : (at : Place) (v : Value) → OnlySpends (read at v)
unfolding read
spends_read at (Value.Variable x) = spends_at {f = λ s. variable_value at x.index (solver_at s x.solver)} (λ o s. refl) (λ s. spends_variable_value at x.index _)
spends_read at v = spends_give

pub spends_value : (k : List Bool) (l : Level) → LevelSpends k l → (e : Shape) → is_pure k e ≡ true → OnlySpends (value l e)
unfolding value
spends_value k l h e p = spends_then (h.expr e p) (λ v. spends_read _ v)

pub spends_number : (k : List Bool) (l : Level) → LevelSpends k l → (e : Shape) → is_pure k e ≡ true → OnlySpends (number l e)
unfolding number
spends_number k l h e p = spends_then (spends_value k l h e p) (λ v. spends_give)

pub spends_truth : (k : List Bool) (l : Level) → LevelSpends k l → (e : Shape) → is_pure k e ≡ true → OnlySpends (truth l e)
unfolding truth
spends_truth k l h e p = spends_then (spends_value k l h e p) (λ v. spends_give)

pub spends_condition : (k : List Bool) (l : Level) → LevelSpends k l → (e : Shape) → is_pure k e ≡ true → OnlySpends (condition l e)
unfolding condition
spends_condition k l h shapes.left_out p = spends_give
spends_condition k l h e p = spends_truth k l h e p

spends_values : (k : List Bool) (l : Level) → LevelSpends k l → (es : List Shape) (vs : List Value) → AllPure k es → OnlySpends (values l es vs)
unfolding values
spends_values k l h [] vs p = spends_give
spends_values k l h (e ∷ es) vs p = spends_then (spends_value k l h e p.0) (λ v. spends_values k l h es (vs ++ v ∷ []) p.1)

-- operators

spends_unary_result : (at : Place) (o : UnaryOperator) (v : Value) → OnlySpends (unary_result at o v)
spends_unary_result at unaries.Negative v = spends_then (spends_give_or at _) (λ z. spends_give)
spends_unary_result at unaries.Not v = spends_give

spends_unary : (k : List Bool) (l : Level) → LevelSpends k l → (at : Place) (o : UnaryOperator) (e : Shape) → is_pure k e ≡ true → OnlySpends (unary_form l at o e)
unfolding unary_form
spends_unary k l h at o e p = spends_then (spends_value k l h e p) (λ v. spends_unary_result at o v)

spends_compare : (k : List Bool) (l : Level) → LevelSpends k l → (c : Comparison) (a b : Shape) → is_pure k a ≡ true → is_pure k b ≡ true → OnlySpends (compare_form l c a b)
unfolding compare_form
spends_compare k l h c a b p q = spends_then (spends_number k l h a p) (λ x. spends_then (spends_number k l h b q) (λ y. spends_give))

spends_linked : (at : Place) (o : ChainOperator) (v w : Value) → OnlySpends (linked at o v w)
spends_linked at chains.Or v w = spends_give
spends_linked at chains.And v w = spends_give
spends_linked at o v w = spends_then (spends_give_or at _) (λ z. spends_give)

spends_link : (k : List Bool) (l : Level) → LevelSpends k l → (at : Place) (o : ChainOperator) (e : Shape) (v : Value) → is_pure k e ≡ true → OnlySpends (link_form l at o e v)
unfolding link_form
spends_link k l h at o e v p = spends_if (decides o v) spends_give (spends_then (spends_value k l h e p) (λ w. spends_linked at o v w))

spends_links : (k : List Bool) (l : Level) → LevelSpends k l → (links : List Shape) (v : Value) → AllPure k links → OnlySpends (links_form l links v)
unfolding links_form
spends_links k l h [] v p = spends_give
spends_links k l h (shapes.link o at e ∷ links) v p = spends_then (spends_link k l h at o e v p.0) (λ w. spends_links k l h links w p.1)
spends_links k l h (x ∷ links) v p = spends_links k l h links v p.1

spends_chain : (k : List Bool) (l : Level) → LevelSpends k l → (first : Shape) (links : List Shape) → is_pure k first ≡ true → AllPure k links → OnlySpends (chain_form l first links)
unfolding chain_form
spends_chain k l h first links p q = spends_then (spends_value k l h first p) (λ v. spends_links k l h links v q)

spends_range : (k : List Bool) (l : Level) → LevelSpends k l → (a b : Shape) → is_pure k a ≡ true → is_pure k b ≡ true → OnlySpends (range_form l a b)
unfolding range_form
spends_range k l h a b p q = spends_then (spends_number k l h a p) (λ x. spends_then (spends_number k l h b q) (λ y. spends_give))

spends_conditional : (k : List Bool) (l : Level) → LevelSpends k l → (kind : Kind) (c a b : Shape) → is_pure k c ≡ true → is_pure k a ≡ true → is_pure k b ≡ true → OnlySpends (conditional_form l kind c a b)
unfolding conditional_form
spends_conditional k l h kind c a b p q r =
    spends_then (spends_truth k l h c p) (λ t. spends_then (spends_if t (spends_value k l h a q) (spends_value k l h b r)) (λ v. spends_give))

-- arrays

spends_list : (k : List Bool) (l : Level) → LevelSpends k l → (es : List Shape) → AllPure k es → OnlySpends (list_form l es)
unfolding list_form
spends_list k l h es p = spends_then (spends_values k l h es [] p) (λ vs. spends_give)

spends_index : (k : List Bool) (l : Level) → LevelSpends k l → (at : Place) (a i : Shape) → is_pure k a ≡ true → is_pure k i ≡ true → OnlySpends (index_form l at a i)
unfolding index_form
spends_index k l h at a i p q =
    spends_then (spends_value k l h a p) (λ v. spends_then (spends_number k l h i q) (λ z. spends_then (spends_extent v) (λ b. spends_then (spends_found_at at _) (λ n. spends_cell_of v n))))

spends_cell : (k : List Bool) (l : Level) → LevelSpends k l → (at : Place) (a i j : Shape) → is_pure k a ≡ true → is_pure k i ≡ true → is_pure k j ≡ true → OnlySpends (cell_form l at a i j)
unfolding cell_form
spends_cell k l h at a i j p q r =
    spends_then (spends_value k l h a p) (λ v. spends_then (spends_number k l h i q) (λ y. spends_then (spends_number k l h j r) (λ z. spends_then (spends_extent v) (λ b. spends_then (spends_found_at at _) (λ n. spends_cell_of v n)))))

spends_read_each : (at : Place) (xs : List VarId) (vs : List Value) → OnlySpends (read_each at xs vs)
unfolding read_each
spends_read_each at [] vs = spends_give
spends_read_each at (x ∷ xs) vs = spends_then (spends_read at (Variable x)) (λ v. spends_read_each at xs (vs ++ v ∷ []))

spends_read_array : (at : Place) (v : Value) → OnlySpends (read_array at v)
unfolding read_array
spends_read_array at (Variables n) = spends_then (spends_variables (Variables n)) (λ c. spends_then (spends_read_each at c.variables []) (λ vs. spends_give))
spends_read_array at v = spends_cells v

spends_taken_whole : (at : Place) (v : Value) → OnlySpends (taken_whole at v)
unfolding taken_whole
spends_taken_whole at v = spends_then (spends_count_cells v) (λ n. spends_then (spends_charge n at) (λ _. spends_then (spends_read_array at v) (λ c. spends_give)))

spends_count : (k : List Bool) (l : Level) → LevelSpends k l → (at : Place) (a e : Shape) → is_pure k a ≡ true → is_pure k e ≡ true → OnlySpends (count_form l at a e)
unfolding count_form
spends_count k l h at a e p q =
    spends_then (spends_value k l h a p) (λ v. spends_then (spends_number k l h e q) (λ z. spends_then (spends_charge 1 at) (λ _. spends_then (spends_taken_whole _ v) (λ xs. spends_give))))

spends_set : (k : List Bool) (l : Level) → LevelSpends k l → (es : List Shape) → AllPure k es → OnlySpends (set_form l es)
unfolding set_form
spends_set k l h es p = spends_then (spends_values k l h es [] p) (λ vs. spends_give)

-- functions of the language

spends_builtin_value : (at : Place) (f : Builtin) (vs : List Value) → OnlySpends (builtin_value at f vs)
spends_builtin_value at builtins.Abs (x ∷ []) = spends_then (spends_give_or at _) (λ z. spends_give)
spends_builtin_value at builtins.Min (x ∷ y ∷ []) = spends_give
spends_builtin_value at builtins.Max (x ∷ y ∷ []) = spends_give
spends_builtin_value at builtins.Card (s ∷ []) = spends_give
spends_builtin_value at builtins.Member (x ∷ s ∷ []) = spends_give
spends_builtin_value at builtins.Union (s ∷ t ∷ []) = spends_give
spends_builtin_value at builtins.Inter (s ∷ t ∷ []) = spends_give
spends_builtin_value at builtins.Minus (s ∷ t ∷ []) = spends_give
spends_builtin_value at f vs = spends_give

spends_builtin : (k : List Bool) (l : Level) → LevelSpends k l → (at : Place) (f : Builtin) (es : List Shape) → AllPure k es → OnlySpends (builtin_form l at f es)
unfolding builtin_form
spends_builtin k l h at builtins.Count (a ∷ e ∷ []) p = spends_count k l h at a e p.0 p.1.0
spends_builtin k l h at f es p = spends_then (spends_values k l h es [] p) (λ vs. spends_then (spends_charge 1 at) (λ _. spends_builtin_value at f vs))

-- generators and aggregates

-- the names of generators lie in the frame
abbrev pub AllLocal : List Bound → Type 0
AllLocal [] = Unit {0}
AllLocal (b ∷ bs) = (is_local b.slot ≡ true) × AllLocal bs

local_with : (known : List Bound) (slot : Slot) (v : ℤ) → AllLocal known → is_local slot ≡ true → AllLocal (with_bound known slot v)
local_with [] slot v p q = (q, tt)
local_with (b ∷ bs) slot v p q = (p.0, local_with bs slot v p.1 q)

binds_local : (slot : Slot) (v : Value) → is_local slot ≡ true → OnlyBinds (put slot v)
binds_local (Local i) v p = binds_put i v
binds_local (Global i) v p = (let no : false ≡ true = p in absurd cc)

pub binds_bind : (known : List Bound) → AllLocal known → OnlyBinds (bind known)
unfolding bind
binds_bind [] p = binds spends_give
binds_bind (b ∷ bs) p = binds_then (binds_local b.slot _ p.0) (λ _. binds_bind bs p.1)

pub binds_generated : {A : Type 0} (at : Place) (known : List Bound) {next : Act A} → AllLocal known → OnlyBinds next → OnlyBinds (generated at known next)
unfolding generated
binds_generated at known p k = binds_then (binds (spends_charge 1 at)) (λ _. binds_then (binds_bind known p) (λ _. k))

pub binds_each_tuple : {A : Type 0} (k : List Bool) (l : Level) → LevelSpends k l → (at : Place) (more : A → Bool) (visit : ℤ → A → Act A) (known : List Bound) (gs : List Shape) (x : A) → AllLocal known → AllPure k gs → ((v : ℤ) (x : A) → OnlyBinds (visit v x)) → OnlyBinds (each_tuple l at more visit known gs x)
unfolding each_tuple
binds_each_tuple k l h at more visit known (shapes.generator place slot domain ∷ []) x n p q =
    binds_then (binds (spends_value k l h domain (and_right (is_local slot) (is_pure k domain) p.0))) (λ d.
    binds_each_in more _ d x (λ v y. binds_generated at (with_bound known slot v) (local_with known slot v n (and_left (is_local slot) (is_pure k domain) p.0)) (q v y)))
binds_each_tuple k l h at more visit known (shapes.generator place slot domain ∷ g ∷ gs) x n p q =
    binds_then (binds (spends_value k l h domain (and_right (is_local slot) (is_pure k domain) p.0))) (λ d.
    binds_each_in more _ d x (λ v y.
    binds_generated place (with_bound known slot v) (local_with known slot v n (and_left (is_local slot) (is_pure k domain) p.0))
    (binds_each_tuple k l h at more visit (with_bound known slot v) (g ∷ gs) y (local_with known slot v n (and_left (is_local slot) (is_pure k domain) p.0)) p.1 q)))
binds_each_tuple k l h at more visit known gs x n p q = binds spends_give

spends_with_element : (at : Place) (a : Aggregate) (key : ℤ) (xs : List Element) (v : Value) → OnlySpends (with_element at a key xs v)
spends_with_element at aggregates.All key xs v = spends_then (spends_unless _ at _) (λ _. spends_give)
spends_with_element at a key xs v = spends_give

spends_element : (k : List Bool) (l : Level) → LevelSpends k l → (at : Place) (a : Aggregate) (c body : Shape) (key : ℤ) (xs : List Element) → is_pure k c ≡ true → is_pure k body ≡ true → OnlySpends (element_form l at a c body key xs)
unfolding element_form
spends_element k l h at a c body key xs p q =
    spends_then (spends_condition k l h c p) (λ t. spends_if t (spends_then (spends_value k l h body q) (λ v. spends_with_element at a key xs v)) spends_give)

spends_aggregate_value : (at : Place) (a : Aggregate) (xs : List Element) → OnlySpends (aggregate_value at a xs)
spends_aggregate_value at aggregates.Sum xs = spends_then (spends_give_or at _) (λ z. spends_give)
spends_aggregate_value at aggregates.Min xs = spends_then (spends_give_or at _) (λ z. spends_give)
spends_aggregate_value at aggregates.Max xs = spends_then (spends_give_or at _) (λ z. spends_give)
spends_aggregate_value at a xs = spends_give

spends_aggregate : (k : List Bool) (l : Level) → LevelSpends k l → (at : Place) (a : Aggregate) (gs : List Shape) (c body : Shape) → AllPure k gs → is_pure k c ≡ true → is_pure k body ≡ true → OnlySpends (aggregate_form l at a gs c body)
unfolding aggregate_form
spends_aggregate k l h at a gs c body p q r =
    spends_then (spends_in_scope (binds_each_tuple k l h at always _ [] gs [] tt p (λ v xs. binds (spends_element k l h at a c body v xs q r)))) (λ xs. spends_aggregate_value at a xs)

-- methods

spends_fitting_number : (at : Place) (z : ℤ) → OnlySpends (fitting_number at z)
spends_fitting_number at z = spends_then (spends_give_or at _) (λ x. spends_give)

impure : {X : Type 0} (m : Method) → not (method_row m).impure ≡ true → (method_row m).impure ≡ true → X
impure m p q = absurd (clash (method_row m).impure p q) where
  clash : (b : Bool) → not b ≡ true → b ≡ true → ⊥
  clash true p q = (let no : false ≡ true = p in absurd cc)
  clash false p q = (let no : false ≡ true = q in absurd cc)

spends_domain_at : (at : Place) (x : VarId) (m : SolverState) → OnlySpends (domain_at at x m)
unfolding domain_at
spends_domain_at at x m =
    spends_then (spends_unless (owns x.solver m x) at WrongSolver) (λ _. spends_give {x = Range (domain_in (slice_get m.model.vars.items x.index))})

spends_domain_of : (at : Place) (v : Value) → OnlySpends (domain_of at v)
unfolding domain_of
spends_domain_of at (Variable x) = spends_at {f = λ s. domain_at at x (solver_at s x.solver)} (λ o s. refl) (λ s. spends_domain_at at x _)
spends_domain_of at v = spends_give

spends_has_move : (v : Value) → OnlySpends (has_move v)
unfolding has_move
spends_has_move (Selector n) = record { from = λ s. refl; inside = λ o s. refl }
spends_has_move v = spends_give

spends_get_move : (at : Place) (v : Value) → OnlySpends (get_move at v)
unfolding get_move
spends_get_move at (Selector n) = spends_at {f = λ s. unless (is_some (kept_in s n)) at faults.NoMove >>= λ _. give (Move n)} (λ o s. refl) (λ s. spends_then (spends_unless _ at faults.NoMove) (λ _. spends_give {x = Move n}))
spends_get_move at v = spends_give

spends_method_value : (at : Place) (m : Method) (o : Shape) (v : Value) (vs : List Value) → not (method_row m).impure ≡ true → OnlySpends (method_value at m o v vs)
unfolding method_value
spends_method_value at methods.Low o v vs p = spends_give
spends_method_value at methods.Up o v vs p = spends_give
spends_method_value at methods.RangeSize o v vs p = spends_fitting_number at (pos (size_of (bounds_of v)))
spends_method_value at methods.Contains o v (x ∷ []) p = spends_give
spends_method_value at methods.SetSize o v vs p = spends_give
spends_method_value at methods.Insert o v (x ∷ []) p = impure methods.Insert p refl
spends_method_value at methods.Delete o v (x ∷ []) p = impure methods.Delete p refl
spends_method_value at methods.ArraySize o v vs p = spends_then (spends_count_cells v) (λ n. spends_give)
spends_method_value at methods.ReadInt o v vs p = impure methods.ReadInt p refl
spends_method_value at methods.Close o v vs p = impure methods.Close p refl
spends_method_value at methods.Domain o v vs p = spends_domain_of at v
spends_method_value at methods.Violations o v vs p = spends_violations at v vs
spends_method_value at methods.SystemAssignDelta o v vs p = spends_assign_delta at v vs
spends_method_value at methods.SystemSwapDelta o v vs p = spends_swap_delta at v vs
spends_method_value at methods.ObjectiveValue o v vs p = spends_value_of at v
spends_method_value at methods.ObjectiveEvaluation o v vs p = spends_value_of at v
spends_method_value at methods.ObjectiveAssignDelta o v vs p = spends_assign_delta at v vs
spends_method_value at methods.ObjectiveSwapDelta o v vs p = spends_swap_delta at v vs
spends_method_value at methods.Draw o v vs p = impure methods.Draw p refl
spends_method_value at methods.HasMove o v vs p = spends_has_move v
spends_method_value at methods.GetMove o v vs p = spends_get_move at v
spends_method_value at methods.Restore o v vs p = impure methods.Restore p refl
spends_method_value at m o v vs p = spends_give

spends_object_value : (k : List Bool) (l : Level) → LevelSpends k l → (m : Method) (o : Shape) → is_pure k o ≡ true → OnlySpends (object_value l m o)
unfolding object_value
spends_object_value k l h methods.Domain o p = h.expr o p
spends_object_value k l h m o p = spends_value k l h o p

spends_asked_value : (k : List Bool) (l : Level) → LevelSpends k l → (itself : Bool) (e : Shape) → is_pure k e ≡ true → OnlySpends (asked_value l itself e)
unfolding asked_value
spends_asked_value k l h itself e p = spends_if itself (h.expr e p) (spends_value k l h e p)

spends_asked_values : (k : List Bool) (l : Level) → LevelSpends k l → (n : ℕ) (es : List Shape) (vs : List Value) → AllPure k es → OnlySpends (asked_values l n es vs)
unfolding asked_values
spends_asked_values k l h n [] vs p = spends_give
spends_asked_values k l h n (e ∷ es) vs p = spends_then (spends_asked_value k l h (nat_lt 0 n) e p.0) (λ v. spends_asked_values k l h (n - 1) es (vs ++ v ∷ []) p.1)

spends_called_on : (k : List Bool) (l : Level) → LevelSpends k l → (at : Place) (m : Method) (o : Shape) (es : List Shape) → not (method_row m).impure ≡ true → is_pure k o ≡ true → AllPure k es → OnlySpends (called_form l at m o es)
unfolding called_form
spends_called_on k l h at m o es p q r =
    spends_then (spends_object_value k l h m o q) (λ v. spends_then (spends_asked_values k l h _ es [] r) (λ vs. spends_then (spends_charge 1 at) (λ _. spends_method_value at m o v vs p)))

spends_method : (k : List Bool) (l : Level) → LevelSpends k l → (at : Place) (m : Method) (o : Shape) (es : List Shape) → not (method_row m).impure ≡ true → is_pure k o ≡ true → AllPure k es → OnlySpends (method_form l at m o es)
unfolding method_form
spends_method k l h at methods.Post o es p q r = impure methods.Post p refl
spends_method k l h at methods.PostPart o es p q r = impure methods.PostPart p refl
spends_method k l h at methods.Restore o es p q r = impure methods.Restore p refl
spends_method k l h at m o es p q r = spends_called_on k l h at m o es p q r

-- calls

spends_argument : (k : List Bool) (l : Level) → LevelSpends k l → (kind : Kind) (e : Shape) → is_pure k e ≡ true → OnlySpends (argument_form l kind e)
unfolding argument_form
spends_argument k l h kinds.Variable e p = h.expr e p
spends_argument k l h kinds.SetVariable e p = h.expr e p
spends_argument k l h kind e p = spends_then (spends_value k l h e p) (λ v. spends_give)

spends_arguments : (k : List Bool) (l : Level) → LevelSpends k l → (ks : List Kind) (es : List Shape) (vs : List Value) → AllPure k es → OnlySpends (arguments_form l ks es vs)
unfolding arguments_form
spends_arguments k l h (kind ∷ ks) (e ∷ es) vs p = spends_then (spends_argument k l h kind e p.0) (λ v. spends_arguments k l h ks es (vs ++ v ∷ []) p.1)
spends_arguments k l h ks es vs p = spends_give

-- the function returns a pure expression
pub record ReturnsPure (known : List Bool) (f : Coded) : Type 0 where
  pub e : Seen
  pub returned : returned_by f.body ≡ Some e
  pub pure : is_pure known (whole e) ≡ true

-- each function that is known to be pure is so
pub record KnowsPure (c : Code) : Type 0 where
  pub each : (n : ℕ) (f : Coded) → slice_index_or c.pure n false ≡ true → slice_get c.functions n ≡ Some f → ReturnsPure c.pure f

spends_body : (k : List Bool) (l : Level) → LevelSpends k l → (f : Coded) (vs : List Value) → ReturnsPure k f → OnlySpends (body_form l f vs)
unfolding body_form
spends_body k l h f vs r = spends_in_scope (binds_in_frame vs (binds (spends_then (h.body f.body r.e r.returned r.pure) (λ flow. spends_give))))

spends_called : (k : List Bool) (l : Level) → LevelSpends k l → (at : Place) (es : List Shape) (f : Option Coded) → AllPure k es → ((g : Coded) → f ≡ Some g → ReturnsPure k g) → OnlySpends (called l at es true f)
spends_called k l h at es None p r = spends_give
spends_called k l h at es (Some f) p r =
    spends_then (spends_arguments k l h f.parameters es [] p) (λ vs. spends_then (spends_charge 1 at) (λ _. spends_then spends_give (λ ws. spends_body k l h f ws (r f refl))))

spends_call : (c : Code) → KnowsPure c → (l : Level) → LevelSpends c.pure l → (at : Place) (f : ℕ) (es : List Shape) → slice_index_or c.pure f false ≡ true → AllPure c.pure es → OnlySpends (call_form c l at f es)
unfolding call_form
spends_call c r l h at f es p q =
    subst (λ b. OnlySpends (called l at es b (slice_get c.functions f))) (sym p) (spends_called c.pure l h at es (slice_get c.functions f) q (λ g e. r.each f g p e))

-- expressions

pub spends_form : (c : Code) → KnowsPure c → (l : Level) → LevelSpends c.pure l → (at : Place) (kind : Kind) (form : Shape) → is_pure c.pure form ≡ true → OnlySpends (value_of_form c l at kind form)
unfolding value_of_form
spends_form c r l h at kind (shapes.number n) p = spends_give
spends_form c r l h at kind (shapes.truth b) p = spends_give
spends_form c r l h at kind (shapes.name slot) p = spends_look slot
spends_form c r l h at kind (shapes.parentheses e) p = h.expr e p
spends_form c r l h at kind (shapes.unary o e) p = spends_unary c.pure l h at o e p
spends_form c r l h at kind (shapes.chain a links) p = spends_chain c.pure l h a (items links) (and_left (is_pure c.pure a) (is_pure c.pure links) p) (items_pure c.pure links (and_right (is_pure c.pure a) (is_pure c.pure links) p))
spends_form c r l h at kind (shapes.compare o a b) p = spends_compare c.pure l h o a b (and_left (is_pure c.pure a) (is_pure c.pure b) p) (and_right (is_pure c.pure a) (is_pure c.pure b) p)
spends_form c r l h at kind (shapes.range a b) p = spends_range c.pure l h a b (and_left (is_pure c.pure a) (is_pure c.pure b) p) (and_right (is_pure c.pure a) (is_pure c.pure b) p)
spends_form c r l h at kind (shapes.conditional t a b) p =
    let q = and_left (is_pure c.pure t && is_pure c.pure a) (is_pure c.pure b) p in
    spends_conditional c.pure l h kind t a b (and_left (is_pure c.pure t) (is_pure c.pure a) q) (and_right (is_pure c.pure t) (is_pure c.pure a) q) (and_right (is_pure c.pure t && is_pure c.pure a) (is_pure c.pure b) p)
spends_form c r l h at kind (shapes.list es) p = spends_list c.pure l h (items es) (items_pure c.pure es p)
spends_form c r l h at kind (shapes.index a i) p = spends_index c.pure l h at a i (and_left (is_pure c.pure a) (is_pure c.pure i) p) (and_right (is_pure c.pure a) (is_pure c.pure i) p)
spends_form c r l h at kind (shapes.cell a i j) p =
    let q = and_left (is_pure c.pure a && is_pure c.pure i) (is_pure c.pure j) p in
    spends_cell c.pure l h at a i j (and_left (is_pure c.pure a) (is_pure c.pure i) q) (and_right (is_pure c.pure a) (is_pure c.pure i) q) (and_right (is_pure c.pure a && is_pure c.pure i) (is_pure c.pure j) p)
spends_form c r l h at kind (shapes.set es) p = spends_set c.pure l h (items es) (items_pure c.pure es p)
spends_form c r l h at kind (shapes.aggregate a gs t body) p =
    let q = and_left (is_pure c.pure gs && is_pure c.pure t) (is_pure c.pure body) p in
    spends_aggregate c.pure l h at a (items gs) t body (items_pure c.pure gs (and_left (is_pure c.pure gs) (is_pure c.pure t) q)) (and_right (is_pure c.pure gs) (is_pure c.pure t) q) (and_right (is_pure c.pure gs && is_pure c.pure t) (is_pure c.pure body) p)
spends_form c r l h at kind (shapes.builtin f es) p = spends_builtin c.pure l h at f (items es) (items_pure c.pure es p)
spends_form c r l h at kind (shapes.call f es) p =
    spends_call c r l h at f (items es) (and_left (slice_index_or c.pure f false) (is_pure c.pure es) p) (items_pure c.pure es (and_right (slice_index_or c.pure f false) (is_pure c.pure es) p))
spends_form c r l h at kind (shapes.method m o es) p =
    let q = and_left (not (method_row m).impure && is_pure c.pure o) (is_pure c.pure es) p in
    spends_method c.pure l h at m o (items es) (and_left (not (method_row m).impure) (is_pure c.pure o) q) (and_right (not (method_row m).impure) (is_pure c.pure o) q) (items_pure c.pure es (and_right (not (method_row m).impure && is_pure c.pure o) (is_pure c.pure es) p))
spends_form c r l h at kind form p = spends_give

pub spends_expression : (c : Code) → KnowsPure c → (l : Level) → LevelSpends c.pure l → (e : Shape) → is_pure c.pure e ≡ true → OnlySpends (value_of_expression c l e)
unfolding value_of_expression
spends_expression c r l h (shapes.typed start at kind moving form) p = spends_form c r l h at kind form p
spends_expression c r l h e p = spends_give

pub spends_returned : (k : List Bool) (l : Level) → LevelSpends k l → (e : Seen) → is_pure k (whole e) ≡ true → OnlySpends (value l (whole e))
spends_returned k l h e p = spends_value k l h (whole e) p
