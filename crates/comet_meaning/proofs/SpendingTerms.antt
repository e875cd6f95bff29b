-- Pure terms only spend fuel where the pure parts in them do.
use Rattle.std.proofs.Common.{◌≡◌, refl, ℤ, Bool, true, ◌&&◌, ◌||◌, List, [], ◌∷◌, ◌++◌}
use Rattle.cbl_base.specs.declared.place.Place.{Place}
use Rattle.cbl_operations.specs.declared.op.Op.{Op}
use Rattle.term_model.specs.declared.term.Term.{Term}
use Rattle.comet_syntax.specs.declared.tree.expressions.Aggregate.{Aggregate}
use Rattle.comet_syntax.specs.declared.tree.expressions.Aggregate.TheVariants as aggregates
use Rattle.comet_syntax.specs.declared.tree.expressions.ChainOperator.{ChainOperator}
use Rattle.comet_syntax.specs.declared.tree.expressions.ChainOperator.TheVariants as chains
use Rattle.comet_syntax.specs.declared.tree.expressions.Comparison.{Comparison}
use Rattle.comet_syntax.specs.declared.tree.expressions.UnaryOperator.{UnaryOperator}
use Rattle.checked_tree.specs.declared.expressions.Builtin.{Builtin}
use Rattle.checked_tree.specs.declared.expressions.Builtin.TheVariants as builtins
use Rattle.checked_tree.specs.Shape as shapes
use Rattle.checked_tree.specs.Shape.{Shape}
use Rattle.comet_meaning.specs.Values.{Value}
use Rattle.comet_meaning.specs.State.{State}
use Rattle.comet_meaning.specs.Terms.{standing_of, standing}
use Rattle.comet_meaning.specs.Outcome.{Went, Act, always}
use Rattle.comet_meaning.specs.Levels.{Level}
use Rattle.comet_meaning.specs.Parts.{items, term, terms, each_term, is_moving}
use Rattle.comet_meaning.specs.Purity.{is_pure}
use Rattle.comet_meaning.specs.TermForms.{node_form, single, unary_term, compare_term, linked_term, joined_form, operands_form, junction_form, links_term, chain_term, element_term, picked_term, index_term, grid_term, picked_cell, cell_term, list_term, Keyed, with_keyed, keyed_form, aggregated, aggregate_term, count_term, builtin_node, builtin_term, moving_term}
use Rattle.comet_meaning.specs.Spending.{Outside, with_outside, OnlySpends}
use Rattle.comet_meaning.proofs.Spending.{binds, spends_then, spends_give, spends_fault, spends_if, spends_unless, spends_charge, spends_look, spends_in_scope, spends_found_at}
use Rattle.comet_meaning.proofs.SpendingForms.{and_left, and_right, LevelSpends, AllPure, items_pure, spends_number, spends_condition, binds_each_tuple}

pub spends_standing : (v : Value) → OnlySpends (standing v)
unfolding standing
spends_standing v = record { from = λ s. refl; inside = λ o s. taken v o s } where
  taken : (v : Value) (o : Outside) (s : State) → Went (standing_of (with_outside o s) v) (with_outside o s) ≡ Went (standing_of s v) (with_outside o s)
  taken (Value.Variables n) o s = refl
  taken (Value.Array n) o s = refl
  taken (Value.Row xs) o s = refl
  taken v o s = refl

pub spends_node : (at : Place) (op : Op) (ts : List Term) → OnlySpends (node_form at op ts)
unfolding node_form
spends_node at op ts = spends_then (spends_unless _ at _) (λ _. spends_give)

pub spends_single : {m : Act Term} → OnlySpends m → OnlySpends (single m)
spends_single h = spends_then h (λ t. spends_give)

-- parts

pub spends_one_term : (k : List Bool) (l : Level) → LevelSpends k l → (e : Shape) → is_pure k e ≡ true → OnlySpends (term l e)
unfolding term
spends_one_term k l h e p = spends_then (h.term e p) (λ t. spends_give)

pub spends_terms : (k : List Bool) (l : Level) → LevelSpends k l → (e : Shape) → is_pure k e ≡ true → OnlySpends (terms l e)
unfolding terms
spends_terms k l h e p = spends_then (h.term e p) (λ t. spends_give)

spends_each_term : (k : List Bool) (l : Level) → LevelSpends k l → (es : List Shape) (ts : List Term) → AllPure k es → OnlySpends (each_term l es ts)
unfolding each_term
spends_each_term k l h [] ts p = spends_give
spends_each_term k l h (e ∷ es) ts p = spends_then (spends_one_term k l h e p.0) (λ t. spends_each_term k l h es (ts ++ t ∷ []) p.1)

-- operators

spends_unary_term : (k : List Bool) (l : Level) → LevelSpends k l → (at : Place) (o : UnaryOperator) (e : Shape) → is_pure k e ≡ true → OnlySpends (unary_term l at o e)
unfolding unary_term
spends_unary_term k l h at o e p = spends_then (spends_one_term k l h e p) (λ t. spends_node at _ _)

spends_compare_term : (k : List Bool) (l : Level) → LevelSpends k l → (at : Place) (c : Comparison) (a b : Shape) → is_pure k a ≡ true → is_pure k b ≡ true → OnlySpends (compare_term l at c a b)
unfolding compare_term
spends_compare_term k l h at c a b p q = spends_then (spends_one_term k l h a p) (λ t. spends_then (spends_one_term k l h b q) (λ u. spends_node at _ _))

spends_linked_term : (k : List Bool) (l : Level) → LevelSpends k l → (at : Place) (o : ChainOperator) (e : Shape) (t : Term) → is_pure k e ≡ true → OnlySpends (linked_term l at o e t)
unfolding linked_term
spends_linked_term k l h at o e t p = spends_then (spends_one_term k l h e p) (λ u. spends_node at _ _)

spends_joined : (k : List Bool) (l : Level) → LevelSpends k l → (links : List Shape) (t : Term) → AllPure k links → OnlySpends (joined_form l links t)
unfolding joined_form
spends_joined k l h [] t p = spends_give
spends_joined k l h (shapes.link o at e ∷ links) t p = spends_then (spends_linked_term k l h at o e t p.0) (λ v. spends_joined k l h links v p.1)
spends_joined k l h (x ∷ links) t p = spends_joined k l h links t p.1

spends_operands : (k : List Bool) (l : Level) → LevelSpends k l → (links : List Shape) (ts : List Term) → AllPure k links → OnlySpends (operands_form l links ts)
unfolding operands_form
spends_operands k l h [] ts p = spends_give
spends_operands k l h (shapes.link o at e ∷ links) ts p = spends_then (spends_one_term k l h e p.0) (λ t. spends_operands k l h links (ts ++ t ∷ []) p.1)
spends_operands k l h (x ∷ links) ts p = spends_operands k l h links ts p.1

spends_junction : (k : List Bool) (l : Level) → LevelSpends k l → (at : Place) (o : ChainOperator) (links : List Shape) (t : Term) → AllPure k links → OnlySpends (junction_form l at o links t)
unfolding junction_form
spends_junction k l h at o links t p = spends_then (spends_operands k l h links (t ∷ []) p) (λ ts. spends_node at _ ts)

spends_links_term : (k : List Bool) (l : Level) → LevelSpends k l → (links : List Shape) (t : Term) → AllPure k links → OnlySpends (links_term l links t)
spends_links_term k l h (shapes.link chains.Or at e ∷ links) t p = spends_junction k l h at chains.Or (shapes.link chains.Or at e ∷ links) t p
spends_links_term k l h (shapes.link chains.And at e ∷ links) t p = spends_junction k l h at chains.And (shapes.link chains.And at e ∷ links) t p
spends_links_term k l h links t p = spends_joined k l h links t p

spends_chain_term : (k : List Bool) (l : Level) → LevelSpends k l → (first : Shape) (links : List Shape) → is_pure k first ≡ true → AllPure k links → OnlySpends (chain_term l first links)
unfolding chain_term
spends_chain_term k l h first links p q = spends_then (spends_one_term k l h first p) (λ t. spends_links_term k l h links t q)

-- arrays

spends_element_term : (k : List Bool) (l : Level) → LevelSpends k l → (at : Place) (a i : Shape) → is_pure k a ≡ true → is_pure k i ≡ true → OnlySpends (element_term l at a i)
unfolding element_term
spends_element_term k l h at a i p q =
    spends_then (spends_terms k l h a p) (λ c. spends_then (spends_one_term k l h i q) (λ t. spends_then (spends_charge _ _) (λ _. spends_node at _ _)))

spends_picked_term : (k : List Bool) (l : Level) → LevelSpends k l → (at : Place) (a i : Shape) → is_pure k a ≡ true → is_pure k i ≡ true → OnlySpends (picked_term l at a i)
unfolding picked_term
spends_picked_term k l h at a i p q =
    spends_then (spends_terms k l h a p) (λ c. spends_then (spends_number k l h i q) (λ z. spends_then (spends_found_at at _) (λ n. spends_give)))

spends_index_term : (k : List Bool) (l : Level) → LevelSpends k l → (at : Place) (a i : Shape) → is_pure k a ≡ true → is_pure k i ≡ true → OnlySpends (index_term l at a i)
unfolding index_term
spends_index_term k l h at a i p q = spends_if (is_moving i) (spends_element_term k l h at a i p q) (spends_picked_term k l h at a i p q)

spends_grid_term : (k : List Bool) (l : Level) → LevelSpends k l → (at : Place) (a i j : Shape) → is_pure k a ≡ true → is_pure k i ≡ true → is_pure k j ≡ true → OnlySpends (grid_term l at a i j)
unfolding grid_term
spends_grid_term k l h at a i j p q r =
    spends_then (spends_terms k l h a p) (λ c. spends_then (spends_one_term k l h i q) (λ t. spends_then (spends_one_term k l h j r) (λ u. spends_then (spends_charge _ _) (λ _. spends_node at _ _))))

spends_picked_cell : (k : List Bool) (l : Level) → LevelSpends k l → (at : Place) (a i j : Shape) → is_pure k a ≡ true → is_pure k i ≡ true → is_pure k j ≡ true → OnlySpends (picked_cell l at a i j)
unfolding picked_cell
spends_picked_cell k l h at a i j p q r =
    spends_then (spends_terms k l h a p) (λ c. spends_then (spends_number k l h i q) (λ y. spends_then (spends_number k l h j r) (λ z. spends_then (spends_found_at at _) (λ n. spends_give))))

spends_cell_term : (k : List Bool) (l : Level) → LevelSpends k l → (at : Place) (a i j : Shape) → is_pure k a ≡ true → is_pure k i ≡ true → is_pure k j ≡ true → OnlySpends (cell_term l at a i j)
unfolding cell_term
spends_cell_term k l h at a i j p q r =
    spends_if (is_moving i || is_moving j) (spends_grid_term k l h at a i j p q r) (spends_picked_cell k l h at a i j p q r)

spends_list_term : (k : List Bool) (l : Level) → LevelSpends k l → (es : List Shape) → AllPure k es → OnlySpends (list_term l es)
unfolding list_term
spends_list_term k l h es p = spends_then (spends_each_term k l h es [] p) (λ ts. spends_give)

-- aggregates

spends_with_keyed : (at : Place) (a : Aggregate) (key : ℤ) (xs : List Keyed) (t : Term) → OnlySpends (with_keyed at a key xs t)
spends_with_keyed at aggregates.All key xs t = spends_then (spends_unless _ at _) (λ _. spends_give)
spends_with_keyed at a key xs t = spends_give

pub spends_keyed : (k : List Bool) (l : Level) → LevelSpends k l → (at : Place) (a : Aggregate) (c body : Shape) (key : ℤ) (xs : List Keyed) → is_pure k c ≡ true → is_pure k body ≡ true → OnlySpends (keyed_form l at a c body key xs)
unfolding keyed_form
spends_keyed k l h at a c body key xs p q =
    spends_then (spends_condition k l h c p) (λ t. spends_if t (spends_then (spends_one_term k l h body q) (λ u. spends_with_keyed at a key xs u)) spends_give)

spends_aggregated : (at : Place) (a : Aggregate) (xs : List Keyed) → OnlySpends (aggregated at a xs)
spends_aggregated at aggregates.All xs = spends_give
spends_aggregated at aggregates.Min [] = spends_fault
spends_aggregated at aggregates.Max [] = spends_fault
spends_aggregated at a xs = spends_single (spends_node at _ _)

spends_aggregate_term : (k : List Bool) (l : Level) → LevelSpends k l → (at : Place) (a : Aggregate) (gs : List Shape) (c body : Shape) → AllPure k gs → is_pure k c ≡ true → is_pure k body ≡ true → OnlySpends (aggregate_term l at a gs c body)
unfolding aggregate_term
spends_aggregate_term k l h at a gs c body p q r =
    spends_then (spends_in_scope (binds_each_tuple k l h at always _ [] gs [] tt p (λ v xs. binds (spends_keyed k l h at a c body v xs q r)))) (λ xs. spends_aggregated at a xs)

-- functions of the language

spends_count_term : (k : List Bool) (l : Level) → LevelSpends k l → (at : Place) (a e : Shape) → is_pure k a ≡ true → is_pure k e ≡ true → OnlySpends (count_term l at a e)
unfolding count_term
spends_count_term k l h at a e p q =
    spends_then (spends_terms k l h a p) (λ c. spends_then (spends_one_term k l h e q) (λ t. spends_then (spends_charge 1 at) (λ _. spends_then (spends_charge _ _) (λ _. spends_node at _ _))))

spends_builtin_node : (at : Place) (f : Builtin) (ts : List Term) → OnlySpends (builtin_node at f ts)
spends_builtin_node at builtins.Abs ts = spends_node at _ ts
spends_builtin_node at builtins.Min ts = spends_node at _ ts
spends_builtin_node at builtins.Max ts = spends_node at _ ts
spends_builtin_node at builtins.Card ts = spends_node at _ ts
spends_builtin_node at builtins.Member ts = spends_node at _ ts
spends_builtin_node at builtins.Union ts = spends_node at _ ts
spends_builtin_node at builtins.Inter ts = spends_node at _ ts
spends_builtin_node at builtins.Minus ts = spends_node at _ ts
spends_builtin_node at f ts = spends_give

spends_builtin_term : (k : List Bool) (l : Level) → LevelSpends k l → (at : Place) (f : Builtin) (es : List Shape) → AllPure k es → OnlySpends (builtin_term l at f es)
unfolding builtin_term
spends_builtin_term k l h at builtins.Count (a ∷ e ∷ []) p = spends_count_term k l h at a e p.0 p.1.0
spends_builtin_term k l h at f es p = spends_then (spends_each_term k l h es [] p) (λ ts. spends_then (spends_charge 1 at) (λ _. spends_builtin_node at f ts))

-- all of them

pub spends_moving : (k : List Bool) (l : Level) → LevelSpends k l → (at : Place) (form : Shape) → is_pure k form ≡ true → OnlySpends (moving_term l at form)
unfolding moving_term
spends_moving k l h at (shapes.name slot) p = spends_then (spends_look slot) (λ v. spends_standing v)
spends_moving k l h at (shapes.parentheses e) p = h.term e p
spends_moving k l h at (shapes.unary o e) p = spends_single (spends_unary_term k l h at o e p)
spends_moving k l h at (shapes.chain first links) p =
    spends_single (spends_chain_term k l h first (items links) (and_left (is_pure k first) (is_pure k links) p) (items_pure k links (and_right (is_pure k first) (is_pure k links) p)))
spends_moving k l h at (shapes.compare c a b) p =
    spends_single (spends_compare_term k l h at c a b (and_left (is_pure k a) (is_pure k b) p) (and_right (is_pure k a) (is_pure k b) p))
spends_moving k l h at (shapes.index a i) p =
    spends_single (spends_index_term k l h at a i (and_left (is_pure k a) (is_pure k i) p) (and_right (is_pure k a) (is_pure k i) p))
spends_moving k l h at (shapes.cell a i j) p =
    let q = and_left (is_pure k a && is_pure k i) (is_pure k j) p in
    spends_single (spends_cell_term k l h at a i j (and_left (is_pure k a) (is_pure k i) q) (and_right (is_pure k a) (is_pure k i) q) (and_right (is_pure k a && is_pure k i) (is_pure k j) p))
spends_moving k l h at (shapes.list es) p = spends_list_term k l h (items es) (items_pure k es p)
spends_moving k l h at (shapes.aggregate a gs c body) p =
    let q = and_left (is_pure k gs && is_pure k c) (is_pure k body) p in
    spends_aggregate_term k l h at a (items gs) c body (items_pure k gs (and_left (is_pure k gs) (is_pure k c) q)) (and_right (is_pure k gs) (is_pure k c) q) (and_right (is_pure k gs && is_pure k c) (is_pure k body) p)
spends_moving k l h at (shapes.builtin f es) p = spends_single (spends_builtin_term k l h at f (items es) (items_pure k es p))
spends_moving k l h at form p = spends_give
