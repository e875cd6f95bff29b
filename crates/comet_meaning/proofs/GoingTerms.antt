-- Terms go onward where the parts in them do.
use Rattle.std.proofs.Common.{ℤ, ◌||◌, List, [], ◌∷◌, ◌++◌}
use Rattle.cbl_base.specs.declared.place.Place.{Place}
use Rattle.cbl_operations.specs.declared.op.Op.{Op}
use Rattle.term_model.specs.declared.term.Term.{Term}
use Rattle.comet_syntax.specs.declared.tree.expressions.Aggregate.{Aggregate}
use Rattle.comet_syntax.specs.declared.tree.expressions.Aggregate.TheVariants as aggregates
use Rattle.comet_syntax.specs.declared.tree.expressions.ChainOperator.{ChainOperator}
use Rattle.comet_syntax.specs.declared.tree.expressions.ChainOperator.TheVariants as chains
use Rattle.comet_syntax.specs.declared.tree.expressions.Comparison.{Comparison}
use Rattle.comet_syntax.specs.declared.tree.expressions.UnaryOperator.{UnaryOperator}
use Rattle.checked_tree.specs.declared.expressions.Builtin.{Builtin}
use Rattle.checked_tree.specs.declared.expressions.Builtin.TheVariants as builtins
use Rattle.checked_tree.specs.Shape as shapes
use Rattle.checked_tree.specs.Shape.{Shape}
use Rattle.comet_meaning.specs.Values.{Value}
use Rattle.comet_meaning.specs.Terms.{standing}
use Rattle.comet_meaning.specs.State.{left}
use Rattle.comet_meaning.specs.Outcome.{Act, always}
use Rattle.comet_meaning.specs.Levels.{Level}
use Rattle.comet_meaning.specs.Parts.{items, is_moving}
use Rattle.comet_meaning.specs.TermForms.{node_form, single, unary_term, compare_term, linked_term, joined_form, operands_form, junction_form, links_term, chain_term, element_term, picked_term, index_term, grid_term, picked_cell, cell_term, list_term, Keyed, with_keyed, keyed_form, aggregated, aggregate_term, count_term, builtin_node, builtin_term, moving_term}
use Rattle.comet_meaning.specs.Onward.{GoesOn}
use Rattle.comet_meaning.proofs.GoingOn.{onward_refl, goes_then, goes_give, goes_fault, goes_if, goes_unless, goes_charge, goes_look, goes_in_scope, goes_found_at}
use Rattle.comet_meaning.proofs.GoingParts.{LevelGoesOn, goes_number, goes_condition, goes_one_term, goes_terms, goes_each_term, goes_each_tuple}

pub goes_standing : (v : Value) → GoesOn (standing v)
unfolding standing
goes_standing v = record { from = λ s. onward_refl (left s) }

pub goes_node : (at : Place) (op : Op) (ts : List Term) → GoesOn (node_form at op ts)
unfolding node_form
goes_node at op ts = goes_then (goes_unless _ at _) (λ _. goes_give)

pub goes_single : {m : Act Term} → GoesOn m → GoesOn (single m)
goes_single h = goes_then h (λ t. goes_give)

-- operators

pub goes_unary_term : (l : Level) → LevelGoesOn l → (at : Place) (o : UnaryOperator) (e : Shape) → GoesOn (unary_term l at o e)
unfolding unary_term
goes_unary_term l h at o e = goes_then (goes_one_term l h e) (λ t. goes_node at _ _)

pub goes_compare_term : (l : Level) → LevelGoesOn l → (at : Place) (c : Comparison) (a b : Shape) → GoesOn (compare_term l at c a b)
unfolding compare_term
goes_compare_term l h at c a b = goes_then (goes_one_term l h a) (λ t. goes_then (goes_one_term l h b) (λ u. goes_node at _ _))

pub goes_linked_term : (l : Level) → LevelGoesOn l → (at : Place) (o : ChainOperator) (e : Shape) (t : Term) → GoesOn (linked_term l at o e t)
unfolding linked_term
goes_linked_term l h at o e t = goes_then (goes_one_term l h e) (λ u. goes_node at _ _)

pub goes_joined : (l : Level) → LevelGoesOn l → (links : List Shape) (t : Term) → GoesOn (joined_form l links t)
unfolding joined_form
goes_joined l h [] t = goes_give
goes_joined l h (shapes.link o at e ∷ links) t = goes_then (goes_linked_term l h at o e t) (λ v. goes_joined l h links v)
goes_joined l h (x ∷ links) t = goes_joined l h links t

pub goes_operands : (l : Level) → LevelGoesOn l → (links : List Shape) (ts : List Term) → GoesOn (operands_form l links ts)
unfolding operands_form
goes_operands l h [] ts = goes_give
goes_operands l h (shapes.link o at e ∷ links) ts = goes_then (goes_one_term l h e) (λ t. goes_operands l h links (ts ++ t ∷ []))
goes_operands l h (x ∷ links) ts = goes_operands l h links ts

pub goes_junction : (l : Level) → LevelGoesOn l → (at : Place) (o : ChainOperator) (links : List Shape) (t : Term) → GoesOn (junction_form l at o links t)
unfolding junction_form
goes_junction l h at o links t = goes_then (goes_operands l h links (t ∷ [])) (λ ts. goes_node at _ ts)

pub goes_links_term : (l : Level) → LevelGoesOn l → (links : List Shape) (t : Term) → GoesOn (links_term l links t)
goes_links_term l h (shapes.link chains.Or at e ∷ links) t = goes_junction l h at chains.Or (shapes.link chains.Or at e ∷ links) t
goes_links_term l h (shapes.link chains.And at e ∷ links) t = goes_junction l h at chains.And (shapes.link chains.And at e ∷ links) t
goes_links_term l h links t = goes_joined l h links t

pub goes_chain_term : (l : Level) → LevelGoesOn l → (first : Shape) (links : List Shape) → GoesOn (chain_term l first links)
unfolding chain_term
goes_chain_term l h first links = goes_then (goes_one_term l h first) (λ t. goes_links_term l h links t)

-- arrays

pub goes_element_term : (l : Level) → LevelGoesOn l → (at : Place) (a i : Shape) → GoesOn (element_term l at a i)
unfolding element_term
goes_element_term l h at a i =
    goes_then (goes_terms l h a) (λ c. goes_then (goes_one_term l h i) (λ t. goes_then (goes_charge _ _) (λ _. goes_node at _ _)))

pub goes_picked_term : (l : Level) → LevelGoesOn l → (at : Place) (a i : Shape) → GoesOn (picked_term l at a i)
unfolding picked_term
goes_picked_term l h at a i = goes_then (goes_terms l h a) (λ c. goes_then (goes_number l h i) (λ z. goes_then (goes_found_at at _) (λ k. goes_give)))

pub goes_index_term : (l : Level) → LevelGoesOn l → (at : Place) (a i : Shape) → GoesOn (index_term l at a i)
unfolding index_term
goes_index_term l h at a i = goes_if (is_moving i) (goes_element_term l h at a i) (goes_picked_term l h at a i)

pub goes_grid_term : (l : Level) → LevelGoesOn l → (at : Place) (a i j : Shape) → GoesOn (grid_term l at a i j)
unfolding grid_term
goes_grid_term l h at a i j =
    goes_then (goes_terms l h a) (λ c. goes_then (goes_one_term l h i) (λ t. goes_then (goes_one_term l h j) (λ u. goes_then (goes_charge _ _) (λ _. goes_node at _ _))))

pub goes_picked_cell : (l : Level) → LevelGoesOn l → (at : Place) (a i j : Shape) → GoesOn (picked_cell l at a i j)
unfolding picked_cell
goes_picked_cell l h at a i j =
    goes_then (goes_terms l h a) (λ c. goes_then (goes_number l h i) (λ y. goes_then (goes_number l h j) (λ z. goes_then (goes_found_at at _) (λ k. goes_give))))

pub goes_cell_term : (l : Level) → LevelGoesOn l → (at : Place) (a i j : Shape) → GoesOn (cell_term l at a i j)
unfolding cell_term
goes_cell_term l h at a i j = goes_if (is_moving i || is_moving j) (goes_grid_term l h at a i j) (goes_picked_cell l h at a i j)

pub goes_list_term : (l : Level) → LevelGoesOn l → (es : List Shape) → GoesOn (list_term l es)
unfolding list_term
goes_list_term l h es = goes_then (goes_each_term l h es []) (λ ts. goes_give)

-- aggregates

pub goes_with_keyed : (at : Place) (a : Aggregate) (key : ℤ) (xs : List Keyed) (t : Term) → GoesOn (with_keyed at a key xs t)
goes_with_keyed at aggregates.All key xs t = goes_then (goes_unless _ at _) (λ _. goes_give)
goes_with_keyed at a key xs t = goes_give

pub goes_keyed : (l : Level) → LevelGoesOn l → (at : Place) (a : Aggregate) (c body : Shape) (key : ℤ) (xs : List Keyed) → GoesOn (keyed_form l at a c body key xs)
unfolding keyed_form
goes_keyed l h at a c body key xs =
    goes_then (goes_condition l h c) (λ t. goes_if t (goes_then (goes_one_term l h body) (λ u. goes_with_keyed at a key xs u)) goes_give)

pub goes_aggregated : (at : Place) (a : Aggregate) (xs : List Keyed) → GoesOn (aggregated at a xs)
goes_aggregated at aggregates.All xs = goes_give
goes_aggregated at aggregates.Min [] = goes_fault
goes_aggregated at aggregates.Max [] = goes_fault
goes_aggregated at a xs = goes_single (goes_node at _ _)

pub goes_aggregate_term : (l : Level) → LevelGoesOn l → (at : Place) (a : Aggregate) (gs : List Shape) (c body : Shape) → GoesOn (aggregate_term l at a gs c body)
unfolding aggregate_term
goes_aggregate_term l h at a gs c body =
    goes_then (goes_in_scope (goes_each_tuple l h at always _ [] gs [] (λ v xs. goes_keyed l h at a c body v xs))) (λ xs. goes_aggregated at a xs)

-- functions of the language

pub goes_count_term : (l : Level) → LevelGoesOn l → (at : Place) (a e : Shape) → GoesOn (count_term l at a e)
unfolding count_term
goes_count_term l h at a e =
    goes_then (goes_terms l h a) (λ c. goes_then (goes_one_term l h e) (λ t. goes_then (goes_charge 1 at) (λ _. goes_then (goes_charge _ _) (λ _. goes_node at _ _))))

pub goes_builtin_node : (at : Place) (f : Builtin) (ts : List Term) → GoesOn (builtin_node at f ts)
goes_builtin_node at builtins.Abs ts = goes_node at _ ts
goes_builtin_node at builtins.Min ts = goes_node at _ ts
goes_builtin_node at builtins.Max ts = goes_node at _ ts
goes_builtin_node at builtins.Card ts = goes_node at _ ts
goes_builtin_node at builtins.Member ts = goes_node at _ ts
goes_builtin_node at builtins.Union ts = goes_node at _ ts
goes_builtin_node at builtins.Inter ts = goes_node at _ ts
goes_builtin_node at builtins.Minus ts = goes_node at _ ts
goes_builtin_node at f ts = goes_give

pub goes_builtin_term : (l : Level) → LevelGoesOn l → (at : Place) (f : Builtin) (es : List Shape) → GoesOn (builtin_term l at f es)
unfolding builtin_term
goes_builtin_term l h at builtins.Count (a ∷ e ∷ []) = goes_count_term l h at a e
goes_builtin_term l h at f es = goes_then (goes_each_term l h es []) (λ ts. goes_then (goes_charge 1 at) (λ _. goes_builtin_node at f ts))

-- all of them

pub goes_moving_term : (l : Level) → LevelGoesOn l → (at : Place) (form : Shape) → GoesOn (moving_term l at form)
unfolding moving_term
goes_moving_term l h at (shapes.name slot) = goes_then (goes_look slot) (λ v. goes_standing v)
goes_moving_term l h at (shapes.parentheses e) = h.term e
goes_moving_term l h at (shapes.unary o e) = goes_single (goes_unary_term l h at o e)
goes_moving_term l h at (shapes.chain first links) = goes_single (goes_chain_term l h first (items links))
goes_moving_term l h at (shapes.compare c a b) = goes_single (goes_compare_term l h at c a b)
goes_moving_term l h at (shapes.index a i) = goes_single (goes_index_term l h at a i)
goes_moving_term l h at (shapes.cell a i j) = goes_single (goes_cell_term l h at a i j)
goes_moving_term l h at (shapes.list es) = goes_list_term l h (items es)
goes_moving_term l h at (shapes.aggregate a gs c body) = goes_aggregate_term l h at a (items gs) c body
goes_moving_term l h at (shapes.builtin f es) = goes_single (goes_builtin_term l h at f (items es))
goes_moving_term l h at form = goes_give
