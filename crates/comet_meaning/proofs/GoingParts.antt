-- Each part of an expression goes onward where those in it do.
use Rattle.std.proofs.Common.{ℕ, ℤ, Bool, List, [], ◌∷◌, ◌++◌}
use Rattle.cbl_base.specs.declared.place.Place.{Place}
use Rattle.comet_syntax.specs.declared.tree.expressions.ChainOperator.{ChainOperator}
use Rattle.comet_syntax.specs.declared.tree.expressions.ChainOperator.TheVariants as chains
use Rattle.comet_syntax.specs.declared.tree.expressions.Comparison.{Comparison}
use Rattle.comet_syntax.specs.declared.tree.expressions.UnaryOperator.{UnaryOperator}
use Rattle.comet_syntax.specs.declared.tree.expressions.UnaryOperator.TheVariants as unaries
use Rattle.checked_tree.specs.declared.kind.Kind.{Kind}
use Rattle.checked_tree.specs.Shape as shapes
use Rattle.checked_tree.specs.Shape.{Shape}
use Rattle.checked_tree.specs.Tasks.{Work}
use Rattle.cbl_base.specs.declared.ids.VarId.{VarId}
use Rattle.term_model.specs.declared.term.Term.{Term}
use Rattle.comet_meaning.specs.Values.{Value, Variable, Variables}
use Rattle.comet_meaning.specs.Solvers.{SolverState, has_variable}
use Rattle.comet_meaning.specs.Outcome.{Act}
use Rattle.comet_meaning.specs.Levels.{Level}
use Rattle.comet_meaning.specs.Parts.{needs_close, variable_value, read, value, number, truth, bounds, condition, values, term, terms, each_term, is_moving, constraint}
use Rattle.comet_meaning.specs.Operators.{unary_result, unary_form, compare_form, decides, linked, link_form, links_form, chain_form, range_form, conditional_form}
use Rattle.comet_meaning.specs.Arrays.{list_form, index_form, cell_form, count_form}
use Rattle.comet_meaning.specs.Taking.{read_each, read_array, taken_whole}
use Rattle.comet_meaning.specs.Generators.{Bound, with_bound, bind, generated, each_tuple}
use Rattle.comet_meaning.specs.Onward.{GoesOn}
use Rattle.comet_meaning.proofs.GoingOn.{goes_then, goes_give, goes_fault, goes_if, goes_give_or, goes_charge, goes_at, goes_each_in, goes_put, goes_cells, goes_variables, goes_extent, goes_count_cells, goes_cell_of, goes_found_at}

-- the parts that are one level further in go onward
pub record LevelGoesOn (l : Level) : Type 0 where
  pub expr : (e : Shape) → GoesOn (l.expr e)
  pub target : (e : Shape) → GoesOn (l.target e)
  pub term : (e : Shape) → GoesOn (l.term e)
  pub stmt : (w : Work) → GoesOn (l.stmt w)

-- reading

pub goes_variable_value : (at : Place) (x : ℕ) (m : SolverState) → GoesOn (variable_value at x m)
unfolding variable_value
goes_variable_value at x m = goes_if (has_variable m x) (goes_if (needs_close m x) goes_fault goes_give) goes_fault

pub goes_read : (at : Place) (v : Value) → GoesOn (read at v)
unfolding read
goes_read at (Value.Variable x) = goes_at (λ s. goes_variable_value at x.index _)
goes_read at v = goes_give

pub goes_value : (l : Level) → LevelGoesOn l → (e : Shape) → GoesOn (value l e)
unfolding value
goes_value l h e = goes_then (h.expr e) (λ v. goes_read _ v)

pub goes_number : (l : Level) → LevelGoesOn l → (e : Shape) → GoesOn (number l e)
unfolding number
goes_number l h e = goes_then (goes_value l h e) (λ v. goes_give)

pub goes_truth : (l : Level) → LevelGoesOn l → (e : Shape) → GoesOn (truth l e)
unfolding truth
goes_truth l h e = goes_then (goes_value l h e) (λ v. goes_give)

pub goes_bounds : (l : Level) → LevelGoesOn l → (e : Shape) → GoesOn (bounds l e)
unfolding bounds
goes_bounds l h e = goes_then (goes_value l h e) (λ v. goes_give)

pub goes_condition : (l : Level) → LevelGoesOn l → (e : Shape) → GoesOn (condition l e)
unfolding condition
goes_condition l h shapes.left_out = goes_give
goes_condition l h e = goes_truth l h e

pub goes_values : (l : Level) → LevelGoesOn l → (es : List Shape) (vs : List Value) → GoesOn (values l es vs)
unfolding values
goes_values l h [] vs = goes_give
goes_values l h (e ∷ es) vs = goes_then (goes_value l h e) (λ v. goes_values l h es (vs ++ v ∷ []))

-- parts of terms

pub goes_one_term : (l : Level) → LevelGoesOn l → (e : Shape) → GoesOn (term l e)
unfolding term
goes_one_term l h e = goes_then (h.term e) (λ t. goes_give)

pub goes_terms : (l : Level) → LevelGoesOn l → (e : Shape) → GoesOn (terms l e)
unfolding terms
goes_terms l h e = goes_then (h.term e) (λ t. goes_give)

pub goes_each_term : (l : Level) → LevelGoesOn l → (es : List Shape) (ts : List Term) → GoesOn (each_term l es ts)
unfolding each_term
goes_each_term l h [] ts = goes_give
goes_each_term l h (e ∷ es) ts = goes_then (goes_one_term l h e) (λ t. goes_each_term l h es (ts ++ t ∷ []))

pub goes_constraint : (l : Level) → LevelGoesOn l → (e : Shape) → GoesOn (constraint l e)
unfolding constraint
goes_constraint l h e = goes_if (is_moving e) (goes_one_term l h e) (goes_then (goes_truth l h e) (λ b. goes_give))

-- operators

pub goes_unary_result : (at : Place) (o : UnaryOperator) (v : Value) → GoesOn (unary_result at o v)
goes_unary_result at unaries.Negative v = goes_then (goes_give_or at _) (λ z. goes_give)
goes_unary_result at unaries.Not v = goes_give

pub goes_unary : (l : Level) → LevelGoesOn l → (at : Place) (o : UnaryOperator) (e : Shape) → GoesOn (unary_form l at o e)
unfolding unary_form
goes_unary l h at o e = goes_then (goes_value l h e) (λ v. goes_unary_result at o v)

pub goes_compare : (l : Level) → LevelGoesOn l → (c : Comparison) (a b : Shape) → GoesOn (compare_form l c a b)
unfolding compare_form
goes_compare l h c a b = goes_then (goes_number l h a) (λ x. goes_then (goes_number l h b) (λ y. goes_give))

pub goes_linked : (at : Place) (o : ChainOperator) (v w : Value) → GoesOn (linked at o v w)
goes_linked at chains.Or v w = goes_give
goes_linked at chains.And v w = goes_give
goes_linked at o v w = goes_then (goes_give_or at _) (λ z. goes_give)

pub goes_link : (l : Level) → LevelGoesOn l → (at : Place) (o : ChainOperator) (e : Shape) (v : Value) → GoesOn (link_form l at o e v)
unfolding link_form
goes_link l h at o e v = goes_if (decides o v) goes_give (goes_then (goes_value l h e) (λ w. goes_linked at o v w))

pub goes_links : (l : Level) → LevelGoesOn l → (links : List Shape) (v : Value) → GoesOn (links_form l links v)
unfolding links_form
goes_links l h [] v = goes_give
goes_links l h (shapes.link o at e ∷ links) v = goes_then (goes_link l h at o e v) (λ w. goes_links l h links w)
goes_links l h (x ∷ links) v = goes_links l h links v

pub goes_chain : (l : Level) → LevelGoesOn l → (first : Shape) (links : List Shape) → GoesOn (chain_form l first links)
unfolding chain_form
goes_chain l h first links = goes_then (goes_value l h first) (λ v. goes_links l h links v)

pub goes_range : (l : Level) → LevelGoesOn l → (a b : Shape) → GoesOn (range_form l a b)
unfolding range_form
goes_range l h a b = goes_then (goes_number l h a) (λ x. goes_then (goes_number l h b) (λ y. goes_give))

pub goes_conditional : (l : Level) → LevelGoesOn l → (k : Kind) (c a b : Shape) → GoesOn (conditional_form l k c a b)
unfolding conditional_form
goes_conditional l h k c a b =
    goes_then (goes_truth l h c) (λ t. goes_then (goes_if t (goes_value l h a) (goes_value l h b)) (λ v. goes_give))

-- arrays

pub goes_list : (l : Level) → LevelGoesOn l → (es : List Shape) → GoesOn (list_form l es)
unfolding list_form
goes_list l h es = goes_then (goes_values l h es []) (λ vs. goes_give)

pub goes_index : (l : Level) → LevelGoesOn l → (at : Place) (a i : Shape) → GoesOn (index_form l at a i)
unfolding index_form
goes_index l h at a i =
    goes_then (goes_value l h a) (λ v. goes_then (goes_number l h i) (λ z. goes_then (goes_extent v) (λ b. goes_then (goes_found_at at _) (λ k. goes_cell_of v k))))

pub goes_cell : (l : Level) → LevelGoesOn l → (at : Place) (a i j : Shape) → GoesOn (cell_form l at a i j)
unfolding cell_form
goes_cell l h at a i j =
    goes_then (goes_value l h a) (λ v. goes_then (goes_number l h i) (λ y. goes_then (goes_number l h j) (λ z. goes_then (goes_extent v) (λ b. goes_then (goes_found_at at _) (λ k. goes_cell_of v k)))))

pub goes_read_each : (at : Place) (xs : List VarId) (vs : List Value) → GoesOn (read_each at xs vs)
unfolding read_each
goes_read_each at [] vs = goes_give
goes_read_each at (x ∷ xs) vs = goes_then (goes_read at (Variable x)) (λ v. goes_read_each at xs (vs ++ v ∷ []))

pub goes_read_array : (at : Place) (v : Value) → GoesOn (read_array at v)
unfolding read_array
goes_read_array at (Variables n) = goes_then (goes_variables (Variables n)) (λ c. goes_then (goes_read_each at c.variables []) (λ vs. goes_give))
goes_read_array at v = goes_cells v

pub goes_taken_whole : (at : Place) (v : Value) → GoesOn (taken_whole at v)
unfolding taken_whole
goes_taken_whole at v = goes_then (goes_count_cells v) (λ n. goes_then (goes_charge n at) (λ _. goes_then (goes_read_array at v) (λ c. goes_give)))

pub goes_count : (l : Level) → LevelGoesOn l → (at : Place) (a e : Shape) → GoesOn (count_form l at a e)
unfolding count_form
goes_count l h at a e =
    goes_then (goes_value l h a) (λ v. goes_then (goes_number l h e) (λ z. goes_then (goes_charge 1 at) (λ _. goes_then (goes_taken_whole _ v) (λ xs. goes_give))))

-- generators

pub goes_bind : (known : List Bound) → GoesOn (bind known)
unfolding bind
goes_bind [] = goes_give
goes_bind (b ∷ bs) = goes_then (goes_put b.slot _) (λ _. goes_bind bs)

pub goes_generated : {A : Type 0} (at : Place) (known : List Bound) {next : Act A} → GoesOn next → GoesOn (generated at known next)
unfolding generated
goes_generated at known k = goes_then (goes_charge 1 at) (λ _. goes_then (goes_bind known) (λ _. k))

pub goes_each_tuple : {A : Type 0} (l : Level) → LevelGoesOn l → (at : Place) (more : A → Bool) (visit : ℤ → A → Act A) (known : List Bound) (gs : List Shape) (x : A) → ((v : ℤ) (x : A) → GoesOn (visit v x)) → GoesOn (each_tuple l at more visit known gs x)
unfolding each_tuple
goes_each_tuple l h at more visit known (shapes.generator place slot domain ∷ []) x k =
    goes_then (goes_value l h domain) (λ d. goes_each_in more _ d x (λ v y. goes_generated at (with_bound known slot v) (k v y)))
goes_each_tuple l h at more visit known (shapes.generator place slot domain ∷ g ∷ gs) x k =
    goes_then (goes_value l h domain) (λ d. goes_each_in more _ d x (λ v y. goes_generated place (with_bound known slot v) (goes_each_tuple l h at more visit (with_bound known slot v) (g ∷ gs) y k)))
goes_each_tuple l h at more visit known gs x k = goes_give
