-- Constraints go onward where the parts in them do, and so does what stands in a term.
use Rattle.std.proofs.Common.{List, [], ◌∷◌, ◌++◌}
use Rattle.cbl_base.specs.declared.place.Place.{Place}
use Rattle.term_model.specs.declared.term.Term.{Term}
use Rattle.comet_syntax.specs.declared.tree.expressions.Aggregate.{Aggregate}
use Rattle.comet_syntax.specs.declared.tree.expressions.Comparison.{Comparison}
use Rattle.checked_tree.specs.declared.kind.Kind.{Kind}
use Rattle.checked_tree.specs.declared.expressions.Builtin.{Builtin}
use Rattle.checked_tree.specs.declared.expressions.Builtin.TheVariants as builtins
use Rattle.checked_tree.specs.Shape as shapes
use Rattle.checked_tree.specs.Shape.{Shape}
use Rattle.comet_meaning.specs.Outcome.{always}
use Rattle.comet_meaning.specs.Levels.{Code, Level}
use Rattle.comet_meaning.specs.Parts.{items}
use Rattle.comet_meaning.specs.ConstraintForms.{relation_form, negation_form, members_form, combined_form, combination_form, joining_form, kept_cells, kept_set, all_different_form, bounded_form, knapsack_form, multi_knapsack_form, sequence_form, constraint_call, user_places, function_form, constraint_form}
use Rattle.comet_meaning.specs.InTerms.{is_constraint, incremental_form, term_of_expression}
use Rattle.comet_meaning.specs.Onward.{GoesOn}
use Rattle.comet_meaning.proofs.GoingOn.{goes_then, goes_give, goes_if, goes_unless, goes_charge, goes_cells, goes_in_scope}
use Rattle.comet_meaning.proofs.GoingParts.{LevelGoesOn, goes_value, goes_number, goes_one_term, goes_terms, goes_constraint, goes_each_tuple}
use Rattle.comet_meaning.proofs.GoingExpressions.{goes_form}
use Rattle.comet_meaning.proofs.GoingTerms.{goes_standing, goes_node, goes_single, goes_keyed, goes_moving_term}

pub goes_relation : (l : Level) → LevelGoesOn l → (at : Place) (c : Comparison) (a b : Shape) → GoesOn (relation_form l at c a b)
unfolding relation_form
goes_relation l h at c a b = goes_then (goes_one_term l h a) (λ t. goes_then (goes_one_term l h b) (λ u. goes_node at _ _))

pub goes_negation : (l : Level) → LevelGoesOn l → (at : Place) (e : Shape) → GoesOn (negation_form l at e)
unfolding negation_form
goes_negation l h at e = goes_then (goes_constraint l h e) (λ t. goes_node at _ _)

pub goes_members : (l : Level) → LevelGoesOn l → (links : List Shape) (ts : List Term) → GoesOn (members_form l links ts)
unfolding members_form
goes_members l h [] ts = goes_give
goes_members l h (shapes.link o at e ∷ links) ts = goes_then (goes_constraint l h e) (λ t. goes_members l h links (ts ++ t ∷ []))
goes_members l h (x ∷ links) ts = goes_members l h links ts

pub goes_combined : (l : Level) → LevelGoesOn l → (links : List Shape) (t : Term) → GoesOn (combined_form l links t)
unfolding combined_form
goes_combined l h (shapes.link o at e ∷ links) t = goes_then (goes_members l h (shapes.link o at e ∷ links) (t ∷ [])) (λ ts. goes_node at _ ts)
goes_combined l h links t = goes_give

pub goes_combination : (l : Level) → LevelGoesOn l → (first : Shape) (links : List Shape) → GoesOn (combination_form l first links)
unfolding combination_form
goes_combination l h first links = goes_then (goes_constraint l h first) (λ t. goes_combined l h links t)

pub goes_joining : (l : Level) → LevelGoesOn l → (at : Place) (a : Aggregate) (gs : List Shape) (c body : Shape) → GoesOn (joining_form l at a gs c body)
unfolding joining_form
goes_joining l h at a gs c body =
    goes_then (goes_in_scope (goes_each_tuple l h at always _ [] gs [] (λ v xs. goes_keyed l h at a c body v xs))) (λ xs. goes_node at _ _)

-- constraint functions

pub goes_kept_cells : (l : Level) → LevelGoesOn l → (e : Shape) → GoesOn (kept_cells l e)
unfolding kept_cells
goes_kept_cells l h e = goes_then (goes_value l h e) (λ v. goes_cells v)

pub goes_kept_set : (l : Level) → LevelGoesOn l → (e : Shape) → GoesOn (kept_set l e)
unfolding kept_set
goes_kept_set l h e = goes_then (goes_value l h e) (λ v. goes_give)

pub goes_all_different : (l : Level) → LevelGoesOn l → (at : Place) (x : Shape) → GoesOn (all_different_form l at x)
unfolding all_different_form
goes_all_different l h at x =
    goes_then (goes_terms l h x) (λ c. goes_then (goes_charge 1 at) (λ _. goes_then (goes_charge _ _) (λ _. goes_node at _ _)))

pub goes_bounded : (l : Level) → LevelGoesOn l → (at : Place) (f : Builtin) (b x : Shape) → GoesOn (bounded_form l at f b x)
unfolding bounded_form
goes_bounded l h at f b x =
    goes_then (goes_kept_cells l h b) (λ bounds. goes_then (goes_terms l h x) (λ c.
    goes_then (goes_charge 1 at) (λ _. goes_then (goes_charge _ _) (λ _. goes_then (goes_charge _ _) (λ _. goes_node at _ _)))))

pub goes_knapsack : (l : Level) → LevelGoesOn l → (at : Place) (w x e : Shape) → GoesOn (knapsack_form l at w x e)
unfolding knapsack_form
goes_knapsack l h at w x e =
    goes_then (goes_kept_cells l h w) (λ weights. goes_then (goes_terms l h x) (λ c. goes_then (goes_number l h e) (λ capacity.
    goes_then (goes_charge 1 at) (λ _. goes_then (goes_charge _ _) (λ _. goes_then (goes_charge _ _) (λ _.
    goes_then (goes_unless _ at _) (λ _. goes_node at _ _)))))))

pub goes_multi_knapsack : (l : Level) → LevelGoesOn l → (at : Place) (x z e : Shape) → GoesOn (multi_knapsack_form l at x z e)
unfolding multi_knapsack_form
goes_multi_knapsack l h at x z e =
    goes_then (goes_terms l h x) (λ c. goes_then (goes_kept_cells l h z) (λ sizes. goes_then (goes_kept_cells l h e) (λ capacities.
    goes_then (goes_charge 1 at) (λ _. goes_then (goes_charge _ _) (λ _. goes_then (goes_charge _ _) (λ _. goes_then (goes_charge _ _) (λ _.
    goes_then (goes_unless _ at _) (λ _. goes_node at _ _))))))))

pub goes_sequence : (l : Level) → LevelGoesOn l → (at : Place) (x v p q : Shape) → GoesOn (sequence_form l at x v p q)
unfolding sequence_form
goes_sequence l h at x v p q =
    goes_then (goes_terms l h x) (λ c. goes_then (goes_kept_set l h v) (λ members. goes_then (goes_number l h p) (λ most. goes_then (goes_number l h q) (λ window.
    goes_then (goes_charge 1 at) (λ _. goes_then (goes_charge _ _) (λ _. goes_then (goes_unless _ at _) (λ _. goes_node at _ _)))))))

pub goes_constraint_call : (l : Level) → LevelGoesOn l → (at : Place) (f : Builtin) (es : List Shape) → GoesOn (constraint_call l at f es)
unfolding constraint_call
goes_constraint_call l h at builtins.AllDifferent (x ∷ []) = goes_all_different l h at x
goes_constraint_call l h at builtins.AtMost (b ∷ x ∷ []) = goes_bounded l h at builtins.AtMost b x
goes_constraint_call l h at builtins.AtLeast (b ∷ x ∷ []) = goes_bounded l h at builtins.AtLeast b x
goes_constraint_call l h at builtins.Exactly (b ∷ x ∷ []) = goes_bounded l h at builtins.Exactly b x
goes_constraint_call l h at builtins.Knapsack (w ∷ x ∷ e ∷ []) = goes_knapsack l h at w x e
goes_constraint_call l h at builtins.MultiKnapsack (x ∷ z ∷ e ∷ []) = goes_multi_knapsack l h at x z e
goes_constraint_call l h at builtins.Sequence (x ∷ v ∷ p ∷ q ∷ []) = goes_sequence l h at x v p q
goes_constraint_call l h at f es = goes_give

pub goes_user_places : (l : Level) → LevelGoesOn l → (at : Place) (x : Shape) → GoesOn (user_places l at x)
unfolding user_places
goes_user_places l h at x = goes_then (goes_terms l h x) (λ c. goes_then (goes_charge 1 at) (λ _. goes_then (goes_charge _ _) (λ _. goes_give)))

pub goes_function : (l : Level) → LevelGoesOn l → (at : Place) (f : Builtin) (es : List Shape) → GoesOn (function_form l at f es)
unfolding function_form
goes_function l h at builtins.User (n ∷ x ∷ []) = goes_user_places l h at x
goes_function l h at f es = goes_single (goes_constraint_call l h at f es)

-- all of them

pub goes_constraint_form : (l : Level) → LevelGoesOn l → (at : Place) (form : Shape) → GoesOn (constraint_form l at form)
unfolding constraint_form
goes_constraint_form l h at (shapes.parentheses e) = h.term e
goes_constraint_form l h at (shapes.unary o e) = goes_single (goes_negation l h at e)
goes_constraint_form l h at (shapes.chain first links) = goes_single (goes_combination l h first (items links))
goes_constraint_form l h at (shapes.compare c a b) = goes_single (goes_relation l h at c a b)
goes_constraint_form l h at (shapes.aggregate a gs c body) = goes_single (goes_joining l h at a (items gs) c body)
goes_constraint_form l h at (shapes.builtin f es) = goes_function l h at f (items es)
goes_constraint_form l h at form = goes_give

pub goes_incremental : (l : Level) → LevelGoesOn l → (at : Place) (kind : Kind) (form : Shape) → GoesOn (incremental_form l at kind form)
unfolding incremental_form
goes_incremental l h at kind form = goes_if (is_constraint kind) (goes_constraint_form l h at form) (goes_moving_term l h at form)

pub goes_term : (c : Code) (l : Level) → LevelGoesOn l → (e : Shape) → GoesOn (term_of_expression c l e)
unfolding term_of_expression
goes_term c l h (shapes.typed start at kind moving form) =
    goes_if moving (goes_incremental l h at kind form) (goes_then (goes_form c l h at kind form) (λ v. goes_standing v))
goes_term c l h e = goes_give
