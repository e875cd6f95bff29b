-- Pure constraints only spend fuel where the pure parts in them do, and so does what stands in a term.
use Rattle.std.proofs.Common.{◌≡◌, Bool, true, ◌&&◌, List, [], ◌∷◌, ◌++◌}
use Rattle.cbl_base.specs.declared.place.Place.{Place}
use Rattle.term_model.specs.declared.term.Term.{Term}
use Rattle.comet_syntax.specs.declared.tree.expressions.Aggregate.{Aggregate}
use Rattle.comet_syntax.specs.declared.tree.expressions.Comparison.{Comparison}
use Rattle.checked_tree.specs.declared.kind.Kind.{Kind}
use Rattle.checked_tree.specs.declared.expressions.Builtin.{Builtin}
use Rattle.checked_tree.specs.declared.expressions.Builtin.TheVariants as builtins
use Rattle.checked_tree.specs.Shape as shapes
use Rattle.checked_tree.specs.Shape.{Shape}
use Rattle.comet_meaning.specs.Outcome.{always}
use Rattle.comet_meaning.specs.Levels.{Code, Level}
use Rattle.comet_meaning.specs.Parts.{items, is_moving, constraint}
use Rattle.comet_meaning.specs.Purity.{is_pure}
use Rattle.comet_meaning.specs.ConstraintForms.{relation_form, negation_form, members_form, combined_form, combination_form, joining_form, kept_cells, kept_set, all_different_form, bounded_form, knapsack_form, multi_knapsack_form, sequence_form, constraint_call, user_places, function_form, constraint_form}
use Rattle.comet_meaning.specs.InTerms.{is_constraint, incremental_form, term_of_expression}
use Rattle.comet_meaning.specs.Spending.{OnlySpends}
use Rattle.comet_meaning.proofs.Spending.{binds, spends_then, spends_give, spends_if, spends_unless, spends_charge, spends_cells, spends_in_scope}
use Rattle.comet_meaning.proofs.SpendingForms.{and_left, and_right, LevelSpends, AllPure, items_pure, KnowsPure, spends_value, spends_number, spends_truth, binds_each_tuple, spends_form}
use Rattle.comet_meaning.proofs.SpendingTerms.{spends_standing, spends_node, spends_single, spends_one_term, spends_terms, spends_keyed, spends_moving}

spends_constraint : (k : List Bool) (l : Level) → LevelSpends k l → (e : Shape) → is_pure k e ≡ true → OnlySpends (constraint l e)
unfolding constraint
spends_constraint k l h e p = spends_if (is_moving e) (spends_one_term k l h e p) (spends_then (spends_truth k l h e p) (λ b. spends_give))

spends_relation : (k : List Bool) (l : Level) → LevelSpends k l → (at : Place) (c : Comparison) (a b : Shape) → is_pure k a ≡ true → is_pure k b ≡ true → OnlySpends (relation_form l at c a b)
unfolding relation_form
spends_relation k l h at c a b p q = spends_then (spends_one_term k l h a p) (λ t. spends_then (spends_one_term k l h b q) (λ u. spends_node at _ _))

spends_negation : (k : List Bool) (l : Level) → LevelSpends k l → (at : Place) (e : Shape) → is_pure k e ≡ true → OnlySpends (negation_form l at e)
unfolding negation_form
spends_negation k l h at e p = spends_then (spends_constraint k l h e p) (λ t. spends_node at _ _)

spends_members : (k : List Bool) (l : Level) → LevelSpends k l → (links : List Shape) (ts : List Term) → AllPure k links → OnlySpends (members_form l links ts)
unfolding members_form
spends_members k l h [] ts p = spends_give
spends_members k l h (shapes.link o at e ∷ links) ts p = spends_then (spends_constraint k l h e p.0) (λ t. spends_members k l h links (ts ++ t ∷ []) p.1)
spends_members k l h (x ∷ links) ts p = spends_members k l h links ts p.1

spends_combined : (k : List Bool) (l : Level) → LevelSpends k l → (links : List Shape) (t : Term) → AllPure k links → OnlySpends (combined_form l links t)
unfolding combined_form
spends_combined k l h (shapes.link o at e ∷ links) t p = spends_then (spends_members k l h (shapes.link o at e ∷ links) (t ∷ []) p) (λ ts. spends_node at _ ts)
spends_combined k l h links t p = spends_give

spends_combination : (k : List Bool) (l : Level) → LevelSpends k l → (first : Shape) (links : List Shape) → is_pure k first ≡ true → AllPure k links → OnlySpends (combination_form l first links)
unfolding combination_form
spends_combination k l h first links p q = spends_then (spends_constraint k l h first p) (λ t. spends_combined k l h links t q)

spends_joining : (k : List Bool) (l : Level) → LevelSpends k l → (at : Place) (a : Aggregate) (gs : List Shape) (c body : Shape) → AllPure k gs → is_pure k c ≡ true → is_pure k body ≡ true → OnlySpends (joining_form l at a gs c body)
unfolding joining_form
spends_joining k l h at a gs c body p q r =
    spends_then (spends_in_scope (binds_each_tuple k l h at always _ [] gs [] tt p (λ v xs. binds (spends_keyed k l h at a c body v xs q r)))) (λ xs. spends_node at _ _)

-- constraint functions

spends_kept_cells : (k : List Bool) (l : Level) → LevelSpends k l → (e : Shape) → is_pure k e ≡ true → OnlySpends (kept_cells l e)
unfolding kept_cells
spends_kept_cells k l h e p = spends_then (spends_value k l h e p) (λ v. spends_cells v)

spends_kept_set : (k : List Bool) (l : Level) → LevelSpends k l → (e : Shape) → is_pure k e ≡ true → OnlySpends (kept_set l e)
unfolding kept_set
spends_kept_set k l h e p = spends_then (spends_value k l h e p) (λ v. spends_give)

spends_all_different : (k : List Bool) (l : Level) → LevelSpends k l → (at : Place) (x : Shape) → is_pure k x ≡ true → OnlySpends (all_different_form l at x)
unfolding all_different_form
spends_all_different k l h at x p =
    spends_then (spends_terms k l h x p) (λ c. spends_then (spends_charge 1 at) (λ _. spends_then (spends_charge _ _) (λ _. spends_node at _ _)))

spends_bounded : (k : List Bool) (l : Level) → LevelSpends k l → (at : Place) (f : Builtin) (b x : Shape) → is_pure k b ≡ true → is_pure k x ≡ true → OnlySpends (bounded_form l at f b x)
unfolding bounded_form
spends_bounded k l h at f b x p q =
    spends_then (spends_kept_cells k l h b p) (λ bounds. spends_then (spends_terms k l h x q) (λ c.
    spends_then (spends_charge 1 at) (λ _. spends_then (spends_charge _ _) (λ _. spends_then (spends_charge _ _) (λ _. spends_node at _ _)))))

spends_knapsack : (k : List Bool) (l : Level) → LevelSpends k l → (at : Place) (w x e : Shape) → is_pure k w ≡ true → is_pure k x ≡ true → is_pure k e ≡ true → OnlySpends (knapsack_form l at w x e)
unfolding knapsack_form
spends_knapsack k l h at w x e p q r =
    spends_then (spends_kept_cells k l h w p) (λ weights. spends_then (spends_terms k l h x q) (λ c. spends_then (spends_number k l h e r) (λ capacity.
    spends_then (spends_charge 1 at) (λ _. spends_then (spends_charge _ _) (λ _. spends_then (spends_charge _ _) (λ _.
    spends_then (spends_unless _ at _) (λ _. spends_node at _ _)))))))

spends_multi_knapsack : (k : List Bool) (l : Level) → LevelSpends k l → (at : Place) (x z e : Shape) → is_pure k x ≡ true → is_pure k z ≡ true → is_pure k e ≡ true → OnlySpends (multi_knapsack_form l at x z e)
unfolding multi_knapsack_form
spends_multi_knapsack k l h at x z e p q r =
    spends_then (spends_terms k l h x p) (λ c. spends_then (spends_kept_cells k l h z q) (λ sizes. spends_then (spends_kept_cells k l h e r) (λ capacities.
    spends_then (spends_charge 1 at) (λ _. spends_then (spends_charge _ _) (λ _. spends_then (spends_charge _ _) (λ _. spends_then (spends_charge _ _) (λ _.
    spends_then (spends_unless _ at _) (λ _. spends_node at _ _))))))))

spends_sequence : (k : List Bool) (l : Level) → LevelSpends k l → (at : Place) (x v e f : Shape) → is_pure k x ≡ true → is_pure k v ≡ true → is_pure k e ≡ true → is_pure k f ≡ true → OnlySpends (sequence_form l at x v e f)
unfolding sequence_form
spends_sequence k l h at x v e f p q r s =
    spends_then (spends_terms k l h x p) (λ c. spends_then (spends_kept_set k l h v q) (λ members. spends_then (spends_number k l h e r) (λ most. spends_then (spends_number k l h f s) (λ window.
    spends_then (spends_charge 1 at) (λ _. spends_then (spends_charge _ _) (λ _. spends_then (spends_unless _ at _) (λ _. spends_node at _ _)))))))

spends_constraint_call : (k : List Bool) (l : Level) → LevelSpends k l → (at : Place) (f : Builtin) (es : List Shape) → AllPure k es → OnlySpends (constraint_call l at f es)
unfolding constraint_call
spends_constraint_call k l h at builtins.AllDifferent (x ∷ []) p = spends_all_different k l h at x p.0
spends_constraint_call k l h at builtins.AtMost (b ∷ x ∷ []) p = spends_bounded k l h at builtins.AtMost b x p.0 p.1.0
spends_constraint_call k l h at builtins.AtLeast (b ∷ x ∷ []) p = spends_bounded k l h at builtins.AtLeast b x p.0 p.1.0
spends_constraint_call k l h at builtins.Exactly (b ∷ x ∷ []) p = spends_bounded k l h at builtins.Exactly b x p.0 p.1.0
spends_constraint_call k l h at builtins.Knapsack (w ∷ x ∷ e ∷ []) p = spends_knapsack k l h at w x e p.0 p.1.0 p.1.1.0
spends_constraint_call k l h at builtins.MultiKnapsack (x ∷ z ∷ e ∷ []) p = spends_multi_knapsack k l h at x z e p.0 p.1.0 p.1.1.0
spends_constraint_call k l h at builtins.Sequence (x ∷ v ∷ e ∷ f ∷ []) p = spends_sequence k l h at x v e f p.0 p.1.0 p.1.1.0 p.1.1.1.0
spends_constraint_call k l h at f es p = spends_give

spends_user_places : (k : List Bool) (l : Level) → LevelSpends k l → (at : Place) (x : Shape) → is_pure k x ≡ true → OnlySpends (user_places l at x)
unfolding user_places
spends_user_places k l h at x p = spends_then (spends_terms k l h x p) (λ c. spends_then (spends_charge 1 at) (λ _. spends_then (spends_charge _ _) (λ _. spends_give)))

spends_function : (k : List Bool) (l : Level) → LevelSpends k l → (at : Place) (f : Builtin) (es : List Shape) → AllPure k es → OnlySpends (function_form l at f es)
unfolding function_form
spends_function k l h at builtins.User (n ∷ x ∷ []) p = spends_user_places k l h at x p.1.0
spends_function k l h at f es p = spends_single (spends_constraint_call k l h at f es p)

-- all of them

spends_constraint_form : (k : List Bool) (l : Level) → LevelSpends k l → (at : Place) (form : Shape) → is_pure k form ≡ true → OnlySpends (constraint_form l at form)
unfolding constraint_form
spends_constraint_form k l h at (shapes.parentheses e) p = h.term e p
spends_constraint_form k l h at (shapes.unary o e) p = spends_single (spends_negation k l h at e p)
spends_constraint_form k l h at (shapes.chain first links) p =
    spends_single (spends_combination k l h first (items links) (and_left (is_pure k first) (is_pure k links) p) (items_pure k links (and_right (is_pure k first) (is_pure k links) p)))
spends_constraint_form k l h at (shapes.compare c a b) p =
    spends_single (spends_relation k l h at c a b (and_left (is_pure k a) (is_pure k b) p) (and_right (is_pure k a) (is_pure k b) p))
spends_constraint_form k l h at (shapes.aggregate a gs c body) p =
    let q = and_left (is_pure k gs && is_pure k c) (is_pure k body) p in
    spends_single (spends_joining k l h at a (items gs) c body (items_pure k gs (and_left (is_pure k gs) (is_pure k c) q)) (and_right (is_pure k gs) (is_pure k c) q) (and_right (is_pure k gs && is_pure k c) (is_pure k body) p))
spends_constraint_form k l h at (shapes.builtin f es) p = spends_function k l h at f (items es) (items_pure k es p)
spends_constraint_form k l h at form p = spends_give

spends_incremental : (k : List Bool) (l : Level) → LevelSpends k l → (at : Place) (kind : Kind) (form : Shape) → is_pure k form ≡ true → OnlySpends (incremental_form l at kind form)
unfolding incremental_form
spends_incremental k l h at kind form p = spends_if (is_constraint kind) (spends_constraint_form k l h at form p) (spends_moving k l h at form p)

pub spends_term : (c : Code) → KnowsPure c → (l : Level) → LevelSpends c.pure l → (e : Shape) → is_pure c.pure e ≡ true → OnlySpends (term_of_expression c l e)
unfolding term_of_expression
spends_term c r l h (shapes.typed start at kind moving form) p =
    spends_if moving (spends_incremental c.pure l h at kind form p) (spends_then (spends_form c r l h at kind form p) (λ v. spends_standing v))
spends_term c r l h e p = spends_give
