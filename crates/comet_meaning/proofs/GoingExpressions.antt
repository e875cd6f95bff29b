-- Expressions go onward where the parts in them do.
use Rattle.std.proofs.Common.{ℕ, ◌-◌, ℤ, pos, Bool, List, [], ◌∷◌, ◌++◌, nat_le, nat_lt, length, Option, Some, None}
use Rattle.cbl_base.specs.declared.place.Place.{Place}
use Rattle.cbl_base.specs.declared.faults.RunFault.TheVariants.{BadData}
use Rattle.comet_syntax.specs.declared.tree.expressions.Aggregate.{Aggregate}
use Rattle.comet_syntax.specs.declared.tree.expressions.Aggregate.TheVariants as aggregates
use Rattle.cbl_operations.specs.declared.op.Op.TheVariants as ops
use Rattle.term_model.specs.declared.term.Term.{Term}
use Rattle.checked_tree.specs.declared.kind.Kind.{Kind}
use Rattle.checked_tree.specs.declared.kind.Kind.TheVariants as kinds
use Rattle.checked_tree.specs.declared.expressions.Builtin.{Builtin}
use Rattle.checked_tree.specs.declared.expressions.Builtin.TheVariants as builtins
use Rattle.checked_tree.specs.declared.expressions.Method.{Method}
use Rattle.checked_tree.specs.declared.expressions.Method.TheVariants as methods
use Rattle.checked_tree.specs.Shape as shapes
use Rattle.checked_tree.specs.Shape.{Shape, Seen, whole}
use Rattle.checked_tree.specs.Tasks.{Coded}
use Rattle.comet_meaning.specs.Values.{Value, Row, bounds_of, size_of}
use Rattle.comet_meaning.specs.State.{left}
use Rattle.comet_meaning.specs.Outcome.{always}
use Rattle.comet_meaning.specs.Levels.{Code, Level}
use Rattle.comet_meaning.specs.Limits.{most_data}
use Rattle.comet_meaning.specs.Parts.{items, place_of}
use Rattle.comet_meaning.specs.Builtins.{builtin_value, builtin_form}
use Rattle.comet_meaning.specs.Aggregates.{Element, with_element, element_form, aggregate_value, aggregate_form}
use Rattle.comet_meaning.specs.Data.{spelled, behind_blanks, word_of, behind_word, unread, first_word, fitting, word_value, went_on, next_number}
use Rattle.comet_meaning.specs.Users.{rule_in, with_given}
use Rattle.comet_meaning.specs.Posting.{weight_form, user_name, post_one, post_taken, post_named, post_either, post_constraint, post_part}
use Rattle.comet_meaning.specs.Methods.{fitting_number, put_set, method_value, object_value, asked_value, asked_values, called_form, restore_form, method_form}
use Rattle.comet_meaning.specs.Calls.{argument_form, arguments_form, own_array, own_arrays, handed, body_form, called, call_form}
use Rattle.comet_meaning.specs.Expressions.{set_form, value_of_form, value_of_expression}
use Rattle.comet_meaning.specs.Onward.{GoesOn}
use Rattle.comet_meaning.proofs.GoingOn.{onward_refl, goes_then, goes_give, goes_fault, goes_if, goes_give_or, goes_unless, goes_charge, goes_at, goes_look, goes_put, goes_in_scope, goes_in_frame, goes_count_cells, goes_new_array}
use Rattle.comet_meaning.proofs.GoingModels.{goes_close, goes_domain_of}
use Rattle.comet_meaning.proofs.GoingSystems.{goes_value_of, goes_violations, goes_assign_delta, goes_swap_delta, goes_post, goes_post_user, goes_take_user}
use Rattle.comet_meaning.proofs.GoingTerms.{goes_node}
use Rattle.comet_meaning.proofs.GoingEvents.{goes_run_queue}
use Rattle.comet_meaning.proofs.GoingSearch.{goes_draw, goes_has_move, goes_get_move, goes_restore}
use Rattle.comet_meaning.proofs.GoingParts.{LevelGoesOn, goes_value, goes_number, goes_condition, goes_values, goes_one_term, goes_terms, goes_constraint, goes_unary, goes_chain, goes_compare, goes_range, goes_conditional, goes_list, goes_index, goes_cell, goes_count, goes_each_tuple}

-- functions of the language

pub goes_builtin_value : (at : Place) (f : Builtin) (vs : List Value) → GoesOn (builtin_value at f vs)
goes_builtin_value at builtins.Abs (x ∷ []) = goes_then (goes_give_or at _) (λ z. goes_give)
goes_builtin_value at builtins.Min (x ∷ y ∷ []) = goes_give
goes_builtin_value at builtins.Max (x ∷ y ∷ []) = goes_give
goes_builtin_value at builtins.Card (s ∷ []) = goes_give
goes_builtin_value at builtins.Member (x ∷ s ∷ []) = goes_give
goes_builtin_value at builtins.Union (s ∷ t ∷ []) = goes_give
goes_builtin_value at builtins.Inter (s ∷ t ∷ []) = goes_give
goes_builtin_value at builtins.Minus (s ∷ t ∷ []) = goes_give
goes_builtin_value at f vs = goes_give

pub goes_builtin : (l : Level) → LevelGoesOn l → (at : Place) (f : Builtin) (es : List Shape) → GoesOn (builtin_form l at f es)
unfolding builtin_form
goes_builtin l h at builtins.Count (a ∷ e ∷ []) = goes_count l h at a e
goes_builtin l h at f es = goes_then (goes_values l h es []) (λ vs. goes_then (goes_charge 1 at) (λ _. goes_builtin_value at f vs))

-- aggregates

pub goes_with_element : (at : Place) (a : Aggregate) (key : ℤ) (xs : List Element) (v : Value) → GoesOn (with_element at a key xs v)
goes_with_element at aggregates.All key xs v = goes_then (goes_unless _ at _) (λ _. goes_give)
goes_with_element at a key xs v = goes_give

pub goes_element : (l : Level) → LevelGoesOn l → (at : Place) (a : Aggregate) (c body : Shape) (key : ℤ) (xs : List Element) → GoesOn (element_form l at a c body key xs)
unfolding element_form
goes_element l h at a c body key xs =
    goes_then (goes_condition l h c) (λ t. goes_if t (goes_then (goes_value l h body) (λ v. goes_with_element at a key xs v)) goes_give)

pub goes_aggregate_value : (at : Place) (a : Aggregate) (xs : List Element) → GoesOn (aggregate_value at a xs)
goes_aggregate_value at aggregates.Sum xs = goes_then (goes_give_or at _) (λ z. goes_give)
goes_aggregate_value at aggregates.Min xs = goes_then (goes_give_or at _) (λ z. goes_give)
goes_aggregate_value at aggregates.Max xs = goes_then (goes_give_or at _) (λ z. goes_give)
goes_aggregate_value at a xs = goes_give

pub goes_aggregate : (l : Level) → LevelGoesOn l → (at : Place) (a : Aggregate) (gs : List Shape) (c body : Shape) → GoesOn (aggregate_form l at a gs c body)
unfolding aggregate_form
goes_aggregate l h at a gs c body =
    goes_then (goes_in_scope (goes_each_tuple l h at always _ [] gs [] (λ v xs. goes_element l h at a c body v xs))) (λ xs. goes_aggregate_value at a xs)

-- data

pub goes_fitting : (at : Place) (z : Option ℤ) → GoesOn (fitting at z)
goes_fitting at None = goes_fault
goes_fitting at (Some z) = goes_if _ goes_give goes_fault

pub goes_word_value : (at : Place) (word : List ℕ) → GoesOn (word_value at word)
goes_word_value at [] = goes_fault
goes_word_value at (c ∷ cs) = goes_fitting at (spelled (c ∷ cs))

pub goes_went_on : (input : Value) (rest : List ℕ) (v : Value) → GoesOn (went_on input rest v)
goes_went_on input rest v = record { from = λ s. onward_refl (left s) }

pub goes_first_word : (at : Place) (input : Value) (text : List ℕ) → GoesOn (first_word at input text)
goes_first_word at input text = goes_then (goes_word_value at (word_of text)) (λ v. goes_went_on input (behind_word text) v)

pub goes_next_number : (at : Place) (input : Value) → GoesOn (next_number at input)
unfolding next_number
goes_next_number at input =
    goes_at (λ s. goes_then (goes_unless (nat_le (length s.data_text) most_data) at BadData) (λ _. goes_first_word at input (behind_blanks (unread s input))))

-- methods

pub goes_fitting_number : (at : Place) (z : ℤ) → GoesOn (fitting_number at z)
goes_fitting_number at z = goes_then (goes_give_or at _) (λ x. goes_give)

pub goes_put_set : (o : Shape) (f : List ℤ → List ℤ) → GoesOn (put_set o f)
goes_put_set (shapes.typed start at kind moving (shapes.name slot)) f =
    goes_then (goes_look slot) (λ v. goes_then (goes_put slot _) (λ _. goes_give))
goes_put_set o f = goes_give

pub goes_method_value : (at : Place) (m : Method) (o : Shape) (v : Value) (vs : List Value) → GoesOn (method_value at m o v vs)
unfolding method_value
goes_method_value at methods.Low o v vs = goes_give
goes_method_value at methods.Up o v vs = goes_give
goes_method_value at methods.RangeSize o v vs = goes_fitting_number at (pos (size_of (bounds_of v)))
goes_method_value at methods.Contains o v (x ∷ []) = goes_give
goes_method_value at methods.SetSize o v vs = goes_give
goes_method_value at methods.Insert o v (x ∷ []) = goes_put_set o _
goes_method_value at methods.Delete o v (x ∷ []) = goes_put_set o _
goes_method_value at methods.ArraySize o v vs = goes_then (goes_count_cells v) (λ n. goes_give)
goes_method_value at methods.ReadInt o v vs = goes_next_number at v
goes_method_value at methods.Close o v vs = goes_close at _
goes_method_value at methods.Domain o v vs = goes_domain_of at v
goes_method_value at methods.Violations o v vs = goes_violations at v vs
goes_method_value at methods.SystemAssignDelta o v vs = goes_assign_delta at v vs
goes_method_value at methods.SystemSwapDelta o v vs = goes_swap_delta at v vs
goes_method_value at methods.ObjectiveValue o v vs = goes_value_of at v
goes_method_value at methods.ObjectiveEvaluation o v vs = goes_value_of at v
goes_method_value at methods.ObjectiveAssignDelta o v vs = goes_assign_delta at v vs
goes_method_value at methods.ObjectiveSwapDelta o v vs = goes_swap_delta at v vs
goes_method_value at methods.Draw o v vs = goes_draw at v
goes_method_value at methods.HasMove o v vs = goes_has_move v
goes_method_value at methods.GetMove o v vs = goes_get_move at v
goes_method_value at methods.Restore o v vs = goes_restore at v
goes_method_value at m o v vs = goes_give

pub goes_object_value : (l : Level) → LevelGoesOn l → (m : Method) (o : Shape) → GoesOn (object_value l m o)
unfolding object_value
goes_object_value l h methods.Domain o = h.expr o
goes_object_value l h m o = goes_value l h o

pub goes_asked_value : (l : Level) → LevelGoesOn l → (itself : Bool) (e : Shape) → GoesOn (asked_value l itself e)
unfolding asked_value
goes_asked_value l h itself e = goes_if itself (h.expr e) (goes_value l h e)

pub goes_asked_values : (l : Level) → LevelGoesOn l → (n : ℕ) (es : List Shape) (vs : List Value) → GoesOn (asked_values l n es vs)
unfolding asked_values
goes_asked_values l h n [] vs = goes_give
goes_asked_values l h n (e ∷ es) vs = goes_then (goes_asked_value l h (nat_lt 0 n) e) (λ v. goes_asked_values l h (n - 1) es (vs ++ v ∷ []))

pub goes_called_on : (l : Level) → LevelGoesOn l → (at : Place) (m : Method) (o : Shape) (es : List Shape) → GoesOn (called_form l at m o es)
unfolding called_form
goes_called_on l h at m o es =
    goes_then (goes_object_value l h m o) (λ v. goes_then (goes_asked_values l h _ es []) (λ vs. goes_then (goes_charge 1 at) (λ _. goes_method_value at m o v vs)))

pub goes_weight : (l : Level) → LevelGoesOn l → (ws : List Shape) → GoesOn (weight_form l ws)
unfolding weight_form
goes_weight l h [] = goes_give
goes_weight l h (w ∷ ws) = goes_number l h w

pub goes_post_one : (l : Level) → LevelGoesOn l → (at : Place) (o c : Shape) (ws : List Shape) → GoesOn (post_one l at o c ws)
unfolding post_one
goes_post_one l h at o c ws =
    goes_then (goes_value l h o) (λ v. goes_then (goes_constraint l h c) (λ t. goes_then (goes_weight l h ws) (λ weight. goes_then (goes_charge 1 at) (λ _. goes_post at t weight v))))

pub goes_post_taken : (at : Place) (n : ℕ) (ts : List Term) (weight : ℤ) (v : Value) → GoesOn (post_taken at n ts weight v)
unfolding post_taken
goes_post_taken at n ts weight v = record { from = λ s. (goes_post_user at (rule_in s.users n) ts weight v).from (record s { users = with_given s.users n }) }

pub goes_post_named : (l : Level) → LevelGoesOn l → (at : Place) (o c : Shape) (ws : List Shape) (name : List ℕ) → GoesOn (post_named l at o c ws name)
unfolding post_named
goes_post_named l h at o c ws name =
    goes_then (goes_value l h o) (λ v. goes_then (goes_terms l h c) (λ xs. goes_then (goes_take_user (place_of c) name) (λ n.
    goes_then (goes_node (place_of c) (ops.User n) xs.terms) (λ _. goes_then (goes_weight l h ws) (λ weight. goes_then (goes_charge 1 at) (λ _.
    goes_post_taken at n xs.terms weight v))))))

pub goes_post_either : (l : Level) → LevelGoesOn l → (at : Place) (o c : Shape) (ws : List Shape) (name : Option (List ℕ)) → GoesOn (post_either l at o c ws name)
goes_post_either l h at o c ws None = goes_post_one l h at o c ws
goes_post_either l h at o c ws (Some name) = goes_post_named l h at o c ws name

pub goes_post_constraint : (l : Level) → LevelGoesOn l → (at : Place) (o : Shape) (es : List Shape) → GoesOn (post_constraint l at o es)
unfolding post_constraint
goes_post_constraint l h at o [] = goes_give
goes_post_constraint l h at o (c ∷ ws) = goes_post_either l h at o c ws (user_name c)

pub goes_post_part : (l : Level) → LevelGoesOn l → (at : Place) (o : Shape) (es : List Shape) → GoesOn (post_part l at o es)
unfolding post_part
goes_post_part l h at o [] = goes_give
goes_post_part l h at o (e ∷ ws) =
    goes_then (goes_value l h o) (λ v. goes_then (goes_one_term l h e) (λ t. goes_then (goes_weight l h ws) (λ weight. goes_then (goes_charge 1 at) (λ _. goes_post at t weight v))))

pub goes_restore_form : (l : Level) → LevelGoesOn l → (at : Place) (o : Shape) (es : List Shape) → GoesOn (restore_form l at o es)
unfolding restore_form
goes_restore_form l h at o es = goes_then (goes_called_on l h at methods.Restore o es) (λ v. goes_then (goes_run_queue l h at) (λ _. goes_give {x = v}))

pub goes_method : (l : Level) → LevelGoesOn l → (at : Place) (m : Method) (o : Shape) (es : List Shape) → GoesOn (method_form l at m o es)
unfolding method_form
goes_method l h at methods.Post o es = goes_post_constraint l h at o es
goes_method l h at methods.PostPart o es = goes_post_part l h at o es
goes_method l h at methods.Restore o es = goes_restore_form l h at o es
goes_method l h at m o es = goes_called_on l h at m o es

-- calls

pub goes_argument : (l : Level) → LevelGoesOn l → (k : Kind) (e : Shape) → GoesOn (argument_form l k e)
unfolding argument_form
goes_argument l h kinds.Variable e = h.expr e
goes_argument l h kinds.SetVariable e = h.expr e
goes_argument l h k e = goes_then (goes_value l h e) (λ v. goes_give)

pub goes_arguments : (l : Level) → LevelGoesOn l → (ks : List Kind) (es : List Shape) (vs : List Value) → GoesOn (arguments_form l ks es vs)
unfolding arguments_form
goes_arguments l h (k ∷ ks) (e ∷ es) vs = goes_then (goes_argument l h k e) (λ v. goes_arguments l h ks es (vs ++ v ∷ []))
goes_arguments l h ks es vs = goes_give

pub goes_own_array : (v : Value) → GoesOn (own_array v)
goes_own_array (Row xs) = goes_new_array _
goes_own_array v = goes_give

pub goes_own_arrays : (vs ws : List Value) → GoesOn (own_arrays vs ws)
goes_own_arrays [] ws = goes_give
goes_own_arrays (v ∷ vs) ws = goes_then (goes_own_array v) (λ w. goes_own_arrays vs (ws ++ w ∷ []))

pub goes_handed : (pure : Bool) (vs : List Value) → GoesOn (handed pure vs)
goes_handed pure vs = goes_if pure goes_give (goes_own_arrays vs [])

pub goes_body : (l : Level) → LevelGoesOn l → (f : Coded) (vs : List Value) → GoesOn (body_form l f vs)
unfolding body_form
goes_body l h f vs = goes_in_scope (goes_in_frame vs (goes_then (h.stmt f.body) (λ flow. goes_give)))

pub goes_called : (l : Level) → LevelGoesOn l → (at : Place) (es : List Shape) (pure : Bool) (f : Option Coded) → GoesOn (called l at es pure f)
goes_called l h at es pure None = goes_give
goes_called l h at es pure (Some f) =
    goes_then (goes_arguments l h f.parameters es []) (λ vs. goes_then (goes_charge 1 at) (λ _. goes_then (goes_handed pure vs) (λ ws. goes_body l h f ws)))

pub goes_call : (c : Code) (l : Level) → LevelGoesOn l → (at : Place) (f : ℕ) (es : List Shape) → GoesOn (call_form c l at f es)
unfolding call_form
goes_call c l h at f es = goes_called l h at es _ _

-- expressions

pub goes_set : (l : Level) → LevelGoesOn l → (es : List Shape) → GoesOn (set_form l es)
unfolding set_form
goes_set l h es = goes_then (goes_values l h es []) (λ vs. goes_give)

pub goes_form : (c : Code) (l : Level) → LevelGoesOn l → (at : Place) (kind : Kind) (form : Shape) → GoesOn (value_of_form c l at kind form)
unfolding value_of_form
goes_form c l h at kind (shapes.number n) = goes_give
goes_form c l h at kind (shapes.truth b) = goes_give
goes_form c l h at kind (shapes.name slot) = goes_look slot
goes_form c l h at kind (shapes.parentheses e) = h.expr e
goes_form c l h at kind (shapes.unary o e) = goes_unary l h at o e
goes_form c l h at kind (shapes.chain first links) = goes_chain l h first (items links)
goes_form c l h at kind (shapes.compare o a b) = goes_compare l h o a b
goes_form c l h at kind (shapes.range a b) = goes_range l h a b
goes_form c l h at kind (shapes.conditional t a b) = goes_conditional l h kind t a b
goes_form c l h at kind (shapes.list es) = goes_list l h (items es)
goes_form c l h at kind (shapes.index a i) = goes_index l h at a i
goes_form c l h at kind (shapes.cell a i j) = goes_cell l h at a i j
goes_form c l h at kind (shapes.set es) = goes_set l h (items es)
goes_form c l h at kind (shapes.aggregate a gs t body) = goes_aggregate l h at a (items gs) t body
goes_form c l h at kind (shapes.builtin f es) = goes_builtin l h at f (items es)
goes_form c l h at kind (shapes.call f es) = goes_call c l h at f (items es)
goes_form c l h at kind (shapes.method m o es) = goes_method l h at m o (items es)
goes_form c l h at kind form = goes_give

pub goes_expression : (c : Code) (l : Level) → LevelGoesOn l → (e : Shape) → GoesOn (value_of_expression c l e)
unfolding value_of_expression
goes_expression c l h (shapes.typed start at kind moving form) = goes_form c l h at kind form
goes_expression c l h e = goes_give
