-- Each form goes where its parts go and its rule holds.
use Rattle.std.specs.Prelude.{◌≡◌, refl, Bool, true, false, List, [], ◌∷◌, ◌++◌, length, Option, None, Some, Ok, if◌then◌else◌}
use Rattle.std.proofs.Common.{ap, ◌∙◌}
use Rattle.cbl_base.specs.declared.place.Place.{Place}
use Rattle.comet_syntax.specs.declared.tree.expressions.Name.{Name}
use Rattle.comet_syntax.specs.declared.tree.expressions.Comparison.{Comparison}
use Rattle.comet_syntax.specs.declared.tree.expressions.UnaryOperator.{UnaryOperator}
use Rattle.comet_syntax.specs.declared.tree.expressions.Extreme.{Extreme}
use Rattle.comet_syntax.specs.declared.tree.expressions.Aggregate.{Aggregate}
use Rattle.checked_tree.specs.declared.expressions.Slot.{Slot}
use Rattle.checked_tree.specs.Shape as shapes
use Rattle.checked_tree.specs.Shape.{Shape, Seen, whole, wholes, rows, optional}
use Rattle.type_rules.specs.declared.context.Context.{Context}
use Rattle.type_rules.specs.declared.kinds.Note.{Note}
use Rattle.type_rules.specs.Rows.{method_named}
use Rattle.type_rules.specs.Rules.{Ruling, inner, inside, made_pure, unary_rule, chain_rule, compare_rule, range_rule, extreme_rule, conditional_rule, index_rule, grid_rule, parentheses_rule, list_rule, set_rule, generator_rule, aggregate_rule}
use Rattle.type_scopes.specs.declared.names.Found.{Found}
use Rattle.type_scopes.specs.declared.scope.Scope.{Scope}
use Rattle.type_scopes.specs.Names.{look, is_new, slot_of, opened, within, named_in_term, closed}
use Rattle.type_scopes.specs.State.{State, Went, give, ◌>>=◌, then_do, each}
use Rattle.type_calls.specs.Arguments.{made, note_of, all_numbers, any_moving}
use Rattle.type_calls.specs.Functions.{called}
use Rattle.type_calls.specs.Methods.{first_context, method_called}
use Rattle.type_expressions.specs.Expressions as forms
use Rattle.type_expressions.specs.Expressions.{Judge, Suffixed, Linked, Front, Generated, Generating, name_rule, operand_context, operator_context, first_operator_context, chained, argument_context, extreme_builtin, condition_note, is_one, body_context, linked, generator_made}
use Rattle.typing.specs.Calls.{ruled}
use Rattle.typing.specs.Rules.{having_named, having_declared, having_closed}
use Rattle.typing.proofs.Went.{Goes, goes_on, is_made}

goes_made : {start place : Place} {shape : Shape} {r : Ruling} {n : Note} {s : State} → r ≡ Ok n → Goes (made start place shape r) s (ruled start place shape n) s
goes_made {start} {place} {shape} {r} {n} {s} is = is_made start place shape r n s is

gives : {A : Type 0} {x : A} {s : State} → Goes (give x) s x s
gives = record { is = refl }

noted_goes : (slot : Slot) (x : Seen) (m : Bool) (s : State) → (if m then (named_in_term slot >>= λ _. give x) else give x) s ≡ Went x (having_named slot m s)
noted_goes slot x true s = refl
noted_goes slot x false s = refl

pub name_goes : (scope : Scope) (s : State) (n : Name) (f : Found) (note : Note) → look n.text s.names ≡ Some f → name_rule scope.context f.kind ≡ Ok note
    → Goes (forms.name_form n scope) s (ruled n.place n.place (shapes.name (slot_of scope f.index)) note) (having_named (slot_of scope f.index) note.moving s)
unfolding forms.name_form
name_goes scope s n f note found rule = record {
  is =
      ap (λ o. forms.named n.place scope o s) found
      ∙ (ap (λ r. then_do (made n.place n.place (shapes.name (slot_of scope f.index)) r s) (forms.noted (slot_of scope f.index))) rule
      ∙ noted_goes (slot_of scope f.index) (ruled n.place n.place (shapes.name (slot_of scope f.index)) note) note.moving s);
}

pub unary_goes : (scope : Scope) (s t : State) (o : UnaryOperator) (place : Place) (j : Judge) (a : Seen) (note : Note)
    → Goes (j (within (operand_context o scope.context) scope)) s a t → unary_rule o scope.context (note_of a) ≡ Ok note
    → Goes (forms.unary_form o place j scope) s (ruled place place (shapes.unary o (whole a)) note) t
unfolding forms.unary_form
unary_goes scope s t o place j a note h r = goes_on _ _ h (goes_made r)

pub comparison_goes : (scope : Scope) (s u t : State) (i : Judge) (c : Comparison) (place : Place) (j : Judge) (a b : Seen) (note : Note)
    → Goes (i (within (inner scope.context) scope)) s a u → Goes (j (within (inner scope.context) scope)) u b t → compare_rule scope.context (note_of a) (note_of b) ≡ Ok note
    → Goes (forms.comparison_form i c place j scope) s (ruled a.start place (shapes.compare c (whole a) (whole b)) note) t
unfolding forms.comparison_form
comparison_goes scope s u t i c place j a b note h k r = goes_on _ _ h (goes_on _ _ k (goes_made r))

pub range_goes : (scope : Scope) (s u t : State) (i : Judge) (place : Place) (j : Judge) (a b : Seen) (note : Note)
    → Goes (i (within (inner scope.context) scope)) s a u → Goes (j (within (inner scope.context) scope)) u b t → range_rule (note_of a) (note_of b) ≡ Ok note
    → Goes (forms.range_form i place j scope) s (ruled a.start place (shapes.range (whole a) (whole b)) note) t
unfolding forms.range_form
range_goes scope s u t i place j a b note h k r = goes_on _ _ h (goes_on _ _ k (goes_made r))

pub conditional_goes : (scope : Scope) (s u v t : State) (f i j : Judge) (c a b : Seen) (note : Note)
    → Goes (f (within (inner scope.context) scope)) s c u → Goes (i (within (inner scope.context) scope)) u a v → Goes (j (within (inner scope.context) scope)) v b t
    → conditional_rule (note_of c) (note_of a) (note_of b) ≡ Ok note
    → Goes (forms.conditional_form f i j scope) s (ruled c.start c.start (shapes.conditional (whole c) (whole a) (whole b)) note) t
unfolding forms.conditional_form
conditional_goes scope s u v t f i j c a b note g h k r = goes_on _ _ g (goes_on _ _ h (goes_on _ _ k (goes_made r)))

pub parentheses_goes : (scope : Scope) (s t : State) (place : Place) (j : Judge) (a : Seen) (note : Note)
    → Goes (j (within (inside scope.context) scope)) s a t → parentheses_rule (note_of a) ≡ Ok note
    → Goes (forms.parentheses_form place j scope) s (ruled place place (shapes.parentheses (whole a)) note) t
unfolding forms.parentheses_form
parentheses_goes scope s t place j a note h r = goes_on _ _ h (goes_made r)

pub extreme_goes : (scope : Scope) (s u t : State) (e : Extreme) (place : Place) (i j : Judge) (a b : Seen) (note : Note)
    → Goes (i (within (inner scope.context) scope)) s a u → Goes (j (within (inner scope.context) scope)) u b t → extreme_rule (note_of a) (note_of b) ≡ Ok note
    → Goes (forms.extreme_form e place i j scope) s (ruled place place (shapes.builtin (extreme_builtin e) (wholes (a ∷ b ∷ []))) note) t
unfolding forms.extreme_form
extreme_goes scope s u t e place i j a b note h k r = goes_on _ _ h (goes_on _ _ k (goes_made r))

pub chain_goes : (scope : Scope) (s u t : State) (j : Judge) (ls : List Linked) (a : Seen) (front : Front)
    → Goes (j (within (first_operator_context ls scope.context) scope)) s a u → Goes (each (forms.link_form scope) ls (record { note = note_of a; links = [] })) u front t
    → Goes (forms.chain_form j ls scope) s (chained a front) t
unfolding forms.chain_form
chain_goes scope s u t j ls a front h k = goes_on _ _ h (goes_on _ _ k gives)

pub link_goes : (scope : Scope) (s t : State) (front : Front) (l : Linked) (a : Seen) (note : Note)
    → Goes (l.operand (within (operator_context l.operator scope.context) scope)) s a t → chain_rule l.operator scope.context front.note (note_of a) ≡ Ok note
    → Goes (forms.link_form scope front l) s (record { note = note; links = front.links ++ shapes.link l.operator l.place (whole a) ∷ [] }) t
unfolding forms.link_form
link_goes scope s t front l a note h r = goes_on _ _ h (record { is = ap (λ r. linked l.place front (shapes.link l.operator l.place (whole a)) r t) r })

pub argument_goes : (first : Context) (scope : Scope) (s t : State) (es : List Seen) (j : Judge) (x : Seen)
    → Goes (j (within (argument_context first scope.context es) scope)) s x t → Goes (forms.argument_form first scope es j) s (es ++ x ∷ []) t
unfolding forms.argument_form
argument_goes first scope s t es j x h = goes_on _ _ h gives

pub list_goes : (scope : Scope) (s t : State) (place : Place) (js : List Judge) (es : List Seen) (note : Note)
    → Goes (each (forms.argument_form (inner scope.context) (within (inner scope.context) scope)) js []) s es t → list_rule (all_numbers es) (any_moving es) ≡ Ok note
    → Goes (forms.list_form place js scope) s (ruled place place (shapes.list (wholes es)) note) t
unfolding forms.list_form
list_goes scope s t place js es note h r = goes_on _ _ h (goes_made r)

pub set_goes : (scope : Scope) (s t : State) (place : Place) (js : List Judge) (es : List Seen) (note : Note)
    → Goes (each (forms.argument_form (inner scope.context) (within (inner scope.context) scope)) js []) s es t → set_rule (all_numbers es) (any_moving es) ≡ Ok note
    → Goes (forms.set_form place js scope) s (ruled place place (shapes.set (wholes es)) note) t
unfolding forms.set_form
set_goes scope s t place js es note h r = goes_on _ _ h (goes_made r)

pub call_goes : (scope : Scope) (s u t : State) (n : Name) (js : List Judge) (es : List Seen) (x : Seen)
    → Goes (each (forms.argument_form (inner scope.context) (within (inner scope.context) scope)) js []) s es u → Goes (called n scope es) u x t
    → Goes (forms.call_form n js scope) s x t
unfolding forms.call_form
call_goes scope s u t n js es x h k = goes_on _ _ h k

pub index_goes : (scope : Scope) (s t : State) (place : Place) (j : Judge) (front i : Seen) (note : Note)
    → Goes (j scope) s i t → index_rule (note_of front) (note_of i) ≡ Ok note
    → Goes (forms.index_form place j front scope) s (ruled front.start place (shapes.index (whole front) (whole i)) note) t
unfolding forms.index_form
index_goes scope s t place j front i note h r = goes_on _ _ h (goes_made r)

pub cell_goes : (scope : Scope) (s u t : State) (place : Place) (i j : Judge) (front a b : Seen) (note : Note)
    → Goes (i scope) s a u → Goes (j scope) u b t → grid_rule (note_of front) (note_of a) (note_of b) ≡ Ok note
    → Goes (forms.cell_form place i j front scope) s (ruled front.start place (shapes.cell (whole front) (whole a) (whole b)) note) t
unfolding forms.cell_form
cell_goes scope s u t place i j front a b note h k r = goes_on _ _ h (goes_on _ _ k (goes_made r))

pub method_form_goes : (scope : Scope) (s u t : State) (n : Name) (js : List Judge) (front : Seen) (es : List Seen) (x : Seen)
    → Goes (each (forms.argument_form (first_context (method_named front.kind n.text) scope.context) scope) js []) s es u → Goes (method_called n.place front scope es (method_named front.kind n.text)) u x t
    → Goes (forms.method_form n js front scope) s x t
unfolding forms.method_form
method_form_goes scope s u t n js front es x h k = goes_on _ _ h k

pub postfix_goes : (scope : Scope) (s u t : State) (j : Judge) (fs : List Suffixed) (a x : Seen)
    → Goes (j (within (inner scope.context) scope)) s a u → Goes (each (forms.suffix_form (within (inner scope.context) scope)) fs a) u x t
    → Goes (forms.postfix_form j fs scope) s x t
unfolding forms.postfix_form
postfix_goes scope s u t j fs a x h k = goes_on _ _ h k

pub generator_goes : (scope : Scope) (s t : State) (gs : List Shape) (g : Generated) (d : Seen) (note : Note)
    → Goes (g.domain (within (made_pure scope.context) scope)) s d t → generator_rule (is_new g.name.text scope.block t.names) (note_of d) ≡ Ok note
    → Goes (forms.generator_form scope gs g) s (gs ++ shapes.generator g.name.place (slot_of scope (length t.names)) (whole d) ∷ []) (having_declared g.name.text t)
unfolding forms.generator_form
generator_goes scope s t gs g d note h r = goes_on _ _ h (record { is = ap (λ r. generator_made scope g.name gs d r t) r })

pub no_condition_goes : (scope : Scope) (s : State) → Goes (forms.condition_form None scope) s None s
unfolding forms.condition_form
no_condition_goes scope s = record { is = refl }

pub some_condition_goes : (scope : Scope) (s t : State) (j : Judge) (x : Seen) → Goes (j scope) s x t → Goes (forms.condition_form (Some j) scope) s (Some x) t
unfolding forms.condition_form forms.some_form
some_condition_goes scope s t j x h = goes_on _ _ h gives

aggregated_goes : (scope : Scope) (s u v t : State) (o : Aggregate) (place : Place) (gs : List Generated) (c : Option Judge) (j : Judge) (shown : List Shape) (x : Option Seen) (b : Seen) (note : Note)
    → Goes (each (forms.generator_form (within (inner scope.context) scope)) gs []) s shown u → Goes (forms.condition_form c (within (made_pure scope.context) scope)) u x v
    → Goes (j (within (body_context o scope.context) scope)) v b t → aggregate_rule o scope.context (is_one shown) (condition_note x) (note_of b) ≡ Ok note
    → Goes (forms.aggregated o place (record { generators = gs; condition = c }) j scope) s (ruled place place (shapes.aggregate o (rows shown) (optional whole x) (whole b)) note) t
unfolding forms.aggregated
aggregated_goes scope s u v t o place gs c j shown x b note g h k r = goes_on _ _ g (goes_on _ _ h (goes_on _ _ k (goes_made r)))

pub aggregate_goes : (scope : Scope) (s u v t : State) (o : Aggregate) (place : Place) (gs : List Generated) (c : Option Judge) (j : Judge) (shown : List Shape) (x : Option Seen) (b : Seen) (note : Note)
    → Goes (each (forms.generator_form (within (inner scope.context) (opened scope (length s.names)))) gs []) s shown u → Goes (forms.condition_form c (within (made_pure scope.context) (opened scope (length s.names)))) u x v
    → Goes (j (within (body_context o scope.context) (opened scope (length s.names)))) v b t → aggregate_rule o scope.context (is_one shown) (condition_note x) (note_of b) ≡ Ok note
    → Goes (forms.aggregate_form o place (record { generators = gs; condition = c }) j scope) s (ruled place place (shapes.aggregate o (rows shown) (optional whole x) (whole b)) note) (having_closed (length s.names) t)
unfolding forms.aggregate_form
aggregate_goes scope s u v t o place gs c j shown x b note g h k r =
    record { is = ap (λ z. then_do z (closed (length s.names))) (aggregated_goes (opened scope (length s.names)) s u v t o place gs c j shown x b note g h k r).is }
