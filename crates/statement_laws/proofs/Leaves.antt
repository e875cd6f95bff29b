-- Declarations, the making of objects and simple statements behave.
use Rattle.std.specs.Prelude.{◌≡◌, refl, Bool, true, not, List, [], ◌∷◌, ◌++◌, length, map, drop, Option, None, Some, option_map}
use Rattle.cbl_base.specs.declared.place.Place.{Place}
use Rattle.comet_syntax.specs.declared.tree.expressions.Name.{Name}
use Rattle.comet_syntax.specs.declared.tree.expressions.Argument.{Argument}
use Rattle.comet_syntax.specs.declared.tree.expressions.Expression.{Expression}
use Rattle.comet_syntax.specs.declared.tree.declarations.Class.{Class}
use Rattle.comet_syntax.specs.declared.tree.declarations.Maker.{Maker}
use Rattle.comet_syntax.specs.declared.tree.declarations.Dimensions.{Dimensions}
use Rattle.comet_syntax.specs.declared.tree.declarations.VariableStart.{VariableStart}
use Rattle.comet_syntax.specs.declared.tree.declarations.VariableStart.TheVariants as starts
use Rattle.comet_syntax.specs.declared.tree.declarations.Declaration.{Declaration}
use Rattle.comet_syntax.specs.declared.tree.declarations.Declaration.TheVariants as declarations
use Rattle.comet_syntax.specs.declared.tree.statements.Item.{Item}
use Rattle.comet_syntax.specs.declared.tree.statements.Item.TheVariants as items
use Rattle.comet_syntax.specs.declared.tree.statements.NewObject.{NewObject}
use Rattle.comet_syntax.specs.declared.tree.statements.Simple.{Simple}
use Rattle.comet_syntax.specs.declared.tree.statements.Simple.TheVariants as simples
use Rattle.comet_syntax.specs.declared.tree.statements.Step.{Step}
use Rattle.comet_syntax.specs.declared.tree.statements.WriteOperator.{WriteOperator}
use Rattle.comet_syntax.specs.declared.tree.statements.WriteOperator.TheVariants as writing
use Rattle.checked_tree.specs.declared.kind.Kind.{Kind}
use Rattle.checked_tree.specs.declared.kind.Kind.TheVariants as kind
use Rattle.checked_tree.specs.Shape.{Seen, whole}
use Rattle.checked_tree.specs.Actions as deeds
use Rattle.checked_tree.specs.Actions.{Deed, Shown}
use Rattle.type_rules.specs.declared.context.Context.{Context}
use Rattle.type_rules.specs.Rules.{is_pure}
use Rattle.type_rules.specs.Classes.{class_kind}
use Rattle.type_rules.specs.Kinds.{is_same}
use Rattle.type_scopes.specs.declared.names.Found.{Found}
use Rattle.type_scopes.specs.declared.scope.Scope.{Scope}
use Rattle.type_scopes.specs.Names.{look, is_new, slot_of, within}
use Rattle.type_scopes.specs.State.{State, Went, Check, give, ◌>>=◌}
use Rattle.type_calls.specs.Doing.{act_on}
use Rattle.type_calls.specs.Roots.{roots_of}
use Rattle.type_expressions.specs.Expressions.{Judge, judge, judge_argument, arguments_form}
use Rattle.type_declarations.specs.Parts as parts
use Rattle.type_declarations.specs.Parts.{ruled, Starting, Celled}
use Rattle.type_declarations.specs.Objects as objects
use Rattle.type_declarations.specs.Objects.{Handed}
use Rattle.type_declarations.specs.Declarations as forms
use Rattle.type_simples.specs.Simples as acts
use Rattle.type_simples.specs.declared.simples.Standing.{Standing}
use Rattle.type_laws.specs.Behaves.{Behaves}
use Rattle.type_laws.proofs.Allowed.{AllOf, behaves_then, behaves_give, behaves_refuse, behaves_at, behaves_each, behaves_where, behaves_act}
use Rattle.type_laws.proofs.Forms.{Good, arguments_good, name_good}
use Rattle.type_laws.proofs.Trees.{expression_good, argument_good}
use Rattle.statement_laws.proofs.Parts.{ruled_good, declare_good, GoodStart, judged_start, start_good, ranges_good, GoodStarting, starting_good, cells_good, arguments_judged}

-- a rule that asks what is known
pub asking_good : {A : Type 0} (scope : Scope) (g : State → Check A) → ((s : State) → Behaves scope (g s)) → Behaves scope (λ s. g s s)
asking_good scope g h = behaves_at scope g h

-- declarations

scalar_declared_good : (n : Name) (k : Kind) (e : Option Seen) (scope : Scope) → Behaves scope (forms.scalar_declared n k e scope)
scalar_declared_good n k e scope s x t h = behaves_then scope _ _ (declare_good scope n.text k 0 []) (λ _. behaves_give scope (deeds.declaring (slot_of scope (length s.names)) k e)) s x t h

pub scalar_good : (place : Place) (n : Name) (k : Kind) (j : Option Judge) → GoodStart j → (scope : Scope) → Behaves scope (forms.scalar_form place n k j scope)
unfolding forms.scalar_form
scalar_good place n k j h scope =
    behaves_then scope _ _ (start_good scope j h) (λ e.
    behaves_then scope _ _ (behaves_at scope (λ s. ruled place (forms.declaring_fault (is_new n.text scope.block s.names) (forms.scalar_fits k e))) (λ s. ruled_good scope place _)) (λ _.
    scalar_declared_good n k e scope))

array_declared_good : (n : Name) (k : Kind) (c : Celled) (scope : Scope) → Behaves scope (forms.array_declared n k c scope)
array_declared_good n k c scope s x t h = behaves_then scope _ _ (declare_good scope n.text k 0 []) (λ _. behaves_give scope (deeds.declaring_array (slot_of scope (length s.names)) k c.sizes c.start)) s x t h

pub array_good : (place : Place) (n : Name) (ds : Dimensions) (x : Starting) → GoodStarting x → (scope : Scope) → Behaves scope (forms.array_form place n ds x scope)
unfolding forms.array_form
array_good place n ds x h scope =
    behaves_then scope _ _ (ranges_good ds scope) (λ r.
    behaves_then scope _ _ (cells_good ds r x h scope) (λ c.
    behaves_then scope _ _ (behaves_at scope (λ s. ruled place (forms.declaring_fault (is_new n.text scope.block s.names) (parts.start_fits kind.Int c.start))) (λ s. ruled_good scope place _)) (λ _.
    array_declared_good n (parts.sized_kind kind.Int ds) c scope)))

variable_declared_good : (place : Place) (n : Name) (k : Kind) (d : Option Seen) (c : Celled) (scope : Scope) (f : Found) → Behaves scope (forms.variable_declared place n k d c scope f)
variable_declared_good place n k d c scope f =
    behaves_then scope _ _ (behaves_act scope place forms.making_doing (slot_of scope f.index ∷ [])) (λ _ s x t h.
    behaves_then scope _ _ (declare_good scope n.text k 0 []) (λ _. behaves_give scope (forms.variable_deed n (slot_of scope (length s.names)) (slot_of scope f.index) k d c)) s x t h)

variable_with_good : (place : Place) (n : Name) (k : Kind) (fit : Bool) (d : Option Seen) (c : Celled) (scope : Scope) (f : Option Found) → Behaves scope (forms.variable_with place n k fit d c scope f)
variable_with_good place n k fit d c scope None = behaves_refuse scope place _
variable_with_good place n k fit d c scope (Some f) =
    behaves_then scope _ _ (behaves_at scope (λ s. ruled place _) (λ s. ruled_good scope place _)) (λ _. variable_declared_good place n k d c scope f)

pub variables_good : (place : Place) (n : Name) (k : Kind) (ds : Dimensions) (solver : Name) (d : Option Judge) (x : Starting) → GoodStart d → GoodStarting x → (scope : Scope)
    → Behaves scope (forms.variables_form place n k ds solver d x scope)
unfolding forms.variables_form
variables_good place n k ds solver d x g h scope =
    behaves_then scope _ _ (ranges_good ds scope) (λ r.
    behaves_then scope _ _ (start_good scope d g) (λ e.
    behaves_then scope _ _ (cells_good ds r x h scope) (λ c.
    behaves_at scope (λ s. forms.variable_with place n (parts.sized_kind k ds) (parts.start_fits k c.start) e c scope (look solver.text s.names)) (λ s. variable_with_good place n _ _ e c scope _))))

pub variable_good : (place : Place) (n : Name) (k : Kind) (solver : Name) (d : Option Judge) (x : Starting) → GoodStart d → GoodStarting x → (scope : Scope)
    → Behaves scope (forms.variable_form place n k solver d x scope)
unfolding forms.variable_form
variable_good place n k solver d x g h scope =
    behaves_then scope _ _ (start_good scope d g) (λ e.
    behaves_then scope _ _ (starting_good x h scope) (λ y.
    behaves_at scope (λ s. forms.variable_with place n k (parts.start_fits k y) e (record { sizes = []; start = y }) scope (look solver.text s.names)) (λ s. variable_with_good place n _ _ e _ scope _)))

variable_start_good : (x : Option VariableStart) → GoodStarting (forms.variable_start x)
variable_start_good None = tt
variable_start_good (Some (starts.Assign e)) = expression_good e
variable_start_good (Some (starts.Define e)) = expression_good e

starting_with_good : (e : Option Expression) → GoodStarting (forms.starting_with (option_map judge e))
starting_with_good None = tt
starting_with_good (Some e) = expression_good e

-- objects

making_pure : (k : Kind) (c : Context) → is_pure c ≡ true → is_pure (objects.making_context k c) ≡ true
making_pure kind.Int c h = h
making_pure kind.Bool c h = h
making_pure kind.Range c h = h
making_pure kind.Set c h = h
making_pure kind.Array c h = h
making_pure kind.Grid c h = h
making_pure kind.Variable c h = h
making_pure kind.VariableArray c h = h
making_pure kind.VariableGrid c h = h
making_pure kind.SetVariable c h = h
making_pure kind.SetVariableArray c h = h
making_pure kind.SetVariableGrid c h = h
making_pure kind.Solver c h = h
making_pure kind.System c h = h
making_pure kind.Objective c h = refl
making_pure kind.Total c h = h
making_pure kind.Distribution c h = h
making_pure kind.Input c h = h
making_pure kind.Selector c h = h
making_pure kind.Monitor c h = h
making_pure kind.Solution c h = h
making_pure kind.Function c h = h
making_pure kind.Constraint c h = h
making_pure kind.Move c h = h
making_pure kind.Text c h = h
making_pure kind.Nothing c h = h

pub handed_good : (k : Kind) (args : List Argument) (scope : Scope) → Behaves scope (objects.handed_form k args scope)
unfolding objects.handed_form
handed_good k args scope =
    behaves_at scope (λ s. arguments_form (objects.making_context k scope.context) (map judge_argument args) scope >>= λ es t. Went (record { arguments = es; terms = drop (length s.terms) t.terms }) t)
    (λ s. behaves_then scope _ _ (arguments_good (objects.making_context k scope.context) scope (map judge_argument args) (arguments_judged args argument_good) (making_pure k scope.context))
    (λ es. behaves_at scope (λ t. give (record { arguments = es; terms = drop (length s.terms) t.terms })) (λ t. behaves_give scope _)))

object_declared_good : (n : Name) (k : Kind) (h : Handed) (scope : Scope) → Behaves scope (objects.object_declared n k h scope)
object_declared_good n k h scope s x t e = behaves_then scope _ _ (declare_good scope n.text k 0 (objects.kept_solvers k h)) (λ _. behaves_give scope (deeds.making (slot_of scope (length s.names)) k h.arguments)) s x t e

object_made_good : (place : Place) (is_ls : Bool) (n : Name) (k made : Kind) (h : Handed) (scope : Scope) → Behaves scope (objects.object_made place is_ls n k made h scope)
object_made_good place is_ls n k made h scope =
    behaves_then scope _ _ (behaves_at scope (λ s. ruled place (objects.object_fault (is_new n.text scope.block s.names) k made h.arguments)) (λ s. ruled_good scope place _)) (λ _.
    behaves_then scope _ _ (behaves_act scope place (objects.object_doing k) (objects.making_roots k h)) (λ _.
    behaves_then scope _ _ (ruled_good scope place (objects.ls_fault is_ls)) (λ _.
    object_declared_good n k h scope)))

pub object_good : (c : Class) (n : Name) (m : Maker) (scope : Scope) → Behaves scope (objects.object_form c n m scope)
unfolding objects.object_form
object_good c n m scope = behaves_then scope _ _ (handed_good (class_kind c.kind) (objects.maker_arguments m) scope) (λ h. object_made_good c.place _ n (class_kind c.kind) (objects.made_kind c m) h scope)

pub declaration_good : (d : Declaration) (scope : Scope) → Behaves scope (forms.declaration_form d scope)
unfolding forms.declaration_form
declaration_good (declarations.Int place n None e) scope = scalar_good place n kind.Int (option_map judge e) (judged_start e) scope
declaration_good (declarations.Int place n (Some ds) e) scope = array_good place n ds _ (starting_with_good e) scope
declaration_good (declarations.IntArray place n e) scope = scalar_good place n kind.Array (Some (judge e)) (expression_good e) scope
declaration_good (declarations.Bool place n e) scope = scalar_good place n kind.Bool (option_map judge e) (judged_start e) scope
declaration_good (declarations.Range place n e) scope = scalar_good place n kind.Range (Some (judge e)) (expression_good e) scope
declaration_good (declarations.Set place n e) scope = scalar_good place n kind.Set (option_map judge e) (judged_start e) scope
declaration_good (declarations.Variable place w n None solver d x) scope = variable_good place n kind.Variable solver _ _ (judged_start d) (variable_start_good x) scope
declaration_good (declarations.Variable place w n (Some ds) solver d x) scope = variables_good place n kind.Variable ds solver _ _ (judged_start d) (variable_start_good x) scope
declaration_good (declarations.SetVariable place w n None solver e) scope = variable_good place n kind.SetVariable solver None _ tt (expression_good e) scope
declaration_good (declarations.SetVariable place w n (Some ds) solver e) scope = variables_good place n kind.SetVariable ds solver None _ tt (expression_good e) scope
declaration_good (declarations.Object c n m) scope = object_good c n m scope

-- simple statements

value_pure : (o : WriteOperator) (c : Context) → is_pure c ≡ true → is_pure (acts.value_context o c) ≡ true
value_pure writing.Set c h = h
value_pure writing.Add c h = h
value_pure writing.Subtract c h = h
value_pure writing.Assign c h = h
value_pure writing.Define c h = refl

write_good : (t : Judge) (o : WriteOperator) (v : Judge) → Good t → Good v → (st : Standing) (scope : Scope) → Behaves scope (acts.write_form t o v st scope)
unfolding acts.write_form
write_good t o v g h st scope =
    behaves_then scope _ _ (g scope) (λ x.
    behaves_then scope _ _ (behaves_where scope (within (acts.value_context o scope.context) scope) _ refl (value_pure o scope.context) (h (within (acts.value_context o scope.context) scope))) (λ y.
    behaves_then scope _ _ (ruled_good scope (acts.place_at st.at x.start) (parts.wrong_unless st.holds)) (λ _. behaves_then scope _ _ (ruled_good scope (acts.place_at st.at x.start) (acts.write_fault o (acts.is_bare x) x.kind y.kind)) (λ _.
    behaves_then scope _ _ (behaves_act scope (acts.place_at st.at x.start) (acts.writing_doing x) (roots_of (whole x))) (λ _. behaves_give {A = acts.Acted} scope (record { place = acts.place_at st.at x.start; deed = deeds.writing o x y }))))))

swap_good : (a b : Judge) → Good a → Good b → (st : Standing) (scope : Scope) → Behaves scope (acts.swap_form a b st scope)
unfolding acts.swap_form
swap_good a b g h st scope =
    behaves_then scope _ _ (g scope) (λ x. behaves_then scope _ _ (h scope) (λ y.
    behaves_then scope _ _ (ruled_good scope (acts.place_at st.at x.start) (parts.wrong_unless st.holds)) (λ _. behaves_then scope _ _ (ruled_good scope (acts.place_at st.at x.start) (acts.swap_fault x.kind y.kind)) (λ _.
    behaves_then scope _ _ (behaves_act scope (acts.place_at st.at x.start) acts.through_doing (roots_of (whole x) ++ roots_of (whole y))) (λ _. behaves_give {A = acts.Acted} scope (record { place = acts.place_at st.at x.start; deed = deeds.swapping x y }))))))

step_good : (t : Judge) (x : Step) → Good t → (st : Standing) (scope : Scope) → Behaves scope (acts.step_form t x st scope)
unfolding acts.step_form
step_good t x g st scope =
    behaves_then scope _ _ (g scope) (λ y.
    behaves_then scope _ _ (ruled_good scope (acts.place_at st.at y.start) (parts.wrong_unless st.holds)) (λ _. behaves_then scope _ _ (ruled_good scope (acts.place_at st.at y.start) (acts.added_fault (acts.is_bare y) y.kind true)) (λ _.
    behaves_then scope _ _ (behaves_act scope (acts.place_at st.at y.start) (acts.writing_doing y) (roots_of (whole y))) (λ _. behaves_give {A = acts.Acted} scope (record { place = acts.place_at st.at y.start; deed = deeds.stepping x y })))))

alone_good : (e : Judge) → Good e → (st : Standing) (scope : Scope) → Behaves scope (acts.alone_form e st scope)
unfolding acts.alone_form
alone_good e g st scope =
    behaves_then scope _ _ (g scope) (λ x.
    behaves_then scope _ _ (ruled_good scope (acts.place_at st.at x.start) (parts.wrong_unless st.holds)) (λ _. behaves_then scope _ _ (ruled_good scope (acts.place_at st.at x.start) (parts.wrong_unless (not (is_same x.kind kind.Move)))) (λ _. behaves_give {A = acts.Acted} scope (record { place = acts.place_at st.at x.start; deed = deeds.doing x }))))

renewed_good : (place : Place) (n : Name) (is_ls : Bool) (t : Seen) (k : Kind) (h : Handed) (scope : Scope) → Behaves scope (acts.renewed place n is_ls t k h scope)
renewed_good place n is_ls t k h scope =
    behaves_then scope _ _ (ruled_good scope place _) (λ _.
    behaves_then scope _ _ (behaves_act scope place acts.own_doing (roots_of (whole t))) (λ _.
    behaves_then scope _ _ (behaves_at scope (λ s. act_on place scope (objects.object_doing k) (acts.renewing_roots (acts.solvers_found s.names (look n.text s.names)) k h)) (λ s. behaves_act scope place _ _)) (λ _.
    behaves_then scope _ _ (ruled_good scope place (objects.ls_fault is_ls)) (λ _. behaves_give scope _))))

new_good : (x : NewObject) (st : Standing) (scope : Scope) → Behaves scope (acts.new_form x st scope)
unfolding acts.new_form
new_good x st scope =
    behaves_then scope _ _ (name_good x.name scope) (λ t.
    behaves_then scope _ _ (handed_good (class_kind x.class.kind) x.arguments.items scope) (λ h.
    behaves_then scope _ _ (ruled_good scope _ _) (λ _.
    behaves_then scope _ _ (renewed_good _ x.name _ t _ h scope) (λ d. behaves_give scope _))))

item_good : (x : Item) (scope : Scope) → Behaves scope (acts.item_form x scope)
unfolding acts.item_form
item_good (items.Expression e) scope = behaves_then scope _ _ (expression_good e scope) (λ v. behaves_give scope _)
item_good (items.Str t) scope = behaves_give scope _
item_good items.EndLine scope = behaves_give scope _

items_all : (scope : Scope) (xs : List Item) → AllOf (λ x. (ys : List Shown) → Behaves scope (acts.shown_form scope ys x)) (map acts.item_form xs)
unfolding acts.shown_form
items_all scope [] = tt
items_all scope (x ∷ xs) = ((λ ys. behaves_then scope _ _ (item_good x scope) (λ y. behaves_give scope _)), items_all scope xs)

print_good : (place : Place) (xs : List Item) (st : Standing) (scope : Scope) → Behaves scope (acts.print_form place xs st scope)
unfolding acts.print_form
print_good place xs st scope =
    behaves_then scope _ _ (behaves_each scope (acts.shown_form scope) (map acts.item_form xs) (items_all scope xs) []) (λ ys.
    behaves_then scope _ _ (ruled_good scope (acts.place_at st.at place) (parts.wrong_unless st.holds)) (λ _. behaves_then scope _ _ (ruled_good scope (acts.place_at st.at place) (parts.wrong_unless (acts.all_shown ys))) (λ _.
    behaves_then scope _ _ (behaves_act scope (acts.place_at st.at place) acts.own_doing []) (λ _. behaves_give {A = acts.Acted} scope (record { place = acts.place_at st.at place; deed = deeds.printing ys })))))

choice_good : (place : Place) (e : Judge) → Good e → (st : Standing) (scope : Scope) → Behaves scope (acts.choice_form place e st scope)
unfolding acts.choice_form
choice_good place e g st scope =
    behaves_then scope _ _ (g scope) (λ x.
    behaves_then scope _ _ (ruled_good scope (acts.place_at st.at place) (parts.wrong_unless st.holds)) (λ _. behaves_then scope _ _ (ruled_good scope (acts.place_at st.at place) (parts.wrong_unless (is_same x.kind kind.Move))) (λ _.
    behaves_then scope _ _ (behaves_act scope (acts.place_at st.at place) acts.through_doing (roots_of (whole x))) (λ _. behaves_give {A = acts.Acted} scope (record { place = acts.place_at st.at place; deed = deeds.choosing x })))))

pub simple_good : (x : Simple) (st : Standing) (scope : Scope) → Behaves scope (acts.simple_form x st scope)
unfolding acts.simple_form
simple_good (simples.Write t o v) st scope = write_good (judge t.value) o (judge v.value) (expression_good t.value) (expression_good v.value) st scope
simple_good (simples.Swap a b) st scope = swap_good (judge a.value) (judge b.value) (expression_good a.value) (expression_good b.value) st scope
simple_good (simples.Step t x) st scope = step_good (judge t.value) x (expression_good t.value) st scope
simple_good (simples.Postfix e) st scope = alone_good (judge e) (expression_good e) st scope
simple_good (simples.New x) st scope = new_good x.value st scope
simple_good (simples.Print place xs) st scope = print_good place xs.items st scope
simple_good (simples.Call place e) st scope = choice_good place (judge e.value) (expression_good e.value) st scope

pub return_good : (place : Place) (j : Option Judge) → GoodStart j → (scope : Scope) → Behaves scope (acts.return_form place j scope)
unfolding acts.return_form
return_good place j h scope = behaves_then scope _ _ (start_good scope j h) (λ e. behaves_then scope _ _ (ruled_good scope _ _) (λ _. behaves_give scope _))
