-- Typing rules: what makes each simple statement well typed. The expressions in it are typed first, and then its own
-- rule holds; where it belongs to a `for`, that one's rule comes before its own.
use Rattle.std.specs.Prelude.{◌≡◌, ℕ, true, not, List, [], ◌∷◌, ◌++◌, None}
use Rattle.std.specs.declared.boxed.Box.{Box}
use Rattle.std.specs.declared.alloc.Global.{Global}
use Rattle.std.specs.declared.vec.Vec.{Vec}
use Rattle.cbl_base.specs.declared.place.Place.{Place}
use Rattle.comet_syntax.specs.declared.tree.expressions.Expression.{Expression}
use Rattle.comet_syntax.specs.declared.tree.expressions.Expression.TheVariants as trees
use Rattle.comet_syntax.specs.declared.tree.statements.Item.{Item}
use Rattle.comet_syntax.specs.declared.tree.statements.Item.TheVariants as items
use Rattle.comet_syntax.specs.declared.tree.statements.NewObject.{NewObject}
use Rattle.comet_syntax.specs.declared.tree.statements.Simple.{Simple}
use Rattle.comet_syntax.specs.declared.tree.statements.Simple.TheVariants as simples
use Rattle.comet_syntax.specs.declared.tree.statements.Step.{Step}
use Rattle.comet_syntax.specs.declared.tree.statements.WriteOperator.{WriteOperator}
use Rattle.checked_tree.specs.declared.kind.Kind.TheVariants as kind
use Rattle.checked_tree.specs.Shape.{Seen, whole}
use Rattle.checked_tree.specs.Actions as deeds
use Rattle.checked_tree.specs.Actions.{Shown}
use Rattle.type_rules.specs.Kinds.{is_same}
use Rattle.type_rules.specs.Classes.{class_kind, class_is_ls}
use Rattle.type_scopes.specs.declared.scope.Scope.{Scope}
use Rattle.type_scopes.specs.Names.{look, within}
use Rattle.type_scopes.specs.State.{State}
use Rattle.type_calls.specs.Doing.{doing_fault}
use Rattle.type_calls.specs.Roots.{roots_of}
use Rattle.type_simples.specs.declared.simples.Standing.{Standing}
use Rattle.type_declarations.specs.Parts.{wrong_unless}
use Rattle.type_declarations.specs.Objects.{making_context, object_doing, ls_fault}
use Rattle.type_simples.specs.Simples.{Acted, place_at, is_bare, value_context, added_fault, write_fault, writing_doing, through_doing, own_doing, swap_fault, new_fault, solvers_found, renewing_roots, slot_in, all_shown}
use Rattle.typing.specs.Calls.{having_done}
use Rattle.typing.specs.Rules.{IsTyped, ArgumentsAreTyped}
use Rattle.typing.specs.Declarations.{handed}

-- what `cout` prints
pub data ItemIsTyped (scope : Scope) (s : State) : Item → Shown → State → Type 0 where
  a_shown_value : {e : Expression} {x : Seen} {t : State}
      → IsTyped scope s e x t
      → ItemIsTyped scope s (items.Expression e) (deeds.value x) t
  a_shown_text : {text : List ℕ} → ItemIsTyped scope s (items.Str text) (deeds.text text) s
  a_shown_line : ItemIsTyped scope s items.EndLine deeds.end_line s

-- items behind those that are typed already
pub data ItemsAreTyped (scope : Scope) : List Shown → State → List Item → List Shown → State → Type 0 where
  no_items : {xs : List Shown} {s : State} → ItemsAreTyped scope xs s [] xs s
  an_item : {xs all : List Shown} {s u t : State} {i : Item} {is : List Item} {x : Shown}
      → ItemIsTyped scope s i x u
      → ItemsAreTyped scope (xs ++ x ∷ []) u is all t
      → ItemsAreTyped scope xs s (i ∷ is) all t

-- a simple statement, where it stands
pub data SimpleIsTyped (scope : Scope) (s : State) (st : Standing) : Simple → Acted → State → Type 0 where
  a_write : {u v : State} {target value : Box Expression Global} {o : WriteOperator} {t x : Seen}
      → IsTyped scope s target.value t u
      → IsTyped (within (value_context o scope.context) scope) u value.value x v
      → wrong_unless st.holds ≡ None
      → write_fault o (is_bare t) t.kind x.kind ≡ None
      → doing_fault scope (writing_doing t) (roots_of (whole t)) ≡ None
      → SimpleIsTyped scope s st (simples.Write target o value) (record { place = place_at st.at t.start; deed = deeds.writing o t x }) (having_done (writing_doing t) (roots_of (whole t)) v)
  a_swap : {u v : State} {left right : Box Expression Global} {a b : Seen}
      → IsTyped scope s left.value a u
      → IsTyped scope u right.value b v
      → wrong_unless st.holds ≡ None
      → swap_fault a.kind b.kind ≡ None
      → doing_fault scope through_doing (roots_of (whole a) ++ roots_of (whole b)) ≡ None
      → SimpleIsTyped scope s st (simples.Swap left right) (record { place = place_at st.at a.start; deed = deeds.swapping a b }) (having_done through_doing (roots_of (whole a) ++ roots_of (whole b)) v)
  a_step : {u : State} {target : Box Expression Global} {x : Step} {t : Seen}
      → IsTyped scope s target.value t u
      → wrong_unless st.holds ≡ None
      → added_fault (is_bare t) t.kind true ≡ None
      → doing_fault scope (writing_doing t) (roots_of (whole t)) ≡ None
      → SimpleIsTyped scope s st (simples.Step target x) (record { place = place_at st.at t.start; deed = deeds.stepping x t }) (having_done (writing_doing t) (roots_of (whole t)) u)
  an_expression_alone : {t : State} {e : Expression} {x : Seen}
      → IsTyped scope s e x t
      → wrong_unless st.holds ≡ None
      → wrong_unless (not (is_same x.kind kind.Move)) ≡ None
      → SimpleIsTyped scope s st (simples.Postfix e) (record { place = place_at st.at x.start; deed = deeds.doing x }) t
  -- the name is written, and then what the making writes
  a_new_object : {u v : State} {o : Box NewObject Global} {t : Seen} {es : List Seen}
      → IsTyped scope s (trees.Name o.value.name) t u
      → ArgumentsAreTyped (making_context (class_kind o.value.class.kind) scope.context) scope [] u o.value.arguments.items es v
      → wrong_unless st.holds ≡ None
      → new_fault t.kind (class_kind o.value.class.kind) es ≡ None
      → doing_fault scope own_doing (roots_of (whole t)) ≡ None
      → doing_fault scope (object_doing (class_kind o.value.class.kind)) (renewing_roots (solvers_found v.names (look o.value.name.text v.names)) (class_kind o.value.class.kind) (handed u es v)) ≡ None
      → ls_fault (class_is_ls o.value.class.kind) ≡ None
      → SimpleIsTyped scope s st (simples.New o) (record { place = place_at st.at o.value.name.place; deed = deeds.making (slot_in t.form) (class_kind o.value.class.kind) es })
      (having_done (object_doing (class_kind o.value.class.kind)) (renewing_roots (solvers_found v.names (look o.value.name.text v.names)) (class_kind o.value.class.kind) (handed u es v)) (having_done own_doing (roots_of (whole t)) v))
  a_print : {t : State} {place : Place} {all : Vec Item Global} {xs : List Shown}
      → ItemsAreTyped scope [] s all.items xs t
      → wrong_unless st.holds ≡ None
      → wrong_unless (all_shown xs) ≡ None
      → doing_fault scope own_doing [] ≡ None
      → SimpleIsTyped scope s st (simples.Print place all) (record { place = place_at st.at place; deed = deeds.printing xs }) (having_done own_doing [] t)
  a_choice : {t : State} {place : Place} {chosen : Box Expression Global} {x : Seen}
      → IsTyped scope s chosen.value x t
      → wrong_unless st.holds ≡ None
      → wrong_unless (is_same x.kind kind.Move) ≡ None
      → doing_fault scope through_doing (roots_of (whole x)) ≡ None
      → SimpleIsTyped scope s st (simples.Call place chosen) (record { place = place_at st.at place; deed = deeds.choosing x }) (having_done through_doing (roots_of (whole x)) t)
