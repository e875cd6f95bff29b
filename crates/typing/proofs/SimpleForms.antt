-- A simple statement goes where it is typed, and is typed where it goes.
use Rattle.std.specs.Prelude.{◌≡◌, Bool, true, not, List, [], ◌∷◌, ◌++◌, map, Option, None}
use Rattle.std.proofs.Common.{sym, ap}
use Rattle.std.specs.declared.boxed.Box.{Box}
use Rattle.std.specs.declared.alloc.Global.{Global}
use Rattle.std.specs.declared.vec.Vec.{Vec}
use Rattle.cbl_base.specs.declared.place.Place.{Place}
use Rattle.comet_syntax.specs.declared.tree.expressions.Name.{Name}
use Rattle.comet_syntax.specs.declared.tree.expressions.Expression.{Expression}
use Rattle.comet_syntax.specs.declared.tree.expressions.Expression.TheVariants as trees
use Rattle.comet_syntax.specs.declared.tree.statements.Item.{Item}
use Rattle.comet_syntax.specs.declared.tree.statements.Item.TheVariants as items
use Rattle.comet_syntax.specs.declared.tree.statements.NewObject.{NewObject}
use Rattle.comet_syntax.specs.declared.tree.statements.Simple.{Simple}
use Rattle.comet_syntax.specs.declared.tree.statements.Simple.TheVariants as simples
use Rattle.comet_syntax.specs.declared.tree.statements.Step.{Step}
use Rattle.comet_syntax.specs.declared.tree.statements.WriteOperator.{WriteOperator}
use Rattle.checked_tree.specs.declared.expressions.Slot.{Slot}
use Rattle.checked_tree.specs.declared.kind.Kind.{Kind}
use Rattle.checked_tree.specs.declared.kind.Kind.TheVariants as kind
use Rattle.checked_tree.specs.declared.stop.Cause.{Cause}
use Rattle.checked_tree.specs.Shape.{Seen, whole}
use Rattle.checked_tree.specs.Actions as deeds
use Rattle.checked_tree.specs.Actions.{Deed, Shown}
use Rattle.type_rules.specs.Kinds.{is_same}
use Rattle.type_rules.specs.Classes.{class_kind, class_is_ls}
use Rattle.type_scopes.specs.declared.effects.Doing.{Doing}
use Rattle.type_scopes.specs.declared.scope.Scope.{Scope}
use Rattle.type_scopes.specs.Names.{look, within}
use Rattle.type_scopes.specs.State.{State, Went, Check, give, ◌>>=◌, each}
use Rattle.type_calls.specs.Doing.{act_on, doing_fault}
use Rattle.type_calls.specs.Roots.{roots_of}
use Rattle.type_expressions.specs.Expressions.{Judge, judge, name_form}
use Rattle.type_declarations.specs.Parts.{ruled, wrong_unless}
use Rattle.type_declarations.specs.Objects.{Handed, object_doing, ls_fault, handed_form}
use Rattle.type_simples.specs.declared.simples.Standing.{Standing}
use Rattle.type_simples.specs.Simples.{Acted, acted, place_at, is_bare, value_context, added_fault, write_fault, writing_doing, through_doing, own_doing, write_form, swap_fault, swap_form, step_form, alone_form, new_fault, solvers_found, renewing_roots, slot_in, renewed, new_form, item_form, shown_form, all_shown, print_form, choice_form, simple_form}
use Rattle.typing.specs.Calls.{having_done}
use Rattle.typing.specs.Rules.{IsTyped}
use Rattle.typing.specs.Declarations.{handed}
use Rattle.typing.specs.Simples as rules
use Rattle.typing.specs.Simples.{ItemIsTyped, ItemsAreTyped, SimpleIsTyped}
use Rattle.typing.proofs.Went.{Goes, between, goes_on, goes_as}
use Rattle.typing.proofs.Trees.{judge_name}
use Rattle.typing.proofs.Typed.{name_form_typed}
use Rattle.typing.proofs.Sound.{sound, sound_arguments}
use Rattle.typing.proofs.Complete.{complete}
use Rattle.typing.proofs.Declared.{as_went, gives, passed, passes, act_passed, act_passes, handed_goes, handed_typed}

-- how most simple statements end: the rule of the `for` around them, their own rule, and their effect

abbrev ending : Place → Option Cause → Option Cause → Scope → Doing → List Slot → Deed → Check Acted
ending place around own scope d roots deed =
    ruled place around >>= λ _.
    ruled place own >>= λ _.
    act_on place scope d roots >>= λ _.
    acted place deed

ending_goes : (place : Place) (around own : Option Cause) (scope : Scope) (d : Doing) (roots : List Slot) (deed : Deed) (s : State) → around ≡ None → own ≡ None → doing_fault scope d roots ≡ None
    → Goes (ending place around own scope d roots deed) s (record { place = place; deed = deed }) (having_done d roots s)
ending_goes place around own scope d roots deed s a o free =
    passes place (λ _. around) (λ _. ruled place own >>= λ _. act_on place scope d roots >>= λ _. acted place deed) s _ _ a
    (passes place (λ _. own) (λ _. act_on place scope d roots >>= λ _. acted place deed) s _ _ o
    (act_passes place scope d roots (λ _. acted place deed) s _ _ free gives))

record Ended (place : Place) (around own : Option Cause) (scope : Scope) (d : Doing) (roots : List Slot) (deed : Deed) (s : State) (y : Acted) (t : State) : Type 0 where
  standing : around ≡ None
  rule : own ≡ None
  free : doing_fault scope d roots ≡ None
  same : Went (record { place = place; deed = deed }) (having_done d roots s) ≡ Went y t

ended : (place : Place) (around own : Option Cause) (scope : Scope) (d : Doing) (roots : List Slot) (deed : Deed) (s : State) (y : Acted) (t : State) → Goes (ending place around own scope d roots deed) s y t → Ended place around own scope d roots deed s y t
ended place around own scope d roots deed s y t h =
    let p = passed place (λ _. around) (λ _. ruled place own >>= λ _. act_on place scope d roots >>= λ _. acted place deed) s y t h in
    let q = passed place (λ _. own) (λ _. act_on place scope d roots >>= λ _. acted place deed) s y t p.1 in
    let a = act_passed place scope d roots (λ _. acted place deed) s y t q.1 in
    record { standing = p.0; rule = q.0; free = a.free; same = a.next }

-- items

item_goes : (scope : Scope) (s : State) (i : Item) (x : Shown) (t : State) → ItemIsTyped scope s i x t → Goes (item_form i scope) s x t
unfolding item_form
item_goes scope s i x t (rules.a_shown_value h) = goes_on _ _ (sound h) gives
item_goes scope s i x t rules.a_shown_text = gives
item_goes scope s i x t rules.a_shown_line = gives

item_typed : (scope : Scope) (s : State) (i : Item) (x : Shown) (t : State) → Goes (item_form i scope) s x t → ItemIsTyped scope s i x t
unfolding item_form
item_typed scope s (items.Expression e) x t h =
    let p = between (judge e scope) (λ v. give (deeds.value v)) s x t h in
    as_went (λ y u. ItemIsTyped scope s (items.Expression e) y u) p.next.is (rules.a_shown_value (complete e _ _ _ _ p.first))
item_typed scope s (items.Str text) x t h = as_went (λ y u. ItemIsTyped scope s (items.Str text) y u) h.is rules.a_shown_text
item_typed scope s items.EndLine x t h = as_went (λ y u. ItemIsTyped scope s items.EndLine y u) h.is rules.a_shown_line

shown_goes : (scope : Scope) (xs : List Shown) (s : State) (i : Item) (x : Shown) (t : State) → ItemIsTyped scope s i x t → Goes (shown_form scope xs (item_form i)) s (xs ++ x ∷ []) t
unfolding shown_form
shown_goes scope xs s i x t h = goes_on _ _ (item_goes scope s i x t h) gives

items_go : (scope : Scope) (xs : List Shown) (s : State) (is : List Item) (all : List Shown) (t : State) → ItemsAreTyped scope xs s is all t → Goes (each (shown_form scope) (map item_form is) xs) s all t
items_go scope xs s is all t rules.no_items = gives
items_go scope xs s is all t (rules.an_item h k) = goes_on _ _ (shown_goes _ _ _ _ _ _ h) (items_go _ _ _ _ _ _ k)

items_typed : (scope : Scope) (is : List Item) (xs : List Shown) (s : State) (all : List Shown) (t : State) → Goes (each (shown_form scope) (map item_form is) xs) s all t → ItemsAreTyped scope xs s is all t
unfolding shown_form
items_typed scope [] xs s all t h = as_went (λ y u. ItemsAreTyped scope xs s [] y u) h.is rules.no_items
items_typed scope (i ∷ is) xs s all t h =
    let p = between (shown_form scope xs (item_form i)) (each (shown_form scope) (map item_form is)) s all t h in
    let q = between (item_form i scope) (λ x. give (xs ++ x ∷ [])) s p.made p.known p.first in
    rules.an_item (item_typed scope s i q.made q.known q.first) (as_went (λ y u. ItemsAreTyped scope y u is all t) (sym q.next.is) (items_typed scope is p.made p.known all t p.next))

-- what is typed goes

write_goes : (scope : Scope) (s u v : State) (st : Standing) (i : Judge) (o : WriteOperator) (j : Judge) (t x : Seen) → Goes (i scope) s t u → Goes (j (within (value_context o scope.context) scope)) u x v
    → wrong_unless st.holds ≡ None → write_fault o (is_bare t) t.kind x.kind ≡ None → doing_fault scope (writing_doing t) (roots_of (whole t)) ≡ None
    → Goes (write_form i o j st scope) s (record { place = place_at st.at t.start; deed = deeds.writing o t x }) (having_done (writing_doing t) (roots_of (whole t)) v)
unfolding write_form
write_goes scope s u v st i o j t x h k a r free = goes_on _ _ h (goes_on _ _ k (ending_goes (place_at st.at t.start) _ _ scope (writing_doing t) (roots_of (whole t)) (deeds.writing o t x) v a r free))

swap_goes : (scope : Scope) (s u v : State) (st : Standing) (i j : Judge) (a b : Seen) → Goes (i scope) s a u → Goes (j scope) u b v
    → wrong_unless st.holds ≡ None → swap_fault a.kind b.kind ≡ None → doing_fault scope through_doing (roots_of (whole a) ++ roots_of (whole b)) ≡ None
    → Goes (swap_form i j st scope) s (record { place = place_at st.at a.start; deed = deeds.swapping a b }) (having_done through_doing (roots_of (whole a) ++ roots_of (whole b)) v)
unfolding swap_form
swap_goes scope s u v st i j a b h k w r free = goes_on _ _ h (goes_on _ _ k (ending_goes (place_at st.at a.start) _ _ scope through_doing (roots_of (whole a) ++ roots_of (whole b)) (deeds.swapping a b) v w r free))

step_goes : (scope : Scope) (s u : State) (st : Standing) (i : Judge) (x : Step) (t : Seen) → Goes (i scope) s t u
    → wrong_unless st.holds ≡ None → added_fault (is_bare t) t.kind true ≡ None → doing_fault scope (writing_doing t) (roots_of (whole t)) ≡ None
    → Goes (step_form i x st scope) s (record { place = place_at st.at t.start; deed = deeds.stepping x t }) (having_done (writing_doing t) (roots_of (whole t)) u)
unfolding step_form
step_goes scope s u st i x t h a r free = goes_on _ _ h (ending_goes (place_at st.at t.start) _ _ scope (writing_doing t) (roots_of (whole t)) (deeds.stepping x t) u a r free)

alone_goes : (scope : Scope) (s t : State) (st : Standing) (i : Judge) (x : Seen) → Goes (i scope) s x t → wrong_unless st.holds ≡ None → wrong_unless (not (is_same x.kind kind.Move)) ≡ None
    → Goes (alone_form i st scope) s (record { place = place_at st.at x.start; deed = deeds.doing x }) t
unfolding alone_form
alone_goes scope s t st i x h a r =
    goes_on _ _ h (passes (place_at st.at x.start) (λ _. wrong_unless st.holds) (λ _. ruled (place_at st.at x.start) (wrong_unless (not (is_same x.kind kind.Move))) >>= λ _. acted (place_at st.at x.start) (deeds.doing x)) t _ _ a
    (passes (place_at st.at x.start) (λ _. wrong_unless (not (is_same x.kind kind.Move))) (λ _. acted (place_at st.at x.start) (deeds.doing x)) t _ _ r gives))

print_goes : (scope : Scope) (s t : State) (st : Standing) (place : Place) (all : List Item) (xs : List Shown) → Goes (each (shown_form scope) (map item_form all) []) s xs t
    → wrong_unless st.holds ≡ None → wrong_unless (all_shown xs) ≡ None → doing_fault scope own_doing [] ≡ None
    → Goes (print_form place all st scope) s (record { place = place_at st.at place; deed = deeds.printing xs }) (having_done own_doing [] t)
unfolding print_form
print_goes scope s t st place all xs h a r free = goes_on _ _ h (ending_goes (place_at st.at place) _ _ scope own_doing [] (deeds.printing xs) t a r free)

choice_goes : (scope : Scope) (s t : State) (st : Standing) (place : Place) (i : Judge) (x : Seen) → Goes (i scope) s x t
    → wrong_unless st.holds ≡ None → wrong_unless (is_same x.kind kind.Move) ≡ None → doing_fault scope through_doing (roots_of (whole x)) ≡ None
    → Goes (choice_form place i st scope) s (record { place = place_at st.at place; deed = deeds.choosing x }) (having_done through_doing (roots_of (whole x)) t)
unfolding choice_form
choice_goes scope s t st place i x h a r free = goes_on _ _ h (ending_goes (place_at st.at place) _ _ scope through_doing (roots_of (whole x)) (deeds.choosing x) t a r free)

renewed_goes : (place : Place) (n : Name) (is_ls : Bool) (t : Seen) (k : Kind) (h : Handed) (scope : Scope) (v : State) → new_fault t.kind k h.arguments ≡ None → doing_fault scope own_doing (roots_of (whole t)) ≡ None
    → doing_fault scope (object_doing k) (renewing_roots (solvers_found v.names (look n.text v.names)) k h) ≡ None → ls_fault is_ls ≡ None
    → Goes (renewed place n is_ls t k h scope) v (deeds.making (slot_in t.form) k h.arguments) (having_done (object_doing k) (renewing_roots (solvers_found v.names (look n.text v.names)) k h) (having_done own_doing (roots_of (whole t)) v))
renewed_goes place n is_ls t k h scope v r own free ls =
    passes place (λ _. new_fault t.kind k h.arguments) _ v _ _ r
    (act_passes place scope own_doing (roots_of (whole t)) _ v _ _ own
    (record {
      is = (act_passes place scope (object_doing k) (renewing_roots (solvers_found v.names (look n.text v.names)) k h) (λ _. ruled place (ls_fault is_ls) >>= λ _. give (deeds.making (slot_in t.form) k h.arguments)) (having_done own_doing (roots_of (whole t)) v) _ _ free
          (passes place (λ _. ls_fault is_ls) (λ _. give (deeds.making (slot_in t.form) k h.arguments)) _ _ _ ls gives)).is;
    }))

new_goes : (scope : Scope) (s u v : State) (st : Standing) (o : NewObject) (t : Seen) (es : List Seen) → Goes (name_form o.name scope) s t u → Goes (handed_form (class_kind o.class.kind) o.arguments.items scope) u (handed u es v) v
    → wrong_unless st.holds ≡ None
    → Goes (renewed (place_at st.at o.name.place) o.name (class_is_ls o.class.kind) t (class_kind o.class.kind) (handed u es v) scope) v (deeds.making (slot_in t.form) (class_kind o.class.kind) es)
    (having_done (object_doing (class_kind o.class.kind)) (renewing_roots (solvers_found v.names (look o.name.text v.names)) (class_kind o.class.kind) (handed u es v)) (having_done own_doing (roots_of (whole t)) v))
    → Goes (new_form o st scope) s (record { place = place_at st.at o.name.place; deed = deeds.making (slot_in t.form) (class_kind o.class.kind) es })
    (having_done (object_doing (class_kind o.class.kind)) (renewing_roots (solvers_found v.names (look o.name.text v.names)) (class_kind o.class.kind) (handed u es v)) (having_done own_doing (roots_of (whole t)) v))
unfolding new_form
new_goes scope s u v st o t es h k a r =
    goes_on _ _ h (goes_on _ _ k (passes (place_at st.at o.name.place) (λ _. wrong_unless st.holds)
    (λ _. renewed (place_at st.at o.name.place) o.name (class_is_ls o.class.kind) t (class_kind o.class.kind) (handed u es v) scope >>= λ d. acted (place_at st.at o.name.place) d) v _ _ a (goes_on _ _ r gives)))

named_goes : (scope : Scope) (s : State) (n : Name) (t : Seen) (u : State) → IsTyped scope s (trees.Name n) t u → Goes (name_form n scope) s t u
named_goes scope s n t u h = goes_as (ap (λ (j : Judge). j scope) (judge_name n)) (sound h)

pub simple_goes : (scope : Scope) (s : State) (st : Standing) (x : Simple) (y : Acted) (t : State) → SimpleIsTyped scope s st x y t → Goes (simple_form x st scope) s y t
unfolding simple_form
simple_goes scope s st x y t (rules.a_write {o} h k a r free) = write_goes scope s _ _ st _ o _ _ _ (sound h) (sound k) a r free
simple_goes scope s st x y t (rules.a_swap h k a r free) = swap_goes scope s _ _ st _ _ _ _ (sound h) (sound k) a r free
simple_goes scope s st x y t (rules.a_step {x = step} h a r free) = step_goes scope s _ st _ step _ (sound h) a r free
simple_goes scope s st x y t (rules.an_expression_alone h a r) = alone_goes scope s _ st _ _ (sound h) a r
simple_goes scope s st x y t (rules.a_new_object {u} {v} {o} {t = target} {es} h k a r own free ls) =
    new_goes scope s u v st o.value target es (named_goes scope s o.value.name target u h) (handed_goes (class_kind o.value.class.kind) scope u o.value.arguments.items es v (sound_arguments k)) a
    (renewed_goes (place_at st.at o.value.name.place) o.value.name (class_is_ls o.value.class.kind) target (class_kind o.value.class.kind) (handed u es v) scope v r own free ls)
simple_goes scope s st x y t (rules.a_print {place} {all} h a r free) = print_goes scope s _ st place all.items _ (items_go _ _ _ _ _ _ h) a r free
simple_goes scope s st x y t (rules.a_choice {place} h a r free) = choice_goes scope s _ st place _ _ (sound h) a r free

-- what goes is typed

write_typed : (scope : Scope) (s : State) (st : Standing) (i : Box Expression Global) (o : WriteOperator) (j : Box Expression Global) (y : Acted) (t : State) → Goes (write_form (judge i.value) o (judge j.value) st scope) s y t → SimpleIsTyped scope s st (simples.Write i o j) y t
unfolding write_form
write_typed scope s st i o j y t h =
    let p = between _ _ s y t h in
    let q = between _ _ _ y t p.next in
    let e = ended (place_at st.at p.made.start) (wrong_unless st.holds) (write_fault o (is_bare p.made) p.made.kind q.made.kind) scope (writing_doing p.made) (roots_of (whole p.made)) (deeds.writing o p.made q.made) q.known y t q.next in
    as_went (λ z u. SimpleIsTyped scope s st (simples.Write i o j) z u) e.same (rules.a_write (complete _ _ _ _ _ p.first) (complete _ _ _ _ _ q.first) e.standing e.rule e.free)

swap_typed : (scope : Scope) (s : State) (st : Standing) (i j : Box Expression Global) (y : Acted) (t : State) → Goes (swap_form (judge i.value) (judge j.value) st scope) s y t → SimpleIsTyped scope s st (simples.Swap i j) y t
unfolding swap_form
swap_typed scope s st i j y t h =
    let p = between _ _ s y t h in
    let q = between _ _ _ y t p.next in
    let e = ended (place_at st.at p.made.start) (wrong_unless st.holds) (swap_fault p.made.kind q.made.kind) scope through_doing (roots_of (whole p.made) ++ roots_of (whole q.made)) (deeds.swapping p.made q.made) q.known y t q.next in
    as_went (λ z u. SimpleIsTyped scope s st (simples.Swap i j) z u) e.same (rules.a_swap (complete _ _ _ _ _ p.first) (complete _ _ _ _ _ q.first) e.standing e.rule e.free)

step_typed : (scope : Scope) (s : State) (st : Standing) (i : Box Expression Global) (x : Step) (y : Acted) (t : State) → Goes (step_form (judge i.value) x st scope) s y t → SimpleIsTyped scope s st (simples.Step i x) y t
unfolding step_form
step_typed scope s st i x y t h =
    let p = between _ _ s y t h in
    let e = ended (place_at st.at p.made.start) (wrong_unless st.holds) (added_fault (is_bare p.made) p.made.kind true) scope (writing_doing p.made) (roots_of (whole p.made)) (deeds.stepping x p.made) p.known y t p.next in
    as_went (λ z u. SimpleIsTyped scope s st (simples.Step i x) z u) e.same (rules.a_step (complete _ _ _ _ _ p.first) e.standing e.rule e.free)

alone_typed : (scope : Scope) (s : State) (st : Standing) (i : Expression) (y : Acted) (t : State) → Goes (alone_form (judge i) st scope) s y t → SimpleIsTyped scope s st (simples.Postfix i) y t
unfolding alone_form
alone_typed scope s st i y t h =
    let p = between _ _ s y t h in
    let a = passed (place_at st.at p.made.start) (λ _. wrong_unless st.holds) (λ _. ruled (place_at st.at p.made.start) (wrong_unless (not (is_same p.made.kind kind.Move))) >>= λ _. acted (place_at st.at p.made.start) (deeds.doing p.made)) p.known y t p.next in
    let r = passed (place_at st.at p.made.start) (λ _. wrong_unless (not (is_same p.made.kind kind.Move))) (λ _. acted (place_at st.at p.made.start) (deeds.doing p.made)) p.known y t a.1 in
    as_went (λ z u. SimpleIsTyped scope s st (simples.Postfix i) z u) r.1.is (rules.an_expression_alone (complete _ _ _ _ _ p.first) a.0 r.0)

print_typed : (scope : Scope) (s : State) (st : Standing) (place : Place) (all : Vec Item Global) (y : Acted) (t : State) → Goes (print_form place all.items st scope) s y t → SimpleIsTyped scope s st (simples.Print place all) y t
unfolding print_form
print_typed scope s st place all y t h =
    let p = between (each (shown_form scope) (map item_form all.items) []) (λ xs. ending (place_at st.at place) (wrong_unless st.holds) (wrong_unless (all_shown xs)) scope own_doing [] (deeds.printing xs)) s y t h in
    let e = ended (place_at st.at place) (wrong_unless st.holds) (wrong_unless (all_shown p.made)) scope own_doing [] (deeds.printing p.made) p.known y t p.next in
    as_went (λ z u. SimpleIsTyped scope s st (simples.Print place all) z u) e.same (rules.a_print (items_typed _ _ _ _ _ _ p.first) e.standing e.rule e.free)

choice_typed : (scope : Scope) (s : State) (st : Standing) (place : Place) (i : Box Expression Global) (y : Acted) (t : State) → Goes (choice_form place (judge i.value) st scope) s y t → SimpleIsTyped scope s st (simples.Call place i) y t
unfolding choice_form
choice_typed scope s st place i y t h =
    let p = between _ _ s y t h in
    let e = ended (place_at st.at place) (wrong_unless st.holds) (wrong_unless (is_same p.made.kind kind.Move)) scope through_doing (roots_of (whole p.made)) (deeds.choosing p.made) p.known y t p.next in
    as_went (λ z u. SimpleIsTyped scope s st (simples.Call place i) z u) e.same (rules.a_choice (complete _ _ _ _ _ p.first) e.standing e.rule e.free)

record Renewed (place : Place) (n : Name) (is_ls : Bool) (t : Seen) (k : Kind) (h : Handed) (scope : Scope) (v : State) (d : Deed) (w : State) : Type 0 where
  rule : new_fault t.kind k h.arguments ≡ None
  own : doing_fault scope own_doing (roots_of (whole t)) ≡ None
  free : doing_fault scope (object_doing k) (renewing_roots (solvers_found v.names (look n.text v.names)) k h) ≡ None
  ls : ls_fault is_ls ≡ None
  same : Went (deeds.making (slot_in t.form) k h.arguments) (having_done (object_doing k) (renewing_roots (solvers_found v.names (look n.text v.names)) k h) (having_done own_doing (roots_of (whole t)) v)) ≡ Went d w

abbrev finishing : Place → Bool → Seen → Kind → Handed → Unit {0} → Check Deed
finishing place is_ls t k h _ = ruled place (ls_fault is_ls) >>= λ _. give (deeds.making (slot_in t.form) k h.arguments)

renewed_typed : (place : Place) (n : Name) (is_ls : Bool) (t : Seen) (k : Kind) (h : Handed) (scope : Scope) (v : State) (d : Deed) (w : State) → Goes (renewed place n is_ls t k h scope) v d w → Renewed place n is_ls t k h scope v d w
renewed_typed place n is_ls t k h scope v d w g =
    let p = passed place (λ _. new_fault t.kind k h.arguments) (λ _. act_on place scope own_doing (roots_of (whole t)) >>= λ _. (λ s. act_on place scope (object_doing k) (renewing_roots (solvers_found s.names (look n.text s.names)) k h) s) >>= finishing place is_ls t k h) v d w g in
    let a = act_passed place scope own_doing (roots_of (whole t)) (λ _. (λ s. act_on place scope (object_doing k) (renewing_roots (solvers_found s.names (look n.text s.names)) k h) s) >>= finishing place is_ls t k h) v d w p.1 in
    let b = act_passed place scope (object_doing k) (renewing_roots (solvers_found v.names (look n.text v.names)) k h) (finishing place is_ls t k h) (having_done own_doing (roots_of (whole t)) v) d w (record { is = a.next }) in
    let l = passed place (λ _. ls_fault is_ls) (λ _. give (deeds.making (slot_in t.form) k h.arguments)) (having_done (object_doing k) (renewing_roots (solvers_found v.names (look n.text v.names)) k h) (having_done own_doing (roots_of (whole t)) v)) d w (record { is = b.next }) in
    record { rule = p.0; own = a.free; free = b.free; ls = l.0; same = l.1.is }

new_typed : (scope : Scope) (s : State) (st : Standing) (o : Box NewObject Global) (y : Acted) (t : State) → Goes (new_form o.value st scope) s y t → SimpleIsTyped scope s st (simples.New o) y t
unfolding new_form
new_typed scope s st o y t h =
    let p = between (name_form o.value.name scope) (λ x. handed_form (class_kind o.value.class.kind) o.value.arguments.items scope >>= λ g. then_renewed x g) s y t h in
    let q = between (handed_form (class_kind o.value.class.kind) o.value.arguments.items scope) (then_renewed p.made) p.known y t p.next in
    let g = handed_typed (class_kind o.value.class.kind) scope p.known o.value.arguments.items q.made q.known q.first in
    let k = as_went (λ (x : Handed) (u : State). Goes (then_renewed p.made x) u y t) g.same q.next in
    let a = passed (place_at st.at o.value.name.place) (λ _. wrong_unless st.holds) (λ _. renewed (place_at st.at o.value.name.place) o.value.name (class_is_ls o.value.class.kind) p.made (class_kind o.value.class.kind) (handed p.known g.values g.known) scope >>= λ d. acted (place_at st.at o.value.name.place) d) g.known y t k in
    let r = between (renewed (place_at st.at o.value.name.place) o.value.name (class_is_ls o.value.class.kind) p.made (class_kind o.value.class.kind) (handed p.known g.values g.known) scope) (λ d. acted (place_at st.at o.value.name.place) d) g.known y t a.1 in
    let e = renewed_typed (place_at st.at o.value.name.place) o.value.name (class_is_ls o.value.class.kind) p.made (class_kind o.value.class.kind) (handed p.known g.values g.known) scope g.known r.made r.known r.first in
    as_went (λ z u. SimpleIsTyped scope s st (simples.New o) z u) r.next.is
    (as_went (λ (d : Deed) (u : State). SimpleIsTyped scope s st (simples.New o) (record { place = place_at st.at o.value.name.place; deed = d }) u) e.same
    (rules.a_new_object (name_form_typed o.value.name scope s p.made p.known p.first) g.typed a.0 e.rule e.own e.free e.ls))
  where
    then_renewed : Seen → Handed → Check Acted
    then_renewed x g =
        ruled (place_at st.at o.value.name.place) (wrong_unless st.holds) >>= λ _.
        renewed (place_at st.at o.value.name.place) o.value.name (class_is_ls o.value.class.kind) x (class_kind o.value.class.kind) g scope >>= λ d.
        acted (place_at st.at o.value.name.place) d

pub simple_typed : (scope : Scope) (s : State) (st : Standing) (x : Simple) (y : Acted) (t : State) → Goes (simple_form x st scope) s y t → SimpleIsTyped scope s st x y t
unfolding simple_form
simple_typed scope s st (simples.Write i o j) y t h = write_typed scope s st i o j y t h
simple_typed scope s st (simples.Swap i j) y t h = swap_typed scope s st i j y t h
simple_typed scope s st (simples.Step i x) y t h = step_typed scope s st i x y t h
simple_typed scope s st (simples.Postfix e) y t h = alone_typed scope s st e y t h
simple_typed scope s st (simples.New o) y t h = new_typed scope s st o y t h
simple_typed scope s st (simples.Print place all) y t h = print_typed scope s st place all y t h
simple_typed scope s st (simples.Call place e) y t h = choice_typed scope s st place e y t h
