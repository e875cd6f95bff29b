-- Each statement goes where its parts go and its rule holds.
use Rattle.std.specs.Prelude.{◌≡◌, refl, Bool, true, ◌&&◌, List, [], ◌∷◌, ◌++◌, map, length, Option, None, option_map}
use Rattle.std.proofs.Common.{sym, ap, subst, ◌∙◌}
use Rattle.std.specs.declared.boxed.Box.{Box}
use Rattle.std.specs.declared.alloc.Global.{Global}
use Rattle.cbl_base.specs.declared.place.Place.{Place}
use Rattle.comet_syntax.specs.declared.tree.expressions.Name.{Name}
use Rattle.comet_syntax.specs.declared.tree.expressions.Extreme.{Extreme}
use Rattle.comet_syntax.specs.declared.tree.expressions.Expression.{Expression}
use Rattle.comet_syntax.specs.declared.tree.expressions.Generators.{Generators}
use Rattle.comet_syntax.specs.declared.tree.statements.Simple.{Simple}
use Rattle.comet_syntax.specs.declared.tree.statements.ForStart.{ForStart}
use Rattle.comet_syntax.specs.declared.tree.statements.ForHead.{ForHead}
use Rattle.comet_syntax.specs.declared.tree.statements.Events.{Events}
use Rattle.comet_syntax.specs.declared.tree.statements.Watched.{Watched}
use Rattle.comet_syntax.specs.declared.tree.statements.WithMode.{WithMode}
use Rattle.comet_syntax.specs.declared.tree.statements.Statement.{Statement}
use Rattle.comet_syntax.specs.declared.tree.statements.Block.{Block}
use Rattle.checked_tree.specs.declared.expressions.Slot.{Slot}
use Rattle.checked_tree.specs.declared.kind.Kind.{Kind}
use Rattle.checked_tree.specs.declared.kind.Kind.TheVariants as kind
use Rattle.checked_tree.specs.declared.statements.EventSlots.{EventSlots}
use Rattle.checked_tree.specs.Shape.{Seen, whole}
use Rattle.checked_tree.specs.Actions.{Deed, returning}
use Rattle.checked_tree.specs.Tasks as works
use Rattle.checked_tree.specs.Tasks.{Work, Counted, row_of}
use Rattle.type_rules.specs.declared.context.Context.TheVariants as context
use Rattle.type_rules.specs.Kinds.{is_number, is_same}
use Rattle.type_scopes.specs.declared.scope.Scope.{Scope}
use Rattle.type_scopes.specs.Names.{slot_of, opened, within, closed, declare}
use Rattle.type_scopes.specs.State.{State, Check, give, ◌>>=◌, each}
use Rattle.type_calls.specs.Doing.{act_on, doing_fault}
use Rattle.type_calls.specs.Roots.{roots_of}
use Rattle.type_expressions.specs.Expressions.{Judge, judge, some_form, judge_generators}
use Rattle.type_declarations.specs.Parts.{wrong_unless, start_form}
use Rattle.type_simples.specs.Simples.{Acted, simple_form, return_form, return_fault, through_doing}
use Rattle.type_simples.specs.declared.simples.Standing.{Standing}
use Rattle.type_heads.specs.Heads.{Does, deed_form, alone, acted_form, truth_fault, counter_form, counter_fits, test_fits, step_part, Headed, head_form, Chosen, chosen_form, condition_fault, key_fault, written_found, written_name, apart, watch_fault, events_form, watched_form, parall_doing, domain_fault, in_parall, shared_form}
use Rattle.type_statements.specs.Statements.{within_own, task_form, tasks_form, opened_tasks, if_form, if_else_form, while_form, for_within, for_form, for_all_within, for_all_form, select_within, select_form, select_by_within, select_by_form, neighbor_form, with_form, watching_within, whenever_form, parall_within, parall_form, statement_of, block_of}
use Rattle.typing.specs.Calls.{having_done}
use Rattle.typing.specs.Rules as expression_rules
use Rattle.typing.specs.Rules.{ConditionIsTyped, having_closed}
use Rattle.typing.specs.Declarations.{having_declared_as}
use Rattle.typing.specs.Statements as rules
use Rattle.typing.specs.Statements.{CounterIsTyped, StepIsTyped, HeadIsTyped, ChosenIsTyped, NameIsWritten, EventsAreDeclared, StatementIsTyped, BlockIsTyped, StatementsAreTyped}
use Rattle.typing.proofs.Went.{Goes, goes_on, goes_as}
use Rattle.typing.proofs.Trees.{generating_is}
use Rattle.typing.proofs.Sound.{sound, sound_generators, sound_condition}
use Rattle.typing.proofs.Declared.{gives, passes, act_passes, optional_goes, declaration_goes}
use Rattle.typing.proofs.SimpleForms.{simple_goes}
use Rattle.typing.proofs.Does as does

pub own_goes : (d : Does) (scope : Scope) (s : State) (w : Work) (t : State) → Goes (d (opened scope (length s.names))) s w t → Goes (within_own d scope) s w (having_closed (length s.names) t)
unfolding within_own
own_goes d scope s w t h = record { is = (goes_on (d (opened scope (length s.names))) (closed (length s.names)) h (record { is = refl })).is }

deed_goes : (place : Place) (d : Scope → Check Deed) (scope : Scope) (s : State) (x : Deed) (t : State) → Goes (d scope) s x t → Goes (deed_form place d scope) s (works.task place (works.action x)) t
unfolding deed_form
deed_goes place d scope s x t h = goes_on _ _ h gives

acted_goes : (a : Standing → Scope → Check Acted) (scope : Scope) (s : State) (y : Acted) (t : State) → Goes (a alone scope) s y t → Goes (acted_form a scope) s (works.task y.place (works.action y.deed)) t
unfolding acted_form
acted_goes a scope s y t h = goes_on _ _ h gives

stated_goes : (scope : Scope) (s : State) (e : Option (Box Expression Global)) (x : Option Seen) (t : State) → ConditionIsTyped scope s e x t → Goes (start_form (option_map (λ x. judge x.value) e) scope) s x t
unfolding start_form some_form
stated_goes scope s e x t expression_rules.no_condition = gives
stated_goes scope s e x t (expression_rules.a_condition h) = goes_on _ _ (sound h) gives

return_goes : (place : Place) (v : Option Judge) (scope : Scope) (s : State) (x : Option Seen) (t : State) → Goes (start_form v scope) s x t → return_fault scope.function scope.no_return x ≡ None → Goes (return_form place v scope) s (returning x) t
unfolding return_form
return_goes place v scope s x t h r = goes_on _ _ h (passes place (λ _. return_fault scope.function scope.no_return x) (λ _. give (returning x)) t _ _ r gives)

if_goes : (place : Place) (j : Judge) (a : Does) (scope : Scope) (s u t : State) (e : Seen) (w : Work) → Goes (j scope) s e u → truth_fault e.kind ≡ None → Goes (within_own a scope) u w t → Goes (if_form place j a scope) s (works.task place (works.when e w)) t
unfolding if_form
if_goes place j a scope s u t e w h r k = goes_on _ _ h (passes place (λ _. truth_fault e.kind) (λ _. within_own a scope >>= λ w. give (works.task place (works.when e w))) u _ _ r (goes_on _ _ k gives))

if_else_goes : (place : Place) (j : Judge) (a b : Does) (scope : Scope) (s u v t : State) (e : Seen) (w x : Work) → Goes (j scope) s e u → truth_fault e.kind ≡ None → Goes (within_own a scope) u w v → Goes (within_own b scope) v x t
    → Goes (if_else_form place j a b scope) s (works.task place (works.when_else e w x)) t
unfolding if_else_form
if_else_goes place j a b scope s u v t e w x h r k l =
    goes_on _ _ h (passes place (λ _. truth_fault e.kind) (λ _. within_own a scope >>= λ w. within_own b scope >>= λ x. give (works.task place (works.when_else e w x))) u _ _ r (goes_on _ _ k (goes_on _ _ l gives)))

while_goes : (place : Place) (j : Judge) (a : Does) (scope : Scope) (s u t : State) (e : Seen) (w : Work) → Goes (j scope) s e u → truth_fault e.kind ≡ None → Goes (within_own a scope) u w t → Goes (while_form place j a scope) s (works.task place (works.loop e w)) t
unfolding while_form
while_goes place j a scope s u t e w h r k = goes_on _ _ h (passes place (λ _. truth_fault e.kind) (λ _. within_own a scope >>= λ w. give (works.task place (works.loop e w))) u _ _ r (goes_on _ _ k gives))

counter_goes : (scope : Scope) (s : State) (x : Option ForStart) (c : Option Counted) (t : State) → CounterIsTyped scope s x c t → Goes (counter_form x scope) s c t
unfolding counter_form
counter_goes scope s x c t rules.no_counter = gives
counter_goes scope s x c t (rules.a_counter h) = goes_on _ _ (sound h) (record { is = refl })

step_goes : (place : Place) (holds : Bool) (scope : Scope) (s : State) (x : Option Simple) (y : Option Deed) (t : State) → StepIsTyped place holds scope s x y t → Goes (step_part place holds x scope) s y t
unfolding step_part
step_goes place holds scope s x y t rules.no_step = gives
step_goes place holds scope s x y t (rules.a_for_step h) = goes_on _ _ (simple_goes _ _ _ _ _ _ h) gives

head_goes : (place : Place) (scope : Scope) (s : State) (h : ForHead) (x : Headed) (t : State) → HeadIsTyped place scope s h x t → Goes (head_form place h scope) s x t
unfolding head_form
head_goes place scope s h x t (rules.a_head {c} {e} {x = y} a b k r) =
    goes_on _ _ (counter_goes _ _ _ _ _ a) (goes_on _ _ (optional_goes _ _ _ _ _ b) (goes_on _ _ (step_goes _ _ _ _ _ _ _ k)
    (passes place (λ _. wrong_unless (counter_fits c && test_fits e)) (λ _. give (record { counter = c; test = e; step = y })) t _ _ r gives)))

for_goes : (place : Place) (h : ForHead) (a : Does) (scope : Scope) (s u t : State) (x : Headed) (w : Work) → Goes (head_form place h (opened scope (length s.names))) s x u → Goes (within_own a (opened scope (length s.names))) u w t
    → Goes (for_form place h a scope) s (works.task place (works.counting x.counter x.test x.step w)) (having_closed (length s.names) t)
unfolding for_form for_within
for_goes place h a scope s u t x w k l = own_goes (for_within place h a) scope s _ t (goes_on _ _ k (goes_on _ _ l gives))

chosen_goes : (at scope : Scope) (s : State) (g : Generators) (x : Chosen) (t : State) → ChosenIsTyped at scope s g x t → Goes (chosen_form (judge_generators g) at scope) s x t
unfolding chosen_form
chosen_goes at scope s g x t (rules.chosen h k) = goes_as (ap (λ z. chosen_form z at scope) (sym (generating_is g))) (goes_on _ _ (sound_generators h) (goes_on _ _ (sound_condition k) gives))

for_all_goes : (place : Place) (g : Generators) (a : Does) (scope : Scope) (s u t : State) (x : Chosen) (w : Work) → Goes (chosen_form (judge_generators g) (opened scope (length s.names)) (opened scope (length s.names))) s x u → condition_fault x.condition ≡ None
    → Goes (within_own a (opened scope (length s.names))) u w t → Goes (for_all_form place (judge_generators g) a scope) s (works.task place (works.for_all x.generators x.condition w)) (having_closed (length s.names) t)
unfolding for_all_form for_all_within
for_all_goes place g a scope s u t x w h r k = own_goes (for_all_within place (judge_generators g) a) scope s _ t
    (goes_on _ _ h (passes place (λ _. condition_fault x.condition) (λ _. within_own a (opened scope (length s.names)) >>= λ w. give (works.task place (works.for_all x.generators x.condition w))) u _ _ r (goes_on _ _ k gives)))

select_goes : (place : Place) (g : Generators) (a : Does) (scope : Scope) (s u t : State) (x : Chosen) (w : Work) → Goes (chosen_form (judge_generators g) (within context.Pure (opened scope (length s.names))) (opened scope (length s.names))) s x u → condition_fault x.condition ≡ None
    → Goes (within_own a (opened scope (length s.names))) u w t → Goes (select_form place (judge_generators g) a scope) s (works.task place (works.selecting x.generators x.condition w)) (having_closed (length s.names) t)
unfolding select_form select_within
select_goes place g a scope s u t x w h r k = own_goes (select_within place (judge_generators g) a) scope s _ t
    (goes_on _ _ h (passes place (λ _. condition_fault x.condition) (λ _. within_own a (opened scope (length s.names)) >>= λ w. give (works.task place (works.selecting x.generators x.condition w))) u _ _ r (goes_on _ _ k gives)))

select_by_goes : (place : Place) (o : Extreme) (g : Generators) (j : Judge) (a : Does) (scope : Scope) (s u v t : State) (x : Chosen) (e : Seen) (w : Work)
    → Goes (chosen_form (judge_generators g) (within context.Pure (opened scope (length s.names))) (opened scope (length s.names))) s x u → Goes (j (within context.Pure (opened scope (length s.names)))) u e v → key_fault x.condition e.kind ≡ None
    → Goes (within_own a (opened scope (length s.names))) v w t → Goes (select_by_form place o (judge_generators g) j a scope) s (works.task place (works.selecting_by o x.generators x.condition e w)) (having_closed (length s.names) t)
unfolding select_by_form select_by_within
select_by_goes place o g j a scope s u v t x e w h l r k = own_goes (select_by_within place o (judge_generators g) j a) scope s _ t
    (goes_on _ _ h (goes_on _ _ l (passes place (λ _. key_fault x.condition e.kind) (λ _. within_own a (opened scope (length s.names)) >>= λ w. give (works.task place (works.selecting_by o x.generators x.condition e w))) v _ _ r (goes_on _ _ k gives))))

written_goes : (place : Place) (k : Kind) (fit : Bool) (n : Name) (scope : Scope) (s : State) (slot : Slot) (t : State) → NameIsWritten k fit n scope s slot t → Goes (written_name place k fit n scope) s slot t
unfolding written_name
written_goes place k fit n scope s slot t (rules.a_written_name {f} found r free) = record {
  is =
      ap (λ o. written_found place k fit scope o s) found
      ∙ (passes place (λ _. wrong_unless (is_same f.kind k && fit)) (λ _. act_on place scope through_doing (slot_of scope f.index ∷ []) >>= λ _. give (slot_of scope f.index)) s _ _ r
      (act_passes place scope through_doing (slot_of scope f.index ∷ []) (λ _. give (slot_of scope f.index)) s _ _ free gives)).is;
}

neighbor_goes : (place : Place) (j : Judge) (n : Name) (a : Does) (scope : Scope) (s u v t : State) (k : Seen) (slot : Slot) (w : Work) → Goes (j scope) s k u → NameIsWritten kind.Selector (is_number k.kind) n scope u slot v → Goes (within_own a (apart scope)) v w t
    → Goes (neighbor_form place j n a scope) s (works.task place (works.submitting k slot w)) t
unfolding neighbor_form
neighbor_goes place j n a scope s u v t k slot w h g l = goes_on _ _ h (goes_on _ _ (written_goes place _ _ n scope u slot v g) (goes_on _ _ l gives))

with_goes : (place : Place) (m : WithMode) (n : Name) (a : Does) (scope : Scope) (s u t : State) (slot : Slot) (w : Work) → NameIsWritten kind.Solver true n scope s slot u → Goes (within_own a (apart scope)) u w t
    → Goes (with_form place m n a scope) s (works.task place (works.at_once m slot w)) t
unfolding with_form
with_goes place m n a scope s u t slot w g l = goes_on _ _ (written_goes place _ _ n scope s slot u g) (goes_on _ _ l gives)

events_go : (scope : Scope) (s : State) (x : Option Events) (y : Option EventSlots) (t : State) → EventsAreDeclared scope s x y t → Goes (events_form x scope) s y t
unfolding events_form
events_go scope s x y t rules.no_events = gives
events_go scope s x y t rules.some_events = record { is = refl }

watched_goes : (place : Place) (o : Watched) (scope : Scope) (s u : State) (x : Seen) → Goes (judge o.variable scope) s x u → watch_fault o x.kind ≡ None → doing_fault scope through_doing (roots_of (whole x)) ≡ None
    → Goes (watched_form place o scope) s x (having_done through_doing (roots_of (whole x)) u)
unfolding watched_form
watched_goes place o scope s u x h r free = goes_on _ _ h (passes place (λ _. watch_fault o x.kind) (λ _. act_on place scope through_doing (roots_of (whole x)) >>= λ _. give x) u _ _ r (act_passes place scope through_doing (roots_of (whole x)) (λ _. give x) u _ _ free gives))

whenever_goes : (place : Place) (o : Watched) (a : Does) (scope : Scope) (s u v t : State) (x : Seen) (slots : Option EventSlots) (w : Work) → Goes (watched_form place o scope) s x u → Goes (events_form o.names (opened (apart scope) (length u.names))) u slots v
    → Goes (within_own a (opened (apart scope) (length u.names))) v w t → Goes (whenever_form place o a scope) s (works.task place (works.watching x slots w)) (having_closed (length u.names) t)
unfolding whenever_form watching_within
whenever_goes place o a scope s u v t x slots w h g l = goes_on _ _ h (own_goes (watching_within place x o.names a) (apart scope) u _ t (goes_on _ _ g (goes_on _ _ l gives)))

shared_goes : (place : Place) (j : Judge) (scope : Scope) (s u : State) (d : Seen) → Goes (j scope) s d u → domain_fault d.kind ≡ None → doing_fault scope parall_doing [] ≡ None → Goes (shared_form place j scope) s d (having_done parall_doing [] u)
unfolding shared_form
shared_goes place j scope s u d h r free = goes_on _ _ h (passes place (λ _. domain_fault d.kind) (λ _. act_on place scope parall_doing [] >>= λ _. give d) u _ _ r (act_passes place scope parall_doing [] (λ _. give d) u _ _ free gives))

parall_goes : (place : Place) (n : Name) (j : Judge) (a : Does) (scope : Scope) (s u t : State) (d : Seen) (w : Work) → Goes (shared_form place j scope) s d u
    → Goes (within_own a (in_parall (length u.names) (opened scope (length u.names)))) (having_declared_as n.text kind.Int [] u) w t
    → Goes (parall_form place n j a scope) s (works.task place (works.in_threads (slot_of (opened scope (length u.names)) (length u.names)) d w)) (having_closed (length u.names) t)
unfolding parall_form parall_within
parall_goes place n j a scope s u t d w h k = goes_on _ _ h (own_goes (parall_within place n d a) scope u _ t (record {
  is = (goes_on (declare n.text kind.Int)
      (λ _. within_own a (in_parall (length u.names) (opened scope (length u.names))) >>= λ w. give (works.task place (works.in_threads (slot_of (opened scope (length u.names)) (length u.names)) d w))) {s = u} (record { is = refl }) (goes_on _ _ k gives)).is;
}))

tasks_go : (place : Place) (ds : List Does) (scope : Scope) (s : State) (ws : List Work) (t : State) → Goes (each (task_form scope) ds []) s ws t → Goes (opened_tasks place ds scope) s (works.task place (works.block (row_of ws))) t
unfolding opened_tasks tasks_form
tasks_go place ds scope s ws t h = goes_on _ _ h gives

task_goes : (scope : Scope) (ws : List Work) (d : Does) (s : State) (w : Work) (t : State) → Goes (d scope) s w t → Goes (task_form scope ws d) s (ws ++ w ∷ []) t
unfolding task_form
task_goes scope ws d s w t h = goes_on _ _ h gives

at : {j k : Does} {scope : Scope} {s t : State} {x : Work} → j ≡ k → Goes (k scope) s x t → Goes (j scope) s x t
at {j} {k} {scope} {s} {t} {x} is h = subst (λ (i : Does). Goes (i scope) s x t) (sym is) h

mutual
  pub statement_goes : {scope : Scope} {s : State} {x : Statement} {w : Work} {t : State} → StatementIsTyped scope s x w t → Goes (statement_of x scope) s w t
  statement_goes (rules.a_block {scope} {s} {b} h) = at (does.does_block b) (own_goes (block_of b) scope s _ _ (block_goes h))
  statement_goes (rules.an_empty {place}) = at (does.does_empty place) (deed_goes place _ _ _ _ _ gives)
  statement_goes (rules.a_declaration {d} h) = at (does.does_declaration d) (deed_goes _ _ _ _ _ _ (declaration_goes _ _ _ _ _ h))
  statement_goes (rules.a_simple {x} h) = at (does.does_simple x) (acted_goes (simple_form x) _ _ _ _ (simple_goes _ _ _ _ _ _ h))
  statement_goes (rules.a_return {place} e h r) = at (does.does_return place e) (deed_goes place _ _ _ _ _ (return_goes place _ _ _ _ _ (stated_goes _ _ _ _ _ h) r))
  statement_goes (rules.an_if {place} {test} {a} h r k) = at (does.does_if place test a) (if_goes place _ _ _ _ _ _ _ _ (sound h) r (own_goes _ _ _ _ _ (statement_goes k)))
  statement_goes (rules.an_if_else {place} {test} {a} {b} h r k l) = at (does.does_if_else place test a b) (if_else_goes place _ _ _ _ _ _ _ _ _ _ _ (sound h) r (own_goes _ _ _ _ _ (statement_goes k)) (own_goes _ _ _ _ _ (statement_goes l)))
  statement_goes (rules.a_while {place} {test} {a} h r k) = at (does.does_while place test a) (while_goes place _ _ _ _ _ _ _ _ (sound h) r (own_goes _ _ _ _ _ (statement_goes k)))
  statement_goes (rules.a_for {place} {h} {a} k l) = at (does.does_for place h a) (for_goes place h.value _ _ _ _ _ _ _ (head_goes _ _ _ _ _ _ k) (own_goes _ _ _ _ _ (statement_goes l)))
  statement_goes (rules.a_for_all {place} {g} {a} h r k) = at (does.does_for_all place g a) (for_all_goes place g.value _ _ _ _ _ _ _ (chosen_goes _ _ _ _ _ _ h) r (own_goes _ _ _ _ _ (statement_goes k)))
  statement_goes (rules.a_select {place} {g} {a} h r k) = at (does.does_select place g a) (select_goes place g.value _ _ _ _ _ _ _ (chosen_goes _ _ _ _ _ _ h) r (own_goes _ _ _ _ _ (statement_goes k)))
  statement_goes (rules.a_select_by {place} {o} {g} {key} {a} h l r k) = at (does.does_select_by place o g key a) (select_by_goes place o g.value _ _ _ _ _ _ _ _ _ _ (chosen_goes _ _ _ _ _ _ h) (sound l) r (own_goes _ _ _ _ _ (statement_goes k)))
  statement_goes (rules.a_neighbor {place} {key} {n} {a} h g k) = at (does.does_neighbor place key n a) (neighbor_goes place _ n _ _ _ _ _ _ _ _ _ (sound h) g (own_goes _ _ _ _ _ (statement_goes k)))
  statement_goes (rules.a_whenever {place} {o} {a} h r free g k) = at (does.does_whenever place o a) (whenever_goes place o.value _ _ _ _ _ _ _ _ _ (watched_goes place o.value _ _ _ _ (sound h) r free) (events_go _ _ _ _ _ g) (own_goes _ _ _ _ _ (statement_goes k)))
  statement_goes (rules.a_with {place} {mode} {n} {b} g k) = at (does.does_with place mode n b) (with_goes place mode n _ _ _ _ _ _ _ g (own_goes _ _ _ _ _ (block_goes k)))
  statement_goes (rules.a_parall {place} {n} {domain} {a} h r free k) = at (does.does_parall place n domain a) (parall_goes place n _ _ _ _ _ _ _ _ (shared_goes place _ _ _ _ _ (sound h) r free) (own_goes _ _ _ _ _ (statement_goes k)))

  pub block_goes : {scope : Scope} {s : State} {b : Block} {w : Work} {t : State} → BlockIsTyped scope s b w t → Goes (block_of b scope) s w t
  block_goes (rules.statements_of {b} h) = at (does.does_tasks b) (tasks_go _ _ _ _ _ _ (statements_go h))

  statements_go : {scope : Scope} {ws : List Work} {s : State} {xs : List Statement} {all : List Work} {t : State} → StatementsAreTyped scope ws s xs all t → Goes (each (task_form scope) (map statement_of xs) ws) s all t
  statements_go rules.no_statements = gives
  statements_go (rules.a_statement h k) = goes_on _ _ (task_goes _ _ _ _ _ _ (statement_goes h)) (statements_go k)
