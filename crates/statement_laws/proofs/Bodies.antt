-- Statements that hold statements behave where their parts do.
use Rattle.std.specs.Prelude.{◌≡◌, refl, suc, Bool, true, false, ◌&&◌, List, [], ◌∷◌, length, Option, None, Some, option_map}
use Rattle.std.proofs.Common.{ap}
use Rattle.cbl_base.specs.declared.place.Place.{Place}
use Rattle.comet_syntax.specs.declared.tree.expressions.Name.{Name}
use Rattle.comet_syntax.specs.declared.tree.expressions.Extreme.{Extreme}
use Rattle.comet_syntax.specs.declared.tree.statements.Simple.{Simple}
use Rattle.comet_syntax.specs.declared.tree.statements.ForStart.{ForStart}
use Rattle.comet_syntax.specs.declared.tree.statements.ForHead.{ForHead}
use Rattle.comet_syntax.specs.declared.tree.statements.Events.{Events}
use Rattle.comet_syntax.specs.declared.tree.statements.Watched.{Watched}
use Rattle.comet_syntax.specs.declared.tree.statements.WithMode.{WithMode}
use Rattle.checked_tree.specs.declared.kind.Kind.{Kind}
use Rattle.checked_tree.specs.declared.kind.Kind.TheVariants as kind
use Rattle.checked_tree.specs.Shape.{Seen}
use Rattle.checked_tree.specs.Actions.{Deed}
use Rattle.checked_tree.specs.declared.statements.EventSlots.{EventSlots}
use Rattle.checked_tree.specs.Tasks.{Work, Counted}
use Rattle.type_rules.specs.declared.context.Context.TheVariants as context
use Rattle.type_rules.specs.Rules.{is_pure}
use Rattle.type_scopes.specs.declared.names.Found.{Found}
use Rattle.type_scopes.specs.declared.scope.Scope.{Scope}
use Rattle.type_scopes.specs.Names.{look, slot_of, opened, within, closed}
use Rattle.type_scopes.specs.State.{State, Went, Check, give, ◌>>=◌}
use Rattle.type_calls.specs.Doing.{act_on, is_there}
use Rattle.type_expressions.specs.Expressions.{Judge, judge, Generating}
use Rattle.type_declarations.specs.Parts.{ruled}
use Rattle.type_simples.specs.declared.simples.Standing.{Standing}
use Rattle.type_simples.specs.Simples.{Acted}
use Rattle.type_heads.specs.Heads as heads
use Rattle.type_statements.specs.Statements as forms
use Rattle.type_heads.specs.Heads.{Does, alone}
use Rattle.type_laws.specs.Behaves.{Behaves}
use Rattle.type_laws.proofs.Allowed.{AllOf, behaves_then, behaves_give, behaves_refuse, behaves_at, behaves_each, behaves_where, behaves_act, act_free, shows_first, shows_second, behaves_with}
use Rattle.type_laws.proofs.Forms.{Good, GoodGenerating, generators_good, condition_good}
use Rattle.type_laws.proofs.Trees.{expression_good}
use Rattle.statement_laws.proofs.Parts.{ruled_good, declare_good, judged_start, start_good, inside_block}
use Rattle.statement_laws.proofs.Leaves.{simple_good}

-- a statement behaves wherever it stands
abbrev pub GoodDoes : Does → Type 0
GoodDoes d = (scope : Scope) → Behaves scope (d scope)

pub deed_good : (place : Place) (d : Scope → Check Deed) → ((scope : Scope) → Behaves scope (d scope)) → GoodDoes (heads.deed_form place d)
unfolding heads.deed_form
deed_good place d h scope = behaves_then scope _ _ (h scope) (λ x. behaves_give scope _)

pub acted_good : (a : Standing → Scope → Check Acted) → ((scope : Scope) → Behaves scope (a alone scope)) → GoodDoes (heads.acted_form a)
unfolding heads.acted_form
acted_good a h scope = behaves_then scope _ _ (h scope) (λ x. behaves_give scope _)

pub own_good : (d : Does) → GoodDoes d → GoodDoes (forms.within_own d)
unfolding forms.within_own
own_good d h scope =
    behaves_at scope (λ s. d (opened scope (length s.names)) >>= closed (length s.names)) (λ s. inside_block scope (length s.names) (d (opened scope (length s.names))) (h (opened scope (length s.names))))

-- blocks

task_good : (scope : Scope) (d : Does) → GoodDoes d → (ts : List Work) → Behaves scope (forms.task_form scope ts d)
unfolding forms.task_form
task_good scope d h ts = behaves_then scope _ _ (h scope) (λ t. behaves_give scope _)

tasks_all : (scope : Scope) (ds : List Does) → AllOf GoodDoes ds → AllOf (λ d. (ts : List Work) → Behaves scope (forms.task_form scope ts d)) ds
tasks_all scope [] h = tt
tasks_all scope (d ∷ ds) h = (task_good scope d h.0, tasks_all scope ds h.1)

pub block_good : (place : Place) (ds : List Does) → AllOf GoodDoes ds → GoodDoes (forms.opened_tasks place ds)
unfolding forms.opened_tasks forms.tasks_form
block_good place ds h scope = behaves_then scope _ _ (behaves_each scope (forms.task_form scope) ds (tasks_all scope ds h) []) (λ ts. behaves_give scope _)

-- `if`, `while`, `for`

pub if_good : (place : Place) (t : Judge) (a : Does) → Good t → GoodDoes a → GoodDoes (forms.if_form place t a)
unfolding forms.if_form
if_good place t a g h scope =
    behaves_then scope _ _ (g scope) (λ x. behaves_then scope _ _ (ruled_good scope _ _) (λ _. behaves_then scope _ _ (own_good a h scope) (λ y. behaves_give scope _)))

pub if_else_good : (place : Place) (t : Judge) (a b : Does) → Good t → GoodDoes a → GoodDoes b → GoodDoes (forms.if_else_form place t a b)
unfolding forms.if_else_form
if_else_good place t a b g h k scope =
    behaves_then scope _ _ (g scope) (λ x. behaves_then scope _ _ (ruled_good scope _ _) (λ _.
    behaves_then scope _ _ (own_good a h scope) (λ y. behaves_then scope _ _ (own_good b k scope) (λ z. behaves_give scope _))))

pub while_good : (place : Place) (t : Judge) (b : Does) → Good t → GoodDoes b → GoodDoes (forms.while_form place t b)
unfolding forms.while_form
while_good place t b g h scope =
    behaves_then scope _ _ (g scope) (λ x. behaves_then scope _ _ (ruled_good scope _ _) (λ _. behaves_then scope _ _ (own_good b h scope) (λ y. behaves_give scope _)))

counter_good : (x : Option ForStart) (scope : Scope) → Behaves scope (heads.counter_form x scope)
unfolding heads.counter_form
counter_good None scope = behaves_give scope None
counter_good (Some x) scope =
    behaves_then scope _ _ (expression_good x.value scope) (λ e s y t h. behaves_then scope _ _ (declare_good scope x.name.text kind.Int 0 []) (λ _. behaves_give {A = Option Counted} scope (Some (record { slot = slot_of scope (length s.names); start = e }))) s y t h)

step_good : (place : Place) (holds : Bool) (x : Option Simple) (scope : Scope) → Behaves scope (heads.step_part place holds x scope)
unfolding heads.step_part
step_good place holds None scope = behaves_give scope None
step_good place holds (Some x) scope = behaves_then scope _ _ (simple_good x (record { at = Some place; holds = holds }) scope) (λ a. behaves_give scope _)

head_good : (place : Place) (h : ForHead) (scope : Scope) → Behaves scope (heads.head_form place h scope)
unfolding heads.head_form
head_good place h scope =
    behaves_then scope _ _ (counter_good h.start scope) (λ c. behaves_then scope _ _ (start_good scope (option_map judge h.test) (judged_start h.test)) (λ t.
    behaves_then scope _ _ (step_good place _ h.step scope) (λ x. behaves_then scope _ _ (ruled_good scope _ _) (λ _. behaves_give scope _))))

for_within_good : (place : Place) (h : ForHead) (b : Does) → GoodDoes b → GoodDoes (forms.for_within place h b)
unfolding forms.for_within
for_within_good place h b g scope = behaves_then scope _ _ (head_good place h scope) (λ x. behaves_then scope _ _ (own_good b g scope) (λ y. behaves_give scope _))

pub for_good : (place : Place) (h : ForHead) (b : Does) → GoodDoes b → GoodDoes (forms.for_form place h b)
unfolding forms.for_form
for_good place h b g = own_good (forms.for_within place h b) (for_within_good place h b g)

-- generators

chosen_good : (g : Generating) → GoodGenerating g → (at scope : Scope) → at.parall ≡ scope.parall → (is_pure scope.context ≡ true → is_pure at.context ≡ true) → Behaves scope (heads.chosen_form g at scope)
unfolding heads.chosen_form
chosen_good g h at scope same pure =
    behaves_then scope _ _ (generators_good scope g.generators h.generators) (λ gs.
    behaves_then scope _ _ (behaves_where scope at _ same pure (condition_good at g.condition h.condition)) (λ c. behaves_give scope _))

for_all_within_good : (place : Place) (g : Generating) (b : Does) → GoodGenerating g → GoodDoes b → GoodDoes (forms.for_all_within place g b)
unfolding forms.for_all_within
for_all_within_good place g b h k scope =
    behaves_then scope _ _ (chosen_good g h scope scope refl (λ p. p)) (λ x. behaves_then scope _ _ (ruled_good scope _ _) (λ _. behaves_then scope _ _ (own_good b k scope) (λ y. behaves_give scope _)))

pub for_all_good : (place : Place) (g : Generating) (b : Does) → GoodGenerating g → GoodDoes b → GoodDoes (forms.for_all_form place g b)
unfolding forms.for_all_form
for_all_good place g b h k = own_good (forms.for_all_within place g b) (for_all_within_good place g b h k)

select_within_good : (place : Place) (g : Generating) (b : Does) → GoodGenerating g → GoodDoes b → GoodDoes (forms.select_within place g b)
unfolding forms.select_within
select_within_good place g b h k scope =
    behaves_then scope _ _ (chosen_good g h (within context.Pure scope) scope refl (λ p. refl)) (λ x. behaves_then scope _ _ (ruled_good scope _ _) (λ _. behaves_then scope _ _ (own_good b k scope) (λ y. behaves_give scope _)))

pub select_good : (place : Place) (g : Generating) (b : Does) → GoodGenerating g → GoodDoes b → GoodDoes (forms.select_form place g b)
unfolding forms.select_form
select_good place g b h k = own_good (forms.select_within place g b) (select_within_good place g b h k)

select_by_within_good : (place : Place) (x : Extreme) (g : Generating) (j : Judge) (b : Does) → GoodGenerating g → Good j → GoodDoes b → GoodDoes (forms.select_by_within place x g j b)
unfolding forms.select_by_within
select_by_within_good place x g j b h f k scope =
    behaves_then scope _ _ (chosen_good g h (within context.Pure scope) scope refl (λ p. refl)) (λ c.
    behaves_then scope _ _ (behaves_where scope (within context.Pure scope) _ refl (λ p. refl) (f (within context.Pure scope))) (λ e.
    behaves_then scope _ _ (ruled_good scope _ _) (λ _. behaves_then scope _ _ (own_good b k scope) (λ y. behaves_give scope _))))

pub select_by_good : (place : Place) (x : Extreme) (g : Generating) (j : Judge) (b : Does) → GoodGenerating g → Good j → GoodDoes b → GoodDoes (forms.select_by_form place x g j b)
unfolding forms.select_by_form
select_by_good place x g j b h f k = own_good (forms.select_by_within place x g j b) (select_by_within_good place x g j b h f k)

-- statements on a name

written_found_good : (place : Place) (k : Kind) (fit : Bool) (scope : Scope) (f : Option Found) → Behaves scope (heads.written_found place k fit scope f)
written_found_good place k fit scope None = behaves_refuse scope place _
written_found_good place k fit scope (Some f) = behaves_then scope _ _ (ruled_good scope _ _) (λ _. behaves_then scope _ _ (behaves_act scope place _ _) (λ _. behaves_give scope _))

written_good : (place : Place) (k : Kind) (fit : Bool) (n : Name) (scope : Scope) → Behaves scope (heads.written_name place k fit n scope)
unfolding heads.written_name
written_good place k fit n scope = behaves_at scope (λ s. heads.written_found place k fit scope (look n.text s.names)) (λ s. written_found_good place k fit scope (look n.text s.names))

apart_good : (scope : Scope) (d : Does) → GoodDoes d → Behaves scope (forms.within_own d (heads.apart scope))
apart_good scope d h = behaves_where scope (heads.apart scope) _ refl (λ p. p) (own_good d h (heads.apart scope))

pub neighbor_good : (place : Place) (j : Judge) (n : Name) (b : Does) → Good j → GoodDoes b → GoodDoes (forms.neighbor_form place j n b)
unfolding forms.neighbor_form
neighbor_good place j n b g h scope =
    behaves_then scope _ _ (g scope) (λ k. behaves_then scope _ _ (written_good place kind.Selector _ n scope) (λ slot. behaves_then scope _ _ (apart_good scope b h) (λ y. behaves_give scope _)))

pub with_good : (place : Place) (m : WithMode) (n : Name) (b : Does) → GoodDoes b → GoodDoes (forms.with_form place m n b)
unfolding forms.with_form
with_good place m n b h scope = behaves_then scope _ _ (written_good place kind.Solver true n scope) (λ slot. behaves_then scope _ _ (apart_good scope b h) (λ y. behaves_give scope _))

events_at : (x : Events) (scope : Scope) → Behaves scope (heads.events_form (Some x) scope)
unfolding heads.events_form
events_at x scope s y t h =
    behaves_then scope _ _ (declare_good scope x.old.text kind.Int 0 []) (λ _. behaves_then scope _ _ (declare_good scope x.new.text kind.Int 0 [])
    (λ _. behaves_give {A = Option EventSlots} scope (Some (record { old = slot_of scope (length s.names); new = slot_of scope (suc (length s.names)) })))) s y t h

events_good : (ns : Option Events) (scope : Scope) → Behaves scope (heads.events_form ns scope)
unfolding heads.events_form
events_good None scope = behaves_give scope None
events_good (Some x) scope = events_at x scope

watching_good : (place : Place) (v : Seen) (ns : Option Events) (b : Does) → GoodDoes b → GoodDoes (forms.watching_within place v ns b)
unfolding forms.watching_within
watching_good place v ns b h scope = behaves_then scope _ _ (events_good ns scope) (λ slots. behaves_then scope _ _ (own_good b h scope) (λ y. behaves_give scope _))

watched_good : (place : Place) (w : Watched) (scope : Scope) → Behaves scope (heads.watched_form place w scope)
unfolding heads.watched_form
watched_good place w scope =
    behaves_then scope _ _ (expression_good w.variable scope) (λ v. behaves_then scope _ _ (ruled_good scope _ _) (λ _. behaves_then scope _ _ (behaves_act scope place _ _) (λ _. behaves_give scope v)))

pub whenever_good : (place : Place) (w : Watched) (b : Does) → GoodDoes b → GoodDoes (forms.whenever_form place w b)
unfolding forms.whenever_form
whenever_good place w b h scope = behaves_then scope _ _ (watched_good place w scope) (λ v. apart_good scope (forms.watching_within place v w.names b) (watching_good place v w.names b h))

-- `parall`: none holds another, so nothing is asked of its body where it stands

pub record IsFree (scope : Scope) : Type 0 where
  pub impure : is_pure scope.context ≡ false
  pub alone : is_there scope.parall ≡ false

not_true : {P : Type 0} (b : Bool) → b ≡ false → b ≡ true → P
not_true true h e = absurd (cc)
not_true false h e = absurd (cc)

nothing_asked : {A : Type 0} (scope : Scope) (m : Check A) → IsFree scope → Behaves scope m
nothing_asked scope m f s x t h = record {
  pure = λ p. not_true (is_pure scope.context) f.impure p;
  inside = λ outer p. not_true (is_there scope.parall) f.alone (ap is_there p);
}

and_true : (a : Bool) → a && true ≡ false → a ≡ false
and_true true h = h
and_true false h = refl

parall_free : (scope : Scope) (place : Place) (s : State) (x : Unit {0}) (t : State) → act_on place scope heads.parall_doing [] s ≡ Went x t → IsFree scope
parall_free scope place s x t h = let f = act_free scope place heads.parall_doing [] s t x h in record { impure = f.impure; alone = and_true (is_there scope.parall) f.forbidden }

shared_good : (place : Place) (j : Judge) → Good j → (scope : Scope) → Behaves scope (heads.shared_form place j scope)
unfolding heads.shared_form
shared_good place j g scope =
    behaves_then scope _ _ (g scope) (λ d. behaves_then scope _ _ (ruled_good scope _ _) (λ _. behaves_then scope _ _ (behaves_act scope place heads.parall_doing []) (λ _. behaves_give scope d)))

shared_free : (place : Place) (j : Judge) (scope : Scope) (s : State) (d : Seen) (t : State) → heads.shared_form place j scope s ≡ Went d t → IsFree scope
unfolding heads.shared_form
shared_free place j scope =
    shows_second {A = Seen} (IsFree scope) (j scope) _ (λ x. shows_second {A = Unit {0}} (IsFree scope) (ruled place (heads.domain_fault x.kind)) _
    (λ y. shows_first {A = Unit {0}} (IsFree scope) (act_on place scope heads.parall_doing []) (λ _. give x) (λ s z t h. parall_free scope place s z t h)))

pub parall_good : (place : Place) (n : Name) (j : Judge) (b : Does) → Good j → GoodDoes b → GoodDoes (forms.parall_form place n j b)
unfolding forms.parall_form
parall_good place n j b g h scope =
    behaves_with (IsFree scope) scope (heads.shared_form place j scope) _ (shared_good place j g scope) (shared_free place j scope) (λ f d. nothing_asked scope _ f)
