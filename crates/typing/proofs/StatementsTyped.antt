-- Each statement that goes is typed, by induction over trees.
use Rattle.std.specs.Prelude.{◌≡◌, refl, Bool, ◌&&◌, List, [], ◌∷◌, ◌++◌, map, length, Option, None, Some, option_map}
use Rattle.std.proofs.Common.{sym, ap, subst}
use Rattle.std.specs.declared.boxed.Box.{Box}
use Rattle.std.specs.declared.alloc.Global.{Global}
use Rattle.cbl_base.specs.declared.place.Place.{Place}
use Rattle.comet_syntax.specs.declared.tree.expressions.Name.{Name}
use Rattle.comet_syntax.specs.declared.tree.expressions.Extreme.{Extreme}
use Rattle.comet_syntax.specs.declared.tree.expressions.Expression.{Expression}
use Rattle.comet_syntax.specs.declared.tree.expressions.Generators.{Generators}
use Rattle.comet_syntax.specs.declared.tree.statements.Simple.{Simple}
use Rattle.comet_syntax.specs.declared.tree.statements.ForStart.{ForStart}
use Rattle.comet_syntax.specs.declared.tree.statements.ForHead.{ForHead}
use Rattle.comet_syntax.specs.declared.tree.statements.Events.{Events}
use Rattle.comet_syntax.specs.declared.tree.statements.Watched.{Watched}
use Rattle.comet_syntax.specs.declared.tree.statements.WithMode.{WithMode}
use Rattle.comet_syntax.specs.declared.tree.statements.Statement.{Statement}
use Rattle.comet_syntax.specs.declared.tree.statements.Block.{Block, out-Block}
use Rattle.checked_tree.specs.declared.expressions.Slot.{Slot}
use Rattle.checked_tree.specs.declared.kind.Kind.{Kind}
use Rattle.checked_tree.specs.declared.kind.Kind.TheVariants as kind
use Rattle.checked_tree.specs.declared.statements.EventSlots.{EventSlots}
use Rattle.checked_tree.specs.Shape.{Seen, whole}
use Rattle.checked_tree.specs.Actions.{Deed, returning}
use Rattle.checked_tree.specs.Tasks as works
use Rattle.checked_tree.specs.Tasks.{Work, Counted, row_of}
use Rattle.type_rules.specs.Kinds.{is_number, is_same}
use Rattle.type_scopes.specs.declared.scope.Scope.{Scope}
use Rattle.type_scopes.specs.Names.{look, slot_of, opened, closed, declare}
use Rattle.type_scopes.specs.State.{State, Went, Check, give, ◌>>=◌, each}
use Rattle.type_calls.specs.Doing.{act_on}
use Rattle.type_calls.specs.Roots.{roots_of}
use Rattle.type_expressions.specs.Expressions.{judge, some_form, condition_form, judge_generators}
use Rattle.type_declarations.specs.Parts.{ruled, wrong_unless, start_form}
use Rattle.type_declarations.specs.Declarations.{declaration_form}
use Rattle.type_simples.specs.Simples.{Acted, simple_form, return_form, return_fault, through_doing}
use Rattle.type_simples.specs.declared.simples.Standing.{Standing}
use Rattle.type_heads.specs.Heads.{Does, deed_form, alone, acted_form, truth_fault, counter_form, counter_fits, test_fits, step_part, Headed, head_form, Chosen, chosen_form, condition_fault, key_fault, written_found, written_name, apart, watch_fault, events_form, watched_form, parall_doing, domain_fault, in_parall, shared_form}
use Rattle.type_statements.specs.Statements.{within_own, task_form, tasks_form, opened_tasks, if_form, if_else_form, while_form, for_within, for_form, for_all_within, for_all_form, select_within, select_form, select_by_within, select_by_form, neighbor_form, with_form, watching_within, whenever_form, parall_within, parall_form, statement_of, block_of}
use Rattle.typing.specs.Calls.{having_done}
use Rattle.typing.specs.Rules as expression_rules
use Rattle.typing.specs.Rules.{ConditionIsTyped, having_closed}
use Rattle.typing.specs.Declarations.{having_declared_as}
use Rattle.typing.specs.Statements as rules
use Rattle.typing.proofs.Trees.{generating_is}
use Rattle.typing.proofs.Does as does
use Rattle.comet_syntax.specs.declared.tree.statements.Statement.{roll-Statement}
use Rattle.comet_syntax.specs.declared.tree.statements.Statement.TheVariants as statements
use Rattle.comet_syntax.specs.declared.tree.statements.Statement.TheOpen as layers
use Rattle.comet_syntax.specs.declared.tree.statements.Statement.TheFolds.{map-Statement, map-Block, ind-Statement}
use Rattle.comet_syntax.specs.declared.tree.statements.Block.{roll-Block, out-roll-Block}
use Rattle.comet_syntax.specs.declared.tree.declarations.Declaration.{Declaration}
use Rattle.checked_tree.specs.Actions.{nothing}
use Rattle.type_scopes.specs.declared.names.Found.{Found}
use Rattle.type_expressions.specs.Expressions.{generators_form, judge_generator}
use Rattle.type_declarations.specs.Declarations.{declaration_place}
use Rattle.typing.specs.Rules.{generators_in, condition_in}
use Rattle.typing.specs.Statements.{CounterIsTyped, StepIsTyped, HeadIsTyped, ChosenIsTyped, NameIsWritten, EventsAreDeclared, StatementIsTyped, BlockIsTyped, StatementsAreTyped}
use Rattle.typing.proofs.Went.{Goes, Between, between, goes_as}
use Rattle.typing.proofs.Complete.{complete, generators_complete}
use Rattle.typing.proofs.Declared.{as_went, passed, act_passed, optional_typed, declaration_typed}
use Rattle.typing.proofs.SimpleForms.{simple_typed}

abbrev OfStatement : Statement → Type 0
OfStatement x = (scope : Scope) (s : State) (w : Work) (t : State) → Goes (statement_of x scope) s w t → StatementIsTyped scope s x w t

abbrev OfBlock : Block → Type 0
OfBlock b = (scope : Scope) (s : State) (w : Work) (t : State) → Goes (block_of b scope) s w t → BlockIsTyped scope s b w t

abbrev OfStatements : List Statement → Type 0
OfStatements xs = (scope : Scope) (ws : List Work) (s : State) (all : List Work) (t : State) → Goes (each (task_form scope) (map statement_of xs) ws) s all t → StatementsAreTyped scope ws s xs all t

by_form : (x : Statement) (d : Does) → statement_of x ≡ d → ((scope : Scope) (s : State) (w : Work) (t : State) → Goes (d scope) s w t → StatementIsTyped scope s x w t) → OfStatement x
by_form x d is typed scope s w t h = typed scope s w t (subst (λ (i : Does). Goes (i scope) s w t) is h)

-- a statement in a scope of its own
pub record Own (d : Does) (scope : Scope) (s : State) (w : Work) (t : State) : Type 0 where
  pub made : Work
  pub known : State
  pub inside : Goes (d (opened scope (length s.names))) s made known
  pub same : Went made (having_closed (length s.names) known) ≡ Went w t

pub own_typed : (d : Does) (scope : Scope) (s : State) (w : Work) (t : State) → Goes (within_own d scope) s w t → Own d scope s w t
unfolding within_own
own_typed d scope s w t h =
    let p = between (d (opened scope (length s.names))) (closed (length s.names)) s w t (record { is = h.is }) in
    record { made = p.made; known = p.known; inside = p.first; same = p.next.is }

typed_as : {scope : Scope} {s : State} {x : Statement} {w v : Work} {t u : State} → Went w t ≡ Went v u → StatementIsTyped scope s x w t → StatementIsTyped scope s x v u
typed_as {scope} {s} {x} is h = as_went (λ y u. StatementIsTyped scope s x y u) is h

deed_typed : (place : Place) (d : Scope → Check Deed) (scope : Scope) (s : State) (w : Work) (t : State) → Goes (deed_form place d scope) s w t → Between (d scope) (λ x. give (works.task place (works.action x))) s w t
unfolding deed_form
deed_typed place d scope s w t h = between _ _ s w t h

acted_typed : (a : Standing → Scope → Check Acted) (scope : Scope) (s : State) (w : Work) (t : State) → Goes (acted_form a scope) s w t → Between (a alone scope) (λ x. give (works.task x.place (works.action x.deed))) s w t
unfolding acted_form
acted_typed a scope s w t h = between _ _ s w t h

stated_typed : (scope : Scope) (s : State) (e : Option (Box Expression Global)) (x : Option Seen) (t : State) → Goes (start_form (option_map (λ x. judge x.value) e) scope) s x t → ConditionIsTyped scope s e x t
unfolding start_form some_form
stated_typed scope s None x t h = as_went (λ y u. ConditionIsTyped scope s None y u) h.is expression_rules.no_condition
stated_typed scope s (Some e) x t h =
    let p = between (judge e.value scope) (λ x. give (Some x)) s x t h in
    as_went (λ y u. ConditionIsTyped scope s (Some e) y u) p.next.is (expression_rules.a_condition (complete e.value _ _ _ _ p.first))

block_typed : (b : Block) → OfBlock b → OfStatement (statements.Block b)
block_typed b f = by_form _ _ (does.does_block b) (λ scope s w t h.
    let o = own_typed (block_of b) scope s w t h in
    typed_as o.same (rules.a_block (f _ _ _ _ o.inside)))

empty_typed : (place : Place) → OfStatement (statements.Empty place)
empty_typed place = by_form _ _ (does.does_empty place) (λ scope s w t h.
    let p = deed_typed place (λ scope. give nothing) scope s w t h in
    typed_as p.next.is (as_went (λ y u. StatementIsTyped scope s (statements.Empty place) (works.task place (works.action y)) u) p.first.is rules.an_empty))

declaration_statement_typed : (d : Box Declaration Global) → OfStatement (statements.Declaration d)
declaration_statement_typed d = by_form _ _ (does.does_declaration d) (λ scope s w t h.
    let p = deed_typed (declaration_place d.value) (declaration_form d.value) scope s w t h in
    typed_as p.next.is (rules.a_declaration (declaration_typed _ _ _ _ _ p.first)))

simple_statement_typed : (x : Simple) → OfStatement (statements.Simple x)
simple_statement_typed x = by_form _ _ (does.does_simple x) (λ scope s w t h.
    let p = acted_typed (simple_form x) scope s w t h in
    typed_as p.next.is (rules.a_simple (simple_typed _ _ _ _ _ _ p.first)))

return_typed : (place : Place) (e : Option (Box Expression Global)) → OfStatement (statements.Return place e)
unfolding return_form
return_typed place e = by_form _ _ (does.does_return place e) (λ scope s w t h.
    let p = deed_typed place (return_form place (option_map (λ x. judge x.value) e)) scope s w t h in
    let q = between (start_form (option_map (λ x. judge x.value) e) scope) (λ x. ruled place (return_fault scope.function scope.no_return x) >>= λ _. give (returning x)) s p.made p.known p.first in
    let r = passed place (λ _. return_fault scope.function scope.no_return q.made) (λ _. give (returning q.made)) q.known p.made p.known q.next in
    typed_as p.next.is (as_went (λ y u. StatementIsTyped scope s (statements.Return place e) (works.task place (works.action y)) u) r.1.is (rules.a_return e (stated_typed _ _ _ _ _ q.first) r.0)))

if_typed : (place : Place) (test : Box Expression Global) (a : Box Statement Global) → OfStatement a.value → OfStatement (statements.If place test a None)
unfolding if_form
if_typed place test a f = by_form _ _ (does.does_if place test a) (λ scope s w t h.
    let p = between _ _ s w t h in
    let r = passed place (λ _. truth_fault p.made.kind) (λ _. within_own (statement_of a.value) scope >>= λ x. give (works.task place (works.when p.made x))) p.known w t p.next in
    let q = between (within_own (statement_of a.value) scope) (λ x. give (works.task place (works.when p.made x))) p.known w t r.1 in
    let o = own_typed (statement_of a.value) scope p.known q.made q.known q.first in
    typed_as q.next.is (as_went (λ y u. StatementIsTyped scope s (statements.If place test a None) (works.task place (works.when p.made y)) u) o.same (rules.an_if (complete test.value _ _ _ _ p.first) r.0 (f _ _ _ _ o.inside))))

if_else_typed : (place : Place) (test : Box Expression Global) (a b : Box Statement Global) → OfStatement a.value → OfStatement b.value → OfStatement (statements.If place test a (Some b))
unfolding if_else_form
if_else_typed place test a b f g = by_form _ _ (does.does_if_else place test a b) (λ scope s w t h.
    let p = between _ _ s w t h in
    let r = passed place (λ _. truth_fault p.made.kind) (λ _. within_own (statement_of a.value) scope >>= λ x. within_own (statement_of b.value) scope >>= λ y. give (works.task place (works.when_else p.made x y))) p.known w t p.next in
    let q = between (within_own (statement_of a.value) scope) (λ x. within_own (statement_of b.value) scope >>= λ y. give (works.task place (works.when_else p.made x y))) p.known w t r.1 in
    let o = own_typed (statement_of a.value) scope p.known q.made q.known q.first in
    let n = as_went (λ (x : Work) (u : State). Goes (within_own (statement_of b.value) scope >>= λ y. give (works.task place (works.when_else p.made x y))) u w t) (sym o.same) q.next in
    let z = between (within_own (statement_of b.value) scope) (λ y. give (works.task place (works.when_else p.made o.made y))) (having_closed (length p.known.names) o.known) w t n in
    let k = own_typed (statement_of b.value) scope (having_closed (length p.known.names) o.known) z.made z.known z.first in
    typed_as z.next.is (as_went (λ y u. StatementIsTyped scope s (statements.If place test a (Some b)) (works.task place (works.when_else p.made o.made y)) u) k.same
    (rules.an_if_else (complete test.value _ _ _ _ p.first) r.0 (f _ _ _ _ o.inside) (g _ _ _ _ k.inside))))

while_typed : (place : Place) (test : Box Expression Global) (a : Box Statement Global) → OfStatement a.value → OfStatement (statements.While place test a)
unfolding while_form
while_typed place test a f = by_form _ _ (does.does_while place test a) (λ scope s w t h.
    let p = between _ _ s w t h in
    let r = passed place (λ _. truth_fault p.made.kind) (λ _. within_own (statement_of a.value) scope >>= λ x. give (works.task place (works.loop p.made x))) p.known w t p.next in
    let q = between (within_own (statement_of a.value) scope) (λ x. give (works.task place (works.loop p.made x))) p.known w t r.1 in
    let o = own_typed (statement_of a.value) scope p.known q.made q.known q.first in
    typed_as q.next.is (as_went (λ y u. StatementIsTyped scope s (statements.While place test a) (works.task place (works.loop p.made y)) u) o.same (rules.a_while (complete test.value _ _ _ _ p.first) r.0 (f _ _ _ _ o.inside))))

counter_typed : (scope : Scope) (s : State) (x : Option ForStart) (c : Option Counted) (t : State) → Goes (counter_form x scope) s c t → CounterIsTyped scope s x c t
unfolding counter_form
counter_typed scope s None c t h = as_went (λ y u. CounterIsTyped scope s None y u) h.is rules.no_counter
counter_typed scope s (Some x) c t h =
    let p = between (judge x.value scope) (λ e. λ s. (declare x.name.text kind.Int >>= λ _. give (Some (record { slot = slot_of scope (length s.names); start = e }))) s) s c t h in
    as_went (λ y u. CounterIsTyped scope s (Some x) y u) p.next.is (rules.a_counter (complete x.value _ _ _ _ p.first))

step_typed : (place : Place) (holds : Bool) (scope : Scope) (s : State) (x : Option Simple) (y : Option Deed) (t : State) → Goes (step_part place holds x scope) s y t → StepIsTyped place holds scope s x y t
unfolding step_part
step_typed place holds scope s None y t h = as_went (λ z u. StepIsTyped place holds scope s None z u) h.is rules.no_step
step_typed place holds scope s (Some x) y t h =
    let p = between (simple_form x (record { at = Some place; holds = holds }) scope) (λ a. give (Some a.deed)) s y t h in
    as_went (λ z u. StepIsTyped place holds scope s (Some x) z u) p.next.is (rules.a_for_step (simple_typed _ _ _ _ _ _ p.first))

head_typed : (place : Place) (scope : Scope) (s : State) (h : ForHead) (x : Headed) (t : State) → Goes (head_form place h scope) s x t → HeadIsTyped place scope s h x t
unfolding head_form
head_typed place scope s h x t g =
    let a = between _ _ s x t g in
    let b = between _ _ _ x t a.next in
    let k = between _ _ _ x t b.next in
    let r = passed place (λ _. wrong_unless (counter_fits a.made && test_fits b.made)) (λ _. give (record { counter = a.made; test = b.made; step = k.made })) k.known x t k.next in
    as_went (λ y u. HeadIsTyped place scope s h y u) r.1.is (rules.a_head (counter_typed _ _ _ _ _ a.first) (optional_typed _ _ _ _ _ b.first) (step_typed _ _ _ _ _ _ _ k.first) r.0)

for_typed : (place : Place) (h : Box ForHead Global) (a : Box Statement Global) → OfStatement a.value → OfStatement (statements.For place h a)
unfolding for_form for_within
for_typed place h a f = by_form _ _ (does.does_for place h a) (λ scope s w t g.
    let i = own_typed (for_within place h.value (statement_of a.value)) scope s w t g in
    let p = between _ _ s i.made i.known i.inside in
    let q = between _ _ p.known i.made i.known p.next in
    let o = own_typed (statement_of a.value) (opened scope (length s.names)) p.known q.made q.known q.first in
    typed_as i.same (as_went (λ y u. StatementIsTyped scope s (statements.For place h a) y (having_closed (length s.names) u)) q.next.is
    (as_went (λ y u. StatementIsTyped scope s (statements.For place h a) (works.task place (works.counting p.made.counter p.made.test p.made.step y)) (having_closed (length s.names) u)) o.same
    (rules.a_for (head_typed _ _ _ _ _ _ p.first) (f _ _ _ _ o.inside)))))

chosen_typed : (at scope : Scope) (s : State) (g : Generators) (x : Chosen) (t : State) → Goes (chosen_form (judge_generators g) at scope) s x t → ChosenIsTyped at scope s g x t
unfolding chosen_form
chosen_typed at scope s g x t h =
    let p = between (generators_form (map judge_generator (generators_in g)) scope) (λ gs. condition_form (option_map (λ c. judge c.value) (condition_in g)) at >>= λ c. give (record { generators = gs; condition = c })) s x t (goes_as (ap (λ z. chosen_form z at scope) (generating_is g)) h) in
    let q = between (condition_form (option_map (λ c. judge c.value) (condition_in g)) at) (λ c. give (record { generators = p.made; condition = c })) p.known x t p.next in
    as_went (λ y u. ChosenIsTyped at scope s g y u) q.next.is (rules.chosen ((generators_complete g).all _ _ _ _ _ p.first) ((generators_complete g).only _ _ _ _ q.first))

for_all_typed : (place : Place) (g : Box Generators Global) (a : Box Statement Global) → OfStatement a.value → OfStatement (statements.ForAll place g a)
unfolding for_all_form for_all_within
for_all_typed place g a f = by_form _ _ (does.does_for_all place g a) (λ scope s w t h.
    let i = own_typed (for_all_within place (judge_generators g.value) (statement_of a.value)) scope s w t h in
    let p = between _ _ s i.made i.known i.inside in
    let r = passed place (λ _. condition_fault p.made.condition) (λ _. within_own (statement_of a.value) (opened scope (length s.names)) >>= λ x. give (works.task place (works.for_all p.made.generators p.made.condition x))) p.known i.made i.known p.next in
    let q = between (within_own (statement_of a.value) (opened scope (length s.names))) (λ x. give (works.task place (works.for_all p.made.generators p.made.condition x))) p.known i.made i.known r.1 in
    let o = own_typed (statement_of a.value) (opened scope (length s.names)) p.known q.made q.known q.first in
    typed_as i.same (as_went (λ y u. StatementIsTyped scope s (statements.ForAll place g a) y (having_closed (length s.names) u)) q.next.is
    (as_went (λ y u. StatementIsTyped scope s (statements.ForAll place g a) (works.task place (works.for_all p.made.generators p.made.condition y)) (having_closed (length s.names) u)) o.same
    (rules.a_for_all (chosen_typed _ _ _ _ _ _ p.first) r.0 (f _ _ _ _ o.inside)))))

select_typed : (place : Place) (g : Box Generators Global) (a : Box Statement Global) → OfStatement a.value → OfStatement (statements.Select place g a)
unfolding select_form select_within
select_typed place g a f = by_form _ _ (does.does_select place g a) (λ scope s w t h.
    let i = own_typed (select_within place (judge_generators g.value) (statement_of a.value)) scope s w t h in
    let p = between _ _ s i.made i.known i.inside in
    let r = passed place (λ _. condition_fault p.made.condition) (λ _. within_own (statement_of a.value) (opened scope (length s.names)) >>= λ x. give (works.task place (works.selecting p.made.generators p.made.condition x))) p.known i.made i.known p.next in
    let q = between (within_own (statement_of a.value) (opened scope (length s.names))) (λ x. give (works.task place (works.selecting p.made.generators p.made.condition x))) p.known i.made i.known r.1 in
    let o = own_typed (statement_of a.value) (opened scope (length s.names)) p.known q.made q.known q.first in
    typed_as i.same (as_went (λ y u. StatementIsTyped scope s (statements.Select place g a) y (having_closed (length s.names) u)) q.next.is
    (as_went (λ y u. StatementIsTyped scope s (statements.Select place g a) (works.task place (works.selecting p.made.generators p.made.condition y)) (having_closed (length s.names) u)) o.same
    (rules.a_select (chosen_typed _ _ _ _ _ _ p.first) r.0 (f _ _ _ _ o.inside)))))

select_by_typed : (place : Place) (x : Extreme) (g : Box Generators Global) (key : Box Expression Global) (a : Box Statement Global) → OfStatement a.value → OfStatement (statements.SelectBy place x g key a)
unfolding select_by_form select_by_within
select_by_typed place x g key a f = by_form _ _ (does.does_select_by place x g key a) (λ scope s w t h.
    let i = own_typed (select_by_within place x (judge_generators g.value) (judge key.value) (statement_of a.value)) scope s w t h in
    let p = between _ _ s i.made i.known i.inside in
    let k = between _ _ p.known i.made i.known p.next in
    let r = passed place (λ _. key_fault p.made.condition k.made.kind) (λ _. within_own (statement_of a.value) (opened scope (length s.names)) >>= λ y. give (works.task place (works.selecting_by x p.made.generators p.made.condition k.made y))) k.known i.made i.known k.next in
    let q = between (within_own (statement_of a.value) (opened scope (length s.names))) (λ y. give (works.task place (works.selecting_by x p.made.generators p.made.condition k.made y))) k.known i.made i.known r.1 in
    let o = own_typed (statement_of a.value) (opened scope (length s.names)) k.known q.made q.known q.first in
    typed_as i.same (as_went (λ y u. StatementIsTyped scope s (statements.SelectBy place x g key a) y (having_closed (length s.names) u)) q.next.is
    (as_went (λ y u. StatementIsTyped scope s (statements.SelectBy place x g key a) (works.task place (works.selecting_by x p.made.generators p.made.condition k.made y)) (having_closed (length s.names) u)) o.same
    (rules.a_select_by (chosen_typed _ _ _ _ _ _ p.first) (complete key.value _ _ _ _ k.first) r.0 (f _ _ _ _ o.inside)))))

found_written : (place : Place) (k : Kind) (fit : Bool) (n : Name) (scope : Scope) (s : State) (slot : Slot) (t : State) (o : Option Found) → look n.text s.names ≡ o → written_found place k fit scope o s ≡ Went slot t → NameIsWritten k fit n scope s slot t
found_written place k fit n scope s slot t None found h = absurd (cc)
found_written place k fit n scope s slot t (Some f) found h =
    let r = passed place (λ _. wrong_unless (is_same f.kind k && fit)) (λ _. act_on place scope through_doing (slot_of scope f.index ∷ []) >>= λ _. give (slot_of scope f.index)) s slot t (record { is = h }) in
    let a = act_passed place scope through_doing (slot_of scope f.index ∷ []) (λ _. give (slot_of scope f.index)) s slot t r.1 in
    as_went (λ y u. NameIsWritten k fit n scope s y u) a.next (rules.a_written_name found r.0 a.free)

written_typed : (place : Place) (k : Kind) (fit : Bool) (n : Name) (scope : Scope) (s : State) (slot : Slot) (t : State) → Goes (written_name place k fit n scope) s slot t → NameIsWritten k fit n scope s slot t
unfolding written_name
written_typed place k fit n scope s slot t h = found_written place k fit n scope s slot t (look n.text s.names) refl h.is

neighbor_typed : (place : Place) (key : Box Expression Global) (n : Name) (a : Box Statement Global) → OfStatement a.value → OfStatement (statements.Neighbor place key n a)
unfolding neighbor_form
neighbor_typed place key n a f = by_form _ _ (does.does_neighbor place key n a) (λ scope s w t h.
    let p = between _ _ s w t h in
    let g = between (written_name place kind.Selector (is_number p.made.kind) n scope) (λ slot. within_own (statement_of a.value) (apart scope) >>= λ b. give (works.task place (works.submitting p.made slot b))) p.known w t p.next in
    let q = between (within_own (statement_of a.value) (apart scope)) (λ b. give (works.task place (works.submitting p.made g.made b))) g.known w t g.next in
    let o = own_typed (statement_of a.value) (apart scope) g.known q.made q.known q.first in
    typed_as q.next.is (as_went (λ y u. StatementIsTyped scope s (statements.Neighbor place key n a) (works.task place (works.submitting p.made g.made y)) u) o.same
    (rules.a_neighbor (complete key.value _ _ _ _ p.first) (written_typed place _ _ _ _ _ _ _ g.first) (f _ _ _ _ o.inside))))

with_typed : (place : Place) (m : WithMode) (n : Name) (b : Box Block Global) → OfBlock b.value → OfStatement (statements.With place m n b)
unfolding with_form
with_typed place m n b f = by_form _ _ (does.does_with place m n b) (λ scope s w t h.
    let g = between _ _ s w t h in
    let q = between (within_own (block_of b.value) (apart scope)) (λ b. give (works.task place (works.at_once m g.made b))) g.known w t g.next in
    let o = own_typed (block_of b.value) (apart scope) g.known q.made q.known q.first in
    typed_as q.next.is (as_went (λ y u. StatementIsTyped scope s (statements.With place m n b) (works.task place (works.at_once m g.made y)) u) o.same
    (rules.a_with (written_typed place _ _ _ _ _ _ _ g.first) (f _ _ _ _ o.inside))))

events_typed : (scope : Scope) (s : State) (x : Option Events) (y : Option EventSlots) (t : State) → Goes (events_form x scope) s y t → EventsAreDeclared scope s x y t
unfolding events_form
events_typed scope s None y t h = as_went (λ z u. EventsAreDeclared scope s None z u) h.is rules.no_events
events_typed scope s (Some x) y t h = as_went (λ z u. EventsAreDeclared scope s (Some x) z u) h.is rules.some_events

whenever_typed : (place : Place) (o : Box Watched Global) (a : Box Statement Global) → OfStatement a.value → OfStatement (statements.Whenever place o a)
unfolding whenever_form watching_within watched_form
whenever_typed place o a f = by_form _ _ (does.does_whenever place o a) (λ scope s w t h.
    let p = between (watched_form place o.value scope) (λ v. within_own (watching_within place v o.value.names (statement_of a.value)) (apart scope)) s w t h in
    let e = between (judge o.value.variable scope) (λ v. ruled place (watch_fault o.value v.kind) >>= λ _. act_on place scope through_doing (roots_of (whole v)) >>= λ _. give v) s p.made p.known p.first in
    let r = passed place (λ _. watch_fault o.value e.made.kind) (λ _. act_on place scope through_doing (roots_of (whole e.made)) >>= λ _. give e.made) e.known p.made p.known e.next in
    let z = act_passed place scope through_doing (roots_of (whole e.made)) (λ _. give e.made) e.known p.made p.known r.1 in
    let n = as_went (λ (v : Seen) (u : State). Goes (within_own (watching_within place v o.value.names (statement_of a.value)) (apart scope)) u w t) (sym z.next) p.next in
    let i = own_typed (watching_within place e.made o.value.names (statement_of a.value)) (apart scope) (having_done through_doing (roots_of (whole e.made)) e.known) w t n in
    let g = between _ _ _ i.made i.known i.inside in
    let q = between _ _ g.known i.made i.known g.next in
    let k = own_typed (statement_of a.value) (opened (apart scope) (length e.known.names)) g.known q.made q.known q.first in
    typed_as i.same (as_went (λ y u. StatementIsTyped scope s (statements.Whenever place o a) y (having_closed (length e.known.names) u)) q.next.is
    (as_went (λ y u. StatementIsTyped scope s (statements.Whenever place o a) (works.task place (works.watching e.made g.made y)) (having_closed (length e.known.names) u)) k.same
    (rules.a_whenever (complete o.value.variable _ _ _ _ e.first) r.0 z.free (events_typed _ _ _ _ _ g.first) (f _ _ _ _ k.inside)))))

parall_typed : (place : Place) (n : Name) (domain : Box Expression Global) (a : Box Statement Global) → OfStatement a.value → OfStatement (statements.Parall place n domain a)
unfolding parall_form parall_within shared_form
parall_typed place n domain a f = by_form _ _ (does.does_parall place n domain a) (λ scope s w t h.
    let p = between (shared_form place (judge domain.value) scope) (λ d. within_own (parall_within place n d (statement_of a.value)) scope) s w t h in
    let e = between (judge domain.value scope) (λ d. ruled place (domain_fault d.kind) >>= λ _. act_on place scope parall_doing [] >>= λ _. give d) s p.made p.known p.first in
    let r = passed place (λ _. domain_fault e.made.kind) (λ _. act_on place scope parall_doing [] >>= λ _. give e.made) e.known p.made p.known e.next in
    let z = act_passed place scope parall_doing [] (λ _. give e.made) e.known p.made p.known r.1 in
    let v = as_went (λ (d : Seen) (u : State). Goes (within_own (parall_within place n d (statement_of a.value)) scope) u w t) (sym z.next) p.next in
    let i = own_typed (parall_within place n e.made (statement_of a.value)) scope (having_done parall_doing [] e.known) w t v in
    let q = between (within_own (statement_of a.value) (in_parall (length e.known.names) (opened scope (length e.known.names)))) (λ b. give (works.task place (works.in_threads (slot_of (opened scope (length e.known.names)) (length e.known.names)) e.made b)))
    (having_declared_as n.text kind.Int [] (having_done parall_doing [] e.known)) i.made i.known (record { is = i.inside.is }) in
    let k = own_typed (statement_of a.value) (in_parall (length e.known.names) (opened scope (length e.known.names))) (having_declared_as n.text kind.Int [] (having_done parall_doing [] e.known)) q.made q.known q.first in
    typed_as i.same (as_went (λ y u. StatementIsTyped scope s (statements.Parall place n domain a) y (having_closed (length e.known.names) u)) q.next.is
    (as_went (λ y u. StatementIsTyped scope s (statements.Parall place n domain a) (works.task place (works.in_threads (slot_of (opened scope (length e.known.names)) (length e.known.names)) e.made y)) (having_closed (length e.known.names) u)) k.same
    (rules.a_parall (complete domain.value _ _ _ _ e.first) r.0 z.free (f _ _ _ _ k.inside)))))

-- blocks

no_statements_typed : OfStatements []
no_statements_typed scope ws s all t h = as_went (λ y u. StatementsAreTyped scope ws s [] y u) h.is rules.no_statements

more_statements_typed : (x : Statement) (xs : List Statement) → OfStatement x → OfStatements xs → OfStatements (x ∷ xs)
unfolding task_form
more_statements_typed x xs f g scope ws s all t h =
    let p = between (task_form scope ws (statement_of x)) (each (task_form scope) (map statement_of xs)) s all t h in
    let q = between (statement_of x scope) (λ w. give (ws ++ w ∷ [])) s p.made p.known p.first in
    rules.a_statement (f _ _ _ _ q.first) (as_went (λ y u. StatementsAreTyped scope y u xs all t) (sym q.next.is) (g scope p.made p.known all t p.next))

tasks_typed : (b : Block) → OfStatements (out-Block b).statements.items → OfBlock b
unfolding opened_tasks tasks_form
tasks_typed b f scope s w t h =
    let p = between (each (task_form scope) (map statement_of (out-Block b).statements.items) []) (λ ws. give (works.task (out-Block b).place (works.block (row_of ws)))) s w t (goes_as (ap (λ (d : Does). d scope) (does.does_tasks b)) h) in
    as_went (λ y u. BlockIsTyped scope s b y u) p.next.is (rules.statements_of (f _ _ _ _ _ p.first))

-- all statements

abbrev S : Type 0
S = (x : Statement) × OfStatement x

abbrev B : Type 0
B = (b : Block) × OfBlock b

inside_statements : (items : List S) → OfStatements (map (λ a. a.0) items)
inside_statements [] = no_statements_typed
inside_statements (a ∷ items) = more_statements_typed a.0 (map (λ a. a.0) items) a.1 (inside_statements items)

abbrev alone_S : layers.Statement-F S B → layers.Statement-F Statement Block
alone_S = map-Statement S B Statement Block (λ a. a.0) (λ a. a.0)

abbrev alone_B : layers.Block-F S B → layers.Block-F Statement Block
alone_B = map-Block S B Statement Block (λ a. a.0) (λ a. a.0)

in_statement : (y : layers.Statement-F S B) → OfStatement (roll-Statement (alone_S y))
in_statement (layers.Block b) = subst OfStatement (sym (statements.rolls-Block _)) (block_typed _ b.1)
in_statement (layers.Empty p) = subst OfStatement (sym (statements.rolls-Empty p)) (empty_typed p)
in_statement (layers.Declaration d) = subst OfStatement (sym (statements.rolls-Declaration d)) (declaration_statement_typed d)
in_statement (layers.Simple x) = subst OfStatement (sym (statements.rolls-Simple x)) (simple_statement_typed x)
in_statement (layers.Return p e) = subst OfStatement (sym (statements.rolls-Return p e)) (return_typed p e)
in_statement (layers.If p t a None) = subst OfStatement (sym (statements.rolls-If p t _ None)) (if_typed p t _ a.value.1)
in_statement (layers.If p t a (Some b)) = subst OfStatement (sym (statements.rolls-If p t _ (Some _))) (if_else_typed p t _ _ a.value.1 b.value.1)
in_statement (layers.While p t a) = subst OfStatement (sym (statements.rolls-While p t _)) (while_typed p t _ a.value.1)
in_statement (layers.For p h a) = subst OfStatement (sym (statements.rolls-For p h _)) (for_typed p h _ a.value.1)
in_statement (layers.ForAll p g a) = subst OfStatement (sym (statements.rolls-ForAll p g _)) (for_all_typed p g _ a.value.1)
in_statement (layers.Select p g a) = subst OfStatement (sym (statements.rolls-Select p g _)) (select_typed p g _ a.value.1)
in_statement (layers.SelectBy p x g k a) = subst OfStatement (sym (statements.rolls-SelectBy p x g k _)) (select_by_typed p x g k _ a.value.1)
in_statement (layers.Neighbor p k n a) = subst OfStatement (sym (statements.rolls-Neighbor p k n _)) (neighbor_typed p k n _ a.value.1)
in_statement (layers.Whenever p o a) = subst OfStatement (sym (statements.rolls-Whenever p o _)) (whenever_typed p o _ a.value.1)
in_statement (layers.With p m n b) = subst OfStatement (sym (statements.rolls-With p m n _)) (with_typed p m n _ b.value.1)
in_statement (layers.Parall p n d a) = subst OfStatement (sym (statements.rolls-Parall p n d _)) (parall_typed p n d _ a.value.1)

in_block : (y : layers.Block-F S B) → OfBlock (roll-Block (alone_B y))
in_block y = tasks_typed (roll-Block (alone_B y)) (subst (λ (z : layers.Block-F Statement Block). OfStatements z.statements.items) (sym (out-roll-Block (alone_B y))) (inside_statements y.statements.items))

pub statement_complete : (x : Statement) → OfStatement x
statement_complete = ind-Statement OfStatement OfBlock
    (λ x y is. subst (λ z. OfStatement (roll-Statement z)) is (in_statement y)) (λ x y is. subst (λ z. OfBlock (roll-Block z)) is (in_block y))

statements_complete : (xs : List Statement) → OfStatements xs
statements_complete [] = no_statements_typed
statements_complete (x ∷ xs) = more_statements_typed x xs (statement_complete x) (statements_complete xs)

pub block_complete : (b : Block) → OfBlock b
block_complete b = tasks_typed b (statements_complete (out-Block b).statements.items)
