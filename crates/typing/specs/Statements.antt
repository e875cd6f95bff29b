-- Typing rules: what makes each statement well typed. The expressions in its head are typed first, then its own rule
-- holds, and then the statements in it are typed, each in a scope of its own.
use Rattle.std.specs.Prelude.{◌≡◌, suc, Bool, true, ◌&&◌, List, [], ◌∷◌, ◌++◌, length, Option, Some, None}
use Rattle.std.specs.declared.boxed.Box.{Box}
use Rattle.std.specs.declared.alloc.Global.{Global}
use Rattle.cbl_base.specs.declared.place.Place.{Place}
use Rattle.comet_syntax.specs.declared.tree.expressions.Name.{Name}
use Rattle.comet_syntax.specs.declared.tree.expressions.Extreme.{Extreme}
use Rattle.comet_syntax.specs.declared.tree.expressions.Expression.{Expression}
use Rattle.comet_syntax.specs.declared.tree.expressions.Generators.{Generators}
use Rattle.comet_syntax.specs.declared.tree.declarations.Declaration.{Declaration}
use Rattle.comet_syntax.specs.declared.tree.statements.Simple.{Simple}
use Rattle.comet_syntax.specs.declared.tree.statements.ForStart.{ForStart}
use Rattle.comet_syntax.specs.declared.tree.statements.ForHead.{ForHead}
use Rattle.comet_syntax.specs.declared.tree.statements.Events.{Events}
use Rattle.comet_syntax.specs.declared.tree.statements.Watched.{Watched}
use Rattle.comet_syntax.specs.declared.tree.statements.WithMode.{WithMode}
use Rattle.comet_syntax.specs.declared.tree.statements.Statement.{Statement}
use Rattle.comet_syntax.specs.declared.tree.statements.Statement.TheVariants as statements
use Rattle.comet_syntax.specs.declared.tree.statements.Block.{Block, out-Block}
use Rattle.checked_tree.specs.declared.expressions.Slot.{Slot}
use Rattle.checked_tree.specs.declared.kind.Kind.{Kind}
use Rattle.checked_tree.specs.declared.kind.Kind.TheVariants as kind
use Rattle.checked_tree.specs.declared.statements.EventSlots.{EventSlots}
use Rattle.checked_tree.specs.Shape.{Shape, Seen, whole}
use Rattle.checked_tree.specs.Actions.{Deed, nothing, returning}
use Rattle.checked_tree.specs.Tasks as works
use Rattle.checked_tree.specs.Tasks.{Work, Counted, row_of}
use Rattle.type_rules.specs.declared.context.Context.TheVariants as context
use Rattle.type_rules.specs.Kinds.{is_number, is_same}
use Rattle.type_scopes.specs.declared.names.Found.{Found}
use Rattle.type_scopes.specs.declared.scope.Scope.{Scope}
use Rattle.type_scopes.specs.Names.{look, slot_of, opened, within}
use Rattle.type_scopes.specs.State.{State}
use Rattle.type_calls.specs.Doing.{doing_fault}
use Rattle.type_calls.specs.Roots.{roots_of}
use Rattle.type_declarations.specs.Parts.{wrong_unless}
use Rattle.type_declarations.specs.Declarations.{declaration_place}
use Rattle.type_simples.specs.Simples.{Acted, through_doing, return_fault}
use Rattle.type_heads.specs.Heads.{alone, truth_fault, counter_fits, test_fits, Headed, Chosen, condition_fault, key_fault, apart, watch_fault, parall_doing, domain_fault, in_parall}
use Rattle.typing.specs.Calls.{having_done}
use Rattle.typing.specs.Rules.{IsTyped, GeneratorsAreTyped, ConditionIsTyped, generators_in, condition_in, having_closed}
use Rattle.typing.specs.Declarations.{OptionalIsTyped, DeclarationIsTyped, having_declared_as}
use Rattle.typing.specs.Simples.{SimpleIsTyped}

-- the counter of a `for`, which is visible behind its first value
pub data CounterIsTyped (scope : Scope) (s : State) : Option ForStart → Option Counted → State → Type 0 where
  no_counter : CounterIsTyped scope s None None s
  a_counter : {x : ForStart} {e : Seen} {t : State}
      → IsTyped scope s x.value e t
      → CounterIsTyped scope s (Some x) (Some (record { slot = slot_of scope (length t.names); start = e })) (having_declared_as x.name.text kind.Int [] t)

-- the last part of a `for`, whose rule stands at the `for`
pub data StepIsTyped (place : Place) (holds : Bool) (scope : Scope) (s : State) : Option Simple → Option Deed → State → Type 0 where
  no_step : StepIsTyped place holds scope s None None s
  a_for_step : {x : Simple} {y : Acted} {t : State}
      → SimpleIsTyped scope s (record { at = Some place; holds = holds }) x y t
      → StepIsTyped place holds scope s (Some x) (Some y.deed) t

-- the three parts of a `for`
pub data HeadIsTyped (place : Place) (scope : Scope) (s : State) (h : ForHead) : Headed → State → Type 0 where
  a_head : {u v t : State} {c : Option Counted} {e : Option Seen} {x : Option Deed}
      → CounterIsTyped scope s h.start c u
      → OptionalIsTyped scope u h.test e v
      → StepIsTyped place (counter_fits c && test_fits e) scope v h.step x t
      → wrong_unless (counter_fits c && test_fits e) ≡ None
      → HeadIsTyped place scope s h (record { counter = c; test = e; step = x }) t

-- generators and their condition, which stands in a scope of its own context
pub data ChosenIsTyped (at scope : Scope) (s : State) (g : Generators) : Chosen → State → Type 0 where
  chosen : {u t : State} {gs : List Shape} {c : Option Seen}
      → GeneratorsAreTyped scope [] s (generators_in g) gs u
      → ConditionIsTyped at u (condition_in g) c t
      → ChosenIsTyped at scope s g (record { generators = gs; condition = c }) t

-- a name of this kind that the statement writes
pub data NameIsWritten (k : Kind) (fit : Bool) (n : Name) (scope : Scope) (s : State) : Slot → State → Type 0 where
  a_written_name : {f : Found}
      → look n.text s.names ≡ Some f
      → wrong_unless (is_same f.kind k && fit) ≡ None
      → doing_fault scope through_doing (slot_of scope f.index ∷ []) ≡ None
      → NameIsWritten k fit n scope s (slot_of scope f.index) (having_done through_doing (slot_of scope f.index ∷ []) s)

-- the names of the old and the new value in a `whenever`
pub data EventsAreDeclared (scope : Scope) (s : State) : Option Events → Option EventSlots → State → Type 0 where
  no_events : EventsAreDeclared scope s None None s
  some_events : {x : Events}
      → EventsAreDeclared scope s (Some x) (Some (record { old = slot_of scope (length s.names); new = slot_of scope (suc (length s.names)) }))
      (having_declared_as x.new.text kind.Int [] (having_declared_as x.old.text kind.Int [] s))

mutual
  -- a statement
  pub data StatementIsTyped : Scope → State → Statement → Work → State → Type 0 where
    a_block : {scope : Scope} {s t : State} {b : Block} {w : Work}
        → BlockIsTyped (opened scope (length s.names)) s b w t
        → StatementIsTyped scope s (statements.Block b) w (having_closed (length s.names) t)
    an_empty : {scope : Scope} {s : State} {place : Place}
        → StatementIsTyped scope s (statements.Empty place) (works.task place (works.action nothing)) s
    a_declaration : {scope : Scope} {s t : State} {d : Box Declaration Global} {x : Deed}
        → DeclarationIsTyped scope s d.value x t
        → StatementIsTyped scope s (statements.Declaration d) (works.task (declaration_place d.value) (works.action x)) t
    a_simple : {scope : Scope} {s t : State} {x : Simple} {y : Acted}
        → SimpleIsTyped scope s alone x y t
        → StatementIsTyped scope s (statements.Simple x) (works.task y.place (works.action y.deed)) t
    a_return : {scope : Scope} {s t : State} {place : Place} (e : Option (Box Expression Global)) {x : Option Seen}
        → ConditionIsTyped scope s e x t
        → return_fault scope.function scope.no_return x ≡ None
        → StatementIsTyped scope s (statements.Return place e) (works.task place (works.action (returning x))) t
    an_if : {scope : Scope} {s u t : State} {place : Place} {test : Box Expression Global} {a : Box Statement Global} {e : Seen} {w : Work}
        → IsTyped scope s test.value e u
        → truth_fault e.kind ≡ None
        → StatementIsTyped (opened scope (length u.names)) u a.value w t
        → StatementIsTyped scope s (statements.If place test a None) (works.task place (works.when e w)) (having_closed (length u.names) t)
    an_if_else : {scope : Scope} {s u v t : State} {place : Place} {test : Box Expression Global} {a b : Box Statement Global} {e : Seen} {w x : Work}
        → IsTyped scope s test.value e u
        → truth_fault e.kind ≡ None
        → StatementIsTyped (opened scope (length u.names)) u a.value w v
        → StatementIsTyped (opened scope (length (having_closed (length u.names) v).names)) (having_closed (length u.names) v) b.value x t
        → StatementIsTyped scope s (statements.If place test a (Some b)) (works.task place (works.when_else e w x)) (having_closed (length (having_closed (length u.names) v).names) t)
    a_while : {scope : Scope} {s u t : State} {place : Place} {test : Box Expression Global} {a : Box Statement Global} {e : Seen} {w : Work}
        → IsTyped scope s test.value e u
        → truth_fault e.kind ≡ None
        → StatementIsTyped (opened scope (length u.names)) u a.value w t
        → StatementIsTyped scope s (statements.While place test a) (works.task place (works.loop e w)) (having_closed (length u.names) t)
    a_for : {scope : Scope} {s u t : State} {place : Place} {h : Box ForHead Global} {a : Box Statement Global} {x : Headed} {w : Work}
        → HeadIsTyped place (opened scope (length s.names)) s h.value x u
        → StatementIsTyped (opened (opened scope (length s.names)) (length u.names)) u a.value w t
        → StatementIsTyped scope s (statements.For place h a) (works.task place (works.counting x.counter x.test x.step w)) (having_closed (length s.names) (having_closed (length u.names) t))
    -- its condition may draw
    a_for_all : {scope : Scope} {s u t : State} {place : Place} {g : Box Generators Global} {a : Box Statement Global} {x : Chosen} {w : Work}
        → ChosenIsTyped (opened scope (length s.names)) (opened scope (length s.names)) s g.value x u
        → condition_fault x.condition ≡ None
        → StatementIsTyped (opened (opened scope (length s.names)) (length u.names)) u a.value w t
        → StatementIsTyped scope s (statements.ForAll place g a) (works.task place (works.for_all x.generators x.condition w)) (having_closed (length s.names) (having_closed (length u.names) t))
    a_select : {scope : Scope} {s u t : State} {place : Place} {g : Box Generators Global} {a : Box Statement Global} {x : Chosen} {w : Work}
        → ChosenIsTyped (within context.Pure (opened scope (length s.names))) (opened scope (length s.names)) s g.value x u
        → condition_fault x.condition ≡ None
        → StatementIsTyped (opened (opened scope (length s.names)) (length u.names)) u a.value w t
        → StatementIsTyped scope s (statements.Select place g a) (works.task place (works.selecting x.generators x.condition w)) (having_closed (length s.names) (having_closed (length u.names) t))
    a_select_by : {scope : Scope} {s u v t : State} {place : Place} {o : Extreme} {g : Box Generators Global} {key : Box Expression Global} {a : Box Statement Global} {x : Chosen} {k : Seen} {w : Work}
        → ChosenIsTyped (within context.Pure (opened scope (length s.names))) (opened scope (length s.names)) s g.value x u
        → IsTyped (within context.Pure (opened scope (length s.names))) u key.value k v
        → key_fault x.condition k.kind ≡ None
        → StatementIsTyped (opened (opened scope (length s.names)) (length v.names)) v a.value w t
        → StatementIsTyped scope s (statements.SelectBy place o g key a) (works.task place (works.selecting_by o x.generators x.condition k w)) (having_closed (length s.names) (having_closed (length v.names) t))
    -- what runs later or apart doesn't return
    a_neighbor : {scope : Scope} {s u v t : State} {place : Place} {key : Box Expression Global} {n : Name} {a : Box Statement Global} {k : Seen} {slot : Slot} {w : Work}
        → IsTyped scope s key.value k u
        → NameIsWritten kind.Selector (is_number k.kind) n scope u slot v
        → StatementIsTyped (opened (apart scope) (length v.names)) v a.value w t
        → StatementIsTyped scope s (statements.Neighbor place key n a) (works.task place (works.submitting k slot w)) (having_closed (length v.names) t)
    a_whenever : {scope : Scope} {s u v t : State} {place : Place} {o : Box Watched Global} {a : Box Statement Global} {x : Seen} {slots : Option EventSlots} {w : Work}
        → IsTyped scope s o.value.variable x u
        → watch_fault o.value x.kind ≡ None
        → doing_fault scope through_doing (roots_of (whole x)) ≡ None
        → EventsAreDeclared (opened (apart scope) (length u.names)) (having_done through_doing (roots_of (whole x)) u) o.value.names slots v
        → StatementIsTyped (opened (opened (apart scope) (length u.names)) (length v.names)) v a.value w t
        → StatementIsTyped scope s (statements.Whenever place o a) (works.task place (works.watching x slots w)) (having_closed (length u.names) (having_closed (length v.names) t))
    a_with : {scope : Scope} {s u t : State} {place : Place} {mode : WithMode} {n : Name} {b : Box Block Global} {slot : Slot} {w : Work}
        → NameIsWritten kind.Solver true n scope s slot u
        → BlockIsTyped (opened (apart scope) (length u.names)) u b.value w t
        → StatementIsTyped scope s (statements.With place mode n b) (works.task place (works.at_once mode slot w)) (having_closed (length u.names) t)
    a_parall : {scope : Scope} {s u t : State} {place : Place} {n : Name} {domain : Box Expression Global} {a : Box Statement Global} {d : Seen} {w : Work}
        → IsTyped scope s domain.value d u
        → domain_fault d.kind ≡ None
        → doing_fault scope parall_doing [] ≡ None
        → StatementIsTyped (opened (in_parall (length u.names) (opened scope (length u.names))) (length (having_declared_as n.text kind.Int [] u).names)) (having_declared_as n.text kind.Int [] (having_done parall_doing [] u)) a.value w t
        → StatementIsTyped scope s (statements.Parall place n domain a) (works.task place (works.in_threads (slot_of (opened scope (length u.names)) (length u.names)) d w))
        (having_closed (length u.names) (having_closed (length (having_declared_as n.text kind.Int [] u).names) t))

  -- a block, in a scope that is open already
  pub data BlockIsTyped : Scope → State → Block → Work → State → Type 0 where
    statements_of : {scope : Scope} {s t : State} {b : Block} {ws : List Work}
        → StatementsAreTyped scope [] s (out-Block b).statements.items ws t
        → BlockIsTyped scope s b (works.task (out-Block b).place (works.block (row_of ws))) t

  -- statements behind those that are typed already
  pub data StatementsAreTyped : Scope → List Work → State → List Statement → List Work → State → Type 0 where
    no_statements : {scope : Scope} {ws : List Work} {s : State}
        → StatementsAreTyped scope ws s [] ws s
    a_statement : {scope : Scope} {ws all : List Work} {s u t : State} {x : Statement} {xs : List Statement} {w : Work}
        → StatementIsTyped scope s x w u
        → StatementsAreTyped scope (ws ++ w ∷ []) u xs all t
        → StatementsAreTyped scope ws s (x ∷ xs) all t
