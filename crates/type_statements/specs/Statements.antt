-- What statements are: their heads, then the statements in them. From the language.
use Rattle.std.specs.Prelude.{true, List, [], ◌∷◌, ◌++◌, length, Option, Some, None, option_map}
use Rattle.cbl_base.specs.declared.place.Place.{Place}
use Rattle.comet_syntax.specs.declared.tree.expressions.Name.{Name}
use Rattle.comet_syntax.specs.declared.tree.expressions.Extreme.{Extreme}
use Rattle.comet_syntax.specs.declared.tree.statements.ForHead.{ForHead}
use Rattle.comet_syntax.specs.declared.tree.statements.Events.{Events}
use Rattle.comet_syntax.specs.declared.tree.statements.Watched.{Watched}
use Rattle.comet_syntax.specs.declared.tree.statements.WithMode.{WithMode}
use Rattle.comet_syntax.specs.declared.tree.statements.Statement.{Statement}
use Rattle.comet_syntax.specs.declared.tree.statements.Statement.TheOpen as layers
use Rattle.comet_syntax.specs.declared.tree.statements.Statement.TheFolds.{fold-Statement}
use Rattle.comet_syntax.specs.declared.tree.statements.Block.{Block, fold-Block}
use Rattle.checked_tree.specs.declared.kind.Kind.TheVariants as kind
use Rattle.checked_tree.specs.Shape.{Seen}
use Rattle.checked_tree.specs.Actions.{nothing}
use Rattle.checked_tree.specs.Tasks as works
use Rattle.checked_tree.specs.Tasks.{Work, row_of}
use Rattle.type_rules.specs.declared.context.Context.TheVariants as context
use Rattle.type_rules.specs.Kinds.{is_number}
use Rattle.type_scopes.specs.declared.scope.Scope.{Scope}
use Rattle.type_scopes.specs.Names.{slot_of, opened, within, declare, closed}
use Rattle.type_scopes.specs.State.{Check, give, ◌>>=◌, each}
use Rattle.type_expressions.specs.Expressions.{Judge, judge, Generating, judge_generators}
use Rattle.type_declarations.specs.Parts.{ruled}
use Rattle.type_declarations.specs.Declarations.{declaration_form, declaration_place}
use Rattle.type_heads.specs.Heads.{Does, deed_form, acted_form, truth_fault, head_form, chosen_form, condition_fault, key_fault, written_name, apart, events_form, watched_form, in_parall, shared_form}
use Rattle.type_heads.specs.OfTypeSimples.Simples.{simple_form, return_form}

-- a statement inside another one, in a scope of its own
unfoldable pub within_own : Does → Does
within_own d scope = λ s. (d (opened scope (length s.names)) >>= closed (length s.names)) s

-- blocks

unfoldable pub task_form : Scope → List Work → Does → Check (List Work)
task_form scope ts d = d scope >>= λ t. give (ts ++ t ∷ [])

unfoldable pub tasks_form : List Does → Scope → Check (List Work)
tasks_form ds scope = each (task_form scope) ds []

unfoldable pub opened_tasks : Place → List Does → Does
opened_tasks place ds scope = tasks_form ds scope >>= λ ts. give (works.task place (works.block (row_of ts)))

-- `if` and `while`

unfoldable pub if_form : Place → Judge → Does → Does
if_form place test then_part scope =
    test scope >>= λ t.
    ruled place (truth_fault t.kind) >>= λ _.
    within_own then_part scope >>= λ a.
    give (works.task place (works.when t a))

unfoldable pub if_else_form : Place → Judge → Does → Does → Does
if_else_form place test then_part else_part scope =
    test scope >>= λ t.
    ruled place (truth_fault t.kind) >>= λ _.
    within_own then_part scope >>= λ a.
    within_own else_part scope >>= λ b.
    give (works.task place (works.when_else t a b))

unfoldable pub while_form : Place → Judge → Does → Does
while_form place test body scope =
    test scope >>= λ t.
    ruled place (truth_fault t.kind) >>= λ _.
    within_own body scope >>= λ b.
    give (works.task place (works.loop t b))

-- `for`

unfoldable pub for_within : Place → ForHead → Does → Does
for_within place h body scope =
    head_form place h scope >>= λ x.
    within_own body scope >>= λ b.
    give (works.task place (works.counting x.counter x.test x.step b))

unfoldable pub for_form : Place → ForHead → Does → Does
for_form place h body scope = within_own (for_within place h body) scope

-- `forall`: its condition may draw

unfoldable pub for_all_within : Place → Generating → Does → Does
for_all_within place g body scope =
    chosen_form g scope scope >>= λ x.
    ruled place (condition_fault x.condition) >>= λ _.
    within_own body scope >>= λ b.
    give (works.task place (works.for_all x.generators x.condition b))

unfoldable pub for_all_form : Place → Generating → Does → Does
for_all_form place g body scope = within_own (for_all_within place g body) scope

-- selectors: their conditions and keys are pure

unfoldable pub select_within : Place → Generating → Does → Does
select_within place g body scope =
    chosen_form g (within context.Pure scope) scope >>= λ x.
    ruled place (condition_fault x.condition) >>= λ _.
    within_own body scope >>= λ b.
    give (works.task place (works.selecting x.generators x.condition b))

unfoldable pub select_form : Place → Generating → Does → Does
select_form place g body scope = within_own (select_within place g body) scope

unfoldable pub select_by_within : Place → Extreme → Generating → Judge → Does → Does
select_by_within place extreme g key body scope =
    chosen_form g (within context.Pure scope) scope >>= λ x.
    key (within context.Pure scope) >>= λ k.
    ruled place (key_fault x.condition k.kind) >>= λ _.
    within_own body scope >>= λ b.
    give (works.task place (works.selecting_by extreme x.generators x.condition k b))

unfoldable pub select_by_form : Place → Extreme → Generating → Judge → Does → Does
select_by_form place extreme g key body scope = within_own (select_by_within place extreme g key body) scope

-- statements on a name that is no expression, which they write: its selector, its solver

unfoldable pub neighbor_form : Place → Judge → Name → Does → Does
neighbor_form place key selector body scope =
    key scope >>= λ k.
    written_name place kind.Selector (is_number k.kind) selector scope >>= λ slot.
    within_own body (apart scope) >>= λ b.
    give (works.task place (works.submitting k slot b))

unfoldable pub with_form : Place → WithMode → Name → Does → Does
with_form place mode solver body scope =
    written_name place kind.Solver true solver scope >>= λ slot.
    within_own body (apart scope) >>= λ b.
    give (works.task place (works.at_once mode slot b))

-- `whenever`: its names are new in a scope of their own

unfoldable pub watching_within : Place → Seen → Option Events → Does → Does
watching_within place v names body scope =
    events_form names scope >>= λ slots.
    within_own body scope >>= λ b.
    give (works.task place (works.watching v slots b))

unfoldable pub whenever_form : Place → Watched → Does → Does
whenever_form place w body scope =
    watched_form place w scope >>= λ v.
    within_own (watching_within place v w.names body) (apart scope)

-- `parall`: no `parall` holds it; what is declared in its body is not outside it

unfoldable pub parall_within : Place → Name → Seen → Does → Does
parall_within place n d body scope = λ s.
    (declare n.text kind.Int >>= λ _.
    within_own body (in_parall (length s.names) scope) >>= λ b.
    give (works.task place (works.in_threads (slot_of scope (length s.names)) d b))) s

unfoldable pub parall_form : Place → Name → Judge → Does → Does
parall_form place n domain body scope =
    shared_form place domain scope >>= λ d.
    within_own (parall_within place n d body) scope

-- all of them

abbrev pub statement_layer : layers.Statement-F Does Does → Does
statement_layer (layers.Block b) = within_own b
statement_layer (layers.Empty place) = deed_form place (λ scope. give nothing)
statement_layer (layers.Declaration d) = deed_form (declaration_place d.value) (declaration_form d.value)
statement_layer (layers.Simple x) = acted_form (simple_form x)
statement_layer (layers.Return place e) = deed_form place (return_form place (option_map (λ x. judge x.value) e))
statement_layer (layers.If place test a None) = if_form place (judge test.value) a.value
statement_layer (layers.If place test a (Some b)) = if_else_form place (judge test.value) a.value b.value
statement_layer (layers.While place test b) = while_form place (judge test.value) b.value
statement_layer (layers.For place h b) = for_form place h.value b.value
statement_layer (layers.ForAll place g b) = for_all_form place (judge_generators g.value) b.value
statement_layer (layers.Select place g b) = select_form place (judge_generators g.value) b.value
statement_layer (layers.SelectBy place x g k b) = select_by_form place x (judge_generators g.value) (judge k.value) b.value
statement_layer (layers.Neighbor place k n b) = neighbor_form place (judge k.value) n b.value
statement_layer (layers.Whenever place w b) = whenever_form place w.value b.value
statement_layer (layers.With place m n b) = with_form place m n b.value
statement_layer (layers.Parall place n d b) = parall_form place n (judge d.value) b.value

abbrev pub block_layer : layers.Block-F Does Does → Does
block_layer b = opened_tasks b.place b.statements.items

unfoldable pub statement_of : Statement → Does
statement_of = fold-Statement Does Does statement_layer block_layer

unfoldable pub block_of : Block → Does
block_of = fold-Block Does Does statement_layer block_layer
