-- What statements and functions are judged as, over the judgements of the parts in them.
use Rattle.std.specs.Prelude.{ℕ, Bool, true, false, ◌&&◌, ◌+◌, List, [], ◌∷◌, ◌++◌, length, map, Option, Some, None, if◌then◌else◌}
use Rattle.std.specs.Str.{bytes_eq}
use Rattle.cbl_base.specs.declared.place.Place.{Place}
use Rattle.comet_syntax.specs.declared.tree.expressions.Name.{Name}
use Rattle.comet_syntax.specs.declared.tree.statements.Events.{Events}
use Rattle.comet_syntax.specs.declared.tree.program.Parameter.{Parameter}
use Rattle.comet_syntax.specs.declared.tree.program.ResultKind.{ResultKind}
use Rattle.checked_tree.specs.declared.kind.Kind.{Kind}
use Rattle.checked_tree.specs.declared.kind.Kind.TheVariants as kind
use Rattle.checked_tree.specs.declared.stop.Cause.{Cause}
use Rattle.checked_tree.specs.declared.stop.Cause.TheVariants as cause
use Rattle.checked_tree.specs.Shape.{Seen, whole}
use Rattle.checked_tree.specs.Actions.{Deed}
use Rattle.checked_tree.specs.Tasks as works
use Rattle.checked_tree.specs.Tasks.{Work, Counted, Coded, Whole}
use Rattle.type_rules.specs.Kinds.{is_same}
use Rattle.type_scopes.specs.declared.effects.Signature.{Signature}
use Rattle.type_scopes.specs.declared.scope.Scope.{Scope}
use Rattle.type_scopes.specs.Effects.{no_effects}
use Rattle.type_scopes.specs.Functions.{learn}
use Rattle.type_scopes.specs.Names.{is_new, slot_of, opened, declare, declare_with, closed}
use Rattle.type_scopes.specs.State.{State, Outcome, Went, Check, give, then_do, ◌>>=◌}
use Rattle.type_calls.specs.Doing.{act_on}
use Rattle.type_calls.specs.Roots.{roots_of}
use Rattle.type_expressions.specs.Expressions.{Judge, is_one}
use Rattle.type_declarations.specs.Parts.{ruled, wrong_unless, start_form}
use Rattle.type_simples.specs.declared.simples.Standing.{Standing}
use Rattle.type_simples.specs.Simples.{Acted, through_doing}
use Rattle.type_heads.specs.Heads.{Does, Headed, counter_fits, test_fits, same_events, is_change, apart}
use Rattle.type_statements.specs.Statements.{within_own, if_form, if_else_form, watching_within}
use Rattle.comet_types.specs.Functions.{top, result_kind, parameters_form, parameter_form, settled_form, body_scope, new_fault, kinds_of}

-- a part that may have an `else`
abbrev pub if_by : Place → Judge → Does → Option Does → Does
if_by p t a None = if_form p t a
if_by p t a (Some b) = if_else_form p t a b

-- the name of a `for` with its first value
pub record Count : Type 0 where
  pub name : Name
  pub start : Judge

abbrev pub counter_by : Option Count → Scope → Check (Option Counted)
counter_by None scope = give None
counter_by (Some x) scope =
    x.start scope >>= λ e.
    λ s. (declare x.name.text kind.Int >>= λ _. give (Some (record { slot = slot_of scope (length s.names); start = e }))) s

abbrev pub step_by : Place → Bool → Option (Standing → Scope → Check Acted) → Scope → Check (Option Deed)
step_by place holds None scope = give None
step_by place holds (Some x) scope = x (record { at = Some place; holds = holds }) scope >>= λ a. give (Some a.deed)

abbrev pub head_by : Place → Option Count → Option Judge → Option (Standing → Scope → Check Acted) → Scope → Check Headed
head_by place counter test step scope =
    counter_by counter scope >>= λ c.
    start_form test scope >>= λ t.
    step_by place (counter_fits c && test_fits t) step scope >>= λ x.
    ruled place (wrong_unless (counter_fits c && test_fits t)) >>= λ _.
    give (record { counter = c; test = t; step = x })

abbrev pub for_within_by : Place → Option Count → Option Judge → Option (Standing → Scope → Check Acted) → Does → Does
for_within_by place counter test step body scope =
    head_by place counter test step scope >>= λ x.
    within_own body scope >>= λ b.
    give (works.task place (works.counting x.counter x.test x.step b))

abbrev pub for_by : Place → Option Count → Option Judge → Option (Standing → Scope → Check Acted) → Does → Does
for_by place counter test step body scope = within_own (for_within_by place counter test step body) scope

-- handlers
abbrev pub fault_by : Name → Option Events → Kind → Option Cause
fault_by event names k =
    if same_events names then Some cause.DeclaredTwice
    else wrong_unless (is_change event && is_same k kind.Variable)

abbrev pub watched_by : Place → Judge → Name → Option Events → Scope → Check Seen
watched_by place variable event names scope =
    variable scope >>= λ v.
    ruled place (fault_by event names v.kind) >>= λ _.
    act_on place scope through_doing (roots_of (whole v)) >>= λ _.
    give v

abbrev pub whenever_by : Place → Judge → Name → Option Events → Does → Does
whenever_by place variable event names body scope =
    watched_by place variable event names scope >>= λ v.
    within_own (watching_within place v names body) (apart scope)

-- functions
abbrev pub first_by : List Bool → Bool
first_by [] = false
first_by (b ∷ bs) = b

abbrev pub single_by : List Bool → Bool
single_by bs = is_one bs && first_by bs

abbrev pub coded_by : Place → ResultKind → Name → List Kind → Work → Coded
coded_by place result name ks w = record { place = place; name = name.text; result = result_kind result; parameters = ks; body = w }

abbrev pub function_within_by : Place → ResultKind → Name → List Parameter → Does → ℕ → Scope → Check Coded
function_within_by place result name parameters body number scope =
    parameters_form (map parameter_form parameters) scope >>= λ ks.
    settled_form (length ks + 4) number (length ks) body (body_scope (length ks) (result_kind result) scope) >>= λ w.
    give (coded_by place result name ks w)

abbrev pub signature_by : ResultKind → List Parameter → Bool → Signature
signature_by result parameters single = record {
  result = result_kind result;
  parameters = kinds_of parameters;
  is_single = single;
  effects = no_effects (length parameters);
}

abbrev pub named_by : Place → ResultKind → Name → List Parameter → Bool → Check ℕ
named_by place result name parameters single = λ s.
    (ruled place (new_fault (is_new name.text 0 s.names)) >>= λ _.
    declare_with name.text kind.Function (length s.signatures) [] >>= λ _.
    learn (signature_by result parameters single) >>= λ _.
    give (length s.signatures)) s

abbrev pub opened_by : Place → ResultKind → Name → List Parameter → Does → ℕ → Check Coded
opened_by place result name parameters body number = λ s.
    (function_within_by place result name parameters body number (opened top (length s.names)) >>= closed (length s.names)) s

abbrev pub function_by : Place → ResultKind → Name → List Parameter → Does → Bool → Check Coded
function_by place result name parameters body single =
    named_by place result name parameters single >>= λ number. opened_by place result name parameters body number

-- parts of a program
abbrev pub statement_part : Does → Whole → Check Whole
statement_part d p = d top >>= λ x. give (record p { tasks = p.tasks ++ x ∷ [] })

abbrev pub function_part : Check Coded → Whole → Check Whole
function_part f p = f >>= λ x. give (record p { functions = p.functions ++ x ∷ [] })

abbrev pub no_effect : Whole → Check Whole
no_effect p = give p
