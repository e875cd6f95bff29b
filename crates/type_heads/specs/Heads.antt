-- What the heads of statements stand for, and statements that hold no statement: the expressions in them, then their
-- own rule. From the language.
use Rattle.std.specs.Prelude.{ℕ, suc, Bool, true, false, ◌&&◌, ◌||◌, ◌-◌, List, [], ◌∷◌, codes, length, Option, Some, None, option_map, if◌then◌else◌}
use Rattle.std.specs.Str.{bytes_eq}
use Rattle.cbl_base.specs.declared.place.Place.{Place}
use Rattle.comet_syntax.specs.declared.tree.expressions.Name.{Name}
use Rattle.comet_syntax.specs.declared.tree.statements.Simple.{Simple}
use Rattle.comet_syntax.specs.declared.tree.statements.ForStart.{ForStart}
use Rattle.comet_syntax.specs.declared.tree.statements.ForHead.{ForHead}
use Rattle.comet_syntax.specs.declared.tree.statements.Events.{Events}
use Rattle.comet_syntax.specs.declared.tree.statements.Watched.{Watched}
use Rattle.checked_tree.specs.declared.expressions.Slot.{Slot}
use Rattle.checked_tree.specs.declared.kind.Kind.{Kind}
use Rattle.checked_tree.specs.declared.kind.Kind.TheVariants as kind
use Rattle.checked_tree.specs.declared.statements.EventSlots.{EventSlots}
use Rattle.checked_tree.specs.declared.stop.Cause.{Cause}
use Rattle.checked_tree.specs.declared.stop.Cause.TheVariants as cause
use Rattle.checked_tree.specs.Shape.{Shape, Seen, whole}
use Rattle.checked_tree.specs.Actions.{Deed}
use Rattle.checked_tree.specs.Tasks as works
use Rattle.checked_tree.specs.Tasks.{Work, Counted}
use Rattle.type_rules.specs.Kinds.{is_number, is_truth, is_range, is_set, is_same}
use Rattle.type_scopes.specs.declared.effects.Doing.{Doing}
use Rattle.type_scopes.specs.declared.names.Found.{Found}
use Rattle.type_scopes.specs.declared.scope.Scope.{Scope}
use Rattle.type_scopes.specs.Names.{look, slot_of, declare}
use Rattle.type_scopes.specs.State.{Check, give, refuse, ◌>>=◌}
use Rattle.type_calls.specs.Doing.{act_on}
use Rattle.type_calls.specs.Roots.{roots_of}
use Rattle.type_expressions.specs.Expressions.{Judge, judge, Generating, generators_form, condition_form, condition_note}
use Rattle.type_declarations.specs.Parts.{ruled, wrong_unless, start_form}
use Rattle.type_simples.specs.declared.simples.Standing.{Standing}
use Rattle.type_simples.specs.Simples.{Acted, simple_form, through_doing}

abbrev pub Does : Type 0
Does = Scope → Check Work

-- statements that hold no statement

unfoldable pub deed_form : Place → (Scope → Check Deed) → Does
deed_form place d scope = d scope >>= λ x. give (works.task place (works.action x))

-- a simple statement that is no part of a `for`
abbrev pub alone : Standing
alone = record { at = None; holds = true }

unfoldable pub acted_form : (Standing → Scope → Check Acted) → Does
acted_form a scope = a alone scope >>= λ x. give (works.task x.place (works.action x.deed))

-- `if` and `while`

abbrev pub truth_fault : Kind → Option Cause
truth_fault k = wrong_unless (is_truth k)

-- `for`: its name is visible behind its first value

unfoldable pub counter_form : Option ForStart → Scope → Check (Option Counted)
counter_form None scope = give None
counter_form (Some x) scope =
    judge x.value scope >>= λ e.
    λ s. (declare x.name.text kind.Int >>= λ _. give (Some (record { slot = slot_of scope (length s.names); start = e }))) s

abbrev pub counter_fits : Option Counted → Bool
counter_fits None = true
counter_fits (Some c) = is_number c.start.kind

abbrev pub test_fits : Option Seen → Bool
test_fits None = true
test_fits (Some e) = is_truth e.kind

unfoldable pub step_part : Place → Bool → Option Simple → Scope → Check (Option Deed)
step_part place holds None scope = give None
step_part place holds (Some x) scope = simple_form x (record { at = Some place; holds = holds }) scope >>= λ a. give (Some a.deed)

-- the parts of a `for` before its body
pub record Headed : Type 0 where
  pub counter : Option Counted
  pub test : Option Seen
  pub step : Option Deed

-- where the `for`'s own rule holds
abbrev pub held : Place → Option Cause → Headed → Check Headed
held place c x = ruled place c >>= λ _. give x

unfoldable pub head_form : Place → ForHead → Scope → Check Headed
head_form place h scope =
    counter_form h.start scope >>= λ c.
    start_form (option_map judge h.test) scope >>= λ t.
    step_part place (counter_fits c && test_fits t) h.step scope >>= λ x.
    ruled place (wrong_unless (counter_fits c && test_fits t)) >>= λ _.
    give (record { counter = c; test = t; step = x })

-- generators with a condition, in a block that stays open

pub record Chosen : Type 0 where
  pub generators : List Shape
  pub condition : Option Seen

unfoldable pub chosen_form : Generating → Scope → Scope → Check Chosen
chosen_form g at scope =
    generators_form g.generators scope >>= λ gs.
    condition_form g.condition at >>= λ c.
    give (record { generators = gs; condition = c })

abbrev pub condition_fault : Option Seen → Option Cause
condition_fault c = truth_fault (condition_note c).kind

abbrev pub key_fault : Option Seen → Kind → Option Cause
key_fault c k = wrong_unless (is_truth (condition_note c).kind && is_number k)

-- statements on a name that is no expression, which they write: its selector, its solver

abbrev pub written_found : Place → Kind → Bool → Scope → Option Found → Check Slot
written_found place k fit scope None = refuse place cause.UnknownName
written_found place k fit scope (Some f) =
    ruled place (wrong_unless (is_same f.kind k && fit)) >>= λ _.
    act_on place scope through_doing (slot_of scope f.index ∷ []) >>= λ _.
    give (slot_of scope f.index)

unfoldable pub written_name : Place → Kind → Bool → Name → Scope → Check Slot
written_name place k fit n scope = λ s. written_found place k fit scope (look n.text s.names) s

-- where statements run later or apart, none returns
abbrev pub apart : Scope → Scope
apart scope = record scope { no_return = true }

-- `whenever`

abbrev pub same_events : Option Events → Bool
same_events None = false
same_events (Some x) = bytes_eq x.old.text x.new.text

abbrev pub is_change : Name → Bool
is_change n = bytes_eq n.text (codes "changes")

abbrev pub watch_fault : Watched → Kind → Option Cause
watch_fault w k =
    if same_events w.names then Some cause.DeclaredTwice
    else wrong_unless (is_change w.event && is_same k kind.Variable)

-- its names are new in a scope of their own
unfoldable pub events_form : Option Events → Scope → Check (Option EventSlots)
events_form None scope = give None
events_form (Some x) scope = λ s.
    (declare x.old.text kind.Int >>= λ _.
    declare x.new.text kind.Int >>= λ _.
    give (Some (record { old = slot_of scope (length s.names); new = slot_of scope (suc (length s.names)) }))) s

-- the handler is attached to the variable, which is written
unfoldable pub watched_form : Place → Watched → Scope → Check Seen
watched_form place w scope =
    judge w.variable scope >>= λ v.
    ruled place (watch_fault w v.kind) >>= λ _.
    act_on place scope through_doing (roots_of (whole v)) >>= λ _.
    give v

-- `parall`: no `parall` holds it; what is declared in its body is not outside it

abbrev pub parall_doing : Doing
parall_doing = record { impure = true; not_in_term = false; global = false; through = false; forbidden = true }

abbrev pub domain_fault : Kind → Option Cause
domain_fault k = wrong_unless (is_range k || is_set k)

-- behind so many names, of which some are global
abbrev pub in_parall : ℕ → Scope → Scope
in_parall n scope = record scope { parall = Some (n - scope.globals); no_return = true }

unfoldable pub shared_form : Place → Judge → Scope → Check Seen
shared_form place domain scope =
    domain scope >>= λ d.
    ruled place (domain_fault d.kind) >>= λ _.
    act_on place scope parall_doing [] >>= λ _.
    give d
