-- What functions are, with their effects: the least fixed point. From the language.
use Rattle.std.specs.Prelude.{ℕ, zero, suc, Bool, true, false, ◌&&◌, ◌+◌, List, [], ◌∷◌, ◌++◌, length, map, Option, Some, None, if◌then◌else◌}
use Rattle.cbl_base.specs.declared.place.Place.{Place}
use Rattle.comet_syntax.specs.declared.tree.program.Function.{Function}
use Rattle.comet_syntax.specs.declared.tree.program.Parameter.{Parameter}
use Rattle.comet_syntax.specs.declared.tree.program.ResultKind.{ResultKind}
use Rattle.comet_syntax.specs.declared.tree.program.ResultKind.TheVariants as results
use Rattle.comet_syntax.specs.declared.tree.statements.Statement.{Statement}
use Rattle.comet_syntax.specs.declared.tree.statements.Statement.TheOpen as layers
use Rattle.comet_syntax.specs.declared.tree.statements.Statement.TheFolds.{fold-Statement}
use Rattle.type_expressions.specs.Expressions.{is_one}
use Rattle.checked_tree.specs.declared.kind.Kind.{Kind}
use Rattle.checked_tree.specs.declared.kind.Kind.TheVariants as kind
use Rattle.checked_tree.specs.declared.stop.Cause.{Cause}
use Rattle.checked_tree.specs.declared.stop.Cause.TheVariants as cause
use Rattle.checked_tree.specs.Tasks.{Work, Coded}
use Rattle.type_rules.specs.declared.context.Context.TheVariants as context
use Rattle.type_rules.specs.Classes.{parameter_kind, parameter_is_ls}
use Rattle.type_scopes.specs.declared.effects.Signature.{Signature}
use Rattle.type_scopes.specs.declared.scope.Scope.{Scope}
use Rattle.type_scopes.specs.Effects.{no_effects}
use Rattle.type_scopes.specs.Functions.{learn, begin, is_settled, settle}
use Rattle.type_scopes.specs.Names.{is_new, opened, declare, declare_with, closed}
use Rattle.type_scopes.specs.State.{State, Outcome, Went, Refused, Check, give, refuse, then_do, ◌>>=◌, each}
use Rattle.type_declarations.specs.Parts.{ruled}
use Rattle.type_statements.specs.OfTypeHeads.Heads.{Does}
use Rattle.type_statements.specs.Statements.{block_of, within_own}

-- at the top of a program
abbrev pub top : Scope
top = record { context = context.Plain; block = 0; at_top = true; globals = 0; function = None; parall = None; no_return = false }

abbrev pub result_kind : ResultKind → Kind
result_kind results.Void = kind.Nothing
result_kind results.Int = kind.Int
result_kind results.Bool = kind.Bool

abbrev pub gives_layer : layers.Statement-F Bool Bool → Bool
gives_layer (layers.Return place (Some e)) = true
gives_layer z = false

abbrev pub none_gives : layers.Block-F Bool Bool → Bool
none_gives b = false

-- a `return` of an expression
unfoldable pub gives_value : Statement → Bool
gives_value = fold-Statement Bool Bool gives_layer none_gives

abbrev pub first_gives : List Statement → Bool
first_gives [] = false
first_gives (st ∷ sts) = gives_value st

-- whether a body is one `return` of an expression
abbrev pub is_single : List Statement → Bool
is_single sts = is_one sts && first_gives sts

-- parameters, in a block that stays open

abbrev pub parameter_fault : Bool → Bool → Option Cause
parameter_fault new is_ls = if new then (if is_ls then None else Some cause.OnlyLs) else Some cause.DeclaredTwice

unfoldable pub parameter_form : Parameter → Scope → Check Kind
parameter_form p scope = λ s.
    (ruled p.place (parameter_fault (is_new p.name.text scope.block s.names) (parameter_is_ls p.kind)) >>= λ _.
    declare p.name.text (parameter_kind p.kind) >>= λ _.
    give (parameter_kind p.kind)) s

unfoldable pub next_parameter : Scope → List Kind → (Scope → Check Kind) → Check (List Kind)
next_parameter scope ks p = p scope >>= λ k. give (ks ++ k ∷ [])

abbrev pub parameters_form : List (Scope → Check Kind) → Scope → Check (List Kind)
parameters_form ps scope = each (next_parameter scope) ps []

abbrev pub kinds_of : List Parameter → List Kind
kinds_of [] = []
kinds_of (p ∷ ps) = parameter_kind p.kind ∷ kinds_of ps

-- a body, judged with the effects that are known of its own function
unfoldable pub turn_form : ℕ → Does → Does
turn_form parameters body scope = begin parameters >>= λ _. within_own body scope

-- The body is judged again with the effects that it had, until they stay. Effects only grow, so one turn for each
-- parameter, and four, are enough.
unfoldable pub settled_form : ℕ → ℕ → ℕ → Does → Does
settled_form zero function parameters body scope = turn_form parameters body scope
settled_form (suc turns) function parameters body scope =
    turn_form parameters body scope >>= λ w.
    λ s. if is_settled function s then Went w s
    else (settle function >>= λ _. settled_form turns function parameters body scope) s

abbrev pub body_scope : ℕ → Kind → Scope → Scope
body_scope parameters result scope = record scope { function = Some (record { parameters = parameters; result = result }) }

abbrev pub coded : Function → List Kind → Work → Coded
coded f ks w = record { place = f.place; name = f.name.text; result = result_kind f.result; parameters = ks; body = w }

unfoldable pub function_within : Function → ℕ → Scope → Check Coded
function_within f number scope =
    parameters_form (map parameter_form f.parameters.items) scope >>= λ ks.
    settled_form (length ks + 4) number (length ks) (block_of f.body) (body_scope (length ks) (result_kind f.result) scope) >>= λ w.
    give (coded f ks w)

-- what its calls see, before its body is judged
abbrev pub signature_of : Function → Signature
signature_of f = record {
  result = result_kind f.result;
  parameters = kinds_of f.parameters.items;
  is_single = is_single f.body.statements.items;
  effects = no_effects (length f.parameters.items);
}

abbrev pub new_fault : Bool → Option Cause
new_fault new = if new then None else Some cause.DeclaredTwice

-- its name is global, and visible in its body
unfoldable pub named_form : Function → Check ℕ
named_form f = λ s.
    (ruled f.place (new_fault (is_new f.name.text 0 s.names)) >>= λ _.
    declare_with f.name.text kind.Function (length s.signatures) [] >>= λ _.
    learn (signature_of f) >>= λ _.
    give (length s.signatures)) s

unfoldable pub opened_form : Function → ℕ → Check Coded
opened_form f number = λ s. (function_within f number (opened top (length s.names)) >>= closed (length s.names)) s

unfoldable pub function_form : Function → Check Coded
function_form f = named_form f >>= λ number. opened_form f number
