-- Typing rules: what makes functions and whole programs well typed. A body is typed with the effects that are known
-- of its own function, and again with those that it had, until they stay.
use Rattle.std.specs.Prelude.{◌≡◌, ℕ, zero, suc, true, false, ◌+◌, List, [], ◌∷◌, ◌++◌, length, slice_get, None}
use Rattle.std.specs.declared.boxed.Box.{Box}
use Rattle.std.specs.declared.alloc.Global.{Global}
use Rattle.comet_syntax.specs.declared.tree.statements.Block.{Block}
use Rattle.comet_syntax.specs.declared.tree.statements.Statement.{Statement}
use Rattle.comet_syntax.specs.declared.tree.program.Parameter.{Parameter}
use Rattle.comet_syntax.specs.declared.tree.expressions.Name.{Name}
use Rattle.comet_syntax.specs.declared.tree.program.Function.{Function}
use Rattle.comet_syntax.specs.declared.tree.program.Program.{Program}
use Rattle.comet_syntax.specs.declared.tree.program.TopPart.{TopPart}
use Rattle.comet_syntax.specs.declared.tree.program.TopPart.TheVariants as parts
use Rattle.checked_tree.specs.declared.kind.Kind.{Kind}
use Rattle.checked_tree.specs.declared.kind.Kind.TheVariants as kind
use Rattle.checked_tree.specs.Tasks.{Work, Coded, Whole}
use Rattle.type_scopes.specs.declared.scope.Scope.{Scope}
use Rattle.type_scopes.specs.Effects.{no_effects}
use Rattle.type_scopes.specs.Functions.{nothing_known, is_settled, settled_in}
use Rattle.type_scopes.specs.Names.{is_new, opened}
use Rattle.type_scopes.specs.State.{State}
use Rattle.type_rules.specs.Classes.{parameter_kind, parameter_is_ls}
use Rattle.comet_types.specs.Functions.{top, result_kind, parameter_fault, body_scope, coded, signature_of, new_fault}
use Rattle.comet_types.specs.Program.{no_part}
use Rattle.typing.specs.Rules.{having_closed}
use Rattle.typing.specs.Declarations.{having_declared_as}
use Rattle.typing.specs.Statements.{StatementIsTyped, BlockIsTyped}

-- parameters behind those that are typed already; each name is new
pub data ParametersAreTyped (scope : Scope) : List Kind → State → List Parameter → List Kind → State → Type 0 where
  no_parameters : {ks : List Kind} {s : State} → ParametersAreTyped scope ks s [] ks s
  a_parameter : {ks all : List Kind} {s t : State} {p : Parameter} {ps : List Parameter}
      → parameter_fault (is_new p.name.text scope.block s.names) (parameter_is_ls p.kind) ≡ None
      → ParametersAreTyped scope (ks ++ parameter_kind p.kind ∷ []) (having_declared_as p.name.text (parameter_kind p.kind) [] s) ps all t
      → ParametersAreTyped scope ks s (p ∷ ps) all t

-- a body, once: it has done nothing yet where it begins
pub data TurnIsTyped (parameters : ℕ) (scope : Scope) (s : State) (b : Block) : Work → State → Type 0 where
  a_turn : {w : Work} {t : State}
      → BlockIsTyped (opened scope (length s.names)) (record s { effects = no_effects parameters }) b w t
      → TurnIsTyped parameters scope s b w (having_closed (length s.names) t)

-- what is known when the function does what its body did
abbrev pub having_settled : ℕ → State → State
having_settled f s = record s { signatures = settled_in s.signatures f s.effects (slice_get s.signatures f); effects = no_effects 0 }

-- a body, until its effects stay, in so many turns behind the first
pub data BodyIsTyped (function parameters : ℕ) (scope : Scope) (b : Block) : ℕ → State → Work → State → Type 0 where
  the_last_turn : {s t : State} {w : Work}
      → TurnIsTyped parameters scope s b w t
      → BodyIsTyped function parameters scope b zero s w t
  effects_stay : {turns : ℕ} {s t : State} {w : Work}
      → TurnIsTyped parameters scope s b w t
      → is_settled function t ≡ true
      → BodyIsTyped function parameters scope b (suc turns) s w t
  effects_grow : {turns : ℕ} {s u t : State} {v w : Work}
      → TurnIsTyped parameters scope s b v u
      → is_settled function u ≡ false
      → BodyIsTyped function parameters scope b turns (having_settled function u) w t
      → BodyIsTyped function parameters scope b (suc turns) s w t

-- what is known when a function is learnt: its name, and what its calls see
abbrev pub having_learnt : Function → State → State
having_learnt f s = record s {
  names = s.names ++ record { name = f.name.text; kind = kind.Function; function = length s.signatures; solvers = [] } ∷ [];
  signatures = s.signatures ++ signature_of f ∷ [];
}

-- a function: its name, which is visible in its body, its parameters, and its body
pub data FunctionIsTyped (s : State) (f : Function) : Coded → State → Type 0 where
  a_function : {u t : State} {ks : List Kind} {w : Work}
      → new_fault (is_new f.name.text 0 s.names) ≡ None
      → ParametersAreTyped (opened top (length (having_learnt f s).names)) [] (having_learnt f s) f.parameters.items ks u
      → BodyIsTyped (length s.signatures) (length ks) (body_scope (length ks) (result_kind f.result) (opened top (length (having_learnt f s).names))) f.body (length ks + 4) u w t
      → FunctionIsTyped s f (coded f ks w) (having_closed (length (having_learnt f s).names) t)

-- a part of a program, behind those before it; imports have no effect
pub data PartIsTyped (p : Whole) (s : State) : TopPart → Whole → State → Type 0 where
  an_import : {n : Name} → PartIsTyped p s (parts.Import n) p s
  an_include : {text : List ℕ} → PartIsTyped p s (parts.Include text) p s
  a_function_part : {f : Box Function Global} {x : Coded} {t : State}
      → FunctionIsTyped s f.value x t
      → PartIsTyped p s (parts.Function f) (record p { functions = p.functions ++ x ∷ [] }) t
  a_statement_part : {st : Statement} {w : Work} {t : State}
      → StatementIsTyped top s st w t
      → PartIsTyped p s (parts.Statement st) (record p { tasks = p.tasks ++ w ∷ [] }) t

-- parts behind those that are typed already
pub data PartsAreTyped : Whole → State → List TopPart → Whole → State → Type 0 where
  no_parts : {p : Whole} {s : State} → PartsAreTyped p s [] p s
  a_part : {p q all : Whole} {s u t : State} {x : TopPart} {xs : List TopPart}
      → PartIsTyped p s x q u
      → PartsAreTyped q u xs all t
      → PartsAreTyped p s (x ∷ xs) all t

-- a program, from nothing that is known
pub data ProgramIsTyped (p : Program) (w : Whole) : Type 0 where
  a_program : {t : State}
      → PartsAreTyped no_part nothing_known p.parts.items w t
      → ProgramIsTyped p w
