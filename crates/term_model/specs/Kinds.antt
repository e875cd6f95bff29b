-- The kind of a term, where it is well kinded: each operation in it has arguments of a number and of kinds
-- that it takes, and fields that fit it; and each variable has a kind. A rule of this project.
use Rattle.std.specs.Prelude.{◌≡◌, ℕ, Bool, true, ◌&&◌, List, [], ◌∷◌, ◌++◌, fold, Option, Some, None, Result, Ok, Err, slice_get, if◌then◌else◌}
use Rattle.std.specs.Option.{option_map}
use Rattle.cbl_base.specs.Inputs.{InputKind, number_kind, set_kind, kinds_of}
use Rattle.cbl_base.specs.declared.input.Input.{Input}
use Rattle.cbl_violations.specs.Constraints.{is_proper}
use Rattle.cbl_operations.specs.RuleOf.{rule_of, value_kind}
use Rattle.cbl_operations.specs.declared.op.Op.{Op}
use Rattle.cbl_operations.specs.declared.op.Op.TheVariants.{Constraint}
use Rattle.term_model.specs.Users.{no_users}
use Rattle.term_model.specs.declared.model.VarDecl.{VarDecl}
use Rattle.term_model.specs.declared.model.VarKind.{VarKind}
use Rattle.term_model.specs.declared.model.VarKind.TheVariants.{Number, Set}
use Rattle.term_model.specs.declared.term.Term.{Term}
use Rattle.term_model.specs.declared.term.Term.TheOpen.{Term-F}
use Rattle.term_model.specs.declared.term.Term.TheFolds.{fold-Term}

-- whether the fields are as they must be, as a constraint says
abbrev pub has_fields : Op → Bool
has_fields (Constraint constraint) = is_proper constraint
has_fields op = true

-- the kinds so far and one more, where all are well kinded
abbrev pub gather_kind : Option (List InputKind) → Option InputKind → Option (List InputKind)
gather_kind (Some kinds) (Some kind) = Some (kinds ++ kind ∷ [])
gather_kind (Some kinds) None = None
gather_kind None kind = None

abbrev pub all_kinds : List (Option InputKind) → Option (List InputKind)
all_kinds kinds = fold gather_kind (Some []) kinds

-- the kind of a node, from those of its arguments; a user's constraint takes any numbers
abbrev pub node_kind : Op → Option (List InputKind) → Option InputKind
node_kind op (Some kinds) = if (rule_of no_users op).takes kinds && has_fields op then Some (value_kind op) else None
node_kind op None = None

-- one layer of a term, with each argument's kind in its place
abbrev pub kind_step : (ℕ → Option InputKind) → Term-F (Option InputKind) → Option InputKind
kind_step kinds (Term-F.Const x) = Some number_kind
kind_step kinds (Term-F.ConstSet s) = Some set_kind
kind_step kinds (Term-F.Var v) = kinds v.index
kind_step kinds (Term-F.Node op args place) = node_kind op (all_kinds args.items)

-- the kind of a term, where the variables have these kinds
abbrev pub kind_of_term : (ℕ → Option InputKind) → Term → Option InputKind
kind_of_term kinds = fold-Term (Option InputKind) (kind_step kinds)

-- the kind of a variable from the declarations
abbrev pub kind_of_var : VarKind → InputKind
kind_of_var Number = number_kind
kind_of_var Set = set_kind

abbrev pub kinds_in : List VarDecl → ℕ → Option InputKind
kinds_in vars i = option_map (λ decl. kind_of_var decl.kind) (slice_get vars i)

-- these are the kinds of the values, where there are values
abbrev pub AreKinds : {E : Type 0} → Result (List Input) E → Option (List InputKind) → Type 0
AreKinds (Ok xs) kinds = kinds ≡ Some (kinds_of xs)
AreKinds (Err f) kinds = Unit {0}
