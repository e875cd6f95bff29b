-- What a solver keeps beside its state: the nodes of its users' constraints while it is open, and what is closed. A rule of
-- this project.
use Rattle.std.specs.Prelude.{◌≡◌, ℤ, Bool, true, List, Option, Some, None, is_some}
use Rattle.std.specs.List.{All}
use Rattle.cbl_base.specs.NodeLaw.{Rule}
use Rattle.cbl_base.specs.declared.input.Input.{Input}
use Rattle.inc_store.specs.Views.{rules_in}
use Rattle.posted_users.specs.KeptOf.{IsUserRule}
use Rattle.posted_users.specs.KeptRule.{KeptRule}
use Rattle.solver_models.specs.Kept.{IsKept}
use Rattle.term_count.specs.declared.subterms.Subterms.{Subterms}
use Rattle.term_model.specs.declared.model.Model.{Model}
use Rattle.solver_store.specs.Closed.{IsClosed, setting_of}
use Rattle.solver_store.specs.KeptRules.{kept_rules, waiting_rules}
use Rattle.solver_store.specs.declared.closed.Closed.{Closed}

module _ {N : Type 0} where
  -- what is kept of the rules of its users' constraints, as its nodes have them
  abbrev pub rules_seen : (N → Rule) → Model → List N → Option (Closed N) → List KeptRule
  rules_seen rule M waiting None = waiting_rules rule waiting
  rules_seen rule M waiting (Some c) = kept_rules M (rules_in rule c.store)

  -- each node that waits is a user's constraint's
  abbrev pub AreWaiting : (N → Rule) → List N → Option (Closed N) → Type 0
  AreWaiting rule waiting None = All (λ n. IsUserRule (rule n)) waiting
  AreWaiting rule waiting (Some c) = Unit {0}

  -- what is closed is the model's under the assignment, as long as the solver may be used
  abbrev pub Stands : (N → Rule) → (N → List Input) → (N → Type 0) → Model → List ℤ → List N → Option (Closed N) → Bool → Type 0
  Stands rule held ready M a waiting None usable = Unit {0}
  Stands rule held ready M a waiting (Some c) usable = usable ≡ true → IsClosed rule held ready (setting_of M a (kept_rules M (rules_in rule c.store))) c

  pub record IsHeld (rule : N → Rule) (held : N → List Input) (ready : N → Type 0) (M : Model) (a : List ℤ) (marks : List Bool) (waiting : List N) (counted : Option Subterms) (closed : Option (Closed N)) (usable : Bool) : Type 0 where
    pub kept : IsKept M a marks (rules_seen rule M waiting closed) counted (is_some closed) usable
    pub waits : AreWaiting rule waiting closed
    pub stands : Stands rule held ready M a waiting closed usable
