-- A desk steps on a request to a pool as the named pool does, and all else stays.
use Rattle.std.proofs.Common.{◌≡◌, ℕ, zero, suc, List, [], ◌∷◌, set, refl, ap, subst, sym, ◌∙◌, Some, Option, Result, Ok, Err, MatchResult}
use Rattle.std.specs.Prelude.{slice_get}
use Rattle.std.specs.Option.{option_map}
use Rattle.best_monitor.specs.declared.request.Reply.{Reply}
use Rattle.pool_monitor.specs.declared.request.PoolRequest.{PoolRequest}
use Rattle.pool_monitor.specs.declared.request.DeskRequest.TheVariants.{Pool}
use Rattle.pool_monitor.specs.Pool.{PoolState, pool_of, pool_step}
use Rattle.pool_monitor.specs.Desk.{DeskState, desk_step}

set_same : {X : Type 0} (xs : List X) (i : ℕ) (x y : X) → slice_get xs i ≡ Some x → y ≡ x → set xs i y ≡ xs
set_same [] i x y e same = refl
set_same (z ∷ zs) zero x y e same = let c : Some z ≡ Some x = e in let h : y ≡ z = cc in ap (λ w. w ∷ zs) h
set_same (z ∷ zs) (suc i) x y e same = ap (λ l. z ∷ l) (set_same zs i x y e same)

-- a desk with other pools
abbrev with_pools : DeskState → List PoolState → DeskState
with_pools desk pools = record { board = desk.board; pools = pools }

-- the desk's step, where the named pool is this one
abbrev step_of : DeskState → PoolRequest → Option PoolState → Option (DeskState × Reply)
step_of desk q named = option_map (λ (next : List PoolState × Reply). (with_pools desk next.0, next.1)) (option_map (λ pool. let next = pool_step pool q in (set desk.pools (pool_of q) next.0, next.1)) named)

pub steps : {E : Type 0} (desk : DeskState) (q : PoolRequest) (i : ℕ) (pool new : PoolState) (result : Result Reply E) → i ≡ pool_of q → slice_get desk.pools i ≡ Some pool → MatchResult result (λ r. pool_step pool q ≡ (new, r)) (λ _. new ≡ pool)
    → MatchResult result (λ r. desk_step desk (Pool q) ≡ Some (record { board = desk.board; pools = set desk.pools i new }, r)) (λ _. record { board = desk.board; pools = set desk.pools i new } ≡ desk)
steps desk q i pool new (Ok r) at is told =
    ap (step_of desk q) (subst (λ (k : ℕ). slice_get desk.pools k ≡ Some pool) at is)
    ∙ (ap (λ (next : PoolState × Reply). Some (with_pools desk (set desk.pools (pool_of q) next.0), next.1)) told ∙ ap (λ (k : ℕ). Some (with_pools desk (set desk.pools k new), r)) (sym at))
steps desk q i pool new (Err e) at is told = ap (with_pools desk) (set_same desk.pools i pool new is told)
