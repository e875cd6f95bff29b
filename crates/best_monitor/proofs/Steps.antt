-- A board steps as the named monitor does, and the others stay.
use Rattle.std.proofs.Common.{◌≡◌, ℕ, zero, suc, List, [], ◌∷◌, set, refl, ap, subst, sym, ◌∙◌, Some, Result, Ok, Err, MatchResult}
use Rattle.std.specs.Prelude.{slice_get}
use Rattle.best_monitor.specs.declared.monitor.Monitor.{Monitor}
use Rattle.best_monitor.specs.declared.request.Request.{Request}
use Rattle.best_monitor.specs.declared.request.Reply.{Reply}
use Rattle.best_monitor.specs.Board.{monitor_of, monitor_step, board_step}
use Rattle.std.specs.Option.{option_map}

set_same : {X : Type 0} (xs : List X) (i : ℕ) (x y : X) → slice_get xs i ≡ Some x → y ≡ x → set xs i y ≡ xs
set_same [] i x y e same = refl
set_same (z ∷ zs) zero x y e same = let c : Some z ≡ Some x = e in let h : y ≡ z = cc in ap (λ w. w ∷ zs) h
set_same (z ∷ zs) (suc i) x y e same = ap (λ l. z ∷ l) (set_same zs i x y e same)

pub steps : {E : Type 0} (board : List Monitor) (q : Request) (i : ℕ) (monitor new : Monitor) (result : Result Reply E) → i ≡ monitor_of q → slice_get board i ≡ Some monitor → MatchResult result (λ r. monitor_step monitor q ≡ (new, r)) (λ _. new ≡ monitor)
    → MatchResult result (λ r. board_step board q ≡ Some (set board i new, r)) (λ _. set board i new ≡ board)
steps board q i monitor new (Ok r) at is told =
    ap (option_map (λ (m : Monitor). let next = monitor_step m q in (set board (monitor_of q) next.0, next.1))) (subst (λ (k : ℕ). slice_get board k ≡ Some monitor) at is)
    ∙ (ap (λ (next : Monitor × Reply). Some (set board (monitor_of q) next.0, next.1)) told ∙ ap (λ (k : ℕ). Some (set board k new, r)) (sym at))
steps board q i monitor new (Err e) at is told = set_same board i monitor new is told
