-- Changes of numbers, as moves.
use Rattle.std.proofs.Common.{ℕ, ℤ, ◌≡◌, ◌∙◌, List, [], ◌∷◌, length, get_or, ap, arith}
use Rattle.std.proofs.lemmas.Option.{slice_get_within}
use Rattle.node_base.specs.NumberChanges.{NoNumberAt, AreNumberChanges}
use Rattle.node_base.specs.declared.number_change.NumberChange.{NumberChange}
use Rattle.user_constraint.specs.Moves.{NoMoveAt, AreMoves, move_of, moves_of}

no_move_at : (place : ℕ) (cs : List NumberChange) → NoNumberAt place cs → NoMoveAt place (moves_of cs)
no_move_at place [] h = tt
no_move_at place (c ∷ cs) h = (h.0, no_move_at place cs h.1)

pub are_moves : (xs : List ℤ) (cs : List NumberChange) → AreNumberChanges xs cs → AreMoves (length xs) (moves_of cs)
are_moves xs [] h = tt
are_moves xs (c ∷ cs) h = (slice_get_within xs c.place c.old h.0, no_move_at c.place cs h.1, are_moves xs cs h.2)

pub one_move : (cs : List NumberChange) (d : NumberChange) (m : ℕ × ℤ) → length cs ≡ 1 → m ≡ move_of (get_or cs 0 d) → m ∷ [] ≡ moves_of cs
one_move [] d m size is = absurd (omega (arith, size))
one_move (x ∷ []) d m size is = ap (λ y. y ∷ []) is
one_move (x ∷ y ∷ cs) d m size is = absurd (omega (arith, size))

pub two_moves : (cs : List NumberChange) (d e : NumberChange) (m n : ℕ × ℤ) → length cs ≡ 2 → m ≡ move_of (get_or cs 0 d) → n ≡ move_of (get_or cs 1 e) → m ∷ n ∷ [] ≡ moves_of cs
two_moves [] d e m n size is is2 = absurd (omega (arith, size))
two_moves (x ∷ []) d e m n size is is2 = absurd (omega (arith, size))
two_moves (x ∷ y ∷ []) d e m n size is is2 = ap (λ z. z ∷ n ∷ []) is ∙ ap (λ z. move_of x ∷ z ∷ []) is2
two_moves (x ∷ y ∷ z ∷ cs) d e m n size is is2 = absurd (omega (arith, size))
