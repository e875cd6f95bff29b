-- Tests of lists of checked expressions.
use Rattle.std.specs.Prelude.{◌≡◌, ◌&&◌, ◌||◌, List, [], ◌∷◌, map, zip, refl}
use Rattle.std.specs.List.{list_all, list_any}
use Rattle.std.proofs.Common.{ap}
use Rattle.checked_tree.specs.declared.kind.Kind.{Kind}
use Rattle.type_rules.specs.declared.kinds.Want.{Want}
use Rattle.checked_tree.specs.declared.expressions.Typed.{Typed}
use Rattle.type_rules.specs.Kinds.{is_number, fits, asked_of}
use Rattle.checked_tree.specs.Shape.{seen}
use Rattle.type_calls.specs.Arguments.{note_of, all_numbers, any_moving, all_suit, any_unfixed, all_fit, suits}

pub all_numbers_seen : (es : List Typed) → all_numbers (map seen es) ≡ list_all (λ e. is_number e.kind) es
all_numbers_seen [] = refl
all_numbers_seen (e ∷ es) = ap (λ b. is_number e.kind && b) (all_numbers_seen es)

pub any_moving_seen : (es : List Typed) → any_moving (map seen es) ≡ list_any (λ e. e.moving) es
any_moving_seen [] = refl
any_moving_seen (e ∷ es) = ap (λ b. e.moving || b) (any_moving_seen es)

pub all_suit_seen : (ws : List Want) (es : List Typed) → all_suit ws (map seen es) ≡ list_all (λ (w, e). suits w.asked (note_of (seen e))) (zip ws es)
all_suit_seen [] [] = refl
all_suit_seen [] (e ∷ es) = refl
all_suit_seen (w ∷ ws) [] = refl
all_suit_seen (w ∷ ws) (e ∷ es) = ap (λ b. suits w.asked (note_of (seen e)) && b) (all_suit_seen ws es)

pub any_unfixed_seen : (ws : List Want) (es : List Typed) → any_unfixed ws (map seen es) ≡ list_any (λ (w, e). w.fixed && e.moving) (zip ws es)
any_unfixed_seen [] [] = refl
any_unfixed_seen [] (e ∷ es) = refl
any_unfixed_seen (w ∷ ws) [] = refl
any_unfixed_seen (w ∷ ws) (e ∷ es) = ap (λ b. (w.fixed && e.moving) || b) (any_unfixed_seen ws es)

pub all_fit_seen : (ks : List Kind) (es : List Typed) → all_fit ks (map seen es) ≡ list_all (λ (k, e). fits (asked_of k) e.kind) (zip ks es)
all_fit_seen [] [] = refl
all_fit_seen [] (e ∷ es) = refl
all_fit_seen (k ∷ ks) [] = refl
all_fit_seen (k ∷ ks) (e ∷ es) = ap (λ b. fits (asked_of k) e.kind && b) (all_fit_seen ks es)
