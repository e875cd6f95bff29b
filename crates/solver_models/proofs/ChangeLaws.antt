-- Changes one after another, and moves.
use Rattle.std.proofs.Common.{◌≡◌, ℕ, ℤ, ◌+◌, ◌<◌, List, [], ◌∷◌, ◌++◌, Option, Some, None, take, length, get_or, length-set, refl, sym, ap, ◌∙◌, arith, slice_get}
use Rattle.std.specs.Prelude.{filter_map}
use Rattle.std.specs.List.{cons_option, range_with_len}
use Rattle.std.proofs.lemmas.List.{append-nil, take_more}
use Rattle.std.proofs.lemmas.List.Elements.{filter_map-append}
use Rattle.std.proofs.lemmas.List.Sums.{fold-append}
use Rattle.cbl_base.specs.declared.ids.VarId.{VarId}
use Rattle.cbl_base.specs.declared.input.Input.{Input}
use Rattle.ls_events.specs.declared.change.VarChange.{VarChange}
use Rattle.solver_models.specs.Changes.{change_at, change_between, changes_of}
use Rattle.solver_models.specs.Moves.{after_moves, moved}
use Rattle.solver_models.specs.Ids.{id_at}
use Rattle.solver_models.specs.Kept.{AreFresh}
use Rattle.solver_models.specs.KeptChanges.{change_in, with_change}
use Rattle.solver_models.specs.Reading.{fresh_value}
use Rattle.solver_models.specs.State.{SolverState}
use Rattle.solver_models.proofs.ListLaws.{filter_range, range_push}
use Rattle.posted_users.specs.KeptRule.{users_of}

pushed : (changes : List VarChange) (o : Option VarChange) → with_change changes o ≡ changes ++ cons_option o []
pushed changes (Some change) = refl
pushed changes None = sym (append-nil changes)

pub changes_more : (f : ℕ → Option VarChange) (n : ℕ) (so_far after : List VarChange) (change : Option VarChange) → so_far ≡ filter_map f (range_with_len 0 n) → change ≡ f n → after ≡ with_change so_far change →
    after ≡ filter_map f (range_with_len 0 (n + 1))
changes_more f n so_far after change e is next =
    next ∙ pushed so_far change ∙ ap (λ cs. cs ++ cons_option change []) e ∙ ap (λ o. filter_map f (range_with_len 0 n) ++ cons_option o []) is
    ∙ sym (filter_map-append f (range_with_len 0 n) (n ∷ [])) ∙ ap (λ k. filter_map f (range_with_len 0 n ++ k ∷ [])) (let z : n ≡ 0 + n = omega arith in z) ∙ ap (filter_map f) (sym (range_push 0 n))

-- the changes from kept values are those from fresh values
pub changes_are : (old new : SolverState) (before after : List Input) → AreFresh (users_of old.rules) old.model old.assignment before → AreFresh (users_of new.rules) new.model new.assignment after → length new.model.vars.items ≡ length old.model.vars.items →
    filter_map (change_in old.number before after) (range_with_len 0 (length before)) ≡ changes_of old new
changes_are old new before after was is same =
    ap (λ n. filter_map (change_in old.number before after) (range_with_len 0 n)) was.count
    ∙ filter_range (change_in old.number before after) (change_at old new) 0 (length old.model.vars.items)
    (λ i le lt. ap (λ o. change_between (id_at old i) o (slice_get after i)) (was.each i (omega (arith, lt))) ∙ ap (change_between (id_at old i) (fresh_value old i)) (is.each i (omega (arith, lt, same))))

-- ---- moves
pub moves_length : (a : List ℤ) (moves : List (VarId × ℤ)) → length (after_moves a moves) ≡ length a
moves_length a [] = refl
moves_length a (m ∷ moves) = moves_length (moved a m) moves ∙ length-set a m.0.index m.1

pub moves_more : (a so_far after : List ℤ) (moves : List (VarId × ℤ)) (i : ℕ) (m : VarId × ℤ) → i < length moves → m ≡ get_or moves i m → so_far ≡ after_moves a (take i moves) → after ≡ after_moves so_far (m ∷ []) → after ≡ after_moves a (take (i + 1) moves)
moves_more a so_far after moves i m lt is e next =
    next ∙ ap (λ b. after_moves b (m ∷ [])) e ∙ sym (fold-append moved a (take i moves) (m ∷ [])) ∙ ap (λ n. after_moves a (take i moves ++ n ∷ [])) is ∙ ap (after_moves a) (sym (take_more moves i m lt))
