-- Both numbers are read, and then both variables are moved.
use Rattle.std.proofs.Common.{◌≡◌, ℤ, [], ◌∷◌, refl, sym, ap, ◌∙◌, w64, to_z, of_z, rules}
use Rattle.comet_meaning.specs.Models.{number_now}
use Rattle.run_solvers.specs.Changing.{moved_one}
use Rattle.run_solvers.specs.Views.{held_seen}
use Rattle.run_solvers.proofs.TriedLaws.{moved_as}
use Rattle.run_solvers.proofs.held.Held.exchange.Goals as goal

pub returns-in-Err : goal.returns-in-Err
returns-in-Err g c = record { meant = rw c.in-Err.ensures.stop tt; kept = tt; number = refl; told = tt }

pub returns-in-Err-number_of : goal.returns-in-Err-number_of
returns-in-Err-number_of g c = record { meant = rw c.in-Err-number_of.ensures.stop tt; kept = tt; number = refl; told = tt }

pub returns-in-Ok-number_of : goal.returns-in-Ok-number_of
returns-in-Ok-number_of g c =
    let old = c.args.self.now in
    let m = held_seen old in
    let i = c.args.x.index in
    let j = c.args.y.index in
    let first : to_z w64 (of_z w64 c.in-Ok.first) ≡ c.in-Ok.first = search rules in
    let second : to_z w64 (of_z w64 c.in-Ok-number_of.second) ≡ c.in-Ok-number_of.second = search rules in
    moved_as old old _ c.move_both.result _ _ refl refl
    (ap (λ (z : ℤ). moved_one ((i, z) ∷ (j, number_now m i) ∷ []) m m.waiting) (sym (second ∙ c.in-Ok-number_of.ensures.value))
    ∙ ap (λ (z : ℤ). moved_one ((i, to_z w64 (of_z w64 c.in-Ok-number_of.second)) ∷ (j, z) ∷ []) m m.waiting) (sym (first ∙ c.in-Ok.ensures.value))) c.move_both.ensures
