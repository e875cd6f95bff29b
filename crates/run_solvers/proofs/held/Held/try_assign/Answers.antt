-- What is asked first, and then the move.
use Rattle.std.proofs.Common.{◌≡◌, ℤ, [], ◌∷◌, refl, sym, ◌∙◌, ap, w64, to_z, of_z, rules}
use Rattle.run_solvers.specs.Changing.{moved_one}
use Rattle.run_solvers.specs.Views.{held_seen, waits}
use Rattle.run_solvers.proofs.CommitLaws.{assigned_defined, assigned_foreign, assigned_free, free_of}
use Rattle.run_solvers.proofs.TriedLaws.{moved_as}
use Rattle.run_solvers.proofs.held.Held.try_assign.Goals as goal

pub returns-then-not-owns : goal.returns-then-not-owns
returns-then-not-owns g c =
    let old = c.args.self.now in record {
      meant = assigned_foreign old.solver old.names (waits old) c.args.at c.args.variable c.args.number (c.requires.own ∙ sym c.requires.kept.0.number_) (sym c.owns.ensures ∙ c.if-not-owns.true);
      kept = tt;
      number = refl;
      told = tt;
    }

pub returns-then-defines : goal.returns-then-defines
returns-then-defines g c =
    let old = c.args.self.now in record {
      meant = assigned_defined old.solver old.names (waits old) c.args.at c.args.variable c.args.number (c.requires.own ∙ sym c.requires.kept.0.number_) (sym c.owns.ensures ∙ c.if-not-owns.false) (sym c.defines.ensures ∙ c.if-defines.true);
      kept = tt;
      number = refl;
      told = tt;
    }

pub returns : goal.returns
returns g c =
    let old = c.args.self.now in
    let own = sym c.owns.ensures ∙ c.if-not-owns.false in
    let free = free_of _ _ own (sym c.defines.ensures ∙ c.if-defines.false) in
    let same : to_z w64 (of_z w64 c.args.number) ≡ c.args.number = search rules in
    moved_as old old _ c.move_one.result _ _ refl refl
    (assigned_free old.solver old.names (waits old) c.args.at c.args.variable c.args.number (c.requires.own ∙ sym c.requires.kept.0.number_) own free
    ∙ ap (λ (z : ℤ). moved_one ((c.args.variable.index, z) ∷ []) (held_seen old) (held_seen old).waiting) (sym same)) c.move_one.ensures

pub move_one-requires-clause-free : goal.move_one-requires-clause-free
move_one-requires-clause-free g c = free_of _ _ (sym c.owns.ensures ∙ c.if-not-owns.false) (sym c.defines.ensures ∙ c.if-defines.false)
