use Rattle.std.proofs.Common.{rules, ℤ, ◌-ℤ◌, Ok, sym, ap, ◌∙◌, w64, arith}
use Rattle.std.specs.Prelude.{FitsSigned}
use Rattle.std.proofs.lemmas.Int.{to_z-of_z}
use Rattle.std.specs.BTreeMap.{get}
use Rattle.std.specs.Ordering.{nat_cmp}
use Rattle.cbl_base.specs.Arithmetic.{exact}
use Rattle.cbl_base.specs.Inputs.{kind_of, number_of}
use Rattle.trial.specs.Overlays.{new_or}
use Rattle.trial.specs.Parts.{value_in}
use Rattle.trial.proofs.Finish.{fails_after, has_none, numbers}
use Rattle.trial.proofs.ending.conclude.Goals as goal

pub returns-in-Some-clause-fault : goal.returns-in-Some-clause-fault
returns-in-Some-clause-fault g c =
    (fails_after g.query.part.rules g.query.part.helds g.query.part.frame g.query.part.cells c.requires.1.1.1.0 g.query.ask c.args.overlay.now.lost c.args.overlay.now.changes c.args.overlay.now.roots c.args.target.0 c.requires.1.1.1.1.0 c.requires.1.1.1.1.1.1.1.1 (c.in-Some.id, c.in-Some.fault) (sym c.in-Some.ensures.root))

pub returns-in-Ok-clause-difference : goal.returns-in-Ok-clause-difference
returns-in-Ok-clause-difference g c =
    let fits : FitsSigned w64 c.in-Ok.number = search rules in (
      number_of (value_in g.query.part c.args.target.0),
      number_of (new_or (get nat_cmp c.args.overlay.now.changes c.args.target.0) (value_in g.query.part c.args.target.0)),
      (numbers g.query.part.rules g.query.part.helds g.query.part.frame g.query.part.cells c.requires.1.1.1.0 g.query.ask c.args.overlay.now.lost c.args.overlay.now.changes c.args.overlay.now.roots c.args.target.0 c.requires.1.1.1.1.0 c.requires.1.1.1.1.1.1.1.1 (sym c.in-None.ensures.root) (ap kind_of c.requires.1.1.1.1.1.1.0 ∙ c.requires.1.1.1.1.1.1.1.0)),
      ap (λ x. exact (number_of (new_or (get nat_cmp c.args.overlay.now.changes c.args.target.0) x) -ℤ number_of x)) c.requires.1.1.1.1.1.1.0 ∙ sym c.in-Ok.ensures.difference ∙ ap (λ (z : ℤ). Ok z) (sym (to_z-of_z w64 c.in-Ok.number fits)),
    )

pub returns-in-Ok-clause-steps : goal.returns-in-Ok-clause-steps
returns-in-Ok-clause-steps g c =
    let one = c.root_of.ensures.none (has_none g.query.part.rules g.query.part.helds g.query.part.frame g.query.part.cells c.requires.1.1.1.0 g.query.ask c.args.overlay.now.lost c.args.overlay.now.changes c.args.overlay.now.roots c.args.target.0 c.requires.1.1.1.1.0 c.requires.1.1.1.1.1.1.1.1 (sym c.in-None.ensures.root)) in
    omega (arith, one, c.difference.ensures.steps)

pub returns-in-Err-clause-fault : goal.returns-in-Err-clause-fault
returns-in-Err-clause-fault g c = (
  number_of (value_in g.query.part c.args.target.0),
  number_of (new_or (get nat_cmp c.args.overlay.now.changes c.args.target.0) (value_in g.query.part c.args.target.0)),
  (numbers g.query.part.rules g.query.part.helds g.query.part.frame g.query.part.cells c.requires.1.1.1.0 g.query.ask c.args.overlay.now.lost c.args.overlay.now.changes c.args.overlay.now.roots c.args.target.0 c.requires.1.1.1.1.0 c.requires.1.1.1.1.1.1.1.1 (sym c.in-None.ensures.root) (ap kind_of c.requires.1.1.1.1.1.1.0 ∙ c.requires.1.1.1.1.1.1.1.0)),
  ap (λ x. exact (number_of (new_or (get nat_cmp c.args.overlay.now.changes c.args.target.0) x) -ℤ number_of x)) c.requires.1.1.1.1.1.1.0 ∙ sym c.in-Err.ensures.difference,
)

pub returns-in-Err-clause-steps : goal.returns-in-Err-clause-steps
returns-in-Err-clause-steps g c =
    let one = c.root_of.ensures.none (has_none g.query.part.rules g.query.part.helds g.query.part.frame g.query.part.cells c.requires.1.1.1.0 g.query.ask c.args.overlay.now.lost c.args.overlay.now.changes c.args.overlay.now.roots c.args.target.0 c.requires.1.1.1.1.0 c.requires.1.1.1.1.1.1.1.1 (sym c.in-None.ensures.root)) in
    omega (arith, one, c.difference.ensures.steps)
