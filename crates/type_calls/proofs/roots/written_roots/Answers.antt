use Rattle.std.proofs.Common.{refl, rules, ap, subst, sym, ◌∙◌, ◌+◌, ◌++◌}
use Rattle.std.specs.Prelude.{map, List, ◌∷◌, if◌then◌else◌, []}
use Rattle.checked_tree.specs.Shape.{seen, whole}
use Rattle.type_calls.specs.Roots.{written_roots, roots_of, is_flagged}
use Rattle.type_calls.proofs.Pushes.{pushes_next, pushes_end}
use Rattle.type_calls.proofs.roots.written_roots.Goals as goal

pub returns : goal.returns
returns c =
    pushes_end (λ i xs. written_roots i c.args.flags.now (map seen xs)) (λ i. refl) c.args.values.now _ _ _ c.loop-value.invariant.1 c.loop-value-test.false
