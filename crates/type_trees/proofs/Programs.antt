-- Programs that are the same without their pointers are judged alike.
use Rattle.std.specs.Prelude.{List, ◌≡◌, map}
use Rattle.std.proofs.Common.{sym, ◌∙◌, ap}
use Rattle.comet_syntax.specs.declared.tree.program.Program.{Program}
use Rattle.checked_tree.specs.Tasks.{Whole}
use Rattle.type_scopes.specs.Functions.{nothing_known}
use Rattle.type_scopes.specs.State.{Check, each}
use Rattle.comet_types.specs.Program.{part_form, next_part, no_part, verdict_of, judged}
use Rattle.parse_unique.specs.Bare.{bare_program, SameProgram}
use Rattle.type_trees.proofs.Senses.{sense}
use Rattle.type_trees.proofs.Statements.{tops_are}

pub judged_alike : (p q : Program) → SameProgram p q → judged p ≡ judged q
judged_alike p q same = ap (λ parts. verdict_of (each next_part parts no_part nothing_known)) parts_alike
  where
    parts_alike : map part_form p.parts.items ≡ map part_form q.parts.items
    parts_alike = sym (tops_are p.parts.items) ∙ (ap (λ b. (sense b).tasks) same ∙ tops_are q.parts.items)
