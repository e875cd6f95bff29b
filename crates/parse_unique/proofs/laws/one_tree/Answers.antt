use Rattle.parse_unique.proofs.Programs.{same_program, at_any_depth}
use Rattle.parse_unique.proofs.laws.one_tree.Goals as goal

pub returns : goal.returns
returns c = record {
  one = λ tokens program other spells others. same_program tokens program other spells others;
  within = λ limit tokens program spells. at_any_depth limit tokens program spells;
}
