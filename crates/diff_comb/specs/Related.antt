-- Which relation it is, and its rule over numbers. A rule of this project.
use Rattle.std.specs.Prelude.{ℤ, Result}
use Rattle.cbl_base.specs.NumberRule.{NumberRule}
use Rattle.cbl_base.specs.declared.faults.RunFault.{RunFault}
use Rattle.cbl_violations.specs.Violations.Relations.{eq_violations, ne_violations, le_violations, lt_violations, relation}
use Rattle.diff_comb.specs.declared.relation.Comparing.{Comparing}
use Rattle.diff_comb.specs.declared.relation.Comparing.TheVariants.{Eq, Ne, Le, Lt}

abbrev pub violations_of : Comparing → ℤ → ℤ → Result ℤ RunFault
violations_of Eq = eq_violations
violations_of Ne = ne_violations
violations_of Le = le_violations
violations_of Lt = lt_violations

abbrev pub related : Comparing → NumberRule
related comparing = relation (violations_of comparing)
