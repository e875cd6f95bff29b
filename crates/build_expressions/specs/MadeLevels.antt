-- What is made of the values of the forms of an expression's levels: an operand with what stands behind it.
-- Definitions of this project.
use Rattle.std.specs.Prelude.{◌∷◌, Option, Some, ◌≡◌, map, reverse}
use Rattle.std.specs.declared.alloc.Global.{Global}
use Rattle.std.specs.declared.vec.Vec.{Vec}
use Rattle.cbl_base.specs.declared.place.Place.{Place}
use Rattle.comet_syntax.specs.declared.tree.expressions.ChainOperator.{ChainOperator}
use Rattle.comet_syntax.specs.declared.tree.expressions.ChainOperator.TheVariants as chains
use Rattle.comet_syntax.specs.declared.tree.expressions.Comparison.{Comparison}
use Rattle.comet_syntax.specs.declared.tree.expressions.Expression.{Expression}
use Rattle.comet_syntax.specs.declared.tree.expressions.Link.{Link}
use Rattle.comet_syntax.specs.Grammar.Expressions.{and_tail_and_and, branches_question, comparison_tail_less, expression_operand, or_tail_or_or, product_tail_star, range_tail_dot_dot, total_tail_plus}
use Rattle.comet_syntax.specs.Written.Expressions.{Writing, link, written, written_link}
use Rattle.parse_stacks.specs.declared.tails.Behind.{Behind}
use Rattle.parse_stacks.specs.declared.tails.Branches.{Branches}
use Rattle.parse_stacks.specs.declared.tails.Compared.{Compared}
use Rattle.parse_stacks.specs.declared.tails.UpTo.{UpTo}
use Rattle.parse_stacks.specs.Raised.{comparison_level, conjunction_level, linked, raised, range_level, total_of}
use Rattle.parse_stacks.specs.Undoing.{Values}

abbrev pub behind_of : Vec Link Global → Vec Link Global → Option UpTo → Option Compared → Vec Link Global → Vec Link Global → Option Branches → Behind
behind_of p t u c k d b = record { product = p; total = t; up_to = u; compared = c; conjunction = k; disjunction = d; branches = b }

-- the links in order: this one, and then the others
abbrev pub Joined : ChainOperator → Place → Writing → Vec Link Global → Vec Link Global → Type 0
Joined o p w more x = map written_link (reverse x.items) ≡ record { operator = o; text = link o p w } ∷ map written_link (reverse more.items)

abbrev pub WholeMade : Values expression_operand → Expression → Type 0
WholeMade (operand, (product, (total, (up_to, (compared, (conjunction, (disjunction, (branches, end)))))))) x = written x ≡ raised (written operand) (behind_of product total up_to compared conjunction disjunction branches)

abbrev pub BranchesMade : Values branches_question → Option Branches → Type 0
BranchesMade (question, (positive, (colon, (negative, end)))) x = x ≡ Some (record { then = positive; otherwise = negative })

abbrev pub DisjunctionMade : Values or_tail_or_or → Vec Link Global → Type 0
DisjunctionMade (place, (operand, (product, (total, (up_to, (compared, (conjunction, (more, end)))))))) x = Joined chains.Or place (conjunction_level (written operand) product total up_to compared conjunction) more x

abbrev pub ConjunctionMade : Values and_tail_and_and → Vec Link Global → Type 0
ConjunctionMade (place, (operand, (product, (total, (up_to, (compared, (more, end))))))) x = Joined chains.And place (comparison_level (written operand) product total up_to compared) more x

-- the other side of a comparison
abbrev pub ComparedMade : Comparison → Values comparison_tail_less → Option Compared → Type 0
ComparedMade c (place, (operand, (product, (total, (up_to, end))))) x = (right : Expression) × (x ≡ Some (record { comparison = c; place = place; right = right })) × (written right ≡ range_level (written operand) product total up_to)

-- the end of a range
abbrev pub UpToMade : Values range_tail_dot_dot → Option UpTo → Type 0
UpToMade (place, (operand, (product, (total, end)))) x = (high : Expression) × (x ≡ Some (record { place = place; high = high })) × (written high ≡ total_of (written operand) product total)

abbrev pub TotalMade : ChainOperator → Values total_tail_plus → Vec Link Global → Type 0
TotalMade o (place, (operand, (product, (more, end)))) x = Joined o place (linked (written operand) product) more x

abbrev pub ProductMade : ChainOperator → Values product_tail_star → Vec Link Global → Type 0
ProductMade o (place, (operand, (more, end))) x = Joined o place (written operand) more x
