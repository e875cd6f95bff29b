-- What simple statements are written as, by what stands behind the name, the literal or the extreme that they begin with.
-- Definitions of this project.
use Rattle.std.specs.Prelude.{[], ◌∷◌, reverse}
use Rattle.comet_syntax.specs.declared.token.Word.TheVariants as words
use Rattle.comet_syntax.specs.declared.tree.expressions.Name.{Name}
use Rattle.comet_syntax.specs.declared.tree.statements.WriteOperator.TheVariants as writes
use Rattle.comet_syntax.specs.Grammar.Statements.{write_swap, new_value_new}
use Rattle.comet_syntax.specs.Grammar.Symbols.{write, new_value}
use Rattle.comet_syntax.specs.Written.Shown.{form, Grows, word}
use Rattle.comet_syntax.specs.Written.Expressions.{Writing, by_name, at_postfix, written, name_alone}
use Rattle.comet_syntax.specs.Written.Declarations.{whole_text, made_text}
use Rattle.comet_syntax.specs.Written.Statements.{target_text, equal_head, write_text, step_text}
use Rattle.parse_stacks.specs.declared.tails.NamedRest.{NamedRest}
use Rattle.parse_stacks.specs.declared.tails.NamedRest.TheVariants as named_rests
use Rattle.parse_stacks.specs.declared.tails.NewValue.TheVariants as new_values
use Rattle.parse_stacks.specs.declared.tails.WriteRest.{WriteRest}
use Rattle.parse_stacks.specs.declared.tails.WriteRest.TheVariants as write_rests
use Rattle.parse_stacks.specs.Raised.{named_operand}

-- a target, and what is done with it
abbrev pub done_text : Writing → WriteRest → Grows
done_text target write_rests.Nothing = λ behind. target_text target (form write [] ∷ behind)
done_text target (write_rests.Value operator e) = write_text operator target (whole_text e)
done_text target (write_rests.Swap e) = λ behind. target_text target (form write write_swap ∷ word words.Swap (at_postfix (written e) behind))
done_text target (write_rests.Step s) = step_text s target

-- a name, and what stands behind it
abbrev pub named_text : Name → NamedRest → Grows
named_text n (named_rests.Set (new_values.New c a)) = λ behind. equal_head (by_name n) (form new_value new_value_new ∷ word words.New (made_text c (reverse a.items) behind))
named_text n (named_rests.Set (new_values.Value e)) = write_text writes.Set (name_alone n) (whole_text e)
named_text n (named_rests.Rest called suffixes rest) = done_text (named_operand n called suffixes) rest
