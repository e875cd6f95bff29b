-- What is made of the values of a form.
-- A definition of this project.
use Rattle.parse_machine.specs.declared.form.Form.{Form}
use Rattle.parse_machine.specs.declared.form.Form.TheVariants as forms
use Rattle.parse_machine.specs.Forms.{part_in, body_in}
use Rattle.parse_stacks.specs.Undoing.{Values}
use Rattle.parse_stacks.specs.Values.{Value}
use Rattle.build_expressions.specs.Made as expressions
use Rattle.build_declarations.specs.MadeDeclarations as declarations
use Rattle.build_declarations.specs.MadePrograms as programs
use Rattle.build_statements.specs.MadeStatements as statements

abbrev pub Made : (f : Form) → Values (body_in f) → Value (part_in f) → Type 0
Made (forms.Program f) = programs.Made f
Made (forms.Statement f) = statements.Made f
Made (forms.Declaration f) = declarations.Made f
Made (forms.Expression f) = expressions.Made f
