-- Each form fits: what is made of its values is written as the form and its values.
use Rattle.parse_machine.specs.declared.form.Form.{Form}
use Rattle.parse_machine.specs.declared.form.Form.TheVariants as forms
use Rattle.parse_machine.specs.Forms.{part_in, body_in}
use Rattle.parse_stacks.specs.Standing.{FitsThere}
use Rattle.parse_stacks.proofs.Undone.{fits_there}
use Rattle.build_expressions.proofs.Fits as expressions
use Rattle.build_declarations.proofs.DeclarationFits as declarations
use Rattle.build_declarations.proofs.ProgramFits as programs
use Rattle.build_statements.proofs.Fitting as statements
use Rattle.comet_parse.specs.Made.{Made}

pub forms_fit : (f : Form) → FitsThere (part_in f) (body_in f) (Made f)
forms_fit (forms.Program f) = fits_there (part_in (forms.Program f)) (body_in (forms.Program f)) (Made (forms.Program f)) (programs.fits f)
forms_fit (forms.Statement f) = statements.fits f
forms_fit (forms.Declaration f) = fits_there (part_in (forms.Declaration f)) (body_in (forms.Declaration f)) (Made (forms.Declaration f)) (declarations.fits f)
forms_fit (forms.Expression f) = fits_there (part_in (forms.Expression f)) (body_in (forms.Expression f)) (Made (forms.Expression f)) (expressions.fits f)
