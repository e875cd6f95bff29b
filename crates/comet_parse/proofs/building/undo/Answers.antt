use Rattle.std.specs.Prelude.{◌≡◌}
use Rattle.std.proofs.Common.{subst, sym}
use Rattle.parse_machine.specs.declared.form.Form.{Form}
use Rattle.parse_machine.specs.Forms.{part_in, body_in}
use Rattle.parse_stacks.specs.declared.stacks.Stacks.{Stacks}
use Rattle.parse_stacks.specs.Undoing.{Undone}
use Rattle.comet_parse.specs.Made.{Made}
use Rattle.comet_parse.proofs.building.undo.Goals as goal

-- what is said of the form in a branch
undone : (a b : Stacks) {f g : Form} → f ≡ g → Undone (part_in g) (body_in g) (Made g) a b → Undone (part_in f) (body_in f) (Made f) a b
undone a b e h = subst (λ z. Undone (part_in z) (body_in z) (Made z) a b) (sym e) h

pub returns-in_ok-undo_program-in-Program : goal.returns-in_ok-undo_program-in-Program
returns-in_ok-undo_program-in-Program c = undone c.args.stacks.now c.undo_program.new.stacks c.in-Program.is c.in_ok-undo_program-in-Program.ensures

pub returns-in_ok-undo_statement-in-Statement : goal.returns-in_ok-undo_statement-in-Statement
returns-in_ok-undo_statement-in-Statement c = undone c.args.stacks.now c.undo_statement.new.stacks c.in-Statement.is c.in_ok-undo_statement-in-Statement.ensures

pub returns-in_ok-undo_declaration-in-Declaration : goal.returns-in_ok-undo_declaration-in-Declaration
returns-in_ok-undo_declaration-in-Declaration c = undone c.args.stacks.now c.undo_declaration.new.stacks c.in-Declaration.is c.in_ok-undo_declaration-in-Declaration.ensures

pub returns-in_ok-undo_expression-in-Expression : goal.returns-in_ok-undo_expression-in-Expression
returns-in_ok-undo_expression-in-Expression c = undone c.args.stacks.now c.undo_expression.new.stacks c.in-Expression.is c.in_ok-undo_expression-in-Expression.ensures
