-- What is made of the values of each form of statements and of what only they consist of.
-- Definitions of this project.
use Rattle.std.specs.Prelude.{[], ◌∷◌, None, Some, map, reverse, ◌≡◌}
use Rattle.comet_syntax.specs.declared.token.Word.TheVariants as words
use Rattle.comet_syntax.specs.declared.tree.expressions.Extreme.TheVariants as extremes
use Rattle.comet_syntax.specs.declared.tree.statements.Item.TheVariants as items
use Rattle.comet_syntax.specs.declared.tree.statements.Step.TheVariants as steps
use Rattle.comet_syntax.specs.declared.tree.statements.WithMode.TheVariants as modes
use Rattle.comet_syntax.specs.declared.tree.statements.WriteOperator.TheVariants as writes
use Rattle.comet_syntax.specs.Grammar.Statements as grammar
use Rattle.comet_syntax.specs.Grammar.Symbols.{statement, simple}
use Rattle.comet_syntax.specs.Written.Shown.{form, word, mark}
use Rattle.comet_syntax.specs.Written.Expressions.{at_postfix, written, written_generators, generators_text}
use Rattle.comet_syntax.specs.Written.Declarations.{whole_text, written_declaration}
use Rattle.comet_syntax.specs.Written.Statements.{items_text, written_simple, value_text, for_start_text, for_step_text, events_text, block_text, statement_by, option_text, if_text, while_text, for_text, over_text, select_by_text, neighbor_text, whenever_text, with_text, parall_text, written_statement, written_block}
use Rattle.parse_machine.specs.declared.form.StatementForm.{StatementForm}
use Rattle.parse_machine.specs.declared.form.StatementForm.TheVariants as forms
use Rattle.parse_machine.specs.Forms.{part_in_statement, body_in_statement}
use Rattle.parse_stacks.specs.declared.stacks.Stacks.{Stacks}
use Rattle.parse_stacks.specs.declared.tails.NamedRest.TheVariants as named_rests
use Rattle.parse_stacks.specs.declared.tails.NewValue.TheVariants as new_values
use Rattle.parse_stacks.specs.declared.tails.WriteRest.TheVariants as write_rests
use Rattle.parse_stacks.specs.Raised.{with_suffixes}
use Rattle.parse_stacks.specs.Undoing.{Values, Ready, Undone}
use Rattle.parse_stacks.specs.Values.{Value}
use Rattle.build_expressions.specs.MadeGenerators.{ConditionMade, GeneratorMade, GeneratorsMade, MoreGeneratorsMade}
use Rattle.build_simples.specs.MadeSimples.{done_text, named_text}

abbrev pub Made : (f : StatementForm) → Values (body_in_statement f) → Value (part_in_statement f) → Type 0
Made forms.BlockLeftBrace v x = written_block x ≡ block_text v.0 (map written_statement (reverse v.1.0.items))
Made forms.StatementsNone v x = x.items ≡ []
Made forms.StatementsStatement v x = reverse x.items ≡ v.0 ∷ reverse v.1.0.items
Made forms.StatementBlock v x = written_statement x ≡ (λ behind. form statement grammar.statement_block ∷ written_block v.0 behind)
Made forms.StatementSemicolon v x = written_statement x ≡ statement_by grammar.statement_semicolon words.Semicolon v.0
Made forms.StatementDeclaration v x = written_statement x ≡ (λ behind. form statement grammar.statement_declaration ∷ written_declaration v.0 (word words.Semicolon behind))
Made forms.StatementSimple v x = written_statement x ≡ (λ behind. form statement grammar.statement_simple ∷ written_simple v.0 (word words.Semicolon behind))
Made forms.StatementReturn v x = written_statement x ≡ (λ behind. statement_by grammar.statement_return words.Return v.0 (value_text v.1.0 (word words.Semicolon behind)))
Made forms.StatementIf v x = written_statement x ≡ if_text v.0 (whole_text v.1.1.0) (written_statement v.1.1.1.1.0) (option_text written_statement v.1.1.1.1.1.0)
Made forms.StatementWhile v x = written_statement x ≡ while_text v.0 (whole_text v.1.1.0) (written_statement v.1.1.1.1.0)
Made forms.StatementFor v x = written_statement x ≡ for_text v.0 (for_start_text v.1.1.0) (value_text v.1.1.1.1.0) (for_step_text v.1.1.1.1.1.1.0) (written_statement v.1.1.1.1.1.1.1.1.0)
Made forms.StatementForAll v x = written_statement x ≡ over_text grammar.statement_for_all words.ForAll v.0 (generators_text (written_generators v.1.1.0)) (written_statement v.1.1.1.1.0)
Made forms.StatementSelect v x = written_statement x ≡ over_text grammar.statement_select words.Select v.0 (generators_text (written_generators v.1.1.0)) (written_statement v.1.1.1.1.0)
Made forms.StatementSelectMin v x = written_statement x ≡ select_by_text extremes.Min v.0 (generators_text (written_generators v.1.1.0)) (whole_text v.1.1.1.1.1.0) (written_statement v.1.1.1.1.1.1.1.0)
Made forms.StatementSelectMax v x = written_statement x ≡ select_by_text extremes.Max v.0 (generators_text (written_generators v.1.1.0)) (whole_text v.1.1.1.1.1.0) (written_statement v.1.1.1.1.1.1.1.0)
Made forms.StatementNeighbor v x = written_statement x ≡ neighbor_text v.0 (whole_text v.1.1.0) v.1.1.1.1.0 (written_statement v.1.1.1.1.1.1.0)
Made forms.StatementWhenever v x = written_statement x ≡ whenever_text v.0 (at_postfix (written v.1.0)) v.1.1.1.0 (events_text v.1.1.1.1.1.0) (written_statement v.1.1.1.1.1.1.1.0)
Made forms.StatementWith v x = written_statement x ≡ with_text v.0 v.1.0 v.1.1.1.0 (written_block v.1.1.1.1.1.0)
Made forms.StatementParall v x = written_statement x ≡ parall_text v.0 v.1.1.0 (whole_text v.1.1.1.1.0) (written_statement v.1.1.1.1.1.1.0)
Made forms.OtherwiseNone v x = x ≡ None
Made forms.OtherwiseElse v x = x ≡ Some v.1.0
Made forms.OptionalValueNone v x = x ≡ None
Made forms.OptionalValueExpression v x = x ≡ Some v.0
Made forms.ForStartNone v x = x ≡ None
Made forms.ForStartInt v x = x ≡ Some (record { name = v.1.0; value = v.1.1.1.0 })
Made forms.ForStepNone v x = x ≡ None
Made forms.ForStepSimple v x = x ≡ Some v.0
Made forms.EventsNone v x = x ≡ None
Made forms.EventsInt v x = x ≡ Some (record { old = v.1.0; new = v.1.1.1.1.0 })
Made forms.WithModeAtomic v x = x ≡ modes.Atomic
Made forms.WithModeDelay v x = x ≡ modes.Delay
Made forms.GeneratorsGenerator v x = GeneratorsMade v x
Made forms.GeneratorsTailNone v x = x.items ≡ []
Made forms.GeneratorsTailComma v x = MoreGeneratorsMade v x
Made forms.ConditionNone v x = x ≡ None
Made forms.ConditionColon v x = ConditionMade v x
Made forms.GeneratorName v x = GeneratorMade v x
Made forms.SimpleFirstName v x = written_simple x ≡ named_text v.0 v.1.0
Made forms.SimpleLiteral v x = written_simple x ≡ done_text (with_suffixes (written v.0) v.1.0) v.1.1.0
Made forms.SimpleExtreme v x = written_simple x ≡ done_text (with_suffixes (written v.0) v.1.0) v.1.1.0
Made forms.SimpleCout v x = written_simple x ≡ (λ behind. form simple grammar.simple_cout ∷ mark words.Cout v.0 (items_text (v.1.1.0 ∷ reverse v.1.1.1.0.items) behind))
Made forms.SimpleCall v x = written_simple x ≡ (λ behind. form simple grammar.simple_call ∷ mark words.Call v.0 (word words.LeftParenthesis (whole_text v.1.1.0 (word words.RightParenthesis behind))))
Made forms.NamedSimpleEqual v x = x ≡ named_rests.Set v.1.0
Made forms.NamedSimpleCalled v x = x ≡ named_rests.Rest v.0 v.1.0 v.1.1.0
Made forms.NewValueNew v x = x ≡ new_values.New v.1.0 v.1.1.1.0
Made forms.NewValueExpression v x = x ≡ new_values.Value v.0
Made forms.WriteNone v x = x ≡ write_rests.Nothing
Made forms.WriteEqual v x = x ≡ write_rests.Value writes.Set v.1.0
Made forms.WritePlusEqual v x = x ≡ write_rests.Value writes.Add v.1.0
Made forms.WriteMinusEqual v x = x ≡ write_rests.Value writes.Subtract v.1.0
Made forms.WriteAssign v x = x ≡ write_rests.Value writes.Assign v.1.0
Made forms.WriteArrow v x = x ≡ write_rests.Value writes.Define v.1.0
Made forms.WriteSwap v x = x ≡ write_rests.Swap v.1.0
Made forms.WritePlusPlus v x = x ≡ write_rests.Step steps.Increment
Made forms.WriteMinusMinus v x = x ≡ write_rests.Step steps.Decrement
Made forms.FirstNameName v x = x ≡ v.0
Made forms.ItemExpression v x = x ≡ items.Expression v.0
Made forms.ItemString v x = x ≡ items.Str v.0
Made forms.ItemEndl v x = x ≡ items.EndLine
Made forms.ItemsTailNone v x = x.items ≡ []
Made forms.ItemsTailLessLess v x = reverse x.items ≡ v.1.0 ∷ reverse v.1.1.0.items

-- the values of the symbols of a form stand on the stacks
abbrev pub IsReady : StatementForm → Stacks → Type 0
IsReady f stacks = Ready (body_in_statement f) stacks

-- the values of the symbols were taken, and what is made of them was put there
abbrev pub IsUndone : StatementForm → Stacks → Stacks → Type 0
IsUndone f old new = Undone (part_in_statement f) (body_in_statement f) (Made f) old new
