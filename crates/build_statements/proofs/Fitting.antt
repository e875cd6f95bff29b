-- What is made of the values of each form of statements is written as the form and its values.
use Rattle.std.specs.Prelude.{Bool, true, false, List, [], ◌∷◌, Option, None, Some, ◌≡◌, map, reverse, refl}
use Rattle.std.proofs.Common.{sym, ◌∙◌, ap, subst}
use Rattle.std.specs.declared.alloc.Global.{Global}
use Rattle.std.specs.declared.vec.Vec.{Vec}
use Rattle.comet_syntax.specs.declared.token.Word.TheVariants as words
use Rattle.comet_syntax.specs.declared.tree.expressions.Argument.{Argument}
use Rattle.comet_syntax.specs.declared.tree.expressions.Expression.{Expression}
use Rattle.comet_syntax.specs.declared.tree.expressions.Extreme.{Extreme}
use Rattle.comet_syntax.specs.declared.tree.expressions.Name.{Name}
use Rattle.comet_syntax.specs.declared.tree.expressions.Suffix.{Suffix}
use Rattle.comet_syntax.specs.declared.tree.statements.Step.TheVariants as steps
use Rattle.comet_syntax.specs.declared.tree.statements.WriteOperator.TheVariants as writes
use Rattle.comet_syntax.specs.Grammar.First.{first}
use Rattle.comet_syntax.specs.Grammar.Statements as grammar
use Rattle.comet_syntax.specs.Grammar.Symbols.{Part, Symbol, block, statements, statement, otherwise, optional_value, for_start, for_step, events, with_mode, generators_tail, condition, simple, named_simple, new_value, write, first_name, item, items_tail}
use Rattle.comet_syntax.specs.Written.Shown.{Shown, form, Grows, each, word, name}
use Rattle.comet_syntax.specs.Written.Expressions.{Head, by_opening, by_literal, by_extreme, two_in_pair, two_apart, Writing, from_primary, written, written_suffix, written_generator, more_generator}
use Rattle.comet_syntax.specs.Written.Declarations.{whole_text}
use Rattle.comet_syntax.specs.Written.Statements.{simple_head, target_text, set_text, write_text, step_text, written_simple, written_statement, written_item, more_item, more_statement, otherwise_text, option_text, value_text, for_start_text, for_step_text, events_text, mode_text}
use Rattle.parse_machine.specs.declared.form.StatementForm.{StatementForm}
use Rattle.parse_machine.specs.declared.form.StatementForm.TheVariants as forms
use Rattle.parse_machine.specs.Forms.{part_in_statement, body_in_statement}
use Rattle.parse_stacks.specs.declared.tails.NamedRest.{NamedRest}
use Rattle.parse_stacks.specs.declared.tails.NamedRest.TheVariants as named_rests
use Rattle.parse_stacks.specs.declared.tails.NewValue.TheVariants as new_values
use Rattle.parse_stacks.specs.declared.tails.WriteRest.{WriteRest}
use Rattle.parse_stacks.specs.declared.tails.WriteRest.TheVariants as write_rests
use Rattle.parse_stacks.specs.Levels.{IsOperand, closed_suffixes, suffixed}
use Rattle.parse_stacks.specs.Raised.{called_by, with_suffixes, named_operand}
use Rattle.parse_stacks.specs.Standing.{Fits, FitsThere, MayStand, next_shown, texts, Levels}
use Rattle.parse_stacks.specs.Texts.{text, IsLiteral, IsExtreme, NamedRestLevel, literal_text, extreme_text, IsSetElsewhere, called_text, write_rest_text, new_value_text, named_rest_text}
use Rattle.parse_stacks.specs.Undoing.{Values}
use Rattle.parse_stacks.specs.Values.{Value}
use Rattle.parse_stacks.proofs.GoingOn.{Suffixed, suffixed_goes, Named, named_goes}
use Rattle.parse_stacks.proofs.Undone.{fits_there}
use Rattle.build_expressions.proofs.Generators.{condition_fit, generator_fit, generators_fit, more_generators_fit}
use Rattle.build_simples.specs.MadeSimples.{done_text, named_text}
use Rattle.build_statements.specs.MadeStatements.{Made}

-- a target that may be set: where it is set by a form that isn't for a bare name, it is no bare name
abbrev IsSettable : Writing → WriteRest → Type 0
IsSettable t (write_rests.Value writes.Set e) = t.is_name ≡ false
IsSettable t w = Unit {0}

settable : (t : Writing) (w : WriteRest) → t.is_name ≡ false → IsSettable t w
settable t write_rests.Nothing e = tt
settable t (write_rests.Value writes.Set v) e = e
settable t (write_rests.Value writes.Add v) e = tt
settable t (write_rests.Value writes.Subtract v) e = tt
settable t (write_rests.Value writes.Assign v) e = tt
settable t (write_rests.Value writes.Define v) e = tt
settable t (write_rests.Swap v) e = tt
settable t (write_rests.Step s) e = tt

-- a target, and then what is done with it
target_goes : (t : Writing) (w : WriteRest) → IsSettable t w → (Y : List Shown) → target_text t (write_rest_text w Y) ≡ done_text t w Y
target_goes t write_rests.Nothing e Y = refl
target_goes t (write_rests.Value writes.Set v) e Y = ap (λ z. set_text z t (whole_text v) Y) (sym e)
target_goes t (write_rests.Value writes.Add v) e Y = refl
target_goes t (write_rests.Value writes.Subtract v) e Y = refl
target_goes t (write_rests.Value writes.Assign v) e Y = refl
target_goes t (write_rests.Value writes.Define v) e Y = refl
target_goes t (write_rests.Swap v) e Y = refl
target_goes t (write_rests.Step steps.Increment) e Y = refl
target_goes t (write_rests.Step steps.Decrement) e Y = refl

-- a literal or an extreme with its suffixes is no bare name
no_name : (h : Head) (ls : List Suffix) → (suffixed (from_primary h (λ behind. behind)) (map written_suffix ls)).is_name ≡ false
no_name h [] = refl
no_name h (k ∷ ls) = refl

unnamed_goes : (p : Writing) (h : Head) (all : Vec Suffix Global) (w : WriteRest) → p ≡ from_primary h (λ behind. behind) → (Y : List Shown)
    → simple_head p.head (closed_suffixes (reverse all.items) (write_rest_text w Y)) ≡ done_text (with_suffixes p all) w Y
unnamed_goes p h all w e Y =
    let g = suffixed_goes p (λ behind. behind) h all e in
    let t = with_suffixes p all in
    let bare : t.is_name ≡ false = ap (λ z. (suffixed z (map written_suffix (reverse all.items))).is_name) e ∙ no_name h (reverse all.items) in
    ap (λ z. simple_head z (closed_suffixes (reverse all.items) (write_rest_text w Y))) (sym g.head) ∙ ap (simple_head t.head) (g.rest (write_rest_text w Y)) ∙ target_goes t w (settable t w bare) Y

-- a name with more behind it than nothing is no bare name
named_settable : (n : Name) (c : Option (Vec Argument Global)) (all : Vec Suffix Global) (w : WriteRest) → NamedRestLevel (named_rests.Rest c all w) → IsSettable (named_operand n c all) w
named_settable n None all w l = bare (reverse all.items) w l where
  bare : (ls : List Suffix) (w : WriteRest) → IsSetElsewhere ls w → IsSettable (suffixed (called_by n None) (map written_suffix ls)) w
  bare [] write_rests.Nothing l = tt
  bare [] (write_rests.Value writes.Set v) l = absurd l
  bare [] (write_rests.Value writes.Add v) l = tt
  bare [] (write_rests.Value writes.Subtract v) l = tt
  bare [] (write_rests.Value writes.Assign v) l = tt
  bare [] (write_rests.Value writes.Define v) l = tt
  bare [] (write_rests.Swap v) l = tt
  bare [] (write_rests.Step s) l = tt
  bare (k ∷ ls) w l = settable (suffixed (called_by n None) (map written_suffix (k ∷ ls))) w refl
named_settable n (Some a) all w l = settable (named_operand n (Some a) all) w (called_is (reverse all.items)) where
  called_is : (ls : List Suffix) → (suffixed (called_by n (Some a)) (map written_suffix ls)).is_name ≡ false
  called_is [] = refl
  called_is (k ∷ ls) = refl

literal_fits : (p : Writing) → IsLiteral p → (all : Vec Suffix Global) (w : WriteRest) (Y : List Shown)
    → form simple grammar.simple_literal ∷ literal_text p.head (closed_suffixes (reverse all.items) (write_rest_text w Y)) ≡ done_text (with_suffixes p all) w Y
literal_fits p i all w Y =
    let e = ap (λ z. z.head) i.is in
    let Z = closed_suffixes (reverse all.items) (write_rest_text w Y) in
    ap (λ z. form simple grammar.simple_literal ∷ literal_text z Z) e ∙ ap (λ z. simple_head z Z) (sym e) ∙ unnamed_goes p (by_opening (by_literal i.text)) all w i.is Y

extreme_fits : (p : Writing) → IsExtreme p → (all : Vec Suffix Global) (w : WriteRest) (Y : List Shown)
    → form simple grammar.simple_extreme ∷ extreme_text p.head (closed_suffixes (reverse all.items) (write_rest_text w Y)) ≡ done_text (with_suffixes p all) w Y
extreme_fits p i all w Y =
    let h = by_opening (by_extreme i.extreme i.place (two_in_pair i.left i.right) (two_apart i.left i.right)) in
    let e : p.head ≡ h = ap (λ z. z.head) i.is in
    let Z = closed_suffixes (reverse all.items) (write_rest_text w Y) in
    ap (λ z. form simple grammar.simple_extreme ∷ extreme_text z Z) e ∙ ap (λ z. simple_head z Z) (sym e) ∙ unnamed_goes p h all w i.is Y

named_fits : (n : Name) (r : NamedRest) → NamedRestLevel r → (Y : List Shown) → form simple grammar.simple_first_name ∷ form first_name grammar.first_name_name ∷ name n (named_rest_text r Y) ≡ named_text n r Y
named_fits n (named_rests.Set (new_values.New c a)) l Y = refl
named_fits n (named_rests.Set (new_values.Value e)) l Y = refl
named_fits n (named_rests.Rest c all w) l Y =
    let g = named_goes n c all in
    let t = named_operand n c all in
    ap (λ z. simple_head z (called_text c (closed_suffixes (reverse all.items) (write_rest_text w Y)))) (sym g.head) ∙ ap (simple_head t.head) (g.rest (write_rest_text w Y)) ∙ target_goes t w (named_settable n c all w l) Y

-- where `=` begins no other form, a bare name isn't set
set_elsewhere : (all : List Suffix) (w : WriteRest) (Y : List Shown) → next_shown (first named_simple) (called_text None (closed_suffixes all (write_rest_text w Y))) ≡ false → IsSetElsewhere all w
set_elsewhere [] write_rests.Nothing Y s = tt
set_elsewhere [] (write_rests.Value writes.Set e) Y s = let no : true ≡ false = s in absurd cc
set_elsewhere [] (write_rests.Value writes.Add e) Y s = tt
set_elsewhere [] (write_rests.Value writes.Subtract e) Y s = tt
set_elsewhere [] (write_rests.Value writes.Assign e) Y s = tt
set_elsewhere [] (write_rests.Value writes.Define e) Y s = tt
set_elsewhere [] (write_rests.Swap e) Y s = tt
set_elsewhere [] (write_rests.Step o) Y s = tt
set_elsewhere (k ∷ ks) w Y s = tt

named_level : (c : Option (Vec Argument Global)) (all : Vec Suffix Global) (w : WriteRest) (Y : List Shown)
    → next_shown (first named_simple) (called_text c (closed_suffixes (reverse all.items) (write_rest_text w Y))) ≡ false → NamedRestLevel (named_rests.Rest c all w)
named_level None all w Y s = set_elsewhere (reverse all.items) w Y s
named_level (Some a) all w Y s = tt

there : (f : StatementForm) → Fits (part_in_statement f) (body_in_statement f) (Made f) → FitsThere (part_in_statement f) (body_in_statement f) (Made f)
there f = fits_there (part_in_statement f) (body_in_statement f) (Made f)

pub fits : (f : StatementForm) → FitsThere (part_in_statement f) (body_in_statement f) (Made f)
fits forms.BlockLeftBrace = there forms.BlockLeftBrace (λ v x l m. (tt, λ Y. ap (λ z. z Y) (sym m)))
fits forms.StatementsNone = there forms.StatementsNone (λ v x l m. (tt, λ Y. ap (λ z. each more_statement (map written_statement (reverse z)) (form statements [] ∷ Y)) (sym m)))
fits forms.StatementsStatement = there forms.StatementsStatement (λ v x l m. (tt, λ Y. ap (λ z. each more_statement (map written_statement z) (form statements [] ∷ Y)) (sym m)))
fits forms.StatementBlock = there forms.StatementBlock (λ v x l m. (tt, λ Y. ap (λ z. z Y) (sym m)))
fits forms.StatementSemicolon = there forms.StatementSemicolon (λ v x l m. (tt, λ Y. ap (λ z. z Y) (sym m)))
fits forms.StatementDeclaration = there forms.StatementDeclaration (λ v x l m. (tt, λ Y. ap (λ z. z Y) (sym m)))
fits forms.StatementSimple = there forms.StatementSimple (λ v x l m. (tt, λ Y. ap (λ z. z Y) (sym m)))
fits forms.StatementReturn = there forms.StatementReturn (λ v x l m. (tt, λ Y. ap (λ z. z Y) (sym m)))
fits forms.StatementIf = there forms.StatementIf (λ v x l m. (tt, λ Y. ap (λ z. z Y) (sym m)))
fits forms.StatementWhile = there forms.StatementWhile (λ v x l m. (tt, λ Y. ap (λ z. z Y) (sym m)))
fits forms.StatementFor = there forms.StatementFor (λ v x l m. (tt, λ Y. ap (λ z. z Y) (sym m)))
fits forms.StatementForAll = there forms.StatementForAll (λ v x l m. (tt, λ Y. ap (λ z. z Y) (sym m)))
fits forms.StatementSelect = there forms.StatementSelect (λ v x l m. (tt, λ Y. ap (λ z. z Y) (sym m)))
fits forms.StatementSelectMin = there forms.StatementSelectMin (λ v x l m. (tt, λ Y. ap (λ z. z Y) (sym m)))
fits forms.StatementSelectMax = there forms.StatementSelectMax (λ v x l m. (tt, λ Y. ap (λ z. z Y) (sym m)))
fits forms.StatementNeighbor = there forms.StatementNeighbor (λ v x l m. (tt, λ Y. ap (λ z. z Y) (sym m)))
fits forms.StatementWhenever = there forms.StatementWhenever (λ v x l m. (tt, λ Y. ap (λ z. z Y) (sym m)))
fits forms.StatementWith = there forms.StatementWith (λ v x l m. (tt, λ Y. ap (λ z. z Y) (sym m)))
fits forms.StatementParall = there forms.StatementParall (λ v x l m. (tt, λ Y. ap (λ z. z Y) (sym m)))
fits forms.OtherwiseNone = there forms.OtherwiseNone (λ v x l m. (tt, λ Y. ap (λ z. text otherwise z Y) (sym m)))
fits forms.OtherwiseElse = there forms.OtherwiseElse (λ v x l m. (tt, λ Y. ap (λ z. text otherwise z Y) (sym m)))
fits forms.OptionalValueNone = there forms.OptionalValueNone (λ v x l m. (tt, λ Y. ap (λ z. text optional_value z Y) (sym m)))
fits forms.OptionalValueExpression = there forms.OptionalValueExpression (λ v x l m. (tt, λ Y. ap (λ z. text optional_value z Y) (sym m)))
fits forms.ForStartNone = there forms.ForStartNone (λ v x l m. (tt, λ Y. ap (λ z. text for_start z Y) (sym m)))
fits forms.ForStartInt = there forms.ForStartInt (λ v x l m. (tt, λ Y. ap (λ z. text for_start z Y) (sym m)))
fits forms.ForStepNone = there forms.ForStepNone (λ v x l m. (tt, λ Y. ap (λ z. text for_step z Y) (sym m)))
fits forms.ForStepSimple = there forms.ForStepSimple (λ v x l m. (tt, λ Y. ap (λ z. text for_step z Y) (sym m)))
fits forms.EventsNone = there forms.EventsNone (λ v x l m. (tt, λ Y. ap (λ z. text events z Y) (sym m)))
fits forms.EventsInt = there forms.EventsInt (λ v x l m. (tt, λ Y. ap (λ z. text events z Y) (sym m)))
fits forms.WithModeAtomic = there forms.WithModeAtomic (λ v x l m. (tt, λ Y. ap (λ z. text with_mode z Y) (sym m)))
fits forms.WithModeDelay = there forms.WithModeDelay (λ v x l m. (tt, λ Y. ap (λ z. text with_mode z Y) (sym m)))
fits forms.GeneratorsGenerator = there forms.GeneratorsGenerator generators_fit
fits forms.GeneratorsTailNone = there forms.GeneratorsTailNone (λ v x l m. (tt, λ Y. ap (λ z. each more_generator (map written_generator (reverse z)) (form generators_tail [] ∷ Y)) (sym m)))
fits forms.GeneratorsTailComma = there forms.GeneratorsTailComma more_generators_fit
fits forms.ConditionNone = there forms.ConditionNone (λ v x l m. (tt, λ Y. ap (λ z. text condition z Y) (sym m)))
fits forms.ConditionColon = there forms.ConditionColon condition_fit
fits forms.GeneratorName = there forms.GeneratorName generator_fit
fits forms.SimpleFirstName = there forms.SimpleFirstName (λ v x l m. (tt, λ Y. named_fits v.0 v.1.0 l.1.0 Y ∙ ap (λ z. z Y) (sym m)))
fits forms.SimpleLiteral = there forms.SimpleLiteral (λ v x l m. (tt, λ Y. literal_fits (written v.0) l.0 v.1.0 v.1.1.0 Y ∙ ap (λ z. z Y) (sym m)))
fits forms.SimpleExtreme = there forms.SimpleExtreme (λ v x l m. (tt, λ Y. extreme_fits (written v.0) l.0 v.1.0 v.1.1.0 Y ∙ ap (λ z. z Y) (sym m)))
fits forms.SimpleCout = there forms.SimpleCout (λ v x l m. (tt, λ Y. ap (λ z. z Y) (sym m)))
fits forms.SimpleCall = there forms.SimpleCall (λ v x l m. (tt, λ Y. ap (λ z. z Y) (sym m)))
fits forms.NamedSimpleEqual = there forms.NamedSimpleEqual (λ v x l m. (subst NamedRestLevel (sym m) tt, λ Y. ap (λ z. named_rest_text z Y) (sym m)))
fits forms.NamedSimpleCalled = λ v x l m Y s. (subst NamedRestLevel (sym m) (named_level v.0 v.1.0 v.1.1.0 Y s), ap (λ z. named_rest_text z Y) (sym m))
fits forms.NewValueNew = there forms.NewValueNew (λ v x l m. (tt, λ Y. ap (λ z. text new_value z Y) (sym m)))
fits forms.NewValueExpression = there forms.NewValueExpression (λ v x l m. (tt, λ Y. ap (λ z. text new_value z Y) (sym m)))
fits forms.WriteNone = there forms.WriteNone (λ v x l m. (tt, λ Y. ap (λ z. text write z Y) (sym m)))
fits forms.WriteEqual = there forms.WriteEqual (λ v x l m. (tt, λ Y. ap (λ z. text write z Y) (sym m)))
fits forms.WritePlusEqual = there forms.WritePlusEqual (λ v x l m. (tt, λ Y. ap (λ z. text write z Y) (sym m)))
fits forms.WriteMinusEqual = there forms.WriteMinusEqual (λ v x l m. (tt, λ Y. ap (λ z. text write z Y) (sym m)))
fits forms.WriteAssign = there forms.WriteAssign (λ v x l m. (tt, λ Y. ap (λ z. text write z Y) (sym m)))
fits forms.WriteArrow = there forms.WriteArrow (λ v x l m. (tt, λ Y. ap (λ z. text write z Y) (sym m)))
fits forms.WriteSwap = there forms.WriteSwap (λ v x l m. (tt, λ Y. ap (λ z. text write z Y) (sym m)))
fits forms.WritePlusPlus = there forms.WritePlusPlus (λ v x l m. (tt, λ Y. ap (λ z. text write z Y) (sym m)))
fits forms.WriteMinusMinus = there forms.WriteMinusMinus (λ v x l m. (tt, λ Y. ap (λ z. text write z Y) (sym m)))
fits forms.FirstNameName = there forms.FirstNameName (λ v x l m. (tt, λ Y. ap (λ z. text first_name z Y) (sym m)))
fits forms.ItemExpression = there forms.ItemExpression (λ v x l m. (tt, λ Y. ap (λ z. text item z Y) (sym m)))
fits forms.ItemString = there forms.ItemString (λ v x l m. (tt, λ Y. ap (λ z. text item z Y) (sym m)))
fits forms.ItemEndl = there forms.ItemEndl (λ v x l m. (tt, λ Y. ap (λ z. text item z Y) (sym m)))
fits forms.ItemsTailNone = there forms.ItemsTailNone (λ v x l m. (tt, λ Y. ap (λ z. each more_item (reverse z) (form items_tail [] ∷ Y)) (sym m)))
fits forms.ItemsTailLessLess = there forms.ItemsTailLessLess (λ v x l m. (tt, λ Y. ap (λ z. each more_item z (form items_tail [] ∷ Y)) (sym m)))
