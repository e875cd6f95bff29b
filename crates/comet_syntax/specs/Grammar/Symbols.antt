-- The parts of a program, and the symbols of which their forms consist.
-- A rule of the language, with each production that needs it cut where a token decides between its forms.
use Rattle.std.specs.Prelude.{Bool, true, false}
use Rattle.comet_syntax.specs.declared.token.Word.{Word}
use Rattle.comet_syntax.specs.Grammar.Kinds.{Kind, a_name, a_number, a_string, a_word}

pub data Part : Type 0 where
  -- programs
  program top result_kind parameters parameters_tail parameter parameter_kind brackets : Part
  template class_name : Part
  -- statements
  block statements statement otherwise optional_value for_start for_step events : Part
  with_mode generators generators_tail condition generator simple named_simple new_value : Part
  write first_name item items_tail : Part
  -- declarations
  declaration int_rest start_value variable_rest domain variable_start maker dimensions : Part
  dimensions_tail dimension dimension_rest : Part
  -- expressions
  expression branches or_tail and_tail comparison_tail range_tail total_tail product_tail : Part
  operand unnamed pair pair_named literal extreme postfix called : Part
  suffixes second arguments listed arguments_tail argument : Part

pub data Symbol : Type 0 where
  -- a token of this kind; whether the tree keeps its place
  token : Bool → Kind → Symbol
  -- a part that is as deep as the whole
  same : Part → Symbol
  -- a part that is one deeper than the whole
  deeper : Part → Symbol
  -- the same, or one deeper, at the head of the form that a part has where the next token begins no other one
  default : Bool → Part → Symbol

abbrev pub onward : Part → Symbol
onward = default false

abbrev pub onward_deeper : Part → Symbol
onward_deeper = default true

-- a sign or a keyword, whose place isn't kept
abbrev pub word : Word → Symbol
word w = token false (a_word w)

-- a sign or a keyword, whose place is kept
abbrev pub mark : Word → Symbol
mark w = token true (a_word w)

abbrev pub named : Symbol
named = token true a_name

abbrev pub numbered : Symbol
numbered = token true a_number

-- a string, whose place isn't kept
abbrev pub quoted : Symbol
quoted = token false a_string
