-- How strongly an expression binds: where it stands alone at the weaker levels, and what is known of an operand without a name before it.
-- Definitions of this project.
use Rattle.std.specs.Prelude.{false, List, [], ◌∷◌, map, Option, None, Some, ◌≡◌, ◌⊎◌}
use Rattle.comet_syntax.specs.declared.token.Word.{Word}
use Rattle.comet_syntax.specs.declared.token.Word.TheVariants as words
use Rattle.comet_syntax.specs.declared.tree.expressions.ChainOperator.{ChainOperator}
use Rattle.comet_syntax.specs.declared.tree.expressions.ChainOperator.TheVariants as chains
use Rattle.comet_syntax.specs.Grammar.Kinds.{a_word}
use Rattle.comet_syntax.specs.Grammar.Symbols.{Part, token, deeper, expression, branches, or_tail, and_tail, comparison_tail, range_tail, total_tail, product_tail, suffixes, second}
use Rattle.comet_syntax.specs.Written.Shown.{form, Grows, name, each}
use Rattle.comet_syntax.specs.Written.Shown as shown_as
use Rattle.comet_syntax.specs.Written.Expressions.{Writing, chain, postfix_by, written_link, written_suffix, parenthesized, closed, misplaced, whole, LinkText}
use Rattle.cbl_base.specs.declared.place.Place.{Place}
use Rattle.comet_syntax.specs.declared.tree.expressions.Name.{Name}
use Rattle.comet_syntax.specs.declared.tree.expressions.Link.{Link}
use Rattle.comet_syntax.specs.declared.tree.expressions.Suffix.{Suffix}
use Rattle.comet_syntax.specs.Grammar.Expressions.{suffixes_left_bracket, suffixes_dot}

pub record IsDisjunction (e : Writing) : Type 0 where
  pub alone : e.whole_rest ≡ closed branches e.disjunction_rest

pub record IsConjunction (e : Writing) : Type 0 where
  pub disjunction : IsDisjunction e
  pub alone : e.disjunction_rest ≡ closed or_tail e.conjunction_rest

pub record IsComparison (e : Writing) : Type 0 where
  pub conjunction : IsConjunction e
  pub alone : e.conjunction_rest ≡ closed and_tail e.comparison_rest

pub record IsRange (e : Writing) : Type 0 where
  pub comparison : IsComparison e
  pub alone : e.comparison_rest ≡ closed comparison_tail e.range_rest

pub record IsTotal (e : Writing) : Type 0 where
  pub range : IsRange e
  pub alone : e.range_rest ≡ closed range_tail e.total_rest

pub record IsProduct (e : Writing) : Type 0 where
  pub total : IsTotal e
  pub alone : e.total_rest ≡ closed total_tail e.product_rest

pub record IsOperand (e : Writing) : Type 0 where
  pub product : IsProduct e
  pub alone : e.product_rest ≡ closed product_tail e.operand_rest

-- what stands behind the head of a primary
abbrev pub primary_text : Option Grows → Grows
primary_text None = misplaced
primary_text (Some text) = text

abbrev pub IsMultiplying : ChainOperator → Type 0
IsMultiplying o = (o ≡ chains.Multiply) ⊎ ((o ≡ chains.Divide) ⊎ (o ≡ chains.Remainder))

abbrev pub IsAdding : ChainOperator → Type 0
IsAdding o = (o ≡ chains.Add) ⊎ (o ≡ chains.Subtract)

abbrev pub IsConjoining : ChainOperator → Type 0
IsConjoining o = o ≡ chains.And

abbrev pub IsDisjoining : ChainOperator → Type 0
IsDisjoining o = o ≡ chains.Or

-- the first link, if there is one, has such an operator
abbrev pub Starts : (ChainOperator → Type 0) → List LinkText → Type 0
Starts P [] = Unit {0}
Starts P (l ∷ more) = P l.operator

abbrev pub after_text : Part → Word → Option Writing → Grows
after_text n w None behind = form n [] ∷ behind
after_text n w (Some e) behind = form n (token false (a_word w) ∷ deeper expression ∷ []) ∷ shown_as.word w (whole e behind)

-- `[index]` or `[index, second]`
abbrev pub index_text : Place → Writing → Option Writing → Grows
index_text place index other behind = form suffixes suffixes_left_bracket ∷ shown_as.mark words.LeftBracket place (whole index (after_text second words.Comma other (shown_as.word words.RightBracket behind)))

-- `.name(arguments)`
abbrev pub method_text : Name → List Grows → Grows
method_text n a behind = form suffixes suffixes_dot ∷ shown_as.word words.Dot (name n (parenthesized a behind))

-- a first operand with its links, or alone
abbrev pub chained : Writing → List LinkText → Writing
chained head [] = head
chained head (l ∷ more) = chain head (l ∷ more)

-- a primary with its suffixes, or alone
abbrev pub suffixed : Writing → List Grows → Writing
suffixed primary [] = primary
suffixed primary (s ∷ more) = postfix_by primary.primary_rest primary.head (s ∷ more)

-- links and suffixes, and the end of their list
abbrev pub closed_texts : Part → List Link → Grows
closed_texts n ls behind = each (λ x. x.text) (map written_link ls) (form n [] ∷ behind)

abbrev pub closed_suffixes : List Suffix → Grows
closed_suffixes ls behind = each (λ x. x) (map written_suffix ls) (form suffixes [] ∷ behind)
