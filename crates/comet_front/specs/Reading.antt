-- What a text is: the one checked program that its tree is, or refused at a place for a cause.
-- A text that can't be cut into tokens, and one whose tokens no tree within the limit spells, have a cause and a place of their own. A tree with a part that the rules of types and effects refuse has that part's place and code. A well typed program that holds a form that isn't built is refused at 1:1.
-- A rule of this project, but for the places and causes, which are the language's.
use Rattle.std.specs.Prelude.{◌≡◌, ℕ, true, false, List, [], ◌∷◌}
use Rattle.cbl_base.specs.declared.limits.TheConstants.{MAX_NESTING}
use Rattle.cbl_base.specs.declared.place.Place.{Place}
use Rattle.checked_tree.specs.declared.statements.Checked.{Checked}
use Rattle.checked_tree.specs.Tasks.{Whole, program_of}
use Rattle.comet_meaning.specs.Built.{is_built}
use Rattle.comet_syntax.specs.declared.stop.FormCause.{FormCause}
use Rattle.comet_syntax.specs.declared.stop.FormCause.TheVariants.{NotBuilt}
use Rattle.comet_syntax.specs.declared.token.Token.{Token}
use Rattle.comet_syntax.specs.declared.tree.program.Program.{Program}
use Rattle.comet_syntax.specs.Place.{first_place, place_behind}
use Rattle.comet_syntax.specs.Refusal.{Refused}
use Rattle.comet_syntax.specs.Spells.{Spells}
use Rattle.comet_syntax.specs.Tokens.TokenFault.{HasTokenFault}
use Rattle.comet_syntax.specs.Tokens.TokenList.{HasTokens}
use Rattle.comet_types.specs.Program.{judged, accepted, refused}
use Rattle.comet_front.specs.declared.stop.TextStop.{TextStop}
use Rattle.comet_front.specs.declared.stop.TextStop.TheVariants.{Fault, IllTyped, NoMemory}

-- a tree spells the text's tokens, with nothing nested deeper than `MAX_NESTING`
pub record HasTree (text : List ℕ) (tree : Program) : Type 0 where
  pub tokens : List Token
  pub listed : HasTokens text tokens
  pub spelled : Spells MAX_NESTING tree tokens

-- the rules of types and effects accept the tree as this program
abbrev pub IsAccepted : Program → Whole → Type 0
IsAccepted tree program = judged tree ≡ accepted program

-- the text's tree is accepted as this program, and each form in it is built
pub record HasProgram (text : List ℕ) (program : Whole) : Type 0 where
  pub tree : Program
  pub has : HasTree text tree
  pub typed : IsAccepted tree program
  pub built : is_built program ≡ true

-- the place of what is left of a text's tokens: the first one's, or that behind the last byte
abbrev pub place_left : List ℕ → List Token → Place
place_left text [] = place_behind text
place_left text (t ∷ more) = t.place

-- the text's tokens are refused
pub record HasNoTree (text : List ℕ) (place : Place) (cause : FormCause) : Type 0 where
  pub tokens : List Token
  pub listed : HasTokens text tokens
  pub before : List Token
  pub rest : List Token
  pub refused : Refused MAX_NESTING tokens before rest cause
  pub place_is : place ≡ place_left text rest

-- the text's tree is accepted as a program with a form that isn't built
pub record IsNotBuilt (text : List ℕ) (place : Place) (cause : FormCause) : Type 0 where
  pub tree : Program
  pub program : Whole
  pub has : HasTree text tree
  pub typed : IsAccepted tree program
  pub not_built : is_built program ≡ false
  pub place_is : place ≡ first_place
  pub cause_is : cause ≡ NotBuilt

-- the text is refused at this place for this cause
pub data IsIllFormed (text : List ℕ) (place : Place) (cause : FormCause) : Type 0 where
  no_tokens : HasTokenFault text place cause → IsIllFormed text place cause
  no_tree : HasNoTree text place cause → IsIllFormed text place cause
  not_built : IsNotBuilt text place cause → IsIllFormed text place cause

-- the text's tree is refused by the rules of types and effects
pub record IsIllTyped (text : List ℕ) (place : Place) (code : ℕ) : Type 0 where
  pub tree : Program
  pub has : HasTree text tree
  pub not_typed : judged tree ≡ refused place code

-- the program is given back, and each form in it is built
pub record IsBuilt (program : Whole) (given : Checked) : Type 0 where
  pub same : program_of given ≡ program
  pub built : is_built program ≡ true

-- why a program isn't given back: it holds a form that isn't built
abbrev pub IsBuiltStop : Whole → TextStop → Type 0
IsBuiltStop program (Fault place cause) = (is_built program ≡ false) × (place ≡ first_place) × (cause ≡ NotBuilt)
IsBuiltStop program (IllTyped place code) = ⊥
IsBuiltStop program NoMemory = ⊥

-- why the rules don't accept a tree: they refuse it, or there was no memory
abbrev pub IsTypeStop : Program → TextStop → Type 0
IsTypeStop tree (Fault place cause) = ⊥
IsTypeStop tree (IllTyped place code) = judged tree ≡ refused place code
IsTypeStop tree NoMemory = Unit {0}

-- why a text gives no program
abbrev pub IsTextStop : List ℕ → TextStop → Type 0
IsTextStop text (Fault place cause) = IsIllFormed text place cause
IsTextStop text (IllTyped place code) = IsIllTyped text place code
IsTextStop text NoMemory = Unit {0}
