-- What stands on the stacks of a token: of a sign or a keyword its place, where the tree keeps it; a name; a number as an expression; the text of a string.
-- A definition of this project.
use Rattle.std.specs.Prelude.{Bool, true, false, ◌∷◌, ◌≡◌}
use Rattle.cbl_base.specs.declared.place.Place.{Place}
use Rattle.comet_syntax.specs.declared.token.Token.{Token}
use Rattle.comet_syntax.specs.declared.token.TokenKind.{TokenKind}
use Rattle.comet_syntax.specs.declared.token.TokenKind.TheVariants as kinds
use Rattle.comet_syntax.specs.declared.tree.expressions.Expression.{Expression}
use Rattle.comet_syntax.specs.declared.tree.expressions.Name.{Name}
use Rattle.comet_syntax.specs.Written.Expressions.{written, number}
use Rattle.parse_stacks.specs.Values.{State}

abbrev pub KeepsKind : Bool → TokenKind → Place → State → State → Type 0
KeepsKind m (kinds.Name text) place a b = (n : Name) × (n.text ≡ text) × (n.place ≡ place) × (b.names ≡ n ∷ a.names) × (record b { names = a.names } ≡ a)
KeepsKind m (kinds.Number v) place a b = (e : Expression) × (written e ≡ number v place) × (b.expressions ≡ e ∷ a.expressions) × (record b { expressions = a.expressions } ≡ a)
KeepsKind m (kinds.Str text) place a b = (b.texts ≡ text ∷ a.texts) × (record b { texts = a.texts } ≡ a)
KeepsKind true (kinds.Word w) place a b = (b.places ≡ place ∷ a.places) × (record b { places = a.places } ≡ a)
KeepsKind false (kinds.Word w) place a b = b ≡ a

abbrev pub Keeps : Bool → Token → State → State → Type 0
Keeps m t a b = KeepsKind m t.kind t.place a b
