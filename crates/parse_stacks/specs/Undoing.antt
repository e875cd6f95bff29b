-- What is taken from the stacks where a form is undone, and what is put there.
-- Definitions of this project.
use Rattle.std.specs.Prelude.{ℕ, Bool, true, false, List, [], ◌∷◌, ◌≡◌}
use Rattle.cbl_base.specs.declared.place.Place.{Place}
use Rattle.comet_syntax.specs.declared.tree.expressions.Expression.{Expression}
use Rattle.comet_syntax.specs.declared.tree.expressions.Name.{Name}
use Rattle.comet_syntax.specs.Grammar.Kinds.{Kind, a_name, a_number, a_string, numbered_word}
use Rattle.comet_syntax.specs.Grammar.Symbols.{Part, Symbol, token, same, deeper, default}
use Rattle.parse_stacks.specs.declared.stacks.Stacks.{Stacks}
use Rattle.parse_stacks.specs.Values.{State, Value, stack, with_stack, state}

-- the value of a token that the tree keeps something of: the place of a sign or a keyword, a name, a number as an expression, the text of a string
abbrev pub Kept : Bool → Kind → Type 0
Kept true (numbered_word w) = Place
Kept false (numbered_word w) = Unit {0}
Kept m a_name = Name
Kept m a_number = Expression
Kept m a_string = List ℕ

-- the values of symbols, the first one first
abbrev pub Values : List Symbol → Type 0
Values [] = Unit {0}
Values (token m k ∷ body) = Kept m k × Values body
Values (same n ∷ body) = Value n × Values body
Values (deeper n ∷ body) = Value n × Values body
Values (default b n ∷ body) = Value n × Values body

abbrev pub TakesToken : (m : Bool) (k : Kind) → State → (Kept m k → State → Type 0) → Type 0
TakesToken true (numbered_word w) a P = (p : Place) × (ps : List Place) × (a.places ≡ p ∷ ps) × P p (record a { places = ps })
TakesToken false (numbered_word w) a P = P tt a
TakesToken true a_name a P = (n : Name) × (ns : List Name) × (a.names ≡ n ∷ ns) × P n (record a { names = ns })
TakesToken false a_name a P = (n : Name) × (ns : List Name) × (a.names ≡ n ∷ ns) × P n (record a { names = ns })
TakesToken true a_number a P = (e : Expression) × (es : List Expression) × (a.expressions ≡ e ∷ es) × P e (record a { expressions = es })
TakesToken false a_number a P = (e : Expression) × (es : List Expression) × (a.expressions ≡ e ∷ es) × P e (record a { expressions = es })
TakesToken true a_string a P = (t : List ℕ) × (ts : List (List ℕ)) × (a.texts ≡ t ∷ ts) × P t (record a { texts = ts })
TakesToken false a_string a P = (t : List ℕ) × (ts : List (List ℕ)) × (a.texts ≡ t ∷ ts) × P t (record a { texts = ts })

-- the value of a part is taken from its stack
abbrev pub TakesPart : (n : Part) → State → (Value n → State → Type 0) → Type 0
TakesPart n a P = (x : Value n) × (xs : List (Value n)) × (stack n a ≡ x ∷ xs) × P x (with_stack n a xs)

-- the values of symbols are taken from their stacks, the first one first, and then this holds of them and of what is left
abbrev pub Takes : (body : List Symbol) → State → (Values body → State → Type 0) → Type 0
Takes [] a P = P tt a
Takes (token m k ∷ body) a P = TakesToken m k a (λ x b. Takes body b (λ v c. P (x, v) c))
Takes (same n ∷ body) a P = TakesPart n a (λ x b. Takes body b (λ v c. P (x, v) c))
Takes (deeper n ∷ body) a P = TakesPart n a (λ x b. Takes body b (λ v c. P (x, v) c))
Takes (default d n ∷ body) a P = TakesPart n a (λ x b. Takes body b (λ v c. P (x, v) c))

-- the stacks with a value more on top
abbrev pub Puts : (n : Part) → Value n → State → State → Type 0
Puts n x a b = (stack n b ≡ x ∷ stack n a) × (with_stack n b (stack n a) ≡ a)

-- the values of the symbols are taken, and the value that is made of them is put there
abbrev pub Undoes : (n : Part) (body : List Symbol) → (Values body → Value n → Type 0) → State → State → Type 0
Undoes n body Made a b = Takes body a (λ v c. (x : Value n) × Made v x × Puts n x c b)

-- the values of the symbols stand on the stacks
abbrev pub Ready : List Symbol → Stacks → Type 0
Ready body stacks = Takes body (state stacks) (λ v b. Unit {0})

-- a form of a part was undone: the values of its symbols were taken, and one that is made of them was put there
abbrev pub Undone : (n : Part) (body : List Symbol) → (Values body → Value n → Type 0) → Stacks → Stacks → Type 0
Undone n body Made old new = Undoes n body Made (state old) (state new)
