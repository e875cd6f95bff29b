-- An operation of a type of its own is made again from its number, so its number tells which it is.
use Rattle.std.proofs.Common.{◌≡◌, ℕ, [], ◌∷◌, refl, sym, ap, ◌∙◌}
use Rattle.std.specs.Prelude.{slice_index_or}
use Rattle.cbl_operations.specs.Binary.{binary_number}
use Rattle.cbl_operations.specs.Keyed.{keyed_number}
use Rattle.cbl_operations.specs.Nary.{nary_number}
use Rattle.cbl_operations.specs.TwoSets.{two_sets_number}
use Rattle.cbl_operations.specs.Unary.{unary_number}
use Rattle.cbl_operations.specs.declared.binary.BinaryOp.{BinaryOp}
use Rattle.cbl_operations.specs.declared.binary.BinaryOp.TheVariants.{Add, Sub, Mul, Div, Rem, Eq, Ne, Le, Lt}
use Rattle.cbl_operations.specs.declared.keyed.KeyedOp.{KeyedOp}
use Rattle.cbl_operations.specs.declared.keyed.KeyedOp.TheVariants.{ArgMin, ArgMax, SetOf}
use Rattle.cbl_operations.specs.declared.nary.NaryOp.{NaryOp}
use Rattle.cbl_operations.specs.declared.nary.NaryOp.TheVariants.{Least, Greatest, Sum, Count, And, Or}
use Rattle.cbl_operations.specs.declared.two_sets.TwoSetsOp.{TwoSetsOp}
use Rattle.cbl_operations.specs.declared.two_sets.TwoSetsOp.TheVariants.{Union, Inter, Minus}
use Rattle.cbl_operations.specs.declared.unary.UnaryOp.{UnaryOp}
use Rattle.cbl_operations.specs.declared.unary.UnaryOp.TheVariants.{Neg, Abs, Not}

-- the operation with a number
abbrev pub unary_at : ℕ → UnaryOp
unary_at n = slice_index_or (Neg ∷ Abs ∷ Not ∷ []) n Neg

abbrev pub binary_at : ℕ → BinaryOp
binary_at n = slice_index_or (Add ∷ Sub ∷ Mul ∷ Div ∷ Rem ∷ Eq ∷ Ne ∷ Le ∷ Lt ∷ []) n Add

abbrev pub nary_at : ℕ → NaryOp
nary_at n = slice_index_or (Least ∷ Greatest ∷ Sum ∷ Count ∷ And ∷ Or ∷ []) n Least

abbrev pub keyed_at : ℕ → KeyedOp
keyed_at n = slice_index_or (ArgMin ∷ ArgMax ∷ SetOf ∷ []) n ArgMin

abbrev pub two_sets_at : ℕ → TwoSetsOp
two_sets_at n = slice_index_or (Union ∷ Inter ∷ Minus ∷ []) n Union

pub unary_again : (op : UnaryOp) → unary_at (unary_number op) ≡ op
unary_again Neg = refl
unary_again Abs = refl
unary_again Not = refl

pub binary_again : (op : BinaryOp) → binary_at (binary_number op) ≡ op
binary_again Add = refl
binary_again Sub = refl
binary_again Mul = refl
binary_again Div = refl
binary_again Rem = refl
binary_again Eq = refl
binary_again Ne = refl
binary_again Le = refl
binary_again Lt = refl

pub nary_again : (op : NaryOp) → nary_at (nary_number op) ≡ op
nary_again Least = refl
nary_again Greatest = refl
nary_again Sum = refl
nary_again Count = refl
nary_again And = refl
nary_again Or = refl

pub keyed_again : (op : KeyedOp) → keyed_at (keyed_number op) ≡ op
keyed_again ArgMin = refl
keyed_again ArgMax = refl
keyed_again SetOf = refl

pub two_sets_again : (op : TwoSetsOp) → two_sets_at (two_sets_number op) ≡ op
two_sets_again Union = refl
two_sets_again Inter = refl
two_sets_again Minus = refl

pub unary_same : (a b : UnaryOp) → unary_number a ≡ unary_number b → a ≡ b
unary_same a b e = sym (unary_again a) ∙ ap unary_at e ∙ unary_again b

pub binary_same : (a b : BinaryOp) → binary_number a ≡ binary_number b → a ≡ b
binary_same a b e = sym (binary_again a) ∙ ap binary_at e ∙ binary_again b

pub nary_same : (a b : NaryOp) → nary_number a ≡ nary_number b → a ≡ b
nary_same a b e = sym (nary_again a) ∙ ap nary_at e ∙ nary_again b

pub keyed_same : (a b : KeyedOp) → keyed_number a ≡ keyed_number b → a ≡ b
keyed_same a b e = sym (keyed_again a) ∙ ap keyed_at e ∙ keyed_again b

pub two_sets_same : (a b : TwoSetsOp) → two_sets_number a ≡ two_sets_number b → a ≡ b
two_sets_same a b e = sym (two_sets_again a) ∙ ap two_sets_at e ∙ two_sets_again b
