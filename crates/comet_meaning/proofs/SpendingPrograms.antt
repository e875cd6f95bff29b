-- The functions that are found to be pure are pure, and so a pure expression of a program only spends fuel.
use Rattle.std.proofs.Common.{◌≡◌, refl, sym, ap, subst, ◌∙◌, ℕ, zero, suc, Bool, true, false, not, ◌&&◌, List, [], ◌∷◌, ◌++◌, length, append_assoc, Option, Some, None, slice_get, slice_index_or, rules, arith}
use Rattle.cbl_base.specs.declared.place.Place.{Place}
use Rattle.checked_tree.specs.Shape as shapes
use Rattle.checked_tree.specs.Shape.{Shape, Seen, whole}
use Rattle.checked_tree.specs.Actions as deeds
use Rattle.checked_tree.specs.Tasks as works
use Rattle.checked_tree.specs.Tasks.{Work, Coded}
use Rattle.type_rules.specs.Rows.{method_row}
use Rattle.comet_meaning.specs.Outcome.{give}
use Rattle.comet_meaning.specs.Levels.{Code, Level, Flow, Next, Returned}
use Rattle.comet_meaning.specs.Loops.{tasks_form, then_next}
use Rattle.comet_meaning.specs.Statements.{return_form, action_form, meaning_of_form, meaning_of_statement}
use Rattle.comet_meaning.specs.Purity.{is_pure, is_local, returned_by, returns_pure, pure_behind, pure_functions}
use Rattle.comet_meaning.specs.Program.{level, code_of}
use Rattle.comet_meaning.specs.Spending.{OnlySpends}
use Rattle.comet_meaning.proofs.Spending.{spends_then, spends_give, spends_fault, spends_charge}
use Rattle.comet_meaning.proofs.SpendingForms.{and_left, and_right, LevelSpends, ReturnsPure, KnowsPure, spends_returned, spends_expression}
use Rattle.comet_meaning.proofs.SpendingConstraints.{spends_term}

-- what is pure where some functions are known to be pure is so where more are

pub record Below (known more : List Bool) : Type 0 where
  pub at : (n : ℕ) → slice_index_or known n false ≡ true → slice_index_or more n false ≡ true

both : (a b c d : Bool) → (a ≡ true → c ≡ true) → (b ≡ true → d ≡ true) → (a && b) ≡ true → (c && d) ≡ true
both a b c d f g p = joined c d (f (and_left a b p)) (g (and_right a b p)) where
  joined : (c d : Bool) → c ≡ true → d ≡ true → (c && d) ≡ true
  joined true d p q = q
  joined false d p q = p

pub more_pure : (known more : List Bool) → Below known more → (e : Shape) → is_pure known e ≡ true → is_pure more e ≡ true
more_pure k m h (shapes.more x xs) p = both _ _ _ _ (more_pure k m h x) (more_pure k m h xs) p
more_pure k m h (shapes.typed start at kind moving form) p = more_pure k m h form p
more_pure k m h (shapes.unary o e) p = more_pure k m h e p
more_pure k m h (shapes.parentheses e) p = more_pure k m h e p
more_pure k m h (shapes.chain a b) p = both _ _ _ _ (more_pure k m h a) (more_pure k m h b) p
more_pure k m h (shapes.link o at e) p = more_pure k m h e p
more_pure k m h (shapes.compare c a b) p = both _ _ _ _ (more_pure k m h a) (more_pure k m h b) p
more_pure k m h (shapes.range a b) p = both _ _ _ _ (more_pure k m h a) (more_pure k m h b) p
more_pure k m h (shapes.conditional c a b) p = both _ _ _ _ (both _ _ _ _ (more_pure k m h c) (more_pure k m h a)) (more_pure k m h b) p
more_pure k m h (shapes.index a b) p = both _ _ _ _ (more_pure k m h a) (more_pure k m h b) p
more_pure k m h (shapes.cell c a b) p = both _ _ _ _ (both _ _ _ _ (more_pure k m h c) (more_pure k m h a)) (more_pure k m h b) p
more_pure k m h (shapes.list es) p = more_pure k m h es p
more_pure k m h (shapes.set es) p = more_pure k m h es p
more_pure k m h (shapes.aggregate a gs c b) p = both _ _ _ _ (both _ _ _ _ (more_pure k m h gs) (more_pure k m h c)) (more_pure k m h b) p
more_pure k m h (shapes.generator at slot d) p = both (is_local slot) (is_pure k d) (is_local slot) (is_pure m d) (λ q. q) (more_pure k m h d) p
more_pure k m h (shapes.builtin f es) p = more_pure k m h es p
more_pure k m h (shapes.call f es) p = both (slice_index_or k f false) (is_pure k es) (slice_index_or m f false) (is_pure m es) (h.at f) (more_pure k m h es) p
more_pure k m h (shapes.method f o es) p =
    both (not (method_row f).impure && is_pure k o) (is_pure k es) (not (method_row f).impure && is_pure m o) (is_pure m es)
    (both (not (method_row f).impure) (is_pure k o) (not (method_row f).impure) (is_pure m o) (λ q. q) (more_pure k m h o)) (more_pure k m h es) p
more_pure k m h e p = refl

below_front : (xs ys : List Bool) → Below xs (xs ++ ys)
below_front xs ys = record { at = front xs } where
  front : (xs : List Bool) (n : ℕ) → slice_index_or xs n false ≡ true → slice_index_or (xs ++ ys) n false ≡ true
  front [] n p = (let no : false ≡ true = p in absurd cc)
  front (x ∷ xs) zero p = p
  front (x ∷ xs) (suc n) p = front xs n p

-- where a function with its flag stands: among those before, or last
data Found (known : List Bool) (b : Bool) (fs : List Coded) (f : Coded) (n : ℕ) (g : Coded) : Type 0 where
  before : slice_index_or known n false ≡ true → slice_get fs n ≡ Some g → Found known b fs f n g
  last : b ≡ true → f ≡ g → Found known b fs f n g

found : (known : List Bool) (b : Bool) (fs : List Coded) (f : Coded) (n : ℕ) (g : Coded) → length fs ≡ length known → slice_index_or (known ++ b ∷ []) n false ≡ true → slice_get (fs ++ f ∷ []) n ≡ Some g → Found known b fs f n g
found [] b [] f zero g e p q = last p cc
found [] b [] f (suc n) g e p q = absurd cc
found [] b (h ∷ fs) f n g e p q = absurd (omega arith)
found (k ∷ known) b [] f n g e p q = absurd (omega arith)
found (k ∷ known) b (h ∷ fs) f zero g e p q = before p q
found (k ∷ known) b (h ∷ fs) f (suc n) g e p q = further (found known b fs f n g (omega arith) p q) where
  further : Found known b fs f n g → Found (k ∷ known) b (h ∷ fs) f (suc n) g
  further (before r s) = before r s
  further (last r s) = last r s

-- the functions so far that are found to be pure are so
record AllReturn (known : List Bool) (fs : List Coded) : Type 0 where
  lengths : length fs ≡ length known
  each : (n : ℕ) (f : Coded) → slice_index_or known n false ≡ true → slice_get fs n ≡ Some f → ReturnsPure known f

more_returns : (known more : List Bool) (f : Coded) → Below known more → ReturnsPure known f → ReturnsPure more f
more_returns k m f h r = record { e = r.e; returned = r.returned; pure = more_pure k m h (whole r.e) r.pure }

-- a body that passes the test returns a pure expression
tested : (known : List Bool) (f : Coded) (w : Option Seen) → returned_by f.body ≡ w → returns_pure known w ≡ true → ReturnsPure known f
tested known f None e p = (let no : false ≡ true = p in absurd cc)
tested known f (Some x) e p = record { e = x; returned = e; pure = p }

snoc : {A : Type 0} (xs : List A) (x : A) → length (xs ++ x ∷ []) ≡ suc (length xs)
snoc [] x = refl
snoc (y ∷ ys) x = ap suc (snoc ys x)

-- one more function, with what the test says of it
next_returns : (known : List Bool) (fs : List Coded) (f : Coded) (b : Bool) → AllReturn known fs → b ≡ returns_pure (known ++ true ∷ []) (returned_by f.body) → AllReturn (known ++ b ∷ []) (fs ++ f ∷ [])
next_returns known fs f b h e = record { lengths = snoc fs f ∙ (ap suc h.lengths ∙ sym (snoc known b)); each = λ n g p q. here n g (found known b fs f n g h.lengths p q) } where
  last_returns : (b : Bool) → b ≡ true → b ≡ returns_pure (known ++ true ∷ []) (returned_by f.body) → ReturnsPure (known ++ b ∷ []) f
  last_returns true p e = tested (known ++ true ∷ []) f (returned_by f.body) refl (sym e)
  last_returns false p e = (let no : false ≡ true = p in absurd cc)

  here : (n : ℕ) (g : Coded) → Found known b fs f n g → ReturnsPure (known ++ b ∷ []) g
  here n g (before p q) = more_returns known (known ++ b ∷ []) g (below_front known (b ∷ [])) (h.each n g p q)
  here n g (last p q) = subst (λ x. ReturnsPure (known ++ b ∷ []) x) q (last_returns b p e)

all_return : (known : List Bool) (earlier fs : List Coded) → AllReturn known earlier → AllReturn (pure_behind known fs) (earlier ++ fs)
all_return known earlier [] h = subst (λ x. AllReturn known x) (search rules) h
all_return known earlier (f ∷ fs) h =
    subst (λ x. AllReturn (pure_behind (known ++ returns_pure (known ++ true ∷ []) (returned_by f.body) ∷ []) fs) x) (append_assoc earlier (f ∷ []) fs)
    (all_return (known ++ returns_pure (known ++ true ∷ []) (returned_by f.body) ∷ []) (earlier ++ f ∷ []) fs (next_returns known earlier f _ h refl))

none_there : {X : Type 0} (n : ℕ) (f : Coded) → slice_get {X = Coded} [] n ≡ Some f → X
none_there zero f q = absurd cc
none_there (suc n) f q = absurd cc

pub knows_pure : (fs : List Coded) → KnowsPure (code_of fs)
knows_pure fs = record { each = (all_return [] [] fs (record { lengths = refl; each = λ n f p q. none_there n f q })).each }

-- levels

returning_spends : (c : Code) (l : Level) → LevelSpends c.pure l → (at : Place) (e : Seen) → is_pure c.pure (whole e) ≡ true → OnlySpends (meaning_of_statement l (works.task at (works.action (deeds.returning (Some e)))))
unfolding meaning_of_statement meaning_of_form action_form return_form
returning_spends c l h at e p = spends_then (spends_charge 1 at) (λ _. spends_then (spends_returned c.pure l h e p) (λ v. spends_give))

-- a body that is one `return`
body_spends : (c : Code) (l : Level) → LevelSpends c.pure l → (w : Work) (e : Seen) → returned_by w ≡ Some e → is_pure c.pure (whole e) ≡ true → OnlySpends (meaning_of_statement l w)
unfolding meaning_of_statement meaning_of_form tasks_form
body_spends c l h (works.task at (works.block (works.more (works.task place (works.action (deeds.returning x))) works.no_more))) e r p =
    spends_then (spends_charge 1 at) (λ _. spends_then (subst (λ y. OnlySpends (l.stmt (works.task place (works.action (deeds.returning y))))) (sym r) (h.returns place e p)) spends_next) where
      spends_next : (flow : Flow) → OnlySpends (then_next (give Next) flow)
      spends_next Next = spends_give
      spends_next (Returned v) = spends_give
body_spends c l h w e r p = absurd cc

pub spends_level : (c : Code) → KnowsPure c → (d : ℕ) → LevelSpends c.pure (level c d)
unfolding level
spends_level c k zero = record { expr = λ e p. spends_fault; term = λ e p. spends_fault; returns = λ at e p. spends_fault; body = λ w e r p. spends_fault }
spends_level c k (suc d) = record {
  expr = λ e p. spends_expression c k (level c d) (spends_level c k d) e p;
  term = λ e p. spends_term c k (level c d) (spends_level c k d) e p;
  returns = λ at e p. returning_spends c (level c d) (spends_level c k d) at e p;
  body = λ w e r p. body_spends c (level c d) (spends_level c k d) w e r p;
}

pub pure_spends : (fs : List Coded) (d : ℕ) (e : Shape) → is_pure (pure_functions fs) e ≡ true → OnlySpends ((level (code_of fs) d).expr e)
pure_spends fs d e p = (spends_level (code_of fs) (knows_pure fs) d).expr e p
