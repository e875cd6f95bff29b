-- A loop over parts of a term keeps what is left of the row, as loops over other parts do: the operands of a chain, parts
-- that each are a term, and variables that are read.
use Rattle.std.proofs.Common.{◌≡◌, sym, subst, ap, ◌∙◌, ℕ, ◌+◌, ◌<◌, ◌≤◌, List, [], ◌∷◌, ◌++◌, map, length, drop, get_or}
use Rattle.std.proofs.lemmas.List.{at_drop_more, at_drop_all}
use Rattle.cbl_base.specs.declared.ids.VarId.{VarId}
use Rattle.cbl_base.specs.declared.place.Place.{Place}
use Rattle.term_model.specs.declared.term.Term.{Term}
use Rattle.comet_syntax.specs.declared.tree.expressions.ChainOperator.{ChainOperator}
use Rattle.checked_tree.specs.Shape as shapes
use Rattle.checked_tree.specs.Shape.{Shape}
use Rattle.comet_meaning.specs.Values.{Value, Variable}
use Rattle.comet_meaning.specs.State.{State, Left, left}
use Rattle.comet_meaning.specs.Outcome.{Outcome, Went, Halted, Halt, then_do}
use Rattle.comet_meaning.specs.Levels.{Level}
use Rattle.comet_meaning.specs.Parts.{read, term, each_term}
use Rattle.comet_meaning.specs.Taking.{read_each}
use Rattle.comet_meaning.specs.TermForms.{linked_term, joined_form, operands_form}
use Rattle.comet_meaning.specs.Onward.{IsOnward, left_by}
use Rattle.comet_meaning.proofs.GoingParts.{LevelGoesOn, goes_each_term, goes_read_each}
use Rattle.comet_meaning.proofs.GoingTerms.{goes_joined, goes_operands}
use Rattle.comet_meaning.proofs.Endings.{went_then, halted_then, Passes, passes_to}
use Rattle.comet_meaning.proofs.Rows.{at_next, at_end}

-- operands of a chain, each of which is joined to what stands before it

pub record TermsLeft {X : Type 0} (l : Level) (f : X → Shape) (xs : List X) (i : ℕ) (t : Term) (s : State) (w : Outcome Term) : Type 0 where
  pub left : joined_form l (map f (drop i xs)) t s ≡ w

pub terms_start : {X : Type 0} (l : Level) (f : X → Shape) (xs : List X) (es : List Shape) (t : Term) (s : State) → es ≡ map f xs → TermsLeft l f xs 0 t s (joined_form l es t s)
terms_start l f xs es t s e = record { left = ap (λ ys. joined_form l ys t s) (sym e) }

module _ {X : Type 0} {l : Level} {f : X → Shape} {xs : List X} {i : ℕ} {t : Term} {s : State} {w : Outcome Term} (m : TermsLeft l f xs i t s w) where
  pub terms_end : length xs ≤ i → w ≡ Went t s
  unfolding joined_form
  terms_end h = sym m.left ∙ at_end (λ ys. joined_form l ys t s) f xs i h

  pub terms_onward : LevelGoesOn l → IsOnward (left s) (left_by w)
  terms_onward k = subst (λ o. IsOnward (left s) (left_by o)) m.left ((goes_joined l k (map f (drop i xs)) t).from s)

  module _ {o : ChainOperator} {at : Place} {e : Shape} (x : X) (h : i < length xs) (is : x ≡ get_or xs i x) (link : f x ≡ shapes.link o at e) where
    pub terms_at : then_do (linked_term l at o e t s) (λ v. joined_form l (map f (drop (i + 1) xs)) v) ≡ w
    unfolding joined_form
    terms_at = sym (at_next (λ ys. joined_form l ys t s) f xs i x h is ∙ ap (λ y. joined_form l (y ∷ map f (drop (i + 1) xs)) t s) link) ∙ m.left

    pub terms_step : {v : Term} {r : State} → linked_term l at o e t s ≡ Went v r → TermsLeft l f xs (i + 1) v r w
    terms_step q = record { left = sym (went_then _ q) ∙ terms_at }

    pub terms_halt : {h : Halt} {r : Left} → linked_term l at o e t s ≡ Halted h r → w ≡ Halted h r
    terms_halt q = sym terms_at ∙ halted_then _ q

    pub terms_err : (P : (A : Type 0) → Outcome A → Type 0) → Passes P → LevelGoesOn l → P Term (linked_term l at o e t s) → P Term w
    terms_err P through k q = passes_to P through _ _ terms_at (λ v. goes_joined l k _ v) q

-- operands of a chain that is one operation

pub record OperandsLeft {X : Type 0} (l : Level) (f : X → Shape) (xs : List X) (i : ℕ) (ts : List Term) (s : State) (w : Outcome (List Term)) : Type 0 where
  pub left : operands_form l (map f (drop i xs)) ts s ≡ w

pub operands_start : {X : Type 0} (l : Level) (f : X → Shape) (xs : List X) (es : List Shape) (ts : List Term) (s : State) → es ≡ map f xs → OperandsLeft l f xs 0 ts s (operands_form l es ts s)
operands_start l f xs es ts s e = record { left = ap (λ ys. operands_form l ys ts s) (sym e) }

module _ {X : Type 0} {l : Level} {f : X → Shape} {xs : List X} {i : ℕ} {ts : List Term} {s : State} {w : Outcome (List Term)} (m : OperandsLeft l f xs i ts s w) where
  pub operands_end : length xs ≤ i → w ≡ Went ts s
  unfolding operands_form
  operands_end h = sym m.left ∙ at_end (λ ys. operands_form l ys ts s) f xs i h

  pub operands_onward : LevelGoesOn l → IsOnward (left s) (left_by w)
  operands_onward k = subst (λ o. IsOnward (left s) (left_by o)) m.left ((goes_operands l k (map f (drop i xs)) ts).from s)

  module _ {o : ChainOperator} {at : Place} {e : Shape} (x : X) (h : i < length xs) (is : x ≡ get_or xs i x) (link : f x ≡ shapes.link o at e) where
    pub operands_at : then_do (term l e s) (λ t. operands_form l (map f (drop (i + 1) xs)) (ts ++ t ∷ [])) ≡ w
    unfolding operands_form
    operands_at = sym (at_next (λ ys. operands_form l ys ts s) f xs i x h is ∙ ap (λ y. operands_form l (y ∷ map f (drop (i + 1) xs)) ts s) link) ∙ m.left

    pub operands_step : {t : Term} {r : State} → term l e s ≡ Went t r → OperandsLeft l f xs (i + 1) (ts ++ t ∷ []) r w
    operands_step q = record { left = sym (went_then _ q) ∙ operands_at }

    pub operands_halt : {h : Halt} {r : Left} → term l e s ≡ Halted h r → w ≡ Halted h r
    operands_halt q = sym operands_at ∙ halted_then _ q

    pub operands_err : (P : (A : Type 0) → Outcome A → Type 0) → Passes P → LevelGoesOn l → P Term (term l e s) → P (List Term) w
    operands_err P through k q = passes_to P through _ _ operands_at (λ t. goes_operands l k _ _) q

-- parts that each are a term

pub record TermRowLeft {X : Type 0} (l : Level) (f : X → Shape) (xs : List X) (i : ℕ) (ts : List Term) (s : State) (w : Outcome (List Term)) : Type 0 where
  pub left : each_term l (map f (drop i xs)) ts s ≡ w

pub term_row_start : {X : Type 0} (l : Level) (f : X → Shape) (xs : List X) (es : List Shape) (s : State) → es ≡ map f xs → TermRowLeft l f xs 0 [] s (each_term l es [] s)
term_row_start l f xs es s e = record { left = ap (λ ys. each_term l ys [] s) (sym e) }

module _ {X : Type 0} {l : Level} {f : X → Shape} {xs : List X} {i : ℕ} {ts : List Term} {s : State} {w : Outcome (List Term)} (m : TermRowLeft l f xs i ts s w) where
  pub term_row_end : length xs ≤ i → w ≡ Went ts s
  unfolding each_term
  term_row_end h = sym m.left ∙ at_end (λ ys. each_term l ys ts s) f xs i h

  pub term_row_onward : LevelGoesOn l → IsOnward (left s) (left_by w)
  term_row_onward k = subst (λ o. IsOnward (left s) (left_by o)) m.left ((goes_each_term l k (map f (drop i xs)) ts).from s)

  module _ (x : X) (h : i < length xs) (is : x ≡ get_or xs i x) where
    pub term_row_at : then_do (term l (f x) s) (λ t. each_term l (map f (drop (i + 1) xs)) (ts ++ t ∷ [])) ≡ w
    unfolding each_term
    term_row_at = sym (at_next (λ ys. each_term l ys ts s) f xs i x h is) ∙ m.left

    pub term_row_step : {t : Term} {r : State} → term l (f x) s ≡ Went t r → TermRowLeft l f xs (i + 1) (ts ++ t ∷ []) r w
    term_row_step q = record { left = sym (went_then _ q) ∙ term_row_at }

    pub term_row_halt : {h : Halt} {r : Left} → term l (f x) s ≡ Halted h r → w ≡ Halted h r
    term_row_halt q = sym term_row_at ∙ halted_then _ q

    pub term_row_err : (P : (A : Type 0) → Outcome A → Type 0) → Passes P → LevelGoesOn l → P Term (term l (f x) s) → P (List Term) w
    term_row_err P through k q = passes_to P through _ _ term_row_at (λ t. goes_each_term l k _ _) q

-- variables that are read

pub record ReadLeft (at : Place) (xs : List VarId) (i : ℕ) (vs : List Value) (s : State) (w : Outcome (List Value)) : Type 0 where
  pub left : read_each at (drop i xs) vs s ≡ w

module _ {at : Place} {xs : List VarId} {i : ℕ} {vs : List Value} {s : State} {w : Outcome (List Value)} (m : ReadLeft at xs i vs s w) where
  pub read_end : length xs ≤ i → w ≡ Went vs s
  unfolding read_each
  read_end h = sym m.left ∙ at_drop_all (λ ys. read_each at ys vs s) xs i h

  pub read_onward : IsOnward (left s) (left_by w)
  read_onward = subst (λ o. IsOnward (left s) (left_by o)) m.left ((goes_read_each at (drop i xs) vs).from s)

  module _ (x : VarId) (h : i < length xs) (is : x ≡ get_or xs i x) where
    pub read_at : then_do (read at (Variable x) s) (λ v. read_each at (drop (i + 1) xs) (vs ++ v ∷ [])) ≡ w
    unfolding read_each
    read_at = sym (at_drop_more (λ ys. read_each at ys vs s) xs i x h ∙ ap (λ y. read_each at (y ∷ drop (i + 1) xs) vs s) (sym is)) ∙ m.left

    pub read_step : {v : Value} {r : State} → read at (Variable x) s ≡ Went v r → ReadLeft at xs (i + 1) (vs ++ v ∷ []) r w
    read_step q = record { left = sym (went_then _ q) ∙ read_at }

    pub read_halt : {h : Halt} {r : Left} → read at (Variable x) s ≡ Halted h r → w ≡ Halted h r
    read_halt q = sym read_at ∙ halted_then _ q

    pub read_err : (P : (A : Type 0) → Outcome A → Type 0) → Passes P → P Value (read at (Variable x) s) → P (List Value) w
    read_err P through q = passes_to P through _ _ read_at (λ v. goes_read_each at _ _) q
