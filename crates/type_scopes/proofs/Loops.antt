-- A loop over a list, so far: what is left of the list makes the whole's outcome of what is there.
use Rattle.std.specs.Prelude.{◌≡◌, refl, ◌<◌, ◌≤◌, ◌+◌, ℕ, List, [], ◌∷◌, length, drop, get_or, map, Result, Ok, Err}
use Rattle.std.specs.Result.{IsErrAnd}
use Rattle.std.proofs.Common.{sym, subst, add-one, ap, ◌∙◌, arith, zero, suc}
use Rattle.std.proofs.Math.Seq.{drop-cons}
use Rattle.std.proofs.lemmas.Result.{err_from_is_err_and}
use Rattle.checked_tree.specs.declared.stop.Stop.{Stop}
use Rattle.checked_tree.specs.declared.stop.Stop.TheVariants.{Fault, NoMemory}
use Rattle.type_scopes.specs.State.{State, Outcome, Went, Refused, Check, then_do, each}
use Rattle.type_scopes.specs.Did.{Did, Ended}

pub record Runs {A B X : Type 0} (step : X → A → Check X) (f : B → A) (items : List B) (i : ℕ) (x : X) (s : State) (o : Outcome X) : Type 0 where
  pub left : each step (map f (drop i items)) x s ≡ o

pub next_item : {A : Type 0} (xs : List A) (i : ℕ) (x : A) → i < length xs → x ≡ get_or xs i x → drop i xs ≡ x ∷ drop (i + 1) xs
next_item xs i x low is = rw (add-one, drop-cons xs i x) (ap (λ y. y ∷ drop (suc i) xs) (sym is))

pub no_item : {A : Type 0} (xs : List A) (i : ℕ) → length xs ≤ i → drop i xs ≡ []
no_item [] zero h = refl
no_item [] (suc i) h = refl
no_item (x ∷ xs) zero h = absurd (omega arith)
no_item (x ∷ xs) (suc i) h = no_item xs i (omega arith)

pub runs_start : {A B X : Type 0} (step : X → A → Check X) (f : B → A) (items : List B) (x y : X) (s : State) → x ≡ y → Runs step f items 0 x s (each step (map f items) y s)
runs_start step f items x y s e = record { left = ap (λ z. each step (map f items) z s) e }

opened_at : {A B X : Type 0} (step : X → A → Check X) (f : B → A) (items : List B) (i : ℕ) (b : B) (x : X) (s : State)
    → i < length items → b ≡ get_or items i b → each step (map f (drop i items)) x s ≡ then_do (step x (f b) s) (each step (map f (drop (i + 1) items)))
opened_at step f items i b x s low is = ap (λ z. each step (map f z) x s) (next_item items i b low is)

pub runs_step : {A B X : Type 0} (step : X → A → Check X) (f : B → A) (items : List B) (i : ℕ) (b : B) (x x' : X) (s s' : State) (o : Outcome X)
    → Runs step f items i x s o → i < length items → b ≡ get_or items i b → step x (f b) s ≡ Went x' s' → Runs step f items (i + 1) x' s' o
runs_step step f items i b x x' s s' o h low is went = record {
  left = sym (opened_at step f items i b x s low is ∙ ap (λ z. then_do z (each step (map f (drop (i + 1) items)))) went) ∙ h.left;
}

pub runs_stop : {A B X : Type 0} (step : X → A → Check X) (f : B → A) (items : List B) (i : ℕ) (b : B) (x : X) (s : State) (o : Outcome X) (stop : Stop)
    → Runs step f items i x s o → i < length items → b ≡ get_or items i b → Ended stop (step x (f b) s) → Ended stop o
runs_stop step f items i b x s o (Fault place cause) h low is e =
    sym h.left ∙ opened_at step f items i b x s low is ∙ ap (λ z. then_do z (each step (map f (drop (i + 1) items)))) e
runs_stop step f items i b x s o NoMemory h low is e = tt

pub runs_end : {A B X : Type 0} (step : X → A → Check X) (f : B → A) (items : List B) (i : ℕ) (x : X) (s : State) (o : Outcome X)
    → Runs step f items i x s o → length items ≤ i → o ≡ Went x s
runs_end step f items i x s o h past = sym h.left ∙ ap (λ z. each step (map f z) x s) (no_item items i past)

-- the exit of a `?` passes a stop on
pub passes : {X A : Type 0} (view : X → A) (r : Result X Stop) (stop : Stop) (s : State) (o : Outcome A) → IsErrAnd r (λ e. e ≡ stop) → Ended stop o → Did view r s o
passes view r stop s o h f = let p = err_from_is_err_and r h in rw p.1 (subst (λ e. Ended e o) (sym p.2) f)
