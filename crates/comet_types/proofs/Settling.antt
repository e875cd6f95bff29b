-- The turns of a body that is judged until its effects stay.
use Rattle.std.specs.Prelude.{◌≡◌, refl, ℕ, zero, suc, Bool, true, false, ◌<◌, ◌≤◌, ◌-◌, if◌then◌else◌}
use Rattle.std.proofs.Common.{sym, ap, ◌∙◌, arith}
use Rattle.checked_tree.specs.declared.stop.Stop.{Stop}
use Rattle.checked_tree.specs.declared.stop.Stop.TheVariants.{Fault, NoMemory}
use Rattle.checked_tree.specs.Tasks.{Work}
use Rattle.type_scopes.specs.declared.scope.Scope.{Scope}
use Rattle.type_scopes.specs.Did.{Ended}
use Rattle.type_scopes.specs.Functions.{is_settled, settle}
use Rattle.type_scopes.specs.State.{State, Outcome, Went, Refused, Check, then_do, ◌>>=◌}
use Rattle.comet_types.specs.Functions.{turn_form, settled_form}
use Rattle.type_statements.specs.OfTypeHeads.Heads.{Does}

abbrev after : ℕ → ℕ → ℕ → Does → Scope → Work → Check Work
after turns f n body scope w = λ s. if is_settled f s then Went w s else (settle f >>= λ _. settled_form turns f n body scope) s

one_turn : (k f n : ℕ) (body : Does) (scope : Scope) (s : State) → settled_form (suc k) f n body scope s ≡ then_do (turn_form n body scope s) (after k f n body scope)
unfolding settled_form
one_turn k f n body scope s = refl

pub settled_stop : (left f n : ℕ) (body : Does) (scope : Scope) (s : State) (o : Outcome Work) (stop : Stop)
    → settled_form left f n body scope s ≡ o → 0 < left → Ended stop (turn_form n body scope s) → Ended stop o
settled_stop zero f n body scope s o stop h low e = absurd (omega (arith, low))
settled_stop (suc k) f n body scope s o (Fault place c) h low e = sym h ∙ one_turn k f n body scope s ∙ ap (λ z. then_do z (after k f n body scope)) e
settled_stop (suc k) f n body scope s o NoMemory h low e = tt

pub settled_done : (left f n : ℕ) (body : Does) (scope : Scope) (s : State) (o : Outcome Work) (w : Work) (t : State)
    → settled_form left f n body scope s ≡ o → 0 < left → turn_form n body scope s ≡ Went w t → is_settled f t ≡ true → o ≡ Went w t
settled_done zero f n body scope s o w t h low e y = absurd (omega (arith, low))
settled_done (suc k) f n body scope s o w t h low e y =
    sym h ∙ one_turn k f n body scope s ∙ ap (λ z. then_do z (after k f n body scope)) e
    ∙ ap (λ b. if b then Went w t else (settle f >>= λ _. settled_form k f n body scope) t) y

pub settled_next : (left f n : ℕ) (body : Does) (scope : Scope) (s : State) (o : Outcome Work) (w : Work) (t u : State)
    → settled_form left f n body scope s ≡ o → 0 < left → turn_form n body scope s ≡ Went w t → is_settled f t ≡ false → settle f t ≡ Went tt u
    → settled_form (left - 1) f n body scope u ≡ o
settled_next zero f n body scope s o w t u h low e y g = absurd (omega (arith, low))
settled_next (suc k) f n body scope s o w t u h low e y g =
    let less : suc k - 1 ≡ k = omega arith in
    rw less (sym (sym h ∙ one_turn k f n body scope s ∙ ap (λ z. then_do z (after k f n body scope)) e
    ∙ ap (λ b. if b then Went w t else (settle f >>= λ _. settled_form k f n body scope) t) y
    ∙ ap (λ z. then_do z (λ _. settled_form k f n body scope)) g))

pub settled_last : (left f n : ℕ) (body : Does) (scope : Scope) (s : State) (o : Outcome Work) → settled_form left f n body scope s ≡ o → left ≤ 0 → turn_form n body scope s ≡ o
unfolding settled_form
settled_last zero f n body scope s o h low = h
settled_last (suc k) f n body scope s o h low = absurd (omega (arith, low))
