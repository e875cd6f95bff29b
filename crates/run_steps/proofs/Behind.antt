-- What follows a part of a program.
use Rattle.std.proofs.Common.{◌≡◌, sym, subst, ap, Result, Ok, Err}
use Rattle.comet_meaning.specs.State.{State}
use Rattle.comet_meaning.specs.Outcome.{Outcome, Went, Act, then_do, give}
use Rattle.comet_meaning.specs.Onward.{IsFront, left_by, GoesOn}
use Rattle.run_values.specs.declared.stop.Stop.{Stop}
use Rattle.run_values.specs.Did.{Did}
use Rattle.run_steps.specs.Does.{Does, Ends}
use Rattle.run_steps.specs.Following.{Follows}
use Rattle.run_steps.proofs.Exits.{after, ends_passes, act_does}

-- an end of the run passes on
pub err_passes : {X A B : Type 0} (view : X → A) (r : Result X Stop) (stop : Stop) (s : State) (f : A → Act B) → r ≡ Err stop → ((x : A) → GoesOn (f x)) → (o : Outcome A) → Does view r s o → Ends stop s (then_do o f)
err_passes view r stop s f e k o h = ends_passes stop s _ _ o f k (subst (λ q. Does view q s o) e h)

-- a value is given
pub ok_gives : {X Y A B : Type 0} (view : X → A) (next : Y → B) (r : Result X Stop) (x : X) (y : Y) (s : State) (g : A → B) → r ≡ Ok x → next y ≡ g (view x) → Follows view next r (Ok y) s s (λ v. give (g v))
ok_gives view next r x y s g e same o h =
    after next (Ok y) s (λ v. give (g v)) (subst (λ q. Does view q s o) e h) (ap (λ v. Went v s) (sym same))

-- something is done that prints nothing
pub ok_acts : {X Y A B : Type 0} (view : X → A) (next : Y → B) (r : Result X Stop) (x : X) (q : Result Y Stop) (s t : State) (f : A → Act B) → r ≡ Ok x → ((x : A) → GoesOn (f x)) → t.printed ≡ s.printed → Did next q t (f (view x) s) → Follows view next r q s t f
ok_acts view next r x q s t f e k same d o h =
    after next q t f (subst (λ p. Does view p s o) e h)
    (act_does next q t (f (view x) s) d (subst (λ p. IsFront p (left_by (f (view x) s)).printed) (sym same) ((k (view x)).from s).printed))

-- something is done, whatever it prints
pub ok_does : {X Y A B : Type 0} (view : X → A) (next : Y → B) (r : Result X Stop) (x : X) (q : Result Y Stop) (s t : State) (f : A → Act B) → r ≡ Ok x → Does next q t (f (view x) s) → Follows view next r q s t f
ok_does view next r x q s t f e d o h = after next q t f (subst (λ p. Does view p s o) e h) d
