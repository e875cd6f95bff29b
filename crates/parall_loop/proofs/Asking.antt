-- What is left of a rest behind what was asked, for those who write the body of a loop.
use Rattle.std.proofs.Common.{◌≡◌, List, [], ◌∷◌, ◌++◌, refl, ap, sym, ◌∙◌, append_assoc, Option, None, Some}
use Rattle.best_monitor.specs.Port.{GoesOn}
use Rattle.parall_loop.specs.Iteration.{with_asked}

module _ {Q R : Type 0} where
  -- nothing was asked
  pub none_asked : (rest : Option (List (Q × R))) → rest ≡ with_asked [] rest
  none_asked None = refl
  none_asked (Some rest) = refl

  -- one request was asked
  pub one_asked : (rest : Option (List (Q × R))) (q : Q) (r : R) (after : Option (List (Q × R))) → GoesOn rest q r after → rest ≡ with_asked ((q, r) ∷ []) after
  one_asked None q r after h = sym (ap (with_asked ((q, r) ∷ [])) h)
  one_asked (Some []) q r after h = absurd h
  one_asked (Some (e ∷ es)) q r after h = (λ i. Some ((h.0 i, h.1 i) ∷ es)) ∙ sym (ap (with_asked ((q, r) ∷ [])) h.2)

  -- more was asked behind it
  pub more_asked : (asked more : List (Q × R)) (rest between after : Option (List (Q × R))) → rest ≡ with_asked asked between → between ≡ with_asked more after → rest ≡ with_asked (asked ++ more) after
  more_asked asked more rest between None h k = h ∙ ap (with_asked asked) k
  more_asked asked more rest between (Some left) h k = h ∙ (ap (with_asked asked) k ∙ ap (λ l. Some l) (sym (append_assoc asked more left)))
