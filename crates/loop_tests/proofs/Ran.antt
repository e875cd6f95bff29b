-- What an iteration ran, from what it asked: it broke off for want of memory, or where its port stopped, or it ended.
use Rattle.std.proofs.Common.{◌≡◌, List, [], ◌∷◌, ◌++◌, refl, ap, sym, subst, ◌∙◌, append_assoc, Option, None, Some}
use Rattle.std.proofs.lemmas.List.{append-nil}
use Rattle.best_monitor.specs.declared.port.PortStop.{PortStop}
use Rattle.best_monitor.specs.declared.port.PortStop.TheVariants.{NoMemory}
use Rattle.best_monitor.specs.Port.{Odds, GoesOn, StopsAsTold}
use Rattle.parall_loop.specs.Iteration.{Next, Asks, Ends, Follows, then_comes, with_asked, Runs, CutAsTold}
use Rattle.parall_loop.proofs.Asking.{none_asked, one_asked, more_asked}

module _ {Q R T : Type 0} where
  -- a port was asked these requests, as the iteration asks them
  pub record Asked (asks : List R → Next Q T) (asked : List (Q × R)) (rest : Option (List (Q × R))) (more : List (Q × R)) (after : List (Q × R)) (left : Option (List (Q × R))) : Type 0 where
    pub follows : Follows asks [] more
    pub are : after ≡ asked ++ more
    pub goes : rest ≡ with_asked more left

  abbrev pub Ran : (List R → Next Q T) → Option PortStop → List (Q × R) → Option (List (Q × R)) → List (Q × R) → Option (List (Q × R)) → (Q → Odds) → T → Type 0
  Ran asks stop asked rest after left odds outcome = (more : List (Q × R)) × (after ≡ asked ++ more) × (rest ≡ with_asked more left) × Runs asks stop more outcome × CutAsTold (then_comes asks more) left odds stop

  pub asked_none : (asks : List R → Next Q T) (asked : List (Q × R)) (rest : Option (List (Q × R))) → Asked asks asked rest [] asked rest
  asked_none asks asked rest = record { follows = tt; are = sym (append-nil asked); goes = none_asked rest }

  pub asked_one : (asks : List R → Next Q T) (asked : List (Q × R)) (rest : Option (List (Q × R))) (q : Q) (r : R) (after : List (Q × R)) (left : Option (List (Q × R))) → asks [] ≡ Asks q → after ≡ asked ++ (q, r) ∷ [] → GoesOn rest q r left → Asked asks asked rest ((q, r) ∷ []) after left
  asked_one asks asked rest q r after left first are goes = record { follows = (first, tt); are = are; goes = one_asked rest q r left goes }

  pub asked_two : (asks : List R → Next Q T) (asked : List (Q × R)) (rest : Option (List (Q × R))) (q p : Q) (r s : R) (between : List (Q × R)) (rest_between : Option (List (Q × R))) (after : List (Q × R)) (left : Option (List (Q × R))) → Asked asks asked rest ((q, r) ∷ []) between rest_between → asks (r ∷ []) ≡ Asks p → after ≡ between ++ (p, s) ∷ [] → GoesOn rest_between p s left → Asked asks asked rest ((q, r) ∷ (p, s) ∷ []) after left
  asked_two asks asked rest q p r s between rest_between after left one second are goes = record {
    follows = (one.follows.0, (second, tt));
    are = are ∙ (ap (λ l. l ++ (p, s) ∷ []) one.are ∙ append_assoc asked ((q, r) ∷ []) ((p, s) ∷ []));
    goes = more_asked ((q, r) ∷ []) ((p, s) ∷ []) rest rest_between left one.goes (one_asked rest_between p s left goes);
  }

  pub cut : (asks : List R → Next Q T) (asked : List (Q × R)) (rest : Option (List (Q × R))) (more between : List (Q × R)) (rest_between : Option (List (Q × R))) (after : List (Q × R)) (left : Option (List (Q × R))) (odds_between odds : Q → Odds) (q : Q) (stop : PortStop) (outcome : T) → Asked asks asked rest more between rest_between → then_comes asks more ≡ Asks q → after ≡ between → left ≡ rest_between → StopsAsTold rest_between q (odds_between q) stop → ((p : Q) → odds p ≡ odds_between p) → Ran asks (Some stop) asked rest after left odds outcome
  cut asks asked rest more between rest_between after left odds_between odds q stop outcome was next same still told even = (
    more,
    same ∙ was.are,
    was.goes ∙ ap (with_asked more) (sym still),
    record { follows = was.follows; ends = λ none. let e : Some stop ≡ None = none in cc },
    subst (λ n. CutAsTold n left odds (Some stop)) (sym next) (subst (λ o. StopsAsTold left q o stop) (sym (even q)) (subst (λ l. StopsAsTold l q (odds_between q) stop) (sym still) told)),
  )

  pub cut_for_memory : (asks : List R → Next Q T) (asked : List (Q × R)) (rest : Option (List (Q × R))) (more after : List (Q × R)) (left : Option (List (Q × R))) (odds : Q → Odds) (q : Q) (outcome : T) → Asked asks asked rest more after left → then_comes asks more ≡ Asks q → Ran asks (Some NoMemory) asked rest after left odds outcome
  cut_for_memory asks asked rest more after left odds q outcome was next = cut asks asked rest more after left after left odds odds q NoMemory outcome was next refl refl tt (λ p. refl)

  pub ended : (asks : List R → Next Q T) (asked : List (Q × R)) (rest : Option (List (Q × R))) (more after : List (Q × R)) (left : Option (List (Q × R))) (odds : Q → Odds) (outcome : T) → Asked asks asked rest more after left → then_comes asks more ≡ Ends outcome → Ran asks None asked rest after left odds outcome
  ended asks asked rest more after left odds outcome was next = (more, was.are, was.goes, record { follows = was.follows; ends = λ none. next }, tt)
