-- The core's histories are those that fit.
use Rattle.std.proofs.Common.{◌≡◌, ◌≢◌, ◌↔◌, ℕ, ◌<◌, Bool, true, false, cond, eqb, eq-eqb, ne_eqb, List, [], ◌∷◌, ◌++◌, map, refl, ap, sym, subst, ◌∙◌, append_assoc}
use Rattle.std.specs.List.{AllByRecursion}
use Rattle.std.proofs.lemmas.List.{append-nil}
use native.Mathlib.Decide.{ℕ_discrete}
use Rattle.best_turn.specs.declared.replays.Entry.{Entry}
use Rattle.best_turn.specs.History.{of_iteration, fold_of, IsLegal}
use Rattle.best_turn.specs.Calls.{entry}
use Rattle.best_turn.proofs.Histories.{legal_push, still}
use Rattle.parall_loop.specs.Iteration.{Next, Asks, Ends, asked_of, replies_of, asked_by, Follows, then_comes, Fits}
use Rattle.parall_loop.specs.Schedule.{moved, step, scheduled, MayAsk, IsUnderWay, Schedules}

pub map_append : {A B : Type 0} (f : A → B) (xs ys : List A) → map f (xs ++ ys) ≡ map f xs ++ map f ys
map_append f [] ys = refl
map_append f (x ∷ xs) ys = ap (λ l. f x ∷ l) (map_append f xs ys)

pub all_append : {A : Type 0} (P : A → Type 0) (xs ys : List A) → AllByRecursion P xs → AllByRecursion P ys → AllByRecursion P (xs ++ ys)
all_append P [] ys f g = g
all_append P (x ∷ xs) ys f g = (f.0, all_append P xs ys f.1 g)

module _ {Q R : Type 0} where
  pub of_append : (k : ℕ) (xs ys : List (Entry Q R)) → of_iteration k (xs ++ ys) ≡ of_iteration k xs ++ of_iteration k ys
  of_append k [] ys = refl
  of_append k (x ∷ xs) ys = cases (eqb x.iteration k) (of_append k xs ys)
    where
      cases : (b : Bool) → of_iteration k (xs ++ ys) ≡ of_iteration k xs ++ of_iteration k ys → cond b (x ∷ of_iteration k (xs ++ ys)) (of_iteration k (xs ++ ys)) ≡ cond b (x ∷ of_iteration k xs) (of_iteration k xs) ++ of_iteration k ys
      cases true h = ap (λ l. x ∷ l) h
      cases false h = h

  pub asked_append : (k : ℕ) (xs ys : List (Entry Q R)) → asked_by k (xs ++ ys) ≡ asked_by k xs ++ asked_by k ys
  asked_append k xs ys = ap asked_of (of_append k xs ys) ∙ map_append (λ (e : Entry Q R). (e.request, e.reply)) (of_iteration k xs) (of_iteration k ys)

  asked_here : (k : ℕ) (e : Entry Q R) (es : List (Entry Q R)) → e.iteration ≡ k → asked_by k (e ∷ es) ≡ (e.request, e.reply) ∷ asked_by k es
  asked_here k e es is = ap (λ b. asked_of (cond b (e ∷ of_iteration k es) (of_iteration k es))) (eq-eqb e.iteration k is)

  asked_else : (k : ℕ) (e : Entry Q R) (es : List (Entry Q R)) → e.iteration ≢ k → asked_by k (e ∷ es) ≡ asked_by k es
  asked_else k e es ne = ap (λ b. asked_of (cond b (e ∷ of_iteration k es) (of_iteration k es))) (ne_eqb e.iteration k ne)

  module _ {T : Type 0} where
    pub follows_push : (asks : List R → Next Q T) (rs : List R) (xs : List (Q × R)) (q : Q) (r : R) → Follows asks rs xs → asks (rs ++ replies_of xs) ≡ Asks q → Follows asks rs (xs ++ (q, r) ∷ [])
    follows_push asks rs [] q r f e = (ap asks (sym (append-nil rs)) ∙ e, tt)
    follows_push asks rs (x ∷ xs) q r f e = (f.0, follows_push asks (rs ++ x.1 ∷ []) xs q r f.1 (ap asks (append_assoc rs (x.1 ∷ []) (replies_of xs)) ∙ e))

    -- what comes behind a front is what was asked
    follows_next : (asks : List R → Next Q T) (rs : List R) (xs : List (Q × R)) (y : Q × R) (ys : List (Q × R)) → Follows asks rs (xs ++ y ∷ ys) → asks (rs ++ replies_of xs) ≡ Asks y.0
    follows_next asks rs [] y ys f = ap asks (append-nil rs) ∙ f.0
    follows_next asks rs (x ∷ xs) y ys f = ap asks (sym (append_assoc rs (x.1 ∷ []) (replies_of xs))) ∙ follows_next asks (rs ++ x.1 ∷ []) xs y ys f.1

module _ {S Q R T : Type 0} (takes : S → Q → Type 0) (after : S → Q → S) (answer : S → Q → R) (start : S) (asks : ℕ → List R → Next Q T) (n : ℕ) where
  module _ (law : (s : S) (q p : Q) → takes s q → (takes (after s q) p ↔ takes s p)) (may : MayAsk takes after answer start asks n) where
    pushed : (history : List (Entry Q R)) (k : ℕ) (q : Q) → k < n → IsUnderWay takes after answer start asks n history → then_comes (asks k) (asked_by k history) ≡ Asks q
        → IsUnderWay takes after answer start asks n (history ++ entry k q (answer (fold_of after start history) q) ∷ [])
    pushed history k q below way is =
        let e : Entry Q R = entry k q (answer (fold_of after start history) q) in
        record {
          legal = legal_push takes after answer start history e way.legal (still takes after answer law start history q way.legal (may k (replies_of (asked_by k history)) q below is)) refl;
          numbers = all_append (λ x. x.iteration < n) history (e ∷ []) way.numbers (below, tt);
          asked = λ j small. cases j small (ℕ_discrete k j);
        }
      where
        cases : (j : ℕ) → j < n → Dec (k ≡ j) → Follows (asks j) [] (asked_by j (history ++ entry k q (answer (fold_of after start history) q) ∷ []))
        cases j small (yes same) =
            let e : Entry Q R = entry k q (answer (fold_of after start history) q) in
            subst (Follows (asks j) []) (sym (asked_append j history (e ∷ []) ∙ ap (λ l. asked_by j history ++ l) (asked_here j e [] same)))
            (follows_push (asks j) [] (asked_by j history) q e.reply (way.asked j small) (subst (λ i. then_comes (asks i) (asked_by i history) ≡ Asks q) same is))
        cases j small (no ne) =
            let e : Entry Q R = entry k q (answer (fold_of after start history) q) in
            subst (Follows (asks j) []) (sym (asked_append j history (e ∷ []) ∙ (ap (λ l. asked_by j history ++ l) (asked_else j e [] ne) ∙ append-nil (asked_by j history)))) (way.asked j small)

    stepped : (history : List (Entry Q R)) (k : ℕ) → k < n → IsUnderWay takes after answer start asks n history → IsUnderWay takes after answer start asks n (step takes after answer start asks history k)
    stepped history k below way = cases (then_comes (asks k) (asked_by k history)) refl
      where
        cases : (next : Next Q T) → then_comes (asks k) (asked_by k history) ≡ next → IsUnderWay takes after answer start asks n (moved takes after answer start asks k history next)
        cases (Asks q) is = pushed history k q below way is
        cases (Ends t) is = way

    all_scheduled : (history : List (Entry Q R)) (ks : List ℕ) → AllByRecursion (λ k. k < n) ks → IsUnderWay takes after answer start asks n history → IsUnderWay takes after answer start asks n (scheduled takes after answer start asks history ks)
    all_scheduled history [] below way = way
    all_scheduled history (k ∷ ks) below way = all_scheduled (step takes after answer start asks history k) ks below.1 (stepped history k below.0 way)

    nothing : IsUnderWay takes after answer start asks n []
    nothing = record { legal = tt; numbers = tt; asked = λ k small. tt }

    -- a legal history at one of its entries
    legal_at : (s : S) (done : List (Entry Q R)) (e : Entry Q R) (es : List (Entry Q R)) → IsLegal takes after answer s (done ++ e ∷ es) → e.reply ≡ answer (fold_of after s done) e.request
    legal_at s [] e es h = h.1
    legal_at s (x ∷ xs) e es h = legal_at (after s x.request) xs e es h.2

    number_at : (done : List (Entry Q R)) (e : Entry Q R) (es : List (Entry Q R)) → AllByRecursion (λ x. x.iteration < n) (done ++ e ∷ es) → e.iteration < n
    number_at [] e es h = h.0
    number_at (x ∷ xs) e es h = number_at xs e es h.1

    follows_its_numbers : (outcome : ℕ → T) (done es : List (Entry Q R)) → Fits takes after answer start asks n outcome (done ++ es) → scheduled takes after answer start asks done (map (λ e. e.iteration) es) ≡ done ++ es
    follows_its_numbers outcome done [] fits = sym (append-nil done)
    follows_its_numbers outcome done (e ∷ es) fits =
        let k : ℕ = e.iteration in
        let small = number_at done e es fits.numbers in
        let parts : asked_by k (done ++ e ∷ es) ≡ asked_by k done ++ (e.request, e.reply) ∷ asked_by k es = asked_append k done (e ∷ es) ∙ ap (λ l. asked_by k done ++ l) (asked_here k e es refl) in
        let is : then_comes (asks k) (asked_by k done) ≡ Asks e.request = follows_next (asks k) [] (asked_by k done) (e.request, e.reply) (asked_by k es) (subst (Follows (asks k) []) parts (fits.asked k small)) in
        let replied : e.reply ≡ answer (fold_of after start done) e.request = legal_at start done e es fits.legal in
        let next : step takes after answer start asks done k ≡ done ++ e ∷ [] = ap (moved takes after answer start asks k done) is ∙ ap (λ r. done ++ entry k e.request r ∷ []) (sym replied) in
        ap (λ l. scheduled takes after answer start asks l (map (λ x. x.iteration) es)) next
        ∙ (follows_its_numbers outcome (done ++ e ∷ []) es (subst (Fits takes after answer start asks n outcome) (sym (append_assoc done (e ∷ []) es)) fits) ∙ append_assoc done (e ∷ []) es)

    pub schedules : Schedules takes after answer start asks n
    schedules = record {
      at_each_point = λ numbers below. all_scheduled [] numbers below nothing;
      at_the_end = λ numbers outcome below ended. (let way = all_scheduled [] numbers below nothing in record { legal = way.legal; numbers = way.numbers; asked = way.asked; ended = ended });
      by_its_numbers = λ outcome history fits. follows_its_numbers outcome [] history fits;
    }
