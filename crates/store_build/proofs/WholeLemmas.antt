-- Lists of places in which all is there.
use Rattle.std.proofs.Common.{◌≡◌, ℕ, zero, suc, ◌<◌, List, [], ◌∷◌, ◌++◌, length, map, get_or, slice_get, Option, Some, None, refl, sym, ap, ◌∙◌, subst, arith, All}
use Rattle.std.proofs.lemmas.List.{append-nil, append_assoc}
use Rattle.cbl_base.specs.NodeLaw.{Rule}
use Rattle.cbl_base.specs.declared.input.Input.{Input}
use Rattle.store_turns.specs.declared.outcome.Outcome.{Outcome}
use Rattle.store_turns.specs.declared.outcome.Outcome.TheVariants.{Value}
use Rattle.store_build.specs.Frames.{cell_of}
use Rattle.store_build.specs.Building.{value_in, option_list, values_there, all_there}

pub some_is : {A : Type 0} {x y : A} → Some x ≡ Some y → x ≡ y
some_is e = cc

pub all_cons : {A : Type 0} (P : A → Type 0) (x : A) (xs : List A) → P x → All P xs → (k : ℕ) (d : A) → k < length (x ∷ xs) → P (get_or (x ∷ xs) k d)
all_cons P x xs p h zero d lt = p
all_cons P x xs p h (suc k) d lt = h k d (omega arith)

-- ---- one place more
pub values-push : (os : List (Option Outcome)) (q : Option Outcome) → values_there (os ++ q ∷ []) ≡ values_there os ++ option_list (value_in q)
values-push [] q = append-nil (option_list (value_in q))
values-push (p ∷ os) q = ap (λ (xs : List Input). option_list (value_in p) ++ xs) (values-push os q) ∙ sym (append_assoc (option_list (value_in p)) (values_there os) (option_list (value_in q)))

pub all-push : {N : Type 0} (ns : List (Option N)) (q : Option N) → all_there (ns ++ q ∷ []) ≡ all_there ns ++ option_list q
all-push {N} [] q = append-nil (option_list q)
all-push {N} (p ∷ ns) q = ap (λ (xs : List N). option_list p ++ xs) (all-push ns q) ∙ sym (append_assoc (option_list p) (all_there ns) (option_list q))

-- ---- values
-- all have values
abbrev pub AllValues : List (Option Outcome) → Type 0
AllValues os = (k : ℕ) → k < length os → (x : Input) × (get_or os k None ≡ Some (Value x))

pub many_values : (os : List (Option Outcome)) → AllValues os → length (values_there os) ≡ length os
many_values [] h = refl
many_values (q ∷ os) h =
    let x = h 0 (omega arith) in
    ap (λ (p : Option Outcome). length (option_list (value_in p) ++ values_there os)) x.1 ∙ ap suc (many_values os (λ k lt. h (suc k) (omega arith)))

pub value_there : (os : List (Option Outcome)) → AllValues os → (k : ℕ) → k < length os → get_or os k None ≡ Some (Value (cell_of (values_there os) k))
value_there [] h k lt = absurd (omega arith)
value_there (q ∷ os) h zero lt =
    let x = h 0 (omega arith) in
    x.1 ∙ sym (ap (λ (p : Option Outcome). Some (Value (cell_of (option_list (value_in p) ++ values_there os) 0))) x.1)
value_there (q ∷ os) h (suc k) lt =
    let x = h 0 (omega arith) in
    value_there os (λ j l. h (suc j) (omega arith)) k (omega arith) ∙ sym (ap (λ (p : Option Outcome). Some (Value (cell_of (option_list (value_in p) ++ values_there os) (suc k)))) x.1)

-- ---- nodes
module _ {N : Type 0} (rule : N → Rule) (ready : N → Type 0) where
  -- each is there, ready and with its rule
  abbrev pub AllThere : List (Option N) → List Rule → Type 0
  AllThere ns rules = (k : ℕ) → k < length rules → (n : N) × (slice_get ns k ≡ Some (Some n)) × (slice_get rules k ≡ Some (rule n)) × ready n

  pub there_rules : (ns : List (Option N)) (rules : List Rule) → length ns ≡ length rules → AllThere ns rules → map rule (all_there ns) ≡ rules
  there_rules [] [] e h = refl
  there_rules [] (r ∷ rs) e h = absurd (omega (arith, e))
  there_rules (m ∷ ns) [] e h = absurd (omega (arith, e))
  there_rules (m ∷ ns) (r ∷ rs) e h =
      let n = h 0 (omega arith) in
      ap (λ (p : Option N). map rule (option_list p ++ all_there ns)) (some_is n.1)
      ∙ ap (λ (s : Rule). s ∷ map rule (all_there ns)) (sym (some_is n.2))
      ∙ ap (λ (ss : List Rule). r ∷ ss) (there_rules ns rs (omega (arith, e)) (λ k lt. h (suc k) (omega arith)))

  pub there_get : (ns : List (Option N)) (rules : List Rule) → length ns ≡ length rules → AllThere ns rules → (k : ℕ) (n : N) → slice_get ns k ≡ Some (Some n) → slice_get (all_there ns) k ≡ Some n
  there_get [] rules e h k n is = absurd (cc)
  there_get (m ∷ ns) [] e h k n is = absurd (omega (arith, e))
  there_get (m ∷ ns) (r ∷ rs) e h zero n is = ap (λ (p : Option N). slice_get (option_list p ++ all_there ns) 0) (some_is is)
  there_get (m ∷ ns) (r ∷ rs) e h (suc k) n is =
      let f = h 0 (omega arith) in
      ap (λ (p : Option N). slice_get (option_list p ++ all_there ns) (suc k)) (some_is f.1) ∙ there_get ns rs (omega (arith, e)) (λ j lt. h (suc j) (omega arith)) k n is

  pub there_ready : (ns : List (Option N)) (rules : List Rule) → length ns ≡ length rules → AllThere ns rules → All ready (all_there ns)
  there_ready [] rules e h = λ k d lt. absurd (omega (arith, lt))
  there_ready (m ∷ ns) [] e h = absurd (omega (arith, e))
  there_ready (m ∷ ns) (r ∷ rs) e h =
      let n = h 0 (omega arith) in
      subst (λ (p : Option N). All ready (option_list p ++ all_there ns)) (sym (some_is n.1)) (all_cons ready n.0 (all_there ns) n.3 (there_ready ns rs (omega (arith, e)) (λ k lt. h (suc k) (omega arith))))
