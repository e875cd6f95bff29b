-- Changes of inputs that are all numbers, as changes of numbers.
use Rattle.std.proofs.Common.{pos, ◌≡◌, ◌++◌, ℕ, zero, suc, ℤ, ◌+◌, ◌<◌, true, false, List, [], ◌∷◌, length, get_or, set, take, refl, ap, sym, ◌∙◌, subst, arith}
use Rattle.std.specs.Prelude.{Option, Some, None, IsSome, All, unwrap_or, slice_get, Result, Ok, Err, IsOk}
use Rattle.std.proofs.lemmas.Option.{slice_get_within, get_or_from_slice_get}
use Rattle.std.proofs.lemmas.Bool.{both_ways}
use Rattle.std.proofs.lemmas.List.{map-set, map-append, take_more, take_more_set, length-set}
use Rattle.std.proofs.lemmas.List.Elements.{filter_map-append}
use Rattle.std.proofs.lemmas.List.Sums.{fold_more}
use Rattle.cbl_base.specs.declared.input.Input.{Input}
use Rattle.cbl_base.specs.declared.input.Input.TheVariants.{Int, Set}
use Rattle.cbl_base.specs.declared.input.Change.{Change}
use Rattle.cbl_base.specs.declared.input.Change.TheVariants.{Int as IntChange, Set as SetChange}
use Rattle.cbl_base.specs.declared.faults.RunFault.{RunFault}
use Rattle.cbl_base.specs.declared.faults.NodeFault.{NodeFault}
use Rattle.cbl_base.specs.declared.faults.NodeFault.TheVariants.{Run, NoMemory}
use Rattle.cbl_base.specs.Inputs.{kind_of, kinds_of, is_number_kind, all_numbers, number_of, numbers_of, as_inputs}
use Rattle.cbl_base.specs.Changes.{after_change, after_changes, IsEdit, IsChange, NoneAt, AreChanges}
use Rattle.cbl_base.specs.NodeLaw.{IsAnswer}
use Rattle.cbl_base.specs.NumberRule.{NumberRule, as_value, rule_of_numbers}
use Rattle.cbl_base.proofs.InputLemmas.{numbers_of-as_inputs, change_now, change_next}
use Rattle.cbl_base.proofs.PlaceLemmas.{others_stay}
use Rattle.node_base.specs.declared.number_change.NumberChange.{NumberChange}
use Rattle.node_base.specs.NumberChanges.{after_number_change, after_number_changes, IsNumberChange, NoNumberAt, AreNumberChanges, number_change_of, number_changes_of, IsNumberAnswer, answer_of, as_answer}

-- ---- inputs that are all numbers
pub no_set_there : (inputs : List Input) (i : ℕ) (s : List ℤ) (d : Input) → all_numbers (kinds_of inputs) ≡ true → i < length inputs → get_or inputs i d ≡ Set s → ⊥
no_set_there [] i s d all lt e = absurd (omega arith)
no_set_there (Set t ∷ inputs) i s d all lt e = both_ways false refl all
no_set_there (Int x ∷ inputs) zero s d all lt e = both_ways true (ap (λ y. is_number_kind (kind_of y)) e) refl
no_set_there (Int x ∷ inputs) (suc i) s d all lt e = no_set_there inputs i s d all (omega arith) e

pub number_more : (inputs : List Input) (i : ℕ) (x : ℤ) (d : Input) → i < length inputs → get_or inputs i d ≡ Int x → numbers_of (take (i + 1) inputs) ≡ numbers_of (take i inputs) ++ x ∷ []
number_more inputs i x d lt e = ap numbers_of (take_more inputs i d lt) ∙ map-append number_of (take i inputs) (get_or inputs i d ∷ []) ∙ ap (λ y. numbers_of (take i inputs) ++ number_of y ∷ []) e

-- ---- one change
-- the number of an input, where there is one
number_in : Option Input → Option ℤ
number_in (Some x) = Some (number_of x)
number_in None = None

number_in-as_inputs : (xs : List ℤ) (k : ℕ) → number_in (slice_get (as_inputs xs) k) ≡ slice_get xs k
unfolding number_in
number_in-as_inputs [] k = refl
number_in-as_inputs (x ∷ xs) zero = refl
number_in-as_inputs (x ∷ xs) (suc k) = number_in-as_inputs xs k

number_there : (xs : List ℤ) (k : ℕ) (v : ℤ) → slice_get (as_inputs xs) k ≡ Some (Int v) → slice_get xs k ≡ Some v
unfolding number_in
number_there xs k v e = sym (number_in-as_inputs xs k) ∙ ap number_in e

-- no set is edited where all are numbers
not_edit : (added removed : List ℤ) (xs : List ℤ) (k : ℕ) → IsEdit added removed (slice_get (as_inputs xs) k) → ⊥
not_edit added removed [] k h = h
not_edit added removed (x ∷ xs) zero h = h
not_edit added removed (x ∷ xs) (suc k) h = not_edit added removed xs k h

pub is_of_number : (xs : List ℤ) (c : Change) → IsChange (as_inputs xs) c → IsSome (number_change_of c)
is_of_number xs (IntChange place old new) h = refl
is_of_number xs (SetChange place added removed) h = absurd (not_edit added removed xs place h)

-- the change that there is
the_change : (m n : NumberChange) → Some m ≡ Some n → m ≡ n
the_change m n e = ap (λ o. unwrap_or o m) e

pub is_number_change : (xs : List ℤ) (c : Change) (n : NumberChange) → IsChange (as_inputs xs) c → number_change_of c ≡ Some n → IsNumberChange xs n
is_number_change xs (IntChange place old new) n h e = subst (λ m. IsNumberChange xs m) (the_change _ n e) (number_there xs place old h)
is_number_change xs (SetChange place added removed) n h e = absurd (not_edit added removed xs place h)

pub after_one : (xs : List ℤ) (c : Change) (n : NumberChange) → IsChange (as_inputs xs) c → number_change_of c ≡ Some n → after_change (as_inputs xs) c ≡ as_inputs (after_number_change xs n)
after_one xs (IntChange place old new) n h e = sym (map-set Int xs place new) ∙ ap (λ m. as_inputs (after_number_change xs m)) (the_change _ n e)
after_one xs (SetChange place added removed) n h e = absurd (not_edit added removed xs place h)

-- ---- several changes
no_number_at : (place : ℕ) (cs : List Change) → NoneAt place cs → NoNumberAt place (number_changes_of cs)
no_number_at place [] far = tt
no_number_at place (IntChange q old new ∷ cs) far = (far.0, no_number_at place cs far.1)
no_number_at place (SetChange q added removed ∷ cs) far = no_number_at place cs far.1

pub are_number_changes : (xs : List ℤ) (cs : List Change) → AreChanges (as_inputs xs) cs → AreNumberChanges xs (number_changes_of cs)
are_number_changes xs [] h = tt
are_number_changes xs (IntChange place old new ∷ cs) h = (number_there xs place old h.0, no_number_at place cs h.1, are_number_changes xs cs h.2)
are_number_changes xs (SetChange place added removed ∷ cs) h = absurd (not_edit added removed xs place h.0)

-- all of them are of numbers
AreOfNumbers : List Change → Type 0
AreOfNumbers [] = Unit {0}
AreOfNumbers (IntChange _ _ _ ∷ cs) = AreOfNumbers cs
AreOfNumbers (SetChange _ _ _ ∷ cs) = ⊥

are_of_numbers : (xs : List ℤ) (cs : List Change) → AreChanges (as_inputs xs) cs → AreOfNumbers cs
unfolding AreOfNumbers
are_of_numbers xs [] h = tt
are_of_numbers xs (IntChange place old new ∷ cs) h = are_of_numbers xs cs h.2
are_of_numbers xs (SetChange place added removed ∷ cs) h = not_edit added removed xs place h.0

after_numbers : (xs : List ℤ) (cs : List Change) → AreOfNumbers cs → after_changes (as_inputs xs) cs ≡ as_inputs (after_number_changes xs (number_changes_of cs))
unfolding AreOfNumbers
after_numbers xs [] h = refl
after_numbers xs (IntChange place old new ∷ cs) h = ap (λ t. after_changes t cs) (sym (map-set Int xs place new)) ∙ after_numbers (set xs place new) cs h
after_numbers xs (SetChange place added removed ∷ cs) h = absurd h

pub after_all : (xs : List ℤ) (cs : List Change) → AreChanges (as_inputs xs) cs → after_changes (as_inputs xs) cs ≡ as_inputs (after_number_changes xs (number_changes_of cs))
after_all xs cs h = after_numbers xs cs (are_of_numbers xs cs h)

pub change_at : (inputs : List Input) (cs : List Change) (i : ℕ) (d : Change) → AreChanges inputs cs → i < length cs → IsChange inputs (get_or cs i d)
change_at inputs [] i d h lt = absurd (omega arith)
change_at inputs (c ∷ cs) zero d h lt = h.0
change_at inputs (c ∷ cs) (suc i) d h lt = change_at inputs cs i d h.2 (omega arith)

-- in a loop over the changes, the change i is one of the numbers that are held then
pub held_change : (inputs : List Input) (cs : List Change) (i : ℕ) (r : Change) (xs : List ℤ) → AreChanges inputs cs → i < length cs → r ≡ get_or cs i r → as_inputs xs ≡ after_changes inputs (take i cs) → IsChange (as_inputs xs) r
held_change inputs cs i r xs h lt at held =
    subst (λ ys. IsChange ys r) (sym held) (subst (λ e. IsChange (after_changes inputs (take i cs)) e) (sym at) (change_now inputs cs i r h lt))

pub held_next : (inputs : List Input) (cs : List Change) (i : ℕ) (r : Change) (n : NumberChange) (xs : List ℤ) → AreChanges inputs cs → i < length cs → r ≡ get_or cs i r → as_inputs xs ≡ after_changes inputs (take i cs) → number_change_of r ≡ Some n
    → as_inputs (after_number_change xs n) ≡ after_changes inputs (take (i + 1) cs)
held_next inputs cs i r n xs h lt at held is =
    sym (after_one xs r n (held_change inputs cs i r xs h lt at held) is) ∙ ap (λ ys. after_change ys r) held
    ∙ ap (after_change (after_changes inputs (take i cs))) at ∙ sym (change_next inputs cs i r lt)

pub read_of_number : (xs : List ℤ) (cs : List Change) (i : ℕ) (r : Change) → AreChanges (as_inputs xs) cs → i < length cs → r ≡ get_or cs i r → IsSome (number_change_of r)
read_of_number xs cs i r h lt at = is_of_number xs r (subst (λ e. IsChange (as_inputs xs) e) (sym at) (change_at (as_inputs xs) cs i r h lt))

pub all_of_numbers : (xs : List ℤ) (cs : List Change) → AreChanges (as_inputs xs) cs → All (λ c. IsSome (number_change_of c)) cs
all_of_numbers xs cs h = λ k d lt. is_of_number xs (get_or cs k d) (change_at (as_inputs xs) cs k d h lt)

-- one or two changes of numbers that were read, as a list of them
pub one_change : (cs : List Change) (r : Change) (n : NumberChange) → length cs ≡ 1 → r ≡ get_or cs 0 r → number_change_of r ≡ Some n → n ∷ [] ≡ number_changes_of cs
one_change [] r n few at e = absurd (omega (arith, few))
one_change (IntChange p old new ∷ []) r n few at e = ap (λ m. m ∷ []) (sym (the_change _ n (ap number_change_of (sym at) ∙ e)))
one_change (SetChange p added removed ∷ []) r n few at e = cc
one_change (c ∷ c' ∷ cs) r n few at e = absurd (omega (arith, few))

pub two_changes : (cs : List Change) (r q : Change) (n m : NumberChange) → length cs ≡ 2 → r ≡ get_or cs 0 r → number_change_of r ≡ Some n → q ≡ get_or cs 1 q → number_change_of q ≡ Some m → n ∷ m ∷ [] ≡ number_changes_of cs
two_changes [] r q n m few at e at' e' = absurd (omega (arith, few))
two_changes (c ∷ []) r q n m few at e at' e' = absurd (omega (arith, few))
two_changes (SetChange p added removed ∷ c ∷ []) r q n m few at e at' e' = cc
two_changes (IntChange p old new ∷ c ∷ []) r q n m few at e at' e' =
    ap (λ k. k ∷ m ∷ []) (sym (the_change _ n (ap number_change_of (sym at) ∙ e)))
    ∙ ap (λ t. record { place = p; old = old; new = new } ∷ t) (one_change (c ∷ []) q m refl at' e')
two_changes (c ∷ c' ∷ c'' ∷ cs) r q n m few at e at' e' = absurd (omega (arith, few))

-- ---- answers
pub ok_number : (v : Result ℤ RunFault) → IsOk (as_value v) → IsOk v
ok_number (Ok x) h = h
ok_number (Err fault) h = h

pub is_answer_of : (v : Result ℤ RunFault) → IsNumberAnswer v (answer_of v)
is_answer_of (Ok x) = refl
is_answer_of (Err fault) = refl

-- a value of the numbers after the changes, as an answer
pub value_answers : (v r : Result ℤ RunFault) (a : Result ℤ NodeFault) → r ≡ v → a ≡ answer_of r → IsNumberAnswer v a
value_answers v r a is answer = subst (λ b. IsNumberAnswer v b) (sym (answer ∙ ap answer_of is)) (is_answer_of v)

pub answer_of_number : (v : Result ℤ RunFault) (r : Result ℤ NodeFault) → IsNumberAnswer v r → IsAnswer (as_value v) (as_answer r)
answer_of_number v (Ok x) h = ap as_value h
answer_of_number v (Err (Run fault)) h = ap as_value h
answer_of_number v (Err NoMemory) h = tt

-- the answer of a node to changes, from that of its probe of them as changes of numbers
pub probed : (rule : NumberRule) (xs : List ℤ) (cs : List Change) (ns : List NumberChange) (r : Result ℤ NodeFault) (p : Result Input NodeFault)
    → AreChanges (as_inputs xs) cs → ns ≡ number_changes_of cs → IsNumberAnswer (rule.value (after_number_changes xs ns)) r → p ≡ as_answer r
    → IsAnswer ((rule_of_numbers rule).value (after_changes (as_inputs xs) cs)) p
probed rule xs cs ns r p h all answer is =
    rw (after_all xs cs h, numbers_of-as_inputs (after_number_changes xs (number_changes_of cs)), is, ← all) (answer_of_number _ r answer)

-- a loop's step over changes that are all, or not all, of numbers
pub change_more : (cs : List Change) (i : ℕ) (d : Change) (n : NumberChange) → i < length cs → number_change_of (get_or cs i d) ≡ Some n → number_changes_of (take (i + 1) cs) ≡ number_changes_of (take i cs) ++ n ∷ []
change_more cs i d n lt e = ap number_changes_of (take_more cs i d lt) ∙ filter_map-append number_change_of (take i cs) (get_or cs i d ∷ []) ∙ ap (λ t. number_changes_of (take i cs) ++ t) (of_one (get_or cs i d) n e)
  where
    of_one : (c : Change) (n : NumberChange) → number_change_of c ≡ Some n → number_changes_of (c ∷ []) ≡ n ∷ []
    of_one (IntChange p old new) n e = ap (λ m. m ∷ []) (the_change _ n e)
    of_one (SetChange p added removed) n e = cc

-- and where they are put into an array
pub few_more : (few : List NumberChange) (cs : List Change) (i : ℕ) (r : Change) (n : NumberChange) → i < length few → i < length cs → r ≡ get_or cs i r → number_change_of r ≡ Some n → take i few ≡ number_changes_of (take i cs)
    → take (i + 1) (set few i n) ≡ number_changes_of (take (i + 1) cs)
few_more few cs i r n room lt at e held = take_more_set few i n room ∙ ap (λ t. t ++ n ∷ []) held ∙ sym (change_more cs i r n lt (ap number_change_of (sym at) ∙ e))

-- ---- changes of numbers: each is a change of what stands there at its turn
pub number_within : (xs : List ℤ) (c : NumberChange) → IsNumberChange xs c → c.place < length xs
number_within xs c h = slice_get_within xs c.place c.old h

pub number_read : (xs : List ℤ) (c : NumberChange) (d : ℤ) → IsNumberChange xs c → get_or xs c.place d ≡ c.old
number_read xs c d h = get_or_from_slice_get xs c.place c.old d h

pub length-after_numbers : (xs : List ℤ) (cs : List NumberChange) → length (after_number_changes xs cs) ≡ length xs
length-after_numbers xs [] = refl
length-after_numbers xs (c ∷ cs) = length-after_numbers (set xs c.place c.new) cs ∙ length-set xs c.place c.new

numbers_after : (xs : List ℤ) (c : NumberChange) (cs : List NumberChange) → NoNumberAt c.place cs → AreNumberChanges xs cs → AreNumberChanges (after_number_change xs c) cs
numbers_after xs c [] far h = tt
numbers_after xs c (e ∷ cs) far h = (others_stay xs c.place e.place c.new far.0 ∙ h.0, h.1, numbers_after xs c cs far.1 h.2)

change_in_turn : (xs : List ℤ) (cs : List NumberChange) (i : ℕ) (d : NumberChange) → AreNumberChanges xs cs → i < length cs → IsNumberChange (after_number_changes xs (take i cs)) (get_or cs i d)
change_in_turn xs [] i d h lt = absurd (omega arith)
change_in_turn xs (c ∷ cs) zero d h lt = h.0
change_in_turn xs (c ∷ cs) (suc i) d h lt = change_in_turn (after_number_change xs c) cs i d (numbers_after xs c cs h.1 h.2) (omega arith)

change_from_first : (xs : List ℤ) (cs : List NumberChange) (i : ℕ) (d : NumberChange) → AreNumberChanges xs cs → i < length cs → IsNumberChange xs (get_or cs i d)
change_from_first xs [] i d h lt = absurd (omega arith)
change_from_first xs (c ∷ cs) zero d h lt = h.0
change_from_first xs (c ∷ cs) (suc i) d h lt = change_from_first xs cs i d h.2 (omega arith)

-- what a list of changes reads as past its end
abbrev pub no_change : NumberChange
no_change = record { place = 0; old = pos 0; new = pos 0 }

-- in a loop over the changes, at the change i
module _ (xs : List ℤ) (cs : List NumberChange) (i : ℕ) (d : NumberChange) (are : AreNumberChanges xs cs) (lt : i < length cs) where
  -- it is a change of what stands there now, and of what stood there first
  pub number_now : IsNumberChange (after_number_changes xs (take i cs)) (get_or cs i d)
  number_now = change_in_turn xs cs i d are lt

  pub number_first : IsNumberChange xs (get_or cs i d)
  number_first = change_from_first xs cs i d are lt

  pub number_next : after_number_changes xs (take (i + 1) cs) ≡ after_number_change (after_number_changes xs (take i cs)) (get_or cs i d)
  number_next = fold_more after_number_change xs cs i d lt
