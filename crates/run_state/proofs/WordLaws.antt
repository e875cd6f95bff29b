-- Words of a text: what a step over a byte does, and where a word ends.
use Rattle.std.proofs.Common.{◌≡◌, ℕ, ℤ, Option, Some, None, set, if◌then◌else◌, ◌+◌, ◌-◌, ◌<◌, ◌≤◌, Bool, true, false, List, [], ◌∷◌, ◌++◌, length, get_or, take, drop, refl, sym, ◌∙◌, ap, arith, append_assoc}
use Rattle.std.proofs.lemmas.List.{drop_more, take_more, get_or-drop, length-drop}
use Rattle.cbl_base.specs.Arithmetic.{fits_64}
use Rattle.cbl_base.specs.declared.place.Place.{Place}
use Rattle.cbl_base.specs.declared.faults.RunFault.TheVariants.{BadData}
use Rattle.comet_meaning.specs.Values.{Number, Input}
use Rattle.comet_meaning.specs.State.{State, left}
use Rattle.comet_meaning.specs.Outcome.{Went, Halted, Faulted, give, fault}
use Rattle.comet_meaning.specs.Data.{is_blank, behind_blanks, word_of, behind_word, spelled, fitting, first_word}
use Rattle.run_state.specs.Numbers.{that_fits}

-- a part of a word was read, from one place to another
pub record IsInWord (text : List ℕ) (from to : ℕ) : Type 0 where
  pub onward : from ≤ to
  pub within : to ≤ length text
  pub word : word_of (drop from text) ≡ take (to - from) (drop from text) ++ word_of (drop to text)
  pub rest : behind_word (drop to text) ≡ behind_word (drop from text)

one_more : (text : List ℕ) (from to : ℕ) → from ≤ to → to < length text → take (to + 1 - from) (drop from text) ≡ take (to - from) (drop from text) ++ get_or text to 0 ∷ []
one_more text from to h k =
    let e : to + 1 - from ≡ to - from + 1 = omega arith in
    let f : from + (to - from) ≡ to = omega arith in
    let g : to - from < length (drop from text) = omega (arith, length-drop from text) in
    let t : take (to - from + 1) (drop from text) ≡ take (to - from) (drop from text) ++ get_or (drop from text) (to - from) 0 ∷ [] = take_more (drop from text) (to - from) 0 g in
    let p : get_or (drop from text) (to - from) 0 ≡ get_or text to 0 = get_or-drop from text (to - from) 0 ∙ ap (λ (i : ℕ). get_or text i 0) f in
    rw (e, t, p) refl

pub word_goes_on : (text : List ℕ) (from to : ℕ) → IsInWord text from to → to < length text → is_blank (get_or text to 0) ≡ false → IsInWord text from (to + 1)
word_goes_on text from to w h plain = record {
  onward = omega (arith, w.onward);
  within = omega arith;
  word =
      let e : word_of (drop to text) ≡ get_or text to 0 ∷ word_of (drop (to + 1) text) = rw (drop_more text to 0 h, plain) refl in
      w.word ∙ ap (λ (xs : List ℕ). take (to - from) (drop from text) ++ xs) e ∙ sym (append_assoc (take (to - from) (drop from text)) (get_or text to 0 ∷ []) (word_of (drop (to + 1) text))) ∙ ap (λ (xs : List ℕ). xs ++ word_of (drop (to + 1) text)) (sym (one_more text from to w.onward h));
  rest =
      let e : behind_word (drop to text) ≡ behind_word (drop (to + 1) text) = rw (drop_more text to 0 h, plain) refl in
      sym e ∙ w.rest;
}

-- a word is not empty behind blanks

no_blank_where : (b : Bool) (u : ℕ) (us : List ℕ) (c : ℕ) (cs : List ℕ) → is_blank u ≡ b → (behind_blanks us ≡ c ∷ cs → is_blank c ≡ false) → (if b then behind_blanks us else u ∷ us) ≡ c ∷ cs → is_blank c ≡ false
no_blank_where true u us c cs is further e = further e
no_blank_where false u us c cs is further e = cc

no_blank_first : (us : List ℕ) (c : ℕ) (cs : List ℕ) → behind_blanks us ≡ c ∷ cs → is_blank c ≡ false
no_blank_first [] c cs e = absurd (cc)
no_blank_first (u ∷ us) c cs e = no_blank_where (is_blank u) u us c cs refl (no_blank_first us c cs) e

pub word_is_there : (us t : List ℕ) → t ≡ behind_blanks us → 0 < length t → 0 < length (word_of t)
word_is_there us [] is h = absurd (omega arith)
word_is_there us (c ∷ cs) is h = rw (no_blank_first us c cs (sym is)) (omega arith)

-- the number of a word

pub fitting_bad : (at : Place) (o : Option ℤ) (s : State) → None ≡ that_fits o → fitting at o s ≡ Halted (Faulted at BadData) (left s)
fitting_bad at None s e = refl
fitting_bad at (Some z) s e = step (fits_64 z) e where
  step : (b : Bool) → None ≡ (if b then Some z else None) → (if b then give (Number z) else fault at BadData) s ≡ Halted (Faulted at BadData) (left s)
  step true e = absurd (cc)
  step false e = refl

pub fitting_good : (at : Place) (o : Option ℤ) (s : State) (n : ℤ) → Some n ≡ that_fits o → fitting at o s ≡ Went (Number n) s
fitting_good at None s n e = absurd (cc)
fitting_good at (Some z) s n e = step (fits_64 z) e where
  step : (b : Bool) → Some n ≡ (if b then Some z else None) → (if b then give (Number z) else fault at BadData) s ≡ Went (Number n) s
  step true e = let same : n ≡ z = cc in rw same refl
  step false e = absurd (cc)

pub bad_word : (at : Place) (k : ℕ) (t w : List ℕ) (s : State) → word_of t ≡ w → 0 < length w → None ≡ that_fits (spelled w) → first_word at (Input k) t s ≡ Halted (Faulted at BadData) (left s)
bad_word at k t [] s is h e = absurd (omega arith)
bad_word at k t (c ∷ cs) s is h e = rw (is, fitting_bad at (spelled (c ∷ cs)) s e) refl

pub good_word : (at : Place) (k : ℕ) (t w rest : List ℕ) (s : State) (n : ℤ) → word_of t ≡ w → behind_word t ≡ rest → 0 < length w → Some n ≡ that_fits (spelled w) → first_word at (Input k) t s ≡ Went (Number n) (record s { inputs = set s.inputs k rest })
good_word at k t [] rest s n is behind h e = absurd (omega arith)
good_word at k t (c ∷ cs) rest s n is behind h e = rw (is, fitting_good at (spelled (c ∷ cs)) s n e, behind) refl
