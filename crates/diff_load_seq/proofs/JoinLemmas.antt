-- A sum of parts as a loop over them gives it.
use Rattle.std.proofs.Common.{◌≡◌, ℕ, zero, suc, ◌+◌, ◌-◌, ◌==◌, Bool, true, false, cond, List, ◌∷◌, ap, sym, ◌∙◌, arith, map, Ok, Err}
use Rattle.std.specs.Prelude.{ℤ, pos, ◌+ℤ◌}
use Rattle.std.specs.List.{range_with_len}
use Rattle.std.proofs.lemmas.Int.{ints}
use Rattle.std.proofs.lemmas.Bool.Decides.{nat_tests}
use Rattle.std.proofs.lemmas.List.Sums.{sum_by-cons}
use Rattle.cbl_base.specs.Arithmetic.{exact}
use Rattle.cbl_base.specs.declared.faults.RunFault.TheVariants.{Overflow}
use Rattle.cbl_violations.proofs.Runs.{and_then, run, guarded}
use Rattle.diff_load_seq.specs.Parts.{Part, fault_in, sum_of, faults_in, joined}

-- the sum of the parts, added to a number
abbrev pub joined_to : ℤ → List Part → Part
joined_to s parts = cond (faults_in parts == 0) (exact (s +ℤ sum_of parts)) (Err Overflow)

number_first : (s v : ℤ) (parts : List Part) → joined_to (s +ℤ v) parts ≡ joined_to s (Ok v ∷ parts)
number_first s v parts =
    let none : faults_in (Ok v ∷ parts) ≡ faults_in parts = omega (arith, sum_by-cons fault_in (Ok v) parts) in
    let same : (s +ℤ v +ℤ sum_of parts) ≡ (s +ℤ (v +ℤ sum_of parts)) = omega (arith, ints) in
    ap (λ z. cond (faults_in parts == 0) (exact z) (Err Overflow)) same
    ∙ sym (ap (λ n. cond (n == 0) (exact (s +ℤ (v +ℤ sum_of parts))) (Err Overflow)) none)

fault_first : (s : ℤ) (parts : List Part) → Err Overflow ≡ joined_to s (Err Overflow ∷ parts)
fault_first s parts =
    let more : faults_in (Err Overflow ∷ parts) ≡ suc (faults_in parts) = omega (arith, sum_by-cons fault_in (Err Overflow) parts) in
    sym (ap (λ n. cond (n == 0) (exact (s +ℤ sum_of (Err Overflow ∷ parts))) (Err Overflow)) more
    ∙ ap (λ b. cond b (exact (s +ℤ sum_of (Err Overflow ∷ parts))) (Err Overflow)) (not_zero (faults_in parts)))
  where
    not_zero : (n : ℕ) → (suc n == 0) ≡ false
    not_zero n = grind (arith, nat_tests)

pub run_joined : (guard : ℕ → Bool) (h : ℕ → ℤ) (s : ℤ) (a n : ℕ) → run (guarded guard h) s a n ≡ joined_to s (map (guarded guard h) (range_with_len a n))
run_joined guard h s a zero = let same : s ≡ (s +ℤ pos 0) = omega (arith, ints) in ap exact same
run_joined guard h s a (suc n) = by_guard (run_joined guard h (s +ℤ h a) (a + 1) n) (guard a)
  where
    by_guard : run (guarded guard h) (s +ℤ h a) (a + 1) n ≡ joined_to (s +ℤ h a) (map (guarded guard h) (range_with_len (a + 1) n)) → (b : Bool)
        → and_then (cond b (Ok (h a)) (Err Overflow)) (λ v. run (guarded guard h) (s +ℤ v) (a + 1) n) ≡ joined_to s (cond b (Ok (h a)) (Err Overflow) ∷ map (guarded guard h) (range_with_len (a + 1) n))
    by_guard later true = later ∙ number_first s (h a) (map (guarded guard h) (range_with_len (a + 1) n))
    by_guard later false = fault_first s (map (guarded guard h) (range_with_len (a + 1) n))

-- from the loop's start
pub run_from_start : (guard : ℕ → Bool) (h : ℕ → ℤ) (n : ℕ) → run (guarded guard h) (pos 0) 0 (n - 0) ≡ joined (map (guarded guard h) (range_with_len 0 n))
run_from_start guard h n =
    let all : n - 0 ≡ n = omega arith in
    let parts = map (guarded guard h) (range_with_len 0 n) in
    let same : (pos 0 +ℤ sum_of (map (guarded guard h) (range_with_len 0 n))) ≡ sum_of (map (guarded guard h) (range_with_len 0 n)) = omega (arith, ints) in
    ap (run (guarded guard h) (pos 0) 0) all ∙ run_joined guard h (pos 0) 0 n
    ∙ ap (λ z. cond (faults_in (map (guarded guard h) (range_with_len 0 n)) == 0) (exact z) (Err Overflow)) same
