-- Mirrored numbers, their changes, and the greatest of them.
use Rattle.std.proofs.Common.{◌≡◌, ℕ, zero, suc, ◌<◌, ℤ, List, [], ◌∷◌, length, set, map, Result, Ok, Err, refl, ap, sym, ◌∙◌, subst, arith}
use Rattle.std.specs.Prelude.{Option, Some, None, slice_get}
use Rattle.std.specs.Int.{int_min, int_max}
use Rattle.std.proofs.lemmas.Int.{ints, clamps}
use Rattle.std.proofs.lemmas.List.{map-set, length-map, length-set}
use Rattle.cbl_base.specs.declared.faults.RunFault.{RunFault}
use Rattle.cbl_base.specs.declared.faults.NodeFault.{NodeFault}
use Rattle.cbl_base.specs.declared.faults.NodeFault.TheVariants.{Run, NoMemory}
use Rattle.node_base.proofs.ChangeLemmas.{length-after_numbers}
use Rattle.cbl_operations.specs.Operations.Greatest.{greatest, greatest_of}
use Rattle.cbl_operations.specs.Operations.Least.{least_of}
use Rattle.node_base.specs.NumberChanges.{NoNumberAt, IsNumberChange, AreNumberChanges, after_number_change, after_number_changes, IsNumberAnswer}
use Rattle.node_base.specs.declared.number_change.NumberChange.{NumberChange}
use Rattle.node_order.specs.Lowering.{lowest}
use Rattle.node_order.specs.Mirror.{mirrored, mirrored_change}

pub mirrored_twice : (x : ℤ) → mirrored (mirrored x) ≡ x
mirrored_twice x = omega (arith, ints)

pub map_twice : (xs : List ℤ) → map mirrored (map mirrored xs) ≡ xs
map_twice [] = refl
map_twice (x ∷ xs) = ap (λ y. y ∷ map mirrored (map mirrored xs)) (mirrored_twice x) ∙ ap (λ t. x ∷ t) (map_twice xs)

mirrored_option : Option ℤ → Option ℤ
mirrored_option (Some x) = Some (mirrored x)
mirrored_option None = None

read_mirrored : (ys : List ℤ) (k : ℕ) → mirrored_option (slice_get (map mirrored ys) k) ≡ slice_get ys k
unfolding mirrored_option
read_mirrored [] k = refl
read_mirrored (y ∷ ys) zero = ap (λ z. Some z) (mirrored_twice y)
read_mirrored (y ∷ ys) (suc k) = read_mirrored ys k

pub change_mirrored : (ys : List ℤ) (c : NumberChange) → IsNumberChange (map mirrored ys) c → IsNumberChange ys (mirrored_change c)
unfolding mirrored_option
change_mirrored ys c h = sym (read_mirrored ys c.place) ∙ ap mirrored_option h

none_mirrored : (place : ℕ) (cs : List NumberChange) → NoNumberAt place cs → NoNumberAt place (map mirrored_change cs)
none_mirrored place [] far = tt
none_mirrored place (c ∷ cs) far = (far.0, none_mirrored place cs far.1)

pub changes_mirrored : (ys : List ℤ) (cs : List NumberChange) → AreNumberChanges (map mirrored ys) cs → AreNumberChanges ys (map mirrored_change cs)
changes_mirrored ys [] h = tt
changes_mirrored ys (c ∷ cs) h = (change_mirrored ys c h.0, none_mirrored c.place cs h.1, changes_mirrored ys cs h.2)

pub after_one_mirrored : (ys : List ℤ) (c : NumberChange) → map mirrored (after_number_change ys (mirrored_change c)) ≡ after_number_change (map mirrored ys) c
after_one_mirrored ys c = map-set mirrored ys c.place (mirrored c.new) ∙ ap (λ x. set (map mirrored ys) c.place x) (mirrored_twice c.new)

pub after_mirrored : (ys : List ℤ) (cs : List NumberChange) → map mirrored (after_number_changes ys (map mirrored_change cs)) ≡ after_number_changes (map mirrored ys) cs
after_mirrored ys [] = refl
after_mirrored ys (c ∷ cs) = after_mirrored (after_number_change ys (mirrored_change c)) cs ∙ ap (λ t. after_number_changes t cs) (after_one_mirrored ys c)

-- ---- the greatest
max_mirrored : (x y : ℤ) → int_max (mirrored x) (mirrored y) ≡ mirrored (int_min x y)
max_mirrored x y = omega (arith, ints, clamps)

pub greatest_mirrored : (ys : List ℤ) → 0 < length ys → greatest_of (map mirrored ys) ≡ mirrored (least_of ys)
greatest_mirrored [] some = absurd (omega (arith, some))
greatest_mirrored (y ∷ []) some = refl
greatest_mirrored (y ∷ z ∷ zs) some = ap (int_max (mirrored y)) (greatest_mirrored (z ∷ zs) (omega arith)) ∙ max_mirrored y (least_of (z ∷ zs))

ok : ℤ → Result ℤ RunFault
ok x = Ok x

-- the least that was found, as the greatest
pub greatest_value : (ys : List ℤ) (least result : ℤ) → 0 < length ys → lowest.value ys ≡ Ok least → result ≡ mirrored least → greatest.value (map mirrored ys) ≡ Ok result
unfolding ok
greatest_value ys least result some is made =
    let same : least_of ys ≡ least = cc in
    ap ok (greatest_mirrored ys some ∙ ap mirrored same ∙ sym made)

pub no_fault : (ys : List ℤ) (fault : RunFault) → lowest.value ys ≡ Err fault → ⊥
no_fault ys fault is = cc

-- ---- what the node answers
pub probed_greatest : (ys : List ℤ) (cs ds : List NumberChange) (least result : ℤ) → ds ≡ map mirrored_change cs → 0 < length ys → lowest.value (after_number_changes ys ds) ≡ Ok least → result ≡ mirrored least
    → greatest.value (after_number_changes (map mirrored ys) cs) ≡ Ok result
probed_greatest ys cs ds least result are some is made =
    let zs = after_number_changes ys (map mirrored_change cs) in
    let is' = ap (λ es. lowest.value (after_number_changes ys es)) (sym are) ∙ is in
    let long : 0 < length zs = omega (arith, some, length-after_numbers ys (map mirrored_change cs)) in
    ap greatest.value (sym (after_mirrored ys cs)) ∙ greatest_value zs least result long is' made

pub probed_fault : (zs : List ℤ) (value : Result ℤ RunFault) (fault : NodeFault) → IsNumberAnswer (lowest.value zs) (Err fault) → IsNumberAnswer value (Err fault)
probed_fault zs value (Run fault) h = absurd cc
probed_fault zs value NoMemory h = tt

pub longer : (xs ys : List ℤ) → 0 < length xs → ys ≡ map mirrored xs → 0 < length ys
longer xs ys some is = subst (λ t. 0 < length t) (sym is) (omega (arith, some, length-map xs mirrored))

pub later_long : (ys zs : List ℤ) (c : NumberChange) → 0 < length ys → zs ≡ after_number_change ys c → 0 < length zs
later_long ys zs c some is = subst (λ t. 0 < length t) (sym is) (omega (arith, some, length-set ys c.place c.new))
