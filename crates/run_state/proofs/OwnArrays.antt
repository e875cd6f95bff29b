-- Arguments that are rows of numbers become arrays one after the other.
use Rattle.std.proofs.Common.{◌≡◌, ℕ, ◌+◌, ◌<◌, List, [], ◌∷◌, ◌++◌, length, get_or, set, take, drop, map, refl, sym, ◌∙◌, ap, arith}
use Rattle.std.proofs.lemmas.List.{take_more_set, drop-set-lt, drop_more, set-set, map-set, length-map}
use Rattle.comet_meaning.specs.Values.{Value}
use Rattle.comet_meaning.specs.State.{State}
use Rattle.comet_meaning.specs.Outcome.{Went}
use Rattle.comet_meaning.specs.Calls.{own_array, own_arrays}
use Rattle.run_values.specs.Views.{value_seen}
use Rattle.run_values.specs.declared.values.Value.{Value as declared}
use Rattle.run_state.proofs.ArrayLaws.{seen_there}

-- one more argument is owned
pub own_more : (vs : List Value) (i : ℕ) (v w : Value) (s t : State) → i < length vs → v ≡ get_or vs i v → own_array v s ≡ Went w t → own_arrays (drop (i + 1) (set vs i w)) (take (i + 1) (set vs i w)) t ≡ own_arrays (drop i vs) (take i vs) s
own_more vs i v w s t h is owned =
    let before : drop i vs ≡ v ∷ drop (i + 1) vs = drop_more vs i v h ∙ ap (λ (x : Value). x ∷ drop (i + 1) vs) (sym is) in
    let behind : drop (i + 1) (set vs i w) ≡ drop (i + 1) vs = drop-set-lt (i + 1) vs i w (omega arith) in
    let front : take (i + 1) (set vs i w) ≡ take i vs ++ w ∷ [] = take_more_set vs i w h in
    rw (behind, front, before, owned) refl

-- the same of values as the code has them, which are taken out of the list and put back
pub seen_own_more : (xs : List declared) (i : ℕ) (x y z : declared) (s t : State) → i < length xs → x ≡ get_or xs i x → own_array (value_seen x) s ≡ Went (value_seen z) t → own_arrays (drop (i + 1) (map value_seen (set (set xs i y) i z))) (take (i + 1) (map value_seen (set (set xs i y) i z))) t ≡ own_arrays (drop i (map value_seen xs)) (take i (map value_seen xs)) s
seen_own_more xs i x y z s t h is owned =
    let there : value_seen x ≡ get_or (map value_seen xs) i (value_seen x) = sym (seen_there value_seen xs i x (value_seen x) is h) in
    rw (set-set xs i y z, map-set value_seen xs i z) (own_more (map value_seen xs) i (value_seen x) (value_seen z) s t (omega (arith, length-map xs value_seen)) there owned)
