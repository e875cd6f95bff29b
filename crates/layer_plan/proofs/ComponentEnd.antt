-- Where all was looked at, the least item that lies on a cycle is known.
use Rattle.std.proofs.Common.{Vec, ℕ, ◌<◌, ◌≤◌, ◌≡◌, List, [], length, ap, arith}
use Rattle.std.specs.declared.alloc.Global.{Global}
use Rattle.layer_plan.specs.Nearness.{LeadsBack, HasCycle, IsLeastOnCycle}
use Rattle.layer_plan.specs.Components.{AreComponents, mark_of}
use Rattle.layer_plan.specs.declared.components.Mark.TheVariants.{Untouched, Closed}
use Rattle.layer_plan.specs.declared.components.Components.{Components}
use Rattle.layer_plan.proofs.ComponentClose.{the_closed}
use Rattle.layer_plan.proofs.Lists.{depends_in}

closed_all : (deps : List (Vec ℕ Global)) (s : Components) → AreComponents deps s → s.starts.items ≡ [] → ((v : ℕ) → v < length deps → mark_of s v ≡ Untouched → ⊥) → (v : ℕ) → v < length deps → mark_of s v ≡ Closed
closed_all deps s a empty touched v lt = the_closed (mark_of s v) (touched v lt) (λ e. (let at = a.placed.place_in v lt e in let w = a.starts.some 0 (omega arith) in let w_in = w.1 in let z : length s.starts.items ≡ 0 = ap length empty in omega arith))

pub least_of_all : (deps : List (Vec ℕ Global)) (s : Components) → AreComponents deps s → s.starts.items ≡ [] → ((v : ℕ) → v < length deps → mark_of s v ≡ Untouched → ⊥) → HasCycle deps → IsLeastOnCycle deps s.least
least_of_all deps s a empty touched cycle =
    let low : (v : ℕ) → LeadsBack deps v → s.least ≤ v = λ v b. a.settled.least_of v (closed_all deps s a empty touched v (depends_in deps v _ b.1.0)) b in
    let some_in = depends_in deps cycle.0 _ cycle.1.1.0 in
    let some = low cycle.0 cycle.1 in
    record {
      root_in = omega arith;
      leads_back = a.settled.lies (omega arith);
      least = λ v lt b. (let le = low v b in omega arith);
    }
