-- The best way to the root: along items that are nearer and nearer, the least of the nearest each time.
use Rattle.std.proofs.Common.{Vec, ℕ, ◌+◌, ◌<◌, ◌≤◌, ◌≡◌, ◌⊎◌, List, [], ◌∷◌, length, subst, sym, ap, inl, inr, refl, arith}
use Rattle.std.specs.declared.alloc.Global.{Global}
use Rattle.std.proofs.lemmas.Bool.{cases_eq, cases_lt}
use Rattle.layer_plan.specs.Dependencies.{list_of, DependsOn}
use Rattle.layer_plan.specs.Cycles.{first_or, Lacks, IsDistinct, Leads, IsCycle}
use Rattle.layer_plan.specs.NamedCycle.{IsNoLater, IsNamedCycle}
use Rattle.layer_plan.specs.Nearness.{IsNear, ComesFirst, IsLeastOnCycle}
use Rattle.layer_plan.proofs.Ways.{back_of_cycle, near_of_way}

-- the items of a shortest way from `v` to the root, the first in the order of lists
pub record IsBest (deps : List (Vec ℕ Global)) (near : ℕ → ℕ) (root v : ℕ) (ys : List ℕ) : Type 0 where
  pub leads : Leads deps ys root
  pub first : first_or ys root ≡ v
  pub size : length ys ≡ near v
  pub early : (zs : List ℕ) → Leads deps zs root → first_or zs root ≡ v → length zs ≡ length ys → IsNoLater ys zs
  pub low : (x : ℕ) → (near v < near x) ⊎ (near x ≡ 0) → Lacks ys x
  pub distinct : IsDistinct ys

-- `w` comes first among what `v` depends on
abbrev pub Chosen : List (Vec ℕ Global) → (ℕ → ℕ) → ℕ → ℕ → Type 0
Chosen deps near v w = (u : ℕ) → DependsOn deps v u → ComesFirst near w u

pub best_nil : (deps : List (Vec ℕ Global)) (near : ℕ → ℕ) (root : ℕ) → IsNear deps near root → IsBest deps near root root []
best_nil deps near root n = record {
  leads = tt;
  first = refl;
  size = sym n.at_root;
  early = λ zs l f s. tt;
  low = λ x h. tt;
  distinct = tt;
}

less_first : (ys zs : List ℕ) (root : ℕ) → first_or ys root < first_or zs root → length zs ≡ length ys → IsNoLater ys zs
less_first [] zs root lt size = tt
less_first (y ∷ ys) [] root lt size = absurd (omega arith)
less_first (y ∷ ys) (z ∷ zs) root lt size = inl lt

-- no way of the same length whose first does not come before is earlier
no_earlier : (deps : List (Vec ℕ Global)) (near : ℕ → ℕ) (root w : ℕ) (ys zs : List ℕ) → IsNear deps near root → IsBest deps near root w ys → Leads deps zs root → length zs ≡ length ys → ComesFirst near w (first_or zs root) → IsNoLater ys zs
no_earlier deps near root w ys zs n b l size comes =
    let short = (near_of_way deps near root zs n l).1 in
    let own = b.size in
    elim comes [
      | inl h ↦ absurd (omega arith)
      | inr h ↦ (elim (cases_eq w (first_or zs root)) [
        | inl e ↦ b.early zs l (sym e) size
        | inr ne ↦ (let f = b.first in let le = h.1 in less_first ys zs root (omega arith) size)
      ])
    ]

cons_early : (deps : List (Vec ℕ Global)) (near : ℕ → ℕ) (root v w : ℕ) (ys zs : List ℕ) → IsNear deps near root → IsBest deps near root w ys → Chosen deps near v w → Leads deps zs root → first_or zs root ≡ v → length zs ≡ length (v ∷ ys) → IsNoLater (v ∷ ys) zs
cons_early deps near root v w ys [] n b chosen l f size = absurd (omega arith)
cons_early deps near root v w ys (z ∷ zs) n b chosen l f size = inr (sym f, no_earlier deps near root w ys zs n b l.1 (omega arith) (chosen (first_or zs root) (subst (λ y. DependsOn deps y (first_or zs root)) f l.0)))

cons_low : (near : ℕ → ℕ) (v w x : ℕ) → near w + 1 ≡ near v → (near v < near x) ⊎ (near x ≡ 0) → v ≡ x → ⊥
cons_low near v w x step h e = let q = ap near e in elim h [ inl a ↦ omega arith | inr a ↦ omega arith ]

pub best_cons : (deps : List (Vec ℕ Global)) (near : ℕ → ℕ) (root v w : ℕ) (ys : List ℕ) → IsNear deps near root → IsBest deps near root w ys → DependsOn deps v w → near w + 1 ≡ near v → Chosen deps near v w → IsBest deps near root v (v ∷ ys)
best_cons deps near root v w ys n b dep step chosen = record {
  leads = (subst (λ y. DependsOn deps v y) (sym b.first) dep, b.leads);
  first = refl;
  size = (let s = b.size in omega arith);
  early = λ zs l f s. cons_early deps near root v w ys zs n b chosen l f s;
  low = λ x h. (cons_low near v w x step h, b.low x (elim h [ inl a ↦ inl (omega arith) | inr a ↦ inr a ]));
  distinct = (b.low v (inl (omega arith)), b.distinct);
}

-- a cycle that begins at the root
at_root : (deps : List (Vec ℕ Global)) (x root : ℕ) (zs : List ℕ) → x ≡ root → Leads deps (x ∷ zs) x → Leads deps (root ∷ zs) root
at_root deps x root zs e l = subst (λ y. Leads deps (y ∷ zs) y) e l

no_shorter : (deps : List (Vec ℕ Global)) (near : ℕ → ℕ) (root w : ℕ) (ys other : List ℕ) → IsNear deps near root → IsBest deps near root w ys → Chosen deps near root w → IsCycle deps other → first_or other 0 ≡ root → length (root ∷ ys) ≤ length other
no_shorter deps near root w ys [] n b chosen c e = absurd c
no_shorter deps near root w ys (x ∷ zs) n b chosen c e =
    let l = at_root deps x root zs e c.1 in
    let short = (near_of_way deps near root zs n l.1).1 in
    let own = b.size in
    elim (chosen (first_or zs root) l.0) [ inl h ↦ omega arith | inr h ↦ (let q = h.0 in omega arith) ]

cycle_early : (deps : List (Vec ℕ Global)) (near : ℕ → ℕ) (root w : ℕ) (ys other : List ℕ) → IsNear deps near root → IsBest deps near root w ys → Chosen deps near root w → IsCycle deps other → first_or other 0 ≡ root → length other ≡ length (root ∷ ys) → IsNoLater (root ∷ ys) other
cycle_early deps near root w ys [] n b chosen c e size = absurd c
cycle_early deps near root w ys (x ∷ zs) n b chosen c e size = cons_early deps near root root w ys (x ∷ zs) n b chosen (subst (λ y. Leads deps (x ∷ zs) y) e c.1) e size

-- the root and behind it the best way back is the named cycle
pub named : (deps : List (Vec ℕ Global)) (near : ℕ → ℕ) (root w : ℕ) (ys : List ℕ) → IsNear deps near root → IsLeastOnCycle deps root → IsBest deps near root w ys → DependsOn deps root w → Chosen deps near root w → IsNamedCycle deps (root ∷ ys)
named deps near root w ys n r b dep chosen = record {
  cycle = ((b.low root (inr n.at_root), b.distinct), (subst (λ y. DependsOn deps root y) (sym b.first) dep, b.leads));
  least = λ other item c at. elim (cases_lt item root) [ inl h ↦ absurd (r.least item h (back_of_cycle deps other item c at)) | inr h ↦ omega arith ];
  shortest = λ other c e. no_shorter deps near root w ys other n b chosen c e;
  earliest = λ other c e s. cycle_early deps near root w ys other n b chosen c e s;
}

-- what comes first at the root leads back to it
pub first_known : (deps : List (Vec ℕ Global)) (near : ℕ → ℕ) (root w : ℕ) → IsNear deps near root → IsLeastOnCycle deps root → Chosen deps near root w → near w < length deps
first_known deps near root w n r chosen =
    let way = r.leads_back in
    let known = (near_of_way deps near root way.0 n way.1.1).0 in
    elim (chosen (first_or way.0 root) way.1.0) [ inl h ↦ omega arith | inr h ↦ (let q = h.0 in omega arith) ]

-- an item from which steps lead to the root, but the root
pub known_next : (deps : List (Vec ℕ Global)) (near : ℕ → ℕ) (root v : ℕ) → IsNear deps near root → v < length deps → near v < length deps → (v ≡ root → ⊥) → (w : ℕ) × DependsOn deps v w × (near w + 1 ≡ near v)
known_next deps near root v n v_in known other = elim (cases_eq (near v) 0) [ inl e ↦ absurd (other (n.only_root v v_in e)) | inr ne ↦ n.reached v v_in (omega arith) known ]

pub one_nearer : (deps : List (Vec ℕ Global)) (near : ℕ → ℕ) (root v w : ℕ) → IsNear deps near root → v < length deps → near v < length deps → (v ≡ root → ⊥) → DependsOn deps v w → Chosen deps near v w → near w + 1 ≡ near v
one_nearer deps near root v w n v_in known other dep chosen =
    let t = known_next deps near root v n v_in known other in
    let q = t.2 in
    elim (chosen t.0 t.1) [
      | inl h ↦ (let s = n.step v w dep (omega arith) in omega arith)
      | inr h ↦ (let e = h.0 in let s = n.step v w dep (omega arith) in omega arith)
    ]

-- what depends on something has a list that isn't empty
pub has_some : (deps : List (Vec ℕ Global)) (v w : ℕ) → DependsOn deps v w → 0 < length (list_of deps v)
unfolding DependsOn
has_some deps v w h = let lt = h.1 in omega arith
