-- The search for components, where it closes the last component.
use Rattle.std.proofs.Common.{Vec, ℕ, ◌+◌, ◌-◌, ◌<◌, ◌≤◌, ◌≡◌, ◌⊎◌, ◌∙◌, List, [], ◌∷◌, length, get_or, take, drop, subst, sym, ap, inl, inr, refl, arith}
use Rattle.std.specs.declared.alloc.Global.{Global}
use Rattle.std.specs.List.{Contains}
use Rattle.std.proofs.lemmas.Bool.{cases_eq, cases_lt}
use Rattle.std.proofs.lemmas.List.{get_or-take, get_or-drop, length-take-le, length-drop, get_or_default}
use Rattle.std.proofs.Math.ListN.{get_or-eq_default}
use Rattle.layer_plan.specs.Dependencies.{list_of, DependsOn}
use Rattle.layer_plan.specs.Cycles.{Leads}
use Rattle.layer_plan.specs.Nearness.{HasWay, LeadsBack}
use Rattle.layer_plan.specs.Search.{IsLast}
use Rattle.layer_plan.specs.Components.{IsPlaced, IsTrailing, AreStarts, IsSeen, IsLinked, IsSettled}
use Rattle.layer_plan.specs.declared.components.Mark.{Mark}
use Rattle.layer_plan.specs.declared.components.Mark.TheVariants.{Untouched, Open, Closed}
use Rattle.layer_plan.proofs.Lists.{place_of}
use Rattle.layer_plan.proofs.Ways.{back_of_ways}
use Rattle.layer_plan.proofs.ComponentSteps.{no_earlier_fewer, no_earlier_more, last_no_earlier}

-- an item of the component, which becomes closed
abbrev pub IsShut : List (Vec ℕ Global) → (ℕ → Mark) → (ℕ → Mark) → (ℕ → ℕ) → ℕ → ℕ → Type 0
IsShut deps mark mark' place start v = (v < length deps) × (mark v ≡ Open) × (start ≤ place v) × (mark' v ≡ Closed)

-- or another, which stays as it is
abbrev pub IsKept : (ℕ → Mark) → (ℕ → Mark) → (ℕ → ℕ) → ℕ → ℕ → Type 0
IsKept mark mark' place start v = (mark' v ≡ mark v) × (mark v ≡ Open → place v < start)

abbrev pub Closes : List (Vec ℕ Global) → (ℕ → Mark) → (ℕ → Mark) → (ℕ → ℕ) → ℕ → Type 0
Closes deps mark mark' place start = (v : ℕ) → IsShut deps mark mark' place start v ⊎ IsKept mark mark' place start v

pub mark_inside : (deps : List (Vec ℕ Global)) (ms : List Mark) (v : ℕ) → length ms ≡ length deps → get_or ms v Untouched ≡ Open → v < length deps
mark_inside deps ms v size e = elim (cases_lt v (length deps)) [ inl h ↦ h | inr h ↦ (let d = get_or-eq_default ms Untouched {n = v} (omega arith) in absurd (let f = sym d ∙ e in cc)) ]

-- what stands in the component has its place from the start on
pub in_component : (path : List ℕ) (start v : ℕ) → Contains (drop start path) v → (i : ℕ) × (start ≤ i) × (i < length path) × (get_or path i 0 ≡ v)
in_component path start v (k, lt, e) = (start + k, omega arith, omega (arith, length-drop start path), sym (get_or-drop start path k 0) ∙ (get_or_default (drop start path) k 0 v lt ∙ e))

pub of_component : (path : List ℕ) (start i v : ℕ) → start ≤ i → i < length path → get_or path i 0 ≡ v → Contains (drop start path) v
of_component path start i v le lt e =
    let k : (k : ℕ) × (start + k ≡ i) = (i - start, omega arith) in
    let k_at = k.1 in
    let k_in : k.0 < length (drop start path) = omega (arith, length-drop start path) in
    (k.0, k_in, get_or_default (drop start path) k.0 v 0 k_in ∙ get_or-drop start path k.0 0 ∙ ap (λ m. get_or path m 0) k.1 ∙ e)

mark_cases : (m : Mark) → (m ≡ Open) ⊎ (m ≡ Open → ⊥)
mark_cases Untouched = inr (λ e. cc)
mark_cases Open = inl refl
mark_cases Closed = inr (λ e. cc)

pub the_closed : (m : Mark) → (m ≡ Untouched → ⊥) → (m ≡ Open → ⊥) → m ≡ Closed
the_closed Untouched a b = absurd (a refl)
the_closed Open a b = absurd (b refl)
the_closed Closed a b = refl

pub closes_from : (deps : List (Vec ℕ Global)) (mark mark' : ℕ → Mark) (place : ℕ → ℕ) (path : List ℕ) (start : ℕ) → IsPlaced deps mark place path → ((v : ℕ) → mark v ≡ Open → v < length deps) → ((v : ℕ) → Contains (drop start path) v → mark' v ≡ Closed) → ((v : ℕ) → (Contains (drop start path) v → ⊥) → mark' v ≡ mark v) → Closes deps mark mark' place start
closes_from deps mark mark' place path start p inside shut others v =
    elim (mark_cases (mark v)) [
      | inl o ↦ (let lt = inside v o in
          let at_in = p.place_in v lt o in
          elim (cases_lt (place v) start) [
            | inl h ↦ inr (others v (λ c. (let i = in_component path start v c in let le = i.1 in let e = p.place_of i.0 i.2 in let f = ap place i.3 in omega arith)), λ q. h)
            | inr h ↦ inl (lt, o, h, shut v (of_component path start (place v) v h at_in (p.at_place v lt o)))
          ])
      | inr not_open ↦ inr (others v (λ c. (let i = in_component path start v c in not_open (subst (λ y. mark y ≡ Open) i.3 (p.open_each i.0 i.2)))), λ q. absurd (not_open q))
    ]

-- what is open afterwards was open, and before the start
still_open : (deps : List (Vec ℕ Global)) (mark mark' : ℕ → Mark) (place : ℕ → ℕ) (start v : ℕ) → Closes deps mark mark' place start → mark' v ≡ Open → (mark v ≡ Open) × (place v < start)
still_open deps mark mark' place start v c e = elim (c v) [ inl h ↦ absurd (let f = h.3 in cc) | inr h ↦ (let o = sym h.0 ∙ e in (o, h.1 o)) ]

still_fresh : (deps : List (Vec ℕ Global)) (mark mark' : ℕ → Mark) (place : ℕ → ℕ) (start v : ℕ) → Closes deps mark mark' place start → mark' v ≡ Untouched → mark v ≡ Untouched
still_fresh deps mark mark' place start v c e = elim (c v) [ inl h ↦ absurd (let f = h.3 in cc) | inr h ↦ sym h.0 ∙ e ]

stays_open : (deps : List (Vec ℕ Global)) (mark mark' : ℕ → Mark) (place : ℕ → ℕ) (start v : ℕ) → Closes deps mark mark' place start → mark v ≡ Open → place v < start → mark' v ≡ Open
stays_open deps mark mark' place start v c o lt = elim (c v) [ inl h ↦ (let le = h.2 in absurd (omega arith)) | inr h ↦ h.0 ∙ o ]

stays_closed : (deps : List (Vec ℕ Global)) (mark mark' : ℕ → Mark) (place : ℕ → ℕ) (start v : ℕ) → Closes deps mark mark' place start → mark v ≡ Closed → mark' v ≡ Closed
stays_closed deps mark mark' place start v c e = elim (c v) [ inl h ↦ h.3 | inr h ↦ h.0 ∙ e ]

becomes_closed : (deps : List (Vec ℕ Global)) (mark mark' : ℕ → Mark) (place : ℕ → ℕ) (start v : ℕ) → Closes deps mark mark' place start → mark v ≡ Open → start ≤ place v → mark' v ≡ Closed
becomes_closed deps mark mark' place start v c o le = elim (c v) [ inl h ↦ h.3 | inr h ↦ (let lt = h.1 o in absurd (omega arith)) ]

pub Placed-close : (deps : List (Vec ℕ Global)) (mark mark' : ℕ → Mark) (place : ℕ → ℕ) (path : List ℕ) (start : ℕ) → Closes deps mark mark' place start → start ≤ length path → IsPlaced deps mark place path → IsPlaced deps mark' place (take start path)
Placed-close deps mark mark' place path start c le p =
    let size : length (take start path) ≡ start = length-take-le start path le in
    let read : (i : ℕ) → i < length (take start path) → get_or (take start path) i 0 ≡ get_or path i 0 = λ i h. get_or-take start path i 0 (omega arith) in
    record {
      items = λ i h. subst (λ y. y < length deps) (sym (read i h)) (p.items i (omega arith));
      open_each = λ i h. subst (λ y. mark' y ≡ Open) (sym (read i h)) (let at = p.place_of i (omega arith) in stays_open deps mark mark' place start (get_or path i 0) c (p.open_each i (omega arith)) (omega arith));
      place_of = λ i h. ap place (read i h) ∙ p.place_of i (omega arith);
      place_in = λ v lt e. (let o = still_open deps mark mark' place start v c e in let h = o.1 in omega arith);
      at_place = λ v lt e. (let o = still_open deps mark mark' place start v c e in get_or-take start path (place v) 0 o.1 ∙ p.at_place v lt o.0);
    }

pub Trailing-close : (deps : List (Vec ℕ Global)) (mark mark' : ℕ → Mark) (rest place : ℕ → ℕ) (trail : List ℕ) (start : ℕ) → Closes deps mark mark' place start → ((i : ℕ) → i < length trail → place (get_or trail i 0) < start) → IsTrailing deps mark rest place trail → IsTrailing deps mark' rest place trail
Trailing-close deps mark mark' rest place trail start c done t = record {
  items = t.items;
  open_each = λ i lt. stays_open deps mark mark' place start (get_or trail i 0) c (t.open_each i lt) (done i lt);
  rising = t.rising;
  left = λ v lt e some. t.left v lt (still_open deps mark mark' place start v c e).0 some;
}

pub Starts-close : (n : ℕ) (starts : List ℕ) (p start : ℕ) → AreStarts n starts → p + 1 ≡ length starts → get_or starts p 0 ≡ start → AreStarts start (take p starts)
Starts-close n starts p start s at is =
    let size : length (take p starts) ≡ p = length-take-le p starts (omega arith) in
    let read : (k : ℕ) → k < p → get_or (take p starts) k 0 ≡ get_or starts k 0 = λ k h. get_or-take p starts k 0 h in
    let start_in = s.within p (omega arith) in
    record {
      within = λ k h. (let e = read k (omega arith) in let r = s.rising k p (omega arith) (omega arith) in omega arith);
      rising = λ i j lt h. (let a = read i (omega arith) in let b = read j (omega arith) in let r = s.rising i j lt (omega arith) in omega arith);
      some = λ i h. (let w = s.some i (omega arith) in let w_in = w.1 in let le = w.2 in elim (cases_eq w.0 p) [
        | inl e ↦ (let f = ap (λ m. get_or starts m 0) e in absurd (omega arith))
        | inr ne ↦ (let k_in : w.0 < p = omega arith in let r = read w.0 k_in in (w.0, omega arith, omega arith))
      ]);
    }

pub Seen-close : (deps : List (Vec ℕ Global)) (mark mark' : ℕ → Mark) (rest place : ℕ → ℕ) (starts : List ℕ) (p start : ℕ) → Closes deps mark mark' place start → p + 1 ≡ length starts → IsSeen deps mark rest place starts → IsSeen deps mark' rest place (take p starts)
Seen-close deps mark mark' rest place starts p start c at s = record {
  fresh = λ v lt e. s.fresh v lt (still_fresh deps mark mark' place start v c e);
  within = s.within;
  touched = λ v k lt e a b u. s.touched v k lt (still_open deps mark mark' place start v c e).0 a b (still_fresh deps mark mark' place start _ c u);
  no_earlier = λ v k lt e a b u. no_earlier_fewer starts p (place v) (place (get_or (list_of deps v) k 0)) at (s.no_earlier v k lt (still_open deps mark mark' place start v c e).0 a b (still_open deps mark mark' place start _ c u).0);
}

pub Linked-close : (deps : List (Vec ℕ Global)) (path starts : List ℕ) (p start : ℕ) → start ≤ length path → p + 1 ≡ length starts → get_or starts p 0 ≡ start → IsLinked deps path starts → IsLinked deps (take start path) (take p starts)
Linked-close deps path starts p start le at is l = λ i j i_in j_in h.
    let size : length (take start path) ≡ start = length-take-le start path le in
    let a = get_or-take start path i 0 (omega arith) in
    let b = get_or-take start path j 0 (omega arith) in
    subst (λ y. HasWay deps y (get_or (take start path) j 0)) (sym a) (subst (λ y. HasWay deps (get_or path i 0) y) (sym b) (l i j (omega arith) (omega arith) (no_earlier_more starts p start i j at is (λ q. absurd (omega arith)) h)))

-- a way from what is closed ends at what is closed
closed_way : (deps : List (Vec ℕ Global)) (mark : ℕ → Mark) (least x y : ℕ) (xs : List ℕ) → IsSettled deps mark least → mark x ≡ Closed → Leads deps (x ∷ xs) y → mark y ≡ Closed
closed_way deps mark least x y [] s e l = s.closed x y e l.0
closed_way deps mark least x y (z ∷ zs) s e l = closed_way deps mark least z y zs s (s.closed x z e l.0) l.1

-- what depends on the component's items depends on them or on what is closed
closed_next : (deps : List (Vec ℕ Global)) (mark mark' : ℕ → Mark) (rest place : ℕ → ℕ) (trail starts : List ℕ) (p start v w : ℕ) → Closes deps mark mark' place start → IsTrailing deps mark rest place trail → ((i : ℕ) → i < length trail → place (get_or trail i 0) < start) → p + 1 ≡ length starts → get_or starts p 0 ≡ start → IsSeen deps mark rest place starts → IsShut deps mark mark' place start v → DependsOn deps v w → mark' w ≡ Closed
closed_next deps mark mark' rest place trail starts p start v w c t done at is s shut d =
    let at_start = shut.2 in
    let none : rest v ≡ 0 = elim (cases_eq (rest v) 0) [ inl e ↦ e | inr ne ↦ (let i = t.left v shut.0 shut.1 (omega arith) in let lt = done i.0 i.1 in let f = ap place i.2 in absurd (omega arith)) ] in
    let k = place_of deps v w d in
    let touched = s.touched v k.0 shut.0 shut.1 (omega arith) k.1 in
    let w_touched : mark w ≡ Untouched → ⊥ = λ e. touched (ap mark k.2 ∙ e) in
    elim (mark_cases (mark w)) [
      | inl o ↦ (let r = s.no_earlier v k.0 shut.0 shut.1 (omega arith) k.1 (ap mark k.2 ∙ o) p (omega arith) (omega arith) in let f = ap place k.2 in becomes_closed deps mark mark' place start w c o (omega arith))
      | inr not_open ↦ stays_closed deps mark mark' place start w c (the_closed (mark w) w_touched not_open)
    ]

-- of what lies on a cycle in the component the new least is no greater
shut_least : (deps : List (Vec ℕ Global)) (mark mark' : ℕ → Mark) (place : ℕ → ℕ) (path : List ℕ) (start least least' v : ℕ) (xs : List ℕ) → Closes deps mark mark' place start → IsPlaced deps mark place path → IsSettled deps mark least → ((w : ℕ) → DependsOn deps v w → mark' w ≡ Closed) → least' ≤ least → (1 < length (drop start path) → (w : ℕ) → Contains (drop start path) w → least' ≤ w) → IsShut deps mark mark' place start v → Leads deps (v ∷ xs) v → least' ≤ v
shut_least deps mark mark' place path start least least' v [] c p s next low all shut l = let h = s.on_itself v l.0 in omega arith
shut_least deps mark mark' place path start least least' v (y ∷ ys) c p s next low all shut l =
    let v_at = p.place_in v shut.0 shut.1 in
    let v_low = shut.2 in
    elim (cases_lt 1 (length (drop start path))) [
      | inl many ↦ all many v (of_component path start (place v) v shut.2 v_at (p.at_place v shut.0 shut.1))
      | inr few ↦ (elim (c y) [
        | inl h ↦ (let y_at = p.place_in y h.0 h.1 in
            let y_low = h.2 in
            let same : place v ≡ place y = omega (arith, length-drop start path) in
            let e : y ≡ v = sym (p.at_place y h.0 h.1) ∙ ap (λ k. get_or path k 0) (sym same) ∙ p.at_place v shut.0 shut.1 in
            let g = s.on_itself v (subst (λ z. DependsOn deps v z) e l.0) in
            omega arith)
        | inr h ↦ (let f = closed_way deps mark least y v ys s (sym h.0 ∙ next y l.0) l.1 in let o = shut.1 in absurd (let q = sym f ∙ o in cc))
      ])
    ]

-- of several items of the component each lies on a cycle
shut_lies : (deps : List (Vec ℕ Global)) (mark : ℕ → Mark) (place : ℕ → ℕ) (path starts : List ℕ) (start v : ℕ) → IsPlaced deps mark place path → AreStarts (length path) starts → IsLast starts start → IsLinked deps path starts → 1 < length (drop start path) → Contains (drop start path) v → LeadsBack deps v
shut_lies deps mark place path starts start v p s last l many at =
    let size = length-drop start path in
    let i = in_component path start v at in
    let i_le = i.1 in
    let i_in = i.2 in
    let i_at = i.3 in
    let other : (j : ℕ) × (start ≤ j) × (j < length path) × (j ≡ i.0 → ⊥) =
    elim (cases_eq i.0 start) [ inl e ↦ (start + 1, omega arith, omega arith, λ q. omega arith) | inr ne ↦ (start, omega arith, omega arith, λ q. omega arith) ] in
    let j_le = other.1 in
    let go = l i.0 other.0 i_in other.2 (last_no_earlier (length path) starts start i.0 other.0 s last j_le) in
    let come = l other.0 i.0 other.2 i_in (last_no_earlier (length path) starts start other.0 i.0 s last i_le) in
    let back = back_of_ways deps (get_or path i.0 0) (get_or path other.0 0) go come (λ e. other.3 (sym (p.place_of other.0 other.2) ∙ sym (ap place e) ∙ p.place_of i.0 i_in)) in
    subst (λ y. LeadsBack deps y) i_at back

pub Settled-close : (deps : List (Vec ℕ Global)) (mark mark' : ℕ → Mark) (rest place : ℕ → ℕ) (path trail starts : List ℕ) (p start least least' : ℕ) → Closes deps mark mark' place start → IsPlaced deps mark place path → IsTrailing deps mark rest place trail → AreStarts (length path) starts → IsSeen deps mark rest place starts → IsLinked deps path starts → IsSettled deps mark least → ((i : ℕ) → i < length trail → place (get_or trail i 0) < start) → p + 1 ≡ length starts → get_or starts p 0 ≡ start → least' ≤ least → (1 < length (drop start path) → (w : ℕ) → Contains (drop start path) w → least' ≤ w) → (least' ≡ least) ⊎ ((1 < length (drop start path)) × Contains (drop start path) least') → IsSettled deps mark' least'
Settled-close deps mark mark' rest place path trail starts p start least least' c pl t st se l s done at is low all one =
    let next : (v w : ℕ) → IsShut deps mark mark' place start v → DependsOn deps v w → mark' w ≡ Closed = λ v w shut d. closed_next deps mark mark' rest place trail starts p start v w c t done at is se shut d in
    record {
      closed = λ v w e d. elim (c v) [ inl h ↦ next v w h d | inr h ↦ stays_closed deps mark mark' place start w c (s.closed v w (sym h.0 ∙ e) d) ];
      least_of = λ v e back. elim (c v) [ inl h ↦ shut_least deps mark mark' place path start least least' v back.0 c pl s (λ w d. next v w h d) low all h back.1 | inr h ↦ (let k = s.least_of v (sym h.0 ∙ e) back in omega arith) ];
      on_itself = λ v d. (let k = s.on_itself v d in omega arith);
      lies = λ lt. elim one [ inl e ↦ subst (λ y. LeadsBack deps y) (sym e) (s.lies (omega arith)) | inr h ↦ shut_lies deps mark place path starts start least' pl st (p, at, is) l h.0 h.1 ];
    }
