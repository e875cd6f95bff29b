-- Walks one after another, and parts one after another.
use Rattle.std.proofs.Common.{◌≡◌, ℕ, pos, ◌+◌, ◌-◌, ◌<◌, Bool, true, false, true≢false, List, [], ◌∷◌, ◌++◌, Vec, Global, All, Ok, length, length-append, get_or, take, drop, map, refl, sym, ap, ◌∙◌, subst, arith}
use Rattle.std.proofs.lemmas.List.{append_assoc, append-nil, map-append, take_more, take_all}
use Rattle.std.proofs.lemmas.List.Elements.{All-get_or}
use Rattle.cbl_base.specs.NumberRule.{NumberRule}
use Rattle.cbl_base.specs.declared.place.Place.{Place}
use Rattle.cbl_operations.specs.declared.op.Op.{Op}
use Rattle.model_values.specs.Outcomes.{Outcome}
use Rattle.term_model.specs.Definitions.{joined, vars_of, vars_step}
use Rattle.term_model.specs.declared.term.Term.{Term}
use Rattle.term_model.specs.declared.term.Term.TheOpen.{Term-F}
use Rattle.term_model.specs.declared.term.Term.TheViews.{roll-Term, Node}
use Rattle.term_model.specs.declared.term.Term.TheVariants.{rolls-Node}
use Rattle.term_model.specs.declared.term.Term.TheFolds.{fold-roll-Term, map-Term, ind-Term}
use Rattle.violation_shares.specs.VariableViolations.{share_step}
use Rattle.store_shares.specs.Naming.{IsNaming}
use Rattle.store_shares.specs.Slots.{Slotted, is_flat, joined_slots, kind_of, part_by, slots_by, slots_of, slots_step, slotted}
use Rattle.store_shares.specs.Telling.{AllTell, IsClosed, Tells}
use Rattle.store_shares.specs.Walked.{IsWalked}
use Rattle.store_shares.specs.declared.parts.Kind.{Kind}
use Rattle.store_shares.specs.declared.parts.Kind.TheVariants.{Every, One, Negation, Plain}
use Rattle.store_shares.specs.declared.parts.Part.{Part}
use Rattle.store_shares.specs.declared.parts.Part.TheVariants.{Leaf as LeafPart}
use Rattle.store_shares.specs.declared.walk.Walk.{Walk}
use Rattle.store_shares.proofs.TellLaws.{every_tells, leaf_tells, negation_tells, one_tells, plain_tells}
use Rattle.store_shares.proofs.TermLaws.{Share, share}

-- ---- lists of lists
pub joined_append : (xs ys : List (List ℕ)) → joined (xs ++ ys) ≡ joined xs ++ joined ys
joined_append [] ys = refl
joined_append (x ∷ xs) ys = ap (λ l. x ++ l) (joined_append xs ys) ∙ sym (append_assoc x (joined xs) (joined ys))

pub joined_slots_append : (xs ys : List (List (List ℕ))) → joined_slots (xs ++ ys) ≡ joined_slots xs ++ joined_slots ys
joined_slots_append [] ys = refl
joined_slots_append (x ∷ xs) ys = ap (λ l. x ++ l) (joined_slots_append xs ys) ∙ sym (append_assoc x (joined_slots xs) (joined_slots ys))

-- the slots of terms and of one more
pub slots_more : (terms : List Term) (t : Term) → joined_slots (map slots_of (terms ++ t ∷ [])) ≡ joined_slots (map slots_of terms) ++ slots_of t
slots_more terms t =
    ap joined_slots (map-append slots_of terms (t ∷ [])) ∙ joined_slots_append (map slots_of terms) (slots_of t ∷ [])
    ∙ ap (λ l. joined_slots (map slots_of terms) ++ l) (append-nil (slots_of t))

-- what was put behind a list
pub behind_of : (old vars new : List ℕ) → new ≡ old ++ vars → take (length new - length old) (drop (length old) new) ≡ vars
behind_of old vars new e = subst (λ l. take (length l - length old) (drop (length old) l) ≡ vars) (sym e) (behind old)
  where
    dropped : (xs : List ℕ) → drop (length xs) (xs ++ vars) ≡ vars
    dropped [] = refl
    dropped (x ∷ xs) = dropped xs

    behind : (xs : List ℕ) → take (length (xs ++ vars) - length xs) (drop (length xs) (xs ++ vars)) ≡ vars
    behind xs =
        let long = length-append xs vars in
        ap (take (length (xs ++ vars) - length xs)) (dropped xs) ∙ take_all (length (xs ++ vars) - length xs) vars (omega (arith, long))

-- ---- walks
pub walked_none : (walk : Walk) → IsWalked walk walk []
walked_none walk = record {
  naming = λ variables lists naming. subst (IsNaming variables walk.slots) (sym (append-nil lists)) naming;
  count = omega arith;
  named = sym (append-nil walk.named.items);
}

pub walked_then : (old mid new : Walk) (xs ys : List (List ℕ)) → IsWalked old mid xs → IsWalked mid new ys → IsWalked old new (xs ++ ys)
walked_then old mid new xs ys first second = record {
  naming = λ variables lists naming. subst (IsNaming variables new.slots) (append_assoc lists xs ys) (second.naming variables (lists ++ xs) (first.naming variables lists naming));
  count =
      let a = first.count in
      let b = second.count in
      let c = length-append xs ys in
      omega (arith, a, b, c);
  named =
      second.named ∙ ap (λ l. l ++ joined ys) first.named ∙ append_assoc old.named.items (joined xs) (joined ys)
      ∙ ap (λ l. old.named.items ++ l) (sym (joined_append xs ys));
}

pub walked_one : (old new : Walk) (vars : List ℕ) → ((variables : ℕ) (lists : List (List ℕ)) → IsNaming variables old.slots lists → IsNaming variables new.slots (lists ++ vars ∷ [])) →
    new.slots.count ≡ old.slots.count + 1 → new.named.items ≡ old.named.items ++ vars → IsWalked old new (vars ∷ [])
walked_one old new vars naming count named = record {
  naming = naming;
  count = count;
  named = named ∙ ap (λ l. old.named.items ++ l) (sym (append-nil vars));
}

pub walked_is : (old new : Walk) (xs ys : List (List ℕ)) → xs ≡ ys → IsWalked old new xs → IsWalked old new ys
walked_is old new xs ys e walked = subst (IsWalked old new) e walked

-- ---- parts
pub tell_more : (ids : Term → ℕ) (parts : List Part) (terms : List Term) (part : Part) (t : Term) (first : ℕ) → AllTell ids parts terms first → Tells ids part t (first + length (joined_slots (map slots_of terms))) →
    AllTell ids (parts ++ part ∷ []) (terms ++ t ∷ []) first
tell_more ids [] [] part t first all one = let e : first + 0 ≡ first = omega arith in (subst (Tells ids part t) e one, tt)
tell_more ids [] (u ∷ terms) part t first all one = absurd all
tell_more ids (p ∷ parts) [] part t first all one = absurd all
tell_more ids (p ∷ parts) (u ∷ terms) part t first all one =
    let long = length-append (slots_of u) (joined_slots (map slots_of terms)) in
    let e : first + length (slots_of u ++ joined_slots (map slots_of terms)) ≡ first + length (slots_of u) + length (joined_slots (map slots_of terms)) = omega (arith, long) in
    (all.0, tell_more ids parts terms part t (first + length (slots_of u)) all.1 (subst (Tells ids part t) e one))

-- ---- slots of a node
abbrev Named : Type 0
Named = (t : Term) × ((slotted t).vars ≡ vars_of t)

named_same : (es : List Named) → map (λ (s : Slotted). s.vars) (map slotted (map (λ e. e.0) es)) ≡ map vars_of (map (λ e. e.0) es)
named_same [] = refl
named_same (e ∷ es) = λ i. e.1 i ∷ named_same es i

abbrev IsNamed : Term → Type 0
IsNamed t = (slotted t).vars ≡ vars_of t

named_layer : (y : Term-F Named) → IsNamed (roll-Term (map-Term Named Term (λ e. e.0) y))
named_layer (Term-F.Const x) = ap (λ (s : Slotted). s.vars) (fold-roll-Term Slotted slots_step (Term-F.Const x)) ∙ sym (fold-roll-Term (List ℕ) vars_step (Term-F.Const x))
named_layer (Term-F.ConstSet x) = ap (λ (s : Slotted). s.vars) (fold-roll-Term Slotted slots_step (Term-F.ConstSet x)) ∙ sym (fold-roll-Term (List ℕ) vars_step (Term-F.ConstSet x))
named_layer (Term-F.Var v) = ap (λ (s : Slotted). s.vars) (fold-roll-Term Slotted slots_step (Term-F.Var v)) ∙ sym (fold-roll-Term (List ℕ) vars_step (Term-F.Var v))
named_layer (Term-F.Node op args place) =
    let z = map-Term Named Term (λ e. e.0) (Term-F.Node op args place) in
    ap (λ (s : Slotted). s.vars) (fold-roll-Term Slotted slots_step z) ∙ ap joined (named_same args.items) ∙ sym (fold-roll-Term (List ℕ) vars_step z)

named_is : (t : Term) → IsNamed t
named_is = ind-Term IsNamed (λ x y is. subst (λ z. IsNamed (roll-Term z)) is (named_layer y))

vars_mapped : (items : List Term) → map (λ (s : Slotted). s.vars) (map slotted items) ≡ map vars_of items
vars_mapped [] = refl
vars_mapped (t ∷ items) = λ i. named_is t i ∷ vars_mapped items i

slots_mapped : (items : List Term) → map (λ (s : Slotted). s.slots) (map slotted items) ≡ map slots_of items
slots_mapped [] = refl
slots_mapped (t ∷ items) = ap (λ l. slots_of t ∷ l) (slots_mapped items)

module _ (t : Term) (op : Op) (args : Vec Term Global) (place : Place) (e : t ≡ Node op args place) where
  slots_here : slots_of t ≡ slots_by (kind_of op) (map slotted args.items)
  slots_here = ap (λ (s : Slotted). s.slots) (ap slotted (e ∙ sym (rolls-Node op args place)) ∙ fold-roll-Term Slotted slots_step (Term-F.Node op args place))

  pub slots_plain : kind_of op ≡ Plain → map vars_of args.items ≡ slots_of t
  slots_plain kind = sym (slots_here ∙ ap (λ k. slots_by k (map slotted args.items)) kind ∙ vars_mapped args.items)

  pub slots_negation : kind_of op ≡ Negation → map vars_of args.items ≡ slots_of t
  slots_negation kind = sym (slots_here ∙ ap (λ k. slots_by k (map slotted args.items)) kind ∙ vars_mapped args.items)

  pub slots_every : kind_of op ≡ Every → joined_slots (map slots_of args.items) ≡ slots_of t
  slots_every kind = sym (slots_here ∙ ap (λ k. slots_by k (map slotted args.items)) kind ∙ ap joined_slots (slots_mapped args.items))

  pub slots_one : kind_of op ≡ One → joined_slots (map slots_of args.items) ≡ slots_of t
  slots_one kind = sym (slots_here ∙ ap (λ k. slots_by k (map slotted args.items)) kind ∙ ap joined_slots (slots_mapped args.items))

-- ---- what isn't a node
pub record IsLeaf (t : Term) : Type 0 where
  pub slots : slots_of t ≡ []
  pub nothing : (users : ℕ → NumberRule) (env : ℕ → Outcome) (depends : ℕ → Bool) → share users env depends t ≡ Ok (pos 0)

abbrev NotNode : Term → Type 0
NotNode t = (op : Op) (args : Vec Term Global) (place : Place) → t ≡ Node op args place → ⊥

abbrev LeafUnlessNode : Term → Type 0
LeafUnlessNode t = NotNode t → IsLeaf t

leaf_layer : (y : Term-F ((t : Term) × LeafUnlessNode t)) → LeafUnlessNode (roll-Term (map-Term ((t : Term) × LeafUnlessNode t) Term (λ e. e.0) y))
leaf_layer (Term-F.Const x) not_node = record {
  slots = ap (λ (s : Slotted). s.slots) (fold-roll-Term Slotted slots_step (Term-F.Const x));
  nothing = λ users env depends. ap (λ (s : Share). s.violation) (fold-roll-Term Share (share_step users env depends) (Term-F.Const x));
}
leaf_layer (Term-F.ConstSet x) not_node = record {
  slots = ap (λ (s : Slotted). s.slots) (fold-roll-Term Slotted slots_step (Term-F.ConstSet x));
  nothing = λ users env depends. ap (λ (s : Share). s.violation) (fold-roll-Term Share (share_step users env depends) (Term-F.ConstSet x));
}
leaf_layer (Term-F.Var v) not_node = record {
  slots = ap (λ (s : Slotted). s.slots) (fold-roll-Term Slotted slots_step (Term-F.Var v));
  nothing = λ users env depends. ap (λ (s : Share). s.violation) (fold-roll-Term Share (share_step users env depends) (Term-F.Var v));
}
leaf_layer (Term-F.Node op args place) not_node =
    let z = map-Term ((t : Term) × LeafUnlessNode t) Term (λ e. e.0) (Term-F.Node op args place) in
    absurd (node_there z refl)
  where
    node_there : (z : Term-F Term) → z ≡ map-Term ((t : Term) × LeafUnlessNode t) Term (λ e. e.0) (Term-F.Node op args place) → ⊥
    node_there (Term-F.Node o us p) e = not_node o us p (ap roll-Term (sym e) ∙ rolls-Node o us p)
    node_there (Term-F.Const x) e = cc
    node_there (Term-F.ConstSet x) e = cc
    node_there (Term-F.Var x) e = cc

leaf_is : (t : Term) → LeafUnlessNode t
leaf_is = ind-Term LeafUnlessNode (λ x y is. subst (λ z. LeafUnlessNode (roll-Term z)) is (leaf_layer y))

pub leaf_walked : (t : Term) → NotNode t → (walk : Walk) → IsWalked walk walk (slots_of t)
leaf_walked t not_node walk = walked_is walk walk [] (slots_of t) (sym (leaf_is t not_node).slots) (walked_none walk)

pub leaf_part_tells : (ids : Term → ℕ) (t : Term) → NotNode t → (id first : ℕ) → id ≡ ids t → Tells ids (LeafPart id) t first
leaf_part_tells ids t not_node id first at = leaf_tells ids (LeafPart id) t first id at refl (leaf_is t not_node).nothing

-- ---- the arguments one after another
pub taken_more : (items : List Term) (i : ℕ) (item : Term) → i < length items → item ≡ get_or items i item → take (i + 1) items ≡ take i items ++ item ∷ []
taken_more items i item lt is = take_more items i item lt ∙ ap (λ u. take i items ++ u ∷ []) (sym is)

pub walked_slots : (old mid new : Walk) (items : List Term) (i : ℕ) (item : Term) → i < length items → item ≡ get_or items i item → IsWalked old mid (map vars_of (take i items)) →
    IsWalked mid new (vars_of item ∷ []) → IsWalked old new (map vars_of (take (i + 1) items))
walked_slots old mid new items i item lt is before one =
    walked_is old new (map vars_of (take i items) ++ vars_of item ∷ []) (map vars_of (take (i + 1) items))
    (sym (ap (map vars_of) (taken_more items i item lt is) ∙ map-append vars_of (take i items) (item ∷ [])))
    (walked_then old mid new (map vars_of (take i items)) (vars_of item ∷ []) before one)

pub walked_args : (old mid new : Walk) (items : List Term) (i : ℕ) (item : Term) → i < length items → item ≡ get_or items i item → IsWalked old mid (joined_slots (map slots_of (take i items))) →
    IsWalked mid new (slots_of item) → IsWalked old new (joined_slots (map slots_of (take (i + 1) items)))
walked_args old mid new items i item lt is before one =
    walked_is old new (joined_slots (map slots_of (take i items)) ++ slots_of item) (joined_slots (map slots_of (take (i + 1) items)))
    (sym (ap (λ ts. joined_slots (map slots_of ts)) (taken_more items i item lt is) ∙ slots_more (take i items) item))
    (walked_then old mid new (joined_slots (map slots_of (take i items))) (slots_of item) before one)

pub tell_args : (ids : Term → ℕ) (old mid : Walk) (parts : List Part) (items : List Term) (i : ℕ) (item : Term) (part : Part) → i < length items → item ≡ get_or items i item →
    AllTell ids parts (take i items) old.slots.count → IsWalked old mid (joined_slots (map slots_of (take i items))) → Tells ids part item mid.slots.count →
    AllTell ids (parts ++ part ∷ []) (take (i + 1) items) old.slots.count
tell_args ids old mid parts items i item part lt is before walked one =
    subst (λ ts. AllTell ids (parts ++ part ∷ []) ts old.slots.count) (sym (taken_more items i item lt is))
    (tell_more ids parts (take i items) part item old.slots.count before (subst (Tells ids part item) walked.count one))

-- ---- the part of a node
module _ (ids : Term → ℕ) (t : Term) (op : Op) (args : Vec Term Global) (place : Place) (node : t ≡ Node op args place) (id : ℕ) (at : id ≡ ids t) (old new : Walk) where
  pub flat_walked : is_flat (kind_of op) ≡ true → IsWalked old new (map vars_of args.items) → IsWalked old new (slots_of t)
  flat_walked flat walked = by_kind (kind_of op) refl
    where
      by_kind : (kind : Kind) → kind_of op ≡ kind → IsWalked old new (slots_of t)
      by_kind Negation e = walked_is old new (map vars_of args.items) (slots_of t) (slots_negation t op args place node e) walked
      by_kind Plain e = walked_is old new (map vars_of args.items) (slots_of t) (slots_plain t op args place node e) walked
      by_kind Every e = absurd (true≢false (sym flat ∙ ap is_flat e))
      by_kind One e = absurd (true≢false (sym flat ∙ ap is_flat e))

  pub made_walked : is_flat (kind_of op) ≡ false → IsWalked old new (joined_slots (map slots_of args.items)) → IsWalked old new (slots_of t)
  made_walked made walked = by_kind (kind_of op) refl
    where
      by_kind : (kind : Kind) → kind_of op ≡ kind → IsWalked old new (slots_of t)
      by_kind Every e = walked_is old new (joined_slots (map slots_of args.items)) (slots_of t) (slots_every t op args place node e) walked
      by_kind One e = walked_is old new (joined_slots (map slots_of args.items)) (slots_of t) (slots_one t op args place node e) walked
      by_kind Negation e = absurd (true≢false (sym (ap is_flat e) ∙ made))
      by_kind Plain e = absurd (true≢false (sym (ap is_flat e) ∙ made))

  length_mapped : {X Y : Type 0} (f : X → Y) (xs : List X) → length (map f xs) ≡ length xs
  length_mapped f [] = refl
  length_mapped f (x ∷ xs) = let e = length_mapped f xs in omega (arith, e)

  pub flat_tells : is_flat (kind_of op) ≡ true → IsWalked old new (map vars_of args.items) → (parts : Vec Part Global) → Tells ids (part_by (kind_of op) id old.slots.count new.slots.count parts) t old.slots.count
  flat_tells flat walked parts = by_kind (kind_of op) refl
    where
      width : new.slots.count ≡ old.slots.count + length args.items
      width = walked.count ∙ ap (λ n. old.slots.count + n) (length_mapped vars_of args.items)

      by_kind : (kind : Kind) → kind_of op ≡ kind → Tells ids (part_by (kind_of op) id old.slots.count new.slots.count parts) t old.slots.count
      by_kind Negation e =
          negation_tells ids (part_by (kind_of op) id old.slots.count new.slots.count parts) t old.slots.count id at op args place node new.slots.count
          (ap (λ k. part_by k id old.slots.count new.slots.count parts) e) e width
      by_kind Plain e =
          plain_tells ids (part_by (kind_of op) id old.slots.count new.slots.count parts) t old.slots.count id at op args place node new.slots.count
          (ap (λ k. part_by k id old.slots.count new.slots.count parts) e) e width
      by_kind Every e = absurd (true≢false (sym flat ∙ ap is_flat e))
      by_kind One e = absurd (true≢false (sym flat ∙ ap is_flat e))

  pub made_tells : is_flat (kind_of op) ≡ false → (parts : Vec Part Global) → AllTell ids parts.items args.items old.slots.count → IsWalked old new (slots_of t) →
      Tells ids (part_by (kind_of op) id old.slots.count new.slots.count parts) t old.slots.count
  made_tells made parts tell walked = by_kind (kind_of op) refl
    where
      by_kind : (kind : Kind) → kind_of op ≡ kind → Tells ids (part_by (kind_of op) id old.slots.count new.slots.count parts) t old.slots.count
      by_kind Every e =
          every_tells ids (part_by (kind_of op) id old.slots.count new.slots.count parts) t old.slots.count id at op args place node parts new.slots.count tell walked.count
          (ap (λ k. part_by k id old.slots.count new.slots.count parts) e) e
      by_kind One e =
          one_tells ids (part_by (kind_of op) id old.slots.count new.slots.count parts) t old.slots.count id at op args place node parts new.slots.count tell walked.count
          (ap (λ k. part_by k id old.slots.count new.slots.count parts) e) e
      by_kind Negation e = absurd (true≢false (sym (ap is_flat e) ∙ made))
      by_kind Plain e = absurd (true≢false (sym (ap is_flat e) ∙ made))

-- an argument of what is known is known
pub known_arg : (known : Term → Bool) → IsClosed known → (t : Term) (op : Op) (args : Vec Term Global) (place : Place) → t ≡ Node op args place → known t ≡ true → (items : List Term) (i : ℕ) (item : Term) →
    items ≡ args.items → i < length items → item ≡ get_or items i item → known item ≡ true
known_arg known closed t op args place node is_known items i item same lt is =
    let all = subst (All (λ u. known u ≡ true)) (sym same) (closed t op args place node is_known) in
    subst (λ u. known u ≡ true) (sym is) (All-get_or (λ u. known u ≡ true) items i item lt all)
