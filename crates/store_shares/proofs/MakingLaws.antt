-- The parts of one member more, and of one system more; and which of all parts are a system's.
use Rattle.std.proofs.Common.{◌≡◌, ℕ, zero, suc, ◌+◌, ◌-◌, ◌<◌, ◌≤◌, Bool, List, [], ◌∷◌, ◌++◌, Option, Some, None, All, true, length, length-append, get_or, map, take, drop, refl, sym, ap, ◌∙◌, subst, arith, slice_get}
use Rattle.std.specs.Prelude.{unwrap_or}
use Rattle.std.proofs.lemmas.List.{append_assoc, append-nil, map-append, length-map, take_more}
use Rattle.std.proofs.lemmas.List.Elements.{All-head, All-tail}
use Rattle.term_model.specs.Definitions.{joined}
use Rattle.term_model.specs.declared.model.Member.{Member}
use Rattle.term_model.specs.declared.model.Model.{Model}
use Rattle.term_model.specs.declared.model.Total.{Total}
use Rattle.term_model.specs.declared.term.Term.{Term}
use Rattle.store_shares.specs.Closing.{depends_in}
use Rattle.store_shares.specs.Made.{IsSharesOf, IsSystem, terms_of}
use Rattle.store_shares.specs.Making.{IsMaking, IsMakingOf, named_among, slots_among, spans_of, terms_in}
use Rattle.store_shares.specs.Naming.{IsNaming}
use Rattle.store_shares.specs.Settled.{AreSets}
use Rattle.store_shares.specs.Slots.{joined_slots, slot_at, slots_of}
use Rattle.store_shares.specs.Telling.{AllTell, Tells}
use Rattle.store_shares.specs.declared.making.Making.{Making}
use Rattle.store_shares.specs.declared.parts.Part.{Part}
use Rattle.store_shares.specs.declared.parts.Span.{Span}
use Rattle.store_shares.specs.declared.shares.Shares.{Shares}
use Rattle.store_shares.proofs.TellLaws.{slot_left, slot_right}
use Rattle.store_shares.proofs.WalkLaws.{joined_slots_append, slots_more, tell_more}

-- ---- one member more
pub made_more : (variables : ℕ) (ids : Term → ℕ) (old new : Making) (terms : List Term) (term : Term) (part : Part) (named : List ℕ) → IsMaking variables ids old terms →
    ((lists : List (List ℕ)) → IsNaming variables old.walk.slots lists → IsNaming variables new.walk.slots (lists ++ slots_of term)) →
    ((lists : List (List ℕ)) → IsNaming variables old.members lists → IsNaming variables new.members (lists ++ named ∷ [])) → named ≡ joined (slots_of term) →
    new.parts.items ≡ old.parts.items ++ part ∷ [] → Tells ids part term old.walk.slots.count → IsMaking variables ids new (terms ++ term ∷ [])
made_more variables ids old new terms term part named made slots members is parts tells =
    let count : old.walk.slots.count ≡ 0 + length (slots_among terms) = let c = made.slots.count in omega (arith, c) in
    record {
      slots = subst (IsNaming variables new.walk.slots) (sym (slots_more terms term)) (slots (slots_among terms) made.slots);
      members = subst (IsNaming variables new.members)
          (ap (λ l. named_among terms ++ l ∷ []) is ∙ sym (map-append (λ t. joined (slots_of t)) terms (term ∷ [])))
          (members (named_among terms) made.members);
      tell = subst (λ ps. AllTell ids ps (terms ++ term ∷ []) 0) (sym parts) (tell_more ids old.parts.items terms part term 0 made.tell (subst (Tells ids part term) count tells));
    }

pub made_none : (variables : ℕ) (ids : Term → ℕ) (making : Making) → IsNaming variables making.walk.slots [] → IsNaming variables making.members [] → making.parts.items ≡ [] → making.systems.items ≡ [] →
    IsMakingOf variables ids making []
made_none variables ids making slots members parts systems = record {
  made = record { slots = slots; members = members; tell = subst (λ ps. AllTell ids ps [] 0) (sym parts) tt };
  spans = systems;
}

-- ---- one system more
pub terms_more : (totals : List Total) (total : Total) → terms_in (totals ++ total ∷ []) ≡ terms_in totals ++ terms_of total
terms_more [] total = append-nil (terms_of total)
terms_more (t ∷ totals) total = ap (λ l. terms_of t ++ l) (terms_more totals total) ∙ sym (append_assoc (terms_of t) (terms_in totals) (terms_of total))

pub tell_length : (ids : Term → ℕ) (parts : List Part) (terms : List Term) (first : ℕ) → AllTell ids parts terms first → length parts ≡ length terms
tell_length ids [] [] first tell = refl
tell_length ids [] (t ∷ terms) first tell = absurd tell
tell_length ids (p ∷ parts) [] first tell = absurd tell
tell_length ids (p ∷ parts) (t ∷ terms) first tell = let rest = tell_length ids parts terms (first + length (slots_of t)) tell.1 in omega (arith, rest)

spans_more : (a : ℕ) (totals : List Total) (total : Total) (first end : ℕ) → first ≡ a + length (terms_in totals) → end ≡ first + length (terms_of total) →
    spans_of a (totals ++ total ∷ []) ≡ spans_of a totals ++ record { first = first; end = end } ∷ []
spans_more a [] total first end is ends =
    let here : a ≡ first = omega (arith, is) in
    let there : a + length (terms_of total) ≡ end = omega (arith, is, ends) in
    λ i. record { first = here i; end = there i } ∷ []
spans_more a (t ∷ totals) total first end is ends =
    let long = length-append (terms_of t) (terms_in totals) in
    ap (λ l. record { first = a; end = a + length (terms_of t) } ∷ l) (spans_more (a + length (terms_of t)) totals total first end (omega (arith, is, long)) ends)

pub made_system : (variables : ℕ) (ids : Term → ℕ) (old new : Making) (totals : List Total) (total : Total) (first end : ℕ) → IsMakingOf variables ids old totals →
    IsMaking variables ids new (terms_in totals ++ terms_of total) → first ≡ length old.parts.items → end ≡ length new.parts.items → new.systems.items ≡ old.systems.items ++ record { first = first; end = end } ∷ [] →
    IsMakingOf variables ids new (totals ++ total ∷ [])
made_system variables ids old new totals total first end before made starts ends systems =
    let one = tell_length ids old.parts.items (terms_in totals) 0 before.made.tell in
    let all = tell_length ids new.parts.items (terms_in totals ++ terms_of total) 0 made.tell in
    let long = length-append (terms_in totals) (terms_of total) in
    record {
      made = subst (IsMaking variables ids new) (sym (terms_more totals total)) made;
      spans = systems ∙ ap (λ l. l ++ record { first = first; end = end } ∷ []) before.spans
          ∙ sym (spans_more 0 totals total first end (omega (arith, starts, one)) (omega (arith, starts, ends, one, all, long)));
    }

-- ---- where a system's members are
pub record IsCut (totals : List Total) (before : List Term) (s : ℕ) (total : Total) : Type 0 where
  pub left : List Term
  pub right : List Term
  pub whole : before ++ terms_in totals ≡ left ++ (terms_of total ++ right)
  pub span : slice_get (spans_of (length before) totals) s ≡ Some (record { first = length left; end = length left + length (terms_of total) })

cut_at : (totals : List Total) (before : List Term) (s : ℕ) (total : Total) → slice_get totals s ≡ Some total → IsCut totals before s total
cut_at [] before s total at = let c : None ≡ Some total = at in cc
cut_at (t ∷ totals) before zero total at =
    let is : t ≡ total = ap (λ o. unwrap_or o t) at in
    subst (IsCut (t ∷ totals) before zero) is (record { left = before; right = terms_in totals; whole = refl; span = refl })
cut_at (t ∷ totals) before (suc s) total at =
    let rest = cut_at totals (before ++ terms_of t) s total at in
    record {
      left = rest.left;
      right = rest.right;
      whole = sym (append_assoc before (terms_of t) (terms_in totals)) ∙ rest.whole;
      span = ap (λ n. slice_get (spans_of n totals) s) (sym (length-append before (terms_of t))) ∙ rest.span;
    }

tell_right : (ids : Term → ℕ) (left rest : List Term) (parts : List Part) (first : ℕ) → AllTell ids parts (left ++ rest) first → AllTell ids (drop (length left) parts) rest (first + length (slots_among left))
tell_right ids [] rest parts first tell = let e : first ≡ first + 0 = omega arith in subst (AllTell ids parts rest) e tell
tell_right ids (t ∷ left) rest [] first tell = absurd tell
tell_right ids (t ∷ left) rest (p ∷ parts) first tell =
    let long = length-append (slots_of t) (slots_among left) in
    let e : first + length (slots_of t) + length (slots_among left) ≡ first + length (slots_of t ++ slots_among left) = omega (arith, long) in
    subst (AllTell ids (drop (length left) parts) rest) e (tell_right ids left rest parts (first + length (slots_of t)) tell.1)

tell_left : (ids : Term → ℕ) (front rest : List Term) (parts : List Part) (first : ℕ) → AllTell ids parts (front ++ rest) first → AllTell ids (take (length front) parts) front first
tell_left ids [] rest parts first tell = tt
tell_left ids (t ∷ front) rest [] first tell = absurd tell
tell_left ids (t ∷ front) rest (p ∷ parts) first tell = (tell.0, tell_left ids front rest parts (first + length (slots_of t)) tell.1)

slots_append : (xs ys : List Term) → slots_among (xs ++ ys) ≡ slots_among xs ++ slots_among ys
slots_append xs ys = ap joined_slots (map-append slots_of xs ys) ∙ joined_slots_append (map slots_of xs) (map slots_of ys)

-- what stands in the middle of lists
slot_middle : (xs ys zs : List (List ℕ)) (k : ℕ) → k < length ys → slot_at (xs ++ (ys ++ zs)) (length xs + k) ≡ slot_at ys k
slot_middle xs ys zs k lt = slot_right xs (ys ++ zs) k ∙ slot_left ys zs k lt

named_at : (terms : List Term) (k : ℕ) (t : Term) → slice_get terms k ≡ Some t → (k < length (named_among terms)) × (slot_at (named_among terms) k ≡ joined (slots_of t))
named_at [] k t at = let c : None ≡ Some t = at in cc
named_at (u ∷ terms) zero t at = (omega arith, ap (λ o. joined (slots_of (unwrap_or o u))) at)
named_at (u ∷ terms) (suc k) t at = let rest = named_at terms k t at in let lt = rest.0 in (omega (arith, lt), rest.1)

spans_within : (a : ℕ) (totals : List Total) (s : ℕ) (span : Span) → slice_get (spans_of a totals) s ≡ Some span → (span.first ≤ span.end) × (span.end ≤ a + length (terms_in totals))
spans_within a [] s span at = let c : None ≡ Some span = at in cc
spans_within a (t ∷ totals) zero span at =
    let long = length-append (terms_of t) (terms_in totals) in
    let first : a ≡ span.first = ap (λ (o : Option Span). (unwrap_or o span).first) at in
    let end : a + length (terms_of t) ≡ span.end = ap (λ (o : Option Span). (unwrap_or o span).end) at in
    (omega (arith, first, end), omega (arith, end, long))
spans_within a (t ∷ totals) (suc s) span at =
    let long = length-append (terms_of t) (terms_in totals) in
    let rest = spans_within (a + length (terms_of t)) totals s span at in
    let most = rest.1 in
    (rest.0, omega (arith, most, long))

spans_count : (a : ℕ) (totals : List Total) → length (spans_of a totals) ≡ length totals
spans_count a [] = refl
spans_count a (t ∷ totals) = let rest = spans_count (a + length (terms_of t)) totals in omega (arith, rest)

-- ---- what is kept of a model
module _ (M : Model) (ids : Term → ℕ) (making : Making) (made : IsMakingOf (length M.vars.items) ids making M.systems.items) (shares : Shares) (systems : shares.systems.items ≡ making.systems.items)
    (parts : shares.parts.items ≡ making.parts.items) where
  spans : shares.systems.items ≡ spans_of 0 M.systems.items
  spans = systems ∙ made.spans

  system_is : (s : ℕ) (total : Total) → slice_get M.systems.items s ≡ Some total → IsSystem ids shares (slots_among (terms_in M.systems.items)) (named_among (terms_in M.systems.items)) s (terms_of total)
  system_is s total at =
      let cut = cut_at M.systems.items [] s total at in
      let terms = terms_of total in
      let n = length cut.left in
      let span : Span = record { first = length cut.left; end = length cut.left + length (terms_of total) } in
      let all : AllTell ids shares.parts.items (cut.left ++ (terms_of total ++ cut.right)) 0 =
      subst (λ ps. AllTell ids ps (cut.left ++ (terms_of total ++ cut.right)) 0) (sym parts) (subst (λ ts. AllTell ids making.parts.items ts 0) cut.whole made.made.tell) in
      let right = tell_right ids cut.left (terms_of total ++ cut.right) shares.parts.items 0 all in
      let left = tell_left ids (terms_of total) cut.right (drop (length cut.left) shares.parts.items) (0 + length (slots_among cut.left)) right in
      let width : length cut.left + length (terms_of total) - length cut.left ≡ length (terms_of total) = omega arith in
      let slots : slots_among (terms_in M.systems.items) ≡ slots_among cut.left ++ (slots_among (terms_of total) ++ slots_among cut.right) =
      ap slots_among cut.whole ∙ slots_append cut.left (terms_of total ++ cut.right) ∙ ap (λ l. slots_among cut.left ++ l) (slots_append (terms_of total) cut.right) in
      let named : named_among (terms_in M.systems.items) ≡ named_among cut.left ++ (named_among (terms_of total) ++ named_among cut.right) =
      ap named_among cut.whole ∙ map-append (λ t. joined (slots_of t)) cut.left (terms_of total ++ cut.right)
      ∙ ap (λ l. named_among cut.left ++ l) (map-append (λ t. joined (slots_of t)) (terms_of total) cut.right) in
      let long : length (named_among cut.left) ≡ length cut.left = length-map cut.left (λ t. joined (slots_of t)) in
      record {
        span = record { first = length cut.left; end = length cut.left + length (terms_of total) };
        kept = ap (λ l. slice_get l s) spans ∙ cut.span;
        first_slot = 0 + length (slots_among cut.left);
        tell = subst (λ m. AllTell ids (take m (drop (length cut.left) shares.parts.items)) (terms_of total) (0 + length (slots_among cut.left))) (sym width) left;
        slots_there = λ k lt.
            let to : 0 + length (slots_among cut.left) + k ≡ length (slots_among cut.left) + k = omega arith in
            ap (slot_at (slots_among (terms_in M.systems.items))) to ∙ ap (λ l. slot_at l (length (slots_among cut.left) + k)) slots
            ∙ slot_middle (slots_among cut.left) (slots_among (terms_of total)) (slots_among cut.right) k lt;
        members_there = λ k t there.
            let one = named_at (terms_of total) k t there in
            ap (λ l. slot_at l (length cut.left + k)) named
            ∙ ap (λ m. slot_at (named_among cut.left ++ (named_among (terms_of total) ++ named_among cut.right)) (m + k)) (sym long)
            ∙ slot_middle (named_among cut.left) (named_among (terms_of total)) (named_among cut.right) k one.0 ∙ one.1;
      }

  spans_there : (s : ℕ) (span : Span) → slice_get shares.systems.items s ≡ Some span → (span.first ≤ span.end) × (span.end ≤ length shares.parts.items)
  spans_there s span at =
      let within = spans_within 0 M.systems.items s span (sym (ap (λ l. slice_get l s) spans) ∙ at) in
      let count = ap length parts ∙ tell_length ids making.parts.items (terms_in M.systems.items) 0 made.made.tell in
      let most = within.1 in
      (within.0, omega (arith, most, count))

  pub shares_of : AreSets (depends_in M (slots_among (terms_in M.systems.items))) (length M.vars.items) shares.slots.items →
      AreSets (depends_in M (named_among (terms_in M.systems.items))) (length M.vars.items) shares.members.items → IsSharesOf M ids shares
  shares_of slot_sets member_sets = record {
    ordered = record { slots = slot_sets.rising; members = member_sets.rising; spans = spans_there };
    count = ap length spans ∙ spans_count 0 M.systems.items;
    slots = slots_among (terms_in M.systems.items);
    members = named_among (terms_in M.systems.items);
    slot_sets = slot_sets;
    member_sets = member_sets;
    systems = system_is;
  }

-- ---- the members of a system one after another
abbrev term_in : Member → Term
term_in m = m.term

pub members_none : (terms : List Term) → terms ≡ terms ++ []
members_none terms = sym (append-nil terms)

pub members_step : (members : List Member) (i : ℕ) (member : Member) (terms : List Term) → i < length members → member ≡ get_or members i member →
    (terms ++ map (λ (m : Member). m.term) (take i members)) ++ member.term ∷ [] ≡ terms ++ map (λ (m : Member). m.term) (take (i + 1) members)
members_step members i member terms lt is =
    append_assoc terms (map (λ (m : Member). m.term) (take i members)) (member.term ∷ [])
    ∙ ap (λ l. terms ++ l)
    (sym (ap (map (λ (m : Member). m.term)) (take_more members i member lt ∙ ap (λ (u : Member). take i members ++ u ∷ []) (sym is))
    ∙ map-append (λ (m : Member). m.term) (take i members) (member ∷ [])))

pub known_member : (known : Term → Bool) (members : List Member) (i : ℕ) (member : Member) → All (λ t. known t ≡ true) (map (λ (m : Member). m.term) members) → i < length members → member ≡ get_or members i member →
    known member.term ≡ true
known_member known [] i member all lt is = absurd (omega (arith, lt))
known_member known (m ∷ members) zero member all lt is = ap (λ (u : Member). known u.term) is ∙ All-head (λ t. known t ≡ true) m.term (map (λ (m : Member). m.term) members) all
known_member known (m ∷ members) (suc i) member all lt is = known_member known members i member (All-tail (λ t. known t ≡ true) m.term (map (λ (m : Member). m.term) members) all) (omega (arith, lt)) is
