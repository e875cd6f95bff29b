-- A declaration goes where it is typed, and is typed where it goes.
use Rattle.std.specs.Prelude.{◌≡◌, refl, ℕ, Bool, true, false, ◌&&◌, List, [], ◌∷◌, map, length, Option, None, Some, option_map, if◌then◌else◌}
use Rattle.std.proofs.Common.{sym, ap, subst, ◌∙◌}
use Rattle.cbl_base.specs.declared.place.Place.{Place}
use Rattle.comet_syntax.specs.declared.tree.expressions.Name.{Name}
use Rattle.comet_syntax.specs.declared.tree.expressions.Argument.{Argument}
use Rattle.comet_syntax.specs.declared.tree.expressions.Expression.{Expression}
use Rattle.comet_syntax.specs.declared.tree.declarations.Class.{Class}
use Rattle.comet_syntax.specs.declared.tree.declarations.Dimension.{Dimension}
use Rattle.comet_syntax.specs.declared.tree.declarations.Dimensions.{Dimensions}
use Rattle.comet_syntax.specs.declared.tree.declarations.Maker.{Maker}
use Rattle.comet_syntax.specs.declared.tree.declarations.Declaration.{Declaration}
use Rattle.comet_syntax.specs.declared.tree.declarations.Declaration.TheVariants as declarations
use Rattle.comet_syntax.specs.declared.tree.declarations.VariableStart.{VariableStart}
use Rattle.comet_syntax.specs.declared.tree.declarations.VariableStart.TheVariants as starts
use Rattle.checked_tree.specs.declared.kind.Kind.{Kind}
use Rattle.checked_tree.specs.declared.kind.Kind.TheVariants as kind
use Rattle.checked_tree.specs.declared.statements.Way.TheVariants as ways
use Rattle.checked_tree.specs.declared.stop.Cause.{Cause}
use Rattle.checked_tree.specs.Shape.{Seen}
use Rattle.checked_tree.specs.Actions.{Deed, Started, Sized}
use Rattle.type_rules.specs.Kinds.{is_same}
use Rattle.type_rules.specs.Classes.{class_kind, class_is_ls}
use Rattle.type_scopes.specs.declared.effects.Doing.{Doing}
use Rattle.type_scopes.specs.declared.names.Found.{Found}
use Rattle.type_scopes.specs.declared.scope.Scope.{Scope}
use Rattle.checked_tree.specs.declared.expressions.Slot.{Slot}
use Rattle.type_scopes.specs.Names.{look, is_new, slot_of, opened, closed}
use Rattle.type_scopes.specs.State.{State, Went, Check, give, then_do, ◌>>=◌}
use Rattle.type_calls.specs.Doing.{act_on, doing_fault}
use Rattle.type_expressions.specs.Expressions.{judge, judge_argument, arguments_form, some_form}
use Rattle.type_declarations.specs.Parts as parts
use Rattle.type_declarations.specs.Parts.{Starting, Ranged, Celled, start_form, dimension_form, dimension_place, dimension_fault, clashes, second_form, ranges_form, sized_form, sized_second, second_name, sizes_form, starting_form, started, is_list, listed, cells_within, cells_form, start_fits, sized_kind}
use Rattle.type_declarations.specs.Objects.{Handed, made_kind, is_made_ls, maker_arguments, making_context, making_roots, object_doing, object_fault, ls_fault, handed_form, object_declared, object_made, object_form}
use Rattle.type_declarations.specs.Declarations.{declaring_fault, scalar_fits, scalar_declared, scalar_form, array_declared, array_form, starting_with, making_doing, domain_fits, variable_declared, variable_with, variables_form, variable_form, variable_start, declaration_form}
use Rattle.typing.specs.Calls.{having_done}
use Rattle.typing.specs.Rules.{ArgumentsAreTyped, having_closed}
use Rattle.typing.specs.Declarations as rules
use Rattle.typing.specs.Declarations.{OptionalIsTyped, FirstValues, StartIsTyped, DimensionIsTyped, SecondIsTyped, RangesAreTyped, IsSized, SecondIsSized, IsListed, CellsAreTyped, ScalarIsTyped, ArrayIsTyped, VariableIsDeclared, VariableIsTyped, VariablesAreTyped, ObjectIsTyped, DeclarationIsTyped, having_declared_as, handed, values_of, values_in}
use Rattle.typing.proofs.Went.{Goes, between, goes_on, goes_as, went_value, went_state}
use Rattle.typing.proofs.Called.{Acted, acts, acted}
use Rattle.typing.proofs.Sound.{sound, sound_arguments}
use Rattle.typing.proofs.Complete.{complete, arguments_complete}

-- what goes, as the same value and what is known then

pub as_went : {A : Type 0} (P : A → State → Type 0) {x y : A} {s t : State} → Went x s ≡ Went y t → P x s → P y t
as_went P {x} {y} {s} {t} is h = subst (λ u. P y u) (went_state x y s t is) (subst (λ z. P z s) (went_value x y s t is) h)

pub gives : {A : Type 0} {x : A} {s : State} → Goes (give x) s x s
gives = record { is = refl }

-- a part's own rule

passed_at : {B : Type 0} (place : Place) (o q : Option Cause) (f : Unit {0} → Check B) (s : State) (y : B) (t : State) → o ≡ q → then_do (parts.ruled place q s) f ≡ Went y t → (o ≡ None) × Goes (f tt) s y t
passed_at place o None f s y t is h = (is, record { is = h })
passed_at place o (Some c) f s y t is h = absurd (cc)

pub passed : {B : Type 0} (place : Place) (o : State → Option Cause) (f : Unit {0} → Check B) (s : State) (y : B) (t : State) → Goes ((λ u. parts.ruled place (o u) u) >>= f) s y t → (o s ≡ None) × Goes (f tt) s y t
passed place o f s y t h = passed_at place (o s) (o s) f s y t refl h.is

pub passes : {B : Type 0} (place : Place) (o : State → Option Cause) (f : Unit {0} → Check B) (s : State) (y : B) (t : State) → o s ≡ None → Goes (f tt) s y t → Goes ((λ u. parts.ruled place (o u) u) >>= f) s y t
passes place o f s y t is h = record { is = ap (λ q. then_do (parts.ruled place q s) f) is ∙ h.is }

-- an act

pub act_passes : {B : Type 0} (place : Place) (scope : Scope) (d : Doing) (roots : List Slot) (f : Unit {0} → Check B) (s : State) (y : B) (t : State) → doing_fault scope d roots ≡ None → Goes (f tt) (having_done d roots s) y t → Goes (act_on place scope d roots >>= f) s y t
act_passes place scope d roots f s y t free h = goes_on (act_on place scope d roots) f (record { is = acts place scope d roots s free }) h

pub act_passed : {B : Type 0} (place : Place) (scope : Scope) (d : Doing) (roots : List Slot) (f : Unit {0} → Check B) (s : State) (y : B) (t : State) → Goes (act_on place scope d roots >>= f) s y t → Acted scope d roots s f y t
act_passed place scope d roots f s y t h = acted place scope d roots s f y t h.is

-- expressions that may be left out, and first values

pub optional_goes : (scope : Scope) (s : State) (e : Option Expression) (x : Option Seen) (t : State) → OptionalIsTyped scope s e x t → Goes (start_form (option_map judge e) scope) s x t
unfolding start_form some_form
optional_goes scope s e x t rules.left_out = gives
optional_goes scope s e x t (rules.stated h) = goes_on _ _ (sound h) gives

pub optional_typed : (scope : Scope) (s : State) (e : Option Expression) (x : Option Seen) (t : State) → Goes (start_form (option_map judge e) scope) s x t → OptionalIsTyped scope s e x t
unfolding start_form some_form
optional_typed scope s None x t h = as_went (λ y u. OptionalIsTyped scope s None y u) h.is rules.left_out
optional_typed scope s (Some e) x t h =
    let p = between _ _ s x t h in
    as_went (λ y u. OptionalIsTyped scope s (Some e) y u) p.next.is (rules.stated (complete e _ _ _ _ p.first))

abbrev meant : FirstValues → Starting
meant rules.no_values = parts.nothing
meant (rules.a_value e) = parts.each_cell (judge e)
meant (rules.a_definition e) = parts.defined (judge e)

start_goes : (scope : Scope) (s : State) (w : FirstValues) (x : Option Started) (t : State) → StartIsTyped scope s w x t → Goes (starting_form (meant w) scope) s x t
unfolding starting_form
start_goes scope s w x t rules.starts_without = gives
start_goes scope s w x t (rules.starts_with h) = goes_on _ _ (sound h) gives
start_goes scope s w x t (rules.starts_defined h) = goes_on _ _ (sound h) gives

start_typed : (scope : Scope) (s : State) (w : FirstValues) (x : Option Started) (t : State) → Goes (starting_form (meant w) scope) s x t → StartIsTyped scope s w x t
unfolding starting_form
start_typed scope s rules.no_values x t h = as_went (λ y u. StartIsTyped scope s rules.no_values y u) h.is rules.starts_without
start_typed scope s (rules.a_value e) x t h =
    let p = between _ _ s x t h in
    as_went (λ y u. StartIsTyped scope s (rules.a_value e) y u) p.next.is (rules.starts_with (complete e _ _ _ _ p.first))
start_typed scope s (rules.a_definition e) x t h =
    let p = between _ _ s x t h in
    as_went (λ y u. StartIsTyped scope s (rules.a_definition e) y u) p.next.is (rules.starts_defined (complete e _ _ _ _ p.first))

-- dimensions

dimension_goes : (clash : Bool) (scope : Scope) (s : State) (d : Dimension) (x : Seen) (t : State) → DimensionIsTyped clash scope s d x t → Goes (dimension_form clash d scope) s x t
unfolding dimension_form
dimension_goes clash scope s d x t (rules.a_dimension h r) = goes_on _ _ (sound h) (passes (dimension_place d.name x) (λ _. dimension_fault clash x.kind) (λ _. give x) t x t r gives)

dimension_typed : (clash : Bool) (scope : Scope) (s : State) (d : Dimension) (x : Seen) (t : State) → Goes (dimension_form clash d scope) s x t → DimensionIsTyped clash scope s d x t
unfolding dimension_form
dimension_typed clash scope s d x t h =
    let p = between _ _ s x t h in
    let q = passed (dimension_place d.name p.made) (λ _. dimension_fault clash p.made.kind) (λ _. give p.made) p.known x t p.next in
    as_went (λ y u. DimensionIsTyped clash scope s d y u) q.1.is (rules.a_dimension (complete d.range _ _ _ _ p.first) q.0)

second_goes : (first : Option Name) (scope : Scope) (s : State) (d : Option Dimension) (x : Option Seen) (t : State) → SecondIsTyped first scope s d x t → Goes (second_form first d scope) s x t
unfolding second_form
second_goes first scope s d x t rules.no_second = gives
second_goes first scope s d x t (rules.a_second h) = goes_on _ _ (dimension_goes _ _ _ _ _ _ h) gives

second_typed : (first : Option Name) (scope : Scope) (s : State) (d : Option Dimension) (x : Option Seen) (t : State) → Goes (second_form first d scope) s x t → SecondIsTyped first scope s d x t
unfolding second_form
second_typed first scope s None x t h = as_went (λ y u. SecondIsTyped first scope s None y u) h.is rules.no_second
second_typed first scope s (Some d) x t h =
    let p = between _ _ s x t h in
    as_went (λ y u. SecondIsTyped first scope s (Some d) y u) p.next.is (rules.a_second (dimension_typed _ _ _ _ _ _ p.first))

ranges_go : (scope : Scope) (s : State) (ds : Dimensions) (r : Ranged) (t : State) → RangesAreTyped scope s ds r t → Goes (ranges_form ds scope) s r t
unfolding ranges_form
ranges_go scope s ds r t (rules.ranges h k) = goes_on _ _ (dimension_goes _ _ _ _ _ _ h) (goes_on _ _ (second_goes _ _ _ _ _ _ k) gives)

ranges_typed : (scope : Scope) (s : State) (ds : Dimensions) (r : Ranged) (t : State) → Goes (ranges_form ds scope) s r t → RangesAreTyped scope s ds r t
unfolding ranges_form
ranges_typed scope s ds r t h =
    let p = between _ _ s r t h in
    let q = between _ _ _ r t p.next in
    as_went (λ y u. RangesAreTyped scope s ds y u) q.next.is (rules.ranges (dimension_typed _ _ _ _ _ _ p.first) (second_typed _ _ _ _ _ _ q.first))

sized_goes : (scope : Scope) (s : State) (e : Seen) (n : Option Name) (x : Sized) (t : State) → IsSized scope s e n x t → Goes (sized_form n e scope) s x t
unfolding sized_form
sized_goes scope s e n x t rules.without_name = gives
sized_goes scope s e n x t rules.with_name = record { is = refl }

sized_typed : (scope : Scope) (s : State) (e : Seen) (n : Option Name) (x : Sized) (t : State) → Goes (sized_form n e scope) s x t → IsSized scope s e n x t
unfolding sized_form
sized_typed scope s e None x t h = as_went (λ y u. IsSized scope s e None y u) h.is rules.without_name
sized_typed scope s e (Some n) x t h = as_went (λ y u. IsSized scope s e (Some n) y u) h.is rules.with_name

second_sized_goes : (scope : Scope) (s : State) (d : Option Dimension) (e : Option Seen) (x : List Sized) (t : State) → SecondIsSized scope s d e x t → Goes (sized_second d e scope) s x t
unfolding sized_second
second_sized_goes scope s d e x t rules.no_second_size = gives
second_sized_goes scope s d e x t (rules.a_second_size h) = goes_on _ _ (sized_goes _ _ _ _ _ _ h) gives

second_sized_typed : (scope : Scope) (s : State) (d : Option Dimension) (e : Option Seen) (x : List Sized) (t : State) → Goes (sized_second d e scope) s x t → SecondIsSized scope s d e x t
unfolding sized_second
second_sized_typed scope s d None x t h = as_went (λ y u. SecondIsSized scope s d None y u) h.is rules.no_second_size
second_sized_typed scope s d (Some e) x t h =
    let p = between _ _ s x t h in
    as_went (λ y u. SecondIsSized scope s d (Some e) y u) p.next.is (rules.a_second_size (sized_typed _ _ _ _ _ _ p.first))

-- cells

abbrev listing : Expression → Scope → Check (Option Started)
listing e scope = judge e scope >>= λ y. give (started ways.List y)

listed_goes : (scope : Scope) (s : State) (w : FirstValues) (x y : Option Started) (t : State) → IsListed scope s w x y t → Goes (listed (meant w) scope x) s y t
listed_goes scope s w x y t rules.nothing_listed = gives
listed_goes scope s w x y t rules.definition_stays = gives
listed_goes scope s w x y t (rules.value_stays {e} is) = goes_as (ap (λ (c : Bool). if c then listing e scope else give x) (sym is)) gives
listed_goes scope s w x y t (rules.a_listing {e} is h) = goes_as (ap (λ (c : Bool). if c then listing e scope else give x) (sym is)) (goes_on _ _ (sound h) gives)

value_listed : (scope : Scope) (s : State) (e : Expression) (x y : Option Started) (t : State) (c : Bool) → is_list x ≡ c → Goes (if c then listing e scope else give x) s y t → IsListed scope s (rules.a_value e) x y t
value_listed scope s e x y t false is h = as_went (λ z u. IsListed scope s (rules.a_value e) x z u) h.is (rules.value_stays is)
value_listed scope s e x y t true is h =
    let p = between (judge e scope) (λ y. give (started ways.List y)) s y t h in
    as_went (λ z u. IsListed scope s (rules.a_value e) x z u) p.next.is (rules.a_listing is (complete e _ _ _ _ p.first))

listed_typed : (scope : Scope) (s : State) (w : FirstValues) (x y : Option Started) (t : State) → Goes (listed (meant w) scope x) s y t → IsListed scope s w x y t
listed_typed scope s rules.no_values x y t h = as_went (λ z u. IsListed scope s rules.no_values x z u) h.is rules.nothing_listed
listed_typed scope s (rules.a_definition e) x y t h = as_went (λ z u. IsListed scope s (rules.a_definition e) x z u) h.is rules.definition_stays
listed_typed scope s (rules.a_value e) x y t h = value_listed scope s e x y t (is_list x) refl h

abbrev cells_body : Dimensions → Ranged → Starting → Scope → ℕ → Check Celled
cells_body ds r start scope n =
    cells_within ds r start (opened scope n) >>= closed n >>= λ c.
    listed start scope c.start >>= λ x.
    give (record { sizes = c.sizes; start = x })

body_goes : (scope : Scope) (s : State) (ds : Dimensions) (r : Ranged) (w : FirstValues) (c : Celled) (t : State) → CellsAreTyped scope s ds r w c t → Goes (cells_body ds r (meant w) scope (length s.names)) s c t
unfolding cells_within sizes_form
body_goes scope s ds r w c t (rules.cells g h k l) =
    goes_on _ _ (goes_on _ _ (goes_on _ _ (goes_on _ _ (sized_goes _ _ _ _ _ _ g) (goes_on _ _ (second_sized_goes _ _ _ _ _ _ h) gives)) (goes_on _ _ (start_goes _ _ _ _ _ k) gives)) (record { is = refl }))
    (goes_on _ _ (listed_goes _ _ _ _ _ _ l) gives)

cells_go : (scope : Scope) (s : State) (ds : Dimensions) (r : Ranged) (w : FirstValues) (c : Celled) (t : State) → CellsAreTyped scope s ds r w c t → Goes (cells_form ds r (meant w) scope) s c t
unfolding cells_form
cells_go scope s ds r w c t h = record { is = (body_goes scope s ds r w c t h).is }

body_typed : (scope : Scope) (s : State) (ds : Dimensions) (r : Ranged) (w : FirstValues) (c : Celled) (t : State) → Goes (cells_body ds r (meant w) scope (length s.names)) s c t → CellsAreTyped scope s ds r w c t
unfolding cells_within sizes_form
body_typed scope s ds r w c t h =
    let p = between (cells_within ds r (meant w) (opened scope (length s.names)) >>= closed (length s.names)) (λ c. listed (meant w) scope c.start >>= λ x. give (record { sizes = c.sizes; start = x })) s c t h in
    let q = between (cells_within ds r (meant w) (opened scope (length s.names))) (closed (length s.names)) s p.made p.known p.first in
    let z = between (sizes_form ds r (opened scope (length s.names))) (λ sizes. starting_form (meant w) (opened scope (length s.names)) >>= λ x. give (record { sizes = sizes; start = x })) s q.made q.known q.first in
    let a = between (sized_form ds.first.name r.first (opened scope (length s.names))) (λ a. sized_second ds.second r.second (opened scope (length s.names)) >>= λ b. give (a ∷ b)) s z.made z.known z.first in
    let b = between (sized_second ds.second r.second (opened scope (length s.names))) (λ b. give (a.made ∷ b)) a.known z.made z.known a.next in
    let x = between (starting_form (meant w) (opened scope (length s.names))) (λ x. give (record { sizes = z.made; start = x })) z.known q.made q.known z.next in
    let y = between (listed (meant w) scope p.made.start) (λ x. give (record { sizes = p.made.sizes; start = x })) p.known c t p.next in
    joined a.made b.made a.known b.known z.made z.known q.made q.known p.made p.known x.made x.known y.made y.known (sized_typed _ _ _ _ _ _ a.first) (second_sized_typed _ _ _ _ _ _ b.first) b.next.is (start_typed _ _ _ _ _ x.first) x.next.is q.next.is (listed_typed _ _ _ _ _ _ y.first) y.next.is
  where
    joined : (a : Sized) (b : List Sized) (u v : State) (sizes : List Sized) (v' : State) (c1 : Celled) (q : State) (c2 : Celled) (o : State) (x : Option Started) (q' : State) (y : Option Started) (t' : State)
        → IsSized (opened scope (length s.names)) s r.first ds.first.name a u → SecondIsSized (opened scope (length s.names)) u ds.second r.second b v → Went (a ∷ b) v ≡ Went sizes v'
        → StartIsTyped (opened scope (length s.names)) v' w x q' → Went (record { sizes = sizes; start = x }) q' ≡ Went c1 q → Went c1 (having_closed (length s.names) q) ≡ Went c2 o
        → IsListed scope o w c2.start y t' → Went (record { sizes = c2.sizes; start = y }) t' ≡ Went c t → CellsAreTyped scope s ds r w c t
    joined a b u v sizes v' c1 q c2 o x q' y t' g h is k is1 is2 l is3 =
        as_went (λ z e. CellsAreTyped scope s ds r w z e) is3
        (as_went (λ (d : Celled) (e : State). IsListed scope e w d.start y t' → CellsAreTyped scope s ds r w (record { sizes = d.sizes; start = y }) t') is2
        (as_went (λ (d : Celled) (e : State). IsListed scope (having_closed (length s.names) e) w d.start y t' → CellsAreTyped scope s ds r w (record { sizes = d.sizes; start = y }) t') is1
        (as_went (λ (ds' : List Sized) (e : State). StartIsTyped (opened scope (length s.names)) e w x q' → IsListed scope (having_closed (length s.names) q') w x y t' → CellsAreTyped scope s ds r w (record { sizes = ds'; start = y }) t') is
        (λ k l. rules.cells g h k l) k)) l)

cells_typed : (scope : Scope) (s : State) (ds : Dimensions) (r : Ranged) (w : FirstValues) (c : Celled) (t : State) → Goes (cells_form ds r (meant w) scope) s c t → CellsAreTyped scope s ds r w c t
unfolding cells_form
cells_typed scope s ds r w c t h = body_typed scope s ds r w c t (record { is = h.is })

-- names of one value, and arrays

scalar_goes : (scope : Scope) (s : State) (place : Place) (n : Name) (k : Kind) (e : Option Expression) (made : Deed) (t : State) → ScalarIsTyped scope s n k e made t → Goes (scalar_form place n k (option_map judge e) scope) s made t
unfolding scalar_form
scalar_goes scope s place n k e made t (rules.a_scalar {x} h r) =
    goes_on _ _ (optional_goes _ _ _ _ _ h) (passes place (λ u. declaring_fault (is_new n.text scope.block u.names) (scalar_fits k x)) (λ _. scalar_declared n k x scope) _ _ _ r (record { is = refl }))

scalar_typed : (scope : Scope) (s : State) (place : Place) (n : Name) (k : Kind) (e : Option Expression) (made : Deed) (t : State) → Goes (scalar_form place n k (option_map judge e) scope) s made t → ScalarIsTyped scope s n k e made t
unfolding scalar_form
scalar_typed scope s place n k e made t h =
    let p = between _ _ s made t h in
    let q = passed place (λ u. declaring_fault (is_new n.text scope.block u.names) (scalar_fits k p.made)) (λ _. scalar_declared n k p.made scope) p.known made t p.next in
    as_went (λ y u. ScalarIsTyped scope s n k e y u) q.1.is (rules.a_scalar (optional_typed _ _ _ _ _ p.first) q.0)

array_goes : (scope : Scope) (s : State) (place : Place) (n : Name) (ds : Dimensions) (w : FirstValues) (made : Deed) (t : State) → ArrayIsTyped scope s n ds w made t → Goes (array_form place n ds (meant w) scope) s made t
unfolding array_form
array_goes scope s place n ds w made t (rules.an_array {r} {c} h k rule) =
    goes_on _ _ (ranges_go _ _ _ _ _ h) (goes_on _ _ (cells_go _ _ _ _ _ _ _ k) (passes place (λ u. declaring_fault (is_new n.text scope.block u.names) (start_fits kind.Int c.start)) (λ _. array_declared n (sized_kind kind.Int ds) c scope) _ _ _ rule (record { is = refl })))

array_typed : (scope : Scope) (s : State) (place : Place) (n : Name) (ds : Dimensions) (w : FirstValues) (made : Deed) (t : State) → Goes (array_form place n ds (meant w) scope) s made t → ArrayIsTyped scope s n ds w made t
unfolding array_form
array_typed scope s place n ds w made t h =
    let o = between _ _ s made t h in
    let p = between _ _ _ made t o.next in
    let q = passed place (λ u. declaring_fault (is_new n.text scope.block u.names) (start_fits kind.Int p.made.start)) (λ _. array_declared n (sized_kind kind.Int ds) p.made scope) p.known made t p.next in
    as_went (λ y u. ArrayIsTyped scope s n ds w y u) q.1.is (rules.an_array (ranges_typed _ _ _ _ _ o.first) (cells_typed _ _ _ _ _ _ _ p.first) q.0)

-- variables

declared_goes : (scope : Scope) (s : State) (place : Place) (n : Name) (k : Kind) (fit : Bool) (d : Option Seen) (c : Celled) (solver : Name) (made : Deed) (t : State) → VariableIsDeclared scope s n k fit d c solver made t
    → Goes (λ u. variable_with place n k fit d c scope (look solver.text u.names) u) s made t
declared_goes scope s place n k fit d c solver made t (rules.declares {f} found r free) = record {
  is =
      ap (λ o. variable_with place n k fit d c scope o s) found
      ∙ (passes place (λ u. declaring_fault (is_new n.text scope.block u.names) (is_same f.kind kind.Solver && (domain_fits d && fit))) (λ _. variable_declared place n k d c scope f) s made t r
      (act_passes place scope making_doing (slot_of scope f.index ∷ []) _ s made t free (record { is = refl }))).is;
}

found_declared : (scope : Scope) (s : State) (place : Place) (n : Name) (k : Kind) (fit : Bool) (d : Option Seen) (c : Celled) (solver : Name) (made : Deed) (t : State) (o : Option Found) → look solver.text s.names ≡ o
    → variable_with place n k fit d c scope o s ≡ Went made t → VariableIsDeclared scope s n k fit d c solver made t
found_declared scope s place n k fit d c solver made t None found h = absurd (cc)
found_declared scope s place n k fit d c solver made t (Some f) found h =
    let q = passed place (λ u. declaring_fault (is_new n.text scope.block u.names) (is_same f.kind kind.Solver && (domain_fits d && fit))) (λ _. variable_declared place n k d c scope f) s made t (record { is = h }) in
    let a = act_passed place scope making_doing (slot_of scope f.index ∷ []) _ s made t q.1 in
    as_went (λ y u. VariableIsDeclared scope s n k fit d c solver y u) a.next (rules.declares found q.0 a.free)

declared_typed : (scope : Scope) (s : State) (place : Place) (n : Name) (k : Kind) (fit : Bool) (d : Option Seen) (c : Celled) (solver : Name) (made : Deed) (t : State)
    → Goes (λ u. variable_with place n k fit d c scope (look solver.text u.names) u) s made t → VariableIsDeclared scope s n k fit d c solver made t
declared_typed scope s place n k fit d c solver made t h = found_declared scope s place n k fit d c solver made t (look solver.text s.names) refl h.is

variable_goes : (scope : Scope) (s : State) (place : Place) (n : Name) (k : Kind) (solver : Name) (domain : Option Expression) (w : FirstValues) (made : Deed) (t : State) → VariableIsTyped scope s n k solver domain w made t
    → Goes (variable_form place n k solver (option_map judge domain) (meant w) scope) s made t
unfolding variable_form
variable_goes scope s place n k solver domain w made t (rules.a_variable h g l) = goes_on _ _ (optional_goes _ _ _ _ _ h) (goes_on _ _ (start_goes _ _ _ _ _ g) (declared_goes scope _ place n k _ _ _ solver made t l))

variable_typed : (scope : Scope) (s : State) (place : Place) (n : Name) (k : Kind) (solver : Name) (domain : Option Expression) (w : FirstValues) (made : Deed) (t : State)
    → Goes (variable_form place n k solver (option_map judge domain) (meant w) scope) s made t → VariableIsTyped scope s n k solver domain w made t
unfolding variable_form
variable_typed scope s place n k solver domain w made t h =
    let p = between _ _ s made t h in
    let q = between _ _ _ made t p.next in
    rules.a_variable (optional_typed _ _ _ _ _ p.first) (start_typed _ _ _ _ _ q.first)
    (declared_typed scope q.known place n k (start_fits k q.made) p.made (record { sizes = []; start = q.made }) solver made t q.next)

variables_go : (scope : Scope) (s : State) (place : Place) (n : Name) (k : Kind) (ds : Dimensions) (solver : Name) (domain : Option Expression) (w : FirstValues) (made : Deed) (t : State) → VariablesAreTyped scope s n k ds solver domain w made t
    → Goes (variables_form place n k ds solver (option_map judge domain) (meant w) scope) s made t
unfolding variables_form
variables_go scope s place n k ds solver domain w made t (rules.some_variables g h l v) =
    goes_on _ _ (ranges_go _ _ _ _ _ g) (goes_on _ _ (optional_goes _ _ _ _ _ h) (goes_on _ _ (cells_go _ _ _ _ _ _ _ l) (declared_goes scope _ place n (sized_kind k ds) _ _ _ solver made t v)))

variables_typed : (scope : Scope) (s : State) (place : Place) (n : Name) (k : Kind) (ds : Dimensions) (solver : Name) (domain : Option Expression) (w : FirstValues) (made : Deed) (t : State)
    → Goes (variables_form place n k ds solver (option_map judge domain) (meant w) scope) s made t → VariablesAreTyped scope s n k ds solver domain w made t
unfolding variables_form
variables_typed scope s place n k ds solver domain w made t h =
    let o = between _ _ s made t h in
    let p = between _ _ _ made t o.next in
    let q = between _ _ _ made t p.next in
    rules.some_variables (ranges_typed _ _ _ _ _ o.first) (optional_typed _ _ _ _ _ p.first) (cells_typed _ _ _ _ _ _ _ q.first)
    (declared_typed scope q.known place n (sized_kind k ds) (start_fits k q.made.start) p.made q.made solver made t q.next)

-- objects

pub handed_goes : (k : Kind) (scope : Scope) (s : State) (args : List Argument) (es : List Seen) (t : State) → Goes (arguments_form (making_context k scope.context) (map judge_argument args) scope) s es t → Goes (handed_form k args scope) s (handed s es t) t
unfolding handed_form
handed_goes k scope s args es t h = record { is = ap (λ o. then_do o (λ (es : List Seen). λ (u : State). Went (handed s es u) u)) h.is }

pub record HandedOver (k : Kind) (scope : Scope) (s : State) (args : List Argument) (x : Handed) (t : State) : Type 0 where
  pub values : List Seen
  pub known : State
  pub typed : ArgumentsAreTyped (making_context k scope.context) scope [] s args values known
  pub same : Went x t ≡ Went (handed s values known) known

pub handed_typed : (k : Kind) (scope : Scope) (s : State) (args : List Argument) (x : Handed) (t : State) → Goes (handed_form k args scope) s x t → HandedOver k scope s args x t
unfolding handed_form
handed_typed k scope s args x t h =
    let g = between (arguments_form (making_context k scope.context) (map judge_argument args) scope) (λ (es : List Seen). λ (u : State). Went (handed s es u) u) s x t (record { is = h.is }) in
    record { values = g.made; known = g.known; typed = arguments_complete args _ _ _ _ _ _ g.first; same = sym g.next.is }

object_goes : (scope : Scope) (s : State) (c : Class) (n : Name) (m : Maker) (made : Deed) (t : State) → ObjectIsTyped scope s c n m made t → Goes (object_form c n m scope) s made t
unfolding object_form
object_goes scope s c n m made t (rules.an_object {es} {t = u} h r free ls) =
    goes_on _ _ (handed_goes (class_kind c.kind) scope s (maker_arguments m) es u (sound_arguments h))
    (passes c.place (λ v. object_fault (is_new n.text scope.block v.names) (class_kind c.kind) (made_kind c m) es) _ u made t r
    (act_passes c.place scope (object_doing (class_kind c.kind)) (making_roots (class_kind c.kind) (handed s es u)) _ u made t free
    (passes c.place (λ _. ls_fault (class_is_ls c.kind && is_made_ls m)) (λ _. object_declared n (class_kind c.kind) (handed s es u) scope) _ made t ls (record { is = refl }))))

made_typed : (scope : Scope) (s : State) (c : Class) (n : Name) (m : Maker) (es : List Seen) (u : State) (made : Deed) (t : State) → ArgumentsAreTyped (making_context (class_kind c.kind) scope.context) scope [] s (maker_arguments m) es u
    → Goes (object_made c.place (class_is_ls c.kind && is_made_ls m) n (class_kind c.kind) (made_kind c m) (handed s es u) scope) u made t → ObjectIsTyped scope s c n m made t
made_typed scope s c n m es u made t g h =
    let q = passed c.place (λ v. object_fault (is_new n.text scope.block v.names) (class_kind c.kind) (made_kind c m) es) _ u made t h in
    let a = act_passed c.place scope (object_doing (class_kind c.kind)) (making_roots (class_kind c.kind) (handed s es u)) _ u made t q.1 in
    let l = passed c.place (λ _. ls_fault (class_is_ls c.kind && is_made_ls m)) (λ _. object_declared n (class_kind c.kind) (handed s es u) scope) _ made t (record { is = a.next }) in
    as_went (λ y v. ObjectIsTyped scope s c n m y v) l.1.is (rules.an_object g q.0 a.free l.0)

object_typed : (scope : Scope) (s : State) (c : Class) (n : Name) (m : Maker) (made : Deed) (t : State) → Goes (object_form c n m scope) s made t → ObjectIsTyped scope s c n m made t
unfolding object_form
object_typed scope s c n m made t h =
    let p = between (handed_form (class_kind c.kind) (maker_arguments m) scope) (λ x. object_made c.place (class_is_ls c.kind && is_made_ls m) n (class_kind c.kind) (made_kind c m) x scope) s made t h in
    let g = handed_typed (class_kind c.kind) scope s (maker_arguments m) p.made p.known p.first in
    made_typed scope s c n m g.values g.known made t g.typed
    (as_went (λ (x : Handed) (u : State). Goes (object_made c.place (class_is_ls c.kind && is_made_ls m) n (class_kind c.kind) (made_kind c m) x scope) u made t) g.same p.next)

-- all declarations

values_are : (e : Option Expression) → starting_with (option_map judge e) ≡ meant (values_of e)
values_are None = refl
values_are (Some e) = refl

values_within : (x : Option VariableStart) → variable_start x ≡ meant (values_in x)
values_within None = refl
values_within (Some (starts.Assign e)) = refl
values_within (Some (starts.Define e)) = refl

array_as : (scope : Scope) (place : Place) (n : Name) (ds : Dimensions) (e : Option Expression) → array_form place n ds (starting_with (option_map judge e)) scope ≡ array_form place n ds (meant (values_of e)) scope
array_as scope place n ds e = ap (λ w. array_form place n ds w scope) (values_are e)

variable_as : (scope : Scope) (place : Place) (n solver : Name) (d : Option Expression) (x : Option VariableStart)
    → variable_form place n kind.Variable solver (option_map judge d) (variable_start x) scope ≡ variable_form place n kind.Variable solver (option_map judge d) (meant (values_in x)) scope
variable_as scope place n solver d x = ap (λ w. variable_form place n kind.Variable solver (option_map judge d) w scope) (values_within x)

variables_as : (scope : Scope) (place : Place) (n : Name) (ds : Dimensions) (solver : Name) (d : Option Expression) (x : Option VariableStart)
    → variables_form place n kind.Variable ds solver (option_map judge d) (variable_start x) scope ≡ variables_form place n kind.Variable ds solver (option_map judge d) (meant (values_in x)) scope
variables_as scope place n ds solver d x = ap (λ w. variables_form place n kind.Variable ds solver (option_map judge d) w scope) (values_within x)

pub declaration_goes : (scope : Scope) (s : State) (d : Declaration) (made : Deed) (t : State) → DeclarationIsTyped scope s d made t → Goes (declaration_form d scope) s made t
unfolding declaration_form
declaration_goes scope s d made t (rules.an_int {place} {n} {e} h) = scalar_goes scope s place n kind.Int e made t h
declaration_goes scope s d made t (rules.ints {place} {n} {ds} {e} h) = goes_as (sym (array_as scope place n ds e)) (array_goes scope s place n ds (values_of e) made t h)
declaration_goes scope s d made t (rules.an_int_array {place} {n} {e} h) = scalar_goes scope s place n kind.Array (Some e) made t h
declaration_goes scope s d made t (rules.a_bool {place} {n} {e} h) = scalar_goes scope s place n kind.Bool e made t h
declaration_goes scope s d made t (rules.a_range_name {place} {n} {e} h) = scalar_goes scope s place n kind.Range (Some e) made t h
declaration_goes scope s d made t (rules.a_set_name {place} {n} {e} h) = scalar_goes scope s place n kind.Set e made t h
declaration_goes scope s d made t (rules.an_int_variable {place} {n} {solver} {d = domain} {x} h) = goes_as (sym (variable_as scope place n solver domain x)) (variable_goes scope s place n kind.Variable solver domain (values_in x) made t h)
declaration_goes scope s d made t (rules.int_variables {place} {n} {solver} {ds} {d = domain} {x} h) = goes_as (sym (variables_as scope place n ds solver domain x)) (variables_go scope s place n kind.Variable ds solver domain (values_in x) made t h)
declaration_goes scope s d made t (rules.a_set_variable {place} {n} {solver} {e} h) = variable_goes scope s place n kind.SetVariable solver None (rules.a_definition e) made t h
declaration_goes scope s d made t (rules.set_variables {place} {n} {solver} {ds} {e} h) = variables_go scope s place n kind.SetVariable ds solver None (rules.a_definition e) made t h
declaration_goes scope s d made t (rules.object h) = object_goes _ _ _ _ _ _ _ h

pub declaration_typed : (scope : Scope) (s : State) (d : Declaration) (made : Deed) (t : State) → Goes (declaration_form d scope) s made t → DeclarationIsTyped scope s d made t
unfolding declaration_form
declaration_typed scope s (declarations.Int place n None e) made t h = rules.an_int (scalar_typed scope s place n kind.Int e made t h)
declaration_typed scope s (declarations.Int place n (Some ds) e) made t h = rules.ints (array_typed scope s place n ds (values_of e) made t (goes_as (array_as scope place n ds e) h))
declaration_typed scope s (declarations.IntArray place n e) made t h = rules.an_int_array (scalar_typed scope s place n kind.Array (Some e) made t h)
declaration_typed scope s (declarations.Bool place n e) made t h = rules.a_bool (scalar_typed scope s place n kind.Bool e made t h)
declaration_typed scope s (declarations.Range place n e) made t h = rules.a_range_name (scalar_typed scope s place n kind.Range (Some e) made t h)
declaration_typed scope s (declarations.Set place n e) made t h = rules.a_set_name (scalar_typed scope s place n kind.Set e made t h)
declaration_typed scope s (declarations.Variable place w n None solver d x) made t h = rules.an_int_variable (variable_typed scope s place n kind.Variable solver d (values_in x) made t (goes_as (variable_as scope place n solver d x) h))
declaration_typed scope s (declarations.Variable place w n (Some ds) solver d x) made t h = rules.int_variables (variables_typed scope s place n kind.Variable ds solver d (values_in x) made t (goes_as (variables_as scope place n ds solver d x) h))
declaration_typed scope s (declarations.SetVariable place w n None solver e) made t h = rules.a_set_variable (variable_typed scope s place n kind.SetVariable solver None (rules.a_definition e) made t h)
declaration_typed scope s (declarations.SetVariable place w n (Some ds) solver e) made t h = rules.set_variables (variables_typed scope s place n kind.SetVariable ds solver None (rules.a_definition e) made t h)
declaration_typed scope s (declarations.Object c n m) made t h = rules.object (object_typed scope s c n m made t h)
