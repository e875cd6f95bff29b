-- A number, and a name whose cell holds a plain value, are evaluated without a change of the state.
use Rattle.std.proofs.Common.{◌≡◌, ◌∙◌, sym, ap, subst, ℕ, zero, suc, ◌+◌, ◌-◌, ◌<◌, ℤ, Bool, false, List, map, length, get_or, Option, Some, None, refl, sub-one}
use Rattle.std.specs.declared.boxed.Box.{Box}
use Rattle.std.specs.declared.alloc.Global.{Global}
use Rattle.std.specs.declared.vec.Vec.{Vec}
use Rattle.comet_syntax.specs.declared.tree.expressions.ChainOperator.{ChainOperator}
use Rattle.comet_syntax.specs.declared.tree.expressions.ChainOperator.TheVariants as chains
use Rattle.comet_syntax.specs.declared.tree.expressions.Comparison.{Comparison}
use Rattle.checked_tree.specs.declared.expressions.Link.{Link}
use Rattle.cbl_base.specs.declared.place.Place.{Place}
use Rattle.checked_tree.specs.declared.expressions.Slot.{Slot}
use Rattle.checked_tree.specs.declared.expressions.Typed.{Typed}
use Rattle.checked_tree.specs.declared.expressions.Form.TheOpen as open_forms
use Rattle.checked_tree.specs.declared.expressions.Form.TheVariants as forms
use Rattle.checked_tree.specs.declared.expressions.Form.TheFolds.{fold-roll-Form, fold_out-Typed}
use Rattle.checked_tree.specs.Shape as shapes
use Rattle.checked_tree.specs.Shape.{Shape, Seen, seen, whole, rows, shape_of, shape_of_link, form_layer, generator_layer, link_layer, typed_layer}
use Rattle.comet_meaning.specs.Values as meant
use Rattle.comet_meaning.specs.Values.{Value, Number, Truth, number_of, truth_of}
use Rattle.comet_meaning.specs.Cells.{held, look}
use Rattle.comet_meaning.specs.State.{State}
use Rattle.comet_meaning.specs.Outcome.{Outcome, Went, then_do, give, give_or, ◌>>=◌}
use Rattle.comet_meaning.specs.Arithmetic.{holds}
use Rattle.comet_meaning.specs.Operators.{decides, linked, link_form, links_form, chain_form, compare_form}
use Rattle.comet_meaning.proofs.Rows.{LinksLeft, items_rows, links_start, links_step}
use Rattle.comet_meaning.specs.Arrays.{index_form}
use Rattle.comet_meaning.specs.Levels.{Code, Level}
use Rattle.comet_meaning.specs.Expressions.{value_of_expression, value_of_form}
use Rattle.comet_meaning.specs.Parts.{value, number, truth, read, read_place}
use Rattle.comet_meaning.specs.Program.{level}
use Rattle.comet_meaning.specs.Writes.{name_target, target_of_form, target_of_expression}
use Rattle.run_objects.specs.OfRunState.declared.targets.Target.{Target}
use Rattle.run_values.specs.declared.values.Value.{Value as declared}
use Rattle.run_values.specs.Views.{value_seen}
use Rattle.run_objects.specs.OfRunState.Acts.{indexed}
use Rattle.run_objects.specs.OfRunState.Plain.{IsPlain, IsHeld, IsHeldNumber}
use Rattle.run_steps.specs.Plainly.{GivesName, GivesNumber, GivesTarget, GivesValue, GivesWhole, IsArithmetic, Results}
use Rattle.run_steps.specs.Views.{links_seen, part}
use Rattle.run_steps.proofs.Forms.{link_is, link_goes_on}
use Rattle.run_steps.proofs.Shapes.{form_chain, form_index, form_name}

form_number : (z : ℤ) → shape_of (forms.Number z) ≡ shapes.number z
unfolding shape_of
form_number z = ap shape_of (sym (forms.rolls-Number z)) ∙ fold-roll-Form Shape Shape Shape Seen form_layer generator_layer link_layer typed_layer (open_forms.Number z)

-- the value of an expression, by its form
pub expr_of_form : (c : Code) (room : ℕ) (e : Typed) (x : Shape) (s : State) → (room ≡ 0 → ⊥) → shape_of e.form ≡ x → (level c room).expr (part e) s ≡ value_of_form c (level c (room - 1)) e.place e.kind x s
unfolding level value_of_expression
expr_of_form c zero e x s h is = absurd (h refl)
expr_of_form c (suc d) e x s h is = rw sub-one (ap (λ (y : Shape). value_of_form c (level c d) e.place e.kind y s) is)

read_plain : (at : Place) (v : Value) (s : State) → IsPlain v → read at v s ≡ Went v s
unfolding read
read_plain at (meant.Number z) s p = refl
read_plain at (meant.Truth b) s p = refl
read_plain at (meant.Range b) s p = refl
read_plain at (meant.Array n) s p = refl
read_plain at meant.Nothing s p = elim p [ ]
read_plain at (meant.Set xs) s p = elim p [ ]
read_plain at (meant.Row xs) s p = elim p [ ]
read_plain at (meant.Variable x) s p = elim p [ ]
read_plain at (meant.Variables n) s p = elim p [ ]
read_plain at (meant.Solver n) s p = elim p [ ]
read_plain at (meant.System n k) s p = elim p [ ]
read_plain at (meant.Objective n k) s p = elim p [ ]
read_plain at (meant.Input n) s p = elim p [ ]
read_plain at (meant.Distribution b) s p = elim p [ ]
read_plain at (meant.Selector n) s p = elim p [ ]
read_plain at (meant.Move n) s p = elim p [ ]
read_plain at (meant.Solution n) s p = elim p [ ]

value_plain : (c : Code) (room : ℕ) (e : Shape) (s : State) (v : Value) → (level c room).expr e s ≡ Went v s → IsPlain v → value (level c room) e s ≡ Went v s
unfolding value
value_plain c room e s v h p = ap (λ o. then_do o (read (read_place e))) h ∙ read_plain (read_place e) v s p

number_plain : (c : Code) (room : ℕ) (e : Shape) (s : State) (z : ℤ) → value (level c room) e s ≡ Went (Number z) s → number (level c room) e s ≡ Went z s
unfolding number
number_plain c room e s z h = ap (λ o. then_do o (λ v. give (number_of v))) h

pub literal_value : (c : Code) (room : ℕ) (e : Typed) (z : ℤ) (s : State) → (room ≡ 0 → ⊥) → e.form ≡ forms.Number z → value (level c room) (part e) s ≡ Went (Number z) s
unfolding value_of_form
literal_value c room e z s h is = value_plain c room (part e) s (Number z) (expr_of_form c room e (shapes.number z) s h (ap shape_of is ∙ form_number z)) tt

name_value : (c : Code) (room : ℕ) (e : Typed) (slot : Slot) (s : State) (v : Value) → (room ≡ 0 → ⊥) → e.form ≡ forms.Name slot → held s slot ≡ v → IsPlain v → value (level c room) (part e) s ≡ Went v s
unfolding value_of_form look
name_value c room e slot s v h is holds p = value_plain c room (part e) s v (expr_of_form c room e (shapes.name slot) s h (ap shape_of is ∙ form_name slot) ∙ ap (λ w. Went w s) holds) p

pub named_value : (c : Code) (room : ℕ) (e : Typed) (slot : Slot) (s : State) (found : Option declared) → (room ≡ 0 → ⊥) → e.form ≡ forms.Name slot → IsHeld found (held s slot) → GivesValue found s (value (level c room) (part e) s)
named_value c room e slot s None h is holds = tt
named_value c room e slot s (Some v) h is holds = name_value c room e slot s (value_seen v) h is holds.0 holds.1

-- a name that holds a number, as a value
pub named_plain : (c : Code) (room : ℕ) (e : Typed) (slot : Slot) (s : State) (found : Option ℤ) → (room ≡ 0 → ⊥) → e.form ≡ forms.Name slot → IsHeldNumber found (held s slot) → GivesNumber found s (value (level c room) (part e) s)
named_plain c room e slot s None h is holds = tt
named_plain c room e slot s (Some z) h is holds = name_value c room e slot s (Number z) h is holds tt

-- chains

pub decides_not : (o : ChainOperator) (a : ℤ) → IsArithmetic o → decides o (Number a) ≡ false
decides_not chains.Or a p = elim p [ ]
decides_not chains.And a p = elim p [ ]
decides_not chains.Add a p = refl
decides_not chains.Subtract a p = refl
decides_not chains.Multiply a p = refl
decides_not chains.Divide a p = refl
decides_not chains.Remainder a p = refl

pub linked_result : (at : Place) (o : ChainOperator) (a b z : ℤ) (s : State) → Results o a b z → linked at o (Number a) (Number b) s ≡ Went (Number z) s
linked_result at chains.Or a b z s r = elim (r.arithmetic) [ ]
linked_result at chains.And a b z s r = elim (r.arithmetic) [ ]
linked_result at chains.Add a b z s r = ap (λ q. then_do (give_or at q s) (λ y. give (Number y))) r.is
linked_result at chains.Subtract a b z s r = ap (λ q. then_do (give_or at q s) (λ y. give (Number y))) r.is
linked_result at chains.Multiply a b z s r = ap (λ q. then_do (give_or at q s) (λ y. give (Number y))) r.is
linked_result at chains.Divide a b z s r = ap (λ q. then_do (give_or at q s) (λ y. give (Number y))) r.is
linked_result at chains.Remainder a b z s r = ap (λ q. then_do (give_or at q s) (λ y. give (Number y))) r.is

link_result : (l : Level) (at : Place) (o : ChainOperator) (e : Shape) (a b z : ℤ) (s : State) → value l e s ≡ Went (Number b) s → Results o a b z → link_form l at o e (Number a) s ≡ Went (Number z) s
link_result l at o e a b z s h r = link_goes_on l at o e (Number a) s (decides_not o a r.arithmetic) ∙ ap (λ v. then_do v (linked at o (Number a))) h ∙ linked_result at o a b z s r

pub chain_start : (l : Level) (first : Shape) (xs : List Link) (z : ℤ) (s : State) → value l first s ≡ Went (Number z) s → LinksLeft l shape_of_link xs 0 (Number z) s (chain_form l first (links_seen xs) s)
unfolding chain_form
chain_start l first xs z s h = subst (λ w. LinksLeft l shape_of_link xs 0 (Number z) s w) (sym (ap (λ o. then_do o (λ v. links_form l (links_seen xs) v)) h)) (links_start l shape_of_link xs (links_seen xs) (Number z) s (items_rows (map shape_of_link xs)))

pub chain_step : (l : Level) (xs : List Link) (i : ℕ) (a b z : ℤ) (s : State) (w : Outcome Value) (x : Link) → LinksLeft l shape_of_link xs i (Number a) s w → i < length xs → x ≡ get_or xs i x → value l (part x.operand) s ≡ Went (Number b) s → Results x.operator a b z → LinksLeft l shape_of_link xs (i + 1) (Number z) s w
chain_step l xs i a b z s w x m h is v r = links_step m x h is (link_is x) (link_result l x.place x.operator (part x.operand) a b z s v r)

pub chained : (c : Code) (room : ℕ) (e : Typed) (a : Box Typed Global) (xs : Vec Link Global) (s : State) (found : Option ℤ) → (room ≡ 0 → ⊥) → e.form ≡ forms.Chain a xs → GivesNumber found s (chain_form (level c (room - 1)) (part a.value) (links_seen xs.items) s) → GivesNumber found s (value (level c room) (part e) s)
unfolding value_of_form
chained c room e a xs s None h is g = tt
chained c room e a xs s (Some z) h is g = value_plain c room (part e) s (Number z) (expr_of_form c room e (shapes.chain (part a.value) (rows (map shape_of_link xs.items))) s h (ap shape_of is ∙ form_chain a xs) ∙ g) tt

-- relations

compare_result : (l : Level) (o : Comparison) (a b : Shape) (x y : ℤ) (s : State) → number l a s ≡ Went x s → number l b s ≡ Went y s → compare_form l o a b s ≡ Went (Truth (holds o x y)) s
unfolding compare_form
compare_result l o a b x y s h k = ap (λ p. then_do p (λ u. number l b >>= λ v. give (Truth (holds o u v)))) h ∙ ap (λ p. then_do p (λ v. give (Truth (holds o x v)))) k

form_compare : (o : Comparison) (a b : Box Typed Global) → shape_of (forms.Compare o a b) ≡ shapes.compare o (part a.value) (part b.value)
unfolding shape_of
form_compare o a b =
    ap shape_of (sym (forms.rolls-Compare o a b)) ∙ fold-roll-Form Shape Shape Shape Seen form_layer generator_layer link_layer typed_layer (open_forms.Compare o a b)
    ∙ (λ k. shapes.compare o (whole (fold_out-Typed Shape Shape Shape Seen form_layer generator_layer link_layer typed_layer a.value k)) (whole (fold_out-Typed Shape Shape Shape Seen form_layer generator_layer link_layer typed_layer b.value k)))

truth_plain : (l : Level) (e : Shape) (s : State) (b : Bool) → value l e s ≡ Went (Truth b) s → truth l e s ≡ Went b s
unfolding truth
truth_plain l e s b h = ap (λ o. then_do o (λ v. give (truth_of v))) h

pub compared : (c : Code) (room : ℕ) (e : Typed) (o : Comparison) (a b : Box Typed Global) (x y : ℤ) (s : State) → (room ≡ 0 → ⊥) → e.form ≡ forms.Compare o a b → value (level c (room - 1)) (part a.value) s ≡ Went (Number x) s → value (level c (room - 1)) (part b.value) s ≡ Went (Number y) s → truth (level c room) (part e) s ≡ Went (holds o x y) s
unfolding value_of_form
compared c room e o a b x y s h is u v =
    truth_plain (level c room) (part e) s (holds o x y)
    (value_plain c room (part e) s (Truth (holds o x y)) (expr_of_form c room e (shapes.compare o (part a.value) (part b.value)) s h (ap shape_of is ∙ form_compare o a b) ∙ compare_result (level c (room - 1)) o (part a.value) (part b.value) x y s (number_plain c (room - 1) (part a.value) s x u) (number_plain c (room - 1) (part b.value) s y v)) tt)

-- a plain number, as a number
pub whole_plain : (c : Code) (room : ℕ) (e : Shape) (s : State) (found : Option ℤ) → GivesNumber found s (value (level c room) e s) → GivesWhole found s (number (level c room) e s)
whole_plain c room e s None h = tt
whole_plain c room e s (Some z) h = number_plain c room e s z h

-- what a name stands for where it is written
target_of_name : (c : Code) (room : ℕ) (e : Typed) (x : Shape) (s : State) → (room ≡ 0 → ⊥) → shape_of e.form ≡ x → (level c room).target (part e) s ≡ target_of_form (level c (room - 1)) e.place e.kind x s
unfolding level target_of_expression
target_of_name c zero e x s h is = absurd (h refl)
target_of_name c (suc d) e x s h is = rw sub-one (ap (λ (y : Shape). target_of_form (level c d) e.place e.kind y s) is)

pub named_target : (c : Code) (room : ℕ) (e : Typed) (slot : Slot) (s : State) (t : Option Target) → (room ≡ 0 → ⊥) → e.form ≡ forms.Name slot → GivesTarget t s (name_target e.kind slot s) → GivesTarget t s ((level c room).target (part e) s)
unfolding target_of_form
named_target c room e slot s t h is given = subst (GivesTarget t s) (sym (target_of_name c room e (shapes.name slot) s h (ap shape_of is ∙ form_name slot))) given

pub named_slot : (c : Code) (room : ℕ) (e : Typed) (slot : Slot) (s : State) (found : Option Slot) → (room ≡ 0 → ⊥) → e.form ≡ forms.Name slot → GivesName found e.kind s (name_target e.kind slot s) → GivesName found e.kind s ((level c room).target (part e) s)
unfolding target_of_form
named_slot c room e slot s found h is given = subst (GivesName found e.kind s) (sym (target_of_name c room e (shapes.name slot) s h (ap shape_of is ∙ form_name slot))) given

-- cells of arrays that names hold

pub cell_plain : (l : Level) (at : Place) (a i : Shape) (v : Value) (z : ℤ) (s : State) (found : Option ℤ) → value l a s ≡ Went v s → value l i s ≡ Went (Number z) s → GivesNumber found s (indexed at v z s) → GivesNumber found s (index_form l at a i s)
unfolding index_form number
cell_plain l at a i v z s None h k g = tt
cell_plain l at a i v z s (Some n) h k g = ap (λ o. then_do o (λ w. number l i >>= λ x. indexed at w x)) h ∙ ap (λ o. then_do (then_do o (λ w. give (number_of w))) (indexed at v)) k ∙ g

pub cell_value : (c : Code) (room : ℕ) (e : Typed) (a i : Box Typed Global) (s : State) (found : Option ℤ) → (room ≡ 0 → ⊥) → e.form ≡ forms.Index a i → GivesNumber found s (index_form (level c (room - 1)) e.place (part a.value) (part i.value) s) → GivesNumber found s (value (level c room) (part e) s)
unfolding value_of_form
cell_value c room e a i s None h is g = tt
cell_value c room e a i s (Some z) h is g = value_plain c room (part e) s (Number z) (expr_of_form c room e (shapes.index (part a.value) (part i.value)) s h (ap shape_of is ∙ form_index a i) ∙ g) tt
