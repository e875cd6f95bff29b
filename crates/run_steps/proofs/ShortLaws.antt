-- A call whose arguments are plain numbers, and whose body is a `return` of a plain number, changes nothing but the fuel.
use Rattle.std.proofs.Common.{◌≡◌, ◌∙◌, refl, sym, ap, subst, ℕ, zero, suc, ◌+◌, ◌-◌, ◌<◌, ◌≤◌, ℤ, Bool, true, false, List, [], ◌∷◌, ◌++◌, map, length, get_or, Option, Some, None, if◌then◌else◌, arith, append_assoc}
use Rattle.std.specs.Prelude.{slice_get, slice_index_or}
use Rattle.std.proofs.lemmas.Bool.{le-leb}
use Rattle.std.proofs.lemmas.List.{append-nil}
use Rattle.std.proofs.lemmas.Option.{none-some}
use Rattle.std.specs.declared.boxed.Box.{Box}
use Rattle.std.specs.declared.alloc.Global.{Global}
use Rattle.std.specs.declared.vec.Vec.{Vec}
use Rattle.cbl_base.specs.declared.place.Place.{Place}
use Rattle.checked_tree.specs.declared.kind.Kind.{Kind}
use Rattle.checked_tree.specs.declared.kind.Kind.TheVariants as kinds
use Rattle.checked_tree.specs.declared.expressions.Link.{Link}
use Rattle.checked_tree.specs.declared.expressions.Typed.{Typed}
use Rattle.checked_tree.specs.declared.expressions.Form.TheVariants as forms
use Rattle.checked_tree.specs.Shape as shapes
use Rattle.checked_tree.specs.Shape.{Shape, Seen, seen, whole, wholes, rows, shape_of, shape_of_link}
use Rattle.checked_tree.specs.Actions.{deed_of, returning}
use Rattle.checked_tree.specs.declared.statements.Action.{Action}
use Rattle.checked_tree.specs.declared.statements.Act.TheVariants as trees
use Rattle.checked_tree.specs.declared.statements.Task.{Task}
use Rattle.checked_tree.specs.Tasks.{Work, Coded, task, block, more, no_more, action, row_of, work_of, work_of_act}
use Rattle.comet_meaning.specs.Values.{Value, Number, as_kind}
use Rattle.comet_meaning.specs.State.{State, left}
use Rattle.comet_meaning.specs.Outcome.{Outcome, Went, Halted, SpentAt, then_do, give, charge, ◌>>=◌}
use Rattle.comet_meaning.specs.Calls.{own_arrays, handed, given, body_form, called, call_form, arguments_form, argument_form}
use Rattle.comet_meaning.specs.Levels.{Code, Level, Flow, Returned}
use Rattle.comet_meaning.specs.Loops.{tasks_form, then_next}
use Rattle.comet_meaning.specs.Operators.{linked, chain_form, link_form, links_form}
use Rattle.comet_meaning.specs.Expressions.{value_of_form}
use Rattle.comet_meaning.specs.Parts.{value, read, read_place}
use Rattle.comet_meaning.specs.Program.{level}
use Rattle.comet_meaning.specs.Statements.{meaning_of_statement, meaning_of_form, action_form, return_form}
use Rattle.comet_meaning.proofs.Endings.{went_then}
use Rattle.comet_meaning.proofs.Rows.{ArgumentsLeft, arguments_step, LinksLeft, items_rows, links_start, links_step}
use Rattle.run_values.specs.declared.values.Value.{Value as declared}
use Rattle.run_values.specs.Views.{value_seen}
use Rattle.run_steps.specs.Parts.{is_handed_itself}
use Rattle.run_steps.specs.Plainly.{GivesNumber, Results}
use Rattle.run_steps.specs.Spending.{IsSpent, Spends, AreNumbers, alone, Alone, IsReturn, IsAlone}
use Rattle.run_steps.specs.Views.{links_seen, part, row}
use Rattle.run_steps.proofs.Forms.{argument_valued, arguments_pushed, body_went, link_is, link_goes_on, map_push}
use Rattle.run_steps.proofs.PlainLaws.{expr_of_form, decides_not, linked_result}
use Rattle.run_steps.proofs.Shapes.{form_call, form_chain}
use Rattle.run_steps.proofs.Trees.{work_of_task, act_action, act_block}

-- fuel

pub spent_more : (s t u : State) → IsSpent s t → IsSpent t u → IsSpent s u
spent_more s t u e f = ap (λ (x : State). record x { fuel = s.fuel }) f ∙ e

-- the arguments are handed over as they are

own_numbers : (zs : List ℤ) (ws : List Value) (s : State) → own_arrays (map Number zs) ws s ≡ Went (ws ++ map Number zs) s
own_numbers [] ws s = ap (λ vs. Went vs s) (sym (append-nil ws))
own_numbers (z ∷ zs) ws s = own_numbers zs (ws ++ Number z ∷ []) s ∙ ap (λ vs. Went vs s) (append_assoc ws (Number z ∷ []) (map Number zs))

handed_numbers : (pure : Bool) (zs : List ℤ) (s : State) → handed pure (map Number zs) s ≡ Went (map Number zs) s
handed_numbers true zs s = refl
handed_numbers false zs s = own_numbers zs [] s

number_as_kind : (k : Kind) (z : ℤ) → as_kind k (Number z) ≡ Number z
number_as_kind kinds.Int z = refl
number_as_kind k z = refl

-- the body

charge_went : (units : ℕ) (at : Place) (s : State) → units ≤ s.fuel → charge units at s ≡ Went tt (record s { fuel = s.fuel - units })
unfolding charge
charge_went units at s h = ap (λ (b : Bool). if b then Went tt (record s { fuel = s.fuel - units }) else Halted (SpentAt at) (left s)) (le-leb units s.fuel h)

off_two : (n : ℕ) → n - 1 - 1 ≡ n - 2
off_two n = omega arith

off_three : (n : ℕ) → n - 1 - 2 ≡ n - 3
off_three n = omega arith

two_off : (n : ℕ) → suc (suc n) - 2 ≡ n
two_off n = omega arith

body_short : (c : Code) (n : ℕ) (at behind : Place) (e : Seen) (s : State) (z : ℤ) → 2 ≤ s.fuel → value (level c n) (whole e) (record s { fuel = s.fuel - 2 }) ≡ Went (Number z) (record s { fuel = s.fuel - 2 }) → (level c (suc (suc n))).stmt (alone at behind e) s ≡ Went (Returned (Some (Number z))) (record s { fuel = s.fuel - 2 })
unfolding level meaning_of_statement meaning_of_form tasks_form action_form return_form
body_short c n at behind e s z enough h =
    went_then (λ _. meaning_of_form (level c (suc n)) at (block (more (task behind (action (returning (Some e)))) no_more))) (charge_went 1 at s (omega (arith, enough)))
    ∙ ap (λ o. then_do (then_do o (λ _. return_form (level c n) (Some e))) (then_next (tasks_form (level c (suc n)) []))) (charge_went 1 behind (record s { fuel = s.fuel - 1 }) (omega (arith, enough)))
    ∙ ap (λ f. then_do (return_form (level c n) (Some e) (record s { fuel = f })) (then_next (tasks_form (level c (suc n)) []))) (off_two s.fuel)
    ∙ ap (λ o. then_do (then_do o (λ v. give (Returned (Some v)))) (then_next (tasks_form (level c (suc n)) []))) h

called_at : (c : Code) (n : ℕ) (fn : Coded) (place at behind : Place) (e : Seen) (es : List Shape) (pure : Bool) (zs : List ℤ) (s : State) (z : ℤ) → 3 ≤ s.fuel → fn.body ≡ alone at behind e → arguments_form (level c (suc (suc n))) fn.parameters es [] s ≡ Went (map Number zs) s → value (level c n) (whole e) (record s { frame = map Number zs; fuel = s.fuel - 3 }) ≡ Went (Number z) (record s { frame = map Number zs; fuel = s.fuel - 3 }) → called (level c (suc (suc n))) place es pure (Some fn) s ≡ Went (Number z) (record s { fuel = s.fuel - 3 })
called_at c n fn place at behind e es pure zs s z enough is given_arguments given_value =
    went_then (λ vs. charge 1 place >>= λ _. handed pure vs >>= λ ws. body_form (level c (suc (suc n))) fn ws) given_arguments
    ∙ went_then (λ _. handed pure (map Number zs) >>= λ ws. body_form (level c (suc (suc n))) fn ws) (charge_went 1 place s (omega (arith, enough)))
    ∙ went_then (λ ws. body_form (level c (suc (suc n))) fn ws) (handed_numbers pure zs (record s { fuel = s.fuel - 1 }))
    ∙ body_went (level c (suc (suc n))) fn (map Number zs) (record s { fuel = s.fuel - 1 })
    (ap (λ w. (level c (suc (suc n))).stmt w (record s { frame = map Number zs; fuel = s.fuel - 1 })) is
    ∙ body_short c n at behind e (record s { frame = map Number zs; fuel = s.fuel - 1 }) z (omega (arith, enough))
    (subst (λ f. value (level c n) (whole e) (record s { frame = map Number zs; fuel = f }) ≡ Went (Number z) (record s { frame = map Number zs; fuel = f })) (sym (off_three s.fuel)) given_value))
    ∙ ap (λ v. Went v (record s { fuel = s.fuel - 1 - 2 })) (number_as_kind fn.result z)
    ∙ ap (λ f. Went (Number z) (record s { fuel = f })) (off_three s.fuel)

called_by : (c : Code) (d : ℕ) (fn : Coded) (place : Place) (e : Seen) (es : List Shape) (pure : Bool) (vs : List Value) (s : State) (z : ℤ) → 2 ≤ d → 3 ≤ s.fuel → Alone e fn.body → AreNumbers vs → arguments_form (level c d) fn.parameters es [] s ≡ Went vs s → value (level c (d - 2)) (whole e) (record s { frame = vs; fuel = s.fuel - 3 }) ≡ Went (Number z) (record s { frame = vs; fuel = s.fuel - 3 }) → called (level c d) place es pure (Some fn) s ≡ Went (Number z) (record s { fuel = s.fuel - 3 })
called_by c zero fn place e es pure vs s z room enough body plain h k = absurd (omega (arith, room))
called_by c (suc zero) fn place e es pure vs s z room enough body plain h k = absurd (omega (arith, room))
called_by c (suc (suc n)) fn place e es pure vs s z room enough body plain h k =
    called_at c n fn place body.block_at body.return_at e es pure plain.numbers s z enough body.is
    (subst (λ ws. arguments_form (level c (suc (suc n))) fn.parameters es [] s ≡ Went ws s) plain.are h)
    (subst (λ ws. value (level c n) (whole e) (record s { frame = ws; fuel = s.fuel - 3 }) ≡ Went (Number z) (record s { frame = ws; fuel = s.fuel - 3 })) plain.are
    (subst (λ m. value (level c m) (whole e) (record s { frame = vs; fuel = s.fuel - 3 }) ≡ Went (Number z) (record s { frame = vs; fuel = s.fuel - 3 })) (two_off n) k))

-- a call, where its function is found
pub short_call : (c : Code) (d : ℕ) (f : ℕ) (fn : Coded) (place : Place) (e : Seen) (es : List Shape) (vs : List Value) (s : State) (found : Option ℤ) → 2 ≤ d → 3 ≤ s.fuel → slice_get c.functions f ≡ Some fn → Alone e fn.body → AreNumbers vs → arguments_form (level c d) fn.parameters es [] s ≡ Went vs s → GivesNumber found (record s { frame = vs; fuel = s.fuel - 3 }) (value (level c (d - 2)) (whole e) (record s { frame = vs; fuel = s.fuel - 3 })) → Spends found s (record s { fuel = s.fuel - 3 }) (call_form c (level c d) place f es s)
unfolding call_form
short_call c d f fn place e es vs s None room enough there body plain h k = record { spent = refl; gives = tt }
short_call c d f fn place e es vs s (Some z) room enough there body plain h k = record {
  spent = refl;
  gives = ap (λ o. called (level c d) place es (slice_index_or c.pure f false) o s) there ∙ called_by c d fn place e es (slice_index_or c.pure f false) vs s z room enough body plain h k;
}

-- a part, by its form

value_gone : (c : Code) (room : ℕ) (e : Shape) (s t : State) (z : ℤ) → (level c room).expr e s ≡ Went (Number z) t → value (level c room) e s ≡ Went (Number z) t
unfolding value read
value_gone c room e s t z h = ap (λ o. then_do o (read (read_place e))) h

pub spending_call : (c : Code) (room : ℕ) (e : Typed) (f : ℕ) (es : Vec Typed Global) (s t : State) (found : Option ℤ) → (room ≡ 0 → ⊥) → e.form ≡ forms.Call f es → Spends found s t (call_form c (level c (room - 1)) e.place f (row es.items) s) → Spends found s t (value (level c room) (part e) s)
unfolding value_of_form
spending_call c room e f es s t None h is m = record { spent = m.spent; gives = tt }
spending_call c room e f es s t (Some z) h is m = record { spent = m.spent; gives = value_gone c room (part e) s t z (expr_of_form c room e (shapes.call f (wholes (map seen es.items))) s h (ap shape_of is ∙ form_call f es) ∙ m.gives) }

pub spending_chain : (c : Code) (room : ℕ) (e : Typed) (a : Box Typed Global) (xs : Vec Link Global) (s t : State) (found : Option ℤ) → (room ≡ 0 → ⊥) → e.form ≡ forms.Chain a xs → Spends found s t (chain_form (level c (room - 1)) (part a.value) (links_seen xs.items) s) → Spends found s t (value (level c room) (part e) s)
unfolding value_of_form
spending_chain c room e a xs s t None h is m = record { spent = m.spent; gives = tt }
spending_chain c room e a xs s t (Some z) h is m = record { spent = m.spent; gives = value_gone c room (part e) s t z (expr_of_form c room e (shapes.chain (part a.value) (rows (map shape_of_link xs.items))) s h (ap shape_of is ∙ form_chain a xs) ∙ m.gives) }

-- where nothing is answered, nothing but the fuel is gone
pub spending_lost : (s t : State) (found : Option ℤ) (o : Outcome Value) → found ≡ None → IsSpent s t → Spends found s t o
spending_lost s t None o e h = record { spent = h; gives = tt }
spending_lost s t (Some z) o e h = absurd (none-some z (sym e))

-- chains: what is left of one, and the fuel

pub record ChainLeft (l : Level) (xs : List Link) (i : ℕ) (z : ℤ) (s t : State) (w : Outcome Value) : Type 0 where
  pub left : LinksLeft l shape_of_link xs i (Number z) t w
  pub spent : IsSpent s t

pub spending_start : (l : Level) (first : Shape) (xs : List Link) (z : ℤ) (s t : State) → Spends (Some z) s t (value l first s) → ChainLeft l xs 0 z s t (chain_form l first (links_seen xs) s)
unfolding chain_form
spending_start l first xs z s t m = record {
  left = subst (λ w. LinksLeft l shape_of_link xs 0 (Number z) t w) (sym (ap (λ o. then_do o (λ v. links_form l (links_seen xs) v)) m.gives)) (links_start l shape_of_link xs (links_seen xs) (Number z) t (items_rows (map shape_of_link xs)));
  spent = m.spent;
}

pub spending_step : (l : Level) (xs : List Link) (i : ℕ) (a b z : ℤ) (s t u : State) (w : Outcome Value) (x : Link) → ChainLeft l xs i a s t w → i < length xs → x ≡ get_or xs i x → Spends (Some b) t u (value l (part x.operand) t) → Results x.operator a b z → ChainLeft l xs (i + 1) z s u w
spending_step l xs i a b z s t u w x m h is v r = record {
  left = links_step m.left x h is (link_is x) (link_goes_on l x.place x.operator (part x.operand) (Number a) t (decides_not x.operator a r.arithmetic) ∙ ap (λ o. then_do o (linked x.place x.operator (Number a))) v.gives ∙ linked_result x.place x.operator a b z u r);
  spent = spent_more s t u m.spent v.spent;
}

-- arguments that are plain numbers

pub numbers_push : (xs ys : List declared) (y : declared) (z : ℤ) → ys ≡ xs ++ y ∷ [] → value_seen y ≡ Number z → AreNumbers (map value_seen xs) → AreNumbers (map value_seen ys)
numbers_push xs ys y z e is m = record {
  numbers = m.numbers ++ z ∷ [];
  are = ap (map value_seen) e ∙ map_push value_seen xs y ∙ ap (λ v. map value_seen xs ++ v ∷ []) is ∙ ap (λ vs. vs ++ Number z ∷ []) m.are ∙ sym (map_push Number m.numbers z);
}

argument_number : (l : Level) (k : Kind) (e : Shape) (s : State) (z : ℤ) → is_handed_itself k ≡ false → value l e s ≡ Went (Number z) s → argument_form l k e s ≡ Went (Number z) s
argument_number l k e s z h v = argument_valued l k e s h ∙ ap (λ o. then_do o (λ u. give (as_kind k u))) v ∙ ap (λ u. Went u s) (number_as_kind k z)

pub numbers_step : (l : Level) (ks : List Kind) (es : List Typed) (i : ℕ) (xs ys : List declared) (y : declared) (z : ℤ) (s : State) (w : Outcome (List Value)) (k : Kind) (x : Typed) → ArgumentsLeft l part ks es i (map value_seen xs) s w → slice_get ks i ≡ Some k → i < length es → x ≡ get_or es i x → is_handed_itself k ≡ false → value l (part x) s ≡ Went (Number z) s → value_seen y ≡ Number z → ys ≡ xs ++ y ∷ [] → ArgumentsLeft l part ks es (i + 1) (map value_seen ys) s w
numbers_step l ks es i xs ys y z s w k x m p h is itself v same e = arguments_pushed l ks es (i + 1) xs ys y s w e (arguments_step m k x p h is (argument_number l k (part x) s z itself v ∙ ap (λ u. Went u s) (sym same)))

-- a block of a `return` alone

pub alone_first : (ts : List Task) (x : Task) (a : Action) (found : Option Seen) (at : Place) → length ts ≡ 1 → x ≡ get_or ts 0 x → x.act ≡ trees.Action a → IsReturn found (deed_of a) → IsAlone found (task at (block (row_of (map work_of ts))))
alone_first ts x a None at one is acts r = tt
alone_first [] x a (Some e) at one is acts r = absurd (omega (arith, one))
alone_first (t ∷ []) x a (Some e) at one is acts r = record {
  block_at = at;
  return_at = x.place;
  is = ap (λ (y : Task). task at (block (more (work_of y) no_more))) (sym is) ∙ ap (λ w. task at (block (more w no_more))) (work_of_task x ∙ ap (λ w. task x.place w) (ap work_of_act acts ∙ act_action a ∙ ap action r));
}
alone_first (t ∷ u ∷ ts) x a (Some e) at one is acts r = absurd (omega (arith, one))

pub block_alone : (body : Task) (ts : Vec Task Global) (found : Option Seen) → body.act ≡ trees.Block ts → IsAlone found (task body.place (block (row_of (map work_of ts.items)))) → IsAlone found (work_of body)
block_alone body ts found acts h = subst (IsAlone found) (sym (work_of_task body ∙ ap (λ w. task body.place w) (ap work_of_act acts ∙ act_block ts))) h
