-- What forms do, step by step.
use Rattle.std.proofs.Common.{◌≡◌, ◌∙◌, refl, sym, subst, ap, ℕ, zero, suc, ◌≤◌, arith, true, false, List, [], ◌∷◌, ◌++◌, map, get_or, length, Option, Some, if◌then◌else◌}
use Rattle.std.specs.Prelude.{slice_get}
use Rattle.cbl_base.specs.declared.place.Place.{Place}
use Rattle.comet_syntax.specs.declared.tree.expressions.ChainOperator.{ChainOperator}
use Rattle.checked_tree.specs.declared.expressions.Link.{Link}
use Rattle.checked_tree.specs.Shape as shapes
use Rattle.checked_tree.specs.declared.expressions.Form.TheFolds.{fold_out-Link, fold_out-Generator, fold_out-Typed}
use Rattle.checked_tree.specs.declared.expressions.Generator.{Generator}
use Rattle.checked_tree.specs.Shape.{Shape, Seen, seen, whole, shape_of, shape_of_link, shape_of_generator, form_layer, generator_layer, link_layer, typed_layer}
use Rattle.comet_meaning.specs.Values.{Value}
use Rattle.comet_meaning.specs.State.{State}
use Rattle.checked_tree.specs.declared.kind.Kind.{Kind}
use Rattle.checked_tree.specs.declared.kind.Kind.TheVariants as kinds
use Rattle.checked_tree.specs.declared.expressions.Builtin.{Builtin}
use Rattle.checked_tree.specs.declared.expressions.Builtin.TheVariants as builtins
use Rattle.checked_tree.specs.declared.expressions.Method.{Method}
use Rattle.checked_tree.specs.declared.expressions.Method.TheVariants as methods
use Rattle.checked_tree.specs.Tasks.{Coded}
use Rattle.comet_meaning.specs.Outcome.{Outcome, Went, then_do, give, ◌>>=◌}
use Rattle.comet_meaning.specs.Levels.{Level, Flow}
use Rattle.comet_meaning.specs.Cells.{back_in, in_scope, in_frame}
use Rattle.comet_meaning.specs.Calls.{argument_form, given, body_form}
use Rattle.comet_meaning.specs.Builtins.{builtin_form}
use Rattle.comet_meaning.specs.Arrays.{count_form}
use Rattle.comet_meaning.specs.Methods.{object_value}
use Rattle.checked_tree.specs.declared.expressions.Typed.{Typed}
use Rattle.run_values.specs.declared.values.Value.{Value as declared}
use Rattle.run_values.specs.Views.{value_seen}
use Rattle.run_steps.specs.Views.{part, row}
use Rattle.comet_meaning.proofs.GoingOn.{goes_give, goes_back_in}
use Rattle.comet_meaning.proofs.Rows.{ValuesLeft, ArgumentsLeft}
use Rattle.comet_meaning.specs.Parts.{value}
use Rattle.comet_meaning.specs.Operators.{decides, linked, link_form}
use Rattle.run_values.specs.declared.stop.Stop.{Stop}
use Rattle.run_steps.specs.Does.{Ends}
use Rattle.run_steps.specs.Parts.{value_as, is_handed_itself, plain_builtin}
use Rattle.run_steps.proofs.Exits.{ends_passes}

-- an operator with its right operand
pub link_is : (x : Link) → shape_of_link x ≡ shapes.link x.operator x.place (whole (seen x.operand))
unfolding shape_of shape_of_link
link_is x = fold_out-Link Shape Shape Shape Seen form_layer generator_layer link_layer typed_layer x ∙ ap (λ t. shapes.link x.operator x.place (whole t)) (fold_out-Typed Shape Shape Shape Seen form_layer generator_layer link_layer typed_layer x.operand)

-- a generator
pub generator_is : (x : Generator) → shape_of_generator x ≡ shapes.generator x.place x.slot (whole (seen x.domain))
unfolding shape_of shape_of_generator
generator_is x = fold_out-Generator Shape Shape Shape Seen form_layer generator_layer link_layer typed_layer x ∙ ap (λ t. shapes.generator x.place x.slot (whole t)) (fold_out-Typed Shape Shape Shape Seen form_layer generator_layer link_layer typed_layer x.domain)

pub link_goes_on : (l : Level) (at : Place) (o : ChainOperator) (e : Shape) (v : Value) (s : State) → decides o v ≡ false → link_form l at o e v s ≡ then_do (value l e s) (linked at o v)
unfolding link_form
link_goes_on l at o e v s h = ap (λ b. (if b then give v else (value l e >>= linked at o v)) s) h

-- one more of a list that is mapped
pub map_push : {X Y : Type 0} (f : X → Y) (xs : List X) (x : X) → map f (xs ++ x ∷ []) ≡ map f xs ++ f x ∷ []
map_push f [] x = refl
map_push f (y ∷ ys) x = ap (λ zs. f y ∷ zs) (map_push f ys x)

-- an argument

pub argument_itself : (l : Level) (k : Kind) (e : Shape) (s : State) → is_handed_itself k ≡ true → argument_form l k e s ≡ l.expr e s
unfolding argument_form
argument_itself l kinds.Variable e s h = refl
argument_itself l kinds.SetVariable e s h = refl
argument_itself l k e s h = cc

pub argument_valued : (l : Level) (k : Kind) (e : Shape) (s : State) → is_handed_itself k ≡ false → argument_form l k e s ≡ value_as l k e s
unfolding argument_form
argument_valued l kinds.Variable e s h = cc
argument_valued l kinds.SetVariable e s h = cc
argument_valued l k e s h = refl

-- functions of the language

pub builtin_plain : (l : Level) (at : Place) (f : Builtin) (es : List Shape) (s : State) → (f ≡ builtins.Count → ⊥) → builtin_form l at f es s ≡ plain_builtin l at f es s
unfolding builtin_form
builtin_plain l at builtins.Count es s h = absurd (h refl)
builtin_plain l at f es s h = refl

-- bodies

pub body_went : (l : Level) (f : Coded) (vs : List Value) (s : State) {flow : Flow} {t : State} → l.stmt f.body (record s { frame = vs }) ≡ Went flow t → body_form l f vs s ≡ Went (given f.result flow) (record t { frame = s.frame })
unfolding body_form in_scope in_frame
body_went l f vs s e = ap (λ (o : Outcome Flow). then_do (then_do o (λ flow. give (given f.result flow))) (back_in s.frame)) e

pub body_ends : (l : Level) (f : Coded) (vs : List Value) (s : State) (stop : Stop) (t : State) → Ends stop t (l.stmt f.body (record s { frame = vs })) → Ends stop t (body_form l f vs s)
unfolding body_form in_scope in_frame
body_ends l f vs s stop t e = ends_passes stop t _ _ _ (back_in s.frame) (λ v. goes_back_in s.frame v) (ends_passes stop t _ _ (l.stmt f.body (record s { frame = vs })) (λ flow. give (given f.result flow)) (λ flow. goes_give) e)

-- one more value
pub values_pushed : (l : Level) (es : List Typed) (i : ℕ) (xs ys : List declared) (y : declared) (s : State) (w : Outcome (List Value)) → ys ≡ xs ++ y ∷ [] → ValuesLeft l part es i (map value_seen xs ++ value_seen y ∷ []) s w → ValuesLeft l part es i (map value_seen ys) s w
values_pushed l es i xs ys y s w e m = subst (λ vs. ValuesLeft l part es i vs s w) (sym (ap (map value_seen) e ∙ map_push value_seen xs y)) m

-- a call of `count` with two arguments
pub count_of_two : (l : Level) (at : Place) (es : List Typed) (a b : Typed) (s : State) → length es ≡ 2 → a ≡ get_or es 0 a → b ≡ get_or es 1 b → builtin_form l at builtins.Count (row es) s ≡ count_form l at (part a) (part b) s
unfolding builtin_form
count_of_two l at [] a b s h p q = absurd (omega (arith, h))
count_of_two l at (x ∷ []) a b s h p q = absurd (omega (arith, h))
count_of_two l at (x ∷ y ∷ []) a b s h p q = λ k. count_form l at (part (sym p k)) (part (sym q k)) s
count_of_two l at (x ∷ y ∷ z ∷ es) a b s h p q = absurd (omega (arith, h))

-- a call of `count` with another number of arguments
pub count_of_others : (l : Level) (at : Place) (es : List Typed) (s : State) → (length es ≡ 2 → ⊥) → builtin_form l at builtins.Count (row es) s ≡ plain_builtin l at builtins.Count (row es) s
unfolding builtin_form
count_of_others l at [] s h = refl
count_of_others l at (a ∷ []) s h = refl
count_of_others l at (a ∷ b ∷ []) s h = absurd (h refl)
count_of_others l at (a ∷ b ∷ c ∷ es) s h = refl

-- one more argument
pub arguments_pushed : (l : Level) (ks : List Kind) (es : List Typed) (i : ℕ) (xs ys : List declared) (y : declared) (s : State) (w : Outcome (List Value)) → ys ≡ xs ++ y ∷ [] → ArgumentsLeft l part ks es i (map value_seen xs ++ value_seen y ∷ []) s w → ArgumentsLeft l part ks es i (map value_seen ys) s w
arguments_pushed l ks es i xs ys y s w e m = subst (λ vs. ArgumentsLeft l part ks es i vs s w) (sym (ap (map value_seen) e ∙ map_push value_seen xs y)) m

-- where nothing is found a list has ended
pub past_end : {X : Type 0} (xs : List X) (i : ℕ) (o : Option X) → o ≡ slice_get xs i → ((x : X) → o ≡ Some x → ⊥) → length xs ≤ i
past_end [] i o e h = omega arith
past_end (x ∷ xs) zero o e h = absurd (h x e)
past_end (x ∷ xs) (suc i) o e h = omega (arith, past_end xs i o e h)

-- the object of a method whose domain isn't asked
pub object_read : (l : Level) (m : Method) (o : Shape) (s : State) → (m ≡ methods.Domain → ⊥) → object_value l m o s ≡ value l o s
unfolding object_value
object_read l methods.Domain o s h = absurd (h refl)
object_read l m o s h = refl
