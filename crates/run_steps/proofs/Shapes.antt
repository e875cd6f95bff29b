-- The forms of expressions, without their pointers.
use Rattle.std.proofs.Common.{◌≡◌, ◌∙◌, sym, ap, ℕ, map, Option, None, Some}
use Rattle.std.specs.declared.alloc.Global.{Global}
use Rattle.std.specs.declared.boxed.Box.{Box}
use Rattle.std.specs.declared.vec.Vec.{Vec}
use Rattle.comet_syntax.specs.declared.tree.expressions.Aggregate.{Aggregate}
use Rattle.comet_syntax.specs.declared.tree.expressions.Comparison.{Comparison}
use Rattle.comet_syntax.specs.declared.tree.expressions.UnaryOperator.{UnaryOperator}
use Rattle.checked_tree.specs.declared.expressions.Slot.{Slot}
use Rattle.checked_tree.specs.declared.expressions.Builtin.{Builtin}
use Rattle.checked_tree.specs.declared.expressions.Method.{Method}
use Rattle.checked_tree.specs.declared.expressions.Typed.{Typed}
use Rattle.checked_tree.specs.declared.expressions.Link.{Link}
use Rattle.checked_tree.specs.declared.expressions.Generator.{Generator}
use Rattle.checked_tree.specs.declared.expressions.Form.TheOpen as open_forms
use Rattle.checked_tree.specs.declared.expressions.Form.TheVariants as forms
use Rattle.checked_tree.specs.declared.expressions.Form.TheFolds.{fold-roll-Form, fold-Typed, fold_out-Typed}
use Rattle.checked_tree.specs.Shape as shapes
use Rattle.checked_tree.specs.Shape.{Shape, Seen, seen, whole, wholes, rows, shape_of, shape_of_link, shape_of_generator, form_layer, generator_layer, link_layer, typed_layer}
use Rattle.run_steps.specs.Views.{part_or_none}

-- an expression without its pointers, in both ways of saying it
typed_is : (t : Typed) → fold-Typed Shape Shape Shape Seen form_layer generator_layer link_layer typed_layer t ≡ seen t
unfolding shape_of
typed_is t = fold_out-Typed Shape Shape Shape Seen form_layer generator_layer link_layer typed_layer t

seen_is : fold-Typed Shape Shape Shape Seen form_layer generator_layer link_layer typed_layer ≡ seen
seen_is = λ k t. typed_is t k

pub form_name : (x : Slot) → shape_of (forms.Name x) ≡ shapes.name x
unfolding shape_of shape_of_link shape_of_generator
form_name x = ap shape_of (sym (forms.rolls-Name x)) ∙ fold-roll-Form Shape Shape Shape Seen form_layer generator_layer link_layer typed_layer (open_forms.Name x)

pub form_parentheses : (e : Box Typed Global) → shape_of (forms.Parentheses e) ≡ shapes.parentheses (whole (seen e.value))
unfolding shape_of shape_of_link shape_of_generator
form_parentheses e = ap shape_of (sym (forms.rolls-Parentheses e)) ∙ fold-roll-Form Shape Shape Shape Seen form_layer generator_layer link_layer typed_layer (open_forms.Parentheses e) ∙ ap (λ t. shapes.parentheses (whole t)) (typed_is e.value)

pub form_unary : (o : UnaryOperator) (e : Box Typed Global) → shape_of (forms.Unary o e) ≡ shapes.unary o (whole (seen e.value))
unfolding shape_of shape_of_link shape_of_generator
form_unary o e = ap shape_of (sym (forms.rolls-Unary o e)) ∙ fold-roll-Form Shape Shape Shape Seen form_layer generator_layer link_layer typed_layer (open_forms.Unary o e) ∙ ap (λ t. shapes.unary o (whole t)) (typed_is e.value)

pub form_compare : (c : Comparison) (a b : Box Typed Global) → shape_of (forms.Compare c a b) ≡ shapes.compare c (whole (seen a.value)) (whole (seen b.value))
unfolding shape_of shape_of_link shape_of_generator
form_compare c a b =
    ap shape_of (sym (forms.rolls-Compare c a b)) ∙ fold-roll-Form Shape Shape Shape Seen form_layer generator_layer link_layer typed_layer (open_forms.Compare c a b)
    ∙ (λ k. shapes.compare c (whole (typed_is a.value k)) (whole (typed_is b.value k)))

pub form_index : (a i : Box Typed Global) → shape_of (forms.Index a i) ≡ shapes.index (whole (seen a.value)) (whole (seen i.value))
unfolding shape_of shape_of_link shape_of_generator
form_index a i =
    ap shape_of (sym (forms.rolls-Index a i)) ∙ fold-roll-Form Shape Shape Shape Seen form_layer generator_layer link_layer typed_layer (open_forms.Index a i)
    ∙ (λ k. shapes.index (whole (typed_is a.value k)) (whole (typed_is i.value k)))

pub form_cell : (a i j : Box Typed Global) → shape_of (forms.Cell a i j) ≡ shapes.cell (whole (seen a.value)) (whole (seen i.value)) (whole (seen j.value))
unfolding shape_of shape_of_link shape_of_generator
form_cell a i j =
    ap shape_of (sym (forms.rolls-Cell a i j)) ∙ fold-roll-Form Shape Shape Shape Seen form_layer generator_layer link_layer typed_layer (open_forms.Cell a i j)
    ∙ (λ k. shapes.cell (whole (typed_is a.value k)) (whole (typed_is i.value k)) (whole (typed_is j.value k)))

pub form_chain : (a : Box Typed Global) (xs : Vec Link Global) → shape_of (forms.Chain a xs) ≡ shapes.chain (whole (seen a.value)) (rows (map shape_of_link xs.items))
unfolding shape_of shape_of_link shape_of_generator
form_chain a xs = ap shape_of (sym (forms.rolls-Chain a xs)) ∙ fold-roll-Form Shape Shape Shape Seen form_layer generator_layer link_layer typed_layer (open_forms.Chain a xs) ∙ ap (λ t. shapes.chain (whole t) (rows (map shape_of_link xs.items))) (typed_is a.value)

pub form_list : (es : Vec Typed Global) → shape_of (forms.List es) ≡ shapes.list (wholes (map seen es.items))
unfolding shape_of shape_of_link shape_of_generator
form_list es = ap shape_of (sym (forms.rolls-List es)) ∙ fold-roll-Form Shape Shape Shape Seen form_layer generator_layer link_layer typed_layer (open_forms.List es) ∙ ap (λ (h : Typed → Seen). shapes.list (wholes (map h es.items))) seen_is

pub form_set : (es : Vec Typed Global) → shape_of (forms.Set es) ≡ shapes.set (wholes (map seen es.items))
unfolding shape_of shape_of_link shape_of_generator
form_set es = ap shape_of (sym (forms.rolls-Set es)) ∙ fold-roll-Form Shape Shape Shape Seen form_layer generator_layer link_layer typed_layer (open_forms.Set es) ∙ ap (λ (h : Typed → Seen). shapes.set (wholes (map h es.items))) seen_is

pub form_builtin : (f : Builtin) (es : Vec Typed Global) → shape_of (forms.Builtin f es) ≡ shapes.builtin f (wholes (map seen es.items))
unfolding shape_of shape_of_link shape_of_generator
form_builtin f es = ap shape_of (sym (forms.rolls-Builtin f es)) ∙ fold-roll-Form Shape Shape Shape Seen form_layer generator_layer link_layer typed_layer (open_forms.Builtin f es) ∙ ap (λ (h : Typed → Seen). shapes.builtin f (wholes (map h es.items))) seen_is

pub form_call : (f : ℕ) (es : Vec Typed Global) → shape_of (forms.Call f es) ≡ shapes.call f (wholes (map seen es.items))
unfolding shape_of shape_of_link shape_of_generator
form_call f es = ap shape_of (sym (forms.rolls-Call f es)) ∙ fold-roll-Form Shape Shape Shape Seen form_layer generator_layer link_layer typed_layer (open_forms.Call f es) ∙ ap (λ (h : Typed → Seen). shapes.call f (wholes (map h es.items))) seen_is

pub form_method : (m : Method) (o : Box Typed Global) (es : Vec Typed Global) → shape_of (forms.Method m o es) ≡ shapes.method m (whole (seen o.value)) (wholes (map seen es.items))
unfolding shape_of shape_of_link shape_of_generator
form_method m o es =
    ap shape_of (sym (forms.rolls-Method m o es)) ∙ fold-roll-Form Shape Shape Shape Seen form_layer generator_layer link_layer typed_layer (open_forms.Method m o es)
    ∙ (λ k. shapes.method m (whole (typed_is o.value k)) (wholes (map (seen_is k) es.items)))

pub form_aggregate : (a : Aggregate) (gs : Vec Generator Global) (c : Option (Box Typed Global)) (b : Box Typed Global) → shape_of (forms.Aggregate a gs c b) ≡ shapes.aggregate a (rows (map shape_of_generator gs.items)) (part_or_none c) (whole (seen b.value))
unfolding shape_of shape_of_link shape_of_generator
form_aggregate a gs None b =
    ap shape_of (sym (forms.rolls-Aggregate a gs None b)) ∙ fold-roll-Form Shape Shape Shape Seen form_layer generator_layer link_layer typed_layer (open_forms.Aggregate a gs None b)
    ∙ (λ k. shapes.aggregate a (rows (map shape_of_generator gs.items)) shapes.left_out (whole (typed_is b.value k)))
form_aggregate a gs (Some x) b =
    ap shape_of (sym (forms.rolls-Aggregate a gs (Some x) b)) ∙ fold-roll-Form Shape Shape Shape Seen form_layer generator_layer link_layer typed_layer (open_forms.Aggregate a gs (Some x) b)
    ∙ (λ k. shapes.aggregate a (rows (map shape_of_generator gs.items)) (whole (typed_is x.value k)) (whole (typed_is b.value k)))
