-- A text is at most one checked program, or its form is refused at one place for one cause, or its types are.
use Rattle.std.specs.Prelude.{◌≡◌, ℕ, true, false, List}
use Rattle.std.proofs.Common.{sym, ◌∙◌, ap, subst}
use Rattle.cbl_base.specs.declared.limits.TheConstants.{MAX_NESTING}
use Rattle.cbl_base.specs.declared.place.Place.{Place}
use Rattle.checked_tree.specs.Tasks.{Whole}
use Rattle.comet_meaning.specs.Built.{is_built}
use Rattle.comet_syntax.specs.declared.stop.FormCause.{FormCause}
use Rattle.comet_syntax.specs.declared.tree.program.Program.{Program}
use Rattle.comet_syntax.specs.Refusal.{Refused}
use Rattle.comet_syntax.specs.Spells.{Spells}
use Rattle.comet_syntax.proofs.TokenFaults.{list_one, fault_one, list_no_fault}
use Rattle.parse_unique.specs.Bare.{SameProgram}
use Rattle.parse_unique.proofs.Programs.{same_program, at_any_depth}
use Rattle.parse_unique.proofs.Refusals.{one_refusal, not_spelled}
use Rattle.comet_types.specs.Program.{Verdict, judged, accepted, refused}
use Rattle.type_trees.proofs.Programs.{judged_alike}
use Rattle.comet_front.specs.Reading.{IsAccepted, HasTree, HasProgram, place_left, HasNoTree, IsIllTyped, IsIllFormed, no_tokens, no_tree, not_built}

-- verdicts
abbrev program_or : Whole → Verdict → Whole
program_or other (accepted program) = program
program_or other (refused place code) = other

abbrev place_or : Place → Verdict → Place
place_or other (accepted program) = other
place_or other (refused place code) = place

abbrev code_or : ℕ → Verdict → ℕ
code_or other (accepted program) = other
code_or other (refused place code) = code

-- trees that are the same are accepted as one program
accepted_one : (p q : Program) (program other : Whole) → SameProgram p q → IsAccepted p program → IsAccepted q other → program ≡ other
accepted_one p q program other same a b =
    let e : accepted program ≡ accepted other = sym a ∙ (judged_alike p q same ∙ b) in
    ap (program_or program) e

trees_alike : (text : List ℕ) (p q : Program) → HasTree text p → HasTree text q → SameProgram p q
trees_alike text p q a b =
    let e : a.tokens ≡ b.tokens = list_one a.listed b.listed in
    let at_b : Spells MAX_NESTING p b.tokens = subst (λ l. Spells MAX_NESTING p l) e a.spelled in
    same_program b.tokens p q (at_any_depth MAX_NESTING b.tokens p at_b) (at_any_depth MAX_NESTING b.tokens q b.spelled)

pub one_program : (text : List ℕ) (program other : Whole) → HasProgram text program → HasProgram text other → program ≡ other
one_program text program other a b = accepted_one a.tree b.tree program other (trees_alike text a.tree b.tree a.has b.has) a.typed b.typed

tree_not_refused : (text : List ℕ) (p : Program) (place : Place) (cause : FormCause) → HasTree text p → HasNoTree text place cause → ⊥
tree_not_refused text p place cause a r =
    let e : a.tokens ≡ r.tokens = list_one a.listed r.listed in
    not_spelled MAX_NESTING r.tokens r.before r.rest cause p r.refused (subst (λ l. Spells MAX_NESTING p l) e a.spelled)

one_stop : (text : List ℕ) (place other : Place) (cause another : FormCause) → HasNoTree text place cause → HasNoTree text other another → (place ≡ other) × (cause ≡ another)
one_stop text place other cause another r s =
    let e : r.tokens ≡ s.tokens = list_one r.listed s.listed in
    let one : (r.before ≡ s.before) × (r.rest ≡ s.rest) × (cause ≡ another) =
    one_refusal MAX_NESTING s.tokens r.before r.rest s.before s.rest cause another (subst (λ l. Refused MAX_NESTING l r.before r.rest cause) e r.refused) s.refused in
    (r.place_is ∙ ap (λ l. place_left text l) one.1 ∙ sym s.place_is, one.2)

pub one_refusal_of : (text : List ℕ) (place other : Place) (cause another : FormCause) → IsIllFormed text place cause → IsIllFormed text other another → (place ≡ other) × (cause ≡ another)
one_refusal_of text place other cause another (no_tokens f) (no_tokens g) = fault_one f g
one_refusal_of text place other cause another (no_tokens f) (no_tree s) = absurd (list_no_fault s.listed f)
one_refusal_of text place other cause another (no_tokens f) (not_built s) = absurd (list_no_fault s.has.listed f)
one_refusal_of text place other cause another (no_tree r) (no_tokens g) = absurd (list_no_fault r.listed g)
one_refusal_of text place other cause another (no_tree r) (no_tree s) = one_stop text place other cause another r s
one_refusal_of text place other cause another (no_tree r) (not_built s) = absurd (tree_not_refused text s.tree place cause s.has r)
one_refusal_of text place other cause another (not_built r) (no_tokens g) = absurd (list_no_fault r.has.listed g)
one_refusal_of text place other cause another (not_built r) (no_tree s) = absurd (tree_not_refused text r.tree other another r.has s)
one_refusal_of text place other cause another (not_built r) (not_built s) = (r.place_is ∙ sym s.place_is, r.cause_is ∙ sym s.cause_is)

-- a program isn't both built and not
not_built_both : (program other : Whole) → program ≡ other → is_built program ≡ true → is_built other ≡ false → ⊥
not_built_both program other same a b = let e : true ≡ false = sym a ∙ (ap is_built same ∙ b) in absurd cc

pub not_both : (text : List ℕ) (program : Whole) (place : Place) (cause : FormCause) → HasProgram text program → IsIllFormed text place cause → ⊥
not_both text program place cause a (no_tokens f) = list_no_fault a.has.listed f
not_both text program place cause a (no_tree r) = tree_not_refused text a.tree place cause a.has r
not_both text program place cause a (not_built r) =
    not_built_both program r.program (accepted_one a.tree r.tree program r.program (trees_alike text a.tree r.tree a.has r.has) a.typed r.typed) a.built r.not_built

-- a tree isn't both accepted and refused
not_typed : (p q : Program) (program : Whole) (place : Place) (code : ℕ) → SameProgram p q → IsAccepted p program → judged q ≡ refused place code → ⊥
not_typed p q program place code same t r = let e : accepted program ≡ refused place code = sym t ∙ (judged_alike p q same ∙ r) in absurd cc

pub one_typing : (text : List ℕ) (place other : Place) (code another : ℕ) → IsIllTyped text place code → IsIllTyped text other another → (place ≡ other) × (code ≡ another)
one_typing text place other code another a b =
    let e : refused place code ≡ refused other another = sym a.not_typed ∙ (judged_alike a.tree b.tree (trees_alike text a.tree b.tree a.has b.has) ∙ b.not_typed) in
    (ap (place_or place) e, ap (code_or code) e)

pub not_typed_program : (text : List ℕ) (program : Whole) (place : Place) (code : ℕ) → HasProgram text program → IsIllTyped text place code → ⊥
not_typed_program text program place code a b = not_typed a.tree b.tree program place code (trees_alike text a.tree b.tree a.has b.has) a.typed b.not_typed

pub not_formed : (text : List ℕ) (place other : Place) (cause : FormCause) (code : ℕ) → IsIllFormed text place cause → IsIllTyped text other code → ⊥
not_formed text place other cause code (no_tokens f) b = list_no_fault b.has.listed f
not_formed text place other cause code (no_tree r) b = tree_not_refused text b.tree place cause b.has r
not_formed text place other cause code (not_built r) b = not_typed r.tree b.tree r.program other code (trees_alike text r.tree b.tree r.has b.has) r.typed b.not_typed
