use Rattle.std.proofs.Common.{◌≡◌, List, [], ◌∷◌, length, get_or, ap, sym, ◌∙◌, arith}
use Rattle.std.proofs.lemmas.Bool.{and_parts, eqb-true}
use Rattle.cbl_base.specs.declared.input.Input.{Input}
use Rattle.cbl_base.specs.declared.input.Input.TheVariants.{Set}
use Rattle.cbl_base.specs.Inputs.{kinds_of}
use Rattle.cbl_base.specs.Sets.{set_of}
use Rattle.cbl_base.proofs.SetLemmas.{set_of-rising}
use Rattle.base_tests.proofs.base.SizeNodeRule.reset.Goals as goal

-- a list of one is its first
only_one : (inputs : List Input) (x : Input) → length (kinds_of inputs) ≡ 1 → x ≡ get_or inputs 0 x → inputs ≡ x ∷ []
only_one [] x long at = absurd (omega (arith, long))
only_one (y ∷ []) x long at = ap (λ t. t ∷ []) (sym at)
only_one (y ∷ z ∷ inputs) x long at = absurd (omega (arith, long))

pub returns-clause-held : goal.returns-clause-held
returns-clause-held c =
    let long = eqb-true (length (kinds_of c.args.inputs.now)) 1 (and_parts _ _ c.requires).0 in
    let whole = only_one c.args.inputs.now c.index-inputs-0.result long c.index-inputs-0.is in
    ap (λ t. Set t ∷ []) (c.in_ok-self-in-Set.ensures ∙ ap set_of c.as_slice.ensures.members ∙ set_of-rising c.in-Set.set c.as_slice.ensures.rising)
    ∙ ap (λ t. t ∷ []) (sym c.in-Set.is) ∙ sym whole
