-- The distinct subterms of one term more, and of one posted term more.
use Rattle.std.proofs.Common.{◌≡◌, List, [], ◌∷◌, ◌++◌, Some, map, sym, ap, ◌∙◌}
use Rattle.std.proofs.lemmas.List.{map_push}
use Rattle.std.proofs.lemmas.List.Sums.{fold-append}
use Rattle.term_count.specs.Numbering.{terms_after}
use Rattle.term_count.proofs.Numbered.{after_push, joined_push}
use Rattle.term_model.specs.Posting.{term_posted}
use Rattle.term_model.specs.Subterms.{joined_terms, once, subterms, subterms_posted, subterms_where, with_subterm}
use Rattle.term_model.specs.declared.model.Model.{Model}
use Rattle.term_model.specs.declared.model.Posted.{Posted}
use Rattle.term_model.specs.declared.term.Term.{Term}

pub joined_after : (us : List Term) (t : Term) → terms_after (once (joined_terms (map subterms us))) t ≡ once (joined_terms (map subterms (us ++ t ∷ [])))
joined_after us t = sym (after_push [] us t)

pub posted_after : (M : Model) (posted : List Posted) (p : Posted) (t : Term) → term_posted M p ≡ Some t → terms_after (once (subterms_posted M posted)) t ≡ once (subterms_posted M (posted ++ p ∷ []))
posted_after M posted p t is =
    let each = λ (q : Posted). subterms_where (term_posted M q) in
    let whole : subterms_posted M (posted ++ p ∷ []) ≡ subterms_posted M posted ++ subterms t =
    ap joined_terms (map_push each posted p) ∙ joined_push (map each posted) (each p) ∙ ap (λ o. subterms_posted M posted ++ subterms_where o) is in
    sym (ap once whole ∙ fold-append with_subterm [] (subterms_posted M posted) (subterms t))
