-- The replies that are read are those that are spelled.
use Rattle.std.proofs.Common.{◌≡◌, ℕ, suc, ◌<◌, Bool, true, false, cond, eqb, List, [], ◌∷◌, length, Some, None, refl, ap, ap₂, sym, subst, ◌∙◌, arith}
use Rattle.std.specs.Prelude.{ℤ, pos, negsuc, codes}
use Rattle.std.specs.Int.{w64}
use Rattle.std.specs.Int.RustNames.{FitsSigned}
use Rattle.std.specs.Char.{is_ascii_digit}
use Rattle.std.specs.Str.{bytes_eq}
use Rattle.std.specs.Fmt.{decimal, signed_decimal}
use Rattle.std.proofs.lemmas.Option.{cond_some}
use Rattle.std.proofs.lemmas.Slice.Eq.{bytes_eq-Decides}
use Rattle.best_monitor.specs.declared.request.Reply.{Reply}
use Rattle.best_monitor.specs.declared.request.Reply.TheVariants.{Truth, Number, Missing, Long, Done}
use Rattle.best_monitor.specs.declared.request.Reply.TheVariants.{List as Listed}
use Rattle.journal_text.specs.Texts.{reply_words}
use Rattle.journal_text.specs.Grammar.{FitsReply}
use Rattle.journal_text.specs.Refusal.{split}
use Rattle.journal_text.specs.Reading.{◌>>=◌, next, only, number_of, signed_of, list_of, begins_number, number_reply, list_reply, word_reply, short_reply, long_reply, reply_of}
use Rattle.journal_text.proofs.Cuts.{split_some, next_is, only_is, one_word}
use Rattle.journal_text.proofs.Choices.{some_is, bind_some, chosen}
use Rattle.journal_text.proofs.NumberLaws.{number_takes, number_again, signed_takes, signed_again, list_takes, list_again, first_digit}

abbrev Told : List (List ℕ) → Reply → Type 0
Told ws r = (ws ≡ reply_words r) × FitsReply r

number_reply_takes : (word : List ℕ) (r : Reply) → number_reply word ≡ Some r → Told (word ∷ []) r
unfolding number_reply
number_reply_takes word r e =
    let a = bind_some (signed_of word) (λ z. Some (Number z)) r e in
    let t = signed_takes word a.0 a.1 in
    subst (Told (word ∷ [])) (some_is (Number a.0) r a.2) (ap (λ w. w ∷ []) t.0, t.1)

list_reply_takes : (word : List ℕ) (r : Reply) → list_reply word ≡ Some r → Told (word ∷ []) r
unfolding list_reply
list_reply_takes word r e =
    let a = bind_some (list_of word) (λ zs. Some (Listed zs)) r e in
    let t = list_takes word a.0 a.1 in
    subst (Told (word ∷ [])) (some_is (Listed a.0) r a.2) (ap (λ w. w ∷ []) t.0, t.1)

plain_reply : (word : List ℕ) (s r : Reply) → reply_words s ≡ word ∷ [] → FitsReply s → Some s ≡ Some r → Told (word ∷ []) r
plain_reply word s r spelled fits e = subst (Told (word ∷ [])) (some_is s r e) (sym spelled, fits)

word_reply_takes : (word : List ℕ) (r : Reply) → word_reply word ≡ Some r → Told (word ∷ []) r
word_reply_takes word r e =
    chosen word (codes "true") (Some (Truth true)) _ r (λ w. Told (w ∷ []) r) (plain_reply (codes "true") (Truth true) r refl tt)
    (chosen word (codes "false") (Some (Truth false)) _ r (λ w. Told (w ∷ []) r) (plain_reply (codes "false") (Truth false) r refl tt)
    (chosen word (codes "none") (Some Missing) _ r (λ w. Told (w ∷ []) r) (plain_reply (codes "none") Missing r refl tt)
    (chosen word (codes "ok") (Some Done) _ r (λ w. Told (w ∷ []) r) (plain_reply (codes "ok") Done r refl tt) (λ none. absurd cc))))
    e

short_takes : (word : List ℕ) (r : Reply) → short_reply word ≡ Some r → Told (word ∷ []) r
short_takes [] r e = absurd cc
short_takes (c ∷ cs) r e = cases (begins_number c) (eqb c 91) e
  where
    cases : (b d : Bool) → cond b (number_reply (c ∷ cs)) (cond d (list_reply (c ∷ cs)) (word_reply (c ∷ cs))) ≡ Some r → Told ((c ∷ cs) ∷ []) r
    cases true d e = number_reply_takes (c ∷ cs) r e
    cases false true e = list_reply_takes (c ∷ cs) r e
    cases false false e = word_reply_takes (c ∷ cs) r e

long_takes : (name word : List ℕ) (r : Reply) → long_reply name word ≡ Some r → Told (name ∷ word ∷ []) r
unfolding long_reply
long_takes name word r e =
    let a = bind_some (number_of word) (λ n. cond (bytes_eq name (codes "long")) (Some (Long n)) None) r e in
    let b = cond_some (bytes_eq name (codes "long")) (Long a.0) r a.2 in
    let t = number_takes word a.0 a.1 in
    subst (Told (name ∷ word ∷ [])) b.1 (ap₂ (λ h w. h ∷ w ∷ []) ((bytes_eq-Decides name (codes "long")).0 b.0) t.0, t.1)

pub reply_takes : (ws : List (List ℕ)) (r : Reply) → reply_of ws ≡ Some r → Told ws r
reply_takes [] r e = absurd cc
reply_takes (word ∷ []) r e = short_takes word r e
reply_takes (name ∷ word ∷ []) r e = long_takes name word r e
reply_takes (name ∷ word ∷ other ∷ words) r e = absurd cc

begins_digit : (c : ℕ) → is_ascii_digit c ≡ true → begins_number c ≡ true
begins_digit c is = cases (eqb c 45)
  where
    cases : (b : Bool) → cond b true (is_ascii_digit c) ≡ true
    cases true = refl
    cases false = is

number_first : (word : List ℕ) (c : ℕ) (cs : List ℕ) → word ≡ c ∷ cs → begins_number c ≡ true → short_reply word ≡ number_reply word
number_first word c cs is begins = ap short_reply is ∙ (ap (λ b. cond b (number_reply (c ∷ cs)) (cond (eqb c 91) (list_reply (c ∷ cs)) (word_reply (c ∷ cs)))) begins ∙ ap number_reply (sym is))

signed_first : (z : ℤ) → FitsSigned w64 z → short_reply (signed_decimal z) ≡ number_reply (signed_decimal z)
signed_first (pos n) fits = let f = first_digit n (let s : n < 9223372036854775808 = fits.sfits in omega arith) in number_first (decimal n) f.0 f.1 f.2 (begins_digit f.0 f.3)
signed_first (negsuc n) fits = number_first (45 ∷ decimal (suc n)) 45 (decimal (suc n)) refl refl

pub reply_again : (r : Reply) → FitsReply r → reply_of (reply_words r) ≡ Some r
unfolding number_reply list_reply long_reply
reply_again (Truth true) fits = refl
reply_again (Truth false) fits = refl
reply_again (Number z) fits = signed_first z fits ∙ ap (λ o. o >>= λ y. Some (Number y)) (signed_again z fits)
reply_again (Listed zs) fits = ap (λ o. o >>= λ ys. Some (Listed ys)) (list_again zs fits)
reply_again Missing fits = refl
reply_again (Long n) fits = ap (λ o. o >>= λ k. cond (bytes_eq (codes "long") (codes "long")) (Some (Long k)) None) (number_again n fits)
reply_again Done fits = refl

-- ---- how many words a reply has

pub short_words : (bs : List ℕ) → next (split 32 bs) ≡ None → reply_of (split 32 bs) ≡ short_reply bs
short_words bs e = ap reply_of (one_word 32 bs e)

pub long_words : (bs name rest word : List ℕ) → next (split 32 bs) ≡ Some (name, split 32 rest) → only (split 32 rest) ≡ Some word → reply_of (split 32 bs) ≡ long_reply name word
long_words bs name rest word e o = ap reply_of ((next_is (split 32 bs) (name, split 32 rest) e).0 ∙ ap (λ l. name ∷ l) (only_is (split 32 rest) word o))

pub more_words : (bs name rest : List ℕ) → next (split 32 bs) ≡ Some (name, split 32 rest) → only (split 32 rest) ≡ None → reply_of (split 32 bs) ≡ None
more_words bs name rest e o = ap reply_of (next_is (split 32 bs) (name, split 32 rest) e).0 ∙ cases (split 32 rest) (split_some 32 rest) o
  where
    cases : (ps : List (List ℕ)) → 0 < length ps → only ps ≡ None → reply_of (name ∷ ps) ≡ None
    cases [] h o = absurd (omega arith)
    cases (p ∷ []) h o = absurd cc
    cases (p ∷ q ∷ qs) h o = refl
