-- Where the values of a form's symbols stand on the stacks, and a value that is written as the form is put in their place, the value of the form's part stands there.
use Rattle.std.specs.Prelude.{ℕ, Bool, true, false, List, [], ◌∷◌, ◌≡◌, refl}
use Rattle.std.proofs.Common.{sym, ◌∙◌, ap, subst}
use Rattle.comet_syntax.specs.Grammar.Kinds.{Kind, a_name, a_number, a_string, numbered_word}
use Rattle.comet_syntax.specs.Grammar.Symbols.{Part, Symbol, token, same, deeper, default}
use Rattle.comet_syntax.specs.Derivation.{Item, part, push}
use Rattle.comet_syntax.specs.Written.Shown.{Shown, Grows, form}
use Rattle.parse_stacks.specs.Standing.{Stands, Fits, FitsThere, MayStand, texts, Levels, token_text, TokenLevel}
use Rattle.parse_stacks.specs.Texts.{text, Level}
use Rattle.parse_stacks.specs.Undoing.{Kept, Values, TakesToken, TakesPart, Takes, Puts, Undoes}
use Rattle.parse_stacks.specs.Values.{State, Value, stack, with_stack}

-- what holds of what is taken in two ways holds together
top_both : {A B : Type 0} (s : List A) (f : List A → B) (P Q : A → B → Type 0) → ((x : A) × (xs : List A) × (s ≡ x ∷ xs) × P x (f xs)) → ((x : A) × (xs : List A) × (s ≡ x ∷ xs) × Q x (f xs))
    → (x : A) × (xs : List A) × (s ≡ x ∷ xs) × (P x (f xs) × Q x (f xs))
top_both s f P Q (x, xs, e, p) (y, ys, d, q) =
    let h : y ≡ x = cc in
    let t : ys ≡ xs = cc in
    (x, xs, e, (p, subst (λ z. Q x (f z)) t (subst (λ z. Q z (f ys)) h q)))

token_both : (m : Bool) (k : Kind) (a : State) (P Q : Kept m k → State → Type 0) → TakesToken m k a P → TakesToken m k a Q → TakesToken m k a (λ x b. P x b × Q x b)
token_both true (numbered_word w) a P Q p q = top_both a.places (λ z. record a { places = z }) P Q p q
token_both false (numbered_word w) a P Q p q = (p, q)
token_both true a_name a P Q p q = top_both a.names (λ z. record a { names = z }) P Q p q
token_both false a_name a P Q p q = top_both a.names (λ z. record a { names = z }) P Q p q
token_both true a_number a P Q p q = top_both a.expressions (λ z. record a { expressions = z }) P Q p q
token_both false a_number a P Q p q = top_both a.expressions (λ z. record a { expressions = z }) P Q p q
token_both true a_string a P Q p q = top_both a.texts (λ z. record a { texts = z }) P Q p q
token_both false a_string a P Q p q = top_both a.texts (λ z. record a { texts = z }) P Q p q

-- and what follows from it
token_then : (m : Bool) (k : Kind) (a : State) (P Q : Kept m k → State → Type 0) → ((x : Kept m k) (b : State) → P x b → Q x b) → TakesToken m k a P → TakesToken m k a Q
token_then true (numbered_word w) a P Q f (x, xs, e, p) = (x, xs, e, f x _ p)
token_then false (numbered_word w) a P Q f p = f tt a p
token_then true a_name a P Q f (x, xs, e, p) = (x, xs, e, f x _ p)
token_then false a_name a P Q f (x, xs, e, p) = (x, xs, e, f x _ p)
token_then true a_number a P Q f (x, xs, e, p) = (x, xs, e, f x _ p)
token_then false a_number a P Q f (x, xs, e, p) = (x, xs, e, f x _ p)
token_then true a_string a P Q f (x, xs, e, p) = (x, xs, e, f x _ p)
token_then false a_string a P Q f (x, xs, e, p) = (x, xs, e, f x _ p)

part_then : (n : Part) (a : State) (P Q : Value n → State → Type 0) → ((x : Value n) (b : State) → P x b → Q x b) → TakesPart n a P → TakesPart n a Q
part_then n a P Q f (x, xs, e, p) = (x, xs, e, f x _ p)

token_gives : (m : Bool) (k : Kind) (a : State) (P : Kept m k → State → Type 0) (Z : Type 0) → ((x : Kept m k) (b : State) → P x b → Z) → TakesToken m k a P → Z
token_gives true (numbered_word w) a P Z f (x, xs, e, p) = f x _ p
token_gives false (numbered_word w) a P Z f p = f tt a p
token_gives true a_name a P Z f (x, xs, e, p) = f x _ p
token_gives false a_name a P Z f (x, xs, e, p) = f x _ p
token_gives true a_number a P Z f (x, xs, e, p) = f x _ p
token_gives false a_number a P Z f (x, xs, e, p) = f x _ p
token_gives true a_string a P Z f (x, xs, e, p) = f x _ p
token_gives false a_string a P Z f (x, xs, e, p) = f x _ p

part_gives : (n : Part) (a : State) (P : Value n → State → Type 0) (Z : Type 0) → ((x : Value n) (b : State) → P x b → Z) → TakesPart n a P → Z
part_gives n a P Z f (x, xs, e, p) = f x _ p

takes_then : (body : List Symbol) (a : State) (P Q : Values body → State → Type 0) → ((v : Values body) (c : State) → P v c → Q v c) → Takes body a P → Takes body a Q
takes_then [] a P Q f p = f tt a p
takes_then (token m k ∷ body) a P Q f p = token_then m k a _ _ (λ x b q. takes_then body b (λ v c. P (x, v) c) (λ v c. Q (x, v) c) (λ v c. f (x, v) c) q) p
takes_then (same n ∷ body) a P Q f p = part_then n a _ _ (λ x b q. takes_then body b (λ v c. P (x, v) c) (λ v c. Q (x, v) c) (λ v c. f (x, v) c) q) p
takes_then (deeper n ∷ body) a P Q f p = part_then n a _ _ (λ x b q. takes_then body b (λ v c. P (x, v) c) (λ v c. Q (x, v) c) (λ v c. f (x, v) c) q) p
takes_then (default d n ∷ body) a P Q f p = part_then n a _ _ (λ x b q. takes_then body b (λ v c. P (x, v) c) (λ v c. Q (x, v) c) (λ v c. f (x, v) c) q) p

takes_gives : (body : List Symbol) (a : State) (P : Values body → State → Type 0) (Z : Type 0) → ((v : Values body) (c : State) → P v c → Z) → Takes body a P → Z
takes_gives [] a P Z f p = f tt a p
takes_gives (token m k ∷ body) a P Z f p = token_gives m k a _ Z (λ x b q. takes_gives body b (λ v c. P (x, v) c) Z (λ v c. f (x, v) c) q) p
takes_gives (same n ∷ body) a P Z f p = part_gives n a _ Z (λ x b q. takes_gives body b (λ v c. P (x, v) c) Z (λ v c. f (x, v) c) q) p
takes_gives (deeper n ∷ body) a P Z f p = part_gives n a _ Z (λ x b q. takes_gives body b (λ v c. P (x, v) c) Z (λ v c. f (x, v) c) q) p
takes_gives (default d n ∷ body) a P Z f p = part_gives n a _ Z (λ x b q. takes_gives body b (λ v c. P (x, v) c) Z (λ v c. f (x, v) c) q) p

-- what a claim about the values of a form is for the values behind the first one
abbrev Tail : {A : Type 0} (body : List Symbol) → (A × Values body → State → Type 0) → A → State → Type 0
Tail body P x b = Takes body b (λ v c. P (x, v) c)

takes_both : (body : List Symbol) (a : State) (P Q : Values body → State → Type 0) → Takes body a P → Takes body a Q → Takes body a (λ v c. P v c × Q v c)
takes_both [] a P Q p q = (p, q)
takes_both (token m k ∷ body) a P Q p q = token_then m k a (λ x b. Tail body P x b × Tail body Q x b) (Tail body (λ v c. P v c × Q v c))
    (λ x b r. takes_both body b (λ v c. P (x, v) c) (λ v c. Q (x, v) c) r.0 r.1) (token_both m k a (Tail body P) (Tail body Q) p q)
takes_both (same n ∷ body) a P Q p q = part_then n a (λ x b. Tail body P x b × Tail body Q x b) (Tail body (λ v c. P v c × Q v c))
    (λ x b r. takes_both body b (λ v c. P (x, v) c) (λ v c. Q (x, v) c) r.0 r.1) (top_both (stack n a) (with_stack n a) (Tail body P) (Tail body Q) p q)
takes_both (deeper n ∷ body) a P Q p q = part_then n a (λ x b. Tail body P x b × Tail body Q x b) (Tail body (λ v c. P v c × Q v c))
    (λ x b r. takes_both body b (λ v c. P (x, v) c) (λ v c. Q (x, v) c) r.0 r.1) (top_both (stack n a) (with_stack n a) (Tail body P) (Tail body Q) p q)
takes_both (default d n ∷ body) a P Q p q = part_then n a (λ x b. Tail body P x b × Tail body Q x b) (Tail body (λ v c. P v c × Q v c))
    (λ x b r. takes_both body b (λ v c. P (x, v) c) (λ v c. Q (x, v) c) r.0 r.1) (top_both (stack n a) (with_stack n a) (Tail body P) (Tail body Q) p q)

-- what stands on the stacks for the symbols of a form
abbrev Stood : (body : List Symbol) → List Item → List Shown → Values body → State → Type 0
Stood body items L v c = (rest : List Shown) × (L ≡ texts body v rest) × Levels body v × Stands items c rest

-- what stands there for a first symbol, of this text and this level
abbrev First : List Item → List Shown → Grows → Type 0 → State → Type 0
First items L t level b = (rest : List Shown) × (L ≡ t rest) × level × Stands items b rest

token_stood : (m : Bool) (k : Kind) (body : List Symbol) (items : List Item) (L : List Shown) (x : Kept m k) (rest : List Shown) → L ≡ token_text m k x rest → TokenLevel m k x → (v : Values body) (c : State)
    → Stood body items rest v c → Stood (token m k ∷ body) items L (x, v) c
token_stood m k body items L x rest e l v c q = (q.0, e ∙ ap (token_text m k x) q.1, (l, q.2), q.3)

part_stood : (n : Part) (body : List Symbol) (items : List Item) (L : List Shown) (x : Value n) (rest : List Shown) → L ≡ text n x rest → Level n x → (v : Values body) (c : State)
    → Stood body items rest v c → Stood (same n ∷ body) items L (x, v) c
part_stood n body items L x rest e l v c q = (q.0, e ∙ ap (text n x) q.1, (l, q.2), q.3)

splits : (body : List Symbol) (d : ℕ) (items : List Item) (a : State) (L : List Shown) → Stands (push body d items) a L → Takes body a (Stood body items L)
splits [] d items a L s = (L, refl, tt, s)
splits (token m k ∷ body) d items a L s = token_then m k a (λ x b. First (push body d items) L (token_text m k x) (TokenLevel m k x) b) (Tail body (Stood (token m k ∷ body) items L))
    (λ x b r. takes_then body b (Stood body items r.0) (λ v c. Stood (token m k ∷ body) items L (x, v) c) (token_stood m k body items L x r.0 r.1 r.2) (splits body d items b r.0 r.3)) s
splits (same n ∷ body) d items a L s = part_then n a (λ x b. First (push body d items) L (text n x) (Level n x) b) (Tail body (Stood (same n ∷ body) items L))
    (λ x b r. takes_then body b (Stood body items r.0) (λ v c. Stood (same n ∷ body) items L (x, v) c) (part_stood n body items L x r.0 r.1 r.2) (splits body d items b r.0 r.3)) s
splits (deeper n ∷ body) d items a L s = part_then n a (λ x b. First (push body d items) L (text n x) (Level n x) b) (Tail body (Stood (deeper n ∷ body) items L))
    (λ x b r. takes_then body b (Stood body items r.0) (λ v c. Stood (deeper n ∷ body) items L (x, v) c) (part_stood n body items L x r.0 r.1 r.2) (splits body d items b r.0 r.3)) s
splits (default h n ∷ body) d items a L s = part_then n a (λ x b. First (push body d items) L (text n x) (Level n x) b) (Tail body (Stood (default h n ∷ body) items L))
    (λ x b r. takes_then body b (Stood body items r.0) (λ v c. Stood (default h n ∷ body) items L (x, v) c) (part_stood n body items L x r.0 r.1 r.2) (splits body d items b r.0 r.3)) s

-- what fits everywhere fits there
pub fits_there : (n : Part) (body : List Symbol) (Made : Values body → Value n → Type 0) → Fits n body Made → FitsThere n body Made
fits_there n body Made fits v x l m Y s = let h = fits v x l m in (h.0, h.1 Y)

pub undone_form : (n : Part) (body : List Symbol) (Made : Values body → Value n → Type 0) → FitsThere n body Made → (d : ℕ) (items : List Item) (a b : State) (L : List Shown)
    → MayStand n body L → Stands (push body d items) a L → Undoes n body Made a b → Stands (part n d ∷ items) b (form n body ∷ L)
undone_form n body Made fits d items a b L may s u = takes_gives body a (λ v c. Stood body items L v c × ((x : Value n) × Made v x × Puts n x c b)) (Stands (part n d ∷ items) b (form n body ∷ L))
    (λ v c r.
    let k : Stood body items L v c = r.0 in
    let m : (x : Value n) × Made v x × Puts n x c b = r.1 in
    let h : Level n m.0 × (form n body ∷ texts body v k.0 ≡ text n m.0 k.0) = fits v m.0 k.2 m.1 k.0 (subst (MayStand n body) k.1 may) in
    (m.0, stack n c, m.2.0, (k.0, ap (λ z. form n body ∷ z) k.1 ∙ h.1, h.0, subst (λ z. Stands items z k.0) (sym m.2.1) k.3)))
    (takes_both body a (Stood body items L) (λ v c. (x : Value n) × Made v x × Puts n x c b) (splits body d items a L s) u)

-- the values of a form's symbols stand there
pub ready_form : (body : List Symbol) (d : ℕ) (items : List Item) (a : State) (L : List Shown) → Stands (push body d items) a L → Takes body a (λ v b. Unit {0})
ready_form body d items a L s = takes_then body a (Stood body items L) (λ v b. Unit {0}) (λ v c q. tt) (splits body d items a L s)
