-- Texts with commas between them.
use Rattle.std.proofs.Common.{◌≡◌, ℕ, suc, ◌+◌, ◌-◌, ◌<◌, Bool, true, false, List, [], ◌∷◌, ◌++◌, length, get_or, take, drop, map, ap, sym, ◌∙◌, append_assoc, arith}
use Rattle.std.proofs.lemmas.List.{append-nil, drop_more, take-map, drop-map}
use Rattle.std.specs.Prelude.{codes, ◌==◌, if◌then◌else◌}
use Rattle.comet_meaning.specs.Printing.{separated, in_brackets, rows_of}
use Rattle.run_values.specs.Texts.{behind_commas}

-- the first text, and then the others behind commas
pub separated_first : (x : List ℕ) (xs : List (List ℕ)) → separated (x ∷ xs) ≡ x ++ behind_commas xs
separated_first x [] = sym (append-nil x)
separated_first x (y ∷ ys) = append_assoc x (codes ",") (separated (y ∷ ys)) ∙ ap (λ t. x ++ (codes "," ++ t)) (separated_first y ys)

-- what is still to be written where this is the number of texts so far
abbrev pub pending : ℕ → List (List ℕ) → List ℕ
pending count ts = if count == 0 then separated ts else behind_commas ts

pending-suc : (count : ℕ) (ts : List (List ℕ)) → pending (count + 1) ts ≡ behind_commas ts
pending-suc count ts = grind arith

-- one more text, behind a comma unless it is the first
one_more : (b : Bool) (text t : List ℕ) (ts : List (List ℕ)) → (text ++ (if b then [] else codes ",")) ++ t ++ behind_commas ts ≡ text ++ (if b then separated (t ∷ ts) else behind_commas (t ∷ ts))
one_more true text t ts =
    append_assoc (text ++ []) t (behind_commas ts) ∙ ap (λ s. s ++ (t ++ behind_commas ts)) (append-nil text) ∙ ap (λ s. text ++ s) (sym (separated_first t ts))
one_more false text t ts = append_assoc (text ++ codes ",") t (behind_commas ts) ∙ append_assoc text (codes ",") (t ++ behind_commas ts)

pub row_more : {A : Type 0} (f : A → List ℕ) (rows row columns : ℕ) (rest : List A) (text : List ℕ) → row < rows →
    (text ++ (if row == 0 then [] else codes ",")) ++ in_brackets (map f (take columns rest)) ++ pending (row + 1) (map in_brackets (rows_of (rows - (row + 1)) columns (map f (drop columns rest))))
    ≡ text ++ pending row (map in_brackets (rows_of (rows - row) columns (map f rest)))
row_more f rows row columns rest text below =
    let more : rows - row ≡ suc (rows - (row + 1)) = omega arith in
    let front : take columns (map f rest) ≡ map f (take columns rest) = take-map f columns rest in
    let back : drop columns (map f rest) ≡ map f (drop columns rest) = drop-map f columns rest in
    let later : List (List ℕ) = map in_brackets (rows_of (rows - (row + 1)) columns (map f (drop columns rest))) in
    let behind : pending (row + 1) later ≡ behind_commas later = pending-suc row later in
    rw (more, front, back, behind) (one_more (row == 0) text (in_brackets (map f (take columns rest))) later)

-- one more part, behind a comma, of those that are all written so
pub part_behind : {A : Type 0} (shown : A → List ℕ) (parts : List A) (i : ℕ) (part : A) (before comma after whole : List ℕ) → i < length parts → part ≡ get_or parts i part →
    before ++ behind_commas (map shown (drop i parts)) ≡ whole → comma ≡ before ++ codes "," → after ≡ comma ++ shown part → after ++ behind_commas (map shown (drop (i + 1) parts)) ≡ whole
part_behind shown parts i part before comma after whole below is left added written =
    let later : List (List ℕ) = map shown (drop (i + 1) parts) in
    let cut : drop i parts ≡ part ∷ drop (i + 1) parts = drop_more parts i part below ∙ ap (λ x. x ∷ drop (i + 1) parts) (sym is) in
    let one : before ++ (codes "," ++ (shown part ++ behind_commas later)) ≡ whole = rw cut at left in
    ap (λ t. t ++ behind_commas later) (written ∙ ap (λ t. t ++ shown part) added)
    ∙ append_assoc (before ++ codes ",") (shown part) (behind_commas later)
    ∙ append_assoc before (codes ",") (shown part ++ behind_commas later)
    ∙ one
