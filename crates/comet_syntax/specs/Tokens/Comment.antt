-- A comment runs from `//` up to the end of its line, or from `/*` through the next `*/`, which shares
-- no star with it. Any other byte may stand in it. From the language.
use Rattle.std.specs.Prelude.{◌≡◌, ◌≤◌, ◌==◌, ◌&&◌, ◌||◌, ℕ, Bool, true, false, not, List, [], ◌∷◌, ◌++◌, length, codes}
use Rattle.std.specs.List.{list_all}

abbrev pub is_line_feed : ℕ → Bool
is_line_feed byte = byte == 10

-- the text begins with `//` or with `/*`
abbrev pub begins_comment : List ℕ → Bool
begins_comment [] = false
begins_comment (a ∷ []) = false
begins_comment (a ∷ b ∷ rest) = a == 47 && (b == 47 || b == 42)

-- a line feed stands at the front of the text, or nothing
abbrev pub ends_line : List ℕ → Bool
ends_line [] = true
ends_line (c ∷ cs) = is_line_feed c

-- the text up to its first `*/`, and what stands behind that
pub record IsUpToClose (text body rest : List ℕ) : Type 0 where
  pub spelled : text ≡ body ++ (codes "*/" ++ rest)
  pub first : (other behind : List ℕ) → text ≡ other ++ (codes "*/" ++ behind) → length body ≤ length other

-- the text up to the end of its first line, and what stands behind that
pub record IsUpToLineEnd (text body rest : List ℕ) : Type 0 where
  pub spelled : text ≡ body ++ rest
  pub one_line : list_all (λ byte. not (is_line_feed byte)) body ≡ true
  pub ended : ends_line rest ≡ true

-- A comment stands at the front of the text, and this behind it.
pub data IsComment (text rest : List ℕ) : Type 0 where
  of_a_line : {inside body : List ℕ}
      → text ≡ codes "//" ++ inside
      → IsUpToLineEnd inside body rest
      → IsComment text rest
  closed : {inside body : List ℕ}
      → text ≡ codes "/*" ++ inside
      → IsUpToClose inside body rest
      → IsComment text rest
