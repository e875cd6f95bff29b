-- The moves of ids that pass.
use Rattle.std.proofs.Common.{◌≡◌, inl, inr, ℕ, ℤ, zero, suc, ◌+◌, ◌<◌, Bool, true, false, cond, nat_eq, nat_lt, ◌||◌, ◌&&◌, List, [], ◌∷◌, length, drop, get_or, refl, sym, ap, ◌∙◌, subst, arith}
use Rattle.std.proofs.lemmas.Bool.Decides.{eqb_tells}
use Rattle.std.proofs.lemmas.List.{drop_more}
use Rattle.cbl_base.specs.NodeLaw.{Rule}
use Rattle.cbl_base.specs.declared.ids.VarId.{VarId}
use Rattle.cbl_base.specs.declared.input.Input.{Input}
use Rattle.cbl_base.specs.declared.input.Input.TheVariants.{Int}
use Rattle.store_turns.specs.declared.frame.Frame.{Frame}
use Rattle.store_turns.specs.Meaning.{Graph, graph_of, inputs_in, is_empty}
use Rattle.inc_store.specs.Moves.{AreMoves, moved_to, is_moved}
use Rattle.trial.specs.Parts.{Part, IsPart, part_graph, moves_of}

never : true ≡ false → ⊥
never e = cc

module _ (test : ℕ → Bool) where
  -- ---- which ids are moved, and where to
  moved_one : (a b c d : Bool) (rest : Bool) → (b ≡ true → a ≡ d) → rest ≡ c && d → cond a (b || rest) rest ≡ (b || c) && d
  moved_one true true c true rest same e = refl
  moved_one true true c false rest same e = absurd (never (same refl))
  moved_one true false c d rest same e = e
  moved_one false true c true rest same e = absurd (never (sym (same refl)))
  moved_one false true c false rest same e = e ∙ no_both c
    where
      no_both : (c : Bool) → c && false ≡ false
      no_both true = refl
      no_both false = refl
  moved_one false false c d rest same e = e

  is_moved-either : (a : Bool) (m : VarId × ℤ) (ms : List (VarId × ℤ)) (id : ℕ) → is_moved (cond a (m ∷ ms) ms) id ≡ cond a (nat_eq m.0.index id || is_moved ms id) (is_moved ms id)
  is_moved-either true m ms id = refl
  is_moved-either false m ms id = refl

  same_test : (i id : ℕ) → nat_eq i id ≡ true → test i ≡ test id
  same_test i id e = elim (eqb_tells i id) [ inl t ↦ ap test t.1 | inr f ↦ absurd (never (sym e ∙ f.0)) ]

  pub moved_part : (ms : List (VarId × ℤ)) (id : ℕ) → is_moved (moves_of test ms) id ≡ is_moved ms id && test id
  moved_part [] id = refl
  moved_part (m ∷ ms) id =
      is_moved-either (test m.0.index) m (moves_of test ms) id
      ∙ moved_one (test m.0.index) (nat_eq m.0.index id) (is_moved ms id) (test id) (is_moved (moves_of test ms) id) (same_test m.0.index id) (moved_part ms id)

  moved_to-either : (a b : Bool) (m : VarId × ℤ) (ms : List (VarId × ℤ)) (f : ℕ → Input) (id : ℕ) (x : Input) → nat_eq m.0.index id ≡ b → (b ≡ true → a ≡ true) → moved_to ms f id ≡ x → moved_to (cond a (m ∷ ms) ms) f id ≡ cond b (Int m.1) x
  moved_to-either true b m ms f id x e same rest = ap (λ c. cond c (Int m.1) (moved_to ms f id)) e ∙ ap (cond b (Int m.1)) rest
  moved_to-either false true m ms f id x e same rest = absurd (never (sym (same refl)))
  moved_to-either false false m ms f id x e same rest = rest

  pub to_part : (ms : List (VarId × ℤ)) (f g : ℕ → Input) (id : ℕ) → test id ≡ true → f id ≡ g id → moved_to (moves_of test ms) f id ≡ moved_to ms g id
  to_part [] f g id t same = same
  to_part (m ∷ ms) f g id t same =
      moved_to-either (test m.0.index) (nat_eq m.0.index id) m (moves_of test ms) f id (moved_to ms g id) refl (λ e. same_test m.0.index id e ∙ t) (to_part ms f g id t same)

  stays-either : (a : Bool) (m : VarId × ℤ) (ms : List (VarId × ℤ)) (f : ℕ → Input) (id : ℕ) → (nat_eq m.0.index id ≡ true → a ≡ false) → moved_to ms f id ≡ f id → moved_to (cond a (m ∷ ms) ms) f id ≡ f id
  stays-either true m ms f id out rest = elim (eqb_tells m.0.index id) [
    | inl t ↦ absurd (never (out t.0))
    | inr n ↦ ap (λ c. cond c (Int m.1) (moved_to ms f id)) n.0 ∙ rest
  ]
  stays-either false m ms f id out rest = rest

  pub stays_part : (ms : List (VarId × ℤ)) (f : ℕ → Input) (id : ℕ) → test id ≡ false → moved_to (moves_of test ms) f id ≡ f id
  stays_part [] f id t = refl
  stays_part (m ∷ ms) f id t = stays-either (test m.0.index) m (moves_of test ms) f id (λ e. same_test m.0.index id e ∙ t) (stays_part ms f id t)

  -- ---- they are moves of the part
  module _ (rules : List Rule) (frame : Frame) (cells : List Input) (part : Part) (is : IsPart rules frame cells test part) where
    pub free_part : (id : ℕ) → id < length frame.inputs.items → test id ≡ true → (part_graph part).is_free id ≡ (graph_of rules frame).is_free id
    free_part id lt t = ap (λ f. nat_lt id f && is_empty (inputs_in part.frame id)) is.first ∙ ap (λ ns. nat_lt id frame.first && is_empty ns) (is.inside id lt t).inputs

    both_false : (a b : Bool) → a ≡ false → a && b ≡ false
    both_false a b e = ap (λ c. c && b) e

    are_one : (a : Bool) (m : VarId × ℤ) (ms rest : List (VarId × ℤ)) → test m.0.index ≡ a → is_moved rest m.0.index ≡ is_moved ms m.0.index && test m.0.index → AreMoves (graph_of rules frame) (m ∷ ms) → AreMoves (part_graph part) rest → AreMoves (part_graph part) (cond a (m ∷ rest) rest)
    are_one true m ms rest t moved are all = (
      let inside = are.0 in let count = is.count in omega (arith, inside, count),
      free_part m.0.index are.0 t ∙ are.1,
      moved ∙ both_false (is_moved ms m.0.index) (test m.0.index) are.2,
      all,
    )
    are_one false m ms rest t moved are all = all

    pub are_moves : (ms : List (VarId × ℤ)) → AreMoves (graph_of rules frame) ms → AreMoves (part_graph part) (moves_of test ms)
    are_moves [] are = tt
    are_moves (m ∷ ms) are = are_one (test m.0.index) m ms (moves_of test ms) refl (moved_part ms m.0.index) are (are_moves ms are.3)

  -- ---- the moves that are left
  pub left_with : (ms : List (VarId × ℤ)) (i : ℕ) (d : VarId × ℤ) → i < length ms → test (get_or ms i d).0.index ≡ true → moves_of test (drop i ms) ≡ get_or ms i d ∷ moves_of test (drop (i + 1) ms)
  left_with ms i d lt t = ap (moves_of test) (drop_more ms i d lt) ∙ ap (λ a. cond a (get_or ms i d ∷ moves_of test (drop (i + 1) ms)) (moves_of test (drop (i + 1) ms))) t

  pub left_without : (ms : List (VarId × ℤ)) (i : ℕ) (d : VarId × ℤ) → i < length ms → test (get_or ms i d).0.index ≡ false → moves_of test (drop i ms) ≡ moves_of test (drop (i + 1) ms)
  left_without ms i d lt t = ap (moves_of test) (drop_more ms i d lt) ∙ ap (λ a. cond a (get_or ms i d ∷ moves_of test (drop (i + 1) ms)) (moves_of test (drop (i + 1) ms))) t

  rest_moves : (g : Graph) (a : Bool) (m : VarId × ℤ) (ms : List (VarId × ℤ)) → AreMoves g (cond a (m ∷ ms) ms) → AreMoves g ms
  rest_moves g true m ms are = are.3
  rest_moves g false m ms are = are

  pub moves_left : (g : Graph) (ms : List (VarId × ℤ)) (i : ℕ) → AreMoves g (moves_of test ms) → AreMoves g (moves_of test (drop i ms))
  moves_left g ms zero are = are
  moves_left g [] (suc i) are = are
  moves_left g (m ∷ ms) (suc i) are = moves_left g ms i (rest_moves g (test m.0.index) m (moves_of test ms) are)

  -- each of them goes where it says
  among-either : (a : Bool) (m : VarId × ℤ) (ms : List (VarId × ℤ)) (id : ℕ) → is_moved ms id ≡ true → is_moved (cond a (m ∷ ms) ms) id ≡ true
  among-either true m ms id e = ap (λ b. nat_eq m.0.index id || b) e ∙ or_true (nat_eq m.0.index id)
    where
      or_true : (b : Bool) → b || true ≡ true
      or_true true = refl
      or_true false = refl
  among-either false m ms id e = e

  here-either : (a : Bool) (m : VarId × ℤ) (ms : List (VarId × ℤ)) → a ≡ true → is_moved (cond a (m ∷ ms) ms) m.0.index ≡ true
  here-either true m ms e = elim (eqb_tells m.0.index m.0.index) [ inl t ↦ ap (λ b. b || is_moved ms m.0.index) t.0 | inr f ↦ absurd (f.1 refl) ]
  here-either false m ms e = absurd (never (sym e))

  is_among : (ms : List (VarId × ℤ)) (i : ℕ) (d : VarId × ℤ) → i < length ms → test (get_or ms i d).0.index ≡ true → is_moved (moves_of test ms) (get_or ms i d).0.index ≡ true
  is_among [] i d lt t = absurd (omega (arith, lt))
  is_among (m ∷ ms) zero d lt t = here-either (test m.0.index) m (moves_of test ms) t
  is_among (m ∷ ms) (suc i) d lt t = among-either (test m.0.index) m (moves_of test ms) (get_or ms i d).0.index (is_among ms i d (omega (arith, lt)) t)

  goes-here : (a : Bool) (m : VarId × ℤ) (ms : List (VarId × ℤ)) (f : ℕ → Input) → a ≡ true → moved_to (cond a (m ∷ ms) ms) f m.0.index ≡ Int m.1
  goes-here true m ms f e = elim (eqb_tells m.0.index m.0.index) [ inl t ↦ ap (λ c. cond c (Int m.1) (moved_to ms f m.0.index)) t.0 | inr g ↦ absurd (g.1 refl) ]
  goes-here false m ms f e = absurd (never (sym e))

  goes-later : (g : Graph) (a : Bool) (m : VarId × ℤ) (ms : List (VarId × ℤ)) (f : ℕ → Input) (id : ℕ) (x : Input) → AreMoves g (cond a (m ∷ ms) ms) → is_moved ms id ≡ true → moved_to ms f id ≡ x → moved_to (cond a (m ∷ ms) ms) f id ≡ x
  goes-later g true m ms f id x are among rest = elim (eqb_tells m.0.index id) [
    | inl t ↦ absurd (never (sym among ∙ subst (λ k. is_moved ms k ≡ false) t.1 are.2))
    | inr n ↦ ap (λ c. cond c (Int m.1) (moved_to ms f id)) n.0 ∙ rest
  ]
  goes-later g false m ms f id x are among rest = rest

  pub goes_to : (g : Graph) (ms : List (VarId × ℤ)) (f : ℕ → Input) (i : ℕ) (d : VarId × ℤ) → AreMoves g (moves_of test ms) → i < length ms → test (get_or ms i d).0.index ≡ true
      → moved_to (moves_of test ms) f (get_or ms i d).0.index ≡ Int (get_or ms i d).1
  goes_to g [] f i d are lt t = absurd (omega (arith, lt))
  goes_to g (m ∷ ms) f zero d are lt t = goes-here (test m.0.index) m (moves_of test ms) f t
  goes_to g (m ∷ ms) f (suc i) d are lt t =
      goes-later g (test m.0.index) m (moves_of test ms) f (get_or ms i d).0.index (Int (get_or ms i d).1) are (is_among ms i d (omega (arith, lt)) t)
      (goes_to g ms f i d (rest_moves g (test m.0.index) m (moves_of test ms) are) (omega (arith, lt)) t)
