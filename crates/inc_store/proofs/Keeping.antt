-- A store that keeps the cone of one more target.
use Rattle.std.proofs.Common.{◌≡◌, ℕ, true, false, cond, Some, None, inl, inr, List, [], ◌∷◌, ◌++◌, length, All, Vec, Bool, refl, ap, IsTrue, nat_eq}
use Rattle.std.specs.declared.alloc.Global.{Global}
use Rattle.std.specs.Prelude.{is_some}
use Rattle.std.proofs.lemmas.Bool.Decides.{eqb_tells}
use Rattle.cbl_base.specs.NodeLaw.{Rule}
use Rattle.cbl_base.specs.declared.input.Input.{Input}
use Rattle.store_turns.specs.declared.frame.Cone.{Cone}
use Rattle.store_turns.specs.declared.frame.Frame.{Frame}
use Rattle.store_turns.specs.Cones.{IsCone, cone_in, has_cone}
use Rattle.store_turns.specs.Meaning.{inputs_in}
use Rattle.store_build.specs.Kept.{IsKept}
use Rattle.inc_store.specs.Views.{with_cones}

-- the cones of a store's frame are no part of its values
pub kept_with : (rules : List Rule) (helds : List (List Input)) (frame : Frame) (cells : List Input) → IsKept rules helds frame cells
    → (cones : Vec Cone Global) → All (IsCone (inputs_in frame) (length frame.inputs.items)) cones.items → IsKept rules helds (with_cones frame cones) cells
kept_with rules helds frame cells kept cones all = record {
  framed = record {
    shape = kept.framed.shape;
    small = kept.framed.small;
    layers = kept.framed.layers;
    uses = kept.framed.uses;
    first = kept.framed.first;
    users = kept.framed.users;
    defined = kept.framed.defined;
    kinded = kept.framed.kinded;
    cones = all;
  };
  many_cells = kept.many_cells;
  many_helds = kept.many_helds;
  fresh = kept.fresh;
  holds = kept.holds;
}

-- ---- one cone behind the others
at_first : (b : Bool) (c : Cone) (cs ds : List Cone) (target : ℕ) → (IsTrue (has_cone cs target) → IsTrue (has_cone ds target))
    → IsTrue (is_some (cond b (Some c) (cone_in cs target))) → IsTrue (is_some (cond b (Some c) (cone_in ds target)))
at_first true c cs ds target h e = refl
at_first false c cs ds target h e = h e

pub still_there : (cs : List Cone) (c : Cone) (target : ℕ) → IsTrue (has_cone cs target) → IsTrue (has_cone (cs ++ c ∷ []) target)
still_there [] c target e = absurd (cc)
still_there (d ∷ ds) c target e = at_first (nat_eq d.target target) d ds (ds ++ c ∷ []) target (still_there ds c target) e

there_at : (b : Bool) (c : Cone) (cs : List Cone) (target : ℕ) → IsTrue (has_cone cs target) → IsTrue (is_some (cond b (Some c) (cone_in cs target)))
there_at true c cs target h = refl
there_at false c cs target h = h

pub last_there : (cs : List Cone) (c : Cone) (target : ℕ) → c.target ≡ target → IsTrue (has_cone (cs ++ c ∷ []) target)
last_there [] c target e = elim (eqb_tells c.target target) [
  | inl t ↦ ap (λ b. is_some (cond b (Some c) None)) t.0
  | inr f ↦ absurd (f.1 e)
]
last_there (d ∷ ds) c target e = there_at (nat_eq d.target target) d (ds ++ c ∷ []) target (last_there ds c target e)
