-- What a body returns is what the statements of its block return.
use Rattle.std.proofs.Common.{◌≡◌, refl, List, [], ◌∷◌, None, length, get_or, map, ap, sym, arith}
use Rattle.cbl_base.specs.declared.place.Place.{Place}
use Rattle.checked_tree.specs.declared.statements.Task.{Task}
use Rattle.checked_tree.specs.Actions as deeds
use Rattle.checked_tree.specs.Tasks as works
use Rattle.checked_tree.specs.Tasks.{Work, row_of, work_of}
use Rattle.comet_meaning.specs.Purity.{returned_by}
use Rattle.program_forms.specs.Returned.{returned_in, returned_of}

one : (p : Place) (w : Work) → returned_by (works.task p (works.block (works.more w works.no_more))) ≡ returned_in w
one p (works.task q (works.action (deeds.returning e))) = refl
one p w = refl

several : (p : Place) (w v : Work) (ws : List Work) → returned_by (works.task p (works.block (works.more w (works.more v (row_of ws))))) ≡ None
several p (works.task q (works.action (deeds.returning e))) v ws = refl
several p w v ws = refl

pub body_returned : (p : Place) (ws : List Work) → returned_by (works.task p (works.block (row_of ws))) ≡ returned_of ws
body_returned p [] = refl
body_returned p (w ∷ []) = one p w
body_returned p (w ∷ v ∷ ws) = several p w v ws

-- a statement alone
pub alone_returned : (ts : List Task) (t : Task) → length ts ≡ 1 → t ≡ get_or ts 0 t → returned_of (map work_of ts) ≡ returned_in (work_of t)
alone_returned [] t h is = absurd (omega arith)
alone_returned (x ∷ []) t h is = ap (λ (y : Task). returned_in (work_of y)) (sym is)
alone_returned (x ∷ y ∷ ts) t h is = absurd (omega arith)
