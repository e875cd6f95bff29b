use Rattle.std.proofs.Common.{rules, refl, sym, ◌∙◌, length}
use Rattle.inc_store.proofs.MapEntries.{nothing_changed, some_there}
use Rattle.inc_store.proofs.store.Store.commit.Goals as goal

pub commit_moves-requires : goal.commit_moves-requires
commit_moves-requires g c κs within = (
  search (rules, within),
  (
    search (rules, within),
    (
      c.requires.usable.1,
      (
        refl,
        (
          refl,
          (
            refl,
            (
              c.requires.usable.2,
              (
                c.requires.moves,
                some_there (length c.args.moves.now) (sym c.is_empty.ensures ∙ c.if-is_empty.false),
              ),
            ),
          ),
        ),
      ),
    ),
  ),
)

pub returns-then-is_empty-clause-changed : goal.returns-then-is_empty-clause-changed
returns-then-is_empty-clause-changed g c = c.new.ensures.items ∙ sym (nothing_changed 0 c.args.self.now.cells)
