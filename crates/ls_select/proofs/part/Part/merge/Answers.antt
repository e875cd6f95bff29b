use Rattle.std.proofs.Common.{sym, ◌∙◌, subst, arith}
use Rattle.ls_select.specs.Merging.{Merges}
use Rattle.ls_select.specs.declared.merging.Merged.TheVariants.{Whole}
use Rattle.ls_select.specs.declared.part.Part.{Part}
use Rattle.ls_select.proofs.ScanLaws.{going, joined_merges, stopped_merges}
use Rattle.ls_select.proofs.part.Part.merge.Goals as goal

pub returns-then-is_some : goal.returns-then-is_some
returns-then-is_some c =
    stopped_merges c.args.want c.args.fuel c.args.self c.args.later (sym c.is_some.ensures ∙ c.if-is_some.true)

pub returns : goal.returns
returns c =
    let none = going c.args.self.stop (sym c.is_some.ensures ∙ c.if-is_some.false) in
    let least = c.if-self-fuel.false in
    let most = c.if-later-fuel.false in
    subst (λ (p : Part). Merges c.args.want c.args.fuel c.args.self c.args.later (Whole p)) (sym c.join.ensures)
    (joined_merges c.args.want c.args.fuel c.args.self c.args.later none c.requires.adjoin (omega arith))
