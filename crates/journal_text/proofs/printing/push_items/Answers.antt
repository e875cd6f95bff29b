use Rattle.journal_text.proofs.PrintLaws.{items_pushed}
use Rattle.std.proofs.Common.{rules}
use Rattle.journal_text.proofs.printing.push_items.Goals as goal

pub returns-in_ok-push_signed-in-len1-up : goal.returns-in_ok-push_signed-in-len1-up
returns-in_ok-push_signed-in-len1-up c =
    items_pushed c.push_rest.result c.args.out.now.items c.push_signed.new.out.items c.push_rest.new.out.items c.args.numbers.now c.in-len1-up.len_at_least (search rules) c.push_rest.ensures
