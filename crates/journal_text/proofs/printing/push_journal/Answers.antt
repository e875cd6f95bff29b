use Rattle.journal_text.proofs.PrintLaws.{journal_pushed}
use Rattle.journal_text.proofs.printing.push_journal.Goals as goal

pub returns : goal.returns
returns c = journal_pushed c.push_text-2.result c.args.out.now.items c.push_bytes.new.out.items c.push_text.new.out.items c.push_loops.new.out.items c.push_text-2.new.out.items c.args.version.now c.args.loops.now c.in_ok-push_bytes.ensures c.in_ok-push_text.ensures c.in_ok-push_loops.ensures c.push_text-2.ensures
