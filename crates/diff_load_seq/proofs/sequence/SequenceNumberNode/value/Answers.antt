use Rattle.std.proofs.Common.{◌<◌, ◌^◌, ◌∙◌, ap, length, rules}
use Rattle.diff_load_seq.specs.Parts.{joined}
use Rattle.diff_load_seq.specs.Levels.{excesses}
use Rattle.diff_load_seq.proofs.WindowLemmas.{windows_value}
use Rattle.diff_load_seq.proofs.sequence.SequenceNumberNode.value.Goals as goal

pub returns : goal.returns
returns c =
    let short : length c.args.self.now.numbers.items < 2 ^ 63 = search rules in
    c.total.ensures ∙ ap (λ windows. joined (excesses windows)) c.requires.0
    ∙ windows_value c.args.self.now.values c.args.self.now.most c.args.self.now.window c.args.self.now.numbers.items short
