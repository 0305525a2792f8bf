use Rattle.std.proofs.Common.{sym, ◌∙◌}
use Rattle.merging.proofs.Gathering.{left-out, taken-in}
use Rattle.merging.proofs.pairs.merge_entry.Goals as goal

pub returns-then-not-is_same-clause-answer : goal.returns-then-not-is_same-clause-answer
returns-then-not-is_same-clause-answer c =
    left-out c.args.tables.now c.args.replacing c.args.side c.args.entry c.args.list.now c.requires.list (sym c.is_same.ensures ∙ c.if-not-is_same.true) c.requires.few

pub returns-clause-answer : goal.returns-clause-answer
returns-clause-answer c =
    taken-in c.args.tables.now c.args.replacing c.args.side c.args.entry c.args.list.now c.requires.list c.merge_pair.result c.merge_pair.new.list c.merge_pair.new.tables (sym c.is_same.ensures ∙ c.if-not-is_same.false) c.merge_pair.ensures.answer
