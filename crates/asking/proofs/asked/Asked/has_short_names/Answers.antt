use Rattle.std.proofs.Common.{◌∙◌, rules}
use Rattle.terms.specs.Views.{numbers_of}
use Rattle.tables.proofs.Lent.{short-lent}
use Rattle.asking.proofs.asked.Asked.has_short_names.Goals as goal

pub returns-in-Projection : goal.returns-in-Projection
returns-in-Projection c =
    let a = c.has_short_names.ensures ∙ short-lent c.args.self.tables.now _ c.terms.ensures (numbers_of c.in-Projection.list.now) in
    search (rules, a)
