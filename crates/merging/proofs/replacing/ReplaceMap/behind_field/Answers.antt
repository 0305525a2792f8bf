use Rattle.std.proofs.Common.{◌<◌, length, arith}
use Rattle.entries.specs.declared.node.ExprId.{ExprId}
use Rattle.terms.specs.Views.{view_of}
use Rattle.merging.proofs.Replaced.{behind-is, behind-there}
use Rattle.merging.proofs.replacing.ReplaceMap.behind_field.Goals as goal

abbrev blank : ExprId
blank = record { 0 = 0 }

pub returns-clause-tree : goal.returns-clause-tree
returns-clause-tree c =
    let lt : c.seek.result < length c.args.self.behind.now = omega (arith, c.requires.known, c.seek.ensures, c.requires.inside.counted) in
    behind-is (view_of c.args.terms.now) c.args.self c.requires.inside c.args.field c.seek.result c.seek.ensures blank lt

pub returns-clause-present : goal.returns-clause-present
returns-clause-present c =
    let lt : c.seek.result < length c.args.self.behind.now = omega (arith, c.requires.known, c.seek.ensures, c.requires.inside.counted) in
    behind-there (view_of c.args.terms.now) c.args.self c.requires.inside c.args.field c.seek.result c.seek.ensures blank lt
