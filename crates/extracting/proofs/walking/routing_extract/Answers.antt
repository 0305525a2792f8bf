use Rattle.plan.specs.Model.{expr_in}
use Rattle.tables.specs.Holding.{view_in}
use Rattle.extracting.proofs.Columning.{needed-few, still-columned}
use Rattle.extracting.proofs.walking.routing_extract.Goals as goal

pub walk-requires-clause-needed : goal.walk-requires-clause-needed
walk-requires-clause-needed c =
    let t = c.args.tables.now in
    needed-few t c.args.inputs (expr_in (view_in t).trees c.args.e.0) c.args.extractor.now c.requires.columns c.requires.inputs

pub returns-clause-columns : goal.returns-clause-columns
returns-clause-columns c =
    let t = c.args.tables.now in
    still-columned t c.args.inputs (expr_in (view_in t).trees c.args.e.0) c.args.extractor.now c.requires.columns c.walk.new.tables c.walk.new.extractor c.walk.result c.walk.ensures.answer
