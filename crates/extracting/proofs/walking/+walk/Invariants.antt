use Rattle.std.proofs.Common.{drop}
use Rattle.plan.specs.Model.{exprs_in}
use Rattle.rewriting.specs.Routing.{routing_extract_all}
use Rattle.tables.specs.Holding.{nodes_of, view_in}
use Rattle.terms.specs.Views.{numbers_of}
use Rattle.extracting.specs.Extractors.{extractor_of}
use Rattle.extracting.specs.Owners.{owner_by}
use Rattle.extracting.proofs.Steps.{Partly}
use Rattle.extracting.proofs.walking.+walk.Given as goal

abbrev pub decreases-walk : goal.decreases-walk
decreases-walk l = l.e.0

-- what is left of the walk through the arguments goes on from the tables and the extractor as they are now
abbrev pub invariant-loop-argument : goal.invariant-loop-argument
invariant-loop-argument l =
    let t = l.fn.tables in
    let v = view_in t in
    let F = v.functions in
    let own = owner_by F (nodes_of t) l.inputs in
    let ts = exprs_in v.trees (numbers_of l.argument-items) in
    Partly t l.tables l.extractor (routing_extract_all F own ts (extractor_of v l.fn.extractor)) (routing_extract_all F own (drop l.argument-index ts) (extractor_of (view_in l.tables) l.extractor)) l.argument-items l.made l.argument-index l.same
