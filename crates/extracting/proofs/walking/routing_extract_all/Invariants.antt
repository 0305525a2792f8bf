use Rattle.std.proofs.Common.{not, drop}
use Rattle.plan.specs.Model.{exprs_in}
use Rattle.rewriting.specs.Routing.{routing_extract_all}
use Rattle.tables.specs.Holding.{nodes_of, view_in}
use Rattle.terms.specs.Views.{numbers_of}
use Rattle.extracting.specs.Columns.{Columned, columns_by}
use Rattle.extracting.specs.Extractors.{extractor_of, needs_of}
use Rattle.extracting.specs.Owners.{owner_by}
use Rattle.extracting.proofs.Steps.{Partly}
use Rattle.extracting.proofs.walking.routing_extract_all.Given as goal

abbrev pub invariant-loop-e : goal.invariant-loop-e
invariant-loop-e l =
    let t = l.fn.tables in
    let v = view_in t in
    let F = v.functions in
    let own = owner_by F (nodes_of t) l.inputs in
    let ts = exprs_in v.trees (numbers_of l.list) in
    record {
      partly : Partly t l.tables l.extractor (routing_extract_all F own ts (extractor_of v l.fn.extractor)) (routing_extract_all F own (drop l.e-index ts) (extractor_of (view_in l.tables) l.extractor)) l.list l.made l.e-index (not l.extractor.is_new);
      columns : Columned (columns_by (view_in l.tables).functions (nodes_of l.tables) l.inputs) (needs_of (view_in l.tables) l.extractor);
    }
