use Rattle.std.proofs.Common.{◌≡◌, drop}
use Rattle.rewriting.specs.Routing.{entered}
use Rattle.terms.specs.Views.{tree_of, view_of}
use Rattle.extracting.specs.Extractors.{entries_of}
use Rattle.extracting.proofs.extractor.Extractor.entered.Given as goal

-- the alias is that of the first equal expression of those that are left
abbrev pub invariant-loop-held : goal.invariant-loop-held
invariant-loop-held l =
    let ds = entries_of (view_of l.terms) l.self in
    entered (tree_of l.terms l.e.0) ds ≡ entered (tree_of l.terms l.e.0) (drop l.held-index ds)
