use Rattle.std.proofs.Common.{sym, ap, ◌∙◌}
use Rattle.tables.specs.Holding.{fields_at, tree_in, trees_in, view_in}
use Rattle.stored.specs.Stored.{build_plan_node}
use Rattle.reporting.specs.Reporting.{Reads, is_projection, is_report}
use Rattle.reporting.proofs.Reading.{absent, absent-below, no-filter, no-projection, refused-read}
use Rattle.reporting.proofs.report_of.Goals as goal

pub returns-clause-there : goal.returns-clause-there
returns-clause-there c =
    let t = c.args.book.now.tables in
    let outer = c.in_ok-projection.ensures.node ∙ ap (build_plan_node (view_in t) (fields_at t c.args.p.0) (trees_in t)) c.in-Filter.is in
    let inner = c.in_ok-input.ensures.node ∙ ap (build_plan_node (view_in t) (fields_at t c.in-Filter.projection.0) (trees_in t)) c.in-Projection.is in
    sym (ap is_report outer ∙ ap is_projection inner)

pub returns-in_default-2 : goal.returns-in_default-2
returns-in_default-2 c =
    let t = c.args.book.now.tables in
    let q = c.in-Filter.projection.0 in
    let outer = c.in_ok-projection.ensures.node ∙ ap (build_plan_node (view_in t) (fields_at t c.args.p.0) (trees_in t)) c.in-Filter.is in
    let none = ap is_projection c.in_ok-input.ensures.node ∙ no-projection (view_in t) (fields_at t q) (trees_in t) c.in_ok-input.field-0 c.in_default-2.not-Projection in
    record { there = sym (ap is_report outer ∙ none); read = tt }

pub returns-in_default : goal.returns-in_default
returns-in_default c =
    let t = c.args.book.now.tables in
    let none = ap is_report c.in_ok-projection.ensures.node ∙ no-filter (view_in t) (fields_at t c.args.p.0) (trees_in t) c.in_ok-projection.field-0 c.in_default.not-Filter in
    record { there = sym none; read = tt }

pub returns-in_err-projection : goal.returns-in_err-projection
returns-in_err-projection c =
    let b = c.args.book.now in
    let p = c.args.p.0 in
    let both = refused-read (Reads b p) (is_report (tree_in b.tables p)) c.from_residual.result c.from_residual.ensures.0 (absent b p (sym c.in_err-projection.ensures.there)) in
    record { there = both.0; read = both.1 }

pub returns-in_err-input : goal.returns-in_err-input
returns-in_err-input c =
    let b = c.args.book.now in
    let p = c.args.p.0 in
    let t = b.tables in
    let outer = c.in_ok-projection.ensures.node ∙ ap (build_plan_node (view_in t) (fields_at t p) (trees_in t)) c.in-Filter.is in
    let none = ap is_report outer ∙ absent-below b c.in-Filter.projection.0 (sym c.in_err-input.ensures.there) in
    let both = refused-read (Reads b p) (is_report (tree_in t p)) c.from_residual-in_err-input.result c.from_residual-in_err-input.ensures.0 none in
    record { there = both.0; read = both.1 }
