use Rattle.std.proofs.Common.{ℕ, ◌++◌, length, sym, ap, ◌∙◌, arith, length-append}
use Rattle.std.proofs.lemmas.List.{length-map}
use Rattle.plan.specs.Calls.{parts}
use Rattle.plan.specs.Model.{exprs_in}
use Rattle.plan.specs.Plans.{fields_of}
use Rattle.plan.specs.Rendering.{field_of}
use Rattle.terms.specs.Views.{numbers_of}
use Rattle.tables.specs.Holding.{view_in}
use Rattle.tables.specs.Making.{tree_for}
use Rattle.stored.specs.declared.node.NewNode.{NewNode}
use Rattle.tables.specs.declared.tables.Tables.{Tables}
use Rattle.asking.proofs.NodeFacts.{table-few, projection-few, aggregate-few, exprs-length}
use Rattle.asking.proofs.asked.Asked.width.Goals as goal

abbrev width_for : Tables → NewNode → ℕ
width_for t n = length (fields_of (view_in t).functions (tree_for t n))

pub returns-in-Table : goal.returns-in-Table
returns-in-Table c =
    record {
      value = c.count_names.ensures ∙ sym (ap (width_for c.args.self.tables.now) c.in-Table.is ∙ length-map (parts c.in-Table.names.now) _);
      bound = omega (arith, c.count_names.ensures, table-few c.args.self.node c.args.self.bounded _ _ c.in-Table.is);
    }

pub returns-in-Projection : goal.returns-in-Projection
returns-in-Projection c =
    let t = c.args.self.tables.now in
    let l = c.in-Projection.list.now in
    record {
      value = sym (ap (width_for t) c.in-Projection.is ∙ length-map (exprs_in (view_in t).trees (numbers_of l)) (field_of (view_in t).functions) ∙ exprs-length (view_in t).trees l);
      bound = omega (arith, projection-few c.args.self.node c.args.self.bounded _ _ c.in-Projection.is);
    }

pub returns-in-Aggregate : goal.returns-in-Aggregate
returns-in-Aggregate c =
    let t = c.args.self.tables.now in
    let gs = c.in-Aggregate.groups.now in
    let us = c.in-Aggregate.totals.now in
    let xs = exprs_in (view_in t).trees (numbers_of gs) in
    let ys = exprs_in (view_in t).trees (numbers_of us) in
    let few = aggregate-few c.args.self.node c.args.self.bounded _ _ _ c.in-Aggregate.is in
    record {
      value = omega (arith, ap (width_for t) c.in-Aggregate.is ∙ length-map (xs ++ ys) (field_of (view_in t).functions), length-append xs ys, exprs-length (view_in t).trees gs, exprs-length (view_in t).trees us);
      bound = omega (arith, few.0, few.1);
    }
