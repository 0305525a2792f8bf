use Rattle.std.proofs.Common.{◌≡◌, true, ◌&&◌, leb, [], map, length, sum_by, sym, ap, ◌∙◌, subst, arith, rules}
use Rattle.std.proofs.lemmas.List.{length-map}
use Rattle.std.proofs.lemmas.Bool.{and_parts, leb-true}
use Rattle.plan.specs.Names.{good_name}
use Rattle.plan.specs.Fields.{every}
use Rattle.plan.specs.Model.{expr_in}
use Rattle.plan.specs.Calls.{below, all_below, parts, rendered_bytes}
use Rattle.terms.specs.Views.{numbers_of}
use Rattle.entries.specs.declared.node.PlanId.{PlanId}
use Rattle.tables.specs.Holding.{view_in, trees_in, plan_count}
use Rattle.stored.specs.Making.{bounded, well_named}
use Rattle.tables.specs.Making.{present}
use Rattle.stored.specs.declared.node.NewNode.TheVariants.{Table, Projection, Aggregate, SubqueryAlias, Union}
use Rattle.tables.proofs.Lent.{present-lent, fields-lent}
use Rattle.asking.proofs.Draftings.{for-new, stored-draft, owned-draft, bare-draft, exprs-draft, lists-draft, exprs-length, table-draft, names-short, first_below, union-fields, union-shown}
use Rattle.asking.proofs.asked.Asked.draft_shown.Goals as goal

abbrev zero : PlanId
zero = record { 0 = 0 }

pub split_names-requires : goal.split_names-requires
split_names-requires c =
    let q = c.in-Table.qualifier in
    let ns = c.in-Table.names in
    let b = leb-true _ _ (subst (λ n. bounded n ≡ true) c.in-Table.is c.args.self.bounded) in
    let w = and_parts (good_name q.now) (every good_name (parts ns.now)) (subst (λ n. well_named n ≡ true) c.in-Table.is c.args.self.named) in
    record { few = b; empty = c.new-pieces.ensures; short = names-short ns.now w.1 b }

pub push_expressions-requires-in-Aggregate-2 : goal.push_expressions-requires-in-Aggregate-2
push_expressions-requires-in-Aggregate-2 c =
    let t = c.args.self.tables.now in
    let v = view_in t in
    let i = c.in-Aggregate.input in
    let gs = c.in-Aggregate.groups.now in
    let us = c.in-Aggregate.totals.now in
    let p = and_parts (below (plan_count t) i.0) (all_below (length v.trees) (numbers_of gs) && all_below (length v.trees) (numbers_of us)) (subst (λ n. present t n ≡ true) c.in-Aggregate.is c.args.self.present) in
    let q = and_parts (all_below (length v.trees) (numbers_of gs)) (all_below (length v.trees) (numbers_of us)) p.1 in
    let b = and_parts (leb (length gs) 16) (leb (length us) 16) (subst (λ n. bounded n ≡ true) c.in-Aggregate.is c.args.self.bounded) in
    record {
      present = present-lent t _ c.terms-in-Aggregate-2.ensures (numbers_of us) q.1;
      room = omega (arith, exprs-length v [] [] _ _ _ (fields-lent t _ c.terms-in-Aggregate.ensures (numbers_of gs) _ _ c.push_expressions-in-Aggregate.ensures) c.requires, length-map (numbers_of gs) (expr_in v.trees), length-map gs (λ e. e.0), leb-true _ _ b.0, leb-true _ _ b.1);
    }

pub fields_of-requires-in-Union : goal.fields_of-requires-in-Union
fields_of-requires-in-Union c =
    let t = c.args.self.tables.now in
    let is = c.in-Union.inputs.now in
    let b = and_parts (leb 1 (length is)) (leb (length is) 8) (subst (λ n. bounded n ≡ true) c.in-Union.is c.args.self.bounded) in
    first_below (plan_count t) is zero (leb-true _ _ b.0) (subst (λ n. present t n ≡ true) c.in-Union.is c.args.self.present)

pub returns-in-Table : goal.returns-in-Table
returns-in-Table c =
    let t = c.args.self.tables.now in
    let q = c.in-Table.qualifier in
    let ns = c.in-Table.names in
    let s = c.as_slice.ensures in
    for-new t c.args.self.node (Table q ns) _ c.in-Table.is
    (table-draft (view_in t) q.now ns.now c.as_slice.result.now _ _ c.requires c.push_columns.ensures (ap (map _) s ∙ c.split_names.ensures.pieces) (ap (every _) s ∙ c.split_names.ensures.inside))

pub returns-in-Projection : goal.returns-in-Projection
returns-in-Projection c =
    let t = c.args.self.tables.now in
    for-new t c.args.self.node (Projection c.in-Projection.input c.in-Projection.list) _ c.in-Projection.is
    (exprs-draft (view_in t) [] [] _ _ _ (fields-lent t _ c.terms.ensures (numbers_of c.in-Projection.list.now) _ _ c.push_expressions.ensures) c.requires)

pub returns-in-Filter : goal.returns-in-Filter
returns-in-Filter c =
    let t = c.args.self.tables.now in
    let d = stored-draft (view_in t) [] [] _ _ c.fields_of-in-Filter.ensures.value c.fields_of-in-Filter.ensures.stored _ _ c.requires c.push_stored.ensures in
    search (rules, d)

pub returns-in-Aggregate : goal.returns-in-Aggregate
returns-in-Aggregate c =
    let t = c.args.self.tables.now in
    for-new t c.args.self.node (Aggregate c.in-Aggregate.input c.in-Aggregate.groups c.in-Aggregate.totals) _ c.in-Aggregate.is
    (lists-draft (view_in t) [] [] _ _ _ _ _ c.requires (fields-lent t _ c.terms-in-Aggregate.ensures (numbers_of c.in-Aggregate.groups.now) _ _ c.push_expressions-in-Aggregate.ensures) (fields-lent t _ c.terms-in-Aggregate-2.ensures (numbers_of c.in-Aggregate.totals.now) _ _ c.push_expressions-in-Aggregate-2.ensures))

pub returns-in-SubqueryAlias : goal.returns-in-SubqueryAlias
returns-in-SubqueryAlias c =
    let t = c.args.self.tables.now in
    for-new t c.args.self.node (SubqueryAlias c.in-SubqueryAlias.input c.in-SubqueryAlias.name) _ c.in-SubqueryAlias.is
    (owned-draft (view_in t) c.in-SubqueryAlias.name.now [] _ _ c.fields_of.ensures.value c.fields_of.ensures.stored _ _ c.requires c.push_owned.ensures)

pub returns-in-Union : goal.returns-in-Union
returns-in-Union c =
    let t = c.args.self.tables.now in
    let is = c.in-Union.inputs in
    let b = and_parts (leb 1 (length is.now)) (leb (length is.now) 8) (subst (λ n. bounded n ≡ true) c.in-Union.is c.args.self.bounded) in
    let d = bare-draft (view_in t) [] [] _ _ c.fields_of-in-Union.ensures.value c.fields_of-in-Union.ensures.stored _ _ c.requires c.push_bare.ensures in
    for-new t c.args.self.node (Union is) _ c.in-Union.is
    (record {
      fields = d.fields ∙ sym (union-fields (view_in t).functions (trees_in t) is.now zero (leb-true _ _ b.0));
      inside = d.inside;
      bytes = d.bytes ∙ sym (ap (sum_by (rendered_bytes (view_in t).functions)) (union-shown _));
    })
