use Rattle.std.proofs.Common.{map, length, refl, ap, ◌∙◌, ap₂, arith}
use Rattle.std.proofs.lemmas.Bool.{and_parts, and_from, leb-true, lt-ltb}
use Rattle.table.proofs.Parts.{length_part}
use Rattle.plan.specs.Plans.Plan.{aggregate}
use Rattle.entries.specs.Entries.{expr_of}
use Rattle.tables.specs.Holding.{view_in, tree_in}
use Rattle.stored.specs.Stored.{run_in}
use Rattle.stored.specs.declared.node.NewNode.TheVariants.{Aggregate}
use Rattle.tables.proofs.Lent.{entries-lent}
use Rattle.swapping.proofs.Remade.{exprs-present, exprs-copied, copy-few, made-anew}
use Rattle.swapping.proofs.remaking.remake_aggregate.Goals as goal

pub copied-by-requires : goal.copied-by-requires
copied-by-requires c =
    let v = view_in c.args.tables.now in
    let l = c.args.groups in
    omega (arith, ap length (entries-lent c.args.tables.now _ c.terms.ensures c.args.groups _ c.entries.ensures), length_part v.entries l.first l.count (leb-true _ _ (and_parts (run_in v.entries l) _ c.requires.groups).0), leb-true _ _ c.requires.few.0)

pub copied-of-requires : goal.copied-of-requires
copied-of-requires c =
    let v = view_in c.args.tables.now in
    let l = c.args.totals in
    omega (arith, ap length (entries-lent c.args.tables.now _ c.terms-2.ensures c.args.totals _ c.entries-2.ensures), length_part v.entries l.first l.count (leb-true _ _ (and_parts (run_in v.entries l) _ c.requires.totals).0), leb-true _ _ c.requires.few.1)

pub make-requires : goal.make-requires
make-requires c =
    let v = view_in c.args.tables.now in
    let gs = c.args.groups in
    let us = c.args.totals in
    let a = c.as_slice.ensures ∙ c.copied-by.ensures ∙ ap (map expr_of) (entries-lent c.args.tables.now _ c.terms.ensures c.args.groups _ c.entries.ensures) in
    let b = c.as_slice-2.ensures ∙ c.copied-of.ensures ∙ ap (map expr_of) (entries-lent c.args.tables.now _ c.terms-2.ensures c.args.totals _ c.entries-2.ensures) in
    record {
      present = and_from _ _ (lt-ltb _ _ c.requires.input) (and_from _ _ (exprs-present v gs _ a c.requires.groups) (exprs-present v us _ b c.requires.totals));
      bounded = and_from _ _ (copy-few v gs expr_of _ a 16 (and_parts (run_in v.entries gs) _ c.requires.groups).0 c.requires.few.0) (copy-few v us expr_of _ b 16 (and_parts (run_in v.entries us) _ c.requires.totals).0 c.requires.few.1);
      named = refl;
      placed = refl;
    }

pub returns : goal.returns
returns c =
    let t = c.args.tables.now in
    let a = c.as_slice.ensures ∙ c.copied-by.ensures ∙ ap (map expr_of) (entries-lent c.args.tables.now _ c.terms.ensures c.args.groups _ c.entries.ensures) in
    let b = c.as_slice-2.ensures ∙ c.copied-of.ensures ∙ ap (map expr_of) (entries-lent c.args.tables.now _ c.terms-2.ensures c.args.totals _ c.entries-2.ensures) in
    made-anew t (Aggregate c.args.input c.as_slice.result c.as_slice-2.result) _ _ tt
    (ap₂ (λ g u. aggregate g u (tree_in t c.args.input.0)) (exprs-copied (view_in t) c.args.groups _ a) (exprs-copied (view_in t) c.args.totals _ b)) refl c.make.result _ c.make.ensures.made
