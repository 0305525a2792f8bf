use Rattle.std.proofs.Common.{not, map, length, refl, ap, ◌∙◌, arith}
use Rattle.std.proofs.lemmas.Bool.{and_parts, and_from, leb-true, lt-ltb}
use Rattle.table.proofs.Parts.{length_part}
use Rattle.plan.specs.Fields.{any}
use Rattle.plan.specs.Functions.{is_total}
use Rattle.plan.specs.Plans.Plan.{projection}
use Rattle.entries.specs.Entries.{expr_of}
use Rattle.tables.specs.Holding.{view_in, tree_in}
use Rattle.stored.specs.Stored.{run_in}
use Rattle.stored.specs.declared.node.NewNode.TheVariants.{Projection}
use Rattle.tables.proofs.Lent.{entries-lent}
use Rattle.swapping.proofs.Remade.{exprs-present, exprs-copied, copy-few, made-anew}
use Rattle.swapping.proofs.remaking.remake_projection.Goals as goal

pub copied-own-requires : goal.copied-own-requires
copied-own-requires c =
    let v = view_in c.args.tables.now in
    let l = c.args.list in
    omega (arith, ap length (entries-lent c.args.tables.now _ c.terms.ensures c.args.list _ c.entries.ensures), length_part v.entries l.first l.count (leb-true _ _ (and_parts (run_in v.entries l) _ c.requires.list).0), leb-true _ _ c.requires.few)

pub make-requires : goal.make-requires
make-requires c =
    let v = view_in c.args.tables.now in
    let l = c.args.list in
    let e = c.as_slice.ensures ∙ c.copied-own.ensures ∙ ap (map expr_of) (entries-lent c.args.tables.now _ c.terms.ensures c.args.list _ c.entries.ensures) in
    record {
      present = and_from _ _ (lt-ltb _ _ c.requires.input) (exprs-present v l _ e c.requires.list);
      bounded = copy-few v l expr_of _ e 64 (and_parts (run_in v.entries l) _ c.requires.list).0 c.requires.few;
      named = refl;
      placed = ap (λ es. not (any (is_total v.functions) es)) (exprs-copied v l _ e) ∙ c.requires.placed;
    }

pub returns : goal.returns
returns c =
    let t = c.args.tables.now in
    let e = c.as_slice.ensures ∙ c.copied-own.ensures ∙ ap (map expr_of) (entries-lent c.args.tables.now _ c.terms.ensures c.args.list _ c.entries.ensures) in
    made-anew t (Projection c.args.input c.as_slice.result) _ _ tt (ap (λ l. projection l (tree_in t c.args.input.0)) (exprs-copied (view_in t) c.args.list _ e)) refl c.make.result _ c.make.ensures.made
