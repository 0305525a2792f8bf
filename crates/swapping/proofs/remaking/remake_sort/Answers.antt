use Rattle.std.proofs.Common.{map, length, refl, ap, ◌∙◌, arith}
use Rattle.std.proofs.lemmas.Bool.{and_parts, and_from, leb-true, lt-ltb}
use Rattle.table.proofs.Parts.{length_part}
use Rattle.plan.specs.Plans.Plan.{sort}
use Rattle.stored.specs.Keys.{key_of}
use Rattle.tables.specs.Holding.{view_in, tree_in}
use Rattle.stored.specs.Stored.{run_in}
use Rattle.stored.specs.declared.node.NewNode.TheVariants.{Sort}
use Rattle.tables.proofs.Lent.{entries-lent}
use Rattle.swapping.proofs.Remade.{keys-present, keys-copied, copy-few, made-anew}
use Rattle.swapping.proofs.remaking.remake_sort.Goals as goal

pub copied-own-requires : goal.copied-own-requires
copied-own-requires c =
    let v = view_in c.args.tables.now in
    let l = c.args.keys in
    omega (arith, ap length (entries-lent c.args.tables.now _ c.terms.ensures c.args.keys _ c.entries.ensures), length_part v.entries l.first l.count (leb-true _ _ (and_parts (run_in v.entries l) _ c.requires.list).0), leb-true _ _ c.requires.few)

pub make-requires : goal.make-requires
make-requires c =
    let v = view_in c.args.tables.now in
    let l = c.args.keys in
    let e = c.as_slice.ensures ∙ c.copied-own.ensures ∙ ap (map key_of) (entries-lent c.args.tables.now _ c.terms.ensures c.args.keys _ c.entries.ensures) in
    record {
      present = and_from _ _ (lt-ltb _ _ c.requires.input) (keys-present v l _ e c.requires.list);
      bounded = copy-few v l key_of _ e 16 (and_parts (run_in v.entries l) _ c.requires.list).0 c.requires.few;
      named = refl;
      placed = refl;
    }

pub returns : goal.returns
returns c =
    let t = c.args.tables.now in
    let e = c.as_slice.ensures ∙ c.copied-own.ensures ∙ ap (map key_of) (entries-lent c.args.tables.now _ c.terms.ensures c.args.keys _ c.entries.ensures) in
    made-anew t (Sort c.args.input c.as_slice.result) _ _ tt (ap (λ l. sort l (tree_in t c.args.input.0)) (keys-copied (view_in t) c.args.keys _ e)) refl c.make.result _ c.make.ensures.made
