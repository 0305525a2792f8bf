use Rattle.std.proofs.Common.{◌≡◌, ◌++◌, map, length, ap, ◌∙◌, sym, arith, length-append}
use Rattle.std.proofs.lemmas.List.{length-map}
use Rattle.std.proofs.lemmas.Bool.{le-leb}
use Rattle.table.specs.Contents.{part}
use Rattle.table.proofs.Parts.{part-added}
use Rattle.terms.specs.Views.{view_of}
use Rattle.stored.proofs.placing.put.Goals as goal

pub returns-clause-listed : goal.returns-clause-listed
returns-clause-listed g c =
    let v = view_of c.args.terms.now in
    let w = view_of c.list.new.self in
    let es = map g.T.Listed.entry c.args.items.now in
    let r = c.list.result in
    let e : w.entries ≡ v.entries ++ es = ap (λ x. x.entries) c.list.ensures.view in
    let n : r.count ≡ length es = c.list.ensures.count ∙ sym (length-map c.args.items.now g.T.Listed.entry) in
    record {
      view = c.list.ensures.view;
      run = le-leb _ _ (omega (arith, ap length e, length-append v.entries es, n, c.list.ensures.first));
      count = n;
      list = ap (part w.entries r.first) n ∙ part-added v.entries es w.entries r.first e c.list.ensures.first;
    }
