use Rattle.std.proofs.Common.{sym, ap, ◌∙◌, arith}
use Rattle.std.proofs.lemmas.List.{get_or-map}
use Rattle.table.specs.Contents.{part}
use Rattle.table.proofs.Parts.{length_part}
use Rattle.entries.specs.Entries.{entry_number}
use Rattle.terms.proofs.terms.Terms.listed.Goals as goal

pub returns : goal.returns
returns c =
    let r = c.args.run in
    let es = c.args.self.now.entries in
    let x = c.entry.result in
    ap (λ e. e.0) c.read.ensures ∙ ap entry_number (c.entry.ensures x) ∙ sym (get_or-map entry_number (part es r.first r.count) c.args.i x 0 (omega (arith, length_part es r.first r.count c.requires.inside)))
