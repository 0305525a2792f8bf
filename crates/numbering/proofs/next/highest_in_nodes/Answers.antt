use Rattle.std.proofs.Common.{map, ap, ◌∙◌, arith}
use Rattle.lexicon.specs.Lexicon.{text_of}
use Rattle.numbering.specs.Own.{capped, names_in}
use Rattle.numbering.proofs.Capped.{capped-none, node-turn, tree-of-node}
use Rattle.tables.specs.Holding.{nodes_of, tree_in, view_in}
use Rattle.entries.specs.Spans.{stored_field}
use Rattle.numbering.proofs.next.highest_in_nodes.Goals as goal

pub loop-i-init : goal.loop-i-init
loop-i-init c = capped-none

pub loop-i-preserved : goal.loop-i-preserved
loop-i-preserved c =
    let t = c.args.tables.now in
    let fields = c.highest_in_fields.ensures ∙ ap (λ s. capped (names_in (map (stored_field (text_of s.lexicon)) c.fields_of.result.now))) c.terms.ensures ∙ ap (λ fs. capped (names_in fs)) c.fields_of.ensures.value in
    node-turn (view_in t).functions (nodes_of t) c.loop-i.i c.loop-i.highest c.highest_in_fields.result c.relation_number.result c.max-highest.result (tree_in t c.loop-i.i) (omega (arith, c.loop-i-test.true, c.len-i-end.ensures.value)) (tree-of-node (nodes_of t) c.loop-i.i) c.loop-i.invariant fields c.relation_number.ensures (omega arith)
