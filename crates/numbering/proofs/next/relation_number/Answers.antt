use Rattle.std.proofs.Common.{min, sym, ap, ◌∙◌}
use Rattle.lexicon.specs.Lexicon.{text_of}
use Rattle.names.specs.Spans.{word}
use Rattle.names.specs.declared.TheConstants.{NUMBER_CAP}
use Rattle.numbering.specs.Own.{capped, relation_names}
use Rattle.numbering.proofs.Capped.{capped-nameless, capped-one}
use Rattle.plan.specs.Names.{number_of}
use Rattle.tables.specs.Holding.{fields_at, trees_in, view_in}
use Rattle.stored.specs.Stored.{build_plan_node}
use Rattle.numbering.proofs.next.relation_number.Goals as goal

pub returns-in-Table : goal.returns-in-Table
returns-in-Table c =
    let t = c.args.tables.now in
    let q = c.in-Table.qualifier in
    c.number_of.ensures ∙ ap (λ n. min (number_of n) NUMBER_CAP) (c.word.ensures ∙ ap (λ s. word (text_of s.lexicon) q) c.terms.ensures)
    ∙ capped-one (word (view_in t).bytes q) ∙ sym (ap (λ p. capped (relation_names p)) (c.record_of.ensures.tree ∙ ap (build_plan_node (view_in t) (fields_at t c.args.p.0) (trees_in t)) c.in-Table.is))

pub returns-in-SubqueryAlias : goal.returns-in-SubqueryAlias
returns-in-SubqueryAlias c =
    let t = c.args.tables.now in
    let s = c.in-SubqueryAlias.name in
    c.number_of-in-SubqueryAlias.ensures ∙ ap (λ n. min (number_of n) NUMBER_CAP) (c.word-in-SubqueryAlias.ensures ∙ ap (λ x. word (text_of x.lexicon) s) c.terms-in-SubqueryAlias.ensures)
    ∙ capped-one (word (view_in t).bytes s) ∙ sym (ap (λ p. capped (relation_names p)) (c.record_of.ensures.tree ∙ ap (build_plan_node (view_in t) (fields_at t c.args.p.0) (trees_in t)) c.in-SubqueryAlias.is))

pub returns-in_default : goal.returns-in_default
returns-in_default c =
    let t = c.args.tables.now in
    capped-nameless (view_in t) (fields_at t c.args.p.0) (trees_in t) c.record_of.result.node c.in_default.not-Table c.in_default.not-SubqueryAlias ∙ sym (ap (λ p. capped (relation_names p)) c.record_of.ensures.tree)
