use Rattle.std.proofs.Common.{length, refl, ap, ◌∙◌, arith}
use Rattle.std.proofs.lemmas.Bool.{lt-ltb}
use Rattle.plan.specs.Names.{good_name}
use Rattle.plan.specs.Plans.Plan.{subquery_alias}
use Rattle.names.specs.Spans.{word}
use Rattle.terms.proofs.Bounds.{name-short}
use Rattle.tables.specs.Holding.{view_in, tree_in}
use Rattle.stored.specs.declared.node.NewNode.TheVariants.{SubqueryAlias}
use Rattle.tables.proofs.Lent.{word-lent}
use Rattle.swapping.proofs.Remade.{made-anew}
use Rattle.swapping.proofs.remaking.remake_alias.Goals as goal

pub copy_name-own-requires : goal.copy_name-own-requires
copy_name-own-requires c = omega (arith, ap length (word-lent c.args.tables.now _ c.terms.ensures c.args.name _ c.word.ensures), name-short (word (view_in c.args.tables.now).bytes c.args.name) c.requires.good)

pub make-requires : goal.make-requires
make-requires c =
    record { present = lt-ltb _ _ c.requires.input; bounded = refl; named = ap good_name (c.as_slice.ensures ∙ c.copy_name-own.ensures ∙ (word-lent c.args.tables.now _ c.terms.ensures c.args.name _ c.word.ensures)) ∙ c.requires.good; placed = refl }

pub returns : goal.returns
returns c =
    let t = c.args.tables.now in
    made-anew t (SubqueryAlias c.args.input c.as_slice.result) _ _ tt
    (ap (λ n. subquery_alias n (tree_in t c.args.input.0)) (c.as_slice.ensures ∙ c.copy_name-own.ensures ∙ (word-lent c.args.tables.now _ c.terms.ensures c.args.name _ c.word.ensures))) refl c.make.result _ c.make.ensures.made
