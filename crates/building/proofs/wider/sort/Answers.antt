use Rattle.std.proofs.Common.{not, ◌&&◌, length, sym, ap, ◌∙◌}
use Rattle.std.proofs.lemmas.List.{length-map}
use Rattle.std.proofs.lemmas.Bool.{and_from}
use Rattle.plan.specs.Calls.Call.{make_sort}
use Rattle.plan.specs.Calls.{below, all_below, between}
use Rattle.tables.specs.Holding.{view_in, plan_count}
use Rattle.building.specs.Keys.{key_pair, key_pairs}
use Rattle.stored.specs.Making.{key_numbers}
use Rattle.stored.specs.declared.node.NewNode.TheVariants.{Sort}
use Rattle.building.proofs.NodeAnswers.{plan-answers}
use Rattle.building.proofs.SortFacts.{sorted-numbers, sort-makes, sort_asked}
use Rattle.building.proofs.wider.sort.Goals as goal

pub make-requires-clause-present : goal.make-requires-clause-present
make-requires-clause-present c =
    let t = c.args.tables.now in
    let e = c.as_slice.ensures ∙ c.in_ok-given.ensures.known in
    ap (λ l. below (plan_count t) c.args.input.0 && all_below (length (view_in t).trees) l) (ap key_numbers e ∙ sorted-numbers c.args.keys.now) ∙ sym c.has_sorted.ensures ∙ c.in_ok-ask.ensures

pub returns : goal.returns
returns c =
    let t = c.args.tables.now in
    let ks = c.args.keys.now in
    let few = ap (between 1 16) (length-map ks key_pair) ∙ sym c.is_count.ensures ∙ c.in_ok-ask-2.ensures in
    plan-answers t (Sort c.args.input c.as_slice.result) (make_sort c.args.input.0 (key_pairs ks)) (sort_asked t c.args.input ks)
    (sort-makes t c.args.input c.as_slice.result ks (c.as_slice.ensures ∙ c.in_ok-given.ensures.known))
    (sym c.has_sorted.ensures ∙ c.in_ok-ask.ensures, (and_from _ _ few (sym c.in_ok-given.ensures.all), (ap not (sym c.any_key_total.ensures) ∙ c.in_ok-ask-3.ensures, tt)))
    c.make.result _
    c.make.ensures.made
