use Rattle.std.proofs.Common.{length, map, sym, ◌∙◌, ap₂, arith, rules}
use Rattle.std.proofs.lemmas.Iterator.Adapters.{serves_from_places}
use Rattle.std.proofs.lemmas.Iterator.{YieldsList-from_slice, YieldsList-from_zip}
use Rattle.std.proofs.lemmas.Iterator.Search.{all_from_yields_List}
use Rattle.std.proofs.lemmas.Bool.{ne_eqb}
use Rattle.std.proofs.lemmas.List.{length-map}
use Rattle.entries.specs.Spans.{stored_field, stored_in}
use Rattle.plan.specs.Terms.{same_field}
use Rattle.rewriting.specs.Extracting.{same_fields}
use Rattle.tables.specs.Holding.{view_in}
use Rattle.recovering.proofs.Same.{differ, pair-at, same-zipped}
use Rattle.recovering.proofs.comparing.same_fields.Goals as goal

pub all-requires-clause-callable : goal.all-requires-clause-callable
all-requires-clause-callable c =
    let p = stored_in (view_in c.args.tables.now).bytes in
    let xs = c.fields_of-left.result.now in
    let ys = c.fields_of-right.result.now in
    serves_from_places (YieldsList-from_zip {s = c.zip.result} (YieldsList-from_slice xs cc) (YieldsList-from_slice ys c.zip.ensures.second.0)) (λ x q k. search rules)
    (λ x k lt e. let h = pair-at p xs ys k x.0.now x.1.now c.fields_of-left.ensures.stored c.fields_of-right.ensures.stored lt e in search rules)

pub returns-then-left-right : goal.returns-then-left-right
returns-then-left-right c =
    let f = stored_field (view_in c.args.tables.now).bytes in
    let xs = c.fields_of-left.result.now in
    let ys = c.fields_of-right.result.now in
    all_from_yields_List (λ p. same_field (f p.0) (f p.1)) c.all.new.self _ c.all.result c.all.ensures.ran (YieldsList-from_zip {s = c.zip.result} (YieldsList-from_slice xs cc) (YieldsList-from_slice ys c.zip.ensures.second.0)) (λ x b q k. search rules)
    ∙ same-zipped f xs ys c.if-left-right.true ∙ ap₂ same_fields c.fields_of-left.ensures.value c.fields_of-right.ensures.value

pub returns-else-left-right : goal.returns-else-left-right
returns-else-left-right c =
    let f = stored_field (view_in c.args.tables.now).bytes in
    let xs = c.fields_of-left.result.now in
    let ys = c.fields_of-right.result.now in
    ne_eqb (length xs) (length ys) c.if-left-right.false
    ∙ sym (differ (map f xs) (map f ys) (λ e. c.if-left-right.false (omega (arith, e, length-map xs f, length-map ys f))))
    ∙ ap₂ same_fields c.fields_of-left.ensures.value c.fields_of-right.ensures.value
