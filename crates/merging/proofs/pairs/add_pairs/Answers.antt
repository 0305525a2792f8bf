use Rattle.std.proofs.Common.{◌≡◌, ◌+◌, ◌<◌, true, List, Ok, Err, length, get_or, map, sym, ap, subst, arith, rules}
use Rattle.plan.specs.Model.{exprs_in}
use Rattle.rewriting.specs.Outlay.{list_space}
use Rattle.routing.specs.declared.owning.Side.TheVariants.{First}
use Rattle.stepping.specs.Lists.{at_side}
use Rattle.tables.specs.Holding.{view_in}
use Rattle.terms.specs.Views.{numbers_of}
use Rattle.extracting.specs.Extractors.{entry_in}
use Rattle.extracting.specs.declared.extractor.Extracted.{Extracted}
use Rattle.merging.specs.Merging.{PairsMerged, pair_in, pairs_at, pairs_in}
use Rattle.merging.specs.Replacing.{map_of}
use Rattle.merging.proofs.Following.{map-inside, totals-stay}
use Rattle.merging.proofs.Gathering.{entries-end, entry-early, entry-inside, entry-next, gathered-all, gathering-none, refused, turn}
use Rattle.merging.proofs.pairs.add_pairs.Goals as goal

abbrev blank : Extracted
blank = record { side = First; inner = record { 0 = 0 }; alias = 0 }

pub loop-entry-init : goal.loop-entry-init
loop-entry-init c =
    let t = c.args.tables.now in
    gathering-none t c.args.replacing c.args.extractor.now.next (at_side (view_in t) c.args.extractor.now c.args.side) c.args.list.now c.requires.list c.requires.few

pub merge_entry-requires-clause-inside : goal.merge_entry-requires-clause-inside
merge_entry-requires-clause-inside c = map-inside c.args.tables.now c.loop-entry.tables c.loop-entry.invariant.grows c.args.replacing c.requires.inside

pub merge_entry-requires-clause-totals : goal.merge_entry-requires-clause-totals
merge_entry-requires-clause-totals c = totals-stay c.args.tables.now c.loop-entry.tables c.loop-entry.invariant.grows c.args.replacing c.requires.inside c.requires.totals

pub merge_entry-requires-clause-entry : goal.merge_entry-requires-clause-entry
merge_entry-requires-clause-entry c =
    let x = c.args.extractor.now in
    let i = c.loop-entry.entry-index in
    let e = c.entries-entry-items.ensures in
    let lt : i < length x.entries = omega (arith, c.loop-entry-test.true, ap length e) in
    subst (λ (l : List Extracted). entry_in (view_in c.loop-entry.tables) (get_or l i blank) ≡ true) (sym e) (entry-inside c.args.tables.now c.loop-entry.tables x c.args.side c.requires.extractor c.loop-entry.invariant.grows i lt blank)

pub returns-in_err-merge_entry-clause-answer : goal.returns-in_err-merge_entry-clause-answer
returns-in_err-merge_entry-clause-answer c =
    let t = c.args.tables.now in
    let u = c.loop-entry.tables in
    let m = map_of (view_in t) c.args.replacing in
    let x = c.args.extractor.now in
    let ps = at_side (view_in t) x c.args.side in
    let i = c.loop-entry.entry-index in
    let e = c.entries-entry-items.ensures in
    let lt : i < length x.entries = omega (arith, c.loop-entry-test.true, ap length e) in
    let k = c.loop-entry.invariant in
    let d = c.in_err-merge_entry.field-0.0 in
    let is-err : c.from_residual.result ≡ Err d = search rules in
    let next = entry-next t u x c.args.side c.requires.extractor k.grows i lt blank in
    subst (λ q. PairsMerged t c.args.replacing ps x.next c.args.list.now q c.merge_entry.new.list c.merge_entry.new.tables) (sym is-err)
    (refused t u c.args.replacing c.requires.inside (list_space (map (pair_in m) ps)) x.next (pairs_in m ps (exprs_in (view_in t).trees (numbers_of c.args.list.now))) _ _ _ c.loop-entry.list next k
    ((get_or x.entries i blank).alias + 1) d c.merge_entry.new.list c.merge_entry.new.tables
    (subst (λ (l : List Extracted). PairsMerged u c.args.replacing (pairs_at (view_in u) c.args.side (get_or l i blank)) ((get_or l i blank).alias + 1) c.loop-entry.list (Err d) c.merge_entry.new.list c.merge_entry.new.tables) e c.in_err-merge_entry.ensures.answer))

pub loop-entry-preserved : goal.loop-entry-preserved
loop-entry-preserved c =
    let t = c.args.tables.now in
    let u = c.loop-entry.tables in
    let m = map_of (view_in t) c.args.replacing in
    let x = c.args.extractor.now in
    let ps = at_side (view_in t) x c.args.side in
    let i = c.loop-entry.entry-index in
    let e = c.entries-entry-items.ensures in
    let lt : i < length x.entries = omega (arith, c.loop-entry-test.true, ap length e) in
    let k = c.loop-entry.invariant in
    let next = entry-next t u x c.args.side c.requires.extractor k.grows i lt blank in
    turn t u c.args.replacing c.requires.inside (list_space (map (pair_in m) ps)) x.next (pairs_in m ps (exprs_in (view_in t).trees (numbers_of c.args.list.now))) _ _ _ c.loop-entry.list next k
    ((get_or x.entries i blank).alias + 1) (entry-early t u x c.args.side c.requires.extractor k.grows i lt blank) c.merge_entry.new.list c.merge_entry.new.tables
    (subst (λ (l : List Extracted). PairsMerged u c.args.replacing (pairs_at (view_in u) c.args.side (get_or l i blank)) ((get_or l i blank).alias + 1) c.loop-entry.list (Ok tt) c.merge_entry.new.list c.merge_entry.new.tables) e c.in_ok-merge_entry.ensures.answer)
    c.in_ok-merge_entry.ensures.begins

pub returns-clause-answer : goal.returns-clause-answer
returns-clause-answer c =
    let t = c.args.tables.now in
    let m = map_of (view_in t) c.args.replacing in
    let x = c.args.extractor.now in
    let ps = at_side (view_in t) x c.args.side in
    gathered-all t c.loop-entry.tables c.args.replacing (list_space (map (pair_in m) ps)) x.next (pairs_in m ps (exprs_in (view_in t).trees (numbers_of c.args.list.now))) _ c.loop-entry.list
    (entries-end (view_in t) x c.args.side c.loop-entry.entry-index (omega (arith, c.loop-entry-test.false, ap length c.entries-entry-items.ensures))) c.loop-entry.invariant
