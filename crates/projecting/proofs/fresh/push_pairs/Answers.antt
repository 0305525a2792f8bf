use Rattle.std.proofs.Common.{◌≡◌, ◌+◌, ◌<◌, true, length, get_or, Err, sym, ap, subst, arith, rules}
use Rattle.tables.proofs.Begun.{tables-then}
use Rattle.tables.specs.Holding.{view_in}
use Rattle.extracting.specs.Extractors.{entry_in}
use Rattle.extracting.specs.declared.extractor.Extracted.{Extracted}
use Rattle.routing.specs.declared.owning.Side.TheVariants.{First}
use Rattle.projecting.proofs.Listing.{partly-start, tables-at-once}
use Rattle.projecting.proofs.Pairing.{inside-here, pair-refused, pair-turn, pairs-end}
use Rattle.projecting.proofs.fresh.push_pairs.Goals as goal
use Rattle.projecting.specs.Freshly.{Misfit, PairsBy, entry_trees, trees_for}
use Rattle.projecting.specs.Onto.{Onto}

abbrev blank : Extracted
blank = record { side = First; inner = record { 0 = 0 }; alias = 0 }

pub loop-entry-init : goal.loop-entry-init
loop-entry-init c =
    let t = c.args.tables.now in
    record { partly = partly-start t (trees_for (view_in t) c.args.extractor.now c.args.side) c.args.extractor.now.next c.args.list.now; begins = tables-at-once t }

pub push_entry-requires : goal.push_entry-requires
push_entry-requires c =
    let t = c.args.tables.now in
    let x = c.args.extractor.now in
    let u = c.loop-entry.tables in
    let i = c.loop-entry.entry-index in
    let e = c.entries-entry-items.ensures in
    let lt : i < length x.entries = omega (arith, c.loop-entry-test.true, ap length e) in
    record {
      inside = subst (λ l. entry_in (view_in u) (get_or l i blank) ≡ true) (sym e) (inside-here t x c.args.side c.args.list.now c.requires.inside u i c.loop-entry.list c.loop-entry.invariant.partly lt blank);
    }

pub returns-in_err-push_entry-clause-answer : goal.returns-in_err-push_entry-clause-answer
returns-in_err-push_entry-clause-answer c =
    let t = c.args.tables.now in
    let x = c.args.extractor.now in
    let u = c.loop-entry.tables in
    let i = c.loop-entry.entry-index in
    let e = c.entries-entry-items.ensures in
    let lt : i < length x.entries = omega (arith, c.loop-entry-test.true, ap length e) in
    let d = c.in_err-push_entry.field-0.0 in
    let is-err : c.from_residual.result ≡ Err d = search rules in
    subst (λ q. PairsBy t (trees_for (view_in t) x c.args.side) x.next c.args.list.now q c.push_entry.new.list c.push_entry.new.tables) (sym is-err)
    (pair-refused t x c.args.side c.args.list.now c.requires.inside u i c.loop-entry.list c.loop-entry.invariant.partly lt blank d
    (subst (λ l. Misfit u (length c.loop-entry.list) (entry_trees (view_in u) c.args.side (get_or l i blank)) d) e c.in_err-push_entry.ensures.answer))

pub loop-entry-preserved : goal.loop-entry-preserved
loop-entry-preserved c =
    let t = c.args.tables.now in
    let x = c.args.extractor.now in
    let u = c.loop-entry.tables in
    let w = c.push_entry.new.tables in
    let i = c.loop-entry.entry-index in
    let e = c.entries-entry-items.ensures in
    let lt : i < length x.entries = omega (arith, c.loop-entry-test.true, ap length e) in
    record {
      partly = pair-turn t x c.args.side c.args.list.now c.requires.inside u i c.loop-entry.list c.loop-entry.invariant.partly lt blank w c.push_entry.new.list
          (subst (λ l. Onto u (entry_trees (view_in u) c.args.side (get_or l i blank)) ((get_or l i blank).alias + 1) c.loop-entry.list c.push_entry.new.list w) e c.in_ok-push_entry.ensures.answer);
      begins = tables-then t u w c.loop-entry.invariant.begins c.in_ok-push_entry.ensures.begins;
    }

pub returns-clause-answer : goal.returns-clause-answer
returns-clause-answer c =
    let x = c.args.extractor.now in
    let i = c.loop-entry.entry-index in
    pairs-end c.args.tables.now x c.args.side c.args.list.now c.requires.inside c.loop-entry.tables i c.loop-entry.list c.loop-entry.invariant.partly (omega (arith, c.loop-entry-test.false, ap length c.entries-entry-items.ensures))
