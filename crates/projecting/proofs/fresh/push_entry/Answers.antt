use Rattle.std.proofs.Common.{◌≡◌, ◌+◌, length, Err, inr, sym, subst, arith, rules}
use Rattle.tables.specs.Holding.{view_in}
use Rattle.projecting.proofs.Pairing.{entry-full, entry-passed, entry-pushed, entry-refused}
use Rattle.projecting.proofs.fresh.push_entry.Goals as goal
use Rattle.projecting.specs.Freshly.{PairsBy, entry_trees}

pub returns-then-not-is_of-clause-answer : goal.returns-then-not-is_of-clause-answer
returns-then-not-is_of-clause-answer c = entry-passed c.args.tables.now c.args.side c.args.entry c.args.list.now (sym c.if-not-is_of.ensures)

pub returns-then-room-eq0-clause-answer : goal.returns-then-room-eq0-clause-answer
returns-then-room-eq0-clause-answer c = inr (c.too_large.ensures, entry-full c.args.tables.now c.args.side c.args.entry (sym c.if-not-is_of.ensures) (length c.args.list.now) (omega arith))

pub returns-in_err-made-clause-answer : goal.returns-in_err-made-clause-answer
returns-in_err-made-clause-answer c =
    let t = c.args.tables.now in
    let d = c.in_err-made.field-0.0 in
    let is-err : c.from_residual.result ≡ Err d = search rules in
    subst (λ q. PairsBy t (entry_trees (view_in t) c.args.side c.args.entry) (c.args.entry.alias + 1) c.args.list.now q c.args.list.now c.aliased.new.tables) (sym is-err)
    (entry-refused t c.args.side c.args.entry (sym c.if-not-is_of.ensures) (length c.args.list.now) d (omega arith) c.in_err-made.ensures.answer)

pub returns-clause-answer : goal.returns-clause-answer
returns-clause-answer c = entry-pushed c.args.tables.now c.args.side c.args.entry (sym c.if-not-is_of.ensures) c.aliased.new.tables c.args.list.now c.push.new.self c.in_ok-made.made c.in_ok-made.ensures.answer c.push.ensures
