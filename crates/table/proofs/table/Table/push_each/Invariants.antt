use Rattle.std.proofs.Common.{◌≡◌, ◌+◌, length, take}
use Rattle.table.specs.Contents.{Pushed}
use Rattle.table.proofs.table.Table.push_each.Given as goal

abbrev pub invariant-loop-item : goal.invariant-loop-item
invariant-loop-item g l =
    (length l.self ≡ length l.initial.self + l.item-index) × Pushed (goal.F-post g l.make) (take l.item-index l.items) l.initial.self l.self
