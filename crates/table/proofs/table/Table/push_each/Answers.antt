use Rattle.table.proofs.Pushes.{pushed_more}
use Rattle.table.proofs.table.Table.push_each.Goals as goal

pub loop-item-preserved : goal.loop-item-preserved
loop-item-preserved g c =
    pushed_more (goal.F-post g c.args.make) c.args.items.now c.loop-item.item-index c.item-item.result c.make.result c.args.self.now c.loop-item.self c.push.new.self c.loop-item-test.true c.item-item.is c.make.ensures c.push.ensures c.loop-item.invariant
