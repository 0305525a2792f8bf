use Rattle.std.proofs.Common.{◌≡◌, length, lit<, ap, arith}
use Rattle.std.specs.Iterator.Adapters.{zip_first, zip_second}
use Rattle.std.specs.Slice.Iter.{iter_rest}
use Rattle.std.proofs.lemmas.Slice.Zip.{Zip-more, either_empty_from_Zip}
use Rattle.leaf_expressions.proofs.Keying.{keyed-end, keyed-start, keyed-turn}
use Rattle.leaf_expressions.proofs.sort.keys_with.Goals as goal

pub loop-key-init : goal.loop-key-init
loop-key-init c =
    let both = c.into_iter-key-iterator.ensures.into_iter_gives in
    let first : iter_rest (zip_first c.into_iter-key-iterator.result) ≡ c.args.keys.now = cc in
    let second : iter_rest (zip_second c.into_iter-key-iterator.result) ≡ c.args.by.now = cc (c.zip-key-items.ensures.second.0) in
    keyed-start c.args.keys.now c.args.by.now c.new-out.result _ _ c.new-out.ensures first second

pub push-requires : goal.push-requires
push-requires c =
    let z = Zip-more c.loop-key.key-iterator c.next.new.self c.next.result (c.in-Some.key, c.in-Some.e) c.in-Some.is c.next.ensures.steps in
    (lit< tt, omega (arith, c.loop-key.invariant.counted, ap length z.0, c.requires.few))

pub loop-key-preserved : goal.loop-key-preserved
loop-key-preserved c =
    let z = Zip-more c.loop-key.key-iterator c.next.new.self c.next.result (c.in-Some.key, c.in-Some.e) c.in-Some.is c.next.ensures.steps in
    keyed-turn c.args.keys.now c.args.by.now c.loop-key.out _ _ c.in-Some.key.now c.in-Some.e.now c.push.new.self _ _ c.loop-key.invariant z.0 z.1 c.push.ensures

pub returns : goal.returns
returns c =
    keyed-end c.args.keys.now c.args.by.now c.loop-key.out _ _ c.loop-key.invariant
    (either_empty_from_Zip c.loop-key.key-iterator c.next.new.self c.next.result c.in-None.is c.next.ensures.steps)
