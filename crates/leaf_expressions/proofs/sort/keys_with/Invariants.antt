use Rattle.std.specs.Iterator.Adapters.{zip_first, zip_second}
use Rattle.std.specs.Slice.Iter.{iter_rest}
use Rattle.leaf_expressions.proofs.Keying.{Keyed}
use Rattle.leaf_expressions.proofs.sort.keys_with.Given as goal

abbrev pub invariant-loop-key : goal.invariant-loop-key
invariant-loop-key l = Keyed l.fn.keys l.fn.by l.out (iter_rest (zip_first l.key-iterator)) (iter_rest (zip_second l.key-iterator))
