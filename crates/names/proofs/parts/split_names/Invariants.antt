use Rattle.std.proofs.Common.{◌≡◌, ◌≤◌, true, false, map, length, drop}
use Rattle.std.specs.Slice.Iter.{split_rest, split_done}
use Rattle.plan.specs.Fields.{every}
use Rattle.names.specs.Spans.{span_in, word}
use Rattle.names.proofs.parts.split_names.Given as goal

abbrev pub invariant-loop-part : goal.invariant-loop-part
invariant-loop-part l = record {
  can_next : (goal.iterator-loop-part).can_next l.part-iterator;
  is_finite : (goal.iterator-loop-part).is_finite l.part-iterator;
  pieces : map (word l.text) l.out ≡ map (λ p. p.now) l.yielded;
  inside : every (span_in l.text) l.out ≡ true;
  ahead : split_done l.part-iterator ≡ false → (l.start ≤ length l.text) × (drop l.start l.text ≡ split_rest l.part-iterator);
}
