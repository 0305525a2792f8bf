use Rattle.std.proofs.Common.{◌≡◌, map, take, drop, is_some}
use Rattle.plan.specs.Codes.{direction_of}
use Rattle.plan.specs.Fields.{every}
use Rattle.building.specs.Keys.{key_pairs, sort_key}
use Rattle.building.proofs.wider.sort_keys.Given as goal

abbrev pub invariant-loop-key : goal.invariant-loop-key
invariant-loop-key l = record {
  copied : l.out ≡ map sort_key (take l.key-index l.keys);
  known : every (λ k. is_some (direction_of k.1)) (key_pairs l.keys) ≡ every (λ k. is_some (direction_of k.1)) (drop l.key-index (key_pairs l.keys));
}
