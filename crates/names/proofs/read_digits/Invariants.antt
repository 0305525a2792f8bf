use Rattle.std.proofs.Common.{◌≡◌, ◌≤◌, drop}
use Rattle.names.specs.declared.TheConstants.{NUMBER_CAP}
use Rattle.names.proofs.Bytes.{read_capped}
use Rattle.names.proofs.read_digits.Given as goal

abbrev pub invariant-loop-c : goal.invariant-loop-c
invariant-loop-c l = (l.n ≤ NUMBER_CAP) × (read_capped NUMBER_CAP 0 l.text ≡ read_capped NUMBER_CAP l.n (drop l.c-index l.text))
