use Rattle.std.proofs.Common.{◌≡◌, ◌-◌, ◌≤◌, [], ◌∷◌, ◌++◌, length, take, drop}
use Rattle.plan.specs.Names.{prefix}
use Rattle.rewriting.specs.Generated.{digits_onto}
use Rattle.numbering.proofs.alias.generated.Given as goal

-- the places from here on have their digits
abbrev pub invariant-loop-place : goal.invariant-loop-place
invariant-loop-place l = record {
  low : 23 ≤ l.place;
  long : length l.alias ≡ 32;
  front : take 23 l.alias ≡ prefix ++ 95 ∷ [];
  back : digits_onto 9 l.number [] ≡ digits_onto (l.place - 23) l.rest (drop l.place l.alias);
}
