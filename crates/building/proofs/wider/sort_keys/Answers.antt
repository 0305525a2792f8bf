use Rattle.std.proofs.Common.{ℕ, ◌+◌, Bool, ◌&&◌, List, [], ◌∷◌, ◌++◌, drop, is_ok, is_some, sym, ap, ◌∙◌, ap₂, arith}
use Rattle.std.proofs.lemmas.Result.{err_from_is_err_and}
use Rattle.table.proofs.Copies.{copied_more}
use Rattle.table.proofs.Loops.{mapped-step}
use Rattle.plan.specs.Calls.{direction_in}
use Rattle.plan.specs.Codes.{direction_of}
use Rattle.plan.specs.Fields.{every}
use Rattle.building.specs.Keys.{key_pair, key_pairs, sort_key}
use Rattle.stored.specs.declared.node.Key.{Key}
use Rattle.building.proofs.wider.sort_keys.Goals as goal

abbrev zero : Key
zero = record { by = record { 0 = 0 }; direction = 0 }

abbrev all : List (ℕ × ℕ) → Bool
all ks = every (λ k. is_some (direction_of k.1)) ks

pub returns-in_err-try_from-clause-all : goal.returns-in_err-try_from-clause-all
returns-in_err-try_from-clause-all c =
    let ks = c.args.keys.now in
    let rest = all (drop (c.loop-key.key-index + 1) (key_pairs ks)) in
    let err = err_from_is_err_and c.from_residual.result c.from_residual.ensures.1 in
    ap is_ok err.1 ∙ sym (c.loop-key.invariant.known ∙ mapped-step all key_pair ks c.loop-key.key-index zero c.loop-key-test.true ∙ ap (λ b. b && rest) (ap is_some c.in_err-try_from.ensures.1))

pub loop-key-preserved : goal.loop-key-preserved
loop-key-preserved c =
    let ks = c.args.keys.now in
    let rest = all (drop (c.loop-key.key-index + 1) (key_pairs ks)) in
    let of_key = c.in_ok-try_from.ensures in
    record {
      copied = copied_more sort_key [] ks c.loop-key.key-index zero _ _ (omega arith) c.loop-key.invariant.copied (c.push.ensures ∙ ap (λ k. c.loop-key.out ++ k ∷ []) (ap₂ (λ b d. record { by = b; direction = d }) of_key.0 (sym (ap direction_in of_key.1))));
      known = c.loop-key.invariant.known ∙ mapped-step all key_pair ks c.loop-key.key-index zero c.loop-key-test.true ∙ ap (λ b. b && rest) (ap is_some of_key.1);
    }
