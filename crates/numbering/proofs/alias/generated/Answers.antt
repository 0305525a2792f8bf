use Rattle.std.proofs.Common.{◌∙◌, arith, length-set}
use Rattle.numbering.proofs.Digits.{all-written, digit-written, front-kept}
use Rattle.numbering.proofs.alias.generated.Goals as goal

pub loop-place-preserved : goal.loop-place-preserved
loop-place-preserved c =
    let l = c.loop-place in
    record {
      low = omega arith;
      long = length-set l.alias _ _ ∙ l.invariant.long;
      front = front-kept l.place _ l.alias c.loop-place-test.true l.invariant.front;
      back = l.invariant.back ∙ digit-written l.place l.rest l.alias c.loop-place-test.true (omega arith);
    }

pub returns : goal.returns
returns c =
    let l = c.loop-place in
    all-written l.place l.rest c.args.number l.alias (omega arith) l.invariant.front l.invariant.back
