use Rattle.std.proofs.Common.{◌≡◌, ◌+◌, ◌-◌, ◌*◌, min, Some, drop, get_or, sym, ap, ◌∙◌, arith}
use Rattle.std.proofs.lemmas.List.{at_drop_more, at_drop_all}
use Rattle.names.specs.declared.TheConstants.{NUMBER_CAP}
use Rattle.names.proofs.Bytes.{read_capped, read_digit, read_other}
use Rattle.names.proofs.read_digits.Goals as goal

pub returns-then-not-is_ascii_digit : goal.returns-then-not-is_ascii_digit
returns-then-not-is_ascii_digit c =
    let xs = c.args.text.now in
    let i = c.loop-c.c-index in
    sym (c.loop-c.invariant.1 ∙ at_drop_more (read_capped NUMBER_CAP c.loop-c.n) xs i 0 c.loop-c-test.true
    ∙ read_other NUMBER_CAP c.loop-c.n (get_or xs i 0) (drop (i + 1) xs) (sym c.is_ascii_digit.ensures.value ∙ c.if-not-is_ascii_digit.true))

pub loop-c-preserved : goal.loop-c-preserved
loop-c-preserved c =
    let xs = c.args.text.now in
    let i = c.loop-c.c-index in
    let v : c.min-n.result ≡ min (c.loop-c.n * 10 + (get_or xs i 0 - 48)) NUMBER_CAP = omega arith in (
      omega arith,
      c.loop-c.invariant.1 ∙ at_drop_more (read_capped NUMBER_CAP c.loop-c.n) xs i 0 c.loop-c-test.true
          ∙ read_digit NUMBER_CAP c.loop-c.n (get_or xs i 0) (drop (i + 1) xs) (sym c.is_ascii_digit.ensures.value ∙ c.if-not-is_ascii_digit.false)
          ∙ ap (λ n. read_capped NUMBER_CAP n (drop (i + 1) xs)) (sym v),
    )

pub returns : goal.returns
returns c =
    let e : min c.loop-c.n NUMBER_CAP ≡ c.loop-c.n = omega arith in
    sym (c.loop-c.invariant.1 ∙ at_drop_all (read_capped NUMBER_CAP c.loop-c.n) c.args.text.now c.loop-c.c-index c.loop-c-test.false ∙ ap (λ k. Some k) e)
