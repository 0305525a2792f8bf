use Rattle.std.proofs.Common.{◌≡◌, ◌<◌, ◌∙◌, length, replicate, subst, arith, refl}
use Rattle.std.proofs.lemmas.List.{length-set}
use Rattle.book.specs.Opened.{book_of}
use Rattle.trials.specs.Trials.{Adds, expr_id}
use Rattle.trials.proofs.Adding.{adds-more, adds-none}
use Rattle.trials.proofs.totals.Goals as goal

pub loop-i-init : goal.loop-i-init
loop-i-init c = (refl, adds-none (book_of c.args.book.now) (replicate 17 (expr_id 0)))

pub loop-i-preserved : goal.loop-i-preserved
loop-i-preserved c =
    let i = c.loop-i.i in
    let h : i < length c.loop-i.out = omega (arith, c.loop-i.invariant.0) in (
      length-set c.loop-i.out i c.in_ok-out.field-0 ∙ c.loop-i.invariant.0,
      adds-more (book_of c.args.book.now) (book_of c.loop-i.book) (book_of c.call.new.self) _ c.loop-i.out i c.in_ok-out.field-0 h refl refl refl c.loop-i.invariant.1 c.in_ok-out.ensures,
    )

pub returns : goal.returns
returns c =
    let is : c.loop-i.i ≡ 17 = omega arith in
    subst (λ n. Adds (book_of c.args.book.now) c.loop-i.out n (book_of c.loop-i.book)) is c.loop-i.invariant.1
