use Rattle.std.proofs.Common.{◌≡◌, ◌<◌, ◌++◌, replicate, [], ◌∷◌, length, pos, sym, ap, ◌∙◌, subst, append-nil, append_assoc, add-one, w64, arith, refl}
use Rattle.std.proofs.lemmas.List.{length-set}
use Rattle.std.proofs.lemmas.Int.{to_z_pos}
use Rattle.plan.specs.Calls.{Made}
use Rattle.plan.specs.Calls.Call.{make_literal}
use Rattle.plan.specs.Terms.Expr.{literal}
use Rattle.plan.specs.Terms.Literal.{whole}
use Rattle.book.specs.Opened.{book_of}
use Rattle.trials.specs.Trials.{Adds, expr_id, wholes_to}
use Rattle.trials.proofs.Adding.{adds-more, adds-none}
use Rattle.trials.proofs.wholes.Goals as goal

pub loop-i-init : goal.loop-i-init
loop-i-init c = (refl, adds-none (book_of c.args.book.now) (replicate 65 (expr_id 0)), sym (append-nil (book_of c.args.book.now).exprs))

pub loop-i-preserved : goal.loop-i-preserved
loop-i-preserved c =
    let i = c.loop-i.i in
    let m = book_of c.args.book.now in
    let m' = book_of c.loop-i.book in
    let small : i < 65 = omega arith in
    let made = subst (λ z. Made m' (make_literal (whole z)) c.in_ok-out.field-0.0 (book_of c.whole.new.self)) (to_z_pos w64 i (omega (arith, small))) c.in_ok-out.ensures in
    let h : i < length c.loop-i.out = omega (arith, c.loop-i.invariant.0) in (
      length-set c.loop-i.out i c.in_ok-out.field-0 ∙ c.loop-i.invariant.0,
      adds-more m m' (book_of c.whole.new.self) (make_literal (whole (pos i))) c.loop-i.out i c.in_ok-out.field-0 h refl refl refl c.loop-i.invariant.1 made,
      made.exprs ∙ ap (λ l. l ++ literal (whole (pos i)) ∷ []) c.loop-i.invariant.2 ∙ append_assoc m.exprs (wholes_to i) (literal (whole (pos i)) ∷ [])
          ∙ ap (λ k. m.exprs ++ wholes_to k) (sym (add-one i)),
    )

pub returns-clause-adds : goal.returns-clause-adds
returns-clause-adds c =
    let is : c.loop-i.i ≡ 65 = omega arith in
    subst (λ n. Adds (book_of c.args.book.now) c.loop-i.out n (book_of c.loop-i.book)) is c.loop-i.invariant.1

pub returns-clause-exprs : goal.returns-clause-exprs
returns-clause-exprs c =
    let is : c.loop-i.i ≡ 65 = omega arith in
    subst (λ n. (book_of c.loop-i.book).exprs ≡ (book_of c.args.book.now).exprs ++ wholes_to n) is c.loop-i.invariant.2
