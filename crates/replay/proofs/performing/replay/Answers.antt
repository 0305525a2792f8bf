use Rattle.std.proofs.Common.{◌≡◌, ◌+◌, ◌<◌, ◌≤◌, min, length, drop, sym, ap, ◌∙◌, subst, arith, length-take}
use Rattle.std.proofs.lemmas.List.{drop-drop, drop-set-lt, get_or-take}
use Rattle.book.specs.Opened.{book_of}
use Rattle.replay.specs.Acts.{answer_of, request_of}
use Rattle.rewriting.specs.Book.{Answers, Run}
use Rattle.rewriting.proofs.Book.{law as TheLaw}
use Rattle.rewriting.proofs.Reached.{reached-agree}
use Rattle.replay.proofs.Runs.{replay-more, steps-whole}
use Rattle.replay.proofs.performing.replay.Goals as goal

pub loop-i-preserved : goal.loop-i-preserved
loop-i-preserved c =
    let i = c.loop-i.i in
    let rs = c.loop-i.answers in
    let acts = c.args.acts.now in
    let n = length-take c.min-count.result acts in
    let h : i < length acts = omega arith in
    let k : i < length rs = omega arith in
    let here : i < c.min-count.result = omega arith in
    let s = book_of c.loop-i.book in
    let s' = book_of c.perform.new.book in
    let performed = subst (λ a. Answers s (request_of a) (answer_of c.perform.result) s') (get_or-take c.min-count.result acts i _ here) c.perform.ensures in (
      replay-more (book_of c.args.book.now) s s' acts rs i _ c.perform.result h k c.loop-i.invariant.0 performed,
      drop-set-lt (i + 1) rs i c.perform.result (omega arith) ∙ sym (drop-drop 1 i rs) ∙ ap (λ l. drop 1 l) c.loop-i.invariant.1 ∙ drop-drop 1 i c.args.answers.now,
    )

pub returns : goal.returns
returns c =
    let b = c.loop-i.book in
    let rs = c.loop-i.answers in
    let n = length-take c.min-count.result c.args.acts.now in
    let is : c.loop-i.i ≡ c.min-count.result = omega arith in
    let all : min (length c.args.acts.now) (length rs) ≤ c.loop-i.i = omega arith in
    record {
      done = c.min-count.ensures;
      run = subst (λ l. Run (book_of c.args.book.now) l (book_of b)) (steps-whole c.loop-i.i c.args.acts.now rs all) c.loop-i.invariant.0;
      kept = subst (λ n. drop n rs ≡ drop n c.args.answers.now) is c.loop-i.invariant.1;
      agree = reached-agree (book_of b) b.reached;
      law = TheLaw;
    }
