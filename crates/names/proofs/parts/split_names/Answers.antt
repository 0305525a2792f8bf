use Rattle.std.proofs.Common.{◌<◌, [], ◌∷◌, ◌++◌, map, length, sym, refl, ap, ap₂, ◌∙◌, arith, lit<, rules}
use Rattle.std.specs.Slice.Iter.{split_rest, split_done, split_callee}
use Rattle.std.proofs.lemmas.List.{length-map, map_push}
use Rattle.std.proofs.lemmas.Bool.{and_from, le-leb}
use Rattle.std.proofs.lemmas.List.Recursion.{and_push}
use borrow.Author.Tests.{tests}
use Rattle.names.specs.Spans.{span_in, word}
use Rattle.plan.specs.Calls.{parts}
use Rattle.plan.specs.Fields.{every}
use Rattle.names.proofs.Parting.{parts_turn, parts_end}
use Rattle.names.proofs.Places.{takes, part-is, part-in, next-part}
use Rattle.names.proofs.parts.split_names.Goals as goal

pub push-requires : goal.push-requires
push-requires c =
    let xs = c.args.text.now in
    let split = c.split-part-items.ensures in
    let it = c.into_iter-part-iterator.ensures.into_iter_gives in
    let turn : length c.loop-part.yielded < length (parts xs) =
    parts_turn _ xs _ c.loop-part.yielded c.loop-part.part-iterator c.next.new.self c.loop-part.yielded_by (ap split_rest it ∙ split.rest) (ap split_done it ∙ split.done)
    (ap split_callee it ∙ split.closure) c.next.result c.next.ensures.steps (λ x b q k. search (rules, tests)) c.in-Some.part c.in-Some.is in
    (lit< tt, omega (arith, ap length c.loop-part.invariant.pieces, length-map c.loop-part.out (word xs), length-map c.loop-part.yielded (λ p. p.now)))

pub loop-part-preserved : goal.loop-part-preserved
loop-part-preserved c =
    let xs = c.args.text.now in
    let start = c.loop-part.start in
    let x = c.in-Some.part.now in
    let k = takes _ c.loop-part.part-iterator c.next.new.self c.in-Some.part c.in-Some.ensures.steps in
    let h = c.loop-part.invariant.ahead k.going in
    let here = h.1 ∙ k.whole in
    record {
      can_next = search rules;
      is_finite = search rules;
      pieces =
          ap (map (word xs)) c.push.ensures ∙ map_push (word xs) c.loop-part.out _
          ∙ ap₂ (λ l y. l ++ y ∷ []) c.loop-part.invariant.pieces (part-is xs start x k.left h.0 here) ∙ sym (map_push (λ p. p.now) c.loop-part.yielded c.in-Some.part);
      inside =
          ap (every (span_in xs)) c.push.ensures ∙ and_push (every (span_in xs)) (span_in xs) refl (λ _ _. refl) c.loop-part.out _
          ∙ and_from _ _ c.loop-part.invariant.inside (le-leb _ _ (part-in xs start x k.left h.0 here));
      ahead = λ f. let m = k.more f in next-part xs start x k.left h.0 here m.0 _ m.1;
    }

pub returns-clause-pieces : goal.returns-clause-pieces
returns-clause-pieces c =
    let xs = c.args.text.now in
    let split = c.split-part-items.ensures in
    let it = c.into_iter-part-iterator.ensures.into_iter_gives in
    c.loop-part.invariant.pieces
    ∙ parts_end _ xs _ c.loop-part.yielded c.loop-part.part-iterator c.next.new.self c.loop-part.yielded_by (ap split_rest it ∙ split.rest) (ap split_done it ∙ split.done)
    (ap split_callee it ∙ split.closure) c.next.result c.next.ensures.steps (λ x b q k. search (rules, tests)) c.in-None.is
