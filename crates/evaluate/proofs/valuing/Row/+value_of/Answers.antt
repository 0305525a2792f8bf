use Rattle.std.proofs.Common.{◌≡◌, ◌+◌, ◌<◌, ◌≤◌, map, length, get_or, sym, refl, ap, ◌∙◌, subst, arith, rules}
use Rattle.std.proofs.lemmas.List.{get_or-map, take_all}
use Rattle.table.specs.Contents.{part}
use Rattle.plan.specs.Model.{no_expr}
use Rattle.plan.specs.Values.Value.{null}
use Rattle.rows.specs.Rows.{value_in}
use Rattle.entries.specs.Spans.{literal_at, stored_field}
use Rattle.terms.specs.Views.{tree_of, view_of}
use Rattle.entries.specs.declared.node.Entry.{Entry}
use Rattle.entries.specs.declared.node.Entry.TheVariants.{Expression}
use Rattle.value.specs.Meanings.{meaning_of}
use Rattle.value.specs.declared.Value.TheVariants.{Null}
use Rattle.evaluate.specs.Evaluating.{bare}
use Rattle.evaluate.proofs.Found.{reference-found}
use Rattle.terms.proofs.Walks.{argument, call-of, counted, entry_trees, long, lower}
use Rattle.evaluate.proofs.Valued.{argument-resolved, argument-room, enough, of-alias, of-call, of-literal, of-reference, one_more}
use Rattle.evaluate.proofs.valuing.Row.+value_of.Goals as goal

abbrev blank : Entry
blank = Expression (record { 0 = 0 })

pub offset_bounds-self-seek : goal.offset_bounds-self-seek
offset_bounds-self-seek g t c =
    let lt : c.seek.result < length c.args.self.now.values.now = omega (arith, c.seek.ensures, reference-found (stored_field (view_of c.args.self.now.terms.now).bytes) c.args.self.now.fields.now c.in-Reference.ensures.tree c.requires.resolved) in
    search rules

pub bounds-self-seek : goal.bounds-self-seek
bounds-self-seek g t c = omega (arith, c.seek.ensures, reference-found (stored_field (view_of c.args.self.now.terms.now).bytes) c.args.self.now.fields.now c.in-Reference.ensures.tree c.requires.resolved)

pub split_at_mut-front-requires : goal.split_at_mut-front-requires
split_at_mut-front-requires g t c =
    let s = c.args.self.now.terms.now in
    let run = c.in-Call.arguments in
    enough s c.args.e.0 c.in-Call.function run (part (view_of s).entries run.first run.count) refl c.in-Call.ensures.inside c.in-Call.ensures.tree (length c.args.scratch.now) c.requires.room

pub value_of-requires-in-loop-i : goal.value_of-requires-in-loop-i
value_of-requires-in-loop-i g t c κs within =
    let s = c.args.self.now.terms.now in
    let e = c.args.e.0 in
    let f = c.in-Call.function in
    let run = c.in-Call.arguments in
    let xs = c.entries-entry-items.result.now in
    let items = c.entries-entry-items.ensures in
    let inside = c.in-Call.ensures.inside in
    let tree = c.in-Call.ensures.tree in
    let i = c.loop-i.i in
    let a = c.read.result.0 in
    let lt = c.loop-i-test.true in
    let is = ap (λ x. x.0) c.read.ensures in
    let low : a < e = lower s e f run xs items inside tree i a blank lt is in
    let left : length c.loop-i.rest + run.count ≡ length c.args.scratch.now = omega (arith, c.loop-i.auto.rest, c.split_at_mut-front.ensures.back_len) in
    let known = argument-resolved s e f run xs items inside tree i a blank lt is (map (stored_field (view_of s).bytes) c.args.self.now.fields.now) c.requires.resolved in
    let room = argument-room s e f run xs items inside tree i a blank lt is (length c.args.scratch.now) (length c.loop-i.rest) c.requires.room left in
    (omega (arith, low, c.decreases), (within, (c.requires.wide, (omega (arith, low, c.requires.present), (known, room)))))

pub loop-i-preserved : goal.loop-i-preserved
loop-i-preserved g t c =
    let s = c.args.self.now.terms.now in
    let e = c.args.e.0 in
    let f = c.in-Call.function in
    let run = c.in-Call.arguments in
    let xs = c.entries-entry-items.result.now in
    let items = c.entries-entry-items.ensures in
    let inside = c.in-Call.ensures.inside in
    let i = c.loop-i.i in
    let lt = c.loop-i-test.true in
    let m = meaning_of (view_of s).bytes c.args.self.now.text.now in
    let value = value_in (bare (g.E.Engine.meaning c.args.engine.now) (view_of s).bytes c.args.self.now.text.now) (map (stored_field (view_of s).bytes) c.args.self.now.fields.now) (map m c.args.self.now.values.now) in
    let in-front : i < length c.loop-i.front = omega (arith, c.loop-i.auto.front, c.split_at_mut-front.ensures.front_len, counted s e f run xs items inside c.in-Call.ensures.tree, lt) in
    let in_list : i < length (entry_trees s xs) = omega (arith, long s xs, lt) in
    let is = argument s e f run xs items inside c.in-Call.ensures.tree i c.read.result.0 blank lt (ap (λ x. x.0) c.read.ensures) in
    one_more m value c.loop-i.front (entry_trees s xs) i c.value_of-in-loop-i.result no_expr in-front in_list c.loop-i.invariant (c.value_of-in-loop-i.ensures ∙ ap value is)

pub returns-in-Constant : goal.returns-in-Constant
returns-in-Constant g t c =
    let s = c.args.self.now.terms.now in
    let bs = (view_of s).bytes in
    let row = c.args.self.now.text.now in
    let w = bare (g.E.Engine.meaning c.args.engine.now) bs row in
    let fs = map (stored_field bs) c.args.self.now.fields.now in
    let vs = map (meaning_of bs row) c.args.self.now.values.now in
    c.constant.ensures bs row c.in-Constant.ensures.inside ∙ sym (ap (value_in w fs vs) c.in-Constant.ensures.tree ∙ of-literal w fs vs (literal_at bs c.in-Constant.v))

pub returns-in-Reference : goal.returns-in-Reference
returns-in-Reference g t c =
    let s = c.args.self.now.terms.now in
    let bs = (view_of s).bytes in
    let row = c.args.self.now.text.now in
    let w = bare (g.E.Engine.meaning c.args.engine.now) bs row in
    let fs = map (stored_field bs) c.args.self.now.fields.now in
    let m = meaning_of bs row in
    let vs = map m c.args.self.now.values.now in
    let r = stored_field bs c.in-Reference.field in
    let lt : c.seek.result < length c.args.self.now.values.now = omega (arith, c.seek.ensures, reference-found (stored_field (view_of c.args.self.now.terms.now).bytes) c.args.self.now.fields.now c.in-Reference.ensures.tree c.requires.resolved) in
    sym (ap (value_in w fs vs) c.in-Reference.ensures.tree ∙ of-reference w fs vs r ∙ ap (λ k. get_or vs k null) (sym c.seek.ensures) ∙ get_or-map m c.args.self.now.values.now c.seek.result Null null lt)

pub returns-in-Alias : goal.returns-in-Alias
returns-in-Alias g t c =
    let s = c.args.self.now.terms.now in
    let bs = (view_of s).bytes in
    let row = c.args.self.now.text.now in
    let w = bare (g.E.Engine.meaning c.args.engine.now) bs row in
    let fs = map (stored_field bs) c.args.self.now.fields.now in
    let vs = map (meaning_of bs row) c.args.self.now.values.now in
    c.value_of.ensures ∙ sym (ap (value_in w fs vs) c.in-Alias.ensures.tree ∙ of-alias w fs vs (tree_of s c.in-Alias.inner.0) (stored_field bs c.in-Alias.field))

pub returns-after-loop-i : goal.returns-after-loop-i
returns-after-loop-i g t c =
    let s = c.args.self.now.terms.now in
    let bs = (view_of s).bytes in
    let row = c.args.self.now.text.now in
    let f = c.in-Call.function in
    let run = c.in-Call.arguments in
    let xs = c.entries-entry-items.result.now in
    let items = c.entries-entry-items.ensures in
    let ts = entry_trees s xs in
    let meaning = g.E.Engine.meaning c.args.engine.now in
    let w = bare meaning bs row in
    let fs = map (stored_field bs) c.args.self.now.fields.now in
    let m = meaning_of bs row in
    let vs = map m c.args.self.now.values.now in
    let front = c.loop-i.front in
    let i = c.loop-i.i in
    let all-front : length front ≤ i = omega (arith, c.loop-i.auto.front, c.split_at_mut-front.ensures.front_len, counted s c.args.e.0 f run xs items c.in-Call.ensures.inside c.in-Call.ensures.tree, c.loop-i-test.false) in
    let all_list : length ts ≤ i = omega (arith, long s xs, c.loop-i-test.false) in
    let done : map m front ≡ map (value_in w fs vs) ts = sym (ap (map m) (take_all i front all-front)) ∙ c.loop-i.invariant ∙ ap (map (value_in w fs vs)) (take_all i ts all_list) in
    subst (λ b. meaning_of b row c.apply.result ≡ meaning b row f (map (meaning_of b row) front)) c.bytes.ensures c.apply.ensures
    ∙ ap (meaning bs row f) done ∙ sym (ap (value_in w fs vs) (call-of s c.args.e.0 f run xs items c.in-Call.ensures.inside c.in-Call.ensures.tree) ∙ of-call w fs vs f ts)
