use Rattle.std.proofs.Common.{◌≡◌, false, [], ◌∷◌, map, length, sym, ap, ◌∙◌, arith, lit<}
use Rattle.std.proofs.lemmas.List.{length-map, length_push, map_push}
use Rattle.rewriting.specs.Routing.{needs}
use Rattle.routing.specs.Sides.{side_of}
use Rattle.entries.specs.Spans.{stored_field}
use Rattle.terms.specs.Views.{view_of}
use Rattle.extracting.specs.Extractors.{entries_of, need_of, needs_of}
use Rattle.extracting.specs.declared.extractor.Needed.{Needed}
use Rattle.extracting.proofs.Needs.{need-new, need_old, needs-one}
use Rattle.extracting.proofs.extractor.Extractor.need.Goals as goal

pub push-requires : goal.push-requires
push-requires c =
    let v = view_of c.args.terms.now in
    let x = c.args.self.now in
    let s = side_of c.args.side in
    let f = stored_field v.bytes c.args.field in
    let ns = needs_of v x in
    (lit< tt, omega (arith, c.requires.room, ap length (needs-one s f ns), ap length (need-new s f ns (sym c.if-not-needs_column.ensures)), length_push ns (s, f), length-map x.needed (need_of v)))

pub invariant_of-self : goal.invariant_of-self
invariant_of-self c =
    let v = view_of c.args.terms.now in
    let x = c.args.self.now in
    let s = side_of c.args.side in
    let f = stored_field v.bytes c.args.field in
    let ns = needs_of v x in
    let n : Needed = record { side = c.args.side; field = c.args.field } in
    record {
      few_entries = x.few_entries;
      few_needed = omega (arith, ap length c.push.ensures, length_push x.needed n, c.requires.room, ap length (needs-one s f ns), ap length (need-new s f ns (sym c.if-not-needs_column.ensures)), length_push ns (s, f), length-map x.needed (need_of v));
    }

pub returns-then-not-needs_column-clause-value : goal.returns-then-not-needs_column-clause-value
returns-then-not-needs_column-clause-value c =
    let v = view_of c.args.terms.now in
    let x = c.args.self.now in
    let s = side_of c.args.side in
    let f = stored_field v.bytes c.args.field in
    let ns = needs_of v x in
    let n : Needed = record { side = c.args.side; field = c.args.field } in
    let e : map (need_of v) c.push.new.self ≡ needs s (f ∷ []) ns = ap (map (need_of v)) c.push.ensures ∙ map_push (need_of v) x.needed n ∙ sym (need-new s f ns (sym c.if-not-needs_column.ensures)) in
    ap (λ l. record { entries = entries_of v x; needed = l; next = x.next; new = x.is_new; full = false }) e

pub returns-else-not-needs_column-clause-value : goal.returns-else-not-needs_column-clause-value
returns-else-not-needs_column-clause-value c =
    let v = view_of c.args.terms.now in
    let x = c.args.self.now in
    ap (λ l. record { entries = entries_of v x; needed = l; next = x.next; new = x.is_new; full = false }) (sym (need_old (side_of c.args.side) (stored_field v.bytes c.args.field) (needs_of v x) (sym c.if-not-needs_column.ensures)))
