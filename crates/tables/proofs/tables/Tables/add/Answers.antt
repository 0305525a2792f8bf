use Rattle.std.proofs.Common.{◌≡◌, length, sym, refl, ap, ◌∙◌, arith, lit<, length-append}
use Rattle.std.proofs.lemmas.List.{length-map, length_push}
use Rattle.entries.specs.Spans.{stored_field}
use Rattle.terms.specs.Views.{view_of}
use Rattle.tables.specs.Holding.{view_in, model_of}
use Rattle.stored.specs.Making.{present_in}
use Rattle.tables.specs.Making.{outlay_for}
use Rattle.tables.proofs.Held.{counted}
use Rattle.tables.proofs.Adding.{fits-parts, draft-kept, draft-long, bytes_left, added-facts, added}
use Rattle.tables.proofs.tables.Tables.add.Goals as goal

pub place-placed-requires : goal.place-placed-requires
place-placed-requires c =
    let t = c.args.self.now in
    let f = fits-parts (model_of t).used (outlay_for t c.args.node) c.requires.room in
    record {
      present = ap (λ k. present_in (view_in t) k c.args.node) (c.len.ensures.value ∙ sym (counted t)) ∙ c.requires.present;
      bounded = c.requires.bounded;
      lists = f.1;
      text = omega (arith, f.3);
    }

pub store-requires : goal.store-requires
store-requires c =
    let t = c.args.self.now in
    let n = c.args.node in
    let ds = c.args.draft.now in
    let w = view_of c.place-placed.new.terms in
    let f = fits-parts (model_of t).used (outlay_for t n) c.requires.room in
    record {
      lent = c.place-placed.ensures.placed.lent;
      inside = draft-kept t n _ ds c.requires.draft w c.place-placed.result c.place-placed.ensures.placed;
      fields = omega (arith, draft-long t n _ ds c.requires.draft w c.place-placed.result c.place-placed.ensures.placed, f.2);
      bytes = omega (arith, bytes_left t n _ ds c.requires.draft w c.place-placed.result c.place-placed.ensures.placed c.requires.room);
    }

pub push-requires : goal.push-requires
push-requires c =
    let t = c.args.self.now in
    (lit< tt, omega (arith, (fits-parts (model_of t).used (outlay_for t c.args.node) c.requires.room).0, counted t))

pub invariant_of-self : goal.invariant_of-self
invariant_of-self c =
    let t = c.args.self.now in
    let n = c.args.node in
    let ds = c.args.draft.now in
    let w = view_of c.place-placed.new.terms in
    let x = c.place-placed.result in
    let st = c.store.ensures.all in
    let k = added-facts t n c.len.result ds c.requires.draft w x c.place-placed.ensures.placed (c.len.ensures.value ∙ sym (counted t)) (view_of c.store.new.terms) c.store.new.fields st c.requires.limited c.requires.bounded c.requires.named c.requires.placed _ refl _ _ _ c.len-first.ensures.value refl c.requires.size c.push.new.self c.push.ensures in
    let f = fits-parts (model_of t).used (outlay_for t n) c.requires.room in
    let new : length st.new ≡ length ds = sym (length-map st.new (stored_field (view_of c.store.new.terms).bytes)) ∙ ap length st.fields ∙ length-map ds _ in
    record {
      few_fields = omega (arith, ap length st.grew, length-append t.fields st.new, new, draft-long t n _ ds c.requires.draft w x c.place-placed.ensures.placed, f.2);
      few_plans = omega (arith, ap length c.push.ensures ∙ length_push t.plans _, f.0, counted t);
      stored = k.are-stored;
      sound = k.are-sound;
      fielded = k.are-fielded;
      sizes = k.have-sizes;
      formed = k.are-formed;
    }

pub returns-clause-stored : goal.returns-clause-stored
returns-clause-stored c =
    let t = c.args.self.now in
    let n = c.args.node in
    let ds = c.args.draft.now in
    let w = view_of c.place-placed.new.terms in
    let x = c.place-placed.result in
    let st = c.store.ensures.all in
    added t n c.len.result ds c.requires.draft w x c.place-placed.ensures.placed (c.len.ensures.value ∙ sym (counted t)) (view_of c.store.new.terms) c.store.new.fields st c.requires.limited c.requires.bounded c.requires.named c.requires.placed _ refl _ _ _ c.len-first.ensures.value refl c.requires.size c.push.new.self c.push.ensures
