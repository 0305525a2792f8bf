-- Tables that only grow by expressions: what their numbers stand for stays.
use Rattle.std.proofs.Common.{◌≡◌, ℕ, ◌<◌, ◌≤◌, true, false, ltb, List, [], ◌∷◌, ◌++◌, map, length, sym, refl, ap, ap₂, ◌∙◌, arith, length-append}
use Rattle.std.proofs.lemmas.Bool.{and_from, and_parts, lt-ltb, ltb-true}
use Rattle.std.proofs.lemmas.List.{append-nil, get_or_append_left}
use Rattle.lexicon.proofs.Begun.{at-once, begins-then}
use Rattle.plan.specs.Calls.{Call, Made, new_inputs, new_plans}
use Rattle.plan.specs.Fields.{every}
use Rattle.plan.specs.Model.{Model, expr_in, no_expr}
use Rattle.plan.specs.Terms.{Expr}
use Rattle.rewriting.specs.Generated.{countable, generated}
use Rattle.routing.specs.Sides.{side_of}
use Rattle.tables.specs.Holding.{model_of, nodes_of, view_in}
use Rattle.tables.specs.Reusing.{Added}
use Rattle.tables.specs.declared.tables.Tables.{Tables}
use Rattle.entries.specs.Spans.{stored_field, stored_in}
use Rattle.terms.specs.Views.{View}
use Rattle.terms.proofs.Frames.{field-grow}
use Rattle.extracting.specs.Extractors.{Inside, entry_in, entry_of, extractor_of, need_in, need_of}
use Rattle.extracting.specs.Owners.{owner_by}
use Rattle.extracting.specs.Walking.{Grows}
use Rattle.extracting.specs.declared.extractor.Extracted.{Extracted}
use Rattle.extracting.specs.declared.extractor.Extractor.{Extractor}
use Rattle.extracting.specs.declared.extractor.Needed.{Needed}
use Rattle.extracting.specs.declared.inputs.Inputs.{Inputs}

pub grows-at-once : (m : Model) → Grows m m
grows-at-once m = record { functions = refl; exprs = at-once m.exprs; text = at-once m.text; plans = refl; inputs = refl }

pub grows-then : (a b c : Model) → Grows a b → Grows b c → Grows a c
grows-then a b c g h = record {
  functions = h.functions ∙ g.functions;
  exprs = begins-then a.exprs b.exprs c.exprs g.exprs h.exprs;
  text = begins-then a.text b.text c.text g.text h.text;
  plans = h.plans ∙ g.plans;
  inputs = h.inputs ∙ g.inputs;
}

pub made-grows : (m : Model) (c : Call) (r : ℕ) (m' : Model) → Made m c r m' → new_plans m c ≡ [] → new_inputs c ≡ [] → Grows m m'
made-grows m c r m' h p q = record {
  functions = h.functions;
  exprs = record { more = _; is = h.exprs };
  text = record { more = h.bytes; is = h.text };
  plans = h.plans ∙ ap (λ l. m.plans ++ l) p ∙ append-nil m.plans;
  inputs = h.inputs ∙ ap (λ l. m.inputs ++ l) q ∙ append-nil m.inputs;
}

pub added-grows : (m : Model) (e : Expr) (r : ℕ) (m' : Model) → Added m e r m' → Grows m m'
added-grows m e r m' h = record {
  functions = h.functions;
  exprs = record { more = e ∷ []; is = h.exprs };
  text = record { more = []; is = h.text ∙ sym (append-nil m.text) };
  plans = h.plans;
  inputs = h.inputs;
}

-- the trees ts and the text bs are put behind those of v
module _ (v w : View) (ts : List Expr) (bs : List ℕ) (trees : w.trees ≡ v.trees ++ ts) (bytes : w.bytes ≡ v.bytes ++ bs) where
  pub tree_kept : (e : ℕ) → e < length v.trees → expr_in w.trees e ≡ expr_in v.trees e
  tree_kept e lt = ap (λ l. expr_in l e) trees ∙ get_or_append_left v.trees ts no_expr e lt

  pub still-there : (e : ℕ) → e < length v.trees → e < length w.trees
  still-there e lt = omega (arith, ap length trees, length-append v.trees ts)

  entry-kept : (d : Extracted) → entry_in v d ≡ true → (entry_of w d ≡ entry_of v d) × (entry_in w d ≡ true)
  entry-kept d h =
      let p = and_parts (ltb d.inner.0 (length v.trees)) (countable d.alias) h in
      let lt = ltb-true _ _ p.0 in
      (ap (λ t. (side_of d.side, t, generated d.alias)) (tree_kept d.inner.0 lt), and_from _ _ (lt-ltb _ _ (still-there d.inner.0 lt)) p.1)

  entries-kept : (ds : List Extracted) → every (entry_in v) ds ≡ true → (map (entry_of w) ds ≡ map (entry_of v) ds) × (every (entry_in w) ds ≡ true)
  entries-kept [] h = (refl, refl)
  entries-kept (d ∷ ds) h =
      let p = and_parts (entry_in v d) (every (entry_in v) ds) h in
      let a = entry-kept d p.0 in
      let b = entries-kept ds p.1 in
      (ap₂ (λ x y. x ∷ y) a.0 b.0, and_from _ _ a.1 b.1)

  need-kept : (n : Needed) → need_in v n ≡ true → (need_of w n ≡ need_of v n) × (need_in w n ≡ true)
  need-kept n h =
      let g = field-grow v.bytes bs n.field h in
      (ap (λ f. (side_of n.side, f)) (ap (λ b. stored_field b n.field) bytes ∙ g.0), ap (λ b. stored_in b n.field) bytes ∙ g.1)

  needs-kept : (ns : List Needed) → every (need_in v) ns ≡ true → (map (need_of w) ns ≡ map (need_of v) ns) × (every (need_in w) ns ≡ true)
  needs-kept [] h = (refl, refl)
  needs-kept (n ∷ ns) h =
      let p = and_parts (need_in v n) (every (need_in v) ns) h in
      let a = need-kept n p.0 in
      let b = needs-kept ns p.1 in
      (ap₂ (λ x y. x ∷ y) a.0 b.0, and_from _ _ a.1 b.1)

  pub extractor-kept : (x : Extractor) → Inside v x → (extractor_of w x ≡ extractor_of v x) × Inside w x
  extractor-kept x h =
      let a = entries-kept x.entries h.entries in
      let b = needs-kept x.needed h.needed in
      (ap₂ (λ ds ns. record { entries = ds; needed = ns; next = x.next; new = x.is_new; full = false }) a.0 b.0, record { entries = a.1; needed = b.1; earlier = h.earlier })

module _ (t u : Tables) (g : Grows (model_of t) (model_of u)) where
  pub longer : length (view_in t).trees ≤ length (view_in u).trees
  longer = omega (arith, ap length g.exprs.is, length-append (view_in t).trees g.exprs.more)

  pub tree-stays : (e : ℕ) → e < length (view_in t).trees → expr_in (view_in u).trees e ≡ expr_in (view_in t).trees e
  tree-stays e lt = tree_kept (view_in t) (view_in u) g.exprs.more g.text.more g.exprs.is g.text.is e lt

  pub extractor-stays : (x : Extractor) → Inside (view_in t) x → (extractor_of (view_in u) x ≡ extractor_of (view_in t) x) × Inside (view_in u) x
  extractor-stays x h = extractor-kept (view_in t) (view_in u) g.exprs.more g.text.more g.exprs.is g.text.is x h

  pub owner-stays : (is : Inputs) → owner_by (view_in u).functions (nodes_of u) is ≡ owner_by (view_in t).functions (nodes_of t) is
  owner-stays is = ap₂ (λ fs ns. owner_by fs ns is) g.functions g.plans
