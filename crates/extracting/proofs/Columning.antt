-- What is needed of the inputs of a node has room, and stays so.
use Rattle.std.proofs.Common.{◌≡◌, ℕ, zero, suc, ◌<◌, ◌≤◌, true, ltb, List, [], ◌∷◌, length, get_or, Ok, Err, Result, IfOk, sym, refl, ap, ap₂, subst, arith, length-append}
use Rattle.std.proofs.lemmas.Bool.{and_parts, leb-true, ltb-true}
use Rattle.std.proofs.lemmas.List.{length-map}
use Rattle.table.specs.Contents.{part}
use Rattle.table.proofs.Parts.{length_part}
use Rattle.plan.specs.Terms.{Expr, Field}
use Rattle.plan.specs.declared.fault.Fault.{Fault}
use Rattle.rewriting.specs.Routing
use Rattle.rewriting.specs.Routing.{Side, one, schema_columns, two}
use Rattle.tables.proofs.Held.{counted, reads_as}
use Rattle.tables.specs.Holding.{fields_at, nodes_of, plan_count, view_in}
use Rattle.stored.specs.declared.node.PlanNode.TheVariants.{Union}
use Rattle.stored.specs.declared.node.PlanRecord.{PlanRecord}
use Rattle.tables.specs.declared.tables.Tables.{Tables}
use Rattle.entries.specs.Spans.{stored_field}
use Rattle.entries.specs.declared.node.ExprId.{ExprId}
use Rattle.extracting.specs.Columns.{Columned, columns_by, sided}
use Rattle.extracting.specs.Extractors.{extractor_of, needs_of}
use Rattle.extracting.specs.Owners.{inputs_in, owner_by}
use Rattle.extracting.specs.Walking.{Answered, walk_in}
use Rattle.extracting.specs.declared.extractor.Extractor.{Extractor}
use Rattle.extracting.specs.declared.inputs.Inputs.{Inputs}
use Rattle.extracting.specs.declared.inputs.Inputs.TheVariants.{One, Two}
use Rattle.extracting.proofs.Columned.{Owns, columns-long, not-more, owning-owns, sole-owns, walk-columned}

same-default : {X : Type 0} (xs : List X) (i : ℕ) (d b : X) → i < length xs → get_or xs i d ≡ get_or xs i b
same-default [] i d b lt = absurd (omega arith)
same-default (x ∷ xs) zero d b lt = refl
same-default (x ∷ xs) (suc i) d b lt = same-default xs i d b (omega arith)

abbrev blank : PlanRecord
blank = record { node = Union (record { first = 0; count = 0 }); fields = record { first = 0; count = 0 }; size = 0; origin = record { 0 = 0 } }

few-fields : (t : Tables) (p : ℕ) → p < plan_count t → length (fields_at t p) ≤ 64
few-fields t p lt =
    let r = get_or t.plans p blank in
    let k = reads_as t p r lt (same-default t.plans p blank r (omega (arith, counted t, lt))) in
    omega (arith, k.few, ap length k.fields, length-map (part t.fields r.fields.first r.fields.count) (stored_field (view_in t).bytes), length_part t.fields r.fields.first r.fields.count (leb-true _ _ k.run))

sided-long : (s : Side) (fs : List Field) → length (sided s fs) ≡ length fs
sided-long s [] = refl
sided-long s (f ∷ fs) = let h = sided-long s fs in omega arith

few-columns : (t : Tables) (is : Inputs) → inputs_in (plan_count t) is ≡ true → length (columns_by (view_in t).functions (nodes_of t) is) ≤ 256
few-columns t (One p) h =
    let cs = schema_columns (fields_at t p.0) in
    omega (arith, sided-long one cs, columns-long (fields_at t p.0), few-fields t p.0 (ltb-true _ _ h))
few-columns t (Two l r) h =
    let q = and_parts (ltb l.0 (plan_count t)) (ltb r.0 (plan_count t)) h in
    let cl = schema_columns (fields_at t l.0) in
    let cr = schema_columns (fields_at t r.0) in
    omega (arith, length-append (sided one cl) (sided two cr), sided-long one cl, sided-long two cr, columns-long (fields_at t l.0), columns-long (fields_at t r.0), few-fields t l.0 (ltb-true _ _ q.0), few-fields t r.0 (ltb-true _ _ q.1))

owners-own : (t : Tables) (is : Inputs) → Owns (columns_by (view_in t).functions (nodes_of t) is) (owner_by (view_in t).functions (nodes_of t) is)
owners-own t (One p) = sole-owns (schema_columns (fields_at t p.0))
owners-own t (Two l r) = owning-owns (schema_columns (fields_at t l.0)) (schema_columns (fields_at t r.0))

module _ (t : Tables) (is : Inputs) (e : Expr) (x : Extractor) (columned : Columned (columns_by (view_in t).functions (nodes_of t) is) (needs_of (view_in t) x)) where
  after : Columned (columns_by (view_in t).functions (nodes_of t) is) (walk_in t is e (extractor_of (view_in t) x)).1.needed
  after =
      let F = (view_in t).functions in
      walk-columned (columns_by F (nodes_of t) is) F (owner_by F (nodes_of t) is) (owners-own t is) e (extractor_of (view_in t) x) columned

  pub needed-few : inputs_in (plan_count t) is ≡ true → length (walk_in t is e (extractor_of (view_in t) x)).1.needed ≤ 256
  needed-few h = omega (arith, not-more _ _ after, few-columns t is h)

  pub still-columned : (u : Tables) (y : Extractor) (r : Result ExprId Fault) → Answered t (walk_in t is e (extractor_of (view_in t) x)) r u y → IfOk r (λ _. Columned (columns_by (view_in u).functions (nodes_of u) is) (needs_of (view_in u) y))
  still-columned u y (Ok r) a =
      let c = ap₂ (λ fs ns. columns_by fs ns is) a.grows.functions a.grows.plans in
      let n = ap (λ (g : Routing.Extractor). g.needed) a.extractor in
      subst (λ ms. Columned (columns_by (view_in u).functions (nodes_of u) is) ms) (sym n) (subst (λ cs. Columned cs (walk_in t is e (extractor_of (view_in t) x)).1.needed) (sym c) after)
  still-columned u y (Err f) a = tt
