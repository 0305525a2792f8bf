-- From what a node's extract comes to, with its origin given, to what the book promises.
use Rattle.std.proofs.Common.{◌≡◌, ℕ, ◌<◌, ◌≤◌, get_or, Ok, Err, Some, None, Option, Result, inr, refl, sym, ap, ◌∙◌, subst, arith, length}
use Rattle.std.proofs.lemmas.List.{get_or_append_left}
use Rattle.entries.specs.declared.node.PlanId.{PlanId}
use Rattle.plan.specs.Model.{Model, Node, count_of, no_node, origin_at}
use Rattle.plan.specs.declared.fault.Fault.{Fault}
use Rattle.rewriting.specs.Book.{Rewrites}
use Rattle.stepping.proofs.Added.{inputs-counted, stood-rewrites}
use Rattle.stepping.specs.Steps.{AllGood, Extends}
use Rattle.std.proofs.lemmas.List.{get_or_default}
use Rattle.stored.specs.declared.node.PlanNode.TheVariants.{Limit}
use Rattle.stored.specs.declared.node.PlanRecord.{PlanRecord}
use Rattle.tables.proofs.Held.{counted, reads_as}
use Rattle.tables.specs.Holding.{model_of, plan_count}
use Rattle.tables.specs.Origins.{OriginGiven}
use Rattle.tables.specs.declared.tables.Tables.{Tables}
use Rattle.leaf_expressions.specs.Comes.{Comes, answered, extracted}

abbrev filler : PlanRecord
filler = record { node = Limit (record { 0 = 0 }) 0 0; fields = record { first = 0; count = 0 }; size = 0; origin = record { 0 = 0 } }

module _ (t : Tables) (p : PlanId) (lt : p.0 < plan_count t) where
  -- refused, or nothing changed: the tables are put back
  pub refused-rewrites : (f : Fault) (m m' : Model) → Comes (model_of t) (extracted t p.0) (Err f) m' → m ≡ model_of t → Rewrites (model_of t) p.0 (extracted t p.0) (answered (Err f)) m
  refused-rewrites f m m' h e = (e, inr (lt, h))

  pub unchanged-rewrites : (m m' : Model) → Comes (model_of t) (extracted t p.0) (Ok None) m' → m ≡ model_of t → Rewrites (model_of t) p.0 (extracted t p.0) (answered (Ok None)) m
  unchanged-rewrites m m' h e = (lt, h, e)

  -- a node that there was keeps its origin
  pub origin-kept : (u : Tables) → Extends (model_of t) (model_of u) → origin_at (model_of u) p.0 ≡ origin_at (model_of t) p.0
  origin-kept u x = ap (λ (n : Node). n.origin) (ap (λ l. get_or l p.0 no_node) x.plans ∙ get_or_append_left (model_of t).plans x.nodes no_node p.0 lt)

  pub made-rewrites : (u w : Tables) (new : PlanId) (o : ℕ) → AllGood (model_of t) → Comes (model_of t) (extracted t p.0) (Ok (Some new)) (model_of u) → o ≡ origin_at (model_of u) p.0
      → OriginGiven (model_of u) new.0 o (model_of w) → Rewrites (model_of t) p.0 (extracted t p.0) (answered (Ok (Some new))) (model_of w)
  made-rewrites u w new o good h e g =
      stood-rewrites (model_of t) u w h.0 p.0 new.0 (extracted t p.0) h.1 good (inputs-counted t) lt h.2 h.3 h.4 h.5
      (subst (λ k. OriginGiven (model_of u) new.0 k (model_of w)) (e ∙ origin-kept u h.3.extends) g)

-- the origin is no later than the new node: the tables keep that a node's origin is not later than the node
pub origin-older : (t u : Tables) (p new : PlanId) → p.0 < plan_count t → (o : ℕ) → o ≡ origin_at (model_of u) p.0 → Comes (model_of t) (extracted t p.0) (Ok (Some new)) (model_of u) → o ≤ new.0
origin-older t u p new lt o e h =
    let here : p.0 < plan_count t = lt in
    let old : plan_count t ≤ new.0 = h.4 in
    let at = (reads_as t p.0 (get_or t.plans p.0 filler) lt (get_or_default t.plans p.0 filler (get_or t.plans p.0 filler) (omega (arith, counted t)))) in
    let kept = origin-kept t p lt u h.3.extends in
    omega (arith, e, kept, at.origin, at.older)
