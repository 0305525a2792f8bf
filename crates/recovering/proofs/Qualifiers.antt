-- How far the numbers of a node's fields go, their qualifiers' too: no further than those of the book.
use Rattle.std.proofs.Common.{◌≡◌, ℕ, ◌<◌, ◌≤◌, Bool, true, false, List, [], ◌∷◌, ◌++◌, map, get_or, sym, refl, ap, subst, arith}
use Rattle.std.specs.List.{flat_map}
use Rattle.std.proofs.lemmas.Grind.{flat_map-append}
use Rattle.numbering.specs.Own.{names_in}
use Rattle.numbering.proofs.Highest.{at-below, both-below, first-below, highest-more, highest-one, none-above, second-below}
use Rattle.numbering.proofs.Kept.{nodes-numbers}
use Rattle.numbering.proofs.Places.{empty-name, node_all}
use Rattle.plan.specs.Functions.{Functions}
use Rattle.plan.specs.Model.{Model, no_node, tree_at}
use Rattle.plan.specs.Names.{Name, number_of}
use Rattle.plan.specs.Plans.{Plan, column_of, fields_of, kept_if, qualified_by, shown, shows_left, shows_right, without_qualifier}
use Rattle.plan.specs.Plans.Plan.{aggregate, filter, join, limit, projection, sort, subquery_alias, table, union}
use Rattle.plan.specs.Rendering.{field_of, unqualified_field}
use Rattle.plan.specs.Terms.{Expr, Field}
use Rattle.plan.specs.Terms.Expr.{alias, call, literal, reference}
use Rattle.plan.specs.declared.code.JoinKind.{JoinKind}
use Rattle.rewriting.specs.Generated.{expr_names, field_names, highest, list_names, next_number, plan_names, qualifier_names}

abbrev own : Field → List Name
own f = qualifier_names f.qualifier

abbrev qualifiers : List Field → List Name
qualifiers fs = flat_map own fs

module _ (F : Functions) (m : ℕ) where
  of-columns : (q : Name) (ns : List Name) → number_of q ≤ m → highest 0 (qualifiers (map (column_of q) ns)) ≤ m
  unfolding qualifier_names
  of-columns q [] h = none-above m
  of-columns q (n ∷ ns) h = both-below m (q ∷ []) (qualifiers (map (column_of q) ns)) (omega (arith, highest-one q)) (of-columns q ns h)

  renamed : (q : Name) (fs : List Field) → number_of q ≤ m → highest 0 (qualifiers (map (qualified_by q) fs)) ≤ m
  unfolding qualifier_names
  renamed q [] h = none-above m
  renamed q (f ∷ fs) h = both-below m (q ∷ []) (qualifiers (map (qualified_by q) fs)) (omega (arith, highest-one q)) (renamed q fs h)

  without : (fs : List Field) → highest 0 (qualifiers (map without_qualifier fs)) ≤ m
  unfolding qualifier_names
  without [] = none-above m
  without (f ∷ fs) = without fs

  of-field : (f : Field) (ns : List Name) → highest 0 (field_names f ++ ns) ≤ m → highest 0 (own f) ≤ m
  unfolding field_names
  of-field f ns h = second-below m (f.name ∷ []) (own f) (first-below m (field_names f) ns h)

  of-expr : (e : Expr) → highest 0 (expr_names e) ≤ m → highest 0 (own (field_of F e)) ≤ m
  unfolding expr_names qualifier_names field_names
  of-expr (literal v) h = none-above m
  of-expr (reference f) h = second-below m (f.name ∷ []) (own f) h
  of-expr (alias e f) h = of-field f (expr_names e) h
  of-expr (call n es) h = none-above m

  of-exprs : (es : List Expr) → highest 0 (list_names es) ≤ m → highest 0 (qualifiers (map (field_of F) es)) ≤ m
  unfolding list_names
  of-exprs [] h = none-above m
  of-exprs (e ∷ es) h =
      both-below m (own (field_of F e)) (qualifiers (map (field_of F) es)) (of-expr e (first-below m (expr_names e) (list_names es) h)) (of-exprs es (second-below m (expr_names e) (list_names es) h))

  kept : (b : Bool) (fs : List Field) → highest 0 (qualifiers fs) ≤ m → highest 0 (qualifiers (kept_if b fs)) ≤ m
  kept true fs h = h
  kept false fs h = none-above m

  joined : (k : JoinKind) (fs gs : List Field) → highest 0 (qualifiers fs) ≤ m → highest 0 (qualifiers gs) ≤ m → highest 0 (qualifiers (shown k fs gs)) ≤ m
  joined k fs gs h i =
      subst (λ ns. highest 0 ns ≤ m) (sym (flat_map-append own (kept_if (shows_left k) fs) (kept_if (shows_right k) gs)))
      (both-below m (qualifiers (kept_if (shows_left k) fs)) (qualifiers (kept_if (shows_right k) gs)) (kept (shows_left k) fs h) (kept (shows_right k) gs i))

  -- the qualifiers of a plan's fields are among its names
  of-plan : (p : Plan) → highest 0 (plan_names p) ≤ m → highest 0 (qualifiers (fields_of F p)) ≤ m
  unfolding plan_names
  of-plan (table k q ns) h = of-columns q ns (omega (arith, highest-more q ns))
  of-plan (projection es i) h = of-exprs es (first-below m (list_names es) (plan_names i) h)
  of-plan (filter e i) h = of-plan i (second-below m (expr_names e) (plan_names i) h)
  of-plan (sort ks i) h = of-plan i (second-below m (list_names (map (λ k. k.by) ks)) (plan_names i) h)
  of-plan (limit s c i) h = of-plan i h
  of-plan (aggregate gs ts i) h = of-exprs (gs ++ ts) (first-below m (list_names (gs ++ ts)) (plan_names i) h)
  of-plan (join k cs l r) h =
      let both = second-below m (list_names cs) (plan_names l ++ plan_names r) h in
      joined k (fields_of F l) (fields_of F r) (of-plan l (first-below m (plan_names l) (plan_names r) both)) (of-plan r (second-below m (plan_names l) (plan_names r) both))
  of-plan (subquery_alias n i) h = renamed n (fields_of F i) (omega (arith, highest-more n (plan_names i)))
  of-plan (union i is) h = without (fields_of F i)

no-node-below : (F : Functions) (m : ℕ) → highest 0 (node_all F no_node) ≤ m
unfolding plan_names
no-node-below F m = omega (arith, highest-one [], empty-name)

abbrev pub no_field : Field
no_field = unqualified_field []

-- a reference to a field of a node brings no number that the book has not
pub column-number : (m : Model) (p k : ℕ) → highest 0 (expr_names (reference (get_or (fields_of m.functions (tree_at m p)) k no_field))) < next_number m
unfolding expr_names field_names qualifier_names
column-number m p k =
    let F = m.functions in
    let n = highest 0 (flat_map (node_all F) m.plans) in
    let fs = fields_of F (tree_at m p) in
    let f = get_or fs k no_field in
    let here : highest 0 (names_in fs ++ plan_names (tree_at m p)) ≤ n = at-below n (node_all F) no_node (no-node-below F n) m.plans p (omega arith) in
    let names : highest 0 (flat_map (λ g. g.name ∷ []) fs) ≤ n = subst (λ ns. highest 0 ns ≤ n) (sym (listed fs)) (first-below n (names_in fs) (plan_names (tree_at m p)) here) in
    let name : highest 0 (f.name ∷ []) ≤ n = at-below n (λ g. g.name ∷ []) no_field (omega (arith, highest-one [], empty-name)) fs k names in
    let qualifier : highest 0 (own f) ≤ n = at-below n own no_field (none-above n) fs k (of-plan F n (tree_at m p) (second-below n (names_in fs) (plan_names (tree_at m p)) here)) in
    omega (arith, both-below n (f.name ∷ []) (own f) name qualifier, nodes-numbers m)
  where
    listed : (fs : List Field) → flat_map (λ g. g.name ∷ []) fs ≡ names_in fs
    listed [] = refl
    listed (f ∷ fs) = ap (λ ns. f.name ∷ ns) (listed fs)
