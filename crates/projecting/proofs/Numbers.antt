-- The numbers of the fields of a node: a book's next number is above them.
use Rattle.std.proofs.Common.{◌≡◌, ℕ, suc, ◌<◌, ◌≤◌, max, Bool, true, false, List, [], ◌∷◌, ◌++◌, map, sym, refl, ap, ap₂, ◌∙◌, subst, arith}
use Rattle.std.specs.List.{flat_map}
use Rattle.std.proofs.lemmas.Grind.{flat_map-append}
use Rattle.numbering.specs.Own.{names_in}
use Rattle.numbering.proofs.Highest.{at-below, both-below, first-below, highest-append, highest-from, highest-more, highest-one, none-above, second-below}
use Rattle.numbering.proofs.Places.{node_all, of-list, of-nodes}
use Rattle.plan.specs.Functions.{Functions}
use Rattle.plan.specs.Model.{Model, no_node, tree_at}
use Rattle.plan.specs.Names.{Name, number_of}
use Rattle.plan.specs.Plans.{Plan, column_of, fields_of, kept_if, qualified_by, shows_left, shows_right, without_qualifier}
use Rattle.plan.specs.Plans.Plan.{aggregate, filter, join, limit, projection, sort, subquery_alias, table, union}
use Rattle.plan.specs.Rendering.{field_of}
use Rattle.plan.specs.Terms.{Expr, Field}
use Rattle.plan.specs.Terms.Expr.{alias, call, literal, reference}
use Rattle.rewriting.specs.Generated.{book_names, expr_names, field_names, highest, list_names, next_number, node_names, plan_names, qualifier_names}
use Rattle.rows.specs.Standing.{refs}
use Rattle.extracting.specs.Walking.{Grows}

abbrev qualifiers : List Field → List Name
qualifiers fs = flat_map (λ f. qualifier_names f.qualifier) fs

-- the names of references to fields are those of the fields
refs-below : (m : ℕ) (fs : List Field) → highest 0 (names_in fs) ≤ m → highest 0 (qualifiers fs) ≤ m → highest 0 (list_names (refs fs)) ≤ m
unfolding list_names expr_names field_names
refs-below m [] h k = none-above m
refs-below m (f ∷ fs) h k =
    let q = qualifier_names f.qualifier in
    omega (arith, highest-append (f.name ∷ q) (list_names (refs fs)), highest-more f.name q, highest-more f.name (names_in fs), highest-append q (qualifiers fs), refs-below m fs (omega (arith, highest-more f.name (names_in fs))) (omega (arith, highest-append q (qualifiers fs))))

module _ (m : ℕ) where
  all-qualified : (q : Name) (ns : List Name) → number_of q ≤ m → highest 0 (qualifiers (map (column_of q) ns)) ≤ m
  unfolding qualifier_names
  all-qualified q [] h = none-above m
  all-qualified q (n ∷ ns) h = omega (arith, highest-more q (qualifiers (map (column_of q) ns)), all-qualified q ns h)

  now-qualified : (q : Name) (fs : List Field) → number_of q ≤ m → highest 0 (qualifiers (map (qualified_by q) fs)) ≤ m
  unfolding qualifier_names
  now-qualified q [] h = none-above m
  now-qualified q (f ∷ fs) h = omega (arith, highest-more q (qualifiers (map (qualified_by q) fs)), now-qualified q fs h)

  none-qualified : (fs : List Field) → highest 0 (qualifiers (map without_qualifier fs)) ≤ m
  unfolding qualifier_names
  none-qualified [] = none-above m
  none-qualified (f ∷ fs) = none-qualified fs

  one-shown : (F : Functions) (e : Expr) → highest 0 (expr_names e) ≤ m → highest 0 (qualifier_names (field_of F e).qualifier) ≤ m
  unfolding expr_names field_names qualifier_names
  one-shown F (literal v) h = none-above m
  one-shown F (reference f) h = omega (arith, highest-more f.name (qualifier_names f.qualifier))
  one-shown F (alias e f) h = omega (arith, highest-append (field_names f) (expr_names e), highest-more f.name (qualifier_names f.qualifier))
  one-shown F (call n es) h = none-above m

  all-shown : (F : Functions) (es : List Expr) → highest 0 (list_names es) ≤ m → highest 0 (qualifiers (map (field_of F) es)) ≤ m
  unfolding list_names
  all-shown F [] h = none-above m
  all-shown F (e ∷ es) h =
      let q = qualifier_names (field_of F e).qualifier in
      both-below m q (qualifiers (map (field_of F) es)) (one-shown F e (first-below m (expr_names e) (list_names es) h)) (all-shown F es (second-below m (expr_names e) (list_names es) h))

  kept-qualified : (b : Bool) (fs : List Field) → highest 0 (qualifiers fs) ≤ m → highest 0 (qualifiers (kept_if b fs)) ≤ m
  kept-qualified true fs h = h
  kept-qualified false fs h = none-above m

  -- a plan has the qualifiers of its fields among its names
  plan-qualified : (F : Functions) (p : Plan) → highest 0 (plan_names p) ≤ m → highest 0 (qualifiers (fields_of F p)) ≤ m
  unfolding plan_names
  plan-qualified F (table k q ns) h = all-qualified q ns (omega (arith, highest-more q ns))
  plan-qualified F (projection es i) h = all-shown F es (first-below m (list_names es) (plan_names i) h)
  plan-qualified F (filter e i) h = plan-qualified F i (second-below m (expr_names e) (plan_names i) h)
  plan-qualified F (sort ks i) h = plan-qualified F i (second-below m (list_names (map (λ k. k.by) ks)) (plan_names i) h)
  plan-qualified F (limit s c i) h = plan-qualified F i h
  plan-qualified F (aggregate gs ts i) h = all-shown F (gs ++ ts) (first-below m (list_names (gs ++ ts)) (plan_names i) h)
  plan-qualified F (join k cs l r) h =
      let both = second-below m (list_names cs) (plan_names l ++ plan_names r) h in
      let left = kept-qualified (shows_left k) (fields_of F l) (plan-qualified F l (first-below m (plan_names l) (plan_names r) both)) in
      let right = kept-qualified (shows_right k) (fields_of F r) (plan-qualified F r (second-below m (plan_names l) (plan_names r) both)) in
      subst (λ xs. highest 0 xs ≤ m) (sym (flat_map-append (λ (f : Field). qualifier_names f.qualifier) (kept_if (shows_left k) (fields_of F l)) (kept_if (shows_right k) (fields_of F r))))
      (both-below m (qualifiers (kept_if (shows_left k) (fields_of F l))) (qualifiers (kept_if (shows_right k) (fields_of F r))) left right)
  plan-qualified F (subquery_alias n i) h = now-qualified n (fields_of F i) (omega (arith, highest-more n (plan_names i)))
  plan-qualified F (union i is) h = none-qualified (fields_of F i)

no-node-below : (F : Functions) (m : ℕ) → highest 0 (node_all F no_node) ≤ m
unfolding plan_names
no-node-below F m = let e : number_of [] ≡ 0 = refl in omega (arith, highest-one [])

next-of : (m : Model) → next_number m ≡ suc (max 99999999 (max (highest 0 (list_names m.exprs)) (highest 0 (node_names m.functions m.plans))))
unfolding next_number book_names
next-of m = omega (arith, highest-from 99999999 (list_names m.exprs ++ node_names m.functions m.plans), highest-append (list_names m.exprs) (node_names m.functions m.plans))

-- references to the fields of a node
pub node-fields : (m : Model) (i : ℕ) → highest 0 (list_names (refs (fields_of m.functions (tree_at m i)))) < next_number m
node-fields m i =
    let F = m.functions in
    let b = highest 0 (flat_map (node_all F) m.plans) in
    let all : highest 0 (node_all F (record { tree = tree_at m i; origin = 0 })) ≤ b = at-below b (node_all F) no_node (no-node-below F b) m.plans i (omega arith) in
    let names = first-below b (names_in (fields_of F (tree_at m i))) (plan_names (tree_at m i)) all in
    let own = second-below b (names_in (fields_of F (tree_at m i))) (plan_names (tree_at m i)) all in
    omega (arith, refs-below b (fields_of F (tree_at m i)) names (plan-qualified b F (tree_at m i) own), next-of m, ap (highest 0) (of-nodes F m.plans))

-- with more expressions the next number is no lower
pub next-grows : (m m' : Model) → Grows m m' → next_number m ≤ next_number m'
next-grows m m' g =
    let names : list_names (m.exprs ++ g.exprs.more) ≡ list_names m.exprs ++ list_names g.exprs.more =
    of-list (m.exprs ++ g.exprs.more) ∙ flat_map-append expr_names m.exprs g.exprs.more ∙ sym (ap₂ (λ xs ys. xs ++ ys) (of-list m.exprs) (of-list g.exprs.more)) in
    omega (arith, next-of m, next-of m', ap (λ l. highest 0 (list_names l)) g.exprs.is, ap (highest 0) names, highest-append (list_names m.exprs) (list_names g.exprs.more), ap₂ (λ F ns. highest 0 (node_names F ns)) g.functions g.plans)

-- one of some fields
pub one-of-fields : (m : ℕ) (fs : List Field) (f : Field) (gs : List Field) → highest 0 (list_names (refs (fs ++ f ∷ gs))) < m → highest 0 (expr_names (reference f)) < m
unfolding list_names
one-of-fields m [] f gs h = omega (arith, highest-append (expr_names (reference f)) (list_names (refs gs)))
one-of-fields m (e ∷ fs) f gs h = one-of-fields m fs f gs (omega (arith, highest-append (expr_names (reference e)) (list_names (refs (fs ++ f ∷ gs)))))
