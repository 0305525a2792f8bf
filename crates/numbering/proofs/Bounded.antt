-- Every number in the tables has at most nine digits: the names that were given are well formed, and a rendered name has none.
use Rattle.std.proofs.Common.{◌≡◌, ℕ, zero, suc, ◌+◌, ◌^◌, ◌≤◌, Bool, true, false, cond, ◌&&◌, ltb, leb, List, [], ◌∷◌, ◌++◌, map, length, drop, take, sym, refl, ap, ◌∙◌, subst, append_assoc, arith, ap₂, length-append, ◌/◌, ◌%◌}
use Rattle.std.specs.List.{flat_map}
use Rattle.std.specs.Str.{bytes_eq}
use Rattle.std.specs.Int.Signed.{mag}
use Rattle.std.specs.Float.{binary64}
use Rattle.std.specs.Prelude.{to_bits}
use Rattle.std.specs.Fmt.{signed_decimal}
use Rattle.std.proofs.Math.Bool.{and-false}
use Rattle.std.proofs.lemmas.Bool.{and_parts, leb-false, leb-true, ltb-true}
use Rattle.std.proofs.lemmas.Fmt.{length_signed_le}
use Rattle.std.proofs.lemmas.List.{drop-append-le, map-append}
use Rattle.numbering.specs.Own.{names_in, own_names}
use Rattle.numbering.proofs.Highest.{at-below, both-below, built-below, first-below, highest-append, highest-more, highest-one, none-above, one_name, picked-below, second-below}
use Rattle.plan.specs.Calls.{good_alias, good_field, good_qualifier, union_of}
use Rattle.plan.specs.Fields.{every}
use Rattle.plan.specs.Functions.{Functions, function_at, name_in}
use Rattle.plan.specs.Model.{exprs_in, no_expr, no_node, no_plan, plan_in, plans_in, Node}
use Rattle.plan.specs.Names.{Name, digit, digits, good_name, most_number, number_of, prefix, read_on}
use Rattle.plan.specs.Plans.{Plan, fields_of, kept_if, qualified_by, shown, shows_left, shows_right, without_qualifier}
use Rattle.plan.specs.Plans.Plan.{aggregate, filter, join, limit, projection, sort, subquery_alias, table, union}
use Rattle.plan.specs.Rendering.{field_of, hex_digit, hex_onto, rendered, rendered_all}
use Rattle.plan.specs.Terms.{Expr, Exprs, Field, Literal, Qualifier}
use Rattle.plan.specs.Terms.Expr.{alias, call, literal, reference}
use Rattle.plan.specs.Terms.Literal.{null, real, text, truth, whole}
use Rattle.plan.specs.Terms.Qualifier.{qualified, unqualified}
use Rattle.rewriting.specs.Generated.{field_names, highest, literal_names, qualifier_names, expr_names, list_names, node_names, plan_names}
use Rattle.terms.specs.Acceptance.{acceptable}
use Rattle.names.specs.Spans.{word}
use Rattle.numbering.proofs.Places.{columns-named, empty-name, no-expr-below, of-list, of-nodes, plan-step, plan_own}
use Rattle.plan.specs.declared.code.JoinKind.{JoinKind}
use Rattle.std.proofs.lemmas.List.Folds.{flat_map-map}
use Rattle.stored.specs.Stored.{build_plan, build_plan_node, fields_in, node_trees, plan_nodes, plan_trees, run_exprs, run_numbers, well_formed}
use Rattle.stored.specs.declared.node.PlanNode.{PlanNode}
use Rattle.stored.specs.declared.node.PlanNode.TheVariants.{Aggregate, Filter, Join, Limit, Projection, Sort, SubqueryAlias, Table, Union}
use Rattle.stored.specs.declared.node.PlanRecord.{PlanRecord}
use Rattle.terms.specs.Views.{View}
use Rattle.entries.specs.declared.node.Run.{Run}
use Rattle.entries.specs.declared.node.StoredField.{StoredField}

-- names without a number
no-number : (b d : Bool) (n : ℕ) → cond (b && (false && d)) n 0 ≡ 0
no-number true d n = refl
no-number false d n = refl

no-digits : (b d : Bool) (n : ℕ) → cond (b && (d && false)) n 0 ≡ 0
no-digits true true n = refl
no-digits true false n = refl
no-digits false d n = refl

pub short-none : (n : Name) → length n ≤ 23 → number_of n ≡ 0
short-none n h = go (ltb 23 (length n)) refl
  where
    go : (b : Bool) → ltb 23 (length n) ≡ b → number_of n ≡ 0
    go true e = absurd (let l = ltb-true 23 (length n) e in omega arith)
    go false e =
        ap (λ b. cond (bytes_eq (take 23 n) (prefix ++ 95 ∷ []) && (b && digits (drop 23 n))) (read_on 0 (drop 23 n)) 0) e
        ∙ no-number (bytes_eq (take 23 n) (prefix ++ 95 ∷ [])) (digits (drop 23 n)) (read_on 0 (drop 23 n))

closed : (cs : List ℕ) → digits (cs ++ 41 ∷ []) ≡ false
closed [] = refl
closed (c ∷ cs) = ap (λ b. digit c && b) (closed cs) ∙ and-false (digit c)

closed-none : (cs : Name) → number_of (cs ++ 41 ∷ []) ≡ 0
closed-none cs = go (leb 23 (length cs)) refl
  where
    go : (b : Bool) → leb 23 (length cs) ≡ b → number_of (cs ++ 41 ∷ []) ≡ 0
    go true e =
        let d : digits (drop 23 (cs ++ 41 ∷ [])) ≡ false = ap digits (drop-append-le 23 cs (41 ∷ []) (leb-true 23 (length cs) e)) ∙ closed (drop 23 cs) in
        ap (λ b. cond (bytes_eq (take 23 (cs ++ 41 ∷ [])) (prefix ++ 95 ∷ []) && (ltb 23 (length (cs ++ 41 ∷ [])) && b)) (read_on 0 (drop 23 (cs ++ 41 ∷ []))) 0) d
        ∙ no-digits (bytes_eq (take 23 (cs ++ 41 ∷ [])) (prefix ++ 95 ∷ [])) (ltb 23 (length (cs ++ 41 ∷ []))) (read_on 0 (drop 23 (cs ++ 41 ∷ [])))
    go false e = short-none (cs ++ 41 ∷ []) (omega (arith, length-append cs (41 ∷ []), leb-false 23 (length cs) e))

pub hex-long : (k n : ℕ) (acc : List ℕ) → length (hex_onto k n acc) ≡ k + length acc
hex-long zero n acc = omega arith
hex-long (suc k) n acc = hex-long k (n / 16) (hex_digit (n % 16) ∷ acc) ∙ omega arith

good-low : (n : Name) → good_name n ≡ true → number_of n ≤ most_number
good-low n h = leb-true _ _ (and_parts _ _ (and_parts _ _ h).1).1

module _ (F : Functions) where
  -- a field's name as a Projection shows it
  abbrev pub shown_name : Expr → List Name
  shown_name e = one_name (field_of F e)

  literal-kept : (v : Literal) → acceptable F (literal v) ≡ true → number_of (field_of F (literal v)).name ≤ highest 0 (literal_names v)
  unfolding literal_names
  literal-kept null h = let e : number_of (field_of F (literal null)).name ≡ 0 = refl in omega arith
  literal-kept (truth true) h = let e : number_of (field_of F (literal (truth true))).name ≡ 0 = refl in omega arith
  literal-kept (truth false) h = let e : number_of (field_of F (literal (truth false))).name ≡ 0 = refl in omega arith
  literal-kept (whole n) h =
      let l = ltb-true (mag n) (2 ^ 63) h in
      omega (arith, short-none (signed_decimal n) (let k = length_signed_le 20 n (omega arith) l in omega arith))
  literal-kept (real x) h = omega (arith, short-none (field_of F (literal (real x))).name (omega (arith, hex-long 16 (to_bits binary64 x) [])))
  literal-kept (text t) h = omega (arith, highest-one t)

  field-kept : (f : Field) → number_of f.name ≤ highest 0 (field_names f)
  unfolding field_names
  field-kept f = omega (arith, highest-more f.name (qualifier_names f.qualifier))

  pub call-none : (n : ℕ) (es : Exprs) → number_of (rendered F (call n es)) ≡ 0
  call-none n es =
      let e : rendered F (call n es) ≡ (name_in (function_at F n) ++ (40 ∷ rendered_all F es)) ++ 41 ∷ [] = sym (append_assoc (name_in (function_at F n)) (40 ∷ rendered_all F es) (41 ∷ [])) in
      ap number_of e ∙ closed-none (name_in (function_at F n) ++ (40 ∷ rendered_all F es))

  -- its number is that of a name of the expression, or 0
  shown-kept : (e : Expr) → acceptable F e ≡ true → number_of (field_of F e).name ≤ highest 0 (expr_names e)
  unfolding expr_names
  shown-kept (literal v) h = literal-kept v h
  shown-kept (reference f) h = field-kept f
  shown-kept (alias e f) h = omega (arith, highest-append (field_names f) (expr_names e), field-kept f)
  shown-kept (call n es) h = omega (arith, call-none n es)

  pub all-shown-kept : (es : List Expr) → every (acceptable F) es ≡ true → highest 0 (flat_map shown_name es) ≤ highest 0 (flat_map expr_names es)
  all-shown-kept [] h = omega arith
  all-shown-kept (e ∷ es) h =
      let p = and_parts (acceptable F e) (every (acceptable F) es) h in
      omega (arith, highest-append (shown_name e) (flat_map shown_name es), highest-append (expr_names e) (flat_map expr_names es), highest-one (field_of F e).name, shown-kept e p.0, all-shown-kept es p.1)

  pub no-shown-below : (m : ℕ) → highest 0 (shown_name no_expr) ≤ m
  no-shown-below m = omega (arith, highest-one (field_of F no_expr).name, shown-kept no_expr refl, no-expr-below m)

  named-low : (f : Field) → good_field f ≡ true → highest 0 (field_names f) ≤ most_number
  unfolding field_names qualifier_names
  named-low f h =
      let p = and_parts (good_name f.name) (good_qualifier f.qualifier) h in
      omega (arith, highest-more f.name (qualifier_names f.qualifier), good-low f.name p.0, of-qualifier f.qualifier p.1)
    where
      of-qualifier : (q : Qualifier) → good_qualifier q ≡ true → highest 0 (qualifier_names q) ≤ most_number
      of-qualifier unqualified h = none-above most_number
      of-qualifier (qualified q) h = omega (arith, highest-one q, good-low q h)

  own-low : (e : Expr) → acceptable F e ≡ true → highest 0 (own_names e) ≤ most_number
  unfolding literal_names
  own-low (literal v) h = of-literal v h
    where
      of-literal : (v : Literal) → acceptable F (literal v) ≡ true → highest 0 (literal_names v) ≤ most_number
      of-literal null h = none-above most_number
      of-literal (truth b) h = none-above most_number
      of-literal (whole n) h = none-above most_number
      of-literal (real x) h = none-above most_number
      of-literal (text t) h = omega (arith, highest-one t, good-low t h)
  own-low (reference f) h = named-low f h
  own-low (alias e f) h = named-low f (and_parts (good_field f) _ (and_parts (good_alias f) _ (and_parts (acceptable F e) _ h).1).0).0
  own-low (call n es) h = none-above most_number

  pub owns-low : (es : List Expr) → every (acceptable F) es ≡ true → highest 0 (flat_map own_names es) ≤ most_number
  owns-low [] h = none-above most_number
  owns-low (e ∷ es) h =
      let p = and_parts (acceptable F e) (every (acceptable F) es) h in
      both-below most_number (own_names e) (flat_map own_names es) (own-low e p.0) (owns-low es p.1)

-- the names of fields
pub mapped-names : (g : Field → Field) (fs : List Field) → ((f : Field) → (g f).name ≡ f.name) → names_in (map g fs) ≡ names_in fs
mapped-names g [] h = refl
mapped-names g (f ∷ fs) h = ap₂ (λ n ns. n ∷ ns) (h f) (mapped-names g fs h)

names-append : (fs gs : List Field) → names_in (fs ++ gs) ≡ names_in fs ++ names_in gs
names-append fs gs = map-append (λ f. f.name) fs gs

module _ (m : ℕ) where
  kept-below : (b : Bool) (fs : List Field) → highest 0 (names_in fs) ≤ m → highest 0 (names_in (kept_if b fs)) ≤ m
  kept-below true fs h = h
  kept-below false fs h = none-above m

  pub joined-below : (k : JoinKind) (fs gs : List Field) → highest 0 (names_in fs) ≤ m → highest 0 (names_in gs) ≤ m → highest 0 (names_in (shown k fs gs)) ≤ m
  joined-below k fs gs h i =
      subst (λ ns. highest 0 ns ≤ m) (sym (names-append (kept_if (shows_left k) fs) (kept_if (shows_right k) gs)))
      (both-below m (names_in (kept_if (shows_left k) fs)) (names_in (kept_if (shows_right k) gs)) (kept-below (shows_left k) fs h) (kept-below (shows_right k) gs i))

module _ (F : Functions) where
  pub expr-fields : (es : List Expr) → names_in (map (field_of F) es) ≡ flat_map (shown_name F) es
  expr-fields [] = refl
  expr-fields (e ∷ es) = ap (λ ns. (field_of F e).name ∷ ns) (expr-fields es)

  abbrev pub plan_fields : Plan → List Name
  plan_fields p = names_in (fields_of F p)

  pub union-fields-below : (m : ℕ) (ps : List Plan) → highest 0 (flat_map plan_fields ps) ≤ m → highest 0 (plan_fields (union_of ps)) ≤ m
  union-fields-below m [] k = none-above m
  union-fields-below m (p ∷ ps) k =
      subst (λ ns. highest 0 ns ≤ m) (sym (mapped-names without_qualifier (fields_of F p) (λ f. refl))) (first-below m (plan_fields p) (flat_map plan_fields ps) k)

  module _ (v : View) (m : ℕ) (known : highest 0 (flat_map (shown_name F) v.trees) ≤ m) (blank : highest 0 (shown_name F no_expr) ≤ m) where
    listed-below : (is : List ℕ) → highest 0 (flat_map (shown_name F) (exprs_in v.trees is)) ≤ m
    listed-below is = picked-below m (shown_name F) no_expr blank v.trees is known

    run-below : (l : Run) → highest 0 (names_in (map (field_of F) (run_exprs v l))) ≤ m
    run-below l = subst (λ ns. highest 0 ns ≤ m) (sym (expr-fields (run_exprs v l))) (listed-below (run_numbers v.entries l))

    module _ (ts : List Plan) (h : highest 0 (flat_map plan_fields ts) ≤ m) where
      input-below : (i : ℕ) → highest 0 (plan_fields (plan_in ts i)) ≤ m
      input-below i = at-below m plan_fields no_plan (none-above m) ts i h

      pub fields-step : (fs : List Field) (n : PlanNode) → highest 0 (plan_own (build_plan_node v fs ts n)) ≤ m → highest 0 (plan_fields (build_plan_node v fs ts n)) ≤ m
      fields-step fs (Table k q) own =
          omega (arith, ap (highest 0) (columns-named (word v.bytes q) (names_in fs)), highest-more (word v.bytes q) (names_in fs))
      fields-step fs (Projection i l) own = run-below l
      fields-step fs (Filter i e) own = input-below i.0
      fields-step fs (Sort i l) own = input-below i.0
      fields-step fs (Limit i s c) own = input-below i.0
      fields-step fs (Aggregate i gs us) own =
          subst (λ ns. highest 0 ns ≤ m) (sym (ap names_in (map-append (field_of F) (run_exprs v gs) (run_exprs v us)) ∙ names-append (map (field_of F) (run_exprs v gs)) (map (field_of F) (run_exprs v us))))
          (both-below m (names_in (map (field_of F) (run_exprs v gs))) (names_in (map (field_of F) (run_exprs v us))) (run-below gs) (run-below us))
      fields-step fs (Join j l r cs) own = joined-below m j (fields_of F (plan_in ts l.0)) (fields_of F (plan_in ts r.0)) (input-below l.0) (input-below r.0)
      fields-step fs (SubqueryAlias i n) own =
          subst (λ ns. highest 0 ns ≤ m) (sym (mapped-names (qualified_by (word v.bytes n)) (fields_of F (plan_in ts i.0)) (λ f. refl))) (input-below i.0)
      fields-step fs (Union l) own = union-fields-below m (plans_in ts (run_numbers v.entries l)) (picked-below m plan_fields no_plan (none-above m) ts (run_numbers v.entries l) h)

-- what a plan's own node brings
plan-own-low : (F : Functions) (p : Plan) → well_formed F p ≡ true → highest 0 (plan_own p) ≤ most_number
plan-own-low F (table k q ns) h =
    let a = and_parts (good_name q) (every good_name ns) h in
    omega (arith, highest-more q ns, good-low q a.0, columns-low ns a.1)
  where
    columns-low : (ns : List Name) → every good_name ns ≡ true → highest 0 ns ≤ most_number
    columns-low [] h = none-above most_number
    columns-low (n ∷ ns) h =
        let a = and_parts (good_name n) (every good_name ns) h in
        omega (arith, highest-more n ns, good-low n a.0, columns-low ns a.1)
plan-own-low F (projection es i) h = none-above most_number
plan-own-low F (filter e i) h = none-above most_number
plan-own-low F (sort ks i) h = none-above most_number
plan-own-low F (limit s c i) h = none-above most_number
plan-own-low F (aggregate gs ts i) h = none-above most_number
plan-own-low F (join k cs l r) h = none-above most_number
plan-own-low F (subquery_alias n i) h = omega (arith, highest-one n, good-low n h)
plan-own-low F (union i is) h = none-above most_number

no-plan-own : highest 0 (plan_own no_plan) ≤ most_number
no-plan-own = omega (arith, highest-one [], empty-name)

plans-own-low : (F : Functions) (ns : List Node) → every (well_formed F) (node_trees ns) ≡ true → highest 0 (flat_map (λ n. plan_own n.tree) ns) ≤ most_number
plans-own-low F [] h = none-above most_number
plans-own-low F (n ∷ ns) h =
    let p = and_parts (well_formed F n.tree) (every (well_formed F) (node_trees ns)) h in
    both-below most_number (plan_own n.tree) (flat_map (λ x. plan_own x.tree) ns) (plan-own-low F n.tree p.0) (plans-own-low F ns p.1)

-- over nodes as over their trees
mapped-below : (names : Plan → List Name) (ns : List Node) → highest 0 (flat_map (λ n. names n.tree) ns) ≤ most_number → highest 0 (flat_map names (node_trees ns)) ≤ most_number
mapped-below names ns h = subst (λ xs. highest 0 xs ≤ most_number) (sym (flat_map-map names (λ n. n.tree) ns)) h

both-lists : {T : Type 0} (f g : T → List Name) (ts : List T) → highest 0 (flat_map f ts) ≤ most_number → highest 0 (flat_map g ts) ≤ most_number → highest 0 (flat_map (λ t. f t ++ g t) ts) ≤ most_number
both-lists f g [] h k = none-above most_number
both-lists f g (t ∷ ts) h k =
    both-below most_number (f t ++ g t) (flat_map (λ x. f x ++ g x) ts)
    (both-below most_number (f t) (g t) (first-below most_number (f t) (flat_map f ts) h) (first-below most_number (g t) (flat_map g ts) k))
    (both-lists f g ts (second-below most_number (f t) (flat_map f ts) h) (second-below most_number (g t) (flat_map g ts) k))

-- the names of all fields, and of all trees
module _ (v : View) (fields : List StoredField) (rs : List PlanRecord) (accepted : every (acceptable v.functions) v.trees ≡ true) (formed : every (well_formed v.functions) (plan_trees v fields rs) ≡ true)
    (exprs : highest 0 (list_names v.trees) ≡ highest 0 (flat_map own_names v.trees)) where
  own : highest 0 (flat_map (λ n. plan_own n.tree) (plan_nodes v fields rs)) ≤ most_number
  own = plans-own-low v.functions (plan_nodes v fields rs) formed

  listed : highest 0 (flat_map expr_names v.trees) ≤ most_number
  listed = omega (arith, exprs, owns-low v.functions v.trees accepted, ap (highest 0) (of-list v.trees))

  trees-low : highest 0 (flat_map (λ n. plan_names n.tree) (plan_nodes v fields rs)) ≤ most_number
  trees-low =
      built-below most_number (build_plan v fields) (λ n. plan_names n.tree) (λ n. plan_own n.tree) no_node no-plan-own
      (λ ns r h k. plan-step v most_number listed (node_trees ns) (mapped-below plan_names ns h) (fields_in v.bytes fields r.fields) r.node k) rs own

  fields-low : highest 0 (flat_map (λ n. names_in (fields_of v.functions n.tree)) (plan_nodes v fields rs)) ≤ most_number
  fields-low =
      built-below most_number (build_plan v fields) (λ n. names_in (fields_of v.functions n.tree)) (λ n. plan_own n.tree) no_node no-plan-own
      (λ ns r h k. fields-step v.functions v most_number (omega (arith, all-shown-kept v.functions v.trees accepted, listed)) (no-shown-below v.functions most_number) (node_trees ns) (mapped-below (plan_fields v.functions) ns h) (fields_in v.bytes fields r.fields) r.node k) rs own

  pub book-low : highest 0 (list_names v.trees ++ node_names v.functions (plan_nodes v fields rs)) ≤ most_number
  book-low =
      both-below most_number (list_names v.trees) (node_names v.functions (plan_nodes v fields rs)) (omega (arith, exprs, owns-low v.functions v.trees accepted))
      (subst (λ ns. highest 0 ns ≤ most_number) (sym (of-nodes v.functions (plan_nodes v fields rs))) (both-lists (λ n. names_in (fields_of v.functions n.tree)) (λ n. plan_names n.tree) (plan_nodes v fields rs) fields-low trees-low))
