-- Plan trees stay as expressions, text, lists and fields are added.
use Rattle.std.proofs.Common.{◌≡◌, ℕ, zero, suc, ◌+◌, ◌≤◌, Bool, true, ◌&&◌, eqb, ltb, leb, List, [], ◌∷◌, ◌++◌, map, length, take, drop, refl, ap, ◌∙◌, ap₂, arith, length-append}
use Rattle.std.proofs.lemmas.List.{get_or_append_left}
use Rattle.std.proofs.lemmas.Bool.{and_parts, and_from, leb-true, le-leb, ltb-true, lt-ltb}
use Rattle.table.specs.Contents.{part}
use Rattle.table.specs.Fold.{all_ok}
use Rattle.table.proofs.Folds.{built-grow}
use Rattle.table.proofs.Parts.{part-grow}
use Rattle.plan.specs.Terms.{Field, Expr}
use Rattle.plan.specs.Plans.{Plan}
use Rattle.plan.specs.Plans.Plan.{table, projection, filter, sort, aggregate, join, subquery_alias}
use Rattle.plan.specs.Fields.{every}
use Rattle.plan.specs.Model.{Node, expr_in, exprs_in, plan_in, plans_in, no_expr}
use Rattle.plan.specs.Names.{good_name}
use Rattle.plan.specs.Calls.{below, all_below, union_of}
use Rattle.entries.specs.Entries.{entry_number}
use Rattle.entries.specs.Spans.{stored_field, stored_in}
use Rattle.names.specs.Spans.{span_in}
use Rattle.terms.specs.Views.{View, grown}
use Rattle.entries.specs.declared.node.Entry.{Entry}
use Rattle.entries.specs.declared.node.StoredField.{StoredField}
use Rattle.lexicon.proofs.Frames.{span_grow}
use Rattle.terms.proofs.Frames.{stored-grow}
use Rattle.stored.specs.Stored.{fields_in, run_in, key_at, run_numbers, run_exprs, run_keys, build_plan_node, build_plan, plan_nodes, node_trees, list_in, inside_node, inside_plan, sound_plans, node_inputs, inputs_from, accepted_node}
use Rattle.entries.specs.declared.node.Run.{Run}
use Rattle.stored.specs.declared.node.PlanNode.{PlanNode}
use Rattle.stored.specs.declared.node.PlanNode.TheVariants.{Table, Projection, Filter, Sort, Limit, Aggregate, Join, SubqueryAlias, Union}
use Rattle.stored.specs.declared.node.PlanRecord.{PlanRecord}

pub every_take : {X : Type 0} (p : X → Bool) (n : ℕ) (xs : List X) → every p xs ≡ true → every p (take n xs) ≡ true
every_take p zero xs h = refl
every_take p (suc n) [] h = refl
every_take p (suc n) (x ∷ xs) h = let q = and_parts (p x) (every p xs) h in and_from _ _ q.0 (every_take p n xs q.1)

pub every_drop : {X : Type 0} (p : X → Bool) (n : ℕ) (xs : List X) → every p xs ≡ true → every p (drop n xs) ≡ true
every_drop p zero xs h = h
every_drop p (suc n) [] h = refl
every_drop p (suc n) (x ∷ xs) h = every_drop p n xs (and_parts (p x) (every p xs) h).1

pub every-part : {X : Type 0} (p : X → Bool) (xs : List X) (s l : ℕ) → every p xs ≡ true → every p (part xs s l) ≡ true
every-part p xs s l h = every_take p l (drop s xs) (every_drop p s xs h)

pub below_more : (n m : ℕ) (js : List ℕ) → n ≤ m → all_below n js ≡ true → all_below m js ≡ true
below_more n m [] le h = refl
below_more n m (j ∷ js) le h =
    let p = and_parts (below n j) (all_below n js) h in
    and_from _ _ (lt-ltb j m (omega (arith, ltb-true j n p.0))) (below_more n m js le p.1)

exprs-append : (ts ts' : List Expr) (ns : List ℕ) → all_below (length ts) ns ≡ true → exprs_in (ts ++ ts') ns ≡ exprs_in ts ns
exprs-append ts ts' [] h = refl
exprs-append ts ts' (n ∷ ns) h =
    let p = and_parts (below (length ts) n) (all_below (length ts) ns) h in
    ap₂ (λ x y. x ∷ y) (get_or_append_left ts ts' no_expr n (ltb-true n (length ts) p.0)) (exprs-append ts ts' ns p.1)

keys-append : (ts ts' : List Expr) (es : List Entry) → all_below (length ts) (map entry_number es) ≡ true → map (key_at (ts ++ ts')) es ≡ map (key_at ts) es
keys-append ts ts' [] h = refl
keys-append ts ts' (e ∷ es) h =
    let p = and_parts (below (length ts) (entry_number e)) (all_below (length ts) (map entry_number es)) h in
    ap₂ (λ x y. record { by = x; direction = Rattle.stored.specs.Stored.entry_direction e } ∷ y) (get_or_append_left ts ts' no_expr (entry_number e) (ltb-true (entry_number e) (length ts) p.0)) (keys-append ts ts' es p.1)

module _ (v : View) (ts' : List Expr) (bs' : List ℕ) (es' : List Entry) where
  run-grow : (l : Run) → run_in v.entries l ≡ true → (run_in (v.entries ++ es') l ≡ true) × (part (v.entries ++ es') l.first l.count ≡ part v.entries l.first l.count)
  run-grow l h =
      let le = leb-true (l.first + l.count) (length v.entries) h in
      (le-leb _ _ (omega (arith, length-append v.entries es')), part-grow v.entries es' l.first l.count le)

  pub list-grow : (l : Run) → list_in v l ≡ true → (list_in (grown v ts' bs' es') l ≡ true) × (run_exprs (grown v ts' bs' es') l ≡ run_exprs v l) × (run_keys (grown v ts' bs' es') l ≡ run_keys v l)
  list-grow l h =
      let p = and_parts (run_in v.entries l) (all_below (length v.trees) (run_numbers v.entries l)) h in
      let r = run-grow l p.0 in
      let es = part v.entries l.first l.count in (
        and_from _ _ r.0 (ap (λ x. all_below (length (v.trees ++ ts')) (map entry_number x)) r.1 ∙ below_more (length v.trees) (length (v.trees ++ ts')) (map entry_number es) (omega (arith, length-append v.trees ts')) p.1),
        ap (λ x. exprs_in (v.trees ++ ts') (map entry_number x)) r.1 ∙ exprs-append v.trees ts' (map entry_number es) p.1,
        ap (λ x. map (key_at (v.trees ++ ts')) x) r.1 ∙ keys-append v.trees ts' es p.1,
      )

  expr-grow : (e : ℕ) → ltb e (length v.trees) ≡ true → (ltb e (length (v.trees ++ ts')) ≡ true) × (expr_in (v.trees ++ ts') e ≡ expr_in v.trees e)
  expr-grow e h =
      let lt = ltb-true e (length v.trees) h in
      (lt-ltb _ _ (omega (arith, length-append v.trees ts')), get_or_append_left v.trees ts' no_expr e lt)

  pub node-grow : (i : ℕ) (n : PlanNode) → inside_node v i n ≡ true
      → (inside_node (grown v ts' bs' es') i n ≡ true) × ((fs : List Field) (ts : List Plan) → build_plan_node (grown v ts' bs' es') fs ts n ≡ build_plan_node v fs ts n)
  node-grow i (Table k q) h =
      let p = and_parts (eqb k.0 i) (span_in v.bytes q) h in
      let a = span_grow v.bytes bs' q p.1 in
      (and_from _ _ p.0 a.1, λ fs ts. ap (λ w. table k.0 w (map (λ f. f.name) fs)) a.0)
  node-grow i (Projection p l) h =
      let q = and_parts (ltb p.0 i) (list_in v l) h in
      let a = list-grow l q.1 in
      (and_from _ _ q.0 a.0, λ fs ts. ap (λ x. projection x (plan_in ts p.0)) a.1)
  node-grow i (Filter p e) h =
      let q = and_parts (ltb p.0 i) (ltb e.0 (length v.trees)) h in
      let a = expr-grow e.0 q.1 in
      (and_from _ _ q.0 a.0, λ fs ts. ap (λ x. filter x (plan_in ts p.0)) a.1)
  node-grow i (Sort p l) h =
      let q = and_parts (ltb p.0 i) (list_in v l) h in
      let a = list-grow l q.1 in
      (and_from _ _ q.0 a.0, λ fs ts. ap (λ x. sort x (plan_in ts p.0)) a.2)
  node-grow i (Limit p s c) h = (h, λ fs ts. refl)
  node-grow i (Aggregate p gs us) h =
      let q = and_parts (ltb p.0 i) (list_in v gs && list_in v us) h in
      let r = and_parts (list_in v gs) (list_in v us) q.1 in
      let a = list-grow gs r.0 in
      let b = list-grow us r.1 in
      (and_from _ _ q.0 (and_from _ _ a.0 b.0), λ fs ts. ap₂ (λ x y. aggregate x y (plan_in ts p.0)) a.1 b.1)
  node-grow i (Join j l r cs) h =
      let q = and_parts (ltb l.0 i) (ltb r.0 i && list_in v cs) h in
      let u = and_parts (ltb r.0 i) (list_in v cs) q.1 in
      let a = list-grow cs u.1 in
      (and_from _ _ q.0 (and_from _ _ u.0 a.0), λ fs ts. ap (λ x. join j x (plan_in ts l.0) (plan_in ts r.0)) a.1)
  node-grow i (SubqueryAlias p n) h =
      let q = and_parts (ltb p.0 i) (span_in v.bytes n) h in
      let a = span_grow v.bytes bs' n q.1 in
      (and_from _ _ q.0 a.1, λ fs ts. ap (λ w. subquery_alias w (plan_in ts p.0)) a.0)
  node-grow i (Union l) h =
      let q = and_parts (run_in v.entries l) (all_below i (run_numbers v.entries l)) h in
      let a = run-grow l q.0 in
      (and_from _ _ a.0 (ap (λ x. all_below i (map entry_number x)) a.1 ∙ q.1), λ fs ts. ap (λ x. union_of (plans_in ts (map entry_number x))) a.1)

  pub accepted-grow : (i : ℕ) (n : PlanNode) → inside_node v i n ≡ true → accepted_node (v.bytes ++ bs') n ≡ accepted_node v.bytes n
  accepted-grow i (Table k q) h = ap good_name (span_grow v.bytes bs' q (and_parts (eqb k.0 i) (span_in v.bytes q) h).1).0
  accepted-grow i (Projection p l) h = refl
  accepted-grow i (Filter p e) h = refl
  accepted-grow i (Sort p l) h = refl
  accepted-grow i (Limit p s c) h = refl
  accepted-grow i (Aggregate p gs us) h = refl
  accepted-grow i (Join j l r cs) h = refl
  accepted-grow i (SubqueryAlias p n) h = ap good_name (span_grow v.bytes bs' n (and_parts (ltb p.0 i) (span_in v.bytes n) h).1).0
  accepted-grow i (Union l) h = refl

  pub inputs-grow : (i : ℕ) (n : PlanNode) → inside_node v i n ≡ true → node_inputs (v.entries ++ es') n ≡ node_inputs v.entries n
  inputs-grow i (Table k q) h = refl
  inputs-grow i (Projection p l) h = refl
  inputs-grow i (Filter p e) h = refl
  inputs-grow i (Sort p l) h = refl
  inputs-grow i (Limit p s c) h = refl
  inputs-grow i (Aggregate p gs us) h = refl
  inputs-grow i (Join j l r cs) h = refl
  inputs-grow i (SubqueryAlias p n) h = refl
  inputs-grow i (Union l) h = ap (map entry_number) (run-grow l (and_parts (run_in v.entries l) (all_below i (run_numbers v.entries l)) h).0).1

  module _ (fields fs' : List StoredField) (stored : every (stored_in v.bytes) fields ≡ true) where
    pub fields-grow : (r : Run) → run_in fields r ≡ true → (run_in (fields ++ fs') r ≡ true) × (fields_in (v.bytes ++ bs') (fields ++ fs') r ≡ fields_in v.bytes fields r)
    fields-grow r h =
        let le = leb-true (r.first + r.count) (length fields) h in
        let g = stored-grow v.bytes bs' (part fields r.first r.count) (every-part (stored_in v.bytes) fields r.first r.count stored) in
        (le-leb _ _ (omega (arith, length-append fields fs')), ap (map (stored_field (v.bytes ++ bs'))) (part-grow fields fs' r.first r.count le) ∙ g.0)

    pub record-grow : (i : ℕ) (r : PlanRecord) → inside_plan v fields i r ≡ true
        → (inside_plan (grown v ts' bs' es') (fields ++ fs') i r ≡ true) × ((ns : List Node) → build_plan (grown v ts' bs' es') (fields ++ fs') ns r ≡ build_plan v fields ns r)
    record-grow i r h =
        let o = and_parts (inside_node v i r.node && accepted_node v.bytes r.node) ((run_in fields r.fields && leb r.fields.count 64) && (leb r.origin.0 i && leb r.size 64)) h in
        let p = and_parts (inside_node v i r.node) (accepted_node v.bytes r.node) o.0 in
        let q = and_parts (run_in fields r.fields && leb r.fields.count 64) (leb r.origin.0 i && leb r.size 64) o.1 in
        let u = and_parts (run_in fields r.fields) (leb r.fields.count 64) q.0 in
        let a = node-grow i r.node p.0 in
        let f = fields-grow r.fields u.0 in (
          and_from _ _ (and_from _ _ a.0 (accepted-grow i r.node p.0 ∙ p.1)) (and_from _ _ (and_from _ _ f.0 u.1) q.1),
          λ ns. ap (λ x. record { tree = x; origin = r.origin.0 }) (ap (λ fs. build_plan_node (grown v ts' bs' es') fs (node_trees ns) r.node) f.1 ∙ a.1 (fields_in v.bytes fields r.fields) (node_trees ns)),
        )

    pub plans-grow : (rs : List PlanRecord) → sound_plans v fields rs ≡ true
        → (sound_plans (grown v ts' bs' es') (fields ++ fs') rs ≡ true) × (plan_nodes (grown v ts' bs' es') (fields ++ fs') rs ≡ plan_nodes v fields rs)
    plans-grow rs h =
        built-grow (build_plan v fields) (build_plan (grown v ts' bs' es') (fields ++ fs')) (inside_plan v fields) (inside_plan (grown v ts' bs' es') (fields ++ fs')) record-grow 0 rs [] h

    pub all-inputs-grow : (i : ℕ) (rs : List PlanRecord) → all_ok (inside_plan v fields) i rs ≡ true → inputs_from (v.entries ++ es') rs ≡ inputs_from v.entries rs
    all-inputs-grow i [] h = refl
    all-inputs-grow i (r ∷ rs) h =
        let p = and_parts (inside_plan v fields i r) (all_ok (inside_plan v fields) (i + 1) rs) h in
        let q = and_parts (inside_node v i r.node) (accepted_node v.bytes r.node) (and_parts (inside_node v i r.node && accepted_node v.bytes r.node) _ p.0).0 in
        ap₂ (λ x y. x ∷ y) (inputs-grow i r.node q.0) (all-inputs-grow (i + 1) rs p.1)
