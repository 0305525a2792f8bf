-- The numbers of a book are those that stand at its places: a tree's names are its own and those of trees before it.
use Rattle.std.proofs.Common.{◌≡◌, ℕ, ◌≤◌, max, List, [], ◌∷◌, ◌++◌, map, sym, refl, ap, ◌∙◌, subst, append_assoc, arith}
use Rattle.std.specs.List.{flat_map}
use Rattle.std.proofs.lemmas.Grind.{flat_map-append}
use Rattle.numbering.specs.Own.{names_in, node_own, own_names, relation_names}
use Rattle.numbering.proofs.Highest.{all-below, at-below, both-below, built-below, first-below, highest-append, highest-more, highest-none, highest-one, none-above, picked-below, second-below}
use Rattle.plan.specs.Calls.{union_of}
use Rattle.plan.specs.Functions.{Functions}
use Rattle.plan.specs.Model.{Node, expr_in, exprs_in, no_expr, no_node, no_plan, plan_in, plans_in}
use Rattle.plan.specs.Names.{Name, number_of}
use Rattle.plan.specs.Plans.{Plan, column_of, fields_of, further_inputs}
use Rattle.plan.specs.Plans.Plan.{aggregate, filter, join, limit, projection, sort, subquery_alias, table, union}
use Rattle.plan.specs.Terms.{Expr, Field, arguments}
use Rattle.plan.specs.Terms.Expr.{alias, call, literal, reference}
use Rattle.rewriting.specs.Generated.{expr_names, exprs_names, field_names, highest, list_names, literal_names, node_names, plan_names, plans_names}
use Rattle.names.specs.Spans.{word}
use Rattle.stored.specs.Stored.{build_plan, build_plan_node, fields_in, key_at, node_trees, plan_nodes, run_exprs, run_keys, run_numbers}
use Rattle.stored.specs.declared.node.PlanNode.{PlanNode}
use Rattle.stored.specs.declared.node.PlanNode.TheVariants.{Aggregate, Filter, Join, Limit, Projection, Sort, SubqueryAlias, Table, Union}
use Rattle.stored.specs.declared.node.PlanRecord.{PlanRecord}
use Rattle.terms.specs.Build.{build_node, build, numbers_in, trees}
use Rattle.entries.specs.Spans.{stored_field}
use Rattle.terms.specs.Views.{View}
use Rattle.entries.specs.declared.node.Entry.{Entry}
use Rattle.entries.specs.declared.node.ExprNode.{ExprNode}
use Rattle.entries.specs.declared.node.ExprNode.TheVariants.{Alias, Call, Constant, Reference}
use Rattle.entries.specs.declared.node.ExprRecord.{ExprRecord}
use Rattle.entries.specs.declared.node.Run.{Run}
use Rattle.entries.specs.declared.node.StoredField.{StoredField}
use Rattle.entries.specs.Entries.{entry_number}

-- expressions
pub of-list : (es : List Expr) → list_names es ≡ flat_map expr_names es
unfolding list_names
of-list [] = refl
of-list (e ∷ es) = ap (λ ns. expr_names e ++ ns) (of-list es)

of-arguments : (es : List Expr) → exprs_names (arguments es) ≡ flat_map expr_names es
unfolding expr_names
of-arguments [] = refl
of-arguments (e ∷ es) = ap (λ ns. expr_names e ++ ns) (of-arguments es)

own-of-expr : (e : Expr) → highest 0 (own_names e) ≤ highest 0 (expr_names e)
unfolding expr_names
own-of-expr (literal v) = omega arith
own-of-expr (reference f) = omega arith
own-of-expr (alias e f) = omega (arith, highest-append (field_names f) (expr_names e))
own-of-expr (call n es) = omega (arith, highest-none)

pub no-expr-below : (m : ℕ) → highest 0 (expr_names no_expr) ≤ m
unfolding expr_names literal_names
no-expr-below m = none-above m

no-own-below : (m : ℕ) → highest 0 (own_names no_expr) ≤ m
unfolding literal_names
no-own-below m = none-above m

module _ (bytes : List ℕ) (entries : List Entry) where
  expr-step : (m : ℕ) (ts : List Expr) (r : ExprRecord) → highest 0 (flat_map expr_names ts) ≤ m → highest 0 (own_names (build bytes entries ts r)) ≤ m → highest 0 (expr_names (build bytes entries ts r)) ≤ m
  unfolding expr_names
  expr-step m ts r h k = go r.node k
    where
      go : (n : ExprNode) → highest 0 (own_names (build_node bytes entries ts n)) ≤ m → highest 0 (expr_names (build_node bytes entries ts n)) ≤ m
      go (Constant l) k = k
      go (Reference f) k = k
      go (Alias inner f) k = both-below m (field_names (stored_field bytes f)) (expr_names (expr_in ts inner.0)) k (at-below m expr_names no_expr (no-expr-below m) ts inner.0 h)
      go (Call g run) k =
          subst (λ ns. highest 0 ns ≤ m) (sym (of-arguments (exprs_in ts (numbers_in entries run.first run.count))))
          (picked-below m expr_names no_expr (no-expr-below m) ts (numbers_in entries run.first run.count) h)

  pub exprs-numbers : (rs : List ExprRecord) → highest 0 (list_names (trees bytes entries rs)) ≡ highest 0 (flat_map own_names (trees bytes entries rs))
  exprs-numbers rs =
      let ts = trees bytes entries rs in
      let m = highest 0 (flat_map own_names ts) in
      let low : highest 0 (flat_map own_names ts) ≤ highest 0 (flat_map expr_names ts) = all-below own_names expr_names own-of-expr ts in
      let high : highest 0 (flat_map expr_names ts) ≤ m = built-below m (build bytes entries) expr_names own_names no_expr (no-own-below m) (expr-step m) rs (omega arith) in
      ap (highest 0) (of-list ts) ∙ omega arith

-- nodes: what a tree has but for expressions and inputs
abbrev pub plan_own : Plan → List Name
plan_own (table k q ns) = q ∷ ns
plan_own (projection es i) = []
plan_own (filter e i) = []
plan_own (sort ks i) = []
plan_own (limit s c i) = []
plan_own (aggregate gs ts i) = []
plan_own (join k cs l r) = []
plan_own (subquery_alias n i) = n ∷ []
plan_own (union i is) = []

of-inputs : (ps : List Plan) → plans_names (further_inputs ps) ≡ flat_map plan_names ps
unfolding plan_names
of-inputs [] = refl
of-inputs (p ∷ ps) = ap (λ ns. plan_names p ++ ns) (of-inputs ps)

pub empty-name : number_of [] ≡ 0
empty-name = refl

pub no-plan-below : (m : ℕ) → highest 0 (plan_names no_plan) ≤ m
unfolding plan_names
no-plan-below m = omega (arith, highest-one [], empty-name)

pub union-below : (m : ℕ) (ps : List Plan) → highest 0 (flat_map plan_names ps) ≤ m → highest 0 (plan_names (union_of ps)) ≤ m
unfolding plan_names
union-below m [] h = no-plan-below m
union-below m (p ∷ ps) h = subst (λ ns. highest 0 (plan_names p ++ ns) ≤ m) (sym (of-inputs ps)) h

keys-below : (m : ℕ) (ts : List Expr) (es : List Entry) → highest 0 (flat_map expr_names ts) ≤ m → highest 0 (list_names (map (λ k. k.by) (map (key_at ts) es))) ≤ m
unfolding list_names
keys-below m ts [] h = none-above m
keys-below m ts (e ∷ es) h = both-below m (expr_names (expr_in ts (entry_number e))) _ (at-below m expr_names no_expr (no-expr-below m) ts (entry_number e) h) (keys-below m ts es h)

pub columns-named : (q : Name) (ns : List Name) → names_in (map (column_of q) ns) ≡ ns
columns-named q [] = refl
columns-named q (n ∷ ns) = ap (λ l. n ∷ l) (columns-named q ns)

module _ (v : View) (m : ℕ) (known : highest 0 (flat_map expr_names v.trees) ≤ m) where
  run-below : (l : Run) → highest 0 (list_names (run_exprs v l)) ≤ m
  run-below l =
      subst (λ ns. highest 0 ns ≤ m) (sym (of-list (run_exprs v l))) (picked-below m expr_names no_expr (no-expr-below m) v.trees (run_numbers v.entries l) known)

  module _ (ts : List Plan) (h : highest 0 (flat_map plan_names ts) ≤ m) where
    input-below : (i : ℕ) → highest 0 (plan_names (plan_in ts i)) ≤ m
    input-below i = at-below m plan_names no_plan (no-plan-below m) ts i h

    pub plan-step : (fs : List Field) (n : PlanNode) → highest 0 (plan_own (build_plan_node v fs ts n)) ≤ m → highest 0 (plan_names (build_plan_node v fs ts n)) ≤ m
    unfolding plan_names
    plan-step fs (Table k q) own = own
    plan-step fs (Projection i l) own = both-below m (list_names (run_exprs v l)) (plan_names (plan_in ts i.0)) (run-below l) (input-below i.0)
    plan-step fs (Filter i e) own = both-below m (expr_names (expr_in v.trees e.0)) (plan_names (plan_in ts i.0)) (at-below m expr_names no_expr (no-expr-below m) v.trees e.0 known) (input-below i.0)
    plan-step fs (Sort i l) own = both-below m (list_names (map (λ k. k.by) (run_keys v l))) (plan_names (plan_in ts i.0)) (keys-below m v.trees _ known) (input-below i.0)
    plan-step fs (Limit i s c) own = input-below i.0
    plan-step fs (Aggregate i gs us) own =
        let lists = both-below m (flat_map expr_names (run_exprs v gs)) (flat_map expr_names (run_exprs v us))
        (picked-below m expr_names no_expr (no-expr-below m) v.trees (run_numbers v.entries gs) known) (picked-below m expr_names no_expr (no-expr-below m) v.trees (run_numbers v.entries us) known) in
        both-below m (list_names (run_exprs v gs ++ run_exprs v us)) (plan_names (plan_in ts i.0))
        (subst (λ ns. highest 0 ns ≤ m) (sym (of-list (run_exprs v gs ++ run_exprs v us) ∙ flat_map-append expr_names (run_exprs v gs) (run_exprs v us))) lists) (input-below i.0)
    plan-step fs (Join j l r cs) own =
        both-below m (list_names (run_exprs v cs)) (plan_names (plan_in ts l.0) ++ plan_names (plan_in ts r.0)) (run-below cs)
        (both-below m (plan_names (plan_in ts l.0)) (plan_names (plan_in ts r.0)) (input-below l.0) (input-below r.0))
    plan-step fs (SubqueryAlias i n) own =
        omega (arith, highest-more (word v.bytes n) (plan_names (plan_in ts i.0)), highest-one (word v.bytes n), input-below i.0)
    plan-step fs (Union l) own = union-below m (plans_in ts (run_numbers v.entries l)) (picked-below m plan_names no_plan (no-plan-below m) ts (run_numbers v.entries l) h)

-- all names of a node, those of its fields too
abbrev pub node_all : Functions → Node → List Name
node_all F n = names_in (fields_of F n.tree) ++ plan_names n.tree

pub of-nodes : (F : Functions) (ns : List Node) → node_names F ns ≡ flat_map (node_all F) ns
unfolding node_names
of-nodes F [] = refl
of-nodes F (n ∷ ns) =
    ap (λ l. names_in (fields_of F n.tree) ++ (plan_names n.tree ++ l)) (of-nodes F ns)
    ∙ sym (append_assoc (names_in (fields_of F n.tree)) (plan_names n.tree) (flat_map (node_all F) ns))

relation-of-plan : (p : Plan) → highest 0 (relation_names p) ≤ highest 0 (plan_names p)
unfolding plan_names
relation-of-plan (table k q ns) = omega (arith, highest-more q ns, highest-one q)
relation-of-plan (projection es i) = none-above _
relation-of-plan (filter e i) = none-above _
relation-of-plan (sort ks i) = none-above _
relation-of-plan (limit s c i) = none-above _
relation-of-plan (aggregate gs ts i) = none-above _
relation-of-plan (join k cs l r) = none-above _
relation-of-plan (subquery_alias n i) = omega (arith, highest-more n (plan_names i), highest-one n)
relation-of-plan (union i is) = none-above _

module _ (F : Functions) where
  own-of-node : (n : Node) → highest 0 (node_own F n) ≤ highest 0 (node_all F n)
  own-of-node n =
      omega (arith, highest-append (names_in (fields_of F n.tree)) (relation_names n.tree), highest-append (names_in (fields_of F n.tree)) (plan_names n.tree), relation-of-plan n.tree)

  own-below : (m : ℕ) (p : Plan) → highest 0 (names_in (fields_of F p) ++ relation_names p) ≤ m → highest 0 (plan_own p) ≤ m
  own-below m (table k q ns) h =
      let columns = ap (highest 0) (columns-named q ns) in
      omega (arith, highest-append (names_in (map (column_of q) ns)) (q ∷ []), highest-more q ns, highest-one q)
  own-below m (projection es i) h = none-above m
  own-below m (filter e i) h = none-above m
  own-below m (sort ks i) h = none-above m
  own-below m (limit s c i) h = none-above m
  own-below m (aggregate gs ts i) h = none-above m
  own-below m (join k cs l r) h = none-above m
  own-below m (subquery_alias n i) h = second-below m (names_in (fields_of F (subquery_alias n i))) (n ∷ []) h
  own-below m (union i is) h = none-above m

  pub trees-below : (m : ℕ) (ns : List Node) → highest 0 (flat_map (node_all F) ns) ≤ m → highest 0 (flat_map plan_names (node_trees ns)) ≤ m
  trees-below m [] h = none-above m
  trees-below m (n ∷ ns) h =
      both-below m (plan_names n.tree) (flat_map plan_names (node_trees ns)) (second-below m (names_in (fields_of F n.tree)) (plan_names n.tree) (first-below m (node_all F n) (flat_map (node_all F) ns) h))
      (trees-below m ns (second-below m (node_all F n) (flat_map (node_all F) ns) h))

-- all in all
pub book-numbers : (v : View) (fields : List StoredField) (rs : List PlanRecord) → highest 0 (list_names v.trees) ≡ highest 0 (flat_map own_names v.trees)
    → highest 0 (list_names v.trees ++ node_names v.functions (plan_nodes v fields rs)) ≡ max (highest 0 (flat_map own_names v.trees)) (highest 0 (flat_map (node_own v.functions) (plan_nodes v fields rs)))
book-numbers v fields rs exprs =
    let F = v.functions in
    let ns = plan_nodes v fields rs in
    let m = max (highest 0 (flat_map own_names v.trees)) (highest 0 (flat_map (node_own F) ns)) in
    let known : highest 0 (flat_map expr_names v.trees) ≤ m = omega (arith, ap (highest 0) (of-list v.trees)) in
    let low : highest 0 (flat_map (node_own F) ns) ≤ highest 0 (flat_map (node_all F) ns) = all-below (node_own F) (node_all F) (own-of-node F) ns in
    let high : highest 0 (flat_map (node_all F) ns) ≤ m = built-below m (build_plan v fields) (node_all F) (node_own F) no_node (none-below m) (step m known) rs (omega arith) in
    omega (arith, highest-append (list_names v.trees) (node_names F ns), ap (highest 0) (of-nodes F ns))
  where
    none-below : (m : ℕ) → highest 0 (node_own v.functions no_node) ≤ m
    none-below m = omega (arith, highest-one [], empty-name)

    step : (m : ℕ) → highest 0 (flat_map expr_names v.trees) ≤ m → (ns : List Node) (r : PlanRecord) → highest 0 (flat_map (node_all v.functions) ns) ≤ m → highest 0 (node_own v.functions (build_plan v fields ns r)) ≤ m → highest 0 (node_all v.functions (build_plan v fields ns r)) ≤ m
    step m known ns r h own =
        let t = build_plan_node v (fields_in v.bytes fields r.fields) (node_trees ns) r.node in
        both-below m (names_in (fields_of v.functions t)) (plan_names t) (first-below m (names_in (fields_of v.functions t)) (relation_names t) own)
        (plan-step v m known (node_trees ns) (trees-below v.functions m ns h) (fields_in v.bytes fields r.fields) r.node (own-below v.functions m t own))
