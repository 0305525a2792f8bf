-- Extract of a Filter, by what the walk through its predicate comes to.
use Rattle.std.proofs.Common.{◌≡◌, ℕ, ◌+◌, ◌<◌, ◌≤◌, true, false, List, [], ◌∷◌, Some, None, Ok, Err, sym, ap, ◌∙◌, subst, arith}
use Rattle.entries.specs.declared.node.PlanId.{PlanId}
use Rattle.extracting.specs.Walking.{Stopped, Walked, walk_in}
use Rattle.extracting.specs.declared.extractor.Extractor.{Extractor}
use Rattle.extracting.specs.declared.inputs.Inputs.TheVariants.{One}
use Rattle.plan.specs.Model.{Model, Within, count_of, expr_in}
use Rattle.plan.specs.Plans.{Plan, fields_of}
use Rattle.plan.specs.Plans.Plan.{filter}
use Rattle.plan.specs.Terms.{Expr}
use Rattle.plan.specs.declared.fault.Fault.{Fault}
use Rattle.rewriting.specs.Extracting.{extract_from_plan}
use Rattle.rewriting.specs.Generated.{next_number}
use Rattle.rewriting.specs.Outlay.{list_space, start_at, tree_space}
use Rattle.rewriting.specs.Routing
use Rattle.rewriting.specs.Routing.{empty_extractor, has_extractable_expr, routing_extract_all}
use Rattle.rewriting.proofs.Made.{filter-known}
use Rattle.rows.specs.Standing.{Good}
use Rattle.routing.specs.declared.owning.Side.TheVariants.{First}
use Rattle.stepping.specs.Steps.{AllGood, Steps}
use Rattle.tables.proofs.Answers.{space-same}
use Rattle.tables.proofs.Inputs.{tree-at}
use Rattle.tables.specs.Holding.{fields_at, model_of, plan_count, tree_in, view_in}
use Rattle.tables.specs.declared.tables.Tables.{Tables}
use Rattle.leaf_expressions.proofs.Halves.{whole}
use Rattle.leaf_expressions.proofs.Sole.{built-then, fields-stay, finish, finish_with, found-one, none-marked, none-new, refused-then, renamed-same, stopped, walked, walked-later}
use Rattle.leaf_expressions.specs.Comes.{Comes, extracted}
use Rattle.leaf_expressions.specs.Found.{Found, Renamed, Wider, over_one}

one-space : (e : Expr) → list_space (e ∷ []) ≡ tree_space e
unfolding list_space
one-space e = space-same _ _ _ _ _ _ _ _ _ _ (omega arith) (omega arith) (omega arith) (omega arith) (omega arith)

-- the predicate e, and the extractor o that the walk begins with
module _ (t : Tables) (p i : PlanId) (e : Expr) (tree : tree_in t p.0 ≡ filter e (tree_in t i.0)) (o : Routing.Extractor) (start : o ≡ empty_extractor (next_number (model_of t))) where
  abbrev w : Expr × Routing.Extractor
  w = walk_in t (One i) e o

  is-walked : walked t i.0 (e ∷ []) ≡ (w.0 ∷ [], w.1)
  unfolding routing_extract_all
  is-walked = ap (λ (g : Routing.Extractor). ((walk_in t (One i) e g).0 ∷ [], (walk_in t (One i) e g).1)) (sym start)

  is-whole : extracted t p.0 ≡ whole t (view_in t).functions (e ∷ []) (w.0 ∷ []) w.1 (finish t p.0 i.0 w.1 (filter w.0))
  unfolding extract_from_plan start_at
  is-whole =
      let F = (view_in t).functions in
      ap (λ (q : Plan). extract_from_plan F q (start_at (next_number (model_of t)))) tree
      ∙ ap (λ (g : Routing.Extractor). let v = walk_in t (One i) e g in whole t F (e ∷ []) (v.0 ∷ []) v.1 (finish_with F (tree_in t i.0) v.1 (fields_at t i.0) (filter v.0))) (sym start)
      ∙ ap (λ (q : Plan). whole t F (e ∷ []) (w.0 ∷ []) w.1 (finish_with F (tree_in t i.0) w.1 (fields_of F q) (filter w.0))) (sym tree)

  pub filter-unmarked : (m' : Model) → has_extractable_expr (view_in t).functions (e ∷ []) ≡ false → Comes (model_of t) (extracted t p.0) (Ok None) m'
  filter-unmarked m' h = none-marked t p.0 i.0 w.1 (filter w.0) (e ∷ []) (w.0 ∷ []) is-whole m' h

  module _ (some : has_extractable_expr (view_in t).functions (e ∷ []) ≡ true) where
    pub filter-stopped : (f : Fault) (m' : Model) → Stopped t (tree_space w.0) w.1 f → Comes (model_of t) (extracted t p.0) (Err f) m'
    filter-stopped f m' h = stopped t p.0 i.0 w.1 (filter w.0) (e ∷ []) (w.0 ∷ []) is-whole some f m' (subst (λ o. Stopped t o w.1 f) (sym (one-space w.0)) h)

    -- u are the tables after the walk, and r is the new predicate
    module _ (u : Tables) (x : Extractor) (r : ℕ) (walk : Walked t w r u x) where
      pub filter-old : (m' : Model) → x.is_new ≡ false → Comes (model_of t) (extracted t p.0) (Ok None) m'
      filter-old m' h = none-new t p.0 i.0 w.1 (filter w.0) (e ∷ []) (w.0 ∷ []) is-whole some u x walk.extractor m' h

      pub filter-found : AllGood (model_of t) → p.0 < plan_count t → i.0 < plan_count t → Found u x First i.0
      filter-found good node lt =
          let here : Good (view_in t).functions (filter e (tree_in t i.0)) = subst (Good (view_in t).functions) (tree-at t p.0 ∙ tree) (good p.0 node) in
          found-one t i.0 good lt (e ∷ []) u x (filter-known e (tree_in t i.0) here.0, tt) walk.grows (walk.extractor ∙ sym (ap (λ (v : List Expr × Routing.Extractor). v.1) is-walked))

      pub filter-renamed : (R : Plan) → Wider (fields_of (view_in u).functions R) (fields_at u i.0) → Renamed (fields_at u p.0) (fields_of (view_in u).functions R)
      filter-renamed R h = renamed-same (fields_at u p.0) (fields_of (view_in u).functions R) (fields_at u i.0) (fields-stay t u walk.grows p.0 ∙ ap (fields_of (view_in t).functions) tree ∙ sym (fields-stay t u walk.grows i.0)) h

      module _ (h : x.is_new ≡ true) where
        later : next_number (model_of t) ≤ w.1.next
        later = subst (λ (v : List Expr × Routing.Extractor). next_number (model_of t) ≤ v.1.next) is-walked (walked-later t i.0 (e ∷ []))

        spent : Within (model_of t).used (list_space (w.0 ∷ [])) (model_of u).used
        spent = subst (λ o. Within (model_of t).used o (model_of u).used) (sym (one-space w.0)) walk.spent

        abbrev node : Plan → Plan
        node = filter (expr_in (view_in u).trees r)

        pub filter-built : (q : PlanId) (m' : Model) → Steps (model_of u) x.next (over_one u x i.0 (fields_at u p.0) node) (Ok q) m' → (plan_count u ≤ q.0) × (q.0 + 1 ≡ count_of m') → Comes (model_of t) (extracted t p.0) (Ok (Some q)) m'
        filter-built q m' s last = built-then t p.0 i.0 w.1 (filter w.0) (e ∷ []) (w.0 ∷ []) is-whole some u x walk.extractor h later walk.grows spent walk.numbers node (ap (λ (d : Expr). λ (q : Plan). filter d q) walk.tree) q m' s last

        pub filter-refused : (f : Fault) (m' : Model) → Steps (model_of u) x.next (over_one u x i.0 (fields_at u p.0) node) (Err f) m' → Comes (model_of t) (extracted t p.0) (Err f) m'
        filter-refused f m' s = refused-then t p.0 i.0 w.1 (filter w.0) (e ∷ []) (w.0 ∷ []) is-whole some u x walk.extractor h later walk.grows spent walk.numbers node (ap (λ (d : Expr). λ (q : Plan). filter d q) walk.tree) f m' s
