-- Extract of a Sort, by what the walk through its keys comes to.
use Rattle.std.proofs.Common.{◌≡◌, ◌+◌, ◌<◌, ◌≤◌, true, false, List, map, length, Some, None, Ok, Err, sym, ap, ap₂, ◌∙◌, subst}
use Rattle.std.proofs.ByRecursion.{All-map}
use Rattle.std.proofs.lemmas.List.{length-map}
use Rattle.entries.specs.declared.node.ExprId.{ExprId}
use Rattle.entries.specs.declared.node.PlanId.{PlanId}
use Rattle.extracting.proofs.Keys.{keys-walk}
use Rattle.extracting.proofs.Rewritten.{all-counted}
use Rattle.extracting.specs.Walking.{Stopped, WalkedAll, with_by}
use Rattle.extracting.specs.declared.extractor.Extractor.{Extractor}
use Rattle.plan.specs.Calls.{all_below}
use Rattle.plan.specs.Model.{Model, count_of}
use Rattle.plan.specs.Plans.{Key, Plan, fields_of}
use Rattle.plan.specs.Plans.Plan.{sort}
use Rattle.plan.specs.Terms.{Expr}
use Rattle.plan.specs.declared.fault.Fault.{Fault}
use Rattle.rewriting.proofs.Made.{sort-known}
use Rattle.rewriting.specs.Extracting.{Outcome, extract_from_plan}
use Rattle.rewriting.specs.Generated.{next_number}
use Rattle.rewriting.specs.Outlay.{list_space, start_at}
use Rattle.rewriting.specs.Routing
use Rattle.rewriting.specs.Routing.{empty_extractor, find_sole_input, has_extractable_expr, schema_columns}
use Rattle.rows.specs.Standing.{Good, Known}
use Rattle.routing.specs.declared.owning.Side.TheVariants.{First}
use Rattle.stepping.specs.Steps.{AllGood, Steps}
use Rattle.stored.specs.Making.{key_numbers, new_key}
use Rattle.stored.specs.declared.node.SortKey.{SortKey}
use Rattle.tables.proofs.Inputs.{tree-at}
use Rattle.tables.specs.Holding.{fields_at, model_of, plan_count, tree_in, view_in}
use Rattle.tables.specs.declared.tables.Tables.{Tables}
use Rattle.terms.specs.Views.{numbers_of}
use Rattle.leaf_expressions.proofs.Halves.{whole}
use Rattle.leaf_expressions.proofs.Keying.{keyed-numbers, keyed-trees, with-trees}
use Rattle.leaf_expressions.proofs.Sole.{built-then, fields-stay, finish, finish_with, found-one, none-marked, none-new, refused-then, renamed-same, stopped, walked, walked-later}
use Rattle.leaf_expressions.specs.Comes.{Comes, extracted}
use Rattle.leaf_expressions.specs.Found.{Found, Renamed, Wider, over_one}
use Rattle.leaf_expressions.specs.Keys.{keys_with}

-- the keys ks, and what the walk through their expressions comes to
module _ (t : Tables) (p i : PlanId) (ks : List Key) (tree : tree_in t p.0 ≡ sort ks (tree_in t i.0)) (w : List Expr × Routing.Extractor) (is : w ≡ walked t i.0 (map (λ k. k.by) ks)) where
  abbrev es : List Expr
  es = map (λ k. k.by) ks

  as-many : length w.0 ≡ length ks
  as-many = ap (λ (v : List Expr × Routing.Extractor). length v.0) is ∙ all-counted (view_in t).functions (find_sole_input (schema_columns (fields_at t i.0))) es (empty_extractor (next_number (model_of t))) ∙ length-map ks (λ k. k.by)

  -- the new keys qs, what they are sorted by, and the extractor
  abbrev outcome : List Key → List Expr → Routing.Extractor → Outcome
  outcome qs us g = whole t (view_in t).functions es us g (finish_with (view_in t).functions (tree_in t i.0) g (fields_at t i.0) (sort qs))

  is-whole : extracted t p.0 ≡ whole t (view_in t).functions es w.0 w.1 (finish t p.0 i.0 w.1 (sort (with_by ks w.0)))
  unfolding extract_from_plan start_at
  is-whole =
      let F = (view_in t).functions in
      ap (λ (q : Plan). extract_from_plan F q (start_at (next_number (model_of t)))) tree
      ∙ ap (λ (v : List Key × Routing.Extractor). outcome v.0 (map (λ k. k.by) v.0) v.1) (keys-walk F (find_sole_input (schema_columns (fields_at t i.0))) ks (empty_extractor (next_number (model_of t))))
      ∙ ap (λ (v : List Expr × Routing.Extractor). outcome (with_by ks v.0) (map (λ k. k.by) (with_by ks v.0)) v.1) (sym is)
      ∙ ap (λ (us : List Expr). outcome (with_by ks w.0) us w.1) (with-trees ks w.0 as-many)
      ∙ ap (λ (q : Plan). whole t F es w.0 w.1 (finish_with F (tree_in t i.0) w.1 (fields_of F q) (sort (with_by ks w.0)))) (sym tree)

  pub sort-unmarked : (m' : Model) → has_extractable_expr (view_in t).functions es ≡ false → Comes (model_of t) (extracted t p.0) (Ok None) m'
  sort-unmarked m' h = none-marked t p.0 i.0 w.1 (sort (with_by ks w.0)) es w.0 is-whole m' h

  module _ (some : has_extractable_expr (view_in t).functions es ≡ true) where
    pub sort-stopped : (f : Fault) (m' : Model) → Stopped t (list_space w.0) w.1 f → Comes (model_of t) (extracted t p.0) (Err f) m'
    sort-stopped f m' h = stopped t p.0 i.0 w.1 (sort (with_by ks w.0)) es w.0 is-whole some f m' h

    -- u are the tables after the walk, and rs are the new expressions
    module _ (u : Tables) (x : Extractor) (rs : List ExprId) (walk : WalkedAll t w rs u x) where
      pub sort-old : (m' : Model) → x.is_new ≡ false → Comes (model_of t) (extracted t p.0) (Ok None) m'
      sort-old m' h = none-new t p.0 i.0 w.1 (sort (with_by ks w.0)) es w.0 is-whole some u x walk.extractor m' h

      pub sort-found : AllGood (model_of t) → p.0 < plan_count t → i.0 < plan_count t → Found u x First i.0
      sort-found good node lt =
          let here : Good (view_in t).functions (sort ks (tree_in t i.0)) = subst (Good (view_in t).functions) (tree-at t p.0 ∙ tree) (good p.0 node) in
          found-one t i.0 good lt es u x (All-map (Known (fields_at t i.0)) (λ k. k.by) ks (sort-known ks (tree_in t i.0) here.0)) walk.grows (walk.extractor ∙ ap (λ (v : List Expr × Routing.Extractor). v.1) is)

      pub sort-renamed : (R : Plan) → Wider (fields_of (view_in u).functions R) (fields_at u i.0) → Renamed (fields_at u p.0) (fields_of (view_in u).functions R)
      sort-renamed R h = renamed-same (fields_at u p.0) (fields_of (view_in u).functions R) (fields_at u i.0) (fields-stay t u walk.grows p.0 ∙ ap (fields_of (view_in t).functions) tree ∙ sym (fields-stay t u walk.grows i.0)) h

      -- gs are the keys as the node names them
      module _ (gs : List SortKey) (read : map (new_key (view_in t).trees) gs ≡ ks) where
        pub sort-counted : length rs ≡ length gs
        sort-counted =
            sym (length-map rs (λ e. e.0)) ∙ sym (length-map (numbers_of rs) _) ∙ ap length walk.trees ∙ as-many ∙ sym (ap length read) ∙ length-map gs (new_key (view_in t).trees)

        -- and new are those of the new node
        module _ (new : List SortKey) (made : new ≡ keys_with gs rs) where
          pub sort-there : all_below (length (view_in u).trees) (key_numbers new) ≡ true
          sort-there = ap (all_below (length (view_in u).trees)) (ap key_numbers made ∙ keyed-numbers gs rs sort-counted) ∙ walk.present

          abbrev node : Plan → Plan
          node = sort (map (new_key (view_in u).trees) new)

          same-node : node ≡ sort (with_by ks w.0)
          same-node = ap (λ (l : List Key). λ (q : Plan). sort l q) (ap (map (new_key (view_in u).trees)) made ∙ keyed-trees (view_in t).trees (view_in u).trees gs rs ∙ ap₂ with_by read walk.trees)

          module _ (h : x.is_new ≡ true) where
            later : next_number (model_of t) ≤ w.1.next
            later = subst (λ (v : List Expr × Routing.Extractor). next_number (model_of t) ≤ v.1.next) (sym is) (walked-later t i.0 es)

            pub sort-built : (q : PlanId) (m' : Model) → Steps (model_of u) x.next (over_one u x i.0 (fields_at u p.0) node) (Ok q) m' → (plan_count u ≤ q.0) × (q.0 + 1 ≡ count_of m') → Comes (model_of t) (extracted t p.0) (Ok (Some q)) m'
            sort-built q m' s last = built-then t p.0 i.0 w.1 (sort (with_by ks w.0)) es w.0 is-whole some u x walk.extractor h later walk.grows walk.spent walk.numbers node same-node q m' s last

            pub sort-refused : (f : Fault) (m' : Model) → Steps (model_of u) x.next (over_one u x i.0 (fields_at u p.0) node) (Err f) m' → Comes (model_of t) (extracted t p.0) (Err f) m'
            sort-refused f m' s = refused-then t p.0 i.0 w.1 (sort (with_by ks w.0)) es w.0 is-whole some u x walk.extractor h later walk.grows walk.spent walk.numbers node same-node f m' s
