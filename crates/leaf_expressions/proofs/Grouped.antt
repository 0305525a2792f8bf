-- Extract of an Aggregate: what its two walks find for the input, and what each way out of it comes to.
--     extractable-first, extractable-second, both-lent      whether something Marked stands in one of two lists
--     tree-copied      the Aggregate by copies of its lists
--     found, all-total, renames      what is needed of the walks to build the new node
--     unmarked, walks-refused, none-taken, was-built, was-refused      the ways out
use Rattle.std.proofs.Common.{◌≡◌, ℕ, ◌+◌, ◌<◌, ◌≤◌, Bool, true, false, ◌||◌, T, List, [], ◌∷◌, ◌++◌, map, Some, None, Ok, Err, Option, sym, refl, ap, ap₂, ◌∙◌, subst, arith}
use Rattle.std.proofs.lemmas.Bool.{and_from}
use Rattle.std.specs.List.{AllByRecursion}
use Rattle.entries.specs.declared.node.ExprId.{ExprId}
use Rattle.entries.specs.declared.node.PlanId.{PlanId}
use Rattle.entries.specs.declared.node.Run.{Run}
use Rattle.entries.specs.Entries.{expr_of}
use Rattle.extracting.specs.Walking.{Stopped, walks_in}
use Rattle.extracting.specs.declared.inputs.Inputs.TheVariants.{One}
use Rattle.plan.specs.Calls.{good_field}
use Rattle.plan.specs.Fields.{any, every}
use Rattle.plan.specs.Functions.{Functions, is_total}
use Rattle.plan.specs.Model.{Model, count_of, exprs_in}
use Rattle.plan.specs.Plans.{Plan, fields_of}
use Rattle.plan.specs.Plans.Plan.{aggregate}
use Rattle.plan.specs.Rendering.{field_of}
use Rattle.plan.specs.Terms.{Expr, Field}
use Rattle.plan.specs.declared.fault.Fault.{Fault}
use Rattle.recovering.specs.Renaming.{can_rename}
use Rattle.rewriting.proofs.Fresh.{yes_true}
use Rattle.rewriting.proofs.Made.{aggregate-known, every-all}
use Rattle.rewriting.proofs.Totals.{HeadAll, head-total, totals-after}
use Rattle.rewriting.specs.Extracting.{Outcome, extract_from_plan, when_extractable, when_new}
use Rattle.rewriting.specs.Generated.{next_number}
use Rattle.rewriting.specs.Outlay.{Tally, after_walk, list_space, start_at}
use Rattle.rewriting.specs.Routing.{Extractor, Side, empty_extractor, find_sole_input, has_extractable_expr, schema_columns}
use Rattle.routing.specs.declared.owning.Side.TheVariants.{First}
use Rattle.rows.proofs.Lists.{all_split}
use Rattle.rows.specs.Standing.{Good, Known}
use Rattle.stepping.proofs.Fields.{good-fields}
use Rattle.stepping.specs.Steps.{AllGood, Steps}
use Rattle.stored.specs.Stored.{run_exprs}
use Rattle.swapping.proofs.Remade.{exprs-copied}
use Rattle.table.specs.Contents.{part}
use Rattle.tables.proofs.Inputs.{tree-at}
use Rattle.tables.specs.Holding.{fields_at, model_of, plan_count, tree_in, view_in}
use Rattle.tables.specs.declared.tables.Tables.{Tables}
use Rattle.terms.specs.Views.{numbers_of, view_of}
use Rattle.terms.specs.declared.terms.Terms.{Terms}
use Rattle.leaf_expressions.proofs.Halves.{whole}
use Rattle.leaf_expressions.proofs.Renamed.{lists-rename}
use Rattle.leaf_expressions.proofs.Sole.{built-then, fields-stay, finish, finish_with, found-one, none-marked, none-new, refused-then, stopped, walk-both, walked-later}
use Rattle.leaf_expressions.specs.Comes.{Comes, extracted}
use Rattle.leaf_expressions.specs.Found.{Found, Renamed, over_one}
use Rattle.leaf_expressions.specs.Walks.{BothWalked, both_in}
use Rattle.leaf_expressions.specs.declared.aggregate.Routed.{Routed}

-- one of two lists
any-first : {X : Type 0} (p : X → Bool) (xs ys : List X) → any p xs ≡ true → any p (xs ++ ys) ≡ true
any-first p [] ys h = absurd (let z : ◌≡◌ {A = ℕ} 0 1 = cc in omega arith)
any-first p (x ∷ xs) ys h = go (p x) h (any-first p xs ys)
  where
    go : (b : Bool) → (b || any p xs) ≡ true → (any p xs ≡ true → any p (xs ++ ys) ≡ true) → (b || any p (xs ++ ys)) ≡ true
    go true e f = refl
    go false e f = f e

any-second : {X : Type 0} (p : X → Bool) (xs ys : List X) → any p xs ≡ false → any p (xs ++ ys) ≡ any p ys
any-second p [] ys h = refl
any-second p (x ∷ xs) ys h = go (p x) h (any-second p xs ys)
  where
    go : (b : Bool) → (b || any p xs) ≡ false → (any p xs ≡ false → any p (xs ++ ys) ≡ any p ys) → (b || any p (xs ++ ys)) ≡ any p ys
    go true e f = absurd (let z : ◌≡◌ {A = ℕ} 0 1 = cc in omega arith)
    go false e f = f e

pub extractable-first : (F : Functions) (gs us : List Expr) → has_extractable_expr F gs ≡ true → has_extractable_expr F (gs ++ us) ≡ true
unfolding has_extractable_expr
extractable-first F gs us h = any-first _ gs us h

pub extractable-second : (F : Functions) (gs us : List Expr) → has_extractable_expr F gs ≡ false → has_extractable_expr F (gs ++ us) ≡ has_extractable_expr F us
unfolding has_extractable_expr
extractable-second F gs us h = any-second _ gs us h

-- asked of the terms of the tables, and of copies of the lists
pub both-lent : (t : Tables) (s : Terms) (xs ys cs ds : List ExprId) (a b : Bool) → s ≡ t.terms → xs ≡ cs → ys ≡ ds → a ≡ has_extractable_expr (view_of s).functions (exprs_in (view_of s).trees (numbers_of xs) ++ exprs_in (view_of s).trees (numbers_of ys)) → a ≡ b
    → has_extractable_expr (view_in t).functions (exprs_in (view_in t).trees (numbers_of cs) ++ exprs_in (view_in t).trees (numbers_of ds)) ≡ b
both-lent t s xs ys cs ds a b e k l h g =
    ap (λ (z : Terms). has_extractable_expr (view_of z).functions (exprs_in (view_of z).trees (numbers_of cs) ++ exprs_in (view_of z).trees (numbers_of ds))) (sym e)
    ∙ ap₂ (λ x y. has_extractable_expr (view_of s).functions (exprs_in (view_of s).trees (numbers_of x) ++ exprs_in (view_of s).trees (numbers_of y))) (sym k) (sym l) ∙ sym h ∙ g

pub tree-copied : (t : Tables) (p i : PlanId) (gs us : Run) (cs ds : List ExprId) → cs ≡ map expr_of (part (view_in t).entries gs.first gs.count) → ds ≡ map expr_of (part (view_in t).entries us.first us.count)
    → tree_in t p.0 ≡ aggregate (run_exprs (view_in t) gs) (run_exprs (view_in t) us) (tree_in t i.0) → tree_in t p.0 ≡ aggregate (exprs_in (view_in t).trees (numbers_of cs)) (exprs_in (view_in t).trees (numbers_of ds)) (tree_in t i.0)
tree-copied t p i gs us cs ds k l h = h ∙ ap₂ (λ x y. aggregate x y (tree_in t i.0)) (sym (exprs-copied (view_in t) gs cs k)) (sym (exprs-copied (view_in t) us ds l))

-- totals are totals after the walk
all-totals : (F : Functions) (K : Field → Expr → Type 0) (cs ds : List Expr) → HeadAll K cs ds → AllByRecursion (λ e. T (is_total F e)) cs → every (is_total F) ds ≡ true
all-totals F K [] [] h t = refl
all-totals F K [] (d ∷ ds) h t = absurd h
all-totals F K (c ∷ cs) [] h t = absurd h
all-totals F K (c ∷ cs) (d ∷ ds) h t = and_from _ _ (yes_true _ (head-total F h.0 t.0)) (all-totals F K cs ds h.1 t.1)

-- the node p, an Aggregate of gs and us over i
module _ (t : Tables) (p i : PlanId) (gs us : List Expr) (tree : tree_in t p.0 ≡ aggregate gs us (tree_in t i.0)) (here : p.0 < plan_count t) (below : i.0 < plan_count t) (good : AllGood (model_of t)) where
  abbrev F : Functions
  F = (view_in t).functions

  abbrev fs : List Field
  fs = fields_at t i.0

  abbrev own : Expr → Option Side
  own = find_sole_input (schema_columns fs)

  abbrev start : Extractor
  start = empty_extractor (next_number (model_of t))

  abbrev w : List Expr × Extractor
  w = walks_in t (One i) gs start

  abbrev v : List Expr × Extractor
  v = walks_in t (One i) us w.1

  -- what is built of what the walks found
  abbrev fin : Tally → Outcome
  fin = finish t p.0 i.0 v.1 (aggregate w.0 v.0)

  extracted-is : extracted t p.0 ≡ whole t F (gs ++ us) (w.0 ++ v.0) v.1 fin
  unfolding extract_from_plan start_at
  extracted-is =
      let n = start_at (next_number (model_of t)) in
      let k = after_walk (w.0 ++ v.0) v.1.next n in
      ap (λ q. extract_from_plan F q n) tree ∙ ap (λ hs. when_extractable F (gs ++ us) n (when_new v.1 n k (finish_with F (tree_in t i.0) v.1 hs (aggregate w.0 v.0) k))) (sym (ap (fields_of F) tree))

  node-good : Good F (aggregate gs us (tree_in t i.0))
  node-good = subst (Good F) (tree-at t p.0 ∙ tree) (good p.0 here)

  known : AllByRecursion (Known fs) (gs ++ us)
  known = aggregate-known gs us (tree_in t i.0) node-good.0 node-good.1

  later : next_number (model_of t) ≤ v.1.next
  later = omega (arith, walked-later t i.0 (gs ++ us), ap (λ (z : List Expr × Extractor). z.1.next) (walk-both F own gs us start))

  pub unmarked : (m' : Model) → has_extractable_expr F (gs ++ us) ≡ false → Comes (model_of t) (extracted t p.0) (Ok None) m'
  unmarked m' h = none-marked t p.0 i.0 v.1 (aggregate w.0 v.0) (gs ++ us) (w.0 ++ v.0) extracted-is m' h

  module _ (some : has_extractable_expr F (gs ++ us) ≡ true) where
    pub walks-refused : (f : Fault) (m' : Model) → Stopped t (list_space (w.0 ++ v.0)) v.1 f → Comes (model_of t) (extracted t p.0) (Err f) m'
    walks-refused f m' h = stopped t p.0 i.0 v.1 (aggregate w.0 v.0) (gs ++ us) (w.0 ++ v.0) extracted-is some f m' h

    -- both walks went through
    module _ (r : Routed) (u : Tables) (b : BothWalked t (both_in t i gs us) r u) where
      pub none-taken : (m' : Model) → r.extractor.is_new ≡ false → Comes (model_of t) (extracted t p.0) (Ok None) m'
      none-taken m' h = none-new t p.0 i.0 v.1 (aggregate w.0 v.0) (gs ++ us) (w.0 ++ v.0) extracted-is some u r.extractor b.extractor m' h

      pub found : Found u r.extractor First i.0
      found = found-one t i.0 good below (gs ++ us) u r.extractor known b.grows (b.extractor ∙ sym (ap (λ (z : List Expr × Extractor). z.1) (walk-both F own gs us start)))

      -- the lists that the new node is made of
      module _ (cs ds : List ExprId) (cs-are : cs ≡ r.groups) (ds-are : ds ≡ r.totals) where
        groups-are : exprs_in (view_in u).trees (numbers_of cs) ≡ w.0
        groups-are = ap (λ l. exprs_in (view_in u).trees (numbers_of l)) cs-are ∙ b.groups

        totals-are : exprs_in (view_in u).trees (numbers_of ds) ≡ v.0
        totals-are = ap (λ l. exprs_in (view_in u).trees (numbers_of l)) ds-are ∙ b.totals

        pub all-total : every (is_total (view_in u).functions) (exprs_in (view_in u).trees (numbers_of ds)) ≡ true
        all-total =
            let ts = every-all (is_total F) us node-good.2 in
            let ks = all_split (Known fs) gs us known in
            ap₂ (λ G es. every (is_total G) es) b.grows.functions totals-are ∙ all-totals F _ us v.0 (totals-after F fs us w.1 ts ks.1).0 ts

        pub renames : (R : Plan) → Renamed (fields_at u p.0) (fields_of (view_in u).functions (aggregate (exprs_in (view_in u).trees (numbers_of cs)) (exprs_in (view_in u).trees (numbers_of ds)) R))
        renames R = λ long.
            ap₂ can_rename (fields-stay t u b.grows p.0 ∙ ap (fields_of F) tree) (ap₂ (λ G es. map (field_of G) es) b.grows.functions (ap₂ (λ es hs. es ++ hs) groups-are totals-are))
            ∙ lists-rename F own gs us start (ap (λ q. every good_field (fields_of F q)) (sym tree) ∙ good-fields t good p.0 here)

        abbrev over : Plan → Plan
        over = aggregate (exprs_in (view_in u).trees (numbers_of cs)) (exprs_in (view_in u).trees (numbers_of ds))

        module _ (new : r.extractor.is_new ≡ true) (m' : Model) where
          pub was-built : (q : PlanId) → Steps (model_of u) r.extractor.next (over_one u r.extractor i.0 (fields_at u p.0) over) (Ok q) m' → (plan_count u ≤ q.0) × (q.0 + 1 ≡ count_of m') → Comes (model_of t) (extracted t p.0) (Ok (Some q)) m'
          was-built q s last =
              built-then t p.0 i.0 v.1 (aggregate w.0 v.0) (gs ++ us) (w.0 ++ v.0) extracted-is some u r.extractor b.extractor new later b.grows b.spent b.numbers over (ap₂ (λ es hs. aggregate es hs) groups-are totals-are) q m' s last

          pub was-refused : (f : Fault) → Steps (model_of u) r.extractor.next (over_one u r.extractor i.0 (fields_at u p.0) over) (Err f) m' → Comes (model_of t) (extracted t p.0) (Err f) m'
          was-refused f s =
              refused-then t p.0 i.0 v.1 (aggregate w.0 v.0) (gs ++ us) (w.0 ++ v.0) extracted-is some u r.extractor b.extractor new later b.grows b.spent b.numbers over (ap₂ (λ es hs. aggregate es hs) groups-are totals-are) f m' s
