-- A building call that is accepted makes a good node, which stands on the nodes that it names.
use Rattle.std.proofs.Common.{◌≡◌, ℕ, ◌<◌, Bool, true, false, cond, not, ◌&&◌, T, eqb, List, [], ◌∷◌, ◌++◌, map, length, Some, None, refl, ap, arith, ltb→lt}
use lib.ListN.{get_or-map}
use mir.Facts.{and_yes, yes_and}
use Rattle.std.proofs.ByRecursion.{All-get_or}
use Rattle.std.specs.List.{AllByRecursion}
use Rattle.plan.specs.Calls.{Call, all_below, asked, below, between, equal_widths, new_inputs, new_trees}
use Rattle.plan.specs.Calls.Call.{make_aggregate, make_alias, make_call, make_filter, make_join, make_limit, make_literal, make_projection, make_reference, make_sort, make_subquery_alias, make_table, make_union}
use Rattle.plan.specs.Faults.{Asked, first_no}
use Rattle.plan.specs.Fields.{any, every}
use Rattle.plan.specs.Functions.{Functions, is_total}
use Rattle.plan.specs.Model.{Model, count_of, exprs_in, no_node, plan_in, plans_in, tree_at, trees_of}
use Rattle.plan.specs.Plans.{Plan, fields_of, further_inputs}
use Rattle.plan.specs.Questions.{node_asked}
use Rattle.rows.specs.Standing.{Good, Goods, Passed, wide_all}
use Rattle.plan.specs.Swapping.{inputs_of, plan_list}

-- every question was answered yes
pub all_yes : (qs : List Asked) → first_no qs ≡ None → AllByRecursion (λ a. T a.1) qs
all_yes [] p = tt
all_yes (a ∷ qs) p = go a.1 p (λ q. all_yes qs q)
  where
    go : (b : Bool) → cond b (first_no qs) (Some a.0) ≡ None → (first_no qs ≡ None → AllByRecursion (λ a. T a.1) qs) → T b × AllByRecursion (λ a. T a.1) qs
    go true p f = (tt, f p)
    go false p f = let z : ◌≡◌ {A = ℕ} 0 1 = cc in absurd (omega arith)

-- where no question was answered no, none of the first ones was
pub first-yes : (qs rest : List Asked) → first_no (qs ++ rest) ≡ None → first_no qs ≡ None
first-yes [] rest p = refl
first-yes (a ∷ qs) rest p = go a.1 p (λ q. first-yes qs rest q)
  where
    go : (b : Bool) → cond b (first_no (qs ++ rest)) (Some a.0) ≡ None → (first_no (qs ++ rest) ≡ None → first_no qs ≡ None) → cond b (first_no qs) (Some a.0) ≡ None
    go true p f = f p
    go false p f = p

pub passed : (F : Functions) (p : Plan) → AllByRecursion (λ a. T a.1) (node_asked F p) → Passed F p
passed F p h = record { resolves = h.0; lists = h.1.0; limits = h.1.1.0 }

module _ (s : Model) (good : AllByRecursion (λ n. Good s.functions n.tree) s.plans) where
  abbrev F : Functions
  F = s.functions

  abbrev m : Model
  m = s

  -- a node by its number
  plan-is : (i : ℕ) → plan_in (trees_of m) i ≡ tree_at s i
  plan-is i = get_or-map (λ n. n.tree) m.plans i no_node

  below-lt : (n i : ℕ) → T (below n i) → i < n
  below-lt n i h = ltb→lt i n h

  good-at : (i : ℕ) → T (below (count_of s) i) → Good F (plan_in (trees_of m) i)
  good-at i h = rw (plan-is i) (All-get_or (λ n. Good F n.tree) m.plans i no_node (below-lt (count_of s) i h) good)

  all-below : (is : List ℕ) → T (all_below (count_of s) is) → AllByRecursion (λ k. k < count_of s) is
  all-below [] h = tt
  all-below (i ∷ is) h = let a = and_yes (below (count_of s) i) (all_below (count_of s) is) h in (below-lt (count_of s) i a.0, all-below is a.1)

  goods-at : (is : List ℕ) → T (all_below (count_of s) is) → Goods F (further_inputs (plans_in (trees_of m) is))
  goods-at [] h = tt
  goods-at (i ∷ is) h = let a = and_yes (below (count_of s) i) (all_below (count_of s) is) h in (good-at i a.0, goods-at is a.1)

  wide_at : (n : ℕ) (ps : List Plan) → T (every (λ q. eqb (length (fields_of F q)) n) ps) → T (wide_all F n (further_inputs ps))
  unfolding wide_all
  wide_at n [] h = tt
  wide_at n (p ∷ ps) h =
      let a = and_yes (eqb (length (fields_of F p)) n) (every (λ q. eqb (length (fields_of F q)) n) ps) h in
      yes_and (eqb (length (fields_of F p)) n) (wide_all F n (further_inputs ps)) a.0 (wide_at n ps a.1)

  plans-are : (is : List ℕ) → plan_list (further_inputs (plans_in (trees_of m) is)) ≡ map (tree_at s) is
  plans-are [] = refl
  plans-are (i ∷ is) = let a = plan-is i in let b = plans-are is in cc

  -- what a call makes, if it makes a node
  abbrev pub GoodAll : List Plan → Type 0
  GoodAll ps = AllByRecursion (Good F) ps

  abbrev pub StandAll : List Plan → List (List ℕ) → Type 0
  StandAll [] [] = Unit {0}
  StandAll [] (ns ∷ nss) = ⊥
  StandAll (p ∷ ps) [] = ⊥
  StandAll (p ∷ ps) (ns ∷ nss) = (AllByRecursion (λ k. k < count_of s) ns × (inputs_of p ≡ map (tree_at s) ns)) × StandAll ps nss

  abbrev pub Fine : Call → Type 0
  Fine c = GoodAll (new_trees m c) × StandAll (new_trees m c) (new_inputs c)

  one_below : (i : ℕ) → T (below (count_of s) i) → AllByRecursion (λ k. k < count_of s) (i ∷ [])
  one_below i h = (below-lt (count_of s) i h, tt)

  one-is : (i : ℕ) → ◌≡◌ {A = List Plan} (plan_in (trees_of m) i ∷ []) (tree_at s i ∷ [])
  one-is i = ap (λ (p : Plan). p ∷ []) (plan-is i)

  unite : (is : List ℕ) → AllByRecursion (λ a. T a.1) (asked m (make_union is)) → Fine (make_union is)
  unite [] h = absurd h.1.0
  unite (i ∷ is) h =
      let a = and_yes (below (count_of s) i) (all_below (count_of s) is) h.0 in
      let b = and_yes (between 1 8 (length (i ∷ is))) (equal_widths F (plans_in (trees_of m) (i ∷ is))) h.1.0 in (
        ((passed F _ h.1.1, good-at i a.0, goods-at is a.1, wide_at (length (fields_of F (plan_in (trees_of m) i))) (plans_in (trees_of m) is) b.1), tt),
        (((below-lt (count_of s) i a.0, all-below is a.1), let x = plan-is i in let y = plans-are is in cc), tt),
      )

  pub built-fine : (c : Call) → first_no (asked m c) ≡ None → Fine c
  built-fine (make_literal v) p = (tt, tt)
  built-fine (make_reference f) p = (tt, tt)
  built-fine (make_alias e f) p = (tt, tt)
  built-fine (make_call n es) p = (tt, tt)
  built-fine (make_table q ns) p = let h = all_yes (asked m (make_table q ns)) p in ((passed F _ h.1.1, tt), ((tt, refl), tt))
  built-fine (make_projection i es) p =
      let h = all_yes (asked m (make_projection i es)) p in
      let a = and_yes (below (count_of s) i) _ h.0 in
      (((passed F _ h.1.1.1, good-at i a.0), tt), ((one_below i a.0, one-is i), tt))
  built-fine (make_filter i e) p =
      let h = all_yes (asked m (make_filter i e)) p in
      let a = and_yes (below (count_of s) i) _ h.0 in
      (((passed F _ h.1.1, good-at i a.0), tt), ((one_below i a.0, one-is i), tt))
  built-fine (make_sort i ks) p =
      let h = all_yes (asked m (make_sort i ks)) p in
      let a = and_yes (below (count_of s) i) _ h.0 in
      (((passed F _ h.1.1.1, good-at i a.0), tt), ((one_below i a.0, one-is i), tt))
  built-fine (make_limit i n c) p = let h = all_yes (asked m (make_limit i n c)) p in (((passed F _ h.1, good-at i h.0), tt), ((one_below i h.0, one-is i), tt))
  built-fine (make_aggregate i gs ts) p =
      let h = all_yes (asked m (make_aggregate i gs ts)) p in
      let a = and_yes (below (count_of s) i) _ h.0 in
      let t = and_yes (not (any (is_total F) (exprs_in m.exprs gs))) (every (is_total F) (exprs_in m.exprs ts)) h.1.1.0 in
      (((passed F _ h.1.1.1, good-at i a.0, t.1), tt), ((one_below i a.0, one-is i), tt))
  built-fine (make_join k l r cs) p =
      let h = all_yes (asked m (make_join k l r cs)) p in
      let a = and_yes (below (count_of s) l && below (count_of s) r) _ h.0 in
      let b = and_yes (below (count_of s) l) (below (count_of s) r) a.0 in (
        ((passed F _ h.1.1.1, good-at l b.0, good-at r b.1), tt),
        (((below-lt (count_of s) l b.0, (below-lt (count_of s) r b.1, tt)), let x = plan-is l in let y = plan-is r in cc), tt),
      )
  built-fine (make_subquery_alias i n) p = let h = all_yes (asked m (make_subquery_alias i n)) p in (((passed F _ h.1.1, good-at i h.0), tt), ((one_below i h.0, one-is i), tt))
  built-fine (make_union is) p = unite is (all_yes (asked m (make_union is)) p)
