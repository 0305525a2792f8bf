-- A Sort's keys, as a caller gives them and as the node holds them.
use Rattle.std.proofs.Common.{◌≡◌, ℕ, true, not, ◌&&◌, List, [], ◌∷◌, ◌++◌, map, length, is_some, sym, refl, ap, ◌∙◌, ap₂, Bor}
use Rattle.std.proofs.lemmas.List.{length-map}
use Rattle.std.proofs.lemmas.Simd.{map-map}
use Rattle.plan.specs.Calls.Call.{make_sort}
use Rattle.plan.specs.Calls.{below, all_below, between, key_in, node_outlay}
use Rattle.plan.specs.Codes.{direction_of}
use Rattle.plan.specs.Faults.{Asked}
use Rattle.plan.specs.Fields.{any, every}
use Rattle.plan.specs.Functions.{is_total}
use Rattle.plan.specs.Model.{exprs_in, plan_in}
use Rattle.plan.specs.Plans.Plan.{sort}
use Rattle.plan.specs.Questions.{node_asked}
use Rattle.plan.specs.Terms.{Expr}
use Rattle.plan.specs.declared.fault.Question.TheVariants.{Present, Bounded, Placed}
use Rattle.entries.specs.declared.node.PlanId.{PlanId}
use Rattle.tables.specs.Holding.{view_in, trees_in, plan_count}
use Rattle.building.specs.Keys.{key_pair, key_pairs, sort_key}
use Rattle.stored.specs.Making.{new_key, key_numbers}
use Rattle.stored.specs.declared.node.Key.{Key}
use Rattle.stored.specs.declared.node.NewNode.TheVariants.{Sort}
use Rattle.stored.specs.declared.node.SortKey.{SortKey}
use Rattle.tables.specs.declared.tables.Tables.{Tables}
use Rattle.building.proofs.NodeAnswers.{Makes}

-- the expressions of some keys are below a number, be they asked of the keys or of their pairs
pub keys_below : (n : ℕ) (ks : List Key) → all_below n (map (λ k. k.0) (key_pairs ks)) ≡ true → all_below n (map (λ k. k.by.0) ks) ≡ true
keys_below n ks h = ap (all_below n) (sym (map-map (λ k. k.0) key_pair ks)) ∙ h

pub sorted-numbers : (ks : List Key) → key_numbers (map sort_key ks) ≡ map (λ k. k.0) (key_pairs ks)
sorted-numbers [] = refl
sorted-numbers (k ∷ ks) = ap (λ l. k.by.0 ∷ l) (sorted-numbers ks)

pub sorted-keys : (ts : List Expr) (ks : List Key) → map (new_key ts) (map sort_key ks) ≡ map (key_in ts) (key_pairs ks)
sorted-keys ts [] = refl
sorted-keys ts (k ∷ ks) = ap (λ l. key_in ts (key_pair k) ∷ l) (sorted-keys ts ks)

-- what the call is asked before its node
abbrev pub sort_asked : Tables → PlanId → List Key → List Asked
sort_asked t i ks =
    (Present, below (plan_count t) i.0 && all_below (length (view_in t).trees) (map (λ k. k.0) (key_pairs ks)))
    ∷ (Bounded, between 1 16 (length (key_pairs ks)) && every (λ k. is_some (direction_of k.1)) (key_pairs ks))
    ∷ (Placed, not (any (is_total (view_in t).functions) (exprs_in (view_in t).trees (map (λ k. k.0) (key_pairs ks))))) ∷ []

pub sort-makes : (t : Tables) (i : PlanId) (r : Bor (List SortKey)) (ks : List Key) → r.now ≡ map sort_key ks → Makes t (Sort i r) (make_sort i.0 (key_pairs ks)) (sort_asked t i ks)
sort-makes t i r ks e =
    let v = view_in t in
    let p = plan_in (trees_in t) i.0 in
    let keys : map (key_in v.trees) (key_pairs ks) ≡ map (new_key v.trees) r.now = sym (ap (map (new_key v.trees)) e ∙ sorted-keys v.trees ks) in
    let count : length (key_pairs ks) ≡ length r.now = length-map ks key_pair ∙ sym (ap length e ∙ length-map ks sort_key) in
    record {
      asks = refl;
      own_first = ap (λ l. sort_asked t i ks ++ node_asked v.functions (sort l p)) keys;
      exprs = refl;
      plans = ap (λ l. record { tree = sort l p; origin = plan_count t } ∷ []) keys;
      inputs = refl;
      costs = ap₂ (λ l n. node_outlay v.functions (sort l p) n 0) keys count;
      number = refl;
    }
