-- The inputs of a node, the node as its record says it, and how large the trees of some nodes are together.
use Rattle.std.proofs.Common.{◌≡◌, ℕ, ◌+◌, ◌*◌, ◌<◌, ◌≤◌, true, ◌&&◌, ltb, List, [], ◌∷◌, length, get_or, sum_by, sym, refl, ap, ◌∙◌, subst, arith}
use Rattle.std.proofs.lemmas.List.{length-map, get_or_default}
use Rattle.std.proofs.lemmas.List.Sums.{sum_by-cons}
use Rattle.std.proofs.lemmas.Bool.{and_parts, and_from, leb-true, ltb-true}
use Rattle.table.specs.Contents.{part}
use Rattle.table.proofs.Parts.{length_part}
use Rattle.plan.specs.Model.{no_node, inputs_at, plans_in, tree_at}
use Rattle.plan.specs.Plans.{further_inputs, plan_size_of, plan_sizes_of}
use Rattle.plan.specs.Calls.{below, all_below}
use Rattle.entries.specs.Entries.{entry_number}
use Rattle.terms.specs.Views.{View}
use Rattle.entries.specs.declared.node.Entry.{Entry}
use Rattle.entries.specs.declared.node.PlanId.{PlanId}
use Rattle.lexicon.proofs.Frames.{every-at}
use Rattle.tables.specs.Holding.{view_in, nodes_of, trees_in, tree_in, fields_at, model_of, plan_count}
use Rattle.stored.specs.Making.{input_numbers}
use Rattle.tables.specs.Reading.{ReadsAs}
use Rattle.stored.specs.Stored.{build_plan_node, node_inputs, inside_node, accepted_node, run_in, run_numbers, list_in}
use Rattle.entries.specs.declared.node.Run.{Run}
use Rattle.stored.specs.declared.node.PlanNode.{PlanNode}
use Rattle.stored.specs.declared.node.PlanNode.TheVariants.{Table, Projection, Filter, Sort, Limit, Aggregate, Join, SubqueryAlias, Union}
use Rattle.stored.specs.declared.node.PlanRecord.{PlanRecord}
use Rattle.tables.specs.declared.tables.Tables.{Tables}
use Rattle.tables.proofs.Held.{counted, reads_as}
use Rattle.stored.proofs.PlanFacts.{get_or-mapped}

-- what a record says of its node
pub record NodeReads (t : Tables) (p : ℕ) (n : PlanNode) : Type 0 where
  pub tree : tree_in t p ≡ build_plan_node (view_in t) (fields_at t p) (trees_in t) n
  pub inside : inside_node (view_in t) p n ≡ true
  pub accepted : accepted_node (view_in t).bytes n ≡ true
  pub inputs : inputs_at (model_of t) p ≡ node_inputs (view_in t).entries n

pub as-node : (t : Tables) (p : ℕ) (r : PlanRecord) (n : PlanNode) → ReadsAs t p r → r.node ≡ n → NodeReads t p n
as-node t p r n h e = subst (λ x. NodeReads t p x) e (record { tree = h.tree; inside = h.inside; accepted = h.accepted; inputs = h.inputs })

-- the record of a node, which is there
abbrev filler : PlanRecord
filler = record { node = Limit (record { 0 = 0 }) 0 0; fields = record { first = 0; count = 0 }; size = 0; origin = record { 0 = 0 } }

pub node_at_lem : (t : Tables) (p : ℕ) → p < plan_count t → NodeReads t p (get_or t.plans p filler).node
node_at_lem t p lt =
    let rs = t.plans in
    let r = get_or rs p filler in
    as-node t p r r.node (reads_as t p r lt (get_or_default rs p filler r (omega (arith, counted t)))) refl

pub tree-at : (t : Tables) (p : ℕ) → tree_at (model_of t) p ≡ tree_in t p
tree-at t p = sym (get_or-mapped (λ n. n.tree) (nodes_of t) p no_node)

pub run_long : (es : List Entry) (l : Run) → run_in es l ≡ true → length (run_numbers es l) ≡ l.count
run_long es l h =
    length-map (part es l.first l.count) entry_number ∙ length_part es l.first l.count (leb-true _ _ h)

-- every input is lower than the node
pub inputs-below : (v : View) (i : ℕ) (n : PlanNode) → inside_node v i n ≡ true → all_below i (node_inputs v.entries n) ≡ true
inputs-below v i (Table k q) h = refl
inputs-below v i (Projection p l) h = and_from _ _ (and_parts (ltb p.0 i) _ h).0 refl
inputs-below v i (Filter p e) h = and_from _ _ (and_parts (ltb p.0 i) _ h).0 refl
inputs-below v i (Sort p l) h = and_from _ _ (and_parts (ltb p.0 i) _ h).0 refl
inputs-below v i (Limit p s c) h = and_from _ _ h refl
inputs-below v i (Aggregate p gs us) h = and_from _ _ (and_parts (ltb p.0 i) _ h).0 refl
inputs-below v i (Join j l r cs) h =
    let p = and_parts (ltb l.0 i) (ltb r.0 i && list_in v cs) h in
    and_from _ _ p.0 (and_from _ _ (and_parts (ltb r.0 i) (list_in v cs) p.1).0 refl)
inputs-below v i (SubqueryAlias p n) h = and_from _ _ (and_parts (ltb p.0 i) _ h).0 refl
inputs-below v i (Union l) h = (and_parts (run_in v.entries l) _ h).1

pub input-lower : (t : Tables) (p k : ℕ) (n : PlanNode) → NodeReads t p n → k < length (inputs_at (model_of t) p) → get_or (inputs_at (model_of t) p) k 0 < p
input-lower t p k n h lt =
    let all : all_below p (inputs_at (model_of t) p) ≡ true = ap (all_below p) h.inputs ∙ inputs-below (view_in t) p n h.inside in
    ltb-true _ _ (every-at (below p) (inputs_at (model_of t) p) k 0 lt all)

small-tree : (t : Tables) (i : ℕ) → i < plan_count t → plan_size_of (tree_in t i) ≤ 64
small-tree t i lt =
    let r = get_or t.plans i filler in
    let h = reads_as t i r lt (get_or_default t.plans i filler r (omega (arith, counted t))) in
    omega (arith, h.size, h.small)

module _ (t : Tables) where
  pub sizes-added : (ps : List PlanId) → sum_by (λ p. plan_size_of (tree_in t p.0)) ps ≡ plan_sizes_of (further_inputs (plans_in (trees_in t) (input_numbers ps)))
  sizes-added [] = refl
  sizes-added (p ∷ ps) = sum_by-cons (λ q. plan_size_of (tree_in t q.0)) p ps ∙ ap (λ n. plan_size_of (tree_in t p.0) + n) (sizes-added ps)

  pub sizes-small : (ps : List PlanId) → all_below (plan_count t) (input_numbers ps) ≡ true → sum_by (λ p. plan_size_of (tree_in t p.0)) ps ≤ 64 * length ps
  sizes-small [] h = omega arith
  sizes-small (p ∷ ps) h =
      let q = and_parts (below (plan_count t) p.0) (all_below (plan_count t) (input_numbers ps)) h in
      omega (arith, sum_by-cons (λ x. plan_size_of (tree_in t x.0)) p ps, small-tree t p.0 (ltb-true _ _ q.0), sizes-small ps q.1)
