-- Pairs and needed columns that are merged into a list; cited by src/merge.rt, src/pairs.rt and src/columns.rt.
--     pair_of v d, pairs_at v s d      what was taken out, less one alias, and its alias; as the only pair, or none where it is of another input than s
--     columns_at v s n, needed_at v x s      a needed column as the only one, or none where it is of another input; all that the extractor x has for s
--     AllKnown fs cs      each column means one of the fields fs
--     pair_in m p      a pair as an expression over the input, where m has what is behind the fields
--     pairs_in m ps acc      the list acc with pairs, as `add_pairs` has it
--     columns_in F ins m cs acc      the list with needed columns, as `add_columns` has it
--     merged_list F ins es ps cs      the list es with pairs and needed columns
--     AllMerged t x s under es r ids t'      what the extractor x has for the input s was merged into es, over the node under, or not
--     IsProjection t p under list      the node p is a Projection of that list over the node under
--     merged_tree t x s under list      that Projection, with what x has for s merged into it; merged_outcome: making it, at the stage of a merge
--     Gathered t o low es ids t'      ids stand for es; no more than the places o were used, and no number came from low on
--     Stopped t o es f      the places o do not fit, or es are past the limits
--     GatheredBy t o low es r ids t'      either
--     PairsMerged t m ps low before r ids t'      the pairs ps were merged into the list before, or not
use Rattle.std.specs.Prelude.{◌≡◌, ℕ, ◌<◌, ◌≤◌, true, false, ◌⊎◌, List, [], ◌∷◌, map, length, Ok, Err, Result}
use Rattle.plan.specs.Calls.{all_below}
use Rattle.plan.specs.Functions.{Functions}
use Rattle.plan.specs.Model.{Space, Within, expr_in, exprs_in}
use Rattle.plan.specs.Rendering.{unqualified_field}
use Rattle.plan.specs.Terms.{Expr, Field}
use Rattle.plan.specs.Terms.Expr.{alias, reference}
use Rattle.plan.specs.Plans.{Plan}
use Rattle.plan.specs.Plans.Plan.{projection}
use Rattle.plan.specs.declared.fault.Fault.{Fault}
use Rattle.plan.specs.declared.fault.Stage.TheVariants.{Merge}
use Rattle.rows.specs.Standing.{Known}
use Rattle.std.specs.List.{AllByRecursion}
use Rattle.rewriting.specs.Extracting.{Outcome, ReplaceMap as TreeMap, add_column, add_pair, build_projection_replace_map, extraction_space, made, merged, replace_cols_by_name}
use Rattle.rewriting.specs.Generated.{generated}
use Rattle.rewriting.specs.Routing.{Pair, needed_of, pairs_of, unalias}
use Rattle.routing.specs.Sides.{side_of}
use Rattle.routing.specs.declared.owning.Side.{Side}
use Rattle.entries.specs.declared.node.ExprId.{ExprId}
use Rattle.entries.specs.declared.node.PlanId.{PlanId}
use Rattle.entries.specs.declared.node.Run.{Run}
use Rattle.extracting.specs.Extractors.{entry_of, need_of, needs_of}
use Rattle.extracting.specs.Walking.{Grows, NoRoom, Numbered}
use Rattle.extracting.specs.declared.extractor.Extracted.{Extracted}
use Rattle.extracting.specs.declared.extractor.Extractor.{Extractor}
use Rattle.extracting.specs.declared.extractor.Needed.{Needed}
use Rattle.stepping.specs.Lists.{at_side}
use Rattle.tables.specs.Holding.{fields_at, model_of, tree_in, view_in}
use Rattle.stored.specs.Stored.{list_in, run_exprs}
use Rattle.tables.specs.declared.tables.Tables.{Tables}
use Rattle.terms.specs.Views.{View, numbers_of}
use Rattle.rewriting.specs.Outlay.{Tally, charged, list_space}
use Rattle.merging.specs.Joining.{too_large, within_limits}
use Rattle.merging.specs.Replacing.{map_of}
use Rattle.merging.specs.declared.replacing.ReplaceMap.{ReplaceMap}

abbrev pub pair_of : View → Extracted → Pair
pair_of v d = (unalias (expr_in v.trees d.inner.0), generated d.alias)

abbrev pub pairs_at : View → Side → Extracted → List Pair
pairs_at v s d = pairs_of (side_of s) (entry_of v d ∷ [])

abbrev pub columns_at : View → Side → Needed → List Field
columns_at v s n = needed_of (side_of s) (need_of v n ∷ [])

abbrev pub needed_at : View → Extractor → Side → List Field
needed_at v x s = needed_of (side_of s) (needs_of v x)

abbrev pub AllKnown : List Field → List Field → Type 0
AllKnown fs cs = AllByRecursion (λ c. Known fs (reference c)) cs

abbrev pub pair_in : TreeMap → Pair → Expr
pair_in m p = alias (replace_cols_by_name m p.0) (unqualified_field p.1)

unfoldable pub pairs_in : TreeMap → List Pair → List Expr → List Expr
pairs_in m [] acc = acc
pairs_in m (p ∷ ps) acc = pairs_in m ps (add_pair (pair_in m p) acc)

unfoldable pub columns_in : Functions → List Field → TreeMap → List Field → List Expr → List Expr
columns_in F ins m [] acc = acc
columns_in F ins m (c ∷ cs) acc = columns_in F ins m cs (add_column F ins (replace_cols_by_name m (reference c)) acc)

pub record Gathered (t : Tables) (o : Space) (low : ℕ) (es : List Expr) (ids : List ExprId) (t' : Tables) : Type 0 where
  pub present : all_below (length (view_in t').trees) (numbers_of ids) ≡ true
  pub trees : exprs_in (view_in t').trees (numbers_of ids) ≡ es
  pub few : length ids ≤ 64
  pub grows : Grows (model_of t) (model_of t')
  pub spent : Within (model_of t).used o (model_of t').used
  pub numbers : Numbered (model_of t) low (model_of t')

abbrev pub Stopped : Tables → Space → List Expr → Fault → Type 0
Stopped t o es f = NoRoom t o f ⊎ ((f ≡ too_large) × (within_limits es ≡ false))

abbrev pub GatheredBy : Tables → Space → ℕ → List Expr → Result (Unit {0}) Fault → List ExprId → Tables → Type 0
GatheredBy t o low es (Ok u) ids t' = Gathered t o low es ids t'
GatheredBy t o low es (Err f) ids t' = Stopped t o es f

abbrev pub PairsMerged : Tables → ReplaceMap → List Pair → ℕ → List ExprId → Result (Unit {0}) Fault → List ExprId → Tables → Type 0
PairsMerged t m ps low before r ids t' =
    let k = map_of (view_in t) m in
    GatheredBy t (list_space (map (pair_in k) ps)) low (pairs_in k ps (exprs_in (view_in t).trees (numbers_of before))) r ids t'

abbrev pub merged_list : Functions → List Field → List Expr → List Pair → List Field → List Expr
merged_list F ins es ps cs = columns_in F ins (build_projection_replace_map F es) cs (pairs_in (build_projection_replace_map F es) ps es)

abbrev pub AllMerged : Tables → Extractor → Side → ℕ → List Expr → Result (Unit {0}) Fault → List ExprId → Tables → Type 0
AllMerged t x s under es r ids t' =
    let v = view_in t in
    let ps = at_side v x s in
    GatheredBy t (list_space (map (pair_in (build_projection_replace_map v.functions es)) ps)) x.next (merged_list v.functions (fields_at t under) es ps (needed_at v x s)) r ids t'

pub record IsProjection (t : Tables) (p : ℕ) (under : PlanId) (list : Run) : Type 0 where
  pub tree : tree_in t p ≡ projection (run_exprs (view_in t) list) (tree_in t under.0)
  pub lower : under.0 < p
  pub there : list_in (view_in t) list ≡ true
  pub few : list.count ≤ 64

abbrev pub merged_tree : Tables → Extractor → Side → PlanId → Run → Plan
merged_tree t x s under list =
    let v = view_in t in
    projection (merged v.functions (tree_in t under.0) (run_exprs v list) (at_side v x s) (needed_at v x s)) (tree_in t under.0)

abbrev pub merged_outcome : Tables → Extractor → Side → PlanId → Run → Tally → Outcome
merged_outcome t x s under list n =
    let v = view_in t in
    made v.functions Merge 0 (merged_tree t x s under list) (charged (extraction_space v.functions (projection (run_exprs v list) (tree_in t under.0)) (at_side v x s) (needed_at v x s)) n)
