-- The fresh Projection over an input; cited by src/fresh.rt.
--     entry_tree v d      the expression of an entry, less one alias, under the entry's alias
--     entry_trees v s d      it alone, where the entry is of the input s; else none
--     trees_for v x s      those of all entries of the extractor x
--     fresh_list t x s p, fresh_tree t x s p      the list of the fresh Projection over the node p, and that Projection
--     fresh_outcome t x s p      what making it comes to
--     small_list k es      k expressions and es are no more than 64, and es are small
--     Misfit t k es f      the places of es do not fit; or es are too many or too large behind k others
--     AliasedBy t e n r t'      r stands for the expression e, or e is a misfit
--     PairsBy t es low before r ids t'      ids is before and what stands for es, or es are a misfit
use Rattle.std.specs.Prelude.{◌≡◌, ℕ, ◌+◌, Bool, false, ◌&&◌, ◌⊎◌, List, [], ◌∷◌, map, length, Ok, Err, Result, nat_le}
use Rattle.extracting.specs.Extractors.{entry_of}
use Rattle.extracting.specs.Walking.{Built}
use Rattle.extracting.specs.declared.extractor.Extracted.{Extracted}
use Rattle.extracting.specs.declared.extractor.Extractor.{Extractor}
use Rattle.plan.specs.Faults.{fault}
use Rattle.plan.specs.Fields.{every}
use Rattle.plan.specs.Model.{expr_in, fits}
use Rattle.plan.specs.Plans.{Plan}
use Rattle.plan.specs.Plans.Plan.{projection}
use Rattle.plan.specs.Questions.{small_tree}
use Rattle.plan.specs.Rendering.{unqualified_field}
use Rattle.plan.specs.Terms.{Expr}
use Rattle.plan.specs.Terms.Expr.{alias}
use Rattle.plan.specs.declared.fault.Fault.{Fault}
use Rattle.plan.specs.declared.fault.Question.TheVariants.{Limited, Space as SpaceQuestion}
use Rattle.plan.specs.declared.fault.Stage.TheVariants.{Extraction}
use Rattle.rewriting.specs.Extracting.{Outcome, aliased, freshly, made}
use Rattle.rewriting.specs.Generated.{generated}
use Rattle.rewriting.specs.Outlay.{Tally, charged, list_space, tree_space}
use Rattle.rewriting.specs.Routing.{pairs_of, unalias}
use Rattle.routing.specs.Sides.{side_of}
use Rattle.routing.specs.declared.owning.Side.{Side}
use Rattle.stepping.specs.Lists.{at_side}
use Rattle.tables.specs.Holding.{fields_at, model_of, tree_in, view_in}
use Rattle.terms.specs.Views.{View}
use Rattle.projecting.specs.Onto.{Onto}
use Rattle.entries.specs.declared.node.ExprId.{ExprId}
use Rattle.tables.specs.declared.tables.Tables.{Tables}

abbrev pub entry_tree : View → Extracted → Expr
entry_tree v d = alias (unalias (expr_in v.trees d.inner.0)) (unqualified_field (generated d.alias))

abbrev pub entry_trees : View → Side → Extracted → List Expr
entry_trees v s d = map aliased (pairs_of (side_of s) (entry_of v d ∷ []))

abbrev pub trees_for : View → Extractor → Side → List Expr
trees_for v x s = map aliased (at_side v x s)

abbrev pub fresh_list : Tables → Extractor → Side → ℕ → List Expr
fresh_list t x s p = freshly (fields_at t p) (at_side (view_in t) x s)

abbrev pub fresh_tree : Tables → Extractor → Side → ℕ → Plan
fresh_tree t x s p = projection (fresh_list t x s p) (tree_in t p)

abbrev pub fresh_outcome : Tables → Extractor → Side → ℕ → Tally → Outcome
fresh_outcome t x s p n = made (view_in t).functions Extraction 0 (fresh_tree t x s p) (charged (list_space (fresh_list t x s p)) n)

abbrev pub small_list : ℕ → List Expr → Bool
small_list k es = nat_le (k + length es) 64 && every small_tree es

abbrev pub Misfit : Tables → ℕ → List Expr → Fault → Type 0
Misfit t k es f = ((f.question ≡ SpaceQuestion) × (fits (model_of t).used (list_space es) ≡ false)) ⊎ ((f ≡ fault Limited Extraction 0) × (small_list k es ≡ false))

abbrev pub AliasedBy : Tables → Expr → ℕ → Result ExprId Fault → Tables → Type 0
AliasedBy t e n (Ok r) t' = Built t (tree_space e) n e r.0 t'
AliasedBy t e n (Err f) t' = Misfit t 0 (e ∷ []) f

abbrev pub PairsBy : Tables → List Expr → ℕ → List ExprId → Result (Unit {0}) Fault → List ExprId → Tables → Type 0
PairsBy t es low before (Ok v) ids t' = Onto t es low before ids t'
PairsBy t es low before (Err f) ids t' = Misfit t (length before) es f
