-- Nodes made under questions 6 to 8; extraction and recovery projections, and extract.
--     Outcome      a tree, no change or a refusal, with the next number and what was spent
--     made F stage level p n      the node p if it passes, else the first question answered no; remade: its expressions are counted too
--     ReplaceMap, replace_cols_by_name m e      fields, and what stands in for each; e with what m has for its references
--     build_extraction_projection_impl F p ps cs      a Projection that has the pairs ps and all of p; a merge where p is one
--     build_extraction_projection F level p ps cs n      it, made; p where there is no pair
--     build_recovery_projection F level old p n      p with the fields old
--     extract_from_plan F p n      extract, of the node p, where n has the first number for an alias
use Rattle.std.specs.Prelude.{ℕ, Bool, true, false, cond, ◌&&◌, List, [], ◌∷◌, ◌++◌, map, length, Some, None, Option, ◌==◌, slice_index_or}
use Rattle.plan.specs.Terms.{Field, Expr, Exprs, same_field, same_expr}
use Rattle.plan.specs.Terms.Expr.{literal, reference, alias, call}
use Rattle.plan.specs.Terms.Exprs.{none, more}
use Rattle.plan.specs.Functions.{Functions}
use Rattle.plan.specs.Rendering.{field_of, unqualified_field}
use Rattle.plan.specs.Fields.{any, lawful}
use Rattle.plan.specs.Plans.{Plan, fields_of}
use Rattle.plan.specs.Plans.Plan.{table, projection, filter, sort, limit, aggregate, join, subquery_alias, union}
use Rattle.plan.specs.Model.{Space, plus}
use Rattle.plan.specs.Faults.{fault, first_no}
use Rattle.plan.specs.Questions.{expressions_of, node_asked}
use Rattle.plan.specs.declared.fault.Fault.{Fault}
use Rattle.plan.specs.declared.fault.Question.{Question}
use Rattle.plan.specs.declared.fault.Question.TheVariants.{Limited}
use Rattle.plan.specs.declared.fault.Stage.{Stage}
use Rattle.plan.specs.declared.fault.Stage.TheVariants.{Extraction, Merge, Rebuilt, Recovery}
use Rattle.rows.specs.Rows.{may_mean, seek}
use Rattle.rows.specs.Standing.{refs}
use Rattle.plan.specs.Swapping.{own_space}
use Rattle.rewriting.specs.Outlay.{Tally, charged, list_space, after_walk}
use Rattle.rewriting.specs.Routing.{one, two, Extractor, empty_extractor, Pair, unalias, pairs_of, needed_of, find_sole_input, find_owning_input, routing_extract, routing_extract_all, routing_extract_keys, schema_columns, has_extractable_expr}

pub data Outcome : Type 0 where
  built : Plan → Tally → Outcome
  no_change : Tally → Outcome
  refused : Fault → Tally → Outcome

unfoldable pub and_then : Outcome → (Plan → Tally → Outcome) → Outcome
and_then (built p n) f = f p n
and_then (no_change n) f = no_change n
and_then (refused x n) f = refused x n

unfoldable pub made_if : Option Question → Stage → ℕ → Plan → Tally → Outcome
made_if None stage level p n = built p n
made_if (Some q) stage level p n = refused (fault q stage level) n

unfoldable pub made : Functions → Stage → ℕ → Plan → Tally → Outcome
made F stage level p n = made_if (first_no (node_asked F p)) stage level p (charged (own_space F p) n)

-- its expressions are old ones, or new ones that no rule has built before: they are counted in full as well
unfoldable pub remade : Functions → Stage → ℕ → Plan → Tally → Outcome
remade F stage level p n = made F stage level p (charged (list_space (expressions_of p)) n)

-- fields, and at the same places what stands in for them
abbrev pub ReplaceMap : Type 0
ReplaceMap = List Field × List Expr

-- replace_cols_by_name, but by the field that a reference resolves to; one that resolves to none stays
unfoldable mutual
  pub replace_cols_by_name : ReplaceMap → Expr → Expr
  replace_cols_by_name m (literal v) = literal v
  replace_cols_by_name m (reference r) = slice_index_or m.1 (seek r m.0) (reference r)
  replace_cols_by_name m (alias e f) = alias (replace_cols_by_name m e) f
  replace_cols_by_name m (call n es) = call n (replace_cols_by_names m es)

  pub replace_cols_by_names : ReplaceMap → Exprs → Exprs
  replace_cols_by_names m none = none
  replace_cols_by_names m (more e es) = more (replace_cols_by_name m e) (replace_cols_by_names m es)

-- build_projection_replace_map: what is behind each field of a Projection, less one alias
abbrev pub build_projection_replace_map : Functions → List Expr → ReplaceMap
build_projection_replace_map F es = (map (field_of F) es, map unalias es)

-- an expression over a Projection's fields, as one over its input's
unfoldable pub resolved_in : Functions → List Expr → Expr → Expr
resolved_in F es e = replace_cols_by_name (build_projection_replace_map F es) e

abbrev pub aliased : Pair → Expr
aliased p = alias p.0 (unqualified_field p.1)

-- merging: a pair joins the list unless it stands there under the same alias
unfoldable pub add_pair : Expr → List Expr → List Expr
add_pair a acc = cond (any (same_expr a) acc) acc (acc ++ a ∷ [])

unfoldable pub add_pairs : Functions → List Expr → List Pair → List Expr → List Expr
add_pairs F es [] acc = acc
add_pairs F es (p ∷ ps) acc = add_pairs F es ps (add_pair (alias (resolved_in F es p.0) (unqualified_field p.1)) acc)

-- a pass-through column of the input joins the list if that leaves it lawful
unfoldable pub add_column : Functions → List Field → Expr → List Expr → List Expr
add_column F ins (literal v) acc = acc
add_column F ins (reference r) acc = cond (any (may_mean r) ins && lawful (map (field_of F) (acc ++ reference r ∷ []))) (acc ++ reference r ∷ []) acc
add_column F ins (alias e f) acc = acc
add_column F ins (call n args) acc = acc

unfoldable pub add_columns : Functions → List Field → List Expr → List Field → List Expr → List Expr
add_columns F ins es [] acc = acc
add_columns F ins es (c ∷ cs) acc = add_columns F ins es cs (add_column F ins (resolved_in F es (reference c)) acc)

-- the list of a Projection over i, with the pairs and the needed columns merged into it
unfoldable pub merged : Functions → Plan → List Expr → List Pair → List Field → List Expr
merged F i es ps cs = add_columns F (fields_of F i) es cs (add_pairs F es ps es)

-- the pairs, then every field
unfoldable pub freshly : List Field → List Pair → List Expr
freshly fs ps = map aliased ps ++ refs fs

-- build_extraction_projection_impl
unfoldable pub build_extraction_projection_impl : Functions → Plan → List Pair → List Field → Plan
build_extraction_projection_impl F (table k q ns) ps cs = projection (freshly (fields_of F (table k q ns)) ps) (table k q ns)
build_extraction_projection_impl F (projection es i) ps cs = projection (merged F i es ps cs) i
build_extraction_projection_impl F (filter e i) ps cs = projection (freshly (fields_of F (filter e i)) ps) (filter e i)
build_extraction_projection_impl F (sort ks i) ps cs = projection (freshly (fields_of F (sort ks i)) ps) (sort ks i)
build_extraction_projection_impl F (limit s c i) ps cs = projection (freshly (fields_of F (limit s c i)) ps) (limit s c i)
build_extraction_projection_impl F (aggregate gs ts i) ps cs = projection (freshly (fields_of F (aggregate gs ts i)) ps) (aggregate gs ts i)
build_extraction_projection_impl F (join k es l r) ps cs = projection (freshly (fields_of F (join k es l r)) ps) (join k es l r)
build_extraction_projection_impl F (subquery_alias n i) ps cs = projection (freshly (fields_of F (subquery_alias n i)) ps) (subquery_alias n i)
build_extraction_projection_impl F (union i is) ps cs = projection (freshly (fields_of F (union i is)) ps) (union i is)

-- the expression trees that it builds: all of the list; where it merges, the pairs also before their references are replaced, and what then does not join
unfoldable pub extraction_space : Functions → Plan → List Pair → List Field → Space
extraction_space F (table k q ns) ps cs = list_space (freshly (fields_of F (table k q ns)) ps)
extraction_space F (projection es i) ps cs =
    plus (plus (list_space es) (list_space (map aliased ps))) (plus (list_space (map (λ d. resolved_in F es (aliased d)) ps)) (list_space (map (λ c. resolved_in F es (reference c)) cs)))
extraction_space F (filter e i) ps cs = list_space (freshly (fields_of F (filter e i)) ps)
extraction_space F (sort ks i) ps cs = list_space (freshly (fields_of F (sort ks i)) ps)
extraction_space F (limit s c i) ps cs = list_space (freshly (fields_of F (limit s c i)) ps)
extraction_space F (aggregate gs ts i) ps cs = list_space (freshly (fields_of F (aggregate gs ts i)) ps)
extraction_space F (join k es l r) ps cs = list_space (freshly (fields_of F (join k es l r)) ps)
extraction_space F (subquery_alias n i) ps cs = list_space (freshly (fields_of F (subquery_alias n i)) ps)
extraction_space F (union i is) ps cs = list_space (freshly (fields_of F (union i is)) ps)

-- the stage that it is made at
unfoldable pub stage_of : Plan → Stage
stage_of (table k q ns) = Extraction
stage_of (projection es i) = Merge
stage_of (filter e i) = Extraction
stage_of (sort ks i) = Extraction
stage_of (limit s c i) = Extraction
stage_of (aggregate gs ts i) = Extraction
stage_of (join k es l r) = Extraction
stage_of (subquery_alias n i) = Extraction
stage_of (union i is) = Extraction

-- build_extraction_projection: an input with its pairs; as it is where there is none
unfoldable pub build_extraction_projection : Functions → ℕ → Plan → List Pair → List Field → Tally → Outcome
build_extraction_projection F level p [] cs n = built p n
build_extraction_projection F level p (d ∷ ds) cs n = made F (stage_of p) level (build_extraction_projection_impl F p (d ∷ ds) cs) (charged (extraction_space F p (d ∷ ds) cs) n)

unfoldable pub same_fields : List Field → List Field → Bool
same_fields [] [] = true
same_fields [] (g ∷ gs) = false
same_fields (f ∷ fs) [] = false
same_fields (f ∷ fs) (g ∷ gs) = same_field f g && same_fields fs gs

-- the fields gs, by place, under the names fs
unfoldable pub by_place : List Field → List Field → List Expr
by_place [] gs = []
by_place (f ∷ fs) [] = []
by_place (f ∷ fs) (g ∷ gs) = cond (same_field f g) (reference g) (alias (reference g) f) ∷ by_place fs gs

-- build_recovery_projection: none if the fields are the old ones; by place if there are as many, else by name
unfoldable pub build_recovery_projection : Functions → ℕ → List Field → Plan → Tally → Outcome
build_recovery_projection F level old p n =
    cond (same_fields old (fields_of F p)) (built p n)
    (remade F Recovery level (projection (cond (length old == length (fields_of F p)) (by_place old (fields_of F p)) (refs old)) p) n)

unfoldable pub rebuilt : Functions → ℕ → List Field → Plan → Tally → Outcome
rebuilt F level old p n = and_then (made F Rebuilt level p n) (λ q m. build_recovery_projection F level old q m)

-- no change where nothing is Marked, or where a walk from n to t took nothing out; a number past the bound is question 8
unfoldable pub when_extractable : Functions → List Expr → Tally → Outcome → Outcome
when_extractable F es n o = cond (has_extractable_expr F es) o (no_change n)

unfoldable pub when_new : Extractor → Tally → Tally → Outcome → Outcome
when_new g n t o = cond g.full (refused (fault Limited Extraction 0) t) (cond g.new o (no_change n))

-- extract_from_plan
unfoldable pub extract_from_plan : Functions → Plan → Tally → Outcome
extract_from_plan F (table k q ns) n = no_change n
extract_from_plan F (projection es i) n = no_change n
extract_from_plan F (filter e i) n = when_extractable F (e ∷ []) n (
    let w = routing_extract F (find_sole_input (schema_columns (fields_of F i))) e (empty_extractor n.next) in
    let t = after_walk (w.0 ∷ []) w.1.next n in
    when_new w.1 n t (and_then (build_extraction_projection F 0 i (pairs_of one w.1.entries) (needed_of one w.1.needed) t)
    (λ r m. rebuilt F 0 (fields_of F i) (filter w.0 r) m)))
extract_from_plan F (sort ks i) n = when_extractable F (map (λ k. k.by) ks) n (
    let w = routing_extract_keys F (find_sole_input (schema_columns (fields_of F i))) ks (empty_extractor n.next) in
    let t = after_walk (map (λ k. k.by) w.0) w.1.next n in
    when_new w.1 n t (and_then (build_extraction_projection F 0 i (pairs_of one w.1.entries) (needed_of one w.1.needed) t)
    (λ r m. rebuilt F 0 (fields_of F i) (sort w.0 r) m)))
extract_from_plan F (limit s c i) n = no_change n
extract_from_plan F (aggregate gs ts i) n = when_extractable F (gs ++ ts) n (
    let w = routing_extract_all F (find_sole_input (schema_columns (fields_of F i))) gs (empty_extractor n.next) in
    let v = routing_extract_all F (find_sole_input (schema_columns (fields_of F i))) ts w.1 in
    let t = after_walk (w.0 ++ v.0) v.1.next n in
    when_new v.1 n t (and_then (build_extraction_projection F 0 i (pairs_of one v.1.entries) (needed_of one v.1.needed) t)
    (λ r m. rebuilt F 0 (fields_of F (aggregate gs ts i)) (aggregate w.0 v.0 r) m)))
extract_from_plan F (join k cs l r) n = when_extractable F cs n (
    let w = routing_extract_all F (find_owning_input (schema_columns (fields_of F l)) (schema_columns (fields_of F r))) cs (empty_extractor n.next) in
    let t = after_walk w.0 w.1.next n in
    when_new w.1 n t (and_then (build_extraction_projection F 0 l (pairs_of one w.1.entries) (needed_of one w.1.needed) t)
    (λ x m. and_then (build_extraction_projection F 0 r (pairs_of two w.1.entries) (needed_of two w.1.needed) m)
    (λ y o. rebuilt F 0 (fields_of F (join k cs l r)) (join k w.0 x y) o))))
extract_from_plan F (subquery_alias s i) n = no_change n
extract_from_plan F (union i is) n = no_change n
