-- Push: the extracted columns of a Projection moved towards the tables.
--     Split, split_all      a Projection's list, parted into what is captured and what the walk found, with the list that recovers it
--     Into, Place      the push of pairs and needed columns into a node; the same placed over a node, and pushed further
--     split_and_push F p into es level n      the push of the Projection of es over p, where `into` pushes into p
--     ExtractionTarget      the pairs and the needed columns that go to one input
--     remap_pairs_and_columns from to ps cs      pairs and columns over one list of fields, as over another, by place
--     route_to_inputs own ps cs      what goes to the first input and what to the second, if all of it can go
--     is_pure_extraction_projection es      a list of nothing but extracted aliases and references
--     Work, work F p      what is done over a node: a Projection that stands over it pushed, and pairs placed over it
--     push F p n      push, of the node p, where n has the first number for an alias
use Rattle.std.specs.Prelude.{ℕ, suc, Bool, true, false, cond, not, ◌&&◌, ◌||◌, List, [], ◌∷◌, ◌++◌, map, length, Some, None, Option, ◌==◌, nat_eq}
use Rattle.std.specs.Str.{bytes_eq}
use Rattle.plan.specs.Names.{Name, prefixed}
use Rattle.plan.specs.Terms.{Field, Expr, is_unqualified, references_of, same_expr, same_field}
use Rattle.plan.specs.Terms.Expr.{literal, reference, alias, call}
use Rattle.plan.specs.Functions.{Functions, null_keeping}
use Rattle.plan.specs.Rendering.{field_of, unqualified_field}
use Rattle.plan.specs.Fields.{any, every, resolves}
use Rattle.plan.specs.Plans.{Plan, Plans, fields_of}
use Rattle.plan.specs.Plans.Plan.{table, projection, filter, sort, limit, aggregate, join, subquery_alias, union}
use Rattle.plan.specs.Plans.Plans.{done, also}
use Rattle.plan.specs.Faults.{fault}
use Rattle.plan.specs.declared.code.JoinKind.{JoinKind}
use Rattle.plan.specs.declared.fault.Question.TheVariants.{Limited}
use Rattle.plan.specs.declared.fault.Stage.TheVariants.{Extraction, Merge, Rebuilt, Recovery, Closing}
use Rattle.rows.specs.Lists.{keep}
use Rattle.rows.specs.Rows.{seek}
use Rattle.rows.specs.Standing.{refs, up_from, pads_left, pads_right}
use Rattle.rewriting.specs.Outlay.{Tally, after_walk, charged, list_space}
use Rattle.rewriting.specs.Routing.{Side, one, two, Extractor, empty_extractor, Pair, need, needs, find_sole_input, find_owning_input, routing_extract, pairs_of, needed_of, schema_columns, has_extractable_expr, Entry}
use Rattle.rewriting.specs.Extracting.{Outcome, built, no_change, refused, and_then, made, remade, replace_cols_by_name, merged, freshly, build_extraction_projection, extraction_space, same_fields}

-- a list to recover the Projection's, what was found, and whether every expression was captured
pub record Split : Type 0 where
  pub back : List Expr
  pub store : Extractor
  pub whole : Bool

-- an alias that an extraction made; question 2 lets no other prefixed alias pass than one without qualifier
unfoldable pub is_extracted : Field → Bool
is_extracted f = prefixed f.name && is_unqualified f.qualifier

unfoldable pub is_extraction : Expr → Bool
is_extraction (literal v) = false
is_extraction (reference r) = false
is_extraction (alias e f) = is_extracted f
is_extraction (call n es) = false

-- an expression stands under an alias once
unfoldable pub enter : Entry → List Entry → List Entry
enter d ds = cond (any (λ c. same_expr c.1 d.1 && bytes_eq c.2 d.2) ds) ds (ds ++ d ∷ [])

-- the whole alias is what is entered, so that one expression may have several
unfoldable pub captured : Expr → Field → Extractor → Expr × Extractor × Bool
captured e f g = (
  reference (unqualified_field f.name),
  record { entries = enter (one, alias e f, f.name) g.entries; needed = needs one (references_of e) g.needed; next = g.next; new = g.new; full = g.full },
  true,
)

-- under the old field: aliased where the rendered name is another
unfoldable pub back_to : Functions → Field → Expr → Expr
back_to F f e = cond (same_field (field_of F e) f) e (alias e f)

unfoldable pub walked : Functions → (Expr → Option Side) → Expr → Extractor → Expr × Extractor × Bool
walked F own e g = let w = routing_extract F own e g in (back_to F (field_of F e) w.0, w.1, false)

unfoldable pub split_one : Functions → (Expr → Option Side) → Expr → Extractor → Expr × Extractor × Bool
split_one F own (literal v) g = walked F own (literal v) g
split_one F own (reference r) g = (
  reference r,
  record { entries = g.entries; needed = need one r g.needed; next = g.next; new = g.new; full = g.full },
  true,
)
split_one F own (alias e f) g = cond (is_extracted f) (captured e f g) (walked F own (alias e f) g)
split_one F own (call n es) g = walked F own (call n es) g

unfoldable pub split_all : Functions → (Expr → Option Side) → List Expr → Extractor → Split
split_all F own [] g = record { back = []; store = g; whole = true }
split_all F own (e ∷ es) g =
    let a = split_one F own e g in
    let b = split_all F own es a.1 in
    record { back = a.0 ∷ b.back; store = b.store; whole = a.2 && b.whole }

-- pairs, needed columns, whether the list was wholly captured, level, tally
abbrev pub Into : Type 0
Into = List Pair → List Field → Bool → ℕ → Tally → Outcome

-- the same names, as sets
unfoldable pub same_set : List Field → List Field → Bool
same_set fs gs = every (λ f. any (λ g. bytes_eq f.name g.name) gs) fs && every (λ g. any (λ f. bytes_eq f.name g.name) fs) gs

-- no recovery if every expression was captured, and counts and name sets agree
unfoldable pub recover_push : Functions → List Expr → Split → ℕ → Plan → Tally → Outcome
recover_push F es s level p n =
    cond (s.whole && length (fields_of F p) == length es && same_set (fields_of F p) (map (field_of F) es)) (built p n) (made F Recovery level (projection s.back p) n)

-- not pushed: an extraction projection in place, if something new was taken out
unfoldable pub or_in_place : Functions → Plan → List Pair → List Field → Bool → ℕ → Outcome → Outcome
or_in_place F p ps cs new level (built q n) = built q n
or_in_place F p ps cs new level (no_change n) = cond new (build_extraction_projection F level p ps cs n) (no_change n)
or_in_place F p ps cs new level (refused x n) = refused x n

unfoldable pub push_split : Functions → Plan → Into → List Expr → Split → ℕ → Tally → List Pair → Outcome
push_split F p into es s level n [] = no_change n
push_split F p into es s level n (d ∷ ds) =
    let t = after_walk s.back s.store.next n in
    let cs = needed_of one s.store.needed in
    let go = and_then (or_in_place F p (d ∷ ds) cs s.store.new level (into (d ∷ ds) cs s.whole level t)) (λ q m. recover_push F es s level q m) in
    cond s.store.full (refused (fault Limited Extraction level) t) go

-- split_and_push_projection, where `into` is push_extraction_pairs; nothing is done where nothing is extracted or Marked
unfoldable pub split_and_push : Functions → Plan → Into → List Expr → ℕ → Tally → Outcome
split_and_push F p into es level n =
    let s = split_all F (find_sole_input (schema_columns (fields_of F p))) es (empty_extractor n.next) in
    cond (any is_extraction es || has_extractable_expr F es) (push_split F p into es s level n (pairs_of one s.store.entries)) (no_change n)

unfoldable pub or_keep : Plan → Outcome → Outcome
or_keep p (built q n) = built q n
or_keep p (no_change n) = built p n
or_keep p (refused x n) = refused x n

-- the same whether or not it was wholly captured
abbrev pub Place : Type 0
Place = List Pair → List Field → ℕ → Tally → Outcome

abbrev pub anyway : Place → Into
anyway f ps cs whole level n = f ps cs level n

-- `over` takes a Projection's list, level and tally
pub record Work : Type 0 where
  pub over : List Expr → ℕ → Tally → Outcome
  pub place : Place

-- each alias is the name of a field
unfoldable pub shows_aliases : Functions → List Pair → Plan → Bool
shows_aliases F ps p = every (λ d. any (λ f. bytes_eq d.1 f.name) (fields_of F p)) ps

-- the first check of try_push_into_inputs: an extraction projection shows its aliases; it is pushed further
unfoldable pub placed : Functions → List Pair → (Tally → Outcome) → Plan → Tally → Outcome
placed F ps over q n = cond (shows_aliases F ps q) (or_keep q (over n)) (no_change n)

-- the second: so does the rebuilt node
unfoldable pub rebuilt_over : Functions → ℕ → List Pair → Plan → Tally → Outcome
rebuilt_over F level ps p n = and_then (remade F Rebuilt level p n) (λ q m. cond (shows_aliases F ps q) (built q m) (no_change m))

unfoldable pub worker : Functions → Plan → Into → Work
worker F p into = record {
  over = split_and_push F p into;
  place = λ ps cs level n.
      and_then (made F Extraction level (projection (freshly (fields_of F p) ps) p) (charged (extraction_space F p ps cs) n)) (λ q m. placed F ps (split_and_push F p into (freshly (fields_of F p) ps) (suc level)) q m);
}

-- a Table has no input; an Aggregate is not tried
unfoldable pub not_tried : Place
not_tried ps cs level n = no_change n

pub record ExtractionTarget : Type 0 where
  pub pairs : List Pair
  pub columns : List Field

-- each once, in order of first occurrence
unfoldable pub column_set : List Field → List Field → List Field
column_set [] acc = acc
column_set (c ∷ cs) acc = column_set cs (cond (any (same_field c) acc) acc (acc ++ c ∷ []))

unfoldable pub column_or : Field → Expr → Field
column_or c (literal v) = c
column_or c (reference r) = r
column_or c (alias e f) = c
column_or c (call n es) = c

unfoldable pub remap : List Field → List Field → Expr → Expr
remap from to e = replace_cols_by_name (from, refs to) e

unfoldable pub remap_pairs : List Field → List Field → List Pair → List Pair
remap_pairs from to ps = map (λ p. (remap from to p.0, p.1)) ps

unfoldable pub remap_columns : List Field → List Field → List Field → List Field
remap_columns from to cs = column_set (map (λ c. column_or c (remap from to (reference c))) cs) []

-- remap_pairs_and_columns
abbrev pub remap_pairs_and_columns : List Field → List Field → List Pair → List Field → ExtractionTarget
remap_pairs_and_columns from to ps cs = record { pairs = remap_pairs from to ps; columns = remap_columns from to cs }

-- the trees that it builds are counted
unfoldable pub remapped : ExtractionTarget → Tally → Tally
remapped t n = charged (list_space (map (λ d. d.0) t.pairs)) n

unfoldable pub is_one : Option Side → Bool
is_one None = false
is_one (Some one) = true
is_one (Some two) = false

unfoldable pub is_two : Option Side → Bool
is_two None = false
is_two (Some one) = false
is_two (Some two) = true

unfoldable pub has_pairs : List Pair → Bool
has_pairs [] = false
has_pairs (d ∷ ds) = true

-- every pair and every column has one owner
unfoldable pub routable : (Expr → Option Side) → List Pair → List Field → Bool
routable own ps cs = every (λ p. is_one (own p.0) || is_two (own p.0)) ps && every (λ c. is_one (own (reference c)) || is_two (own (reference c))) cs

unfoldable pub to_one : (Expr → Option Side) → List Pair → List Field → ExtractionTarget
to_one own ps cs = record { pairs = keep (λ p. is_one (own p.0)) ps; columns = keep (λ c. is_one (own (reference c))) cs }

unfoldable pub to_two : (Expr → Option Side) → List Pair → List Field → ExtractionTarget
to_two own ps cs = record { pairs = keep (λ p. is_two (own p.0)) ps; columns = keep (λ c. is_two (own (reference c))) cs }

-- route_to_inputs, of a node that is no Union; none if something has no owner, or no input gets a pair
unfoldable pub route_to_inputs : (Expr → Option Side) → List Pair → List Field → Option (ExtractionTarget × ExtractionTarget)
route_to_inputs own ps cs =
    cond (routable own ps cs && (has_pairs (to_one own ps cs).pairs || has_pairs (to_two own ps cs).pairs)) (Some (to_one own ps cs, to_two own ps cs)) None

unfoldable pub when_routed : Option (ExtractionTarget × ExtractionTarget) → Tally → (ExtractionTarget → ExtractionTarget → Outcome) → Outcome
when_routed None n f = no_change n
when_routed (Some t) n f = f t.0 t.1

-- try_push_into_inputs, of one input i
unfoldable pub into_one : Functions → (Plan → Plan) → Plan → Place → Place
into_one F node i place ps cs level n =
    when_routed (route_to_inputs (find_sole_input (schema_columns (fields_of F i))) ps cs) n
    (λ t u. and_then (place t.pairs t.columns level n) (λ r m. rebuilt_over F level ps (node r) m))

-- a SubqueryAlias has other qualifiers than its input
unfoldable pub into_subquery_alias : Functions → Name → Plan → Place → Place
into_subquery_alias F s i place ps cs level n =
    let t = remap_pairs_and_columns (fields_of F (subquery_alias s i)) (fields_of F i) ps cs in
    into_one F (subquery_alias s) i place t.pairs t.columns level (remapped t n)

-- an input that no pair goes to stays as it is
unfoldable pub place_if : Place → Plan → List Pair → List Field → ℕ → Tally → Outcome
place_if place p [] cs level n = built p n
place_if place p (d ∷ ds) cs level n = place (d ∷ ds) cs level n

-- what goes to a padded side is null at a pad
unfoldable pub side_allows : Functions → Bool → List Pair → Bool
side_allows F padded ps = not padded || every (λ p. null_keeping F p.0) ps

-- of two inputs: left, then right
unfoldable pub into_join : Functions → JoinKind → List Expr → Plan → Plan → Place → Place → Place
into_join F k es l r place_l place_r ps cs level n =
    when_routed (route_to_inputs (find_owning_input (schema_columns (fields_of F l)) (schema_columns (fields_of F r))) ps cs) n (λ t u.
    let go = and_then (place_if place_l l t.pairs t.columns level n) (λ x m. and_then (place_if place_r r u.pairs u.columns level m) (λ y o. rebuilt_over F level ps (join k es x y) o)) in
    cond (side_allows F (pads_left k) t.pairs && side_allows F (pads_right k) u.pairs) go (no_change n))

-- an expression that may stand in such a list
unfoldable pub is_pure : Expr → Bool
is_pure (literal v) = false
is_pure (reference r) = true
is_pure (alias e f) = is_extracted f
is_pure (call n es) = false

-- is_pure_extraction_projection
unfoldable pub is_pure_extraction_projection : List Expr → Bool
is_pure_extraction_projection es = every is_pure es && any is_extraction es

-- push_extraction_pairs into a Projection: a list that was wholly captured is merged into it, and pushed further where the result is pure
unfoldable pub into_projection : Functions → List Expr → Plan → (List Expr → ℕ → Tally → Outcome) → Into
into_projection F es i over ps cs false level n = no_change n
into_projection F es i over ps cs true level n =
    and_then (made F Merge level (projection (merged F i es ps cs) i) (charged (extraction_space F (projection es i) ps cs) n))
    (λ q m. cond (is_pure_extraction_projection (merged F i es ps cs)) (or_keep q (over (merged F i es ps cs) (suc level) m)) (built q m))

unfoldable pub same_places : List ℕ → List ℕ → Bool
same_places [] [] = true
same_places [] (b ∷ bs) = false
same_places (a ∷ τ) [] = false
same_places (a ∷ τ) (b ∷ bs) = a == b && same_places τ bs

-- the fields that the pairs get
unfoldable pub aliases_of : List Pair → List Field
aliases_of ps = map (λ d. unqualified_field d.1) ps

unfoldable pub places_in : Functions → Plan → List Field → List ℕ
places_in F r fs = map (λ f. seek f (fields_of F r)) fs

-- r has the old fields of p at the places τ and the aliases of the pairs at the places ω, n fields in all, and nothing else
unfoldable pub fits_places : Functions → ℕ → List ℕ → List ℕ → List Pair → Plan → Plan → Bool
fits_places F n τ ω ps p r =
    (every (resolves (fields_of F r)) (fields_of F p) && same_places (places_in F r (fields_of F p)) τ)
    && ((every (resolves (fields_of F r)) (aliases_of ps) && same_places (places_in F r (aliases_of ps)) ω)
    && (length (fields_of F r) == n && every (λ k. any (nat_eq k) (τ ++ ω)) (up_from 0 n)))

unfoldable pub all_fit_places : Functions → ℕ → List ℕ → List ℕ → List Pair → Plans → Plans → Bool
all_fit_places F n τ ω ps done done = true
all_fit_places F n τ ω ps done (also r rs) = false
all_fit_places F n τ ω ps (also p is) done = false
all_fit_places F n τ ω ps (also p is) (also r rs) = fits_places F n τ ω ps p r && all_fit_places F n τ ω ps is rs

-- the Union's fields, pairs, needed columns, level, tally, and what to do with the rebuilt inputs
abbrev pub IntoAll : Type 0
IntoAll = List Field → List Pair → List Field → ℕ → Tally → (Plans → Tally → Outcome) → Outcome

-- the rebuilt Union, if each place is the same old position or alias in all its inputs
unfoldable pub united : Functions → ℕ → List Pair → Plan → Plans → Plan → Plans → Tally → Outcome
united F level ps i is r rs n =
    cond (fits_places F (length (fields_of F r)) (places_in F r (fields_of F i)) (places_in F r (aliases_of ps)) ps i r
    && all_fit_places F (length (fields_of F r)) (places_in F r (fields_of F i)) (places_in F r (aliases_of ps)) ps is rs) (rebuilt_over F level ps (union r rs) n) (no_change n)

-- of all inputs of a Union, each with all of it
unfoldable pub into_union : Functions → Plan → Plans → Place → IntoAll → Place
into_union F i is place place_all ps cs level n =
    let from = fields_of F (union i is) in
    let t = remap_pairs_and_columns from (fields_of F i) ps cs in
    let go = and_then (place t.pairs t.columns level (remapped t n)) (λ r m. place_all from ps cs level m (λ rs o. united F level ps i is r rs o)) in
    cond (has_pairs ps) go (no_change n)

unfoldable mutual
  pub work : Functions → Plan → Work
  work F (table k q ns) = worker F (table k q ns) (anyway not_tried)
  work F (projection es i) =
      let w = work F i in
      record {
        over = split_and_push F (projection es i) (into_projection F es i w.over);
        place = λ ps cs level n.
            and_then (made F Merge level (projection (merged F i es ps cs) i) (charged (extraction_space F (projection es i) ps cs) n)) (λ q m. placed F ps (w.over (merged F i es ps cs) (suc level)) q m);
      }
  work F (filter e i) = worker F (filter e i) (anyway (into_one F (filter e) i (work F i).place))
  work F (sort ks i) = worker F (sort ks i) (anyway (into_one F (sort ks) i (work F i).place))
  work F (limit s c i) = worker F (limit s c i) (anyway (into_one F (limit s c) i (work F i).place))
  work F (aggregate gs ts i) = worker F (aggregate gs ts i) (anyway not_tried)
  work F (join k es l r) = worker F (join k es l r) (anyway (into_join F k es l r (work F l).place (work F r).place))
  work F (subquery_alias s i) = worker F (subquery_alias s i) (anyway (into_subquery_alias F s i (work F i).place))
  work F (union i is) = worker F (union i is) (anyway (into_union F i is (work F i).place (works F is)))

  pub works : Functions → Plans → IntoAll
  works F done from ps cs level n k = k done n
  works F (also i is) from ps cs level n k =
      let t = remap_pairs_and_columns from (fields_of F i) ps cs in
      and_then ((work F i).place t.pairs t.columns level (remapped t n)) (λ r m. works F is from ps cs level m (λ rs o. k (also r rs) o))

-- the old fields, in their order
unfoldable pub closed : Functions → List Field → Plan → Tally → Outcome
closed F old p n = cond (same_fields old (fields_of F p)) (built p n) (remade F Closing 0 (projection (refs old) p) n)

unfoldable pub push : Functions → Plan → Tally → Outcome
push F (table k q ns) n = no_change n
push F (projection es i) n = and_then ((work F i).over es 0 n) (λ r m. closed F (map (field_of F) es) r m)
push F (filter e i) n = no_change n
push F (sort ks i) n = no_change n
push F (limit s c i) n = no_change n
push F (aggregate gs ts i) n = no_change n
push F (join k cs l r) n = no_change n
push F (subquery_alias s i) n = no_change n
push F (union i is) n = no_change n
