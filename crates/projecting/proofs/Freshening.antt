-- The fresh Projection, by the lists that were made for it.
use Rattle.std.proofs.Common.{◌≡◌, ℕ, ◌+◌, ◌<◌, Bool, true, false, cond, not, ◌&&◌, ◌||◌, leb, List, [], ◌∷◌, ◌++◌, map, length, Err, Some, None, Result, inl, inr, sym, refl, ap, ap₂, ◌∙◌, subst, append-nil, arith, length-append}
use Rattle.std.proofs.lemmas.Bool.{and_from, and_parts, le-leb, leb-true, lt-ltb}
use Rattle.std.proofs.lemmas.List.{length-map}
use Rattle.std.specs.Borrow.{Bor}
use Rattle.plan.specs.Calls.{good_field}
use Rattle.plan.specs.Faults.{fault}
use Rattle.plan.specs.Fields.{any, every}
use Rattle.plan.specs.Functions.{Functions, is_total}
use Rattle.plan.specs.Model.{Model, fits, plan_in}
use Rattle.plan.specs.Plans.{Plan, fields_of, plan_size_of}
use Rattle.plan.specs.Plans.Plan.{projection}
use Rattle.plan.specs.Questions.{limited, short_name, small_tree}
use Rattle.plan.specs.Rendering.{field_of}
use Rattle.plan.specs.Terms.{Expr, Field}
use Rattle.plan.specs.Terms.Expr.{reference}
use Rattle.plan.specs.declared.fault.Fault.{Fault}
use Rattle.plan.specs.declared.fault.Question.TheVariants.{Limited, Space as SpaceQuestion}
use Rattle.plan.specs.declared.fault.Stage.TheVariants.{Extraction}
use Rattle.plan.specs.Swapping.{own_space}
use Rattle.rewriting.specs.Extracting.{freshly, made, made_if, refused}
use Rattle.rewriting.specs.Limits.{OnlyEight}
use Rattle.rewriting.specs.Outlay.{Tally, charged, list_space}
use Rattle.rows.specs.Standing.{refs}
use Rattle.routing.specs.declared.owning.Side.{Side}
use Rattle.tables.specs.Holding.{fields_at, model_of, plan_count, tree_in, view_in}
use Rattle.tables.specs.Making.{present, tree_for, well_placed}
use Rattle.stored.specs.Stored.{node_trees}
use Rattle.stored.specs.declared.node.NewNode.TheVariants.{Projection}
use Rattle.tables.specs.declared.tables.Tables.{Tables}
use Rattle.entries.specs.declared.node.ExprId.{ExprId}
use Rattle.entries.specs.Spans.{stored_field, stored_in}
use Rattle.entries.specs.declared.node.PlanId.{PlanId}
use Rattle.entries.specs.declared.node.StoredField.{StoredField}
use Rattle.extracting.proofs.Spaces.{AtMost, first-space}
use Rattle.extracting.specs.Walking.{Grows, NoRoom}
use Rattle.extracting.specs.declared.extractor.Extractor.{Extractor}
use Rattle.stepping.proofs.Chain.{charged-err, charged-then, fits-no-more, made-spends}
use Rattle.rewriting.specs.Routing.{Pair}
use Rattle.stepping.specs.Lists.{ListMade, NoTotals, at_side}
use Rattle.stepping.specs.Steps.{Steps}
use Rattle.projecting.proofs.Keeping.{node-held}
use Rattle.projecting.proofs.Listing.{no-room-in, onto-both, onto-long}
use Rattle.projecting.proofs.Pairing.{unless}
use Rattle.projecting.specs.Freshly.{Misfit, fresh_list, fresh_outcome, fresh_tree, small_list, trees_for}
use Rattle.projecting.specs.Onto.{Held, Onto, fields_in}

-- where only question 8 is answered no
refused-limited : (F : Functions) (R : Plan) (n : Tally) → OnlyEight F R → limited F R ≡ false → (k : Tally) × (made F Extraction 0 R n ≡ refused (fault Limited Extraction 0) k)
unfolding made made_if
refused-limited F R n only h =
    let k = charged (own_space F R) n in
    (k, ap (λ o. made_if o Extraction 0 R k) (only.answer ∙ ap (λ b. cond b None (Some Limited)) h))

-- a list that may not be is that of no Projection that is limited
large-list : (F : Functions) (es : List Expr) (i : Plan) → small_list 0 es ≡ false → limited F (projection es i) ≡ false
large-list F es i h = unless _ _ small h
  where
    small : limited F (projection es i) ≡ true → small_list 0 es ≡ true
    small k =
        let p = and_parts (leb (length (map (field_of F) es)) 64 && leb (plan_size_of (projection es i)) 64) (every small_tree es && every (short_name F) es) k in
        let q = and_parts (leb (length (map (field_of F) es)) 64) (leb (plan_size_of (projection es i)) 64) p.0 in
        let r = and_parts (every small_tree es) (every (short_name F) es) p.1 in
        and_from _ _ (le-leb (0 + length es) 64 (omega (arith, leb-true _ 64 q.0, length-map es (field_of F)))) r.0

large-first : (es ds : List Expr) → small_list 0 es ≡ false → small_list 0 (es ++ ds) ≡ false
large-first es ds h = unless _ _ first h
  where
    every-first : (es : List Expr) → every small_tree (es ++ ds) ≡ true → every small_tree es ≡ true
    every-first [] k = refl
    every-first (e ∷ es) k = let p = and_parts (small_tree e) (every small_tree (es ++ ds)) k in and_from _ _ p.0 (every-first es p.1)

    first : small_list 0 (es ++ ds) ≡ true → small_list 0 es ≡ true
    first k =
        let p = and_parts (leb (0 + length (es ++ ds)) 64) (every small_tree (es ++ ds)) k in
        and_from _ _ (le-leb (0 + length es) 64 (omega (arith, leb-true _ 64 p.0, length-append es ds))) (every-first es p.1)

too-long : (es : List Expr) → 64 < length es → small_list 0 es ≡ false
too-long es lt = go (leb (0 + length es) 64) refl
  where
    go : (b : Bool) → leb (0 + length es) 64 ≡ b → (b && every small_tree es) ≡ false
    go true e = absurd (let l = leb-true (0 + length es) 64 e in omega arith)
    go false e = refl

-- references are no totals, and the pairs bring none
refs-plain : (F : Functions) (fs : List Field) → any (is_total F) (refs fs) ≡ false
refs-plain F [] = refl
refs-plain F (f ∷ fs) = refs-plain F fs

fresh-plain : (F : Functions) (fs : List Field) (ps : List Pair) → NoTotals F ps → any (is_total F) (freshly fs ps) ≡ false
unfolding freshly
fresh-plain F fs [] h = refs-plain F fs
fresh-plain F fs (p ∷ ps) h = ap₂ (λ a b. a || b) h.0 (fresh-plain F fs ps h.1)

module _ (t : Tables) (x : Extractor) (s : Side) (p : PlanId) where
  abbrev F : Functions
  F = (view_in t).functions

  abbrev fs : List Field
  fs = fields_at t p.0

  abbrev es : List Expr
  es = trees_for (view_in t) x s

  abbrev whole : List Expr
  whole = fresh_list t x s p.0

  whole-is : whole ≡ es ++ refs fs
  unfolding freshly
  whole-is = refl

  full-all : (u : Tables) (low : ℕ) (before ids : List ExprId) → Onto t es low before ids u → fits (model_of u).used (list_space (refs fs)) ≡ false → fits (model_of t).used (list_space whole) ≡ false
  full-all u low before ids a h =
      ap (λ l. fits (model_of t).used (list_space l)) (whole-is ∙ ap (λ l. es ++ l) (sym (append-nil (refs fs))))
      ∙ no-room-in (model_of t).used (model_of u).used es (refs fs) [] a.made.spent h

  full-pairs : fits (model_of t).used (list_space es) ≡ false → fits (model_of t).used (list_space whole) ≡ false
  full-pairs h = fits-no-more (model_of t).used (list_space es) (list_space whole) (subst (λ l. AtMost (list_space es) (list_space l)) (sym whole-is) (first-space es (refs fs))) h

  -- the fields as the expressions grow
  same-fields : (u : Tables) → Grows (model_of t) (model_of u) → fields_at u p.0 ≡ fs
  same-fields u g = ap₂ (λ G ns. fields_of G (plan_in (node_trees ns) p.0)) g.functions g.plans

  module _ (u : Tables) (ids : List ExprId) (a : Onto t es x.next [] ids u) (gs : List StoredField) (is : fields_in u gs ≡ fields_at u p.0) where
    are : fields_in u gs ≡ fs
    are = is ∙ same-fields u a.made.grows

    pub held-there : every (stored_in (view_in u).bytes) gs ≡ true → every good_field fs ≡ true → Held u gs
    held-there stored good = node-held u p.0 gs is stored (ap (every good_field) (same-fields u a.made.grows) ∙ good)

    columns-full : fits (model_of u).used (list_space (refs (fields_in u gs))) ≡ false → fits (model_of t).used (list_space whole) ≡ false
    columns-full h = full-all u x.next [] ids a (subst (λ l. fits (model_of u).used (list_space (refs l)) ≡ false) are h)

    many : 64 < length ids + length gs → small_list 0 whole ≡ false
    many lt =
        too-long whole
        (omega (arith, ap length whole-is, length-append es (refs fs), length-map fs reference, ap length are, length-map gs (stored_field (view_in u).bytes), onto-long t u es x.next [] ids a))

    module _ (w : Tables) (after : List ExprId) (b : Onto u (refs (fields_in u gs)) 0 ids after w) (l : Bor (List ExprId)) (listed : l.now ≡ after) where
      all : ListMade t whole x.next l.now w
      all =
          let o : Onto t (es ++ refs fs) x.next [] after w = subst (λ ds. Onto t (es ++ refs ds) x.next [] after w) are (onto-both t u w es (refs (fields_in u gs)) x.next 0 [] ids after (omega arith) a b) in
          subst (λ ds. ListMade t ds x.next l.now w) (sym whole-is) (subst (λ k. ListMade t (es ++ refs fs) x.next k w) (sym (listed ∙ o.is)) o.made)

      pub node-present : p.0 < plan_count t → present w (Projection p l) ≡ true
      node-present lt = and_from _ _ (lt-ltb p.0 (plan_count w) (omega (arith, lt, ap length all.grows.plans))) all.present

      pub node-placed : NoTotals F (at_side (view_in t) x s) → well_placed w (Projection p l) ≡ true
      node-placed h = ap₂ (λ G ds. not (any (is_total G) ds)) all.grows.functions all.trees ∙ ap not (fresh-plain F (fields_at t p.0) (at_side (view_in t) x s) h)

      tree-is : tree_for w (Projection p l) ≡ fresh_tree t x s p.0
      tree-is = ap₂ projection all.trees (ap (λ ns. plan_in (node_trees ns) p.0) all.grows.plans)

      pub projection-made : (r : Result PlanId Fault) (m : Model) → Steps (model_of w) 0 (made (view_in w).functions Extraction 0 (tree_for w (Projection p l))) r m → Steps (model_of t) x.next (fresh_outcome t x s p.0) r m
      projection-made r m h =
          charged-then (model_of t) (model_of w) m x.next 0 (list_space whole) (made F Extraction 0 (fresh_tree t x s p.0)) (omega arith) r all.grows all.spent all.numbers
          (subst (λ G. Steps (model_of w) 0 (made G Extraction 0 (fresh_tree t x s p.0)) r m) all.grows.functions (subst (λ R. Steps (model_of w) 0 (made (view_in w).functions Extraction 0 R) r m) tree-is h))

  module _ (only : OnlyEight F (fresh_tree t x s p.0)) (m : Model) where
    no-space : (f : Fault) → f.question ≡ SpaceQuestion → fits (model_of t).used (list_space whole) ≡ false → Steps (model_of t) x.next (fresh_outcome t x s p.0) (Err f) m
    no-space f q h = charged-err (model_of t) m x.next (list_space whole) (made F Extraction 0 (fresh_tree t x s p.0)) f q h (made-spends F Extraction 0 (fresh_tree t x s p.0))

    too-large : (f : Fault) → f ≡ fault Limited Extraction 0 → small_list 0 whole ≡ false → Steps (model_of t) x.next (fresh_outcome t x s p.0) (Err f) m
    too-large f e h = λ u n st.
        let r = refused-limited F (fresh_tree t x s p.0) (charged (list_space whole) n) only (large-list F whole (tree_in t p.0) h) in
        inl (r.0, r.1 ∙ ap (λ g. refused g r.0) (sym e))

    pub pairs-stop : (f : Fault) → Misfit t 0 es f → Steps (model_of t) x.next (fresh_outcome t x s p.0) (Err f) m
    pairs-stop f (inl a) = no-space f a.0 (full-pairs a.1)
    pairs-stop f (inr a) = too-large f a.0 (ap (small_list 0) whole-is ∙ large-first es (refs fs) a.1)

    module _ (u : Tables) (ids : List ExprId) (a : Onto t es x.next [] ids u) (gs : List StoredField) (is : fields_in u gs ≡ fields_at u p.0) where
      pub columns-stop : (f : Fault) → NoRoom u (list_space (refs (fields_in u gs))) f → Steps (model_of t) x.next (fresh_outcome t x s p.0) (Err f) m
      columns-stop f h = no-space f (ap (λ g. g.question) h.0) (columns-full u ids a gs is h.1)

      pub many-stop : (f : Fault) → f ≡ fault Limited Extraction 0 → 64 < length ids + length gs → Steps (model_of t) x.next (fresh_outcome t x s p.0) (Err f) m
      many-stop f e lt = too-large f e (many u ids a gs is lt)
