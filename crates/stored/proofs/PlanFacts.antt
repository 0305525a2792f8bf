-- The facts that the tables of a book keep, as they grow.
use Rattle.std.proofs.Common.{◌≡◌, ℕ, zero, suc, ◌+◌, ◌<◌, ◌≤◌, Bool, true, ◌&&◌, ltb, leb, List, [], ◌∷◌, ◌++◌, map, length, get_or, sym, refl, ap, ◌∙◌, subst, ap₂, add-zero, arith}
use Rattle.std.specs.Str.{bytes_eq}
use Rattle.std.proofs.lemmas.Slice.Eq.{bytes_eq-Decides}
use Rattle.std.proofs.lemmas.List.{get_or_append_left, get_or_at, get_or-map, length-map, map_push}
use Rattle.std.proofs.lemmas.Bool.{and_parts, and_from, ltb-true}
use Rattle.table.specs.Fold.{all_ok}
use Rattle.table.proofs.Folds.{built-push, built-length, built-from, ok-push}
use Rattle.plan.specs.Terms.{Field, Qualifier, Expr, same_field, same_qualifier}
use Rattle.plan.specs.Terms.Qualifier.{unqualified, qualified}
use Rattle.plan.specs.Plans.{Plan, fields_of, plan_size_of}
use Rattle.plan.specs.Plans.Plan.{projection, filter, sort, limit, aggregate, join, subquery_alias}
use Rattle.plan.specs.Fields.{every}
use Rattle.plan.specs.Model.{Node, expr_in, plan_in, plans_in, no_plan}
use Rattle.plan.specs.Calls.{below, all_below, union_of}
use Rattle.entries.specs.Spans.{stored_in}
use Rattle.names.specs.Spans.{word}
use Rattle.terms.specs.Views.{View, grown}
use Rattle.entries.specs.declared.node.Entry.{Entry}
use Rattle.entries.specs.declared.node.StoredField.{StoredField}
use Rattle.lexicon.proofs.Frames.{every_append, every-at}
use Rattle.terms.proofs.Frames.{stored-grow}
use Rattle.stored.specs.Stored.{fields_in, run_in, run_numbers, run_exprs, run_keys, build_plan_node, build_plan, plan_nodes, plan_trees, node_trees, list_in, inside_node, inside_plan, accepted_node, sound_plans, same_fields, fielded_at, fielded, well_formed}
use Rattle.stored.specs.declared.node.PlanNode.{PlanNode}
use Rattle.stored.specs.declared.node.PlanNode.TheVariants.{Table, Projection, Filter, Sort, Limit, Aggregate, Join, SubqueryAlias, Union}
use Rattle.stored.specs.declared.node.PlanRecord.{PlanRecord}
use Rattle.stored.proofs.PlanFrames.{plans-grow, fields-grow}

-- the test of two lists of fields decides whether they are one
bytes_same : (a b : List ℕ) → bytes_eq a b ≡ true → a ≡ b
bytes_same a b h = (bytes_eq-Decides a b).0 h

bytes-refl : (a : List ℕ) → bytes_eq a a ≡ true
bytes-refl a = (bytes_eq-Decides a a).1 refl

qualifier-same : (q r : Qualifier) → same_qualifier q r ≡ true → q ≡ r
qualifier-same unqualified unqualified h = refl
qualifier-same unqualified (qualified b) h = absurd (let z : ◌≡◌ {A = ℕ} 0 1 = cc in omega arith)
qualifier-same (qualified a) unqualified h = absurd (let z : ◌≡◌ {A = ℕ} 0 1 = cc in omega arith)
qualifier-same (qualified a) (qualified b) h = ap qualified (bytes_same a b h)

qualifier-refl : (q : Qualifier) → same_qualifier q q ≡ true
qualifier-refl unqualified = refl
qualifier-refl (qualified a) = bytes-refl a

pub field-same : (f g : Field) → same_field f g ≡ true → f ≡ g
field-same f g h =
    let p = and_parts (same_qualifier f.qualifier g.qualifier) (bytes_eq f.name g.name) h in
    ap₂ (λ x y. record { qualifier = x; name = y }) (qualifier-same f.qualifier g.qualifier p.0) (bytes_same f.name g.name p.1)

pub field-refl : (f : Field) → same_field f f ≡ true
field-refl f = and_from _ _ (qualifier-refl f.qualifier) (bytes-refl f.name)

pub fields-same : (fs gs : List Field) → same_fields fs gs ≡ true → fs ≡ gs
fields-same [] [] h = refl
fields-same [] (g ∷ gs) h = absurd (let z : ◌≡◌ {A = ℕ} 0 1 = cc in omega arith)
fields-same (f ∷ fs) [] h = absurd (let z : ◌≡◌ {A = ℕ} 0 1 = cc in omega arith)
fields-same (f ∷ fs) (g ∷ gs) h =
    let p = and_parts (same_field f g) (same_fields fs gs) h in
    ap₂ (λ x y. x ∷ y) (field-same f g p.0) (fields-same fs gs p.1)

fields-refl : (fs : List Field) → same_fields fs fs ≡ true
fields-refl [] = refl
fields-refl (f ∷ fs) = and_from _ _ (field-refl f) (fields-refl fs)

pub fields-test : (fs gs : List Field) → fs ≡ gs → same_fields fs gs ≡ true
fields-test fs gs e = ap (same_fields fs) (sym e) ∙ fields-refl fs

-- a fact of each record, from another fact of it
ok-turn : {N : Type 0} (p q : ℕ → N → Bool) (i : ℕ) (ns : List N) → ((j : ℕ) (n : N) → i ≤ j → j < i + length ns → p j n ≡ true → q j n ≡ true) → all_ok p i ns ≡ true → all_ok q i ns ≡ true
ok-turn p q i [] f h = refl
ok-turn p q i (n ∷ ns) f h =
    let a = and_parts (p i n) (all_ok p (i + 1) ns) h in
    and_from _ _ (f i n (omega arith) (omega arith) a.0) (ok-turn p q (i + 1) ns (λ j m lo hi. f j m (omega arith) (omega arith)) a.1)

ok-both : {N : Type 0} (p q : ℕ → N → Bool) (i : ℕ) (ns : List N) → all_ok p i ns ≡ true → all_ok q i ns ≡ true → all_ok (λ j n. p j n && q j n) i ns ≡ true
ok-both p q i [] h k = refl
ok-both p q i (n ∷ ns) h k =
    let a = and_parts (p i n) (all_ok p (i + 1) ns) h in
    let b = and_parts (q i n) (all_ok q (i + 1) ns) k in
    and_from _ _ (and_from _ _ a.0 b.0) (ok-both p q (i + 1) ns a.1 b.1)

pub ok_at : {N : Type 0} (p : ℕ → N → Bool) (i : ℕ) (ns : List N) (k : ℕ) (d : N) → k < length ns → all_ok p i ns ≡ true → p (i + k) (get_or ns k d) ≡ true
ok_at p i [] k d lt h = absurd (omega arith)
ok_at p i (n ∷ ns) zero d lt h = subst (λ j. p j n ≡ true) (sym (add-zero i)) (and_parts (p i n) (all_ok p (i + 1) ns) h).0
ok_at p i (n ∷ ns) (suc k) d lt h =
    let e : i + 1 + k ≡ i + suc k = omega arith in
    subst (λ j. p j (get_or ns k d) ≡ true) e (ok_at p (i + 1) ns k d (omega arith) (and_parts (p i n) (all_ok p (i + 1) ns) h).1)

pub record PlanFacts (v : View) (fields : List StoredField) (rs : List PlanRecord) : Type 0 where
  pub are-stored : every (stored_in v.bytes) fields ≡ true
  pub are-sound : sound_plans v fields rs ≡ true
  pub are-fielded : fielded v fields rs ≡ true
  pub have-sizes : map (λ r. r.size) rs ≡ map plan_size_of (plan_trees v fields rs)
  pub are-formed : every (well_formed v.functions) (plan_trees v fields rs) ≡ true

-- expressions, text, lists and fields are added
pub facts-grow : (v : View) (ts' : List Expr) (bs' : List ℕ) (es' : List Entry) (fields fs' : List StoredField) (rs : List PlanRecord)
    → every (stored_in (v.bytes ++ bs')) fs' ≡ true → PlanFacts v fields rs → PlanFacts (grown v ts' bs' es') (fields ++ fs') rs
facts-grow v ts' bs' es' fields fs' rs new k =
    let g = plans-grow v ts' bs' es' fields fs' k.are-stored rs k.are-sound in
    let w = grown v ts' bs' es' in
    record {
      are-stored = every_append (stored_in w.bytes) fields fs' (stored-grow v.bytes bs' fields k.are-stored).1 new;
      are-sound = g.0;
      are-fielded = ap (λ ns. all_ok (fielded_at w (fields ++ fs') (node_trees ns)) 0 rs) g.1
          ∙ ok-turn (λ i r. inside_plan v fields i r && fielded_at v fields (plan_trees v fields rs) i r) (fielded_at w (fields ++ fs') (plan_trees v fields rs)) 0 rs
          (λ i r lo hi h.
          let p = and_parts (inside_plan v fields i r) (fielded_at v fields (plan_trees v fields rs) i r) h in
          let q = and_parts (inside_node v i r.node && accepted_node v.bytes r.node) _ p.0 in
          let u = and_parts (run_in fields r.fields && leb r.fields.count 64) _ q.1 in
          let x = and_parts (run_in fields r.fields) _ u.0 in
          ap (λ fs. same_fields fs (fields_of v.functions (plan_in (plan_trees v fields rs) i))) (fields-grow v ts' bs' es' fields fs' k.are-stored r.fields x.0).1 ∙ p.1)
          (ok-both (inside_plan v fields) (fielded_at v fields (plan_trees v fields rs)) 0 rs k.are-sound k.are-fielded);
      have-sizes = k.have-sizes ∙ sym (ap (λ ns. map plan_size_of (node_trees ns)) g.1);
      are-formed = ap (λ ns. every (well_formed v.functions) (node_trees ns)) g.1 ∙ k.are-formed;
    }

pub nodes-length : (v : View) (fields : List StoredField) (rs : List PlanRecord) → length (plan_nodes v fields rs) ≡ length rs
nodes-length v fields rs = omega (arith, built-length (build_plan v fields) rs [])

pub trees-length : (v : View) (fields : List StoredField) (rs : List PlanRecord) → length (plan_trees v fields rs) ≡ length rs
trees-length v fields rs = length-map (plan_nodes v fields rs) (λ n. n.tree) ∙ nodes-length v fields rs

-- a record is added
module _ (v : View) (fields : List StoredField) (rs R : List PlanRecord) (r : PlanRecord) (e : R ≡ rs ++ r ∷ []) (k : PlanFacts v fields rs) where
  pub nodes-push : plan_nodes v fields R ≡ plan_nodes v fields rs ++ build_plan v fields (plan_nodes v fields rs) r ∷ []
  nodes-push = ap (plan_nodes v fields) e ∙ built-push (build_plan v fields) rs r []

  trees-push : plan_trees v fields R ≡ plan_trees v fields rs ++ (build_plan v fields (plan_nodes v fields rs) r).tree ∷ []
  trees-push = ap node_trees nodes-push ∙ map_push (λ n. n.tree) (plan_nodes v fields rs) (build_plan v fields (plan_nodes v fields rs) r)

  pub facts-push : inside_plan v fields (length rs) r ≡ true → fields_in v.bytes fields r.fields ≡ fields_of v.functions (build_plan v fields (plan_nodes v fields rs) r).tree
      → r.size ≡ plan_size_of (build_plan v fields (plan_nodes v fields rs) r).tree → well_formed v.functions (build_plan v fields (plan_nodes v fields rs) r).tree ≡ true → PlanFacts v fields R
  facts-push i f s u =
      let t = (build_plan v fields (plan_nodes v fields rs) r).tree in
      let ts = plan_trees v fields rs in
      let z : length rs ≡ 0 + length rs = omega arith in
      let n : length ts ≡ length rs = trees-length v fields rs in
      record {
        are-stored = k.are-stored;
        are-sound = ap (sound_plans v fields) e ∙ ok-push (inside_plan v fields) 0 rs r k.are-sound (subst (λ j. inside_plan v fields j r ≡ true) z i);
        are-fielded = ap₂ (λ us xs. all_ok (fielded_at v fields us) 0 xs) trees-push e
            ∙ ok-push (fielded_at v fields (ts ++ t ∷ [])) 0 rs r
            (ok-turn (fielded_at v fields ts) (fielded_at v fields (ts ++ t ∷ [])) 0 rs
            (λ j x lo hi h. ap (λ p. same_fields (fields_in v.bytes fields x.fields) (fields_of v.functions p)) (get_or_append_left ts (t ∷ []) no_plan j (omega arith)) ∙ h) k.are-fielded)
            (fields-test _ _ (f ∙ ap (fields_of v.functions) (sym (get_or_at ts t [] no_plan (0 + length rs) (omega arith)))));
        have-sizes = ap (map (λ x. x.size)) e ∙ map_push (λ x. x.size) rs r ∙ ap₂ (λ xs y. xs ++ y ∷ []) k.have-sizes s ∙ sym (map_push plan_size_of ts t) ∙ sym (ap (map plan_size_of) trees-push);
        are-formed = ap (every (well_formed v.functions)) trees-push ∙ every_append (well_formed v.functions) ts (t ∷ []) k.are-formed (and_from _ _ u refl);
      }

-- a node's tree by the trees of its inputs
pub get_or-mapped : {X Y : Type 0} (f : X → Y) (xs : List X) (k : ℕ) (d : X) → get_or (map f xs) k (f d) ≡ f (get_or xs k d)
get_or-mapped f [] k d = refl
get_or-mapped f (x ∷ xs) zero d = refl
get_or-mapped f (x ∷ xs) (suc k) d = get_or-mapped f xs k d

plans-same : (ts us : List Plan) (i : ℕ) (js : List ℕ) → ((k : ℕ) → k < i → plan_in ts k ≡ plan_in us k) → all_below i js ≡ true → plans_in ts js ≡ plans_in us js
plans-same ts us i [] f h = refl
plans-same ts us i (j ∷ js) f h =
    let p = and_parts (below i j) (all_below i js) h in
    ap₂ (λ x y. x ∷ y) (f j (ltb-true j i p.0)) (plans-same ts us i js f p.1)

node-same : (v : View) (fs : List Field) (i : ℕ) (n : PlanNode) (ts us : List Plan) → inside_node v i n ≡ true → ((k : ℕ) → k < i → plan_in ts k ≡ plan_in us k) → build_plan_node v fs ts n ≡ build_plan_node v fs us n
node-same v fs i (Table k q) ts us h f = refl
node-same v fs i (Projection p l) ts us h f =
    ap (projection (run_exprs v l)) (f p.0 (ltb-true p.0 i (and_parts (ltb p.0 i) _ h).0))
node-same v fs i (Filter p e) ts us h f =
    ap (filter (expr_in v.trees e.0)) (f p.0 (ltb-true p.0 i (and_parts (ltb p.0 i) _ h).0))
node-same v fs i (Sort p l) ts us h f =
    ap (sort (run_keys v l)) (f p.0 (ltb-true p.0 i (and_parts (ltb p.0 i) _ h).0))
node-same v fs i (Limit p s c) ts us h f = ap (limit s c) (f p.0 (ltb-true p.0 i h))
node-same v fs i (Aggregate p gs as') ts us h f =
    ap (aggregate (run_exprs v gs) (run_exprs v as')) (f p.0 (ltb-true p.0 i (and_parts (ltb p.0 i) _ h).0))
node-same v fs i (Join j l r cs) ts us h f =
    let p = and_parts (ltb l.0 i) (ltb r.0 i && list_in v cs) h in
    let q = and_parts (ltb r.0 i) (list_in v cs) p.1 in
    ap₂ (join j (run_exprs v cs)) (f l.0 (ltb-true l.0 i p.0)) (f r.0 (ltb-true r.0 i q.0))
node-same v fs i (SubqueryAlias p n) ts us h f =
    ap (subquery_alias (word v.bytes n)) (f p.0 (ltb-true p.0 i (and_parts (ltb p.0 i) _ h).0))
node-same v fs i (Union l) ts us h f =
    ap union_of (plans-same ts us i (run_numbers v.entries l) f (and_parts (run_in v.entries l) _ h).1)

pub record PlanAt (v : View) (fields : List StoredField) (rs : List PlanRecord) (i : ℕ) (r : PlanRecord) : Type 0 where
  pub tree : plan_in (plan_trees v fields rs) i ≡ build_plan_node v (fields_in v.bytes fields r.fields) (plan_trees v fields rs) r.node
  pub inside : inside_node v i r.node ≡ true
  pub accepted : accepted_node v.bytes r.node ≡ true
  pub run : run_in fields r.fields ≡ true
  pub few : leb r.fields.count 64 ≡ true
  pub has-fields : fields_in v.bytes fields r.fields ≡ fields_of v.functions (plan_in (plan_trees v fields rs) i)
  pub has-size : r.size ≡ plan_size_of (plan_in (plan_trees v fields rs) i)
  pub has-origin : r.origin.0 ≡ (get_or (plan_nodes v fields rs) i (record { tree = no_plan; origin = 0 })).origin
  pub old-origin : leb r.origin.0 i ≡ true
  pub small : leb r.size 64 ≡ true
  pub is-formed : well_formed v.functions (plan_in (plan_trees v fields rs) i) ≡ true

pub plan-at : (v : View) (fields : List StoredField) (rs : List PlanRecord) (i : ℕ) (r : PlanRecord) → PlanFacts v fields rs → i < length rs → r ≡ get_or rs i r → PlanAt v fields rs i r
plan-at v fields rs i r k lt e =
    let ns = plan_nodes v fields rs in
    let d : Node = record { tree = no_plan; origin = 0 } in
    let z : 0 + i ≡ i = omega arith in
    let local = λ (j : ℕ) (s : PlanRecord) (xs ys : List Node) (h : inside_plan v fields j s ≡ true) (f : (m : ℕ) → m < j → get_or xs m d ≡ get_or ys m d).
    ap (λ t. record { tree = t; origin = s.origin.0 }) (node-same v (fields_in v.bytes fields s.fields) j s.node (node_trees xs) (node_trees ys) (and_parts (inside_node v j s.node) _ (and_parts (inside_node v j s.node && accepted_node v.bytes s.node) _ h).0).0
    (λ m l. get_or-mapped (λ n. n.tree) xs m d ∙ ap (λ n. n.tree) (f m l) ∙ sym (get_or-mapped (λ n. n.tree) ys m d))) in
    let b = built-from (build_plan v fields) (inside_plan v fields) d local rs [] i r k.are-sound lt in
    let n : get_or ns i d ≡ build_plan v fields ns r = ap (λ j. get_or ns j d) (sym z) ∙ b.0 ∙ ap (build_plan v fields ns) (sym e) in
    let h : inside_plan v fields i r ≡ true = subst (λ x. inside_plan v fields i x ≡ true) (sym e) (subst (λ j. inside_plan v fields j (get_or rs i r) ≡ true) z b.1) in
    let o = and_parts (inside_node v i r.node && accepted_node v.bytes r.node) ((run_in fields r.fields && leb r.fields.count 64) && (leb r.origin.0 i && leb r.size 64)) h in
    let p = and_parts (inside_node v i r.node) (accepted_node v.bytes r.node) o.0 in
    let q = and_parts (run_in fields r.fields && leb r.fields.count 64) (leb r.origin.0 i && leb r.size 64) o.1 in
    let u = and_parts (run_in fields r.fields) (leb r.fields.count 64) q.0 in
    let fl = subst (λ x. fielded_at v fields (plan_trees v fields rs) i x ≡ true) (sym e) (subst (λ j. fielded_at v fields (plan_trees v fields rs) j (get_or rs i r) ≡ true) z (ok_at (fielded_at v fields (plan_trees v fields rs)) 0 rs i r lt k.are-fielded)) in
    record {
      tree = get_or-mapped (λ x. x.tree) ns i d ∙ ap (λ x. x.tree) n;
      inside = p.0;
      accepted = p.1;
      run = u.0;
      few = u.1;
      has-fields = fields-same _ _ fl;
      has-size = ap (λ x. x.size) e ∙ sym (get_or-map (λ x. x.size) rs i r 0 lt) ∙ ap (λ xs. get_or xs i 0) k.have-sizes ∙ get_or-map plan_size_of (plan_trees v fields rs) i no_plan 0 (omega (arith, trees-length v fields rs));
      has-origin = sym (ap (λ x. x.origin) n);
      old-origin = (and_parts (leb r.origin.0 i) (leb r.size 64) q.1).0;
      small = (and_parts (leb r.origin.0 i) (leb r.size 64) q.1).1;
      is-formed = every-at (well_formed v.functions) (plan_trees v fields rs) i no_plan (omega (arith, trees-length v fields rs)) k.are-formed;
    }
