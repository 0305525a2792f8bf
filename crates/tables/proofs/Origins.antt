-- One node's origin changes, and nothing else: trees are built over trees, and not over origins.
use Rattle.std.proofs.Common.{◌≡◌, ℕ, zero, suc, ◌+◌, ◌<◌, ◌≤◌, true, ◌&&◌, leb, List, [], ◌∷◌, ◌++◌, map, length, get_or, set, sym, refl, ap, ◌∙◌, subst, ap₂, arith, length-set}
use lib.Seq.{set-append_seam, set-append_left, map-set_same}
use Rattle.std.proofs.lemmas.List.{get_or_append_left, get_or_at, length_push}
use Rattle.std.proofs.lemmas.Bool.{and_parts, and_from, le-leb}
use Rattle.table.specs.Fold.{built, all_ok}
use Rattle.table.proofs.Folds.{built-keep, ok-set}
use Rattle.plan.specs.Fields.{every}
use Rattle.plan.specs.Plans.{plan_size_of}
use Rattle.plan.specs.Model.{Node, space, no_node}
use Rattle.terms.specs.Views.{View}
use Rattle.entries.specs.declared.node.Entry.{Entry}
use Rattle.entries.specs.declared.node.PlanId.{PlanId}
use Rattle.entries.specs.declared.node.StoredField.{StoredField}
use Rattle.tables.specs.Holding.{model_from}
use Rattle.tables.specs.Origins.{OriginGiven}
use Rattle.stored.specs.Stored.{fields_in, run_in, build_plan_node, build_plan, plan_nodes, plan_trees, node_trees, node_inputs, inputs_from, inside_node, accepted_node, inside_plan, fielded_at, well_formed}
use Rattle.stored.specs.declared.node.PlanRecord.{PlanRecord}
use Rattle.stored.proofs.PlanFacts.{PlanFacts, ok_at}

module _ (v : View) (fields : List StoredField) where
  -- over nodes of which one has another origin
  built-over : (rs : List PlanRecord) (ns : List Node) (i : ℕ) (n : Node) → i < length ns → n.tree ≡ (get_or ns i no_node).tree → built (build_plan v fields) (set ns i n) rs ≡ set (built (build_plan v fields) ns rs) i n
  built-over [] ns i n lt e = refl
  built-over (r ∷ rs) ns i n lt e =
      let f = build_plan v fields in
      let x = f ns r in
      let same : f (set ns i n) r ≡ x = ap (λ ts. record { tree = build_plan_node v (fields_in v.bytes fields r.fields) ts r.node; origin = r.origin.0 }) (map-set_same (λ y. y.tree) ns i n no_node e) in
      ap (λ y. built f (set ns i n ++ y ∷ []) rs) same ∙ ap (λ l. built f l rs) (sym (set-append_left ns (x ∷ []) i n lt))
      ∙ built-over rs (ns ++ x ∷ []) i n (omega (arith, length_push ns x)) (e ∙ ap (λ y. y.tree) (sym (get_or_append_left ns (x ∷ []) no_node i lt)))

  -- from records of which one has another origin
  built-with : (rs : List PlanRecord) (ns : List Node) (i : ℕ) (r d : PlanRecord) → i < length rs → r.node ≡ (get_or rs i d).node → r.fields ≡ (get_or rs i d).fields
      → built (build_plan v fields) ns (set rs i r) ≡ set (built (build_plan v fields) ns rs) (length ns + i) (record { tree = (get_or (built (build_plan v fields) ns rs) (length ns + i) no_node).tree; origin = r.origin.0 })
  built-with [] ns i r d lt a b = absurd (omega arith)
  built-with (s ∷ rs) ns zero r d lt a b =
      let f = build_plan v fields in
      let x = f ns s in
      let y = f ns r in
      let all = built f (ns ++ x ∷ []) rs in
      let z : length ns ≡ length ns + 0 = omega arith in
      let tree : y.tree ≡ x.tree = ap₂ (λ l n. build_plan_node v (fields_in v.bytes fields l) (node_trees ns) n) b a in
      let here : get_or (ns ++ x ∷ []) (length ns) no_node ≡ x = get_or_at ns x [] no_node (length ns) refl in
      let kept : get_or all (length ns) no_node ≡ x = built-keep f rs (ns ++ x ∷ []) no_node (length ns) (omega (arith, length_push ns x)) ∙ here in
      ap (λ l. built f l rs) (sym (set-append_seam ns x [] y)) ∙ built-over rs (ns ++ x ∷ []) (length ns) y (omega (arith, length_push ns x)) (tree ∙ ap (λ n. n.tree) (sym here))
      ∙ ap (λ t. set all (length ns) (record { tree = t; origin = r.origin.0 })) (tree ∙ ap (λ n. n.tree) (sym kept))
      ∙ ap (λ j. set all j (record { tree = (get_or all j no_node).tree; origin = r.origin.0 })) z
  built-with (s ∷ rs) ns (suc i) r d lt a b =
      let f = build_plan v fields in
      let us = ns ++ f ns s ∷ [] in
      let all = built f us rs in
      let z : length us + i ≡ length ns + suc i = omega (arith, length_push ns (f ns s)) in
      built-with rs us i r d (omega arith) a b ∙ ap (λ j. set all j (record { tree = (get_or all j no_node).tree; origin = r.origin.0 })) z

-- the record r at i is given the origin o
module _ (v : View) (fields : List StoredField) (rs R : List PlanRecord) (i : ℕ) (r : PlanRecord) (o : PlanId) (lt : i < length rs) (at : r ≡ get_or rs i r)
    (e : R ≡ set rs i (record { node = r.node; fields = r.fields; size = r.size; origin = o })) where
  abbrev given : PlanRecord
  given = record { node = r.node; fields = r.fields; size = r.size; origin = o }

  nodes : plan_nodes v fields R ≡ set (plan_nodes v fields rs) i (record { tree = (get_or (plan_nodes v fields rs) i no_node).tree; origin = o.0 })
  nodes =
      let z : 0 + i ≡ i = omega arith in
      let all = plan_nodes v fields rs in
      ap (plan_nodes v fields) e ∙ built-with v fields rs [] i given r lt (ap (λ x. x.node) at) (ap (λ x. x.fields) at)
      ∙ ap (λ j. set all j (record { tree = (get_or all j no_node).tree; origin = o.0 })) z

  trees : plan_trees v fields R ≡ plan_trees v fields rs
  trees = ap node_trees nodes ∙ map-set_same (λ n. n.tree) (plan_nodes v fields rs) i _ no_node refl

  inputs : (es : List Entry) → inputs_from es R ≡ inputs_from es rs
  inputs es = ap (inputs_from es) e ∙ map-set_same (λ x. node_inputs es x.node) rs i given r (ap (λ x. node_inputs es x.node) at)

  pub given-facts : o.0 ≤ i → PlanFacts v fields rs → PlanFacts v fields R
  given-facts le k =
      let z : i ≡ 0 + i = omega arith in
      let ts = plan_trees v fields rs in
      let h : inside_plan v fields i r ≡ true = subst (λ x. inside_plan v fields i x ≡ true) (sym at) (subst (λ j. inside_plan v fields j (get_or rs i r) ≡ true) (sym z) (ok_at (inside_plan v fields) 0 rs i r lt k.are-sound)) in
      let a = and_parts (inside_node v i r.node && accepted_node v.bytes r.node) ((run_in fields r.fields && leb r.fields.count 64) && (leb r.origin.0 i && leb r.size 64)) h in
      let b = and_parts (run_in fields r.fields && leb r.fields.count 64) (leb r.origin.0 i && leb r.size 64) a.1 in
      let c = and_parts (leb r.origin.0 i) (leb r.size 64) b.1 in
      let new : inside_plan v fields i given ≡ true = and_from _ _ a.0 (and_from _ _ b.0 (and_from _ _ (le-leb o.0 i le) c.1)) in
      let old : fielded_at v fields ts (0 + i) r ≡ true = subst (λ x. fielded_at v fields ts (0 + i) x ≡ true) (sym at) (ok_at (fielded_at v fields ts) 0 rs i r lt k.are-fielded) in
      record {
        are-stored = k.are-stored;
        are-sound = ap (all_ok (inside_plan v fields) 0) e ∙ ok-set (inside_plan v fields) 0 rs i given k.are-sound (subst (λ j. inside_plan v fields j given ≡ true) z new);
        are-fielded = ap₂ (λ us xs. all_ok (fielded_at v fields us) 0 xs) trees e ∙ ok-set (fielded_at v fields ts) 0 rs i given k.are-fielded old;
        have-sizes = ap (map (λ x. x.size)) e ∙ map-set_same (λ x. x.size) rs i given r (ap (λ x. x.size) at) ∙ k.have-sizes ∙ sym (ap (map plan_size_of) trees);
        are-formed = ap (every (well_formed v.functions)) trees ∙ k.are-formed;
      }

  pub origin-given : OriginGiven (model_from v fields rs) i o.0 (model_from v fields R)
  origin-given = record {
    functions = refl;
    exprs = refl;
    plans = nodes;
    inputs = inputs v.entries;
    text = refl;
    used = ap (λ n. space (length v.trees) n (length v.entries) (length fields) (length v.bytes)) (ap length nodes ∙ length-set (plan_nodes v fields rs) i _);
  }
