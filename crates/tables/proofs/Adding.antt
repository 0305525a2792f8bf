-- A node that has passed its questions is stored: what the tables hold then.
use Rattle.std.proofs.Common.{◌≡◌, ℕ, ◌+◌, ◌≤◌, true, ◌&&◌, leb, List, [], ◌∷◌, ◌++◌, map, length, sum_by, sym, refl, ap, ◌∙◌, subst, ap₂, arith, length-append}
use Rattle.std.proofs.lemmas.List.{append-nil, append_assoc, length-map, length_push, map_push}
use Rattle.std.proofs.lemmas.Bool.{and_parts, and_from, leb-true, le-leb}
use Rattle.table.specs.Contents.{part}
use Rattle.table.proofs.Parts.{part-added}
use Rattle.plan.specs.Names.{Name, good_name}
use Rattle.plan.specs.Plans.{Plan, fields_of, plan_size_of}
use Rattle.plan.specs.Fields.{every}
use Rattle.plan.specs.Questions.{limited, expressions_of, shown_expressions, small_tree, short_name}
use Rattle.plan.specs.Model.{Space, fits, plans_in}
use Rattle.plan.specs.Calls.{between, parts, rendered_bytes, union_of}
use Rattle.entries.specs.Spans.{stored_field, stored_in}
use Rattle.names.specs.Spans.{word}
use Rattle.terms.specs.Views.{View, grown}
use Rattle.entries.specs.declared.node.Entry.{Entry}
use Rattle.entries.specs.declared.node.Entry.TheVariants.{Expression, Input}
use Rattle.entries.specs.declared.node.PlanId.{PlanId}
use Rattle.entries.specs.declared.node.StoredField.{StoredField}
use Rattle.draft.specs.Drafts.{draft_field, draft_in, draft_bytes, StoredAll}
use Rattle.draft.specs.declared.word.DraftField.{DraftField}
use Rattle.draft.proofs.Keeping.{drafts-grown}
use Rattle.stored.specs.Stored.{fields_in, build_plan_node, build_plan, plan_nodes, node_trees, node_inputs, inputs_from, inside_node, accepted_node, inside_plan, well_formed}
use Rattle.tables.specs.Holding.{view_in, nodes_of, trees_in, plan_count, model_from, model_of}
use Rattle.stored.specs.Making.{tree_over, entries_for, bytes_for, bounded, well_named, well_placed_in, input_numbers, inputs_for}
use Rattle.tables.specs.Making.{tree_for, outlay_for, well_placed, NodeStored}
use Rattle.stored.specs.Keys.{key_entry}
use Rattle.stored.specs.Placing.{own_text, own_entries, lent_owner, lent_given, PlacedAs}
use Rattle.stored.specs.declared.node.NewNode.{NewNode}
use Rattle.stored.specs.declared.node.NewNode.TheVariants.{Table, Projection, Filter, Sort, Limit, Aggregate, Join, SubqueryAlias, Union}
use Rattle.stored.specs.declared.node.PlanRecord.{PlanRecord}
use Rattle.stored.specs.declared.placing.Placed.{Placed}
use Rattle.tables.specs.declared.tables.Tables.{Tables}
use Rattle.stored.proofs.PlanFrames.{node-grow, accepted-grow, inputs-grow, all-inputs-grow, plans-grow}
use Rattle.stored.proofs.PlanFacts.{PlanFacts, facts-grow, facts-push, nodes-push}
use Rattle.tables.proofs.Held.{facts-in, counted}
use Rattle.tables.proofs.Answers.{space-same}
use Rattle.tables.specs.Drafting.{ShownDraft}

pub own-bytes : (n : NewNode) → length (own_text n) ≡ bytes_for n
own-bytes (Table q ns) = length-append q.now ns.now
own-bytes (Projection i l) = refl
own-bytes (Filter i e) = refl
own-bytes (Sort i ks) = refl
own-bytes (Limit i s c) = refl
own-bytes (Aggregate i gs us) = refl
own-bytes (Join k l r cs) = refl
own-bytes (SubqueryAlias i n) = refl
own-bytes (Union is) = refl

pub own-entries : (n : NewNode) → length (own_entries n) ≡ entries_for n
own-entries (Table q ns) = refl
own-entries (Projection i l) = length-map l.now Expression
own-entries (Filter i e) = refl
own-entries (Sort i ks) = length-map ks.now key_entry
own-entries (Limit i s c) = refl
own-entries (Aggregate i gs us) =
    length-append (map Expression gs.now) (map Expression us.now) ∙ ap₂ (λ a b. a + b) (length-map gs.now Expression) (length-map us.now Expression)
own-entries (Join k l r cs) = length-map cs.now Expression
own-entries (SubqueryAlias i n) = refl
own-entries (Union is) = length-map is.now Input

-- what room for so much says of each table
pub fits-parts : (a o : Space) → fits a o ≡ true
    → (a.plans + o.plans ≤ 128) × (a.entries + o.entries ≤ 2048) × (a.fields + o.fields ≤ 2048) × (a.bytes + o.bytes ≤ 16384)
fits-parts a o h =
    let e = leb (a.exprs + o.exprs) 1024 in
    let p = leb (a.plans + o.plans) 128 in
    let l = leb (a.entries + o.entries) 2048 in
    let f = leb (a.fields + o.fields) 2048 in
    let b = leb (a.bytes + o.bytes) 16384 in
    let x = and_parts (e && p) (l && (f && b)) h in
    let y = and_parts e p x.0 in
    let z = and_parts l (f && b) x.1 in
    let w = and_parts f b z.1 in
    (leb-true _ _ y.1, leb-true _ _ z.0, leb-true _ _ w.0, leb-true _ _ w.1)

grown-then : (v w u : View) (a b : List ℕ) (e : List Entry) → w ≡ grown v [] a e → u ≡ grown w [] b [] → u ≡ grown v [] (a ++ b) e
grown-then v w u a b e p q =
    q ∙ ap (λ x. grown x [] b []) p
    ∙ Rattle.terms.proofs.Facts.same_view v v.functions v.trees [] v.bytes (a ++ b) v.entries e v.functions ((v.trees ++ []) ++ []) ((v.bytes ++ a) ++ b) ((v.entries ++ e) ++ []) refl refl (append-nil (v.trees ++ [])) (append_assoc v.bytes a b) (append-nil (v.entries ++ e))

pub stored-for : (w u : View) (o g : List ℕ) (ds es : List DraftField) (fs F : List StoredField) → ds ≡ es → StoredAll w o g ds fs u F → StoredAll w o g es fs u F
stored-for w u o g ds es fs F e h = subst (λ l. StoredAll w o g l fs u F) e h

-- what the new node brings is well formed
formed-brought : (v : View) (k : ℕ) (ts : List Plan) (n : NewNode) → bounded n ≡ true → well_named n ≡ true → well_placed_in v n ≡ true → well_formed v.functions (tree_over v k ts n) ≡ true
formed-brought v k ts (Table q ns) b h p = h
formed-brought v k ts (Projection i l) b h p = p
formed-brought v k ts (Filter i e) b h p = refl
formed-brought v k ts (Sort i ks) b h p = refl
formed-brought v k ts (Limit i s c) b h p = refl
formed-brought v k ts (Aggregate i gs us) b h p = refl
formed-brought v k ts (Join j l r cs) b h p = refl
formed-brought v k ts (SubqueryAlias i n) b h p = h
formed-brought v k ts (Union is) b h p = of-union is.now b
  where
    of-union : (ps : List PlanId) → between 1 8 (length ps) ≡ true → well_formed v.functions (union_of (plans_in ts (input_numbers ps))) ≡ true
    of-union [] b = absurd (let z : ◌≡◌ {A = ℕ} 0 1 = cc in omega arith)
    of-union (p ∷ ps) b = refl

-- after the names and lists: the draft is as it was
module _ (t : Tables) (n : NewNode) (k : ℕ) (ds : List DraftField) (dr : ShownDraft t n ds) (w : View) (x : Placed) (px : PlacedAs (view_in t) k n x w) where
  kept : (map (draft_field w (word w.bytes x.lent.owner) (word w.bytes x.lent.given)) ds ≡ fields_of (view_in t).functions (tree_for t n))
      × (every (draft_in w (word w.bytes x.lent.owner) (word w.bytes x.lent.given)) ds ≡ true)
      × (draft_bytes w ds ≡ sum_by (rendered_bytes (view_in t).functions) (shown_expressions (tree_for t n)))
  kept =
      let g = drafts-grown (view_in t) w (own_text n) (own_entries n) (lent_owner n) (lent_given n) ds px.view dr.inside in
      (ap₂ (λ o l. map (draft_field w o l) ds) px.owner px.given ∙ g.0 ∙ dr.fields, ap₂ (λ o l. every (draft_in w o l) ds) px.owner px.given ∙ g.1, g.2 ∙ dr.bytes)

  pub draft-kept : every (draft_in w (word w.bytes x.lent.owner) (word w.bytes x.lent.given)) ds ≡ true
  draft-kept = kept.1

  pub draft-long : length ds ≡ length (fields_of (view_in t).functions (tree_for t n))
  draft-long = sym (length-map ds (draft_field (view_in t) (lent_owner n) (lent_given n))) ∙ ap length dr.fields

  pub bytes_left : fits (model_of t).used (outlay_for t n) ≡ true → length w.bytes + draft_bytes w ds ≤ 16384
  bytes_left h =
      omega (arith, (fits-parts (model_of t).used (outlay_for t n) h).3, kept.2, ap (λ y. length y.bytes) px.view, length-append (view_in t).bytes (own_text n), own-bytes n)

  module _ (ke : k ≡ plan_count t) (u : View) (F : List StoredField)
      (st : StoredAll w (word w.bytes x.lent.owner) (word w.bytes x.lent.given) ds t.fields u F)
      (lim : limited (view_in t).functions (tree_for t n) ≡ true) (few : bounded n ≡ true) (named : well_named n ≡ true) (well : well_placed t n ≡ true) (number : PlanId) (ne : number.0 ≡ k) (first count size : ℕ) (fe : first ≡ length t.fields) (ce : count ≡ length ds) (se : size ≡ plan_size_of (tree_for t n))
      (R : List PlanRecord) (Re : R ≡ t.plans ++ record { node = x.node; fields = record { first = first; count = count }; size = size; origin = number } ∷ []) where
    abbrev new : PlanRecord
    new = record { node = x.node; fields = record { first = first; count = count }; size = size; origin = number }

    abbrev bs : List ℕ
    bs = own_text n ++ st.bytes

    seen : u ≡ grown (view_in t) [] bs (own_entries n)
    seen = grown-then (view_in t) w u (own_text n) st.bytes (own_entries n) px.view st.view

    before : PlanFacts u F t.plans
    before =
        let f = facts-grow (view_in t) [] bs (own_entries n) t.fields st.new t.plans (ap (λ y. every (stored_in y.bytes) st.new) (sym seen) ∙ st.inside) (facts-in t) in
        subst (λ fs. PlanFacts u fs t.plans) (sym st.grew) (subst (λ y. PlanFacts y (t.fields ++ st.new) t.plans) (sym seen) f)

    nodes : plan_nodes u F t.plans ≡ nodes_of t
    nodes =
        ap₂ (λ y fs. plan_nodes y fs t.plans) seen st.grew ∙ (plans-grow (view_in t) [] bs (own_entries n) t.fields st.new t.stored t.plans t.sound).1

    new-long : length st.new ≡ length ds
    new-long = sym (length-map st.new (stored_field u.bytes)) ∙ ap length st.fields ∙ length-map ds (draft_field w (word w.bytes x.lent.owner) (word w.bytes x.lent.given))

    has-fields : fields_in u.bytes F new.fields ≡ fields_of (view_in t).functions (tree_for t n)
    has-fields =
        ap (λ c. map (stored_field u.bytes) (part F first c)) (ce ∙ sym new-long) ∙ ap (map (stored_field u.bytes)) (part-added t.fields st.new F first st.grew fe) ∙ st.fields ∙ kept.0

    has-tree : (build_plan u F (plan_nodes u F t.plans) new).tree ≡ tree_for t n
    has-tree =
        let fs = fields_of (view_in t).functions (tree_for t n) in
        ap₂ (λ l ns. build_plan_node u l (node_trees ns) x.node) has-fields nodes
        ∙ ap (λ y. build_plan_node y fs (trees_in t) x.node) st.view ∙ (node-grow w [] st.bytes [] k x.node px.inside).1 fs (trees_in t)
        ∙ px.tree fs (trees_in t) (ap (λ j. fields_of (view_in t).functions (tree_over (view_in t) j (trees_in t) n)) (sym ke)) ∙ ap (λ j. tree_over (view_in t) j (trees_in t) n) ke

    is-inside : inside_plan u F (length t.plans) new ≡ true
    is-inside =
        let l = and_parts (leb (length (fields_of (view_in t).functions (tree_for t n))) 64 && leb (plan_size_of (tree_for t n)) 64) (every small_tree (expressions_of (tree_for t n)) && every (short_name (view_in t).functions) (shown_expressions (tree_for t n))) lim in
        let m = and_parts (leb (length (fields_of (view_in t).functions (tree_for t n))) 64) (leb (plan_size_of (tree_for t n)) 64) l.0 in
        let kl : k ≡ length t.plans = ke ∙ counted t in
        and_from _ _ (and_from _ _ (ap₂ (λ y j. inside_node y j x.node) st.view (sym kl) ∙ (node-grow w [] st.bytes [] k x.node px.inside).0) (ap (λ y. accepted_node y.bytes x.node) st.view ∙ accepted-grow w [] st.bytes [] k x.node px.inside ∙ px.accepted named))
        (and_from _ _ (and_from _ _ (le-leb (first + count) (length F) (omega (arith, ap length st.grew, length-append t.fields st.new, new-long, fe, ce))) (le-leb count 64 (omega (arith, leb-true _ _ m.0, draft-long, ce))))
        (and_from _ _ (le-leb number.0 (length t.plans) (omega (arith, kl, ne))) (le-leb size 64 (omega (arith, leb-true _ _ m.1, se)))))

    pub added-facts : PlanFacts u F R
    added-facts =
        facts-push u F t.plans R new Re before is-inside (has-fields ∙ ap₂ fields_of (sym (ap (λ y. y.functions) seen)) (sym has-tree)) (se ∙ ap plan_size_of (sym has-tree))
        (ap₂ well_formed (ap (λ y. y.functions) seen) has-tree ∙ formed-brought (view_in t) (plan_count t) (trees_in t) n few named well)

    all-nodes : plan_nodes u F R ≡ nodes_of t ++ record { tree = tree_for t n; origin = plan_count t } ∷ []
    all-nodes =
        nodes-push u F t.plans R new Re before
        ∙ ap₂ (λ ns m. ns ++ m ∷ []) nodes (ap₂ (λ a b. record { tree = a; origin = b }) has-tree (ne ∙ ke))

    all-inputs : inputs_from u.entries R ≡ (model_of t).inputs ++ inputs_for n ∷ []
    all-inputs =
        ap (inputs_from u.entries) Re ∙ map_push (λ r. node_inputs u.entries r.node) t.plans new
        ∙ ap₂ (λ ns m. ns ++ m ∷ []) (ap (λ y. inputs_from y.entries t.plans) seen ∙ all-inputs-grow (view_in t) [] bs (own_entries n) t.fields st.new t.stored 0 t.plans t.sound)
        (ap (λ y. node_inputs y.entries x.node) st.view ∙ inputs-grow w [] st.bytes [] k x.node px.inside ∙ px.inputs)

    pub added : NodeStored t n number.0 (model_from u F R)
    added =
        record {
          number = ne ∙ ke;
          functions = ap (λ y. y.functions) seen;
          exprs = ap (λ y. y.trees) seen ∙ append-nil (view_in t).trees;
          plans = all-nodes;
          inputs = all-inputs;
          bytes = bs;
          text = ap (λ y. y.bytes) seen;
          used = space-same _ _ _ _ _ _ _ _ _ _
              (ap (λ y. length y.trees) seen ∙ ap length (append-nil (view_in t).trees) ∙ plain (length (view_in t).trees))
              (ap length all-nodes ∙ length_push (nodes_of t) _)
              (ap (λ y. length y.entries) seen ∙ length-append (view_in t).entries (own_entries n) ∙ ap (λ j. length (view_in t).entries + j) (own-entries n))
              (ap length st.grew ∙ length-append t.fields st.new ∙ ap (λ j. length t.fields + j) (new-long ∙ draft-long))
              (ap (λ y. length y.bytes) seen ∙ length-append (view_in t).bytes bs ∙ ap (λ j. length (view_in t).bytes + j) (length-append (own_text n) st.bytes ∙ ap₂ (λ a b. a + b) (own-bytes n) (st.used ∙ kept.2)));
        }
      where
        plain : (m : ℕ) → m ≡ m + 0
        plain m = omega arith
