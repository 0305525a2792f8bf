-- The record's node over the tables, for each kind of node that is placed.
use Rattle.std.proofs.Common.{◌≡◌, ℕ, true, ltb, leb, List, [], ◌∷◌, ◌++◌, map, length, sym, refl, ap, ◌∙◌, subst, ap₂, arith}
use Rattle.std.proofs.lemmas.List.{append-nil, append_assoc, length-map}
use Rattle.std.proofs.lemmas.Bool.{and_from, le-leb, eq-eqb}
use Rattle.plan.specs.Names.{Name, good_name}
use Rattle.plan.specs.Terms.{Field, Expr}
use Rattle.plan.specs.Plans.{Plan, fields_of, column_of}
use Rattle.plan.specs.Plans.Plan.{table, subquery_alias}
use Rattle.plan.specs.Model.{exprs_in, plan_in}
use Rattle.plan.specs.Calls.{all_below, parts}
use Rattle.entries.specs.Entries.{entry_number}
use Rattle.names.specs.Spans.{word, span_in}
use Rattle.terms.specs.Views.{View, grown, numbers_of}
use Rattle.entries.specs.declared.node.Entry.{Entry}
use Rattle.entries.specs.declared.node.Entry.TheVariants.{Expression, Input}
use Rattle.entries.specs.declared.node.ExprId.{ExprId}
use Rattle.entries.specs.declared.node.PlanId.{PlanId}
use Rattle.names.specs.declared.parts.Span.{Span}
use Rattle.terms.proofs.Calling.{entries-numbers}
use Rattle.lexicon.proofs.Frames.{span_grow}
use Rattle.terms.proofs.Facts.{grown-twice, same_view}
use Rattle.stored.specs.Stored.{run_numbers, run_exprs, run_keys, key_at, list_in, inside_node, build_plan_node, node_inputs, accepted_node}
use Rattle.stored.specs.Making.{new_key, key_numbers, input_numbers, tree_over, inputs_for, well_named}
use Rattle.stored.specs.Keys.{key_entry}
use Rattle.stored.specs.Placing.{own_text, own_entries, lent_owner, lent_given, namelessly, PlacedAs}
use Rattle.stored.specs.Listing.{ListedAs}
use Rattle.entries.specs.declared.node.Run.{Run}
use Rattle.stored.specs.declared.node.SortKey.{SortKey}
use Rattle.stored.specs.declared.node.PlanNode.{PlanNode}
use Rattle.stored.specs.declared.node.PlanNode.TheVariants.{Table, SubqueryAlias}
use Rattle.stored.specs.declared.node.NewNode.{NewNode}
use Rattle.stored.specs.declared.placing.Placed.{Placed}
use Rattle.stored.proofs.PlanFrames.{list-grow}

key-numbers : (ks : List SortKey) → map entry_number (map key_entry ks) ≡ key_numbers ks
key-numbers [] = refl
key-numbers (k ∷ ks) = ap (λ l. k.by.0 ∷ l) (key-numbers ks)

input-numbers : (is : List PlanId) → map entry_number (map Input is) ≡ input_numbers is
input-numbers [] = refl
input-numbers (i ∷ is) = ap (λ l. i.0 ∷ l) (input-numbers is)

keys-listed : (ts : List Expr) (ks : List SortKey) → map (key_at ts) (map key_entry ks) ≡ map (new_key ts) ks
keys-listed ts [] = refl
keys-listed ts (k ∷ ks) = ap (λ l. new_key ts k ∷ l) (keys-listed ts ks)

-- a list that was put into the list table
module _ (v w : View) (r : Run) where
  same-trees : (es : List Entry) → ListedAs v es r w → w.trees ≡ v.trees
  same-trees es l = ap (λ x. x.trees) l.view ∙ append-nil v.trees

  list-in : (es : List Entry) (ns : List ℕ) → ListedAs v es r w → map entry_number es ≡ ns → all_below (length v.trees) ns ≡ true → list_in w r ≡ true
  list-in es ns l e b =
      and_from _ _ l.run (ap₂ (λ k xs. all_below k xs) (ap length (same-trees es l)) (ap (map entry_number) l.list ∙ e) ∙ b)

  pub exprs-listed : (ids : List ExprId) → ListedAs v (map Expression ids) r w → all_below (length v.trees) (numbers_of ids) ≡ true → (list_in w r ≡ true) × (run_exprs w r ≡ exprs_in v.trees (numbers_of ids))
  exprs-listed ids l b =
      (list-in (map Expression ids) (numbers_of ids) l (entries-numbers ids) b, ap₂ exprs_in (same-trees (map Expression ids) l) (ap (map entry_number) l.list ∙ entries-numbers ids))

  pub sort-listed : (ks : List SortKey) → ListedAs v (map key_entry ks) r w → all_below (length v.trees) (key_numbers ks) ≡ true → (list_in w r ≡ true) × (run_keys w r ≡ map (new_key v.trees) ks)
  sort-listed ks l b =
      (list-in (map key_entry ks) (key_numbers ks) l (key-numbers ks) b, ap₂ (λ ts es. map (key_at ts) es) (same-trees (map key_entry ks) l) l.list ∙ keys-listed v.trees ks)

  pub inputs-listed : (is : List PlanId) → ListedAs v (map Input is) r w → run_numbers w.entries r ≡ input_numbers is
  inputs-listed is l = ap (map entry_number) l.list ∙ input-numbers is

-- a bound on the list is one on its run
pub few-listed : {X : Type 0} (v w : View) (r : Run) (f : X → Entry) (xs : List X) (n : ℕ) → ListedAs v (map f xs) r w → leb (length xs) n ≡ true → leb r.count n ≡ true
few-listed v w r f xs n l h = ap (λ k. leb k n) (l.count ∙ length-map xs f) ∙ h

pub for-node : (v w : View) (k : ℕ) (n m : NewNode) (x : Placed) → n ≡ m → PlacedAs v k m x w → PlacedAs v k n x w
for-node v w k n m x e h = subst (λ y. PlacedAs v k y x w) (sym e) h

-- a node that brings no names
pub nameless-placed : (v w : View) (k : ℕ) (n : NewNode) (p : PlanNode) (x : Placed) → x ≡ namelessly p → lent_owner n ≡ [] → lent_given n ≡ [] → w ≡ grown v [] (own_text n) (own_entries n) → inside_node w k p ≡ true → accepted_node w.bytes p ≡ true → node_inputs w.entries p ≡ inputs_for n
    → ((fs : List Field) (ts : List Plan) → build_plan_node w fs ts p ≡ tree_over v k ts n) → PlacedAs v k n x w
nameless-placed v w k n p x e o g s i a ins t =
    subst (λ y. PlacedAs v k n y w) (sym e) (record {
      view = s;
      inside = i;
      accepted = λ h. a;
      tree = λ fs ts h. t fs ts;
      inputs = ins;
      lent = record { owner = le-leb 0 (length w.bytes) (omega arith); given = le-leb 0 (length w.bytes) (omega arith) };
      owner = sym o;
      given = sym g;
    })

names-back : (q : Name) (ns : List Name) → map (λ f. f.name) (map (column_of q) ns) ≡ ns
names-back q [] = refl
names-back q (n ∷ ns) = ap (λ l. n ∷ l) (names-back q ns)

-- a Table: its qualifier and then its names were written
pub table-placed : (v w u : View) (k : PlanId) (n : NewNode) (q ns : List ℕ) (a b : Span) → own_text n ≡ q ++ ns → own_entries n ≡ [] → lent_owner n ≡ q → lent_given n ≡ ns
    → ((ts : List Plan) → tree_over v k.0 ts n ≡ table k.0 q (parts ns)) → inputs_for n ≡ [] → (well_named n ≡ true → good_name q ≡ true)
    → w ≡ grown v [] q [] → span_in w.bytes a ≡ true → word w.bytes a ≡ q → u ≡ grown w [] ns [] → span_in u.bytes b ≡ true → word u.bytes b ≡ ns
    → PlacedAs v k.0 n (record { node = Table k a; lent = record { owner = a; given = b } }) u
table-placed v w u k n q ns a b text entries owner given tree ins good e ai aw f bi bw =
    let g = span_grow w.bytes ns a ai in
    let x : u.bytes ≡ w.bytes ++ ns = ap (λ y. y.bytes) f in
    let ua : span_in u.bytes a ≡ true = ap (λ l. span_in l a) x ∙ g.1 in
    let uw : word u.bytes a ≡ q = ap (λ l. word l a) x ∙ g.0 ∙ aw in
    record {
      view = grown-twice v w u q ns e f ∙ ap₂ (λ t es. grown v [] t es) (sym text) (sym entries);
      inside = and_from _ _ (eq-eqb k.0 k.0 refl) ua;
      accepted = λ h. ap good_name uw ∙ good h;
      tree = λ fs ts h. ap₂ (λ c l. table k.0 c l) uw (ap (map (λ y. y.name)) (h ∙ ap (fields_of v.functions) (tree ts)) ∙ names-back q (parts ns)) ∙ sym (tree ts);
      inputs = sym ins;
      lent = record { owner = ua; given = bi };
      owner = uw ∙ sym owner;
      given = bw ∙ sym given;
    }

-- a SubqueryAlias: its name was written
pub alias-placed : (v w : View) (k : ℕ) (i : PlanId) (n : NewNode) (name : List ℕ) (a : Span) → own_text n ≡ name → own_entries n ≡ [] → lent_owner n ≡ name → lent_given n ≡ []
    → ((ts : List Plan) → tree_over v k ts n ≡ subquery_alias name (plan_in ts i.0)) → inputs_for n ≡ i.0 ∷ [] → (well_named n ≡ true → good_name name ≡ true) → ltb i.0 k ≡ true
    → w ≡ grown v [] name [] → span_in w.bytes a ≡ true → word w.bytes a ≡ name
    → PlacedAs v k n (record { node = SubqueryAlias i a; lent = record { owner = a; given = record { start = 0; len = 0 } } }) w
alias-placed v w k i n name a text entries owner given tree ins good low e ai aw =
    record {
      view = e ∙ ap₂ (λ t es. grown v [] t es) (sym text) (sym entries);
      inside = and_from _ _ low ai;
      accepted = λ h. ap good_name aw ∙ good h;
      tree = λ fs ts h. ap (λ x. subquery_alias x (plan_in ts i.0)) aw ∙ sym (tree ts);
      inputs = sym ins;
      lent = record { owner = ai; given = le-leb 0 (length w.bytes) (omega arith) };
      owner = aw ∙ sym owner;
      given = sym given;
    }

-- two lists, one after the other
pub twice-listed : (v w u : View) (es fs : List Entry) (r s : Run) → ListedAs v es r w → ListedAs w fs s u → u ≡ grown v [] [] (es ++ fs)
twice-listed v w u es fs r s a b =
    b.view ∙ ap (λ x. grown x [] [] fs) a.view
    ∙ same_view v v.functions v.trees [] v.bytes [] v.entries (es ++ fs) v.functions ((v.trees ++ []) ++ []) ((v.bytes ++ []) ++ []) ((v.entries ++ es) ++ fs) refl refl (append-nil (v.trees ++ [])) (append-nil (v.bytes ++ [])) (append_assoc v.entries es fs)

-- the first of two lists stays
pub first-kept : (v w u : View) (gs us : List ExprId) (r s : Run) → ListedAs v (map Expression gs) r w → ListedAs w (map Expression us) s u → all_below (length v.trees) (numbers_of gs) ≡ true → all_below (length v.trees) (numbers_of us) ≡ true
    → (list_in u r ≡ true) × (run_exprs u r ≡ exprs_in v.trees (numbers_of gs)) × (list_in u s ≡ true) × (run_exprs u s ≡ exprs_in v.trees (numbers_of us))
first-kept v w u gs us r s a b p q =
    let x = exprs-listed v w r gs a p in
    let t = same-trees v w r (map Expression gs) a in
    let y = exprs-listed w u s us b (ap (λ l. all_below (length l) (numbers_of us)) t ∙ q) in
    let g = list-grow w [] [] (map Expression us) r x.0 in
    (ap (λ z. list_in z r) b.view ∙ g.0, ap (λ z. run_exprs z r) b.view ∙ g.1 ∙ x.1, y.0, y.1 ∙ ap (λ l. exprs_in l (numbers_of us)) t)
