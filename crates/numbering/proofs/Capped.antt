-- The numbers at one place of the tables, kind by kind, and one turn of a loop over places.
use Rattle.std.proofs.Common.{◌≡◌, ℕ, ◌+◌, ◌<◌, ◌≤◌, min, max, List, [], ◌∷◌, ◌++◌, map, length, get_or, take, Some, None, sym, refl, ap, ◌∙◌, arith}
use Rattle.std.specs.List.{flat_map}
use Rattle.std.proofs.lemmas.List.{get_or-map, length-map}
use Rattle.names.specs.Spans.{word}
use Rattle.names.specs.declared.TheConstants.{NUMBER_CAP}
use Rattle.names.specs.declared.parts.Span.{Span}
use Rattle.numbering.specs.Own.{capped, names_in, node_own, own_names, relation_names}
use Rattle.numbering.proofs.Bounded.{book-low}
use Rattle.numbering.proofs.Highest.{capped-turn, highest-append, highest-from, highest-more, highest-none, highest-one, one_name}
use Rattle.numbering.proofs.Places.{book-numbers, empty-name, exprs-numbers}
use Rattle.plan.specs.Calls.{union_of}
use Rattle.plan.specs.Functions.{Functions}
use Rattle.plan.specs.Model.{Node, no_node, plans_in}
use Rattle.plan.specs.Names.{Name, most_number, number_of}
use Rattle.plan.specs.Plans.{Plan, fields_of}
use Rattle.plan.specs.Terms.{Field}
use Rattle.rewriting.specs.Generated.{book_names, field_names, highest, literal_names, list_names, next_number, node_names, qualifier_names}
use Rattle.tables.specs.Holding.{model_of, nodes_of, view_in}
use Rattle.stored.specs.Stored.{build_plan_node, run_numbers}
use Rattle.stored.specs.declared.node.PlanNode.{PlanNode}
use Rattle.stored.specs.declared.node.PlanNode.TheVariants.{Aggregate, Filter, Join, Limit, Projection, Sort, SubqueryAlias, Table, Union}
use Rattle.tables.specs.declared.tables.Tables.{Tables}
use Rattle.stored.proofs.PlanFacts.{get_or-mapped}
use Rattle.lexicon.specs.Lexicon.{text_of}
use Rattle.entries.specs.Spans.{literal_at, qualifier_at, stored_field}
use Rattle.terms.specs.Views.{View}
use Rattle.entries.specs.declared.node.Literal.{Literal}
use Rattle.entries.specs.declared.node.Literal.TheVariants.{Null, Real, Text, Truth, Whole}
use Rattle.entries.specs.declared.node.PlanId.{PlanId}
use Rattle.entries.specs.declared.node.StoredField.{StoredField}

pub capped-none : 0 ≡ capped []
capped-none = omega (arith, highest-none)

pub capped-one : (n : Name) → min (number_of n) NUMBER_CAP ≡ capped (n ∷ [])
capped-one n = omega (arith, highest-one n)

pub capped-text : (bytes : List ℕ) (l : Literal) (s : Span) → l ≡ Text s → min (number_of (word bytes s)) NUMBER_CAP ≡ capped (literal_names (literal_at bytes l))
unfolding literal_names
capped-text bytes l s e = capped-one (word bytes s) ∙ sym (ap (λ x. capped (literal_names (literal_at bytes x))) e)

pub capped-other : (bytes : List ℕ) (l : Literal) → ((s : Span) → l ≡ Text s → ⊥) → 0 ≡ capped (literal_names (literal_at bytes l))
unfolding literal_names
capped-other bytes Null h = capped-none
capped-other bytes (Truth b) h = capped-none
capped-other bytes (Whole n) h = capped-none
capped-other bytes (Real x) h = capped-none
capped-other bytes (Text s) h = absurd (h s refl)

-- a field, with a qualifier or without
module _ (bytes : List ℕ) (f : StoredField) where
  pub capped-qualified : (q : Span) (a b r : ℕ) → f.qualifier ≡ Some q → a ≡ min (number_of (word bytes f.name)) NUMBER_CAP → b ≡ min (number_of (word bytes q)) NUMBER_CAP → r ≡ max a b → r ≡ capped (field_names (stored_field bytes f))
  unfolding field_names qualifier_names
  capped-qualified q a b r e h k s =
      omega (arith, highest-more (word bytes f.name) (qualifier_names (qualifier_at bytes f.qualifier)), ap (λ o. highest 0 (qualifier_names (qualifier_at bytes o))) e, highest-one (word bytes q))

  pub capped-unqualified : (a : ℕ) → f.qualifier ≡ None → a ≡ min (number_of (word bytes f.name)) NUMBER_CAP → a ≡ capped (field_names (stored_field bytes f))
  unfolding field_names qualifier_names
  capped-unqualified a e h =
      omega (arith, highest-more (word bytes f.name) (qualifier_names (qualifier_at bytes f.qualifier)), ap (λ o. highest 0 (qualifier_names (qualifier_at bytes o))) e, highest-none)

-- a node of no name of its own
pub capped-nameless : (v : View) (fs : List Field) (ts : List Plan) (n : PlanNode) → ((k : PlanId) (q : Span) → n ≡ Table k q → ⊥) → ((i : PlanId) (s : Span) → n ≡ SubqueryAlias i s → ⊥) → 0 ≡ capped (relation_names (build_plan_node v fs ts n))
capped-nameless v fs ts (Table k q) h g = absurd (h k q refl)
capped-nameless v fs ts (Projection i l) h g = capped-none
capped-nameless v fs ts (Filter i e) h g = capped-none
capped-nameless v fs ts (Sort i l) h g = capped-none
capped-nameless v fs ts (Limit i s c) h g = capped-none
capped-nameless v fs ts (Aggregate i gs us) h g = capped-none
capped-nameless v fs ts (Join j l r cs) h g = capped-none
capped-nameless v fs ts (SubqueryAlias i n) h g = absurd (g i n refl)
capped-nameless v fs ts (Union l) h g = of-union (plans_in ts (run_numbers v.entries l))
  where
    of-union : (ps : List Plan) → 0 ≡ capped (relation_names (union_of ps))
    of-union [] = omega (arith, highest-one [], empty-name)
    of-union (p ∷ ps) = capped-none

-- the next field
pub field-turn : (bytes : List ℕ) (fs : List StoredField) (i n k r : ℕ) (d : StoredField) (w : Name) → i < length fs → n ≡ capped (flat_map one_name (take i (map (stored_field bytes) fs))) → w ≡ word bytes (get_or fs i d).name
    → k ≡ min (number_of w) NUMBER_CAP → r ≡ max n k → r ≡ capped (flat_map one_name (take (i + 1) (map (stored_field bytes) fs)))
field-turn bytes fs i n k r d w lt h e g s =
    let xs = map (stored_field bytes) fs in
    let b = stored_field bytes d in
    let here : get_or xs i b ≡ stored_field bytes (get_or fs i d) = get_or-map (stored_field bytes) fs i d b lt in
    let name : w ≡ (get_or xs i b).name = e ∙ ap (λ f. f.name) (sym here) in
    capped-turn NUMBER_CAP one_name xs i n k r b (omega (arith, length-map fs (stored_field bytes))) h (g ∙ ap (λ x. min (number_of x) NUMBER_CAP) name ∙ capped-one (get_or xs i b).name) s

-- the next node
pub node-turn : (F : Functions) (ns : List Node) (i n a b r : ℕ) (p : Plan) → i < length ns → p ≡ (get_or ns i no_node).tree → n ≡ capped (flat_map (node_own F) (take i ns)) → a ≡ capped (names_in (fields_of F p)) → b ≡ capped (relation_names p)
    → r ≡ max (max n a) b → r ≡ capped (flat_map (node_own F) (take (i + 1) ns))
node-turn F ns i n a b r p lt e h f g s =
    let x = get_or ns i no_node in
    let c = ap (λ t. capped (names_in (fields_of F t))) e in
    let d = ap (λ t. capped (relation_names t)) e in
    let k : max a b ≡ capped (node_own F x) = omega (arith, highest-append (names_in (fields_of F x.tree)) (relation_names x.tree)) in
    capped-turn NUMBER_CAP (node_own F) ns i n (max a b) r no_node lt h k (omega arith)

pub tree-of-node : (ns : List Node) (i : ℕ) → get_or (map (λ n. n.tree) ns) i no_node.tree ≡ (get_or ns i no_node).tree
tree-of-node ns i = get_or-mapped (λ n. n.tree) ns i no_node

-- above all of them: no number in the book is so high that it was capped
pub next-above : (t : Tables) (a b m r : ℕ) → a ≡ capped (flat_map own_names (view_in t).trees) → b ≡ capped (flat_map (node_own (view_in t).functions) (nodes_of t)) → m ≡ max a b → r ≡ max m 99999999 → r + 1 ≡ next_number (model_of t)
unfolding next_number book_names
next-above t a b m r h k e s =
    let v = view_in t in
    let names = list_names v.trees ++ node_names v.functions (nodes_of t) in
    let exprs = exprs-numbers (text_of t.terms.lexicon) t.terms.entries t.terms.exprs in
    omega (arith, highest-from 99999999 names, book-numbers v t.fields t.plans exprs, book-low v t.fields t.plans t.terms.accepted t.formed exprs)

pub next-bounded : (t : Tables) → next_number (model_of t) ≤ most_number + 1
unfolding next_number book_names
next-bounded t =
    let v = view_in t in
    let exprs = exprs-numbers (text_of t.terms.lexicon) t.terms.entries t.terms.exprs in
    omega (arith, highest-from 99999999 (list_names v.trees ++ node_names v.functions (nodes_of t)), book-low v t.fields t.plans t.terms.accepted t.formed exprs)
