-- Drafts of a new node's fields, for each kind of node.
use Rattle.std.proofs.Common.{◌≡◌, ℕ, ◌+◌, ◌*◌, ◌<◌, ◌≤◌, Bool, true, false, cond, eqb, List, [], ◌∷◌, ◌++◌, map, length, get_or, sum_by, sym, refl, ap, ◌∙◌, subst, ap₂, arith}
use Rattle.std.proofs.lemmas.List.{map-append, length-map}
use Rattle.std.proofs.lemmas.List.Sums.{sum_by-append}
use Rattle.std.proofs.lemmas.Bool.{and_parts, ltb-true, leb-true}
use Rattle.plan.specs.Names.{Name, good_name}
use Rattle.plan.specs.Terms.{Field, Expr}
use Rattle.plan.specs.Functions.{Functions}
use Rattle.plan.specs.Rendering.{field_of}
use Rattle.plan.specs.Plans.{Plan, fields_of, qualified_by, without_qualifier, column_of}
use Rattle.plan.specs.Fields.{every}
use Rattle.plan.specs.Questions.{shown_expressions}
use Rattle.plan.specs.Model.{plan_in, plans_in}
use Rattle.plan.specs.Calls.{below, all_below, first_part, parts, union_of, rendered_bytes}
use Rattle.entries.specs.Spans.{stored_field, stored_in}
use Rattle.names.specs.Spans.{word, span_in}
use Rattle.terms.specs.Views.{View}
use Rattle.entries.specs.declared.node.PlanId.{PlanId}
use Rattle.entries.specs.declared.node.StoredField.{StoredField}
use Rattle.terms.proofs.Bounds.{name-short}
use Rattle.lexicon.proofs.Frames.{every_append}
use Rattle.names.specs.declared.parts.Span.{Span}
use Rattle.draft.specs.Drafts.{as_stored, as_owned, as_bare, as_column, draft_field, draft_in, draft_bytes, field_bytes, FieldsFor}
use Rattle.draft.specs.declared.word.DraftField.{DraftField}
use Rattle.draft.proofs.Fields.{stored-fields, owned-fields, bare-fields, stored-inside, owned_inside, bare-inside, stored_bytes, owned-bytes, bare-bytes, column-fields, column-inside, column-bytes}
use Rattle.stored.specs.Making.{input_numbers, bounded, well_named}
use Rattle.stored.specs.Placing.{lent_owner, lent_given}
use Rattle.tables.specs.Drafting.{DraftOf, ShownDraft}
use Rattle.stored.specs.declared.node.NewNode.{NewNode}
use Rattle.stored.specs.declared.node.NewNode.TheVariants.{Table, Projection, Filter, Sort, Limit, Aggregate, Join, SubqueryAlias, Union}
use Rattle.tables.specs.declared.tables.Tables.{Tables}

pub for-new : (t : Tables) (n m : NewNode) (ds : List DraftField) → n ≡ m → ShownDraft t m ds → ShownDraft t n ds
for-new t n m ds e h = subst (λ x. ShownDraft t x ds) (sym e) h

module _ (v : View) (o g : List ℕ) (Fs : List Field) (fs : List StoredField) (is : map (stored_field v.bytes) fs ≡ Fs) (all : every (stored_in v.bytes) fs ≡ true) (before after : List DraftField) (e : before ≡ []) where
  pub stored-draft : after ≡ before ++ map as_stored fs → DraftOf v o g Fs 0 after
  stored-draft h =
      let a : after ≡ map as_stored fs = h ∙ ap (λ l. l ++ map as_stored fs) e in
      record {
        fields = ap (map (draft_field v o g)) a ∙ stored-fields v o g fs ∙ is;
        inside = ap (every (draft_in v o g)) a ∙ stored-inside v o g fs all;
        bytes = ap (draft_bytes v) a ∙ stored_bytes v fs;
      }

  pub owned-draft : after ≡ before ++ map as_owned fs → DraftOf v o g (map (qualified_by o) Fs) 0 after
  owned-draft h =
      let a : after ≡ map as_owned fs = h ∙ ap (λ l. l ++ map as_owned fs) e in
      record {
        fields = ap (map (draft_field v o g)) a ∙ owned-fields v o g fs ∙ ap (map (qualified_by o)) is;
        inside = ap (every (draft_in v o g)) a ∙ owned_inside v o g fs all;
        bytes = ap (draft_bytes v) a ∙ owned-bytes v fs;
      }

  pub bare-draft : after ≡ before ++ map as_bare fs → DraftOf v o g (map without_qualifier Fs) 0 after
  bare-draft h =
      let a : after ≡ map as_bare fs = h ∙ ap (λ l. l ++ map as_bare fs) e in
      record {
        fields = ap (map (draft_field v o g)) a ∙ bare-fields v o g fs ∙ ap (map without_qualifier) is;
        inside = ap (every (draft_in v o g)) a ∙ bare-inside v o g fs all;
        bytes = ap (draft_bytes v) a ∙ bare-bytes v fs;
      }

-- one draft behind another
pub both-drafts : (v : View) (o g : List ℕ) (F G : List Field) (m n : ℕ) (a b c : List DraftField) → DraftOf v o g F m a → DraftOf v o g G n b → c ≡ a ++ b → DraftOf v o g (F ++ G) (m + n) c
both-drafts v o g F G m n a b c p q e = record {
  fields = ap (map (draft_field v o g)) e ∙ map-append (draft_field v o g) a b ∙ ap₂ (λ x y. x ++ y) p.fields q.fields;
  inside = ap (every (draft_in v o g)) e ∙ every_append (draft_in v o g) a b p.inside q.inside;
  bytes = ap (draft_bytes v) e ∙ sum_by-append (field_bytes v) a b ∙ ap₂ (λ x y. x + y) p.bytes q.bytes;
}

-- the two sides of a join
pub sides-draft : (v : View) (o g : List ℕ) (F G : List Field) (fs gs : List StoredField) (before mid after : List DraftField) → map (stored_field v.bytes) fs ≡ F → every (stored_in v.bytes) fs ≡ true
    → map (stored_field v.bytes) gs ≡ G → every (stored_in v.bytes) gs ≡ true → before ≡ [] → mid ≡ before ++ map as_stored fs → after ≡ mid ++ map as_stored gs → DraftOf v o g (F ++ G) 0 after
sides-draft v o g F G fs gs before mid after p q r s e h k =
    both-drafts v o g F G 0 0 mid (map as_stored gs) after (stored-draft v o g F fs p q before mid e h) (stored-draft v o g G gs r s [] (map as_stored gs) refl refl) k

-- fields of expressions
module _ (v : View) (o g : List ℕ) (es : List Expr) (before after : List DraftField) (h : FieldsFor v es before after) where
  pub new-draft : DraftOf v o g (map (field_of v.functions) es) (sum_by (rendered_bytes v.functions) es) h.new
  new-draft = record { fields = h.fields o g; inside = h.inside o g; bytes = h.bytes }

  pub exprs-draft : before ≡ [] → DraftOf v o g (map (field_of v.functions) es) (sum_by (rendered_bytes v.functions) es) after
  exprs-draft e =
      subst (λ ds. DraftOf v o g (map (field_of v.functions) es) (sum_by (rendered_bytes v.functions) es) ds) (sym (h.grew ∙ ap (λ l. l ++ h.new) e)) new-draft

  pub exprs-length : before ≡ [] → length after ≡ length es
  exprs-length e =
      sym (length-map after (draft_field v o g)) ∙ ap length (exprs-draft e).fields ∙ length-map es (field_of v.functions)

pub lists-draft : (v : View) (o g : List ℕ) (es us : List Expr) (before mid after : List DraftField) → before ≡ [] → FieldsFor v es before mid → FieldsFor v us mid after
    → DraftOf v o g (map (field_of v.functions) (es ++ us)) (sum_by (rendered_bytes v.functions) (es ++ us)) after
lists-draft v o g es us before mid after e p q =
    let b = both-drafts v o g (map (field_of v.functions) es) (map (field_of v.functions) us) _ _ mid q.new after (exprs-draft v o g es before mid p e) (new-draft v o g us mid after q) q.grew in
    record {
      fields = b.fields ∙ sym (map-append (field_of v.functions) es us);
      inside = b.inside;
      bytes = b.bytes ∙ sym (sum_by-append (rendered_bytes v.functions) es us);
    }

-- the names of a Table
module _ (v : View) (o g : List ℕ) where
  pub table-draft : (ps : List Span) (before after : List DraftField) → before ≡ [] → after ≡ before ++ map as_column ps → map (word g) ps ≡ parts g → every (span_in g) ps ≡ true → DraftOf v o g (map (column_of o) (parts g)) 0 after
  table-draft ps before after e h p i =
      let a : after ≡ map as_column ps = h ∙ ap (λ l. l ++ map as_column ps) e in
      record {
        fields = ap (map (draft_field v o g)) a ∙ column-fields v o g ps ∙ ap (map (column_of o)) p;
        inside = ap (every (draft_in v o g)) a ∙ column-inside v o g ps i;
        bytes = ap (draft_bytes v) a ∙ column-bytes v ps;
      }

-- a text with few and short parts is short
abbrev room : List Name → ℕ
room [] = 0
room (n ∷ ns) = length n + 1 + room ns

first-room : (c : ℕ) (ns : List Name) → 1 ≤ length ns → room (first_part c ns) ≡ room ns + 1
first-room c [] h = absurd (omega arith)
first-room c (n ∷ ns) h = omega arith

first_some : (c : ℕ) (ns : List Name) → 1 ≤ length ns → 1 ≤ length (first_part c ns)
first_some c [] h = absurd (omega arith)
first_some c (n ∷ ns) h = omega arith

some-step : (b : Bool) (c : ℕ) (ns : List Name) → 1 ≤ length ns → 1 ≤ length (cond b ([] ∷ ns) (first_part c ns))
some-step true c ns h = omega arith
some-step false c ns h = first_some c ns h

some-part : (cs : List ℕ) → 1 ≤ length (parts cs)
some-part [] = omega arith
some-part (c ∷ cs) = some-step (eqb c 44) c (parts cs) (some-part cs)

room-step : (b : Bool) (c : ℕ) (ns : List Name) → 1 ≤ length ns → room (cond b ([] ∷ ns) (first_part c ns)) ≡ room ns + 1
room-step true c ns h = omega arith
room-step false c ns h = first-room c ns h

parts-room : (cs : List ℕ) → length cs + 1 ≡ room (parts cs)
parts-room [] = refl
parts-room (c ∷ cs) = omega (arith, room-step (eqb c 44) c (parts cs) (some-part cs), parts-room cs)

short-room : (ns : List Name) → every good_name ns ≡ true → room ns ≤ 256 * length ns
short-room [] h = omega arith
short-room (n ∷ ns) h =
    let p = and_parts (good_name n) (every good_name ns) h in
    omega (arith, name-short n p.0, short-room ns p.1)

pub names-short : (cs : List ℕ) → every good_name (parts cs) ≡ true → length (parts cs) ≤ 64 → length cs ≤ 16384
names-short cs h k = omega (arith, parts-room cs, short-room (parts cs) h)

-- lent names are short
pub lent-short : (n : NewNode) → well_named n ≡ true → bounded n ≡ true → (length (lent_owner n) ≤ 131072) × (length (lent_given n) ≤ 131072)
lent-short (Table q ns) h b =
    let p = and_parts (good_name q.now) (every good_name (parts ns.now)) h in
    (omega (arith, name-short q.now p.0), omega (arith, names-short ns.now p.1 (leb-true _ _ b)))
lent-short (Projection i l) h b = (omega arith, omega arith)
lent-short (Filter i e) h b = (omega arith, omega arith)
lent-short (Sort i ks) h b = (omega arith, omega arith)
lent-short (Limit i s c) h b = (omega arith, omega arith)
lent-short (Aggregate i gs us) h b = (omega arith, omega arith)
lent-short (Join k l r cs) h b = (omega arith, omega arith)
lent-short (SubqueryAlias i n) h b = (omega (arith, name-short n.now h), omega arith)
lent-short (Union is) h b = (omega arith, omega arith)

-- the first input of a Union
pub first_below : (k : ℕ) (is : List PlanId) (d : PlanId) → 1 ≤ length is → all_below k (input_numbers is) ≡ true → (get_or is 0 d).0 < k
first_below k [] d l h = absurd (omega arith)
first_below k (i ∷ is) d l h = ltb-true i.0 k (and_parts (below k i.0) (all_below k (input_numbers is)) h).0

pub union-fields : (fs : Functions) (ts : List Plan) (is : List PlanId) (d : PlanId) → 1 ≤ length is → fields_of fs (union_of (plans_in ts (input_numbers is))) ≡ map without_qualifier (fields_of fs (plan_in ts (get_or is 0 d).0))
union-fields fs ts [] d l = absurd (omega arith)
union-fields fs ts (i ∷ is) d l = refl

pub union-shown : (ts : List Plan) → shown_expressions (union_of ts) ≡ []
union-shown [] = refl
union-shown (t ∷ ts) = refl
