-- The fields of a node before they are stored; o is the lent owner's name, and g the lent names.
--     word_at v o g w, word_in v o g w      the word that w names; whether it is where w says
--     draft_field v o g d, draft_in v o g d      the field that d stands for; whether its words are where it says
--     as_stored, as_owned, as_bare, as_column      a stored field as it is, under the owner, with no qualifier; a lent name under the owner
--     field_bytes v d, draft_bytes v ds      how many bytes a rendered name takes; all of them
--     FieldFor v e d, FieldsFor v es ds      d is a draft of the field of the expression e; the same of lists
--     LentIn text l      the lent names stand in the text where l says
--     WordAs, StoredAs, StoredAll      what storing a word, a field, or a list of fields leaves
use Rattle.std.specs.Prelude.{◌≡◌, ℕ, Bool, true, ◌&&◌, List, [], ◌++◌, map, length, sum_by, Some, None, Option, nat_lt}
use Rattle.plan.specs.Names.{Name}
use Rattle.plan.specs.Terms.{Field, Qualifier, Expr}
use Rattle.plan.specs.Terms.Qualifier.{unqualified, qualified}
use Rattle.plan.specs.Rendering.{rendered, field_of}
use Rattle.plan.specs.Fields.{every}
use Rattle.plan.specs.Model.{expr_in}
use Rattle.plan.specs.Calls.{rendered_bytes}
use Rattle.terms.specs.Build.{width_of}
use Rattle.entries.specs.Spans.{stored_field, stored_in}
use Rattle.names.specs.Spans.{word, span_in}
use Rattle.terms.specs.Views.{View, grown}
use Rattle.names.specs.declared.parts.Span.{Span}
use Rattle.entries.specs.declared.node.StoredField.{StoredField}
use Rattle.draft.specs.declared.storing.Lent.{Lent}
use Rattle.draft.specs.declared.word.Word.{Word}
use Rattle.draft.specs.declared.word.Word.TheVariants.{Stored, Owner, Given, Rendered}
use Rattle.draft.specs.declared.word.Relation.{Relation}
use Rattle.draft.specs.declared.word.Relation.TheVariants.{Of, OfOwner}
use Rattle.draft.specs.declared.word.DraftField.{DraftField}

abbrev pub word_at : View → List ℕ → List ℕ → Word → Name
word_at v o g (Stored s) = word v.bytes s
word_at v o g Owner = o
word_at v o g (Given s) = word g s
word_at v o g (Rendered e) = rendered v.functions (expr_in v.trees e.0)

abbrev pub word_in : View → List ℕ → List ℕ → Word → Bool
word_in v o g (Stored s) = span_in v.bytes s
word_in v o g Owner = true
word_in v o g (Given s) = span_in g s
word_in v o g (Rendered e) = nat_lt e.0 (length v.trees)

abbrev pub owner_at : View → List ℕ → (Option Relation) → Qualifier
owner_at v o None = unqualified
owner_at v o (Some (Of s)) = qualified (word v.bytes s)
owner_at v o (Some OfOwner) = qualified o

abbrev pub owner_in : View → (Option Relation) → Bool
owner_in v None = true
owner_in v (Some (Of s)) = span_in v.bytes s
owner_in v (Some OfOwner) = true

abbrev pub draft_field : View → List ℕ → List ℕ → DraftField → Field
draft_field v o g d = record { qualifier = owner_at v o d.qualifier; name = word_at v o g d.name }

abbrev pub draft_in : View → List ℕ → List ℕ → DraftField → Bool
draft_in v o g d = word_in v o g d.name && owner_in v d.qualifier

-- a stored qualifier as it is
abbrev pub kept_qualifier : Option Span → Option Relation
kept_qualifier None = None
kept_qualifier (Some s) = Some (Of s)

abbrev pub drafted : (Option Relation) → Word → DraftField
drafted q w = record { qualifier = q; name = w }

abbrev pub as_stored : StoredField → DraftField
as_stored f = drafted (kept_qualifier f.qualifier) (Stored f.name)

abbrev pub as_owned : StoredField → DraftField
as_owned f = drafted (Some OfOwner) (Stored f.name)

abbrev pub as_bare : StoredField → DraftField
as_bare f = drafted None (Stored f.name)

abbrev pub as_column : Span → DraftField
as_column p = drafted (Some OfOwner) (Given p)

abbrev pub word_bytes : View → Word → ℕ
word_bytes v (Stored s) = 0
word_bytes v Owner = 0
word_bytes v (Given s) = 0
word_bytes v (Rendered e) = width_of v.functions (expr_in v.trees e.0)

abbrev pub field_bytes : View → DraftField → ℕ
field_bytes v d = word_bytes v d.name

abbrev pub draft_bytes : View → List DraftField → ℕ
draft_bytes v ds = sum_by (field_bytes v) ds

pub record FieldFor (v : View) (e : Expr) (d : DraftField) : Type 0 where
  pub field : (o g : List ℕ) → draft_field v o g d ≡ field_of v.functions e
  pub inside : (o g : List ℕ) → draft_in v o g d ≡ true
  pub bytes : field_bytes v d ≡ rendered_bytes v.functions e

-- the fields of some expressions, added to a list
pub record FieldsFor (v : View) (es : List Expr) (before after : List DraftField) : Type 0 where
  pub new : List DraftField
  pub grew : after ≡ before ++ new
  pub fields : (o g : List ℕ) → map (draft_field v o g) new ≡ map (field_of v.functions) es
  pub inside : (o g : List ℕ) → every (draft_in v o g) new ≡ true
  pub bytes : draft_bytes v new ≡ sum_by (rendered_bytes v.functions) es

-- a qualifier as it is stored, where the lent owner's name stands in the text as o
abbrev pub stored_qualifier : Span → Option Relation → Option Span
stored_qualifier o None = None
stored_qualifier o (Some (Of s)) = Some s
stored_qualifier o (Some OfOwner) = Some o

-- the lent names stand in the text
pub record LentIn (text : List ℕ) (l : Lent) : Type 0 where
  pub owner : span_in text l.owner ≡ true
  pub given : span_in text l.given ≡ true

-- the word w stands in the text as s, a rendered name behind the rest
pub record WordAs (v : View) (l : Lent) (w : Word) (v' : View) (s : Span) : Type 0 where
  pub bytes : List ℕ
  pub view : v' ≡ grown v [] bytes []
  pub used : length bytes ≡ word_bytes v w
  pub is : word v'.bytes s ≡ word_at v (word v.bytes l.owner) (word v.bytes l.given) w
  pub inside : span_in v'.bytes s ≡ true

-- the field d was stored as f, its rendered name behind the text
pub record StoredAs (v : View) (l : Lent) (d : DraftField) (v' : View) (f : StoredField) : Type 0 where
  pub bytes : List ℕ
  pub view : v' ≡ grown v [] bytes []
  pub used : length bytes ≡ field_bytes v d
  pub field : stored_field v'.bytes f ≡ draft_field v (word v.bytes l.owner) (word v.bytes l.given) d
  pub inside : stored_in v'.bytes f ≡ true

-- the fields ds were stored behind fs, and their rendered names behind the text
pub record StoredAll (v : View) (o g : List ℕ) (ds : List DraftField) (fs : List StoredField) (v' : View) (fs' : List StoredField) : Type 0 where
  pub bytes : List ℕ
  pub new : List StoredField
  pub view : v' ≡ grown v [] bytes []
  pub used : length bytes ≡ draft_bytes v ds
  pub grew : fs' ≡ fs ++ new
  pub fields : map (stored_field v'.bytes) new ≡ map (draft_field v o g) ds
  pub inside : every (stored_in v'.bytes) new ≡ true
