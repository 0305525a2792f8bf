-- Which input owns an expression, and the walk that takes Marked calls out of one.
--     schema_columns fs      what a reference to one of the fields fs may be: each field, and its name without qualifier
--     has_all_column_refs cs e      each reference of e is one of the columns cs
--     find_owning_input cl cr e      the one of two inputs that owns e, by their columns; find_sole_input: of one
--     has_extractable_expr F es      some expression of the list is Marked, or a part of it
--     Extractor      what a walk has found: expressions with their aliases, needed columns, the next number
--     routing_extract F own e g      the expression with what moves replaced by references, and the extractor after it
--     pairs_of s, needed_of s      the extracted expressions and the needed columns of one input
use Rattle.std.specs.Prelude.{ℕ, suc, Bool, true, false, cond, not, ◌&&◌, ◌||◌, List, [], ◌∷◌, ◌++◌, map, Some, None, Option}
use Rattle.plan.specs.Names.{Name, prefixed}
use Rattle.plan.specs.Terms.{Field, Expr, Exprs, same_field, same_expr, references_of}
use Rattle.plan.specs.Terms.Expr.{literal, reference, alias, call}
use Rattle.plan.specs.Terms.Exprs.{none, more}
use Rattle.plan.specs.Functions.{Functions, placement_of, is_marked}
use Rattle.plan.specs.Rendering.{unqualified_field}
use Rattle.plan.specs.Fields.{any}
use Rattle.plan.specs.Plans.{Key, without_qualifier}
use Rattle.rows.specs.Lists.{keep}
use Rattle.rewriting.specs.Generated.{generated, countable}

-- schema_columns
unfoldable pub schema_columns : List Field → List Field
schema_columns [] = []
schema_columns (f ∷ fs) = f ∷ without_qualifier f ∷ schema_columns fs

-- has_all_column_refs
unfoldable mutual
  pub has_all_column_refs : List Field → Expr → Bool
  has_all_column_refs cs (literal v) = true
  has_all_column_refs cs (reference r) = any (same_field r) cs
  has_all_column_refs cs (alias e f) = has_all_column_refs cs e
  has_all_column_refs cs (call n es) = have_all_column_refs cs es

  pub have_all_column_refs : List Field → Exprs → Bool
  have_all_column_refs cs none = true
  have_all_column_refs cs (more e es) = has_all_column_refs cs e && have_all_column_refs cs es

-- has_extractable_expr; an alias is Marked where its inside is
unfoldable mutual
  pub holds_marked : Functions → Expr → Bool
  holds_marked F (literal v) = false
  holds_marked F (reference r) = false
  holds_marked F (alias e f) = holds_marked F e
  holds_marked F (call n es) = is_marked (placement_of F (call n es)) || hold_marked F es

  pub hold_marked : Functions → Exprs → Bool
  hold_marked F none = false
  hold_marked F (more e es) = holds_marked F e || hold_marked F es

unfoldable pub has_extractable_expr : Functions → List Expr → Bool
has_extractable_expr F es = any (holds_marked F) es

-- the first or the second input of a node
pub data Side : Type 0 where
  one two : Side

unfoldable pub same_side : Side → Side → Bool
same_side one one = true
same_side one two = false
same_side two one = false
same_side two two = true

-- find_owning_input: exactly one owner
unfoldable pub owner_of : Bool → Bool → Option Side
owner_of true true = None
owner_of true false = Some one
owner_of false true = Some two
owner_of false false = None

unfoldable pub find_sole_input : List Field → Expr → Option Side
find_sole_input cs e = owner_of (has_all_column_refs cs e) false

unfoldable pub find_owning_input : List Field → List Field → Expr → Option Side
find_owning_input cl cr e = owner_of (has_all_column_refs cl e) (has_all_column_refs cr e)

-- of an input: an expression that was taken out, and its alias
abbrev pub Entry : Type 0
Entry = Side × Expr × Name

-- the LeafExpressionExtractor of each input, in one; numbers are taken in the order of the walk
pub record Extractor : Type 0 where
  pub entries : List Entry
  pub needed : List (Side × Field)
  pub next : ℕ
  -- something was taken out
  pub new : Bool
  -- a number was wanted that no alias may have
  pub full : Bool

unfoldable pub empty_extractor : ℕ → Extractor
empty_extractor n = record { entries = []; needed = []; next = n; new = false; full = false }

-- columns_needed, in order of their first occurrence
unfoldable pub need : Side → Field → List (Side × Field) → List (Side × Field)
need s f ns = cond (any (λ m. same_side m.0 s && same_field m.1 f) ns) ns (ns ++ (s, f) ∷ [])

unfoldable pub needs : Side → List Field → List (Side × Field) → List (Side × Field)
needs s [] ns = ns
needs s (f ∷ fs) ns = needs s fs (need s f ns)

unfoldable pub noted : Option Side → Field → Extractor → Extractor
noted None r g = g
noted (Some s) r g = record { entries = g.entries; needed = need s r g.needed; next = g.next; new = g.new; full = g.full }

-- the alias that an expression has already
unfoldable pub entered : Expr → List Entry → Option Name
entered e [] = None
entered e (d ∷ ds) = cond (same_expr d.1 e) (Some d.2) (entered e ds)

-- add_extracted: a reference to the alias, which is a new one if the expression has none yet; its columns are needed, by first occurrence
unfoldable pub add_extracted : Side → Expr → Extractor → Option Name → Expr × Extractor
add_extracted s e g (Some x) = (
  reference (unqualified_field x),
  record { entries = g.entries; needed = g.needed; next = g.next; new = true; full = g.full },
)
add_extracted s e g None = (
  reference (unqualified_field (generated g.next)),
  record {
    entries = g.entries ++ (s, e, generated g.next) ∷ [];
    needed = needs s (references_of e) g.needed;
    next = suc g.next;
    new = true;
    full = g.full || not (countable g.next);
  },
)

-- what is Marked and has one owner is taken out; else the walk goes on inside
unfoldable pub taken_if : Bool → Option Side → Expr → Extractor → Expr × Extractor → Expr × Extractor
taken_if false o e g w = w
taken_if true None e g w = w
taken_if true (Some s) e g w = add_extracted s e g (entered e g.entries)

unfoldable pub under_alias : Field → Expr × Extractor → Expr × Extractor
under_alias f w = (alias w.0 f, w.1)

unfoldable pub under_call : ℕ → Exprs × Extractor → Expr × Extractor
under_call n w = (call n w.0, w.1)

-- routing_extract, from the root down; what stands under a prefixed alias is left alone
unfoldable mutual
  pub routing_extract : Functions → (Expr → Option Side) → Expr → Extractor → Expr × Extractor
  routing_extract F own (literal v) g = (literal v, g)
  routing_extract F own (reference r) g = (reference r, noted (own (reference r)) r g)
  routing_extract F own (alias e f) g = cond (prefixed f.name) (alias e f, g) (under_alias f (routing_extract F own e g))
  routing_extract F own (call n es) g =
      taken_if (is_marked (placement_of F (call n es))) (own (call n es)) (call n es) g (under_call n (routing_extracts F own es g))

  pub routing_extracts : Functions → (Expr → Option Side) → Exprs → Extractor → Exprs × Extractor
  routing_extracts F own none g = (none, g)
  routing_extracts F own (more e es) g =
      let w = routing_extract F own e g in
      let v = routing_extracts F own es w.1 in
      (more w.0 v.0, v.1)

unfoldable pub routing_extract_all : Functions → (Expr → Option Side) → List Expr → Extractor → List Expr × Extractor
routing_extract_all F own [] g = ([], g)
routing_extract_all F own (e ∷ es) g =
    let w = routing_extract F own e g in
    let v = routing_extract_all F own es w.1 in
    (w.0 ∷ v.0, v.1)

unfoldable pub routing_extract_keys : Functions → (Expr → Option Side) → List Key → Extractor → List Key × Extractor
routing_extract_keys F own [] g = ([], g)
routing_extract_keys F own (k ∷ ks) g =
    let w = routing_extract F own k.by g in
    let v = routing_extract_keys F own ks w.1 in
    (record { by = w.0; direction = k.direction } ∷ v.0, v.1)

-- unalias: one alias taken off
unfoldable pub unalias : Expr → Expr
unalias (literal v) = literal v
unalias (reference r) = reference r
unalias (alias e f) = e
unalias (call n es) = call n es

-- an expression and the alias that it gets
abbrev pub Pair : Type 0
Pair = Expr × Name

unfoldable pub pairs_of : Side → List Entry → List Pair
pairs_of s ds = map (λ d. (unalias d.1, d.2)) (keep (λ d. same_side d.0 s) ds)

unfoldable pub needed_of : Side → List (Side × Field) → List Field
needed_of s ns = map (λ m. m.1) (keep (λ m. same_side m.0 s) ns)
