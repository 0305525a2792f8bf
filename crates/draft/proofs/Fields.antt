-- What drafts of stored fields and of lent names stand for, that their words are where they say, and that they take no bytes.
use Rattle.std.proofs.Common.{◌≡◌, ℕ, Bool, true, ◌&&◌, List, [], ◌∷◌, map, refl, ap, ◌∙◌, ap₂, arith}
use Rattle.std.proofs.lemmas.List.Sums.{sum_by-cons}
use Rattle.std.proofs.lemmas.Bool.{and_parts, and_from}
use Rattle.plan.specs.Terms.{Field}
use Rattle.plan.specs.Plans.{qualified_by, without_qualifier, column_of}
use Rattle.plan.specs.Fields.{every}
use Rattle.entries.specs.Spans.{qualifier_in, stored_field, stored_in}
use Rattle.names.specs.Spans.{word, span_in}
use Rattle.terms.specs.Views.{View}
use Rattle.names.specs.declared.parts.Span.{Span}
use Rattle.entries.specs.declared.node.StoredField.{StoredField}
use Rattle.draft.specs.Drafts.{draft_field, draft_in, as_stored, as_owned, as_bare, as_column, field_bytes, draft_bytes}
use Rattle.draft.specs.declared.word.DraftField.{DraftField}
use Rattle.draft.proofs.Words.{owner-kept}

module _ (v : View) (o g : List ℕ) where
  -- what is made of each item stands for what a function says of the item
  made-fields : {X : Type 0} (make : X → DraftField) (f : X → Field) → ((x : X) → draft_field v o g (make x) ≡ f x) → (xs : List X) → map (draft_field v o g) (map make xs) ≡ map f xs
  made-fields make f h [] = refl
  made-fields make f h (x ∷ xs) = ap₂ (λ y ys. y ∷ ys) (h x) (made-fields make f h xs)

  -- a list is mapped twice, or at once
  mapped-twice : {X Y Z : Type 0} (f : Y → Z) (h : X → Y) (xs : List X) → map (λ x. f (h x)) xs ≡ map f (map h xs)
  mapped-twice f h [] = refl
  mapped-twice f h (x ∷ xs) = ap (λ l. f (h x) ∷ l) (mapped-twice f h xs)

  -- what is made of each item is inside where the item is
  made-inside : {X : Type 0} (make : X → DraftField) (p : X → Bool) → ((x : X) → p x ≡ true → draft_in v o g (make x) ≡ true) → (xs : List X) → every p xs ≡ true → every (draft_in v o g) (map make xs) ≡ true
  made-inside make p h [] k = refl
  made-inside make p h (x ∷ xs) k =
      let q = and_parts (p x) (every p xs) k in
      and_from _ _ (h x q.0) (made-inside make p h xs q.1)

  pub stored-fields : (fs : List StoredField) → map (draft_field v o g) (map as_stored fs) ≡ map (stored_field v.bytes) fs
  stored-fields fs = made-fields as_stored (stored_field v.bytes) (λ f. ap (λ q. record { qualifier = q; name = word v.bytes f.name }) (owner-kept v o f.qualifier).0) fs

  pub owned-fields : (fs : List StoredField) → map (draft_field v o g) (map as_owned fs) ≡ map (qualified_by o) (map (stored_field v.bytes) fs)
  owned-fields fs = made-fields as_owned (λ f. qualified_by o (stored_field v.bytes f)) (λ f. refl) fs ∙ mapped-twice (qualified_by o) (stored_field v.bytes) fs

  pub bare-fields : (fs : List StoredField) → map (draft_field v o g) (map as_bare fs) ≡ map without_qualifier (map (stored_field v.bytes) fs)
  bare-fields fs = made-fields as_bare (λ f. without_qualifier (stored_field v.bytes f)) (λ f. refl) fs ∙ mapped-twice without_qualifier (stored_field v.bytes) fs

  pub column-fields : (ps : List Span) → map (draft_field v o g) (map as_column ps) ≡ map (column_of o) (map (word g) ps)
  column-fields ps = made-fields as_column (λ p. column_of o (word g p)) (λ p. refl) ps ∙ mapped-twice (column_of o) (word g) ps

  -- a field that is stored has its name in the text
  named_in : (f : StoredField) → stored_in v.bytes f ≡ true → span_in v.bytes f.name ≡ true
  named_in f h = (and_parts (span_in v.bytes f.name) (qualifier_in v.bytes f.qualifier) h).0

  pub stored-inside : (fs : List StoredField) → every (stored_in v.bytes) fs ≡ true → every (draft_in v o g) (map as_stored fs) ≡ true
  stored-inside fs = made-inside as_stored (stored_in v.bytes) (λ f h. ap (λ b. span_in v.bytes f.name && b) (owner-kept v o f.qualifier).1 ∙ h) fs

  pub owned_inside : (fs : List StoredField) → every (stored_in v.bytes) fs ≡ true → every (draft_in v o g) (map as_owned fs) ≡ true
  owned_inside fs = made-inside as_owned (stored_in v.bytes) (λ f h. and_from _ _ (named_in f h) refl) fs

  pub bare-inside : (fs : List StoredField) → every (stored_in v.bytes) fs ≡ true → every (draft_in v o g) (map as_bare fs) ≡ true
  bare-inside fs = made-inside as_bare (stored_in v.bytes) (λ f h. and_from _ _ (named_in f h) refl) fs

  pub column-inside : (ps : List Span) → every (span_in g) ps ≡ true → every (draft_in v o g) (map as_column ps) ≡ true
  column-inside ps = made-inside as_column (span_in g) (λ p h. and_from _ _ h refl) ps

module _ (v : View) where
  no_bytes : {X : Type 0} (f : X → DraftField) → ((x : X) → field_bytes v (f x) ≡ 0) → (xs : List X) → draft_bytes v (map f xs) ≡ 0
  no_bytes f h [] = refl
  no_bytes f h (x ∷ xs) = omega (arith, sum_by-cons (field_bytes v) (f x) (map f xs), h x, no_bytes f h xs)

  pub stored_bytes : (fs : List StoredField) → draft_bytes v (map as_stored fs) ≡ 0
  stored_bytes fs = no_bytes as_stored (λ f. refl) fs

  pub owned-bytes : (fs : List StoredField) → draft_bytes v (map as_owned fs) ≡ 0
  owned-bytes fs = no_bytes as_owned (λ f. refl) fs

  pub bare-bytes : (fs : List StoredField) → draft_bytes v (map as_bare fs) ≡ 0
  bare-bytes fs = no_bytes as_bare (λ f. refl) fs

  pub column-bytes : (ps : List Span) → draft_bytes v (map as_column ps) ≡ 0
  column-bytes ps = no_bytes as_column (λ p. refl) ps
