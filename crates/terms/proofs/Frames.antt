-- What spans stand for stays as the text grows.
use Rattle.std.proofs.Common.{◌≡◌, ℕ, true, List, [], ◌∷◌, ◌++◌, map, Some, None, Option, refl, ap, ap₂}
use Rattle.std.proofs.lemmas.Bool.{and_parts, and_from}
use Rattle.lexicon.proofs.Frames.{span_grow}
use Rattle.plan.specs.Terms.Qualifier.{qualified}
use Rattle.plan.specs.Terms.Literal.{text}
use Rattle.plan.specs.Fields.{every}
use Rattle.entries.specs.Spans.{qualifier_at, qualifier_in, literal_at, literal_in, stored_field, stored_in}
use Rattle.names.specs.Spans.{span_in}
use Rattle.names.specs.declared.parts.Span.{Span}
use Rattle.entries.specs.declared.node.Literal.{Literal}
use Rattle.entries.specs.declared.node.Literal.TheVariants.{Null, Truth, Whole, Real, Text}
use Rattle.entries.specs.declared.node.StoredField.{StoredField}

module _ (bs bs' : List ℕ) where
  pub qualifier-grow : (q : Option Span) → qualifier_in bs q ≡ true → (qualifier_at (bs ++ bs') q ≡ qualifier_at bs q) × (qualifier_in (bs ++ bs') q ≡ true)
  qualifier-grow None h = (refl, refl)
  qualifier-grow (Some s) h = (ap qualified (span_grow bs bs' s h).0, (span_grow bs bs' s h).1)

  pub field-grow : (f : StoredField) → stored_in bs f ≡ true → (stored_field (bs ++ bs') f ≡ stored_field bs f) × (stored_in (bs ++ bs') f ≡ true)
  field-grow f h =
      let p = and_parts (span_in bs f.name) (qualifier_in bs f.qualifier) h in
      let a = span_grow bs bs' f.name p.0 in
      let b = qualifier-grow f.qualifier p.1 in
      (ap₂ (λ x y. record { qualifier = x; name = y }) b.0 a.0, and_from _ _ a.1 b.1)

  pub literal-grow : (l : Literal) → literal_in bs l ≡ true → (literal_at (bs ++ bs') l ≡ literal_at bs l) × (literal_in (bs ++ bs') l ≡ true)
  literal-grow Null h = (refl, refl)
  literal-grow (Truth b) h = (refl, refl)
  literal-grow (Whole n) h = (refl, refl)
  literal-grow (Real x) h = (refl, refl)
  literal-grow (Text s) h = (ap text (span_grow bs bs' s h).0, (span_grow bs bs' s h).1)

  pub stored-grow : (fs : List StoredField) → every (stored_in bs) fs ≡ true → (map (stored_field (bs ++ bs')) fs ≡ map (stored_field bs) fs) × (every (stored_in (bs ++ bs')) fs ≡ true)
  stored-grow [] h = (refl, refl)
  stored-grow (f ∷ fs) h =
      let p = and_parts (stored_in bs f) (every (stored_in bs) fs) h in
      let a = field-grow f p.0 in
      let b = stored-grow fs p.1 in
      (ap₂ (λ x y. x ∷ y) a.0 b.0, and_from _ _ a.1 b.1)
