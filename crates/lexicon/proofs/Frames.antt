-- What declarations stand for stays as the text grows; a test of each item of a list.
use Rattle.std.proofs.Common.{◌≡◌, ℕ, ◌+◌, ◌<◌, Bool, true, List, [], ◌∷◌, ◌++◌, length, get_or, set, Some, None, Option, refl, ap, ap₂, arith, length-append}
use Rattle.std.proofs.lemmas.Bool.{and_parts, and_from, leb-true, le-leb}
use Rattle.table.proofs.Parts.{part-grow}
use Rattle.plan.specs.Fields.{every}
use Rattle.names.specs.Spans.{word, span_in}
use Rattle.names.specs.declared.parts.Span.{Span}
use Rattle.lexicon.specs.Declarations.{function_in, functions_in, declaration_in}
use Rattle.lexicon.specs.declared.declaration.Declaration.{Declaration}

pub every-at : {X : Type 0} (p : X → Bool) (xs : List X) (i : ℕ) (d : X) → i < length xs → every p xs ≡ true → p (get_or xs i d) ≡ true
every-at p [] i d lt h = absurd (omega arith)
every-at p (x ∷ xs) Prim.Native.Nat.zero d lt h = (and_parts (p x) (every p xs) h).0
every-at p (x ∷ xs) (Prim.Native.Nat.suc i) d lt h = every-at p xs i d (omega arith) (and_parts (p x) (every p xs) h).1

pub every_append : {X : Type 0} (p : X → Bool) (xs ys : List X) → every p xs ≡ true → every p ys ≡ true → every p (xs ++ ys) ≡ true
every_append p [] ys h k = k
every_append p (x ∷ xs) ys h k =
    let q = and_parts (p x) (every p xs) h in
    and_from _ _ q.0 (every_append p xs ys q.1 k)

pub every_set : {X : Type 0} (p : X → Bool) (xs : List X) (i : ℕ) (x : X) → every p xs ≡ true → p x ≡ true → every p (set xs i x) ≡ true
every_set p [] i x h k = h
every_set p (y ∷ ys) Prim.Native.Nat.zero x h k = and_from _ _ k (and_parts (p y) (every p ys) h).1
every_set p (y ∷ ys) (Prim.Native.Nat.suc i) x h k =
    let q = and_parts (p y) (every p ys) h in
    and_from _ _ q.0 (every_set p ys i x q.1 k)

module _ (bs bs' : List ℕ) where
  pub span_grow : (s : Span) → span_in bs s ≡ true → (word (bs ++ bs') s ≡ word bs s) × (span_in (bs ++ bs') s ≡ true)
  span_grow s h =
      let le = leb-true (s.start + s.len) (length bs) h in
      (part-grow bs bs' s.start s.len le, le-leb _ _ (omega (arith, length-append bs bs')))

  pub function-grow : (d : Option Declaration) → declaration_in bs d ≡ true → (function_in (bs ++ bs') d ≡ function_in bs d) × (declaration_in (bs ++ bs') d ≡ true)
  function-grow None h = (refl, refl)
  function-grow (Some d) h =
      let a = span_grow d.name h in
      (ap (λ n. Some (record { name = n; arity = d.arity; rule = d.rule; strict = d.strict })) a.0, a.1)

  pub functions-grow : (ds : List (Option Declaration)) → every (declaration_in bs) ds ≡ true → (functions_in (bs ++ bs') ds ≡ functions_in bs ds) × (every (declaration_in (bs ++ bs')) ds ≡ true)
  functions-grow [] h = (refl, refl)
  functions-grow (d ∷ ds) h =
      let p = and_parts (declaration_in bs d) (every (declaration_in bs) ds) h in
      let a = function-grow d p.0 in
      let b = functions-grow ds p.1 in
      (ap₂ (λ x y. x ∷ y) a.0 b.0, and_from _ _ a.1 b.1)
