-- Names that are rendered are well formed: no byte of theirs is a comma or a line feed, and they have no number.
use Rattle.std.proofs.Common.{◌≡◌, ℕ, zero, suc, ◌+◌, ◌/◌, ◌%◌, ◌^◌, ◌<◌, ◌≤◌, Bool, true, false, cond, not, ◌&&◌, ltb, leb, List, [], ◌∷◌, ◌++◌, map, length, ℤ, pos, negsuc, decimal, to_bits, Some, None, Option, refl, ap₂, arith, length-append}
use Rattle.std.specs.Float.{binary64}
use Rattle.std.specs.Fmt.{signed_decimal}
use Rattle.std.specs.Int.Signed.{mag}
use Rattle.std.proofs.lemmas.Bool.{and_from, and_parts, le-leb, leb-true, lt-ltb, ltb-true, ne_eqb}
use Rattle.std.proofs.lemmas.Fmt.{decimal_by_steps, decimal_nonempty, length_signed_le}
use Rattle.lexicon.specs.Declarations.{good_function}
use Rattle.numbering.proofs.Bounded.{call-none, hex-long, short-none}
use Rattle.plan.specs.Calls.{arity_is, good_alias, good_field, good_qualifier}
use Rattle.plan.specs.Fields.{any, every}
use Rattle.plan.specs.Functions.{Function, Functions, function_at, is_total, name_in}
use Rattle.plan.specs.Names.{Name, good_name, most_number, number_of, plain, plain_byte, prefixed}
use Rattle.plan.specs.Questions.{short_name, small_tree}
use Rattle.plan.specs.Rendering.{dotted, field_of, hex_digit, hex_onto, hexadecimal, rendered, rendered_all, rendered_literal, rendered_rest}
use Rattle.plan.specs.Terms.{Expr, Exprs, Field, Literal, Qualifier, listed}
use Rattle.plan.specs.Terms.Expr.{alias, call, literal, reference}
use Rattle.plan.specs.Terms.Exprs.{more, none}
use Rattle.plan.specs.Terms.Literal.{null, real, text, truth, whole}
use Rattle.plan.specs.Terms.Qualifier.{qualified, unqualified}
use Rattle.terms.proofs.Bounds.{function-good}
use Rattle.terms.specs.Acceptance.{acceptable, all_acceptable, good_literal}

-- well formed names
name-plain : (n : Name) → good_name n ≡ true → plain n ≡ true
name-plain n h = (and_parts (plain n) (leb (number_of n) most_number) (and_parts (ltb 0 (length n) && leb (length n) 255) (plain n && leb (number_of n) most_number) h).1).0

without-number : (n : Name) → 0 < length n → length n ≤ 255 → plain n ≡ true → number_of n ≡ 0 → good_name n ≡ true
without-number n some few bytes number =
    and_from _ _ (and_from _ _ (lt-ltb 0 (length n) some) (le-leb (length n) 255 few)) (and_from _ _ bytes (le-leb (number_of n) most_number (omega arith)))

short-good : (n : Name) → 0 < length n → length n ≤ 23 → plain n ≡ true → good_name n ≡ true
short-good n some few bytes = without-number n some (omega arith) bytes (short-none n few)

-- bytes behind the comma
plain-more : (c : ℕ) (cs : Name) → 44 < c → plain cs ≡ true → plain (c ∷ cs) ≡ true
plain-more c cs lt h =
    let byte : plain_byte c ≡ true = ap₂ (λ x y. not x && not y) (ne_eqb c 44 (λ e. omega arith)) (ne_eqb c 10 (λ e. omega arith)) in
    and_from _ _ byte h

plain-append : (m n : Name) → plain m ≡ true → plain n ≡ true → plain (m ++ n) ≡ true
plain-append [] n h k = k
plain-append (c ∷ m) n h k =
    let p = and_parts (plain_byte c) (plain m) h in
    and_from _ _ p.0 (plain-append m n p.1 k)

-- numbers
decimal-plain : (n : ℕ) → n < 2 ^ 64 → plain (decimal n) ≡ true
decimal-plain =
    decimal_by_steps (λ n ds. plain ds ≡ true) (λ n lt. plain-more (48 + n) [] (omega arith) refl)
    (λ n ds le h. plain-append ds ((48 + n % 10) ∷ []) h (plain-more (48 + n % 10) [] (omega arith) refl))

whole-good : (n : ℤ) → mag n < 2 ^ 63 → good_name (signed_decimal n) ≡ true
whole-good n h = short-good (signed_decimal n) (some n h) (omega (arith, length_signed_le 20 n (omega arith) h)) (bytes n h)
  where
    some : (z : ℤ) → mag z < 2 ^ 63 → 0 < length (signed_decimal z)
    some (pos n) h = decimal_nonempty n (omega arith)
    some (negsuc n) h = omega arith

    bytes : (z : ℤ) → mag z < 2 ^ 63 → plain (signed_decimal z) ≡ true
    bytes (pos n) h = decimal-plain n (omega arith)
    bytes (negsuc n) h = decimal-plain (suc n) (omega arith)

hex-digit-high : (d : ℕ) → 44 < hex_digit d
hex-digit-high d = go (ltb d 10)
  where
    go : (b : Bool) → 44 < cond b (48 + d) (87 + d)
    go true = omega arith
    go false = omega arith

hex-plain : (k n : ℕ) (acc : List ℕ) → plain acc ≡ true → plain (hex_onto k n acc) ≡ true
hex-plain zero n acc h = h
hex-plain (suc k) n acc h = hex-plain k (n / 16) (hex_digit (n % 16) ∷ acc) (plain-more (hex_digit (n % 16)) acc (hex-digit-high (n % 16)) h)

hexadecimal-good : (n : ℕ) → good_name (hexadecimal n) ≡ true
hexadecimal-good n = let l = hex-long 16 n [] in short-good (hexadecimal n) (omega arith) (omega arith) (hex-plain 16 n [] refl)

literal-good : (v : Literal) → good_literal v ≡ true → good_name (rendered_literal v) ≡ true
literal-good null h = refl
literal-good (truth true) h = refl
literal-good (truth false) h = refl
literal-good (whole n) h = whole-good n (ltb-true (mag n) (2 ^ 63) h)
literal-good (real x) h = hexadecimal-good (to_bits binary64 x)
literal-good (text t) h = h

-- references and functions
dotted-plain : (q : Qualifier) → good_qualifier q ≡ true → plain (dotted q) ≡ true
dotted-plain unqualified h = refl
dotted-plain (qualified q) h = plain-append q (46 ∷ []) (name-plain q h) refl

function-plain : (f : Option Function) → good_function f ≡ true → plain (name_in f) ≡ true
function-plain None h = refl
function-plain (Some f) h =
    name-plain f.name (and_parts (good_name f.name) (not (prefixed f.name)) (and_parts (good_name f.name && not (prefixed f.name)) (leb f.arity 4) h).0).0

module _ (F : Functions) (good : every good_function F ≡ true) where
  alias-good : (e : Expr) (f : Field) → acceptable F (alias e f) ≡ true → good_field f ≡ true
  alias-good e f h = (and_parts (good_field f) _ (and_parts (good_alias f) (small_tree (alias e f)) (and_parts (acceptable F e) (good_alias f && small_tree (alias e f)) h).1).0).0

  arguments-of : (n : ℕ) (es : Exprs) → acceptable F (call n es) ≡ true → all_acceptable F es ≡ true
  arguments-of n es h = (and_parts (all_acceptable F es) (arity_is (function_at F n) (length (listed es)) && (not (any (is_total F) (listed es)) && small_tree (call n es))) h).0

  mutual
    rendered-plain : (e : Expr) → acceptable F e ≡ true → plain (rendered F e) ≡ true
    rendered-plain (literal v) h = name-plain (rendered_literal v) (literal-good v h)
    rendered-plain (reference f) h =
        let p = and_parts (good_name f.name) (good_qualifier f.qualifier) h in
        plain-append (dotted f.qualifier) f.name (dotted-plain f.qualifier p.1) (name-plain f.name p.0)
    rendered-plain (alias e f) h = name-plain f.name (and_parts (good_name f.name) (good_qualifier f.qualifier) (alias-good e f h)).0
    rendered-plain (call n es) h =
        plain-append (name_in (function_at F n)) (40 ∷ (rendered_all F es ++ (41 ∷ []))) (function-plain (function_at F n) (function-good F n good))
        (plain-append (rendered_all F es) (41 ∷ []) (all-plain es (arguments-of n es h)) refl)

    all-plain : (es : Exprs) → all_acceptable F es ≡ true → plain (rendered_all F es) ≡ true
    all-plain none h = refl
    all-plain (more e es) h =
        let p = and_parts (acceptable F e) (all_acceptable F es) h in
        plain-append (rendered F e) (rendered_rest F es) (rendered-plain e p.0) (rest-plain es p.1)

    rest-plain : (es : Exprs) → all_acceptable F es ≡ true → plain (rendered_rest F es) ≡ true
    rest-plain none h = refl
    rest-plain (more e es) h =
        let p = and_parts (acceptable F e) (all_acceptable F es) h in
        plain-append (rendered F e) (rendered_rest F es) (rendered-plain e p.0) (rest-plain es p.1)

  -- the field that an expression has where it is shown
  pub shown-good : (e : Expr) → acceptable F e ≡ true → short_name F e ≡ true → good_field (field_of F e) ≡ true
  shown-good (literal v) h s = and_from _ _ (literal-good v h) refl
  shown-good (reference f) h s = h
  shown-good (alias e f) h s = alias-good e f h
  shown-good (call n es) h s =
      let name = name_in (function_at F n) in
      let some : 0 < length (rendered F (call n es)) = omega (arith, length-append name (40 ∷ (rendered_all F es ++ (41 ∷ [])))) in
      and_from _ _ (without-number (rendered F (call n es)) some (leb-true (length (rendered F (call n es))) 255 s) (rendered-plain (call n es) h) (call-none F n es)) refl

  pub all-shown-good : (es : List Expr) → every (acceptable F) es ≡ true → every (short_name F) es ≡ true → every good_field (map (field_of F) es) ≡ true
  all-shown-good [] h s = refl
  all-shown-good (e ∷ es) h s =
      let p = and_parts (acceptable F e) (every (acceptable F) es) h in
      let q = and_parts (short_name F e) (every (short_name F) es) s in
      and_from _ _ (shown-good e p.0 q.0) (all-shown-good es p.1 q.1)
