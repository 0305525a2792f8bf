-- How large an acceptable expression's tree is, and how long its rendered name.
use Rattle.std.proofs.Common.{◌≡◌, ℕ, ◌+◌, ◌*◌, ◌^◌, ◌<◌, ◌≤◌, true, false, not, ◌&&◌, ltb, leb, ◌⊎◌, [], ◌∷◌, ◌++◌, length, Some, None, Option, ap, inl, inr, arith, length-append}
use lib.Signed.{mag}
use Rattle.std.proofs.lemmas.Fmt.{length_signed_le}
use Rattle.std.proofs.lemmas.List.{length_push, get_or_past}
use Rattle.std.proofs.lemmas.Bool.{and_parts, leb-true, ltb-true, eqb-true, cases_lt}
use Rattle.plan.specs.Names.{Name, good_name, plain, number_of, prefixed}
use Rattle.plan.specs.Terms.{Qualifier, Field, Literal, Expr, Exprs, listed, size_of, sizes_of}
use Rattle.plan.specs.Terms.Qualifier.{unqualified, qualified}
use Rattle.plan.specs.Terms.Literal.{null, truth, whole, real, text}
use Rattle.plan.specs.Terms.Expr.{literal, reference, alias, call}
use Rattle.plan.specs.Terms.Exprs.{none, more}
use Rattle.plan.specs.Functions.{Function, Functions, function_at, name_in, is_total}
use Rattle.plan.specs.Rendering.{rendered, rendered_all, rendered_rest, rendered_literal, dotted}
use Rattle.plan.specs.Fields.{any, every}
use Rattle.plan.specs.Questions.{small_tree}
use Rattle.plan.specs.Calls.{good_field, good_qualifier, good_alias, arity_is}
use Rattle.lexicon.specs.Declarations.{good_function}
use Rattle.terms.specs.Acceptance.{good_literal, acceptable, all_acceptable}
use Rattle.terms.specs.Build.{width_of}
use Rattle.lexicon.proofs.Frames.{every-at}

pub name-short : (n : Name) → good_name n ≡ true → length n ≤ 255
name-short n h =
    let p = and_parts (ltb 0 (length n) && leb (length n) 255) (plain n && leb (number_of n) 999999999) h in
    leb-true _ _ (and_parts (ltb 0 (length n)) (leb (length n) 255) p.0).1

dotted-short : (q : Qualifier) → good_qualifier q ≡ true → length (dotted q) ≤ 256
dotted-short unqualified h = omega arith
dotted-short (qualified q) h = omega (arith, name-short q h, length_push q 46)

field-short : (f : Field) → good_field f ≡ true → length (dotted f.qualifier ++ f.name) ≤ 511
field-short f h =
    let p = and_parts (good_name f.name) (good_qualifier f.qualifier) h in
    omega (arith, name-short f.name p.0, dotted-short f.qualifier p.1, length-append (dotted f.qualifier) f.name)

literal-short : (v : Literal) → good_literal v ≡ true → length (rendered_literal v) ≤ 511
literal-short null h = omega arith
literal-short (truth true) h = omega arith
literal-short (truth false) h = omega arith
literal-short (whole n) h =
    let m = ltb-true (mag n) (2 ^ 63) h in
    let k : mag n + 1 < 10 ^ 20 = omega arith in
    omega (arith, length_signed_le 20 n k m)
literal-short (real x) h = omega arith
literal-short (text t) h = omega (arith, name-short t h)

pub small : (fs : Functions) (e : Expr) → acceptable fs e ≡ true → size_of e ≤ 256
small fs (literal v) h = omega arith
small fs (reference f) h = omega arith
small fs (alias e f) h =
    let p = and_parts (acceptable fs e) (good_alias f && small_tree (alias e f)) h in
    leb-true _ _ (and_parts (good_alias f) (small_tree (alias e f)) p.1).1
small fs (call n es) h =
    let p = and_parts (all_acceptable fs es) (arity_is (function_at fs n) (length (listed es)) && (not (any (is_total fs) (listed es)) && small_tree (call n es))) h in
    let q = and_parts (arity_is (function_at fs n) (length (listed es))) (not (any (is_total fs) (listed es)) && small_tree (call n es)) p.1 in
    leb-true _ _ (and_parts (not (any (is_total fs) (listed es))) (small_tree (call n es)) q.1).1

function-short : (f : Option Function) (k : ℕ) → good_function f ≡ true → arity_is f k ≡ true → (length (name_in f) ≤ 255) × (k ≤ 4)
function-short None k g h = absurd (let z : ◌≡◌ {A = ℕ} 0 1 = cc in omega arith)
function-short (Some f) k g h =
    let p = and_parts (good_name f.name && not (prefixed f.name)) (leb f.arity 4) g in
    let q = and_parts (good_name f.name) (not (prefixed f.name)) p.0 in
    (name-short f.name q.0, omega (arith, leb-true f.arity 4 p.1, eqb-true f.arity k h))

pub function-good : (fs : Functions) (n : ℕ) → every good_function fs ≡ true → good_function (function_at fs n) ≡ true
function-good fs n h = go (cases_lt n (length fs))
  where
    go : (n < length fs) ⊎ (length fs ≤ n) → good_function (function_at fs n) ≡ true
    go (inl lt) = every-at good_function fs n None lt h
    go (inr le) = ap good_function (get_or_past fs n None le)

-- a function takes at most four arguments
pub few-arguments : (fs : Functions) (n k : ℕ) → every good_function fs ≡ true → arity_is (function_at fs n) k ≡ true → k ≤ 4
few-arguments fs n k good h = (function-short (function_at fs n) k (function-good fs n good) h).1

module _ (fs : Functions) (good : every good_function fs ≡ true) where
  mutual
    pub width-le : (e : Expr) → acceptable fs e ≡ true → width_of fs e ≤ 511 * size_of e
    width-le (literal v) h = omega (arith, literal-short v h)
    width-le (reference f) h = omega (arith, field-short f h)
    width-le (alias e f) h =
        let p = and_parts (acceptable fs e) (good_alias f && small_tree (alias e f)) h in
        let q = and_parts (good_alias f) (small_tree (alias e f)) p.1 in
        let r = and_parts (good_field f) _ q.0 in
        omega (arith, name-short f.name (and_parts (good_name f.name) (good_qualifier f.qualifier) r.0).0)
    width-le (call n es) h =
        let p = and_parts (all_acceptable fs es) (arity_is (function_at fs n) (length (listed es)) && (not (any (is_total fs) (listed es)) && small_tree (call n es))) h in
        let q = and_parts (arity_is (function_at fs n) (length (listed es))) (not (any (is_total fs) (listed es)) && small_tree (call n es)) p.1 in
        let f = function-short (function_at fs n) (length (listed es)) (function-good fs n good) q.0 in
        let all = rendered_all fs es in
        let name = name_in (function_at fs n) in
        omega (arith, f.0, f.1, all-width-le es p.0, length-append name (40 ∷ (all ++ (41 ∷ []))), length_push all 41)

    all-width-le : (es : Exprs) → all_acceptable fs es ≡ true → length (rendered_all fs es) ≤ 511 * sizes_of es + length (listed es)
    all-width-le none h = omega arith
    all-width-le (more e es) h =
        let p = and_parts (acceptable fs e) (all_acceptable fs es) h in
        omega (arith, width-le e p.0, rest-width-le es p.1, length-append (rendered fs e) (rendered_rest fs es))

    rest-width-le : (es : Exprs) → all_acceptable fs es ≡ true → length (rendered_rest fs es) ≤ 511 * sizes_of es + length (listed es)
    rest-width-le none h = omega arith
    rest-width-le (more e es) h =
        let p = and_parts (acceptable fs e) (all_acceptable fs es) h in
        omega (arith, width-le e p.0, rest-width-le es p.1, length-append (rendered fs e) (rendered_rest fs es))
