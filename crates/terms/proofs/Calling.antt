-- A call's node: the arguments that it lists, and that it is accepted.
use Rattle.std.proofs.Common.{◌≡◌, ℕ, ◌+◌, true, not, leb, List, [], ◌∷◌, ◌++◌, map, length, sym, refl, ap, ◌∙◌, arith, length-append}
use Rattle.std.proofs.lemmas.List.{length-map}
use Rattle.std.proofs.lemmas.Bool.{and_parts, and_from, le-leb, ltb-true}
use Rattle.table.specs.Contents.{part}
use Rattle.table.proofs.Parts.{part-added}
use Rattle.plan.specs.Terms.{Expr, arguments}
use Rattle.plan.specs.Terms.Expr.{call}
use Rattle.plan.specs.Functions.{Functions, function_at, is_total}
use Rattle.plan.specs.Fields.{any, every}
use Rattle.plan.specs.Questions.{small_tree}
use Rattle.plan.specs.Model.{exprs_in, no_expr}
use Rattle.plan.specs.Calls.{below, all_below, arity_is}
use Rattle.terms.specs.Acceptance.{acceptable, all_acceptable}
use Rattle.terms.specs.Build.{numbers_in}
use Rattle.entries.specs.Entries.{entry_number}
use Rattle.terms.specs.Views.{numbers_of}
use Rattle.entries.specs.declared.node.Entry.{Entry}
use Rattle.entries.specs.declared.node.Entry.TheVariants.{Expression}
use Rattle.entries.specs.declared.node.ExprId.{ExprId}
use Rattle.lexicon.proofs.Frames.{every-at}
use Rattle.terms.proofs.Walks.{listed-arguments}

pub entries-numbers : (ids : List ExprId) → map entry_number (map Expression ids) ≡ numbers_of ids
entries-numbers [] = refl
entries-numbers (e ∷ ids) = ap (λ l. e.0 ∷ l) (entries-numbers ids)

-- a list that was just added names what it was made of
pub listed-numbers : (es E : List Entry) (ids : List ExprId) (first count : ℕ) → E ≡ es ++ map Expression ids → first ≡ length es → count ≡ length ids → numbers_in E first count ≡ numbers_of ids
listed-numbers es E ids first count e f k =
    ap (λ n. map entry_number (part E first n)) (k ∙ sym (length-map ids Expression)) ∙ ap (map entry_number) (part-added es (map Expression ids) E first e f) ∙ entries-numbers ids

pub listed-inside : (es E : List Entry) (ids : List ExprId) (first count : ℕ) → E ≡ es ++ map Expression ids → first ≡ length es → count ≡ length ids → leb (first + count) (length E) ≡ true
listed-inside es E ids first count e f k = le-leb _ _ (omega (arith, ap length e, length-append es (map Expression ids), length-map ids Expression))

pub all-acceptable : (fs : Functions) (ts : List Expr) (ns : List ℕ) → every (acceptable fs) ts ≡ true → all_below (length ts) ns ≡ true → all_acceptable fs (arguments (exprs_in ts ns)) ≡ true
all-acceptable fs ts [] h b = refl
all-acceptable fs ts (n ∷ ns) h b =
    let p = and_parts (below (length ts) n) (all_below (length ts) ns) b in
    and_from _ _ (every-at (acceptable fs) ts n no_expr (ltb-true _ _ p.0) h) (all-acceptable fs ts ns h p.1)

pub call-accepted : (fs : Functions) (n k : ℕ) (ts : List Expr) → all_acceptable fs (arguments ts) ≡ true → k ≡ length ts → arity_is (function_at fs n) k ≡ true
    → not (any (is_total fs) ts) ≡ true → small_tree (call n (arguments ts)) ≡ true → acceptable fs (call n (arguments ts)) ≡ true
call-accepted fs n k ts a e r t s =
    and_from _ _ a (and_from _ _ (ap (arity_is (function_at fs n)) (ap length (listed-arguments ts) ∙ sym e) ∙ r) (and_from _ _ (ap (λ l. not (any (is_total fs) l)) (listed-arguments ts) ∙ t) s))
