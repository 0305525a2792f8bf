-- What an expression that stands in the tables says of its name, its count of arguments and its size; and what is as small as it.
use Rattle.std.proofs.Common.{◌≡◌, ℕ, ◌+◌, ◌≤◌, true, not, ◌&&◌, List, length, sym, ap, ◌∙◌, arith}
use Rattle.std.proofs.lemmas.Bool.{and_parts, le-leb, leb-true}
use Rattle.plan.specs.Calls.{arity_is, good_alias}
use Rattle.plan.specs.Fields.{any}
use Rattle.plan.specs.Functions.{Functions, function_at, is_total}
use Rattle.plan.specs.Questions.{small_tree}
use Rattle.plan.specs.Terms.{Expr, Field, arguments, listed, size_of, sizes_of}
use Rattle.plan.specs.Terms.Expr.{alias, call}
use Rattle.terms.proofs.Walks.{listed-arguments}
use Rattle.terms.specs.Acceptance.{acceptable, all_acceptable}

module _ (F : Functions) (e : Expr) where
  pub alias-parts : (i : Expr) (f : Field) → e ≡ alias i f → acceptable F e ≡ true → (good_alias f ≡ true) × (small_tree (alias i f) ≡ true)
  alias-parts i f tree h = and_parts (good_alias f) (small_tree (alias i f)) (and_parts (acceptable F i) (good_alias f && small_tree (alias i f)) (sym (ap (acceptable F) tree) ∙ h)).1

  pub alias-small : (i d : Expr) (f g : Field) → e ≡ alias i f → acceptable F e ≡ true → size_of d ≤ size_of i → small_tree (alias d g) ≡ true
  alias-small i d f g tree h le = le-leb (size_of d + 1) 256 (omega (arith, leb-true (size_of i + 1) 256 (alias-parts i f tree h).1, le))

  pub call-parts : (n : ℕ) (ts : List Expr) → e ≡ call n (arguments ts) → acceptable F e ≡ true → (arity_is (function_at F n) (length ts) ≡ true) × (small_tree (call n (arguments ts)) ≡ true)
  call-parts n ts tree h =
      let es = arguments ts in
      let p = and_parts (all_acceptable F es) (arity_is (function_at F n) (length (listed es)) && (not (any (is_total F) (listed es)) && small_tree (call n es))) (sym (ap (acceptable F) tree) ∙ h) in
      let q = and_parts (arity_is (function_at F n) (length (listed es))) (not (any (is_total F) (listed es)) && small_tree (call n es)) p.1 in
      (sym (ap (λ l. arity_is (function_at F n) (length l)) (listed-arguments ts)) ∙ q.0, (and_parts (not (any (is_total F) (listed es))) (small_tree (call n es)) q.1).1)

  pub call-small : (n : ℕ) (ts us : List Expr) → e ≡ call n (arguments ts) → acceptable F e ≡ true → sizes_of (arguments us) ≤ sizes_of (arguments ts) → small_tree (call n (arguments us)) ≡ true
  call-small n ts us tree h le = le-leb (sizes_of (arguments us) + 1) 256 (omega (arith, leb-true (sizes_of (arguments ts) + 1) 256 (call-parts n ts tree h).1, le))
