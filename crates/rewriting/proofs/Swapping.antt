-- A node with another input in the place of one that is the same: the same fields and rows, and a good node if it passes.
use Rattle.std.proofs.Common.{◌≡◌, ℕ, zero, suc, ◌<◌, T, eqb, ◌∷◌, length, get_or, set, refl, ap, le_of_suc-le-suc, not-suc-le-zero, arith}
use mir.Facts.{and_yes, yes_and}
use Rattle.plan.specs.Functions.{Functions}
use Rattle.plan.specs.Model.{no_plan}
use Rattle.plan.specs.Plans.{Plan, Plans, fields_of}
use Rattle.plan.specs.Plans.Plan.{aggregate, filter, join, limit, projection, sort, subquery_alias, table, union}
use Rattle.plan.specs.Plans.Plans.{also, done}
use Rattle.rows.proofs.Congruence.{same-aggregate, same-filter, same-join, same-limit, same-project, same_refl, same-sort, same-subquery}
use Rattle.rows.proofs.More.{SameAll, same-union}
use Rattle.rows.specs.Standing.{Good, Goods, Passed, Same, wide_all}
use Rattle.plan.specs.Swapping.{inputs_of, plan_list, swap_in, with_input}

goods-swap : (F : Functions) (is : Plans) (k : ℕ) (p : Plan) → Goods F is → Good F p → Goods F (swap_in is k p)
goods-swap F done k p g h = tt
goods-swap F (also i is) zero p g h = (h, g.1)
goods-swap F (also i is) (suc k) p g h = (g.0, goods-swap F is k p g.1 h)

wide-swap : (F : Functions) (n : ℕ) (is : Plans) (k : ℕ) (p : Plan) → k < length (plan_list is) → Same F p (get_or (plan_list is) k no_plan) → T (wide_all F n is) → T (wide_all F n (swap_in is k p))
unfolding wide_all
wide-swap F n done k p l s w = w
wide-swap F n (also i is) zero p l s w =
    let a = and_yes (eqb (length (fields_of F i)) n) (wide_all F n is) w in
    yes_and (eqb (length (fields_of F p)) n) (wide_all F n is) (rw s.fields_same a.0) a.1
wide-swap F n (also i is) (suc k) p l s w =
    let a = and_yes (eqb (length (fields_of F i)) n) (wide_all F n is) w in
    yes_and (eqb (length (fields_of F i)) n) (wide_all F n (swap_in is k p)) a.0 (wide-swap F n is k p (le_of_suc-le-suc l) s a.1)

all_same : (F : Functions) (is : Plans) → SameAll F is is
all_same F done = tt
all_same F (also i is) = (same_refl i, all_same F is)

same-swap : (F : Functions) (is : Plans) (k : ℕ) (p : Plan) → k < length (plan_list is) → Same F p (get_or (plan_list is) k no_plan) → SameAll F (swap_in is k p) is
same-swap F done k p l s = absurd (not-suc-le-zero l)
same-swap F (also i is) zero p l s = (s, all_same F is)
same-swap F (also i is) (suc k) p l s = (same_refl i, same-swap F is k p (le_of_suc-le-suc l) s)

-- of one input
pub swap-same : (F : Functions) (P : Plan) (k : ℕ) (p : Plan) → k < length (inputs_of P) → Same F p (get_or (inputs_of P) k no_plan) → Same F (with_input P k p) P
swap-same F (table j q ns) k p l s = absurd (not-suc-le-zero l)
swap-same F (projection es i) zero p l s = same-project s es
swap-same F (projection es i) (suc k) p l s = absurd (omega arith)
swap-same F (filter e i) zero p l s = same-filter s e
swap-same F (filter e i) (suc k) p l s = absurd (omega arith)
swap-same F (sort ks i) zero p l s = same-sort s ks
swap-same F (sort ks i) (suc k) p l s = absurd (omega arith)
swap-same F (limit n c i) zero p l s = same-limit s n c
swap-same F (limit n c i) (suc k) p l s = absurd (omega arith)
swap-same F (aggregate gs ts i) zero p l s = same-aggregate s gs ts
swap-same F (aggregate gs ts i) (suc k) p l s = absurd (omega arith)
swap-same F (join j cs x y) zero p l s = same-join s (same_refl y) j cs
swap-same F (join j cs x y) (suc zero) p l s = same-join (same_refl x) s j cs
swap-same F (join j cs x y) (suc (suc k)) p l s = absurd (omega arith)
swap-same F (subquery_alias n i) zero p l s = same-subquery s n
swap-same F (subquery_alias n i) (suc k) p l s = absurd (omega arith)
swap-same F (union i is) zero p l s = same-union p i is is s (all_same F is)
swap-same F (union i is) (suc k) p l s = same-union i i (swap_in is k p) is (same_refl i) (same-swap F is k p (le_of_suc-le-suc l) s)

pub swap-good : (F : Functions) (P : Plan) (k : ℕ) (p : Plan) → k < length (inputs_of P) → Same F p (get_or (inputs_of P) k no_plan) → Good F P → Good F p → Passed F (with_input P k p) → Good F (with_input P k p)
swap-good F (table j q ns) k p l s g h a = absurd (not-suc-le-zero l)
swap-good F (projection es i) k p l s g h a = (a, h)
swap-good F (filter e i) k p l s g h a = (a, h)
swap-good F (sort ks i) k p l s g h a = (a, h)
swap-good F (limit n c i) k p l s g h a = (a, h)
swap-good F (aggregate gs ts i) k p l s g h a = (a, h, g.2)
swap-good F (join j cs x y) zero p l s g h a = (a, h, g.2)
swap-good F (join j cs x y) (suc k) p l s g h a = (a, g.1, h)
swap-good F (subquery_alias n i) k p l s g h a = (a, h)
swap-good F (union i is) zero p l s g h a = (a, h, g.2, rw s.fields_same g.3)
swap-good F (union i is) (suc k) p l s g h a = (a, g.1, goods-swap F is k p g.2 h, wide-swap F (length (fields_of F i)) is k p (le_of_suc-le-suc l) s g.3)

plans-swap : (is : Plans) (k : ℕ) (p : Plan) → plan_list (swap_in is k p) ≡ set (plan_list is) k p
plans-swap done k p = refl
plans-swap (also i is) zero p = refl
plans-swap (also i is) (suc k) p = ap (λ l. i ∷ l) (plans-swap is k p)

-- what it stands on then
pub inputs-swap : (P : Plan) (k : ℕ) (p : Plan) → k < length (inputs_of P) → inputs_of (with_input P k p) ≡ set (inputs_of P) k p
inputs-swap (table j q ns) k p l = absurd (not-suc-le-zero l)
inputs-swap (projection es i) zero p l = refl
inputs-swap (projection es i) (suc k) p l = absurd (omega arith)
inputs-swap (filter e i) zero p l = refl
inputs-swap (filter e i) (suc k) p l = absurd (omega arith)
inputs-swap (sort ks i) zero p l = refl
inputs-swap (sort ks i) (suc k) p l = absurd (omega arith)
inputs-swap (limit n c i) zero p l = refl
inputs-swap (limit n c i) (suc k) p l = absurd (omega arith)
inputs-swap (aggregate gs ts i) zero p l = refl
inputs-swap (aggregate gs ts i) (suc k) p l = absurd (omega arith)
inputs-swap (join j cs x y) zero p l = refl
inputs-swap (join j cs x y) (suc zero) p l = refl
inputs-swap (join j cs x y) (suc (suc k)) p l = absurd (omega arith)
inputs-swap (subquery_alias n i) zero p l = refl
inputs-swap (subquery_alias n i) (suc k) p l = absurd (omega arith)
inputs-swap (union i is) zero p l = refl
inputs-swap (union i is) (suc k) p l = ap (λ l. i ∷ l) (plans-swap is k p)
