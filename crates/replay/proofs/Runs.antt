-- Lists of calls that are performed one after the other.
use Rattle.std.proofs.Common.{◌≡◌, ℕ, zero, suc, ◌+◌, ◌<◌, ◌≤◌, min, List, [], ◌∷◌, ◌++◌, length, get_or, take, set, sym, refl, ap, ◌∙◌, subst, ap₂, arith, length-take, Result}
use Rattle.std.proofs.lemmas.List.{take_more, take_more_set}
use Rattle.plan.specs.Model.{Model}
use Rattle.plan.specs.declared.fault.Fault.{Fault}
use Rattle.rewriting.specs.Book.{Answers, Run}
use Rattle.rewriting.proofs.Reached.{run_more}
use Rattle.replay.specs.Acts.{answer_of, request_of, steps_of}
use Rattle.replay.specs.declared.act.Act.{Act}

steps-snoc : (acts : List Act) (rs : List (Result ℕ Fault)) (a : Act) (r : Result ℕ Fault) → length rs ≡ length acts
    → steps_of (acts ++ a ∷ []) (rs ++ r ∷ []) ≡ steps_of acts rs ++ (request_of a, answer_of r) ∷ []
steps-snoc [] [] a r e = refl
steps-snoc [] (x ∷ rs) a r e = absurd (omega arith)
steps-snoc (y ∷ acts) [] a r e = absurd (omega arith)
steps-snoc (y ∷ acts) (x ∷ rs) a r e = ap (λ l. (request_of y, answer_of x) ∷ l) (steps-snoc acts rs a r (omega arith))

-- the call at i, its answer written there
pub replay-more : (s t s' : Model) (acts : List Act) (rs : List (Result ℕ Fault)) (i : ℕ) (d : Act) (r : Result ℕ Fault) → i < length acts → i < length rs
    → Run s (steps_of (take i acts) (take i rs)) t → Answers t (request_of (get_or acts i d)) (answer_of r) s'
    → Run s (steps_of (take (i + 1) acts) (take (i + 1) (set rs i r))) s'
replay-more s t s' acts rs i d r h k p x =
    let m = length-take i rs in
    let n = length-take i acts in
    let l : length (take i rs) ≡ length (take i acts) = omega arith in
    let e = ap₂ (λ b c. steps_of b c) (take_more acts i d h) (take_more_set rs i r k) ∙ steps-snoc (take i acts) (take i rs) (get_or acts i d) r l in
    subst (λ z. Run s z s') (sym e) (run_more s t s' (steps_of (take i acts) (take i rs)) (request_of (get_or acts i d)) (answer_of r) p x)

-- no call is left, or no place
pub steps-whole : (i : ℕ) (acts : List Act) (rs : List (Result ℕ Fault)) → min (length acts) (length rs) ≤ i → steps_of (take i acts) (take i rs) ≡ steps_of acts rs
steps-whole zero [] rs h = refl
steps-whole zero (a ∷ acts) [] h = refl
steps-whole zero (a ∷ acts) (r ∷ rs) h = absurd (omega arith)
steps-whole (suc i) [] rs h = refl
steps-whole (suc i) (a ∷ acts) [] h = refl
steps-whole (suc i) (a ∷ acts) (r ∷ rs) h = ap (λ l. (request_of a, answer_of r) ∷ l) (steps-whole i acts rs (omega arith))
