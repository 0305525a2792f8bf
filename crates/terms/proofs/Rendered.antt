-- The rendered arguments of a call, one after the other.
use Rattle.std.proofs.Common.{◌≡◌, ℕ, zero, suc, ◌+◌, ◌<◌, ◌≤◌, List, [], ◌∷◌, ◌++◌, length, get_or, take, sym, ap, ◌∙◌, add-one, arith, length-append}
use Rattle.std.proofs.lemmas.List.{append_assoc, append-nil, length_push}
use Rattle.std.proofs.lemmas.Bool.{cond-false, ne_eqb}
use Rattle.plan.specs.Terms.{Expr, arguments}
use Rattle.plan.specs.Terms.Expr.{call}
use Rattle.plan.specs.Functions.{Functions, function_at, name_in}
use Rattle.plan.specs.Rendering.{rendered, rendered_all, rendered_rest}
use Rattle.terms.specs.Build.{gap, width_of}

gap-later : (i : ℕ) → gap (suc i) ≡ 32 ∷ []
gap-later i = cond-false _ _ _ (ne_eqb (suc i) 0 (λ h. omega arith))

module _ (fs : Functions) where
  rest-step : (ts : List Expr) (i : ℕ) (d : Expr) → i < length ts → rendered_rest fs (arguments (take (suc i) ts)) ≡ rendered_rest fs (arguments (take i ts)) ++ (32 ∷ rendered fs (get_or ts i d))
  rest-step [] i d lt = absurd (omega arith)
  rest-step (t ∷ ts) zero d lt = ap (λ l. 32 ∷ l) (append-nil (rendered fs t))
  rest-step (t ∷ ts) (suc i) d lt =
      ap (λ l. 32 ∷ (rendered fs t ++ l)) (rest-step ts i d (omega arith)) ∙ ap (λ l. 32 ∷ l) (sym (append_assoc (rendered fs t) (rendered_rest fs (arguments (take i ts))) (32 ∷ rendered fs (get_or ts i d))))

  all-step : (ts : List Expr) (i : ℕ) (d : Expr) → i < length ts → rendered_all fs (arguments (take (suc i) ts)) ≡ rendered_all fs (arguments (take i ts)) ++ (gap i ++ rendered fs (get_or ts i d))
  all-step [] i d lt = absurd (omega arith)
  all-step (t ∷ ts) zero d lt = append-nil (rendered fs t)
  all-step (t ∷ ts) (suc i) d lt =
      ap (λ l. rendered fs t ++ l) (rest-step ts i d (omega arith)) ∙ sym (append_assoc (rendered fs t) (rendered_rest fs (arguments (take i ts))) (32 ∷ rendered fs (get_or ts i d)))
      ∙ ap (λ g. (rendered fs t ++ rendered_rest fs (arguments (take i ts))) ++ (g ++ rendered fs (get_or ts i d))) (sym (gap-later i))

  -- one argument more
  pub all_more : (ts : List Expr) (i : ℕ) (d : Expr) → i < length ts → rendered_all fs (arguments (take (i + 1) ts)) ≡ rendered_all fs (arguments (take i ts)) ++ (gap i ++ rendered fs (get_or ts i d))
  all_more ts i d lt = ap (λ k. rendered_all fs (arguments (take k ts))) (add-one i) ∙ all-step ts i d lt

  rest_le : (ts : List Expr) (i : ℕ) → length (rendered_rest fs (arguments (take i ts))) ≤ length (rendered_rest fs (arguments ts))
  rest_le ts zero = omega arith
  rest_le [] (suc i) = omega arith
  rest_le (t ∷ ts) (suc i) = omega (arith, rest_le ts i, length-append (rendered fs t) (rendered_rest fs (arguments (take i ts))), length-append (rendered fs t) (rendered_rest fs (arguments ts)))

  pub all-le : (ts : List Expr) (i : ℕ) → length (rendered_all fs (arguments (take i ts))) ≤ length (rendered_all fs (arguments ts))
  all-le ts zero = omega arith
  all-le [] (suc i) = omega arith
  all-le (t ∷ ts) (suc i) = omega (arith, rest_le ts i, length-append (rendered fs t) (rendered_rest fs (arguments (take i ts))), length-append (rendered fs t) (rendered_rest fs (arguments ts)))

  -- an argument with what stands before it has room where the whole has
  pub argument-fits : (ts : List Expr) (i : ℕ) (d : Expr) → i < length ts
      → length (rendered_all fs (arguments (take i ts))) + (length (gap i) + width_of fs (get_or ts i d)) ≤ length (rendered_all fs (arguments ts))
  argument-fits ts i d lt =
      let a = ap length (all_more ts i d lt) in
      omega (arith, all-le ts (i + 1), a, length-append (rendered_all fs (arguments (take i ts))) (gap i ++ rendered fs (get_or ts i d)), length-append (gap i) (rendered fs (get_or ts i d)))

  pub call-width : (n : ℕ) (ts : List Expr) → width_of fs (call n (arguments ts)) ≡ length (name_in (function_at fs n)) + length (rendered_all fs (arguments ts)) + 2
  call-width n ts =
      let name = name_in (function_at fs n) in
      let all = rendered_all fs (arguments ts) in
      omega (arith, length-append name (40 ∷ (all ++ (41 ∷ []))), length_push all 41)

-- where a call's name has room: its function's name, the brackets, and the arguments so far
module _ (fs : Functions) (n : ℕ) (ts : List Expr) (t : Expr) (e : t ≡ call n (arguments ts)) (o : List ℕ) (room : length o + width_of fs t ≤ 131072) where
  pub call_fits : length o + (length (name_in (function_at fs n)) + length (rendered_all fs (arguments ts)) + 2) ≤ 131072
  call_fits = omega (arith, ap (width_of fs) e, call-width fs n ts, room)

  -- the buffer after the name and the bracket
  pub opened-length : (name before after : List ℕ) → name ≡ name_in (function_at fs n) → before ≡ o ++ name → after ≡ before ++ 40 ∷ [] → length after ≡ length o + length (name_in (function_at fs n)) + 1
  opened-length name before after p q r = omega (arith, ap length p, ap length q, ap length r, length-append o name, length_push before 40)

  pub closed : (name before after done last : List ℕ) → name ≡ name_in (function_at fs n) → before ≡ o ++ name → after ≡ before ++ 40 ∷ []
      → done ≡ after ++ rendered_all fs (arguments ts) → last ≡ done ++ 41 ∷ [] → last ≡ o ++ rendered fs t
  closed name before after done last p q r s u =
      let name' = name_in (function_at fs n) in
      let all = rendered_all fs (arguments ts) in
      let a : after ≡ (o ++ name') ++ 40 ∷ [] = r ∙ ap (λ w. w ++ 40 ∷ []) (q ∙ ap (λ w. o ++ w) p) in
      u ∙ ap (λ w. w ++ 41 ∷ []) (s ∙ ap (λ w. w ++ all) a) ∙ append_assoc ((o ++ name') ++ 40 ∷ []) all (41 ∷ []) ∙ append_assoc (o ++ name') (40 ∷ []) (all ++ 41 ∷ [])
      ∙ append_assoc o name' (40 ∷ (all ++ 41 ∷ [])) ∙ ap (λ x. o ++ rendered fs x) (sym e)
