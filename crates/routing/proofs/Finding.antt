-- Where a reference finds its field.
use Rattle.std.proofs.Common.{◌≡◌, ℕ, ◌+◌, ◌≤◌, Bool, true, false, cond, not, ltb, ◌&&◌, List, [], ◌∷◌, map, length, Some, None, sym, refl, ap, ◌∙◌, arith}
use Rattle.std.specs.Str.{bytes_eq}
use Rattle.std.specs.Option.{unwrap_or}
use Rattle.std.specs.List.{position_or_len}
use Rattle.std.proofs.lemmas.List.Recursion.{is_position_or_len}
use Rattle.std.proofs.lemmas.List.Sums.{prefix_len-le-length}
use Rattle.std.proofs.lemmas.Bool.{ltb-false}
use Rattle.plan.specs.Terms.{Field}
use Rattle.rows.specs.Rows.{may_mean, seek, under}

pub means-by : (r f : Field) → may_mean r f ≡ (under r.qualifier f.qualifier && bytes_eq r.name f.name)
unfolding may_mean
means-by r f = refl

-- what `position` answers, and the number of items where it finds none
pub seek-position : {X : Type 0} (r : Field) (f : X → Field) (xs : List X)
    → unwrap_or (cond (ltb (position_or_len (λ x. may_mean r (f x)) xs) (length xs)) (Some (position_or_len (λ x. may_mean r (f x)) xs)) None) (length xs) ≡ seek r (map f xs)
unfolding seek
seek-position r f xs =
    let p = position_or_len (λ x. may_mean r (f x)) xs in
    let le : p ≤ length xs = prefix_len-le-length (λ x. not (may_mean r (f x))) xs in
    go p (length xs) le (ltb p (length xs)) refl
    ∙ sym (is_position_or_len (λ ys. seek r (map f ys)) (λ x. may_mean r (f x)) refl (λ x ys. ap (λ k. cond (may_mean r (f x)) 0 k) (omega arith)) xs)
  where
    go : (p n : ℕ) → p ≤ n → (b : Bool) → ltb p n ≡ b → unwrap_or (cond b (Some p) None) n ≡ p
    go p n le true e = refl
    go p n le false e = omega (arith, le, ltb-false p n e)
