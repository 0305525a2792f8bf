-- Numbers as hexadecimal digits: those of the crate `hex` are those of the specs.
use Rattle.std.proofs.Common.{◌≡◌, ℕ, zero, suc, ◌*◌, ◌/◌, ◌%◌, ◌^◌, ◌<◌, List, [], ◌∷◌, slice_index, sym, ap, ap₂, refl, ◌∙◌, arith}
use native.Mathlib.Numerals.{unary_clauses}
use Rattle.std.specs.Int.{byte_at, bytes_high_first}
use Rattle.std.proofs.Math.Nat.{div-div-eq-div-mul}
use Rattle.std.proofs.lemmas.List.FromFn.{get_or-map-range_with_len}
use Rattle.hex.specs.Hex.{encode_lower, encode_with, lower_digits}
use Rattle.plan.specs.Rendering.{hex_digit, hex_onto}

digit-at : (d : ℕ) → d < 16 → slice_index lower_digits d ≡ hex_digit d
digit-at d h = get_or-map-range_with_len hex_digit 0 16 d d 0 h (omega arith)

abbrev pub twice : ℕ → ℕ
twice zero = zero
twice (suc k) = suc (suc (twice k))

power : (k : ℕ) → 16 ^ twice k ≡ 256 ^ k
power zero = refl
power (suc k) = simp unary_clauses (omega (arith, power k))

byte-at : (k n : ℕ) → byte_at k n ≡ n / 16 ^ twice k % 256
byte-at zero n = omega arith
byte-at (suc k) n = ap (λ p. n / p % 256) (sym (power (suc k)))

-- the highest digit first
hex-first : (k n : ℕ) (xs : List ℕ) → hex_onto (suc k) n xs ≡ hex_digit (n / 16 ^ k % 16) ∷ hex_onto k n xs
hex-first zero n xs = ap (λ m. hex_digit (m % 16) ∷ xs) (omega arith)
hex-first (suc k) n xs =
    let p : 16 * 16 ^ k ≡ 16 ^ suc k = simp unary_clauses (omega arith) in
    hex-first k (n / 16) (hex_digit (n % 16) ∷ xs)
    ∙ ap (λ m. hex_digit (m % 16) ∷ hex_onto (suc k) n xs) (div-div-eq-div-mul n 16 (16 ^ k) ∙ ap (λ q. n / q) p)

pub encode-bytes : (k n : ℕ) → encode_lower (bytes_high_first k n) ≡ hex_onto (twice k) n []
unfolding encode_with
encode-bytes zero n = refl
encode-bytes (suc k) n =
    let m : n / 16 ^ twice k / 16 ≡ n / 16 ^ suc (twice k) = div-div-eq-div-mul n (16 ^ twice k) 16 ∙ ap (λ q. n / q) (simp unary_clauses) in
    let b = byte-at k n in
    let high : byte_at k n / 16 ≡ n / 16 ^ suc (twice k) % 16 = omega arith in
    let low : byte_at k n % 16 ≡ n / 16 ^ twice k % 16 = omega arith in
    ap₂ (λ d ds. d ∷ ds) (digit-at _ (omega arith) ∙ ap hex_digit high)
    (ap₂ (λ d ds. d ∷ ds) (digit-at _ (omega arith) ∙ ap hex_digit low) (encode-bytes k n) ∙ sym (hex-first (twice k) n []))
    ∙ sym (hex-first (suc (twice k)) n [])
