-- Bits to bytes. Assumes nothing.
--     nibble, two-nibbles    a product and a mask put four bits into four bytes (all sixteen cases are tried), and two of them eight bits into eight
--     spread-ones            these bytes are 0 and 1
--     mixed                  bytes of 0 and 1 become bytes of two levels
use Rattle.std.specs.Prelude.{◌≡◌, refl, Bool, true, ◌&&◌, eqb}
use Rattle.std.proofs.Common.{sym, ap, ◌∙◌, not-suc-le-zero, le_of_suc-le-suc, zero-add, one-mul, add-mul, mul_assoc, pow-suc, arith, eqb-true, pow_pos}
use Prim.Native.Nat.{ℕ, zero, suc, ◌+◌, ◌*◌, ◌/◌, ◌%◌, ◌-◌, ◌^◌, ◌≤◌, ◌<◌}
use Rattle.std.proofs.Math.Nat.{zero-mul}
use Rattle.std.proofs.Math.Arith.{mod-mul}
use Rattle.std.specs.Int.Bits.{bit_and}
use Rattle.lists.specs.Choice.{both}
use Rattle.video.specs.Cell.{bits, shade_of}
use Rattle.dots.specs.Stores.{spread_of, blend_of, mix_of}

-- ---- bits to bytes

-- every number below n passes
unfoldable pub tried : (ℕ → Bool) → ℕ → Bool
tried p zero = true
tried p (suc n) = p zero && tried (λ k. p (suc k)) n

pub each : (p : ℕ → Bool) (n k : ℕ) → tried p n ≡ true → k < n → p k ≡ true
unfolding tried
each p zero k e h = absurd (not-suc-le-zero h)
each p (suc n) zero e h = (both (p zero) (tried (λ k. p (suc k)) n) e).0
each p (suc n) (suc k) e h = each (λ i. p (suc i)) n k (both (p zero) (tried (λ i. p (suc i)) n) e).1 (le_of_suc-le-suc h)

-- the low bits do not go by what is above them
module _ (n w : ℕ) where
  apart : w % 2 ^ suc n ≡ (w / 2 % 2 ^ n) * 2 + w % 2
  apart = ap (λ (m : ℕ). w % m) (pow-suc 2 n) ∙ mod-mul w (pow_pos n) (omega arith)

  low_half : w % 2 ^ suc n / 2 ≡ w / 2 % 2 ^ n
  low_half = omega (arith, apart)

  low-odd : w % 2 ^ suc n % 2 ≡ w % 2
  low-odd = omega (arith, apart)

pub low-spread : (n w : ℕ) → spread_of n (w % 2 ^ n) ≡ spread_of n w
unfolding spread_of
low-spread zero w = refl
low-spread (suc n) w = rw (low_half n w, low-odd n w, low-spread n (w / 2))

pub low_bits : (n w : ℕ) → bits n (w % 2 ^ n) ≡ bits n w
unfolding bits
low_bits zero w = refl
low_bits (suc n) w = rw (low_half n w, low-odd n w, low_bits n (w / 2))

pub nibble : (w : ℕ) → bit_and (w % 16 * 2113665) 16843009 ≡ spread_of 4 w
unfolding spread_of tried
nibble w = eqb-true _ _ (each (λ (k : ℕ). eqb (bit_and (k * 2113665) 16843009) (spread_of 4 k)) 16 (w % 16) refl (omega arith)) ∙ low-spread 4 w

pub two-nibbles : (w : ℕ) → spread_of 4 w + spread_of 4 (w / 16) * 4294967296 ≡ spread_of 8 w
unfolding spread_of
two-nibbles w =
    let e : w / 16 ≡ w / 2 / 2 / 2 / 2 = omega arith in
    rw e (omega arith)

none : spread_of 4 0 ≡ 0
unfolding spread_of
none = refl

-- four bits are eight of which four are 0
pub four-of-eight : (w : ℕ) → spread_of 4 w ≡ spread_of 8 (w % 16)
four-of-eight w =
    let z : w % 16 / 16 ≡ 0 = omega arith in
    let n : spread_of 4 0 ≡ 0 = none in
    let e : spread_of 4 (w % 16) ≡ spread_of 4 (w % 16) + spread_of 4 (w % 16 / 16) * 4294967296 = rw (z, n) (omega arith) in
    sym (low-spread 4 w) ∙ e ∙ two-nibbles (w % 16)

-- ---- bytes of 0 and 1 to bytes of two levels

-- n bytes of 1
unfoldable ones_of : ℕ → ℕ
ones_of zero = 0
ones_of (suc n) = 1 + 256 * ones_of n

spread-le : (n w : ℕ) → spread_of n w ≤ ones_of n
unfolding spread_of ones_of
spread-le zero w = omega arith
spread-le (suc n) w = omega (arith, spread-le n (w / 2))

module _ (symbol surround : ℕ) where
  -- one byte more, by its bit
  zero-first : (s o : ℕ) → s ≤ o → (0 + 256 * s) * symbol + (1 + 256 * o - (0 + 256 * s)) * surround ≡ surround + 256 * (s * symbol + (o - s) * surround)
  zero-first s o h =
      let e : 1 + 256 * o - 256 * s ≡ 1 + 256 * (o - s) = omega arith in
      rw (zero-add, e) (omega (arith, mul_assoc 256 s symbol, add-mul 1 (256 * (o - s)) surround, one-mul surround, mul_assoc 256 (o - s) surround))

  one-first : (s o : ℕ) → s ≤ o → (1 + 256 * s) * symbol + (1 + 256 * o - (1 + 256 * s)) * surround ≡ symbol + 256 * (s * symbol + (o - s) * surround)
  one-first s o h =
      let e : 1 + 256 * o - (1 + 256 * s) ≡ 256 * (o - s) = omega arith in
      rw e (omega (arith, add-mul 1 (256 * s) symbol, one-mul symbol, mul_assoc 256 s symbol, mul_assoc 256 (o - s) surround))

  by_bit : (b s o : ℕ) → b < 2 → s ≤ o → (b + 256 * s) * symbol + (1 + 256 * o - (b + 256 * s)) * surround ≡ shade_of symbol surround b + 256 * (s * symbol + (o - s) * surround)
  by_bit zero s o h l = zero-first s o l
  by_bit (suc zero) s o h l = one-first s o l
  by_bit (suc (suc b)) s o h l = absurd (not-suc-le-zero (le_of_suc-le-suc (le_of_suc-le-suc h)))

  blended : (n w : ℕ) → spread_of n w * symbol + (ones_of n - spread_of n w) * surround ≡ blend_of symbol surround n w
  unfolding spread_of blend_of ones_of
  blended zero w = omega (arith, zero-mul symbol, zero-mul surround)
  blended (suc n) w = rw (← blended n (w / 2)) (by_bit (w % 2) _ _ (omega arith) (spread-le n (w / 2)))

  pub mixed : (w : ℕ) → mix_of (spread_of 8 w) symbol surround ≡ blend_of symbol surround 8 w
  unfolding ones_of
  mixed w = blended 8 w

pub spread-ones : (w : ℕ) → spread_of 8 w ≤ 72340172838076673
unfolding ones_of
spread-ones w = spread-le 8 w
