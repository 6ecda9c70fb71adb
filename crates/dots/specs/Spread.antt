-- Dots that were spread into bytes, and stored, are the dots of the number that they were spread from. Assumes nothing.
use Rattle.std.specs.Prelude.{◌≡◌, eqb}
use Rattle.std.proofs.Math.Path.{refl, ap}
use Rattle.std.proofs.Common.{◌∙◌, not-suc-le-zero, le_of_suc-le-suc}
use mathlib.Core.List.{List, ◌∷◌}
use Prim.Native.Nat.{ℕ, zero, suc, ◌+◌, ◌*◌, ◌/◌, ◌%◌, ◌^◌, ◌-◌, ◌≤◌, ◌<◌}
use native.Mathlib.Omega.{arith}
use Rattle.lists.specs.Choice.{pick-lt}
use Rattle.video.specs.Cell.{bits, shade_of}
use Rattle.dots.specs.Stores.{spread_of, blend_of, mix_of, bytes_of, overlap_of}
use Rattle.dots.specs.Width.{shades, take-shades, add-shades}
use Rattle.dots.specs.Bytes.{mixed}

-- the bytes of a number are dots
module _ (symbol surround : ℕ) (small : symbol < 256) (small' : surround < 256) where
  shade-lt : (bit : ℕ) → shade_of symbol surround bit < 256
  shade-lt bit = pick-lt 256 (eqb bit 0) surround symbol small' small

  pub bytes-shades : (n m w : ℕ) → n ≤ m → bytes_of n (blend_of symbol surround m w) ≡ shades symbol surround n w
  unfolding bytes_of blend_of shades bits
  bytes-shades zero m w h = refl
  bytes-shades (suc n) zero w h = absurd (not-suc-le-zero h)
  bytes-shades (suc n) (suc m) w h =
      let a : (shade_of symbol surround (w % 2) + 256 * blend_of symbol surround m (w / 2)) % 256 ≡ shade_of symbol surround (w % 2) = omega (arith, shade-lt (w % 2)) in
      let b : (shade_of symbol surround (w % 2) + 256 * blend_of symbol surround m (w / 2)) / 256 ≡ blend_of symbol surround m (w / 2) = omega (arith, shade-lt (w % 2)) in
      rw (a, b) (ap (λ (l : List ℕ). shade_of symbol surround (w % 2) ∷ l) (bytes-shades n m (w / 2) (le_of_suc-le-suc h)))

module _ (y u : ℕ) (p : y < 256) (q : u < 256) where
  pub overlap-shades : (d w : ℕ) → 8 ≤ d → d ≤ 16 → overlap_of 8 d (blend_of y u 8 w) (blend_of y u 8 (w / 2 ^ (d - 8))) ≡ shades y u d w
  unfolding overlap_of
  overlap-shades d w l m =
      let k : d - 8 + 8 ≡ d = omega arith in
      let h : 8 ≤ 8 = omega arith in
      rw (bytes-shades y u p q 8 8 w h, bytes-shades y u p q 8 8 (w / 2 ^ (d - 8)) h, take-shades y u (d - 8) 8 w (omega arith))
      (add-shades y u (d - 8) 8 w ∙ ap (λ (i : ℕ). shades y u i w) k)

  -- up to eight dots of a number are its bytes
  pub stored-shades : (v d w : ℕ) → v ≡ mix_of (spread_of 8 w) y u → d ≤ 8 → bytes_of d v ≡ shades y u d w
  stored-shades v d w e h = ap (bytes_of d) (e ∙ mixed y u w) ∙ bytes-shades y u p q d 8 w h
