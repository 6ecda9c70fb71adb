-- A mask of a cell's dots and a look make the dots: by and, and by exclusive or, byte by byte. Assumes nothing.
use Rattle.std.specs.Prelude.{◌≡◌, Bool, true, false, List, ◌++◌, eqb, length, get_or, drop}
use Rattle.std.proofs.Math.Path.{refl, ap, ap₂}
use Rattle.std.proofs.Common.{◌∙◌}
use Prim.Native.Nat.{ℕ, zero, suc, ◌+◌, ◌*◌, ◌/◌, ◌%◌, ◌^◌, ◌-◌, ◌≤◌, ◌<◌}
use native.Mathlib.Omega.{arith}
use borrow.Author.Tests.{eqb-true, lt-ltb, le-ltb}
use Rattle.std.specs.Int.Bits.{bit_and, bit_xor, xor_block, and_lt}
use Rattle.std.proofs.lemmas.Nat.{and_block, xor_lt}
use Rattle.lists.specs.Tab.{tab, length-tab, get_or-tab}
use Rattle.video.specs.Cell.{shade_of}
use Rattle.dots.specs.Stores.{spread_of, blend_of, bytes_of, overlap_of, ink_of, reach_of}
use Rattle.dots.specs.Width.{shades}
use Rattle.dots.specs.Bytes.{tried, each, low-spread}
use Rattle.dots.specs.Spread.{bytes-shades, overlap-shades}

-- n bytes of v
unfoldable every_of : (n v : ℕ) → ℕ
every_of zero v = 0
every_of (suc n) v = every_of n v * 256 + v

every-eight : (v : ℕ) → 72340172838076673 * v ≡ every_of 8 v
unfolding every_of
every-eight v = omega arith

-- one byte, by surround, symbol and dot: all cases are tried
abbrev inked-byte : (u y b : ℕ) → ℕ
inked-byte u y b = bit_xor u (bit_and (255 * b) (bit_xor u y))

every_byte : (k : ℕ) → k < 32 → inked-byte (k / 8) (k / 2 % 4) (k % 2) ≡ shade_of (k / 2 % 4) (k / 8) (k % 2)
unfolding tried
every_byte k h =
    eqb-true (inked-byte (k / 8) (k / 2 % 4) (k % 2)) (shade_of (k / 2 % 4) (k / 8) (k % 2))
    (each (λ (k : ℕ). eqb (inked-byte (k / 8) (k / 2 % 4) (k % 2)) (shade_of (k / 2 % 4) (k / 8) (k % 2))) 32 k refl h)

module _ (y u : ℕ) (p : y < 4) (q : u < 4) where
  abbrev x : ℕ
  x = bit_xor u y

  x_lt : x < 256
  x_lt = xor_lt 8 u y (omega arith) (omega arith)

  one_byte : (b : ℕ) → b < 2 → inked-byte u y b ≡ shade_of y u b
  one_byte b h =
      let k : ℕ = 8 * u + 2 * y + b in
      let ku : k / 8 ≡ u = omega arith in
      let ky : k / 2 % 4 ≡ y = omega arith in
      let kb : k % 2 ≡ b = omega arith in
      rw (ku, ky, kb) at (every_byte k (omega arith))

  bytes : (n w : ℕ) → bit_xor (every_of n u) (bit_and (255 * spread_of n w) (every_of n x)) ≡ blend_of y u n w
  unfolding every_of spread_of blend_of
  bytes zero w = refl
  bytes (suc n) w =
      let m : ℕ = 255 * spread_of n (w / 2) in
      let b : ℕ = 255 * (w % 2) in
      let s : 255 * (w % 2 + 256 * spread_of n (w / 2)) ≡ m * 256 + b = omega arith in
      let b_lt : b < 256 = omega arith in
      let u-lt : u < 256 = omega arith in
      ap (λ (k : ℕ). bit_xor (every_of n u * 256 + u) (bit_and k (every_of n x * 256 + x))) s
      ∙ ap (bit_xor (every_of n u * 256 + u)) (and_block 8 m (every_of n x) b x b_lt x_lt)
      ∙ xor_block 8 (every_of n u) (bit_and m (every_of n x)) u (bit_and b x) u-lt (and_lt 8 b x b_lt x_lt)
      ∙ ap₂ (λ (r k : ℕ). r * 256 + k) (bytes n (w / 2)) (one_byte (w % 2) (omega arith))
      ∙ omega arith

-- the three that a cell's eight dots are made from
module _ (l w : ℕ) (h : l < 16) where
  mask_is : ink_of (w % 256) ≡ 255 * spread_of 8 w
  unfolding ink_of
  mask_is =
      let s : w % 256 < 256 = omega arith in
      rw (lt-ltb (w % 256) 256 s) (ap (λ (k : ℕ). 255 * k) (low-spread 8 w))

  base-is : ink_of (256 + l) ≡ every_of 8 (l / 4)
  unfolding ink_of
  base-is =
      let a : 256 ≤ 256 + l = omega arith in
      let b : 256 + l < 272 = omega arith in
      let e : (256 + l) % 16 / 4 ≡ l / 4 = omega arith in
      rw (le-ltb (256 + l) 256 a, lt-ltb (256 + l) 272 b, e) (every-eight (l / 4))

  change-is : ink_of (272 + l) ≡ every_of 8 (bit_xor (l / 4) (l % 4))
  unfolding ink_of
  change-is =
      let a : 256 ≤ 272 + l = omega arith in
      let b : 272 ≤ 272 + l = omega arith in
      let e : (272 + l) % 16 / 4 ≡ l / 4 = omega arith in
      let f : (272 + l) % 4 ≡ l % 4 = omega arith in
      rw (le-ltb (272 + l) 256 a, le-ltb (272 + l) 272 b, e, f) (every-eight (bit_xor (l / 4) (l % 4)))

  pub inked : bit_xor (ink_of (256 + l)) (bit_and (ink_of (w % 256)) (ink_of (272 + l))) ≡ blend_of (l % 4) (l / 4) 8 w
  inked = rw (base-is, mask_is, change-is) (bytes (l % 4) (l / 4) (omega arith) (omega arith) 8 w)

-- out of the table
module _ (xs : List ℕ) (e : xs ≡ tab 288 ink_of) where
  pub inks-all : length xs ≡ 288
  inks-all = ap length e ∙ length-tab 288 ink_of

  pub inked-in : (l w : ℕ) → l < 16 → bit_xor (get_or xs (256 + l) 0) (bit_and (get_or xs (w % 256) 0) (get_or xs (272 + l) 0)) ≡ blend_of (l % 4) (l / 4) 8 w
  inked-in l w h = rw (e, get_or-tab 288 ink_of (256 + l) (omega arith), get_or-tab 288 ink_of (w % 256) (omega arith), get_or-tab 288 ink_of (272 + l) (omega arith)) (inked l w h)

-- ---- a cell, by the three ways to store it

pub reach-broad : (tight : Bool) (d : ℕ) → 8 < d → reach_of tight d ≡ d
reach-broad true d h = refl
reach-broad false d h = omega (arith, h)

pub reach-tight : {tight : Bool} → tight ≡ true → (d : ℕ) → reach_of tight d ≡ d
reach-tight e d = rw e

pub reach-eight : {tight : Bool} → tight ≡ false → (d : ℕ) → d ≤ 8 → reach_of tight d ≡ 8
reach-eight e d h = rw e (omega (arith, h))

module _ (l w : ℕ) (few : l < 16) {first : ℕ} (e : first ≡ blend_of (l % 4) (l / 4) 8 w) (out₀ : List ℕ) where
  abbrev dots : (reach : ℕ) → List ℕ
  dots reach = shades (l % 4) (l / 4) reach w ++ drop reach out₀

  pub put-broad : {reach d : ℕ} → reach ≡ d → 8 < d → d ≤ 12 → {last : ℕ} → last ≡ blend_of (l % 4) (l / 4) 8 (w / 2 ^ (d - 8)) → {out : List ℕ} → out ≡ overlap_of 8 d first last ++ drop d out₀ → out ≡ dots reach
  put-broad {d = d} r h m z q = q ∙ rw (r, e, z) (ap (λ (x : List ℕ). x ++ drop d out₀) (overlap-shades (l % 4) (l / 4) (omega (arith, few)) (omega (arith, few)) d w (omega arith) (omega arith)))

  pub put-narrow : {reach d : ℕ} → reach ≡ d → d ≤ 8 → {out : List ℕ} → out ≡ bytes_of d first ++ drop d out₀ → out ≡ dots reach
  put-narrow {d = d} r h q = q ∙ rw (r, e) (ap (λ (x : List ℕ). x ++ drop d out₀) (bytes-shades (l % 4) (l / 4) (omega (arith, few)) (omega (arith, few)) d 8 w h))
