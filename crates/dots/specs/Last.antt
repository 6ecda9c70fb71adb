-- A cell without a loop: its first eight dots at once, then its last four, which overlap them. Assumes nothing.
use Rattle.std.specs.Prelude.{◌≡◌, List, ◌++◌, map, ℕ, ◌+◌, ◌/◌, ◌%◌, ◌^◌, ◌-◌, ◌≤◌, ◌<◌, length, take, drop}
use Rattle.std.proofs.Common.{sym, ◌∙◌, append_assoc, arith, drop-drop}
use Rattle.std.proofs.Math.Path.{ap}
use Rattle.std.proofs.lemmas.List.{take-append-le}
use Rattle.std.proofs.Math.Seq.{drop-append-add}
use Rattle.lists.specs.Fill.{lent}
use Rattle.video.specs.Cell.{shade_of}
use Rattle.dots.specs.Stores.{spread_of, mix_of, bytes_of}
use Rattle.dots.specs.Width.{shades, take-shades, add-shades, length-shades}
use Rattle.dots.specs.Bytes.{low_bits, four-of-eight, spread-ones}
use Rattle.dots.specs.Spread.{stored-shades}

module _ (y u : ℕ) where
  low-shades : (x : ℕ) → shades y u 4 (x % 16) ≡ shades y u 4 x
  unfolding shades
  low-shades x = ap (map (shade_of y u)) (low_bits 4 x)

  -- four dots from four spread bits
  pub four-shades : y < 256 → u < 256 → (v x : ℕ) → v ≡ mix_of (spread_of 4 x) y u → bytes_of 4 v ≡ shades y u 4 x
  four-shades p q v x e = stored-shades y u p q v 4 (x % 16) (e ∙ ap (λ (s : ℕ). mix_of s y u) (four-of-eight x)) (omega arith) ∙ low-shades x

  -- they are put into a part that was lent
  pub last-put : (d v w : ℕ) (out ys : List ℕ) → 8 ≤ d → d ≤ length out → bytes_of 4 v ≡ shades y u 4 w
      → ys ≡ bytes_of 4 v ++ drop 4 (take (length out - (d - 4)) (drop (d - 4) out))
      → take (d - 4) out ++ (ys ++ drop (length out - (d - 4)) (drop (d - 4) out)) ≡ take (d - 4) out ++ (shades y u 4 w ++ drop d out)
  last-put d v w out ys l room e q =
      let s : d - 4 + 4 ≡ d = omega arith in
      lent out ys (bytes_of 4 v) (d - 4) 4 (omega arith) q ∙ rw (s, e)

  pub eight-last : (d w : ℕ) (out o1 o2 : List ℕ) → 8 ≤ d → d ≤ 12 → d ≤ length out → o1 ≡ shades y u 8 w ++ drop 8 out
      → o2 ≡ take (d - 4) o1 ++ (shades y u 4 (w / 2 ^ (d - 4)) ++ drop d o1) → o2 ≡ shades y u d w ++ drop d out
  eight-last d w out o1 o2 l m room p q =
      let k : length (shades y u 8 w) ≡ 8 = length-shades y u 8 w in
      let s : d - 4 + 4 ≡ d = omega arith in
      let t : 8 + (d - 8) ≡ d = omega arith in
      let beyond : drop (8 + (d - 8)) o1 ≡ drop d out =
      (rw p (ap (λ (i : ℕ). drop (i + (d - 8)) (shades y u 8 w ++ drop 8 out)) (sym k)) ∙ drop-append-add (shades y u 8 w) (drop 8 out) (d - 8) ∙ drop-drop (d - 8) 8 out ∙ ap (λ (i : ℕ). drop i out) t) in
      let back : drop d o1 ≡ drop d out = ap (λ (i : ℕ). drop i o1) (sym t) ∙ beyond in
      let front : take (d - 4) o1 ≡ shades y u (d - 4) w =
      rw p (take-append-le (d - 4) (shades y u 8 w) (drop 8 out) (omega (arith, k)) ∙ take-shades y u (d - 4) 8 w (omega arith)) in
      q ∙ rw (back, front)
      (sym (append_assoc (shades y u (d - 4) w) (shades y u 4 (w / 2 ^ (d - 4))) (drop d out))
      ∙ ap (λ (x : List ℕ). x ++ drop d out) (add-shades y u (d - 4) 4 w ∙ ap (λ (i : ℕ). shades y u i w) s))

pub four-ones : (w : ℕ) → spread_of 4 w ≤ 72340172838076673
four-ones w = rw (four-of-eight w) (spread-ones (w % 16))
