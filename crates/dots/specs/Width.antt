-- Cell width, once for all widths to 12: the dots are the low bits of one number. Assumes nothing.
use Rattle.std.specs.Prelude.{◌≡◌, refl, Bool, true, false, List, [], ◌∷◌, ◌++◌, map, ℕ, zero, suc, ◌+◌, ◌*◌, ◌/◌, ◌%◌, ◌^◌, ◌≤◌, ◌<◌, ◌-◌, length, take, replicate, drop, ltb, eqb}
use Rattle.std.proofs.Common.{sym, ap, ap₂, ◌∙◌, le_of_suc-le-suc, not-suc-le-zero, zero-add, suc-add, div-one, mul_comm, pow-suc, arith, lt-ltb, le-ltb, ltb-true, ltb-false}
use Rattle.std.proofs.Math.Nat.{div-div-eq-div-mul}
use Rattle.std.proofs.lemmas.List.{length-map}
use Rattle.lists.specs.Choice.{pick}
use Rattle.video.specs.declared.Look.{Look}
use Rattle.video.specs.Cell.{bits, lead, cell_bits, lit_bits, shade_of, cell_dots}
use Rattle.dots.specs.Stores.{wide_of, under_of, reach_of}

pub take-bits : (d n w : ℕ) → d ≤ n → take d (bits n w) ≡ bits d w
unfolding bits
take-bits zero n w h = refl
take-bits (suc d) zero w h = absurd (not-suc-le-zero h)
take-bits (suc d) (suc n) w h = ap (λ (l : List ℕ). (w % 2) ∷ l) (take-bits d n (w / 2) (le_of_suc-le-suc h))

-- the bit above ten is 0
top : (w : ℕ) → w < 1024 → bits 10 w ++ (0 ∷ []) ≡ bits 11 w
unfolding bits
top w h = let z : w / 2 / 2 / 2 / 2 / 2 / 2 / 2 / 2 / 2 / 2 % 2 ≡ 0 = omega arith in rw z

twice : (n w : ℕ) → bits (suc n) (2 * w) ≡ 0 ∷ bits n w
unfolding bits
twice n w =
    let z : 2 * w % 2 ≡ 0 = omega arith in
    let h : 2 * w / 2 ≡ w = omega arith in rw (z, h)

narrow : (w d : ℕ) → w < 1024 → d ≤ 10 → cell_bits w d ≡ bits d w
unfolding cell_bits lead
narrow w d h k = rw (le-ltb 10 d k, top w h) (take-bits d 11 w (omega arith))

broad : (w d : ℕ) → w < 1024 → 10 < d → d ≤ 12 → cell_bits w d ≡ bits d (2 * w)
unfolding cell_bits lead
broad w d h k m = rw (lt-ltb 10 d k, top w h, ← twice 11 w) (take-bits d 12 (2 * w) m)

by-test : (b : Bool) (w d : ℕ) → w < 1024 → d ≤ 12 → ltb 10 d ≡ b → cell_bits w d ≡ bits d (pick b (2 * w) w)
by-test true w d h m e = broad w d h (ltb-true _ _ e) m
by-test false w d h m e = narrow w d h (ltb-false _ _ e)

-- [strength width] facts on cell width are proved once over 6 to 12
-- [dots width]
-- the dots of a cell are the low bits of one number, once for all widths to 12
pub wide-right : (w d : ℕ) → w < 1024 → d ≤ 12 → cell_bits w d ≡ bits d (wide_of w d)
unfolding wide_of
wide-right w d h m = by-test (ltb 10 d) w d h m refl

-- n dots from the low bits of w
unfoldable pub shades : ℕ → ℕ → ℕ → ℕ → List ℕ
shades symbol surround n w = map (shade_of symbol surround) (bits n w)

all-symbol : (y n w : ℕ) → shades y y n w ≡ replicate n y
unfolding shades bits
all-symbol y zero w = refl
all-symbol y (suc n) w = ap₂ (λ (x : ℕ) (l : List ℕ). x ∷ l) (go (eqb (w % 2) 0)) (all-symbol y n (w / 2))
  where
    go : (t : Bool) → pick t y y ≡ y
    go true = refl
    go false = refl

all-lit : (y u n : ℕ) → map (shade_of y u) (replicate n 1) ≡ replicate n y
all-lit y u zero = refl
all-lit y u (suc n) = ap (λ (l : List ℕ). y ∷ l) (all-lit y u n)

unlit : (y u d w : ℕ) → cell_bits w d ≡ bits d (wide_of w d) → shades y u d (wide_of w d) ≡ map (shade_of y u) (cell_bits w d)
unfolding shades
unlit y u d w e = rw e

-- a cell's dots, lit or not, are those of its number in two levels
pub cell-shades : (k : Look) (w d : ℕ) → w < 1024 → d ≤ 12 → shades k.symbol (under_of k) d (wide_of w d) ≡ cell_dots k w d
unfolding cell_dots lit_bits
cell-shades k w d h m = go k.lit
  where
    y : ℕ
    y = k.symbol

    u : ℕ
    u = k.surround

    go : (t : Bool) → shades y (pick t y u) d (wide_of w d) ≡ map (shade_of y u) (pick t (replicate d 1) (cell_bits w d))
    go true = all-symbol y d (wide_of w d) ∙ sym (all-lit y u d)
    go false = unlit y u d w (wide-right w d h m)

pub shades-more : (symbol surround d k w : ℕ) → k < d → shades symbol surround (d - k) w ≡ shade_of symbol surround (w % 2) ∷ shades symbol surround (d - (k + 1)) (w / 2)
unfolding shades bits
shades-more symbol surround d k w h = let e : d - k ≡ suc (d - (k + 1)) = omega arith in rw e

pub shades-none : (symbol surround d k w : ℕ) → d ≤ k → shades symbol surround (d - k) w ≡ []
unfolding shades bits
shades-none symbol surround d k w h = let e : d - k ≡ 0 = omega arith in rw e

length-bits : (n w : ℕ) → length (bits n w) ≡ n
unfolding bits
length-bits zero w = refl
length-bits (suc n) w = ap suc (length-bits n (w / 2))

pub length-shades : (symbol surround n w : ℕ) → length (shades symbol surround n w) ≡ n
unfolding shades
length-shades symbol surround n w = rw (length-map, length-bits)

-- [strength width]
-- a cell has as many dots as its width says
pub length-cell : (k : Look) (w d : ℕ) → w < 1024 → d ≤ 12 → length (cell_dots k w d) ≡ d
length-cell k w d h m = rw (← cell-shades k w d h m) (length-shades k.symbol (under_of k) d (wide_of w d))

-- the front of the dots, and dots put together
pub take-shades : (y u e n w : ℕ) → e ≤ n → take e (shades y u n w) ≡ shades y u e w
unfolding shades bits
take-shades y u zero n w h = refl
take-shades y u (suc e) zero w h = absurd (not-suc-le-zero h)
take-shades y u (suc e) (suc n) w h = ap (λ (l : List ℕ). shade_of y u (w % 2) ∷ l) (take-shades y u e n (w / 2) (le_of_suc-le-suc h))

pub add-shades : (y u e n w : ℕ) → shades y u e w ++ shades y u n (w / 2 ^ e) ≡ shades y u (e + n) w
unfolding shades bits
add-shades y u zero n w = rw (zero-add, div-one)
add-shades y u (suc e) n w =
    let k : w / 2 ^ suc e ≡ w / 2 / 2 ^ e = rw (pow-suc 2 e, mul_comm (2 ^ e) 2) (sym (div-div-eq-div-mul w 2 (2 ^ e))) in
    rw (k, suc-add e n) (ap (λ (l : List ℕ). shade_of y u (w % 2) ∷ l) (add-shades y u e n (w / 2)))

-- ---- a cell at the front of a buffer; what stands beyond stays

abbrev pub cell_put : (levels word d : ℕ) → (tight : Bool) → (out : List ℕ) → List ℕ
cell_put levels word d tight out = shades (levels % 4) (levels / 4) (reach_of tight d) word ++ drop (reach_of tight d) out

abbrev pub cell_written : (symbol surround word d : ℕ) → (out : List ℕ) → List ℕ
cell_written symbol surround word d out = shades symbol surround d (wide_of word d) ++ drop d out

abbrev pub cell_drawn : Look → (word d : ℕ) → (out : List ℕ) → List ℕ
cell_drawn look word d out = cell_dots look word d ++ drop d out
