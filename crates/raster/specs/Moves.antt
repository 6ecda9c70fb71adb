-- The move from cell to cell round the buffer (01, "Which cell is fetched"), and k moves at once. Addresses have 14 bits. Assumes nothing.
--     advance, advance_by       one move, and k moves
--     advance_by-zero, -suc     k moves at once are k single moves
--     advance_by-add            j moves after k moves are j + k moves
--     advance_by-inside         from inside an ordered buffer no move leaves it
use Rattle.std.specs.Prelude.{◌≡◌, Bool, true, false, ℕ, zero, suc, ◌+◌, ◌-◌, ◌%◌, ◌≤◌, ◌<◌, leb, eqb}
use Rattle.std.proofs.Math.Path.{sym, ap}
use Rattle.std.proofs.Common.{◌∙◌, subst, add-suc, suc-add, zero-add, le-leb, eq-eqb, ne_eqb}
use Rattle.std.proofs.Math.Nat.{zero-mod}
use Rattle.std.proofs.Math.Decide.{dec_lt, ℕ_discrete}
use native.Mathlib.Omega.{arith}
use Rattle.std.proofs.lemmas.Bool.{lt-leb}
use Rattle.lists.specs.Choice.{pick}
use Rattle.raster.specs.declared.Buffer.{Buffer}
use Rattle.raster.specs.declared.Cell.{Cell}
use Rattle.raster.specs.Tick.{Tick, up, carry, tick}

abbrev pub cell : ℕ → Cell
cell a = record { address = a }

-- [fetch move] after the last buffer address comes the first; otherwise add 1, and 16383 is followed by 0
-- after the last buffer address comes the first; otherwise add 1, and 16383 is followed by 0
unfoldable pub advance : Buffer → ℕ → ℕ
advance b a = pick (eqb a b.last) b.first ((a + 1) % 16384)

-- how many moves from a to the last buffer address: last - a, modulo 16,384
unfoldable pub to_last : Buffer → ℕ → ℕ
to_last b a = (b.last + 16384 - a % 16384) % 16384

-- how many addresses the buffer has
unfoldable pub around : Buffer → ℕ
around b = to_last b b.first + 1

-- [fetch move]
-- k moves at once
unfoldable pub advance_by : Buffer → ℕ → ℕ → ℕ
advance_by b k a = pick (leb k (to_last b a)) ((a + k) % 16384) ((b.first + (k - to_last b a - 1) % around b) % 16384)

-- the bounds that the registers can name
pub record Bounded (b : Buffer) : Type 0 where
  pub first-lt : b.first < 16384
  pub last-lt : b.last < 16384

pub advance-last : (b : Buffer) (a : ℕ) → a ≡ b.last → advance b a ≡ b.first
unfolding advance
advance-last b a e = rw (eq-eqb a b.last e)

pub advance-on : (b : Buffer) (a : ℕ) → (a ≡ b.last → ⊥) → advance b a ≡ (a + 1) % 16384
unfolding advance
advance-on b a f = rw (ne_eqb a b.last f)

pub by_near : (b : Buffer) (k a : ℕ) → k ≤ to_last b a → advance_by b k a ≡ (a + k) % 16384
unfolding advance_by
by_near b k a h = rw (le-leb k (to_last b a) h)

pub by-far : (b : Buffer) (k a : ℕ) → to_last b a < k → advance_by b k a ≡ (b.first + (k - to_last b a - 1) % around b) % 16384
unfolding advance_by
by-far b k a h = rw (lt-leb k (to_last b a) h)

-- j moves past the last address
past : (b : Buffer) (j a : ℕ) → advance_by b (suc (to_last b a + j)) a ≡ (b.first + j % around b) % 16384
past b j a =
    let e : suc (to_last b a + j) - to_last b a - 1 ≡ j = omega arith in
    rw (by-far b (suc (to_last b a + j)) a (omega arith), e)

pub advance_by-zero : (b : Buffer) (a : ℕ) → a < 16384 → advance_by b 0 a ≡ a
advance_by-zero b a h = by_near b 0 a (omega arith) ∙ omega arith

module _ (b : Buffer) (o : Bounded b) where
  -- a move from e cells beyond a, where the last address is further on
  move-near : (a e : ℕ) → a < 16384 → e < to_last b a → advance b ((a + e) % 16384) ≡ (a + suc e) % 16384
  unfolding to_last
  move-near a e ha he = advance-on b ((a + e) % 16384) (λ z. omega (arith, o.last-lt)) ∙ omega arith

  -- a move from the last address
  move_at : (a e : ℕ) → a < 16384 → e ≡ to_last b a → advance b ((a + e) % 16384) ≡ b.first
  unfolding to_last
  move_at a e ha he = advance-last b ((a + e) % 16384) (omega (arith, o.last-lt))

  around-pos : 0 < around b
  unfolding around
  around-pos = omega arith

  -- a move from j % around cells beyond the first address
  beyond : (j : ℕ) → Tick (around b) j → (b.first + suc j % around b) % 16384 ≡ advance b ((b.first + j % around b) % 16384)
  unfolding around
  beyond j (up l p q) =
      ap (λ (x : ℕ). (b.first + x) % 16384) p ∙ sym (move-near b.first (j % around b) o.first-lt (omega arith))
  beyond j (carry e p q) =
      ap (λ (x : ℕ). (b.first + x) % 16384) p ∙ omega (arith, o.first-lt, move_at b.first (j % around b) o.first-lt (omega arith))

  pub advance_by-suc : (k a : ℕ) → a < 16384 → advance_by b (suc k) a ≡ advance b (advance_by b k a)
  advance_by-suc k a ha = go (dec_lt k d) (ℕ_discrete k d)
    where
      d : ℕ
      d = to_last b a

      Goal : ℕ → Type 0
      Goal x = advance_by b (suc x) a ≡ advance b (advance_by b x a)

      go : Dec (k < d) → Dec (k ≡ d) → Goal k
      go (yes h) e =
          by_near b (suc k) a h
          ∙ sym (move-near a k ha h)
          ∙ ap (advance b) (sym (by_near b k a (omega arith)))
      go (no f) (yes e) =
          ap (λ (x : ℕ). advance_by b (suc x) a) (sym (omega (arith, e)))
          ∙ past b 0 a
          ∙ omega (arith, zero-mod (around b), o.first-lt)
          ∙ sym (move_at a k ha e)
          ∙ ap (advance b) (sym (by_near b k a (omega arith)))
      go (no f) (no g) =
          let j : ℕ = k - suc d in
          let e : suc (d + j) ≡ k = omega arith in
          subst Goal e
          (ap (λ (x : ℕ). advance_by b (suc x) a) (sym (add-suc d j))
          ∙ past b (suc j) a
          ∙ beyond j (tick j around-pos)
          ∙ ap (advance b) (sym (past b j a)))

pub advance_by-lt : (b : Buffer) (k a : ℕ) → advance_by b k a < 16384
unfolding advance_by
advance_by-lt b k a = go (leb k (to_last b a)) (b.first + (k - to_last b a - 1) % around b)
  where
    go : (t : Bool) (y : ℕ) → pick t ((a + k) % 16384) (y % 16384) < 16384
    go true y = omega arith
    go false y = omega arith

pub advance_by-add : (b : Buffer) → Bounded b → (j k a : ℕ) → a < 16384 → advance_by b (j + k) a ≡ advance_by b j (advance_by b k a)
advance_by-add b o zero k a ha =
    ap (λ (x : ℕ). advance_by b x a) (zero-add k)
    ∙ sym (advance_by-zero b (advance_by b k a) (advance_by-lt b k a))
advance_by-add b o (suc j) k a ha =
    ap (λ (x : ℕ). advance_by b x a) (suc-add j k)
    ∙ advance_by-suc b o (j + k) a ha
    ∙ ap (advance b) (advance_by-add b o j k a ha)
    ∙ sym (advance_by-suc b o j (advance_by b k a) (advance_by-lt b k a))

-- ---- the range

-- [demand inside]
pub record Inside (b : Buffer) (a : ℕ) : Type 0 where
  pub above : b.first ≤ a
  pub below : a ≤ b.last

module _ (b : Buffer) (last-lt : b.last < 16384) where
  advance-inside : (a : ℕ) → Inside b a → Inside b (advance b a)
  advance-inside a i = go (ℕ_discrete a b.last)
    where
      go : Dec (a ≡ b.last) → Inside b (advance b a)
      go (yes e) = rw (advance-last b a e) (record { above = omega arith; below = omega (arith, i.above, i.below) })
      go (no f) = rw (advance-on b a f) (record { above = omega (arith, i.above, i.below); below = omega (arith, i.below) })

  -- a start inside an ordered buffer: no move leaves the buffer
  pub advance_by-inside : (k a : ℕ) → Inside b a → Inside b (advance_by b k a)
  advance_by-inside zero a i = rw (advance_by-zero b a (omega (arith, i.below))) i
  advance_by-inside (suc k) a i =
      rw (advance_by-suc b (record { first-lt = omega (arith, i.above, i.below); last-lt = last-lt }) k a (omega (arith, i.below)))
      (advance-inside (advance_by b k a) (advance_by-inside k a i))
