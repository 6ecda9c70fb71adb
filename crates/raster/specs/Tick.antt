-- One more, by quotient and remainder: either the remainder goes up and the quotient stays, or the remainder goes to 0 and the quotient up.
-- Assumes nothing.
use Rattle.std.specs.Prelude.{◌≡◌, ℕ, suc, ◌+◌, ◌*◌, ◌/◌, ◌%◌, ◌<◌}
use Rattle.std.proofs.Common.{sym, ap, ◌∙◌, div-add-mod', mod-lt, mod-eq_of_lt, mul_comm, arith}
use Rattle.std.proofs.Math.Nat.{div-eq_of_lt, div-div-eq-div-mul}
use Rattle.std.proofs.Math.Decide.{dec_lt}
use Rattle.std.proofs.Math.Arith.{digits_div, digits_mod, mod-mul}

pub data Tick (m n : ℕ) : Type 0 where
  up : suc (n % m) < m → suc n % m ≡ suc (n % m) → suc n / m ≡ n / m → Tick m n
  carry : suc (n % m) ≡ m → suc n % m ≡ 0 → suc n / m ≡ suc (n / m) → Tick m n

pub tick : {m : ℕ} (n : ℕ) → 0 < m → Tick m n
tick {m} n h = go (dec_lt (suc (n % m)) m)
  where
    low : n % m < m
    low = mod-lt n h

    inner : suc n ≡ n / m * m + suc (n % m)
    inner = omega (arith, div-add-mod' n m)

    outer : suc (n % m) ≡ m → suc n ≡ suc (n / m) * m + 0
    outer e = omega (arith, div-add-mod' n m)

    go : Dec (suc (n % m) < m) → Tick m n
    go (yes l) =
        up l
        (ap (λ (x : ℕ). x % m) inner ∙ digits_mod (n / m) l)
        (ap (λ (x : ℕ). x / m) inner ∙ digits_div (n / m) l)
    go (no f) =
        let e : suc (n % m) ≡ m = omega (arith, f, low) in
        carry e
        (ap (λ (x : ℕ). x % m) (outer e) ∙ digits_mod (suc (n / m)) h)
        (ap (λ (x : ℕ). x / m) (outer e) ∙ digits_div (suc (n / m)) h)

-- the same place by the frame's length: frame n / (a * b), and the line and the clock from what is left over
pub by-frame : (n a b : ℕ) → n / (a * b) ≡ n / a / b
by-frame n a b = sym (div-div-eq-div-mul n a b)

pub rest-of-frame : (n : ℕ) {a b : ℕ} → 0 < a → 0 < b → n % (a * b) ≡ n / a % b * a + n % a
rest-of-frame n {a} {b} ha hb = ap (λ (x : ℕ). n % x) (mul_comm a b) ∙ mod-mul n hb ha

pub line-of-rest : (n : ℕ) {a b : ℕ} → 0 < a → 0 < b → n % (a * b) / a ≡ n / a % b
line-of-rest n {a} {b} ha hb =
    ap (λ (x : ℕ). x / a) (rest-of-frame n ha hb) ∙ digits_div (n / a % b) (mod-lt n ha)

pub clock-of-rest : (n : ℕ) {a b : ℕ} → 0 < a → 0 < b → n % (a * b) % a ≡ n % a
clock-of-rest n {a} {b} ha hb =
    ap (λ (x : ℕ). x % a) (rest-of-frame n ha hb) ∙ digits_mod (n / a % b) (mod-lt n ha)

-- line and clock are both 0 exactly where the frame begins
pub origin→ : (n : ℕ) {a b : ℕ} → 0 < a → 0 < b → n / a % b ≡ 0 → n % a ≡ 0 → n % (a * b) ≡ 0
origin→ n {a} {b} ha hb p q = rest-of-frame n ha hb ∙ ap (λ (x : ℕ). x * a + n % a) p ∙ omega (arith, q)

pub origin← : (n : ℕ) {a b : ℕ} → 0 < a → 0 < b → n % (a * b) ≡ 0 → (n / a % b ≡ 0) × (n % a ≡ 0)
origin← n {a} {b} ha hb p = (
  sym (line-of-rest n ha hb) ∙ ap (λ (x : ℕ). x / a) p ∙ div-eq_of_lt ha,
  sym (clock-of-rest n ha hb) ∙ ap (λ (x : ℕ). x % a) p ∙ mod-eq_of_lt ha,
)
