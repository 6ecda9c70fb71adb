-- A number in decimal, and that the digits of `io` are these. Assumes nothing.
use Rattle.std.specs.Prelude.{ℕ, zero, suc, ◌+◌, ◌-◌, ◌/◌, ◌%◌, ◌^◌, ◌≤◌, ◌<◌, ◌≡◌, Bool, true, false, List, [], ◌∷◌, ◌++◌, length, ltb}
use Rattle.std.proofs.Common.{zero-le, ap, pow-suc, arith, lt-ltb, le-ltb, length-append}
use Rattle.std.proofs.Math.Nat.{one-le-pow}
use Rattle.lists.specs.Choice.{pick}
use Rattle.io.specs.Digits.{last_digits, IsDigitCount}

-- the last digit, and before it those of the tenth where there are any; `most` bounds how many
unfoldable pub digits_by : (most n : ℕ) → List ℕ
digits_by zero n = []
digits_by (suc most) n = pick (ltb n 10) [] (digits_by most (n / 10)) ++ ((48 + n % 10) ∷ [])

-- the digits from the most significant on, with no zero in front; n has at most n + 1
unfoldable pub decimal : ℕ → List ℕ
decimal n = digits_by (suc n) n

-- ---- a number below 10 ^ (k + 1) has at most k + 1 digits

pick-short : (t : Bool) (l : List ℕ) (k : ℕ) → length l ≤ k → length (pick t [] l) ≤ k
pick-short true l k h = zero-le
pick-short false l k h = h

digits-short : (k most n : ℕ) → n < 10 ^ suc k → length (digits_by most n) ≤ suc k
unfolding digits_by
digits-short k zero n h = zero-le
digits-short zero (suc most) n h = rw (lt-ltb n 10 h) (omega arith)
digits-short (suc k) (suc most) n h =
    let l = digits_by most (n / 10) in
    rw (length-append (pick (ltb n 10) [] l) ((48 + n % 10) ∷ []))
    (omega (arith, pick-short (ltb n 10) l (suc k) (digits-short k most (n / 10) (omega (arith, pow-suc 10 (suc k))))))

pub length-decimal : (k n : ℕ) → n < 10 ^ suc k → length (decimal n) ≤ suc k
unfolding decimal
length-decimal k n h = digits-short k (suc n) n h

-- ---- the digits of `io`

below_power : (k : ℕ) → k < 10 ^ k
below_power zero = omega arith
below_power (suc k) = omega (arith, pow-suc 10 k, below_power k)

-- k + 1 digits, where n has no fewer
same_digits : (k most n : ℕ) → k ≤ most → n < 10 ^ suc k → (0 < k → 10 ^ k ≤ n) → last_digits 10 (suc k) n ≡ digits_by (suc most) n
unfolding digits_by
same_digits zero most n l h g = rw (lt-ltb n 10 h, lt-ltb (n % 10) 10 (omega arith))
same_digits (suc k) zero n l h g = absurd (omega arith)
same_digits (suc k) (suc most) n l h g =
    let some : 10 ^ suc k ≤ n = g (omega arith) in
    rw (le-ltb n 10 (omega (arith, pow-suc 10 k, one-le-pow k 10 (omega arith))), lt-ltb (n % 10) 10 (omega arith))
    (ap (λ (l : List ℕ). l ++ ((48 + n % 10) ∷ []))
    (same_digits k most (n / 10) (omega arith) (omega (arith, pow-suc 10 (suc k))) (λ p. omega (arith, pow-suc 10 k))))

pub fewest : (n k : ℕ) → IsDigitCount 10 1 n k → last_digits 10 k n ≡ decimal n
unfolding decimal
fewest n zero f = absurd (omega arith)
fewest n (suc zero) f = same_digits 0 n n (omega arith) f.1 (λ p. omega arith)
fewest n (suc (suc k)) f =
    let e : suc (suc k) - 1 ≡ suc k = omega arith in
    let some : 10 ^ suc k ≤ n = rw e at (f.2 (omega arith)) in
    same_digits (suc k) n n (omega (arith, below_power (suc k))) f.1 (λ p. some)
