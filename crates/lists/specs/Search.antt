-- Whether some number below n passes a test, and the lowest that does. Assumes nothing.
--     any_some, any_none, none_of        some number passes, or none does
--     first-none, first-at               where none passes it is n; else the one that passes and has none before it
--     first-is, first-not                and the reverse
--     first-lt, first-kept, first-new    where some number passes it is below n and stays with one number more, which else it may be
--     same-any, same_first               tests that agree
--     any-all                            n times k numbers, one after the other
use Prim.Native.Nat.{ℕ, zero, suc, ◌+◌, ◌*◌, ◌≤◌, ◌<◌}
use Rattle.std.specs.Prelude.{◌≡◌, Bool, ◌||◌, ltb}
use Rattle.std.proofs.Math.Path.{refl}
use Rattle.std.proofs.Common.{sym, ap, ap₂, ◌∙◌, true≢false, eq-or-lt_of_le, le_of_suc-le-suc, zero-mul, suc-mul, add-zero}
use Rattle.std.proofs.Math.Bool.{true, false}
use Rattle.std.proofs.Math.Logic.{⊎_elim}
use Rattle.std.proofs.Math.Decide.{dec_lt}
use native.Mathlib.Omega.{arith}
use borrow.Author.Tests.{lt-ltb, le-ltb}
use Rattle.lists.specs.Choice.{pick, neither}

unfoldable pub any_below : (t : ℕ → Bool) → (n : ℕ) → Bool
any_below t zero = false
any_below t (suc n) = any_below t n || t n

-- n where none passes
unfoldable pub first_below : (t : ℕ → Bool) → (n : ℕ) → ℕ
first_below t zero = zero
first_below t (suc n) = pick (ltb (first_below t n) n) (first_below t n) (pick (t n) n (suc n))

or-true : (s : Bool) → (s || true) ≡ true
or-true true = refl
or-true false = refl

or-false : (s : Bool) → (s || false) ≡ s
or-false true = refl
or-false false = refl

module _ (t : ℕ → Bool) where
  pub any_none : (n : ℕ) → ((i : ℕ) → i < n → t i ≡ false) → any_below t n ≡ false
  unfolding any_below
  any_none zero h = refl
  any_none (suc n) h = rw (any_none n (λ i l. h i (omega arith)), h n (omega arith))

  pub any_some : (n i : ℕ) → i < n → t i ≡ true → any_below t n ≡ true
  unfolding any_below
  any_some zero i l e = absurd (omega arith)
  any_some (suc n) i l e = ⊎_elim last (λ k. rw (any_some n i k e)) (eq-or-lt_of_le (le_of_suc-le-suc l))
    where
      last : i ≡ n → (any_below t n || t n) ≡ true
      last q = rw (← q, e) (or-true (any_below t i))

  pub none_of : (n : ℕ) → any_below t n ≡ false → (i : ℕ) → i < n → t i ≡ false
  unfolding any_below
  none_of zero e i l = absurd (omega arith)
  none_of (suc n) e i l =
      let q = neither (any_below t n) (t n) e in
      ⊎_elim (λ k. rw k q.1) (none_of n q.0 i) (eq-or-lt_of_le (le_of_suc-le-suc l))

  -- one number more
  abbrev next : (n k : ℕ) → Bool → ℕ
  next n k u = pick (ltb k n) k (pick u n (suc n))

  pub first-le : (n : ℕ) → first_below t n ≤ n
  unfolding first_below
  first-le zero = omega arith
  first-le (suc n) = go (first_below t n) (dec_lt (first_below t n) n) (t n)
    where
      go : (k : ℕ) → Dec (k < n) → (u : Bool) → next n k u ≤ suc n
      go k (yes l) u = rw (lt-ltb k n l) (omega (arith, l))
      go k (no f) true = rw (le-ltb k n (omega (arith, f))) (omega arith)
      go k (no f) false = rw (le-ltb k n (omega (arith, f))) (omega arith)

  pub first-none : (n : ℕ) → ((i : ℕ) → i < n → t i ≡ false) → first_below t n ≡ n
  unfolding first_below
  first-none zero h = refl
  first-none (suc n) h = rw (first-none n (λ i l. h i (omega arith)), le-ltb n n (omega arith), h n (omega arith))

  pub first-at : (n k : ℕ) → k < n → t k ≡ true → ((i : ℕ) → i < k → t i ≡ false) → first_below t n ≡ k
  unfolding first_below
  first-at zero k l e h = absurd (omega arith)
  first-at (suc n) k l e h = go (λ m. first-at n k m e h) (dec_lt k n)
    where
      go : (k < n → first_below t n ≡ k) → Dec (k < n) → next n (first_below t n) (t n) ≡ k
      go before (yes m) = rw (before m, lt-ltb k n m)
      go before (no f) =
          let q : n ≡ k = omega (arith, l, f) in
          rw (q, first-none k h, le-ltb k k (omega arith), e)

  pub first-not : (n : ℕ) → first_below t n ≡ n → (i : ℕ) → i < n → t i ≡ false
  unfolding first_below
  first-not zero e i l = absurd (omega arith)
  first-not (suc n) e i l = go (first_below t n) (dec_lt (first_below t n) n) (t n) refl e (λ q. first-not n q i) (first-le n)
    where
      go : (k : ℕ) → Dec (k < n) → (u : Bool) → t n ≡ u → next n k u ≡ suc n → (k ≡ n → i < n → t i ≡ false) → k ≤ n → t i ≡ false
      go k (yes m) u q e before h = absurd (let z : k ≡ suc n = rw (lt-ltb k n m) at e in omega (arith, z, m))
      go k (no f) true q e before h = absurd (let z : n ≡ suc n = rw (le-ltb k n (omega (arith, f))) at e in omega (arith, z))
      go k (no f) false q e before h = at (dec_lt i n)
        where
          at : Dec (i < n) → t i ≡ false
          at (yes m) = before (omega (arith, f, h)) m
          at (no g) = let z : i ≡ n = omega (arith, l, g) in rw z q

  pub first-is : (n : ℕ) → first_below t n < n → (t (first_below t n) ≡ true) × ((i : ℕ) → i < first_below t n → t i ≡ false)
  unfolding first_below
  first-is zero l = absurd (omega arith)
  first-is (suc n) l = go (first_below t n) (dec_lt (first_below t n) n) (t n) refl l (first-is n) (first-not n) (first-le n)
    where
      go : (k : ℕ) → Dec (k < n) → (u : Bool) → t n ≡ u → next n k u < suc n → (k < n → (t k ≡ true) × ((i : ℕ) → i < k → t i ≡ false)) → (k ≡ n → (i : ℕ) → i < n → t i ≡ false) → k ≤ n
          → (t (next n k u) ≡ true) × ((i : ℕ) → i < next n k u → t i ≡ false)
      go k (yes m) u q l before none h = rw (lt-ltb k n m) (before m)
      go k (no f) true q l before none h = rw (le-ltb k n (omega (arith, f))) (q, none (omega (arith, f, h)))
      go k (no f) false q l before none h = absurd (let z : suc n < suc n = rw (le-ltb k n (omega (arith, f))) at l in omega (arith, z))

-- one number more
module _ (t : ℕ → Bool) (n : ℕ) where
  pub first-lt : any_below t n ≡ true → first_below t n < n
  first-lt e = go (dec_lt (first_below t n) n)
    where
      go : Dec (first_below t n < n) → first_below t n < n
      go (yes l) = l
      go (no f) = absurd (true≢false (sym e ∙ any_none t n (first-not t n (omega (arith, f, first-le t n)))))

  pub first-kept : any_below t n ≡ true → first_below t (suc n) ≡ first_below t n
  unfolding first_below
  first-kept e = rw (lt-ltb (first_below t n) n (first-lt e))

  pub first-new : any_below t n ≡ false → t n ≡ true → first_below t (suc n) ≡ n
  first-new e q = first-at t (suc n) n (omega arith) q (none_of t n e)

-- tests that agree
pub same-any : (t u : ℕ → Bool) (n : ℕ) → ((i : ℕ) → i < n → t i ≡ u i) → any_below t n ≡ any_below u n
unfolding any_below
same-any t u zero h = refl
same-any t u (suc n) h = ap₂ (λ (x y : Bool). x || y) (same-any t u n (λ i l. h i (omega arith))) (h n (omega arith))

pub same_first : (t u : ℕ → Bool) (n : ℕ) → ((i : ℕ) → i < n → t i ≡ u i) → first_below t n ≡ first_below u n
unfolding first_below
same_first t u zero h = refl
same_first t u (suc n) h =
    ap₂ (λ (k : ℕ) (x : Bool). pick (ltb k n) k (pick x n (suc n))) (same_first t u n (λ i l. h i (omega arith))) (h n (omega arith))

-- n times k numbers, one after the other
added : (t : ℕ → Bool) (m k : ℕ) → any_below t (m + k) ≡ (any_below t m || any_below (λ i. t (m + i)) k)
unfolding any_below
added t m zero = ap (any_below t) (add-zero m) ∙ sym (or-false (any_below t m))
added t m (suc k) =
    let e : m + suc k ≡ suc (m + k) = omega arith in
    rw e (ap (λ (x : Bool). x || t (m + k)) (added t m k) ∙ or_assoc (any_below t m) (any_below (λ i. t (m + i)) k) (t (m + k)))
  where
    or_assoc : (x y z : Bool) → ((x || y) || z) ≡ (x || (y || z))
    or_assoc true y z = refl
    or_assoc false y z = refl

pub any-all : (t : ℕ → Bool) (k n : ℕ) → any_below (λ r. any_below (λ i. t (r * k + i)) k) n ≡ any_below t (n * k)
unfolding any_below
any-all t k zero = ap (any_below t) (sym (zero-mul k))
any-all t k (suc n) = ap (λ (x : Bool). x || any_below (λ i. t (n * k + i)) k) (any-all t k n) ∙ sym (added t (n * k) k) ∙ ap (any_below t) (sym (suc-mul n k))
