-- Stretches put end to end, and the loop that lends each its own part of a buffer. Assumes nothing.
--     joined                 f c, f (c + 1), .., n of them, end to end
--     same-joined            stretches that agree one by one make the same list
--     length-joined          n stretches of d are n * d long
--     join-begins, join-turn, join-ends     the loop's proof, where every stretch is d long: what is left after c turns is `joined c (n - c) f`
--     join_more              the first of what is left
--     stretch-inside         stretch c lies within the buffer
--     join-all               stretches of stretches are stretches
--     join-element           an element of one of them
use Rattle.std.specs.Prelude.{◌≡◌, refl, List, [], ◌++◌, length, take, drop, get_or}
use Rattle.std.proofs.Math.Path.{sym}
use Rattle.std.proofs.Common.{ap, ap₂, ◌∙◌, append_assoc, zero-mul, add-mul, one-mul, mul-le-mul_right, add-zero, zero-add, add-suc, suc-add, not-suc-le-zero, le_of_suc-le-suc, length-append, get_or-append-add}
use Prim.Native.Nat.{ℕ, zero, suc, ◌+◌, ◌*◌, ◌-◌, ◌≤◌, ◌<◌}
use Rattle.std.proofs.Math.Nat.{suc-mul, sub-zero}
use Rattle.std.proofs.Math.Numerals.{add-one}
use native.Mathlib.Omega.{arith}
use Rattle.std.proofs.Math.ListN.{get_or-append}
use Rattle.lists.specs.Fill.{Filling, fill_start, fill-part, fill_end, lent}

unfoldable pub joined : (from n : ℕ) → (ℕ → List ℕ) → List ℕ
joined c zero f = []
joined c (suc n) f = f c ++ joined (suc c) n f

pub same-joined : (c n : ℕ) (f g : ℕ → List ℕ) → ((k : ℕ) → c ≤ k → k < c + n → f k ≡ g k) → joined c n f ≡ joined c n g
unfolding joined
same-joined c zero f g h = refl
same-joined c (suc n) f g h =
    ap₂ (λ (x y : List ℕ). x ++ y) (h c (omega arith) (omega arith))
    (same-joined (suc c) n f g (λ k l u. h k (omega arith) (omega arith)))

pub stretch-inside : (c n d m : ℕ) → c < n → n * d ≤ m → c * d + d ≤ m
stretch-inside c n d m h k =
    let l : c + 1 ≤ n = omega arith in
    omega (arith, add-mul c 1 d, one-mul d, mul-le-mul_right d l)

module _ (f : ℕ → List ℕ) (d : ℕ) (each : (c : ℕ) → length (f c) ≡ d) where
  pub length-joined : (c n : ℕ) → length (joined c n f) ≡ n * d
  unfolding joined
  length-joined c zero = sym (zero-mul d)
  length-joined c (suc n) =
      rw (length-append (f c) (joined (suc c) n f), each c, length-joined (suc c) n, suc-mul n d) (omega arith)

  pub join_more : (c n : ℕ) → c < n → joined c (n - c) f ≡ f c ++ joined (c + 1) (n - (c + 1)) f
  unfolding joined
  join_more c n h = let e : n - c ≡ suc (n - (c + 1)) = omega arith in rw (e, add-one c)

  none : (c n : ℕ) → n ≤ c → joined c (n - c) f ≡ []
  unfolding joined
  none c n h = let e : n - c ≡ 0 = omega arith in rw e

  pub join-begins : (out : List ℕ) (n : ℕ) → Filling (joined 0 n f ++ drop (n * d) out) out (n * d) out (0 * d) (joined 0 (n - 0) f)
  join-begins out n = rw (sub-zero, zero-mul) (fill_start out (n * d) (joined 0 n f))

  pub join-turn : {final out₀ out : List ℕ} (ys : List ℕ) (c n : ℕ) → Filling final out₀ (n * d) out (c * d) (joined c (n - c) f)
      → c < n → n * d ≤ length out₀ → ys ≡ f c ++ drop d (take (length out - c * d) (drop (c * d) out))
      → Filling final out₀ (n * d) (take (c * d) out ++ (ys ++ drop (length out - c * d) (drop (c * d) out))) ((c + 1) * d) (joined (c + 1) (n - (c + 1)) f)
  join-turn {out = out} ys c n g h l q =
      let room : c * d + d ≤ length out = omega (arith, g.same, stretch-inside c n d _ h l) in
      let next : (c + 1) * d ≡ c * d + d = omega (arith, add-mul c 1 d, one-mul d) in
      rw (lent out ys (f c) (c * d) d room q, next) (fill-part (f c) d (each c) room (rw (join_more c n h) at g))

  pub join-ends : {final out₀ out : List ℕ} (c n : ℕ) → Filling final out₀ (n * d) out (c * d) (joined c (n - c) f) → c ≤ n → n ≤ c → out ≡ final
  join-ends c n g l h = let e : c ≡ n = omega arith in fill_end (rw (none c n h, e) at g)

shifted : (f : ℕ → List ℕ) (a k n : ℕ) → joined k n (λ (s : ℕ). f (a + s)) ≡ joined (a + k) n f
unfolding joined
shifted f a k zero = refl
shifted f a k (suc n) = ap (λ (l : List ℕ). f (a + k) ++ l) (shifted f a (suc k) n ∙ ap (λ (i : ℕ). joined i n f) (add-suc a k))

added : (f : ℕ → List ℕ) (a m n : ℕ) → joined a (m + n) f ≡ joined a m f ++ joined (a + m) n f
unfolding joined
added f a zero n = rw (zero-add, add-zero)
added f a (suc m) n =
    let e : suc a + m ≡ a + suc m = omega arith in
    rw (suc-add m n, append_assoc) (ap (λ (l : List ℕ). f a ++ l) (added f (suc a) m n ∙ ap (λ (i : ℕ). joined (suc a) m f ++ joined i n f) e))

nested : (f : ℕ → List ℕ) (k c n : ℕ) → joined c n (λ (r : ℕ). joined 0 k (λ (s : ℕ). f (r * k + s))) ≡ joined (c * k) (n * k) f
unfolding joined
nested f k c zero = rw zero-mul
nested f k c (suc n) =
    let e : suc c * k ≡ c * k + k = omega (arith, suc-mul c k) in
    let z : suc n * k ≡ k + n * k = omega (arith, suc-mul n k) in
    ap₂ (λ (x t : List ℕ). x ++ t) (shifted f (c * k) 0 k ∙ ap (λ (i : ℕ). joined i k f) (add-zero (c * k))) (nested f k (suc c) n ∙ ap (λ (i : ℕ). joined i (n * k) f) e)
    ∙ sym (rw z (added f (c * k) k (n * k)))

-- n times k stretches are n * k
pub join-all : (f : ℕ → List ℕ) (k n : ℕ) → joined 0 n (λ (r : ℕ). joined 0 k (λ (s : ℕ). f (r * k + s))) ≡ joined 0 (n * k) f
join-all f k n = nested f k 0 n ∙ ap (λ (i : ℕ). joined i (n * k) f) (zero-mul k)

-- element i of stretch s, where every stretch is d long
element : (f : ℕ → List ℕ) (d : ℕ) (each : (c : ℕ) → length (f c) ≡ d) (rest : List ℕ) (n c s i : ℕ) → s < n → i < d
    → get_or (joined c n f ++ rest) (s * d + i) 0 ≡ get_or (f (c + s)) i 0
unfolding joined
element f d each rest zero c s i h l = absurd (not-suc-le-zero h)
element f d each rest (suc n) c zero i h l =
    let e : 0 * d + i ≡ i = omega (arith, zero-mul d) in
    rw (e, append_assoc, add-zero) (get_or-append (f c) (joined (suc c) n f ++ rest) 0 i (rw (each c) l))
element f d each rest (suc n) c (suc s) i h l =
    let e : suc s * d + i ≡ length (f c) + (s * d + i) = omega (arith, suc-mul s d, each c) in
    let k : c + suc s ≡ suc c + s = omega arith in
    rw (e, append_assoc, k) (get_or-append-add (f c) (joined (suc c) n f ++ rest) (s * d + i) 0 ∙ element f d each rest n (suc c) s i (le_of_suc-le-suc h) l)

pub join-element : (f : ℕ → List ℕ) (d : ℕ) (each : (c : ℕ) → length (f c) ≡ d) (xs rest : List ℕ) (n s i : ℕ) → xs ≡ joined 0 n f ++ rest → s < n → i < d
    → get_or xs (s * d + i) 0 ≡ get_or (f s) i 0
join-element f d each xs rest n s i e h l = rw e (element f d each rest n 0 s i h l) ∙ ap (λ (k : ℕ). get_or (f k) i 0) (zero-add s)
