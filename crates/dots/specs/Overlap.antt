-- A store of a number's lowest bytes, and two of them that overlap. Assumes nothing.
use Rattle.std.specs.Prelude.{◌≡◌, refl, List, ◌∷◌, ◌++◌, ℕ, zero, suc, ◌+◌, ◌*◌, ◌/◌, ◌%◌, ◌^◌, ◌-◌, ◌≤◌, length, take, drop}
use Rattle.std.proofs.Common.{sym, ap, ◌∙◌, append_assoc, div-one, mul_comm, pow-suc, not-suc-le-zero, le_of_suc-le-suc, zero-add, suc-add, arith, length-append, length-drop, drop-drop}
use Rattle.std.proofs.Math.Nat.{div-div-eq-div-mul}
use Rattle.std.proofs.lemmas.List.{take-append-le}
use Rattle.std.proofs.Math.Seq.{drop-append-add}
use Rattle.std.specs.Int.{w64, to_le_bytes}
use Rattle.lists.specs.Fill.{lent}
use Rattle.dots.specs.Stores.{bytes_of, overlap_of}

pub length-bytes : (n v : ℕ) → length (bytes_of n v) ≡ n
unfolding bytes_of
length-bytes zero v = refl
length-bytes (suc n) v = ap suc (length-bytes n (v / 256))

-- the first n, then the last n into a part that was lent
pub overlapped : (n d a z : ℕ) (o o1 ys : List ℕ) → n ≤ d → d ≤ n + n → d ≤ length o → o1 ≡ bytes_of n a ++ drop n o
    → ys ≡ bytes_of n z ++ drop n (take (length o1 - (d - n)) (drop (d - n) o1))
    → take (d - n) o1 ++ (ys ++ drop (length o1 - (d - n)) (drop (d - n) o1)) ≡ overlap_of n d a z ++ drop d o
unfolding overlap_of
overlapped n d a z o o1 ys h m r p q =
    let e : ℕ = d - n in
    let k : length (bytes_of n a) ≡ n = length-bytes n a in
    let l : length o1 ≡ length o = ap length p ∙ simp (length-append, length-drop, length-bytes) (omega arith) in
    let s : e + n ≡ n + e = omega arith in
    let t : n + e ≡ d = omega arith in
    let back : drop (n + e) o1 ≡ drop d o =
    (rw p (ap (λ (i : ℕ). drop (i + e) (bytes_of n a ++ drop n o)) (sym k)) ∙ drop-append-add (bytes_of n a) (drop n o) e ∙ drop-drop e n o ∙ ap (λ (i : ℕ). drop i o) t) in
    let front : take e o1 ≡ take e (bytes_of n a) = rw p (take-append-le e (bytes_of n a) (drop n o) (omega (arith, k))) in
    lent o1 ys (bytes_of n z) e n (omega (arith, l)) q
    ∙ rw (s, back, front) (sym (append_assoc (take e (bytes_of n a)) (bytes_of n z) (drop d o)))

-- fewer bytes, and bytes from a place on
take-bytes : (e n v : ℕ) → e ≤ n → take e (bytes_of n v) ≡ bytes_of e v
unfolding bytes_of
take-bytes zero n v h = refl
take-bytes (suc e) zero v h = absurd (not-suc-le-zero h)
take-bytes (suc e) (suc n) v h = ap (λ (l : List ℕ). (v % 256) ∷ l) (take-bytes e n (v / 256) (le_of_suc-le-suc h))

add-bytes : (e n v : ℕ) → bytes_of e v ++ bytes_of n (v / 256 ^ e) ≡ bytes_of (e + n) v
unfolding bytes_of
add-bytes zero n v = rw (zero-add, div-one)
add-bytes (suc e) n v =
    let k : v / 256 ^ suc e ≡ v / 256 / 256 ^ e = rw (pow-suc 256 e, mul_comm (256 ^ e) 256) (sym (div-div-eq-div-mul v 256 (256 ^ e))) in
    rw (k, suc-add e n) (ap (λ (l : List ℕ). (v % 256) ∷ l) (add-bytes e n (v / 256)))

-- the lowest n bytes of eight
eight : (v : ℕ) → to_le_bytes w64 v ≡ bytes_of 8 v
unfolding bytes_of
eight v =
    let y2 : v / 65536 ≡ v / 256 / 256 = omega arith in
    let y3 : v / 16777216 ≡ v / 256 / 256 / 256 = omega arith in
    let y4 : v / 4294967296 ≡ v / 256 / 256 / 256 / 256 = omega arith in
    let y5 : v / 1099511627776 ≡ v / 256 / 256 / 256 / 256 / 256 = omega arith in
    let y6 : v / 281474976710656 ≡ v / 256 / 256 / 256 / 256 / 256 / 256 = omega arith in
    let y7 : v / 72057594037927936 ≡ v / 256 / 256 / 256 / 256 / 256 / 256 / 256 = omega arith in
    rw (y7, y6, y5, y4, y3, y2)

pub low-bytes : (n v : ℕ) → n ≤ 8 → take n (to_le_bytes w64 v) ≡ bytes_of n v
low-bytes n v h = rw (eight v) (take-bytes n 8 v h)

pub overlap-bytes : (n d v : ℕ) → n ≤ d → d ≤ n + n → overlap_of n d v (v / 256 ^ (d - n)) ≡ bytes_of d v
unfolding overlap_of
overlap-bytes n d v l m =
    let k : d - n + n ≡ d = omega arith in
    rw (take-bytes (d - n) n v (omega arith)) (add-bytes (d - n) n v ∙ ap (λ (i : ℕ). bytes_of i v) k)

bytes_pow : (e : ℕ) → 2 ^ (8 * e) ≡ 256 ^ e
bytes_pow zero = refl
bytes_pow (suc e) =
    let k : 8 * suc e ≡ suc (suc (suc (suc (suc (suc (suc (suc (8 * e)))))))) = omega arith in
    rw k (simp pow-suc (omega (arith, bytes_pow e)))

-- the first four, then the last four of a number's bytes
pub narrowed : (d v : ℕ) (out rest : List ℕ) → 4 ≤ d → d ≤ 8 → out ≡ overlap_of 4 d v (v / 2 ^ (8 * (d - 4))) ++ rest → out ≡ bytes_of d v ++ rest
narrowed d v out rest l m o =
    o ∙ ap (λ (x : List ℕ). x ++ rest) (ap (λ (i : ℕ). overlap_of 4 d v (v / i)) (bytes_pow (d - 4)) ∙ overlap-bytes 4 d v l m)
