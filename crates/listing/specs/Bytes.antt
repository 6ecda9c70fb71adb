-- Bytes at the front of a buffer, and a loop that turns each where it stands. Assumes nothing.
--     copied, ended     p was copied to the front; the byte after it was stored
--     two-parts         p was put at the front, and q into the part lent after it
--     length-lent       a buffer whose end was lent is as long as before
--     Turning           the loop's invariant: those from i on are still to be turned
use Rattle.std.specs.Prelude.{ℕ, suc, ◌+◌, ◌-◌, ◌≤◌, ◌<◌, ◌≡◌, List, [], ◌∷◌, ◌++◌, map, length, get_or, take, drop, set}
use Rattle.std.proofs.Common.{sym, ◌∙◌, append-nil, append_assoc, add-one, arith, length-append, length-take, length-drop, take_all, drop-cons, take_at, drop_at, drop-drop}
use Rattle.std.proofs.Math.Seq.{drop-length, append_snoc}
use Rattle.std.proofs.lemmas.List.{set_at}
use Rattle.lists.specs.Fill.{Filling, fill_start, fill_one, fill_end, lent}

pub copied : (out x p : List ℕ) (n : ℕ) → x ≡ take (length p) p ++ drop (length p) out → length p ≡ n → x ≡ p ++ drop n out
copied out x p n e l = e ∙ rw (take_all (length p) p (omega arith), l)

pub ended : (out x p : List ℕ) (v n : ℕ) → x ≡ p ++ drop n out → length p ≡ n → n < length out
    → set x n v ≡ (p ++ (v ∷ [])) ++ drop (n + 1) out
ended out x p v n e l h =
    rw (e, drop-cons out n 0 h, add-one n) (set_at p _ (drop (suc n) out) v n l ∙ sym (append_snoc p v (drop (suc n) out)))

pub two-parts : (out x y p q : List ℕ) (a d : ℕ) → length p ≡ a → a + d ≤ length out
    → x ≡ p ++ drop a out → y ≡ q ++ drop d (take (length x - a) (drop a x))
    → take a x ++ (y ++ drop (length x - a) (drop a x)) ≡ (p ++ q) ++ drop (a + d) out
two-parts out x y p q a d l h e f =
    lent x y q a d room f
    ∙ rw (e, take_at p (drop a out) a l, ← drop-drop d a (p ++ drop a out), drop_at p (drop a out) a l, drop-drop d a out)
    (sym (append_assoc p q (drop (a + d) out)))
  where
    room : a + d ≤ length x
    room = rw (e, length-append p (drop a out), length-drop a out, l) (omega arith)

-- a buffer whose end was lent, and came back with its length
pub length-lent : (xs ys : List ℕ) (a : ℕ) → a ≤ length xs → length ys ≡ length (take (length xs - a) (drop a xs))
    → length (take a xs ++ (ys ++ drop (length xs - a) (drop a xs))) ≡ length xs
length-lent xs ys a h e = rw (length-append (take a xs) _, length-append ys _, e) (simp (length-take, length-drop) (omega arith))

module _ (g : ℕ → ℕ) (xs : List ℕ) where
  abbrev pub Turning : List ℕ → ℕ → Type 0
  Turning out i = Filling (map g xs) xs (length xs) out i (map g (drop i xs))

  pub turn-begins : Turning xs 0
  turn-begins = rw (drop-length xs, append-nil (map g xs)) at (fill_start xs (length xs) (map g xs))

  pub turn-goes : {out : List ℕ} {i : ℕ} → Turning out i → (v : ℕ) → i < length out → v ≡ g (get_or out i 0) → Turning (set out i v) (i + 1)
  turn-goes {out} {i} f v h e =
      let more : i < length xs = omega (arith, f.same) in
      let same : get_or out i 0 ≡ get_or xs i 0 = cc (drop-cons out i 0 h, drop-cons xs i 0 more, f.left) in
      let next : map g (drop i xs) ≡ v ∷ map g (drop (i + 1) xs) = rw (drop-cons xs i 0 more, add-one i, e, same) in
      fill_one v h (rw next at f)

  pub turn-ends : {out : List ℕ} {i : ℕ} → Turning out i → length xs ≤ i → i ≤ length xs → out ≡ map g xs
  turn-ends {out} {i} f h l = let e : i ≡ length xs = omega arith in fill_end (rw (e, drop-length xs) at f)
