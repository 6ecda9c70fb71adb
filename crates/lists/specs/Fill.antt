-- Filling a lent buffer from the front, towards a list that is fixed from the start. Assumes nothing.
--     Filling       a loop's invariant: what is done, what is still to be put, and that the rest is untouched
--     fill_one      one element was stored
--     fill-part     a part was lent to a call and came back filled at its front
--     lent          what `&mut xs[a..]` leaves of the whole, in the form that `fill-part` takes
use Rattle.std.specs.Prelude.{◌≡◌, refl, List, [], ◌∷◌, ◌++◌, ℕ, ◌+◌, ◌-◌, ◌≤◌, ◌<◌, length, take, drop, set}
use Rattle.std.proofs.Common.{sym, ap, ◌∙◌, append_assoc, append-nil, add-one, arith, length-append, length-take, length-drop, length-set, take-append-drop, drop_of_length-le, take-suc-set, drop-set-lt, drop-drop, take_at, drop_at, take_all}

-- out, of which the first k are done, becomes final when rest is put at k and what stood from e on (in out₀) stays
pub record Filling (final out₀ : List ℕ) (e : ℕ) (out : List ℕ) (k : ℕ) (rest : List ℕ) : Type 0 where
  pub goes : final ≡ take k out ++ (rest ++ drop e out₀)
  pub left : drop k out ≡ drop k out₀
  pub same : length out ≡ length out₀

pub fill_start : (out₀ : List ℕ) (e : ℕ) (rest : List ℕ) → Filling (rest ++ drop e out₀) out₀ e out₀ 0 rest
fill_start out₀ e rest = record { goes = refl; left = refl; same = refl }

pub fill_end : {final out₀ out : List ℕ} {e : ℕ} → Filling final out₀ e out e [] → out ≡ final
fill_end {final} {out₀} {out} {e} f = sym (f.goes ∙ rw (← f.left) (take-append-drop e out))

module _ {final out₀ : List ℕ} {e : ℕ} {out : List ℕ} {k : ℕ} {rest : List ℕ} where
  -- one element
  pub fill_one : (v : ℕ) → k < length out → Filling final out₀ e out k (v ∷ rest) → Filling final out₀ e (set out k v) (k + 1) rest
  fill_one v h f = record {
    goes = f.goes ∙ rw (add-one, take-suc-set out k v, append_assoc);
    left = drop-set-lt (k + 1) out k v (omega arith) ∙ (sym (drop-drop 1 k out) ∙ (ap (λ (l : List ℕ). drop 1 l) f.left ∙ drop-drop 1 k out₀));
    same = length-set out k v ∙ f.same;
  }

  -- a part p, as it stands after the part from k on was lent and came back
  pub fill-part : (p : List ℕ) (d : ℕ) → length p ≡ d → k + d ≤ length out → Filling final out₀ e out k (p ++ rest)
      → Filling final out₀ e (take k out ++ (p ++ drop (k + d) out)) (k + d) rest
  fill-part p d n h f =
      let front : length (take k out ++ p) ≡ k + d = simp (length-append, length-take) (omega arith) in
      let whole : take k out ++ (p ++ drop (k + d) out) ≡ (take k out ++ p) ++ drop (k + d) out = sym (append_assoc (take k out) p (drop (k + d) out)) in
      record {
        goes = f.goes ∙ rw (whole, take_at (take k out ++ p) (drop (k + d) out) (k + d) front) (simp append_assoc);
        left = rw (whole, drop_at (take k out ++ p) (drop (k + d) out) (k + d) front) (sym (drop-drop d k out) ∙ (ap (λ (l : List ℕ). drop d l) f.left ∙ drop-drop d k out₀));
        same = simp (length-append, length-take, length-drop) (omega (arith, f.same));
      }

-- what `&mut xs[a..]` lent to a call leaves, where the callee wrote p at its front and left the rest
pub lent : (xs ys p : List ℕ) (a d : ℕ) → a + d ≤ length xs → ys ≡ p ++ drop d (take (length xs - a) (drop a xs))
    → take a xs ++ (ys ++ drop (length xs - a) (drop a xs)) ≡ take a xs ++ (p ++ drop (a + d) xs)
lent xs ys p a d h q =
    rw (q, take_all (length xs - a) (drop a xs) (simp length-drop (omega arith)), drop_of_length-le (drop a xs) {i = length xs - a} (simp length-drop (omega arith)), append-nil, drop-drop)
