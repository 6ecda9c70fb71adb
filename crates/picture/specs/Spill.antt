-- Stretches put end to end into a buffer, where all but the last may be stored with some bytes too many: the next stretch is stored over them. Assumes nothing.
--     Spilling                                the loop's invariant, which says nothing of the stretch after the last one stored
--     spill-begins, spill-turn, spill-ends    the loop's proof, where every stretch is d long, and at most twice that is stored
use Rattle.std.specs.Prelude.{◌≡◌, refl, ℕ, ◌+◌, ◌*◌, ◌-◌, ◌≤◌, ◌<◌, length, take, drop}
use Rattle.std.proofs.Common.{sym, ap, ◌∙◌, zero-mul, add-mul, one-mul, arith, length-append, length-take, length-drop, take-append-drop, take_at, drop-drop}
use mathlib.Core.List.{List, ◌++◌, append_assoc, append-nil}
use Rattle.std.proofs.Math.Nat.{sub-zero}
use Rattle.std.proofs.Math.Seq.{drop-append-add}
use Rattle.lists.specs.Fill.{lent}
use Rattle.lists.specs.Join.{joined, join_more, stretch-inside}

-- out, of which the first k are done, becomes final when rest is put at k and what stood from e on (in out₀) stays
pub record Spilling (final out₀ : List ℕ) (e : ℕ) (out : List ℕ) (k d : ℕ) (rest : List ℕ) : Type 0 where
  pub goes : final ≡ take k out ++ (rest ++ drop e out₀)
  pub left : drop (k + d) out ≡ drop (k + d) out₀
  pub same : length out ≡ length out₀

-- x is stored at k, of which the first d are p
module _ (out p x : List ℕ) (k d w : ℕ) (front : take d x ≡ p) (long : length x ≡ w) (least : d ≤ w) (most : w ≤ d + d) (room : k + (d + d) ≤ length out) where
  abbrev after : List ℕ
  after = take k out ++ (x ++ drop (k + w) out)

  done : take (k + d) after ≡ take k out ++ p
  done =
      let whole : after ≡ (take k out ++ p) ++ (drop d x ++ drop (k + w) out) =
      rw (append_assoc, ← append_assoc p (drop d x) (drop (k + w) out), ← front, take-append-drop d x) in
      let n : length (take k out ++ p) ≡ k + d = rw (← front) (simp (length-append, length-take) (omega (arith, long))) in
      rw whole (take_at (take k out ++ p) (drop d x ++ drop (k + w) out) (k + d) n)

  untouched : drop (k + d + d) after ≡ drop (k + d + d) out
  untouched =
      let whole : after ≡ (take k out ++ x) ++ drop (k + w) out = sym (append_assoc (take k out) x (drop (k + w) out)) in
      let n : length (take k out ++ x) ≡ k + w = simp (length-append, length-take) (omega (arith, long)) in
      let m : k + d + d ≡ length (take k out ++ x) + (d + d - w) = omega (arith, n) in
      let t : k + w + (d + d - w) ≡ k + d + d = omega arith in
      ap (λ (i : ℕ). drop i after) m
      ∙ rw whole (drop-append-add (take k out ++ x) (drop (k + w) out) (d + d - w))
      ∙ drop-drop (d + d - w) (k + w) out
      ∙ ap (λ (i : ℕ). drop i out) t

  spill-part : {final out₀ rest : List ℕ} {e : ℕ} → Spilling final out₀ e out k d (p ++ rest) → Spilling final out₀ e after (k + d) d rest
  spill-part {out₀ = out₀} g = record {
    goes = g.goes ∙ rw done (simp append_assoc);
    left = untouched ∙ (sym (drop-drop d (k + d) out) ∙ ap (drop d) g.left ∙ drop-drop d (k + d) out₀);
    same = simp (length-append, length-take, length-drop) (omega (arith, g.same, long));
  }

module _ (f : ℕ → List ℕ) (d : ℕ) (each : (c : ℕ) → length (f c) ≡ d) where
  nothing : (c : ℕ) → f c ++ joined (c + 1) 0 f ≡ f c
  unfolding joined
  nothing c = append-nil (f c)

  pub spill-begins : (out : List ℕ) (n : ℕ) → Spilling (joined 0 n f ++ drop (n * d) out) out (n * d) out (0 * d) d (joined 0 (n - 0) f)
  spill-begins out n = rw (sub-zero, zero-mul) (record { goes = refl; left = refl; same = refl })

  pub spill-turn : {final out₀ out : List ℕ} (ys x : List ℕ) (c n w : ℕ) → Spilling final out₀ (n * d) out (c * d) d (joined c (n - c) f)
      → c + 1 < n → n * d ≤ length out₀ → take d x ≡ f c → length x ≡ w → d ≤ w → w ≤ d + d → ys ≡ x ++ drop w (take (length out - c * d) (drop (c * d) out))
      → Spilling final out₀ (n * d) (take (c * d) out ++ (ys ++ drop (length out - c * d) (drop (c * d) out))) ((c + 1) * d) d (joined (c + 1) (n - (c + 1)) f)
  spill-turn {out = out} ys x c n w g h l front long least most q =
      let next : (c + 1) * d ≡ c * d + d = omega (arith, add-mul c 1 d, one-mul d) in
      let room : c * d + (d + d) ≤ length out = omega (arith, g.same, next, stretch-inside (c + 1) n d _ h l) in
      rw (lent out ys x (c * d) w (omega (arith, room)) q, next) (spill-part out (f c) x (c * d) d w front long least most room (rw (join_more f d each c n (omega arith)) at g))

  pub spill-ends : {final out₀ out : List ℕ} (ys : List ℕ) (c n : ℕ) → Spilling final out₀ (n * d) out (c * d) d (joined c (n - c) f)
      → n ≡ c + 1 → n * d ≤ length out₀ → ys ≡ f c ++ drop d (take (length out - c * d) (drop (c * d) out))
      → take (c * d) out ++ (ys ++ drop (length out - c * d) (drop (c * d) out)) ≡ final
  spill-ends {out₀ = out₀} {out = out} ys c n g e l q =
      let next : c * d + d ≡ n * d = omega (arith, add-mul c 1 d, one-mul d, ap (λ (i : ℕ). i * d) e) in
      let none : n - (c + 1) ≡ 0 = omega (arith, e) in
      let one : joined c (n - c) f ≡ f c = join_more f d each c n (omega (arith, e)) ∙ rw none (nothing c) in
      lent out ys (f c) (c * d) d (omega (arith, g.same, next)) q
      ∙ rw (g.left, next) (sym (rw one at g.goes))
