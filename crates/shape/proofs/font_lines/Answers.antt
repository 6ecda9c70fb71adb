-- The closure is called for each scan line and stays as it is, so the array has its answers.
use Prim.Native.Nat.{ℕ, zero, suc, ◌<◌, ◌+◌}
use mathlib.Core.Path.{◌≡◌, ◌∙◌, ap, subst}
use mathlib.Core.List.{List}
use native.Mathlib.Nat.{add-zero, zero-add}
use lib.ListN.{get_or}
use denote.Param.Members.{Mut, Called}
use Rattle.std.specs.Array.{IsFromFnResultFrom}
use Rattle.std.proofs.Common.{rules, arith}
use Rattle.std.proofs.lemmas.List.FromFn.{fill_by_all}
use Rattle.shape.specs.declared.FontLine.{FontLine}
use Rattle.shape.specs.Font.{font_line_of, font_lines_of}
use Rattle.shape.proofs.font_lines.Goals as goal

module _ {F B : Type 0} (g : Mut F (ℕ × Unit {0}) B) (f : F) (v : ℕ → B) (calls : (i : ℕ) (y : B) (q : F) → Called g f (i, tt) y q → (q ≡ f) × (y ≡ v i)) where
  made : (n i : ℕ) (ys : List B) (d : B) → IsFromFnResultFrom g f ys i n → (k : ℕ) → k < n → get_or ys (i + k) d ≡ v (i + k)
  made zero i ys d h k l = absurd (omega arith)
  made (suc n) i ys d h zero l = rw add-zero (h.2.1 d ∙ (calls i h.1 h.0 h.3).1)
  made (suc n) i ys d h (suc k) l =
      let e : i + suc k ≡ (i + 1) + k = omega arith in
      rw e (made n (i + 1) ys d (subst (λ (q : F). IsFromFnResultFrom g q ys (i + 1) n) (calls i h.1 h.0 h.3).0 h.4) k (omega arith))

pub returns : goal.returns
unfolding font_lines_of
returns c =
    let a = c.args in
    let line = font_line_of a.unshifted.now a.shifted.now a.groups.now in
    let none : FontLine = record { unshifted = 0; shifted = 0; group = 0 } in
    let each : (k : ℕ) → k < 16 → get_or c.from_fn.result (0 + k) none ≡ line (0 + k) =
    made _ (record { 0 = a.unshifted; 1 = a.shifted; 2 = a.groups }) line (λ i y q h. search rules) 16 0 c.from_fn.result none c.from_fn.ensures.items.each in
    ap (λ (xs : List FontLine). record { each = xs }) (fill_by_all line c.from_fn.result 16 none c.from_fn.ensures.items.long (λ k l. rw zero-add at (each k l)))
