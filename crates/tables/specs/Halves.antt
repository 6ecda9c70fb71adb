-- A scan line's table by mark is two halves, without the cursor's address and with it, and so is the one by sign: codes in character mode, then in graphics mode. Assumes nothing.
use Rattle.std.specs.Prelude.{◌≡◌, true, false, List, [], ◌∷◌, ◌++◌, ℕ, zero, suc, ◌+◌, ◌%◌, ◌-◌, ◌≤◌, ◌<◌, length, take, drop, refl, Bool, ltb, ◌*◌}
use Rattle.std.proofs.Math.Path.{sym, ap}
use Rattle.std.proofs.Common.{ap₂, ◌∙◌, append_assoc, append-nil, add-zero, le-leb, length-append, length-drop, take_at, drop-drop, lt-ltb, drop_at}
use native.Mathlib.Omega.{arith}
use borrow.Author.Tests.{lt-leb}
use Rattle.std.proofs.Math.Seq.{drop-append-add}
use Rattle.lists.specs.Fill.{lent}
use Rattle.lists.specs.Tab.{tab, length-tab, same-tab}
use Rattle.shape.specs.declared.FontLine.{FontLine}
use Rattle.video.specs.declared.Scene.{Scene}
use lib.ListN.{replicate}
use Rattle.lists.specs.Choice.{pick}
use Rattle.shape.specs.Font.{word_by}
use Rattle.dots.specs.Stores.{wide_of}
use Rattle.tables.specs.Tables.{levels_for, levels_of, code_word, shown_word}
use Rattle.tables.specs.Marks.{mark-look}

split : (m n : ℕ) (f : ℕ → ℕ) → tab m f ++ tab n (λ i. f (m + i)) ≡ tab (m + n) f
unfolding tab
split m zero f = append-nil (tab m f) ∙ ap (λ (k : ℕ). tab k f) (sym (add-zero m))
split m (suc n) f =
    let e : m + suc n ≡ suc (m + n) = omega arith in
    rw e (sym (append_assoc (tab m f) (tab n (λ i. f (m + i))) (f (m + n) ∷ [])) ∙ ap (λ (l : List ℕ). l ++ (f (m + n) ∷ [])) (split m n f))

-- a table in two halves, of which the second is put into a part that was lent
module _ (m : ℕ) (f g h : ℕ → ℕ) (first : (i : ℕ) → i < m → f i ≡ h i) (second : (i : ℕ) → i < m → g i ≡ h (m + i)) where
  whole : tab m f ++ tab m g ≡ tab (m + m) h
  whole = ap₂ (λ (a b : List ℕ). a ++ b) (same-tab m _ _ first) (same-tab m _ (λ i. h (m + i)) second) ∙ split m m h

  both : (t t1 ys : List ℕ) → m + m ≤ length t → t1 ≡ tab m f ++ drop m t → ys ≡ tab m g ++ drop m (take (length t1 - m) (drop m t1))
      → take m t1 ++ (ys ++ drop (length t1 - m) (drop m t1)) ≡ tab (m + m) h ++ drop (m + m) t
  both t t1 ys room p q =
      let a : List ℕ = tab m f in
      let b : List ℕ = tab m g in
      let k : length a ≡ m = length-tab m f in
      let same : length t1 ≡ length t = ap length p ∙ simp (length-append, length-drop, length-tab) (omega arith) in
      let front : take m t1 ≡ a = rw p (take_at a (drop m t) m k) in
      let back : drop (m + m) t1 ≡ drop (m + m) t = (rw p (ap (λ (i : ℕ). drop (i + m) (a ++ drop m t)) (sym k)) ∙ drop-append-add a (drop m t) m ∙ drop-drop m m t) in
      lent t1 ys b m m (omega (arith, same)) q
      ∙ rw (front, back) (sym (append_assoc a b (drop (m + m) t)) ∙ ap (λ (l : List ℕ). l ++ drop (m + m) t) whole)

module _ (s : Scene) where
  away : (i : ℕ) → i < 64 → levels_for s false i ≡ levels_of s i
  unfolding levels_for
  away i h =
      let e : i % 64 + 0 ≡ i = omega arith in
      sym (mark-look s i false) ∙ ap (levels_of s) e

  at : (i : ℕ) → i < 64 → levels_for s true i ≡ levels_of s (64 + i)
  unfolding levels_for
  at i h =
      let e : i % 64 + 64 ≡ 64 + i = omega arith in
      sym (mark-look s i true) ∙ ap (levels_of s) e

  pub halves : (t t1 ys : List ℕ) → 128 ≤ length t → t1 ≡ tab 64 (levels_for s false) ++ drop 64 t
      → ys ≡ tab 64 (levels_for s true) ++ drop 64 (take (length t1 - 64) (drop 64 t1))
      → take 64 t1 ++ (ys ++ drop (length t1 - 64) (drop 64 t1)) ≡ tab 128 (levels_of s) ++ drop 128 t
  halves = both 64 (levels_for s false) (levels_for s true) (levels_of s) away at

no_bits : (t : Bool) → 0 ≡ pick t (2 * 0) 0
no_bits true = refl
no_bits false = refl

zeros : replicate 128 0 ≡ tab 128 (λ i. 0)
unfolding tab
zeros = refl

-- a scan line's table by sign: the codes in character mode, then in graphics mode
module _ (words flags : List ℕ) (line : FontLine) (d : ℕ) where
  plain : (i : ℕ) → i < 256 → code_word words flags line false d i ≡ shown_word words flags line d i
  unfolding shown_word
  plain i h =
      let code : i % 256 ≡ i = omega arith in
      rw (lt-leb 256 i h, code)

  paired : (i : ℕ) → i < 256 → code_word words flags line true d i ≡ shown_word words flags line d (256 + i)
  unfolding shown_word
  paired i h =
      let code : (256 + i) % 256 ≡ i = omega arith in
      rw (le-leb 256 (256 + i) (omega arith), code)

  -- the codes below 128 show nothing
  unshown : (i : ℕ) → i < 128 → 0 ≡ code_word words flags line false d i
  unfolding word_by wide_of
  unshown i h = rw (lt-ltb i 128 h) (no_bits (ltb 10 d))

  module _ (t lows : List ℕ) (room : 256 ≤ length t) (e : lows ≡ replicate 128 0) where
    abbrev low : List ℕ
    low = tab 128 (code_word words flags line false d)

    filled : lows ++ drop 128 t ≡ low ++ drop 128 t
    filled = ap (λ (l : List ℕ). l ++ drop 128 t) (e ∙ zeros ∙ same-tab 128 _ _ unshown)

    pub begun : lows ++ drop 128 t ≡ low ++ drop 128 (lows ++ drop 128 t)
    begun =
        let back : drop 128 (lows ++ drop 128 t) ≡ drop 128 t = rw filled (drop_at low (drop 128 t) 128 (length-tab 128 _)) in
        filled ∙ ap (λ (l : List ℕ). low ++ l) (sym back)

    pub ended : drop 256 (lows ++ drop 128 t) ≡ drop 256 t
    ended =
        let k : length low ≡ 128 = length-tab 128 _ in
        rw filled (ap (λ (i : ℕ). drop (i + 128) (low ++ drop 128 t)) (sym k)) ∙ drop-append-add low (drop 128 t) 128 ∙ drop-drop 128 128 t

  pub signs : (t t1 ys : List ℕ) → 512 ≤ length t → t1 ≡ tab 256 (code_word words flags line false d) ++ drop 256 t
      → ys ≡ tab 256 (code_word words flags line true d) ++ drop 256 (take (length t1 - 256) (drop 256 t1))
      → take 256 t1 ++ (ys ++ drop (length t1 - 256) (drop 256 t1)) ≡ tab 512 (shown_word words flags line d) ++ drop 512 t
  signs = both 256 (code_word words flags line false d) (code_word words flags line true d) (shown_word words flags line d) plain paired
