-- Double width (02, R-4): the dots of a column, one by one, from those of its cell. Assumes nothing.
--     half-column       they are the column's
--     columns-doubled   columns end to end are the dots of their cells end to end, each twice
use Prim.Native.Nat.{ℕ, ◌+◌, ◌*◌, ◌/◌, ◌%◌, ◌<◌, ◌≤◌}
use Rattle.std.specs.Prelude.{◌≡◌, Bool, true, false, List, [], ◌++◌, eqb, length, set, drop}
use Rattle.std.proofs.Math.Path.{sym}
use Rattle.std.proofs.Common.{ap, subst, ◌∙◌, append-nil, eq-eqb, ne_eqb, div-lt_iff_lt-mul, div-add-mod', mod-lt, add-mul, one-mul, take_all}
use native.Mathlib.Omega.{arith}
use Rattle.std.proofs.Math.Decide.{ℕ_discrete}
use Rattle.std.proofs.Math.ListN.{get_or, get_or-append}
use Rattle.std.proofs.Math.Seq.{ext_get_or}
use Rattle.lists.specs.Choice.{pick}
use Rattle.lists.specs.Join.{joined, stretch-inside, length-joined, join-element}
use Rattle.lists.specs.Tab.{tab, length-tab, get_or-tab, same-tab, tab-turn, tab-part}
use Rattle.video.specs.Cell.{column_of}
use Rattle.video.specs.Twice.{length-column, column-at}

-- dot i of a half: the cell's dots, each twice, from a place on
unfoldable pub half_by : (cell : List ℕ) → (from i : ℕ) → ℕ
half_by cell from i = get_or cell ((from + i) / 2) 0

-- d of them at the front of a buffer; what stands beyond stays
abbrev pub halved : (cell : List ℕ) → (from d : ℕ) → (out : List ℕ) → List ℕ
halved cell from d out = tab d (half_by cell from) ++ drop d out

-- a dot put twice, and once at an odd end
module _ (cell out₀ out : List ℕ) (i : ℕ) (e : out ≡ tab (2 * i) (half_by cell 0) ++ drop (2 * i) out₀) where
  pub first-put : 2 * i < length out₀ → set out (2 * i) (get_or cell i 0) ≡ tab (2 * i + 1) (half_by cell 0) ++ drop (2 * i + 1) out₀
  unfolding half_by
  first-put l =
      let h : (0 + 2 * i) / 2 ≡ i = omega arith in
      tab-turn (half_by cell 0) out₀ out (2 * i) e (get_or cell i 0) l (ap (λ (k : ℕ). get_or cell k 0) (sym h))

  pub pair_put : 2 * i + 1 < length out₀ → set (set out (2 * i) (get_or cell i 0)) (2 * i + 1) (get_or cell i 0) ≡ tab (2 * (i + 1)) (half_by cell 0) ++ drop (2 * (i + 1)) out₀
  unfolding half_by
  pair_put l =
      let h : (0 + (2 * i + 1)) / 2 ≡ i = omega arith in
      let n : 2 * (i + 1) ≡ 2 * i + 1 + 1 = omega arith in
      rw n (tab-turn (half_by cell 0) out₀ _ (2 * i + 1) (first-put (omega arith)) (get_or cell i 0) l (ap (λ (k : ℕ). get_or cell k 0) (sym h)))

-- a list is its elements
all_of : (xs : List ℕ) (n : ℕ) → length xs ≡ n → tab n (λ i. get_or xs i 0) ≡ xs
all_of xs n e =
    same-tab n _ (λ i. get_or xs (0 + i) 0) (λ i h. let z : 0 + i ≡ i = omega arith in ap (λ (k : ℕ). get_or xs k 0) (sym z))
    ∙ tab-part xs 0 n (omega (arith, e))
    ∙ take_all n xs (omega (arith, e))

-- of a cell whose dots stand at the front of a buffer
pub half-column : (odd : Bool) (dots rest : List ℕ) (d : ℕ) → length dots ≡ d → tab d (half_by (dots ++ rest) (pick odd d 0)) ≡ column_of true odd dots
unfolding half_by
half-column odd dots rest d e =
    same-tab d _ (λ i. get_or (column_of true odd dots) i 0) each ∙ all_of (column_of true odd dots) d (length-column true odd dots ∙ e)
  where
    few : (t : Bool) (i : ℕ) → i < d → (pick t d 0 + i) / 2 < d
    few true i h = omega arith
    few false i h = omega arith

    each : (i : ℕ) → i < d → get_or (dots ++ rest) ((pick odd d 0 + i) / 2) 0 ≡ get_or (column_of true odd dots) i 0
    each i h =
        get_or-append dots rest 0 ((pick odd d 0 + i) / 2) (rw e (few odd i h))
        ∙ rw (← e) (sym (column-at true odd dots i (rw e h)))

-- ---- a row's columns, from the dots of its cells

-- column c shows a cell, or where the row is of double width a half of one
unfoldable pub shown_of : (wide : Bool) → (cells : ℕ → List ℕ) → (c : ℕ) → List ℕ
shown_of wide f c = column_of wide (eqb (c % 2) 1) (f (pick wide (c / 2) c))

-- so many cells for so many columns
abbrev pub fetched_for : (wide : Bool) → (columns : ℕ) → ℕ
fetched_for wide n = pick wide ((n + 1) / 2) n

pub cells_wide : {wide : Bool} → wide ≡ true → (n : ℕ) → fetched_for wide n ≡ (n + 1) / 2
cells_wide e n = rw e

pub cells-plain : {wide : Bool} → wide ≡ false → (n : ℕ) → fetched_for wide n ≡ n
cells-plain e n = rw e

pub cells_same : {wide of : Bool} → wide ≡ of → (i n : ℕ) → i < fetched_for wide n → i < fetched_for of n
cells_same e i n h = rw e at h

pub cells-few : (wide : Bool) (n : ℕ) → fetched_for wide n ≤ n
cells-few true n = omega arith
cells-few false n = omega arith

shown-in : (wide : Bool) (c n : ℕ) → c < n → pick wide (c / 2) c < fetched_for wide n
shown-in true c n h = omega (arith, h)
shown-in false c n h = h

-- cells that agree one by one make the same columns
pub same-shown : (wide : Bool) (f g : ℕ → List ℕ) (n : ℕ) → ((i : ℕ) → i < fetched_for wide n → f i ≡ g i) → (c : ℕ) → c < n → shown_of wide f c ≡ shown_of wide g c
unfolding shown_of
same-shown wide f g n h c l = ap (column_of wide (eqb (c % 2) 1)) (h (pick wide (c / 2) c) (shown-in wide c n l))

-- where all cells are of one width
module _ (f : ℕ → List ℕ) (d : ℕ) (some : 0 < d) (each : (i : ℕ) → length (f i) ≡ d) where
  pub length-shown : (wide : Bool) (c : ℕ) → length (shown_of wide f c) ≡ d
  unfolding shown_of
  length-shown wide c = length-column wide (eqb (c % 2) 1) (f (pick wide (c / 2) c)) ∙ each (pick wide (c / 2) c)

  -- the place of a dot among the cells' dots, by its column and its place there
  place : (c i : ℕ) → i < d → ((c * d + i) / 2 ≡ c / 2 * d + (pick (eqb (c % 2) 1) d 0 + i) / 2) × ((pick (eqb (c % 2) 1) d 0 + i) / 2 < d)
  place c i h = go (ℕ_discrete (c % 2) 1)
    where
      q : ℕ
      q = c / 2

      go : Dec (c % 2 ≡ 1) → ((c * d + i) / 2 ≡ c / 2 * d + (pick (eqb (c % 2) 1) d 0 + i) / 2) × ((pick (eqb (c % 2) 1) d 0 + i) / 2 < d)
      go (yes o) =
          let e : c ≡ q + q + 1 = omega (arith, o) in
          let t : c * d ≡ q * d + q * d + d = ap (λ (k : ℕ). k * d) e ∙ omega (arith, add-mul (q + q) 1 d, add-mul q q d, one-mul d) in
          rw (eq-eqb (c % 2) 1 o) (omega (arith, t), omega (arith, h))
      go (no f) =
          let e : c ≡ q + q = omega (arith, f) in
          let t : c * d ≡ q * d + q * d = ap (λ (k : ℕ). k * d) e ∙ add-mul q q d in
          rw (ne_eqb (c % 2) 1 f) (omega (arith, t), omega (arith, h))

  -- [R-4 width]
  -- the columns of a row of double width, end to end, are the dots of its cells, each twice
  pub columns-doubled : (n : ℕ) (cells rest : List ℕ) → cells ≡ joined 0 ((n + 1) / 2) f ++ rest → tab (n * d) (half_by cells 0) ≡ joined 0 n (shown_of true f)
  unfolding half_by shown_of
  columns-doubled n cells rest e =
      ext_get_or 0 (tab (n * d) g) (joined 0 n shown) (length-tab (n * d) g ∙ sym (length-joined shown d (length-shown true) 0 n)) same
    where
      g : ℕ → ℕ
      g = half_by cells 0

      shown : ℕ → List ℕ
      shown = shown_of true f

      from-none : (j : ℕ) → (0 + j) / 2 ≡ j / 2
      from-none j = omega arith

      at : (c i : ℕ) → c < n → i < d → get_or (tab (n * d) g) (c * d + i) 0 ≡ get_or (joined 0 n shown) (c * d + i) 0
      at c i h l =
          let k = place c i l in
          let in_row : c / 2 < (n + 1) / 2 = omega (arith, h) in
          get_or-tab (n * d) g (c * d + i) (omega (arith, stretch-inside c n d (n * d) h (omega arith), l))
          ∙ ap (λ (j : ℕ). get_or cells j 0) (from-none (c * d + i) ∙ k.0)
          ∙ join-element f d each cells rest ((n + 1) / 2) (c / 2) ((pick (eqb (c % 2) 1) d 0 + i) / 2) e in_row k.1
          ∙ ap (λ (m : ℕ). get_or (f (c / 2)) ((pick (eqb (c % 2) 1) m 0 + i) / 2) 0) (sym (each (c / 2)))
          ∙ sym (column-at true (eqb (c % 2) 1) (f (c / 2)) i (rw (each (c / 2)) l))
          ∙ sym (join-element shown d (length-shown true) (joined 0 n shown) [] n c i (sym (append-nil (joined 0 n shown))) h l)

      same : (k : ℕ) → k < length (tab (n * d) g) → get_or (tab (n * d) g) k 0 ≡ get_or (joined 0 n shown) k 0
      same k h =
          subst (λ (j : ℕ). get_or (tab (n * d) g) j 0 ≡ get_or (joined 0 n shown) j 0) (div-add-mod' k d)
          (at (k / d) (k % d) ((div-lt_iff_lt-mul some).1 (rw (length-tab (n * d) g) at h)) (mod-lt k some))

  -- the two ways to draw them, as the code has them
  pub drawn-wide : {wide : Bool} → wide ≡ true → (n : ℕ) {w : ℕ} → w ≡ n * d → {cells out : List ℕ} (beyond rest : List ℕ) → cells ≡ joined 0 ((n + 1) / 2) f ++ beyond
      → out ≡ tab w (half_by cells 0) ++ rest → out ≡ joined 0 n (shown_of wide f) ++ rest
  drawn-wide e n long {cells = cells} beyond rest made q = rw e ((rw long at q) ∙ ap (λ (l : List ℕ). l ++ rest) (columns-doubled n cells beyond made))

pub drawn_plain : {wide : Bool} → wide ≡ false → (f : ℕ → List ℕ) (n : ℕ) {out : List ℕ} (rest : List ℕ) → out ≡ joined 0 n f ++ rest → out ≡ joined 0 n (shown_of wide f) ++ rest
unfolding shown_of column_of
drawn_plain e f n rest q = rw e q
