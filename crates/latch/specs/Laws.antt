-- What the proofs and callers use of what is latched. Assumes nothing.
--     held-beam     it is the raster's
--     held_first     nothing at the start of a frame
--     held-in-row    within a row, from what the row began with
--     held-along     the same, along the row from its start
--     held_next      a row begins with what is valid at the end of the row before it
--     held_plain     in character mode nothing is ever latched
--     run-part       the bytes of cells that are one run
--     held_kept      a latch byte has AFLG or is 0
--     attributes-are what is valid at a column is what its cell sets there, over what is valid before it
use Prim.Native.Nat.{ℕ, suc, min, ◌+◌, ◌-◌, ◌*◌, ◌/◌, ◌%◌, ◌≤◌, ◌<◌}
use Rattle.std.specs.Prelude.{◌≡◌, not, ◌&&◌, List, length, get_or, take, drop}
use Rattle.std.proofs.Math.Path.{refl, ap}
use Rattle.std.proofs.Common.{sym, ap₂, ◌∙◌, add-one, lt-ltb, length-drop, length-take-le, get_or-take, get_or-drop}
use Rattle.std.proofs.Math.Bool.{Bool, true, false}
use Rattle.std.proofs.Math.Nat.{zero-mul, suc-mul}
use native.Mathlib.Omega.{arith}
use Rattle.lists.specs.Choice.{pick}
use Rattle.raster.specs.declared.Buffer.{Buffer}
use Rattle.raster.specs.declared.Cell.{Cell}
use Rattle.raster.specs.Moves.{cell, advance_by}
use Rattle.raster.specs.Wide.{code_of, is_wide, again_at, fetches_at}
use Rattle.raster.specs.Latch.{latched, sets_of, last_set, fetched_by, last_none, same-last, last-over, last-kept, columns-cells}
use Rattle.raster.specs.Cells.{start_of, cell_of}
use Rattle.raster.specs.Beams as beams
use Rattle.board.specs.declared.Page.{Page}
use Rattle.board.specs.Modes.{field_mode}
use Rattle.timing.specs.declared.Timing.{Timing}
use Rattle.timing.specs.Fields.{hact_of, buffer_of, timing_of, counts_of}
use Rattle.fetch.specs.Rows.{code_at, row_start, fetch_at, fetched_of, fetched_before, moved_of, cell_at}
use Rattle.fetch.specs.Feed.{feed_in, tally_in}
use Rattle.fetch.specs.Run.{one_run, run_fits, run_at}
use Rattle.fetch.specs.Laws.{cell-shown, begun_all}
use Rattle.latch.specs.Held.{set_in, byte_of, held_at, attributes_at}

-- the count of columns that a timing has
pub columns_of : (p : Page) (t : Timing) → t ≡ timing_of p → t.counts.hact.0 ≡ hact_of p
unfolding timing_of counts_of
columns_of p t e = rw e

-- the bytes of a row's cells, from the row's start on
abbrev pub row_byte : (attrs : List ℕ) → Buffer → (start i : ℕ) → ℕ
row_byte attrs b start i = get_or attrs (advance_by b i start) 0

-- cells that are one run are a part of the memory
pub run-part : (attrs : List ℕ) (b : Buffer) (start n v : ℕ) → one_run b start n ≡ true → length attrs ≡ 16384
    → v ≡ last_set (λ (i : ℕ). get_or (take (start + n - start) (drop start attrs)) i 0) 0 (length (take (start + n - start) (drop start attrs)))
    → v ≡ last_set (row_byte attrs b start) 0 n
run-part attrs b start n v e l q =
    let m : start + n - start ≡ n = omega arith in
    let room : n ≤ length (drop start attrs) = rw (length-drop start attrs) (omega (arith, run_fits b start n e, l)) in
    (rw (m, length-take-le n (drop start attrs) room) at q)
    ∙ same-last _ _ 0 n (λ i h. get_or-take n (drop start attrs) i 0 h ∙ get_or-drop start attrs i 0 ∙ ap (λ (a : ℕ). get_or attrs a 0) (sym (run_at b start n e i h)))

module _ (p : Page) (chars attrs : List ℕ) where
  abbrev H : ℕ
  H = hact_of p

  pub held-beam : (r c : ℕ) → held_at p chars attrs r c ≡ beams.held_at (counts_of p) (feed_in p chars) (code_at p chars) (sets_of (field_mode p) attrs) (tally_in p chars) r c
  unfolding held_at beams.held_at cell_at fetch_at moved_of fetched_of row_start cell_of start_of counts_of
  held-beam r c = refl

  -- [R-1 frame]
  -- nothing is valid at the start of a frame
  pub held_first : held_at p chars attrs 0 0 ≡ 0
  unfolding held_at last_set
  held_first =
      let z : 0 * H + min 0 H ≡ 0 = omega (arith, zero-mul H) in
      rw z

  -- [R-1 latch]
  -- in a row it goes by what the row began with
  pub held-in-row : (r c : ℕ) → c ≤ H → held_at p chars attrs r c ≡ last_set (set_in p chars attrs r) (held_at p chars attrs r 0) c
  unfolding held_at beams.held_at cell_at fetch_at moved_of fetched_of row_start cell_of start_of counts_of
  held-in-row r c h = beams.held-in-row (counts_of p) (feed_in p chars) (code_at p chars) (sets_of (field_mode p) attrs) (tally_in p chars) r c (omega arith)

  -- a column of the row, by the number of the cell that it shows
  column-sets : (r i : ℕ) → i < H
      → set_in p chars attrs r i ≡ pick (again_at (code_of (code_at p chars r)) i) 0 (sets_of (field_mode p) attrs (fetch_at p chars r (pick (is_wide (code_of (code_at p chars r))) (i / 2) i)))
  unfolding counts_of
  column-sets r i h =
      rw (lt-ltb i H h, cell-shown p chars r i h) (turned (again_at (code_of (code_at p chars r)) i) (sets_of (field_mode p) attrs (cell_at p chars r i)) 0)
    where
      turned : (t : Bool) (a b : ℕ) → pick (not t) a b ≡ pick t b a
      turned true a b = refl
      turned false a b = refl

  -- the same along the row from its start, cell by cell
  pub held-along : (r c : ℕ) → c ≤ H
      → held_at p chars attrs r c ≡ last_set (λ i. sets_of (field_mode p) attrs (fetch_at p chars r i)) (held_at p chars attrs r 0) (fetched_before p chars r c)
  unfolding fetched_before fetched_by
  held-along r c h =
      let m : min c H ≡ c = omega arith in
      held-in-row r c h
      ∙ same-last _ _ _ c (λ i l. column-sets r i (omega arith))
      ∙ rw m (columns-cells (code_of (code_at p chars r)) (λ i. sets_of (field_mode p) attrs (fetch_at p chars r i)) (held_at p chars attrs r 0) c)

  -- past the row's last cell nothing is fetched
  pub held-least : (r c : ℕ) → held_at p chars attrs r (min c H) ≡ held_at p chars attrs r c
  unfolding held_at
  held-least r c =
      let e : min (min c H) H ≡ min c H = omega arith in
      rw e

  -- [R-1 latch]
  -- a row begins with what the row before it ends with
  pub held_next : (r : ℕ) → held_at p chars attrs r H ≡ held_at p chars attrs (suc r) 0
  unfolding held_at
  held_next r =
      let e : r * H + min H H ≡ suc r * H + min 0 H = omega (arith, suc-mul r H) in
      rw e

  pub held_plain : field_mode p ≡ false → (r c : ℕ) → held_at p chars attrs r c ≡ 0
  unfolding held_at
  held_plain m r c = last_none (byte_of p chars attrs) 0 _ (λ i h. rw m (none (fetches_at (counts_of p) (code_of (code_at p chars (i / H))) (i % H))))
    where
      none : (t : Bool) → pick t 0 0 < 128
      none true = omega arith
      none false = omega arith

  pub held_kept : (r c : ℕ) → latched (held_at p chars attrs r c) 0 ≡ held_at p chars attrs r c
  unfolding held_at
  held_kept r c = last-kept (byte_of p chars attrs) 0 _ refl

  -- one column on
  held-past : (r c : ℕ) → c < H → held_at p chars attrs r (c + 1) ≡ latched (set_in p chars attrs r c) (held_at p chars attrs r c)
  unfolding last_set
  held-past r c h =
      ap (held_at p chars attrs r) (add-one c)
      ∙ held-in-row r (suc c) (omega (arith, h))
      ∙ ap (latched (set_in p chars attrs r c)) (sym (held-in-row r c (omega (arith, h))))

  pub attributes-are : (r c : ℕ) → c < H
      → attributes_at p chars attrs r c
      ≡ latched (pick (again_at (code_of (code_at p chars r)) c && field_mode p) 0 (get_or attrs (cell_at p chars r c) 0)) (held_at p chars attrs r c)
  unfolding attributes_at counts_of
  attributes-are r c h = go (field_mode p) refl
    where
      again : Bool
      again = again_at (code_of (code_at p chars r)) c

      byte : ℕ
      byte = get_or attrs (cell_at p chars r c) 0

      sets : (t u : Bool) → u ≡ true → pick (true && not t) (pick u byte 0) 0 ≡ pick (t && u) 0 byte
      sets true u e = rw e
      sets false u e = rw e

      plain : (t : Bool) → byte ≡ pick (t && false) 0 byte
      plain true = refl
      plain false = refl

      go : (m : Bool) → field_mode p ≡ m
          → pick m (held_at p chars attrs r (c + 1)) (latched byte 0) ≡ latched (pick (again && m) 0 byte) (held_at p chars attrs r c)
      go true e = held-past r c h ∙ ap (λ (x : ℕ). latched x (held_at p chars attrs r c)) own
        where
          own : set_in p chars attrs r c ≡ pick (again && true) 0 byte
          own = rw (lt-ltb c H h, e) (sets again true refl)
      go false e = ap₂ latched (plain again) (sym (held_plain e r c))

  -- ---- the search, as the code has it

  module _ (runs : field_mode p ≡ true) where
    abbrev bytes : ℕ → ℕ → ℕ
    bytes r = row_byte attrs (buffer_of p) (row_start p chars r)

    from_row : (r c : ℕ) → c ≤ H → held_at p chars attrs r c ≡ last_set (bytes r) (held_at p chars attrs r 0) (fetched_before p chars r c)
    unfolding fetch_at
    from_row r c h = rw runs at (held-along r c h)

    -- what the search of a row answers, in the words of the calls before it
    pub looked-in : (r n : ℕ) {u : Buffer} {start : Cell} {m v : ℕ} → u ≡ buffer_of p → start ≡ cell (row_start p chars r) → m ≡ n
        → v ≡ last_set (row_byte attrs u start.address) 0 m → v ≡ last_set (bytes r) 0 n
    looked-in r n eu es em e = rw (eu, es, em) at e

    -- in the row itself
    module _ (r c v : ℕ) (h : c ≤ H) (e : v ≡ last_set (bytes r) 0 (fetched_before p chars r c)) where
      pub found_here : (v ≡ 0 → ⊥) → v ≡ held_at p chars attrs r c
      found_here some = e ∙ sym (from_row r c h ∙ (last-over (bytes r) (held_at p chars attrs r 0) (fetched_before p chars r c)).1 (λ z. some (e ∙ z)))

      pub none_here : v ≡ 0 → held_at p chars attrs r 0 ≡ held_at p chars attrs r c
      none_here none = sym (from_row r c h ∙ (last-over (bytes r) (held_at p chars attrs r 0) (fetched_before p chars r c)).0 (sym e ∙ none))

    -- in the row above
    module _ (r v : ℕ) (some : 0 < r) (e : v ≡ last_set (bytes (r - 1)) 0 (fetched_of p chars (r - 1))) where
      begun : held_at p chars attrs (r - 1) H ≡ held_at p chars attrs r 0
      begun =
          let one : suc (r - 1) ≡ r = omega arith in
          held_next (r - 1) ∙ ap (λ (x : ℕ). held_at p chars attrs x 0) one

      all_of : v ≡ last_set (bytes (r - 1)) 0 (fetched_before p chars (r - 1) H)
      all_of = e ∙ ap (last_set (bytes (r - 1)) 0) (sym (begun_all p chars (r - 1)))

      pub found-above : (v ≡ 0 → ⊥) → v ≡ held_at p chars attrs r 0
      found-above found = found_here (r - 1) H v (omega arith) all_of found ∙ begun

      pub none_above : v ≡ 0 → held_at p chars attrs (r - 1) 0 ≡ held_at p chars attrs r 0
      none_above none = none_here (r - 1) H v (omega arith) all_of none ∙ begun
