-- The lowest and the highest of the cells that a row fetches, which is all that a record is asked. Assumes nothing.
--     ends-more     a turn of the loop that finds them
--     asked-row     what a row asks, as the code has it
--     holds_row_lem     a record holds every cell exactly where it holds these two
use Prim.Native.Nat.{ℕ, zero, suc, min, max, ◌+◌, ◌≤◌, ◌<◌}
use Rattle.std.specs.Prelude.{◌≡◌, refl, Bool, true, false, not, ◌&&◌, List, ltb, leb, length, Result, Ok, Err}
use Rattle.std.proofs.Common.{sym, ◌∙◌, true≢false, eq-or-lt_of_le, le_of_suc-le-suc, arith, lt-ltb, le-leb, ltb-true, leb-true}
use Rattle.std.proofs.Math.Logic.{⊎_elim}
use Rattle.std.proofs.Math.Numerals.{add-one}
use Rattle.std.proofs.lemmas.Bool.{not-false}
use Rattle.lists.specs.Choice.{both}
use Rattle.lists.specs.Search.{any_below, any_none, none_of}
use Rattle.raster.specs.declared.Buffer.{Buffer}
use Rattle.raster.specs.declared.Cell.{Cell}
use Rattle.raster.specs.Moves.{cell, advance_by}
use Rattle.refusal.specs.declared.Refusal.{Refusal}
use Rattle.refusal.specs.Number.{unrefused, given, number_of, beside_of}
use Rattle.board.specs.declared.Page.{Page}
use Rattle.board.specs.declared.Board.{Board}
use Rattle.timing.specs.Fields.{buffer_of}
use Rattle.fetch.specs.Rows.{row_start, fetched_of, fetch_at}
use Rattle.fetch.specs.Run.{run_check}
use Rattle.fetch.specs.Laws.{fetched-small}
use Rattle.records.specs.declared.Phrase.{Phrase}
use Rattle.records.specs.declared.Ends.{Ends}
use Rattle.records.specs.declared.Asked.{Asked}
use Rattle.records.specs.Records.{past_of, holds_cell, holds_row}

-- of f 0 to f (n - 1), and of f 0 where n is 0
unfoldable pub low_to : (f : ℕ → ℕ) → (n : ℕ) → ℕ
low_to f zero = f 0
low_to f (suc n) = min (low_to f n) (f n)

unfoldable pub high_to : (f : ℕ → ℕ) → (n : ℕ) → ℕ
high_to f zero = f 0
high_to f (suc n) = max (high_to f n) (f n)

abbrev pub ends_of : (low high : ℕ) → Ends
ends_of l h = record { low = l; high = h }

-- of the n cells from a cell on
unfoldable pub ends_by : Buffer → (start n : ℕ) → Ends
ends_by b a n = ends_of (low_to (λ i. advance_by b i a) n) (high_to (λ i. advance_by b i a) n)

abbrev pub asked : (refusal beside low high : ℕ) → Asked
asked r b l h = record { refusal = r; beside = b; ends = ends_of l h }

-- what a row with these ends asks, or one that is refused
abbrev pub asked_by : Result Ends Refusal → Asked
asked_by (Ok e) = record { refusal = 0; beside = 0; ends = e }
asked_by (Err why) = asked (number_of (Err why)) (beside_of (Err why)) 0 0

-- what a row asks of each record: whether it holds the ends of the row's cells
unfoldable pub asked_of : Board → (chars : List ℕ) → (row : ℕ) → Result Ends Refusal
asked_of b chars row =
    given (run_check b (length chars) row)
    (ends_of (low_to (fetch_at b.page chars row) (fetched_of b.page chars row)) (high_to (fetch_at b.page chars row) (fetched_of b.page chars row)))

unfoldable pub holds_ends : Ends → Phrase → Bool
holds_ends e r = leb r.first e.low && ltb e.high (past_of r)

-- ---- the ends are what they are called

module _ (f : ℕ → ℕ) where
  pub low-le : (n i : ℕ) → i < n → low_to f n ≤ f i
  unfolding low_to
  low-le zero i l = absurd (omega (arith, l))
  low-le (suc n) i l = ⊎_elim (λ e. rw e (omega arith)) (λ k. omega (arith, low-le n i k)) (eq-or-lt_of_le (le_of_suc-le-suc l))

  pub le_low : (n a : ℕ) → a ≤ f 0 → ((i : ℕ) → i < n → a ≤ f i) → a ≤ low_to f n
  unfolding low_to
  le_low zero a p h = p
  le_low (suc n) a p h = omega (arith, le_low n a p (λ i l. h i (omega arith)), h n (omega arith))

  pub high_le : (n i : ℕ) → i < n → f i ≤ high_to f n
  unfolding high_to
  high_le zero i l = absurd (omega (arith, l))
  high_le (suc n) i l = ⊎_elim (λ e. rw e (omega arith)) (λ k. omega (arith, high_le n i k)) (eq-or-lt_of_le (le_of_suc-le-suc l))

  pub high_lt : (n a : ℕ) → f 0 < a → ((i : ℕ) → i < n → f i < a) → high_to f n < a
  unfolding high_to
  high_lt zero a p h = p
  high_lt (suc n) a p h = omega (arith, high_lt n a p (λ i l. h i (omega arith)), h n (omega arith))

  -- every one lies in a stretch exactly where both ends do
  pub all-within : (a e n : ℕ) → 0 < n → not (any_below (λ i. not (leb a (f i) && ltb (f i) e)) n) ≡ (leb a (low_to f n) && ltb (high_to f n) e)
  all-within a e n p = go (any_below out n) refl (leb a (low_to f n)) refl (ltb (high_to f n) e) refl
    where
      out : ℕ → Bool
      out i = not (leb a (f i) && ltb (f i) e)

      inside : any_below out n ≡ false → (i : ℕ) → i < n → (leb a (f i) ≡ true) × (ltb (f i) e ≡ true)
      inside q i l = both _ _ (not-false _ (none_of out n q i l))

      all : any_below out n ≡ false → (leb a (low_to f n) && ltb (high_to f n) e) ≡ true
      all q =
          let first = inside q 0 p in
          simp (
            le-leb _ _ (le_low n a (leb-true _ _ first.0) (λ i l. leb-true _ _ (inside q i l).0)),
            lt-ltb _ _ (high_lt n e (ltb-true _ _ first.1) (λ i l. ltb-true _ _ (inside q i l).1)),
          )

      none : leb a (low_to f n) ≡ true → ltb (high_to f n) e ≡ true → any_below out n ≡ false
      none l h = any_none out n (λ i k. simp (le-leb a (f i) (omega (arith, leb-true a (low_to f n) l, low-le n i k)), lt-ltb (f i) e (omega (arith, ltb-true (high_to f n) e h, high_le n i k))))

      go : (t : Bool) → any_below out n ≡ t → (x : Bool) → leb a (low_to f n) ≡ x → (y : Bool) → ltb (high_to f n) e ≡ y → not t ≡ (x && y)
      go false q x l y h = sym (rw (l, h) at (all q))
      go true q true l true h = absurd (true≢false (sym q ∙ none l h))
      go true q true l false h = refl
      go true q false l y h = refl

-- ---- the loop, and what a row asks

-- x is the cell i moves after a
module _ (b : Buffer) (a i : ℕ) {x : ℕ} (xe : x ≡ advance_by b i a) where
  pub low-more : {l m : ℕ} → l ≡ low_to (λ i. advance_by b i a) i → m ≡ min l x → m ≡ low_to (λ i. advance_by b i a) (i + 1)
  unfolding low_to
  low-more le e = e ∙ rw (le, xe, add-one i)

  pub high-more : {h m : ℕ} → h ≡ high_to (λ i. advance_by b i a) i → m ≡ max h x → m ≡ high_to (λ i. advance_by b i a) (i + 1)
  unfolding high_to
  high-more he e = e ∙ rw (he, xe, add-one i)

module _ (b : Board) (chars : List ℕ) (row : ℕ) where
  pub asked-row : run_check b (length chars) row ≡ unrefused → {u : Buffer} {x : Cell} {n : ℕ} {e : Ends} → u ≡ buffer_of b.page → x ≡ cell (row_start b.page chars row) → n ≡ fetched_of b.page chars row
      → e ≡ ends_by u x.address n → Ok e ≡ asked_of b chars row
  unfolding asked_of ends_by fetch_at
  asked-row t ue xe ne e = rw (t, e, ue, xe, ne)

  pub asked-refused : {why : Refusal} → Err why ≡ run_check b (length chars) row → Err why ≡ asked_of b chars row
  unfolding asked_of
  asked-refused t = rw (← t)

pub holds_row_lem : (p : Page) (chars : List ℕ) (row : ℕ) (r : Phrase)
    → holds_ends (ends_of (low_to (fetch_at p chars row) (fetched_of p chars row)) (high_to (fetch_at p chars row) (fetched_of p chars row))) r ≡ holds_row p chars row r
unfolding holds_row holds_cell holds_ends
holds_row_lem p chars row r = sym (all-within (fetch_at p chars row) r.first (past_of r) (fetched_of p chars row) (fetched-small p chars row).0)
