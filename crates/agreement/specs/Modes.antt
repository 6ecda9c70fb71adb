-- Version 1, character mode and pages without row codes, by today's definitions. Assumes nothing.
--     version-1          a page whose version is not 2 is in character mode, and its switches 4 to 7 are refused
--     nothing-valid      in character mode no attributes are valid before a cell, and
--     nothing-latched    a step leaves 0 in both latch bytes, whatever they held
--     no-row-codes       without IR0[7] every row's code is 0, it fetches HACT cells, and
--     no-code-left       a step leaves a code of 0, whatever it was
use Rattle.std.specs.Prelude.{ℕ, ◌<◌, ◌≡◌, refl, Bool, true, false, ◌||◌, List, eqb}
use Rattle.std.proofs.Common.{sym, ap, ◌∙◌, arith, lt-ltb, le-ltb}
use Rattle.std.proofs.Math.Bool.{or-false}
use Rattle.std.proofs.Math.Decide.{dec_lt}
use Rattle.std.proofs.Math.Dec.{ltb}
use Rattle.lists.specs.Choice.{neither}
use Rattle.board.specs.declared.Page.{Page}
use Rattle.board.specs.declared.Place.{Place}
use Rattle.board.specs.Modes.{field_mode, has_modes}
use Rattle.board.specs.Range.{starts_refused, address_refused}
use Rattle.timing.specs.Fields.{coded_of, hact_of}
use Rattle.fetch.specs.Rows.{code_at, fetched_of}
use Rattle.fetch.specs.Laws.{no-codes}
use Rattle.latch.specs.Held.{held_at}
use Rattle.latch.specs.Laws.{held_plain}
use Rattle.place.specs.Place.{counted_latch, counted_code, next_place}
use Rattle.place.specs.Settled.{next-settled}

module _ (p : Page) (one : has_modes p.version ≡ false) where
  above-15 : (ltb 63 p.switches || ltb 15 p.switches) ≡ ltb 15 p.switches
  above-15 = go (dec_lt 15 p.switches)
    where
      either : (t : Bool) → (t || true) ≡ true
      either true = refl
      either false = refl

      go : Dec (15 < p.switches) → (ltb 63 p.switches || ltb 15 p.switches) ≡ ltb 15 p.switches
      go (yes h) = rw (lt-ltb 15 p.switches h) (either (ltb 63 p.switches))
      go (no f) = rw (le-ltb 63 p.switches (omega arith))

  -- [R-1 version]
  -- a page whose version has no modes is in character mode, and its switches 4 to 7 are refused by 12
  pub version-1 : (field_mode p ≡ false) × (address_refused p ≡ starts_refused p.starts || ltb 15 p.switches || ltb 15 p.video.strike)
  unfolding address_refused
  version-1 =
      let not-3 = (neither (eqb p.version 2) (eqb p.version 3) one).1 in
      (rw one, rw (one, not-3, or-false (ltb 15 p.video.strike)) (ap (λ (t : Bool). starts_refused p.starts || t || ltb 15 p.video.strike) above-15))

module _ (p : Page) (character : field_mode p ≡ false) (chars attrs : List ℕ) where
  -- [dots attributes]
  -- in character mode no attributes are valid before a cell
  pub nothing-valid : (row column : ℕ) → held_at p chars attrs row column ≡ 0
  nothing-valid = held_plain p chars attrs character

  none-counts : (latch : ℕ) → counted_latch p latch ≡ 0
  unfolding counted_latch
  none-counts latch = rw character

  -- [R-1 version]
  -- and a step leaves 0 in both latch bytes, whatever they held
  pub nothing-latched : (q : Place) → ((next_place p chars attrs q).beam.latch ≡ 0) × ((next_place p chars attrs q).row.latch ≡ 0)
  nothing-latched q =
      let s = sym (next-settled p chars attrs q) in
      (ap (λ (x : Place). x.beam.latch) s ∙ none-counts _, ap (λ (x : Place). x.row.latch) s ∙ none-counts _)

module _ (p : Page) (plain : coded_of p ≡ false) (chars attrs : List ℕ) where
  -- [R-4 counted]
  -- without IR0[7] every row has the code 0 and fetches HACT cells
  pub no-row-codes : (row : ℕ) → (code_at p chars row ≡ 0) × (fetched_of p chars row ≡ hact_of p)
  unfolding fetched_of
  no-row-codes row = (no-codes p chars plain row, rw (no-codes p chars plain row))

  no_code : (code : ℕ) → counted_code p code ≡ 0
  unfolding counted_code
  no_code code = rw plain

  -- [R-4 counted]
  -- and a step leaves a code of 0, whatever it was
  pub no-code-left : (q : Place) → (next_place p chars attrs q).row.code ≡ 0
  no-code-left q = ap (λ (x : Place). x.row.code) (sym (next-settled p chars attrs q)) ∙ no_code _
