-- What the proofs of the step use. Assumes nothing.
use Rattle.std.specs.Prelude.{ℕ, zero, suc, ◌-◌, ◌≤◌, ◌<◌, ◌≡◌, Bool, ◌&&◌, ◌||◌, not, List, [], ◌∷◌, ◌++◌, map, eqb, drop, is_ok, Err}
use Rattle.std.proofs.Math.Path.{refl, sym, ap}
use Rattle.std.proofs.Common.{◌∙◌, true≢false, not-suc-le-zero, le_of_suc-le-suc}
use Rattle.std.proofs.Math.Bool.{true, false}
use Rattle.std.proofs.Math.Nat.{sub-zero, suc-sub-suc}
use native.Mathlib.Omega.{arith}
use Rattle.std.proofs.Math.ListN.{length, replicate}
use Rattle.std.proofs.lemmas.List.{length-map}
use Rattle.lists.specs.Choice.{pick}
use Rattle.lists.specs.Tab.{tab}
use Rattle.refusal.specs.declared.Refusal.TheVariants.{Range}
use Rattle.refusal.specs.Number.{unrefused, Checked}
use Rattle.raster.specs.Wide.{code_of, is_wide}
use Rattle.board.specs.declared.Place.{Place}
use Rattle.board.specs.declared.Board.{Board}
use Rattle.timing.specs.Check.{page_check, state_refused, call_check}
use Rattle.timing.specs.Laws.{Accepted, InRange, ht-bound, vt-bound}
use Rattle.shape.specs.declared.FontLine.{FontLine}
use Rattle.shape.specs.Font.{Font, groups_check, word_of}
use Rattle.shape.specs.Laws.{by-small}
use Rattle.video.specs.declared.Look.{Look}
use Rattle.video.specs.Scene.{scene_of, cursor_at}
use Rattle.video.specs.Look.{blank_look}
use Rattle.video.specs.Cell.{shade_of, lit_bits, cell_dots, column_of}
use Rattle.video.specs.Twice.{column-plain}
use Rattle.video.specs.At.{lent_by, scan_dots, dots_at}
use Rattle.dots.specs.Half.{half_by, half-column}
use Rattle.dots.specs.Width.{length-cell}
use Rattle.place.specs.declared.Carried.{Carried}
use Rattle.place.specs.Place.{active_at, loaded_in, moved_in, turned_in}
use Rattle.board.specs.Parts.{with_place}
use Rattle.place.specs.Laws.{loaded-lt}
use Rattle.step.specs.declared.Signals.{Signals}
use Rattle.step.specs.declared.Stepped.{Stepped}
use Rattle.step.specs.declared.Clock.{Clock}
use Rattle.step.specs.declared.Shown.{Shown}
use Rattle.step.specs.Signals.{scan_in, odd_in, signals_of, padded, valid_in, clock_dots}
use Rattle.step.specs.Shown.{signals_with, cell_shown, blank_shown, line_in, shown_in, dots_shown, clock_with}
use Rattle.step.specs.Step.{address_of, held_of, code_in, stepped_of, step_check, no_signals, step_refused, step_of, clock_in}

-- ---- dots

module _ (x : ℕ) where
  all-blank : (l : List ℕ) → map (shade_of x x) l ≡ replicate (length l) x
  all-blank [] = refl
  all-blank (b ∷ l) = go (eqb b 0) (all-blank l)
    where
      go : (t : Bool) → map (shade_of x x) l ≡ replicate (length l) x → pick t x x ∷ map (shade_of x x) l ≡ x ∷ replicate (length l) x
      go true e = ap (λ (m : List ℕ). x ∷ m) e
      go false e = ap (λ (m : List ℕ). x ∷ m) e

  -- a cell of one level
  blank-cell : (d : ℕ) → d ≤ 12 → cell_dots (blank_look x) 0 d ≡ replicate d x
  unfolding cell_dots
  blank-cell d m =
      let n : length (lit_bits false 0 d) ≡ d = sym (length-map (lit_bits false 0 d) (shade_of x x)) ∙ length-cell (blank_look x) 0 d (omega arith) m in
      all-blank (lit_bits false 0 d) ∙ ap (λ (k : ℕ). replicate k x) n

rest-zero : (d n : ℕ) → d ≤ n → drop {A = ℕ} d (replicate n 0) ≡ replicate (n - d) 0
rest-zero zero n h = ap (λ (k : ℕ). replicate k 0) (sym (sub-zero n))
rest-zero (suc d) zero h = absurd (not-suc-le-zero h)
rest-zero (suc d) (suc n) h = rest-zero d n (le_of_suc-le-suc h) ∙ ap (λ (k : ℕ). replicate k 0) (sym (suc-sub-suc n d))

-- what is drawn over twelve zeros
over_zeros : (d : ℕ) (out dots : List ℕ) → d ≤ 12 → out ≡ dots ++ drop d (replicate 12 0) → out ≡ padded dots d
over_zeros d out dots h e = e ∙ ap (λ (l : List ℕ). dots ++ l) (rest-zero d 12 h)

-- a column of double width, from the cell that is drawn
pub column-wide : (odd : Bool) (k : Look) (w d : ℕ) → w < 1024 → d ≤ 12 → (cell : List ℕ) → cell ≡ cell_dots k w d ++ drop d (replicate 12 0)
    → (out : List ℕ) → out ≡ tab d (half_by cell (pick odd d 0)) ++ drop d (replicate 12 0) → out ≡ padded (column_of true odd (cell_dots k w d)) d
column-wide odd k w d small most cell e out q =
    let dots = cell_dots k w d in
    let half : tab d (half_by cell (pick odd d 0)) ≡ column_of true odd dots =
    rw (over_zeros d cell dots most e) (half-column odd dots (replicate (12 - d) 0) d (length-cell k w d small most)) in
    over_zeros d out (column_of true odd dots) most (rw half at q)

-- and any other
pub column-not-wide : (odd : Bool) (k : Look) (w d : ℕ) → d ≤ 12 → (cell : List ℕ) → cell ≡ cell_dots k w d ++ drop d (replicate 12 0)
    → cell ≡ padded (column_of false odd (cell_dots k w d)) d
column-not-wide odd k w d most cell e = over_zeros d cell (cell_dots k w d) most e ∙ ap (λ (l : List ℕ). padded l d) (sym (column-plain odd (cell_dots k w d)))

-- ---- what a clock shows

module _ (b : Board) (chars attrs words flags : List ℕ) (line : FontLine) (code held a : ℕ) where
  pub shown-small : (shown_in b chars attrs words flags line code held a).word < 1024
  unfolding shown_in cell_shown blank_shown
  shown-small = go (active_at b.page b.place)
    where
      go : (t : Bool) → (pick t (cell_shown b chars attrs words flags line code held a) (blank_shown b)).word < 1024
      go true = by-small words flags line _ _
      go false = omega arith

  shown-cursor : (shown_in b chars attrs words flags line code held a).cursor ≡ (active_at b.page b.place && cursor_at (scene_of b (scan_in b code) b.place.field) a)
  unfolding shown_in cell_shown blank_shown
  shown-cursor = go (active_at b.page b.place)
    where
      go : (t : Bool) → (pick t (cell_shown b chars attrs words flags line code held a) (blank_shown b)).cursor ≡ (t && cursor_at (scene_of b (scan_in b code) b.place.field) a)
      go true = refl
      go false = refl

  -- its CURSOR makes the signals
  signals-shown : signals_with b (shown_in b chars attrs words flags line code held a).cursor ≡ signals_of b code a
  unfolding signals_with signals_of
  signals-shown = ap (signals_with b) shown-cursor

-- the parts of a clock put together
pub clock-parts : (b : Board) (chars attrs words flags : List ℕ) (line : FontLine) (c : Carried) → c ≡ loaded_in b.page chars b.place
    → (q : Place) → q ≡ turned_in b.page b.place (moved_in b.page attrs b.place c)
    → (s : Shown) → s ≡ shown_in b chars attrs words flags line c.beam.code c.beam.latch c.beam.address
    → (g : Signals) → g ≡ signals_with b s.cursor → (d : List ℕ) → d ≡ dots_shown b c.beam.code s
    → ◌≡◌ {A = Clock} (record { refusal = unrefused; signals = g; address = c.beam.address; dots = d; place = q }) (clock_with b chars attrs words flags line)
unfolding clock_with
clock-parts b chars attrs words flags line c ec q eq s es g eg d ed = rw (eq, eg, ed, es, ec)

-- its look and word make the dots
dots-shown : (b : Board) (chars attrs : List ℕ) (f : Font) (code held a : ℕ) → b.page.video.dots.0 ≤ 12
    → dots_shown b code (shown_in b chars attrs f.words f.flags (line_in b (active_at b.page b.place) code f.unshifted f.shifted f.groups) code held a)
    ≡ clock_dots b chars attrs f code held a
unfolding shown_in cell_shown blank_shown line_in clock_dots dots_at scan_dots scene_of word_of
dots-shown b chars attrs f code held a most = ap (λ (l : List ℕ). padded l d) (go (active_at b.page b.place))
  where
    d : ℕ
    d = b.page.video.dots.0

    x : ℕ
    x = (scene_of b 0 b.place.field).blank

    s : Bool → Shown
    s t = pick t (cell_shown b chars attrs f.words f.flags (line_in b t code f.unshifted f.shifted f.groups) code held a) (blank_shown b)

    go : (t : Bool) → column_of (t && is_wide (code_of code)) (odd_in b) (cell_dots (s t).look (s t).word d)
        ≡ pick t (column_of (is_wide (code_of code)) (odd_in b) (dots_at b chars attrs f (scan_in b code) b.place.field (valid_in b attrs code held a) a)) (replicate d x)
    go true = refl
    go false = column-plain (odd_in b) (cell_dots (blank_look x) 0 d) ∙ blank-cell x d most

-- ---- the check

-- nothing refuses a clock
clear-check : (b : Board) (lent : Checked) → ((is_ok lent && is_ok (page_check b.page)) && not (state_refused b)) ≡ is_ok (call_check b lent false false)
unfolding call_check
clear-check b lent = go (is_ok lent) refl (is_ok (page_check b.page)) refl (state_refused b)
  where
    go : (s : Bool) → is_ok lent ≡ s → (d : Bool) → is_ok (page_check b.page) ≡ d → (r : Bool)
        → ((s && d) && not r) ≡ is_ok (pick (not s) lent (pick (not d) (page_check b.page) (pick (r || false) (Err Range) unrefused)))
    go false e d q r = sym e
    go true e true q true = refl
    go true e true q false = refl
    go true e false q r = sym q

-- judged with the groups last
module _ (b : Board) (size : Bool) (groups : List ℕ) where
  abbrev early : Bool
  early = (size || not (is_ok (page_check b.page))) || state_refused b

  order : (s d r g : Bool) → ((pick s false g && d) && not r) ≡ pick ((s || not d) || r) false g
  order true d r g = refl
  order false false r true = refl
  order false false r false = refl
  order false true true true = refl
  order false true true false = refl
  order false true false true = refl
  order false true false false = refl

  lent-done : (s : Bool) → is_ok (lent_by s groups) ≡ pick s false (is_ok (groups_check groups))
  lent-done true = refl
  lent-done false = refl

  all : pick early false (is_ok (groups_check groups)) ≡ is_ok (call_check b (lent_by size groups) false false)
  all =
      sym (order size (is_ok (page_check b.page)) (state_refused b) (is_ok (groups_check groups)))
      ∙ ap (λ (g : Bool). (g && is_ok (page_check b.page)) && not (state_refused b)) (sym (lent-done size))
      ∙ clear-check b (lent_by size groups)

  pub not-clear : early ≡ true → false ≡ is_ok (call_check b (lent_by size groups) false false)
  not-clear e = ap (λ (t : Bool). pick t false (is_ok (groups_check groups))) (sym e) ∙ all

  pub clear-but : early ≡ false → is_ok (groups_check groups) ≡ is_ok (call_check b (lent_by size groups) false false)
  clear-but e = ap (λ (t : Bool). pick t false (is_ok (groups_check groups))) (sym e) ∙ all

-- where neither the sizes nor the page refuse it, the state does
pub range-left : (b : Board) (lent : Checked) → is_ok (call_check b lent false false) ≡ false → is_ok lent ≡ true → is_ok (page_check b.page) ≡ true
    → (Err Range) ≡ call_check b lent false false
unfolding call_check
range-left b lent n s d = rw (s, d) (go (state_refused b) (rw (s, d) at n))
  where
    go : (r : Bool) → is_ok (pick (r || false) (Err Range) unrefused) ≡ false → (Err Range) ≡ pick (r || false) (Err Range) unrefused
    go true e = refl
    go false e = absurd (true≢false e)

-- ---- the step

pub in_frame : (b : Board) → InRange b → (b.place.line.0 < 8192) × (b.place.clock.0 < 384)
in_frame b i = (omega (arith, i.line-lt, vt-bound b.page), omega (arith, i.clock-lt, ht-bound b.page))

pub address-lt : (b : Board) (chars : List ℕ) → Accepted b.page → InRange b → (c : Carried) → c ≡ loaded_in b.page chars b.place → c.beam.address < 16384
address-lt b chars page state c e = rw e (loaded-lt b.page chars page b.place state.beam-le state.row-le)

module _ (b : Board) (chars attrs : List ℕ) (f : Font) where
  -- a clock with the font's line is that of the step
  clocked : b.page.video.dots.0 ≤ 12
      → clock_with b chars attrs f.words f.flags (line_in b (active_at b.page b.place) (code_in b chars) f.unshifted f.shifted f.groups)
      ≡ clock_in (stepped_of b chars attrs f)
  unfolding stepped_of clock_with
  clocked most = rw (signals-shown b chars attrs f.words f.flags (line_in b (active_at b.page b.place) (code_in b chars) f.unshifted f.shifted f.groups) (code_in b chars) (held_of b chars) (address_of b chars), dots-shown b chars attrs f (code_in b chars) (held_of b chars) (address_of b chars) most)

  pub clock-done : is_ok (step_check b chars attrs f) ≡ true → b.page.video.dots.0 ≤ 12 → (c : Carried) → c ≡ loaded_in b.page chars b.place
      → (active : Bool) → active ≡ active_at b.page b.place → (line : FontLine) → line ≡ line_in b active c.beam.code f.unshifted f.shifted f.groups
      → (r : Clock) → r ≡ clock_with b chars attrs f.words f.flags line → r ≡ clock_in (step_of b chars attrs f)
  unfolding step_of
  clock-done e most c ec active ea line el r h = rw e (h ∙ (rw (el, ea, ec) (clocked most)))

  pub clock-refused : is_ok (step_check b chars attrs f) ≡ false → (r : Checked) → r ≡ step_check b chars attrs f
      → ◌≡◌ {A = Clock} (record { refusal = r; signals = no_signals; address = 0; dots = replicate 12 0; place = b.place }) (clock_in (step_of b chars attrs f))
  unfolding step_of
  clock-refused e r h = rw (h, e)

  -- a step from its clock
  abbrev again : Stepped → Stepped
  again s = record { refusal = s.refusal; signals = s.signals; address = s.address; dots = s.dots; board = with_place b s.board.place }

  again_by : (t : Bool) (s : Stepped) → s ≡ pick t (stepped_of b chars attrs f) (step_refused (step_check b chars attrs f) b) → again s ≡ s
  unfolding stepped_of
  again_by true s h = rw h
  again_by false s h = rw h

  pub stepped : (c : Clock) → c ≡ clock_in (step_of b chars attrs f) → (n : Board) → n ≡ with_place b c.place
      → ◌≡◌ {A = Stepped} (record { refusal = c.refusal; signals = c.signals; address = c.address; dots = c.dots; board = n }) (step_of b chars attrs f)
  unfolding step_of
  stepped c ec n en = rw (en, ec) (again_by (is_ok (step_check b chars attrs f)) _ refl)
