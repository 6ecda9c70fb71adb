-- What the proofs use of a line of the listing. Assumes nothing.
use Rattle.std.specs.Prelude.{ℕ, ◌+◌, ◌-◌, ◌≤◌, ◌<◌, ◌≡◌, refl, Bool, true, false, length, ltb, leb, is_ok, Result, Ok, Err}
use Rattle.std.proofs.Common.{true≢false, sym, ap, ◌∙◌, mul-le-mul, arith, lt-ltb, le-ltb, ltb-true, ltb-false, length-append, length-take, length-drop}
use mathlib.Core.List.{List, [], ◌∷◌, ◌++◌, map, append_assoc}
use Rattle.std.proofs.Math.ListN.{take, drop, length-map, take-append-drop}
use Rattle.std.proofs.Math.Seq.{take_at, drop_at, drop-drop, drop-append-le}
use Rattle.refusal.specs.declared.Refusal.{Refusal}
use Rattle.refusal.specs.Number.{Checked, unrefused, value_or}
use Rattle.refusal.specs.Laws.{not-refused}
use Rattle.board.specs.declared.Board.{Board}
use Rattle.timing.specs.declared.PageSize.{PageSize}
use Rattle.timing.specs.Fields.{hact_of, visible_of}
use Rattle.timing.specs.Check.{page_check, no_size, size_of, size_in, call_check}
use Rattle.timing.specs.Laws.{Accepted, accepted, call-passed, asked-last}
use Rattle.shape.specs.Font.{Font}
use Rattle.line.specs.Length.{length-line}
use Rattle.video.specs.At.{lent_check}
use Rattle.line.specs.Line.{line_dots, line_length, draw_check, drawn_of}
use Rattle.listing.specs.Listing.{line_feed, letter_of, listing_line, line_check, listed_of, listed_count, listed_in}
use Rattle.listing.specs.Answers.{refused-so, done-so, listed-within}

-- ---- the check: drawing into all but one byte is refused as the line is

line-some : (b : Board) → Accepted b.page → 0 < line_length b
line-some b a =
    let h : 1 ≤ hact_of b.page = omega arith in
    omega (arith, mul-le-mul h a.least)

one_less : (room n : ℕ) → 0 < n → ltb (room - 1) n ≡ ltb room (n + 1)
one_less room n h = go (ltb room (n + 1)) refl
  where
    go : (t : Bool) → ltb room (n + 1) ≡ t → ltb (room - 1) n ≡ t
    go true e = lt-ltb (room - 1) n (omega (arith, ltb-true room (n + 1) e))
    go false e = le-ltb (room - 1) n (omega (arith, ltb-false room (n + 1) e))

feed-kept : (b : Board) (lent : Checked) (line room : ℕ) → draw_check b lent line (room - 1) ≡ line_check b lent line room
unfolding draw_check line_check
feed-kept b lent line room = asked-last b lent _ _ _ _ (λ e. (refl, one_less room (line_length b) (line-some b (accepted b.page e))))

-- ---- its length

module _ (b : Board) (chars attrs : List ℕ) (f : Font) (line field : ℕ) (a : Accepted b.page) where
  pub length-listing : length (listing_line b chars attrs f line field) ≡ line_length b + 1
  unfolding listing_line
  length-listing = simp (length-append, length-map, length-line b chars attrs f line field a)

-- ---- a line that nothing refuses

pub record Fitting (b : Board) (room : ℕ) : Type 0 where
  pub long : (size_in b.page).dots.0 ≡ line_length b
  pub passed : page_check b.page ≡ unrefused
  pub page : Accepted b.page
  pub roomy : line_length b + 1 ≤ room

line-passed : (b : Board) (lent : Checked) (line room : ℕ) → line_check b lent line room ≡ unrefused → Fitting b room
unfolding line_check call_check size_of
line-passed b lent line room e =
    let k = call-passed b lent (leb (visible_of b.page).0 line) (ltb room (line_length b + 1)) e in
    let p = not-refused (page_check b.page) _ (not-refused lent _ e).1 in
    record { long = rw p.0; passed = p.0; page = k.page; roomy = ltb-false room (line_length b + 1) k.roomy }

pub line-within : (b : Board) (chars attrs : List ℕ) (f : Font) (lent : Checked) (line field room : ℕ)
    → listed_count (line_check b lent line room) (listing_line b chars attrs f line field) ≤ room
line-within b chars attrs f lent line field room =
    listed-within (line_check b lent line room) (listing_line b chars attrs f line field) room (λ e.
    let k = line-passed b lent line room e in
    omega (arith, length-listing b chars attrs f line field k.page, k.roomy))

-- ---- what the call leaves: the drawer, which answered r, was lent the first k bytes, all but one, and left `part` there

module _ (b : Board) (chars attrs : List ℕ) (f : Font) (line field : ℕ) (out : List ℕ) (k : ℕ) (less : k ≡ length out - 1) (r : Checked) (part : List ℕ)
    (drew : (r ≡ draw_check b (lent_check chars attrs f) line (length (take k out))) × (part ≡ drawn_of b chars attrs f line field (take k out))) where
  abbrev check : Checked
  check = line_check b (lent_check chars attrs f) line (length out)

  abbrev dots : List ℕ
  dots = line_dots b chars attrs f line field

  abbrev bytes : List ℕ
  bytes = listing_line b chars attrs f line field

  length-lent : length (take k out) ≡ length out - 1
  length-lent = simp length-take (omega arith)

  same : r ≡ check
  same = drew.0 ∙ rw length-lent (feed-kept b (lent_check chars attrs f) line (length out))

  pub line_refused : (why : Refusal) → r ≡ Err why → (Err why ≡ listed_of check bytes) × (part ++ drop k out ≡ listed_in check bytes out)
  unfolding drawn_of
  line_refused why t =
      let left : part ≡ take k out = drew.1 ∙ rw (← drew.0, t) in
      let so = refused-so check bytes out (sym same ∙ t) in
      (so.0, rw left (take-append-drop k out) ∙ so.1)

  -- once the line was drawn the page has a size
  pub line-sized : r ≡ unrefused → {why : Refusal} → Err why ≡ size_of b.page → ⊥
  unfolding size_of
  line-sized t e =
      let fitting = line-passed b (lent_check chars attrs f) line (length out) (sym same ∙ t) in
      true≢false (sym (ap is_ok (rw fitting.passed at e)))

  module _ (t : r ≡ unrefused) (size : PageSize) (whole : Ok size ≡ size_of b.page) where
    abbrev n : ℕ
    n = size.dots.0

    fitting : Fitting b (length out)
    fitting = line-passed b (lent_check chars attrs f) line (length out) (sym same ∙ t)

    long : line_length b ≡ n
    long = sym fitting.long ∙ ap (λ (z : Result PageSize Refusal). (value_or no_size z).dots.0) (sym whole)

    length-dots : length dots ≡ n
    length-dots = length-line b chars attrs f line field fitting.page ∙ long

    roomy : n + 1 ≤ length out
    roomy = rw (← long) fitting.roomy

    -- the whole buffer once the line was drawn
    drawn : part ++ drop k out ≡ dots ++ drop n out
    unfolding drawn_of
    drawn =
        let left : part ≡ dots ++ drop n (take k out) = drew.1 ∙ rw (← drew.0, t, long) in
        rw (left, append_assoc dots (drop n (take k out)) (drop k out), ← drop-append-le n (take k out) (drop k out) (omega (arith, length-lent, roomy)), take-append-drop k out)

    pub line-fits : n < length (part ++ drop k out)
    line-fits = rw (drawn, length-append dots (drop n out), length-drop n out, length-dots) (omega (arith, roomy))

    pub line-put : (x : List ℕ) → x ≡ (map letter_of (take n (part ++ drop k out)) ++ (line_feed ∷ [])) ++ drop (n + 1) (part ++ drop k out)
        → (Ok (n + 1) ≡ listed_of check bytes) × (x ≡ listed_in check bytes out)
    unfolding listing_line
    line-put x e =
        done-so check bytes out (sym same ∙ t) x (n + 1) (rw (← long) (length-listing b chars attrs f line field fitting.page))
        (e ∙ rw (drawn, take_at dots (drop n out) n length-dots, ← drop-drop 1 n (dots ++ drop n out), drop_at dots (drop n out) n length-dots, drop-drop 1 n out))
