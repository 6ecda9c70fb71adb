-- What the calls that step answer, put together, is what the call that draws answers. Assumes nothing.
use Rattle.std.specs.Prelude.{ℕ, ◌≤◌, ◌<◌, ◌≡◌, Bool, ◌&&◌, ◌||◌, not, List, [], ◌∷◌, ◌++◌, eqb, ltb, length, drop, is_ok, Err, Ok}
use Rattle.std.proofs.Math.Path.{refl, sym, ap}
use Rattle.std.proofs.Common.{◌∙◌}
use Rattle.std.proofs.Math.Bool.{true, false, or-true}
use native.Mathlib.Omega.{arith}
use borrow.Author.Tests.{eq-eqb, ne_eqb, le-leb, lt-leb, lt-ltb, le-ltb, leb-false, ltb-false}
use Rattle.std.proofs.Math.Dec.{leb}
use Rattle.lists.specs.Choice.{pick, first_of, neither}
use Rattle.units.specs.declared.Clocks.{Clocks}
use Rattle.refusal.specs.declared.Refusal.TheVariants.{Size, Reserved, BackPorch, LineShort, FrontPorch, Width, Range, Room, Address}
use Rattle.refusal.specs.Number.{Checked, unrefused, given, value_or, number_of, beside_of}
use Rattle.refusal.specs.Laws.{done-is, zero-done, some-refused, check-given, passed, not-refused}
use Rattle.board.specs.declared.Page.{Page}
use Rattle.board.specs.declared.Board.{Board}
use Rattle.board.specs.State.{power_of}
use Rattle.board.specs.Range.{memories_refused, address_refused}
use Rattle.timing.specs.Fields.{visible_of, coded_of, table_of, hbp_of}
use Rattle.timing.specs.Check.{reserved_refused, back_porch_refused, line_short, front_porch_refused, missing, width_refused, page_check, size_of, state_refused, call_check}
use Rattle.timing.specs.Laws.{range-ok, call_ok}
use Rattle.shape.specs.Font.{Font, font_of, font_refused, groups_refused}
use Rattle.line.specs.Line.{line_length, line_dots, draw_check, drawn_of}
use Rattle.video.specs.At.{lent_check}
use Rattle.step.specs.Step.{stepped_of, step_check, step_of}
use Rattle.files.specs.Page.{page_at}
use Rattle.numbers.specs.Numbers.{numbers_refused, numbers_board, numbers_check}
use Rattle.feldrime.specs.declared.Answer.{Answer}
use Rattle.feldrime.specs.declared.SizeAnswer.{SizeAnswer}
use Rattle.feldrime.specs.declared.BoardAnswer.{BoardAnswer}
use Rattle.feldrime.specs.declared.StepBy.{StepBy}
use Rattle.feldrime.specs.Answers.{answer_of}
use Rattle.feldrime.specs.Pages.{size_for, board_for}
use Rattle.feldrime.specs.LineDraw.{line_draw_check, line_drawn}
use Rattle.feldrime.specs.Step.{numbered, step_numbers}
use Rattle.callers_stepped.specs.Lines.{Steppable}

-- a number with none beside it
abbrev pub alone_of : ℕ → Answer
alone_of n = record { refusal = n; beside = 0 }

-- ---- 3 is a size and nothing else

page-not-three : (p : Page) → number_of (page_check p) ≡ 3 → ⊥
unfolding page_check
page-not-three p =
    go (address_refused p) (reserved_refused p) (back_porch_refused p) (line_short p) (front_porch_refused p) (width_refused p.video.dots)
  where
    n : Clocks
    n = missing p

    go : (a r b l f w : Bool)
        → number_of (first_of ((a, Err Address) ∷ (r, Err Reserved) ∷ (b, Err BackPorch) ∷ (l, Err (LineShort n)) ∷ (f, Err (FrontPorch n)) ∷ (w, Err Width) ∷ []) unrefused) ≡ 3 → ⊥
    go true r b l f w e = omega arith
    go false true b l f w e = omega arith
    go false false true l f w e = omega arith
    go false false false true f w e = omega arith
    go false false false false true w e = omega arith
    go false false false false false true e = omega arith
    go false false false false false false e = omega arith

-- what is lent, by whether a size is wrong and whether a group is refused
module _ (b : Board) where
  abbrev answered : (size group : Bool) → ℕ
  answered size group = number_of (call_check b (pick size (Err Size) (pick group (Err Address) unrefused)) false false)

  -- where nothing of it is, the page's own answer and 7
  own-else : (n : ℕ) → (n ≡ 7 → ⊥) → (n ≡ 0 → ⊥) → (number_of (page_check b.page) ≡ n → ⊥) → answered false false ≡ n → ⊥
  unfolding call_check
  own-else n no-7 no-0 own = go (is_ok (page_check b.page)) (state_refused b || false)
    where
      go : (d s : Bool) → number_of (pick (not d) (page_check b.page) (pick s (Err Range) unrefused)) ≡ n → ⊥
      go false s e = own e
      go true true e = no-7 (sym e)
      go true false e = no-0 (sym e)

  call-three : (size group : Bool) → answered size group ≡ 3 → size ≡ true
  unfolding call_check
  call-three true group e = refl
  call-three false true e = absurd (omega arith)
  call-three false false e = absurd (own-else 3 (λ q. omega arith) (λ q. omega arith) (page-not-three b.page) e)

  call-twelve : (number_of (page_check b.page) ≡ 12 → ⊥) → (size group : Bool) → answered size group ≡ 12 → (size ≡ false) × (group ≡ true)
  unfolding call_check
  call-twelve own true group e = absurd (omega arith)
  call-twelve own false true e = (refl, refl)
  call-twelve own false false e = absurd (own-else 12 (λ q. omega arith) (λ q. omega arith) own e)

  call-fine : (size group : Bool) → (answered size group ≡ 3 → ⊥) → (answered size group ≡ 12 → ⊥) → (size ≡ false) × (group ≡ false)
  unfolding call_check
  call-fine true group three twelve = absurd (three refl)
  call-fine false true three twelve = absurd (twelve refl)
  call-fine false false three twelve = (refl, refl)

-- a step's own answer
step-answer : (b : Board) (chars attrs : List ℕ) (f : Font) → (step_of b chars attrs f).refusal ≡ step_check b chars attrs f
unfolding step_of stepped_of
step-answer b chars attrs f = go (is_ok (step_check b chars attrs f)) refl
  where
    go : (t : Bool) → is_ok (step_check b chars attrs f) ≡ t → (step_of b chars attrs f).refusal ≡ step_check b chars attrs f
    go true t = rw t (sym (done-is _ t))
    go false t = rw t

pub step-by-value : (b : Board) (chars attrs words flags unshifted shifted groups : List ℕ) {s : StepBy} → s ≡ step_numbers b chars attrs words flags unshifted shifted groups
    → s.answer.refusal ≡ number_of (step_check b chars attrs (font_of words flags unshifted shifted groups))
unfolding numbered
step-by-value b chars attrs words flags unshifted shifted groups e =
    ap (λ (x : StepBy). x.answer.refusal) e ∙ ap number_of (step-answer b chars attrs (font_of words flags unshifted shifted groups))

pub step-beside : (b : Board) (chars attrs words flags unshifted shifted groups : List ℕ) {s : StepBy} → s ≡ step_numbers b chars attrs words flags unshifted shifted groups
    → s.answer.beside ≡ beside_of (step_check b chars attrs (font_of words flags unshifted shifted groups))
unfolding numbered
step-beside b chars attrs words flags unshifted shifted groups e =
    ap (λ (x : StepBy). x.answer.beside) e ∙ ap beside_of (step-answer b chars attrs (font_of words flags unshifted shifted groups))

-- ---- the calls, one after the other

module _ (numbers chars attrs words flags unshifted shifted groups : List ℕ) (line room : ℕ) {m : BoardAnswer} (made : m ≡ board_for numbers) where
  -- what the call that draws answers
  abbrev answer : Answer
  answer = answer_of (line_draw_check numbers chars attrs (font_of words flags unshifted shifted groups) line room)

  made-is : m.refusal ≡ number_of (numbers_check numbers)
  unfolding board_for
  made-is = ap (λ (x : BoardAnswer). x.refusal) made ∙ ap number_of (check-given (numbers_check numbers) (numbers_board numbers))

  -- its answer without the board
  abbrev own : Answer
  own = record { refusal = m.refusal; beside = m.beside }

  own_is : own ≡ answer_of (numbers_check numbers)
  unfolding board_for
  own_is =
      ap (λ (x : BoardAnswer). record { refusal = x.refusal; beside = x.beside }) made
      ∙ ap answer_of (check-given (numbers_check numbers) (numbers_board numbers))

  -- a size that is wrong, and a group that is refused
  abbrev short : Bool
  short = memories_refused (length chars) (length attrs) || font_refused (font_of words flags unshifted shifted groups)

  abbrev group : Bool
  group = groups_refused groups

  -- the page of the board that is made has no 12 of its own
  made-page : number_of (page_check m.board.page) ≡ 12 → ⊥
  unfolding board_for numbers_check page_check address_refused coded_of table_of hbp_of
  made-page e = go (numbers_check numbers) refl (ap (λ (x : BoardAnswer). number_of (page_check x.board.page)) (sym made) ∙ e)
    where
      go : (r : Checked) → numbers_check numbers ≡ r → number_of (page_check (value_or power_of (given r (numbers_board numbers))).page) ≡ 12 → ⊥
      go (Ok tt) d q = let ok = (passed (numbers_refused numbers) (Err Size) _ refl d).1 in omega (arith, sym (ap number_of ok) ∙ q)
      go (Err why) d q = omega arith

  -- 3 for the numbers, which a page's own answer never is
  pub numbers-three : m.refusal ≡ 3 → alone_of 3 ≡ answer
  unfolding line_draw_check numbers_check
  numbers-three e = go (numbers_refused numbers) refl
    where
      go : (t : Bool) → numbers_refused numbers ≡ t → alone_of 3 ≡ answer
      go true t = rw t
      go false t = absurd (page-not-three (page_at numbers 1) (rw t at (sym made-is ∙ e)))

  numbers-fine : (m.refusal ≡ 3 → ⊥) → numbers_refused numbers ≡ false
  unfolding numbers_check
  numbers-fine e = go (numbers_refused numbers) refl
    where
      go : (t : Bool) → numbers_refused numbers ≡ t → numbers_refused numbers ≡ false
      go true t = absurd (e (made-is ∙ rw t))
      go false t = t

  module _ {s : StepBy} (tried : s ≡ step_numbers m.board chars attrs words flags unshifted shifted groups) where
    step_is : s.answer.refusal ≡ number_of (step_check m.board chars attrs (font_of words flags unshifted shifted groups))
    step_is = step-by-value m.board chars attrs words flags unshifted shifted groups tried

    -- 3 for what is lent: a step answers it whatever the board is
    pub lent-three : s.answer.refusal ≡ 3 → alone_of 3 ≡ answer
    unfolding line_draw_check draw_check call_check
    lent-three e = rw (call-three m.board short group (sym step_is ∙ e)) (go (numbers_refused numbers))
      where
        go : (t : Bool) → alone_of 3 ≡ answer_of (pick t (Err Size) (Err Size))
        go true = refl
        go false = refl

    -- then 12, which is the groups'
    pub lent-twelve : (m.refusal ≡ 3 → ⊥) → s.answer.refusal ≡ 12 → alone_of 12 ≡ answer
    unfolding line_draw_check draw_check call_check
    lent-twelve no-three e =
        let lent = call-twelve m.board made-page short group (sym step_is ∙ e) in
        rw (numbers-fine no-three, lent.0, lent.1)

    module _ (no-three : m.refusal ≡ 3 → ⊥) (none-short : s.answer.refusal ≡ 3 → ⊥) (none-grouped : s.answer.refusal ≡ 12 → ⊥) where
      lent-fine : (short ≡ false) × (group ≡ false)
      lent-fine = call-fine m.board short group (λ e. none-short (step_is ∙ e)) (λ e. none-grouped (step_is ∙ e))

      -- then the page's own
      pub pages-own : (m.refusal ≡ 0 → ⊥) → own ≡ answer
      unfolding line_draw_check draw_check call_check numbers_check
      pages-own e =
          let page : own ≡ answer_of (page_check (page_at numbers 1)) = own_is ∙ rw (numbers-fine no-three) in
          let refused : is_ok (page_check (page_at numbers 1)) ≡ false = some-refused _ (λ q. e (ap (λ (x : Answer). x.refusal) page ∙ q)) in
          rw (numbers-fine no-three, lent-fine.0, lent-fine.1, refused) page

      module _ (done : m.refusal ≡ 0) {z : SizeAnswer} (size : z ≡ size_for numbers) where
        page-done : page_check (page_at numbers 1) ≡ unrefused
        unfolding numbers_check
        page-done = zero-done _ (rw (numbers-fine no-three) at (sym made-is ∙ done))

        lines_are : z.lines ≡ (visible_of (page_at numbers 1)).0
        unfolding size_for size_of
        lines_are = ap (λ (x : SizeAnswer). x.lines) size ∙ rw (numbers-fine no-three, page-done)

        dots-are : z.dots ≡ line_length (numbers_board numbers)
        unfolding size_for size_of
        dots-are = ap (λ (x : SizeAnswer). x.dots) size ∙ rw (numbers-fine no-three, page-done)

        at_zero : state_refused (numbers_board numbers) ≡ false
        at_zero = range-ok (numbers_board numbers) (record { line-lt = omega arith; clock-lt = omega arith; beam-le = omega arith; row-le = omega arith; pointer-le = omega arith })

        -- then 7 for a line that is not visible, 8 for a buffer that is too short
        pub hidden : z.lines ≤ line → alone_of 7 ≡ answer
        unfolding line_draw_check draw_check call_check
        hidden h = rw (numbers-fine no-three, lent-fine.0, lent-fine.1, page-done, le-leb (visible_of (page_at numbers 1)).0 line (rw lines_are at h), or-true (state_refused (numbers_board numbers)))

        pub no_room : line < z.lines → room < z.dots → alone_of 8 ≡ answer
        unfolding line_draw_check draw_check call_check
        no_room h k = rw (numbers-fine no-three, lent-fine.0, lent-fine.1, page-done, lt-leb (visible_of (page_at numbers 1)).0 line (rw lines_are at h), at_zero, lt-ltb room (line_length (numbers_board numbers)) (rw dots-are at k))

        pub nothing : line < z.lines → z.dots ≤ room → alone_of 0 ≡ answer
        unfolding line_draw_check draw_check call_check
        nothing h k = rw (numbers-fine no-three, lent-fine.0, lent-fine.1, page-done, lt-leb (visible_of (page_at numbers 1)).0 line (rw lines_are at h), at_zero, le-ltb room (line_length (numbers_board numbers)) (rw dots-are at k))

-- ---- a line that nothing refuses can be stepped, and what stepping leaves is the line drawn; on a refusal the buffer stays

module _ (numbers chars attrs : List ℕ) (f : Font) (line : ℕ) (out : List ℕ) {r : Answer} (e : r ≡ answer_of (line_draw_check numbers chars attrs f line (length out))) where
  number_is : r.refusal ≡ number_of (line_draw_check numbers chars attrs f line (length out))
  number_is = ap (λ (x : Answer). x.refusal) e

  pub kept : (r.refusal ≡ 0 → ⊥) → (field : ℕ)
      → (r ≡ answer_of (line_draw_check numbers chars attrs f line (length out))) × (out ≡ line_drawn numbers chars attrs f line field out)
  unfolding line_draw_check line_drawn drawn_of
  kept n field = (e, go (numbers_refused numbers) refl)
    where
      refused : is_ok (line_draw_check numbers chars attrs f line (length out)) ≡ false
      refused = some-refused _ (λ q. n (number_is ∙ q))

      go : (t : Bool) → numbers_refused numbers ≡ t → out ≡ line_drawn numbers chars attrs f line field out
      go true t = rw t
      go false t = rw (t, rw t at refused)

  module _ (z : r.refusal ≡ 0) {m : BoardAnswer} (made : m ≡ board_for numbers) where
    accepted : (numbers_refused numbers ≡ false) × (draw_check (numbers_board numbers) (lent_check chars attrs f) line (length out) ≡ unrefused)
    unfolding line_draw_check
    accepted = passed (numbers_refused numbers) (Err Size) _ refl (zero-done _ (sym number_is ∙ z))

    -- what the draw's checks passed
    record Steps : Type 0 where
      page-ok : page_check (numbers_board numbers).page ≡ unrefused
      can-step : Steppable (numbers_board numbers) chars attrs f line (length out)

    steps : Steps
    unfolding draw_check call_check
    steps =
        let b = numbers_board numbers in
        let s = not-refused (lent_check chars attrs f) _ accepted.1 in
        let p = not-refused (page_check b.page) _ s.1 in
        let v = passed (state_refused b || leb (visible_of b.page).0 line) (Err Range) _ refl p.1 in
        let n = neither (state_refused b) (leb (visible_of b.page).0 line) v.0 in
        let o = passed (ltb (length out) (line_length b)) (Err Room) _ refl v.1 in
        record {
          page-ok = p.0;
          can-step = record { accepted = call_ok b (lent_check chars attrs f) s.0 p.0 n.0; visible = leb-false _ _ n.1; roomy = ltb-false _ _ o.0 };
        }

    board-is : m.board ≡ numbers_board numbers
    unfolding board_for numbers_check
    board-is = ap (λ (x : BoardAnswer). x.board) made ∙ rw (accepted.0, steps.page-ok)

    pub steppable : Steppable m.board chars attrs f line (length out)
    steppable = rw board-is steps.can-step

    pub stepped : (field : ℕ) {out' : List ℕ} → out' ≡ line_dots m.board chars attrs f line field ++ drop (line_length m.board) out
        → (r ≡ answer_of (line_draw_check numbers chars attrs f line (length out))) × (out' ≡ line_drawn numbers chars attrs f line field out)
    unfolding line_drawn drawn_of
    stepped field q = (e, rw (accepted.0, accepted.1) (rw board-is at q))

-- two calls with the contract of the call that draws
pub same-drawn : (numbers chars attrs : List ℕ) (f : Font) (line field : ℕ) (out other : List ℕ) {a b : Answer} {out' other' : List ℕ}
    → (a ≡ answer_of (line_draw_check numbers chars attrs f line (length out))) × (out' ≡ line_drawn numbers chars attrs f line field out)
    → (b ≡ answer_of (line_draw_check numbers chars attrs f line (length other))) × (other' ≡ line_drawn numbers chars attrs f line field other)
    → out ≡ other → ((eqb a.refusal b.refusal && eqb a.beside b.beside) ≡ true) × (out' ≡ other')
same-drawn numbers chars attrs f line field out other {a} {b} p q e =
    let same : a ≡ b = p.0 ∙ rw e (sym q.0) in
    (rw (eq-eqb _ _ (ap (λ (x : Answer). x.refusal) same), eq-eqb _ _ (ap (λ (x : Answer). x.beside) same)), p.1 ∙ rw e (sym q.1))
