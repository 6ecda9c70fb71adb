-- The address registers: what is written is read, and the rest stays. Assumes nothing.
use Rattle.std.specs.Prelude.{ℕ, ◌%◌, ◌≤◌, ◌<◌, ◌≡◌, refl, Bool, true, false, ◌||◌, eqb, ltb, Result, Ok, Err}
use Rattle.std.proofs.Math.Path.{ap}
use Rattle.std.proofs.Common.{◌∙◌, arith}
use borrow.Author.Tests.{ne_eqb, eqb-true, eqb-false, le-ltb, ltb-false}
use Rattle.lists.specs.Choice.{pick, within, inside, over, neither, pick-lt}
use Rattle.refusal.specs.declared.Refusal.{Refusal}
use Rattle.refusal.specs.declared.Refusal.TheVariants.{Register}
use Rattle.refusal.specs.Number.{Checked, unrefused, after, check_of, value_or}
use Rattle.board.specs.declared.Starts.{Starts}
use Rattle.board.specs.declared.Board.{Board}
use Rattle.board.specs.Range.{starts_refused}
use Rattle.board.specs.Parts.{with_starts, with_page}
use Rattle.registers.specs.Write.{register_check, lower_of, upper_of, starts_after, started_of, active_of}
use Rattle.registers.specs.Read.{lower_shown, upper_shown, shown_at, read_at, read_of}
use Rattle.feldrime.specs.declared.BoardAnswer.{BoardAnswer}
use Rattle.feldrime.specs.declared.ByteAnswer.{ByteAnswer}
use Rattle.feldrime.specs.Answers.{board_answer, board_given, byte_answer}
use Rattle.feldrime.specs.Boards.{write_for, read_for}
use Rattle.callers_registers.specs.Ready.{Ready, writes, reads, parts, ready}

-- a lower register, at an even address, keeps the byte, an upper one its low six bits
abbrev pub kept_at : (address byte : ℕ) → ℕ
kept_at a v = pick (eqb (a % 2) 0) v (v % 64)

-- ---- one of the six addresses

each : (P : ℕ → Type 0) → P 2 → P 3 → P 4 → P 5 → P 6 → P 7 → (a : ℕ) → 2 ≤ a → a ≤ 7 → P a
each P p2 p3 p4 p5 p6 p7 a lo hi =
    or 2 lo p2 (λ h3. or 3 h3 p3 (λ h4. or 4 h4 p4 (λ h5. or 5 h5 p5 (λ h6. or 6 h6 p6 (λ h7. is 7 p7 (omega (arith, hi, h7)))))))
  where
    is : (k : ℕ) → P k → a ≡ k → P a
    is k p e = rw e p

    or : (k : ℕ) → k ≤ a → P k → (k < a → P a) → P a
    or k h p q = go (eqb a k) refl
      where
        go : (t : Bool) → eqb a k ≡ t → P a
        go true t = is k p (eqb-true a k t)
        go false t = q (omega (arith, h, eqb-false a k t))

module _ (s : Starts) (ok : starts_refused s ≡ false) (v : ℕ) (small : v < 256) where
  record Addresses : Type 0 where
    start1-le : s.start1 ≤ 16383
    cursor-le : s.cursor ≤ 16383
    start2-le : s.start2 ≤ 16383

  addresses : Addresses
  addresses =
      let two = neither (ltb 16383 s.start1 || ltb 16383 s.cursor) (ltb 16383 s.start2) ok in
      let one = neither (ltb 16383 s.start1) (ltb 16383 s.cursor) two.0 in
      record { start1-le = ltb-false _ _ one.0; cursor-le = ltb-false _ _ one.1; start2-le = ltb-false _ _ two.1 }

  in-range : (x y z : ℕ) → x ≤ 16383 → y ≤ 16383 → z ≤ 16383 → starts_refused (record { start1 = x; cursor = y; start2 = z }) ≡ false
  in-range x y z p q r = rw (le-ltb 16383 x p, le-ltb 16383 y q, le-ltb 16383 z r)

  -- a lower and an upper byte: in range, read again, and put back
  lower-le : (x : ℕ) → x ≤ 16383 → lower_of x v ≤ 16383
  lower-le x h = omega arith

  upper-le : (x : ℕ) → upper_of x v ≤ 16383
  upper-le x = omega arith

  lower-back : (x : ℕ) → lower_of (lower_of x v) (lower_shown x) ≡ x
  lower-back x = omega arith

  upper-back : (x : ℕ) → x ≤ 16383 → upper_of (upper_of x v) (upper_shown x) ≡ x
  upper-back x h = omega arith

  still : (a : ℕ) → 2 ≤ a → a ≤ 7 → starts_refused (starts_after s a v) ≡ false
  unfolding starts_after
  still =
      let p = addresses.start1-le in
      let q = addresses.cursor-le in
      let r = addresses.start2-le in
      each (λ a. starts_refused (starts_after s a v) ≡ false)
      (in-range _ _ _ (lower-le _ p) q r) (in-range _ _ _ (upper-le s.start1) q r)
      (in-range _ _ _ p (lower-le _ q) r) (in-range _ _ _ p (upper-le s.cursor) r)
      (in-range _ _ _ p q (lower-le _ r)) (in-range _ _ _ p q (upper-le s.start2))

  shown : (a : ℕ) → 2 ≤ a → a ≤ 7 → shown_at (starts_after s a v) a ≡ kept_at a v
  unfolding starts_after shown_at
  shown = each (λ a. shown_at (starts_after s a v) a ≡ kept_at a v) (omega arith) (omega arith) (omega arith) (omega arith) (omega arith) (omega arith)

  restored : (a : ℕ) → 2 ≤ a → a ≤ 7 → starts_after (starts_after s a v) a (shown_at s a) ≡ s
  unfolding starts_after shown_at
  restored =
      each (λ a. starts_after (starts_after s a v) a (shown_at s a) ≡ s)
      (λ i. record { start1 = lower-back s.start1 i; cursor = s.cursor; start2 = s.start2 })
      (λ i. record { start1 = upper-back s.start1 addresses.start1-le i; cursor = s.cursor; start2 = s.start2 })
      (λ i. record { start1 = s.start1; cursor = lower-back s.cursor i; start2 = s.start2 })
      (λ i. record { start1 = s.start1; cursor = upper-back s.cursor addresses.cursor-le i; start2 = s.start2 })
      (λ i. record { start1 = s.start1; cursor = s.cursor; start2 = lower-back s.start2 i })
      (λ i. record { start1 = s.start1; cursor = s.cursor; start2 = upper-back s.start2 addresses.start2-le i })

-- ---- the calls

shown-lt : (s : Starts) (a : ℕ) → shown_at s a < 256
unfolding shown_at
shown-lt s a =
    pick-lt 256 (eqb a 2) _ _ (omega arith)
    (pick-lt 256 (eqb a 3) _ _ (omega arith)
    (pick-lt 256 (eqb a 4) _ _ (omega arith)
    (pick-lt 256 (eqb a 5) _ _ (omega arith)
    (pick-lt 256 (eqb a 6) _ _ (omega arith) (omega arith)))))

-- whatever is read is a byte
pub read-lt : (b : Board) (a : ℕ) {x : ByteAnswer} → x ≡ read_for b a → x.byte < 256
unfolding read_of read_at
read-lt b a e = rw e (go (register_check b) (within 0 1 a) (within 2 7 a))
  where
    go : (r : Checked) (u w : Bool) → value_or 0 (after r (pick u (Ok 0) (pick w (Ok (shown_at b.page.starts a)) (Err Register)))) < 256
    go (Ok tt) true w = omega arith
    go (Ok tt) false true = shown-lt b.page.starts a
    go (Ok tt) false false = omega arith
    go (Err why) u w = omega arith

module _ {b : Board} (r : Ready b) (a : ℕ) (lo : 2 ≤ a) (hi : a ≤ 7) where
  put : (v : ℕ) → write_for b a v ≡ board_answer unrefused (started_of b a v)
  unfolding active_of
  put v =
      let not-0 = ne_eqb a 0 (λ e. omega (arith, e, lo)) in
      let not-1 = ne_eqb a 1 (λ e. omega (arith, e, lo)) in
      let done : active_of b a v ≡ Ok (started_of b a v) = rw (not-0, not-1, inside 2 7 a lo hi) in
      ap (λ (x : Result Board Refusal). board_given x b) (writes r a v ∙ done)

  seen : read_for b a ≡ byte_answer unrefused (shown_at b.page.starts a)
  unfolding read_at
  seen =
      let done : read_at b.page.starts a ≡ Ok (shown_at b.page.starts a) = rw (over 0 1 a (omega (arith, lo)), inside 2 7 a lo hi) in
      ap (λ (x : Result ℕ Refusal). byte_answer (check_of x) (value_or 0 x)) (reads r a ∙ done)

module _ {b : Board} (r : Ready b) (a : ℕ) (lo : 2 ≤ a) (hi : a ≤ 7) (v : ℕ) (small : v < 256) {one : BoardAnswer} (e : one ≡ write_for b a v) where
  abbrev s : Starts
  s = b.page.starts

  ok : starts_refused s ≡ false
  ok = (parts r).starts

  still-ready : Ready (started_of b a v)
  still-ready = ready (started_of b a v) r.active (record { starts = still s ok v small a lo hi; switches = (parts r).switches; video = (parts r).video; pointer = (parts r).pointer })

  there : one.board ≡ started_of b a v
  there = ap (λ (x : BoardAnswer). x.board) (e ∙ put r a lo hi v)

  pub read_again : {x : ByteAnswer} → x ≡ read_for one.board a → x ≡ byte_answer unrefused (kept_at a v)
  read_again q = q ∙ ap (λ (x : Board). read_for x a) there ∙ seen still-ready a lo hi ∙ ap (byte_answer unrefused) (shown s ok v small a lo hi)

  pub put_back : {x : ByteAnswer} → x ≡ read_for b a → {two : BoardAnswer} → two ≡ write_for one.board a x.byte → two ≡ board_answer unrefused b
  put_back {x} q p =
      let old : x.byte ≡ shown_at s a = ap (λ (y : ByteAnswer). y.byte) (q ∙ seen r a lo hi) in
      let back : starts_after (starts_after s a v) a x.byte ≡ s = ap (starts_after (starts_after s a v) a) old ∙ restored s ok v small a lo hi in
      p ∙ ap (λ (y : Board). write_for y a x.byte) there ∙ put still-ready a lo hi x.byte
      ∙ ap (λ (y : Starts). board_answer unrefused (with_page b (with_starts b.page y))) back
