-- What commands do. Assumes nothing.
use Rattle.std.specs.Prelude.{ℕ, ◌+◌, ◌-◌, ◌*◌, ◌/◌, ◌%◌, ◌≤◌, ◌<◌, ◌≡◌, Bool, ◌&&◌, ◌||◌, ◌∷◌, replicate, set, eqb, leb, Result, Ok, Err}
use Rattle.std.proofs.Math.Path.{refl, ap}
use Rattle.std.proofs.Common.{◌∙◌, true≢false, arith}
use Rattle.std.proofs.Math.Bool.{true, false, not}
use borrow.Author.Tests.{ne_eqb, leb-true, le-ltb}
use Rattle.lists.specs.Choice.{pick, within, has_bit, inside, over, both, neither, pick-lt}
use Rattle.units.specs.Units.{dots}
use Rattle.refusal.specs.Number.{unrefused}
use Rattle.refusal.specs.declared.Refusal.{Refusal}
use Rattle.refusal.specs.declared.Refusal.TheVariants.{Command}
use Rattle.board.specs.declared.Page.{Page}
use Rattle.board.specs.declared.Board.{Board}
use Rattle.board.specs.State.{clock_zero, power_of}
use Rattle.board.specs.Layout.{layout_of, last_ir}
use Rattle.board.specs.Range.{address_refused, pointer_refused}
use Rattle.board.specs.Laws.{layout-fits}
use Rattle.board.specs.Parts.{with_irs, with_switches, with_page, with_pointer}
use Rattle.registers.specs.Write.{register_check, pointed_of, switches_after, switched_of, command_of, next_pointer, active_of, inactive_of, write_of}
use Rattle.feldrime.specs.declared.BoardAnswer.{BoardAnswer}
use Rattle.feldrime.specs.Answers.{board_answer, board_given}
use Rattle.feldrime.specs.Boards.{write_for}
use Rattle.callers_registers.specs.Ready.{Ready, writes, parts, ready, judged}

-- the board that power gives, active, with a byte in IR0 and the pointer at IR1
abbrev pub loaded_first : ℕ → Board
loaded_first byte = record {
  page = record {
    version = 1;
    irs = byte ∷ replicate 14 0;
    starts = record { start1 = 0; cursor = 0; start2 = 0 };
    switches = 0;
    video = record { dots = dots 0; strike = 0; chip = 0 };
  };
  place = clock_zero;
  pointer = 1;
  resets = 2;
}

-- a byte in one register, and the pointer at the next
abbrev pub loaded_at : Board → (n byte : ℕ) → Board
loaded_at b n byte = with_pointer (with_page b (with_irs b.page (set b.page.irs n byte))) (next_pointer (last_ir b.page.version) n)

-- of 20 to 3F hex those that name display or cursor, by bits 3 and 4, and not graphics, by bit 1
abbrev pub switching : ℕ → Bool
switching v = within 32 63 v && (eqb (v / 2 % 2) 0 && not (eqb (v / 8 % 4) 0))

-- what the last of two commands says that names a switch; where none does, what it was
abbrev last_said : (weight first second old : ℕ) → ℕ
last_said weight first second old = pick (has_bit second weight) (second % 2) (pick (has_bit first weight) (first % 2) old)

abbrev pub switched_by : Board → (first second : ℕ) → Board
switched_by b first second =
    let s = b.page.switches in
    with_page b (with_switches b.page (s / 4 * 4 + 2 * last_said 16 first second (s / 2 % 2) + last_said 8 first second (s % 2)))

-- the reset, the loads of a pointer that the page has, and these
abbrev pub carried : Page → ℕ → Bool
carried p v = eqb v 0 || (within 16 31 v && not (pointer_refused p (v - 16)) || switching v)

-- ---- two resets, and one

module _ {off : Board} {once : BoardAnswer} (p : off ≡ power_of) (q : once ≡ write_for off 1 0) where
  pub wakes : (byte : ℕ) {twice r : BoardAnswer} → twice ≡ write_for once.board 1 0 → r ≡ write_for twice.board 0 byte → r ≡ board_answer unrefused (loaded_first byte)
  unfolding write_of register_check address_refused active_of inactive_of command_of layout_of
  wakes byte e g =
      let one = q ∙ ap (λ (x : Board). write_for x 1 0) p in
      let two = e ∙ ap (λ (x : BoardAnswer). write_for x.board 1 0) one in
      g ∙ ap (λ (x : BoardAnswer). write_for x.board 0 byte) two

  pub wakes-not : (byte : ℕ) {r : BoardAnswer} → r ≡ write_for once.board 0 byte → r ≡ board_answer unrefused power_of
  unfolding write_of register_check address_refused inactive_of layout_of
  wakes-not byte g = g ∙ ap (λ (x : BoardAnswer). write_for x.board 0 byte) (q ∙ ap (λ (x : Board). write_for x 1 0) p)

-- ---- an active board

module _ {b : Board} (r : Ready b) where
  commanded : (v : ℕ) → write_for b 1 v ≡ board_given (command_of b v) b
  unfolding active_of
  commanded v = ap (λ (x : Result Board Refusal). board_given x b) (writes r 1 v)

  pub refused : (v : ℕ) → carried b.page v ≡ false → {x : BoardAnswer} → x ≡ write_for b 1 v → x ≡ board_answer (Err Command) b
  unfolding command_of
  refused v e q =
      let zero = neither (eqb v 0) (within 16 31 v && not (pointer_refused b.page (v - 16)) || switching v) e in
      let pointer = neither (within 16 31 v && not (pointer_refused b.page (v - 16))) (switching v) zero.1 in
      let last = go (within 32 63 v) (eqb (v / 2 % 2) 0 && not (eqb (v / 8 % 4) 0)) pointer.1 in
      let is : command_of b v ≡ Err Command = rw zero.0 (points (within 16 31 v) (pointer_refused b.page (v - 16)) pointer.0 _ last) in
      q ∙ commanded v ∙ ap (λ (x : Result Board Refusal). board_given x b) is
    where
      points : (t u : Bool) → (t && not u) ≡ false → (x : Result Board Refusal) → x ≡ Err Command
          → pick t (pick u (Err Command) (Ok (pointed_of b (v - 16)))) x ≡ Err Command
      points true true p x e = refl
      points true false p x e = absurd (true≢false p)
      points false u p x e = e

      go : (t u : Bool) → (t && u) ≡ false → pick t (pick u (Ok (switched_of b v)) (Err Command)) (Err Command) ≡ Err Command
      go true u p = rw p
      go false u p = refl

  module _ (v : ℕ) (lo : 16 ≤ v) (hi : v ≤ last_ir b.page.version + 16) where
    fine : pointer_refused b.page (v - 16) ≡ false
    fine = le-ltb (last_ir b.page.version) (v - 16) (omega (arith, hi))

    pointed : write_for b 1 v ≡ board_answer unrefused (pointed_of b (v - 16))
    unfolding command_of
    pointed = commanded v ∙ rw (ne_eqb v 0 (λ e. omega (arith, e, lo)), inside 16 31 v lo (omega (arith, hi, (layout-fits b.page.version).irs-most)), fine)

    ready-pointed : Ready (pointed_of b (v - 16))
    ready-pointed =
        let p = parts r in
        ready (pointed_of b (v - 16)) r.active (record { starts = p.starts; switches = p.switches; video = p.video; pointer = fine })

    pub loaded : (byte : ℕ) {one two : BoardAnswer} → one ≡ write_for b 1 v → two ≡ write_for one.board 0 byte → two ≡ board_answer unrefused (loaded_at b (v - 16) byte)
    unfolding active_of
    loaded byte e q =
        q ∙ ap (λ (x : BoardAnswer). write_for x.board 0 byte) (e ∙ pointed)
        ∙ ap (λ (x : Result Board Refusal). board_given x (pointed_of b (v - 16))) (writes ready-pointed 0 byte)

-- ---- display and cursor

-- the two switches, with the others kept
module _ (s cursor display : ℕ) (c : cursor < 2) (d : display < 2) where
  abbrev joined : ℕ
  joined = s / 4 * 4 + 2 * cursor + display

  parts-of : (joined / 4 ≡ s / 4) × (joined / 2 % 2 ≡ cursor) × (joined % 2 ≡ display)
  parts-of = (omega (arith, c, d), omega (arith, c, d), omega (arith, c, d))

module _ (s v : ℕ) where
  after : (switches_after s v / 4 ≡ s / 4)
      × (switches_after s v / 2 % 2 ≡ pick (has_bit v 16) (v % 2) (s / 2 % 2))
      × (switches_after s v % 2 ≡ pick (has_bit v 8) (v % 2) (s % 2))
  after =
      parts-of s (pick (has_bit v 16) (v % 2) (s / 2 % 2)) (pick (has_bit v 8) (v % 2) (s % 2))
      (pick-lt 2 (has_bit v 16) (v % 2) (s / 2 % 2) (omega arith) (omega arith)) (pick-lt 2 (has_bit v 8) (v % 2) (s % 2) (omega arith) (omega arith))

module _ {b : Board} (r : Ready b) (v : ℕ) (e : switching v ≡ true) where
  switches-set : write_for b 1 v ≡ board_answer unrefused (switched_of b v)
  unfolding command_of
  switches-set =
      let t = both (within 32 63 v) (eqb (v / 2 % 2) 0 && not (eqb (v / 8 % 4) 0)) e in
      let lo : 32 ≤ v = leb-true _ _ (both (leb 32 v) (leb v 63) t.0).0 in
      commanded r v ∙ rw (ne_eqb v 0 (λ q. omega (arith, q, lo)), over 16 31 v (omega (arith, lo)), t.0, t.1)

  ready-switched : Ready (switched_of b v)
  ready-switched =
      let p = parts r in
      let s = b.page.switches in
      let upper : switches_after s v / 16 ≡ s / 16 = omega (arith, (after s v).0) in
      ready (switched_of b v) r.active (record { starts = p.starts; switches = judged b.page.version (switches_after s v) s upper ∙ p.switches; video = p.video; pointer = p.pointer })

module _ {b : Board} (r : Ready b) (v w : ℕ) (e : switching v ≡ true) (f : switching w ≡ true) where
  pub switched : {one two : BoardAnswer} → one ≡ write_for b 1 v → two ≡ write_for one.board 1 w → two ≡ board_answer unrefused (switched_by b v w)
  switched q p =
      let s = b.page.switches in
      let a = after s v in
      let same : switches_after (switches_after s v) w ≡ (switched_by b v w).page.switches = rw (a.0, a.1, a.2) in
      p ∙ ap (λ (x : BoardAnswer). write_for x.board 1 w) (q ∙ switches-set r v e) ∙ switches-set (ready-switched r v e) w f
      ∙ ap (λ (k : ℕ). board_answer unrefused (with_page b (with_switches b.page k))) same
