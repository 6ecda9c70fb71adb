-- A board that is active and that register calls take. Assumes nothing.
use Rattle.std.specs.Prelude.{ℕ, ◌/◌, ◌≤◌, ◌<◌, ◌≡◌, refl, Bool, true, false, ◌||◌, ltb, Err}
use Rattle.std.proofs.Common.{arith, le-leb, lt-ltb, le-ltb, ltb-true, ltb-false}
use Rattle.lists.specs.Choice.{neither}
use Rattle.refusal.specs.Number.{unrefused}
use Rattle.refusal.specs.declared.Refusal.TheVariants.{Range, Address}
use Rattle.refusal.specs.Laws.{passed}
use Rattle.board.specs.declared.Board.{Board}
use Rattle.board.specs.Range.{starts_refused, switches_refused, video_refused, address_refused, pointer_refused}
use Rattle.registers.specs.Write.{register_check, active_of, write_of}
use Rattle.registers.specs.Read.{read_at, read_of}

pub record Ready (b : Board) : Type 0 where
  pub active : 2 ≤ b.resets
  pub taken : register_check b ≡ unrefused

pub writes : {b : Board} → Ready b → (a v : ℕ) → write_of b a v ≡ active_of b a v
unfolding write_of
writes {b} r a v = rw (r.taken, le-leb 2 b.resets r.active)

pub reads : {b : Board} → Ready b → (a : ℕ) → read_of b a ≡ read_at b.page.starts a
unfolding read_of
reads r a = rw r.taken

-- ---- the parts of the check

pub record Parts (b : Board) : Type 0 where
  pub starts : starts_refused b.page.starts ≡ false
  pub switches : switches_refused b.page.version b.page.switches ≡ false
  pub video : video_refused b.page.version b.page.video ≡ false
  pub pointer : pointer_refused b.page b.pointer ≡ false

pub parts : {b : Board} → Ready b → Parts b
unfolding register_check address_refused
parts {b} r =
    let a = passed (address_refused b.page) (Err Address) _ refl r.taken in
    let p = passed (pointer_refused b.page b.pointer) (Err Range) _ refl a.1 in
    let three = neither (starts_refused b.page.starts || switches_refused b.page.version b.page.switches) (video_refused b.page.version b.page.video) a.0 in
    let two = neither (starts_refused b.page.starts) (switches_refused b.page.version b.page.switches) three.0 in
    record { starts = two.0; switches = two.1; video = three.1; pointer = p.0 }

pub ready : (b : Board) → 2 ≤ b.resets → Parts b → Ready b
unfolding register_check address_refused
ready b h p = record { active = h; taken = rw (p.starts, p.switches, p.video, p.pointer) }

-- switches are judged by the upper four alone
ltb-same : (k x y : ℕ) → (k < y → k < x) → (y ≤ k → x ≤ k) → ltb k x ≡ ltb k y
ltb-same k x y more less = go (ltb k y) refl
  where
    go : (t : Bool) → ltb k y ≡ t → ltb k x ≡ t
    go true t = lt-ltb k x (more (ltb-true k y t))
    go false t = le-ltb k x (less (ltb-false k y t))

pub judged : (version x y : ℕ) → x / 16 ≡ y / 16 → switches_refused version x ≡ switches_refused version y
judged version x y e = rw (ltb-same 63 x y (λ h. omega arith) (λ h. omega arith), ltb-same 15 x y (λ h. omega arith) (λ h. omega arith))
