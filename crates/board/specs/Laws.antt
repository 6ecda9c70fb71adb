-- What callers use of the refusals and of a page's layout. Assumes nothing.
use Rattle.std.specs.Prelude.{ℕ, ◌+◌, ◌≤◌, ◌≡◌, refl, Bool, true, false, ◌||◌, eqb}
use Rattle.std.proofs.Common.{arith, eqb-true}
use Rattle.std.proofs.lemmas.Bool.{not-false}
use Rattle.lists.specs.Choice.{pick, neither}
use Rattle.board.specs.declared.Layout.{Layout}
use Rattle.board.specs.declared.Page.{Page}
use Rattle.board.specs.Layout.{layout_of, page_length}
use Rattle.board.specs.Modes.{version_of}
use Rattle.board.specs.Range.{memory_refused, memories_refused}

-- a memory that is not refused is whole
pub memory-all : (n : ℕ) → memory_refused n ≡ false → n ≡ 16384
memory-all n e = eqb-true _ _ (not-false _ e)

pub memories-all : (chars attrs : ℕ) → memories_refused chars attrs ≡ false → (chars ≡ 16384) × (attrs ≡ 16384)
memories-all chars attrs e =
    let n = neither (memory_refused chars) (memory_refused attrs) e in
    (memory-all chars n.0, memory-all attrs n.1)

-- every layout has the IRs that a register field is read from, and a record has room for them all
pub record LayoutFits (version : ℕ) : Type 0 where
  pub irs-some : 11 ≤ (layout_of version).irs
  pub irs-most : (layout_of version).irs ≤ 15
  pub rest_some : 9 ≤ (layout_of version).rest
  pub rest-most : (layout_of version).rest ≤ 10
  pub page-most : page_length version ≤ 31

pub layout-fits : (version : ℕ) → LayoutFits version
unfolding layout_of
layout-fits version = record { irs-some = omega arith; irs-most = omega arith; rest_some = (rest (eqb version 3)).0; rest-most = (rest (eqb version 3)).1; page-most = (rest (eqb version 3)).2 }
  where
    rest : (t : Bool) → (9 ≤ pick t 10 9) × (pick t 10 9 ≤ 10) × (15 + pick t 10 9 ≤ 31)
    rest true = (omega arith, omega arith, omega arith)
    rest false = (omega arith, omega arith, omega arith)

-- a version that is not known has the layout of the version that it counts as
pub layout-kept : (p : Page) → layout_of (version_of p) ≡ layout_of p.version
unfolding layout_of
layout-kept p = go (eqb p.version 2) (eqb p.version 3) refl
  where
    go : (two three : Bool) → eqb p.version 3 ≡ three
        → ◌≡◌ {A = Layout} (record { irs = 15; rest = pick (eqb (pick (two || three) p.version 1) 3) 10 9 }) (record { irs = 15; rest = pick three 10 9 })
    go true three e = rw e
    go false true e = rw e
    go false false e = refl
