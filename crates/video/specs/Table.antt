-- 000 Table 1, "Attributes Hierarchy", as the paper prints it: sixteen unblanked lines and three blanked ones. Assumes nothing.
--     one_line    each case stands in exactly one line, don't-cares included
--     by-rule     what its line gives is the rule of Levels
--     by-columns  the code's reading, column by column, comes to its line
use Rattle.std.specs.Prelude.{ℕ, ◌+◌, ◌-◌, ◌≡◌, refl, Bool, true, false, ◌&&◌, ◌||◌, List, [], ◌∷◌, eqb, get_or}
use Rattle.std.proofs.Math.Bool.{xor}
use Rattle.lists.specs.Choice.{pick}
use Rattle.video.specs.declared.Case.{Case}
use Rattle.video.specs.declared.TableLine.{TableLine}
use Rattle.video.specs.Levels.{symbol_level, surround_level, blank_level}

-- black, gray, white
abbrev pub B : ℕ
B = 0

abbrev pub G : ℕ
G = 1

abbrev pub W : ℕ
W = 2

-- don't care
abbrev pub d : ℕ
d = 2

abbrev pub line : (blank rblank bkgnd reverse ahilt nondisplay symbol surround : ℕ) → TableLine
line blank rblank bkgnd reverse ahilt nondisplay symbol surround = record {
  blank = blank;
  rblank = rblank;
  bkgnd = bkgnd;
  reverse = reverse;
  ahilt = ahilt;
  nondisplay = nondisplay;
  symbol = symbol;
  surround = surround;
}

-- [R-3 table] the level decision is made visibly from the table's sixteen unblanked lines and three blanked ones
-- BLANK, RBLANK, BKGND, REVERSE, AHILT, NON-DISPLAY, then SYMBOL (underline and strike-through too) and SURROUND
unfoldable pub table1 : List TableLine
table1 =
    line 0 d 0 0 0 0 G B  -- 1
    ∷ line 0 d 0 0 0 1 B B  -- 2
    ∷ line 0 d 0 0 1 0 W B  -- 3
    ∷ line 0 d 0 0 1 1 B B  -- 4
    ∷ line 0 d 0 1 0 0 B G  -- 5
    ∷ line 0 d 0 1 0 1 G G  -- 6
    ∷ line 0 d 0 1 1 0 B W  -- 7
    ∷ line 0 d 0 1 1 1 W W  -- 8
    ∷ line 0 d 1 0 0 0 B G  -- 9
    ∷ line 0 d 1 0 0 1 G G  -- 10
    ∷ line 0 d 1 0 1 0 B W  -- 11
    ∷ line 0 d 1 0 1 1 W W  -- 12
    ∷ line 0 d 1 1 0 0 G B  -- 13
    ∷ line 0 d 1 1 0 1 B B  -- 14
    ∷ line 0 d 1 1 1 0 W B  -- 15
    ∷ line 0 d 1 1 1 1 B B  -- 16
    ∷ line 1 0 0 d d d B B  -- 17
    ∷ line 1 0 1 d d d G G  -- 18
    ∷ line 1 1 d d d d B B  -- 19
    ∷ []

-- ---- deciding by it

abbrev pub meets : (mark : ℕ) → Bool → Bool
meets mark t = eqb mark d || eqb mark (pick t 1 0)

-- the case stands in the line
abbrev pub stands_in : Case → TableLine → Bool
stands_in k l =
    meets l.blank k.blank
    && meets l.rblank k.rblank
    && meets l.bkgnd k.bkgnd
    && meets l.reverse k.reverse
    && meets l.ahilt k.ahilt
    && meets l.nondisplay k.nondisplay

-- in how many lines it stands
abbrev pub count_in : Case → List TableLine → ℕ
count_in k [] = 0
count_in k (l ∷ ls) = pick (stands_in k l) 1 0 + count_in k ls

-- the line that it stands in
abbrev standing : Case → TableLine → List TableLine → TableLine
standing k last [] = last
standing k last (l ∷ ls) = pick (stands_in k l) l (standing k last ls)

-- [R-3 table]
unfoldable pub decided : Case → TableLine
decided k = standing k (line d d d d d d B B) table1

-- ---- by its columns, as the code reads it

-- of two sides whose lines differ in a column, the one whose mark there, the first side's, is met by the input
abbrev pub of_two : (mark : ℕ) → Bool → TableLine → TableLine → TableLine
of_two mark t a b = pick (meets mark t) a b

-- of eight lines that count upward in the last three columns
unfoldable pub of_eight : Case → (l1 l2 l3 l4 l5 l6 l7 l8 : TableLine) → TableLine
of_eight k l1 l2 l3 l4 l5 l6 l7 l8 =
    of_two l1.reverse k.reverse
    (of_two l1.ahilt k.ahilt (of_two l1.nondisplay k.nondisplay l1 l2) (of_two l3.nondisplay k.nondisplay l3 l4))
    (of_two l5.ahilt k.ahilt (of_two l5.nondisplay k.nondisplay l5 l6) (of_two l7.nondisplay k.nondisplay l7 l8))

-- of all: the dark and the light line that were found, and the three blanked lines
unfoldable pub of_all : Case → (l1 l17 l18 l19 dark light : TableLine) → TableLine
of_all k l1 l17 l18 l19 dark light =
    of_two l1.blank k.blank
    (of_two l1.bkgnd k.bkgnd dark light)
    (of_two l17.rblank k.rblank (of_two l17.bkgnd k.bkgnd l17 l18) l19)

-- ---- what holds of every case

-- a line by its number
abbrev numbered : ℕ → TableLine
numbered i = get_or table1 (i - 1) (line d d d d d d B B)

abbrev by_columns : Case → TableLine
by_columns k =
    of_all k (numbered 1) (numbered 17) (numbered 18) (numbered 19)
    (of_eight k (numbered 1) (numbered 2) (numbered 3) (numbered 4) (numbered 5) (numbered 6) (numbered 7) (numbered 8))
    (of_eight k (numbered 9) (numbered 10) (numbered 11) (numbered 12) (numbered 13) (numbered 14) (numbered 15) (numbered 16))

-- the rule of Levels
abbrev symbol_by : Case → ℕ
symbol_by k = pick k.blank (blank_level k.rblank k.bkgnd) (symbol_level (xor k.bkgnd k.reverse) k.ahilt k.nondisplay)

abbrev surround_by : Case → ℕ
surround_by k = pick k.blank (blank_level k.rblank k.bkgnd) (surround_level (xor k.bkgnd k.reverse) k.ahilt)

abbrev Fine : Case → Type 0
Fine k = (count_in k table1 ≡ 1) × (((decided k).symbol ≡ symbol_by k) × ((decided k).surround ≡ surround_by k)) × (by_columns k ≡ decided k)

abbrev pub case_of : (blank rblank bkgnd reverse ahilt nondisplay : Bool) → Case
case_of a b c r h n = record { blank = a; rblank = b; bkgnd = c; reverse = r; ahilt = h; nondisplay = n }

-- a line of the table each
in-each : (a b c r h n : Bool) → Fine (case_of a b c r h n)
unfolding table1 decided of_eight of_all xor
in-each false b false false false false = (refl, (refl, refl), refl)
in-each false b false false false true = (refl, (refl, refl), refl)
in-each false b false false true false = (refl, (refl, refl), refl)
in-each false b false false true true = (refl, (refl, refl), refl)
in-each false b false true false false = (refl, (refl, refl), refl)
in-each false b false true false true = (refl, (refl, refl), refl)
in-each false b false true true false = (refl, (refl, refl), refl)
in-each false b false true true true = (refl, (refl, refl), refl)
in-each false b true false false false = (refl, (refl, refl), refl)
in-each false b true false false true = (refl, (refl, refl), refl)
in-each false b true false true false = (refl, (refl, refl), refl)
in-each false b true false true true = (refl, (refl, refl), refl)
in-each false b true true false false = (refl, (refl, refl), refl)
in-each false b true true false true = (refl, (refl, refl), refl)
in-each false b true true true false = (refl, (refl, refl), refl)
in-each false b true true true true = (refl, (refl, refl), refl)
in-each true false false r h n = (refl, (refl, refl), refl)
in-each true false true r h n = (refl, (refl, refl), refl)
in-each true true c r h n = (refl, (refl, refl), refl)

fine : (k : Case) → Fine k
fine k = in-each k.blank k.rblank k.bkgnd k.reverse k.ahilt k.nondisplay

-- [R-3 table]
-- every case of the six inputs stands in exactly one line, don't-cares included
pub one_line : (k : Case) → count_in k table1 ≡ 1
one_line k = (fine k).0

-- [R-3 table]
-- what the line gives are the levels of the rule
pub by-rule : (k : Case) → ((decided k).symbol ≡ symbol_by k) × ((decided k).surround ≡ surround_by k)
by-rule k = (fine k).1

-- [R-3 table]
-- the code's reading, column by column, comes to that line
pub by-columns : (k : Case) → by_columns k ≡ decided k
by-columns k = (fine k).2

-- the calls that read the table, one after the other
pub read : (k : Case) {l1 l2 l3 l4 l5 l6 l7 l8 l9 l10 l11 l12 l13 l14 l15 l16 l17 l18 l19 dark light shown border blanked found : TableLine}
    → l1 ≡ numbered 1
    → l2 ≡ numbered 2
    → l3 ≡ numbered 3
    → l4 ≡ numbered 4
    → l5 ≡ numbered 5
    → l6 ≡ numbered 6
    → l7 ≡ numbered 7
    → l8 ≡ numbered 8
    → l9 ≡ numbered 9
    → l10 ≡ numbered 10
    → l11 ≡ numbered 11
    → l12 ≡ numbered 12
    → l13 ≡ numbered 13
    → l14 ≡ numbered 14
    → l15 ≡ numbered 15
    → l16 ≡ numbered 16
    → l17 ≡ numbered 17
    → l18 ≡ numbered 18
    → l19 ≡ numbered 19
    → dark ≡ of_eight k l1 l2 l3 l4 l5 l6 l7 l8
    → light ≡ of_eight k l9 l10 l11 l12 l13 l14 l15 l16
    → shown ≡ of_two l1.bkgnd k.bkgnd dark light
    → border ≡ of_two l17.bkgnd k.bkgnd l17 l18
    → blanked ≡ of_two l17.rblank k.rblank border l19
    → found ≡ of_two l1.blank k.blank shown blanked
    → found ≡ decided k
unfolding of_all
read k e1 e2 e3 e4 e5 e6 e7 e8 e9 e10 e11 e12 e13 e14 e15 e16 e17 e18 e19 d l s b x f =
    rw (f, x, b, s, l, d, e1, e2, e3, e4, e5, e6, e7, e8, e9, e10, e11, e12, e13, e14, e15, e16, e17, e18, e19) (by-columns k)
