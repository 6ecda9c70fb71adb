-- 01, "From cell to dots" (000): a cell's dots, six to twelve, D0 first.
use Rattle.std.specs.Prelude.{ℕ, zero, suc, ◌/◌, ◌%◌, Bool, List, [], ◌∷◌, ◌++◌, map, length, take, drop, replicate, eqb, ltb}
use Rattle.lists.specs.Choice.{pick}
use Rattle.video.specs.declared.Look.{Look}

-- n bits of w, lowest first
unfoldable pub bits : ℕ → ℕ → List ℕ
bits zero w = []
bits (suc n) w = (w % 2) ∷ bits n (w / 2)

-- with 11 or 12 dots a zero before D0
unfoldable pub lead : ℕ → List ℕ
lead d = pick (ltb 10 d) (0 ∷ []) []

-- [dots width] six to twelve dots, D0 first; with 11 or 12 a zero before D0, with 12 a zero after D9
-- d dots: D0 first, with 11 or 12 a zero before it, and with 12 a zero after D9
unfoldable pub cell_bits : ℕ → ℕ → List ℕ
cell_bits word d = take d (lead d ++ (bits 10 word ++ (0 ∷ [])))

-- [dots lines]
-- underline and strike light all dots of the cell, fillers too
unfoldable pub lit_bits : Bool → ℕ → ℕ → List ℕ
lit_bits lit word d = pick lit (replicate d 1) (cell_bits word d)

abbrev pub shade_of : (symbol surround bit : ℕ) → ℕ
shade_of symbol surround bit = pick (eqb bit 0) surround symbol

unfoldable pub cell_dots : Look → ℕ → ℕ → List ℕ
cell_dots look word d = map (shade_of look.symbol look.surround) (lit_bits look.lit word d)

-- ---- double width (02, R-4)

-- [R-4 width]
-- each dot comes twice
unfoldable pub twice : List ℕ → List ℕ
twice [] = []
twice (x ∷ xs) = x ∷ x ∷ twice xs

-- [R-4 width]
-- what a column shows of its cell's dots: all of them, or of each twice the left half, and on an odd column the right one
unfoldable pub column_of : (wide odd : Bool) → List ℕ → List ℕ
column_of wide odd dots = pick wide (pick odd (drop (length dots) (twice dots)) (take (length dots) (twice dots))) dots
