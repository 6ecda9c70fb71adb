-- The cell as it is stored: every width is the low d bits of one number, and several dots are the bytes of another.
-- `Width` and `Spread` tie this to the definition. Assumes nothing.
use Rattle.lists.specs.Tab.{tab}
use Rattle.std.specs.Prelude.{ℕ, zero, suc, max, ◌+◌, ◌*◌, ◌-◌, ◌/◌, ◌%◌, Bool, List, [], ◌∷◌, ◌++◌, take, ltb}
use Rattle.std.specs.Int.Bits.{bit_xor}
use Rattle.lists.specs.Choice.{pick}
use Rattle.video.specs.declared.Look.{Look}
use Rattle.video.specs.Cell.{shade_of}

-- the number whose low d bits are the cell's dots, where no line lights them
unfoldable pub wide_of : ℕ → ℕ → ℕ
wide_of w d = pick (ltb 10 d) (2 * w) w

-- a lit cell shows its symbol's level only
abbrev pub under_of : Look → ℕ
under_of k = pick k.lit k.symbol k.surround

-- n bits of w, each in a byte of its own, lowest first
unfoldable pub spread_of : ℕ → ℕ → ℕ
spread_of zero w = 0
spread_of (suc n) w = w % 2 + 256 * spread_of n (w / 2)

-- n dots from the low bits of w, each in a byte of its own, lowest first
unfoldable pub blend_of : (symbol surround n w : ℕ) → ℕ
blend_of symbol surround zero w = 0
blend_of symbol surround (suc n) w = shade_of symbol surround (w % 2) + 256 * blend_of symbol surround n (w / 2)

-- bytes of 0 and 1, eight of them, to bytes of two levels
abbrev pub mix_of : (s symbol surround : ℕ) → ℕ
mix_of s symbol surround = s * symbol + (72340172838076673 - s) * surround

-- n bytes of v, the lowest first
unfoldable pub bytes_of : ℕ → ℕ → List ℕ
bytes_of zero v = []
bytes_of (suc n) v = (v % 256) ∷ bytes_of n (v / 256)

-- d bytes: of the first n the front, then the last n
unfoldable pub overlap_of : (n d first last : ℕ) → List ℕ
overlap_of n d first last = take (d - n) (bytes_of n first) ++ bytes_of n last

-- what eight dots are made from: a mask for each byte, then the surround of each of sixteen looks, and what makes the symbol of it.
-- Look l has the symbol's level l % 4 and the surround's l / 4.
unfoldable pub ink_of : ℕ → ℕ
ink_of i =
    pick (ltb i 256) (255 * spread_of 8 i)
    (pick (ltb i 272) (72340172838076673 * (i % 16 / 4)) (72340172838076673 * bit_xor (i % 16 / 4) (i % 4)))

-- how many dots are stored for a cell of d
abbrev pub reach_of : (tight : Bool) → (d : ℕ) → ℕ
reach_of tight d = pick tight d (max d 8)

-- all of them
abbrev pub ink_table : List ℕ
ink_table = tab 288 ink_of
