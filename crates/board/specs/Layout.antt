-- 01, "Files": how a page is laid out, by its version.
use Rattle.std.specs.Prelude.{ℕ, ◌+◌, ◌-◌, eqb}
use Rattle.lists.specs.Choice.{pick}
use Rattle.board.specs.declared.Layout.{Layout}

-- versions from 1 to the newest are known; one that is not known counts as 1
abbrev pub newest_version : ℕ
newest_version = 3

-- [R-7 version] page file version 3 is version 2 with one more byte after the strike line; versions 1 and 2 are still read
-- 15 IRs, then screen start 1, cursor, screen start 2 (two bytes each), switches, dots, strike line, and in version 3 the chip
unfoldable pub layout_of : (version : ℕ) → Layout
layout_of version = record { irs = 15; rest = pick (eqb version 3) 10 9 }

-- where the IR pointer stays
abbrev pub last_ir : (version : ℕ) → ℕ
last_ir version = (layout_of version).irs - 1

-- what stands between a page file's length and its character memory
abbrev pub page_length : (version : ℕ) → ℕ
page_length version = (layout_of version).irs + (layout_of version).rest

-- the length: what follows it, with two memories of 16,384 bytes
abbrev pub length_field : (version : ℕ) → ℕ
length_field version = page_length version + 32768

-- where the two memories begin, after version and length, and the file's size
abbrev pub chars_place : (version : ℕ) → ℕ
chars_place version = page_length version + 5

abbrev pub attrs_place : (version : ℕ) → ℕ
attrs_place version = chars_place version + 16384

abbrev pub file_size : (version : ℕ) → ℕ
file_size version = length_field version + 5
