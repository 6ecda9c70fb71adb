-- Round trip of a font. Assumes nothing.
--     font-again     a font file's parts, written again, are the same bytes
use Rattle.std.specs.Prelude.{ℕ, ◌+◌, ◌*◌, ◌/◌, ◌%◌, ◌<◌, ◌≤◌, ◌≡◌, Bool, List, ◌++◌, ◌⊎◌, eqb, length, get_or, drop}
use Rattle.std.proofs.Math.Path.{refl}
use Rattle.std.proofs.Common.{sym, ap, ◌∙◌, inl, inr, eq-zero-or-pos, arith, eqb-true, take-append-drop, length-take, ext_get_or, get_or-drop, get_or-take}
use Rattle.std.proofs.Math.Bool.{true, false}
use Rattle.std.proofs.Math.Decide.{dec_lt}
use Rattle.std.proofs.lemmas.Bool.{eqb-false}
use Rattle.std.proofs.Math.ListN.{take, get_or-eq_default}
use Rattle.std.proofs.Math.Seq.{take-take}
use Rattle.lists.specs.Choice.{pick}
use Rattle.lists.specs.Tab.{length-tab, get_or-tab}
use Rattle.files.specs.Page.{word_at, version_in}
use Rattle.files.specs.File.{long_at, version_refused}
use Rattle.files.specs.FontFile.{words_of, byte_of, bytes_in, font_length, font_size, group_count, file_groups, font_in, font_file_of, file_font}
use Rattle.copies.specs.Put.{length_part}
use Rattle.files.specs.Laws.{version-known}
use Rattle.files.specs.FontLaws.{font-least, groups-rest}
use Rattle.files.specs.Round.{Bytes, word-high, word_low, word_kept, front-again, on}

-- ---- words and their bytes

high_byte : (ws : List ℕ) (i : ℕ) → byte_of ws (2 * i) ≡ get_or ws i 0 / 256
unfolding byte_of
high_byte ws i =
    let half : (2 * i) / 2 ≡ i = omega arith in
    let even : (2 * i) % 2 ≡ 0 = omega arith in
    rw (half, even)

low_byte : (ws : List ℕ) (i : ℕ) → byte_of ws (2 * i + 1) ≡ get_or ws i 0 % 256
unfolding byte_of
low_byte ws i =
    let half : (2 * i + 1) / 2 ≡ i = omega arith in
    let odd : (2 * i + 1) % 2 ≡ 1 = omega arith in
    rw (half, odd)

words-again : (ws : List ℕ) → length ws ≡ 1152 → words_of 1152 (bytes_in ws) ≡ ws
unfolding word_at
words-again ws n = ext_get_or 0 _ ws (length-tab 1152 _ ∙ sym n) (λ i l. one i (rw (length-tab 1152 _) at l))
  where
    one : (i : ℕ) → i < 1152 → get_or (words_of 1152 (bytes_in ws)) i 0 ≡ get_or ws i 0
    one i l =
        get_or-tab 1152 _ i l
        ∙ rw (get_or-tab 2304 (byte_of ws) (2 * i) (omega (arith, l)), get_or-tab 2304 (byte_of ws) (2 * i + 1) (omega (arith, l)), high_byte ws i, low_byte ws i)
        (word_kept (get_or ws i 0))

bytes-again : (bs : List ℕ) → Bytes bs → length bs ≡ 2304 → bytes_in (words_of 1152 bs) ≡ bs
bytes-again bs fits n = ext_get_or 0 _ bs (length-tab 2304 _ ∙ sym n) (λ i l. one i (rw (length-tab 2304 _) at l))
  where
    ws : List ℕ
    ws = words_of 1152 bs

    even : (j : ℕ) → j < 1152 → byte_of ws (2 * j) ≡ get_or bs (2 * j) 0
    even j l = high_byte ws j ∙ rw (get_or-tab 1152 (λ (i : ℕ). word_at bs (2 * i)) j l) (word-high bs fits (2 * j))

    odd : (j : ℕ) → j < 1152 → byte_of ws (2 * j + 1) ≡ get_or bs (2 * j + 1) 0
    odd j l = low_byte ws j ∙ rw (get_or-tab 1152 (λ (i : ℕ). word_at bs (2 * i)) j l) (word_low bs fits (2 * j))

    by-half : (i : ℕ) → i < 2304 → (i % 2 ≡ 0) ⊎ (0 < i % 2) → byte_of ws i ≡ get_or bs i 0
    by-half i l (inl e) =
        let k : 2 * (i / 2) ≡ i = omega (arith, e) in
        rw k at (even (i / 2) (omega (arith, l)))
    by-half i l (inr p) =
        let k : 2 * (i / 2) + 1 ≡ i = omega (arith, p) in
        rw k at (odd (i / 2) (omega (arith, l)))

    one : (i : ℕ) → i < 2304 → get_or (bytes_in ws) i 0 ≡ get_or bs i 0
    one i l = get_or-tab 2304 (byte_of ws) i l ∙ by-half i l (eq-zero-or-pos (i % 2))

-- ---- a file's parts

part_bytes : (f : List ℕ) (a n : ℕ) → Bytes f → Bytes (take n (drop a f))
part_bytes f a n fits i = go (dec_lt i n)
  where
    go : Dec (i < n) → get_or (take n (drop a f)) i 0 < 256
    go (yes l) = rw (get_or-take n (drop a f) i 0 l, get_or-drop a f i 0) (fits (a + i))
    go (no x) =
        let short : length (take n (drop a f)) ≤ i = omega (arith, length-take n (drop a f)) in
        rw (get_or-eq_default (take n (drop a f)) 0 short) (omega arith)

-- a file without groups, and one with them
module _ (f : List ℕ) (n : length f ≡ font_size (version_in f)) where
  pub groups-own : (lent : List ℕ) → (file_font f (font_in f lent)).groups ≡ file_groups f
  unfolding font_in
  groups-own lent = go (eqb (version_in f) 2)
    where
      go : (t : Bool) → take (pick t 16 0) (pick t (take (pick t 16 0) (drop 2455 f)) lent) ≡ take (pick t 16 0) (drop 2455 f)
      go true = take-take 16 16 (drop 2455 f) (omega arith)
      go false = refl

  pub groups-many : length (file_groups f) ≡ group_count (version_in f)
  groups-many = length_part f 2455 (group_count (version_in f)) (omega (arith, n))

  pub version-own : 1 ≤ version_in f → version_in f ≤ 2 → pick (eqb (length (file_groups f)) 0) 1 2 ≡ version_in f
  version-own a b = rw groups-many (go (eqb (version_in f) 2) refl)
    where
      go : (t : Bool) → eqb (version_in f) 2 ≡ t → pick (eqb (pick t 16 0) 0) 1 2 ≡ version_in f
      go true e = sym (eqb-true (version_in f) 2 e)
      go false e = omega (arith, a, b, eqb-false (version_in f) 2 e)

-- a font file's parts, written again, are the same bytes
pub font-again : (f : List ℕ) → Bytes f → length f ≡ font_size (version_in f) → version_refused f 2 ≡ false → long_at f 1 ≡ font_length (version_in f)
    → (lent : List ℕ) → font_file_of (file_font f (font_in f lent)) ≡ f
unfolding font_file_of font_in
font-again f fits n v e lent =
    let k = version-known f 2 v in
    let long : 2455 ≤ length f = font-least f n in
    let words = bytes-again (take 2304 (drop 5 f)) (part_bytes f 5 2304 fits) (length_part f 5 2304 (omega (arith, long))) in
    rw (groups-own f n lent, version-own f n k.0 k.1, groups-rest f n, words, on f 2446 9, on f 2437 9, on f 2309 128, on f 5 2304)
    (ap (λ (x : List ℕ). x ++ drop 5 f) (sym (front-again f fits (font_length (version_in f)) n e)) ∙ take-append-drop 5 f)
