-- Double width, once for every cell width (02, R-4). Assumes nothing.
--     twice-at       dot i of the doubled cell is dot i / 2
--     both-columns   a cell's two columns together are each dot twice
--     column-at      dot i of a column, by the cell's
--     middle-shared  with an odd width the last dot of the left half and the first of the right half are the cell's middle one
use Rattle.std.specs.Prelude.{ℕ, zero, suc, ◌+◌, ◌*◌, ◌/◌, ◌<◌, ◌≡◌, refl, Bool, true, false, List, [], ◌∷◌, ◌++◌, length, get_or}
use Rattle.std.proofs.Common.{◌∙◌, arith, length-drop, take-append-drop, get_or-drop, get_or-take, length-take-le}
use Rattle.lists.specs.Choice.{pick}
use Rattle.video.specs.Cell.{twice, column_of}

pub length-twice : (xs : List ℕ) → length (twice xs) ≡ 2 * length xs
unfolding twice
length-twice [] = refl
length-twice (x ∷ xs) = let e = length-twice xs in omega (arith, e)

pub twice-at : (xs : List ℕ) (i : ℕ) → get_or (twice xs) i 0 ≡ get_or xs (i / 2) 0
unfolding twice
twice-at [] i = refl
twice-at (x ∷ xs) zero = refl
twice-at (x ∷ xs) (suc zero) = refl
twice-at (x ∷ xs) (suc (suc i)) =
    let e : suc (suc i) / 2 ≡ suc (i / 2) = omega arith in
    rw e (twice-at xs i)

-- [R-4 width]
-- a cell's even and odd column
pub both-columns : (xs : List ℕ) → column_of true false xs ++ column_of true true xs ≡ twice xs
unfolding column_of
both-columns xs = take-append-drop (length xs) (twice xs)

pub length-column : (wide odd : Bool) (xs : List ℕ) → length (column_of wide odd xs) ≡ length xs
unfolding column_of
length-column false odd xs = refl
length-column true true xs = let e = length-twice xs in length-drop (length xs) (twice xs) ∙ omega (arith, e)
length-column true false xs = let e = length-twice xs in length-take-le (length xs) (twice xs) (omega (arith, e))

pub column-plain : (odd : Bool) (xs : List ℕ) → column_of false odd xs ≡ xs
unfolding column_of
column-plain odd xs = refl

-- which of the cell's dots stands at place i of a column
abbrev pub dot_of : (wide odd : Bool) → (d i : ℕ) → ℕ
dot_of wide odd d i = pick wide ((pick odd d 0 + i) / 2) i

pub column-at : (wide odd : Bool) (xs : List ℕ) (i : ℕ) → i < length xs → get_or (column_of wide odd xs) i 0 ≡ get_or xs (dot_of wide odd (length xs) i) 0
unfolding column_of
column-at false odd xs i h = refl
column-at true true xs i h = get_or-drop (length xs) (twice xs) i 0 ∙ twice-at xs (length xs + i)
column-at true false xs i h =
    let z : 0 + i ≡ i = omega arith in
    rw z (get_or-take (length xs) (twice xs) i 0 h ∙ twice-at xs i)

-- the middle dot of an odd width is in both halves
pub middle-shared : (n : ℕ) → (dot_of true false (2 * n + 1) (2 * n) ≡ n) × (dot_of true true (2 * n + 1) 0 ≡ n)
middle-shared n = (omega arith, omega arith)
