-- 01, "Refusal numbers", and 02, R-2 and R-5: the number of each row, what stands beside it, and what a check answers.
use Rattle.std.specs.Prelude.{ℕ, Bool, Result, Ok, Err}
use Rattle.lists.specs.Choice.{pick}
use Rattle.refusal.specs.declared.Refusal.{Refusal}
use Rattle.refusal.specs.declared.Refusal.TheVariants.{Version, Length, Size, Reserved, BackPorch, LineShort, FrontPorch, Width, Range, Room, Register, Command, Address, Kind, Stretch, Apart, Coded}

-- what a check answers: Ok where nothing is refused, else why
abbrev pub Checked : Type 0
Checked = Result (Unit {0}) Refusal

abbrev pub unrefused : Checked
unrefused = Ok tt

-- what a call answers that is refused or gives a value: the value where its check refuses nothing, else the refusal
abbrev pub given : {A : Type 0} → Checked → A → Result A Refusal
given (Ok x) a = Ok a
given (Err why) a = Err why

-- the same where what comes after the check may be refused too
abbrev pub after : {A : Type 0} → Checked → Result A Refusal → Result A Refusal
after (Ok x) r = r
after (Err why) r = Err why

-- its check, and its value or another in its place
abbrev pub check_of : {A : Type 0} → Result A Refusal → Checked
check_of (Ok a) = Ok tt
check_of (Err why) = Err why

abbrev pub value_or : {A : Type 0} → A → Result A Refusal → A
value_or other (Ok a) = a
value_or other (Err why) = other

-- [refusal numbers] each refusal number when, and only when, its fact holds
abbrev pub number_of : Checked → ℕ
number_of (Ok x) = 0
number_of (Err Version) = 1
number_of (Err Length) = 2
number_of (Err Size) = 3
number_of (Err Reserved) = 4
number_of (Err BackPorch) = 13
number_of (Err (LineShort missing)) = 14
number_of (Err (FrontPorch missing)) = 15
number_of (Err Width) = 6
number_of (Err Range) = 7
number_of (Err Room) = 8
number_of (Err Register) = 9
number_of (Err Command) = 10
number_of (Err Address) = 12
number_of (Err Kind) = 16
number_of (Err Stretch) = 17
number_of (Err Apart) = 18
number_of (Err Coded) = 19

-- [R-2 missing]
-- by how many clocks the front porch misses 2; no other refusal has a number beside it
abbrev pub beside_of : Checked → ℕ
beside_of (Ok x) = 0
beside_of (Err Version) = 0
beside_of (Err Length) = 0
beside_of (Err Size) = 0
beside_of (Err Reserved) = 0
beside_of (Err BackPorch) = 0
beside_of (Err (LineShort missing)) = missing.0
beside_of (Err (FrontPorch missing)) = missing.0
beside_of (Err Width) = 0
beside_of (Err Range) = 0
beside_of (Err Room) = 0
beside_of (Err Register) = 0
beside_of (Err Command) = 0
beside_of (Err Address) = 0
beside_of (Err Kind) = 0
beside_of (Err Stretch) = 0
beside_of (Err Apart) = 0
beside_of (Err Coded) = 0

-- 3 for a lent part of wrong size
abbrev pub wrong_size : (wrong : Bool) → Checked
wrong_size wrong = pick wrong (Err Size) unrefused
