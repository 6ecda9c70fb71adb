-- Rests on the callees: each field is one of their answers.
use Rattle.std.specs.Prelude.{◌≡◌, ℕ, Bool, true, false}
use Rattle.std.specs.Int.{from_bool}
use Rattle.lists.specs.Choice.{pick}
use Rattle.feldrime.specs.Step.{numbered}
use Rattle.feldrime.proofs.number_of.Goals as goal

as-chosen : (t : Bool) {n : ℕ} → n ≡ from_bool t → n ≡ pick t 1 0
as-chosen true e = e
as-chosen false e = e

pub returns : goal.returns
unfolding numbered
returns c =
    let s = c.args.s in
    λ i. record {
      refusal = c.number.ensures i;
      beside = c.beside.ensures i;
      hsync = as-chosen _ c.from.ensures i;
      vsync = as-chosen _ c.from-2.ensures i;
      blank = as-chosen _ c.from-3.ensures i;
      cursor = as-chosen _ c.from-4.ensures i;
      blink = as-chosen _ c.from-5.ensures i;
      address = s.address;
      dots = s.dots;
    }
