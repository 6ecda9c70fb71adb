use mathlib.Core.Path.{refl}
use Rattle.records.specs.Records.{bad_record}
use Rattle.records.proofs.is_bad.Goals as goal

pub returns : goal.returns
unfolding bad_record
returns c = refl
