-- Rests on each-column: each column goes as far as the records.
use Rattle.std.proofs.Common.{rules, refl, sym}
use Rattle.columns.specs.Laws.{each-column, record_is}
use Rattle.columns.proofs.ColumnsIndex.at.Goals as goal

pub offset_bounds-self-i : goal.offset_bounds-self-i
offset_bounds-self-i c = let within = each-column _ _ _ _ refl c.requires in search rules

pub bounds-self-i : goal.bounds-self-i
bounds-self-i c = (each-column _ _ _ _ refl c.requires).0

pub offset_bounds-self-i-2 : goal.offset_bounds-self-i-2
offset_bounds-self-i-2 c = let within = each-column _ _ _ _ refl c.requires in search rules

pub bounds-self-i-2 : goal.bounds-self-i-2
bounds-self-i-2 c = (each-column _ _ _ _ refl c.requires).1

pub offset_bounds-self-i-3 : goal.offset_bounds-self-i-3
offset_bounds-self-i-3 c = let within = each-column _ _ _ _ refl c.requires in search rules

pub bounds-self-i-3 : goal.bounds-self-i-3
bounds-self-i-3 c = (each-column _ _ _ _ refl c.requires).2

pub offset_bounds-self-i-4 : goal.offset_bounds-self-i-4
offset_bounds-self-i-4 c = let within = each-column _ _ _ _ refl c.requires in search rules

pub bounds-self-i-4 : goal.bounds-self-i-4
bounds-self-i-4 c = (each-column _ _ _ _ refl c.requires).3

pub returns : goal.returns
returns c = sym (record_is _ _ _ _ c.args.i c.requires)
