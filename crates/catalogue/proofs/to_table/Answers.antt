-- Rests on as-table-passed for what the callees ask, on as-table-moved for the answer.
use Rattle.std.proofs.Common.{refl, sym, ◌∙◌, arith}
use Rattle.std.proofs.lemmas.Result.{err_from_is_err_and}
use Rattle.catalogue.specs.ToTable.{as_table, as_table_left}
use Rattle.catalogue.specs.Marks.{same_check, as-table-passed, as-table-moved, as-table-room}
use Rattle.catalogue.proofs.to_table.Goals as goal

pub place_for-place-requires : goal.place_for-place-requires
place_for-place-requires c =
    (as-table-passed _ _ (sym (same_check _ _) ∙ sym c.in_ok-as_table_check.ensures)).page

pub write_table-requires : goal.write_table-requires
write_table-requires c =
    let movable = as-table-passed _ _ (sym (same_check _ _) ∙ sym c.in_ok-as_table_check.ensures) in
    (movable.page, (as-table-room _ _ movable c.place_for-place.ensures).0)

pub overflow_cast-place : goal.overflow_cast-place
overflow_cast-place c =
    let movable = as-table-passed _ _ (sym (same_check _ _) ∙ sym c.in_ok-as_table_check.ensures) in
    omega (arith, (as-table-room _ _ movable c.place_for-place.ensures).1)

pub returns-in_err-as_table_check : goal.returns-in_err-as_table_check
unfolding as_table as_table_left
returns-in_err-as_table_check c =
    let told = err_from_is_err_and c.from_residual.result c.from_residual.ensures.1 in
    let refused = sym (same_check c.args.b c.args.chars.now) ∙ sym c.in_err-as_table_check.ensures in
    rw (told.1, told.2, refused) (refl, refl)

pub returns : goal.returns
returns c =
    let movable = as-table-passed _ _ (sym (same_check _ _) ∙ sym c.in_ok-as_table_check.ensures) in
    as-table-moved _ _ movable c.place_for-place.ensures c.as_table_page.ensures c.with_page.ensures _ c.write_table.ensures
