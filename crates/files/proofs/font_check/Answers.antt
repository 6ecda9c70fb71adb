-- Rests on file-rest and file-first: the groups are judged once 1, 2 and 3 are passed.
use Rattle.std.specs.Prelude.{Bool, is_ok}
use Rattle.std.proofs.Common.{◌≡◌, ◌-◌, ℕ, List, length, drop, sym, ap, ◌∙◌, arith, length-drop, take_all}
use Rattle.refusal.specs.Number.{Checked, unrefused}
use Rattle.refusal.specs.Laws.{sent-on}
use Rattle.shape.specs.Font.{groups_check}
use Rattle.files.specs.Page.{version_in}
use Rattle.files.specs.File.{file_check}
use Rattle.files.specs.FontFile.{font_length, font_size, font_check}
use Rattle.files.specs.Laws.{file-sized, file-passed, file-rest, file-first}
use Rattle.files.specs.FontLaws.{font-least, groups-rest}
use Rattle.files.proofs.font_check.Goals as goal

-- n bytes follow the length: what 1, 2 and 3 answer, and how long a file is that passes them
module _ (file : List ℕ) (wrong : Bool) {size version : ℕ} (n : size ≡ font_size version) (v : version ≡ version_in file) where
  answered : {r : Checked} → r ≡ file_check file 2 (size - 5) wrong unrefused → r ≡ file_check file 2 (font_length (version_in file)) wrong unrefused
  answered e =
      let follow : size - 5 ≡ font_length (version_in file) = omega (arith, n ∙ ap font_size v) in
      rw follow at e

  sized : unrefused ≡ file_check file 2 (size - 5) wrong unrefused → length file ≡ font_size (version_in file)
  sized e = file-sized _ _ (file-passed _ _ _ _ _ (sym (answered e))).length-ok

pub slice_bounds-groups_check-count : goal.slice_bounds-groups_check-count
slice_bounds-groups_check-count c =
    omega (arith, font-least _ (sized _ _ c.font_size-n.ensures c.version_in.ensures c.in_ok-file_check.ensures))

pub slice_bounds-groups_check-start : goal.slice_bounds-groups_check-start
slice_bounds-groups_check-start c =
    omega (arith, font-least _ (sized _ _ c.font_size-n.ensures c.version_in.ensures c.in_ok-file_check.ensures))

pub returns-in_err-file_check : goal.returns-in_err-file_check
unfolding font_check
returns-in_err-file_check c =
    let refused = answered _ _ c.font_size-n.ensures c.version_in.ensures c.in_err-file_check.ensures in
    sent-on c.from_residual.result c.from_residual.ensures.1 ∙ refused ∙ file-first _ _ _ _ _ (ap is_ok (sym refused))

pub returns : goal.returns
unfolding font_check
returns c =
    let file = c.args.file.now in
    let ok = answered _ _ c.font_size-n.ensures c.version_in.ensures c.in_ok-file_check.ensures in
    let rest = groups-rest file (sized _ _ c.font_size-n.ensures c.version_in.ensures c.in_ok-file_check.ensures) in
    let all = take_all (length file - 2455) (drop 2455 file) (rw (length-drop 2455 file) (omega arith)) in
    c.groups_check.ensures ∙ ap groups_check (all ∙ sym rest) ∙ file-rest _ _ _ _ _ (ap is_ok (sym ok))
