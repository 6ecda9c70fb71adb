-- A sheet moved to a row table, and back. Assumes nothing.
use Rattle.std.specs.Prelude.{ℕ, ◌≡◌, List, is_ok}
use Rattle.std.proofs.Math.Path.{sym, ap}
use Rattle.std.proofs.Common.{◌∙◌}
use Rattle.std.proofs.Math.Bool.{false}
use borrow.Author.Tests.{ne_eqb}
use Rattle.lists.specs.Choice.{pick}
use Rattle.refusal.specs.Number.{unrefused}
use Rattle.refusal.specs.Laws.{some-refused}
use Rattle.catalogue.specs.ToTable.{table_place}
use Rattle.files.specs.Page.{page_at}
use Rattle.files.specs.Round.{Bytes}
use Rattle.feldrime.specs.declared.Answer.{Answer}
use Rattle.feldrime.specs.Answers.{answer_of}
use Rattle.feldrime.specs.Catalogue.{to_table_check, to_table_numbers, to_table_chars, to_sheet_check, to_sheet_numbers}
use Rattle.agreement.specs.CatalogueFromC.{with_start2, sheet-again, table-refused}
use Rattle.callers.specs.Again.{answer-done}

-- another screen start 2 where the page was moved; else as they were
unfoldable pub returned_numbers : (numbers chars : List ℕ) → List ℕ
returned_numbers numbers chars = pick (is_ok (to_table_check numbers chars)) (with_start2 numbers (table_place (page_at numbers 1) chars)) numbers

module _ (numbers chars : List ℕ) {a : Answer} {x y : List ℕ}
    (there : (a ≡ answer_of (to_table_check numbers chars)) × (x ≡ to_table_numbers numbers chars) × (y ≡ to_table_chars numbers chars)) where
  pub not-moved : (a.refusal ≡ 0 → ⊥) → (a ≡ answer_of (to_table_check numbers chars)) × (x ≡ returned_numbers numbers chars) × (y ≡ to_table_chars numbers chars)
  unfolding returned_numbers
  not-moved e =
      let refused : is_ok (to_table_check numbers chars) ≡ false = some-refused _ (λ z. e (ap (λ (k : Answer). k.refusal) there.0 ∙ z)) in
      (there.0, rw refused (there.1 ∙ (table-refused numbers chars refused).0), there.2)

  pub moved-to-sheet : Bytes numbers → a.refusal ≡ 0 → {c : Answer} {z : List ℕ} → (c ≡ answer_of (to_sheet_check x y)) × (z ≡ to_sheet_numbers x y)
      → (c ≡ answer_of (to_table_check numbers chars)) × (z ≡ returned_numbers numbers chars) × (y ≡ to_table_chars numbers chars)
  unfolding returned_numbers
  moved-to-sheet fits e back =
      let done = answer-done (to_table_check numbers chars) there.0 e in
      let again = sheet-again numbers chars done fits in
      let answered : to_sheet_check x y ≡ unrefused = rw (there.1, there.2) again.0 in
      let left : to_sheet_numbers x y ≡ with_start2 numbers (table_place (page_at numbers 1) chars) = rw (there.1, there.2) again.1 in
      (back.0 ∙ ap answer_of (answered ∙ sym done), rw done (back.1 ∙ left), there.2)
