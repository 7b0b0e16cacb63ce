-- One name that opens every definition which the cases compute through: the machine's, the rules', what is printed, and image P.
-- Assumes nothing.
use Rattle.std.specs.Prelude.{ℕ}
use Rattle.semantics.specs.Opened.{opened as step_opened}
use Rattle.safety.specs.Opened.{opened as rules_opened}
use Rattle.rule20.specs.Parts.{cells_rule, starts_rule, main_rule, service_rule, fixed_rule}
use Rattle.report.specs.Report.{decimal, number_text, row_text, rows_text, accepted_text, refused_text}
use Rattle.logger_cases.specs.Program.{image_for, entry, cell, row}

unfoldable parts_opened : ℕ
unfolding cells_rule starts_rule main_rule service_rule fixed_rule
parts_opened = 0

-- what is printed, and image P
unfoldable text_opened : ℕ
unfolding decimal number_text row_text rows_text accepted_text refused_text image_for entry cell row
text_opened = 0

unfoldable pub opened : ℕ
unfolding step_opened rules_opened parts_opened text_opened
opened = 0
