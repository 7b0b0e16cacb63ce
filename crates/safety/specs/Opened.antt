-- One name that opens every definition which the rules at an address, the entries and the scan compute through: `unfolding opened`.
-- Assumes nothing.
use Rattle.std.specs.Prelude.{ℕ}
use Rattle.certificate.specs.Layout.{certificate_from}
use Rattle.certificate.specs.Summaries.{summary_of}
use Rattle.safety.specs.Rules.{meets, low, high, claimed, bound_at, worst, used, cell_rule, claimable, claim_rule, compare_rule, empty_entry}
use Rattle.safety.specs.Rules.{entry_rule, address_rule, start_rule, bare_rule, rule21, rule22, rule23, rule24, rule25, rule26, rule27}
use Rattle.safety.specs.Rules.{successor, call_target, writable, reach, call_depth, narrowed, left, feasible, claim_follows, compare_follows}
use Rattle.safety.specs.Rules.{edge26, survives, call26, first_value, same_first, bound_after, bound_after_call, paid, edge27, row_rule}
use Rattle.safety.specs.CodeRange.{widened, rows_from, load_range}
use Rattle.safety.specs.Verdicts.{summary_from, summary_at, next_at, cost_at, rules_with, first_broken, number_by, scan_by, verdict_on_by}

unfoldable layout_opened : ℕ
unfolding certificate_from summary_of low high claimed bound_at worst used cell_rule claimable claim_rule compare_rule empty_entry entry_rule address_rule start_rule bare_rule
layout_opened = 0

unfoldable rules_opened : ℕ
unfolding meets rule21 rule22 rule23 rule24 rule25 rule26 rule27 successor call_target writable reach call_depth narrowed left feasible claim_follows compare_follows edge26 survives call26
rules_opened = 0

unfoldable bounds_opened : ℕ
unfolding first_value same_first bound_after bound_after_call paid edge27 row_rule summary_from summary_at next_at cost_at rules_with first_broken number_by scan_by verdict_on_by widened rows_from load_range
bounds_opened = 0

unfoldable pub opened : ℕ
unfolding layout_opened rules_opened bounds_opened
opened = 0
