-- One name that opens every definition which the programs compute through.
-- Assumes nothing.
use Rattle.std.specs.Prelude.{ℕ}
use Rattle.semantics.specs.Reset.{reset_state}
use Rattle.chip.specs.Reset.{reset_registers}
use Rattle.safety.specs.Statement.{event_of, monitor_step}
use Rattle.logger_cases.specs.Linearised.{image_with as linearised_image}
use Rattle.logger_cases.specs.Opened.{opened as cases_opened}
use Rattle.refused_programs.specs.Programs.{image_of, stopping, straying, unnamed, pointing, pushing, returning, looping, charging}
use Rattle.refused_programs.specs.Programs.{popping, fetching, fetching_small, fetching_large, resuming, serving, entering, crossing, jumping, leaving, exceeding}

unfoldable programs_opened : ℕ
unfolding image_of stopping straying unnamed pointing pushing returning looping charging popping fetching fetching_small fetching_large resuming serving entering crossing jumping leaving exceeding linearised_image
programs_opened = 0

unfoldable pub opened : ℕ
unfolding cases_opened programs_opened event_of monitor_step reset_state reset_registers
opened = 0
