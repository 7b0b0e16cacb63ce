-- One name that opens every definition which a step computes through, `unfolding opened`, and one for those of the actions alone.
-- Assumes nothing.
use Rattle.std.specs.Prelude.{ℕ}
use Rattle.isa.specs.Flags.{flag_in}
use Rattle.decode.specs.Decode.{decode_at}
use Rattle.action.specs.Action.{action_of}
use Rattle.chip.specs.Registers.{kept_bits, mapped_of, grounded_now, load_of, written_of, kept_of, store_of}
use Rattle.chip.specs.Interrupts.{interrupts_enabled, set_interrupts_of, pending_edge, pending_any, raise_of, post_of}
use Rattle.alu.specs.Flags.{carry, zero_flag, sign_flag, overflow_flag, flags_byte, updated, update, condition_on, condition}
use Rattle.alu.specs.Operations.{biased, overflows, addition, subtraction, logical, operate, stores, increment, decrement, rotation, shift_right, modify}
use Rattle.semantics.specs.Operands.{place_of, fetch_place, fetch_of, with_flags, lowered, raised, store_top, push_of, push_address, word_at, word_mapped}
use Rattle.semantics.specs.Execute.{store_if, binary_of, modify_of, load_into, push_operand, pop_operand, code_address, load_code_of, stepped_pair, load_code_step_of, jump_of, jump_pair_of}
use Rattle.semantics.specs.Execute.{call_of, call_pair_of, return_of, interrupt_return_of, carry_changed, carry_of, stop_of, execute_of}
use Rattle.semantics.specs.Step.{acting_requests, entry_due, finish_of, enter_of, after_decode, instruction_act, mode_act, act_after_requests, acted_of, settled, step_of}

unfoldable registers_opened : ℕ
unfolding decode_at action_of kept_bits mapped_of grounded_now load_of written_of kept_of store_of interrupts_enabled set_interrupts_of pending_edge pending_any raise_of post_of
registers_opened = 0

unfoldable flags_opened : ℕ
unfolding flag_in carry zero_flag sign_flag overflow_flag flags_byte updated update condition_on condition
flags_opened = 0

unfoldable operations_opened : ℕ
unfolding biased overflows addition subtraction logical operate stores increment decrement rotation shift_right modify
operations_opened = 0

unfoldable operands_opened : ℕ
unfolding place_of fetch_place fetch_of with_flags lowered raised store_top push_of push_address word_at word_mapped code_address stepped_pair store_if carry_changed
operands_opened = 0

unfoldable pub actions_opened : ℕ
unfolding binary_of modify_of load_into push_operand pop_operand load_code_of load_code_step_of jump_of jump_pair_of call_of call_pair_of return_of interrupt_return_of carry_of stop_of execute_of
actions_opened = 0

unfoldable pub opened : ℕ
unfolding registers_opened flags_opened operations_opened operands_opened actions_opened acting_requests entry_due finish_of enter_of after_decode instruction_act mode_act act_after_requests acted_of settled step_of
opened = 0
