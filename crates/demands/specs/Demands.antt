-- The customer's three demands, word for word, as theorems over the definitions. The contract of each call of the product says that its answer
-- and every lent byte are what its definition gives:
--   `decode` decode_at; `encode` encode_answer, encode_into; `copy_instruction` copy_answer, copy_into;
--   `new_reader` begun; `check_line` read_line; `read_line` read_line, line_buffer; `read_text` text_answer, text_buffer;
--   `start` started; `feed` feed_stream, feed_buffer; `finish` finish_answer; `write_image` write_answer, write_buffer;
--   `upper_line` upper_answer, upper_line; `fill` fill_answer, fill_buffer;
--   `reset` reset_state; `step` step_of; `run` run_of; `run_covered` covered_run, covered_map; `count` marked_count;
--   `check` verdict_of; `configuration_of` setup_for; `lowest_unmarked` lowest_of;
--   `write_report` report_answer, report_buffer; `judge_texts` printed_answer, printed_buffer.
-- `judge_files` promises what `judge_texts` does of some two texts, `read_file` what `read_text` answers of some text and what `feed` leaves of some part of
-- it: no contract can say what a file holds.
-- A call reaches no memory but what it is lent: the language has no other.
-- Assumes nothing.
use Rattle.std.specs.Prelude.{ℕ, ◌+◌, ◌-◌, ◌/◌, ◌%◌, ◌≤◌, ◌<◌, ◌≡◌, ◌⊎◌, false, ◌&&◌, List, ◌++◌, length, get_or, take, drop, eqb, ltb, leb}
use Rattle.std.proofs.Common.{lt-ltb}
use Rattle.base.specs.declared.RomAddr.{RomAddr}
use Rattle.base.specs.Cells.{Bytes}
use Rattle.base.specs.Choice.{pick}
use Rattle.base.specs.declared.Profile.{Profile}
use Rattle.base.specs.Lengths.{largest_rom, record_length}
use Rattle.base.specs.Parts.{Part, part_of}
use Rattle.base.specs.Outcome.{Outcome}
use Rattle.base.specs.Outcome.Outcome.{value, refused}
use Rattle.isa.specs.declared.FlagSet.{FlagSet}
use Rattle.isa.specs.declared.Instruction.{Instruction}
use Rattle.isa.specs.Map.{cell_length}
use Rattle.isa.specs.Map.Cell.{empty}
use Rattle.isa.specs.Printed as manual
use Rattle.columns.specs.Form.{answer_of}
use Rattle.decode.specs.Decode.{decode_at}
use Rattle.decode.specs.Refusals.{decode_number}
use Rattle.encode.specs.Encode.{encode_answer, encode_into}
use Rattle.encode.specs.Laws.{TooWideOrOdd}
use Rattle.encode.specs.Refusals.{encode_number, encode_unchanged, length_encode_into}
use Rattle.roundtrip.specs.RoundTrip.{re_encoded}
use Rattle.roundtrip.specs.Copy.{copy_answer, copy_into}
use Rattle.roundtrip.proofs.Refusals.{copy_number, copy_unchanged, length_copy_into}
use Rattle.semantics.specs.declared.State.{State}
use Rattle.semantics.specs.Setup.{Setup}
use Rattle.semantics.specs.Step.{valid_machine, step_of}
use Rattle.semantics.specs.Run.{ran, run_of}
use Rattle.semantics.specs.Refusals.{StepNumber, Stops, step_stops, run_number}
use Rattle.coverage.specs.Map.{is_map_length}
use Rattle.coverage.specs.MapLaws.{Words}
use Rattle.machine.specs.Reached.{covered_run, covered_map}
use Rattle.machine.proofs.CoveredLaws.{covered_number, covered_length, covered_refused, covered_seven}
use Rattle.machine.specs.Count.{completed_steps, state_behind, total_cost, Counted}
use Rattle.machine.proofs.CountLaws.{run_state, run_counted}
use Rattle.hex_line.specs.declared.Reader.{Reader}
use Rattle.hex_line.specs.Line.{read_line, line_buffer}
use Rattle.hex_line.proofs.Refusals.{line_number, line_unchanged, length_line_buffer}
use Rattle.hex_text.specs.declared.Stream.{Stream}
use Rattle.hex_text.specs.Text.{text_answer, text_buffer}
use Rattle.hex_text.specs.Stream.{feed_buffer, finish_answer}
use Rattle.hex_text.specs.Refusals.{text_number, text_unchanged, length_text_buffer, finish_number, length_feed_buffer}
use Rattle.hex_write.specs.ImageText.{text_length, write_answer, write_buffer}
use Rattle.hex_write.specs.Refusals.{write_number, write_unchanged, length_write_buffer}
use Rattle.hex_write.specs.ReadBack.{ReadsBack, written_whole, write_reads_back}
use Rattle.hex_upper.specs.Upper.{upper_answer, upper_line}
use Rattle.hex_upper.proofs.UpperTheorems.{upper_number, upper_unchanged, upper_length}
use Rattle.xorshift.specs.Xorshift.{fill_answer, fill_buffer}
use Rattle.xorshift.specs.Fill.{fill_number, fill_unchanged, length_fill_buffer}
use Rattle.certificate.specs.declared.Verdict.{Verdict}
use Rattle.certificate.specs.declared.Verdict.TheVariants.{Accepted, Refused}
use Rattle.certificate.specs.Layout.{certificate_of}
use Rattle.safety.specs.Verdicts.{verdict_of, Broken, Reports, Exact}
use Rattle.safety.specs.Verdicts.{CheckNumber}
use Rattle.safety.proofs.Exact.{verdict_number, accepted_only_when, accepted_when, refused_only_when, refused_when, exact}
use Rattle.safety.specs.Statement.{Demand3}
use Rattle.safety.proofs.Theorem.{demand3}
use Rattle.report.specs.Report.{report_answer, report_buffer}
use Rattle.report.specs.Refusals.{report_number, report_unchanged, length_report_buffer}
use Rattle.judge.specs.Judgement.{printed_answer, printed_buffer}
use Rattle.judge.specs.Refusals.{printed_number, printed_unchanged, length_printed_buffer}
use Rattle.logger_cases.specs.Cases.{AllHold, cases}
use Rattle.logger_cases.proofs.Cases.{all_hold}

-- Demand 1. Lent memory holds after every call exactly what document 01 says it holds: input of any length and content is worked through to an end
-- or refused by a number in 01's table, nothing outside a lent buffer is touched, and a refusal leaves its output buffer unchanged --

-- a call that answers o and makes of a lent buffer what stands after it
pub record Lends {A : Type 0} (Number : ℕ → Type 0) (o : Outcome A) (before after : List ℕ) : Type 0 where
  pub number : (n : ℕ) → o ≡ refused n → Number n
  pub unchanged : (n : ℕ) → o ≡ refused n → after ≡ before
  pub size : length after ≡ length before

abbrev DecodeNumber : ℕ → Type 0
DecodeNumber n = (10 ≤ n) × (n ≤ 12)

abbrev HexNumber : ℕ → Type 0
HexNumber n = (1 ≤ n) × (n ≤ 7)

pub decode_refuses : (s : List ℕ) (at n : ℕ) → decode_at s at ≡ refused n → DecodeNumber n
decode_refuses = decode_number

pub encode_lends : (i : Instruction) (out : List ℕ) → Lends (λ n. (n ≡ 7) ⊎ TooWideOrOdd n) (encode_answer i (length out)) out (encode_into i out)
encode_lends i out = record { number = encode_number i out; unchanged = encode_unchanged i out; size = length_encode_into i out }

pub copy_lends : (s : List ℕ) → Bytes s → (at : ℕ) (out : List ℕ)
    → Lends (λ n. (n ≡ 7) ⊎ DecodeNumber n) (copy_answer s at (length out)) out (copy_into s at out)
copy_lends s byte at out =
    record { number = copy_number s at out; unchanged = copy_unchanged s at out; size = length_copy_into s at out byte }

pub read_line_lends : (reader : Reader) (line m : List ℕ) → Lends HexNumber (read_line reader (length m) line) m (line_buffer reader line m)
read_line_lends reader line m =
    record { number = line_number reader (length m) line; unchanged = line_unchanged reader line m; size = length_line_buffer reader line m }

pub read_text_lends : (text m : List ℕ) → Lends HexNumber (text_answer text (length m)) m (text_buffer text m)
read_text_lends text m =
    record { number = text_number text (length m); unchanged = text_unchanged text m; size = length_text_buffer text m }

pub feed_keeps_length : (s : Stream) (piece m : List ℕ) → length (feed_buffer s piece m) ≡ length m
feed_keeps_length = length_feed_buffer

pub finish_refuses : (size : ℕ) (s : Stream) (n : ℕ) → finish_answer size s ≡ refused n → HexNumber n
finish_refuses = finish_number

-- the lent line is the buffer
pub upper_line_lends : (line : List ℕ) → Lends (λ n. (1 ≤ n) × (n ≤ 3)) (upper_answer line) line (upper_line line)
upper_line_lends line = record { number = upper_number line; unchanged = upper_unchanged line; size = upper_length line }

pub fill_lends : (seed : ℕ) (out : List ℕ) → Lends (λ n. n ≡ 7) (fill_answer seed (length out)) out (fill_buffer seed out)
fill_lends seed out =
    record { number = fill_number seed (length out); unchanged = fill_unchanged seed out; size = length_fill_buffer seed out }

pub write_image_lends : (rom : ℕ) (m out : List ℕ) → Lends (λ n. n ≡ 7) (write_answer rom (length m) (length out)) out (write_buffer rom m out)
write_image_lends rom m out =
    record { number = write_number rom (length m) (length out); unchanged = write_unchanged rom m out; size = length_write_buffer rom m out }

pub write_report_lends : (verdict : Verdict) (cert out : List ℕ)
    → Lends (λ n. n ≡ 7) (report_answer verdict cert (length out)) out (report_buffer verdict cert out)
write_report_lends verdict cert out =
    record {
      number = report_number verdict cert (length out);
      unchanged = report_unchanged verdict cert out;
      size = length_report_buffer verdict cert out;
    }

pub judge_texts_lends : (image certificate out : List ℕ)
    → Lends (λ n. n ≡ 7) (printed_answer image certificate (length out)) out (printed_buffer image certificate out)
judge_texts_lends image certificate out =
    record {
      number = printed_number image certificate (length out);
      unchanged = printed_unchanged image certificate out;
      size = length_printed_buffer image certificate out;
    }

-- a refused step leaves the state before it, requests included
pub step_stops_right : (K : Setup) (image : List ℕ) (s : State) (rec : List ℕ) → Stops s (step_of K image s rec).state (step_of K image s rec).stop
step_stops_right K image s rec = step_stops s K image rec

pub run_refuses : (K : Setup) (image : List ℕ) (s : State) (schedule : List ℕ) → StepNumber (run_of K image s schedule).stop
run_refuses K image s schedule = run_number K image schedule s

-- a run returns the state behind its completed steps: a step that is refused adds nothing to it
pub run_leaves : (K : Setup) (image schedule : List ℕ) (s : State)
    → (run_of K image s schedule).state ≡ state_behind (completed_steps K image s schedule) K image schedule 0 s
run_leaves = run_state

-- a run with a coverage map: the map keeps its length. Where the configuration or a length is wrong, it is refused by 7; and where it is refused by 7, the map is as it was
pub covered_refuses : (K : Setup) (image : List ℕ) (s : State) (schedule m : List ℕ) → StepNumber (covered_run K image s schedule (length m)).stop
covered_refuses = covered_number

pub covered_keeps_length : (K : Setup) (image : List ℕ) (s : State) (schedule m : List ℕ) → length (covered_map K image s schedule m) ≡ length m
covered_keeps_length = covered_length

pub covered_invalid_refused : (K : Setup) (image : List ℕ) (s : State) (schedule m : List ℕ) → Words m
    → (is_map_length (length m) && (valid_machine K image && eqb (length schedule % record_length) 0)) ≡ false
    → (covered_run K image s schedule (length m) ≡ ran s 0 7) × (covered_map K image s schedule m ≡ m)
covered_invalid_refused = covered_refused

pub covered_unchanged : (K : Setup) (image : List ℕ) (s : State) (schedule m : List ℕ) → Words m → (covered_run K image s schedule (length m)).stop ≡ 7
    → covered_map K image s schedule m ≡ m
covered_unchanged = covered_seven

pub check_refuses : (rom : ℕ) (image cert : List ℕ) (n : ℕ) (a : RomAddr) → verdict_of rom image cert ≡ Refused n a → CheckNumber n
check_refuses = verdict_number

-- Demand 2. Each of the 256 first bytes decodes as the manual and 01 say, --

-- by the cell of table 6-5 for the first byte, as printed but for 01's ADC and the pages of EFH and FFH, and by the bytes behind it; the flags beside it
-- are request 07's
pub first_bytes_as_printed : (s : List ℕ) → Bytes s → (at : ℕ) → at < length s
    → decode_at s at
    ≡ (let cell = get_or manual.printed (get_or s at 0) empty in
    pick (leb (cell_length cell) (length s - at))
    (answer_of cell (get_or s at 0 / 16) (get_or s (at + 1) 0) (get_or s (at + 2) 0) (get_or s (at + 3) 0))
    (refused 10))
unfolding decode_at
first_bytes_as_printed s byte at h = rw (manual.as_printed (get_or s at 0) (byte at), lt-ltb at (length s) h)

-- encoding what was decoded restores its bytes, --
pub decoded_encodes_back : (s : List ℕ) (at : ℕ) → Bytes s → (i : Instruction) (n : ℕ) (f : FlagSet) (out : List ℕ) → decode_at s at ≡ value (i, n, f)
    → (encode_answer i (length out) ≡ pick (ltb (length out) n) (refused 7) (value n))
    × (encode_into i out ≡ pick (ltb (length out) n) out (take n (drop at s) ++ drop n out))
decoded_encodes_back = re_encoded

-- every step leaves the registers, flags, program counter and cycle total they print, --

-- by the contract of `step`: `step_of`, one definition an action. Of it 01's cases (a) to (l), and a run's steps and cycles
pub logger_cases : AllHold cases
logger_cases = all_hold

pub steps_and_cycles : (K : Setup) (image schedule : List ℕ) (s : State) → s.cycles < 4294967296
    → Counted (completed_steps K image s schedule) (total_cost K image s schedule) s (run_of K image s schedule)
steps_and_cycles = run_counted

-- an image written as Intel HEX reads back to itself, --
pub written_reads_back : (p : Profile) (m out : List ℕ) → Bytes m → let rom = (part_of p).rom in length m ≡ rom → text_length rom ≤ length out
    → (write_answer rom (length m) (length out) ≡ value (text_length rom)) × ReadsBack rom (value (text_length rom)) m (write_buffer rom m out)
written_reads_back p m out byte size room =
    let rom = (part_of p).rom in
    let e = written_whole rom (length m) (length out) size room in
    (e, rw e at (write_reads_back p m out byte))

-- and the checker accepts exactly when no rule of 01 is broken --
pub accepts_exactly : (rom : ℕ) (image cert : List ℕ)
    → (verdict_of rom image cert ≡ Accepted → (n a : ℕ) → Broken rom image cert n a → ⊥)
    × (((n a : ℕ) → Broken rom image cert n a → ⊥) → verdict_of rom image cert ≡ Accepted)
accepts_exactly rom image cert = (accepted_only_when rom image cert, accepted_when rom image cert)

-- and refuses by n at a exactly when rule n is broken at a, no lower rule is broken at a, and none at a lower address
pub refuses_exactly : (rom : ℕ) (image cert : List ℕ) (n : ℕ) (a : RomAddr)
    → (verdict_of rom image cert ≡ Refused n a → Reports rom image cert (Refused n a)) × (Reports rom image cert (Refused n a) → verdict_of rom image cert ≡ Refused n a)
refuses_exactly rom image cert n a = (refused_only_when rom image cert n a, refused_when rom image cert n a)

-- both, as `check` promises them
pub check_exact : (rom : ℕ) (image cert : List ℕ) → Exact rom image cert (verdict_of rom image cert)
check_exact = exact

-- Demand 3. If the checker accepts an image and certificate, then for every list of schedule records, whatever they request and let the machine
-- read, and whatever bytes reset leaves open, a run of that image from reset does every record and no step stops, and: each instruction begins at
-- an address whose certificate entry names the innermost open routine; the stack pointer, once loaded with the top, stays between floor and top;
-- each RET goes behind the call that opened its routine and each IRET to where its interrupt fell; all addresses that the pointer of the instruction
-- at one ROM address (an operand's register or pair, plus its offset if it has one; SP's own traffic is the stack's) gives in the whole run lie in
-- one declared table or, for LDC, in ROM; and from a call or interrupt entry up to and with its return, or as far as the list goes, no routine but
-- main spends more cycles of its own and its callees' than its bound. The bytes of ROM are a parameter (request 04), at most as many as a certificate has
-- entries --
pub accepted_runs_safely : (P : Part) → P.rom ≤ largest_rom → (image cert : List ℕ) → Bytes image → Bytes cert
    → verdict_of P.rom image cert ≡ Accepted → Demand3 P (certificate_of cert) image
accepted_runs_safely = demand3
