-- The requests of document 02 that have landed, word for word, with what each states as a theorem over the definitions.
-- Assumes nothing.
use Rattle.std.specs.Prelude.{ℕ, ◌+◌, ◌-◌, ◌/◌, ◌%◌, ◌^◌, ◌≤◌, ◌<◌, ◌≡◌, refl, Bool, true, false, ◌||◌, ◌&&◌, ◌≢◌, ◌⊎◌, List, [], ◌∷◌, ◌++◌, leb, length, get_or}
use Rattle.std.proofs.Common.{ap, arith}
use Rattle.std.specs.Int.Bits.{bit_and}
use Rattle.base.specs.declared.RegAddr.{RegAddr}
use Rattle.base.specs.declared.RomAddr.{RomAddr}
use Rattle.base.specs.Addresses.{flags_cell, rom_addr}
use Rattle.base.specs.Cells.{Bytes}
use Rattle.base.specs.Choice.{from, count}
use Rattle.base.specs.Formula.{Holds, eqb_yes, eqb_no, ltb_no}
use Rattle.base.specs.declared.Profile.{Profile}
use Rattle.base.specs.declared.Profile.TheVariants.{Rom4K, Rom2K}
use Rattle.base.specs.Lengths.{largest_rom, record_length, short_certificate_length, long_certificate_length, is_certificate_length, is_entry_cost}
use Rattle.base.specs.Parts.{Part, part_of, rom_fits}
use Rattle.base.specs.Outcome.Outcome.{value, refused}
use Rattle.isa.specs.declared.Flag.{Flag}
use Rattle.isa.specs.declared.FlagSet.{FlagSet}
use Rattle.isa.specs.declared.Implied.{Implied}
use Rattle.isa.specs.declared.Instruction.{Instruction}
use Rattle.isa.specs.Flags.{flag_in, all_flags}
use Rattle.isa.specs.Map.{names_of}
use Rattle.isa.specs.PrintedFlags as printed
use Rattle.isa.specs.PrintedFlags.{printed_flags}
use Rattle.decode.specs.Decode.{decode_at, without_flags}
use Rattle.decode.specs.Names as names
use Rattle.instruction_bytes.specs.Bytes.{bytes_of}
use Rattle.roundtrip.specs.EncodedDecodes.{encoded_decodes}
use Rattle.action.specs.declared.CodeAddress.{CodeAddress}
use Rattle.action.specs.declared.Action.{Action}
use Rattle.action.specs.Action.{action_of}
use Rattle.chip.specs.Registers.{inputs_of, load_of, store_of}
use Rattle.chip.specs.Laws.{grounded_reads_0, ungrounded_reads_record, other_reads_same}
use Rattle.semantics.specs.Operands.{word_at, with_flags}
use Rattle.semantics.specs.Execute.{code_address, in_rom, load_code_of, load_code_step_of}
use Rattle.semantics.specs.declared.Configuration.{Configuration}
use Rattle.semantics.specs.Setup.{Setup, setup_of}
use Rattle.semantics.specs.declared.Mode.TheVariants.{Running}
use Rattle.semantics.specs.declared.State.{State}
use Rattle.semantics.specs.Step.{refuse, requested, entry_due, vector_of, behind, valid_machine, step_of}
use Rattle.semantics.specs.Run.{ran, record_at, run_of}
use Rattle.semantics.specs.Refusals.{step_stops}
use Rattle.coverage.specs.Map.{map_words, marked, empty_map, joined, marked_count, set_bits}
use Rattle.coverage.specs.MapLaws.{Words, same_marks, marked_joined, marked_past, set_bits_counted}
use Rattle.machine.specs.Count.{cost_of, SameButCycles}
use Rattle.machine.proofs.EntryLaws.{entry_cost_lem, entry_adds, other_step, only_cycles, step_above, run_above, covered_above}
use Rattle.machine.proofs.PartLaws.{step_of_other_length, run_of_other_length, covered_of_other_length, fetch_past_rom}
use Rattle.machine.specs.Reached.{Reaches, reached, covered_run, covered_map}
use Rattle.machine.proofs.CoveredLaws.{mark_stays, completed_marked, no_other_mark, covered_joins, covered_count}
use Rattle.machine.proofs.AppendLaws.{run_in_turn, run_stopped, covered_in_turn, covered_stopped}
use Rattle.certificate.specs.declared.NewValue.TheVariants.{Within, Unknown}
use Rattle.certificate.specs.declared.CodeAccess.{CodeAccess}
use Rattle.certificate.specs.declared.Flow.TheVariants.{Step, Call}
use Rattle.certificate.specs.declared.Verdict.TheVariants as verdict
use Rattle.certificate.specs.Layout.{Certificate, certificate_from, certificate_of}
use Rattle.certificate.specs.Summaries.{range, code_access}
use Rattle.safety.specs.Rules.{no_cell, ram_end, Edge, low, high, worst, code_in_rom, change_of, empty_entry, rule20, edge26, rule26, opening_cost}
use Rattle.safety.specs.Rules.Change.{changed}
use Rattle.safety.specs.CodeRange.{load_range}
use Rattle.safety.specs.CodeReach.{Reaches as CodeReaches, ReachedByte, SetInRom}
use Rattle.safety.proofs.CodeRangeLaws.{set_in_rom, whole_set_in_rom, unclaimed}
use Rattle.safety.proofs.CodeRangeLaws.{loaded_holds, loaded_least, loaded_greatest, loaded_direct}
use Rattle.safety.proofs.CodeLoads.{code_of_load, code_of_step, destination_of_load, destination_of_step, pair_of_step}
use Rattle.safety.specs.Verdicts.{summary_at, verdict_of, Broken}
use Rattle.safety.proofs.EntryCost as cost
use Rattle.safety.proofs.SmallerCost.{smaller_cost, smaller_cost_safe}
use Rattle.safety.proofs.SmallPart.{image_of_other_length, entry_past_rom, byte_past_rom, bytes_past_rom}
use Rattle.safety.proofs.Formerly as formerly
use Rattle.safety.specs.Formerly.{verdict_formerly}
use Rattle.safety.specs.Statement.{Schedule, Open, entered, spent, setup_for, Demand3}
use Rattle.safety.proofs.Theorem.{demand3}
use Rattle.flag_names.specs.Stores.{flags_in, stores_flags}
use Rattle.flag_names.proofs.Kept.{unnamed_kept, iret_named, iret_loads}
use Rattle.flag_names.specs.Witnesses.{ChangedBy}
use Rattle.flag_names.proofs.Witnesses.{named_changed}
use Rattle.flag_names.specs.Compares.{EdgeFollows, CallFollows, compare_survives, compare_over_call, none_behind_call}
use Rattle.logger_cases.specs.EntryCost as entering
use Rattle.logger_cases.specs.Linearised as linearised
use Rattle.logger_cases.specs.Program as program
use Rattle.logger_cases.specs.Program.{certificate_with}
use Rattle.logger_cases.specs.SmallPart as smallPart
use Rattle.uncovered.specs.Lowest.Lowest.{At, AllMarked, Refused}
use Rattle.uncovered.specs.Lowest.{lowest_of, LowestStart}
use Rattle.uncovered.specs.LowestLaws.{lowest_at, at_lowest, all_marked, marked_all, lowest_refused, refused_length}
use Rattle.hex_line.specs.declared.Fields.{Fields}
use Rattle.hex_line.specs.declared.Reader.{Reader}
use Rattle.hex_line.specs.Record.{sum_of, count_of, parse_body, body_length}
use Rattle.hex_line.specs.Line.{buffer_length, read_line, line_buffer}
use Rattle.hex_line.specs.Sum.{AllPairs, total_of}
use Rattle.hex_line.proofs.SumLaws as sums
use Rattle.hex_text.specs.Text.{text_answer}
use Rattle.hex_write.specs.ImageText as written
use Rattle.hex_write.specs.ImageText.{record_count, text_length, write_answer, write_buffer}
use Rattle.hex_write.specs.Refusals.{write_unchanged}
use Rattle.hex_upper.specs.Former.{small_letter, NoSmall, former_line, former_buffer}
use Rattle.hex_upper.specs.Upper.{upper_answer, upper_line}
use Rattle.hex_upper.proofs.SmallLetters as small
use Rattle.hex_upper.proofs.UpperTheorems as upper
use Rattle.judge.specs.Judgement.{blank_image, blank_certificate}
use Rattle.judge.specs.JudgementLaws.{length_filled}
use Rattle.xorshift.specs.Xorshift.{round, record_from, records_from, state_after, fill_answer, fill_buffer}
use Rattle.xorshift.specs.RecordLaws.{length_records, records_bytes, record_made, no_other_bit}
use Rattle.xorshift.specs.Nonzero.{round_nonzero, round_below, state_nonzero, state_below}
use Rattle.xorshift.specs.Fill.{Fits, fits_answer, fits_buffer, fill_refused, InTwo, in_two}
use Rattle.xorshift.specs.Occurs.{each_request}
use Rattle.xorshift.specs.Values.{states_from, marsaglia_first, one_first}

-- Request 02. Add up the line while reading it. The crew wants the line sum gathered as each pair of digits is read, however it is done now, so that
-- the work follows the order of the text. After any number of pairs the sum so far is proved to be theirs modulo 256. Every line, with two faults too,
-- gets the number, image and reader it has today --

-- the loop is `hex_line::gather`, whose contract says that its sum after n pairs is `sum_of line n`, and this law of it
pub sum_so_far : (line : List ℕ) (n : ℕ) → AllPairs line n → sum_of line n ≡ total_of line n % 256
sum_so_far = sums.sum_so_far

-- so the sum by which a well-formed line is judged is that of its length byte, address, type, data and sum byte
pub line_sum : (line : List ℕ) (f : Fields) → parse_body line ≡ value f → f.sum ≡ total_of line (count_of line + 5) % 256
line_sum = sums.line_sum

-- every line kept its answer: this request left `read_line` and `line_buffer`, which the contracts of `check_line` and `read_line` name, as they were

-- Request 03. Interrupt entry takes time. The chip shop measured that entering a service isn't free, and the manual prints no figure. Certificates may
-- carry one byte more, at E482H: the cycles of an entry, 0 to 63. The entry step costs that much and the service's bound covers it, its row's bound
-- being at least this byte plus its start's bound, else 27 at the start. A certificate of 58,498 bytes means 0; `bridgecheck` reads `cert.hex` into
-- 58,499. A machine step or run receives the same number beside its image, and demand 3 speaks of runs that got the certificate's. Checks: 20 also for a
-- byte above 63; 7 for any other certificate length or a step's or run's number above 63 --

-- one byte more, at E482H, is the cycles of an entry
pub byte_is_the_cost : (cert : List ℕ) (x : ℕ) → length cert ≡ short_certificate_length → (certificate_of (cert ++ (x ∷ []))).entry_cost ≡ x
unfolding certificate_from
byte_is_the_cost cert x h = ap (λ (C : Certificate). C.entry_cost) (cost.byte_behind cert x h)

-- the entry step costs that much: if it is not refused, the configuration's number is added to the cycle total
pub entry_costs : (K : Setup) (image : List ℕ) (s : State) (rec : List ℕ) → s.cycles < 4294967296 → entry_due (requested s rec) s.mode ≡ true
    → (step_of K image s rec).stop ≡ 0 → (step_of K image s rec).state.cycles ≡ (s.cycles + K.entry_cost) % 4294967296
entry_costs = entry_adds

-- in a run's total (`steps_and_cycles` of `Demands.antt`) such a step counts with the same number
pub entry_counted : (K : Setup) (image : List ℕ) (s : State) (rec : List ℕ) → entry_due (requested s rec) s.mode ≡ true
    → cost_of K image s rec ≡ K.entry_cost
entry_counted = entry_cost_lem

-- a refused entry, as any refused step, leaves the state before it, so it costs nothing
pub refused_entry_costs_nothing : (K : Setup) (image : List ℕ) (s : State) (rec : List ℕ) → (step_of K image s rec).stop ≢ 0
    → (step_of K image s rec).state ≡ s
refused_entry_costs_nothing K image s rec = (step_stops s K image rec).unchanged

-- a step that is no entry is the same whatever an entry costs
pub other_steps_same : (K K' : Setup) (image : List ℕ) (s : State) (rec : List ℕ) → K.part ≡ K'.part → valid_machine K image ≡ valid_machine K' image
    → entry_due (requested s rec) s.mode ≡ false → step_of K image s rec ≡ step_of K' image s rec
other_steps_same = other_step

-- and of an entry the cycle total alone depends on it: registers, program counter, mode and number do not
pub only_the_total : (K K' : Setup) (image : List ℕ) (s : State) (rec : List ℕ) → K.part ≡ K'.part → valid_machine K image ≡ valid_machine K' image
    → SameButCycles (step_of K image s rec) (step_of K' image s rec)
only_the_total = only_cycles

-- demand 3 speaks of runs that got the certificate's number: `Demand3` has steps and runs with `setup_for` alone. There the service opens with that
-- number, and nobody else is charged
pub certificate_number : (P : Part) (C : Certificate) → (setup_for P C).entry_cost ≡ C.entry_cost
certificate_number P C = refl

pub service_opens_with : (C : Certificate) (image : List ℕ) (s : State) (o : Open) → (spent C image entered s o).inner.cycles ≡ C.entry_cost
service_opens_with = cost.entry_opens

pub nobody_else_charged : (C : Certificate) (image : List ℕ) (s : State) (o : Open) → (spent C image entered s o).outer ≡ o.inner ∷ o.outer
nobody_else_charged = cost.nobody_else

-- the service's bound covers it: at least this byte plus its start's bound (`worst`, where the vector points), else 27 is broken there
pub service_bound_covers : (rom : ℕ) (image cert : List ℕ) → rom ≤ largest_rom → verdict_of rom image cert ≡ verdict.Accepted
    → let C = certificate_of cert in C.entry_cost + worst C (vector_of image) ≤ C.bound 2
service_bound_covers = cost.service_bound_covers

-- no other row has to cover it
pub other_rows_stay : (C : Certificate) (n : ℕ) → n ≢ 2 → opening_cost C n ≡ 0
other_rows_stay = cost.others_open_free

pub bound_too_small : (rom : ℕ) (image cert : List ℕ) → let C = certificate_of cert in Holds (rule20 C rom image)
    → (C.entry_cost + worst C (vector_of image) ≤ C.bound 2 → ⊥) → Broken rom image cert 27 (vector_of image)
bound_too_small = cost.bound_too_small

-- 58,498 bytes mean 0, and one byte more that is 0 changes no verdict
pub short_means_0 : (cert : List ℕ) → length cert ≡ short_certificate_length → (certificate_of cert).entry_cost ≡ 0
short_means_0 = cost.short_means_zero

pub byte_0_same_verdict : (rom : ℕ) (image cert : List ℕ) → length cert ≡ short_certificate_length → verdict_of rom image (cert ++ (0 ∷ [])) ≡ verdict_of rom image cert
byte_0_same_verdict = cost.zero_byte_same

-- `bridgecheck` reads `cert.hex` into 58,499 bytes; a HEX reader takes a certificate's buffer of either length
pub certificate_buffer : length blank_certificate ≡ long_certificate_length
certificate_buffer = length_filled long_certificate_length 0

pub either_buffer : (buffer_length short_certificate_length ≡ true) × (buffer_length long_certificate_length ≡ true)
either_buffer = (refl, refl)

-- 20 also for a byte above 63; 7 for any other certificate length
pub byte_above_63 : (rom : ℕ) (image cert : List ℕ) → length image ≡ rom → is_certificate_length (length cert) ≡ true
    → ((certificate_of cert).entry_cost ≤ 63 → ⊥) → verdict_of rom image cert ≡ verdict.Refused 20 (rom_addr 0)
byte_above_63 = cost.cost_above_63

pub other_certificate_length : (rom : ℕ) (image cert : List ℕ) → is_certificate_length (length cert) ≡ false → verdict_of rom image cert ≡ verdict.Refused 7 (rom_addr 0)
other_certificate_length = cost.other_length

-- 7 for a step's or run's number above 63, whatever the record or schedule, and nothing is done
pub step_number_above_63 : (K : Setup) (image : List ℕ) (s : State) → 63 < K.entry_cost → (rec : List ℕ)
    → step_of K image s rec ≡ refuse s 7
step_number_above_63 = step_above

pub run_number_above_63 : (K : Setup) (image : List ℕ) (s : State) → 63 < K.entry_cost → (schedule : List ℕ)
    → run_of K image s schedule ≡ ran s 0 7
run_number_above_63 = run_above

pub covered_number_above_63 : (K : Setup) (image : List ℕ) (s : State) → 63 < K.entry_cost → (schedule m : List ℕ) → Words m
    → (covered_run K image s schedule (length m) ≡ ran s 0 7) × (covered_map K image s schedule m ≡ m)
covered_number_above_63 = covered_above

-- a figure that was rounded up does no harm: what is accepted with x cycles of an entry is accepted with fewer, and demand 3 holds of it with fewer
pub fewer_cycles_accepted : (rom : ℕ) (image cert : List ℕ) (x y : ℕ) → length cert ≡ short_certificate_length → y ≤ x
    → verdict_of rom image (cert ++ (x ∷ [])) ≡ verdict.Accepted → verdict_of rom image (cert ++ (y ∷ [])) ≡ verdict.Accepted
fewer_cycles_accepted = smaller_cost

pub fewer_cycles_safe : (P : Part) → P.rom ≤ largest_rom → (image cert : List ℕ) (x y : ℕ) → length cert ≡ short_certificate_length → y ≤ x
    → verdict_of P.rom image (cert ++ (x ∷ [])) ≡ verdict.Accepted → Bytes image → Bytes (cert ++ (y ∷ []))
    → Demand3 P (certificate_of (cert ++ (y ∷ []))) image
fewer_cycles_safe = smaller_cost_safe

-- image P with entries of 20 cycles: accepted with the service's bound at 30, refused with 29; with entries of 63 cycles: accepted with 73; of 64: refused
pub p_with_entries : (verdict_of program.rom (program.image_with 0x7B) (entering.costed 20 30) ≡ verdict.Accepted)
    × (verdict_of program.rom (program.image_with 0x7B) (entering.costed 20 29) ≡ verdict.Refused 27 (rom_addr 0x140))
    × (verdict_of program.rom (program.image_with 0x7B) (entering.costed 63 73) ≡ verdict.Accepted)
    × (verdict_of program.rom (program.image_with 0x7B) (entering.costed 64 74) ≡ verdict.Refused 20 (rom_addr 0))
p_with_entries = (entering.costed_accepted, entering.costed_refused, entering.greatest_accepted, entering.above_refused)

-- Request 04. The small S3C9444. Half our older loggers carry the 2K part. A profile chosen by the caller takes images of 2048 bytes, ends ROM at 07FFH,
-- and allows no certificate entry past that. Reading F8H or F9H gives 0 while ADCON.7-.4 is 3 or more, since those inputs are grounded there. Writing HEX
-- gives 128 data records. `bridgecheck` stays with the 4K part. The user of either part gets the whole of demand 3, shown over the ROM length as a
-- parameter. Checks: 7 for an image that isn't the profile's length, 20 for an entry beyond it --

-- a profile is `base::Profile`; what its part has is `part_of`, and definitions go by that
pub parts : (part_of Rom4K ≡ record { rom = 4096; grounds = false }) × (part_of Rom2K ≡ record { rom = 2048; grounds = true })
parts = (refl, refl)

-- 7 for an image that isn't the profile's length: of a step and a run nothing is done, a map and a HEX buffer stay
pub step_other_image : (K : Setup) (image : List ℕ) (s : State) → length image ≢ K.part.rom → (rec : List ℕ) → step_of K image s rec ≡ refuse s 7
step_other_image = step_of_other_length

pub run_other_image : (K : Setup) (image : List ℕ) (s : State) → length image ≢ K.part.rom → (schedule : List ℕ) → run_of K image s schedule ≡ ran s 0 7
run_other_image = run_of_other_length

pub covered_other_image : (K : Setup) (image : List ℕ) (s : State) → length image ≢ K.part.rom → (schedule m : List ℕ) → Words m
    → (covered_run K image s schedule (length m) ≡ ran s 0 7) × (covered_map K image s schedule m ≡ m)
covered_other_image = covered_of_other_length

pub check_other_image : (rom : ℕ) (image cert : List ℕ) → length image ≢ rom → verdict_of rom image cert ≡ verdict.Refused 7 (rom_addr 0)
check_other_image = image_of_other_length

pub write_other_image : (rom : ℕ) (image out : List ℕ) → length image ≢ rom
    → (write_answer rom (length image) (length out) ≡ refused 7) × (write_buffer rom image out ≡ out)
unfolding write_answer
write_other_image rom image out other =
    let e : write_answer rom (length image) (length out) ≡ refused 7 = rw (eqb_no other) in
    (e, write_unchanged rom image out 7 e)

-- it ends ROM at 07FFH: an instruction that begins past the part's ROM is 10, an LDC, LDCI or LDCD there 14
pub fetch_past_rom_stops : (K : Setup) (image : List ℕ) (s : State) (rec : List ℕ) → valid_machine K image ≡ true → length rec ≡ record_length
    → entry_due (requested s rec) s.mode ≡ false → s.mode ≡ Running → K.part.rom ≤ s.pc.0 → step_of K image s rec ≡ refuse s 10
fetch_past_rom_stops = fetch_past_rom

outside_rom : (image : List ℕ) (rom : ℕ) → length image ≡ rom → (a : ℕ) (pc : RomAddr) → rom ≤ a → (in_rom image a pc).stop ≡ 14
outside_rom image rom size a pc past = rw (ltb_no {a = a} {b = length image} (rw size past))

pub load_past_rom_stops : (image : List ℕ) (rom : ℕ) → length image ≡ rom → (d : RegAddr) (c : CodeAddress) (regs inputs : List ℕ) (pc : RomAddr)
    → rom ≤ code_address c regs inputs → (load_code_of d c image regs inputs pc).next.stop ≡ 14
unfolding load_code_of
load_past_rom_stops image rom size d c regs inputs pc past = outside_rom image rom size (code_address c regs inputs) pc past

pub step_past_rom_stops : (image : List ℕ) (rom : ℕ) → length image ≡ rom → (d p : RegAddr) (up : Bool) (regs inputs : List ℕ) (pc : RomAddr)
    → rom ≤ word_at regs inputs p.0 → (load_code_step_of d p up image regs inputs pc).next.stop ≡ 14
unfolding load_code_step_of
step_past_rom_stops image rom size d p up regs inputs pc past = outside_rom image rom size (word_at regs inputs p.0) pc past

-- it allows no certificate entry past that: 20 for an entry beyond it, and for any byte there that is not 0; so an accepted certificate has none
pub entry_beyond : (rom : ℕ) (image cert : List ℕ) → length image ≡ rom → is_certificate_length (length cert) ≡ true → (a : ℕ) → rom ≤ a → a < largest_rom
    → (certificate_of cert).routine a ≢ 0 → verdict_of rom image cert ≡ verdict.Refused 20 (rom_addr 0)
entry_beyond = entry_past_rom

pub byte_beyond : (rom : ℕ) (image cert : List ℕ) → length image ≡ rom → is_certificate_length (length cert) ≡ true → (a : ℕ) → rom ≤ a → a < largest_rom
    → (Holds (empty_entry (certificate_of cert) a) → ⊥) → verdict_of rom image cert ≡ verdict.Refused 20 (rom_addr 0)
byte_beyond = byte_past_rom

pub none_beyond : (rom : ℕ) (image cert : List ℕ) → verdict_of rom image cert ≡ verdict.Accepted → (a : ℕ) → rom ≤ a → a < largest_rom
    → ((certificate_of cert).routine a ≡ 0) × Holds (empty_entry (certificate_of cert) a)
none_beyond = bytes_past_rom

-- reading F8H or F9H gives 0 while ADCON.7-.4 is 3 or more (`inputs_of true` are the inputs of a step on such a part); below 3, and on the 4K part, the
-- record's byte; every other register reads the same on both
pub grounded_input_reads_0 : (regs rec : List ℕ) → length rec ≡ record_length → 3 ≤ get_or regs 0xF7 0 / 16
    → (load_of regs (inputs_of true rec) 0xF8 ≡ 0) × (load_of regs (inputs_of true rec) 0xF9 ≡ 0)
grounded_input_reads_0 = grounded_reads_0

pub other_input_reads_record : (grounds : Bool) (regs rec : List ℕ) → length rec ≡ record_length → (grounds && leb 3 (get_or regs 0xF7 0 / 16)) ≡ false
    → (load_of regs (inputs_of grounds rec) 0xF8 ≡ get_or rec 6 0) × (load_of regs (inputs_of grounds rec) 0xF9 ≡ get_or rec 7 0 % 4)
other_input_reads_record = ungrounded_reads_record

pub other_registers_same : (regs rec : List ℕ) (a : ℕ) → length rec ≡ record_length → a ≢ 0xF8 → a ≢ 0xF9
    → load_of regs (inputs_of true rec) a ≡ load_of regs (inputs_of false rec) a
other_registers_same = other_reads_same

-- writing HEX gives 128 data records, 5,644 bytes with the end line; `written_reads_back` of `Demands.antt` is for both parts
pub record_counts : (record_count (part_of Rom4K).rom ≡ 256) × (record_count (part_of Rom2K).rom ≡ 128)
record_counts = written.record_counts

pub text_lengths : (text_length (part_of Rom4K).rom ≡ 11276) × (text_length (part_of Rom2K).rom ≡ 5644)
text_lengths = written.text_lengths

-- the HEX reader goes by the lent length
pub either_image : (buffer_length (part_of Rom4K).rom ≡ true) × (buffer_length (part_of Rom2K).rom ≡ true)
either_image = (refl, refl)

-- `bridgecheck` stays with the 4K part: `printed` (`judge` S`Judgement`) reads into this image, and has its verdict
pub bridgecheck_image : length blank_image ≡ (part_of Rom4K).rom
bridgecheck_image = length_filled (part_of Rom4K).rom 0xFF

-- the user of either part gets the whole of demand 3. It is `accepted_runs_safely` of `Demands.antt`, over the ROM length as a parameter; of each part:
pub safe_on : (p : Profile) (image cert : List ℕ) → Bytes image → Bytes cert → verdict_of (part_of p).rom image cert ≡ verdict.Accepted
    → Demand3 (part_of p) (certificate_of cert) image
safe_on p = demand3 (part_of p) (rom_fits p)

pub safe_on_4k : (image cert : List ℕ) → Bytes image → Bytes cert → verdict_of 4096 image cert ≡ verdict.Accepted → Demand3 (part_of Rom4K) (certificate_of cert) image
safe_on_4k = safe_on Rom4K

pub safe_on_2k : (image cert : List ℕ) → Bytes image → Bytes cert → verdict_of 2048 image cert ≡ verdict.Accepted → Demand3 (part_of Rom2K) (certificate_of cert) image
safe_on_2k = safe_on Rom2K

-- that says something: image P in 2048 bytes is accepted there, with the certificate that it has on the 4K part. `fetching_small_breaks` of
-- `refused_programs` is refused, and demand 3 is false of it, by an LDC at 0800H that the 4K part allows
pub p_on_2k : verdict_of 2048 smallPart.small_image (certificate_with 364 0xA0) ≡ verdict.Accepted
p_on_2k = smallPart.small_accepted

-- Request 06. Which code has the bench reached? Testers want a map beside a run: one bit per ROM byte in 64 words of 64 bits, ascending from the first
-- word's lowest bit, set where an instruction began, and a summary that counts the set bits. The map passed in may hold earlier runs. After a run,
-- stopped or not, it has its old bits and those of the instructions completed in this run, no others; entries, waiting steps and stopped steps set none.
-- The summary equals the number of distinct marked addresses, and the lowest unmarked instruction start of a given certificate is named, or none --

-- the run with a map is `machine::run_covered`: it answers `covered_run` and leaves `covered_map`. With a map of 64 words it answers as `run`
pub covered_as_run : (K : Setup) (image : List ℕ) (s : State) (schedule m : List ℕ) → length m ≡ map_words → covered_run K image s schedule (length m) ≡ run_of K image s schedule
unfolding covered_run
covered_as_run K image s schedule m size = rw (eqb_yes size)

-- `marked m a` is the bit of address a. The old bits stay: a map never loses one
pub old_bits_stay : (K : Setup) (image : List ℕ) (s : State) (schedule m : List ℕ) → length m ≡ map_words → (a : ℕ)
    → marked m a ≡ true → marked (covered_map K image s schedule m) a ≡ true
old_bits_stay = mark_stays

-- the instructions completed in this run: `Reaches` has a step below the number of completed steps that completes an instruction (`Completes`: the machine
-- runs, no entry is due, the step is not refused) and begins at the address. A map has a bit for every address of a part's ROM (`rom_fits`)
pub completed_set : (K : Setup) (image : List ℕ) (s : State) (schedule m : List ℕ) → length m ≡ map_words → K.part.rom ≤ largest_rom → (a : ℕ)
    → Reaches K image s schedule a → marked (covered_map K image s schedule m) a ≡ true
completed_set = completed_marked

-- no others
pub no_others : (K : Setup) (image : List ℕ) (s : State) (schedule m : List ℕ) → length m ≡ map_words → (a : ℕ)
    → marked (covered_map K image s schedule m) a ≡ true → (marked m a ≡ true) ⊎ Reaches K image s schedule a
no_others = no_other_mark

-- so the map's contents are given: maps of 64 words of 64 bits with the same marks are equal
pub marks_give_the_map : (m n : List ℕ) → length m ≡ map_words → length n ≡ map_words → Words m → Words n
    → ((a : ℕ) → a < largest_rom → marked m a ≡ marked n a) → m ≡ n
marks_give_the_map = same_marks

-- two runs with one map, of any configurations and images and from any states, join what each marks in an empty map
pub maps_join : (K K' : Setup) (image image' : List ℕ) (s s' : State) (a b m : List ℕ) → length m ≡ map_words → Words m
    → covered_map K' image' s' b (covered_map K image s a m) ≡ joined (joined m (covered_map K image s a empty_map)) (covered_map K' image' s' b empty_map)
maps_join = covered_joins

pub joined_marks : (m n : List ℕ) (a : ℕ) → a < largest_rom → marked (joined m n) a ≡ (marked m a || marked n a)
joined_marks = marked_joined

-- running a and then b, if a is not stopped, answers and marks as running a ++ b
pub in_turn : (K : Setup) (image : List ℕ) (s : State) (a b : List ℕ) → length a % record_length ≡ 0 → length b % record_length ≡ 0 → (run_of K image s a).stop ≡ 0
    → let first = run_of K image s a in
    let second = run_of K image first.state b in
    (run_of K image s (a ++ b) ≡ ran second.state (first.steps + second.steps) second.stop)
    × ((m : List ℕ) → covered_map K image s (a ++ b) m ≡ covered_map K image first.state b (covered_map K image s a m))
in_turn K image s a b wa wb z = (run_in_turn K image s a b wa wb z, covered_in_turn K image s a b wa wb z)

-- if it is, a ++ b stops there, and marks no more
pub stopped_first : (K : Setup) (image : List ℕ) (s : State) (a b : List ℕ) → length a % record_length ≡ 0 → length b % record_length ≡ 0
    → ((run_of K image s a).stop ≡ 0 → ⊥)
    → (run_of K image s (a ++ b) ≡ run_of K image s a) × ((m : List ℕ) → covered_map K image s (a ++ b) m ≡ covered_map K image s a m)
stopped_first K image s a b wa wb z = (run_stopped K image s a b wa wb z, covered_stopped K image s a b wa wb z)

-- the summary is two calls. `coverage::count` answers `marked_count`: how many of the map's 4096 addresses are marked. No other address is
pub none_past_rom : (m : List ℕ) (a : ℕ) → length m ≡ map_words → largest_rom ≤ a → marked m a ≡ false
none_past_rom = marked_past

-- it is the number of set bits of the words; and of a run from an empty map, the number of addresses that it reaches
pub count_of_set_bits : (m : List ℕ) → length m ≡ map_words → Words m → marked_count m ≡ set_bits m
count_of_set_bits = set_bits_counted

pub count_of_a_run : (K : Setup) (image : List ℕ) (s : State) (schedule : List ℕ)
    → marked_count (covered_map K image s schedule empty_map) ≡ count (reached K image s schedule) (from largest_rom 0)
count_of_a_run = covered_count

-- `uncovered::lowest_unmarked` answers `lowest_of`: the address that it names is a start (its entry's routine is not 0) and unmarked, and every lower start
-- is marked (`LowestStart`); and that address is named
pub named_is_lowest : (cert m : List ℕ) (a : RomAddr) → lowest_of cert m ≡ At a → LowestStart (certificate_of cert) m a.0
named_is_lowest = lowest_at

pub lowest_is_named : (cert m : List ℕ) (a : ℕ) → is_certificate_length (length cert) ≡ true → LowestStart (certificate_of cert) m a → lowest_of cert m ≡ At (rom_addr a)
lowest_is_named = at_lowest

-- none is named exactly where every start is marked
pub none_named : (cert m : List ℕ) → lowest_of cert m ≡ AllMarked → (a : ℕ) → ((certificate_of cert).routine a ≡ 0 → ⊥) → marked m a ≡ true
none_named = all_marked

pub none_to_name : (cert m : List ℕ) → is_certificate_length (length cert) ≡ true → ((a : ℕ) → ((certificate_of cert).routine a ≡ 0 → ⊥) → marked m a ≡ true)
    → lowest_of cert m ≡ AllMarked
none_to_name = marked_all

-- 7 exactly for a certificate of another length
pub lowest_refuses : (cert m : List ℕ) (n : ℕ) → lowest_of cert m ≡ Refused n → (n ≡ 7) × (is_certificate_length (length cert) ≡ false)
lowest_refuses = lowest_refused

pub other_length_refused : (cert m : List ℕ) → is_certificate_length (length cert) ≡ false → lowest_of cert m ≡ Refused 7
other_length_refused = refused_length

-- Request 07. Show which flags an instruction touches. The listing we print for reviewers should name the flags among C, Z, S and V that an instruction
-- may change. The decoder's answer carries them from now on, and machine and checker use this answer, however they do it now; the encoder ignores it.
-- The first byte alone decides the names. A flag not named is unchanged by the step, unless the instruction stores into FLAGS itself, and each one named
-- is changed by some step of that first byte without such a store; IRET names all four. Behind a CALL a compare still never holds; elsewhere it survives
-- exactly those instructions that name no flag and cannot write its cell --

-- the flags that the map names are those that the pages of chapter 6 say are affected, typed page by page (`isa` S`PrintedFlags`)
pub flags_as_printed : (b : ℕ) → b < 256 → printed_flags b ≡ names_of b
flags_as_printed = printed.flags_as_printed

-- the decoder's answer carries them, and the first byte alone decides them
pub first_byte_names : (s : List ℕ) (at : ℕ) (d : Instruction × ℕ × FlagSet) → decode_at s at ≡ value d → d.2 ≡ names_of (get_or s at 0)
first_byte_names = names.names_by_first

-- machine and checker use the decoder's answer d: `after_decode` (`semantics` S`Step`) hands d .2 to `execute_of`, `summary_from` (`safety` S`Verdicts`) to
-- `summary_of`, and neither has another list. The encoder takes an instruction alone; what it writes decodes to that instruction
pub encoded_decodes_back : (before behind : List ℕ) (i : Instruction) (bs : List ℕ) → bytes_of i ≡ value bs
    → without_flags (decode_at (before ++ (bs ++ behind)) (length before)) ≡ value (i, length bs)
encoded_decodes_back = encoded_decodes

-- a flag not named is unchanged by the step: one that is no interrupt entry, and whose instruction does not store into FLAGS (`flag_names` S`Stores`)
pub unnamed_flag_stays : (K : Setup) (image : List ℕ) (s : State) (rec : List ℕ) (d : Instruction × ℕ × FlagSet) → decode_at image s.pc.0 ≡ value d → (g : Flag)
    → flag_in g d.2.0 ≡ false
    → stores_flags (action_of d.0 (behind s.pc d.1)) (requested s rec) (inputs_of K.part.grounds rec) (behind s.pc d.1) ≡ false
    → entry_due (requested s rec) s.mode ≡ false
    → flag_in g (flags_in (step_of K image s rec).state.regs) ≡ flag_in g (flags_in s.regs)
unnamed_flag_stays = unnamed_kept

-- each one named is changed by some step of that first byte without such a store
pub named_flag_changes : (k : Configuration) → is_entry_cost (setup_of k).entry_cost ≡ true → (first : ℕ) → first < 256 → (g : Flag)
    → flag_in g (names_of first).0 ≡ true → ChangedBy (setup_of k) first g
named_flag_changes k valid = named_changed (setup_of k).entry_cost valid k.profile

-- IRET names all four
pub iret_names_all : (s : List ℕ) → Bytes s → (at : ℕ) (d : Instruction × ℕ × FlagSet) → decode_at s at ≡ value d → d.0 ≡ Instruction.Implied Implied.Iret
    → d.2 ≡ all_flags
iret_names_all = iret_named

-- so its load of FLAGS, which goes through the names as every change of a flag, leaves what a store into FLAGS leaves
pub iret_loads_flags : (regs : List ℕ) (x : ℕ) → x < 256 → with_flags regs all_flags x ≡ store_of regs flags_cell x
iret_loads_flags = iret_loads

-- behind a CALL a compare never holds
pub no_compare_behind_call : (C : Certificate) (image : List ℕ) (a next : ℕ) (to : RomAddr) → (summary_at C image a).flow ≡ Call to
    → Holds (rule26 C a (summary_at C image a) next) → C.compare_cell next ≡ no_cell
no_compare_behind_call = none_behind_call

-- elsewhere it survives exactly the instructions that name no flag and cannot write its cell, by the rule's own `change_of` (`Survives`): rule 26 says of an
-- edge that is not skipped that the claims follow and that a compare at its end is made by this very CP or survives, and no more
pub compare_survives_exactly : (C : Certificate) (image : List ℕ) (a : ℕ) (d : Instruction × ℕ × FlagSet) → Bytes image → decode_at image a ≡ value d
    → (cc : ℕ) (to : RomAddr) → (summary_at C image a).flow ≡ Step cc to → (e : Edge)
    → (Holds (edge26 C a (summary_at C image a) e) → EdgeFollows C image a d e) × (EdgeFollows C image a d e → Holds (edge26 C a (summary_at C image a) e))
compare_survives_exactly = compare_survives

-- rule 26 of a CALL says that the claims follow, that there is no compare behind it, and that one at the start that it goes to survives the CALL
pub compare_over_call_exactly : (C : Certificate) (image : List ℕ) (a : ℕ) (d : Instruction × ℕ × FlagSet) → Bytes image → decode_at image a ≡ value d
    → (next : ℕ) (to : RomAddr) → (summary_at C image a).flow ≡ Call to
    → (Holds (rule26 C a (summary_at C image a) next) → CallFollows C image a d next to.0)
    × (CallFollows C image a d next to.0 → Holds (rule26 C a (summary_at C image a) next))
compare_over_call_exactly = compare_over_call

-- Request 12. A load anybody can repeat. Two benches want to compare long runs without sending files. Schedules are made by Marsaglia's 32-bit xorshift
-- with shifts 13 left, 17 right, 5 left: each state after a round gives four bytes, lowest first, two rounds a record, and bits 5 to 7 of byte 0 are
-- cleared. The state after n records comes back with them, so that making n and then m records equals making n + m. Checks: 7 for a seed of 0 or a
-- buffer not a multiple of 8 --

-- the call is `xorshift::fill`: it answers `fill_answer` of a seed and of the buffer's length, and leaves `fill_buffer`. A round is `round`, n records are
-- `records_from n seed`, the state after them is `state_after n seed`. The first states from two seeds, as they are published
pub published_states : (states_from 5 2463534242 ≡ 723471715 ∷ 2497366906 ∷ 2064144800 ∷ 2008045182 ∷ 3532304609 ∷ [])
    × (states_from 5 1 ≡ 270369 ∷ 67634689 ∷ 2647435461 ∷ 307599695 ∷ 2398689233 ∷ [])
published_states = (marsaglia_first, one_first)

-- a state that is not 0 never becomes 0, neither after a round nor after n records, and a state has 32 bits
pub round_stays_nonzero : (x : ℕ) → x < 2 ^ 32 → (x ≡ 0 → ⊥) → (round x ≡ 0 → ⊥) × (round x < 2 ^ 32)
round_stays_nonzero x h f = (λ (e : round x ≡ 0). f (round_nonzero x h e), round_below x h)

pub state_stays_nonzero : (n x : ℕ) → x < 2 ^ 32 → (x ≡ 0 → ⊥) → (state_after n x ≡ 0 → ⊥) × (state_after n x < 2 ^ 32)
state_stays_nonzero n x h f = (λ (e : state_after n x ≡ 0). f (state_nonzero n x h e), state_below n x h)

-- making n and then m records equals making n + m: a call over a buffer a that answers a state, then one from that state over a buffer b of whole
-- records. The second is not refused; it answers what one call over both buffers answers, and both calls leave what that one leaves (`InTwo`)
pub records_in_two_calls : (seed state : ℕ) (a b : List ℕ) → seed < 2 ^ 32 → fill_answer seed (length a) ≡ value state
    → length b % record_length ≡ 0 → InTwo seed state a b
records_in_two_calls = in_two

-- 7 for a seed of 0 or a buffer not a multiple of 8
pub fill_refuses : (seed size : ℕ) → (seed ≡ 0) ⊎ (size % record_length ≡ 0 → ⊥) → fill_answer seed size ≡ refused 7
fill_refuses = fill_refused

-- for nothing else: any other buffer is filled with records, and the state after them comes back
pub fill_makes : (seed : ℕ) (out : List ℕ) → (seed ≡ 0 → ⊥) → length out % record_length ≡ 0
    → (fill_answer seed (length out) ≡ value (state_after (length out / record_length) seed))
    × (fill_buffer seed out ≡ records_from (length out / record_length) seed)
fill_makes seed out f w =
    let t : Fits seed (length out) = record { seeded = f; whole = w } in
    (fits_answer seed (length out) t, fits_buffer seed out t)

-- what is made are whole records of bytes: one of the schedules of demand 3
pub made_schedule : (n seed : ℕ) → Schedule (records_from n seed)
made_schedule n seed = record { whole = omega (arith, length_records n seed); bytes = records_bytes n seed }

-- record k of them comes from the state after the k before it; bits 5 to 7 of its byte 0 are 0
pub made_record : (n k seed : ℕ) → k < n
    → (record_at (records_from n seed) k ≡ record_from (state_after k seed)) × (bit_and (get_or (record_at (records_from n seed) k) 0 0) 0xE0 ≡ 0)
made_record n k seed h =
    let e = record_made n k seed h in
    (e, rw e (no_other_bit (state_after k seed)))

-- bits 0 to 4 are the five requests: from every seed other than 0 each of them occurs within the first 32 records
pub each_request_occurs : (i seed : ℕ) → i < 5 → seed < 2 ^ 32 → (seed ≡ 0 → ⊥)
    → (k : ℕ) × (k < 32) × (get_or (record_from (state_after k seed)) 0 0 / 2 ^ i % 2 ≡ 1)
each_request_occurs = each_request

-- Request 13. Lower-case HEX goes. Our programmers' sockets reject small letters, and mixed files caused returned chips. From now on the reader refuses
-- them. For files already in the drawer one separate call turns in place an old line that breaks none of 1 to 3 as they stood into its upper-case line;
-- it changes nothing else, and the new reader treats that line as the former one treated the old. Checks: 1 also for a to f; the separate call refuses by
-- 1 to 3 as before --

-- a line with a small letter anywhere is 1, unless 7 or 6 stands before it
pub small_letter_refused : (reader : Reader) (size : ℕ) (line : List ℕ) (i : ℕ) → buffer_length size ≡ true → reader.ended ≡ false
    → small_letter (get_or line i 0) ≡ true → read_line reader size line ≡ refused 1
small_letter_refused = small.small_refused

-- no text with a small letter anywhere is read; a file in pieces gets the text's answer (`stream_reads_text` of `hex_text`)
pub text_without_small_letters : (text : List ℕ) (size : ℕ) → text_answer text size ≡ value tt → NoSmall text
text_without_small_letters = small.text_without

-- the separate call is `hex_upper::upper_line`: it answers `upper_answer` of a line and leaves `upper_line`. The former reader is `former_line`, `former_buffer`.
-- The reader gives a converted line the number, the reader and the buffer that the former one gave the old line
pub converted_line_read : (line : List ℕ) → upper_answer line ≡ value tt → (reader : Reader) (buffer : List ℕ)
    → (read_line reader (length buffer) (upper_line line) ≡ former_line reader (length buffer) line)
    × (line_buffer reader (upper_line line) buffer ≡ former_buffer reader line buffer)
converted_line_read line e reader buffer =
    (upper.converted_read line e reader (length buffer), upper.converted_buffer line e reader buffer)

-- a small letter of a converted line becomes its upper-case letter; the call changes no other character, neither the line's length nor its end
pub letter_converted : (line : List ℕ) (i : ℕ) → upper_answer line ≡ value tt → small_letter (get_or line i 0) ≡ true
    → get_or (upper_line line) i 0 ≡ get_or line i 0 - 32
letter_converted = upper.upper_letters

pub other_characters_stay : (line : List ℕ) (i : ℕ) → small_letter (get_or line i 0) ≡ false → get_or (upper_line line) i 0 ≡ get_or line i 0
other_characters_stay = upper.upper_others

pub length_stays : (line : List ℕ) → (length (upper_line line) ≡ length line) × (body_length (upper_line line) ≡ body_length line)
length_stays line = (upper.upper_length line, upper.upper_end line)

pub without_small_letters : (line : List ℕ) → NoSmall line → upper_line line ≡ line
without_small_letters = upper.upper_same

-- 1 to 3 as they stood: the call refuses exactly the lines that the former reader, with a buffer of the right length and no end line read, refused by 1
-- to 3, by the same number. A refused line is left as it was: `upper_line_lends` of `Demands.antt`
pub refused_as_before : (reader : Reader) (size : ℕ) → buffer_length size ≡ true → reader.ended ≡ false → (line : List ℕ) (n : ℕ)
    → upper_answer line ≡ refused n → former_line reader size line ≡ refused n
refused_as_before = upper.refused_as_before

pub refused_before : (reader : Reader) (size : ℕ) → buffer_length size ≡ true → reader.ended ≡ false → (line : List ℕ) (n : ℕ)
    → former_line reader size line ≡ refused n → n ≤ 3 → upper_answer line ≡ refused n
refused_before = upper.refused_before

-- `:00000001ff` becomes the end line: `end_line_converted` of `hex_upper`

-- Request 14. Ranges over a whole ROM table. Our linearising tables hold pointers that are small by construction, yet an LDC into R4 counts as 0 to 255.
-- LDC, LDCI and LDCD are to give their destination the least and greatest of all ROM bytes that the claims on both halves of the pair, with the offset
-- unwrapped, let them reach, for the whole set together. A half without a claim counts as 0 to 255; a direct address reaches its one byte. For LDCI and
-- LDCD the pair itself counts as 0 to 255 afterwards, and so does a destination that belongs to the pair. 24 tests this same set in place of the high
-- half alone. An old certificate that was accepted stays accepted --

-- `CodeReaches C a c t` (`Reaches` of `safety` S`CodeReach`) says that t is in the set: 256 × h + l + offset, h and l over the ranges of both halves at a
-- (`low`, `high`). `load_range` is the range of its bytes. Where 24 holds every byte that is reached lies in it
pub reached_byte_in_range : (C : Certificate) (rom : ℕ) (image : List ℕ) (a : ℕ) → length image ≡ rom → (c : CodeAccess) → Holds (code_in_rom C rom a c)
    → (t : ℕ) → CodeReaches C a c t → ((load_range C image a c).least ≤ get_or image t 0) × (get_or image t 0 ≤ (load_range C image a c).greatest)
reached_byte_in_range = loaded_holds

-- and both its ends are bytes that are reached, so they are the least and the greatest
pub range_ends_reached : (C : Certificate) (rom : ℕ) (image : List ℕ) (a : ℕ) → length image ≡ rom → Bytes image → (c : CodeAccess) → Holds (code_in_rom C rom a c)
    → (t : ℕ) → CodeReaches C a c t → ReachedByte C image a c (load_range C image a c).least × ReachedByte C image a c (load_range C image a c).greatest
range_ends_reached C rom image a full bytes c h t r = (loaded_least C rom image a full bytes c h t r, loaded_greatest C rom image a full bytes c h t r)

-- a half without a claim counts as 0 to 255
pub half_without_claim : (C : Certificate) (a x : ℕ) → x ≢ C.first_cell a → x ≢ C.second_cell a → (low C a x ≡ 0) × (high C a x ≡ 255)
half_without_claim = unclaimed

-- a direct address reaches its one byte
pub direct_address : (C : Certificate) (rom : ℕ) (image : List ℕ) (a : ℕ) → length image ≡ rom → Bytes image → (t : RomAddr) → t.0 < rom
    → load_range C image a (CodeAccess.Direct t) ≡ range (get_or image t.0 0) (get_or image t.0 0)
direct_address = loaded_direct

-- the destination of LDC gets that range: rule 26 goes by `change_of`
pub destination_ranged : (C : Certificate) (image : List ℕ) (a : ℕ) (d : Instruction × ℕ × FlagSet) → decode_at image a ≡ value d
    → (r : RegAddr) (c : CodeAddress) → action_of d.0 (rom_addr ((a + d.1) % 65536)) ≡ Action.LoadCode r c
    → change_of C a (summary_at C image a).write r.0 ≡ changed (Within (load_range C image a (code_access c)))
destination_ranged = destination_of_load

-- of LDCI and LDCD too, unless it belongs to the pair
pub stepped_destination_ranged : (C : Certificate) (image : List ℕ) (a : ℕ) (d : Instruction × ℕ × FlagSet) → decode_at image a ≡ value d
    → (r p : RegAddr) (up : Bool) → action_of d.0 (rom_addr ((a + d.1) % 65536)) ≡ Action.LoadCodeStep r p up → r.0 ≢ p.0 → r.0 ≢ p.0 + 1
    → change_of C a (summary_at C image a).write r.0 ≡ changed (Within (load_range C image a (CodeAccess.Pair p 0 0)))
stepped_destination_ranged = destination_of_step

-- both halves of the pair, and so a destination that is one of them, count as 0 to 255 afterwards
pub stepped_pair_unknown : (C : Certificate) (image : List ℕ) (a : ℕ) (d : Instruction × ℕ × FlagSet) → decode_at image a ≡ value d
    → (r p : RegAddr) (up : Bool) → action_of d.0 (rom_addr ((a + d.1) % 65536)) ≡ Action.LoadCodeStep r p up → (x : ℕ) → (x ≡ p.0) ⊎ (x ≡ p.0 + 1)
    → change_of C a (summary_at C image a).write x ≡ changed Unknown
stepped_pair_unknown = pair_of_step

-- 24 tests this same set: of the instruction it reads the access of which the destination gets the range
pub load_tested : (C : Certificate) (image : List ℕ) (a : ℕ) (d : Instruction × ℕ × FlagSet) → decode_at image a ≡ value d
    → (r : RegAddr) (c : CodeAddress) → action_of d.0 (rom_addr ((a + d.1) % 65536)) ≡ Action.LoadCode r c → (summary_at C image a).code ≡ code_access c
load_tested = code_of_load

pub step_tested : (C : Certificate) (image : List ℕ) (a : ℕ) (d : Instruction × ℕ × FlagSet) → decode_at image a ≡ value d
    → (r p : RegAddr) (up : Bool) → action_of d.0 (rom_addr ((a + d.1) % 65536)) ≡ Action.LoadCodeStep r p up
    → (summary_at C image a).code ≡ CodeAccess.Pair p 0 0
step_tested = code_of_step

-- where it holds, every sum of values of both halves and the offset is an address of ROM (`SetInRom`), none of them negative
pub set_lies_in_rom : (C : Certificate) (rom a : ℕ) (p : RegAddr) (up down : ℕ) → Holds (code_in_rom C rom a (CodeAccess.Pair p up down))
    → SetInRom C rom a p.0 up down
set_lies_in_rom = set_in_rom

-- and where they all are, it holds. The pairs are working registers, and down is at most 128
pub rom_holds_the_set : (C : Certificate) (rom a : ℕ) → rom ≤ largest_rom → (p : RegAddr) (up down : ℕ) → p.0 < ram_end → down < 256
    → low C a p.0 ≤ high C a p.0 → low C a (p.0 + 1) ≤ high C a (p.0 + 1) → SetInRom C rom a p.0 up down
    → Holds (code_in_rom C rom a (CodeAccess.Pair p up down))
rom_holds_the_set = whole_set_in_rom

-- an old certificate that was accepted stays accepted; `verdict_formerly` is the verdict as it was
pub still_accepted : (rom : ℕ) (image cert : List ℕ) → Bytes image → Bytes cert → verdict_formerly rom image cert ≡ verdict.Accepted → verdict_of rom image cert ≡ verdict.Accepted
still_accepted = formerly.still_accepted

-- a program whose pointer comes from a table in ROM is accepted, and was not. With one byte of the table too large it is refused; `exceeding_breaks` of
-- `refused_programs` shows that demand 3 is false of it
pub table_accepted : (verdict_of program.rom (linearised.image_with 6) linearised.certificate ≡ verdict.Accepted)
    × (verdict_formerly program.rom (linearised.image_with 6) linearised.certificate ≡ verdict.Refused 26 (rom_addr 0x10B))
    × (verdict_of program.rom (linearised.image_with 0x10) linearised.certificate ≡ verdict.Refused 26 (rom_addr 0x10B))
table_accepted = (linearised.linearised_accepted, linearised.linearised_formerly, linearised.exceeding_refused)
