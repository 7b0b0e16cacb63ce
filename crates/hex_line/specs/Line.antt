-- What reading one line answers, by 01's numbers, and what it leaves in the lent buffer.
-- Assumes nothing.
use Rattle.std.specs.Prelude.{ℕ, ◌+◌, ◌≤◌, ◌≡◌, Bool, true, false, Result, Ok, Err, List, ◌++◌, length, take, drop, eqb, leb}
use Rattle.base.specs.Choice.{pick}
use Rattle.base.specs.Outcome.{Outcome, and_then, on_outcome, outcome_by}
use Rattle.base.specs.Outcome.Outcome.{value, refused}
use Rattle.base.specs.Lengths.{is_certificate_length}
use Rattle.base.specs.Parts.{is_image_length}
use Rattle.base.specs.declared.InvalidArgument.{InvalidArgument}
use Rattle.hex_line.specs.Record.{digit_of, count_by, address_by, data_by, parse_by, body_of}
use Rattle.hex_line.specs.declared.Reader.{Reader}
use Rattle.hex_line.specs.declared.Fields.{Fields}
use Rattle.hex_line.specs.declared.Fault.{Fault}

-- whether a lent buffer is as long as an image or a certificate
abbrev pub buffer_length : ℕ → Bool
buffer_length n = pick (is_image_length n) true (is_certificate_length n)

-- before the first line
abbrev pub begun : Reader
begun = record { next = 0; ended = false }

-- the number of each refusal
abbrev pub fault_number : Fault → ℕ
fault_number Fault.Malformed = 1
fault_number Fault.BadSum = 2
fault_number Fault.BadType = 3
fault_number Fault.Overlap = 4
fault_number Fault.PastEnd = 5
fault_number Fault.AfterEnd = 6
fault_number Fault.WrongLength = 7

-- the refusal with a number of 01's table, if there is one
abbrev pub HasNumber : ℕ → Result Fault InvalidArgument → Type 0
HasNumber n (Ok fault) = fault_number fault ≡ n
HasNumber n (Err e) = (1 ≤ n) × (n ≤ 7) → ⊥

-- what reading or checking a line tells, by its fault's number
abbrev pub line_outcome : Result Reader Fault → Outcome Reader
line_outcome = outcome_by fault_number

abbrev pub checked_outcome : Result (Unit {0}) Fault → Outcome (Unit {0})
checked_outcome = outcome_by fault_number

-- type 01: no data, address 0 and sum 0 make it :00000001FF, else 1
abbrev pub check_end : Fields → Outcome (Unit {0})
check_end f =
    pick (eqb f.count 0) (pick (eqb f.address 0) (pick (eqb f.sum 0) (value tt) (refused 1)) (refused 1)) (refused 1)

-- another type: 2 sum not 0, 3 type not 00
abbrev pub check_data : Fields → Outcome (Unit {0})
check_data f = pick (eqb f.sum 0) (pick (eqb f.kind 0) (value tt) (refused 3)) (refused 2)

-- the faults of the fields themselves
abbrev pub check_fields : Fields → Outcome (Unit {0})
check_fields f = pick (eqb f.kind 1) (check_end f) (check_data f)

-- the reader behind a record: 4 begins before the last record's end, 5 ends past the buffer
abbrev pub place_data : Reader → ℕ → Fields → Outcome Reader
place_data reader size f =
    pick (leb reader.next f.address)
    (pick (leb (f.address + f.count) size) (value (record { next = f.address + f.count; ended = false })) (refused 5))
    (refused 4)

-- behind the end line, or a record
abbrev pub place_fields : Reader → ℕ → Fields → Outcome Reader
place_fields reader size f =
    pick (eqb f.kind 1) (value (record { next = reader.next; ended = true })) (place_data reader size f)

abbrev pub read_fields : Reader → ℕ → Fields → Outcome Reader
read_fields reader size f = and_then (check_fields f) (λ _. place_fields reader size f)

-- what reading a line does, by a digit test
module _ (digit : ℕ → ℕ) where
  -- 1 to 3, which concern neither reader nor buffer, of a line without its end
  unfoldable pub check_by : List ℕ → Outcome (Unit {0})
  check_by body = and_then (parse_by digit body) check_fields

  -- the answer to a line for a buffer of this size: 7, then 6, then 1 to 5
  unfoldable pub read_by : Reader → ℕ → List ℕ → Outcome Reader
  read_by reader size line =
      pick (buffer_length size)
      (pick reader.ended (refused 6) (and_then (parse_by digit (body_of line)) (read_fields reader size)))
      (refused 7)

  -- the buffer with the data bytes of a line in place of what stood from the record's address on
  unfoldable pub stored_by : List ℕ → List ℕ → List ℕ
  stored_by body buffer =
      let a = address_by digit body in
      let n = count_by digit body in
      take a buffer ++ (data_by digit body n ++ drop n (drop a buffer))

  -- the buffer behind a line: with its data where it is read, unchanged where it is refused. The end line has no data
  unfoldable pub buffer_by : Reader → List ℕ → List ℕ → List ℕ
  buffer_by reader line buffer =
      on_outcome (read_by reader (length buffer) line) (λ next. stored_by (body_of line) buffer) (λ number. buffer)

-- by the reader's digit test
abbrev pub check_body : List ℕ → Outcome (Unit {0})
check_body = check_by digit_of

abbrev pub read_line : Reader → ℕ → List ℕ → Outcome Reader
read_line = read_by digit_of

abbrev pub stored : List ℕ → List ℕ → List ℕ
stored = stored_by digit_of

abbrev pub line_buffer : Reader → List ℕ → List ℕ → List ℕ
line_buffer = buffer_by digit_of
