-- What was found in a refused line, and what should stand there.
-- Assumes nothing.
use Rattle.std.specs.Prelude.{ℕ, suc, ◌+◌, ◌-◌, ◌*◌, ◌%◌, List, [], ◌∷◌, length, get_or, drop, eqb, ltb}
use Rattle.base.specs.Choice.{pick}
use Rattle.base.specs.Outcome.{on_outcome}
use Rattle.hex_line.specs.Record.{digit_of, pair_at, count_of, parse_body, body_of}
use Rattle.hex_line.specs.Line.{read_line}
use Rattle.hex_line.specs.declared.Reader.{Reader}
use Rattle.hex_line.specs.declared.Fields.{Fields}
use Rattle.hex_fault.specs.declared.Finding.{Finding}

-- how many digits a text begins with
unfoldable pub digits_from : List ℕ → ℕ
digits_from [] = 0
digits_from (c ∷ t) = pick (ltb 15 (digit_of c)) 0 (suc (digits_from t))

-- how many characters the length byte calls for
abbrev pub called_for : List ℕ → ℕ
called_for body = count_of body * 2 + 11

-- not as many characters as the length byte calls for
abbrev pub wrong_count : List ℕ → Finding
wrong_count body = pick (ltb (length body) 3) (Finding.Cut (length body)) (Finding.Characters (length body) (called_for body))

-- the first thing that is wrong in a malformed line: a character within what the length byte calls for that is no digit, else the number of characters
abbrev pub wrong_digit : List ℕ → ℕ → Finding
wrong_digit body end =
    pick (ltb end (length body)) (pick (ltb end (called_for body)) (Finding.NoDigit (end + 1) (get_or body end 0)) (wrong_count body)) (wrong_count body)

unfoldable pub malformed : List ℕ → Finding
malformed body =
    pick (eqb (length body) 0) Finding.Empty
    (pick (eqb (get_or body 0 0) 58) (wrong_digit body (1 + digits_from (drop 1 body))) (Finding.NoColon (get_or body 0 0)))

-- the pair that a line ends with: the sum byte
unfoldable pub last_pair : List ℕ → ℕ
last_pair body = pair_at body (length body - 2)

-- the sum byte in place of this one that makes the sum 0 modulo 256
abbrev pub right_sum : ℕ → ℕ → ℕ
right_sum found sum = (found + 256 - sum) % 256

abbrev pub bad_sum : List ℕ → ℕ → Finding
bad_sum body sum = Finding.Sum (last_pair body) (right_sum (last_pair body) sum)

-- in a well-formed line, by the number of its refusal; 1 is that of a type 01 line other than the end line
abbrev pub field_finding : List ℕ → ℕ → Reader → ℕ → Fields → Finding
field_finding body size reader n f =
    pick (eqb n 2) (bad_sum body f.sum)
    (pick (eqb n 3) (Finding.Type f.kind)
    (pick (eqb n 4) (Finding.Address f.address reader.next)
    (pick (eqb n 5) (Finding.End (f.address + f.count) size) Finding.NoEndLine)))

abbrev pub line_finding : List ℕ → ℕ → Reader → ℕ → Finding
line_finding body size reader n = on_outcome (parse_body body) (field_finding body size reader n) (λ k. malformed body)

-- 7 and 6 are no fault of the line itself
abbrev pub refusal_finding : List ℕ → ℕ → Reader → ℕ → Finding
refusal_finding body size reader n =
    pick (eqb n 7) Finding.OtherBuffer (pick (eqb n 6) Finding.BehindEnd (line_finding body size reader n))

-- in a line, for a buffer of this size
unfoldable pub finding_of : Reader → ℕ → List ℕ → Finding
finding_of reader size line = on_outcome (read_line reader size line) (λ next. Finding.Right) (refusal_finding (body_of line) size reader)

-- the number of the refusal that a finding tells of, 0 of a line that is read
abbrev pub finding_number : Finding → ℕ
finding_number Finding.Right = 0
finding_number Finding.OtherBuffer = 7
finding_number Finding.BehindEnd = 6
finding_number Finding.Empty = 1
finding_number (Finding.NoColon c) = 1
finding_number (Finding.NoDigit k c) = 1
finding_number (Finding.Cut n) = 1
finding_number (Finding.Characters n m) = 1
finding_number Finding.NoEndLine = 1
finding_number (Finding.Sum x y) = 2
finding_number (Finding.Type x) = 3
finding_number (Finding.Address x y) = 4
finding_number (Finding.End x y) = 5
