-- The characters of an Intel HEX line: digits, pairs, the sum, the fields, the data, and where its end begins.
-- A digit, a pair or a sum that is none is the first number above its values: 16, 256, 256.
-- What is read of a line is defined over a digit test, so that the former reader, which took small letters too, is said once with this one.
-- Assumes nothing.
use Rattle.std.specs.Prelude.{ℕ, zero, suc, ◌+◌, ◌-◌, ◌*◌, ◌%◌, ◌<◌, Option, Some, None, List, [], ◌∷◌, ◌++◌, length, get_or, take, eqb, ltb}
use Rattle.base.specs.Choice.{pick}
use Rattle.base.specs.Outcome.{Outcome}
use Rattle.base.specs.Outcome.Outcome.{value, refused}
use Rattle.hex_line.specs.declared.Fields.{Fields}

-- the reader's digit test: the value of 0 to 9 or A to F; 16 of any other character, a to f among them
abbrev pub digit_of : ℕ → ℕ
digit_of c =
    pick (ltb c 48) 16
    (pick (ltb c 58) (c - 48)
    (pick (ltb c 65) 16 (pick (ltb c 71) (c - 55) 16)))

-- the value of two digits; 256 where one is none
abbrev pub joined : ℕ → ℕ → ℕ
joined high low = pick (ltb high 16) (pick (ltb low 16) (high * 16 + low) 256) 256

-- a digit, a pair or a sum that the code answers, as these numbers
abbrev pub digit_value : Option ℕ → ℕ
digit_value (Some digit) = digit
digit_value None = 16

abbrev pub pair_value : Option ℕ → ℕ
pair_value (Some pair) = pair
pair_value None = 256

-- a sum modulo 256; 256 where a pair is none
abbrev pub added : ℕ → ℕ → ℕ
added a b = pick (ltb a 256) (pick (ltb b 256) ((a + b) % 256) 256) 256

-- what is read of a line by a digit test
module _ (digit : ℕ → ℕ) where
  -- the pair at a position. Past the end stands 0, which is no digit
  unfoldable pub pair_by : List ℕ → ℕ → ℕ
  pair_by l k = joined (digit (get_or l k 0)) (digit (get_or l (k + 1) 0))

  -- the sum of the first n pairs behind the colon
  unfoldable pub sum_by : List ℕ → ℕ → ℕ
  sum_by l zero = 0
  sum_by l (suc n) = added (sum_by l n) (pair_by l (n * 2 + 1))

  -- the length byte, the address and the record type
  unfoldable pub count_by : List ℕ → ℕ
  count_by l = pair_by l 1

  unfoldable pub address_by : List ℕ → ℕ
  address_by l = pair_by l 3 * 256 + pair_by l 5

  unfoldable pub fields_by : List ℕ → Fields
  fields_by l = record { count = count_by l; address = address_by l; kind = pair_by l 7; sum = sum_by l (count_by l + 5) }

  -- the first n data bytes. On a line that is read each pair is below 256
  unfoldable pub data_by : List ℕ → ℕ → List ℕ
  data_by l zero = []
  data_by l (suc n) = data_by l n ++ (pair_by l (n * 2 + 9) % 256 ∷ [])

  -- 1: not a colon, the pairs that the length byte calls for (itself, address, type, data, sum) and nothing more
  unfoldable pub parse_by : List ℕ → Outcome Fields
  parse_by l =
      pick (eqb (get_or l 0 0) 58)
      (pick (eqb (length l) (count_by l * 2 + 11))
      (pick (ltb (sum_by l (count_by l + 5)) 256) (value (fields_by l)) (refused 1))
      (refused 1))
      (refused 1)

-- by the reader's digit test
abbrev pub pair_at : List ℕ → ℕ → ℕ
pair_at = pair_by digit_of

abbrev pub sum_of : List ℕ → ℕ → ℕ
sum_of = sum_by digit_of

abbrev pub count_of : List ℕ → ℕ
count_of = count_by digit_of

abbrev pub address_of : List ℕ → ℕ
address_of = address_by digit_of

abbrev pub fields_of : List ℕ → Fields
fields_of = fields_by digit_of

abbrev pub data_of : List ℕ → ℕ → List ℕ
data_of = data_by digit_of

abbrev pub parse_body : List ℕ → Outcome Fields
parse_body = parse_by digit_of

-- no fields are 1
abbrev pub parsed_outcome : Option Fields → Outcome Fields
parsed_outcome (Some f) = value f
parsed_outcome None = refused 1

-- the fields of a formed line are small enough to add
abbrev pub Small : Option Fields → Type 0
Small (Some f) = (f.count < 257) × (f.address < 66000) × (f.sum < 257)
Small None = Unit {0}

-- the length of a line without its LF or CR LF
unfoldable pub body_length : List ℕ → ℕ
body_length l =
    pick (eqb (get_or l (length l - 1) 0) 10)
    (pick (eqb (get_or l (length l - 2) 0) 13) (length l - 2) (length l - 1))
    (length l)

-- the line without it
abbrev pub body_of : List ℕ → List ℕ
body_of l = take (body_length l) l
