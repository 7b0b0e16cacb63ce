-- The pairs of a line, as the bytes that are kept while it is read, and what is read from them.
-- Assumes nothing.
use Rattle.std.specs.Prelude.{ℕ, ◌+◌, ◌*◌, ◌<◌, ◌≡◌, List, ◌++◌, get_or, take, drop, eqb}
use Rattle.base.specs.Choice.{pick}
use Rattle.base.specs.Outcome.{Outcome}
use Rattle.base.specs.Outcome.Outcome.{value, refused}
use Rattle.hex_line.specs.declared.Fields.{Fields}
use Rattle.hex_line.specs.Record.{pair_at, count_of}
use Rattle.hex_line.specs.Sum.{AllPairs}

-- the first n pairs are digits and stand at the front of a list
abbrev pub Kept : List ℕ → ℕ → List ℕ → Type 0
Kept l n pairs = AllPairs l n × ((i : ℕ) → i < n → get_or pairs i 0 ≡ pair_at l (i * 2 + 1))

-- the length byte and the address among the pairs that were kept
abbrev pub count_in : List ℕ → ℕ
count_in pairs = get_or pairs 0 0

abbrev pub address_in : List ℕ → ℕ
address_in pairs = get_or pairs 1 0 * 256 + get_or pairs 2 0

-- the fields in n pairs, with this sum, if the length byte calls for so many
abbrev pub fields_in : List ℕ → ℕ → ℕ → Outcome Fields
fields_in pairs n s =
    pick (eqb (count_in pairs + 5) n)
    (value (record { count = count_in pairs; address = address_in pairs; kind = get_or pairs 3 0; sum = s }))
    (refused 1)

-- the buffer with the data among the pairs in place of what stood from the record's address on
abbrev pub stored_from : List ℕ → List ℕ → List ℕ
stored_from pairs buffer =
    take (address_in pairs) buffer ++ (take (count_in pairs) (drop 4 pairs) ++ drop (count_in pairs) (drop (address_in pairs) buffer))

-- of a line that is not refused all pairs are kept: length byte, address, type, data, sum
abbrev pub KeptUnless : {A : Type 0} → Outcome A → List ℕ → List ℕ → Type 0
KeptUnless (value a) l pairs = Kept l (count_of l + 5) pairs
KeptUnless (refused n) l pairs = Unit {0}
