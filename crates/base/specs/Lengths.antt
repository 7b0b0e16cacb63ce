-- The lengths that 01 and 02 name, and the greatest cost of an interrupt entry.
-- Assumes nothing.
use Rattle.std.specs.Prelude.{ℕ, Bool, ◌||◌, ◌==◌, nat_le}

-- bytes of the largest ROM: the certificate has an entry, and a coverage map a bit, for each of its addresses
abbrev pub largest_rom : ℕ
largest_rom = 4096

-- bytes of a certificate: without the cycles of an entry, which are then 0, and with them, one byte more (request 03)
abbrev pub short_certificate_length : ℕ
short_certificate_length = 58498

abbrev pub long_certificate_length : ℕ
long_certificate_length = 58499

abbrev pub is_certificate_length : ℕ → Bool
is_certificate_length n = n == short_certificate_length || n == long_certificate_length

-- the cycles of an entry are 0 to 63
abbrev pub greatest_entry_cost : ℕ
greatest_entry_cost = 63

abbrev pub is_entry_cost : ℕ → Bool
is_entry_cost n = nat_le n greatest_entry_cost

-- bytes of a schedule record
abbrev pub record_length : ℕ
record_length = 8
