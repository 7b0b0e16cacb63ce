-- What a certificate says of an address, of a register and of a routine, as the checker's code holds it.
-- Assumes nothing.
use Rattle.std.specs.Prelude.{ℕ, ◌+◌, List, get_or}
use Rattle.base.specs.Addresses.{reg_addr, rom_addr}
use Rattle.certificate.specs.Layout.{Certificate, word, certificate_of}
use Rattle.entries.specs.declared.Certificate as lent
use Rattle.entries.specs.declared.Claim.{Claim}
use Rattle.entries.specs.declared.Entry.{Entry}
use Rattle.entries.specs.declared.CellRow.{CellRow}
use Rattle.entries.specs.declared.RoutineRow.{RoutineRow}

-- what a lent certificate says
abbrev pub said_by : lent.Certificate → Certificate
said_by c = certificate_of c.bytes.now

-- cell, lo, hi
abbrev pub claim_of : List ℕ → ℕ → Claim
claim_of b i = record { cell = reg_addr (get_or b i 0); low = get_or b (i + 1) 0; high = get_or b (i + 2) 0 }

-- the fields of an entry's part
unfoldable pub entry_from : List ℕ → Entry
entry_from b = record {
  routine = get_or b 0 0;
  depth = get_or b 1 0;
  base = word b 2;
  slope = get_or b 4 0;
  direction = get_or b 5 0;
  first = claim_of b 6;
  second = claim_of b 9;
  compare = record { cell = reg_addr (get_or b 12 0); number = get_or b 13 0 };
}

abbrev pub entry_of : Certificate → ℕ → Entry
entry_of C a = record {
  routine = C.routine a;
  depth = C.depth a;
  base = C.base a;
  slope = C.slope a;
  direction = C.direction a;
  first = record { cell = reg_addr (C.first_cell a); low = C.first_low a; high = C.first_high a };
  second = record { cell = reg_addr (C.second_cell a); low = C.second_low a; high = C.second_high a };
  compare = record { cell = reg_addr (C.compare_cell a); number = C.compare_number a };
}

abbrev pub cell_row_of : Certificate → ℕ → CellRow
cell_row_of C x = record { class = C.class x; limit = C.limit x; table = C.table x }

abbrev pub row_of : Certificate → ℕ → RoutineRow
row_of C n = record { start = rom_addr (C.start n); side = C.side n; need = C.need n; bound = C.bound n }
