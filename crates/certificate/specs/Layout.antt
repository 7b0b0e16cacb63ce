-- The certificate's bytes (01, "The certificate"), read as functions of an address, a cell and a routine.
-- Assumes nothing.
use Rattle.std.specs.Prelude.{ℕ, ◌+◌, ◌*◌, List, [], get_or, take, drop, ltb}
use Rattle.base.specs.Choice.{pick}
use Rattle.base.specs.Lengths.{largest_rom}

-- what a certificate says
pub record Certificate : Type 0 where
  -- the entry of a ROM address: routine, depth, B, M, direction, two claims, compare
  pub routine : ℕ → ℕ
  pub depth : ℕ → ℕ
  pub base : ℕ → ℕ
  pub slope : ℕ → ℕ
  pub direction : ℕ → ℕ
  pub first_cell : ℕ → ℕ
  pub first_low : ℕ → ℕ
  pub first_high : ℕ → ℕ
  pub second_cell : ℕ → ℕ
  pub second_low : ℕ → ℕ
  pub second_high : ℕ → ℕ
  pub compare_cell : ℕ → ℕ
  pub compare_number : ℕ → ℕ
  -- the row of a register: class, writer limit, number of its table
  pub class : ℕ → ℕ
  pub limit : ℕ → ℕ
  pub table : ℕ → ℕ
  -- the row of a routine
  pub start : ℕ → ℕ
  pub side : ℕ → ℕ
  pub need : ℕ → ℕ
  pub bound : ℕ → ℕ
  -- the stack is floor to top - 1
  pub floor : ℕ
  pub top : ℕ
  -- the cycles of an interrupt entry
  pub entry_cost : ℕ

-- high byte first
abbrev pub word : List ℕ → ℕ → ℕ
word b i = get_or b i 0 * 256 + get_or b (i + 1) 0

-- from the parts of an address, of a register and of a routine
unfoldable pub certificate_from : (ℕ → List ℕ) → (ℕ → List ℕ) → (ℕ → List ℕ) → ℕ → ℕ → ℕ → Certificate
certificate_from entry cell row f t e = record {
  routine = λ a. get_or (entry a) 0 0;
  depth = λ a. get_or (entry a) 1 0;
  base = λ a. word (entry a) 2;
  slope = λ a. get_or (entry a) 4 0;
  direction = λ a. get_or (entry a) 5 0;
  first_cell = λ a. get_or (entry a) 6 0;
  first_low = λ a. get_or (entry a) 7 0;
  first_high = λ a. get_or (entry a) 8 0;
  second_cell = λ a. get_or (entry a) 9 0;
  second_low = λ a. get_or (entry a) 10 0;
  second_high = λ a. get_or (entry a) 11 0;
  compare_cell = λ a. get_or (entry a) 12 0;
  compare_number = λ a. get_or (entry a) 13 0;
  class = λ x. get_or (cell x) 0 0;
  limit = λ x. get_or (cell x) 1 0;
  table = λ x. get_or (cell x) 2 0;
  start = λ n. word (row n) 0;
  side = λ n. get_or (row n) 2 0;
  need = λ n. get_or (row n) 3 0;
  bound = λ n. word (row n) 4;
  floor = f;
  top = t;
  entry_cost = e;
}

-- number k of the m parts of w bytes each that begin at i; none past them
unfoldable pub part : List ℕ → ℕ → ℕ → ℕ → ℕ → List ℕ
part b i w m k = pick (ltb k m) (take w (drop (w * k) (drop i b))) []

-- 14 bytes at 14 × address; E000H: 3 bytes a register; E300H: 6 bytes a routine; E480H floor, E481H top; E482H the cycles of an entry (request 03),
-- a byte that a short certificate has not: then 0
abbrev pub entry_part : List ℕ → ℕ → List ℕ
entry_part b = part b 0 14 largest_rom

abbrev pub cell_part : List ℕ → ℕ → List ℕ
cell_part b = part b 0xE000 3 256

abbrev pub row_part : List ℕ → ℕ → List ℕ
row_part b = part b 0xE300 6 64

unfoldable pub certificate_of : List ℕ → Certificate
certificate_of b = certificate_from (entry_part b) (cell_part b) (row_part b) (get_or b 0xE480 0) (get_or b 0xE481 0) (get_or b 0xE482 0)
