-- The lowest instruction start of a certificate that a coverage map has not marked (02, request 06): "the lowest unmarked instruction start of a
-- given certificate is named, or none".
-- Assumes nothing.
use Rattle.std.specs.Prelude.{ℕ, ◌<◌, ◌≡◌, ◌≢◌, Bool, true, false, ◌&&◌, not, List, [], ◌∷◌, length, eqb, Option, Some, None, Result, Ok, Err}
use Rattle.base.specs.Addresses.{rom_addr}
use Rattle.base.specs.Choice.{pick, from}
use Rattle.base.specs.Lengths.{largest_rom, is_certificate_length}
use Rattle.certificate.specs.Layout.{Certificate, certificate_of}
use Rattle.coverage.specs.Map.{marked}
use Rattle.base.specs.declared.InvalidArgument.{InvalidArgument}
use Rattle.base.specs.declared.RomAddr.{RomAddr}

-- the lowest unmarked start; none, where every start is marked; or a refusal, by its number
pub data Lowest : Type 0 where
  At : RomAddr → Lowest
  AllMarked : Lowest
  Refused : ℕ → Lowest

-- what the call's result tells: the refusal is number 7
abbrev pub told : Result (Option RomAddr) InvalidArgument → Lowest
told (Ok (Some a)) = At a
told (Ok None) = AllMarked
told (Err e) = Refused 7

-- an instruction start: the entry's routine is not 0, whether or not the certificate would be accepted
abbrev pub is_start : Certificate → ℕ → Bool
is_start C a = not (eqb (C.routine a) 0)

-- a start that is not marked
abbrev pub unmarked_start : Certificate → List ℕ → ℕ → Bool
unmarked_start C m a = is_start C a && not (marked m a)

-- the first of a list that passes a test
abbrev pub first_of : (ℕ → Bool) → List ℕ → Lowest
first_of f [] = AllMarked
first_of f (a ∷ r) = pick (f a) (At (rom_addr a)) (first_of f r)

-- of the addresses of ROM, ascending; 7 for a certificate of another length
unfoldable pub lowest_of : List ℕ → List ℕ → Lowest
lowest_of cert m =
    pick (is_certificate_length (length cert)) (first_of (unmarked_start (certificate_of cert) m) (from largest_rom 0)) (Refused 7)

-- what it means that an address is the lowest: it is a start, it is unmarked, and every lower start is marked
pub record LowestStart (C : Certificate) (m : List ℕ) (a : ℕ) : Type 0 where
  pub start : C.routine a ≢ 0
  pub unmarked : marked m a ≡ false
  pub lower : (b : ℕ) → b < a → C.routine b ≢ 0 → marked m b ≡ true
