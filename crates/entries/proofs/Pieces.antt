-- A piece of a slice that its end cuts off; the fields of an entry's part.
-- Assumes nothing.
use mathlib.Core.Path.{◌≡◌, ap, sym, ◌∙◌}
use Prim.Native.Nat.{ℕ, ◌-◌, ◌≤◌}
use mathlib.Core.List.{List}
use native.Mathlib.Omega.{arith}
use lib.ListN.{length, take, drop, length-drop}
use lib.Seq.{take_all}
use Rattle.base.specs.Lists.{part_to_end}
use Rattle.certificate.specs.Layout.{entry_part, certificate_of, certificate_from}
use Rattle.entries.specs.Fields.{entry_from, entry_of}

pub piece_to_end : (b : List ℕ) (i w : ℕ) → length b - i ≤ w → take (length b - i) (drop i b) ≡ take w (drop i b)
piece_to_end b i w h = part_to_end i b ∙ sym (take_all w (drop i b) (omega (arith, length-drop i b)))

-- the part of an address has the fields that the certificate says of it
pub with_fields : (p b : List ℕ) (a : ℕ) → p ≡ entry_part b a → (p ≡ entry_part b a) × (entry_from p ≡ entry_of (certificate_of b) a)
unfolding entry_from certificate_of certificate_from
with_fields p b a q = (q, ap entry_from q)
