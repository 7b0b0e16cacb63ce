-- Within ROM the part is the 14 bytes at 14 × address, past it empty; its fields are the certificate's.
use Rattle.std.proofs.lemmas.Bool.{lt-ltb, le-ltb}
use Rattle.certificate.specs.Layout.{part}
use Rattle.entries.proofs.Pieces.{with_fields}
use Rattle.entries.proofs.entry_part.Goals as goal

pub returns-then-a-lt-LARGEST_ROM : goal.returns-then-a-lt-LARGEST_ROM
unfolding part
returns-then-a-lt-LARGEST_ROM c =
    let h = with_fields _ _ _ (rw (part, lt-ltb _ _ c.if-a-lt-LARGEST_ROM.true, ← c.from.ensures) c.part_at.ensures) in
    record { part = h.0; fields = h.1 }

pub returns : goal.returns
unfolding part
returns c =
    let h = with_fields _ _ _ (rw (part, le-ltb _ _ c.if-a-lt-LARGEST_ROM.false)) in
    record { part = h.0; fields = h.1 }
