-- Of a routine that has a row the part is 6 bytes from E300H on.
use Rattle.std.proofs.Math.Seq.{drop-drop}
use Rattle.std.proofs.lemmas.Bool.{lt-ltb, le-ltb}
use Rattle.certificate.specs.Layout.{part}
use Rattle.entries.proofs.Certificate.row_part.Goals as goal

pub returns-then-n-lt-ROUTINES : goal.returns-then-n-lt-ROUTINES
unfolding part
returns-then-n-lt-ROUTINES c = rw (part, lt-ltb _ _ c.if-n-lt-ROUTINES.true, drop-drop, ← c.from.ensures) c.part_at.ensures

pub returns : goal.returns
unfolding part
returns c = rw (part, le-ltb _ _ c.if-n-lt-ROUTINES.false)
