-- A register's part is 3 bytes from E000H on.
use Rattle.std.proofs.Common.{arith}
use Rattle.std.proofs.Math.Seq.{drop-drop}
use Rattle.std.proofs.lemmas.Bool.{lt-ltb}
use Rattle.certificate.specs.Layout.{part}
use Rattle.entries.proofs.Certificate.cell_part.Goals as goal

pub returns : goal.returns
unfolding part
returns c = rw (part, lt-ltb c.args.x.0 256 (omega arith), drop-drop, ← c.from.ensures) c.part_at.ensures
