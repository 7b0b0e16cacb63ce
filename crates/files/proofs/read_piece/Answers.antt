use Rattle.std.proofs.Common.{arith}
use Rattle.files.specs.ReadingLaws.{fed_none, turned_none}
use Rattle.files.proofs.read_piece.Goals as goal

pub returns-in-Ok-eq0 : goal.returns-in-Ok-eq0
returns-in-Ok-eq0 g c = turned_none 1 (λ h. omega (arith, h)) c.requires fed_none

pub returns-in-Err : goal.returns-in-Err
returns-in-Err g c = turned_none 2 (λ h. omega (arith, h)) c.requires fed_none
