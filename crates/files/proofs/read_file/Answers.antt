use Rattle.std.proofs.Common.{rules}
use Rattle.files.specs.ReadingLaws.{reads_missing, reads_turn}
use Rattle.files.proofs.read_file.Goals as goal

pub returns-in-Ok : goal.returns-in-Ok
returns-in-Ok g c = reads_turn (search rules) c.read_open-turn.ensures c.answer_of.ensures

pub returns-in-Err : goal.returns-in-Err
returns-in-Err g c = reads_missing _ (rw c.start.ensures at c.finish.ensures)
