use Rattle.std.proofs.Common.{rules, sym, length-take-le}
use Rattle.files.specs.ReadingLaws.{judges_within}
use Rattle.command.proofs.judge_folder.Goals as goal

pub slice_bounds-out-end : goal.slice_bounds-out-end
slice_bounds-out-end g c = search (rules, judges_within c.in-Ok.ensures)

pub slice_bounds-write_all-end : goal.slice_bounds-write_all-end
slice_bounds-write_all-end g c = sym (length-take-le c.in-Ok.n c.judge_files.new.out (search (rules, judges_within c.in-Ok.ensures)))
