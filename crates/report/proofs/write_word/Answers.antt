-- The word stands in the part of the buffer that it was copied into.
use Rattle.std.proofs.Common.{arith, ◌≡◌, ◌+◌, ◌-◌, length, refl, append_assoc, drop-drop}
use Rattle.std.proofs.lemmas.List.Edits.{sets-eq}
use Rattle.report.proofs.write_word.Goals as goal

pub returns : goal.returns
returns c =
    let out = c.args.out.now in
    let word = c.args.word.now in
    let at = c.args.at in
    let n : at + length word - at ≡ length word = omega arith in record {
      position = refl;
      contents = rw (
        n,
        c.copy_from_slice.ensures.after,
        sets-eq word out at c.requires,
        drop-drop (length word) at out,
        append_assoc,
      );
    }
