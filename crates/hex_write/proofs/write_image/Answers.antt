-- `write_image`: the text reads back.
-- Assumes nothing.
use Rattle.std.proofs.Common.{◌≡◌, sym, length, drop, eqb-true}
use Rattle.base.specs.Parts.{part_of}
use Rattle.hex_write.specs.ImageText.{text_length}
use Rattle.hex_write.specs.ReadBack.{reads_back, rom_reads_back}
use Rattle.hex_write.proofs.write_image.Goals as goal

pub returns-clause-reads_back : goal.returns-clause-reads_back
returns-clause-reads_back c =
    let a = c.args in
    let rom = (part_of a.profile).rom in
    let e : length a.image.now ≡ rom = eqb-true _ _ (sym c.if-not-is_image_of.ensures) in
    let written = rw e at c.write_lines.ensures in
    let (whole, reach, good) = rom_reads_back a.profile in
    rw (c.text_length-size.ensures, written)
    (reads_back rom whole reach good a.image.now (drop (text_length rom) a.out.now) e (λ i. (c.type_inv.image i).fits))
