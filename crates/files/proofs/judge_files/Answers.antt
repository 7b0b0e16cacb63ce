use Rattle.files.specs.ReadingLaws.{judges}
use Rattle.files.proofs.judge_files.Goals as goal

pub returns : goal.returns
returns g c =
    let none = c.blank_certificate-cert.ensures in
    judges (rw c.blank_image-image.ensures at c.read_file-image_read.ensures) (rw none at c.read_file-certificate_read.ensures)
    (rw none at c.read_file-certificate_read.auto.buffer) c.check-verdict.ensures.verdict
    (rw (c.numbered-image_number.ensures, c.numbered-certificate_number.ensures) at c.write_judgement.ensures.result_value)
    (rw (c.numbered-image_number.ensures, c.numbered-certificate_number.ensures) at c.write_judgement.ensures.out_after)
