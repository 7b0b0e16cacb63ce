-- What is written of the judgement of what the two reads left is what is printed of the two texts.
use Rattle.std.proofs.Common.{◌∙◌}
use Rattle.judge.specs.JudgementLaws.{read_whole, judged}
use Rattle.judge_texts.proofs.judge_texts.Goals as goal

pub returns : goal.returns
returns c =
    let e =
    judged c.args.out.now
    (read_whole (
      rw c.blank_image-rom.ensures at c.read_text-image_read.ensures.result_value,
      rw c.blank_image-rom.ensures at c.read_text-image_read.ensures.buffer_after,
    ))
    (read_whole (
      rw c.blank_certificate-cert.ensures at c.read_text-certificate_read.ensures.result_value,
      rw c.blank_certificate-cert.ensures at c.read_text-certificate_read.ensures.buffer_after,
    ))
    (rw c.blank_certificate-cert.ensures at c.read_text-certificate_read.auto.buffer) c.check-verdict.ensures.verdict in
    record {
      result_value = (rw (c.numbered-image_number.ensures, c.numbered-certificate_number.ensures) at c.write_judgement.ensures.result_value) ∙ e.0;
      out_after = (rw (c.numbered-image_number.ensures, c.numbered-certificate_number.ensures) at c.write_judgement.ensures.out_after) ∙ e.1;
    }
