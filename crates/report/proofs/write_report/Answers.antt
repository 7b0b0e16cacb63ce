-- `write_report`: the text that was stored is what the report leaves.
use Rattle.std.proofs.Common.{◌∙◌, sym}
use Rattle.certificate.specs.declared.Verdict.TheVariants.{Accepted, Refused}
use Rattle.report.specs.ReportLaws.{report_stored}
use Rattle.report.proofs.write_report.Goals as goal

pub returns-in-Accepted-clause-out_after : goal.returns-in-Accepted-clause-out_after
returns-in-Accepted-clause-out_after c =
    let long = sym c.is_certificate_length.ensures ∙ c.if-not-is_certificate_length.false in
    rw c.in-Accepted.is
    (report_stored Accepted c.args.cert.now long c.if-out-lt-REPORT_LENGTH.false c.write_accepted.ensures).1

pub returns-in-Refused-clause-out_after : goal.returns-in-Refused-clause-out_after
returns-in-Refused-clause-out_after c =
    let long = sym c.is_certificate_length.ensures ∙ c.if-not-is_certificate_length.false in
    rw c.in-Refused.is
    (report_stored (Refused c.in-Refused.number c.in-Refused.address) c.args.cert.now long c.if-out-lt-REPORT_LENGTH.false c.write_refused.ensures).1
