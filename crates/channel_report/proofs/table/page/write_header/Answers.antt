use Rattle.std.proofs.Common.{◌≢◌, codes, refl}
use Rattle.csv.specs.declared.writer.QuoteStyle.TheVariants as style
use Rattle.csv.specs.Writing.{writer_setup}
use Rattle.channel_report.proofs.PlainFields.{plain-row, without-error}
use Rattle.channel_report.proofs.table.page.write_header.Goals as goal

pub returns-clause-text : goal.returns-clause-text
returns-clause-text c =
    let at_row = c.requires in
    let plain : (writer_setup c.args.page.now).style ≢ style.NonNumeric = rw at_row.setup (λ e. cc e) in
    let text = plain-row (codes "channel") (codes "packet") (codes "hop") (codes "link") (codes "size") (codes "at") (codes "eligible") (codes "departed") refl refl refl refl refl refl refl refl in
    without-error c.write_fields.result c.ok.result c.ok_or.result c.write_fields.ensures.bytes c.ok.ensures.value c.ok_or.ensures.ok_part (λ says. rw (at_row.setup, c.as_slice.ensures, c.as_slice-2.ensures, c.as_slice-3.ensures, c.as_slice-4.ensures, c.as_slice-5.ensures, c.as_slice-6.ensures, c.as_slice-7.ensures, c.as_slice-8.ensures, text) at (says at_row.no_field at_row.no_byte plain))
