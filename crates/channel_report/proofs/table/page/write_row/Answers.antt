use Rattle.std.proofs.Common.{rules, ◌≢◌, decimal}
use Rattle.std.specs.List.{slice_get}
use Rattle.net_units.specs.Numbers.{channel_number, link_number}
use Rattle.csv.specs.declared.writer.QuoteStyle.TheVariants as style
use Rattle.csv.specs.Writing.{writer_setup}
use Rattle.channel_report.specs.Csv.{IsPlain}
use Rattle.channel_report.specs.Table.{name_of_link, name_of_request}
use Rattle.channel_report.proofs.PlainFields.{plain-number, plain-row, without-error}
use Rattle.channel_report.proofs.table.page.write_row.Goals as goal

pub returns-clause-text : goal.returns-clause-text
returns-clause-text c =
    let row = c.args.row.now in
    let at_row = c.requires in
    let channel = name_of_request (slice_get c.args.plan.now.requests (channel_number row.chan)) in
    let link = name_of_link (slice_get c.args.plan.now.links (link_number row.link)) in
    let plain : (writer_setup c.args.page.now).style ≢ style.NonNumeric = rw at_row.setup (λ e. cc e) in
    let plain_channel : IsPlain channel = rw c.request_name.ensures.value at c.request_name.ensures.plain in
    let plain_link : IsPlain link = rw c.link_name.ensures.value at c.link_name.ensures.plain in
    let text = plain-row channel (decimal row.number) (decimal row.hop) link (decimal row.size) (decimal row.at) (decimal row.eligible) (decimal row.departed)
    plain_channel (plain-number row.number (search rules)) (plain-number row.hop (search rules))
    plain_link (plain-number row.size (search rules)) (plain-number row.at (search rules))
    (plain-number row.eligible (search rules)) (plain-number row.departed (search rules)) in
    without-error c.write_fields.result c.ok.result c.ok_or.result c.write_fields.ensures.bytes c.ok.ensures.value c.ok_or.ensures.ok_part (λ says. rw (at_row.setup, c.request_name.ensures.value, c.link_name.ensures.value, c.as_bytes.ensures.value, c.format.ensures.text, c.as_bytes-2.ensures.value, c.format-2.ensures.text, c.as_bytes-3.ensures.value, c.format-3.ensures.text, c.as_bytes-4.ensures.value, c.format-4.ensures.text, c.as_bytes-5.ensures.value, c.format-5.ensures.text, c.as_bytes-6.ensures.value, c.format-6.ensures.text, text) at (says at_row.no_field at_row.no_byte plain))
