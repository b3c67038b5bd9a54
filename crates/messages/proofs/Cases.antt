-- The definition of a list of messages, computed at the case of docs/RULES.md.
-- Assumes nothing.
use mathlib.Core.Path.{◌≡◌, refl}
use Rattle.text.specs.Numbers.{digits_within, decimal}
use Rattle.text.specs.Lines.{field, group_line, end_line, cut_line, refused_line, read_start, plain_line, acm_line, signals, iam_line}
use Rattle.records.specs.Records.{octets_of}
use Rattle.formats.specs.Octets.{short}
use Rattle.reader.specs.Reading.{fields_of}
use Rattle.parts.specs.Whole.{text_at, lines_within, lines, whole}
use Rattle.messages.specs.Listing.{read_line, message_line, ahead_in, listing}
use Rattle.messages.specs.Cases.{messages_case, messages_text}

pub the_case : listing messages_case ≡ messages_text
unfolding whole lines lines_within text_at ahead_in message_line read_line fields_of short octets_of refused_line plain_line acm_line iam_line read_start signals group_line end_line cut_line field decimal digits_within
the_case = refl
