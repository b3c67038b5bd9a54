-- The definition of a replay, computed at the whole case of docs/RULES.md.
-- Assumes nothing.
use mathlib.Core.Path.{◌≡◌, refl}
use Rattle.text.specs.Numbers.{digits_within, decimal}
use Rattle.text.specs.Lines.{field, state_and_flags, headings, line, group_line, end_line, cut_line}
use Rattle.codes.specs.Numbers.{event_of}
use Rattle.step.specs.Step.{step, step_found}
use Rattle.group.specs.Table.{step_in}
use Rattle.words.specs.Words as words
use Rattle.layout.specs.Layout.{records_in, counter_in, state_at, flags_at, flags_of, record_of, put_octets, put_counter, put_rank}
use Rattle.circuit.specs.Rows.{first}
use Rattle.records.specs.Records.{octets_of, recorded, item}
use Rattle.parts.specs.Whole.{text_at, lines_within, lines, whole}
use Rattle.trace.specs.Replay.{happens, replay}
use Rattle.trace.specs.Cases.{whole_case, whole_text}

pub the_whole_case : replay whole_case ≡ whole_text
unfolding first words.number words.put records_in counter_in state_at flags_at flags_of record_of put_octets put_counter put_rank whole lines lines_within text_at item recorded octets_of happens step_in step_found step event_of line group_line end_line cut_line field state_and_flags headings decimal digits_within
the_whole_case = refl
