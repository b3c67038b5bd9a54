-- Any two answers that a contract allows are equal, and so are any two contents of what is lent to be written (docs/RULES.md, "The
-- three demands"). This is said of the contracts themselves: `f.Learnt κs a x s` is what the contract of the function f says of its answer x and of
-- its arguments at exit s, where a was passed (κs: the lifetimes of what is lent). One statement a crate, and then what the entries for C say.
-- Assumes nothing.
use Rattle.std.specs.Prelude.{◌≡◌, List, ℕ, ◌/◌, ◌%◌, ◌≤◌}
use Rattle.std.proofs.Common.{sym, ◌∙◌}
use Rattle.codes.specs.Numbers as Numbers
use Rattle.codes.specs.Headings as Headings
use Rattle.signals.specs.Table.{on_signal}
use Rattle.calls.specs.Calls.{call_part, unmarked}
use Rattle.calls.proofs.Rule.{is_call_part}
use Rattle.answers.proofs.Once as fields
use Rattle.select.proofs.Once as chosen
use Rattle.reader.proofs.Once as was_read
use Rattle.writer.proofs.Once as written
use Rattle.group.specs.Table.{step_in}
use Rattle.select.specs.Selection.{select_in}
use Rattle.writer.specs.Writing.{said}
use Rattle.tup.specs.Entries as Entries
use Rattle.names.proofs.U8FromRefusal.from.Reads as number_from_refusal
use Rattle.circuit.proofs.Codes.are_bad.Reads as bad_point_codes
use Rattle.circuit.proofs.Codes.bad_group.Reads as bad_group
use Rattle.circuit.proofs.Codes.lowest.Reads as lowest
use Rattle.circuit.proofs.Codes.control.Reads as controls
use Rattle.codes.proofs.failure_heading.Reads as failure_heading
use Rattle.codes.proofs.failure_of.Reads as failure_of
use Rattle.codes.proofs.signal_of.Reads as signal_of
use Rattle.codes.proofs.event_of.Reads as event_of
use Rattle.words.proofs.octet.Reads as octet
use Rattle.words.proofs.number.Reads as number
use Rattle.words.proofs.word.Reads as word
use Rattle.words.proofs.put_octet.Reads as put_octet
use Rattle.words.proofs.put_word.Reads as put_word
use Rattle.answers.proofs.answer.Reads as answer
use Rattle.answers.proofs.refused.Reads as refused
use Rattle.answers.proofs.sent.Reads as sent
use Rattle.answers.proofs.fields_of.Reads as answer_fields_of
use Rattle.answers.proofs.refusal_of.Reads as refusal_of
use Rattle.answers.proofs.held_of.Reads as held_of
use Rattle.marks.proofs.FlagsFromU8.from.Reads as flags_from_octet
use Rattle.marks.proofs.U8FromFlags.from.Reads as octet_from_flags
use Rattle.marks.proofs.legal.Reads as legal
use Rattle.marks.proofs.legal_in_reset.Reads as legal_in_reset
use Rattle.marks.proofs.blocked.Reads as blocked
use Rattle.marks.proofs.unblocked.Reads as unblocked
use Rattle.marks.proofs.kept_out.Reads as kept_out
use Rattle.marks.proofs.reset.Reads as reset
use Rattle.marks.proofs.on_signal.Reads as on_marks
use Rattle.layout.proofs.table_octets.Reads as table_octets
use Rattle.layout.proofs.records.Reads as records
use Rattle.layout.proofs.bad_length.Reads as bad_length
use Rattle.layout.proofs.ends_before.Reads as ends_before
use Rattle.layout.proofs.counter_in.Reads as counter_in
use Rattle.layout.proofs.stored_at.Reads as stored_at
use Rattle.layout.proofs.allowed.Reads as allowed
use Rattle.layout.proofs.put.Reads as put
use Rattle.layout.proofs.put_counter.Reads as put_counter
use Rattle.layout.proofs.put_rank.Reads as put_rank
use Rattle.calls.proofs.on_signal.Reads as on_call
use Rattle.commands.proofs.on_command.Reads as on_command
use Rattle.commands.proofs.on_timer.Reads as on_timer
use Rattle.step.proofs.step.Reads as step
use Rattle.group.proofs.step.Reads as group_step
use Rattle.select.proofs.select.Reads as select
use Rattle.formats.proofs.fixed_length.Reads as fixed_length
use Rattle.formats.proofs.first_bad.Reads as first_bad
use Rattle.formats.proofs.bad_codes.Reads as bad_codes
use Rattle.formats.proofs.short.Reads as short
use Rattle.formats.proofs.above_fifteen.Reads as above_fifteen
use Rattle.formats.proofs.bad_address.Reads as bad_address
use Rattle.reader.proofs.read_fields.Reads as read_fields
use Rattle.reader.proofs.read.Reads as read
use Rattle.writer.proofs.write.Reads as write
use Rattle.tup.proofs.tup_step.Reads as tup_step
use Rattle.tup.proofs.tup_select.Reads as tup_select
use Rattle.tup.proofs.tup_read.Reads as tup_read
use Rattle.tup.proofs.tup_write.Reads as tup_write
use Rattle.text.proofs.event_line.Reads as event_line
use Rattle.text.proofs.group_line.Reads as group_line
use Rattle.text.proofs.end_line.Reads as end_line
use Rattle.text.proofs.cut_line.Reads as cut_line
use Rattle.text.proofs.bad_group_line.Reads as bad_group_line
use Rattle.text.proofs.refused_line.Reads as refused_line
use Rattle.text.proofs.plain_line.Reads as plain_line
use Rattle.text.proofs.acm_line.Reads as acm_line
use Rattle.text.proofs.iam_line.Reads as iam_line
use Rattle.records.proofs.octets_of.Reads as octets_of
use Rattle.records.proofs.item_at.Reads as item_at
use Rattle.records.proofs.refused_start.Reads as refused_start
use Rattle.records.proofs.group_in.Reads as group_in
use Rattle.records.proofs.behind_at.Reads as behind_at
use Rattle.parts.proofs.Running.may_go.Reads as may_go
use Rattle.parts.proofs.Running.onward.Reads as onward
use Rattle.parts.proofs.Stage.stay.Reads as stay
use Rattle.parts.proofs.begin.Reads as begin
use Rattle.parts.proofs.Stage.finish.Reads as finish
use Rattle.parts.proofs.Stage.is_over.Reads as is_over
use Rattle.parts.proofs.keep.Reads as keep
use Rattle.trace.proofs.feed.Reads as feed
use Rattle.trace.proofs.table_octets.Reads as trace_table_octets
use Rattle.messages.proofs.feed.Reads as feed_messages

-- the answer is determined
abbrev pub Once : {K : Type 0} {A X E : K → Type 0} → ((κs : K) → A κs → X κs → E κs → Type 0) → Type 0
Once {K} {A} {X} {E} C = (κs : K) (a : A κs) (x y : X κs) (s t : E κs) → C κs a x s → C κs a y t → x ≡ y

-- and so is what a lent slice holds after it
abbrev pub Leaves : {K : Type 0} {A X E : K → Type 0} → (lent : (κs : K) → E κs → List ℕ) → ((κs : K) → A κs → X κs → E κs → Type 0) → Type 0
Leaves {K} {A} {X} {E} lent C = (κs : K) (a : A κs) (x y : X κs) (s t : E κs) → C κs a x s → C κs a y t → lent κs s ≡ lent κs t

-- two that are equal to the definition
once : {A : Type 0} {definition a b : A} → a ≡ definition → b ≡ definition → a ≡ b
once p q = p ∙ sym q

-- the number of a refusal
pub of_names : Once number_from_refusal.Learnt
of_names κs a x y s t = once

pub of_circuit :
    Once bad_point_codes.Learnt
    × Once bad_group.Learnt
    × Once lowest.Learnt
    × Once controls.Learnt
of_circuit = (
  λ κs a x y s t. once,
  λ κs a x y s t. once,
  λ κs a x y s t. once,
  λ κs a x y s t. once,
)

pub of_codes :
    Once failure_heading.Learnt
    × Once failure_of.Learnt
    × Once signal_of.Learnt
    × Once event_of.Learnt
of_codes = (
  λ κs a x y s t. once,
  λ κs a x y s t. once,
  λ κs a x y s t. once,
  λ κs a x y s t. once,
)

pub of_words :
    Once octet.Learnt
    × Once number.Learnt
    × Once word.Learnt
    × Leaves (λ κs s. s.0.now) put_octet.Learnt
    × Leaves (λ κs s. s.0.now) put_word.Learnt
of_words = (
  λ κs a x y s t. once,
  λ κs a x y s t. once,
  λ κs a x y s t. once,
  λ κs a x y s t. once,
  λ κs a x y s t. once,
)

pub of_answers :
    Once answer.Learnt
    × Once refused.Learnt
    × Once sent.Learnt
    × Once answer_fields_of.Learnt
    × Once refusal_of.Learnt
    × Once held_of.Learnt
of_answers = (
  λ κs a x y s t. once,
  λ κs a x y s t. once,
  λ κs a x y s t. once,
  λ κs a x y s t h k. fields.same_fields x y (once h.0 k.0) (once h.1.0 k.1.0) (once h.1.1.0 k.1.1.0) (once h.1.1.1.0 k.1.1.1.0) (once h.1.1.1.1.0 k.1.1.1.1.0) (once h.1.1.1.1.1 k.1.1.1.1.1),
  λ κs a x y s t. once,
  λ κs a x y s t h k. fields.same_held x y (once h.0 k.0) (once h.1 k.1),
)

pub of_marks :
    Once flags_from_octet.Learnt
    × Once octet_from_flags.Learnt
    × Once legal.Learnt
    × Once legal_in_reset.Learnt
    × Once blocked.Learnt
    × Once unblocked.Learnt
    × Once kept_out.Learnt
    × Once reset.Learnt
    × Once on_marks.Learnt
of_marks = (
  λ κs a x y s t. once,
  λ κs a x y s t. once,
  λ κs a x y s t. once,
  λ κs a x y s t. once,
  λ κs a x y s t. once,
  λ κs a x y s t. once,
  λ κs a x y s t. once,
  λ κs a x y s t. once,
  λ κs a x y s t. once,
)

pub of_layout :
    Once table_octets.Learnt
    × Once records.Learnt
    × Once bad_length.Learnt
    × Once ends_before.Learnt
    × Once counter_in.Learnt
    × Once stored_at.Learnt
    × Once allowed.Learnt
    × Leaves (λ κs s. s.0.now) put.Learnt
    × Leaves (λ κs s. s.0.now) put_counter.Learnt
    × Leaves (λ κs s. s.0.now) put_rank.Learnt
of_layout = (
  λ κs a x y s t h k. once h.0 k.0,
  λ κs a x y s t. once,
  λ κs a x y s t. once,
  λ κs a x y s t. once,
  λ κs a x y s t. once,
  λ κs a x y s t. once,
  λ κs a x y s t. once,
  λ κs a x y s t. once,
  λ κs a x y s t. once,
  λ κs a x y s t. once,
)

pub of_calls : Once on_call.Learnt
of_calls κs a x y s t = once

pub of_commands :
    Once on_command.Learnt
    × Once on_timer.Learnt
of_commands = (
  λ κs a x y s t. once,
  λ κs a x y s t. once,
)

pub of_step : Once step.Learnt
of_step κs a x y s t h k = once h.0 k.0

-- the table
pub of_group : Once group_step.Learnt × Leaves (λ κs s. s.1.0.now) group_step.Learnt
of_group = (λ κs a x y s t h k. once h.0 k.0, λ κs a x y s t h k. once h.1.1 k.1.1)

-- what is told of the answer
pub of_select : Once select.Learnt
of_select κs a x y s t h k = chosen.told_once x y (once h k)

pub of_formats : Once fixed_length.Learnt × Once first_bad.Learnt × Once bad_codes.Learnt × Once short.Learnt × Once above_fifteen.Learnt × Once bad_address.Learnt
of_formats = (λ κs a x y s t. once, λ κs a x y s t. once, λ κs a x y s t. once, λ κs a x y s t. once, λ κs a x y s t. once, λ κs a x y s t. once)

pub of_reader : Once read_fields.Learnt × Once read.Learnt
of_reader = (λ κs a x y s t h k. was_read.told_once x y (once h k), λ κs a x y s t h k. was_read.told_message_once x y (once h k))

-- the buffer
pub of_writer : Once write.Learnt × Leaves (λ κs s. s.1.1.1.0.now) write.Learnt
of_writer = (λ κs a x y s t h k. written.told_once x y (once h.0 k.0), λ κs a x y s t h k. once h.1 k.1)

-- the table of an event, the buffers of a message
pub of_tup :
    Once tup_step.Learnt
    × Leaves (λ κs s. s.1.1.0.now) tup_step.Learnt
    × Once tup_select.Learnt
    × Once tup_read.Learnt
    × Leaves (λ κs s. s.1.1.1.1.0.now) tup_read.Learnt
    × Once tup_write.Learnt
    × Leaves (λ κs s. s.1.1.1.1.1.1.1.1.1.0.now) tup_write.Learnt
of_tup = (
  λ κs a x y s t h k. once h.0 k.0,
  λ κs a x y s t h k. once h.1.1 k.1.1,
  λ κs a x y s t h k. once h.0 k.0,
  λ κs a x y s t h k. once h.0 k.0,
  λ κs a x y s t h k. once h.1 k.1,
  λ κs a x y s t h k. once h.0 k.0,
  λ κs a x y s t h k. once h.1 k.1,
)

-- a line's length, and the room
pub of_text :
    Once event_line.Learnt
    × Leaves (λ κs s. s.0.now) event_line.Learnt
    × Once group_line.Learnt
    × Leaves (λ κs s. s.0.now) group_line.Learnt
    × Once end_line.Learnt
    × Leaves (λ κs s. s.0.now) end_line.Learnt
    × Once cut_line.Learnt
    × Leaves (λ κs s. s.0.now) cut_line.Learnt
    × Once bad_group_line.Learnt
    × Leaves (λ κs s. s.0.now) bad_group_line.Learnt
    × Once refused_line.Learnt
    × Leaves (λ κs s. s.0.now) refused_line.Learnt
    × Once plain_line.Learnt
    × Leaves (λ κs s. s.0.now) plain_line.Learnt
    × Once acm_line.Learnt
    × Leaves (λ κs s. s.0.now) acm_line.Learnt
    × Once iam_line.Learnt
    × Leaves (λ κs s. s.0.now) iam_line.Learnt
of_text = (
  λ κs a x y s t h k. once h.count k.count,
  λ κs a x y s t h k. once h.room k.room,
  λ κs a x y s t h k. once h.count k.count,
  λ κs a x y s t h k. once h.room k.room,
  λ κs a x y s t h k. once h.count k.count,
  λ κs a x y s t h k. once h.room k.room,
  λ κs a x y s t h k. once h.count k.count,
  λ κs a x y s t h k. once h.room k.room,
  λ κs a x y s t h k. once h.count k.count,
  λ κs a x y s t h k. once h.room k.room,
  λ κs a x y s t h k. once h.count k.count,
  λ κs a x y s t h k. once h.room k.room,
  λ κs a x y s t h k. once h.count k.count,
  λ κs a x y s t h k. once h.room k.room,
  λ κs a x y s t h k. once h.count k.count,
  λ κs a x y s t h k. once h.room k.room,
  λ κs a x y s t h k. once h.count k.count,
  λ κs a x y s t h k. once h.room k.room,
)

-- the functions over a slice and a number; docs/DECISIONS.md (D141) speaks of those over the reader that holds both
pub of_records : Once octets_of.Learnt × Once item_at.Learnt × Once refused_start.Learnt × Once group_in.Learnt × Once behind_at.Learnt
of_records = (λ κs a x y s t. once, λ κs a x y s t. once, λ κs a x y s t. once, λ κs a x y s t. once, λ κs a x y s t. once)

-- the room of the group's line and of the last one, the buffer
pub of_parts :
    Once may_go.Learnt
    × Once onward.Learnt
    × Once stay.Learnt
    × Once begin.Learnt
    × Leaves (λ κs s. s.1.0.now) begin.Learnt
    × Once finish.Learnt
    × Leaves (λ κs s. s.1.1.0.now) finish.Learnt
    × Once is_over.Learnt
    × Once keep.Learnt
    × Leaves (λ κs s. s.0.now) keep.Learnt
of_parts = (
  λ κs a x y s t. once,
  λ κs a x y s t. once,
  λ κs a x y s t. once,
  λ κs a x y s t h k. once h.0 k.0,
  λ κs a x y s t h k. once h.1.0 k.1.0,
  λ κs a x y s t h k. once h.0.count k.0.count,
  λ κs a x y s t h k. once h.0.room k.0.room,
  λ κs a x y s t. once,
  λ κs a x y s t h k. once h.0 k.0,
  λ κs a x y s t h k. once h.1.0 k.1.0,
)

-- the table and the room of a part
pub of_trace :
    Once feed.Learnt
    × Leaves (λ κs s. s.1.0.now) feed.Learnt
    × Leaves (λ κs s. s.1.1.1.0.now) feed.Learnt
    × Once trace_table_octets.Learnt
of_trace = (
  λ κs a x y s t h k. once h.0 k.0,
  λ κs a x y s t h k. once h.1.0 k.1.0,
  λ κs a x y s t h k. once h.1.1.0 k.1.1.0,
  λ κs a x y s t h k. once h.0 k.0,
)

-- the room of a part
pub of_messages : Once feed_messages.Learnt × Leaves (λ κs s. s.1.1.0.now) feed_messages.Learnt
of_messages = (λ κs a x y s t h k. once h.0 k.0, λ κs a x y s t h k. once h.1.0 k.1.0)

-- THE TABLE OF CALLS, AND THE ENTRIES FOR C

-- what a contract says
abbrev pub Says : {K : Type 0} {A X E : K → Type 0} → (C P : (κs : K) → A κs → X κs → E κs → Type 0) → Type 0
Says {K} {A} {X} {E} C P = (κs : K) (a : A κs) (x : X κs) (s : E κs) → C κs a x s → P κs a x s

-- `calls::on_signal(con, state, s)`, which looks into the constant table (T-06): its answer is the call part of the printed row, the new
-- state, the CLF or RLG that is sent, and the indication
pub calls_say : Says on_call.Learnt (λ κs a x s. a.1.0 ≤ 12 → x ≡ call_part (on_signal a.0 (unmarked a.1.0) a.1.1.0))
calls_say κs a x s h low = h ∙ is_call_part a.0 a.1.0 a.1.1.0 low

-- `tup_step(own, far, table, cic, kind, code, detail)`: the answer of the event on the table, whose fields come back from the number, octet by
-- octet, and what the table holds then
pub step_says : Says tup_step.Learnt (λ κs a x s.
    let step = step_in a.0 a.1.0 a.1.1.0.now a.1.1.1.0 (Numbers.event_of a.1.1.1.1.0 a.1.1.1.1.1.0 a.1.1.1.1.1.1.0) in
    (x % 256 ≡ step.answer.refusal) × (x / 0x100 % 256 ≡ step.answer.ind) × (x / 0x10000 % 256 ≡ step.answer.state) × (x / 0x1000000 % 256 ≡ step.answer.flags)
    × (x / 0x100000000 % 256 ≡ Headings.first_heading step.answer.sends) × (x / 0x10000000000 % 256 ≡ Headings.second_heading step.answer.sends)
    × (s.1.1.0.now ≡ step.table))
step_says κs a x s h = let u = h.1.0 in (u.refusal, u.ind, u.state, u.flags, u.first, u.second, h.1.1)

-- `tup_select(own, far, table)`: refusal, circuit and count, 16 bits each
pub select_says : Says tup_select.Learnt (λ κs a x s.
    let chosen = select_in a.0 a.1.0 a.1.1.0.now in
    (x % 0x10000 ≡ chosen.refusal) × (x / 0x10000 % 0x10000 ≡ chosen.cic.0) × (x / 0x100000000 ≡ chosen.looked))
select_says κs a x s h = (h.1.refusal, h.1.cic, h.1.looked)

-- `tup_read(own, far, count, octets, out)` and `tup_write(own, far, count, cic, heading, acm, category, indicators, address, out)`: what
-- `Demand1` says of `read_into` and `write_from` is said of these
pub read_says : Says tup_read.Learnt (λ κs a x s.
    let told = Entries.read_into a.0 a.1.0 a.1.1.0 a.1.1.1.0.now a.1.1.1.1.0.now in (x ≡ told.answer) × (s.1.1.1.1.0.now ≡ told.buffer))
read_says κs a x s h = h

pub write_says : Says tup_write.Learnt (λ κs a x s.
    let m = said a.1.1.1.0 a.1.1.1.1.0 a.1.1.1.1.1.0 a.1.1.1.1.1.1.0 a.1.1.1.1.1.1.1.0 a.1.1.1.1.1.1.1.1.0.now in
    let told = Entries.write_from a.0 a.1.0 a.1.1.0 m a.1.1.1.1.1.1.1.1.1.0.now in
    (x ≡ told.answer) × (s.1.1.1.1.1.1.1.1.1.0.now ≡ told.buffer))
write_says κs a x s h = h
