-- What an exchange sends: the writer takes every signal with good particulars, and the other end reads the octets as that signal on that circuit.
-- Assumes nothing.
use Rattle.std.specs.Prelude.{Option, Some, None}
use mathlib.Core.Path.{◌≡◌, refl, sym, ap, ◌∙◌}
use mathlib.Core.Bool.{Bool, true, false, cond, not, ◌&&◌}
use mathlib.Core.List.{List, [], ◌∷◌}
use Prim.Native.Nat.{ℕ, ◌+◌, ◌/◌, ◌%◌, ◌<◌, ◌≤◌}
use native.Mathlib.Omega.{arith}
use borrow.Author.Tests.{le-ltb, eq-eqb}
use lib.Dec.{T, eqb, leb, ltb, leb→le, lit≤}
use lib.ListN.{length, take}
use Rattle.circuit.specs.declared.Failure.TheVariants.{Sec, Cgc, Nnc, Adi, Cfl, Ssb, Unn, Los, Sst}
use Rattle.circuit.specs.declared.Signal.{Signal}
use Rattle.circuit.specs.declared.Signal.TheVariants.{Iam, Acm, Anc, Ann, Cbk, Clf, Ran, Rlg, Blo, Bla, Ubl, Uba, Rsc, Fail}
use Rattle.circuit.specs.Groups.{bad_group}
use Rattle.circuit.proofs.Groups.{at_most4096}
use Rattle.circuit.specs.Refusals.{first_rule}
use Rattle.circuit.proofs.Refusals.{none_given}
use Rattle.circuit.proofs.Every.{left, right}
use Rattle.codes.specs.Headings.{heading_of, signal_of}
use Rattle.formats.specs.Octets.{above_fifteen, short}
use Rattle.formats.specs.Messages.{has_signals, listed, half}
use Rattle.reader.specs.Told.{Told as Fields}
use Rattle.reader.specs.Places.{cic_in}
use Rattle.reader.specs.Reading.{fields_of, reading}
use Rattle.reader.proofs.Faults.{read_refusal, read_fields}
use Rattle.writer.specs.Writing.{Said, too_large, bad_address, octets_of, write_rules}
use Rattle.writer.proofs.Tests.{few}
use Rattle.tup.specs.Entries.{write_from}
use Rattle.inverse.specs.Said.{fields_said, length_of}
use Rattle.inverse.proofs.Refusals.{from_refusal}
use Rattle.inverse.proofs.ReadBack.{octets_read}
use Rattle.inverse.proofs.Laws.{octets_long}
use Rattle.inverse.proofs.Host.{from_filled}
use Rattle.ends.proofs.Words.{word, heard}
use Rattle.exchanges.specs.Link.{Particulars, good_address, good, saying, chosen, goes_out}

pub is_false : (b : Bool) → T (not b) → b ≡ false
is_false true t = absurd t
is_false false t = refl

-- a group has at most 4096 circuits
pub below : (own far count cic : ℕ) → bad_group own far count ≡ false → cic < count → cic < 4096
below own far count cic group has = let most : count ≤ 4096 = at_most4096 own far count group in omega arith

-- good particulars, field by field
module _ (p : Particulars) (g : T (good p)) where
  abbrev a : Bool
  a = leb p.acm 63

  abbrev c : Bool
  c = leb p.category 63

  abbrev i : Bool
  i = leb p.indicators 2047

  after_category : T (i && (good_address p.indicators p.address && leb 17 (length p.buffer)))
  unfolding good
  after_category = right c _ (right a _ g)

  address : T (good_address p.indicators p.address)
  address = left (good_address p.indicators p.address) _ (right i _ after_category)

  acm_fits : ltb 63 p.acm ≡ false
  unfolding good
  acm_fits = le-ltb 63 p.acm (leb→le _ _ (left a _ g))

  category_fits : ltb 63 p.category ≡ false
  unfolding good
  category_fits = le-ltb 63 p.category (leb→le _ _ (left c _ (right a _ g)))

  indicators_fit : ltb 2047 p.indicators ≡ false
  indicators_fit = le-ltb 2047 p.indicators (leb→le _ _ (left i _ after_category))

  codes_fit : above_fifteen p.address ≡ false
  codes_fit = is_false (above_fifteen p.address) (left (not (above_fifteen p.address)) _ address)

  ordered : T (not (bad_address p.address) && not (short p.indicators p.address))
  ordered = right (not (above_fifteen p.address)) _ address

  address_in_order : bad_address p.address ≡ false
  address_in_order = is_false (bad_address p.address) (left (not (bad_address p.address)) _ ordered)

  long_enough : short p.indicators p.address ≡ false
  long_enough = is_false (short p.indicators p.address) (right (not (bad_address p.address)) _ ordered)

  room : 17 ≤ length p.buffer
  room = leb→le 17 (length p.buffer) (right (good_address p.indicators p.address) _ (right i _ after_category))

-- THE WRITER TAKES IT

module _ (own far count cic : ℕ) (group : bad_group own far count ≡ false) (has : cic < count) (p : Particulars) (g : T (good p)) where
  abbrev Taken : ℕ → Type 0
  Taken h = first_rule (write_rules own far count (saying cic h p) (length p.buffer)) ≡ 0

  taken : (h : ℕ) → listed h ≡ true → too_large (saying cic h p) ≡ false → (has_signals h && bad_address (saying cic h p).address) ≡ false
      → (has_signals h && short (saying cic h p).indicators (saying cic h p).address) ≡ false → length_of (saying cic h p) ≤ 17 → Taken h
  taken h known fit ordered enough most =
      let low : cic < 4096 = below own far count cic group has in
      let fits : length_of (saying cic h p) ≤ length p.buffer = let r = room p g in omega arith in
      none_given (write_rules own far count (saying cic h p) (length p.buffer)) (
        group,
        (
          le-ltb 4095 cic (omega arith),
          (
            ap not known,
            (
              fit,
              (
                ordered,
                (enough, (ap (ltb (length p.buffer)) (octets_long own far (saying cic h p)) ∙ le-ltb (length p.buffer) (length_of (saying cic h p)) fits, tt)),
              ),
            ),
          ),
        ),
      )

  plain_taken : (h : ℕ) → listed h ≡ true → too_large (saying cic h p) ≡ false → has_signals h ≡ false → length_of (saying cic h p) ≤ 17 → Taken h
  plain_taken h known fit i =
      taken h known fit (ap (λ (b : Bool). b && bad_address (saying cic h p).address) i) (ap (λ (b : Bool). b && short (saying cic h p).indicators (saying cic h p).address) i)

  iam_fits : too_large (saying cic 0x11 p) ≡ false
  unfolding too_large
  iam_fits = rw (category_fits p g, indicators_fit p g, codes_fit p g) refl

  iam_most : 9 + half (length p.address) ≤ 17
  iam_most = let n = few p.address (address_in_order p g) in omega arith

  acm_said : too_large (saying cic 0x14 p) ≡ false
  unfolding too_large
  acm_said = rw (acm_fits p g) refl

  pub writer_takes : (s : Signal) → Taken (heading_of s)
  unfolding too_large
  writer_takes Iam = taken 0x11 refl iam_fits (address_in_order p g) (long_enough p g) iam_most
  writer_takes (Acm octet) = plain_taken 0x14 refl acm_said refl (lit≤ tt)
  writer_takes Anc = plain_taken 0x16 refl refl refl (lit≤ tt)
  writer_takes Ann = plain_taken 0x26 refl refl refl (lit≤ tt)
  writer_takes Cbk = plain_taken 0x36 refl refl refl (lit≤ tt)
  writer_takes Clf = plain_taken 0x46 refl refl refl (lit≤ tt)
  writer_takes Ran = plain_taken 0x56 refl refl refl (lit≤ tt)
  writer_takes Rlg = plain_taken 0x17 refl refl refl (lit≤ tt)
  writer_takes Blo = plain_taken 0x27 refl refl refl (lit≤ tt)
  writer_takes Bla = plain_taken 0x37 refl refl refl (lit≤ tt)
  writer_takes Ubl = plain_taken 0x47 refl refl refl (lit≤ tt)
  writer_takes Uba = plain_taken 0x57 refl refl refl (lit≤ tt)
  writer_takes Rsc = plain_taken 0x77 refl refl refl (lit≤ tt)
  writer_takes (Fail Sec) = plain_taken 0x15 refl refl refl (lit≤ tt)
  writer_takes (Fail Cgc) = plain_taken 0x25 refl refl refl (lit≤ tt)
  writer_takes (Fail Nnc) = plain_taken 0x35 refl refl refl (lit≤ tt)
  writer_takes (Fail Adi) = plain_taken 0x45 refl refl refl (lit≤ tt)
  writer_takes (Fail Cfl) = plain_taken 0x55 refl refl refl (lit≤ tt)
  writer_takes (Fail Ssb) = plain_taken 0x65 refl refl refl (lit≤ tt)
  writer_takes (Fail Unn) = plain_taken 0x75 refl refl refl (lit≤ tt)
  writer_takes (Fail Los) = plain_taken 0x85 refl refl refl (lit≤ tt)
  writer_takes (Fail Sst) = plain_taken 0x95 refl refl refl (lit≤ tt)

  pub accepted : (s : Signal) → (write_from own far count (saying cic (heading_of s) p) p.buffer).answer % 256 ≡ 0
  accepted s = from_refusal own far count (saying cic (heading_of s) p) p.buffer ∙ writer_takes s

-- what goes out where the writer accepts is the message
pub goes_out_whole : (own far count : ℕ) (m : Said) (buffer : List ℕ) → (write_from own far count m buffer).answer % 256 ≡ 0
    → goes_out (write_from own far count m buffer) ≡ octets_of own far m ∷ []
goes_out_whole own far count m buffer ok =
    let w = write_from own far count m buffer in
    let f = from_filled own far count m buffer ok in
    ap (λ (b : Bool). cond b (take (w.answer / 256) w.buffer ∷ []) []) (eq-eqb (w.answer % 256) 0 ok)
    ∙ ap (λ (n : ℕ). take n w.buffer ∷ []) f.0
    ∙ ap (λ (l : List ℕ). l ∷ []) f.1.start

-- WHAT A READER HEARS IN IT

-- a message that is accepted is of the circuit that its label names
pub circuit_read : (own far count : ℕ) (xs : List ℕ) → (fields_of own far count xs).refusal ≡ 0 → (fields_of own far count xs).circuit.0 ≡ cic_in xs
circuit_read own far count xs e = ap (λ (f : Fields). f.circuit.0) (read_fields own far count xs (sym (read_refusal own far count xs) ∙ e))

-- the signal that fields name, if they are accepted
abbrev pub named : Option Signal → List Signal
named (Some s) = s ∷ []
named None = []

abbrev pub heard_in : Fields → List Signal
heard_in f = cond (eqb f.refusal 0) (named (signal_of f.heading f.acm)) []

-- the fields of a signal's message name the signal
pub names : (cic : ℕ) (p : Particulars) (s : Signal) → let f = fields_said (saying cic (heading_of s) p) in
    (f.refusal ≡ 0) × (f.circuit.0 ≡ cic) × (signal_of f.heading f.acm ≡ Some (chosen p s))
names cic p Iam = (refl, refl, refl)
names cic p (Acm octet) = (refl, refl, refl)
names cic p Anc = (refl, refl, refl)
names cic p Ann = (refl, refl, refl)
names cic p Cbk = (refl, refl, refl)
names cic p Clf = (refl, refl, refl)
names cic p Ran = (refl, refl, refl)
names cic p Rlg = (refl, refl, refl)
names cic p Blo = (refl, refl, refl)
names cic p Bla = (refl, refl, refl)
names cic p Ubl = (refl, refl, refl)
names cic p Uba = (refl, refl, refl)
names cic p Rsc = (refl, refl, refl)
names cic p (Fail Sec) = (refl, refl, refl)
names cic p (Fail Cgc) = (refl, refl, refl)
names cic p (Fail Nnc) = (refl, refl, refl)
names cic p (Fail Adi) = (refl, refl, refl)
names cic p (Fail Cfl) = (refl, refl, refl)
names cic p (Fail Ssb) = (refl, refl, refl)
names cic p (Fail Unn) = (refl, refl, refl)
names cic p (Fail Los) = (refl, refl, refl)
names cic p (Fail Sst) = (refl, refl, refl)

word_chosen : (p : Particulars) (s : Signal) → word (chosen p s) ≡ word s
word_chosen p Iam = refl
word_chosen p (Acm octet) = refl
word_chosen p Anc = refl
word_chosen p Ann = refl
word_chosen p Cbk = refl
word_chosen p Clf = refl
word_chosen p Ran = refl
word_chosen p Rlg = refl
word_chosen p Blo = refl
word_chosen p Bla = refl
word_chosen p Ubl = refl
word_chosen p Uba = refl
word_chosen p Rsc = refl
word_chosen p (Fail f) = refl

-- a signal with its word
pub same_word : (cic : ℕ) (s : Signal) (p : Particulars) → heard (heard_in (fields_said (saying cic (heading_of s) p))) ≡ word s ∷ []
same_word cic s p =
    let f = fields_said (saying cic (heading_of s) p) in
    let n = names cic p s in
    ap (λ (b : Bool). heard (cond b (named (signal_of f.heading f.acm)) [])) (eq-eqb f.refusal 0 n.0)
    ∙ ap (λ (k : Option Signal). heard (named k)) n.2
    ∙ ap (λ (k : ℕ). k ∷ []) (word_chosen p s)

-- What an exchange writes for a signal with good particulars, the other end, in its own group that has the circuit, reads as that signal.
pub sent_is_read : (own far count cic : ℕ) → bad_group own far count ≡ false → cic < count → (p : Particulars) → T (good p)
    → (theirs : ℕ) → bad_group far own theirs ≡ false → cic < theirs → (s : Signal)
    → let w = write_from own far count (saying cic (heading_of s) p) p.buffer in
    let r = reading far own theirs (take (w.answer / 256) w.buffer) in
    (w.answer % 256 ≡ 0) × (r.refusal ≡ 0) × (r.message.circuit.0 ≡ cic) × (r.message.signal ≡ Some (chosen p s))
sent_is_read own far count cic group has p g theirs group' has' s =
    let m = saying cic (heading_of s) p in
    let ok = accepted own far count cic group has p g s in
    let w = write_from own far count m p.buffer in
    let filled = from_filled own far count m p.buffer ok in
    let octets : take (w.answer / 256) w.buffer ≡ octets_of own far m = ap (λ (n : ℕ). take n w.buffer) filled.0 ∙ filled.1.start in
    let back = ap (fields_of far own theirs) octets ∙ octets_read own far count m (length p.buffer) (writer_takes own far count cic group has p g s) theirs group' has' in
    let n = names cic p s in (
      ok,
      ap (λ (f : Fields). f.refusal) back ∙ n.0,
      ap (λ (f : Fields). f.circuit.0) back ∙ n.1,
      ap (λ (f : Fields). signal_of f.heading f.acm) back ∙ n.2,
    )
