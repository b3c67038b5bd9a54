-- What one circuit's end sees of a queue in which all circuits are mixed: the signals that its reader hears in the messages about that circuit. How
-- that changes when messages are sent, lost or of other circuits.
-- Assumes nothing.
use mathlib.Core.Path.{◌≡◌, refl, sym, ap, ◌∙◌}
use mathlib.Core.Bool.{Bool, true, false, cond, not}
use mathlib.Core.List.{List, [], ◌∷◌, ◌++◌, append_assoc, append-nil}
use Prim.Native.Nat.{ℕ, ◌/◌, ◌%◌, ◌<◌}
use borrow.Author.Tests.{eq-eqb, ne_eqb, eqb-true}
use lib.Dec.{T, eqb}
use lib.ListN.{length, take}
use Rattle.circuit.specs.declared.Signal.{Signal}
use Rattle.circuit.specs.Groups.{bad_group}
use Rattle.circuit.specs.Refusals.{first_rule}
use Rattle.circuit.proofs.Every.{left, right}
use Rattle.codes.specs.Headings.{heading_of}
use Rattle.reader.specs.Told.{Told as Fields}
use Rattle.reader.specs.Places.{cic_in}
use Rattle.reader.specs.Reading.{fields_of}
use Rattle.writer.specs.Writing.{Said, octets_of, write_rules}
use Rattle.tup.specs.Entries.{Told, write_from}
use Rattle.inverse.proofs.Refusals.{from_refusal}
use Rattle.inverse.proofs.ReadBack.{circuit as circuit_written, octets_read}
use Rattle.ends.specs.Machine.{none, without}
use Rattle.ends.proofs.Words.{word, heard, heard_more}
use Rattle.exchanges.specs.Link.{Message, is_about, Particulars, good, saying, writes, writes_all}
use Rattle.exchanges.proofs.Sent.{is_false, writer_takes, accepted, goes_out_whole, heard_in, same_word}

-- own, far, count: the reader's group
module _ (own far count cic : ℕ) where
  abbrev pub seen_in : Message → List Signal
  seen_in m = cond (is_about cic m) (heard_in (fields_of own far count m)) []

  abbrev pub signals : List Message → List Signal
  signals [] = []
  signals (m ∷ rest) = seen_in m ++ signals rest

  pub signals_more : (q o : List Message) → signals (q ++ o) ≡ signals q ++ signals o
  signals_more [] o = refl
  signals_more (m ∷ q) o = ap (λ (l : List Signal). seen_in m ++ l) (signals_more q o) ∙ sym (append_assoc (seen_in m) (signals q) (signals o))

  -- a message of another circuit
  unseen : (m : Message) → is_about cic m ≡ false → seen_in m ≡ []
  unseen m e = ap (λ (b : Bool). cond b (heard_in (fields_of own far count m)) []) e

  pub silent : (q : List Message) → T (none (is_about cic) q) → signals q ≡ []
  silent [] t = refl
  silent (m ∷ q) t = rw (unseen m (is_false (is_about cic m) (left (not (is_about cic m)) _ t))) (silent q (right (not (is_about cic m)) _ t))

  -- its messages are lost
  pub lost_all : (q : List Message) → signals (without (is_about cic) q) ≡ []
  lost_all [] = refl
  lost_all (m ∷ q) = by (is_about cic m) refl (lost_all q)
    where
      by : (b : Bool) → is_about cic m ≡ b → signals (without (is_about cic) q) ≡ [] → signals (cond b (without (is_about cic) q) (m ∷ without (is_about cic) q)) ≡ []
      by true e ih = ih
      by false e ih = rw (unseen m e) ih

  -- others are
  pub lost_beside : (such : Message → Bool) → ((m : Message) → such m ≡ true → is_about cic m ≡ false) → (q : List Message) → signals (without such q) ≡ signals q
  lost_beside such other [] = refl
  lost_beside such other (m ∷ q) = by (such m) refl (lost_beside such other q)
    where
      by : (b : Bool) → such m ≡ b → signals (without such q) ≡ signals q → signals (cond b (without such q) (m ∷ without such q)) ≡ seen_in m ++ signals q
      by true e ih = rw (unseen m (other m e)) ih
      by false e ih = ap (λ (l : List Signal). seen_in m ++ l) ih

  pub lost_others : (i : ℕ) → (i ≡ cic → ⊥) → (q : List Message) → signals (without (is_about i) q) ≡ signals q
  lost_others i other = lost_beside (is_about i) (λ m e. ne_eqb (cic_in m) cic (λ z. other (sym (eqb-true (cic_in m) i e) ∙ z)))

  -- one comes last that is not its own
  pub foreign_last : (q : List Message) (m : Message) → is_about cic m ≡ false → signals (q ++ (m ∷ [])) ≡ signals q
  foreign_last q m e = signals_more q (m ∷ []) ∙ rw (unseen m e) (append-nil (signals q))

-- what the exchange with the codes far and own sends, as the one with own and far sees it
module _ (own far theirs cic : ℕ) (count : ℕ) where
  pub sent_beside : (i : ℕ) → (i ≡ cic → ⊥) → (p : Particulars) (l : List Signal) → signals own far theirs cic (writes_all far own count i p l) ≡ []
  sent_beside i other p [] = refl
  sent_beside i other p (s ∷ l) =
      signals_more own far theirs cic (writes far own count i p s) (writes_all far own count i p l)
      ∙ rw (one (eqb ((write_from far own count m p.buffer).answer % 256) 0) refl) (sent_beside i other p l)
    where
      m : Said
      m = saying i (heading_of s) p

      w : Told
      w = write_from far own count m p.buffer

      elsewhere : (write_from far own count m p.buffer).answer % 256 ≡ 0 → is_about cic (octets_of far own m) ≡ false
      elsewhere ok = ne_eqb (cic_in (octets_of far own m)) cic (λ z.
          other (sym (circuit_written far own count m (length p.buffer) (sym (from_refusal far own count m p.buffer) ∙ ok)) ∙ z))

      one : (b : Bool) → eqb ((write_from far own count m p.buffer).answer % 256) 0 ≡ b → signals own far theirs cic (writes far own count i p s) ≡ []
      one true e =
          let ok = eqb-true ((write_from far own count m p.buffer).answer % 256) 0 e in
          ap (signals own far theirs cic) (goes_out_whole far own count m p.buffer ok) ∙ rw (unseen own far theirs cic (octets_of far own m) (elsewhere ok)) refl
      one false e = ap (λ (b : Bool). signals own far theirs cic (cond b (take (w.answer / 256) w.buffer ∷ []) [])) e

  module _ (group : bad_group far own count ≡ false) (has : cic < count) (group' : bad_group own far theirs ≡ false) (has' : cic < theirs)
      (p : Particulars) (g : T (good p)) where
    seen_sent : (s : Signal) → heard (signals own far theirs cic (writes far own count cic p s)) ≡ word s ∷ []
    seen_sent s =
        ap (λ (l : List Message). heard (signals own far theirs cic l)) (goes_out_whole far own count m p.buffer (accepted far own count cic group has p g s))
        ∙ ap (λ (l : List Signal). heard l) (append-nil (seen_in own far theirs cic (octets_of far own m)))
        ∙ ap (λ (b : Bool). heard (cond b (heard_in (fields_of own far theirs (octets_of far own m))) [])) (eq-eqb _ cic (circuit_written far own count m (length p.buffer) ok))
        ∙ ap (λ (f : Fields). heard (heard_in f)) (octets_read far own count m (length p.buffer) ok theirs group' has')
        ∙ same_word cic s p
      where
        m : Said
        m = saying cic (heading_of s) p

        ok : first_rule (write_rules far own count m (length p.buffer)) ≡ 0
        ok = writer_takes far own count cic group has p g s

    pub sent_here : (l : List Signal) → heard (signals own far theirs cic (writes_all far own count cic p l)) ≡ heard l
    sent_here [] = refl
    sent_here (s ∷ l) =
        ap heard (signals_more own far theirs cic (writes far own count cic p s) (writes_all far own count cic p l))
        ∙ heard_more (signals own far theirs cic (writes far own count cic p s)) (signals own far theirs cic (writes_all far own count cic p l))
        ∙ rw (seen_sent s, sent_here l) refl
