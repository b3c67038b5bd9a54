-- Texts that are written one behind the other into lent room are one text there.
-- Assumes nothing.
use mathlib.Core.Path.{◌≡◌, refl, sym, ap, ◌∙◌}
use mathlib.Core.List.{List, [], ◌∷◌, ◌++◌}
use Prim.Native.Nat.{ℕ, zero, suc, ◌+◌, ◌/◌, ◌%◌, ◌<◌, ◌≤◌}
use native.Mathlib.Nat.{add_assoc, add-suc, suc-add, add-zero, zero-add}
use native.Mathlib.Omega.{arith}
use lib.Dec.{ltb}
use lib.ListN.{length, get_or, set, take, drop, length-append, length-map}
use lib.Seq.{sets, sets-eq, take-length, length-take-le}
use borrow.Rule.Slice.PartMut.{put_mid}
use Rattle.std.proofs.lemmas.Slice.{put_mid-paste}
use Rattle.std.proofs.lemmas.List.{take-append-drop, drop-append-le, take_more, map-append}
use Rattle.std.proofs.Common.{append_assoc}
use Rattle.words.specs.Octets.{over}
use borrow.Author.Tests.{le-ltb}
use Rattle.text.specs.Numbers.{decimal, hex_digit}
use Rattle.text.specs.Lines.{signals}
use Rattle.text.specs.declared.Pen.{Pen}
use Rattle.text.specs.Way.{Wrote}
use Rattle.text.proofs.Numbers.{by_test, decimal_small, decimal_large}
use Rattle.text.specs.Writing.{Printed, line_room, in_room}

sets_more : (x y l : List ℕ) (i : ℕ) → sets (sets l i x) (i + length x) y ≡ sets l i (x ++ y)
sets_more [] y l i = simp add-zero
sets_more (a ∷ x) y l i = simp (add-suc, ← suc-add) (sets_more x y (set l i a) (suc i))

-- two texts, one behind the other
pub then : {p q r : Pen} {x y : List ℕ} {m n : ℕ} → Wrote p x m q → Wrote q y n r → Wrote p (x ++ y) (m + n) r
then {p} {q} {r} {x} {y} u v = record {
  place = rw (v.place, u.place, length-append) (add_assoc p.at (length x) (length y));
  within = rw length-append (omega (arith, u.within, v.within));
  room = v.room ∙ ap (λ (k : ℕ). sets q.room.now k y) u.place ∙ ap (λ (l : List ℕ). sets l (p.at + length x) y) u.room ∙ sets_more x y p.room.now p.at;
  same = v.same ∙ u.same;
}

-- a looser bound
pub at_most : {p q : Pen} {x : List ℕ} {m n : ℕ} → Wrote p x m q → m ≤ n → Wrote p x n q
at_most w h = record { place = w.place; within = omega (arith, w.within, h); room = w.room; same = w.same }

-- a number's digits: its only one, or those of a tenth of it and its last
pub sets_small : (l : List ℕ) (at n : ℕ) → n < 10 → set l at (48 + n) ≡ sets l at (decimal n)
sets_small l at n h = rw (decimal_small n h) refl

pub sets_large : (l : List ℕ) (at n : ℕ) → 10 ≤ n → set (sets l at (decimal (n / 10))) (at + length (decimal (n / 10))) (48 + n % 10) ≡ sets l at (decimal n)
sets_large l at n h = rw (decimal_large n h) (sets_more (decimal (n / 10)) ((48 + n % 10) ∷ []) l at)

-- a text that is copied to a place of a list
pub copied : (at k : ℕ) (b y x : List ℕ) → y ≡ x → k ≡ length x → at + length x ≤ length b → put_mid at k b y ≡ sets b at x
copied at k b y x e f h =
    put_mid-paste at k b y x (length x) e (sym f) refl
    ∙ (ap (λ (t : List ℕ). (take at b ++ t) ++ drop (at + length x) b) (take-length x) ∙ sym (sets-eq x b at h))

-- a text at the start of a room's first octets is a text at the start of the room
at_start : (x b t r : List ℕ) → length x ≤ length t → t ++ r ≡ b → sets t 0 x ++ r ≡ over x b
at_start x b t r h e = rw (← e, sets-eq x t 0 (omega (arith, h)), zero-add, append_assoc, drop-append-le (length x) t r h) refl

-- a line that is written in a room's first octets
pub whole : (p q : Pen) (b a x : List ℕ) → Wrote p x 132 q → p.at ≡ 0 → 132 ≤ length b → p.room.now ≡ take 132 b → a ≡ q.room.now ++ drop 132 b → Printed b (in_room b x) q.at a
whole p q b a x w s h e f =
    let within : length x ≤ length (take 132 b) = rw (length-take-le 132 b h) w.within in
    let left : q.room.now ≡ sets (take 132 b) 0 x = rw (← e, ← s) w.room in
    rw (le-ltb (length b) line_room h) (record {
      count = rw s at w.place ∙ zero-add (length x);
      room = f ∙ ap (λ (l : List ℕ). l ++ drop 132 b) left ∙ at_start x b (take 132 b) (drop 132 b) within (take-append-drop 132 b);
    })

pub no_text : (b : List ℕ) → Printed b (in_room b []) 0 b
no_text b = by_test (ltb (length b) line_room) (λ e. rw e (record { count = refl; room = refl })) (λ e. rw e (record { count = refl; room = refl }))

-- one more address signal is a digit more
pub signals_more : (address : List ℕ) (i : ℕ) → i < length address → signals (take (i + 1) address) ≡ signals (take i address) ++ (hex_digit (get_or address i 0 % 16) ∷ [])
unfolding signals
signals_more address i h = rw (take_more address i 0 h, map-append) refl

-- an address as text has a digit for each signal
pub signals_length : (address : List ℕ) → length (signals address) ≡ length address
unfolding signals
signals_length address = length-map address (λ d. hex_digit (d % 16))

pub signal_at : (address : List ℕ) (i : ℕ) → i < length address → get_or (signals address) i 0 ≡ hex_digit (get_or address i 0 % 16)
unfolding signals
signal_at [] i h = absurd (omega arith)
signal_at (d ∷ address) zero h = refl
signal_at (d ∷ address) (suc i) h = signal_at address i (omega arith)

-- the first i digits of an address stand there, and one more does
pub digit_more : (b address : List ℕ) (at i : ℕ) → i < length address → set (sets b at (signals (take i address))) (at + i) (hex_digit (get_or address i 0 % 16)) ≡ sets b at (signals (take (i + 1) address))
digit_more b address at i h =
    let e : length (signals (take i address)) ≡ i = signals_length (take i address) ∙ length-take-le i address (omega arith) in
    rw (signals_more address i h, ← sets_more (signals (take i address)) (hex_digit (get_or address i 0 % 16) ∷ []) b at)
    (ap (λ (k : ℕ). set (sets b at (signals (take i address))) (at + k) (hex_digit (get_or address i 0 % 16))) (sym e))
