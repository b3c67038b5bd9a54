-- The table's rule, over all of its entries: each number is one of those that exist, and means what the printed table says at its place. `entry`
-- has the test computed.
-- Assumes nothing.
use mathlib.Core.Path.{◌≡◌, refl, ap, ◌∙◌, sym}
use mathlib.Core.Bool.{Bool, true, false, cond, not, ◌&&◌}
use mathlib.Core.List.{List, []}
use Prim.Native.Nat.{ℕ, ◌+◌, ◌*◌, ◌/◌, ◌%◌, ◌<◌, ◌≤◌}
use native.Mathlib.Omega.{arith}
use lib.Dec.{T, eqb, eqb→eq, leb, leb→le}
use lib.ListN.{get_or}
use borrow.Author.Tests.{le-leb}
use Rattle.std.specs.Int.{from_bool}
use Rattle.circuit.specs.declared.Signal.{Signal}
use Rattle.circuit.specs.Every.{implies, each_below}
use Rattle.circuit.proofs.Every.{left, right, then, at_below}
use Rattle.calls.specs.declared.Call.{Call}
use Rattle.signals.specs.Table.{on_signal}
use Rattle.calls.specs.Calls.{call, call_part, unmarked, meaning, is_number, on_call}
use Rattle.calls.specs.Way.{column_of}

abbrev same : Call → Call → Bool
same a b = eqb a.state b.state && (eqb a.sends b.sends && eqb a.ind b.ind)

alike : {s t x y i j : ℕ} → s ≡ t → x ≡ y → i ≡ j → call s x i ≡ call t y j
alike p q r = rw (p, q, r)

is_same : (a b : Call) → T (same a b) → a ≡ b
is_same a b t =
    alike
    (eqb→eq a.state b.state (left (eqb a.state b.state) _ t))
    (eqb→eq a.sends b.sends (left (eqb a.sends b.sends) _ (right (eqb a.state b.state) _ t)))
    (eqb→eq a.ind b.ind (right (eqb a.sends b.sends) _ (right (eqb a.state b.state) _ t)))

-- the test of a column, at all 26 of its entries
abbrev pub right_at : Signal → List ℕ → ℕ → Bool
right_at sig numbers i = is_number (get_or numbers i 0) && same (meaning (get_or numbers i 0)) (on_call (eqb (i % 2) 0) (i / 2) sig)

role_at : (n : ℕ) (c : Bool) → eqb ((n * 2 + from_bool (not c)) % 2) 0 ≡ c
role_at n true = let e : (n * 2 + 0) % 2 ≡ 0 = omega arith in rw e
role_at n false = let e : (n * 2 + 1) % 2 ≡ 1 = omega arith in rw e

low : (c : Bool) → from_bool (not c) < 2
low true = omega arith
low false = omega arith

-- the entry of a signal, a state and a role in a table of such columns
module _ (table : List (List ℕ)) (rule : (sig : Signal) → T (each_below 26 (right_at sig (get_or table (column_of sig) [])))) where
  pub at_place : (c : Bool) (s : ℕ) (sig : Signal) → s ≤ 12 → meaning (get_or (get_or table (column_of sig) []) (s * 2 + from_bool (not c)) 0) ≡ on_call c s sig
  at_place c s sig h =
      let numbers : List ℕ = get_or table (column_of sig) [] in
      let i : ℕ = s * 2 + from_bool (not c) in
      let b : from_bool (not c) < 2 = low c in
      let state : i / 2 ≡ s = omega arith in
      let t : T (right_at sig numbers i) = at_below 26 (right_at sig numbers) (rule sig) i (omega arith) in
      is_same _ _ (right (is_number (get_or numbers i 0)) _ t) ∙ ap (λ (k : ℕ). on_call (eqb (i % 2) 0) k sig) state ∙ ap (λ (r : Bool). on_call r s sig) (role_at s c)

-- the number of a call part: each number that exists comes back from its meaning, so that no two of them mean the same
abbrev number : Call → ℕ
number a =
    a.state * 16
    + cond (eqb a.sends 0) a.ind (cond (eqb a.sends 0x46) (cond (eqb a.ind 10) 0xa 0xb) (cond (eqb a.ind 0) 0xc (cond (eqb a.ind 5) 0xd 0xe)))

abbrev comes_back : ℕ → Bool
comes_back n = implies (is_number n) (eqb (number (meaning n)) n)

all_back : T (each_below 208 comes_back)
unfolding meaning
all_back = tt

back : (n : ℕ) → T (is_number n) → number (meaning n) ≡ n
back n t =
    let h : n / 16 ≤ 12 = leb→le (n / 16) 12 (left (leb (n / 16) 12) _ t) in
    eqb→eq _ _ (then (is_number n) _ (at_below 208 comes_back all_back n (omega arith)) t)

pub apart : (n m : ℕ) → T (is_number n) → T (is_number m) → meaning n ≡ meaning m → n ≡ m
apart n m p q e = sym (back n p) ∙ ap number e ∙ back m q

-- the call part of a state that exists
pub is_call_part : (c : Bool) (s : ℕ) (sig : Signal) → s ≤ 12 → on_call c s sig ≡ call_part (on_signal c (unmarked s) sig)
unfolding on_call
is_call_part c s sig h = rw (le-leb s 12 h) refl
