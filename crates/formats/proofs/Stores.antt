-- Stores into a lent buffer behind a run of octets at its start.
-- Assumes nothing.
use mathlib.Core.Path.{◌≡◌, sym, ap, ◌∙◌}
use mathlib.Core.List.{List, ◌++◌}
use Prim.Native.Nat.{ℕ, ◌+◌, ◌≤◌}
use native.Mathlib.Omega.{arith}
use lib.ListN.{length, take, drop, length-append, length-drop}
use lib.Seq.{sets, sets-eq, take-append_seam, drop-append-add, drop-drop, paste, take-length}
use Rattle.words.specs.Octets.{over}

-- signals stored behind octets
pub paste_behind : (xs vs buffer : List ℕ) → paste (over xs buffer) (length xs) vs (length vs) ≡ over (xs ++ vs) buffer
paste_behind xs vs buffer =
    let rest : List ℕ = drop (length xs) buffer in
    ap (λ (l : List ℕ). l ++ take (length vs) vs ++ drop (length xs + length vs) (xs ++ rest)) (take-append_seam xs rest)
    ∙ ap (λ (l : List ℕ). xs ++ l ++ drop (length xs + length vs) (xs ++ rest)) (take-length vs)
    ∙ ap (λ (l : List ℕ). xs ++ vs ++ l) (drop-append-add xs rest (length vs) ∙ drop-drop (length vs) (length xs) buffer ∙ ap (λ (n : ℕ). drop n buffer) (sym (length-append xs vs)))

-- octets stored behind octets
pub store_more : (xs vs buffer : List ℕ) → length xs + length vs ≤ length buffer → sets (over xs buffer) (length xs) vs ≡ over (xs ++ vs) buffer
store_more xs vs buffer h =
    let rest : List ℕ = drop (length xs) buffer in
    sets-eq vs (over xs buffer) (length xs) (rw (length-append xs rest, length-drop) (omega arith))
    ∙ ap (λ (l : List ℕ). l ++ vs ++ drop (length xs + length vs) (xs ++ rest)) (take-append_seam xs rest)
    ∙ ap (λ (l : List ℕ). xs ++ vs ++ l) (drop-append-add xs rest (length vs) ∙ drop-drop (length vs) (length xs) buffer ∙ ap (λ (n : ℕ). drop n buffer) (sym (length-append xs vs)))
