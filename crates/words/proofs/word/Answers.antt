-- What the check leaves of the proof that `words::word` meets its contract.
-- Assumes nothing.
use Rattle.std.proofs.Common.{◌<◌, ◌-◌, ℕ, arith, length, drop, refl, ◌∙◌}
use Rattle.std.proofs.lemmas.List.{get_or-drop, get_or-take}
use Rattle.words.proofs.Words.{whole}
use Rattle.words.proofs.word.Goals as goal

pub returns-in-Some-first_chunk : goal.returns-in-Some-first_chunk
returns-in-Some-first_chunk c =
    let rest = c.in-Some.ensures.lookup.0 in let chunk = c.in-Some-first_chunk.ensures.cases in
    c.from_le_bytes.ensures
    ∙ whole c.args.xs.now c.in-Some-first_chunk.octets.now c.args.at (λ (k : ℕ) (h : k < 8).
    let l : k < length c.args.xs.now - c.args.at = omega (arith, rest.3, chunk.enough) in
    rw (chunk.same, get_or-take 8 c.in-Some.rest.now k 0 h, rest.2, get_or-take (length c.args.xs.now - c.args.at) (drop c.args.at c.args.xs.now) k 0 l, get_or-drop) refl)
