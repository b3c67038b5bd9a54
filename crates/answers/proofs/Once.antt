-- Answers whose fields are equal are equal.
-- Assumes nothing.
use Rattle.std.proofs.Common.{◌≡◌, refl, ℕ}
use Rattle.circuit.specs.declared.Held.{Held}
use Rattle.answers.specs.declared.Fields.{Fields}

abbrev held : (state flags : ℕ) → Held
held s f = record { state = s; flags = f }

abbrev fields : (refusal ind state flags first second : ℕ) → Fields
fields r i s f a b = record { refusal = r; ind = i; held = held s f; first = a; second = b }

both : (s f s' f' : ℕ) → s ≡ s' → f ≡ f' → held s f ≡ held s' f'
both s f s' f' p q = rw (p, q) refl

all : (r i s f a b r' i' s' f' a' b' : ℕ) → r ≡ r' → i ≡ i' → s ≡ s' → f ≡ f' → a ≡ a' → b ≡ b' → fields r i s f a b ≡ fields r' i' s' f' a' b'
all r i s f a b r' i' s' f' a' b' p q t u v w = rw (p, q, t, u, v, w) refl

pub same_held : (p q : Held) → p.state ≡ q.state → p.flags ≡ q.flags → p ≡ q
same_held p q = both p.state p.flags q.state q.flags

pub same_fields : (p q : Fields)
    → p.refusal ≡ q.refusal → p.ind ≡ q.ind → p.held.state ≡ q.held.state → p.held.flags ≡ q.held.flags → p.first ≡ q.first → p.second ≡ q.second → p ≡ q
same_fields p q = all p.refusal p.ind p.held.state p.held.flags p.first p.second q.refusal q.ind q.held.state q.held.flags q.first q.second
