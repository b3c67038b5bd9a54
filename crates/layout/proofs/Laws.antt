-- Laws of where things lie in a lent table: what is put is read back, and every other octet stays. All above goes by these.
-- Assumes nothing.
use mathlib.Core.Path.{◌≡◌, refl, ◌∙◌, subst}
use mathlib.Core.Bool.{Bool, true, false, not, cond, ◌&&◌, ◌||◌, and-false}
use mathlib.Core.List.{List}
use Prim.Native.Nat.{ℕ, zero, suc, ◌+◌, ◌*◌, ◌-◌, ◌/◌, ◌%◌, ◌<◌, ◌≤◌}
use native.Mathlib.Omega.{arith}
use native.Mathlib.Numerals.{unary_clauses}
use lib.Dec.{T, eqb, eqb→eq, leb, ltb}
use borrow.Author.Tests.{le-leb, lt-leb, lt-ltb, le-ltb, leb-true, leb-false, eqb-true, ne_eqb}
use lib.ListN.{length, get_or, set, length-set}
use lib.Seq.{get_or-set_same, get_or-set_other, lt-length-set}
use Rattle.circuit.specs.declared.Record.{Record}
use Rattle.circuit.specs.Records.{rec, valid, flags_allowed, only_far}
use Rattle.marks.specs.Flags.{bit}
use Rattle.marks.specs.Way.{legal, legal_in_reset}
use Rattle.circuit.proofs.Every.{at_below, alike, alike_same}
use Rattle.words.proofs.Words as words
use Rattle.words.specs.Words.{put_word, largest}
use Rattle.layout.specs.Way.{bad_length}
use Rattle.layout.specs.Layout.{counter_octets, record_octets, table_octets, records_in, holding, held_at, counter_in, state_at, flags_at, rank_at, flags_of, record_of, record_at, allowed, stored, stored_at, put_octets, put, put_counter, put_rank, ranked, idle}

-- a circuit's octets one by one, as the program reads them
module _ (table : List ℕ) (i at : ℕ) (place : at ≡ table_octets i) where
  pub octets_at : (bs : List ℕ) (rank : ℕ) → at + record_octets ≤ length table → ((k : ℕ) → k < record_octets → get_or bs k 0 ≡ get_or table (at + k) 0)
      → rank ≡ get_or bs 2 0 + 256 * (get_or bs 3 0 + 256 * (get_or bs 4 0 + 256 * (get_or bs 5 0 + 256 * (get_or bs 6 0 + 256 * (get_or bs 7 0 + 256 * (get_or bs 8 0 + 256 * get_or bs 9 0))))))
      → stored (get_or bs 0 0) (get_or bs 1 0) rank ≡ stored_at table i
  unfolding state_at flags_at rank_at
  octets_at bs rank there same e =
      let is : (k j : ℕ) → j < record_octets → at + j ≡ k → get_or bs j 0 ≡ get_or table k 0 = λ k j h p. rw (same j h, p) refl in
      let none : get_or bs 0 0 ≡ get_or table at 0 = is at 0 (omega arith) (omega arith) in
      rw (e, ← place, le-leb (at + record_octets) (length table) there, words.octets table (at + 2), none, is (at + 1) 1 (omega arith) refl, is (at + 2) 2 (omega arith) refl, is (at + 2 + 1) 3 (omega arith) (omega arith), is (at + 2 + 2) 4 (omega arith) (omega arith), is (at + 2 + 3) 5 (omega arith) (omega arith), is (at + 2 + 4) 6 (omega arith) (omega arith), is (at + 2 + 5) 7 (omega arith) (omega arith), is (at + 2 + 6) 8 (omega arith) (omega arith), is (at + 2 + 7) 9 (omega arith) (omega arith)) refl

  pub no_octets : length table < at + record_octets → stored 0 0 0 ≡ stored_at table i
  no_octets h = rw (← place, lt-leb (at + record_octets) (length table) h)

-- an octet of flags and the flags correspond
pub flags_back : (s f : ℕ) → f ≤ 15 → flags_of (record_of s f) ≡ f
unfolding flags_of record_of
flags_back s f h = eqb→eq _ _ (at_below 16 (λ f. eqb (flags_of (record_of s f)) f) tt f (omega arith))

bit_low : (b : Bool) (worth : ℕ) → bit b worth ≤ worth
bit_low true worth = omega arith
bit_low false worth = omega arith

pub flags_low : (r : Record) → flags_of r ≤ 15
unfolding flags_of
flags_low r = omega (arith, bit_low r.own 1, bit_low r.far 2, bit_low r.bla 4, bit_low r.uba 8)

pub record_back : (r : Record) → record_of r.state (flags_of r) ≡ r
unfolding flags_of record_of
record_back r = go r.own r.far r.bla r.uba
  where
    go : (own far bla uba : Bool) → record_of r.state (flags_of (rec r.state own far bla uba)) ≡ rec r.state own far bla uba
    go true true true true = refl
    go true true true false = refl
    go true true false true = refl
    go true true false false = refl
    go true false true true = refl
    go true false true false = refl
    go true false false true = refl
    go true false false false = refl
    go false true true true = refl
    go false true true false = refl
    go false true false true = refl
    go false true false false = refl
    go false false true true = refl
    go false false true false = refl
    go false false false true = refl
    go false false false false = refl

-- which octets are a record: below 12 the marks alone decide, in 12 what is legal there, above there is no state
once_more : (a b : Bool) → a ≡ (true && (a && (true || b)))
once_more true b = refl
once_more false b = refl

pub allowed_below : (s f : ℕ) → s < 12 → legal f ≡ allowed s f
unfolding record_of
allowed_below s f h = rw (le-leb s 12 (omega arith), lt-ltb s 12 h) (go (leb f 15))
  where
    go : (b : Bool) → (b && flags_allowed (record_of s f)) ≡ (b && (true && (flags_allowed (record_of s f) && (true || only_far (record_of s f)))))
    go true = once_more (flags_allowed (record_of s f)) (only_far (record_of s f))
    go false = refl

pub allowed_bare : (s f : ℕ) → f ≡ 0 → leb s 12 ≡ allowed s f
unfolding record_of
allowed_bare s f e = rw e (go (leb s 12) (ltb s 12))
  where
    go : (a b : Bool) → a ≡ (a && (b || true))
    go true true = refl
    go true false = refl
    go false b = refl

pub allowed_in_reset : (s f : ℕ) → s ≡ 12 → legal_in_reset f ≡ allowed s f
unfolding record_of
allowed_in_reset s f e = rw e (go (leb f 15) refl)
  where
    go : (b : Bool) → leb f 15 ≡ b → legal_in_reset f ≡ (b && valid (record_of 12 f))
    go true l = alike_same _ _ (at_below 16 (λ f. alike (legal_in_reset f) (valid (record_of 12 f))) tt f (let h : f ≤ 15 = leb-true f 15 l in omega arith))
    go false l = let h : 15 < f = leb-false f 15 l in rw (ne_eqb f 0 (λ z. omega arith), ne_eqb f 2 (λ z. omega arith)) refl

pub allowed_above : (s f : ℕ) → 12 < s → allowed s f ≡ false
unfolding record_of
allowed_above s f h = rw (lt-leb s 12 h) (and-false (leb f 15))

-- a circuit of the table has its octets there
inside : (octets i : ℕ) → i < records_in octets → table_octets i + record_octets ≤ octets
unfolding records_in
inside octets i h = go (eqb ((octets - counter_octets) % record_octets) 0) h
  where
    go : (b : Bool) → i < cond b ((octets - counter_octets) / record_octets) 0 → table_octets i + record_octets ≤ octets
    go true h = omega arith
    go false h = absurd (omega arith)

pub stored_in : (table : List ℕ) (i : ℕ) → i < records_in (length table) → stored_at table i ≡ stored (state_at table i) (flags_at table i) (rank_at table i)
stored_in table i h = rw (le-leb (table_octets i + record_octets) (length table) (inside (length table) i h))

-- fewer octets than the counter has hold no record
pub short_records : (octets : ℕ) → octets < counter_octets → records_in octets ≡ 0
unfolding records_in
short_records octets h = let none : octets - counter_octets ≡ 0 = omega arith in rw none

-- lengths that are no group's, as the program tells them
none_in : (k : ℕ) → k ≡ 0 → (eqb k 0 || ltb 4096 k) ≡ true
none_in k e = rw e refl

many_in : (k : ℕ) → 4096 < k → (eqb k 0 || ltb 4096 k) ≡ true
many_in k h = rw (ne_eqb k 0 (λ z. omega arith), lt-ltb 4096 k h) refl

some_in : (k : ℕ) → 0 < k → k ≤ 4096 → (eqb k 0 || ltb 4096 k) ≡ false
some_in k h l = rw (ne_eqb k 0 (λ z. omega arith), le-ltb 4096 k l) refl

module _ (octets : ℕ) where
  abbrev held : Bool → ℕ
  held whole = cond whole ((octets - counter_octets) / record_octets) 0

  pub too_short : octets < 18 → bad_length octets ≡ true
  unfolding records_in
  too_short h = go (eqb ((octets - counter_octets) % record_octets) 0)
    where
      go : (b : Bool) → (eqb (held b) 0 || ltb 4096 (held b)) ≡ true
      go true = none_in ((octets - counter_octets) / record_octets) (omega arith)
      go false = refl

  pub too_long : 40968 < octets → bad_length octets ≡ true
  unfolding records_in
  too_long h = go (eqb ((octets - counter_octets) % record_octets) 0) refl
    where
      go : (b : Bool) → eqb ((octets - counter_octets) % record_octets) 0 ≡ b → (eqb (held b) 0 || ltb 4096 (held b)) ≡ true
      go true e = let whole : (octets - counter_octets) % record_octets ≡ 0 = eqb-true _ _ e in many_in ((octets - counter_octets) / record_octets) (omega arith)
      go false e = refl

  pub by_rest : 18 ≤ octets → octets ≤ 40968 → bad_length octets ≡ not (eqb ((octets - counter_octets) % record_octets) 0)
  unfolding records_in
  by_rest l h = go (eqb ((octets - counter_octets) % record_octets) 0) refl
    where
      go : (b : Bool) → eqb ((octets - counter_octets) % record_octets) 0 ≡ b → (eqb (held b) 0 || ltb 4096 (held b)) ≡ not b
      go true e = let whole : (octets - counter_octets) % record_octets ≡ 0 = eqb-true _ _ e in some_in ((octets - counter_octets) / record_octets) (omega arith) (omega arith)
      go false e = refl

-- a circuit of a group lies in its table whole, and no other does
pub ends_before : (octets i : ℕ) → bad_length octets ≡ false → ltb octets (table_octets i + record_octets) ≡ leb (records_in octets) i
unfolding records_in
ends_before octets i good = go (eqb ((octets - counter_octets) % record_octets) 0) refl good
  where
    go : (b : Bool) → eqb ((octets - counter_octets) % record_octets) 0 ≡ b → (eqb (held octets b) 0 || ltb 4096 (held octets b)) ≡ false
        → ltb octets (table_octets i + record_octets) ≡ leb (held octets b) i
    go true e g = go₂ (leb ((octets - counter_octets) / record_octets) i) refl
      where
        whole : (octets - counter_octets) % record_octets ≡ 0
        whole = eqb-true _ _ e

        some : 0 < (octets - counter_octets) / record_octets
        some = go₃ ((octets - counter_octets) / record_octets) g
          where
            go₃ : (k : ℕ) → (eqb k 0 || ltb 4096 k) ≡ false → 0 < k
            go₃ zero g = absurd (subst T g tt)
            go₃ (suc k) g = omega arith

        go₂ : (a : Bool) → leb ((octets - counter_octets) / record_octets) i ≡ a → ltb octets (table_octets i + record_octets) ≡ a
        go₂ true l = let h : (octets - counter_octets) / record_octets ≤ i = leb-true _ _ l in lt-ltb octets (table_octets i + record_octets) (omega (arith, some, whole))
        go₂ false l = let h : i < (octets - counter_octets) / record_octets = leb-false _ _ l in le-ltb octets (table_octets i + record_octets) (omega (arith, some, whole))
    go false e g = absurd (subst T g tt)

-- so many octets hold so many records
pub records_back : (circuits : ℕ) → records_in (table_octets circuits) ≡ circuits
unfolding records_in
records_back circuits =
    let rest : table_octets circuits - counter_octets ≡ record_octets * circuits = omega arith in
    let whole : record_octets * circuits % record_octets ≡ 0 = omega arith in
    let back : record_octets * circuits / record_octets ≡ circuits = omega arith in
    rw (rest, whole, back)

-- lengths stay
pub put_length : (table : List ℕ) (i : ℕ) (r : Record) → length (put table i r) ≡ length table
unfolding put_octets
put_length table i r = simp length-set

pub ranked_length : (table : List ℕ) (i n : ℕ) → length (ranked table i n) ≡ length table
unfolding put_counter put_rank
ranked_length table i n = words.put_length 8 (put_word table 0 n) (table_octets i + 2) n ∙ words.put_length 8 table 0 n

-- what is put is read back
module _ (table : List ℕ) (i : ℕ) (r : Record) (h : i < records_in (length table)) where
  pub put_state : state_at (put table i r) i ≡ r.state
  unfolding state_at put_octets
  put_state =
      let there : table_octets i + record_octets ≤ length table = inside (length table) i h in
      rw (get_or-set_other (set table (table_octets i) r.state) (table_octets i + 1) (table_octets i) (flags_of r) 0 (λ e. omega arith), get_or-set_same table (table_octets i) r.state 0 (omega arith))

  pub put_flags : flags_at (put table i r) i ≡ flags_of r
  unfolding flags_at put_octets
  put_flags =
      let there : table_octets i + record_octets ≤ length table = inside (length table) i h in
      get_or-set_same (set table (table_octets i) r.state) (table_octets i + 1) (flags_of r) 0 (lt-length-set table (table_octets i) r.state (omega arith))

  pub put_held : held_at (put table i r) i ≡ holding r.state (flags_of r)
  put_held = λ k. holding (put_state k) (put_flags k)

  pub put_record : record_at (put table i r) i ≡ r
  put_record = rw (put_state, put_flags, record_back)

-- putting a record leaves every octet but the circuit's first two
put_other : (table : List ℕ) (i : ℕ) (r : Record) (k : ℕ) → (k ≡ table_octets i → ⊥) → (k ≡ table_octets i + 1 → ⊥) → get_or (put table i r) k 0 ≡ get_or table k 0
unfolding put_octets
put_other table i r k first second =
    get_or-set_other (set table (table_octets i) r.state) (table_octets i + 1) k (flags_of r) 0 second
    ∙ get_or-set_other table (table_octets i) k r.state 0 first

-- and ranking every octet but the counter's and the rank's
ranked_other : (table : List ℕ) (i n k : ℕ) → 8 ≤ k → (table_octets i + 2 ≤ k → k < table_octets i + 10 → ⊥) → get_or (ranked table i n) k 0 ≡ get_or table k 0
unfolding put_counter put_rank
ranked_other table i n k low apart =
    words.other 8 (put_word table 0 n) (table_octets i + 2) n k (λ p q. apart (omega arith) (omega arith))
    ∙ words.other 8 table 0 n k (λ p q. omega arith)

-- putting a record changes no counter and no rank
pub put_keeps_counter : (table : List ℕ) (i : ℕ) (r : Record) → counter_in (put table i r) ≡ counter_in table
unfolding counter_in
put_keeps_counter table i r = words.same 8 table (put table i r) 0 (λ k p q. put_other table i r k (λ e. omega arith) (λ e. omega arith))

pub put_keeps_rank : (table : List ℕ) (i j : ℕ) (r : Record) → rank_at (put table i r) j ≡ rank_at table j
unfolding rank_at
put_keeps_rank table i j r = words.same 8 table (put table i r) (table_octets j + 2) (λ k p q. put_other table i r k (λ e. omega arith) (λ e. omega arith))

-- ranking changes no state and no flags
module _ (table : List ℕ) (i j n : ℕ) where
  pub ranked_state : state_at (ranked table i n) j ≡ state_at table j
  unfolding state_at
  ranked_state = ranked_other table i n (table_octets j) (omega arith) (λ p q. omega arith)

  pub ranked_flags : flags_at (ranked table i n) j ≡ flags_at table j
  unfolding flags_at
  ranked_flags = ranked_other table i n (table_octets j + 1) (omega arith) (λ p q. omega arith)

  pub ranked_held : held_at (ranked table i n) j ≡ held_at table j
  ranked_held = λ k. holding (ranked_state k) (ranked_flags k)

  pub ranked_record : record_at (ranked table i n) j ≡ record_at table j
  ranked_record = rw (ranked_state, ranked_flags)

-- the counter and the rank are as set
module _ (table : List ℕ) (i n : ℕ) (h : i < records_in (length table)) (fits : n ≤ largest) where
  pub ranked_counter : counter_in (ranked table i n) ≡ n
  unfolding counter_in put_counter put_rank
  ranked_counter =
      let there : table_octets i + record_octets ≤ length table = inside (length table) i h in
      words.same 8 (put_word table 0 n) (put_word (put_word table 0 n) (table_octets i + 2) n) 0 (λ k p q. words.other 8 (put_word table 0 n) (table_octets i + 2) n k (λ from to. omega arith))
      ∙ words.back 8 table 0 n (omega arith) (omega arith)

  pub ranked_rank : rank_at (ranked table i n) i ≡ n
  unfolding rank_at put_counter put_rank
  ranked_rank =
      let there : table_octets i + record_octets ≤ length table = inside (length table) i h in
      words.back 8 (put_word table 0 n) (table_octets i + 2) n (rw (words.put_length 8 table 0 n) (omega arith)) (omega arith)

-- every other record keeps its octets
module _ (table : List ℕ) (i j : ℕ) (other : j ≡ i → ⊥) (k : ℕ) (h : k < record_octets) where
  other_octets : (r : Record) → get_or (put table i r) (table_octets j + k) 0 ≡ get_or table (table_octets j + k) 0
  other_octets r = put_other table i r (table_octets j + k) (λ e. other (omega arith)) (λ e. other (omega arith))

module _ (table : List ℕ) (i j : ℕ) (r : Record) (other : j ≡ i → ⊥) where
  pub other_state : state_at (put table i r) j ≡ state_at table j
  unfolding state_at
  other_state = simp unary_clauses at (other_octets table i j other 0 (omega arith) r)

  pub other_flags : flags_at (put table i r) j ≡ flags_at table j
  unfolding flags_at
  other_flags = other_octets table i j other 1 (omega arith) r

  pub other_held : held_at (put table i r) j ≡ held_at table j
  other_held = λ k. holding (other_state k) (other_flags k)

  pub other_record : record_at (put table i r) j ≡ record_at table j
  other_record = rw (other_state, other_flags)

pub other_rank : (table : List ℕ) (i j n : ℕ) → (j ≡ i → ⊥) → rank_at (ranked table i n) j ≡ rank_at table j
unfolding rank_at
other_rank table i j n other = words.same 8 table (ranked table i n) (table_octets j + 2) (λ k p q. ranked_other table i n k (omega arith) (λ from to. other (omega arith)))

pub idle_state : (octets i : ℕ) → state_at (idle octets) i ≡ 0
unfolding state_at
idle_state octets i = words.zeros octets (table_octets i)

pub idle_flags : (octets i : ℕ) → flags_at (idle octets) i ≡ 0
unfolding flags_at
idle_flags octets i = words.zeros octets (table_octets i + 1)

pub idle_rank : (octets i : ℕ) → rank_at (idle octets) i ≡ 0
unfolding rank_at
idle_rank octets i = words.of_zeros 8 octets (table_octets i + 2)

pub idle_counter : (octets : ℕ) → counter_in (idle octets) ≡ 0
unfolding counter_in
idle_counter octets = words.of_zeros 8 octets 0
