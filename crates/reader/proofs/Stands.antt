-- Where a refusal names an octet, those before it could stand in a message that is read, or in one that is only short: for each such refusal here is one.
-- Assumes nothing.
use mathlib.Core.Path.{◌≡◌, refl, sym, ap, ap₂, ◌∙◌, subst}
use mathlib.Core.Bool.{Bool, true, false, cond, not, ◌&&◌, ◌||◌, and-false}
use mathlib.Core.List.{List, [], ◌∷◌, ◌++◌}
use mathlib.Core.Logic.{◌⊎◌, ⊎_elim, inl, inr}
use Prim.Native.Nat.{ℕ, zero, suc, ◌+◌, ◌*◌, ◌-◌, ◌/◌, ◌%◌, ◌<◌, ◌≤◌}
use native.Mathlib.Omega.{arith}
use borrow.Author.Tests.{lt-ltb, ltb-true, ltb-false, eq-eqb, ne_eqb, eqb-true, eqb-false, lt-leb, not-false}
use lib.Dec.{T, eqb, ltb}
use lib.ListN.{length, get_or, take, replicate, length-append, length-replicate, get_or-append}
use lib.Seq.{length-take-le, take_at, get_or-take, get_or-append-add, take-suc}
use Rattle.circuit.proofs.Every.{both_hold}
use Rattle.circuit.specs.Groups.{bad_group}
use Rattle.circuit.proofs.Groups.{in_range, turned}
use Rattle.circuit.proofs.Refusals.{none_given}
use Rattle.reader.specs.Told.{Told, refused}
use Rattle.words.specs.Octets.{number_of}
use Rattle.formats.specs.Format.{INDICATORS, COUNT, octets_for, field_octet, signal_octet}
use Rattle.formats.specs.Messages.{format_of, half, has_signals}
use Rattle.formats.specs.Octets.{bad_code, bad_codes, first_bad, short}
use Rattle.formats.proofs.ByHeading.{iam_octets, signal_octets, count_octet}
use Rattle.formats.proofs.Places.{dpc_there, opc_there, heading_there}
use Rattle.formats.proofs.Few.{exempt, by_eleven, long_enough, none_is_st, same_first}
use Rattle.formats.proofs.Signals.{none_fits, none_before, some_before}
use Rattle.reader.specs.Places.{dpc_in, cic_in, heading_in, field_by, signals_by}
use Rattle.reader.specs.Reading.{elsewhere, unfit, stray_octet, read_faults, read_rules, fields_in, fields_of}
use Rattle.reader.specs.Stands.{CouldStand, short_anyway}
use Rattle.reader.specs.Way.{body_of}
use Rattle.reader.proofs.Bodies.{ours_read, taken, iam_few, iam_taken}
use Rattle.reader.proofs.Faults.{cases, read_refusal}
use Rattle.reader.proofs.ByLetter.{word_in, signal_in, all_circuits, address, counted, indicated, long, its, iam_in}

-- MESSAGES THAT ARE READ

module _ (ys : List ℕ) (octets : (i : ℕ) → get_or ys i 0 < 256) (own far : ℕ) (good : bad_group own far 4096 ≡ false) (ours : elsewhere own far ys ≡ false) where
  -- a message that has no fields of its own is read
  plain_read : length ys ≡ 6 → get_or ys 5 0 ≡ 0x46 → (fields_of own far 4096 ys).refusal ≡ 0
  plain_read n h =
      ap (λ (f : Told). f.refusal)
      (ours_read own far 4096 ys good (omega arith) ours octets ∙ ap (λ (k : ℕ). body_of 4096 k ys) h ∙ taken 4096 0x46 ys refl refl n (all_circuits ys octets))

  -- and an IAM with a count of signals that are in order, and no octets more or fewer than they take, unless its number is short
  iam_answer : get_or ys 5 0 ≡ 0x11 → (word_in ys / 4096 ≡ 0 → ⊥) → length ys ≡ 9 + half (word_in ys / 4096)
      → ((j : ℕ) → j < word_in ys / 4096 → bad_code (signal_in ys j) (ltb (suc j) (word_in ys / 4096)) ≡ false)
      → (few : Bool) → short (word_in ys % 2048) (address ys octets) ≡ few → (fields_of own far 4096 ys).refusal ≡ cond few 17 0
  iam_answer h some n fine few e =
      ap (λ (f : Told). f.refusal) (ours_read own far 4096 ys good (omega arith) ours octets ∙ ap (λ (k : ℕ). body_of 4096 k ys) h)
      ∙ go few (ap (λ (k : ℕ). short k (address ys octets)) (indicated ys octets) ∙ e)
    where
      nine : 9 ≤ length ys
      nine = omega arith

      counts : field_by (format_of 0x11) COUNT ys ≡ 0 → ⊥
      counts z = some (sym (counted ys octets) ∙ z)

      whole : length ys ≡ octets_for (format_of 0x11) (field_by (format_of 0x11) COUNT ys)
      whole = n ∙ sym (iam_octets (word_in ys / 4096)) ∙ ap (octets_for (format_of 0x11)) (sym (counted ys octets))

      in_order : bad_codes (address ys octets) ≡ false
      in_order = none_fits bad_code (address ys octets) (λ j l.
          let k : j < word_in ys / 4096 = subst (λ (m : ℕ). j < m) (long ys octets) l in
          ap₂ bad_code (its ys octets j k) (ap (ltb (suc j)) (long ys octets)) ∙ fine j k)

      go : (few : Bool) → short (field_by (format_of 0x11) INDICATORS ys) (address ys octets) ≡ few → (body_of 4096 0x11 ys).refusal ≡ cond few 17 0
      go true e = ap (λ (f : Told). f.refusal) (iam_few 4096 ys nine counts whole in_order e)
      go false e = ap (λ (f : Told). f.refusal) (iam_taken 4096 ys nine counts whole in_order e (all_circuits ys octets))

  -- one that begins with an operator's code is not short
  operator : (word_in ys / 4096 ≡ 0 → ⊥) → get_or ys 9 0 % 16 ≡ 11 → short (word_in ys % 2048) (address ys octets) ≡ false
  operator some e = exempt (word_in ys % 2048) (address ys octets) (sym (by_eleven (address ys octets) (λ z. some (sym (long ys octets) ∙ z)) (its ys octets 0 (omega arith) ∙ e)))

-- OTHER OCTETS BEHIND THE FIRST

module _ (xs : List ℕ) (octets : (i : ℕ) → get_or xs i 0 < 256) (p : ℕ) (enough : p ≤ length xs) (tail : List ℕ) (fits : (i : ℕ) → get_or tail i 0 < 256) where
  abbrev ys : List ℕ
  ys = take p xs ++ tail

  front : length (take p xs) ≡ p
  front = length-take-le p xs enough

  before : (i : ℕ) → i < p → get_or ys i 0 ≡ get_or xs i 0
  before i l = get_or-append (take p xs) tail 0 i (subst (λ (k : ℕ). i < k) (sym front) l) ∙ get_or-take p xs i 0 l

  behind : (i : ℕ) → get_or ys (p + i) 0 ≡ get_or tail i 0
  behind i = ap (λ (k : ℕ). get_or ys (k + i) 0) (sym front) ∙ get_or-append-add (take p xs) tail i 0

  total : length ys ≡ p + length tail
  total = length-append (take p xs) tail ∙ ap (λ (k : ℕ). k + length tail) front

  begins : take p ys ≡ take p xs
  begins = take_at (take p xs) tail p front

  octets_too : (i : ℕ) → get_or ys i 0 < 256
  octets_too i = go (ltb i p) refl
    where
      go : (b : Bool) → ltb i p ≡ b → get_or ys i 0 < 256
      go true e = subst (λ (k : ℕ). k < 256) (sym (before i (ltb-true i p e))) (octets i)
      go false e =
          let h : p ≤ i = ltb-false i p e in
          let m : p + (i - p) ≡ i = omega arith in
          subst (λ (k : ℕ). k < 256) (sym (behind (i - p)) ∙ ap (λ (k : ℕ). get_or ys k 0) m) (fits (i - p))

  module _ (five : 5 ≤ p) (own far : ℕ) where
    labelled : number_of (get_or ys 0 0 ∷ get_or ys 1 0 ∷ get_or ys 2 0 ∷ get_or ys 3 0 ∷ get_or ys 4 0 ∷ []) ≡ number_of (get_or xs 0 0 ∷ get_or xs 1 0 ∷ get_or xs 2 0 ∷ get_or xs 3 0 ∷ get_or xs 4 0 ∷ [])
    labelled = rw (before 0 (omega arith), before 1 (omega arith), before 2 (omega arith), before 3 (omega arith), before 4 (omega arith))

    same_label : elsewhere own far ys ≡ elsewhere own far xs
    same_label =
        ap₂ (λ (d o : ℕ). not (eqb d own) || not (eqb o far))
        (dpc_there ys octets_too ∙ ap (λ (l : ℕ). l % 0x4000) labelled ∙ sym (dpc_there xs octets))
        (opc_there ys octets_too ∙ ap (λ (l : ℕ). l / 0x4000 % 0x4000) labelled ∙ sym (opc_there xs octets))

-- FOR EACH REFUSAL THAT NAMES AN OCTET, SUCH A MESSAGE

clf_fits : (i : ℕ) → get_or (0x46 ∷ []) i 0 < 256
clf_fits zero = omega arith
clf_fits (suc i) = omega arith

-- a count of one, and the signal 11
one_fits : (i : ℕ) → get_or (16 ∷ 11 ∷ []) i 0 < 256
one_fits zero = omega arith
one_fits (suc zero) = omega arith
one_fits (suc (suc i)) = omega arith

-- the octet 11, which says the signals 11 and 0, and zeros
zeros : (n i : ℕ) → get_or {A = ℕ} (replicate n 0) i 0 ≡ 0
zeros zero i = refl
zeros (suc n) zero = refl
zeros (suc n) (suc i) = zeros n i

filling : (n i : ℕ) → (get_or {A = ℕ} (11 ∷ replicate n 0) i 0 ≡ 11) ⊎ (get_or {A = ℕ} (11 ∷ replicate n 0) i 0 ≡ 0)
filling n zero = inl refl
filling n (suc i) = inr (zeros n i)

-- a CLF on circuit 0
clf_of : (own far : ℕ) → List ℕ
clf_of own far = (own % 256) ∷ (own / 256 + 64 * (far % 4)) ∷ (far / 4 % 256) ∷ (far / 1024) ∷ 0 ∷ 0x46 ∷ []

module _ (own far : ℕ) (good : bad_group own far 4096 ≡ false) where
  clf_octets : (i : ℕ) → get_or (clf_of own far) i 0 < 256
  unfolding clf_of
  clf_octets zero = omega arith
  clf_octets (suc zero) = let h = in_range own far 4096 good in omega arith
  clf_octets (suc (suc zero)) = omega arith
  clf_octets (suc (suc (suc zero))) = let h = in_range own far 4096 good in omega arith
  clf_octets (suc (suc (suc (suc zero)))) = omega arith
  clf_octets (suc (suc (suc (suc (suc zero))))) = omega arith
  clf_octets (suc (suc (suc (suc (suc (suc i)))))) = omega arith

  clf_ours : elsewhere own far (clf_of own far) ≡ false
  unfolding clf_of
  clf_ours =
      let h = in_range own far 4096 good in
      ap₂ (λ (d o : ℕ). not (eqb d own) || not (eqb o far)) (dpc_there (clf_of own far) clf_octets ∙ omega arith) (opc_there (clf_of own far) clf_octets ∙ omega arith)
      ∙ ap₂ (λ (d o : Bool). not d || not o) (eq-eqb own own refl) (eq-eqb far far refl)

  clf_read : (fields_of own far 4096 (clf_of own far)).refusal ≡ 0
  unfolding clf_of
  clf_read = plain_read (clf_of own far) clf_octets own far good clf_ours refl refl

  module _ (xs : List ℕ) (octets : (i : ℕ) → get_or xs i 0 < 256) where
    at_dpc : CouldStand own far xs 0 0
    at_dpc = record { message = clf_of own far; octets = clf_octets; begins = refl; is_answered = clf_read }

    at_opc : 0 < length xs → dpc_in xs ≡ own → CouldStand own far xs 1 0
    unfolding clf_of
    at_opc h e = record { message = clf_of own far; octets = clf_octets; begins = ap (λ (o : ℕ). o ∷ []) first ∙ sym (take-suc xs 0 0 h); is_answered = clf_read }
      where
        first : own % 256 ≡ get_or xs 0 0
        first = let d = dpc_there xs octets in omega (arith, octets 0, octets 1)

    module _ (ours : elsewhere own far xs ≡ false) where
      at_heading : 6 ≤ length xs → CouldStand own far xs 5 0
      at_heading l = record {
        message = take 5 xs ++ (0x46 ∷ []);
        octets = octets_too xs octets 5 five (0x46 ∷ []) clf_fits;
        begins = begins xs octets 5 five (0x46 ∷ []) clf_fits;
        is_answered = plain_read _ (octets_too xs octets 5 five (0x46 ∷ []) clf_fits) own far good (same_label xs octets 5 five (0x46 ∷ []) clf_fits (omega arith) own far ∙ ours)
            (total xs octets 5 five (0x46 ∷ []) clf_fits) (behind xs octets 5 five (0x46 ∷ []) clf_fits 0);
      }
        where
          five : 5 ≤ length xs
          five = omega arith

      -- an IAM, whose heading is there
      module _ (nine : 9 ≤ length xs) (iam : get_or xs 5 0 ≡ 0x11) where
        at_count : CouldStand own far xs 8 0
        at_count = record {
          message = zs;
          octets = fit;
          begins = begins xs octets 8 eight (16 ∷ 11 ∷ []) one_fits;
          is_answered = iam_answer zs fit own far good label (before xs octets 8 eight (16 ∷ 11 ∷ []) one_fits 5 (omega arith) ∙ iam) (λ z. omega (arith, word))
              (total xs octets 8 eight (16 ∷ 11 ∷ []) one_fits ∙ omega (arith, word)) fine false
              (operator zs fit own far good label (λ z. omega (arith, word)) (ap (λ (o : ℕ). o % 16) the_signal));
        }
          where
            eight : 8 ≤ length xs
            eight = omega arith

            zs : List ℕ
            zs = take 8 xs ++ (16 ∷ 11 ∷ [])

            fit : (i : ℕ) → get_or zs i 0 < 256
            fit = octets_too xs octets 8 eight (16 ∷ 11 ∷ []) one_fits

            label : elsewhere own far zs ≡ false
            label = same_label xs octets 8 eight (16 ∷ 11 ∷ []) one_fits (omega arith) own far ∙ ours

            word : word_in zs / 4096 ≡ 1
            word = let e : get_or zs 8 0 ≡ 16 = behind xs octets 8 eight (16 ∷ 11 ∷ []) one_fits 0 in omega (arith, fit 7)

            the_signal : get_or zs 9 0 ≡ 11
            the_signal = behind xs octets 8 eight (16 ∷ 11 ∷ []) one_fits 1

            fine : (j : ℕ) → j < word_in zs / 4096 → bad_code (signal_in zs j) (ltb (suc j) (word_in zs / 4096)) ≡ false
            fine zero l = ap (λ (o : ℕ). bad_code (o % 16) (ltb 1 (word_in zs / 4096))) the_signal
            fine (suc j) l = absurd (omega (arith, word))

        -- and whose length fits its count
        module _ (some : word_in xs / 4096 ≡ 0 → ⊥) (n : length xs ≡ 9 + half (word_in xs / 4096)) (bad : bad_codes (address xs octets) ≡ true) where
          abbrev i : ℕ
          i = first_bad (address xs octets)

          within : i < word_in xs / 4096
          within = subst (λ (k : ℕ). i < k) (long xs octets) (ltb-true _ _ (sym (some_before bad_code (address xs octets)) ∙ bad))

          inside : 9 + i / 2 < length xs
          inside = omega (arith, within)

          abbrev p : ℕ
          p = 9 + i / 2

          there : p ≤ length xs
          there = let l = inside in omega arith

          abbrev tail : List ℕ
          tail = 11 ∷ replicate (length xs - p - 1) 0

          tail_fits : (j : ℕ) → get_or tail j 0 < 256
          tail_fits j = ⊎_elim (λ e. omega (arith, e)) (λ e. omega (arith, e)) (filling (length xs - p - 1) j)

          abbrev zs : List ℕ
          zs = take p xs ++ tail

          fit : (j : ℕ) → get_or zs j 0 < 256
          fit = octets_too xs octets p there tail tail_fits

          label : elsewhere own far zs ≡ false
          label = same_label xs octets p there tail tail_fits (omega arith) own far ∙ ours

          same : (j : ℕ) → j < p → get_or zs j 0 ≡ get_or xs j 0
          same = before xs octets p there tail tail_fits

          whole : word_in zs ≡ word_in xs
          whole = ap₂ (λ (a b : ℕ). number_of (a ∷ b ∷ [])) (same 7 (omega arith)) (same 8 (omega arith))

          word : word_in zs / 4096 ≡ word_in xs / 4096
          word = ap (λ (w : ℕ). w / 4096) whole

          -- a signal before that octet stands in the message that was refused, before the first bad one; a later one is 0 or 11
          abbrev Kept : ℕ → Type 0
          Kept j = (j / 2 < i / 2) × (signal_in zs j ≡ get_or (address xs octets) j 0)

          abbrev Filled : ℕ → Type 0
          Filled j = (signal_in zs j ≡ 0) ⊎ (signal_in zs j ≡ 11)

          standing : (j : ℕ) → j < word_in xs / 4096 → Kept j ⊎ Filled j
          standing j m = go (ltb (j / 2) (i / 2)) refl
            where
              halved : (b : Bool) (o : ℕ) → (o ≡ 11) ⊎ (o ≡ 0) → (cond b (o % 16) (o / 16) ≡ 0) ⊎ (cond b (o % 16) (o / 16) ≡ 11)
              halved true o e = ⊎_elim (λ e. inr (ap (λ (o : ℕ). o % 16) e)) (λ e. inl (ap (λ (o : ℕ). o % 16) e)) e
              halved false o e = inl (⊎_elim (λ e. ap (λ (o : ℕ). o / 16) e) (λ e. ap (λ (o : ℕ). o / 16) e) e)

              go : (b : Bool) → ltb (j / 2) (i / 2) ≡ b → Kept j ⊎ Filled j
              go true e =
                  let h : j / 2 < i / 2 = ltb-true _ _ e in
                  inl (h, ap (λ (o : ℕ). cond (eqb (j % 2) 0) (o % 16) (o / 16)) (same (9 + j / 2) (omega arith)) ∙ sym (its xs octets j m))
              go false e =
                  let h : i / 2 ≤ j / 2 = ltb-false _ _ e in
                  let at : p + (j / 2 - i / 2) ≡ 9 + j / 2 = omega arith in
                  let o : get_or tail (j / 2 - i / 2) 0 ≡ get_or zs (9 + j / 2) 0 = sym (behind xs octets p there tail tail_fits (j / 2 - i / 2)) ∙ ap (λ (k : ℕ). get_or zs k 0) at in
                  inr (halved (eqb (j % 2) 0) (get_or zs (9 + j / 2) 0) (subst (λ (o : ℕ). (o ≡ 11) ⊎ (o ≡ 0)) o (filling (length xs - p - 1) (j / 2 - i / 2))))

          fine : (j : ℕ) → j < word_in zs / 4096 → bad_code (signal_in zs j) (ltb (suc j) (word_in zs / 4096)) ≡ false
          fine j l = ⊎_elim kept (⊎_elim (filled 0 refl) (filled 11 refl)) (standing j (subst (λ (k : ℕ). j < k) word l))
            where
              kept : Kept j → bad_code (signal_in zs j) (ltb (suc j) (word_in zs / 4096)) ≡ false
              kept k = let h = k.0 in ap₂ (λ (c n : ℕ). bad_code c (ltb (suc j) n)) k.1 (word ∙ sym (long xs octets)) ∙ none_before bad_code (address xs octets) j (omega arith)

              filled : (c : ℕ) → bad_code c (ltb (suc j) (word_in zs / 4096)) ≡ false → signal_in zs j ≡ c → bad_code (signal_in zs j) (ltb (suc j) (word_in zs / 4096)) ≡ false
              filled c f e = ap (λ (c : ℕ). bad_code c (ltb (suc j) (word_in zs / 4096))) e ∙ f

          -- so none is ST, and all are counted
          no_st : (j : ℕ) → j < length (address zs fit) → get_or (address zs fit) j 0 ≡ 15 → ⊥
          no_st j l st = ⊎_elim kept (⊎_elim (λ e. omega (arith, is)) (λ e. omega (arith, is))) (standing j m)
            where
              k : j < word_in zs / 4096
              k = subst (λ (n : ℕ). j < n) (long zs fit) l

              m : j < word_in xs / 4096
              m = subst (λ (n : ℕ). j < n) word k

              is : signal_in zs j ≡ 15
              is = sym (its zs fit j k) ∙ st

              kept : Kept j → ⊥
              kept both =
                  let h = both.0 in
                  let l = within in
                  let q : length (address xs octets) ≡ word_in xs / 4096 = long xs octets in
                  subst T (sym (lt-ltb (suc j) (length (address xs octets)) (omega arith))
                  ∙ sym (ap (λ (c : ℕ). bad_code c (ltb (suc j) (length (address xs octets)))) (sym both.1 ∙ is)) ∙ none_before bad_code (address xs octets) j (omega arith)) tt

          few : short (word_in zs % 2048) (address zs fit) ≡ short_anyway p xs
          few = by_place (eqb (i / 2) 0) refl
            where
              -- what the last two tests of the exception are, by the letter
              others : Bool
              others = eqb (field_by (format_of 0x11) COUNT xs) 3 && short (field_by (format_of 0x11) INDICATORS xs) (address xs octets)

              short_of : Bool
              short_of = short (word_in zs % 2048) (address zs fit)

              by_number : (i / 2 ≡ 0 → ⊥) → (b : Bool) → ltb (word_in xs / 4096) 4 ≡ b → short_of ≡ short_anyway p xs
              by_number further false e =
                  let h : 4 ≤ word_in xs / 4096 = ltb-false _ _ e in
                  let q : field_by (format_of 0x11) COUNT xs ≡ word_in xs / 4096 = counted xs octets in
                  long_enough (word_in zs % 2048) (address zs fit) (omega (arith, none_is_st (address zs fit) no_st, long zs fit, word))
                  ∙ sym (ap (λ (b : Bool). eqb p 10 && (b && short (field_by (format_of 0x11) INDICATORS xs) (address xs octets))) (ne_eqb (field_by (format_of 0x11) COUNT xs) 3 (λ z. omega (arith, sym q ∙ z)))
                  ∙ and-false (eqb p 10))
              by_number further true e =
                  let h : word_in xs / 4096 < 4 = ltb-true _ _ e in
                  let l = within in
                  let q : field_by (format_of 0x11) COUNT xs ≡ word_in xs / 4096 = counted xs octets in
                  let first : get_or (address zs fit) 0 0 ≡ get_or (address xs octets) 0 0 = its zs fit 0 (omega (arith, word)) ∙ ap (λ (o : ℕ). o % 16) (same 9 (omega arith)) ∙ sym (its xs octets 0 (omega arith)) in
                  same_first (word_in zs % 2048) (address xs octets) (address zs fit) (omega (arith, long xs octets)) (long zs fit ∙ word ∙ sym (long xs octets)) first
                  ∙ ap (λ (w : ℕ). short w (address xs octets)) (ap (λ (w : ℕ). w % 2048) whole ∙ sym (indicated xs octets))
                  ∙ sym (ap₂ (λ (a b : Bool). a && (b && short (field_by (format_of 0x11) INDICATORS xs) (address xs octets))) (eq-eqb p 10 (omega arith)) (eq-eqb (field_by (format_of 0x11) COUNT xs) 3 (q ∙ omega arith)))

              by_place : (b : Bool) → eqb (i / 2) 0 ≡ b → short_of ≡ short_anyway p xs
              by_place true e =
                  let z : i / 2 ≡ 0 = eqb-true _ _ e in
                  let at : p + 0 ≡ 9 = omega arith in
                  operator zs fit own far good label (λ z. some (sym word ∙ z)) (ap (λ (k : ℕ). get_or zs k 0 % 16) (sym at) ∙ ap (λ (o : ℕ). o % 16) (behind xs octets p there tail tail_fits 0))
                  ∙ sym (ap (λ (b : Bool). b && others) (ne_eqb p 10 (λ e. omega (arith, z))))
              by_place false e = by_number (eqb-false _ _ e) (ltb (word_in xs / 4096) 4) refl

          at_signal : CouldStand own far xs (9 + i / 2) (cond (short_anyway (9 + i / 2) xs) 17 0)
          at_signal = record {
            message = zs;
            octets = fit;
            begins = begins xs octets p there tail tail_fits;
            is_answered = iam_answer zs fit own far good label (same 5 (omega arith) ∙ iam) (λ z. some (sym word ∙ z))
                (total xs octets p there tail tail_fits ∙ omega (arith, length-replicate {A = ℕ} (length xs - p - 1) 0, word, inside)) fine (short_anyway p xs) few;
          }

-- ALL REFUSALS

-- a test that is made of some messages, and does not hold: of one of them
of_these : {a b : Bool} → a ≡ true → (a && b) ≡ false → b ≡ false
of_these {a} {b} e n = subst (λ (t : Bool). (t && b) ≡ false) e n

module _ (own far records : ℕ) (xs : List ℕ) (octets : (i : ℕ) → get_or xs i 0 < 256) (group : bad_group own far records ≡ false) where
  good : bad_group own far 4096 ≡ false
  good = turned far own 4096 4096 (turned own far records 4096 group refl) refl

  abbrev Before : (place : ℕ) → Type 0
  Before p = CouldStand own far xs p (cond (short_anyway p xs) 17 0) × (p < length xs)

  abbrev Stands : Told → Type 0
  Stands f = (f.refusal ≡ 7 → ⊥) → Before f.place

  abbrev h : ℕ
  h = heading_in xs

  module _ (six : ltb (length xs) 6 ≡ false) where
    at_label : Stands (refused 8 (stray_octet own xs))
    at_label n = go (eqb (dpc_in xs) own) refl
      where
        go : (b : Bool) → eqb (dpc_in xs) own ≡ b → Before (cond b 1 0)
        go true e = let l = ltb-false (length xs) 6 six in (at_opc own far good xs octets (omega arith) (eqb-true _ _ e), omega arith)
        go false e = let l = ltb-false (length xs) 6 six in (at_dpc own far good xs octets, omega arith)

    module _ (ours : elsewhere own far xs ≡ false) (fit : unfit h (length xs) ≡ false) where
      module _ (signals : has_signals h ≡ true) where
        nine : 9 ≤ length xs
        nine = ltb-false (length xs) 9 (subst (λ (k : ℕ). unfit k (length xs) ≡ false) (iam_in xs signals) fit)

        its_heading : get_or xs 5 0 ≡ 0x11
        its_heading = sym (heading_there xs octets) ∙ iam_in xs signals

        counting : Before (field_octet (format_of h).fields COUNT)
        counting = subst Before (sym (count_octet h signals)) (at_count own far good xs octets ours nine its_heading, let l = nine in omega arith)

        -- by a heading that is an IAM's
        abbrev Spells : ℕ → Type 0
        Spells k =
            eqb (field_by (format_of k) COUNT xs) 0 ≡ false
            → not (eqb (length xs) (octets_for (format_of k) (field_by (format_of k) COUNT xs))) ≡ false
            → bad_codes (signals_by (format_of k) xs) ≡ true
            → Stands (refused 10 (signal_octet (format_of k) (first_bad (signals_by (format_of k) xs))))

        spelling : Spells h
        spelling = subst Spells (sym (iam_in xs signals)) (λ some n bad u.
            let m : word_in xs / 4096 ≡ 0 → ⊥ = λ z. eqb-false _ _ some (counted xs octets ∙ z) in
            let l : length xs ≡ 9 + half (word_in xs / 4096) = eqb-true _ _ (not-false _ n) ∙ iam_octets (field_by (format_of 0x11) COUNT xs) ∙ ap (λ (v : ℕ). 9 + half v) (counted xs octets) in
            subst Before (sym (signal_octets (first_bad (address xs octets))))
            (at_signal own far good xs octets ours nine its_heading m l bad, inside own far good xs octets ours nine its_heading m l bad))

  -- Where nothing is wrong with the length, the octets before the place could stand in a message that is read, or only in one that is short, and the
  -- place is within the message.
  pub stands : Stands (fields_of own far records xs)
  unfolding fields_of
  stands = cases Stands (read_faults own far records xs) (fields_in h xs) (
    (λ e. absurd (subst T (sym e ∙ group) tt)),
    (λ g. (
      (λ e n. absurd (n refl)),
      (λ six. (
        (λ e. at_label six),
        (λ ours. (
          (λ e n. let l = ltb-false (length xs) 6 six in (at_heading own far good xs octets ours (omega arith), omega arith)),
          (λ known. (
            (λ e n. absurd (n refl)),
            (λ fit. (
              (λ e n. counting six ours fit (both_hold (has_signals h) e).0),
              (λ some. (
                (λ e n. absurd (n refl)),
                (λ len. (
                  (λ e. let s = both_hold (has_signals h) e in spelling six ours fit s.0 (of_these s.0 some) (of_these s.0 len) s.1),
                  (λ codes. (
                    (λ e n. counting six ours fit (both_hold (has_signals h) e).0),
                    (λ enough. (
                      (λ e n. let l = ltb-false (length xs) 6 six in (record { message = xs; octets = octets; begins = refl; is_answered = read_refusal own far 4096 xs ∙ none_given (read_rules own far 4096 xs) (good, (six, (ours, (known, (fit, (some, (len, (codes, (enough, (lt-leb 4096 (cic_in xs) (all_circuits xs octets), tt)))))))))) }, omega arith)),
                      (λ e n. let l = ltb-false (length xs) 6 six in (at_dpc own far good xs octets, omega arith)),
                    )),
                  )),
                )),
              )),
            )),
          )),
        )),
      )),
    )),
  )
