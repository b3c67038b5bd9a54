-- The laws of formats, over any format: what is put is got back; what was got and is put again has spare bits and filler cleared and nothing else;
-- different contents give different octets; lengths fit.
-- Assumes nothing.
use mathlib.Core.Path.{◌≡◌, refl, sym, ap, ap₂, ◌∙◌, subst, fun_ext}
use mathlib.Core.Bool.{Bool, true, false, cond, not, ◌||◌}
use mathlib.Core.List.{List, [], ◌∷◌, ◌++◌, append_assoc}
use Prim.Native.Nat.{ℕ, zero, suc, ◌+◌, ◌*◌, ◌-◌, ◌/◌, ◌%◌, ◌^◌, ◌<◌, ◌≤◌}
use native.Mathlib.Nat.{lt_of_lt_of_le, zero-div, pow-suc, pow-succ', mul_assoc, mul-zero, mul-suc, zero-add, add_assoc, mod-lt, div-div-eq-div-mul, mul-div_cancel_left, add-mul-div_left, add-mul-mod_self_left, mod-eq_of_lt, div-eq_of_lt, mul-le-mul_left}
use native.Mathlib.Omega.{arith}
use borrow.Author.Tests.{eqb-true, eq-eqb}
use lib.Dec.{T, lit<}
use lib.Arith.{mod-mul}
use lib.Pow.{pow_pos, pow_mono, pow-add}
use lib.ListN.{length, get_or, replicate, replicate-append-replicate}
use Rattle.circuit.proofs.Every.{left, right}
use Rattle.words.specs.Octets.{low_first, number_of}
use Rattle.words.proofs.Octets.{number_back, length-low_first}
use Rattle.formats.specs.Format.{Name, DPC, OPC, CIC, HEADING, ACM, CATEGORY, INDICATORS, COUNT, Field, field, spare, Format, Content, each, many, bits, octets_for, put, put_each, number_from, octets_from, index, same, get, above, get_each, content_of, content_in, most, Fits, has, once, saying, only, cleared_by}

-- LENGTHS

pub length_fits : (f : Format) (c : Content) → length (octets_from f c) ≡ octets_for f (length c.signals)
length_fits f c = length-low_first (octets_for f (length c.signals)) (number_from f c)

-- NAMES

-- a name by its index
named : ℕ → Name
named zero = DPC
named (suc zero) = OPC
named (suc (suc zero)) = CIC
named (suc (suc (suc zero))) = HEADING
named (suc (suc (suc (suc zero)))) = ACM
named (suc (suc (suc (suc (suc zero))))) = CATEGORY
named (suc (suc (suc (suc (suc (suc zero)))))) = INDICATORS
named (suc (suc (suc (suc (suc (suc (suc k))))))) = COUNT

named_back : (n : Name) → named (index n) ≡ n
unfolding named
named_back DPC = refl
named_back OPC = refl
named_back CIC = refl
named_back HEADING = refl
named_back ACM = refl
named_back CATEGORY = refl
named_back INDICATORS = refl
named_back COUNT = refl

is_same : (m n : Name) → same m n ≡ true → m ≡ n
is_same m n e = sym (named_back m) ∙ ap named (eqb-true (index m) (index n) e) ∙ named_back n

-- ONE FIELD ABOVE ANOTHER

low : (w a b : ℕ) → a < 2 ^ w → (a + 2 ^ w * b) % 2 ^ w ≡ a
low w a b h = add-mul-mod_self_left a (2 ^ w) b ∙ mod-eq_of_lt h

high : (w a b : ℕ) → a < 2 ^ w → (a + 2 ^ w * b) / 2 ^ w ≡ b
high w a b h = add-mul-div_left a b (pow_pos w) ∙ ap (λ (k : ℕ). k + b) (div-eq_of_lt h) ∙ omega arith

high_alone : (w b : ℕ) → 2 ^ w * b / 2 ^ w ≡ b
high_alone w b = mul-div_cancel_left b (pow_pos w)

-- two numbers, one above the other, stay below the bounds of both
below : (w a b bound : ℕ) → a < 2 ^ w → b < bound → a + 2 ^ w * b < 2 ^ w * bound
below w a b bound h l =
    let e : 2 ^ w * suc b ≡ 2 ^ w * b + 2 ^ w = mul-suc (2 ^ w) b in
    let m : 2 ^ w * suc b ≤ 2 ^ w * bound = mul-le-mul_left (2 ^ w) l in
    omega arith

-- WHAT IS PUT IS GOT BACK

-- fields that hold their numbers
abbrev Hold : List Field → (Name → ℕ) → Type 0
Hold [] says = Unit {0}
Hold (field n w ∷ fs) says = (says n < 2 ^ w) × Hold fs says
Hold (spare w ∷ fs) says = Hold fs says

got_back : (fs : List Field) (says : Name → ℕ) (k : ℕ) → Hold fs says → (n : Name) → has fs n ≡ true → get fs (put fs says k) n ≡ says n
got_back [] says k h n e = absurd (subst T (sym e) tt)
got_back (field m w ∷ fs) says k h n e = go (same m n) refl (got_back fs says k h.1 n)
  where
    number : ℕ
    number = says m + 2 ^ w * put fs says k

    go : (b : Bool) → same m n ≡ b → (has fs n ≡ true → get fs (put fs says k) n ≡ says n) → cond (same m n) (number % 2 ^ w) (get fs (number / 2 ^ w) n) ≡ says n
    go true p more = ap (λ (b : Bool). cond b (number % 2 ^ w) (get fs (number / 2 ^ w) n)) p ∙ low w (says m) (put fs says k) h.0 ∙ ap says (is_same m n p)
    go false p more =
        ap (λ (b : Bool). cond b (number % 2 ^ w) (get fs (number / 2 ^ w) n)) p ∙ ap (λ (j : ℕ). get fs j n) (high w (says m) (put fs says k) h.0)
        ∙ more (sym (ap (λ (b : Bool). b || has fs n) p) ∙ e)
got_back (spare w ∷ fs) says k h n e = ap (λ (j : ℕ). get fs j n) (high_alone w (put fs says k)) ∙ got_back fs says k h n e

above_back : (fs : List Field) (says : Name → ℕ) (k : ℕ) → Hold fs says → above fs (put fs says k) ≡ k
above_back [] says k h = refl
above_back (field n w ∷ fs) says k h = ap (above fs) (high w (says n) (put fs says k) h.0) ∙ above_back fs says k h.1
above_back (spare w ∷ fs) says k h = ap (above fs) (high_alone w (put fs says k)) ∙ above_back fs says k h

-- of a field that there is not
got_none : (fs : List Field) (k : ℕ) (n : Name) → has fs n ≡ false → get fs k n ≡ 0
got_none [] k n e = refl
got_none (field m w ∷ fs) k n e = go (same m n) refl (got_none fs (k / 2 ^ w) n)
  where
    go : (b : Bool) → same m n ≡ b → (has fs n ≡ false → get fs (k / 2 ^ w) n ≡ 0) → cond (same m n) (k % 2 ^ w) (get fs (k / 2 ^ w) n) ≡ 0
    go true p more = absurd (subst T (sym (ap (λ (b : Bool). b || has fs n) p) ∙ e) tt)
    go false p more = ap (λ (b : Bool). cond b (k % 2 ^ w) (get fs (k / 2 ^ w) n)) p ∙ more (sym (ap (λ (b : Bool). b || has fs n) p) ∙ e)
got_none (spare w ∷ fs) k n e = got_none fs (k / 2 ^ w) n e

most_none : (fs : List Field) (n : Name) → has fs n ≡ false → most fs n ≡ 0
most_none [] n e = refl
most_none (field m w ∷ fs) n e = go (same m n) refl (most_none fs n)
  where
    go : (b : Bool) → same m n ≡ b → (has fs n ≡ false → most fs n ≡ 0) → cond (same m n) (2 ^ w - 1) (most fs n) ≡ 0
    go true p more = absurd (subst T (sym (ap (λ (b : Bool). b || has fs n) p) ∙ e) tt)
    go false p more = ap (λ (b : Bool). cond b (2 ^ w - 1) (most fs n)) p ∙ more (sym (ap (λ (b : Bool). b || has fs n) p) ∙ e)
most_none (spare w ∷ fs) n e = most_none fs n e

-- another field of a format in which none stands twice has another name
other : (m n : Name) (fs : List Field) → T (not (has fs m)) → has fs n ≡ true → same m n ≡ false
other m n fs t e = go (same m n) refl
  where
    go : (b : Bool) → same m n ≡ b → same m n ≡ false
    go true p = absurd (subst (λ (b : Bool). T (not b)) (ap (has fs) (is_same m n p) ∙ e) t)
    go false p = p

itself : (n : Name) → same n n ≡ true
itself n = eq-eqb (index n) (index n) refl

-- a field that stands later
stands_later : (m n : Name) (fs : List Field) → has fs n ≡ true → (same m n || has fs n) ≡ true
stands_later m n fs e = go (same m n)
  where
    go : (b : Bool) → (b || has fs n) ≡ true
    go true = refl
    go false = e

holds : (fs : List Field) (says : Name → ℕ) → T (once fs) → ((n : Name) → has fs n ≡ true → says n ≤ most fs n) → Hold fs says
holds [] says t h = tt
holds (field m w ∷ fs) says t h = (first, holds fs says (right (not (has fs m)) _ t) later)
  where
    first : says m < 2 ^ w
    first =
        let l : says m ≤ cond (same m m) (2 ^ w - 1) (most fs m) = h m (ap (λ (b : Bool). b || has fs m) (itself m)) in
        let k : says m ≤ 2 ^ w - 1 = subst (λ (b : Bool). says m ≤ cond b (2 ^ w - 1) (most fs m)) (itself m) l in
        let p : 0 < 2 ^ w = pow_pos w in
        omega arith

    later : (n : Name) → has fs n ≡ true → says n ≤ most fs n
    later n e = subst (λ (b : Bool). says n ≤ cond b (2 ^ w - 1) (most fs n)) (other m n fs (left (not (has fs m)) (once fs) t) e) (h n (stands_later m n fs e))
holds (spare w ∷ fs) says t h = holds fs says t h

-- each signal
each_back : (w : ℕ) (ss : List ℕ) → ((i : ℕ) → i < length ss → get_or ss i 0 < 2 ^ w) → get_each w (length ss) (put_each w ss) ≡ ss
each_back w [] h = refl
each_back w (s ∷ ss) h =
    let l : s < 2 ^ w = h 0 (omega arith) in
    ap (λ (k : ℕ). k ∷ get_each w (length ss) ((s + 2 ^ w * put_each w ss) / 2 ^ w)) (low w s (put_each w ss) l)
    ∙ ap (λ (k : ℕ). s ∷ get_each w (length ss) k) (high w s (put_each w ss) l)
    ∙ ap (λ (r : List ℕ). s ∷ r) (each_back w ss (λ i m. h (suc i) (omega arith)))

-- the number has no more bits than the format
each_below : (w : ℕ) (ss : List ℕ) → ((i : ℕ) → i < length ss → get_or ss i 0 < 2 ^ w) → put_each w ss < 2 ^ (w * length ss)
each_below w [] h = subst (λ (e : ℕ). 0 < 2 ^ e) (sym (mul-zero w)) (lit< tt)
each_below w (s ∷ ss) h =
    let b : put_each w ss < 2 ^ (w * length ss) = each_below w ss (λ i m. h (suc i) (omega arith)) in
    let e : w + w * length ss ≡ w * suc (length ss) = omega (arith, mul-suc w (length ss)) in
    subst (λ (p : ℕ). s + 2 ^ w * put_each w ss < p) (sym (pow-add 2 w (w * length ss)) ∙ ap (λ (j : ℕ). 2 ^ j) e) (below w s (put_each w ss) (2 ^ (w * length ss)) (h 0 (omega arith)) b)

fields_below : (fs : List Field) (says : Name → ℕ) (k e : ℕ) → Hold fs says → k < 2 ^ e → put fs says k < 2 ^ (bits fs + e)
fields_below [] says k e h l = subst (λ (j : ℕ). k < 2 ^ j) (sym (zero-add e)) l
fields_below (field n w ∷ fs) says k e h l =
    subst (λ (p : ℕ). says n + 2 ^ w * put fs says k < p) (sym (pow-add 2 w (bits fs + e)) ∙ ap (λ (j : ℕ). 2 ^ j) (sym (add_assoc w (bits fs) e)))
    (below w (says n) (put fs says k) (2 ^ (bits fs + e)) h.0 (fields_below fs says k e h.1 l))
fields_below (spare w ∷ fs) says k e h l =
    subst (λ (p : ℕ). 2 ^ w * put fs says k < p) (sym (pow-add 2 w (bits fs + e)) ∙ ap (λ (j : ℕ). 2 ^ j) (sym (add_assoc w (bits fs) e)))
    (subst (λ (k : ℕ). k < 2 ^ w * 2 ^ (bits fs + e)) (zero-add (2 ^ w * put fs says k)) (below w 0 (put fs says k) (2 ^ (bits fs + e)) (pow_pos w) (fields_below fs says k e h l)))

octet_power : (k : ℕ) → 2 ^ (8 * k) ≡ 256 ^ k
octet_power zero = refl
octet_power (suc k) =
    let e : 8 * suc k ≡ 8 + 8 * k = omega arith in
    ap (λ (j : ℕ). 2 ^ j) e ∙ pow-add 2 8 (8 * k) ∙ ap (λ (p : ℕ). 256 * p) (octet_power k) ∙ sym (pow-succ' 256 k)

module _ (f : Format) (t : T (once f.fields)) (c : Content) (fits : Fits f c) where
  hold : Hold f.fields c.says
  hold = holds f.fields c.says t (λ n e. fits.fields n)

  number_below : number_from f c < 256 ^ octets_for f (length c.signals)
  number_below =
      let b = fields_below f.fields c.says (put_each (each f.behind) c.signals) (each f.behind * length c.signals) hold (each_below (each f.behind) c.signals fits.signals) in
      subst (λ (p : ℕ). number_from f c < p) (octet_power (octets_for f (length c.signals))) (lt_of_lt_of_le b (pow_mono (omega arith)))

  says_back : (n : Name) → get f.fields (number_from f c) n ≡ c.says n
  says_back n = go (has f.fields n) refl
    where
      go : (b : Bool) → has f.fields n ≡ b → get f.fields (number_from f c) n ≡ c.says n
      go true e = got_back f.fields c.says _ hold n e
      go false e = let z : c.says n ≤ 0 = subst (λ (k : ℕ). c.says n ≤ k) (most_none f.fields n e) (fits.fields n) in got_none f.fields (number_from f c) n e ∙ omega arith

  signals_back : (content_of f (number_from f c)).signals ≡ c.signals
  signals_back =
      ap (λ (s : Name → ℕ). get_each (each f.behind) (many f.behind s) (above f.fields (number_from f c))) (fun_ext says_back)
      ∙ ap (λ (n : ℕ). get_each (each f.behind) n (above f.fields (number_from f c))) fits.counted
      ∙ ap (get_each (each f.behind) (length c.signals)) (above_back f.fields c.says _ hold)
      ∙ each_back (each f.behind) c.signals fits.signals

  pub put_is_got : content_in f (octets_from f c) ≡ c
  put_is_got = ap (content_of f) (number_back (octets_for f (length c.signals)) (number_from f c) number_below) ∙ λ i. record { says = fun_ext says_back i; signals = signals_back i }

-- DIFFERENT CONTENTS GIVE DIFFERENT OCTETS

pub same_content : (f : Format) → T (once f.fields) → (c d : Content) → Fits f c → Fits f d → octets_from f c ≡ octets_from f d → c ≡ d
same_content f t c d g h e = sym (put_is_got f t c g) ∙ ap (content_in f) e ∙ put_is_got f t d h

-- WHAT IS GOT FITS

got_at_most : (fs : List Field) (k : ℕ) (n : Name) → get fs k n ≤ most fs n
got_at_most [] k n = omega arith
got_at_most (field m w ∷ fs) k n = go (same m n) (got_at_most fs (k / 2 ^ w) n)
  where
    go : (b : Bool) → get fs (k / 2 ^ w) n ≤ most fs n → cond b (k % 2 ^ w) (get fs (k / 2 ^ w) n) ≤ cond b (2 ^ w - 1) (most fs n)
    go true more = let h : k % 2 ^ w < 2 ^ w = mod-lt k (pow_pos w) in omega arith
    go false more = more
got_at_most (spare w ∷ fs) k n = got_at_most fs (k / 2 ^ w) n

pub how_many : (w n k : ℕ) → length (get_each w n k) ≡ n
how_many w zero k = refl
how_many w (suc n) k = ap suc (how_many w n (k / 2 ^ w))

each_got : (w n k i : ℕ) → i < length (get_each w n k) → get_or (get_each w n k) i 0 < 2 ^ w
each_got w zero k i h = absurd (omega arith)
each_got w (suc n) k zero h = mod-lt k (pow_pos w)
each_got w (suc n) k (suc i) h = each_got w n (k / 2 ^ w) i (omega arith)

pub got_fits : (f : Format) (k : ℕ) → Fits f (content_of f k)
got_fits f k = record {
  fields = got_at_most f.fields k;
  signals = each_got (each f.behind) (many f.behind (get f.fields k)) (above f.fields k);
  counted = sym (how_many (each f.behind) (many f.behind (get f.fields k)) (above f.fields k));
}

-- WHAT WAS GOT AND IS PUT AGAIN

-- one bit, and so many above it
halved : (w k : ℕ) → k / 2 / 2 ^ w ≡ k / 2 ^ suc w
halved w k = div-div-eq-div-mul k 2 (2 ^ w) ∙ ap (λ (p : ℕ). k / p) (sym (pow-succ' 2 w))

doubled : (w k : ℕ) → 2 ^ suc w * k ≡ 2 * (2 ^ w * k)
doubled w k = ap (λ (p : ℕ). p * k) (pow-succ' 2 w) ∙ mul_assoc 2 (2 ^ w) k

only_true : (w : ℕ) (bs : List Bool) (k : ℕ) → only (replicate w true ++ bs) k ≡ k % 2 ^ w + 2 ^ w * only bs (k / 2 ^ w)
only_true zero bs k =
    let a : k % 1 ≡ 0 = omega arith in
    let b : k / 1 ≡ k = omega arith in
    rw (a, b) (omega arith)
only_true (suc w) bs k =
    let m : k % 2 ^ suc w ≡ (k / 2 % 2 ^ w) * 2 + k % 2 = ap (λ (p : ℕ). k % p) (pow-suc 2 w) ∙ mod-mul k (pow_pos w) (lit< tt) in
    let p = doubled w (only bs (k / 2 ^ suc w)) in
    ap (λ (x : ℕ). k % 2 + 2 * x) (only_true w bs (k / 2) ∙ ap (λ (j : ℕ). k / 2 % 2 ^ w + 2 ^ w * only bs j) (halved w k)) ∙ omega arith

only_false : (w : ℕ) (bs : List Bool) (k : ℕ) → only (replicate w false ++ bs) k ≡ 2 ^ w * only bs (k / 2 ^ w)
only_false zero bs k = let b : k / 1 ≡ k = omega arith in rw b (omega arith)
only_false (suc w) bs k =
    let p = doubled w (only bs (k / 2 ^ suc w)) in
    ap (λ (x : ℕ). 0 + 2 * x) (only_false w bs (k / 2) ∙ ap (λ (j : ℕ). 2 ^ w * only bs j) (halved w k)) ∙ omega arith

each_again : (w n k : ℕ) → put_each w (get_each w n k) ≡ only (replicate (w * n) true) k
each_again w zero k = ap (λ (j : ℕ). only (replicate j true) k) (sym (mul-zero w))
each_again w (suc n) k =
    let e : w + w * n ≡ w * suc n = omega (arith, mul-suc w n) in
    ap (λ (r : ℕ). k % 2 ^ w + 2 ^ w * r) (each_again w n (k / 2 ^ w))
    ∙ sym (only_true w (replicate (w * n) true) k)
    ∙ ap (λ (bs : List Bool). only bs k) (replicate-append-replicate w (w * n) true ∙ ap (λ (j : ℕ). replicate j true) e)

-- the fields, with what is above them
fields_again : (fs : List Field) (says : Name → ℕ) (k rest : ℕ) (bs : List Bool) → T (once fs) → ((n : Name) → has fs n ≡ true → says n ≡ get fs k n)
    → rest ≡ only bs (above fs k) → put fs says rest ≡ only (saying fs ++ bs) k
fields_again [] says k rest bs t h e = e
fields_again (field m w ∷ fs) says k rest bs t h e =
    ap₂ (λ (a b : ℕ). a + 2 ^ w * b) first (fields_again fs says (k / 2 ^ w) rest bs (right (not (has fs m)) _ t) later e)
    ∙ sym (ap (λ (l : List Bool). only l k) (append_assoc (replicate w true) (saying fs) bs) ∙ only_true w (saying fs ++ bs) k)
  where
    first : says m ≡ k % 2 ^ w
    first = h m (ap (λ (b : Bool). b || has fs m) (itself m)) ∙ ap (λ (b : Bool). cond b (k % 2 ^ w) (get fs (k / 2 ^ w) m)) (itself m)

    later : (n : Name) → has fs n ≡ true → says n ≡ get fs (k / 2 ^ w) n
    later n p = h n (stands_later m n fs p) ∙ ap (λ (b : Bool). cond b (k % 2 ^ w) (get fs (k / 2 ^ w) n)) (other m n fs (left (not (has fs m)) (once fs) t) p)
fields_again (spare w ∷ fs) says k rest bs t h e =
    ap (λ (b : ℕ). 2 ^ w * b) (fields_again fs says (k / 2 ^ w) rest bs t h e)
    ∙ sym (ap (λ (l : List Bool). only l k) (append_assoc (replicate w false) (saying fs) bs) ∙ only_false w (saying fs ++ bs) k)

pub got_is_put : (f : Format) → T (once f.fields) → (xs : List ℕ) → length xs ≡ octets_for f (length (content_in f xs).signals) → octets_from f (content_in f xs) ≡ cleared_by f xs
got_is_put f t xs long =
    let k = number_of xs in
    let w = each f.behind in
    let n = many f.behind (get f.fields k) in
    let e : number_from f (content_of f k) ≡ only (saying f.fields ++ replicate (w * length (content_of f k).signals) true) k =
    fields_again f.fields (get f.fields k) k _ _ t (λ m p. refl)
    (each_again w n (above f.fields k) ∙ ap (λ (j : ℕ). only (replicate (w * j) true) (above f.fields k)) (sym (how_many w n (above f.fields k)))) in
    ap₂ low_first (sym long) e

-- bit by bit: what the list keeps is as it was, and all else is 0
pub each_bit : (bs : List Bool) (k i : ℕ) → only bs k / 2 ^ i % 2 ≡ cond (get_or bs i false) (k / 2 ^ i % 2) 0
each_bit [] k i = ap (λ (n : ℕ). n % 2) (zero-div (2 ^ i))
each_bit (b ∷ bs) k zero = go b
  where
    rest : ℕ
    rest = only bs (k / 2)

    go : (b : Bool) → (cond b (k % 2) 0 + 2 * rest) / 1 % 2 ≡ cond b (k / 1 % 2) 0
    go true = let e : (k % 2 + 2 * rest) / 1 ≡ k % 2 + 2 * rest = omega arith in let d : k / 1 ≡ k = omega arith in rw (e, d) (omega arith)
    go false = let e : (0 + 2 * rest) / 1 ≡ 2 * rest = omega arith in rw e (omega arith)
each_bit (b ∷ bs) k (suc i) =
    let q : (cond b (k % 2) 0 + 2 * only bs (k / 2)) / 2 ≡ only bs (k / 2) = go b in
    ap (λ (n : ℕ). n % 2) (sym (halved i (cond b (k % 2) 0 + 2 * only bs (k / 2))) ∙ ap (λ (n : ℕ). n / 2 ^ i) q)
    ∙ each_bit bs (k / 2) i ∙ ap (λ (n : ℕ). cond (get_or bs i false) (n % 2) 0) (halved i k)
  where
    go : (b : Bool) → (cond b (k % 2) 0 + 2 * only bs (k / 2)) / 2 ≡ only bs (k / 2)
    go true = omega arith
    go false = omega arith
