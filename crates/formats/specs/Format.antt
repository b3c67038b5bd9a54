-- What a format is: the fields of a message in their order, each so many bits wide, and what lies behind them. The octets that a content gives by
-- it, the content that octets have by it, and how long they are.
-- A message's octets are one number, the first octet lowest; the fields lie in it one after the other, the first in the lowest bits (Q.723).
-- Assumes nothing.
use Rattle.std.specs.Prelude.{◌≡◌, Bool, true, false, cond, not, ◌&&◌, ◌||◌, List, [], ◌∷◌, ◌++◌, ℕ, zero, suc, ◌+◌, ◌*◌, ◌-◌, ◌/◌, ◌%◌, ◌^◌, ◌<◌, ◌≤◌, eqb, length, get_or, replicate}
use Rattle.words.specs.Octets.{low_first, number_of}

-- A FORMAT

-- the fields that there are
pub data Name : Type 0 where
  DPC OPC CIC HEADING ACM CATEGORY INDICATORS COUNT : Name

abbrev pub index : Name → ℕ
index DPC = 0
index OPC = 1
index CIC = 2
index HEADING = 3
index ACM = 4
index CATEGORY = 5
index INDICATORS = 6
index COUNT = 7

abbrev pub same : Name → Name → Bool
same n m = eqb (index n) (index m)

-- a field with its width in bits, or so many spare bits, which say nothing
pub data Field : Type 0 where
  field : Name → (bits : ℕ) → Field
  spare : (bits : ℕ) → Field

-- what lies behind the fields: nothing, or address signals, as many as the count says, each of four bits
pub data Behind : Type 0 where
  nothing address_signals : Behind

pub record Format : Type 0 where
  pub fields : List Field
  pub behind : Behind

-- what a message says: a number in each field, and the address signals
pub record Content : Type 0 where
  pub says : Name → ℕ
  pub signals : List ℕ

-- how many bits each of those behind has, and how many there are by the fields
abbrev pub each : Behind → ℕ
each nothing = 0
each address_signals = 4

abbrev pub many : Behind → (Name → ℕ) → ℕ
many nothing says = 0
many address_signals says = says COUNT

-- HOW LONG IT IS

abbrev pub bits : List Field → ℕ
bits [] = 0
bits (field n w ∷ fs) = w + bits fs
bits (spare w ∷ fs) = w + bits fs

-- the octets of a message with so many signals behind its fields: as many as its bits need, the rest of the last one being filler
abbrev pub octets_for : Format → (signals : ℕ) → ℕ
octets_for f n = (bits f.fields + each f.behind * n + 7) / 8

-- WHERE IT LIES

-- the bits before a field
abbrev pub bits_before : List Field → Name → ℕ
bits_before [] n = 0
bits_before (field m w ∷ fs) n = cond (same m n) 0 (w + bits_before fs n)
bits_before (spare w ∷ fs) n = w + bits_before fs n

-- the octet in which a field begins, the first one being 0
abbrev pub field_octet : List Field → Name → ℕ
field_octet fs n = bits_before fs n / 8

-- and the octet in which a signal behind the fields begins, the first one being 0
abbrev pub signal_octet : Format → (signal : ℕ) → ℕ
signal_octet f i = (bits f.fields + each f.behind * i) / 8

-- THE OCTETS THAT A CONTENT GIVES

-- the number that fields make, with what is above them; spare bits are 0
abbrev pub put : List Field → (Name → ℕ) → (above : ℕ) → ℕ
put [] says above = above
put (field n w ∷ fs) says above = says n + 2 ^ w * put fs says above
put (spare w ∷ fs) says above = 2 ^ w * put fs says above

-- signals of so many bits each, one above the other
abbrev pub put_each : (width : ℕ) → List ℕ → ℕ
put_each w [] = 0
put_each w (s ∷ ss) = s + 2 ^ w * put_each w ss

abbrev pub number_from : Format → Content → ℕ
number_from f c = put f.fields c.says (put_each (each f.behind) c.signals)

abbrev pub octets_from : Format → Content → List ℕ
octets_from f c = low_first (octets_for f (length c.signals)) (number_from f c)

-- THE CONTENT THAT OCTETS HAVE

-- the field with this name, 0 where there is none; spare bits are not looked at
abbrev pub get : List Field → (number : ℕ) → Name → ℕ
get [] k n = 0
get (field m w ∷ fs) k n = cond (same m n) (k % 2 ^ w) (get fs (k / 2 ^ w) n)
get (spare w ∷ fs) k n = get fs (k / 2 ^ w) n

-- what is above the fields
abbrev pub above : List Field → (number : ℕ) → ℕ
above [] k = k
above (field n w ∷ fs) k = above fs (k / 2 ^ w)
above (spare w ∷ fs) k = above fs (k / 2 ^ w)

abbrev pub get_each : (width how_many : ℕ) → (number : ℕ) → List ℕ
get_each w zero k = []
get_each w (suc n) k = k % 2 ^ w ∷ get_each w n (k / 2 ^ w)

abbrev pub content_of : Format → (number : ℕ) → Content
content_of f k = record {
  says = get f.fields k;
  signals = get_each (each f.behind) (many f.behind (get f.fields k)) (above f.fields k);
}

abbrev pub content_in : Format → List ℕ → Content
content_in f xs = content_of f (number_of xs)

-- WHAT A FORMAT CAN SAY

-- the most that a field may be: 0 where there is none
abbrev pub most : List Field → Name → ℕ
most [] n = 0
most (field m w ∷ fs) n = cond (same m n) (2 ^ w - 1) (most fs n)
most (spare w ∷ fs) n = most fs n

-- each field holds its number, each signal fits its bits, and there are as many signals as the fields say
pub record Fits (f : Format) (c : Content) : Type 0 where
  pub fields : (n : Name) → c.says n ≤ most f.fields n
  pub signals : (i : ℕ) → i < length c.signals → get_or c.signals i 0 < 2 ^ each f.behind
  pub counted : many f.behind c.says ≡ length c.signals

-- no field stands twice
abbrev pub has : List Field → Name → Bool
has [] n = false
has (field m w ∷ fs) n = same m n || has fs n
has (spare w ∷ fs) n = has fs n

abbrev pub once : List Field → Bool
once [] = true
once (field n w ∷ fs) = not (has fs n) && once fs
once (spare w ∷ fs) = once fs

-- WHICH BITS SAY SOMETHING

-- of each bit, the lowest first: whether it is part of a field
abbrev pub saying : List Field → List Bool
saying [] = []
saying (field n w ∷ fs) = replicate w true ++ saying fs
saying (spare w ∷ fs) = replicate w false ++ saying fs

-- a number's bits where the list says so; every other bit is 0, and so are all beyond the list
abbrev pub only : List Bool → ℕ → ℕ
only [] k = 0
only (b ∷ bs) k = cond b (k % 2) 0 + 2 * only bs (k / 2)

-- octets with spare bits and filler cleared
abbrev pub cleared_by : Format → List ℕ → List ℕ
cleared_by f xs = low_first (length xs) (only (saying f.fields ++ replicate (each f.behind * length (content_in f xs).signals) true) (number_of xs))
