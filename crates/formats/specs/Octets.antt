-- Which address signals are refused, and which numbers are short (Q.723; docs/RULES.md, "Messages on the link"). Reader and writer both go by these.
-- Assumes nothing.
use Rattle.std.specs.Prelude.{Bool, false, cond, not, ◌&&◌, ◌||◌, List, [], ◌∷◌, ℕ, suc, ◌%◌, eqb, ltb, length}

-- 10, 13 and 14 are spare codes
abbrev pub spare_code : ℕ → Bool
spare_code code = eqb code 10 || eqb code 13 || eqb code 14

-- ST (15) where more signals follow, or a spare code
abbrev pub bad_code : ℕ → Bool → Bool
bad_code code more = cond (eqb code 15) more (spare_code code)

-- some signal that a test fits, which is told whether more signals follow
abbrev pub some_signal : (ℕ → Bool → Bool) → List ℕ → Bool
some_signal test [] = false
some_signal test (code ∷ rest) = test code (ltb 0 (length rest)) || some_signal test rest

-- how many signals stand before the first that a test fits; all of them where it fits none
abbrev pub before_signal : (ℕ → Bool → Bool) → List ℕ → ℕ
before_signal test [] = 0
before_signal test (code ∷ rest) = cond (test code (ltb 0 (length rest))) 0 (suc (before_signal test rest))

abbrev pub bad_codes : List ℕ → Bool
bad_codes = some_signal bad_code

-- where the first refused signal stands, the first of all being 0: an early ST is refused itself, not the signal behind it
abbrev pub first_bad : List ℕ → ℕ
first_bad = before_signal bad_code

abbrev pub above_fifteen : List ℕ → Bool
above_fifteen = some_signal (λ code more. ltb 15 code)

-- a count of 0 or above 15, a spare code, ST before the end
unfoldable pub bad_address : List ℕ → Bool
bad_address address = eqb (length address) 0 || ltb 15 (length address) || bad_codes address

-- SHORT INTERNATIONAL NUMBERS

-- the nature of address, which is the two lowest indicators, is 3
abbrev pub international : (indicators : ℕ) → Bool
international indicators = eqb (indicators % 4) 3

-- how many signals there are besides ST
abbrev pub besides_st : List ℕ → ℕ
besides_st [] = 0
besides_st (code ∷ rest) = cond (eqb code 15) (besides_st rest) (suc (besides_st rest))

-- the address begins with operator code 11 or 12
abbrev pub to_operator : List ℕ → Bool
to_operator [] = false
to_operator (code ∷ rest) = eqb code 11 || eqb code 12

-- an international number with fewer than four signals besides ST, unless it goes to an operator
unfoldable pub short : (indicators : ℕ) → List ℕ → Bool
short indicators address = international indicators && (ltb (besides_st address) 4 && not (to_operator address))
