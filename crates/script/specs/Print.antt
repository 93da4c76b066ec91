use Rattle.std.specs.Prelude.{ℕ, ◌+◌, ◌/◌, ◌%◌, cond, List, [], ◌∷◌, ◌++◌, flat_map, ◌==◌, nat_lt}

-- the code of a digit 0-9a-f
abbrev pub hex_code : ℕ → ℕ
hex_code d = cond (nat_lt d 10) (48 + d) (87 + d)

-- a byte as `\xNN`
abbrev pub escaped : ℕ → List ℕ
escaped b = 92 ∷ 120 ∷ hex_code (b / 16) ∷ hex_code (b % 16) ∷ []

-- a byte within quotes: as itself from 0x20 to 0x7e, but for the quote and the backslash
abbrev pub spelled : ℕ → List ℕ
spelled b = cond (b == 34) (escaped b) (cond (b == 92) (escaped b) (cond (nat_lt b 32) (escaped b) (cond (nat_lt b 127) (b ∷ []) (escaped b))))

-- Bytes as a string.
abbrev pub quoted : List ℕ → List ℕ
quoted bs = 34 ∷ (flat_map spelled bs ++ 34 ∷ [])
