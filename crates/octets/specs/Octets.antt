-- Numbers as octets, the highest first, over every width (02, Item 6: "all numbers big-endian").
use Rattle.std.specs.Prelude.{Bool, cond, List, [], ◌++◌, ◌∷◌, ◌%◌, ◌*◌, ◌+◌, ◌-◌, ◌/◌, ◌^◌, suc, zero, ℕ, leb, ltb, negsuc, pos, ℤ, drop, replicate, take}
use Rattle.text.specs.Line.{all}

abbrev pub is_octet : ℕ → Bool
is_octet octet = ltb octet 256

-- so many octets, the last ones of n
unfoldable pub big_endian : ℕ → ℕ → List ℕ
big_endian zero n = []
big_endian (suc width) n = big_endian width (n / 256) ++ ((n % 256) ∷ [])

-- the number whose last octets these are, and whose first octets have the value so far
unfoldable pub number_after : ℕ → List ℕ → ℕ
number_after so_far [] = so_far
number_after so_far (octet ∷ rest) = number_after (so_far * 256 + octet) rest

abbrev pub number : List ℕ → ℕ
number octets = number_after 0 octets

-- two's complement in so many octets, and back
unfoldable pub complement : ℕ → ℤ → ℕ
complement width (pos n) = n
complement width (negsuc n) = 256 ^ width - suc n

unfoldable pub from_complement : ℕ → ℕ → ℤ
from_complement width n = cond (ltb (2 * n) (256 ^ width)) (pos n) (negsuc (256 ^ width - suc n))

-- ---- numbers one after the other, each in its width

unfoldable pub joined : List ℕ → List ℕ → List ℕ
joined [] numbers = []
joined (width ∷ widths) [] = []
joined (width ∷ widths) (n ∷ numbers) = big_endian width n ++ joined widths numbers

unfoldable pub parted : List ℕ → List ℕ → List ℕ
parted [] octets = []
parted (width ∷ widths) octets = number (take width octets) ∷ parted widths (drop width octets)

-- how many octets the widths take
unfoldable pub total : List ℕ → ℕ
total [] = 0
total (width ∷ widths) = width + total widths

-- so many numbers, all in one width
abbrev pub alike : ℕ → ℕ → List ℕ
alike count width = replicate count width

-- ---- in the machine

-- the widest number that is read: 32 bits
abbrev pub widest : ℕ
widest = 4

-- no width is above it
unfoldable pub are_narrow : List ℕ → Bool
are_narrow widths = all (λ width. leb width widest) widths
