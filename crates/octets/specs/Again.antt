-- What was written is read again, over every width and any list of widths: the claims.
use Rattle.std.specs.Prelude.{Bool, ◌&&◌, false, true, List, [], ◌∷◌, ◌≡◌, ◌*◌, ◌<◌, ◌^◌, ◌≤◌, suc, ℕ, ltb, negsuc, pos, ℤ, length}
use Rattle.text.specs.Line.{all}
use Rattle.octets.specs.Octets.{big_endian, complement, from_complement, is_octet, joined, number, parted, total}

-- ---- one number

abbrev pub NumberAgain : Type 0
NumberAgain = (width n : ℕ) → n < 256 ^ width → number (big_endian width n) ≡ n

abbrev pub OctetsAgain : Type 0
OctetsAgain = (octets : List ℕ) → all is_octet octets ≡ true → big_endian (length octets) (number octets) ≡ octets

-- ---- two's complement: from minus the half up to but not the half of what the width holds

abbrev pub InHalves : ℕ → ℤ → Type 0
InHalves width (pos n) = 2 * n < 256 ^ width
InHalves width (negsuc n) = 2 * suc n ≤ 256 ^ width

abbrev pub SignedAgain : Type 0
SignedAgain = (width : ℕ) (z : ℤ) → InHalves width z → from_complement width (complement width z) ≡ z

abbrev pub ComplementAgain : Type 0
ComplementAgain = (width n : ℕ) → n < 256 ^ width → complement width (from_complement width n) ≡ n

-- ---- many

-- each number has room in its width
unfoldable pub fit : List ℕ → List ℕ → Bool
fit [] [] = true
fit [] (n ∷ numbers) = false
fit (width ∷ widths) [] = false
fit (width ∷ widths) (n ∷ numbers) = ltb n (256 ^ width) && fit widths numbers

abbrev pub PartedAgain : Type 0
PartedAgain = (widths numbers : List ℕ) → fit widths numbers ≡ true → parted widths (joined widths numbers) ≡ numbers

abbrev pub JoinedAgain : Type 0
JoinedAgain = (widths octets : List ℕ) → length octets ≡ total widths → all is_octet octets ≡ true → joined widths (parted widths octets) ≡ octets
