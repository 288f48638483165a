-- The arctangent table (01, "Arctangent"): tₖ is the angle whose tangent is 2⁻ᵏ to the nearest unit.
use Rattle.std.specs.Prelude.{List, [], ◌∷◌, ℕ, ◌*◌, ◌^◌, ◌<◌, pos, ◌+ℤ◌, ◌-ℤ◌, get_or}
use Rattle.exact.specs.Fraction.{whole, nat, ◌*q◌, ◌over◌, ◌≤q◌}
use Rattle.exact.specs.Reference.{sin°, cos°}

-- the rule of entry k, judged half a unit either side by the reference sine and cosine
pub record NearestArctangent (k t : ℕ) : Type 0 where
  pub not_above : sin° (whole (pos (2 * t) -ℤ pos 1) over 200_000_000) *q nat (2 ^ k) ≤q cos° (whole (pos (2 * t) -ℤ pos 1) over 200_000_000)
  pub not_below : cos° (whole (pos (2 * t) +ℤ pos 1) over 200_000_000) ≤q sin° (whole (pos (2 * t) +ℤ pos 1) over 200_000_000) *q nat (2 ^ k)

-- t₀ to t₂₉
unfoldable pub arctangents : List ℕ
arctangents =
    4500000000 ∷ 2656505118 ∷ 1403624347 ∷ 712501635 ∷ 357633437 ∷ 178991061 ∷ 89517371 ∷ 44761417 ∷ 22381050 ∷ 11190568 ∷
    5595289 ∷ 2797645 ∷ 1398823 ∷ 699411 ∷ 349706 ∷ 174853 ∷ 87426 ∷ 43713 ∷ 21857 ∷ 10928 ∷
    5464 ∷ 2732 ∷ 1366 ∷ 683 ∷ 342 ∷ 171 ∷ 85 ∷ 43 ∷ 21 ∷ 11 ∷ []

-- tₖ
abbrev pub turn_by : ℕ → ℕ
turn_by k = get_or arctangents k 0

-- each entry is the nearest
abbrev pub EachNearest : Type 0
EachNearest = (k : ℕ) → k < 30 → NearestArctangent k (turn_by k)
