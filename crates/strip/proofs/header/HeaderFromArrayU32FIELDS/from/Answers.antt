-- A header meets its contract: each number that is lent has 32 bits, and is the same in 64.
use mathlib.Core.Path.{◌∙◌, ◌≡◌}
use lib.IntN.{ℤ}
use Prim.Native.Nat.{◌<◌, ℕ}
use lib.ListN.{get_or}
use lib.Signed.{mag}
use mir.Syntax.{w32}
use mir.Val.{of_z, to_z}
use mir.ValLaws.{to_z-of_z}
use Rattle.octets.specs.Octets.{from_complement}
use Rattle.numbers.proofs.Machine.{passed}
use Rattle.strip.specs.Format.{header_in}
use Rattle.strip.proofs.HeaderLaws.{signed}
use Rattle.strip.proofs.header.HeaderFromArrayU32FIELDS.from.Goals as goal

-- a number of 32 bits that was cast to a signed one of 32, and then of 64
module _ (n : ℕ) {s w : ℤ} (cast : s ≡ to_z w32 n) (small : mag s < 2_147_483_648) where
  said : w ≡ to_z w32 (of_z w32 s) → w ≡ from_complement 4 n
  said e = e ∙ to_z-of_z w32 s (record { sfits = small }) ∙ cast ∙ signed n

pub returns : goal.returns
unfolding header_in
returns c =
    let lent = c.args.numbers in
    λ i. record {
      air = c.from.ensures i;
      body = c.body_in.ensures i;
      year = passed c.from-2.type_inv c.from-2.ensures i;
      month = passed c.from-3.type_inv c.from-3.ensures i;
      day = passed c.from-4.type_inv c.from-4.ensures i;
      longitude = passed c.from-5.type_inv (said (get_or lent 7 0) c.cast_signed.ensures c.cast_signed.type_inv c.from-5.ensures) i;
      latitude = passed c.from-6.type_inv (said (get_or lent 8 0) c.cast_signed-2.ensures c.cast_signed-2.type_inv c.from-6.ensures) i;
      step = passed c.from-7.type_inv c.from-7.ensures i;
    }
