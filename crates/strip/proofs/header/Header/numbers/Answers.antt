-- The numbers of a header meet their contract.
use mathlib.Core.List.{[], ◌∷◌}
use mathlib.Core.Path.{◌∙◌, ◌≡◌, refl}
use Prim.Native.Nat.{◌*◌, ◌+◌}
use denote.Enum.Declared.{intoss}
use denote.Enum.Enum.{tag}
use denote.Struct.Field.{rows}
use lib.Dec.{lit<}
use lib.IntN.{nat_abs}
use borrow.Author.Rules.{rules}
use mir.Syntax.{w64}
use mir.Val.{of_z, to_z}
use mir.ValLaws.{to_z-of_z}
use Rattle.sky_vectors.specs.contracts.geocentric.Body.{as_values}
use Rattle.sky_vectors.specs.declared.geocentric.Body.{Body}
use Rattle.sky_vectors.specs.declared.geocentric.Body.TheVariants.{Moon, Sun}
use Rattle.strip.specs.Air.{written_air}
use Rattle.strip.specs.Format.{azimuth_size, body_byte, header_follows, header_numbers, version}
use Rattle.strip.proofs.CheckLaws.{Passes, header_passes}
use Rattle.strip.proofs.HeaderLaws.{cast_natural, cast_narrow, natural_same, unsigned}
use Rattle.strip.proofs.header.Header.numbers.Goals as goal
use Rattle.strip.proofs.header.Header.numbers.Goals.{Start}

module _ (s : Start) where
  good : Passes s.args.self
  good = header_passes s.args.self s.requires.0

  longitude_same : to_z w64 (of_z w64 s.args.self.longitude) ≡ s.args.self.longitude
  longitude_same = to_z-of_z w64 s.args.self.longitude (search rules)

  latitude_same : to_z w64 (of_z w64 s.args.self.latitude) ≡ s.args.self.latitude
  latitude_same = to_z-of_z w64 s.args.self.latitude (search rules)

pub overflow_cast-result-3 : goal.overflow_cast-result-3
overflow_cast-result-3 c = cast_natural (good (goal.at.overflow_cast-result-3 c).Start).year (lit< tt)

pub overflow_cast-result-4 : goal.overflow_cast-result-4
overflow_cast-result-4 c = cast_natural (good (goal.at.overflow_cast-result-4 c).Start).month (lit< tt)

pub overflow_cast-result-5 : goal.overflow_cast-result-5
overflow_cast-result-5 c = cast_natural (good (goal.at.overflow_cast-result-5 c).Start).day (lit< tt)

pub overflow_cast-self : goal.overflow_cast-self
overflow_cast-self c = let s = (goal.at.overflow_cast-self c).Start in cast_narrow (good s).longitude (longitude_same s)

pub overflow_cast-self-2 : goal.overflow_cast-self-2
overflow_cast-self-2 c = let s = (goal.at.overflow_cast-self-2 c).Start in cast_narrow (good s).latitude (latitude_same s)

pub overflow_cast-result-6 : goal.overflow_cast-result-6
overflow_cast-result-6 c = cast_natural (good (goal.at.overflow_cast-result-6 c).Start).step (lit< tt)

-- the number of a body is that of its octet
body_told : (body : Body) → tag (rows [] ∷ rows [] ∷ []) (intoss ([] ∷ [] ∷ []) (as_values body)) ≡ body_byte body
body_told Sun = refl
body_told Moon = refl

pub returns : goal.returns
unfolding header_numbers
returns c =
    let s = (goal.at.returns c).Start in
    λ i.
    (header_follows + azimuth_size * s.args.count)
    ∷ version
    ∷ written_air
    ∷ body_told s.args.self.body i
    ∷ nat_abs (natural_same (good s).year (lit< tt) i)
    ∷ nat_abs (natural_same (good s).month (lit< tt) i)
    ∷ nat_abs (natural_same (good s).day (lit< tt) i)
    ∷ (c.cast_unsigned.ensures ∙ unsigned (good s).longitude (longitude_same s)) i
    ∷ (c.cast_unsigned-2.ensures ∙ unsigned (good s).latitude (latitude_same s)) i
    ∷ nat_abs (natural_same (good s).step (lit< tt) i)
    ∷ []
