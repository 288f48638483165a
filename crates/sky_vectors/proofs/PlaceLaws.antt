-- Every place can be shown: its azimuth is below a full turn, its elevation within 90 degrees.
use mathlib.Core.Bool.{Bool, cond, false, true}
use mathlib.Core.Path.{◌≡◌, refl}
use Prim.Native.Nat.{◌≤◌}
use native.Mathlib.Omega.{arith}
use lib.Dec.{leb→le, lit≤}
use lib.IntN.{nat_abs, negsuc, neg_ℤ, pos, ℤ}
use lib.Signed.{◌≤ℤ◌, lt_z}
use Rattle.numbers.proofs.Machine.{lit, not_less}
use Rattle.number_rules.specs.Angle.{quarter_turn}
use Rattle.numbers.specs.declared.sine.SineCosine.{SineCosine}
use Rattle.arctangent.proofs.ArctangentLaws.{arctangent_reduced}
use Rattle.sky_vectors.specs.Horizon.{azimuth, clamped, elevation, horizon, level, lowered, slope}
use Rattle.sky_vectors.specs.Place.{EveryPlaceInTurns, InTurns, direction, place_at, place_from, place_towards}
use Rattle.sky_vectors.specs.Station.{runner}
use Rattle.sky_vectors.specs.declared.geocentric.Body.{Body}
use Rattle.sky_vectors.specs.declared.station.Runner.{Runner}
use Rattle.sky_vectors.specs.declared.vector.Vector.{Vector}
use Rattle.sum_rules.specs.declared.instant.Instant.{Instant}

abbrev lowest : ℤ
lowest = neg_ℤ (pos quarter_turn)

between : {e : ℤ} → e ≤ℤ pos quarter_turn → lowest ≤ℤ e → nat_abs e ≤ quarter_turn
between {e = pos n} h l = leb→le n quarter_turn h.le
between {e = negsuc n} h l = omega (arith, leb→le n 8_999_999_999 l.le)

clamped_most : (e : ℤ) → nat_abs (clamped e) ≤ quarter_turn
unfolding clamped
clamped_most e = go (lt_z (pos quarter_turn) e) (lt_z e lowest) refl refl
  where
    go : (above below : Bool) → lt_z (pos quarter_turn) e ≡ above → lt_z e lowest ≡ below
        → nat_abs (cond above (pos quarter_turn) (cond below lowest e)) ≤ quarter_turn
    go true below h l = lit≤ tt
    go false true h l = lit≤ tt
    go false false h l = between (not_less (lit (pos quarter_turn)) (lit e) h) (not_less (lit e) (lit lowest) l)

pub place_towards_in_turns : (φ : SineCosine) (v : Vector) → InTurns (place_towards φ v)
unfolding place_towards azimuth elevation
place_towards_in_turns φ v =
    let h = horizon φ v in
    record {
      azimuth_reduced = arctangent_reduced h.east h.north;
      elevation_size = clamped_most (lowered (slope h.up (level h)));
    }

pub place_from_in_turns : (body : Body) (runner : Runner) (instant : Instant) → InTurns (place_from body runner instant)
unfolding place_from
place_from_in_turns body runner instant = place_towards_in_turns runner.latitude (direction body runner instant)

pub place_at_in_turns : EveryPlaceInTurns
unfolding place_at
place_at_in_turns body point instant = place_from_in_turns body (runner point) instant
