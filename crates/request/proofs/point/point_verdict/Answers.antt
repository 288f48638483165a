-- `request::point::point_verdict` meets its contract.
use mathlib.Core.List.{[], ◌∷◌}
use mathlib.Core.Path.{◌≡◌}
use Prim.Native.Nat.{ℕ}
use lib.IntN.{pos}
use mir.Syntax.{w64}
use mir.Val.{SFits}
use Rattle.calendar.proofs.RefusalLaws.{alone, exit, passed, refused}
use Rattle.calendar.specs.Refusal.{◌unless◌, verdict_number}
use Rattle.numbers.specs.Whole.{between}
use Rattle.sum_rules.specs.Instant.{minus}
use Rattle.request.proofs.RequestLaws.{judged_between}
use Rattle.sky_vectors.specs.SkyRange.{highest_height, latitude_limit, longitude_limit, lowest_height}
use Rattle.sky_vectors.specs.declared.station.Point.{Point}
use borrow.Author.Rules.{rules}
use Rattle.request.proofs.point.point_verdict.Goals as goal
use Rattle.request.proofs.point.point_verdict.Goals.{After-unless, After-unless-2, Start}

module _ (s : Start) where
  longitude_fits : SFits w64 s.args.point.longitude
  longitude_fits = search rules

  latitude_fits : SFits w64 s.args.point.latitude
  latitude_fits = search rules

  height_fits : SFits w64 s.args.point.height
  height_fits = search rules

abbrev longitude : Point → ℕ
longitude p = 7 unless between (minus longitude_limit) p.longitude (pos longitude_limit)

abbrev latitude : Point → ℕ
latitude p = 8 unless between (minus latitude_limit) p.latitude (pos latitude_limit)

abbrev height : Point → ℕ
height p = 9 unless between lowest_height p.height (pos highest_height)

by_longitude : (c : After-unless) → verdict_number c.unless.result ≡ longitude c.args.point
by_longitude c =
    judged_between 7 (minus longitude_limit) c.args.point.longitude (pos longitude_limit) (longitude_fits (goal.at.After-unless c).Start) c.unless.ensures c.is_between.ensures

by_latitude : (c : After-unless-2) → verdict_number c.unless-2.result ≡ latitude c.args.point
by_latitude c =
    judged_between 8 (minus latitude_limit) c.args.point.latitude (pos latitude_limit) (latitude_fits (goal.at.After-unless-2 c).Start) c.unless-2.ensures c.is_between-2.ensures

pub returns-in_err-unless : goal.returns-in_err-unless
returns-in_err-unless c =
    let p = c.args.point in
    exit c.from_residual.result c.in_err-unless.field-0.0 c.from_residual.ensures
    (refused (latitude p ∷ height p ∷ []) c.in_err-unless.was (by_longitude (goal.at.returns-in_err-unless c).After-unless))

pub returns-in_err-unless-2 : goal.returns-in_err-unless-2
returns-in_err-unless-2 c =
    let p = c.args.point in
    exit c.from_residual-in_err-unless-2.result c.in_err-unless-2.field-0.0 c.from_residual-in_err-unless-2.ensures
    (passed (latitude p ∷ height p ∷ []) c.in_ok-unless.was (by_longitude (goal.at.returns-in_err-unless-2 c).After-unless)
    (refused (height p ∷ []) c.in_err-unless-2.was (by_latitude (goal.at.returns-in_err-unless-2 c).After-unless-2)))

pub returns : goal.returns
returns c =
    let p = c.args.point in
    passed (latitude p ∷ height p ∷ []) c.in_ok-unless.was (by_longitude (goal.at.returns c).After-unless)
    (passed (height p ∷ []) c.in_ok-unless-2.was (by_latitude (goal.at.returns c).After-unless-2)
    (alone (judged_between 9 lowest_height p.height (pos highest_height) (height_fits (goal.at.returns c).Start) c.unless-3.ensures c.is_between-3.ensures)))
