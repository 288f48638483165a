-- `checks::is_point` meets its contract.
use mathlib.Core.Bool.{Bool, ◌&&◌, false, true}
use mathlib.Core.List.{[], ◌∷◌}
use mathlib.Core.Path.{◌∙◌, ◌≡◌, ap, refl, sym}
use lib.Dec.{eqb}
use lib.IntN.{ℤ, pos}
use borrow.Author.Rules.{rules}
use borrow.Author.Tests.{ne_eqb}
use mir.Syntax.{w64}
use mir.Val.{SFits}
use Rattle.std.specs.Prelude.{Err, Ok}
use Rattle.std.specs.Result.{is_ok}
use Rattle.calendar.proofs.RefusalLaws.{never_none}
use Rattle.calendar.specs.Refusal.{Verdict, ◌unless◌, first, number, verdict_number}
use Rattle.numbers.proofs.Machine.{any}
use Rattle.numbers.specs.Whole.{between}
use Rattle.request.specs.Request.{point_refusals}
use Rattle.sky_vectors.specs.SkyRange.{latitude_limit, longitude_limit}
use Rattle.sky_vectors.specs.declared.station.Point.{Point}
use Rattle.sum_rules.specs.Instant.{minus}
use Rattle.strip.specs.Checks.{is_point}
use Rattle.strip.proofs.checks.is_point.Goals as goal

-- a check passes where it has no number
passed : (r : Verdict) → is_ok r ≡ eqb (verdict_number r) 0
passed (Ok _) = refl
passed (Err refusal) = sym (ne_eqb (number refusal) 0 (never_none refusal))

-- 7 and 8 are left where 9 passes
module _ (longitude latitude : ℤ) where
  both : (a b : Bool) → eqb (first (7 unless a ∷ 8 unless b ∷ 0 ∷ [])) 0 ≡ (a && b)
  unfolding first
  both true true = refl
  both true false = refl
  both false b = refl

  judged : eqb (first (point_refusals (record { longitude = longitude; latitude = latitude; height = pos 0 }))) 0
      ≡ (between (minus longitude_limit) longitude (pos longitude_limit) && between (minus latitude_limit) latitude (pos latitude_limit))
  unfolding between
  judged = both (between (minus longitude_limit) longitude (pos longitude_limit)) (between (minus latitude_limit) latitude (pos latitude_limit))

pub returns : goal.returns
unfolding is_point
returns c =
    let longitude : SFits w64 c.args.header.longitude = search rules in
    let latitude : SFits w64 c.args.header.latitude = search rules in
    c.is_ok.ensures.value ∙ passed c.point_verdict.result
    ∙ ap (λ n. eqb n 0) c.point_verdict.ensures
    ∙ ap (λ (p : Point). eqb (first (point_refusals p)) 0) c.from.ensures
    ∙ judged _ _
    ∙ (λ i. between (minus longitude_limit) ((any longitude).same i) (pos longitude_limit) && between (minus latitude_limit) ((any latitude).same i) (pos latitude_limit))
