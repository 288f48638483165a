-- What an answer's refusal tells of it, and that a place or a shown place is told from any other by its numbers.
use mathlib.Core.Bool.{Bool, cond, true, false}
use mathlib.Core.Path.{◌∙◌, ◌≡◌, ap, refl, subst⁻¹, sym}
use Prim.Native.Nat.{ℕ}
use lib.Ieee.{Float}
use lib.Dec.{eqb}
use Rattle.std.specs.Prelude.{None, Option, Result, Some}
use borrow.Author.Tests.{eq-eqb, eqb-true, ne_eqb}
use Rattle.calendar.specs.Refusal.{OneAnswer, first}
use Rattle.calendar.specs.declared.refusal.Refusal.{Refusal}
use Rattle.calendar.proofs.RefusalLaws.{one_answer, result_tells}
use Rattle.refraction.specs.declared.air.Air.{Air}
use Rattle.request.specs.Request.{instant}
use Rattle.request.specs.declared.start.Start.{Start}
use Rattle.sky_vectors.proofs.PlaceLaws.{place_at_in_turns}
use Rattle.sky_vectors.specs.Place.{InTurns, place_at}
use Rattle.sky_vectors.specs.declared.geocentric.Body.{Body}
use Rattle.sky_vectors.specs.declared.place.Place.{Place}
use Rattle.sky_vectors.specs.declared.station.Point.{Point}
use Rattle.arctangent.proofs.ArctangentLaws.{direction_tells}
use Rattle.sky.specs.Answer.{Answer, PlaceNumbers, answered, judged, nowhere, place, place_answer, place_numbers, request_refusals, shown_answer}
use Rattle.sky.specs.Shown.{ShownNumbers, shown_numbers}
use Rattle.sky.specs.declared.shown.Shown.{Shown}

module _ {A : Type 0} (refusal : ℕ) (zeros value : A) where
  pub judged_refusal : (judged refusal zeros value).refusal ≡ refusal
  judged_refusal = go (eqb refusal 0) (eqb-true refusal 0)
    where
      go : (b : Bool) → (b ≡ true → refusal ≡ 0)
          → (cond {A = Answer A} b (record { refusal = 0; value = value }) (record { refusal = refusal; value = zeros })).refusal ≡ refusal
      go true none = sym (none refl)
      go false none = refl

  pub judged_value : refusal ≡ 0 → judged refusal zeros value ≡ record { refusal = 0; value = value }
  judged_value e = rw (eq-eqb refusal 0 e) refl

  pub judged_zeros : (refusal ≡ 0 → ⊥) → judged refusal zeros value ≡ record { refusal = refusal; value = zeros }
  judged_zeros n = rw (ne_eqb refusal 0 n) refl

-- what was found, and what was refused, as a judgement
module _ {A : Type 0} (zeros value : A) {refusal : ℕ} where
  pub answered_with : {found : A} → refusal ≡ 0 → found ≡ value → record { refusal = 0; value = found } ≡ judged refusal zeros value
  answered_with none same = (λ i. record { refusal = 0; value = same i }) ∙ sym (judged_value refusal zeros value none)

  pub refused_with : {n : ℕ} → refusal ≡ n → (n ≡ 0 → ⊥) → record { refusal = n; value = zeros } ≡ judged refusal zeros value
  refused_with is refuses = (λ i. record { refusal = sym is i; value = zeros }) ∙ sym (judged_zeros refusal zeros value (λ e. refuses (sym is ∙ e)))

-- an answer whose numbers are those of a judgement
module _ {A : Type 0} (refusal : ℕ) (zeros value : A) where
  pub not_refused : {found : A} → record { refusal = 0; value = found } ≡ judged refusal zeros value → (refusal ≡ 0) × (found ≡ value)
  not_refused e =
      let none : refusal ≡ 0 = sym (judged_refusal refusal zeros value) ∙ sym (ap (λ (a : Answer A). a.refusal) e) in
      (none, ap (λ (a : Answer A). a.value) (e ∙ judged_value refusal zeros value none))

-- a result whose values are told apart by their numbers is told apart by its answer
pub one_answered : {A B : Type 0} {numbers : A → B} {zeros : B} → ((x y : A) → numbers x ≡ numbers y → x ≡ y)
    → {found : Result A Refusal} {rule : Answer B} → answered numbers zeros found ≡ rule → OneAnswer (answered numbers zeros) rule found
one_answered {A} {B} {numbers} {zeros} tells =
    one_answer (result_tells (answered numbers zeros) (λ a. a.refusal) (λ x. refl) (λ x. refl) (λ x y same. tells x y (ap (λ (a : Answer B). a.value) same)))

pub numbers_tell : (p q : Place) → place_numbers p ≡ place_numbers q → p ≡ q
numbers_tell p q same =
    let azimuth = direction_tells p.azimuth q.azimuth (ap (λ (n : PlaceNumbers). n.has_azimuth) same) (ap (λ (n : PlaceNumbers). n.azimuth) same) in
    λ i. record { azimuth = azimuth i; elevation = ap (λ (n : PlaceNumbers). n.elevation) same i }

pub one_place : {found : Result Place Refusal} {rule : Answer PlaceNumbers} → place_answer found ≡ rule → OneAnswer place_answer rule found
one_place = one_answered numbers_tell

-- a place that is answered: nothing refuses it, it is the rule's, and it is in turns
module _ (start : Start) (body : Body) (point : Point) (air : Option Air) (found : Place)
    (same : record { refusal = 0; value = place_numbers found } ≡ place start body point air) where
  passed : (first (request_refusals start point air) ≡ 0) × (place_numbers found ≡ place_numbers (place_at body point (instant start)))
  unfolding place
  passed = not_refused (first (request_refusals start point air)) nowhere (place_numbers (place_at body point (instant start))) same

  pub place_passes : first (request_refusals start point air) ≡ 0
  place_passes = passed.0

  pub place_found : found ≡ place_at body point (instant start)
  place_found = numbers_tell found (place_at body point (instant start)) passed.1

  pub found_in_turns : InTurns found
  found_in_turns = subst⁻¹ InTurns place_found (place_at_in_turns body point (instant start))

-- one shown place and no other has its numbers
shown_back : ShownNumbers → Shown
shown_back n = record { azimuth = cond n.has_azimuth (Some n.azimuth) None; elevation = n.elevation; refraction = n.refraction }

shown_is_back : (p : Shown) → shown_back (shown_numbers p) ≡ p
unfolding shown_back
shown_is_back p = go p.azimuth
  where
    go : (azimuth : Option Float) → shown_back (shown_numbers (record { azimuth = azimuth; elevation = p.elevation; refraction = p.refraction }))
        ≡ record { azimuth = azimuth; elevation = p.elevation; refraction = p.refraction }
    go (Some azimuth) = refl
    go None = refl

pub shown_tell : (p q : Shown) → shown_numbers p ≡ shown_numbers q → p ≡ q
shown_tell p q same = sym (shown_is_back p) ∙ ap shown_back same ∙ shown_is_back q

pub one_numbers : {found : Shown} {rule : ShownNumbers} → shown_numbers found ≡ rule → OneAnswer shown_numbers rule found
one_numbers = one_answer shown_tell

pub one_shown : {found : Result Shown Refusal} {rule : Answer ShownNumbers} → shown_answer found ≡ rule → OneAnswer shown_answer rule found
one_shown = one_answered shown_tell
