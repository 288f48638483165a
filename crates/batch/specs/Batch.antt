-- Batch (01, "A request and its numbered refusals"): many samples from one start.
use Rattle.std.specs.Prelude.{Bool, ◌&&◌, cond, List, [], ◌++◌, ◌∷◌, map, Err, None, Ok, Result, ◌↔◌, ◌≡◌, ◌<◌, suc, ℕ, eqb, leb, ◌*ℤ◌, ◌+ℤ◌, pos, ℤ, drop, get_or, length}
use Rattle.std.specs.Int.Signed.{lt_z}
use Rattle.arctangent.specs.Direction.{azimuth_numbers, mark}
use Rattle.sky_vectors.specs.Place.{place_at, place_from}
use Rattle.sky_vectors.specs.SkyRange.{Reachable}
use Rattle.calendar.specs.Refusal.{◌unless◌, first, number}
use Rattle.request.specs.Request.{fraction_limit, moved, point_refusals, start_refusals, utc}
use Rattle.batch.specs.declared.samples.BatchRefusal.{BatchRefusal}
use Rattle.batch.specs.declared.samples.BatchRefusal.TheVariants.{Late, Request}
use Rattle.sky_vectors.specs.declared.geocentric.Body.{Body}
use Rattle.sky_vectors.specs.declared.station.Point.{Point}
use Rattle.sky_vectors.specs.declared.station.Runner.{Runner}
use Rattle.request.specs.declared.start.Start.{Start}
use Rattle.sum_rules.specs.Instant.{day, day_after_last}
use Rattle.sum_rules.specs.declared.instant.Instant.{Instant}

-- an answer in 01's numbers: the refusal, 0 where there is none; the index, 0 but for 13; the count, 0 where refused
pub record BatchAnswer : Type 0 where
  pub refusal : ℕ
  pub index : ℕ
  pub count : ℕ

abbrev pub batch_answer : Result ℕ BatchRefusal → BatchAnswer
batch_answer (Ok n) = record { refusal = 0; index = 0; count = n }
batch_answer (Err (Request refusal)) = record { refusal = number refusal; index = 0; count = 0 }
batch_answer (Err (Late i)) = record { refusal = 13; index = i; count = 0 }

-- 2100-12-31 23:59:59.999 UTC
unfoldable pub last_moment : ℤ
last_moment =
    utc (record {
      year = pos 2100;
      month = pos 12;
      day = pos 31;
      hour = pos 23;
      minute = pos 59;
      second = pos 59;
      fraction = pos fraction_limit;
      ut1 = pos 0;
      delta_t = pos 0;
    })

-- THE CLAIM: a unit of time later 2101 begins, so that no moment of 2100 is refused
abbrev pub EndsWith2100 : Type 0
EndsWith2100 = last_moment +ℤ pos 1 ≡ pos day *ℤ day_after_last

unfoldable pub is_late : ℤ → ℕ → Bool
is_late start offset = lt_z last_moment (start +ℤ pos offset)

-- the first bad index, or the list's length where there is none
unfoldable pub first_late : ℤ → List ℕ → ℕ
first_late start [] = 0
first_late start (offset ∷ rest) = cond (is_late start offset) 0 (suc (first_late start rest))

-- 1 to 9; 12 when either buffer, of m and of n entries, is shorter than the list
abbrev pub room_refusals : Start → Point → List ℕ → ℕ → ℕ → List ℕ
room_refusals s p offsets m n = start_refusals s ++ (point_refusals p ++ (12 unless (leb (length offsets) m && leb (length offsets) n) ∷ []))

-- then 13, with the first bad index, when a start plus offset lies after the last moment; otherwise the count is the list's length
unfoldable pub batch : Start → Point → List ℕ → ℕ → ℕ → BatchAnswer
batch s p offsets m n =
    let refusal = first (room_refusals s p offsets m n) in
    let late = first_late (utc s) offsets in
    cond (eqb refusal 0)
    (cond (eqb late (length offsets)) (record { refusal = 0; index = 0; count = length offsets }) (record { refusal = 13; index = late; count = 0 }))
    (record { refusal = refusal; index = 0; count = 0 })

-- offsets are added to the start
abbrev pub later : Instant → ℕ → Instant
later start offset = moved start (pos offset)

-- entry i holds the place at offset i, the rest keeps its contents
unfoldable pub filled : (ℕ → ℤ) → List ℕ → List ℤ → List ℤ
filled entry offsets before = map entry offsets ++ drop (length offsets) before

-- where the azimuth is absent, the largest signed 64-bit number stands in that entry (02, Item 5)
abbrev pub azimuth_at : Body → Point → Instant → ℕ → ℤ
azimuth_at body p start offset = (azimuth_numbers (place_at body p (later start offset)).azimuth).entry

abbrev pub elevation_at : Body → Point → Instant → ℕ → ℤ
elevation_at body p start offset = (place_at body p (later start offset)).elevation

-- THE CLAIM, for every entry: the mark stands there exactly where the place has no azimuth
abbrev pub EveryMarkTells : Type 0
EveryMarkTells = (body : Body) (p : Point) (start : Instant) (offset : ℕ) → (azimuth_at body p start offset ≡ mark) ↔ ((place_at body p (later start offset)).azimuth ≡ None)

-- the same from where a runner stands, who is worked out once
abbrev pub azimuth_from : Body → Runner → Instant → ℕ → ℤ
azimuth_from body runner start offset = (azimuth_numbers (place_from body runner (later start offset)).azimuth).entry

abbrev pub elevation_from : Body → Runner → Instant → ℕ → ℤ
elevation_from body runner start offset = (place_from body runner (later start offset)).elevation

-- a buffer after the batch: as it was where the batch is refused
abbrev pub left_in : BatchAnswer → (ℕ → ℤ) → List ℕ → List ℤ → List ℤ
left_in answer entry offsets before = cond (eqb answer.refusal 0) (filled entry offsets before) before

-- every sample is within reach
pub record AllReachable (start : Instant) (offsets : List ℕ) : Type 0 where
  pub each : (i : ℕ) → i < length offsets → Reachable (later start (get_or offsets i 0))
