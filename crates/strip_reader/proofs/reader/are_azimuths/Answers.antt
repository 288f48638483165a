-- `reader::are_azimuths` meets its contract: each whole chunk of four octets is one azimuth.
use mathlib.Core.List.{List, ◌++◌, ◌∷◌}
use mathlib.Core.Path.{◌∙◌, ◌≡◌, ap, ap₂, sym}
use Prim.Native.Nat.{◌/◌, ◌<◌, ℕ, suc}
use native.Mathlib.Omega.{arith}
use lib.ListN.{length, length-append, take}
use lib.Seq.{drop_at, take_all, take_at}
use Rattle.std.proofs.Common.{rules, tests}
use Rattle.std.proofs.lemmas.Iterator.Search.{all_from_yields_List}
use Rattle.std.proofs.lemmas.Iterator.Splits.{YieldsList-from_shown_while}
use Rattle.std.specs.Slice.Iter.{chunks_exact_rest, chunks_exact_size, chunks_exact_steps}
use Rattle.octets.specs.Octets.{alike, number, parted}
use Rattle.strip.proofs.AzimuthLaws.{count_in, judged}
use Rattle.strip.specs.Checks.{are_azimuths, is_azimuth}
use Rattle.strip.specs.Format.{azimuth_size, azimuths_in}
use Rattle.strip_reader.proofs.reader.are_azimuths.Goals as goal

-- the azimuths of a part whose first four octets are one
one_more : (four rest : List ℕ) → length four ≡ azimuth_size → azimuths_in (four ++ rest) ≡ number (take azimuth_size four) ∷ azimuths_in rest
unfolding azimuths_in parted
one_more four rest e =
    let count : length (four ++ rest) / azimuth_size ≡ suc (length rest / azimuth_size) = omega (arith, length-append four rest) in
    ap (λ (n : ℕ). parted (alike n azimuth_size) (four ++ rest)) count
    ∙ ap₂ ◌∷◌
    (ap number (take_at four rest azimuth_size e ∙ sym (take_all azimuth_size four (omega (arith, e)))))
    (ap (parted (alike (length rest / azimuth_size) azimuth_size)) (drop_at four rest azimuth_size e))

-- too few octets for one
no_more : (part : List ℕ) → length part < azimuth_size → length (azimuths_in part) ≡ 0
no_more part h = omega (arith, count_in part)

pub returns : goal.returns
returns c =
    let chunks =
    YieldsList-from_shown_while chunks_exact_steps (λ x. number (take azimuth_size x.now)) (λ s. azimuths_in (chunks_exact_rest s))
    (λ s. chunks_exact_size s ≡ azimuth_size)
    (λ s t size step. no_more (chunks_exact_rest s) (omega (arith, size, step.1.0)))
    (λ s x t size step. (
      step.0 ∙ size,
      ap azimuths_in step.1.0 ∙ one_more x.now (chunks_exact_rest t) (step.1.1 ∙ size),
    ))
    c.chunks_exact.result c.chunks_exact.ensures.size in
    all_from_yields_List is_azimuth _ _ c.all.result c.all.ensures.ran chunks (λ x b q k. search (rules, tests))
    ∙ judged (azimuths_in (chunks_exact_rest c.chunks_exact.result))
    ∙ ap (λ (part : List ℕ). are_azimuths (azimuths_in part)) c.chunks_exact.ensures.rest
