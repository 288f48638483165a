-- `number::put_number` meets its contract. The invariant: as many of the last octets are stored as the loop has gone through, and what is left of the number is what they do not hold.
use mathlib.Core.List.{List}
use mathlib.Core.Path.{◌∙◌, ◌≡◌, ap, sym}
use Prim.Native.Nat.{◌%◌, ◌+◌, ◌-◌, ◌/◌, ◌<◌, ◌^◌, ◌≤◌, suc, ℕ}
use native.Mathlib.Omega.{arith}
use lib.ListN.{set}
use lib.Seq.{sets}
use Rattle.octets.specs.Octets.{big_endian}
use Rattle.octets.proofs.NumberLaws.{big_endian_first, big_endian_length, rest_first, rest_next}
use Rattle.octets.proofs.PutLaws.{set_before}
use Rattle.octets.proofs.number.put_number.Goals as goal

-- one octet more, before those that are stored
module _ (end number place : ℕ) (some : 0 < place) (within : place ≤ end) where
  one_more : suc (end - place) ≡ end - (place - 1)
  one_more = omega arith

  before_them : suc (place - 1) ≡ place
  before_them = omega arith

  one_more_stored : (out₀ out : List ℕ) (rest : ℕ) → out ≡ sets out₀ place (big_endian (end - place) number) → rest ≡ number / 256 ^ (end - place)
      → set out (place - 1) (rest % 256) ≡ sets out₀ (place - 1) (big_endian (end - (place - 1)) number)
  one_more_stored out₀ out rest stored is =
      let octet = number / 256 ^ (end - place) % 256 in
      (λ i. set (stored i) (place - 1) (is i % 256))
      ∙ set_before (big_endian (end - place) number) out₀ (place - 1) place octet (omega arith)
      ∙ ap (λ (n : ℕ). sets (set out₀ (place - 1) octet) n (big_endian (end - place) number)) (sym before_them)
      ∙ ap (sets out₀ (place - 1)) (big_endian_first (end - place) number ∙ ap (λ (n : ℕ). big_endian n number) one_more)

  less_left : (rest : ℕ) → rest ≡ number / 256 ^ (end - place) → rest / 256 ≡ number / 256 ^ (end - (place - 1))
  less_left rest is = ap (λ (n : ℕ). n / 256) is ∙ rest_next (end - place) number ∙ ap (λ (n : ℕ). number / 256 ^ n) one_more

none_stored : (end : ℕ) → 0 ≡ end - end
none_stored end = omega arith

pub loop-place-init : goal.loop-place-init
unfolding big_endian
loop-place-init c =
    let a = c.args in
    let end = a.at + a.width in (
      omega arith,
      ap (λ (n : ℕ). sets a.out.now end (big_endian n a.number)) (none_stored end),
      rest_first a.number ∙ ap (λ (n : ℕ). a.number / 256 ^ n) (none_stored end),
    )

pub loop-place-preserved : goal.loop-place-preserved
loop-place-preserved c =
    let a = c.args in
    let end = a.at + a.width in
    let l = c.loop-place in
    let some : 0 < l.place = omega arith in
    let within : l.place ≤ end = omega arith in (
      omega arith,
      one_more_stored end a.number l.place some within a.out.now l.out l.rest l.invariant.1 l.invariant.2,
      less_left end a.number l.place some within l.rest l.invariant.2,
    )

pub returns : goal.returns
returns c =
    let a = c.args in
    let from : c.loop-place.place ≡ a.at = omega arith in
    let all : a.at + a.width - c.loop-place.place ≡ a.width = omega arith in
    record {
      stored = c.loop-place.invariant.1 ∙ (λ i. sets a.out.now (from i) (big_endian (all i) a.number));
      behind = ap (λ (n : ℕ). a.at + n) (sym (big_endian_length a.width a.number));
    }
